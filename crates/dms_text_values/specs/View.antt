-- What the code's values say; only proofs go through these.
use Rattle.std.specs.Prelude.{ℕ, Bool, true, false, List, [], ◌++◌, Option, Some, None}
use Rattle.std.specs.List.{flat_map}
use Rattle.arrayvec.specs.ArrayVec.{ArrayVec}
use Rattle.dms_wire_ber.specs.ObjectIdentifier.{sub_identifier_octets}
use Rattle.dms_wire.specs.Message.{ObjectValue, integer, octet_string, null, object_identifier}
use Rattle.dms_wire.specs.Message.{ip_address, counter, gauge, time_ticks, opaque}
use Rattle.dms_text_forms.specs.FieldsView.{octets_in}
use Rattle.dms_text_values.specs.declared.values.ValueWords.{ValueWords}
use Rattle.dms_text_values.specs.declared.values.ValueWords.TheVariants as words

abbrev pub content_items : ArrayVec ℕ → List ℕ
content_items content = content.items

-- the content with the sub-identifiers of the numbers that were read, if they were
abbrev pub with_numbers : List ℕ → Option (List ℕ) → Option (List ℕ)
with_numbers content None = None
with_numbers content (Some numbers) = Some (content ++ flat_map sub_identifier_octets numbers)

-- the value of the words
abbrev pub worded_value : ValueWords → ObjectValue
worded_value (words.Integer z) = integer z
worded_value (words.Octets word) = octet_string (octets_in word.now)
worded_value words.Null = null
worded_value (words.Name numbers) = object_identifier numbers
worded_value (words.Address octets) = ip_address octets
worded_value (words.Counter n) = counter n
worded_value (words.Gauge n) = gauge n
worded_value (words.Ticks n) = time_ticks n
worded_value (words.Opaque word) = opaque (octets_in word.now)

abbrev pub value_and_rest : ValueWords × List (List ℕ) → ObjectValue × List (List ℕ)
value_and_rest found = (worded_value found.0, found.1)

-- the octets that a value holds, where it has a number of its own of them
abbrev pub octets_within : ObjectValue → List ℕ
octets_within (octet_string octets) = octets
octets_within (opaque octets) = octets
octets_within _ = []

-- it is an OCTET STRING or an Opaque
abbrev pub has_octets : ObjectValue → Bool
has_octets (octet_string octets) = true
has_octets (opaque octets) = true
has_octets _ = false
