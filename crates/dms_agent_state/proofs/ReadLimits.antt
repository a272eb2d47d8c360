-- What is read of a text's lines is what a message can have.
use Rattle.std.proofs.Common.{◌≡◌, ℕ, ◌+◌, suc, true, cond, List, [], ◌∷◌, codes, Option, Some, None, Result, Ok, Err, refl, sym, ap, subst, ◌∙◌, arith, inl, inr}
use Rattle.std.specs.Int.Digits.{AllBelowBase}
use Rattle.std.proofs.lemmas.Bool.{cases_Bool}
use Rattle.hex.specs.Hex.{IsBytes}
use Rattle.hex.proofs.HexLemmas.{decode_of-ok}
use Rattle.dms_wire_ber.specs.ObjectIdentifier.{IsNameInLimits}
use Rattle.dms_wire.specs.Message.{ObjectValue, VarBind, integer, octet_string, null, object_identifier, ip_address, counter, gauge, time_ticks, opaque}
use Rattle.dms_wire.specs.Limits.{IsValueInLimits, AreBindingsInLimits}
use Rattle.dms_text.specs.Octets.{SpellsOctets}
use Rattle.dms_text.specs.Words.{words_of, parts_of}
use Rattle.dms_text.specs.Reading.{word_at, keyword_at, is_end}
use Rattle.dms_text_forms.specs.Fields.{SpellsEach, SpellsAddressPart}
use Rattle.dms_text_values.specs.NameReading.{name_of}
use Rattle.dms_text_values.specs.ValueReading.{value_at}
use Rattle.dms_device.specs.Object.{can_be_sent}
use Rattle.dms_agent_state.specs.SpelledValue.{SpellsValue}
use Rattle.dms_agent_state.proofs.ObjectWordLaws.{name_found}
use Rattle.dms_agent_state.proofs.ValueLaws.{value_found, read_sent}
use Rattle.dms_agent_state.specs.declared.fault.SetCause.{SetCause}
use Rattle.dms_agent_state.specs.declared.fault.SetCause.TheVariants as causes
use Rattle.dms_agent_state.specs.declared.fault.SetFault.{SetFault}
use Rattle.dms_agent_state.specs.Parts.{sign_part, objects_part}
use Rattle.dms_agent_state.specs.ValueLines.{with_value, with_name, with_word, behind_set, set_of, in_line, put_before, nothing_left, sets_at, line_after, values_of}

-- ---- values

below_bytes : (octets : List ℕ) → IsBytes octets → AllBelowBase 256 octets
below_bytes [] all = tt
below_bytes (octet ∷ octets) all = (all 0, below_bytes octets (λ i. all (suc i)))

octets_within : (octets word : List ℕ) → SpellsOctets octets word → AllBelowBase 256 octets
octets_within [] word spelled = tt
octets_within (octet ∷ octets) word spelled = below_bytes (octet ∷ octets) (decode_of-ok word (octet ∷ octets) spelled).3

parts_within : (address : List ℕ) (parts : List (List ℕ)) → SpellsEach SpellsAddressPart address parts → AllBelowBase 256 address
parts_within [] parts spelled = tt
parts_within (a ∷ address) [] spelled = absurd spelled
parts_within (a ∷ address) (part ∷ parts) spelled = (omega (arith, spelled.0.small), parts_within address parts spelled.1)

spelled_within : (value : ObjectValue) (words : List (List ℕ)) → SpellsValue value words → can_be_sent value ≡ true → IsValueInLimits value
spelled_within (integer z) words spelled sent = sent
spelled_within (octet_string octets) words spelled sent = octets_within octets spelled.word spelled.spelled
spelled_within null words spelled sent = tt
spelled_within (object_identifier numbers) words spelled sent = spelled.spelled.within
spelled_within (ip_address address) words spelled sent =
    (parts_within address (parts_of 46 spelled.word) spelled.spelled.parts, spelled.spelled.four)
spelled_within (counter n) words spelled sent = spelled.spelled.small
spelled_within (gauge n) words spelled sent = spelled.spelled.small
spelled_within (time_ticks n) words spelled sent = spelled.spelled.small
spelled_within (opaque octets) words spelled sent = octets_within octets spelled.word spelled.spelled

value_within : (words : List (List ℕ)) (found : ObjectValue × List (List ℕ)) → value_at words ≡ Some found → IsValueInLimits found.0
value_within words found e =
    let read = value_found words found e in
    spelled_within found.0 read.front read.spelled (read_sent found.0 words found.1 (sym e))

-- ---- lines

abbrev IsWithin : VarBind → Type 0
IsWithin b = IsNameInLimits b.name × IsValueInLimits b.value

ok_is : (a b : VarBind) → ◌≡◌ {A = Result VarBind SetCause} (Ok a) (Ok b) → a ≡ b
ok_is a b e = cc

by_value : (name : List ℕ) (words : List (List ℕ)) (o : Option (ObjectValue × List (List ℕ))) (b : VarBind) → IsNameInLimits name → value_at words ≡ o
    → with_value name o ≡ Ok b → IsWithin b
by_value name words None b within read e = absurd cc
by_value name words (Some value) b within read e =
    elim (cases_Bool (is_end value.1)) [
      | inl last ↦
          subst IsWithin
          (ok_is (record { name = name; value = value.0 }) b
          (ap (λ t. cond t (Ok (record { name = name; value = value.0 })) (Err causes.More)) (sym last) ∙ e))
          (within, value_within words value read)
      | inr more ↦
          absurd
          (
          let never : ◌≡◌ {A = Result VarBind SetCause} (Err causes.More) (Ok b) =
          ap (λ t. cond t (Ok (record { name = name; value = value.0 })) (Err causes.More)) (sym more) ∙ e in cc
          )
    ]

by_name : (word : List ℕ) (words : List (List ℕ)) (o : Option (List ℕ)) (b : VarBind) → name_of word ≡ o → with_name words o ≡ Ok b → IsWithin b
by_name word words None b read e = absurd cc
by_name word words (Some name) b read e = by_value name words (value_at words) b (name_found word name read).within refl e

by_word : (o : Option (List ℕ × List (List ℕ))) (b : VarBind) → with_word o ≡ Ok b → IsWithin b
by_word None b e = absurd cc
by_word (Some found) b e = by_name found.0 found.1 (name_of found.0) b refl e

by_keyword : (o : Option (List (List ℕ))) (b : VarBind) → behind_set o ≡ Ok b → IsWithin b
by_keyword None b e = absurd cc
by_keyword (Some words) b e = by_word (word_at words) b e

line_within : (line : List ℕ) (b : VarBind) → set_of line ≡ Ok b → IsWithin b
unfolding set_of
line_within line b e = by_keyword (keyword_at (codes "set") (words_of line)) b e

-- ---- all lines

all_is : (a b : List VarBind) → ◌≡◌ {A = Result (List VarBind) SetFault} (Ok a) (Ok b) → a ≡ b
all_is a b e = cc

by_said : (number : ℕ) (line : List ℕ) (said : Result VarBind SetCause) (later : Result (List VarBind) SetFault) (bindings : List VarBind) → set_of line ≡ said
    → ((more : List VarBind) → later ≡ Ok more → AreBindingsInLimits more) → put_before (in_line number said) later ≡ Ok bindings → AreBindingsInLimits bindings
by_said number line (Ok b) (Ok more) bindings read are e =
    let within = line_within line b read in
    subst AreBindingsInLimits (all_is (b ∷ more) bindings e) (within.0, within.1, are more refl)
by_said number line (Ok b) (Err fault) bindings read are e = absurd cc
by_said number line (Err cause) later bindings read are e = absurd cc

none_left : (number : ℕ) (last : List ℕ) (bindings : List VarBind) → nothing_left number last ≡ Ok bindings → AreBindingsInLimits bindings
none_left number [] bindings e = subst AreBindingsInLimits (all_is [] bindings e) tt
none_left number (octet ∷ octets) bindings e = absurd cc

all_within : (number : ℕ) (lines : List (List ℕ)) (bindings : List VarBind) → sets_at number lines ≡ Ok bindings → AreBindingsInLimits bindings
all_within number [] bindings e = subst AreBindingsInLimits (all_is [] bindings e) tt
all_within number (last ∷ []) bindings e = none_left number last bindings e
all_within number (line ∷ next ∷ more) bindings e =
    by_said number line (set_of line) (sets_at (number + 1) (next ∷ more)) bindings refl (all_within (number + 1) (next ∷ more)) e

pub values_within : (text : List ℕ) (bindings : List VarBind) → values_of text ≡ Ok bindings → AreBindingsInLimits bindings
values_within text bindings e = all_within (line_after (sign_part text)) (parts_of 10 (objects_part text)) bindings e
