-- The words of a value: those of its type, and what it is (RFC 1155, 3.2; this profile).
use Rattle.std.specs.Prelude.{◌≡◌, ℕ, List, [], ◌∷◌, codes}
use Rattle.dms_wire.specs.Message.{ObjectValue, integer, octet_string, null, object_identifier}
use Rattle.dms_wire.specs.Message.{ip_address, counter, gauge, time_ticks, opaque}
use Rattle.dms_text.specs.Octets.{SpellsOctets}
use Rattle.dms_text_forms.specs.Fields.{SpellsFourOctets, SpellsOne, SpellsAddress}
use Rattle.dms_agent_state.specs.ObjectFields.{SpellsName, SpellsInteger}

-- two keywords, and one word after them that spells something
pub record SpellsThird (first second : List ℕ) (Spelled : List ℕ → Type 0) (words : List (List ℕ)) : Type 0 where
  pub word : List ℕ
  pub words_are : words ≡ first ∷ second ∷ word ∷ []
  pub spelled : Spelled word

abbrev pub SpellsValue : ObjectValue → List (List ℕ) → Type 0
SpellsValue (integer number) words = SpellsOne (codes "INTEGER") (SpellsInteger number) words
SpellsValue (octet_string octets) words = SpellsThird (codes "OCTET") (codes "STRING") (SpellsOctets octets) words
SpellsValue null words = words ≡ codes "NULL" ∷ []
SpellsValue (object_identifier numbers) words =
    SpellsThird (codes "OBJECT") (codes "IDENTIFIER") (SpellsName numbers) words
SpellsValue (ip_address octets) words = SpellsOne (codes "IpAddress") (SpellsAddress octets) words
SpellsValue (counter number) words = SpellsOne (codes "Counter") (SpellsFourOctets number) words
SpellsValue (gauge number) words = SpellsOne (codes "Gauge") (SpellsFourOctets number) words
SpellsValue (time_ticks number) words = SpellsOne (codes "TimeTicks") (SpellsFourOctets number) words
SpellsValue (opaque octets) words = SpellsOne (codes "Opaque") (SpellsOctets octets) words
