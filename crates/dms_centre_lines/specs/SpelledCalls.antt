-- The lines of calls (this profile).
use Rattle.std.specs.Prelude.{◌≡◌, ℕ, List, [], ◌∷◌, codes}
use Rattle.dms_text.specs.Words.{words_of}
use Rattle.dms_text.specs.Octets.{SpellsOctets}
use Rattle.dms_codes.specs.declared.codes.Order.{Order}
use Rattle.dms_text_forms.specs.Fields.{SpellsOne}
use Rattle.dms_centre_text.specs.CommandLine.{SpellsCommand}
use Rattle.dms_centre_lines.specs.Calls.{CentreCall, command, datagram, tick, restart, status, status_last, save}

-- a command as in a script, a datagram as octets, or words alone
abbrev pub SpellsCallWords : Order → CentreCall → List (List ℕ) → Type 0
SpellsCallWords order (command asked) words = SpellsCommand order asked words
SpellsCallWords order (datagram octets) words = SpellsOne (codes "datagram") (SpellsOctets octets) words
SpellsCallWords order tick words = words ≡ codes "tick" ∷ []
SpellsCallWords order restart words = words ≡ codes "restart" ∷ []
SpellsCallWords order status words = words ≡ codes "status" ∷ []
SpellsCallWords order status_last words = words ≡ codes "status" ∷ codes "last" ∷ []
SpellsCallWords order save words = words ≡ codes "save" ∷ []

-- the line of a call; codes are in this order, and a carriage return belongs to the last word
abbrev pub SpellsCentreCall : Order → CentreCall → List ℕ → Type 0
SpellsCentreCall order call line = SpellsCallWords order call (words_of line)

-- the line spells no call
abbrev pub SpellsNoCall : Order → List ℕ → Type 0
SpellsNoCall order line = (call : CentreCall) → SpellsCentreCall order call line → ⊥
