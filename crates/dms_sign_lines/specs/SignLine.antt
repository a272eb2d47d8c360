-- The lines to a live sign (this profile).
use Rattle.std.specs.Prelude.{◌≡◌, ℕ, List, [], ◌∷◌, codes}
use Rattle.dms_text.specs.Words.{words_of}
use Rattle.dms_text.specs.Octets.{SpellsOctets}
use Rattle.dms_text_forms.specs.Fields.{SpellsFourOctets, SpellsOne}
use Rattle.dms_sign_lines.specs.SignCall.{SignCall, datagram, tick, ticks, heard, power_lost, power_back}
use Rattle.dms_sign_lines.specs.SignCall.{show, state, save}

abbrev pub SpellsCallWords : SignCall → List (List ℕ) → Type 0
SpellsCallWords (datagram octets) words = SpellsOne (codes "datagram") (SpellsOctets octets) words
SpellsCallWords tick words = words ≡ codes "tick" ∷ []
SpellsCallWords (ticks seconds) words = SpellsOne (codes "ticks") (SpellsFourOctets seconds) words
SpellsCallWords heard words = words ≡ codes "heard" ∷ []
SpellsCallWords power_lost words = words ≡ codes "power-lost" ∷ []
SpellsCallWords (power_back seconds) words = SpellsOne (codes "power-back") (SpellsFourOctets seconds) words
SpellsCallWords show words = words ≡ codes "show" ∷ []
SpellsCallWords state words = words ≡ codes "state" ∷ []
SpellsCallWords save words = words ≡ codes "save" ∷ []

-- the line of a call: its words, with one space between two
abbrev pub SpellsSignCall : SignCall → List ℕ → Type 0
SpellsSignCall call line = SpellsCallWords call (words_of line)

-- the line spells no call
abbrev pub SpellsNoSignCall : List ℕ → Type 0
SpellsNoSignCall line = (call : SignCall) → SpellsSignCall call line → ⊥
