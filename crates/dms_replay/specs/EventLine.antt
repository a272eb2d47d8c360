-- The lines of a script's events (this profile).
use Rattle.std.specs.Prelude.{◌≡◌, ℕ, List, [], ◌∷◌, codes}
use Rattle.dms_text.specs.Words.{words_of}
use Rattle.dms_text.specs.Octets.{SpellsOctets}
use Rattle.dms_codes.specs.declared.codes.Order.{Order}
use Rattle.dms_world.specs.Event.{EventModel, command, sign_tick, centre_tick, to_sign, to_centre, power_lost}
use Rattle.dms_world.specs.Event.{power_back, centre_restart, forge_sign, forge_centre}
use Rattle.dms_text_forms.specs.Fields.{SpellsFourOctets, SpellsOne}
use Rattle.dms_centre_text.specs.CommandLine.{SpellsCommand}

abbrev pub SpellsEventWords : Order → EventModel → List (List ℕ) → Type 0
SpellsEventWords order (command asked) words = SpellsCommand order asked words
SpellsEventWords order sign_tick words = words ≡ codes "sign-tick" ∷ []
SpellsEventWords order centre_tick words = words ≡ codes "centre-tick" ∷ []
SpellsEventWords order (to_sign place) words = SpellsOne (codes "to-sign") (SpellsFourOctets place) words
SpellsEventWords order (to_centre place) words = SpellsOne (codes "to-centre") (SpellsFourOctets place) words
SpellsEventWords order power_lost words = words ≡ codes "power-lost" ∷ []
SpellsEventWords order (power_back seconds) words = SpellsOne (codes "power-back") (SpellsFourOctets seconds) words
SpellsEventWords order centre_restart words = words ≡ codes "centre-restart" ∷ []
SpellsEventWords order (forge_sign datagram) words = SpellsOne (codes "forge-sign") (SpellsOctets datagram) words
SpellsEventWords order (forge_centre datagram) words = SpellsOne (codes "forge-centre") (SpellsOctets datagram) words

-- the line of an event; codes are in the order of the sign
abbrev pub SpellsEvent : Order → EventModel → List ℕ → Type 0
SpellsEvent order event line = SpellsEventWords order event (words_of line)
