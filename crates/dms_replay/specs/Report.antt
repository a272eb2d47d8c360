-- The report of a run (this profile): lines of words and numbers, octets in small hexadecimal digits.
use Rattle.std.specs.Prelude.{ℕ, List, ◌++◌, length, codes, decimal, flat_map}
use Rattle.dms_codes.specs.declared.codes.Order.{Order}
use Rattle.dms_codes.specs.declared.codes.Activation.{Activation}
use Rattle.dms_world.specs.World.{WorldModel}
use Rattle.dms_text_forms.specs.LineText.{code_text, ended}
use Rattle.dms_sign_text.specs.ShownLine.{shown_line}
use Rattle.dms_centre_text.specs.LedgerLine.{ledger_line}

-- ---- lines

-- how many events there were
abbrev pub events_line : ℕ → List ℕ
events_line count = ended (codes "events " ++ decimal count)

-- how many datagrams the ends sent: to the sign, and to the centre
abbrev pub sent_line : WorldModel → List ℕ
sent_line world =
    ended (codes "sent " ++ decimal (length world.to_sign) ++ codes " " ++ decimal (length world.to_centre))

-- an activation that the sign accepted, and the number of its event
abbrev pub accepted_line : Order → ℕ × Activation → List ℕ
accepted_line order accepted =
    ended (codes "accepted " ++ decimal accepted.0 ++ codes " " ++ code_text order accepted.1)

-- ---- the report

-- of a world after so many events; the sign's codes are in its order, and the centre's in its own
abbrev pub report_of : WorldModel → ℕ → List ℕ
report_of world count =
    events_line count ++ sent_line world ++ shown_line world.sign.shown
    ++ flat_map (accepted_line world.sign.table.order) world.accepted
    ++ flat_map (ledger_line world.centre.settings.order) world.centre.ledger
