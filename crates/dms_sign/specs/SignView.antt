-- The state that the code's fields are (this profile).
use Rattle.std.specs.Prelude.{◌≡◌}
use Rattle.dms_codes.specs.Codes.{octets_of_id}
use Rattle.dms_sign.specs.declared.sign.Sign.TheInside.{Inside}
use Rattle.dms_sign.specs.Kept.{IsKept}
use Rattle.dms_sign.specs.KnownTexts.{AreKnown}
use Rattle.dms_sign.specs.State.{SignState}

abbrev pub state_of : Inside → SignState
state_of s = record {
  config = record { face = s.face; reader = s.reader.items; writer = s.writer.items };
  table = s.table;
  settings = s.settings;
  silent_seconds = s.silent_seconds;
  shown = s.shown;
  shown_at_power_loss = s.shown_at_power_loss;
  reports = s.reports;
  powered = s.powered;
}

-- what holds of the fields: the sign is kept, the octets beside what is shown are those of its code, and the text of
-- each valid row for which defaults are kept is good under them
pub record IsWhole (s : Inside) : Type 0 where
  pub kept : IsKept (state_of s)
  pub source : s.source ≡ octets_of_id s.table.order s.shown.source
  pub known : AreKnown s.known s.face s.table
