-- At most one row of a sign is being validated, whatever happens.
use Rattle.std.proofs.Common.{◌≡◌, List, length, replicate, arith}
use Rattle.dms_table.specs.Rows.{TableModel, unused, IsTable}
use Rattle.dms_table.proofs.OneRow.{count, none_unused}
use Rattle.dms_sign.specs.State.{SignState}
use Rattle.dms_sign_laws.proofs.OneValidating.{one_received, one_after_tick, one_after_power_loss, one_after_power_return}
use Rattle.dms_world.specs.Event.{EventModel}
use Rattle.dms_world.specs.World.{WorldModel, IsFresh}
use Rattle.dms_world.specs.GoodRows.{OneRowIsValidating}
use Rattle.dms_world.proofs.WorldSign.{EachEventKeeps, kept_after}

-- of a sign
abbrev IsOne : SignState → Type 0
IsOne s = IsTable s.table

one_is_kept : EachEventKeeps IsOne
one_is_kept = record { datagram = one_received; tick = one_after_tick; power_loss = one_after_power_loss; power_return = one_after_power_return }

-- rows that are not used are not being validated
none_of_unused : (table : TableModel) → table.changeable ≡ replicate (length table.changeable) unused → table.volatile ≡ replicate (length table.volatile) unused → IsTable table
none_of_unused table changeable volatile = grind (arith, count, none_unused)

pub one_at_all : (world : WorldModel) (events : List EventModel) → IsFresh world → OneRowIsValidating world events
one_at_all world events fresh = grind (arith, none_of_unused, kept_after, one_is_kept)
