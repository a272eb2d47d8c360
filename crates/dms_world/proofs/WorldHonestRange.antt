-- The sign of a fresh world is in range after any events.
use Rattle.std.proofs.Common.{◌≡◌, ℕ, ◌&&◌, true, IsTrue, List, [], ◌∷◌, sym, subst}
use Rattle.std.specs.List.{AllByRecursion, list_all}
use Rattle.std.proofs.lemmas.Bool.{and_parts}
use Rattle.std.proofs.lemmas.List.Elements.{All-from_recursion}
use Rattle.dms_face.specs.Face.{FaceModel}
use Rattle.dms_codes.specs.Status.{is_valid}
use Rattle.dms_table.specs.declared.row.Services.{Services}
use Rattle.dms_table.specs.Rows.{RowModel, TableModel}
use Rattle.dms_table.specs.Validation.{verdict_of, passes}
use Rattle.dms_table.specs.Stock.{has_ranges}
use Rattle.dms_sign.specs.State.{ConfigModel, start}
use Rattle.dms_sign.specs.InRange.{IsSignInRange, IsStocked}
use Rattle.dms_sign.proofs.InRangeStart.{made_in_range}
use Rattle.dms_sign.proofs.InRangeSets.{received_in_range}
use Rattle.dms_sign.proofs.InRangeEvents.{tick_in_range, power_loss_in_range, power_return_in_range}
use Rattle.dms_sign.specs.Construction.{CanBeMade, row_may_stand}
use Rattle.dms_world.specs.Event.{EventModel}
use Rattle.dms_world.specs.World.{WorldModel, world_at, IsFresh}
use Rattle.dms_world.proofs.WorldSign.{EachEventKeeps, kept_after}

have_ranges : (services : Services) (face : FaceModel) (rows : List RowModel) → list_all (row_may_stand services face) rows ≡ true
    → AllByRecursion (λ (row : RowModel). IsTrue (has_ranges row)) rows
have_ranges services face [] e = tt
have_ranges services face (row ∷ rows) e =
    let both = and_parts (row_may_stand services face row) (list_all (row_may_stand services face) rows) e in
    let stands = and_parts (is_valid row.status && has_ranges row) (passes (verdict_of services face row)) both.0 in
    ((and_parts (is_valid row.status) (has_ranges row) stands.0).1, have_ranges services face rows both.1)

stocked : (config : ConfigModel) (table : TableModel) → CanBeMade config table → IsStocked table
stocked config table can = record {
  permanent = All-from_recursion (λ (row : RowModel). IsTrue (has_ranges row)) table.permanent
      (have_ranges table.services config.face table.permanent can.rows);
  permanent_count = can.permanent;
  changeable = can.changeable_unused;
  changeable_count = can.changeable;
  volatile = can.volatile_unused;
  volatile_count = can.volatile;
}

range_is_kept : EachEventKeeps IsSignInRange
range_is_kept = record { datagram = received_in_range; tick = tick_in_range; power_loss = power_loss_in_range; power_return = power_return_in_range }

pub in_range_at : (world : WorldModel) (events : List EventModel) → IsFresh world → (count : ℕ) → IsSignInRange (world_at world events count).sign
in_range_at world events fresh count =
    let made : IsSignInRange (start fresh.config fresh.table) =
    made_in_range fresh.config fresh.table fresh.can_be_made.face (stocked fresh.config fresh.table fresh.can_be_made) fresh.made_of_octets in
    kept_after IsSignInRange range_is_kept world events (subst (λ (w : WorldModel). IsSignInRange w.sign) (sym fresh.is_beginning) made) count
