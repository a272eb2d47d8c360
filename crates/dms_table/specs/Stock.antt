-- What a table is made of (this profile).
use Rattle.std.specs.Prelude.{◌≡◌, ℕ, ◌+◌, ◌&&◌, Bool, not, if◌then◌else◌, Option, Some, None, option_map}
use Rattle.std.specs.Prelude.{length, map, replicate, nat_le, position, All}
use Rattle.std.specs.Int.Digits.{AllBelowBase}
use Rattle.dms_face.specs.Face.{FaceModel}
use Rattle.dms_face.specs.Fit.{IsGood}
use Rattle.dms_codes.specs.declared.status.Status.TheVariants.{Valid}
use Rattle.dms_table.specs.declared.row.Services.{Services}
use Rattle.dms_table.specs.declared.stock.Permanent.{Permanent}
use Rattle.dms_table.specs.declared.stock.Stock.{Stock}
use Rattle.dms_table.specs.declared.stock.TableFault.{TableFault}
use Rattle.dms_table.specs.declared.stock.TableFault.TheVariants as faults
use Rattle.dms_table.specs.Rows.{RowModel, TableModel, Text, Owner, Beacon, Pixel, Priority, is_in_range, unused}
use Rattle.dms_codes.specs.Limits.{most_permanent_rows, most_changeable_rows, most_volatile_rows}
use Rattle.dms_table.specs.Validation.{verdict_of, passes, IsShowable}

abbrev pub permanent_row : Permanent → RowModel
permanent_row message = record {
  text = message.text.now;
  owner = message.owner.now;
  beacon = message.beacon;
  pixel = message.pixel;
  priority = message.priority;
  status = Valid;
}

abbrev pub services_of : Stock → Services
services_of stock = record { beacon = stock.beacon; pixel = stock.pixel }

abbrev pub has_ranges : RowModel → Bool
has_ranges row =
    is_in_range (Text row.text) && is_in_range (Owner row.owner) && is_in_range (Beacon row.beacon)
    && is_in_range (Pixel row.pixel) && is_in_range (Priority row.priority)

-- a permanent row is one that could be validated
abbrev pub may_stand : Services → FaceModel → Permanent → Bool
may_stand services face message =
    has_ranges (permanent_row message) && passes (verdict_of services face (permanent_row message))

-- one that may not stand
abbrev pub may_not_stand : Services → FaceModel → Permanent → Bool
may_not_stand services face message = not (may_stand services face message)

abbrev pub HasGoodText : FaceModel → Permanent → Type 0
HasGoodText face message = IsGood face message.text.now

abbrev pub are_counts : Stock → Bool
are_counts stock = nat_le (length stock.permanent.now) most_permanent_rows
    && nat_le stock.changeable most_changeable_rows && nat_le stock.volatile most_volatile_rows

abbrev pub table_of : Stock → TableModel
table_of stock = record {
  permanent = map permanent_row stock.permanent.now;
  changeable = replicate stock.changeable unused;
  volatile = replicate stock.volatile unused;
  services = services_of stock;
  order = stock.order;
}

-- the permanent row at this place may not stand; the first has the number 1
abbrev pub permanent_fault : ℕ → TableFault
permanent_fault place = faults.Permanent (place + 1)

-- the first thing that is wrong with a stock
abbrev pub stock_fault : FaceModel → Stock → Option TableFault
stock_fault face stock =
    if are_counts stock
    then option_map permanent_fault (position (may_not_stand (services_of stock) face) stock.permanent.now)
    else Some faults.Counts

-- Where there is nothing wrong with a stock, there may be too little memory for its table.
abbrev pub IsFirstFault : Option TableFault → TableFault → Type 0
IsFirstFault None fault = fault ≡ faults.Memory
IsFirstFault (Some first) fault = fault ≡ first

abbrev pub fault_number : TableFault → ℕ
fault_number faults.Counts = 1
fault_number (faults.Permanent number) = 2
fault_number faults.Memory = 3

-- each permanent row can be shown
abbrev pub PermanentRowsAreGood : FaceModel → TableModel → Type 0
PermanentRowsAreGood face table = All (IsShowable table.services face) table.permanent

-- the permanent rows stay as they are, and so does what the sign has
pub record KeepsPermanentRows (old new : TableModel) : Type 0 where
  pub rows : new.permanent ≡ old.permanent
  pub services : new.services ≡ old.services

-- the text and the owner of a row are octets
pub record HasOctets (row : RowModel) : Type 0 where
  pub text : AllBelowBase 256 row.text
  pub owner : AllBelowBase 256 row.owner
