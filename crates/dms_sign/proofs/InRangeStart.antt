-- A sign as it is made is in range.
use Rattle.std.proofs.Common.{◌≡◌, ℕ, zero, suc, ◌≤◌, ◌&&◌, Bool, true, cond, IsTrue, List, [], ◌∷◌, length, map, replicate, Option, Some, None, ap, sym, arith, leb, leb-true}
use Rattle.std.specs.List.{AllByRecursion}
use Rattle.std.specs.Int.Digits.{AllBelowBase}
use Rattle.std.proofs.lemmas.Bool.{and_parts}
use Rattle.std.proofs.lemmas.List.{length-map, length-replicate}
use Rattle.std.proofs.lemmas.List.Elements.{All-from_recursion, recursion_from_All}
use Rattle.dms_face.specs.Face.{FaceModel, is_face}
use Rattle.dms_table.specs.declared.stock.Permanent.{Permanent}
use Rattle.dms_table.specs.declared.stock.Stock.{Stock}
use Rattle.dms_table.specs.declared.stock.TableFault.{TableFault}
use Rattle.dms_table.specs.Rows.{RowModel, TableModel, unused}
use Rattle.dms_codes.specs.Limits.{longest_text, longest_owner}
use Rattle.dms_table.specs.Stock.{permanent_row, has_ranges, are_counts, stock_fault, table_of}
use Rattle.dms_table.proofs.Stands.{all_ranges}
use Rattle.dms_sign.specs.State.{ConfigModel, start}
use Rattle.dms_sign_access.specs.Ranges.{AreDefaultsInRange}
use Rattle.dms_sign.specs.InRange.{IsConfigInRange, IsRowInRange, IsTableInRange, IsSignInRange, IsStocked, IsMadeOfOctets}
use Rattle.dms_sign.proofs.InRangeLists.{all_mapped}
use Rattle.dms_sign.proofs.InRangeEvents.{unused_in_range}

pub start_in_range : (config : ConfigModel) (table : TableModel) → IsConfigInRange config → AreDefaultsInRange config.face.defaults
    → IsTableInRange table
    → IsSignInRange (start config table)
start_in_range config table is defaults rows = grind arith

-- ---- what it is made with

record HasRanges (row : RowModel) : Type 0 where
  text : length row.text ≤ longest_text
  owner : length row.owner ≤ longest_owner
  beacon : row.beacon ≤ 1
  pixel : row.pixel ≤ 1
  least : 1 ≤ row.priority
  priority : row.priority ≤ 255

ranges_of : (row : RowModel) → has_ranges row ≡ true → HasRanges row
ranges_of row e = grind arith

rows_of_octets : (rows : List RowModel) → AllByRecursion (λ (row : RowModel). IsTrue (has_ranges row)) rows
    → AllByRecursion (λ (row : RowModel). AllBelowBase 256 row.text) rows → AllByRecursion (λ (row : RowModel). AllBelowBase 256 row.owner) rows
    → AllByRecursion IsRowInRange rows
rows_of_octets [] ranges texts owners = tt
rows_of_octets (row ∷ rows) ranges texts owners = grind (arith, ranges_of, rows_of_octets rows ranges.1 texts.1 owners.1)

unused_rows : (n : ℕ) → AllByRecursion IsRowInRange (replicate n unused)
unused_rows zero = tt
unused_rows (suc n) = (unused_in_range, unused_rows n)

pub stocked_in_range : (config : ConfigModel) (table : TableModel) → IsStocked table → IsMadeOfOctets config table → IsTableInRange table
stocked_in_range config table is made = grind (arith, rows_of_octets, recursion_from_All, unused_rows)

face_in_range : (config : ConfigModel) (table : TableModel) → is_face config.face ≡ true → IsMadeOfOctets config table → IsConfigInRange config
face_in_range config table e made = grind arith

-- of a face and a stock that can be made, and of octets
pub made_in_range : (config : ConfigModel) (table : TableModel) → IsTrue (is_face config.face) → IsStocked table → IsMadeOfOctets config table
    → IsSignInRange (start config table)
made_in_range config table e is made =
    start_in_range config table (face_in_range config table e made) made.defaults (stocked_in_range config table is made)

-- ---- stocks

counts_are_right : (b : Bool) (o : Option TableFault) (fault : TableFault) → cond b o (Some fault) ≡ None → b ≡ true
counts_are_right b o fault e = grind arith

-- a stock without a fault
pub faultless_is_stocked : (face : FaceModel) (stock : Stock) → stock_fault face stock ≡ None → IsStocked (table_of stock)
faultless_is_stocked face stock e =
    let messages = stock.permanent.now in
    let few = counts_are_right (are_counts stock) _ _ e in
    let both = and_parts (leb (length messages) 16 && leb stock.changeable 64) (leb stock.volatile 16) few in
    let first = and_parts (leb (length messages) 16) (leb stock.changeable 64) both.0 in
    let permanent = leb-true (length messages) 16 first.0 in
    let changeable = leb-true stock.changeable 64 first.1 in
    let volatile = leb-true stock.volatile 16 both.1 in
    let ranges = recursion_from_All (λ (message : Permanent). IsTrue (has_ranges (permanent_row message))) messages (all_ranges face stock e) in
    record {
      permanent = All-from_recursion (λ (row : RowModel). IsTrue (has_ranges row)) (map permanent_row messages)
          (all_mapped (λ (message : Permanent). IsTrue (has_ranges (permanent_row message))) (λ (row : RowModel). IsTrue (has_ranges row)) permanent_row messages
          (λ message h. h) ranges);
      permanent_count = omega (arith, length-map messages permanent_row, permanent);
      changeable = ap (λ n. replicate n unused) (sym (length-replicate stock.changeable unused));
      changeable_count = omega (arith, length-replicate stock.changeable unused, changeable);
      volatile = ap (λ n. replicate n unused) (sym (length-replicate stock.volatile unused));
      volatile_count = omega (arith, length-replicate stock.volatile unused, volatile);
    }
