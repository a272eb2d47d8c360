-- What a stock without a fault is.
use Rattle.std.proofs.Common.{◌≡◌, ◌++◌, ◌+◌, take, ℕ, ◌&&◌, Bool, true, false, not, if◌then◌else◌, IsTrue, List, length, get_or, Option, Some, None, All, ap, subst, sym, ◌∙◌, suc, ◌<◌, [], ◌∷◌, map, arith}
use Rattle.std.specs.Prelude.{option_map, position}
use Rattle.dms_face.specs.Face.{FaceModel}
use Rattle.dms_face.specs.declared.defaults.Defaults.{Defaults}
use Rattle.dms_face.specs.Layout.{under}
use Rattle.dms_table.specs.declared.stock.TableFault.TheVariants as faults
use Rattle.dms_table.specs.declared.row.Services.{Services}
use Rattle.dms_table.specs.declared.stock.Permanent.{Permanent}
use Rattle.dms_table.specs.declared.stock.Stock.{Stock}
use Rattle.dms_table.specs.Validation.{IsShowable}
use Rattle.dms_table.specs.Stock.{permanent_row, services_of, has_ranges, may_not_stand, are_counts, permanent_fault, stock_fault, table_of, HasGoodText, PermanentRowsAreGood, HasOctets}
use Rattle.std.proofs.lemmas.List.{take_more, map-append}
use Rattle.std.proofs.lemmas.List.Elements.{All-cons, All-append}
use Rattle.dms_face.specs.Fit.{IsGood}
use Rattle.dms_table.specs.Rows.{RowModel, TableModel}
use Rattle.dms_codes.proofs.Loops.{none_passes}
use Rattle.dms_codes.proofs.Options.{mapped_none}

none_after : {A : Type 0} (b : Bool) (o : Option A) (x : A) → (if b then o else Some x) ≡ None → o ≡ None
none_after b o x h = grind arith

front : (a b : Bool) → not (a && b) ≡ false → a ≡ true
front a b h = grind arith

back : (a b : Bool) → not (a && b) ≡ false → b ≡ true
back a b h = grind arith

-- each permanent row has its ranges
pub all_ranges : (face : FaceModel) (stock : Stock) → stock_fault face stock ≡ None → All (λ message. IsTrue (has_ranges (permanent_row message))) stock.permanent.now
all_ranges face stock h = grind (arith, front, get_or, none_passes, mapped_none, none_after)

-- the fault of a stock whose counts are right
pub fault_is : (face : FaceModel) (stock : Stock) (counts : Bool) (place : Option ℕ) (services : Services) (defaults : Defaults)
    → counts ≡ are_counts stock → counts ≡ true → services ≡ services_of stock → defaults ≡ face.defaults
    → place ≡ position (may_not_stand services (under face defaults)) stock.permanent.now → option_map permanent_fault place ≡ stock_fault face stock
fault_is face stock counts place services defaults are right has of_face is =
    let first : Option ℕ = position (may_not_stand (services_of stock) face) stock.permanent.now in
    let of_services : position (may_not_stand services (under face defaults)) stock.permanent.now ≡ position (may_not_stand (services_of stock) (under face defaults)) stock.permanent.now =
    ap (λ s. position (may_not_stand s (under face defaults)) stock.permanent.now) has in
    let of_defaults : position (may_not_stand (services_of stock) (under face defaults)) stock.permanent.now ≡ first = ap (λ d. position (may_not_stand (services_of stock) (under face d)) stock.permanent.now) of_face in
    let choice : (if true then option_map permanent_fault first else Some faults.Counts) ≡ stock_fault face stock =
    ap (λ b. if b then option_map permanent_fault first else Some faults.Counts) (sym right ∙ are) in
    ap (option_map permanent_fault) (is ∙ of_services ∙ of_defaults) ∙ choice

-- ---- permanent rows can be shown

stands_showable : (services : Services) (face : FaceModel) (message : Permanent) → may_not_stand services face message ≡ false → IsGood face message.text.now → IsShowable services face (permanent_row message)
stands_showable services face message h good = grind arith

all_mapped : {A B : Type 0} (P : B → Type 0) (f : A → B) (xs : List A) → ((k : ℕ) (d : A) → k < length xs → P (f (get_or xs k d))) → All P (map f xs)
all_mapped P f [] each = λ k d within. absurd (omega arith)
all_mapped P f (x ∷ xs) each = All-cons P (f x) (map f xs) (each 0 x (omega arith)) (all_mapped P f xs (λ k d within. each (suc k) d (omega arith)))

pub permanent_rows_are_good : (face : FaceModel) (stock : Stock) (table : TableModel) → stock_fault face stock ≡ None → All (HasGoodText face) stock.permanent.now → table ≡ table_of stock → PermanentRowsAreGood face table
permanent_rows_are_good face stock table faultless good made =
    let all : All (IsShowable (services_of stock) face) (map permanent_row stock.permanent.now) =
    all_mapped (IsShowable (services_of stock) face) permanent_row stock.permanent.now (λ k d within.
    stands_showable (services_of stock) face (get_or stock.permanent.now k d)
    (none_passes (may_not_stand (services_of stock) face) stock.permanent.now (mapped_none permanent_fault (position (may_not_stand (services_of stock) face) stock.permanent.now) (none_after (are_counts stock) _ _ faultless)) k d within)
    (good k d within)) in
    subst (PermanentRowsAreGood face) (sym made) all

-- ---- permanent rows are octets

pub one_more_of_octets : (rows all : List RowModel) (row : RowModel) → All HasOctets rows → HasOctets row → all ≡ rows ++ row ∷ [] → All HasOctets all
one_more_of_octets rows all row are is more =
    let last : All HasOctets (row ∷ []) = All-cons HasOctets row [] is (λ k d within. absurd (omega arith)) in
    subst (All HasOctets) (sym more) (All-append HasOctets rows (row ∷ []) are last)

pub one_more_row : (messages : List Permanent) (n : ℕ) (d : Permanent) (rows all : List RowModel) (row : RowModel) → n < length messages
    → rows ≡ map permanent_row (take n messages) → row ≡ permanent_row (get_or messages n d) → all ≡ rows ++ row ∷ []
    → all ≡ map permanent_row (take (n + 1) messages)
one_more_row messages n d rows all row within so_far is more =
    let longer : map permanent_row (take (n + 1) messages) ≡ map permanent_row (take n messages) ++ permanent_row (get_or messages n d) ∷ [] =
    ap (map permanent_row) (take_more messages n d within) ∙ map-append permanent_row (take n messages) (get_or messages n d ∷ []) in
    cc
