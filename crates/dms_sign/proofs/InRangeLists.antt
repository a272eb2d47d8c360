-- What holds of each element of a list, or of the value that there may be.
use Rattle.std.proofs.Common.{ℕ, zero, suc, ◌+◌, ◌<◌, Bool, cond, List, [], ◌∷◌, length, map, flat_map, Option, Some, slice_get, arith}
use Rattle.std.specs.Prelude.{option_map, option_and_then, filter_map}
use Rattle.std.specs.Option.{IfSome}
use Rattle.std.specs.List.{AllByRecursion, position_from, cons_option}
use Rattle.dms_face.proofs.Lists.{all_append}

-- ---- choices and options

pub either : {X : Type 0} (P : X → Type 0) (b : Bool) (x y : X) → P x → P y → P (cond b x y)
either P b x y first second = grind arith

pub if_mapped : {X Y : Type 0} (P : X → Type 0) (Q : Y → Type 0) (f : X → Y) (o : Option X) → ((x : X) → P x → Q (f x)) → IfSome o P
    → IfSome (option_map f o) Q
if_mapped P Q f o each some = grind arith

pub if_then : {X Y : Type 0} (P : X → Type 0) (Q : Y → Type 0) (f : X → Option Y) (o : Option X) → ((x : X) → P x → IfSome (f x) Q) → IfSome o P
    → IfSome (option_and_then f o) Q
if_then P Q f o each some = grind arith

-- ---- lists

pub all_mapped : {X Y : Type 0} (P : X → Type 0) (Q : Y → Type 0) (f : X → Y) (xs : List X) → ((x : X) → P x → Q (f x)) → AllByRecursion P xs
    → AllByRecursion Q (map f xs)
all_mapped P Q f [] each all = tt
all_mapped P Q f (x ∷ xs) each all = (each x all.0, all_mapped P Q f xs each all.1)

pub all_flat : {X Y : Type 0} (P : X → Type 0) (Q : Y → Type 0) (f : X → List Y) (xs : List X) → ((x : X) → P x → AllByRecursion Q (f x))
    → AllByRecursion P xs
    → AllByRecursion Q (flat_map f xs)
all_flat P Q f [] each all = tt
all_flat P Q f (x ∷ xs) each all = all_append Q (f x) (flat_map f xs) (each x all.0) (all_flat P Q f xs each all.1)

all_option : {X : Type 0} (P : X → Type 0) (o : Option X) (xs : List X) → IfSome o P → AllByRecursion P xs → AllByRecursion P (cons_option o xs)
all_option P o xs some all = grind arith

pub all_filtered : {X Y : Type 0} (P : X → Type 0) (Q : Y → Type 0) (f : X → Option Y) (xs : List X) → ((x : X) → P x → IfSome (f x) Q)
    → AllByRecursion P xs
    → AllByRecursion Q (filter_map f xs)
all_filtered P Q f [] each all = tt
all_filtered P Q f (x ∷ xs) each all = all_option Q (f x) (filter_map f xs) (each x all.0) (all_filtered P Q f xs each all.1)

pub all_any : {X : Type 0} (P : X → Type 0) (xs : List X) → ((x : X) → P x) → AllByRecursion P xs
all_any P [] each = tt
all_any P (x ∷ xs) each = (each x, all_any P xs each)

pub if_at : {X : Type 0} (P : X → Type 0) (xs : List X) (i : ℕ) → AllByRecursion P xs → IfSome (slice_get xs i) P
if_at P [] i all = tt
if_at P (x ∷ xs) zero all = all.0
if_at P (x ∷ xs) (suc i) all = if_at P xs i all.1

place_if : (i n : ℕ) (b : Bool) (o : Option ℕ) → IfSome o (λ place. place < i + 1 + n) → IfSome (cond b (Some i) o) (λ place. place < i + suc n)
place_if i n b o some = grind arith

pub if_position : {X : Type 0} (test : X → Bool) (i : ℕ) (xs : List X) → IfSome (position_from test i xs) (λ place. place < i + length xs)
if_position test i [] = tt
if_position test i (x ∷ xs) = grind (arith, place_if, if_position test (i + 1) xs)
