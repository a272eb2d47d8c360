-- The walk of a sign.
use Rattle.std.proofs.Common.{◌≡◌, ℕ, true, false, List, Option, Some, None, refl, sym, ap, ◌∙◌, subst, inl, inr}
use Rattle.std.specs.Prelude.{option_map, option_and_then, IsSome}
use Rattle.std.proofs.lemmas.Bool.{both_ways}
use Rattle.dms_wire_ber.proofs.NameOrderLaws.{before_trans, not_before_itself}
use Rattle.dms_wire_ber.specs.NameOrder.{is_before}
use Rattle.dms_wire.specs.Message.{ObjectValue}
use Rattle.dms_mib.specs.declared.instance.Instance.{Instance}
use Rattle.dms_mib.specs.declared.instance.Instance.TheVariants as kinds
use Rattle.dms_mib.specs.Names.{name_of}
use Rattle.dms_mib_replies.specs.Walk.{IsNext, Follows, IsWalk}
use Rattle.dms_table.specs.Activation.{message_at}
use Rattle.dms_mib_instances.specs.Objects.{instance_named, next_instance, comes_after, IsInstance, IsFirstAfter, FirstAfter}
use Rattle.dms_mib_instances.proofs.InOrder.{next_is_first, named_back, named_is}
use Rattle.dms_mib_instances.proofs.WhichInstances.{cell_read}
use Rattle.dms_sign_access.specs.Cells.{cell_value}
use Rattle.dms_sign.specs.State.{SignState}
use Rattle.dms_sign.specs.Values.{scalar_value, value_at, value_of, value_after, bound, binding_at}

-- ---- what an instance reads

mapped : {A : Type 0} (f : A → ObjectValue) (o : Option A) → IsSome o → (v : ObjectValue) × (option_map f o ≡ Some v)
mapped f None some = absurd (both_ways false refl some)
mapped f (Some x) some = (f x, refl)

readable : (s : SignState) (i : Instance) → IsInstance s.table i → (v : ObjectValue) × (value_at s i ≡ Some v)
unfolding value_at
readable s (kinds.Scalar object) there = (scalar_value s object, refl)
readable s (kinds.Cell column row) there =
    mapped (cell_value s.table.order column row) (message_at s.table s.shown row) ((cell_read s.table s.shown column row).0 there)

-- ---- a name that is no instance's

unnamed : (s : SignState) (name : List ℕ) (o : Option Instance) → instance_named s.table name ≡ o
    → ((j : Instance) → name_of j ≡ name → IsInstance s.table j → ⊥) → option_and_then (value_at s) o ≡ None
unnamed s name None e never = refl
unnamed s name (Some j) e never = let is = named_is s.table name j e in absurd (never j is.0 is.1)

unread : (s : SignState) (name : List ℕ) → ((j : Instance) → name_of j ≡ name → IsInstance s.table j → ⊥) → value_of s name ≡ None
unfolding value_of
unread s name never = unnamed s name (instance_named s.table name) refl never

read_back : (s : SignState) (i : Instance) (v : ObjectValue) → IsInstance s.table i → value_at s i ≡ Some v → value_of s (name_of i) ≡ Some v
unfolding value_of
read_back s i v there e = ap (option_and_then (value_at s)) (named_back s.table i there) ∙ e

-- ---- the walk

not_between : (s : SignState) (name other : List ℕ) (i : Instance) → IsFirstAfter s.table name i → is_before name other ≡ true
    → is_before other (name_of i) ≡ true → (j : Instance) → name_of j ≡ other → IsInstance s.table j → ⊥
not_between s name other i is after before j e there =
    elim (is.first j there (ap (is_before name) e ∙ after)) [
      | inl same ↦ both_ways (is_before (name_of i) (name_of i)) (not_before_itself (name_of i))
          (ap (λ n. is_before n (name_of i)) (ap name_of same ∙ e) ∙ before)
      | inr later ↦ both_ways (is_before (name_of i) (name_of i)) (not_before_itself (name_of i))
          (before_trans (name_of i) other (name_of i) (ap (is_before (name_of i)) (sym e) ∙ later) before)
    ]

next_is : (s : SignState) (name : List ℕ) (i : Instance) (v : ObjectValue) → IsFirstAfter s.table name i → value_at s i ≡ Some v
    → IsNext (value_of s) name (bound i v)
next_is s name i v is e = record {
  value = read_back s i v is.there e;
  after = is.after;
  first = λ other after before. unread s other (not_between s name other i is after before);
}

followed : (s : SignState) (name : List ℕ) (o : Option Instance) → FirstAfter s.table name o
    → Follows (value_of s) name (option_and_then (binding_at s) o)
followed s name None last =
    λ other after. unread s other λ j e there. both_ways (comes_after name j) (last j there) (ap (is_before name) e ∙ after)
followed s name (Some i) is =
    let read = readable s i is.there in
    subst (λ o. Follows (value_of s) name (option_map (bound i) o)) (sym read.1) (next_is s name i read.0 is read.1)

pub sign_walk : (s : SignState) → IsWalk (value_of s) (value_after s)
unfolding value_after
sign_walk s = λ name. followed s name (next_instance s.table name) (next_is_first s.table name)
