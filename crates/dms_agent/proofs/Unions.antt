-- Two walks are one walk of both.
use Rattle.std.proofs.Common.{◌≡◌, ℕ, Bool, true, false, cond, List, Less, Equal, Greater, Ordering, Option, Some, None, refl, ap, ◌∙◌}
use Rattle.std.specs.Ordering.{is_lt, ordering_reverse}
use Rattle.std.proofs.lemmas.Bool.{both_ways}
use Rattle.std.proofs.lemmas.Cmp.{nat_list_cmp_total, alike_right}
use Rattle.dms_wire_ber.proofs.NameOrderLaws.{before_trans}
use Rattle.dms_wire_ber.specs.NameOrder.{numbers_cmp, is_before}
use Rattle.dms_wire.specs.Message.{ObjectValue, VarBind}
use Rattle.dms_mib_replies.specs.Walk.{IsNext, Follows, IsWalk}
use Rattle.dms_agent.specs.Values.{or_else, earliest}

-- ---- the order of three names

less : (o : Ordering) → is_lt o ≡ true → o ≡ Less
less Less h = refl
less Equal h = absurd (both_ways false refl h)
less Greater h = absurd (both_ways false refl h)

by_order : (n b c : List ℕ) (o : Ordering) → numbers_cmp c b ≡ o → is_lt o ≡ false → numbers_cmp n b ≡ Less → numbers_cmp n c ≡ Less
by_order n b c Less e h before = absurd (both_ways true h refl)
by_order n b c Equal e h before = alike_right nat_list_cmp_total c b n e ∙ before
by_order n b c Greater e h before =
    let total = nat_list_cmp_total in
    total.trans n b c before (total.antisymm b c ∙ ap ordering_reverse e)

-- what is before a name is before each that is not before that
pub before_last : (n b c : List ℕ) → is_before n b ≡ true → is_before c b ≡ false → is_before n c ≡ true
before_last n b c before not = ap is_lt (by_order n b c (numbers_cmp c b) refl not (less (numbers_cmp n b) before))

-- ---- what is read of two

nothing : (x y : Option ObjectValue) → x ≡ None → y ≡ None → or_else x y ≡ None
nothing x y e f = ap (λ x. or_else x y) e ∙ f

of_one : (x y : Option ObjectValue) (v : ObjectValue) → x ≡ Some v → or_else x y ≡ Some v
of_one x y v e = ap (λ x. or_else x y) e

of_other : (x y : Option ObjectValue) (v : ObjectValue) → x ≡ None → y ≡ Some v → or_else x y ≡ Some v
of_other x y v e f = ap (λ x. or_else x y) e ∙ f

abbrev both : (List ℕ → Option ObjectValue) → (List ℕ → Option ObjectValue) → List ℕ → Option ObjectValue
both one other name = or_else (one name) (other name)

chosen : (r t : List ℕ → Option ObjectValue) (name : List ℕ) (b c : VarBind) (first : Bool) → is_before c.name b.name ≡ first
    → IsNext r name b → IsNext t name c → Follows (both r t) name (cond first (Some c) (Some b))
chosen r t name b c true e one other = record {
  value = of_other (r c.name) (t c.name) c.value (one.first c.name other.after e) other.value;
  after = other.after;
  first = λ n after before. nothing (r n) (t n) (one.first n after (before_trans n c.name b.name before e)) (other.first n after before);
}
chosen r t name b c false e one other = record {
  value = of_one (r b.name) (t b.name) b.value one.value;
  after = one.after;
  first = λ n after before. nothing (r n) (t n) (one.first n after before) (other.first n after (before_last n b.name c.name before e));
}

joined : (r t : List ℕ → Option ObjectValue) (name : List ℕ) (o p : Option VarBind) → Follows r name o → Follows t name p
    → Follows (both r t) name (earliest o p)
joined r t name None None one other = λ n after. nothing (r n) (t n) (one n after) (other n after)
joined r t name None (Some c) one other = record {
  value = of_other (r c.name) (t c.name) c.value (one c.name other.after) other.value;
  after = other.after;
  first = λ n after before. nothing (r n) (t n) (one n after) (other.first n after before);
}
joined r t name (Some b) None one other = record {
  value = of_one (r b.name) (t b.name) b.value one.value;
  after = one.after;
  first = λ n after before. nothing (r n) (t n) (one.first n after before) (other n after);
}
joined r t name (Some b) (Some c) one other = chosen r t name b c (is_before c.name b.name) refl one other

pub union : (r t : List ℕ → Option ObjectValue) (f g : List ℕ → Option VarBind) → IsWalk r f → IsWalk t g
    → IsWalk (λ name. or_else (r name) (t name)) (λ name. earliest (f name) (g name))
union r t f g one other = λ name. joined r t name (f name) (g name) (one name) (other name)

-- a walk of what is read, or of nothing
pub walk_if : (b : Bool) (r : List ℕ → Option ObjectValue) (f : List ℕ → Option VarBind) → IsWalk r f
    → IsWalk (λ name. cond b (r name) None) (λ name. cond b (f name) None)
walk_if true r f is = λ name. is name
walk_if false r f is = λ name other after. refl
