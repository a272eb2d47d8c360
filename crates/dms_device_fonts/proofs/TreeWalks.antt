-- A tree is walked in the order of names.
use Rattle.std.proofs.Common.{◌≡◌, ℕ, zero, suc, ◌+◌, ◌-◌, ◌<◌, ◌≤◌, ◌&&◌, Bool, true, false, cond, List, [], ◌∷◌, Option, Some, None, inl, inr, refl, sym, ap, subst, ◌∙◌, arith}
use Rattle.std.specs.Prelude.{nat_le, nat_lt, option_map}
use Rattle.std.proofs.lemmas.Bool.{cases_lt, both_ways}
use Rattle.std.proofs.lemmas.Bool.Decides.{nat_tests}
use Rattle.dms_wire_ber.specs.NameOrder.{is_before}
use Rattle.dms_wire.specs.Message.{ObjectValue, VarBind}
use Rattle.dms_mib_replies.specs.Walk.{IsNext, Follows, IsWalk}
use Rattle.dms_device_fonts.specs.Tree.{Tree, Leaf, Span, tree_value, tree_first, tree_after, first_from, or_first, below}
use Rattle.dms_device_fonts.proofs.Orders.{lower_first, higher_first, same_first}

abbrev pub Reads : Type 0
Reads = List ℕ → Option ObjectValue

-- the binding reads its name's value, and nothing that is before it is read
pub record IsFirst (reads : Reads) (b : VarBind) : Type 0 where
  pub value : reads b.name ≡ Some b.value
  pub first : (other : List ℕ) → is_before other b.name ≡ true → reads other ≡ None

-- it is the first that is read, or nothing is read
abbrev pub Begins : Reads → Option VarBind → Type 0
Begins reads None = (other : List ℕ) → reads other ≡ None
Begins reads (Some b) = IsFirst reads b

-- ---- numbers in a span

within : ℕ → ℕ → ℕ → Bool
within least count n = nat_le least n && nat_lt n (least + count)

inside : (least count n : ℕ) → least ≤ n → n < least + count → (nat_le least n && nat_lt n (least + count)) ≡ true
inside least count n low high = grind (arith, nat_tests)

under_it : (least count n : ℕ) → n < least → (nat_le least n && nat_lt n (least + count)) ≡ false
under_it least count n low = grind (arith, nat_tests)

past_it : (least count n : ℕ) → least + count ≤ n → (nat_le least n && nat_lt n (least + count)) ≡ false
past_it least count n high = grind (arith, nat_tests)

-- what a number in a span reads is what its tree reads
pub span_reads : (least count n : ℕ) (at : ℕ → Tree) (ns : List ℕ) → least ≤ n → n < least + count → tree_value (Span least count at) (n ∷ ns) ≡ tree_value (at n) ns
span_reads least count n at ns low high = ap (λ b. cond b (tree_value (at n) ns) None) (inside least count n low high)

span_under : (least count n : ℕ) (at : ℕ → Tree) (ns : List ℕ) → n < least → tree_value (Span least count at) (n ∷ ns) ≡ None
span_under least count n at ns low = ap (λ b. cond b (tree_value (at n) ns) None) (under_it least count n low)

pub span_past : (least count n : ℕ) (at : ℕ → Tree) (ns : List ℕ) → least + count ≤ n → tree_value (Span least count at) (n ∷ ns) ≡ None
span_past least count n at ns high = ap (λ b. cond b (tree_value (at n) ns) None) (past_it least count n high)

-- a span without its first number
later_reads : (least count n : ℕ) (at : ℕ → Tree) (ns : List ℕ) → least < n → tree_value (Span least (suc count) at) (n ∷ ns) ≡ tree_value (Span (least + 1) count at) (n ∷ ns)
later_reads least count n at ns high =
    let same : (nat_le least n && nat_lt n (least + suc count)) ≡ (nat_le (least + 1) n && nat_lt n (least + 1 + count)) = grind (arith, nat_tests) in
    ap (λ b. cond b (tree_value (at n) ns) None) same

-- ---- the first that is read

nothing_before : (name : List ℕ) → is_before name [] ≡ true → ⊥
nothing_before [] h = absurd (both_ways false refl h)
nothing_before (n ∷ ns) h = absurd (both_ways false refl h)

-- what is before a name that begins with a number
record Before (n : ℕ) (rest : List ℕ) (m : ℕ) (ms : List ℕ) : Type 0 where
  few : m ≤ n
  same : m ≡ n → is_before ms rest ≡ true

before_parts : (n : ℕ) (rest : List ℕ) (m : ℕ) (ms : List ℕ) → is_before (m ∷ ms) (n ∷ rest) ≡ true → Before n rest m ms
before_parts n rest m ms h = record {
  few = elim (cases_lt n m) [
    | inl less ↦ absurd (both_ways _ (higher_first m n ms rest less) h)
    | inr more ↦ more
  ];
  same = λ e. sym (same_first n ms rest) ∙ subst (λ k. is_before (k ∷ ms) (n ∷ rest) ≡ true) e h;
}

alike : (r t : Reads) (o : Option VarBind) → ((name : List ℕ) → t name ≡ r name) → Begins r o → Begins t o
alike r t None same is = λ other. same other ∙ is other
alike r t (Some b) same is = record {
  value = same b.name ∙ is.value;
  first = λ other h. same other ∙ is.first other h;
}

-- nothing below the first number of a span
skipped : (least count : ℕ) (at : ℕ → Tree) → ((ns : List ℕ) → tree_value (at least) ns ≡ None)
    → (name : List ℕ) → tree_value (Span least (suc count) at) name ≡ tree_value (Span (least + 1) count at) name
skipped least count at none [] = refl
skipped least count at none (n ∷ ns) =
    elim (cases_lt least n) [
      | inl high ↦ later_reads least count n at ns high
      | inr low ↦ elim (cases_lt n least) [
        | inl under ↦ span_under least (suc count) n at ns under ∙ sym (span_under (least + 1) count n at ns (omega arith))
        | inr same ↦
            let is : n ≡ least = omega arith in
            subst (λ k. tree_value (Span least (suc count) at) (k ∷ ns) ≡ tree_value (Span (least + 1) count at) (k ∷ ns)) (sym is)
            (span_reads least (suc count) least at ns (omega arith) (omega arith) ∙ none ns ∙ sym (span_under (least + 1) count least at ns (omega arith)))
      ]
    ]

empty_span : (least : ℕ) (at : ℕ → Tree) (name : List ℕ) → tree_value (Span least 0 at) name ≡ None
empty_span least at [] = refl
empty_span least at (n ∷ ns) = elim (cases_lt n least) [
  | inl under ↦ span_under least 0 n at ns under
  | inr past ↦ span_past least 0 n at ns (omega arith)
]

here : (least count : ℕ) (at : ℕ → Tree) (b : VarBind) → IsFirst (tree_value (at least)) b → IsFirst (tree_value (Span least (suc count) at)) (below least b)
here least count at b is = record {
  value = span_reads least (suc count) least at b.name (omega arith) (omega arith) ∙ is.value;
  first = earlier;
}
  where
    earlier : (other : List ℕ) → is_before other (least ∷ b.name) ≡ true → tree_value (Span least (suc count) at) other ≡ None
    earlier [] h = refl
    earlier (m ∷ ms) h =
        let parts = before_parts least b.name m ms h in
        elim (cases_lt m least) [
          | inl under ↦ span_under least (suc count) m at ms under
          | inr over ↦
              let same : m ≡ least = omega (arith, parts.few) in
              subst (λ k. tree_value (Span least (suc count) at) (k ∷ ms) ≡ None) (sym same)
              (span_reads least (suc count) least at ms (omega arith) (omega arith) ∙ is.first ms (parts.same same))
        ]

one_of : (least count : ℕ) (at : ℕ → Tree) (o more : Option VarBind) → Begins (tree_value (at least)) o → Begins (tree_value (Span (least + 1) count at)) more
    → Begins (tree_value (Span least (suc count) at)) (or_first (option_map (below least) o) more)
one_of least count at (Some b) more is later = here least count at b is
one_of least count at None more is later =
    alike (tree_value (Span (least + 1) count at)) (tree_value (Span least (suc count) at)) more (skipped least count at is) later

begins_from : (at : ℕ → Tree) → ((n : ℕ) → Begins (tree_value (at n)) (tree_first (at n))) → (least count : ℕ)
    → Begins (tree_value (Span least count at)) (first_from (λ n. tree_first (at n)) least count)
begins_from at each least zero = empty_span least at
begins_from at each least (suc count) =
    one_of least count at (tree_first (at least)) (first_from (λ n. tree_first (at n)) (least + 1) count) (each least) (begins_from at each (least + 1) count)

leaf_begins : (value : Option ObjectValue) → Begins (tree_value (Leaf value)) (tree_first (Leaf value))
leaf_begins None = none
  where
    none : (other : List ℕ) → tree_value (Leaf None) other ≡ None
    none [] = refl
    none (n ∷ ns) = refl
leaf_begins (Some value) = record {
  value = refl;
  first = λ other h. absurd (nothing_before other h);
}

pub begins : (tree : Tree) → Begins (tree_value tree) (tree_first tree)
begins (Leaf value) = leaf_begins value
begins (Span least count at) = begins_from at (λ n. begins (at n)) least count

-- ---- what comes next

-- after nothing, what is first is next
next_of_all : (r : Reads) (o : Option VarBind) → r [] ≡ None → Begins r o → Follows r [] o
next_of_all r None none is = λ other h. is other
next_of_all r (Some b) none is = record {
  value = is.value;
  after = some b.name is.value;
  first = λ other h before. is.first other before;
}
  where
    some : (name : List ℕ) → r name ≡ Some b.value → is_before [] name ≡ true
    some [] e = absurd (let wrong : None ≡ Some b.value = sym none ∙ e in cc)
    some (n ∷ ns) e = refl

-- what is first in a span is next after a name below it
next_of_span : (least count n : ℕ) (at : ℕ → Tree) (ns : List ℕ) (o : Option VarBind) → n < least → Begins (tree_value (Span least count at)) o → Follows (tree_value (Span least count at)) (n ∷ ns) o
next_of_span least count n at ns None low is = λ other h. is other
next_of_span least count n at ns (Some b) low is = record {
  value = is.value;
  after = some b.name is.value;
  first = λ other h before. is.first other before;
}
  where
    some : (name : List ℕ) → tree_value (Span least count at) name ≡ Some b.value → is_before (n ∷ ns) name ≡ true
    some [] e = absurd (let wrong : None ≡ Some b.value = e in cc)
    some (m ∷ ms) e = elim (cases_lt n m) [
      | inl high ↦ lower_first n m ns ms high
      | inr under ↦ absurd (let wrong : None ≡ Some b.value = sym (span_under least count m at ms (omega arith)) ∙ e in cc)
    ]

after_alike : (r t : Reads) (name : List ℕ) (o : Option VarBind) → ((other : List ℕ) → is_before name other ≡ true → t other ≡ r other) → Follows r name o → Follows t name o
after_alike r t name None same is = λ other h. same other h ∙ is other h
after_alike r t name (Some b) same is = record {
  value = same b.name is.after ∙ is.value;
  after = is.after;
  first = λ other h before. same other h ∙ is.first other h before;
}

-- ---- after a number of the span

below_next : (least count n : ℕ) (at : ℕ → Tree) (ns : List ℕ) (b : VarBind) → least ≤ n → n < least + count → IsNext (tree_value (at n)) ns b
    → IsNext (tree_value (Span least count at)) (n ∷ ns) (below n b)
below_next least count n at ns b low high is = record {
  value = span_reads least count n at b.name low high ∙ is.value;
  after = same_first n ns b.name ∙ is.after;
  first = between;
}
  where
    between : (other : List ℕ) → is_before (n ∷ ns) other ≡ true → is_before other (n ∷ b.name) ≡ true → tree_value (Span least count at) other ≡ None
    between [] h before = refl
    between (m ∷ ms) h before =
        let under = before_parts n b.name m ms before in
        let over = before_parts m ms n ns h in
        let same : m ≡ n = omega (arith, under.few, over.few) in
        subst (λ k. tree_value (Span least count at) (k ∷ ms) ≡ None) (sym same)
        (span_reads least count n at ms low high ∙ is.first ms (over.same (sym same)) (under.same same))

-- Nothing more is below the number: what is first after it in the span.
past_number : (least count n left : ℕ) (at : ℕ → Tree) (ns : List ℕ) → least ≤ n → least + count ≡ n + 1 + left → ((other : List ℕ) → is_before ns other ≡ true → tree_value (at n) other ≡ None)
    → (other : List ℕ) → is_before (n ∷ ns) other ≡ true → tree_value (Span least count at) other ≡ tree_value (Span (n + 1) left at) other
past_number least count n left at ns low is none [] h = refl
past_number least count n left at ns low is none (m ∷ ms) h =
    let over = before_parts m ms n ns h in
    elim (cases_lt n m) [
      | inl high ↦
          let same : (nat_le least m && nat_lt m (least + count)) ≡ (nat_le (n + 1) m && nat_lt m (n + 1 + left)) = grind (arith, nat_tests) in
          ap (λ b. cond b (tree_value (at m) ms) None) same
      | inr few ↦
          let same : m ≡ n = omega (arith, over.few) in
          subst (λ k. tree_value (Span least count at) (k ∷ ms) ≡ tree_value (Span (n + 1) left at) (k ∷ ms)) (sym same)
          (span_reads least count n at ms low (omega arith) ∙ none ms (over.same (sym same)) ∙ sym (span_under (n + 1) left n at ms (omega arith)))
    ]

after_number : (least count n left : ℕ) (at : ℕ → Tree) (ns : List ℕ) (o more : Option VarBind) → least ≤ n → n < least + count → least + count ≡ n + 1 + left
    → Follows (tree_value (at n)) ns o → Begins (tree_value (Span (n + 1) left at)) more
    → Follows (tree_value (Span least count at)) (n ∷ ns) (or_first (option_map (below n) o) more)
after_number least count n left at ns (Some b) more low high is next later = below_next least count n at ns b low high next
after_number least count n left at ns None more low high is next later =
    after_alike (tree_value (Span (n + 1) left at)) (tree_value (Span least count at)) (n ∷ ns) more (past_number least count n left at ns low is next)
    (next_of_span (n + 1) left n at ns more (omega arith) later)

nothing_past : (least count n : ℕ) (at : ℕ → Tree) (ns : List ℕ) → least + count ≤ n → (other : List ℕ) → is_before (n ∷ ns) other ≡ true → tree_value (Span least count at) other ≡ None
nothing_past least count n at ns high [] h = refl
nothing_past least count n at ns high (m ∷ ms) h =
    let over = before_parts m ms n ns h in
    span_past least count m at ms (omega (arith, over.few))

leaf_ends : (value : Option ObjectValue) (name other : List ℕ) → is_before name other ≡ true → tree_value (Leaf value) other ≡ None
leaf_ends value name [] h = absurd (nothing_before name h)
leaf_ends value name (n ∷ ns) h = refl

-- ---- the three cases of what comes after a number

pub after_under : (least count n : ℕ) (at : ℕ → Tree) (ns : List ℕ) → n < least → tree_after (Span least count at) (n ∷ ns) ≡ first_from (λ n. tree_first (at n)) least count
after_under least count n at ns under = let test : nat_lt n least ≡ true = grind (arith, nat_tests) in rw test refl

pub after_inside : (least count n : ℕ) (at : ℕ → Tree) (ns : List ℕ) → least ≤ n → n < least + count
    → tree_after (Span least count at) (n ∷ ns) ≡ or_first (option_map (below n) (tree_after (at n) ns)) (first_from (λ n. tree_first (at n)) (n + 1) (least + count - (n + 1)))
after_inside least count n at ns low high =
    let one : nat_lt n least ≡ false = grind (arith, nat_tests) in
    let two : nat_lt n (least + count) ≡ true = grind (arith, nat_tests) in
    rw (one, two) refl

pub after_past : (least count n : ℕ) (at : ℕ → Tree) (ns : List ℕ) → least ≤ n → least + count ≤ n → tree_after (Span least count at) (n ∷ ns) ≡ None
after_past least count n at ns low past =
    let one : nat_lt n least ≡ false = grind (arith, nat_tests) in
    let two : nat_lt n (least + count) ≡ false = grind (arith, nat_tests) in
    rw (one, two) refl

-- ---- the walk

span_walk : (least count : ℕ) (at : ℕ → Tree) → ((n : ℕ) → Begins (tree_value (at n)) (tree_first (at n))) → ((n : ℕ) → IsWalk (tree_value (at n)) (tree_after (at n)))
    → (name : List ℕ) → Follows (tree_value (Span least count at)) name (tree_after (Span least count at) name)
span_walk least count at each walks [] = next_of_all (tree_value (Span least count at)) (first_from (λ n. tree_first (at n)) least count) refl (begins_from at each least count)
span_walk least count at each walks (n ∷ ns) =
    elim (cases_lt n least) [
      | inl under ↦
          subst (Follows (tree_value (Span least count at)) (n ∷ ns)) (sym (after_under least count n at ns under))
          (next_of_span least count n at ns (first_from (λ n. tree_first (at n)) least count) under (begins_from at each least count))
      | inr low ↦ elim (cases_lt n (least + count)) [
        | inl high ↦
            let left = least + count - (n + 1) in
            subst (Follows (tree_value (Span least count at)) (n ∷ ns)) (sym (after_inside least count n at ns low high))
            (after_number least count n left at ns (tree_after (at n) ns) (first_from (λ n. tree_first (at n)) (n + 1) left) low high (omega arith)
            (walks n ns) (begins_from at each (n + 1) left))
        | inr past ↦
            subst (Follows (tree_value (Span least count at)) (n ∷ ns)) (sym (after_past least count n at ns low past))
            (nothing_past least count n at ns past)
      ]
    ]

pub tree_walk : (tree : Tree) → IsWalk (tree_value tree) (tree_after tree)
tree_walk (Leaf value) = λ name. leaf_ends value name
tree_walk (Span least count at) = span_walk least count at (λ n. begins (at n)) (λ n. tree_walk (at n))
