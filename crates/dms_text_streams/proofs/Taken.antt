-- A line that is taken part by part.
use Rattle.std.proofs.Common.{◌≡◌, ◌≢◌, ℕ, zero, suc, ◌+◌, ◌-◌, ◌<◌, ◌≤◌, List, [], ◌∷◌, ◌++◌, length, take, drop, Option, Some, None, IfSome, refl, sym, ap, ◌∙◌, subst, arith, append_assoc, take_all, take-append-drop, length-append, length-take}
use Rattle.std.proofs.lemmas.List.Elements.{All-append}
use Rattle.std.proofs.BufReadLemmas.{take_through-append, drop_through-append}
use Rattle.std.specs.Io.KnownBytes.{Keeps, Consumes, IsAtEnd, prepend_known}
use Rattle.dms_text_streams.specs.Lines.{Breaks, Takes, TakesAtMost, Continues, Holds, IsPart, IsLastPart}

-- what was cut already is cut again
take_cut : (limit : ℕ) (xs ys : List ℕ) → take limit (take limit xs ++ ys) ≡ take limit (xs ++ ys)
take_cut zero xs ys = refl
take_cut (suc limit) [] ys = refl
take_cut (suc limit) (x ∷ xs) ys = ap (λ l. x ∷ l) (take_cut limit xs ys)

pub starts : (limit : ℕ) (first : Option (List ℕ)) → Continues limit 0 first [] first
starts limit first = grind (arith, take_all)

-- what was taken before, and the next part
joined : (octets now piece rest part : List ℕ) (n : ℕ) → octets ≡ part ++ now → piece ++ rest ≡ now → octets ≡ (part ++ take n piece) ++ (drop n piece ++ rest)
joined octets now piece rest part n whole kept =
    whole ∙ ap (λ l. part ++ l) (sym kept ∙ ap (λ l. l ++ rest) (sym (take-append-drop n piece)) ∙ append_assoc (take n piece) (drop n piece) rest)
    ∙ sym (append_assoc part (take n piece) (drop n piece ++ rest))

pub one_part_more : (limit count n : ℕ) (first old source : Option (List ℕ)) (piece line longer : List ℕ) → Keeps old (prepend_known piece source) → IsPart piece n → n ≤ length piece
    → longer ≡ take limit (line ++ take n piece) → Continues limit count first line old → Continues limit (count + 1) first longer (prepend_known (drop n piece) source)
one_part_more limit count n None old source piece line longer kept more within held before = tt
one_part_more limit count n (Some octets) None source piece line longer kept more within held before = absurd before
one_part_more limit count n (Some octets) (Some now) None piece line longer kept more within held before = absurd kept
one_part_more limit count n (Some octets) (Some now) (Some rest) piece line longer kept more within held before =
    let part = before.0 in
    let next = take n piece in (
      part ++ next,
      joined octets now piece rest part n before.1 kept,
      All-append (λ (octet : ℕ). octet ≢ 10) part next before.2 more.0,
      held ∙ ap (λ l. take limit (l ++ next)) before.3 ∙ take_cut limit part next,
      omega (arith, more.1, before.4, length-append part next, length-take n piece),
    )

pub last_part : (limit count n : ℕ) (first old source : Option (List ℕ)) (piece line longer : List ℕ) → Keeps old (prepend_known piece source)
    → (piece ≡ [] → IsAtEnd (prepend_known piece source)) → IsLastPart piece n → longer ≡ take limit (line ++ take n piece)
    → Continues limit count first line old → Takes limit first longer (prepend_known (drop n piece) source)
last_part limit count n first old source piece line longer kept end last held before = grind (arith, take_through-append, drop_through-append, take_cut)

-- the same, of what the code has at hand
pub goes_on : (limit count n : ℕ) (first old source after : Option (List ℕ)) (piece shown later line longer : List ℕ) → Keeps old (prepend_known piece source) → shown ≡ piece
    → IsPart shown n → n ≤ length shown → longer ≡ take limit (line ++ take n shown) → later ≡ drop n piece → after ≡ source
    → Continues limit count first line old → Continues limit (count + 1) first longer (prepend_known later after)
goes_on limit count n first old source after piece shown later line longer kept same more within held dropped still before = grind (arith, one_part_more)

pub ends : (limit count n : ℕ) (first old source after : Option (List ℕ)) (piece shown later line longer : List ℕ) → Keeps old (prepend_known piece source) → shown ≡ piece
    → (piece ≡ [] → IsAtEnd (prepend_known piece source)) → IsLastPart shown n → longer ≡ take limit (line ++ take n shown) → later ≡ drop n piece → after ≡ source
    → Continues limit count first line old → Takes limit first longer (prepend_known later after)
ends limit count n first old source after piece shown later line longer kept same end last held dropped still before = grind (arith, last_part)

pub nothing_held : (limit : ℕ) (first : Option (List ℕ)) → Holds limit first [] first
nothing_held limit first = grind arith

-- what is held below a limit is what a greater one would hold
continues : (limit : ℕ) (first now : Option (List ℕ)) (line : List ℕ) → Holds limit first line now → Continues (limit + 1) 0 first line now
continues limit first now line before = grind (arith, take_all)

-- a part that fits
fitting : (limit : ℕ) (line : List ℕ) → length line ≤ limit → line ≡ take (limit + 1) line
fitting limit line short = grind (arith, take_all)

-- a part for which there is room is held whole
whole_part : (limit n : ℕ) (line piece : List ℕ) → length line ≤ limit → n ≤ limit - length line
    → (take limit (line ++ take n piece) ≡ line ++ take n piece) × (length (line ++ take n piece) ≤ limit)
whole_part limit n line piece short fits =
    let bound : length (line ++ take n piece) ≤ limit = omega (arith, length-append line (take n piece), length-take n piece) in
    (take_all limit (line ++ take n piece) bound, bound)

held_more : (limit n : ℕ) (first old source : Option (List ℕ)) (piece line : List ℕ) → Keeps old (prepend_known piece source) → IsPart piece n
    → length (line ++ take n piece) ≤ limit → Holds limit first line old → Holds limit first (line ++ take n piece) (prepend_known (drop n piece) source)
held_more limit n None old source piece line kept more short before = tt
held_more limit n (Some octets) None source piece line kept more short before = absurd before
held_more limit n (Some octets) (Some now) None piece line kept more short before = absurd kept
held_more limit n (Some octets) (Some now) (Some rest) piece line kept more short before =
    (joined octets now piece rest line n before.0 kept, All-append (λ (octet : ℕ). octet ≢ 10) line (take n piece) before.1 more.0, short)

-- the same, of what the code has at hand
pub holds_more : (limit n len : ℕ) (first old source after : Option (List ℕ)) (piece shown later line longer : List ℕ) → Keeps old (prepend_known piece source) → shown ≡ piece
    → IsPart shown n → length line ≤ limit → len ≡ length line → n ≤ limit - len → longer ≡ take limit (line ++ take n shown) → later ≡ drop n piece → after ≡ source
    → Holds limit first line old → Holds limit first longer (prepend_known later after)
holds_more limit n len first old source after piece shown later line longer kept same more short count fits held dropped still before =
    let whole = whole_part limit n line shown short (subst (λ c. n ≤ limit - c) count fits) in
    let all = held_more limit n first old source piece line kept (subst (λ p. IsPart p n) same more) (subst (λ p. length (line ++ take n p) ≤ limit) same whole.1) before in
    subst (λ l. Holds limit first l (prepend_known later after)) (ap (λ p. line ++ take n p) (sym same) ∙ sym (held ∙ whole.0))
    (subst (λ s. Holds limit first (line ++ take n piece) (prepend_known later s)) (sym still)
    (subst (λ r. Holds limit first (line ++ take n piece) (prepend_known r source)) (sym dropped) all))

pub ends_within : (limit n len : ℕ) (first old source after : Option (List ℕ)) (piece shown later line longer : List ℕ) → Keeps old (prepend_known piece source) → shown ≡ piece
    → (piece ≡ [] → IsAtEnd (prepend_known piece source)) → IsLastPart shown n → length line ≤ limit → len ≡ length line → n ≤ limit - len → longer ≡ take limit (line ++ take n shown)
    → later ≡ drop n piece → after ≡ source → Holds limit first line old → Takes (limit + 1) first longer (prepend_known later after)
ends_within limit n len first old source after piece shown later line longer kept same end last short count fits held dropped still before =
    let whole = whole_part limit n line shown short (subst (λ c. n ≤ limit - c) count fits) in
    ends (limit + 1) 0 n first old source after piece shown later line longer kept same end last
    (held ∙ whole.0 ∙ fitting limit (line ++ take n shown) whole.1) dropped still (continues limit first old line before)

-- a part that does not fit shows that there are more octets than the limit
pub past_limit : (limit n : ℕ) (old source : Option (List ℕ)) (piece shown line : List ℕ) → Keeps old (prepend_known piece source) → shown ≡ piece
    → n ≤ length shown → length line ≤ limit → limit - length line < n → IfSome old (λ octets. limit < length line + length octets)
past_limit limit n old source piece shown line kept same within short more = grind (arith, length-append)

pub past_all : (limit : ℕ) (first now : Option (List ℕ)) (line : List ℕ) → Holds limit first line now → IfSome now (λ octets. limit < length line + length octets)
    → IfSome first (λ octets. limit < length octets)
past_all limit first now line before more = grind (arith, length-append)

-- where the next part does not come, what is held is lost
pub lost : (limit : ℕ) (first old now : Option (List ℕ)) (line : List ℕ) → Holds limit first line old → Keeps old now → TakesAtMost limit first now
lost limit first old now line before kept = grind arith

-- what was read, and one piece more
pub lost_piece : (limit n : ℕ) (first now after : Option (List ℕ)) (octets piece : List ℕ) → Consumes first now octets → Consumes now after (take n piece)
    → length octets ≤ limit → length piece ≡ 4096 → TakesAtMost (limit + 4096) first after
lost_piece limit n None now after octets piece read more short size = tt
lost_piece limit n (Some all) None after octets piece read more short size = absurd read
lost_piece limit n (Some all) (Some rest) None octets piece read more short size = absurd more
lost_piece limit n (Some all) (Some rest) (Some later) octets piece read more short size = (
  octets ++ take n piece,
  read ∙ ap (λ l. octets ++ l) more ∙ sym (append_assoc octets (take n piece) later),
  omega (arith, length-append octets (take n piece), length-take n piece),
)

-- where the next part does not come, a part of a line is taken
pub breaks : (limit count : ℕ) (first old now : Option (List ℕ)) (line : List ℕ) → Continues limit count first line old → Keeps old now → Breaks first now
breaks limit count first old now line before kept = grind arith

-- where no part is asked for any more, a part of a line is taken
pub stops : (limit count : ℕ) (first now : Option (List ℕ)) (line : List ℕ) → Continues limit count first line now → Breaks first now
stops limit count first now line before = grind arith

-- so many parts have as many octets, or more
pub as_many : (limit count : ℕ) (first now : Option (List ℕ)) (line : List ℕ) → Continues limit count first line now → IfSome first (λ octets. count ≤ length octets)
as_many limit count first now line before = grind (arith, length-append)
