-- The first line of some octets, and a line of which the end is not held.
use Rattle.std.proofs.Common.{◌≡◌, ℕ, ◌+◌, ◌-◌, ◌<◌, ◌≤◌, ◌==◌, Bool, true, false, cond, List, [], ◌∷◌, ◌++◌, length, take, drop, Option, Some, None, refl, sym, ap, ◌∙◌, arith, append-nil, take_all, nat_lt, length-append, length-take, ne_eqb, if◌then◌else◌}
use Rattle.std.specs.List.{position, slice_split, slice_index}
use Rattle.std.specs.Io.BufRead.{take_through, drop_through}
use Rattle.std.specs.Str.Lines.{lines, strip_carriage_return}
use Rattle.std.proofs.lemmas.List.{take_rest}
use Rattle.std.proofs.lemmas.Bool.Decides.{nat_tests}
use Rattle.std.proofs.Math.Seq.{take-append_seam, get_or-append_seam}
use Rattle.std.proofs.BufReadLemmas.{take_through-append, drop_through-append}
use Rattle.dms_text.proofs.Splits.{first_part, only_part}
use Rattle.dms_text.proofs.LineLaws.{line_first, line_only}
use Rattle.dms_text_streams.specs.Lines.{line_of}
use Rattle.dms_text_streams.specs.Conversation.{longest_line, bad_line, answered, left_by}
use Rattle.dms_text_streams.proofs.Parts.{is_newline, no_newline, part_ends, through_newline}

ended : (line : List ℕ) → line_of (line ++ 10 ∷ []) ≡ strip_carriage_return line
ended line =
    let octets = line ++ 10 ∷ [] in
    let last : length octets - 1 ≡ length line = omega (arith, length-append line (10 ∷ [])) in
    ap (λ n. if slice_index octets n == 10 then strip_carriage_return (take n octets) else octets) last
    ∙ ap (λ x. if x == 10 then strip_carriage_return (take (length line) octets) else octets) (get_or-append_seam line 10 [] 0)
    ∙ ap strip_carriage_return (take-append_seam line (10 ∷ []))

unended : (octets : List ℕ) → (slice_index octets (length octets - 1) == 10) ≡ false → line_of octets ≡ octets
unended octets tested = ap (λ b. cond b (strip_carriage_return (take (length octets - 1) octets)) octets) tested

taken_at : (octets : List ℕ) (n : ℕ) → position is_newline octets ≡ Some n
    → (take_through 10 octets ≡ take (n + 1) octets) × (drop_through 10 octets ≡ drop (n + 1) octets)
taken_at octets n found =
    let taken = part_ends octets n found [] (λ _. refl) in (
      ap (take_through 10) (sym (append-nil octets)) ∙ taken.0,
      ap (drop_through 10) (sym (append-nil octets)) ∙ taken.1 ∙ append-nil (drop (n + 1) octets),
    )

-- up to and with the first newline
pub to_newline : (octets : List ℕ) (n : ℕ) → position is_newline octets ≡ Some n → take_through 10 octets ≡ take n octets ++ 10 ∷ []
to_newline octets n found = (taken_at octets n found).0 ∙ through_newline octets n found

-- without a newline all is taken
pub to_end : (octets : List ℕ) → position is_newline octets ≡ None → (take_through 10 octets ≡ octets) × (drop_through 10 octets ≡ [])
to_end octets none =
    let all = no_newline octets none in (
      ap (take_through 10) (sym (append-nil octets)) ∙ take_through-append 10 octets [] all ∙ append-nil octets,
      ap (drop_through 10) (sym (append-nil octets)) ∙ drop_through-append 10 octets [] all,
    )

first_at : (octets : List ℕ) → 0 < length octets → (place : Option ℕ) → position is_newline octets ≡ place
    → lines octets ≡ line_of (take_through 10 octets) ∷ lines (drop_through 10 octets)
first_at octets some (Some n) found =
    let through = to_newline octets n found in
    let after = (taken_at octets n found).1 in
    line_first octets (take n octets) (drop (n + 1) octets) (first_part is_newline octets n found ∙ ap (λ l. take n octets ∷ slice_split is_newline l) (take_rest octets (n + 1)))
    ∙ ap (λ l. l ∷ lines (drop (n + 1) octets)) (sym (ended (take n octets)))
    ∙ ap (λ l. line_of l ∷ lines (drop (n + 1) octets)) (sym through) ∙ ap (λ l. line_of (take_through 10 octets) ∷ lines l) (sym after)
first_at octets some None none = grind (arith, to_newline, taken_at, line_first, first_part, is_newline, take_rest, ended, no_newline, to_end, unended, ne_eqb, line_only, only_part)

-- the first line, and the lines after it
pub first_line_is : (octets : List ℕ) → 0 < length octets → lines octets ≡ line_of (take_through 10 octets) ∷ lines (drop_through 10 octets)
first_line_is octets some = first_at octets some (position is_newline octets) refl

-- at least one octet is taken
pub shorter : (octets : List ℕ) → 0 < length octets → length (drop_through 10 octets) < length octets
shorter [] some = absurd (omega arith)
shorter (x ∷ octets) some = elim (x == 10) as (λ b. length (cond b octets (drop_through 10 octets)) < length (x ∷ octets)) [
  | true ↦ omega arith
  | false ↦ omega (arith, no_longer octets)
]
  where
    no_longer : (xs : List ℕ) → length (drop_through 10 xs) ≤ length xs
    no_longer [] = omega arith
    no_longer (y ∷ ys) = elim (y == 10) as (λ b. length (cond b ys (drop_through 10 ys)) ≤ length (y ∷ ys)) [
      | true ↦ omega arith
      | false ↦ omega (arith, no_longer ys)
    ]

stripped : (line : List ℕ) → length line ≤ length (strip_carriage_return line) + 1
stripped line = grind (arith, length-take)

-- a line has at most two octets less than it has with its newline
line_length : (octets : List ℕ) → length octets ≤ length (line_of octets) + 2
line_length octets = grind (arith, length-take, stripped)

too_long : (octets : List ℕ) → 65539 ≤ length octets → nat_lt longest_line (length (line_of octets)) ≡ true
too_long octets long = let most = line_length octets in grind (arith, nat_tests)

-- what is made of a line that is not too long, and of none that is, does not depend on the end of one that is
cut_alike : {A : Type 0} (none : A) (made : List ℕ → A) (octets : List ℕ) (short : Bool) → nat_lt (length octets) 65539 ≡ short
    → cond (nat_lt longest_line (length (line_of (take 65539 octets)))) none (made (line_of (take 65539 octets)))
    ≡ cond (nat_lt longest_line (length (line_of octets))) none (made (line_of octets))
cut_alike none made octets true short =
    ap (λ l. cond (nat_lt longest_line (length (line_of l))) none (made (line_of l))) (take_all 65539 octets (grind (arith, nat_tests)))
cut_alike none made octets false long =
    let most : 65539 ≤ length octets = grind (arith, nat_tests) in
    let cut = line_of (take 65539 octets) in
    ap (λ b. cond b none (made cut)) (too_long (take 65539 octets) (omega (arith, length-take 65539 octets)))
    ∙ sym (ap (λ b. cond b none (made (line_of octets))) (too_long octets most))

pub cut_is_answered : {S : Type 0} (reply : S → List ℕ → List ℕ) (state : S) (octets : List ℕ) (short : Bool) → nat_lt (length octets) 65539 ≡ short
    → answered reply state (line_of (take 65539 octets)) ≡ answered reply state (line_of octets)
cut_is_answered reply state octets short size = cut_alike bad_line (reply state) octets short size

pub cut_leaves : {S : Type 0} (after : S → List ℕ → S) (state : S) (octets : List ℕ) (short : Bool) → nat_lt (length octets) 65539 ≡ short
    → left_by after state (line_of (take 65539 octets)) ≡ left_by after state (line_of octets)
cut_leaves after state octets short size = cut_alike state (after state) octets short size
