-- The digits of octets are those of the first of them, and then those of the others.
use Rattle.std.proofs.Common.{◌≡◌, ℕ, ◌+◌, ◌*◌, ◌-◌, ◌<◌, List, [], ◌∷◌, ◌++◌, ◌≤◌, length, take, drop, get_or, refl, sym, ap, ◌∙◌, subst, append_assoc, append-nil, arith, rules, length-take, length-drop}
use Rattle.std.proofs.lemmas.List.{take-append-drop, take_all, get_or-take}
use Rattle.std.proofs.lemmas.Slice.Eq.{text_from_reads}
use Rattle.std.specs.Prelude.{slice_index, ◌/◌, ◌%◌}
use Rattle.hex.specs.Hex.{encode_with, encode_lower, lower_digits}
use Rattle.dms_text_filling.specs.Filling.{most_counted, Puts}
use Rattle.dms_text_filling.specs.Filling.{laid}
use Rattle.dms_text_filling.proofs.Laid.{laid_within}
use Rattle.dms_text_filling.proofs.Parts.{two, nothing, same}
use Rattle.dms_text_filling.proofs.Pairs.{digits_of_one_more, no_digits_of_none}
use borrow.Rule.Slice.PartMut.{put_mid}

pub encode_append : (table first others : List ℕ) → encode_with table (first ++ others) ≡ encode_with table first ++ encode_with table others
unfolding encode_with
encode_append table [] others = refl
encode_append table (octet ∷ first) others =
    ap (λ rest. slice_index table (octet / 16) ∷ slice_index table (octet % 16) ∷ rest) (encode_append table first others)

-- the digits of the first octets are put, and those of the rest are not
abbrev pub Begun : (octets rest : List ℕ) (from : ℕ) (before : List ℕ) (to : ℕ) (after : List ℕ) → Type 0
Begun octets rest from before to after = (done : List ℕ) × (done ++ rest ≡ octets) × Puts (encode_lower done) from before to after

-- and each digit that is left has its place
pub record IsPut (octets rest : List ℕ) (from : ℕ) (before : List ℕ) (to : ℕ) (after : List ℕ) : Type 0 where
  pub begun : Begun octets rest from before to after
  pub short : to + 2 * length rest ≤ from + 2 * length octets

-- none are put yet
pub no_digits : (octets : List ℕ) (place : ℕ) (buffer : List ℕ) → place ≤ most_counted → length buffer ≤ most_counted
    → Begun octets octets place buffer place buffer
unfolding encode_with
no_digits octets place buffer counts reach = ([], refl, nothing place buffer counts reach)

-- more digits are put
pub more_digits : (octets rest others few : List ℕ) (count from to next : ℕ) (before after last : List ℕ) → Begun octets rest from before to after
    → few ≡ take count rest → others ≡ drop count rest → Puts (encode_lower few) to after next last → Begun octets others from before next last
more_digits octets rest others few count from to next before after last begun front back more = (
  begun.0 ++ few,
  append_assoc begun.0 few others ∙ ap (λ few. begun.0 ++ (few ++ others)) front ∙ ap (λ others. begun.0 ++ (take count rest ++ others)) back
      ∙ ap (λ rest. begun.0 ++ rest) (take-append-drop count rest) ∙ begun.1,
  subst (λ digits. Puts digits from before next last) (sym (encode_append lower_digits begun.0 few)) (two begun.2 more),
)

-- the first eight of a list
abbrev pub first_eight : List ℕ → List ℕ
first_eight xs = get_or xs 0 0 ∷ get_or xs 1 0 ∷ get_or xs 2 0 ∷ get_or xs 3 0 ∷ get_or xs 4 0 ∷ get_or xs 5 0 ∷ get_or xs 6 0 ∷ get_or xs 7 0 ∷ []

pub eight_are : (xs : List ℕ) → 8 ≤ length xs → first_eight xs ≡ take 8 xs
eight_are xs h = sym (text_from_reads (take 8 xs) (first_eight xs) (omega (arith, length-take 8 xs)) (search (rules, get_or-take)))

pub one_is : (xs : List ℕ) → 1 ≤ length xs → get_or xs 0 0 ∷ [] ≡ take 1 xs
one_is xs h = sym (text_from_reads (take 1 xs) (get_or xs 0 0 ∷ []) (omega (arith, length-take 1 xs)) (search (rules, get_or-take)))

pub others_are : (count : ℕ) (xs : List ℕ) → take (length xs - count) (drop count xs) ≡ drop count xs
others_are count xs = take_all (length xs - count) (drop count xs) (omega (arith, length-drop count xs))

pub eight_more : (octets rest : List ℕ) (from to next : ℕ) (before after last : List ℕ) → 8 ≤ length rest → Begun octets rest from before to after
    → Puts (encode_lower (first_eight rest)) to after next last → Begun octets (take (length rest - 8) (drop 8 rest)) from before next last
eight_more octets rest from to next before after last some begun put =
    more_digits octets rest (take (length rest - 8) (drop 8 rest)) (first_eight rest) 8 from to next before after last begun (eight_are rest some) (others_are 8 rest) put

pub one_more : (octets rest digits : List ℕ) (high low from to next : ℕ) (before after last : List ℕ) → 1 ≤ length rest → Begun octets rest from before to after
    → high ≡ slice_index lower_digits (get_or rest 0 0 / 16) → low ≡ slice_index lower_digits (get_or rest 0 0 % 16)
    → digits ≡ high ∷ low ∷ [] → Puts digits to after next last → Begun octets (take (length rest - 1) (drop 1 rest)) from before next last
one_more octets rest digits high low from to next before after last some begun first second are put =
    more_digits octets rest (take (length rest - 1) (drop 1 rest)) (get_or rest 0 0 ∷ []) 1 from to next before after last begun (one_is rest some) (others_are 1 rest)
    (same (are ∙ digits_of_one_more (get_or rest 0 0) high low [] [] first second no_digits_of_none) put)

-- no more are left
pub all_digits : (octets rest : List ℕ) (from to : ℕ) (before after : List ℕ) → length rest < 1 → Begun octets rest from before to after
    → Puts (encode_lower octets) from before to after
all_digits octets [] from to before after none begun = subst (λ octets. Puts (encode_lower octets) from before to after) (sym (append-nil begun.0) ∙ begun.1) begun.2
all_digits octets (octet ∷ rest) from to before after none begun = absurd (omega (arith, none))

sixteen_laid : (place size : ℕ) (digits buffer : List ℕ) → length digits ≡ 16 → place + 16 ≤ length buffer → size ≡ 16
    → put_mid place size buffer digits ≡ laid place digits buffer
sixteen_laid place size digits buffer long room is =
    ap (put_mid place size buffer) (sym (take_all 16 digits (omega (arith, long))))
    ∙ laid_within place 16 size digits buffer (omega (arith, room)) (omega (arith, long, room)) is

-- the digits of eight octets are put where they all have a place
pub sixteen_put : (place size to : ℕ) (octets digits part buffer : List ℕ) → digits ≡ encode_lower octets → part ≡ digits → length digits ≡ 16
    → place + 16 ≤ length buffer → size ≡ 16 → to ≡ place + 16 → length buffer ≤ most_counted
    → Puts (encode_lower octets) place buffer to (put_mid place size buffer part)
sixteen_put place size to octets digits part buffer are copied long room is there reach = same are (record {
  place = omega (arith, long, room, there, reach);
  buffer = ap (put_mid place size buffer) copied ∙ sixteen_laid place size digits buffer long room is;
  reach = reach;
})
