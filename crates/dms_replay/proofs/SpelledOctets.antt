-- The lines and the words of a text of octets are octets, and so is what they spell.
use Rattle.std.proofs.Common.{◌≡◌, ℕ, zero, suc, ◌+◌, ◌-◌, ◌*◌, ◌<◌, ◌==◌, ◌%◌, Bool, true, false, cond, not, List, [], ◌∷◌, length, take, filter, slice_index, Option, Some, None, Result, Ok, Err, refl, subst, arith}
use Rattle.std.specs.List.{AllByRecursion, slice_split, onto_first}
use Rattle.std.specs.Int.Digits.{AllBelowBase}
use Rattle.std.specs.Str.Lines.{lines, lines_of_parts, strip_carriage_return}
use Rattle.std.proofs.lemmas.Bool.Decides.{nat_tests}
use Rattle.hex.specs.Hex.{decode_pairs, pair_value, value_at, digit_or_error, hex_digit_value, ◌>>=◌}
use Rattle.hex.specs.declared.error.FromHexError.{FromHexError}
use Rattle.hex.specs.declared.error.FromHexError.TheVariants.{OddLength}
use Rattle.dms_text.specs.Lines.{kept_lines, is_skipped}
use Rattle.dms_text.specs.Words.{words_of}
use Rattle.dms_text.specs.Octets.{SpellsOctets}

abbrev Octets : List ℕ → Type 0
Octets xs = AllBelowBase 256 xs

abbrev Each : List (List ℕ) → Type 0
Each lists = AllByRecursion Octets lists

-- ---- a list that is cut

onto : (x : ℕ) (parts : List (List ℕ)) → x < 256 → Each parts → Each (onto_first x parts)
onto x [] is all = ((is, tt), tt)
onto x (part ∷ parts) is all = ((is, all.0), all.1)

cut : (p : ℕ → Bool) (xs : List ℕ) → Octets xs → Each (slice_split p xs)
cut p [] all = (tt, tt)
cut p (x ∷ xs) all = elim (p x) as (λ b. Each (cond b ([] ∷ slice_split p xs) (onto_first x (slice_split p xs)))) [
  | true ↦ (tt, cut p xs all.1)
  | false ↦ onto x (slice_split p xs) all.0 (cut p xs all.1)
]

prefix : (n : ℕ) (xs : List ℕ) → Octets xs → Octets (take n xs)
prefix zero xs all = tt
prefix (suc n) [] all = tt
prefix (suc n) (x ∷ xs) all = (all.0, prefix n xs all.1)

-- ---- lines

if_cut : (test : Bool) (n : ℕ) (xs : List ℕ) → Octets xs → Octets (cond test (take n xs) xs)
if_cut true n xs all = prefix n xs all
if_cut false n xs all = all

stripped : (line : List ℕ) → Octets line → Octets (strip_carriage_return line)
stripped line all = if_cut (slice_index line (length line - 1) == 13) (length line - 1) line all

if_empty : (test : Bool) (line : List ℕ) → Octets line → Each (cond test [] (line ∷ []))
if_empty true line all = tt
if_empty false line all = (all, tt)

of_parts : (parts : List (List ℕ)) → Each parts → Each (lines_of_parts parts)
of_parts [] all = tt
of_parts (part ∷ []) all = if_empty (length part == 0) part all.0
of_parts (part ∷ next ∷ parts) all = (stripped part all.0, of_parts (next ∷ parts) all.1)

if_kept : (test : Bool) (line : List ℕ) (kept : List (List ℕ)) → Octets line → Each kept → Each (cond test (line ∷ kept) kept)
if_kept true line kept is all = (is, all)
if_kept false line kept is all = all

those_kept : (all_lines : List (List ℕ)) → Each all_lines → Each (filter (λ line. not (is_skipped line)) all_lines)
those_kept [] all = tt
those_kept (line ∷ more) all = if_kept (not (is_skipped line)) line (filter (λ line. not (is_skipped line)) more) all.0 (those_kept more all.1)

pub lines_are_octets : (text : List ℕ) → AllBelowBase 256 text → AllByRecursion (AllBelowBase 256) (kept_lines text)
lines_are_octets text all = those_kept (lines text) (of_parts (slice_split (λ (o : ℕ). o == 10) text) (cut (λ (o : ℕ). o == 10) text all))

-- ---- words

pub words_are_octets : (line : List ℕ) → AllBelowBase 256 line → AllByRecursion (AllBelowBase 256) (words_of line)
words_are_octets line all = cut (λ (o : ℕ). o == 32) line all

-- ---- pairs of digits

digit_below : (c value : ℕ) → hex_digit_value c ≡ Some value → value < 16
digit_below c value e = grind (arith, nat_tests, e)

found_digit : (c i value : ℕ) (digit : Option ℕ) → digit_or_error c i digit ≡ Ok value → digit ≡ Some value
found_digit c i value None e = absurd (cc)
found_digit c i value (Some v) e = cc

digit : (c i value : ℕ) → value_at c i ≡ Ok value → value < 16
digit c i value e = digit_below c value (found_digit c i value (hex_digit_value c) e)

two_digits : (high low : Result ℕ FromHexError) (value : ℕ) → ((h : ℕ) → high ≡ Ok h → h < 16) → ((l : ℕ) → low ≡ Ok l → l < 16)
    → (high >>= λ h. low >>= λ l. Ok (h * 16 + l)) ≡ Ok value → value < 256
two_digits (Err fault) low value big small e = absurd (cc)
two_digits (Ok h) (Err fault) value big small e = absurd (cc)
two_digits (Ok h) (Ok l) value big small e =
    let is : h * 16 + l ≡ value = cc in
    omega (arith, big h refl, small l refl, is)

one_more : (first : Result ℕ FromHexError) (others : Result (List ℕ) FromHexError) (octets : List ℕ) → ((value : ℕ) → first ≡ Ok value → value < 256)
    → ((rest : List ℕ) → others ≡ Ok rest → Octets rest) → (first >>= λ byte. others >>= λ bytes. Ok (byte ∷ bytes)) ≡ Ok octets → Octets octets
one_more (Err fault) others octets is are e = absurd (cc)
one_more (Ok byte) (Err fault) octets is are e = absurd (cc)
one_more (Ok byte) (Ok bytes) octets is are e =
    let same : byte ∷ bytes ≡ octets = cc in
    subst Octets same (is byte refl, are bytes refl)

pairs : (i : ℕ) (text octets : List ℕ) → decode_pairs i text ≡ Ok octets → Octets octets
unfolding decode_pairs
pairs i [] octets e =
    let none : [] ≡ octets = cc in
    subst Octets none tt
pairs i (digit ∷ []) octets e = absurd (cc)
pairs i (high ∷ low ∷ rest) octets e =
    one_more (pair_value high low i) (decode_pairs (i + 2) rest) octets
    (λ value is. two_digits (value_at high i) (value_at low (i + 1)) value (λ h found. digit high i h found) (λ l found. digit low (i + 1) l found) is)
    (λ others found. pairs (i + 2) rest others found) e

if_odd : (test : Bool) (text octets : List ℕ) → ◌≡◌ {A = Result (List ℕ) FromHexError} (cond test (Err OddLength) (decode_pairs 0 text)) (Ok octets) → Octets octets
if_odd true text octets e = absurd (cc)
if_odd false text octets e = pairs 0 text octets e

pub spelled_octets : (octets word : List ℕ) → SpellsOctets octets word → AllBelowBase 256 octets
spelled_octets [] word spelled = tt
spelled_octets (octet ∷ octets) word spelled = if_odd (length word % 2 == 1) word (octet ∷ octets) spelled
