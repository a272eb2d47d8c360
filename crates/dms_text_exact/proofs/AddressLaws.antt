-- Addresses are read of four numbers without a needless zero, and of nothing else.
use Rattle.std.proofs.Common.{◌≡◌, ℕ, suc, ◌<◌, ◌≤◌, ◌^◌, ◌||◌, Bool, true, false, cond, List, [], ◌∷◌, ◌++◌, length, get_or, Some, None, codes, decimal, refl, sym, ap, subst, ◌∙◌, append_assoc, append-nil, arith}
use Rattle.std.specs.List.{list_any, flat_map, join_with_byte}
use Rattle.std.specs.Int.Digits.{AllBelowBase}
use Rattle.std.proofs.lemmas.Bool.{or_from, or_parts, ne_eqb}
use Rattle.std.proofs.lemmas.List.{length-append}
use Rattle.hex.specs.Hex.{IsBytes}
use Rattle.dms_wire_ber.specs.NameText.{dotted}
use Rattle.dms_text.specs.Words.{parts_of}
use Rattle.dms_text.specs.Reading.{decimal_at}
use Rattle.dms_text.proofs.WordLaws.{begun, goes_on, numeral_found, numeral_only}
use Rattle.dms_text_forms.specs.FieldsReading.{address_at, address_of}
use Rattle.dms_text_forms.proofs.WordReading.{last_found}
use Rattle.dms_text_exact.specs.ExactWords.{has_needless_zero, address_in}
use Rattle.dms_text_exact.specs.Fronts.{IsFree}
use Rattle.dms_text_exact.proofs.Tests.{if_false}
use Rattle.dms_text_exact.proofs.FrontLaws.{free_append, part_first, part_only, joined}
use Rattle.dms_text_exact.proofs.DigitLaws.{bytes_more}
use Rattle.dms_text_exact.proofs.NumberLaws.{written, no_needless_zero, spells_number, decimal_free, decimal_some}

-- ---- four numbers

abbrev pub four_dotted : ℕ → ℕ → ℕ → ℕ → List ℕ
four_dotted a b c d = decimal a ++ 46 ∷ (decimal b ++ 46 ∷ (decimal c ++ 46 ∷ decimal d))

four_is : (a b c d : ℕ) → dotted (a ∷ b ∷ c ∷ d ∷ []) ≡ four_dotted a b c d
four_is a b c d = ap (λ last. decimal a ++ 46 ∷ (decimal b ++ 46 ∷ (decimal c ++ 46 ∷ last))) (append-nil (decimal d))

pub record IsFour (address : List ℕ) : Type 0 where
  pub a : ℕ
  pub b : ℕ
  pub c : ℕ
  pub d : ℕ
  pub is : address ≡ a ∷ b ∷ c ∷ d ∷ []
  pub a_small : a < 256
  pub b_small : b < 256
  pub c_small : c < 256
  pub d_small : d < 256

pub four_of : (address : List ℕ) → length address ≡ 4 → IsBytes address → IsFour address
four_of [] four all = absurd (omega (arith, four))
four_of (a ∷ []) four all = absurd (omega (arith, four))
four_of (a ∷ b ∷ []) four all = absurd (omega (arith, four))
four_of (a ∷ b ∷ c ∷ []) four all = absurd (omega (arith, four))
four_of (a ∷ b ∷ c ∷ d ∷ []) four all =
    record { a = a; b = b; c = c; d = d; is = refl; a_small = all 0; b_small = all 1; c_small = all 2; d_small = all 3 }
four_of (a ∷ b ∷ c ∷ d ∷ e ∷ more) four all = absurd (omega (arith, four))

pub dotted_is : (address : List ℕ) (four : IsFour address) → dotted address ≡ four_dotted four.a four.b four.c four.d
dotted_is address four = ap dotted four.is ∙ four_is four.a four.b four.c four.d

-- ---- zeros in parts

abbrev AreZeros : List ℕ → List ℕ → Type 0
AreZeros word rest = list_any has_needless_zero (parts_of 46 word) ≡ list_any has_needless_zero (parts_of 46 rest)

pub zero_here : (word rest part more : List ℕ) (zero : Bool) → parts_of 46 rest ≡ part ∷ parts_of 46 more → zero ≡ has_needless_zero part → zero ≡ true → AreZeros word rest
    → zero ≡ list_any has_needless_zero (parts_of 46 word)
zero_here word rest part more zero are is holds before =
    holds ∙ ap (λ b. b || list_any has_needless_zero (parts_of 46 more)) (sym (sym is ∙ holds)) ∙ sym (before ∙ ap (λ parts. list_any has_needless_zero parts) are)

pub none_here : (word rest part more : List ℕ) (zero : Bool) → parts_of 46 rest ≡ part ∷ parts_of 46 more → zero ≡ has_needless_zero part → zero ≡ false → AreZeros word rest
    → AreZeros word more
none_here word rest part more zero are is fails before =
    before ∙ ap (λ parts. list_any has_needless_zero parts) are ∙ ap (λ b. b || list_any has_needless_zero (parts_of 46 more)) (sym is ∙ fails)

or_none : (b : Bool) → b ≡ (b || false)
or_none true = refl
or_none false = refl

pub zero_last : (word rest : List ℕ) (zero : Bool) → parts_of 46 rest ≡ rest ∷ [] → zero ≡ has_needless_zero rest → AreZeros word rest
    → zero ≡ list_any has_needless_zero (parts_of 46 word)
zero_last word rest zero are is before =
    is ∙ or_none (has_needless_zero rest) ∙ sym (before ∙ ap (λ parts. list_any has_needless_zero parts) are)

pub ruleset zeros = (zero_here, none_here, zero_last)

-- ---- what is read

four_bytes : (a b c d : ℕ) → a ≤ 255 → b ≤ 255 → c ≤ 255 → d ≤ 255 → IsBytes (a ∷ b ∷ c ∷ d ∷ [])
four_bytes a b c d sa sb sc sd =
    bytes_more a (b ∷ c ∷ d ∷ []) (omega (arith, sa)) (bytes_more b (c ∷ d ∷ []) (omega (arith, sb)) (bytes_more c (d ∷ []) (omega (arith, sc)) (bytes_more d [] (omega (arith, sd)) (λ i. omega arith))))

pub record AddressRead (address word : List ℕ) : Type 0 where
  pub size : length address ≡ 4
  pub bytes : IsBytes address
  pub word_is : word ≡ dotted address

of_parts : (word address : List ℕ) → list_any has_needless_zero (parts_of 46 word) ≡ false → address_of word ≡ Some address → AddressRead address word
unfolding address_at
of_parts word address none e =
    let parts = parts_of 46 word in
    let one = begun _ _ _ e in
    let two = begun _ _ _ one.2 in
    let three = begun _ _ _ two.2 in
    let four = begun _ _ _ three.2 in
    let a = numeral_found 3 0 255 parts one.0 one.1 in
    let b = numeral_found 3 0 255 one.0.1 two.0 two.1 in
    let c = numeral_found 3 0 255 two.0.1 three.0 three.1 in
    let d = numeral_found 3 0 255 three.0.1 four.0 four.1 in
    let end = last_found (one.0.0 ∷ two.0.0 ∷ three.0.0 ∷ four.0.0 ∷ []) four.0.1 address four.2 in
    let are : parts ≡ a.word ∷ b.word ∷ c.word ∷ d.word ∷ [] =
    a.words_are ∙ ap (λ rest. a.word ∷ rest) (b.words_are ∙ ap (λ rest. b.word ∷ rest) (c.words_are ∙ ap (λ rest. c.word ∷ rest)
    (d.words_are ∙ ap (λ rest. d.word ∷ rest) end.0))) in
    let free : list_any has_needless_zero (a.word ∷ b.word ∷ c.word ∷ d.word ∷ []) ≡ false = ap (λ parts. list_any has_needless_zero parts) (sym are) ∙ none in
    let za = or_parts (has_needless_zero a.word) _ free in
    let zb = or_parts (has_needless_zero b.word) _ za.1 in
    let zc = or_parts (has_needless_zero c.word) _ zb.1 in
    let zd = or_parts (has_needless_zero d.word) _ zc.1 in
    let wa = (written 3 one.0.0 a.word (omega arith) za.0 a.spelled).1 in
    let wb = (written 3 two.0.0 b.word (omega arith) zb.0 b.spelled).1 in
    let wc = (written 3 three.0.0 c.word (omega arith) zc.0 c.spelled).1 in
    let wd = (written 3 four.0.0 d.word (omega arith) zd.0 d.spelled).1 in
    subst (λ address. AddressRead address word) end.1 (record {
      size = refl;
      bytes = four_bytes one.0.0 two.0.0 three.0.0 four.0.0 a.greatest b.greatest c.greatest d.greatest;
      word_is =
          sym (joined 46 word) ∙ ap (λ parts. join_with_byte 46 parts) are
          ∙ ap (λ word. word ++ 46 ∷ (b.word ++ 46 ∷ (c.word ++ 46 ∷ d.word))) wa
          ∙ ap (λ word. decimal one.0.0 ++ 46 ∷ (word ++ 46 ∷ (c.word ++ 46 ∷ d.word))) wb
          ∙ ap (λ word. decimal one.0.0 ++ 46 ∷ (decimal two.0.0 ++ 46 ∷ (word ++ 46 ∷ d.word))) wc
          ∙ ap (λ word. decimal one.0.0 ++ 46 ∷ (decimal two.0.0 ++ 46 ∷ (decimal three.0.0 ++ 46 ∷ word))) wd
          ∙ sym (four_is one.0.0 two.0.0 three.0.0 four.0.0);
    })

pub address_word_found : (word address : List ℕ) → address_in word ≡ Some address → AddressRead address word
unfolding address_in
address_word_found word address e =
    let tests = if_false (list_any has_needless_zero (parts_of 46 word)) (address_of word) address e in
    of_parts word address tests.0 tests.1

-- ---- what is written

pub four_parts : (a b c d : ℕ) → a < 256 → b < 256 → c < 256 → d < 256
    → parts_of 46 (four_dotted a b c d) ≡ decimal a ∷ decimal b ∷ decimal c ∷ decimal d ∷ []
four_parts a b c d sa sb sc sd =
    let free : (n : ℕ) → n < 256 → IsFree 46 (decimal n) = λ n small. decimal_free 46 n (omega arith) (omega (arith, small)) in
    part_first 46 (decimal a) (decimal b ++ 46 ∷ (decimal c ++ 46 ∷ decimal d)) (free a sa)
    ∙ ap (λ parts. decimal a ∷ parts) (part_first 46 (decimal b) (decimal c ++ 46 ∷ decimal d) (free b sb))
    ∙ ap (λ parts. decimal a ∷ decimal b ∷ parts) (part_first 46 (decimal c) (decimal d) (free c sc))
    ∙ ap (λ parts. decimal a ∷ decimal b ∷ decimal c ∷ parts) (part_only 46 (decimal d) (free d sd))

one_read : (n : ℕ) (rest : List (List ℕ)) → n < 256 → decimal_at 3 0 255 (decimal n ∷ rest) ≡ Some (n, rest)
one_read n rest small =
    numeral_only 3 0 255 n (decimal n) rest (spells_number 3 n (omega arith) (omega (arith, small)) (omega (arith, small))) (omega arith) (omega (arith, small))

four_read : (a b c d : ℕ) → a < 256 → b < 256 → c < 256 → d < 256 → address_at (decimal a ∷ decimal b ∷ decimal c ∷ decimal d ∷ []) ≡ Some (a ∷ b ∷ c ∷ d ∷ [])
unfolding address_at
four_read a b c d sa sb sc sd =
    goes_on _ _ _ (one_read a _ sa) ∙ goes_on _ _ _ (one_read b _ sb) ∙ goes_on _ _ _ (one_read c _ sc) ∙ goes_on _ _ _ (one_read d [] sd)

no_zeros : (a b c d : ℕ) → a < 256 → b < 256 → c < 256 → d < 256 → list_any has_needless_zero (decimal a ∷ decimal b ∷ decimal c ∷ decimal d ∷ []) ≡ false
no_zeros a b c d sa sb sc sd =
    let none : (n : ℕ) → n < 256 → has_needless_zero (decimal n) ≡ false = λ n small. no_needless_zero n (omega (arith, small)) in
    or_from _ _ (none a sa) (or_from _ _ (none b sb) (or_from _ _ (none c sc) (or_from _ _ (none d sd) refl)))

pub address_word_only : (address : List ℕ) → length address ≡ 4 → IsBytes address → address_in (dotted address) ≡ Some address
unfolding address_in
address_word_only address size all =
    let f = four_of address size all in
    let parts : parts_of 46 (dotted address) ≡ decimal f.a ∷ decimal f.b ∷ decimal f.c ∷ decimal f.d ∷ [] =
    ap (λ word. parts_of 46 word) (dotted_is address f) ∙ four_parts f.a f.b f.c f.d f.a_small f.b_small f.c_small f.d_small in
    ap (λ parts. cond (list_any has_needless_zero parts) None (address_at parts)) parts
    ∙ ap (λ b. cond b None (address_at (decimal f.a ∷ decimal f.b ∷ decimal f.c ∷ decimal f.d ∷ []))) (no_zeros f.a f.b f.c f.d f.a_small f.b_small f.c_small f.d_small)
    ∙ four_read f.a f.b f.c f.d f.a_small f.b_small f.c_small f.d_small
    ∙ ap Some (sym f.is)

-- ---- what is in it

others_free : (end : ℕ) (numbers : List ℕ) → end < 46 → AllBelowBase (2 ^ 32) numbers → IsFree end (flat_map (λ m. 46 ∷ decimal m) numbers)
others_free end [] low small = refl
others_free end (n ∷ ns) low small =
    free_append end (46 ∷ decimal n) (flat_map (λ m. 46 ∷ decimal m) ns)
    (or_from _ _ (ne_eqb 46 end (λ e. omega (arith, low, e))) (decimal_free end n (omega (arith, low)) (omega (arith, small.0))))
    (others_free end ns low small.1)

pub dotted_free : (end : ℕ) (numbers : List ℕ) → end < 46 → AllBelowBase (2 ^ 32) numbers → IsFree end (dotted numbers)
dotted_free end [] low small = refl
dotted_free end (n ∷ ns) low small =
    free_append end (decimal n) (flat_map (λ m. 46 ∷ decimal m) ns) (decimal_free end n (omega (arith, low)) (omega (arith, small.0))) (others_free end ns low small.1)

bytes_small : (octets : List ℕ) → IsBytes octets → AllBelowBase (2 ^ 32) octets
bytes_small [] all = tt
bytes_small (octet ∷ octets) all = let small : octet < 256 = all 0 in (omega (arith, small), bytes_small octets (λ i. all (suc i)))

pub address_free : (end : ℕ) (address : List ℕ) → end < 46 → IsBytes address → IsFree end (dotted address)
address_free end address low all = dotted_free end address low (bytes_small address all)

pub address_some : (address : List ℕ) → length address ≡ 4 → IsBytes address → 0 < length (dotted address)
address_some [] four all = absurd (omega (arith, four))
address_some (a ∷ more) four all =
    let small : a < 256 = all 0 in
    omega (arith, decimal_some a (omega (arith, small)), length-append (decimal a) (flat_map (λ m. codes "." ++ decimal m) more))

-- ---- what is put

of_four : (w x y z : List ℕ) → w ++ x ++ y ++ z ≡ w ++ (x ++ (y ++ (z ++ [])))
of_four w x y z = simp (append_assoc, append-nil)

pub dotted_four : (address : List ℕ) → length address ≡ 4
    → decimal (get_or address 0 0) ++ (codes "." ++ decimal (get_or address 1 0)) ++ (codes "." ++ decimal (get_or address 2 0))
    ++ (codes "." ++ decimal (get_or address 3 0)) ≡ dotted address
dotted_four [] four = absurd (omega (arith, four))
dotted_four (a ∷ []) four = absurd (omega (arith, four))
dotted_four (a ∷ b ∷ []) four = absurd (omega (arith, four))
dotted_four (a ∷ b ∷ c ∷ []) four = absurd (omega (arith, four))
dotted_four (a ∷ b ∷ c ∷ d ∷ []) four = of_four (decimal a) (codes "." ++ decimal b) (codes "." ++ decimal c) (codes "." ++ decimal d)
dotted_four (a ∷ b ∷ c ∷ d ∷ e ∷ more) four = absurd (omega (arith, four))
