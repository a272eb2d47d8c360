-- Eight cells that are lit at once.
use Rattle.std.proofs.Common.{◌≡◌, ℕ, ◌+◌, ◌-◌, ◌*◌, ◌/◌, ◌%◌, ◌^◌, ◌==◌, ◌<◌, ◌≤◌, ◌&&◌, ◌||◌, Bool, true, false, cond, List, [], ◌∷◌, ◌++◌, length, length-append, length-drop, map, get_or, take, drop, refl, sym, ap, ◌∙◌, arith, inl, inr}
use Rattle.std.specs.Prelude.{bit_and, nat_le, nat_lt}
use Rattle.std.specs.Int.{w32, trailing_zeros}
use Rattle.std.specs.List.{range_with_len}
use Rattle.std.proofs.lemmas.Bool.{cases_Bool, cases_lt, and_parts, and_from, and_left, and_right, or_cases, or_left, or_right, leb-true, le-leb, lt-leb, ltb-true, lt-ltb, eqb-true}
use Rattle.std.proofs.lemmas.Nat.{and_mask, shr-shr}
use Rattle.std.proofs.lemmas.Nat.Bits.{bit_at-zero, bit_at_above}
use Rattle.std.proofs.lemmas.List.{length-map, length-take-le, get_or-take, get_or-drop, get_or_append_left, get_or-append_right}
use Rattle.std.proofs.lemmas.List.FromFn.{get_or-map-range_with_len, length-map-range_with_len}
use borrow.Rule.Slice.PartMut.{put_mid, post_of}
use Rattle.dms_face.specs.declared.cell.Cell.{Cell}
use Rattle.dms_face_font.specs.Glyph.{is_bit}
use Rattle.dms_face_pages.specs.declared.lamps.TheConstants.{MASKS}
use Rattle.dms_face_pages.specs.Masks.{mask_of, masked, eight_masked}
use Rattle.dms_face_pages.specs.Styled.{StyledCells, style, AreStyled, IsLitStyle, Lights}
use Rattle.dms_face_pages.proofs.StyleLaws.{with_numbers, shown_at, covered_dark, covered_lit}
use Rattle.dms_face_pages.proofs.BitLaws.{above, bits_below, lowest_bit}
use Rattle.dms_face_pages.proofs.DrawingLaws.{same_test}

-- ---- the masks

-- the mask of an octet in the table
abbrev pub mask_from : ℕ → List ℕ
mask_from first = get_or MASKS first 0 ∷ get_or MASKS (first + 1) 0 ∷ get_or MASKS (first + 2) 0 ∷ get_or MASKS (first + 3) 0
    ∷ get_or MASKS (first + 4) 0 ∷ get_or MASKS (first + 5) 0 ∷ get_or MASKS (first + 6) 0 ∷ get_or MASKS (first + 7) 0 ∷ []

-- The whole table, computed.
table_is : map (λ octet. mask_from (8 * octet)) (range_with_len 0 256) ≡ map mask_of (range_with_len 0 256)
table_is = refl

pub mask_at : (octet : ℕ) → octet < 256 → mask_from (8 * octet) ≡ mask_of octet
mask_at octet below =
    sym (get_or-map-range_with_len (λ n. mask_from (8 * n)) 0 256 octet octet [] below (omega arith))
    ∙ ap (λ table. get_or table octet []) table_is ∙ get_or-map-range_with_len mask_of 0 256 octet octet [] below (omega arith)

-- ---- one cell

-- the number of a cell that is lit where a test holds
abbrev pub lit_where : Bool → ℕ → ℕ → ℕ
lit_where on number cell = cond on (cond (cell == 0) number cell) cell

all_of : (number : ℕ) → number < 256 → bit_and number 255 ≡ number
all_of number small = and_mask number 8 ∙ (let e : number % 256 ≡ number = omega arith in e)

none_of : (number : ℕ) → bit_and number 0 ≡ 0
none_of number = and_mask number 0 ∙ (let e : number % 1 ≡ 0 = omega arith in e)

masked_is : (on : Bool) (cell number : ℕ) → number < 256 → masked cell (cond on 255 0) number ≡ lit_where on number cell
masked_is on cell number small = grind (arith, all_of, none_of, cases_Bool, eqb-true)

-- one of eight cells
pub eight_at : (cells : List ℕ) (octet number k : ℕ) → k < 8 → number < 256
    → get_or (eight_masked cells (mask_of octet) number) k 0 ≡ lit_where (is_bit octet k) number (get_or cells k 0)
eight_at cells octet number k below small =
    get_or-map-range_with_len (λ j. masked (get_or cells j 0) (get_or (mask_of octet) j 0) number) 0 8 k k 0 below (omega arith)
    ∙ ap (λ mask. masked (get_or cells k 0) mask number) (get_or-map-range_with_len (λ j. cond (is_bit octet j) 255 0) 0 8 k k 0 below (omega arith))
    ∙ masked_is (is_bit octet k) (get_or cells k 0) number small

-- ---- all cells

-- eight of the numbers are others
pub record Eight (old new : List ℕ) (first octet number : ℕ) : Type 0 where
  pub inside : (k : ℕ) → k < 8 → get_or new (first + k) 0 ≡ lit_where (is_bit octet k) number (get_or old (first + k) 0)
  pub before : (place : ℕ) → place < first → get_or new place 0 ≡ get_or old place 0
  pub behind : (place : ℕ) → first + 8 ≤ place → get_or new place 0 ≡ get_or old place 0

away : (on : Bool) (number cell new : ℕ) → on ≡ false → new ≡ cell → new ≡ lit_where on number cell
away on number cell new off same = grind arith

pub eight_all : (old new : List ℕ) (first octet number place : ℕ) → octet < 256 → Eight old new first octet number
    → get_or new place 0 ≡ lit_where (nat_le first place && is_bit octet (place - first)) number (get_or old place 0)
eight_all old new first octet number place small eight =
    elim (cases_lt place first) [
      | inl low ↦
          let off : (nat_le first place && is_bit octet (place - first)) ≡ false = and_left _ (is_bit octet (place - first)) (lt-leb first place low) in
          away (nat_le first place && is_bit octet (place - first)) number (get_or old place 0) (get_or new place 0) off (eight.before place low)
      | inr from ↦
          elim (cases_lt (place - first) 8) [
            | inl near ↦
                let at : first + (place - first) ≡ place = omega arith in
                ap (λ k. get_or new k 0) (sym at) ∙ eight.inside (place - first) near
                ∙ ap (λ k. lit_where (is_bit octet (place - first)) number (get_or old k 0)) at
                ∙ ap (λ b. lit_where (b && is_bit octet (place - first)) number (get_or old place 0)) (sym (le-leb first place from))
            | inr far ↦
                let none : is_bit octet (place - first) ≡ false = ap (λ d. d == 1) (bit_at_above octet 8 (place - first) small far) in
                let off : (nat_le first place && is_bit octet (place - first)) ≡ false = and_right (nat_le first place) _ none in
                away (nat_le first place && is_bit octet (place - first)) number (get_or old place 0) (get_or new place 0) off (eight.behind place (omega arith))
          ]
    ]

-- the numbers of a list from one on, eight of them
abbrev part : ℕ → List ℕ → List ℕ
part first old = take (first + 8 - first) (drop first old)

-- all numbers, with eight of them written
abbrev pub written : ℕ → List ℕ → ℕ → ℕ → List ℕ
written first old octet number = put_mid first (first + 8 - first) old (eight_masked (part first old) (mask_of octet) number)

pub length_written : (first : ℕ) (old : List ℕ) (octet number : ℕ) → first + 8 ≤ length old → length (written first old octet number) ≡ length old
length_written first old octet number inside =
    let lit = eight_masked (part first old) (mask_of octet) number in
    let eight : length lit ≡ 8 = length-map-range_with_len (λ k. masked (get_or (part first old) k 0) (get_or (mask_of octet) k 0) number) 0 8 in
    let rest = post_of first (first + 8 - first) old in
    omega (arith, length-append (take first old) (lit ++ rest), length-append lit rest, eight, length-take-le first old (let e : first ≤ length old = omega arith in e), length-drop (first + 8 - first) (drop first old), length-drop first old)

written_eight : (first : ℕ) (old : List ℕ) (octet number : ℕ) → first + 8 ≤ length old → number < 256 → Eight old (written first old octet number) first octet number
written_eight first old octet number inside small =
    let lit = eight_masked (part first old) (mask_of octet) number in
    let eight : length lit ≡ 8 = length-map-range_with_len (λ k. masked (get_or (part first old) k 0) (get_or (mask_of octet) k 0) number) 0 8 in
    let rest = post_of first (first + 8 - first) old in
    let front : length (take first old) ≡ first = length-take-le first old (omega arith) in
    record {
      inside = λ k below.
          let own : get_or (part first old) k 0 ≡ get_or old (first + k) 0 = get_or-take (first + 8 - first) (drop first old) k 0 (omega arith) ∙ get_or-drop first old k 0 in
          get_or-append_right (take first old) (lit ++ rest) first (first + k) 0 front (omega arith)
          ∙ ap (λ i. get_or (lit ++ rest) i 0) (let e : first + k - first ≡ k = omega arith in e)
          ∙ get_or_append_left lit rest 0 k (omega (arith, eight))
          ∙ eight_at (part first old) octet number k below small
          ∙ ap (lit_where (is_bit octet k) number) own;
      before = λ place low. get_or_append_left (take first old) (lit ++ rest) 0 place (omega (arith, front)) ∙ get_or-take first old place 0 low;
      behind = λ place high.
          get_or-append_right (take first old) (lit ++ rest) first place 0 front (omega arith)
          ∙ get_or-append_right lit rest 8 (place - first) 0 eight (omega arith)
          ∙ get_or-drop (first + 8 - first) (drop first old) (place - first - 8) 0
          ∙ get_or-drop first old (first + 8 - first + (place - first - 8)) 0
          ∙ ap (λ k. get_or old k 0) (let e : first + (first + 8 - first + (place - first - 8)) ≡ place = omega arith in e);
    }

pub all_written : (first : ℕ) (old : List ℕ) (octet number : ℕ) → first + 8 ≤ length old → octet < 256 → number < 256 → (place : ℕ)
    → get_or (written first old octet number) place 0 ≡ lit_where (nat_le first place && is_bit octet (place - first)) number (get_or old place 0)
all_written first old octet number inside octet_small small place =
    eight_all old (written first old octet number) first octet number place octet_small (written_eight first old octet number inside small)

-- each cell is lit where a test holds
pub lights_where : (on : ℕ → Bool) (styles : List Cell) (memory : ℕ) (old new : List ℕ) (number : ℕ) → AreStyled styles old → IsLitStyle styles number → length new ≡ length old
    → ((place : ℕ) → get_or new place 0 ≡ lit_where (on place) number (get_or old place 0))
    → Lights on (style styles number) (with_numbers styles memory old) (with_numbers styles memory new)
lights_where on styles memory old new number are is long each = grind (arith, length-map, shown_at, cases_Bool, eqb-true, covered_dark, covered_lit)

pub styled_where : (on : ℕ → Bool) (styles : List Cell) (old new : List ℕ) (number : ℕ) → AreStyled styles old → IsLitStyle styles number → length new ≡ length old
    → ((place : ℕ) → get_or new place 0 ≡ lit_where (on place) number (get_or old place 0))
    → AreStyled styles new
styled_where on styles old new number are is long each = grind (arith, cases_Bool)

-- ---- the octets of a row

-- the cells before this one that a row's bits light
abbrev pub is_lit_before : ℕ → ℕ → ℕ → ℕ → Bool
is_lit_before first row end place = nat_le first place && is_bit row (place - first) && nat_lt place end

-- the bits of a row that are left
abbrev pub Left : ℕ → ℕ → ℕ → ℕ → Type 0
Left first row place left = (k : ℕ) → is_bit left k ≡ is_bit row (place - first + k)

pub eight_done : (first row left place k : ℕ) → first ≤ place → Left first row place left
    → ((nat_le place k && is_bit (left % 256) (k - place)) || is_lit_before first row place k) ≡ is_lit_before first row (place + 8) k
eight_done first row left place k from bits =
    let shift : place ≤ k → place - first + (k - place) ≡ k - first = λ low. omega arith in
    same_test _ _
    (λ h.
    elim (or_cases _ _ h) [
      | inl now ↦
          let parts = and_parts _ _ now in
          let low : place ≤ k = leb-true _ _ parts.0 in
          let own = and_parts _ _ (sym (bits_below left 8 (k - place)) ∙ parts.1) in
          let near : k - place < 8 = ltb-true _ _ own.0 in
          let bit : is_bit row (k - first) ≡ true = ap (is_bit row) (sym (shift low)) ∙ sym (bits (k - place)) ∙ own.1 in
          and_from _ _ (and_from _ _ (le-leb first k (omega arith)) bit) (lt-ltb k (place + 8) (omega arith))
      | inr before ↦
          let parts = and_parts _ _ before in
          let end : k < place = ltb-true _ _ parts.1 in
          and_from _ _ parts.0 (lt-ltb k (place + 8) (omega arith))
    ])
    (λ h.
    let parts = and_parts (nat_le first k && is_bit row (k - first)) (nat_lt k (place + 8)) h in
    let tests = and_parts (nat_le first k) (is_bit row (k - first)) parts.0 in
    let end : k < place + 8 = ltb-true _ _ parts.1 in
    elim (cases_lt k place) [
      | inl before ↦ or_right _ _ (and_from _ _ parts.0 (lt-ltb k place before))
      | inr low ↦
          or_left _ _ (and_from _ _ (le-leb place k low)
          (bits_below left 8 (k - place) ∙ and_from _ _ (lt-ltb (k - place) 8 (omega arith)) (bits (k - place) ∙ ap (is_bit row) (shift low) ∙ tests.1)))
    ])

pub next_left : (first row left place : ℕ) → first ≤ place → Left first row place left → Left first row (place + 8) (left / 256)
next_left first row left place from bits = λ k.
    ap (λ n. n % 2 == 1) (shr-shr left 8 k) ∙ bits (8 + k) ∙ ap (is_bit row) (let e : place - first + (8 + k) ≡ place + 8 - first + k = omega arith in e)

-- Where something is left the row has not ended.
pub not_ended : (first row left place : ℕ) → first ≤ place → row < 2 ^ 32 → left < 2 ^ 32 → 0 < left → Left first row place left → place < first + 32
not_ended first row left place from row_small small some bits =
    let column = trailing_zeros w32 left in
    let low = lowest_bit left column some small refl in
    elim (cases_lt (place - first + column) 32) [
      | inl near ↦ omega arith
      | inr far ↦ absurd (let wrong : false ≡ true = sym (above row (place - first + column) row_small far) ∙ sym (bits column) ∙ low.1 in cc)
    ]

-- The rest of the row one by one.
pub rest_done : (first row left place k : ℕ) → first ≤ place → Left first row place left
    → ((nat_le place k && is_bit left (k - place)) || is_lit_before first row place k) ≡ (nat_le first k && is_bit row (k - first))
rest_done first row left place k from bits =
    let shift : place ≤ k → place - first + (k - place) ≡ k - first = λ low. omega arith in
    same_test _ _
    (λ h.
    elim (or_cases _ _ h) [
      | inl now ↦
          let parts = and_parts _ _ now in
          let low : place ≤ k = leb-true _ _ parts.0 in
          and_from _ _ (le-leb first k (omega arith)) (ap (is_bit row) (sym (shift low)) ∙ sym (bits (k - place)) ∙ parts.1)
      | inr before ↦ (and_parts _ _ before).0
    ])
    (λ h.
    let tests = and_parts _ _ h in
    elim (cases_lt k place) [
      | inl before ↦ or_right _ _ (and_from _ _ h (lt-ltb k place before))
      | inr low ↦ or_left _ _ (and_from _ _ (le-leb place k low) (bits (k - place) ∙ ap (is_bit row) (shift low) ∙ tests.1))
    ])

-- Nothing is left.
pub none_left : (first row left place k : ℕ) → first ≤ place → Left first row place left → left ≡ 0 → is_lit_before first row place k ≡ (nat_le first k && is_bit row (k - first))
none_left first row left place k from bits none =
    let shift : place ≤ k → place - first + (k - place) ≡ k - first = λ low. omega arith in
    same_test _ _ (λ h. (and_parts (nat_le first k && is_bit row (k - first)) (nat_lt k place) h).0)
    (λ h.
    let tests = and_parts (nat_le first k) (is_bit row (k - first)) h in
    elim (cases_lt k place) [
      | inl before ↦ and_from (nat_le first k && is_bit row (k - first)) (nat_lt k place) h (lt-ltb k place before)
      | inr low ↦
          let zero_bit : is_bit left (k - place) ≡ false = ap (λ n. is_bit n (k - place)) none ∙ ap (λ d. d == 1) (bit_at-zero (k - place)) in
          absurd (let wrong : false ≡ true = sym zero_bit ∙ bits (k - place) ∙ ap (is_bit row) (shift low) ∙ tests.1 in cc)
    ])
