-- A row of a page of a text, as octets in a buffer.
use Rattle.std.proofs.Common.{◌≡◌, ℕ, zero, suc, ◌+◌, ◌<◌, ◌≤◌, Bool, true, cond, List, [], ◌∷◌, ◌++◌, length, map, drop, flat_map, replicate, get_or, Option, Some, None, Ok, Err, refl, sym, ap, ◌∙◌, arith}
use Rattle.std.specs.Prelude.{nat_lt, slice_index_or, slice_get}
use Rattle.std.specs.List.{range_with_len, list_all}
use Rattle.std.specs.Option.{option_map}
use Rattle.std.proofs.lemmas.Bool.{lt-ltb, ltb-true, false_from_ne_true, cases_Bool}
use Rattle.std.proofs.lemmas.List.{get_or-replicate, length-replicate}
use Rattle.std.proofs.lemmas.List.FromFn.{length-map-range_with_len}
use Rattle.std.proofs.lemmas.Option.{slice_get-map}
use Rattle.dms_face.specs.declared.cell.Cell.{Cell}
use Rattle.dms_face.specs.declared.defaults.Defaults.{Defaults}
use Rattle.dms_face.specs.declared.multi_fault.MultiFault.{MultiFault}
use Rattle.dms_face.specs.Face.{FaceModel}
use Rattle.dms_face.specs.Layout.{PageModel, under}
use Rattle.dms_face.specs.Room.{page_fits}
use Rattle.dms_face.specs.Fit.{fault_of, or_fault, page_count, checked_text}
use Rattle.dms_face.specs.Cells.{cell_of, pages_of}
use Rattle.dms_face.proofs.RuleLaws.{page_count_law}
use Rattle.dms_face_pages.specs.Drawn.{DrawnPage, unlit, cell_at, drawn, drawn_text}
use Rattle.dms_face_pages.specs.Drawing.{lines_characters}
use Rattle.dms_face_pages.specs.declared.page_octets.Layer.{Layer}
use Rattle.dms_face_pages.specs.PageOctets.{cell_octet, row_octets}
use Rattle.dms_face_pages.proofs.DrawnLaws.{drawn_cell}
use Rattle.dms_face_pages.proofs.LayingLaws.{pages_fit}
use Rattle.dms_face_rows.specs.Held.{page_of_text}
use Rattle.dms_face_rows.specs.Drawing.{Shows, cells_octets}
use Rattle.dms_face_rows.specs.Rows.{page_numbered, row_numbered, put_in}
use Rattle.dms_face_rows.proofs.PageLaws.{numbered_page}

-- cells before anything is drawn
pub unlit_shows : (page : PageModel) (y count : ℕ) (cells : List Cell) → cells ≡ replicate count (unlit page.background) → Shows page y [] cells
unlit_shows page y count cells are = grind (arith, get_or, get_or-replicate, length-replicate)

-- ---- the octets of a row

singles : (f : ℕ → List ℕ) (g : ℕ → ℕ) (a n : ℕ) → ((k : ℕ) → k < a + n → f k ≡ g k ∷ []) → map g (range_with_len a n) ≡ flat_map f (range_with_len a n)
singles f g a zero each = refl
singles f g a (suc n) each =
    ap (λ l. g a ∷ l) (singles f g (a + 1) n (λ k below. each k (omega (arith, below))))
    ∙ ap (λ l. l ++ flat_map f (range_with_len (a + 1) n)) (sym (each a (omega arith)))

shown_cell : (face : FaceModel) (page : PageModel) (y : ℕ) (cells : List Cell) (x : ℕ) → x < face.width → face.width ≤ length cells → y < face.height
    → Shows page y (lines_characters face page.lines) cells → cell_at (drawn face page) x y ≡ slice_index_or cells x (unlit 0)
unfolding cell_of
shown_cell face page y cells x column wide row shows =
    drawn_cell face page x y column row ∙ sym (shows.cell (unlit 0) x (omega (arith, column, wide)))

pub row_is : (layer : Layer) (face : FaceModel) (page : PageModel) (y count : ℕ) (cells : List Cell) → count ≡ face.width → face.width ≤ length cells → y < face.height
    → Shows page y (lines_characters face page.lines) cells → cells_octets layer cells count ≡ row_octets layer (drawn face page) y
row_is layer face page y count cells is wide row shows =
    ap (cells_octets layer cells) is
    ∙ singles (λ x. cell_octet layer (cell_at (drawn face page) x y) ∷ []) (λ x. cell_octet layer (slice_index_or cells x (unlit 0))) 0 face.width
    (λ x below. ap (λ cell. cell_octet layer cell ∷ []) (shown_cell face page y cells x (omega (arith, below)) wide row shows))

pub row_length : (layer : Layer) (face : FaceModel) (page : PageModel) (y : ℕ) → length (row_octets layer (drawn face page) y) ≡ face.width
row_length layer face page y =
    let f : ℕ → ℕ = λ x. cell_octet layer (cell_at (drawn face page) x y) in
    ap length (sym (singles (λ x. f x ∷ []) f 0 face.width (λ x below. refl))) ∙ length-map-range_with_len f 0 face.width

-- ---- the page of a number

get_past : {A : Type 0} (xs : List A) (i : ℕ) → length xs ≤ i → slice_get xs i ≡ None
get_past [] i past = refl
get_past (x ∷ xs) zero past = absurd (omega arith)
get_past (x ∷ xs) (suc i) past = get_past xs i (omega arith)

checked_ok : {A : Type 0} (value : A) (fault : Option MultiFault) (count : A) → Ok count ≡ or_fault value fault → (fault ≡ None) × (count ≡ value)
checked_ok value fault count is = grind arith

checked_err : {A : Type 0} (value : A) (fault : Option MultiFault) (found : MultiFault) → Err found ≡ or_fault value fault → fault ≡ Some found
checked_err value fault found is = grind arith

pub no_text : (face : FaceModel) (text : List ℕ) (number : ℕ) (found : MultiFault) → Err found ≡ checked_text face text → page_numbered number (drawn_text face text) ≡ None
no_text face text number found is =
    ap (λ f. page_numbered number (or_fault (map (drawn face) (pages_of face text)) f)) (checked_err (page_count text) (fault_of face text) found is)

pub no_page : (face : FaceModel) (text : List ℕ) (number count : ℕ) → Ok count ≡ checked_text face text → count ≤ number → page_numbered number (drawn_text face text) ≡ None
no_page face text number count is past =
    let parts = checked_ok (page_count text) (fault_of face text) count is in
    ap (λ f. page_numbered number (or_fault (map (drawn face) (pages_of face text)) f)) parts.0
    ∙ slice_get-map (drawn face) (pages_of face text) number
    ∙ ap (option_map (drawn face)) (get_past (pages_of face text) number (omega (arith, page_count_law face text, parts.1, past)))

-- which defaults a face has is nothing to its cells
drawn_under : (face : FaceModel) (defaults : Defaults) (page : PageModel) → drawn (under face defaults) page ≡ drawn face page
unfolding cell_of
drawn_under face defaults page = refl

pub shown_here : (face : FaceModel) (text : List ℕ) (number count : ℕ) → Ok count ≡ checked_text face text → fault_of face text ≡ None
shown_here face text number count is = (checked_ok (page_count text) (fault_of face text) count is).0

pub page_here : (face : FaceModel) (text : List ℕ) (number count : ℕ) → Ok count ≡ checked_text face text → number < count → number < page_count text
page_here face text number count is less = omega (arith, less, (checked_ok (page_count text) (fault_of face text) count is).1)

pub a_page : (face : FaceModel) (defaults : Defaults) (text : List ℕ) (number : ℕ) → fault_of (under face defaults) text ≡ None → number < page_count text
    → page_numbered number (drawn_text (under face defaults) text) ≡ Some (drawn face (page_of_text (under face defaults) number text))
a_page face defaults text number shown less =
    let other = under face defaults in
    ap (λ f. page_numbered number (or_fault (map (drawn other) (pages_of other text)) f)) shown
    ∙ slice_get-map (drawn other) (pages_of other text) number
    ∙ ap (option_map (drawn other)) (numbered_page other text number less)
    ∙ ap Some (drawn_under face defaults (page_of_text other number text))

got_fits : (p : PageModel → Bool) (pages : List PageModel) (i : ℕ) (page : PageModel) → slice_get pages i ≡ Some page → list_all p pages ≡ true → p page ≡ true
got_fits p [] i page is all = absurd (let wrong : None ≡ Some page = is in cc)
got_fits p (first ∷ pages) zero page is all = grind (arith, cases_Bool)
got_fits p (first ∷ pages) (suc i) page is all = got_fits p pages i page is (grind (arith, cases_Bool))

pub a_page_fits : (face : FaceModel) (defaults : Defaults) (text : List ℕ) (number : ℕ) (page : PageModel) → fault_of (under face defaults) text ≡ None → number < page_count text
    → page ≡ page_of_text (under face defaults) number text → page_fits face page.lines ≡ true
a_page_fits face defaults text number page shown less held =
    let other = under face defaults in
    got_fits (λ (p : PageModel). page_fits other p.lines) (pages_of other text) number page
    (numbered_page other text number less ∙ ap Some (sym held)) (pages_fit other text shown)

-- ---- a row of it in a buffer

pub row_none : (layer : Layer) (y : ℕ) (found : Option DrawnPage) → found ≡ None → row_numbered layer y found ≡ None
row_none layer y found none = ap (row_numbered layer y) none

pub row_past : (layer : Layer) (y : ℕ) (face : FaceModel) (page : PageModel) (found : Option DrawnPage) → found ≡ Some (drawn face page) → face.height ≤ y → row_numbered layer y found ≡ None
row_past layer y face page found is past =
    ap (row_numbered layer y) is
    ∙ ap (λ b. cond b (Some (row_octets layer (drawn face page) y)) None) (false_from_ne_true (nat_lt y face.height) (λ on. absurd (omega (arith, ltb-true y face.height on, past))))

pub row_some : (layer : Layer) (y : ℕ) (face : FaceModel) (page : PageModel) (found : Option DrawnPage) → found ≡ Some (drawn face page) → y < face.height
    → row_numbered layer y found ≡ Some (row_octets layer (drawn face page) y)
row_some layer y face page found is inside =
    ap (row_numbered layer y) is
    ∙ ap (λ b. cond b (Some (row_octets layer (drawn face page) y)) None) (lt-ltb y face.height inside)

pub size_none : (row : Option (List ℕ)) → row ≡ None → None ≡ option_map length row
size_none row none = sym (ap (option_map length) none)

pub size_some : (row : Option (List ℕ)) (octets : List ℕ) (size : ℕ) → row ≡ Some octets → size ≡ length octets → Some size ≡ option_map length row
size_some row octets size is long = ap Some long ∙ sym (ap (option_map length) is)

pub put_none : (row : Option (List ℕ)) (buffer : List ℕ) → row ≡ None → buffer ≡ put_in row buffer
put_none row buffer none = sym (ap (λ r. put_in r buffer) none)

pub put_short : (row : Option (List ℕ)) (octets buffer : List ℕ) → row ≡ Some octets → length buffer < length octets → buffer ≡ put_in row buffer
put_short row octets buffer is short =
    sym (ap (λ r. put_in r buffer) is ∙ ap (λ b. cond b buffer (octets ++ drop (length octets) buffer)) (lt-ltb (length buffer) (length octets) short))

pub put_whole : (row : Option (List ℕ)) (octets buffer new : List ℕ) (size : ℕ) → row ≡ Some octets → size ≡ length octets → size ≤ length buffer → new ≡ octets ++ drop size buffer
    → new ≡ put_in row buffer
put_whole row octets buffer new size is long room put =
    put
    ∙ ap (λ n. octets ++ drop n buffer) long
    ∙ sym (ap (λ r. put_in r buffer) is
    ∙ ap (λ b. cond b buffer (octets ++ drop (length octets) buffer)) (false_from_ne_true (nat_lt (length buffer) (length octets)) (λ on. absurd (omega (arith, ltb-true (length buffer) (length octets) on, long, room)))))

pub ruleset putting = (a_page, row_none, row_past, row_some, row_length, size_none, size_some, put_none, put_short, put_whole)

pub ruleset numbering = (no_text, no_page, shown_here, page_here)
