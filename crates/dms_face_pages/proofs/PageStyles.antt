-- A page has few styles, and each of its characters has one of them.
use Rattle.std.proofs.Common.{◌≡◌, ℕ, ◌+◌, ◌<◌, ◌≤◌, true, List, [], ◌∷◌, length, get_or, drop, fold, length-append, refl, sym, ap, ◌∙◌, arith}
use Rattle.std.specs.List.{list_all}
use Rattle.std.proofs.lemmas.List.{at_drop_more}
use Rattle.std.proofs.lemmas.Bool.{cases_Bool}
use Rattle.std.proofs.lemmas.List.Folds.{list_any-append}
use Rattle.dms_face.specs.declared.cell.Cell.{Cell}
use Rattle.dms_face.specs.Layout.{Character, Line}
use Rattle.dms_face_pages.specs.Drawing.{lit_cell}
use Rattle.dms_face_pages.specs.Styled.{StyledCells}
use Rattle.dms_face_pages.specs.Styles.{is_style, with_style, with_character, with_line, has_style, has_styles}
use Rattle.dms_face_pages.proofs.SameCells.{same_cell_self}

-- ---- a style that is added stays

pub more_style : (styles : List Cell) (cell added : Cell) → is_style styles cell ≡ true → is_style (with_style styles added) cell ≡ true
more_style styles cell added is = grind (arith, cases_Bool, list_any-append)

pub added_style : (styles : List Cell) (cell : Cell) → is_style (with_style styles cell) cell ≡ true
added_style styles cell = grind (arith, cases_Bool, list_any-append, same_cell_self)

more_line : (styles : List Cell) (cell : Cell) (characters : List Character) → is_style styles cell ≡ true → is_style (fold with_character styles characters) cell ≡ true
more_line styles cell [] is = is
more_line styles cell (character ∷ characters) is = more_line (with_character styles character) cell characters (more_style styles cell (lit_cell character.style) is)

more_lines : (styles : List Cell) (cell : Cell) (lines : List Line) → is_style styles cell ≡ true → is_style (fold with_line styles lines) cell ≡ true
more_lines styles cell [] is = is
more_lines styles cell (line ∷ lines) is = more_lines (with_line styles line) cell lines (more_line styles cell line.characters is)

all_more_lines : (styles : List Cell) (characters : List Character) (lines : List Line) → list_all (has_style styles) characters ≡ true
    → list_all (has_style (fold with_line styles lines)) characters ≡ true
all_more_lines styles [] lines all = refl
all_more_lines styles (character ∷ characters) lines all = grind (arith, cases_Bool, more_lines, all_more_lines styles characters lines)

line_added : (styles : List Cell) (characters : List Character) → list_all (has_style (fold with_character styles characters)) characters ≡ true
line_added styles [] = refl
line_added styles (character ∷ characters) =
    grind (arith, line_added (with_character styles character) characters, more_line (with_character styles character) (lit_cell character.style) characters (added_style styles (lit_cell character.style)))

pub lines_added : (styles : List Cell) (lines : List Line) → list_all (has_styles (fold with_line styles lines)) lines ≡ true
lines_added styles [] = refl
lines_added styles (line ∷ lines) =
    grind (arith, lines_added (with_line styles line) lines, all_more_lines (with_line styles line) line.characters lines (line_added styles line.characters))

-- ---- the list grows

pub style_grows : (styles : List Cell) (cell : Cell) → length styles ≤ length (with_style styles cell)
style_grows styles cell = grind (arith, cases_Bool, length-append)

pub line_grows : (styles : List Cell) (characters : List Character) → length styles ≤ length (fold with_character styles characters)
line_grows styles [] = omega arith
line_grows styles (character ∷ characters) =
    omega (arith, style_grows styles (lit_cell character.style), line_grows (with_character styles character) characters)

pub lines_grow : (styles : List Cell) (lines : List Line) → length styles ≤ length (fold with_line styles lines)
lines_grow styles [] = omega arith
lines_grow styles (line ∷ lines) = omega (arith, line_grows styles line.characters, lines_grow (with_line styles line) lines)

-- ---- a loop that adds the styles of things one by one

-- the things from this one on add to the styles what all of them add to the first ones
pub record Adds {A : Type 0} (add : List Cell → A → List Cell) (xs : List A) (i : ℕ) (old now : StyledCells) : Type 0 where
  pub same : now.cells ≡ old.cells
  pub kept : old.memory ≤ now.memory
  pub rest : fold add now.styles (drop i xs) ≡ fold add old.styles xs

-- the next thing
pub next_adds : {A : Type 0} (add : List Cell → A → List Cell) (xs : List A) (i : ℕ) (old now : StyledCells) (x : A) → Adds add xs i old now → i < length xs → get_or xs i x ≡ x
    → fold add (add now.styles x) (drop (i + 1) xs) ≡ fold add old.styles xs
next_adds add xs i old now x adds below is =
    ap (λ y. fold add now.styles (y ∷ drop (i + 1) xs)) (sym is) ∙ sym (at_drop_more (fold add now.styles) xs i x below) ∙ adds.rest

-- With the next one there are no more styles than with all.
pub character_within : (xs : List Character) (i : ℕ) (old now : StyledCells) (x : Character) (cell : Cell) → Adds with_character xs i old now → i < length xs → get_or xs i x ≡ x
    → cell ≡ lit_cell x.style → length (with_style now.styles cell) ≤ length (fold with_character old.styles xs)
character_within xs i old now x cell adds below is shown =
    omega (arith, line_grows (with_character now.styles x) (drop (i + 1) xs), ap length (next_adds with_character xs i old now x adds below is), ap (λ c. length (with_style now.styles c)) shown)

pub line_within : (xs : List Line) (i : ℕ) (old now : StyledCells) (x : Line) (characters : List Character) → Adds with_line xs i old now → i < length xs → get_or xs i x ≡ x
    → characters ≡ x.characters → length (fold with_character now.styles characters) ≤ length (fold with_line old.styles xs)
line_within xs i old now x characters adds below is own =
    omega (arith, lines_grow (with_line now.styles x) (drop (i + 1) xs), ap length (next_adds with_line xs i old now x adds below is), ap (λ cs. length (fold with_character now.styles cs)) own)
