-- The line for which lines are refused as a description, and its number (this profile).
use Rattle.std.specs.Prelude.{◌≡◌, ℕ, ◌+◌, ◌-◌, Bool, if◌then◌else◌, List, [], ◌∷◌, ◌++◌, length, drop, map, Option, ⊤}
use Rattle.std.specs.Option.{is_some}
use Rattle.dms_text.specs.Lines.{NumberedLine, numbered, TextLeft, lines_left, number_after}
use Rattle.dms_text.specs.Words.{words_of}
use Rattle.dms_sign_text.specs.declared.fault.DescriptionFault.{DescriptionFault}
use Rattle.dms_sign_text.specs.declared.fault.DescriptionFault.TheVariants as faults
use Rattle.dms_sign_text.specs.Description.{Description}
use Rattle.dms_sign_text.specs.DescriptionReading.{size_of, communities_of, row_counts_of, order_of, services_of}
use Rattle.dms_sign_text.specs.DescriptionReading.{defaults_of, first_of, head_at, rows_from, fonts_at}
use Rattle.dms_sign_text.specs.Setups.{BeginsWith}

-- ---- lines and their numbers

-- lines of a text, and the number after that of the text's last line
pub record NumberedLines : Type 0 where
  pub lines : List NumberedLine
  pub after : ℕ

-- the lines that are left of a text
abbrev pub numbered_left : TextLeft → NumberedLines
numbered_left left = record { lines = lines_left left; after = number_after left }

-- the lines of a text, counted from 1: those that are skipped count too, and are left out
abbrev pub all_numbered : List (List ℕ) → NumberedLines
all_numbered lines = record { lines = numbered 1 lines; after = 1 + length lines }

-- the lines without their numbers
abbrev pub octets_of : List NumberedLine → List (List ℕ)
octets_of lines = map (λ (line : NumberedLine). line.octets) lines

-- the number of the first of these lines; where there is none, the number after that of the text's last line
abbrev pub first_number : List NumberedLine → ℕ → ℕ
first_number [] after = after
first_number (line ∷ lines) after = line.number

-- the last of these lines, so many
abbrev pub last_lines : ℕ → List NumberedLine → List NumberedLine
last_lines count lines = drop (length lines - count) lines

-- the lines that are left are the last of these, and have their numbers
pub record Leaves (lines left : NumberedLines) : Type 0 where
  pub prefix : List NumberedLine
  pub lines_are : lines.lines ≡ prefix ++ left.lines
  pub after_is : left.after ≡ lines.after

-- ---- the line for which lines begin with no sign

-- the words of the line are of this form
abbrev pub has_form : {A : Type 0} → (List (List ℕ) → Option A) → List ℕ → Bool
has_form read line = is_some (read (words_of line))

abbrev pub first_four_forms : List (List ℕ → Bool)
first_four_forms = has_form size_of ∷ has_form communities_of ∷ has_form row_counts_of ∷ has_form order_of ∷ []

-- the forms of the first seven lines
abbrev pub first_forms : List (List ℕ → Bool)
first_forms = first_four_forms ++ has_form services_of ∷ has_form defaults_of ∷ has_form first_of ∷ []

-- The first line has the first form, the second the second, and so on: the lines from the first on that has not its
-- form. Where each has its form, the lines after them.
abbrev pub from_misfit : List (List ℕ → Bool) → List NumberedLine → List NumberedLine
from_misfit [] lines = lines
from_misfit (form ∷ forms) [] = []
from_misfit (form ∷ forms) (line ∷ lines) = if form line.octets then from_misfit forms lines else line ∷ lines

-- the lines after the permanent rows and the fonts with which these begin
abbrev pub after_fonts : List NumberedLine → List NumberedLine
after_fonts lines = last_lines (length (fonts_at (rows_from [] (octets_of lines)).1).1) lines

-- Of lines that begin with no sign, those from the one on for which they do not: from the first of seven that has not
-- its form; else from the first that is no permanent row and belongs to no font, be it `end` or another.
abbrev pub refused_from : List NumberedLine → List NumberedLine
refused_from lines =
    if is_some (head_at (octets_of lines)) then after_fonts (from_misfit first_forms lines)
    else from_misfit first_forms lines

-- the number of the line for which these begin with no sign
abbrev pub refused_number : NumberedLines → ℕ
refused_number it = first_number (refused_from it.lines) it.after

-- ---- the line for which a text is no description

-- the line of this number is the one for which these are no sign's description
pub data IsRefusedLine (it : NumberedLines) : ℕ → Type 0 where
  -- they begin with no sign
  no_sign : ((sign : Description) (rest : List (List ℕ)) → BeginsWith (octets_of it.lines) rest sign → ⊥)
      → IsRefusedLine it (refused_number it)
  -- a line stands after a sign
  line_after : (sign : Description) (line : List ℕ) (rest : List (List ℕ))
      → BeginsWith (octets_of it.lines) (line ∷ rest) sign
      → IsRefusedLine it (first_number (last_lines (length (line ∷ rest)) it.lines) it.after)

-- the fault is out of memory, or the line that it names is such a line
abbrev pub NamesLine : (ℕ → Type 0) → DescriptionFault → Type 0
NamesLine IsIt (faults.Line number) = IsIt number
NamesLine IsIt faults.Memory = ⊤
