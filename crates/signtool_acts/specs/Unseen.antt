-- What a person does not see in a line that is refused, and the words for it (this profile).
use Rattle.std.specs.Prelude.{ℕ, ◌+◌, ◌==◌, ◌&&◌, Bool, false, if◌then◌else◌, List, [], ◌∷◌, ◌++◌, codes, decimal}
use Rattle.std.specs.Prelude.{Option, None, Some, option_map}
use Rattle.dms_text.specs.Lines.{NumberedLine, numbered}
use Rattle.dms_text.specs.Words.{index_of}
use Rattle.dms_sign_text.specs.declared.reading_fault.ReplayFault.{ReplayFault}
use Rattle.dms_sign_text.specs.declared.reading_fault.ReplayFault.TheVariants as faults
use Rattle.signtool_acts.specs.declared.unseen.Unseen.{Unseen}
use Rattle.signtool_acts.specs.declared.unseen.Unseen.TheVariants as unseen

-- the octets of U+FEFF in UTF-8, the byte order mark
abbrev pub begins_with_mark : List ℕ → Bool
begins_with_mark [] = false
begins_with_mark (first ∷ []) = false
begins_with_mark (first ∷ second ∷ []) = false
begins_with_mark (first ∷ second ∷ third ∷ more) = (first == 0xEF) && (second == 0xBB) && (third == 0xBF)

-- a byte order mark before the line, else its first tab
abbrev pub unseen_of : List ℕ → Option Unseen
unseen_of line =
    if begins_with_mark line then Some unseen.Mark
    else option_map (λ place. unseen.Tab (place + 1)) (index_of 9 line)

-- of the line of this number
abbrev pub unseen_at : ℕ → List NumberedLine → Option Unseen
unseen_at number [] = None
unseen_at number (line ∷ more) = if line.number == number then unseen_of line.octets else unseen_at number more

-- of the line that the fault names
abbrev pub unseen_in : ReplayFault → List (List ℕ) → Option Unseen
unseen_in (faults.Line number) lines = unseen_at number (numbered 1 lines)
unseen_in faults.Read lines = None
unseen_in faults.Write lines = None
unseen_in faults.TooLong lines = None
unseen_in faults.Memory lines = None

abbrev pub unseen_text : Unseen → List ℕ
unseen_text unseen.Mark = codes "it begins with a byte order mark, the octets EF BB BF"
unseen_text (unseen.Tab place) =
    codes "its octet " ++ decimal place ++ codes " is a tab, and words have a space between them"
