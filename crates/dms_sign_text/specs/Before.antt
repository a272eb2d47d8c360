-- The description of a sign that stands before a conversation (this profile): the lines up to and with the first line
-- `end`.
use Rattle.std.specs.Prelude.{◌≡◌, ℕ, List, filter, not, Option, None, Some, ⊤}
use Rattle.std.specs.Str.Lines.{lines}
use Rattle.dms_text.specs.Lines.{is_skipped}
use Rattle.dms_sign_text.specs.declared.setup.Setup.{Setup}
use Rattle.dms_sign_text.specs.Description.{Description, SpellsSign}
use Rattle.dms_sign_text.specs.Setups.{IsMade}
use Rattle.dms_sign_text.specs.RefusedLine.{all_numbered, IsRefusedLine}
use Rattle.dms_text_streams.specs.DescriptionText.{lines_through_end, lines_after_end}

-- of these lines, those of a description, without those that are skipped
abbrev pub description_lines : List (List ℕ) → List (List ℕ)
description_lines lines = filter (λ line. not (is_skipped line)) (lines_through_end lines)

-- the sign that is described is made, and the lines after its description are left
abbrev pub Describes : Option (List ℕ) → Setup → Option (List ℕ) → Type 0
Describes None setup after = ⊤
Describes (Some octets) setup None = ⊥
Describes (Some octets) setup (Some rest) =
    ((it : Description) × SpellsSign (description_lines (lines octets)) it × IsMade it setup)
    × (lines rest ≡ lines_after_end (lines octets))

-- no sign is described
abbrev pub NotDescribed : Option (List ℕ) → Type 0
NotDescribed None = ⊤
NotDescribed (Some octets) = (it : Description) → SpellsSign (description_lines (lines octets)) it → ⊥

-- the line of this number is the one for which the lines up to and with the first `end` are no description
abbrev pub IsRefusedBefore : Option (List ℕ) → ℕ → Type 0
IsRefusedBefore None number = ⊤
IsRefusedBefore (Some octets) number = IsRefusedLine (all_numbered (lines_through_end (lines octets))) number
