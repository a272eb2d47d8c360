-- What a sign lacks for a text, in words (this profile).
use Rattle.std.specs.Prelude.{◌≡◌, ◌⊎◌, ℕ, ◌==◌, ◌<◌, ◌≤◌, ◌+◌, ⊤, List, [], ◌++◌, length, codes, decimal}
use Rattle.std.specs.Prelude.{if◌then◌else◌}
use Rattle.dms_codes.specs.Limits.{longest_text}
use Rattle.dms_face.specs.declared.multi_fault.MultiFaultCode.{MultiFaultCode}
use Rattle.dms_face.specs.declared.multi_fault.MultiFaultCode.TheVariants.{CharacterNotDefined, FontNotDefined}
use Rattle.dms_face.specs.declared.multi_fault.MultiFaultCode.TheVariants.{TextTooBig}
use Rattle.signtool_lacks.specs.declared.lacking.FaceLack.{FaceLack}
use Rattle.signtool_lacks.specs.declared.lacking.FaceLack.TheVariants.{Character, Font, Columns, Rows, Octets}
use Rattle.signtool_lacks.specs.declared.lacking.OutsideFont.{OutsideFont}
use Rattle.signtool_lacks.specs.declared.lacking.Excess.{Excess}

-- one column, two columns
abbrev pub plural_ending : ℕ → List ℕ
plural_ending count = if count == 1 then [] else codes "s"

-- too much of something by so many
abbrev pub excess_text : (what : List ℕ) → ℕ → (unit : List ℕ) → List ℕ
excess_text what count unit = what ++ codes " by " ++ decimal count ++ codes " " ++ unit ++ plural_ending count

abbrev pub outside_text : ℕ → List ℕ
outside_text font = codes " is not in font " ++ decimal font

abbrev pub lack_text : FaceLack → List ℕ
lack_text (Character character font) = codes "character " ++ decimal character ++ outside_text font
lack_text (Font font) = codes "the sign has no font " ++ decimal font
lack_text (Columns count) = excess_text (codes "wider than the matrix") count (codes "column")
lack_text (Rows count) = excess_text (codes "higher than the matrix") count (codes "row")
lack_text (Octets count) = excess_text (codes "longer than a text may be") count (codes "octet")

-- ---- what is lacked for which fault

-- a picture or a font, for an item
abbrev pub IsOfItem : FaceLack → Type 0
IsOfItem (Character character font) = ⊤
IsOfItem (Font font) = ⊤
IsOfItem other = ⊥

-- columns or rows, for what does not fit
abbrev pub IsRoom : FaceLack → Type 0
IsRoom (Columns count) = ⊤
IsRoom (Rows count) = ⊤
IsRoom other = ⊥

-- A character or a font is lacked by its own faults alone, and room where the text is too big. Of a text that has more
-- octets than a message may have it is these.
abbrev pub LacksFor : MultiFaultCode → List ℕ → FaceLack → Type 0
LacksFor code text (Character character font) = (code ≡ CharacterNotDefined) ⊎ (code ≡ FontNotDefined)
LacksFor code text (Font font) = (code ≡ CharacterNotDefined) ⊎ (code ≡ FontNotDefined)
LacksFor code text (Columns count) = (code ≡ TextTooBig) × (length text ≤ longest_text)
LacksFor code text (Rows count) = (code ≡ TextTooBig) × (length text ≤ longest_text)
LacksFor code text (Octets count) = (code ≡ TextTooBig) × (length text ≡ longest_text + count) × (0 < count)

-- ---- the parts that the code has

abbrev pub text_of_outside : OutsideFont → List ℕ
text_of_outside it = outside_text it.font

abbrev pub text_of_excess : Excess → List ℕ
text_of_excess it = excess_text it.what.now it.count it.unit.now
