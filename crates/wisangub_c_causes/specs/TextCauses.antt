-- A text that can not be shown, in numbers and in words, as it is given to C (this profile).
use Rattle.std.specs.Prelude.{ℕ, List, ◌++◌, codes, Option, Some, None}
use Rattle.dms_face.specs.FaultCode.{number_of_code}
use Rattle.dms_face.specs.FaultTexts.{multi_fault_text}
use Rattle.dms_face.specs.declared.multi_fault.MultiFault.{MultiFault}
use Rattle.signtool_lacks.specs.LackText.{lack_text}
use Rattle.signtool_lacks.specs.declared.lacking.FaceLack.{FaceLack}
use Rattle.signtool_lacks.specs.declared.lacking.FaceLack.TheVariants.{Character, Font, Columns, Rows, Octets}
use Rattle.wisangub_c_causes.specs.declared.text_causes.TextCause.{TextCause}
use Rattle.wisangub_c_causes.specs.declared.text_causes.TextRefusal.{TextRefusal}

abbrev pub fault_in : TextRefusal → MultiFault
fault_in why = why.fault

-- ---- what is lacking

abbrev pub lack_number : Option FaceLack → ℕ
lack_number None = 0
lack_number (Some (Character character font)) = 1
lack_number (Some (Font font)) = 2
lack_number (Some (Columns count)) = 3
lack_number (Some (Rows count)) = 4
lack_number (Some (Octets count)) = 5

abbrev pub lack_count : Option FaceLack → ℕ
lack_count (Some (Columns count)) = count
lack_count (Some (Rows count)) = count
lack_count (Some (Octets count)) = count
lack_count lack = 0

abbrev pub lack_character : Option FaceLack → ℕ
lack_character (Some (Character character font)) = character
lack_character lack = 0

abbrev pub lack_font : Option FaceLack → ℕ
lack_font (Some (Character character font)) = font
lack_font (Some (Font font)) = font
lack_font lack = 0

-- ---- the whole

abbrev pub text_cause : TextRefusal → TextCause
text_cause why = record {
  place = why.fault.place;
  count = lack_count why.lack;
  character = lack_character why.lack;
  font = lack_font why.lack;
  code = number_of_code why.fault.code;
  lack = lack_number why.lack;
}

-- what is wrong, and what is lacking where that is known
abbrev pub words_of_lack : MultiFault → Option FaceLack → List ℕ
words_of_lack fault None = multi_fault_text fault
words_of_lack fault (Some lack) = multi_fault_text fault ++ (codes ": " ++ lack_text lack)

abbrev pub text_cause_words : TextRefusal → List ℕ
text_cause_words why = words_of_lack why.fault why.lack
