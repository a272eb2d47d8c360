-- Why a description, a text and a line of a command are refused, as it is given to C (this profile).
use Rattle.std.specs.Prelude.{◌≡◌, ◌<◌, ◌-◌, ℕ, List, length, Option, Some, None, option_map, IfSome}
use Rattle.std.specs.Result.{result_err}
use Rattle.dms_text.specs.Lines.{kept_lines}
use Rattle.dms_codes.specs.Limits.{longest_text}
use Rattle.dms_face.specs.Face.{FaceModel}
use Rattle.dms_face.specs.Fit.{checked_text}
use Rattle.dms_face.specs.declared.multi_fault.MultiFaultCode.TheVariants.{TextTooBig}
use Rattle.dms_sign_text.specs.Causes.{first_cause}
use Rattle.dms_sign_text_causes.specs.Texts.{cause_text}
use Rattle.dms_centre_text.specs.CommandForm.{command_cause, command_cause_text}
use Rattle.signtool_lacks.specs.LackText.{LacksFor}
use Rattle.signtool_lacks.specs.declared.lacking.FaceLack.TheVariants.{Octets}
use Rattle.wisangub_c_causes.specs.declared.text_causes.TextRefusal.{TextRefusal}
use Rattle.wisangub_c_values.specs.Answers.{nothing_sent, given_answer, given_buffer}

-- why octets are no sign's description, in words
abbrev pub cause_words : List ℕ → Option (List ℕ)
cause_words text = option_map cause_text (first_cause (kept_lines text))

-- why a text can not be shown on a face: its fault, and what is said to be lacking for it; of a text that has more
-- octets than a message may have that is these
pub record IsWhyNotShown (face : FaceModel) (text : List ℕ) (why : TextRefusal) : Type 0 where
  pub fault : result_err (checked_text face text) ≡ Some why.fault
  pub lack : IfSome why.lack (LacksFor why.fault.code text)
  pub octets : why.fault.code ≡ TextTooBig → longest_text < length text
      → why.lack ≡ Some (Octets (length text - longest_text))

-- why a line spells no command of a central system, in words
abbrev pub command_words : List ℕ → Option (List ℕ)
command_words line = option_map command_cause_text (command_cause line)

-- ---- words that are given where there are some

abbrev pub told_answer : Option (List ℕ) → ℕ → ℕ
told_answer None room = nothing_sent
told_answer (Some words) room = given_answer words room

abbrev pub told_buffer : Option (List ℕ) → List ℕ → List ℕ
told_buffer None buffer = buffer
told_buffer (Some words) buffer = given_buffer words buffer
