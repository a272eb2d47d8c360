-- Reading single lines of a state's text, each with the text after it, and what is wanted where one is not as it must
-- be. Inner words of the readers (this profile).
use Rattle.std.specs.Prelude.{ℕ, ℤ, ◌-◌, ◌==◌, ◌&&◌, Bool, true, false, if◌then◌else◌, is_none}
use Rattle.std.specs.Prelude.{List, [], ◌∷◌, codes, nat_le, Option, Some, None}
use Rattle.std.specs.Option.{option_or}
use Rattle.dms_text.specs.Words.{words_of}
use Rattle.dms_text.specs.Reading.{word_at, same_octets, is_end, ◌>>=◌}
use Rattle.dms_codes.specs.declared.codes.Order.{Order}
use Rattle.dms_codes.specs.Limits.{longest_text, longest_owner}
use Rattle.dms_text_forms.specs.FieldsReading.{if_last}
use Rattle.dms_centre_jobs.specs.declared.step.Step.{Step}
use Rattle.dms_centre_jobs.specs.declared.step.Step.TheVariants as steps
use Rattle.dms_centre_jobs.specs.Commands.{CommandModel, Activate}
use Rattle.dms_centre.specs.declared.ended.Ended.{Ended}
use Rattle.dms_centre.specs.declared.ended.Ended.TheVariants as endings
use Rattle.dms_centre.specs.declared.ended.Why.{Why}
use Rattle.dms_centre.specs.declared.ended.Why.TheVariants as reasons
use Rattle.dms_centre.specs.declared.outcome.Outcome.{Outcome}
use Rattle.dms_centre.specs.declared.outcome.Outcome.TheVariants as outcomes
use Rattle.dms_centre.specs.declared.restoring.SavedStage.{SavedStage}
use Rattle.dms_centre.specs.declared.restoring.SavedStage.TheVariants as stages
use Rattle.dms_centre.specs.State.{Entry}
use Rattle.dms_centre.specs.Restoring.{is_sent_by_ticks}
use Rattle.dms_centre_text.specs.CommandReading.{publish_at}
use Rattle.dms_centre_restored.specs.declared.refusal.CentreStateField.{CentreStateField}
use Rattle.dms_centre_restored.specs.declared.refusal.CentreStateField.TheVariants as fields
use Rattle.dms_centre_restored.specs.declared.lines.PhaseLine.{PhaseLine}
use Rattle.dms_centre_restored.specs.declared.lines.PhaseLine.TheVariants as phases
use Rattle.dms_text_exact.specs.ExactWords.{number_in, integer_in}
use Rattle.dms_text_exact.specs.Fronts.{behind}
use Rattle.dms_centre_restored.specs.WordReading.{line_at, after_number, after_octets, after_address, code_in}

-- ---- lines

-- what stands behind the name of a line, and the text after the line
unfoldable pub field_at : List ℕ → List ℕ → Option (List ℕ × List ℕ)
field_at name text = do
  rest ← behind name text
  line_at rest

unfoldable pub number_line_at : List ℕ → ℕ → ℕ → List ℕ → Option (ℕ × List ℕ)
number_line_at name low high text = do
  field ← field_at name text
  number ← number_in low high field.0
  Some (number, field.1)

abbrev pub end_at : List ℕ → Option (List ℕ)
end_at text = if same_octets text (codes "end\n") then Some [] else None

-- ---- how the last job ended

unfoldable pub why_alone : List ℕ → Option Why
why_alone reason =
    if same_octets reason (codes "the row is still being validated") then Some reasons.StillValidating
    else if same_octets reason (codes "the row has another checksum") then Some reasons.OtherChecksum
    else if same_octets reason (codes "no reply") then Some reasons.NoReply
    else if same_octets reason (codes "no request number is left") then Some reasons.NumbersUsedUp
    else if same_octets reason (codes "the reply does not answer what was asked") then Some reasons.OddReply
    else if same_octets reason (codes "the central system was restarted") then Some reasons.Restarted
    else None

-- the number of a word, where there is one
abbrev pub numbered_or : Option (List ℕ) → (ℤ → Why) → Option Why → Option Why
numbered_or None make others = others
numbered_or (Some word) make others = integer_in word >>= (λ number. Some (make number))

unfoldable pub why_caused : List ℕ → Option Why
why_caused reason =
    numbered_or (behind (codes "the sign refused the activation for cause ") reason) reasons.Cause None

unfoldable pub why_of_row : List ℕ → Option Why
why_of_row reason =
    numbered_or (behind (codes "the row has status ") reason) reasons.WrongStatus (why_caused reason)

unfoldable pub why_numbered : List ℕ → Option Why
why_numbered reason = numbered_or (behind (codes "error-status ") reason) reasons.Status (why_of_row reason)

abbrev pub why_in : List ℕ → Option Why
why_in reason = option_or (why_alone reason) (why_numbered reason)

abbrev pub step_digit : ℕ → Option ℕ
step_digit digit = if nat_le 49 digit && nat_le digit 56 then Some (digit - 48) else None

unfoldable pub failed_at : ℕ → List ℕ → Option Ended
failed_at digit rest = do
  reason ← behind (codes ": ") rest
  step ← step_digit digit
  why ← why_in reason
  Some (endings.Failed step why)

abbrev pub failed_in : List ℕ → Option Ended
failed_in [] = None
failed_in (digit ∷ rest) = failed_at digit rest

unfoldable pub ended_in : List ℕ → Option Ended
ended_in value =
    if same_octets value (codes "none") then Some endings.Never
    else if same_octets value (codes "accepted") then Some endings.Accepted
    else (behind (codes "failed at step ") value >>= failed_in)

-- ---- whether a job is on

abbrev pub phase_or : Option (List ℕ) → PhaseLine → Option (PhaseLine × List ℕ) → Option (PhaseLine × List ℕ)
phase_or None line others = others
phase_or (Some rest) line others = Some (line, rest)

-- a request waits only where the number before the next one is that of a request
abbrev pub can_wait : ℕ → Bool
can_wait next = nat_le 1 next && nat_le next 2147483648

abbrev pub awaits_at : ℕ → List ℕ → Option (PhaseLine × List ℕ)
awaits_at next text =
    if can_wait next then phase_or (behind (codes "awaits\n") text) phases.Awaits None else None

unfoldable pub phase_at : ℕ → List ℕ → Option (PhaseLine × List ℕ)
phase_at next text =
    phase_or (behind (codes "idle\n") text) phases.Idle
    (phase_or (behind (codes "due\n") text) phases.Due (awaits_at next text))

abbrev pub phase_wanted : ℕ → CentreStateField
phase_wanted next = if can_wait next then fields.Phase else fields.PhaseWithoutRequest

-- ---- the job

abbrev pub step_of : ℕ → Step
step_of number =
    if number == 1 then steps.Opening
    else if number == 2 then steps.Opened
    else if number == 3 then steps.Filling
    else if number == 4 then steps.Validating
    else if number == 5 then steps.Polling
    else if number == 6 then steps.Comparing
    else if number == 7 then steps.Activating
    else steps.Explaining

-- a job that goes on so comes to the step
abbrev pub comes_to : SavedStage → Step → Bool
comes_to stages.Due step = is_sent_by_ticks step
comes_to (stages.Waits sends ticks) step = true

unfoldable pub step_in : SavedStage → List ℕ → Option Step
step_in stage value = do
  number ← number_in 1 8 value
  if comes_to stage (step_of number) then Some (step_of number) else None

unfoldable pub step_line_at : SavedStage → List ℕ → Option (Step × List ℕ)
step_line_at stage text = do
  field ← field_at (codes "step ") text
  step ← step_in stage field.0
  Some (step, field.1)

abbrev pub step_wanted : SavedStage → CentreStateField
step_wanted stages.Due = fields.StepOfTick
step_wanted (stages.Waits sends ticks) = fields.Step

-- the words after a row, a text and its owner; after what else belongs to a message; and after its terms
unfoldable pub after_row : List (List ℕ) → Option (List (List ℕ))
after_row words = do
  number ← after_number 3 4 words
  text ← after_number 1 65535 number
  owner ← after_octets longest_text text
  after_octets longest_owner owner

unfoldable pub after_message : List (List ℕ) → Option (List (List ℕ))
after_message words = do
  beacon ← after_row words
  pixel ← after_number 0 1 beacon
  run ← after_number 0 1 pixel
  after_number 1 255 run

unfoldable pub after_terms : List (List ℕ) → Option (List (List ℕ))
after_terms words = do
  priority ← after_number 0 65535 words
  address ← after_number 0 255 priority
  after_address address

abbrev pub is_last : Option (List (List ℕ)) → Bool
is_last None = false
is_last (Some words) = is_end words

abbrev pub are_terms : Option (List (List ℕ)) → Bool
are_terms None = false
are_terms (Some words) = is_last (after_terms words)

-- the words of a publication that can be written
unfoldable pub is_publication : List ℕ → Bool
is_publication value = are_terms (after_message (words_of value))

abbrev pub publication_in : List ℕ → Option CommandModel
publication_in value = if is_publication value then publish_at (words_of value) else None

unfoldable pub publication_at : List ℕ → Option (CommandModel × List ℕ)
publication_at text = do
  field ← field_at (codes "publish ") text
  command ← publication_in field.0
  Some (command, field.1)

unfoldable pub activation_at : Order → List ℕ → Option (CommandModel × List ℕ)
activation_at order text = do
  field ← field_at (codes "activate ") text
  code ← code_in order field.0
  Some (Activate code, field.1)

-- a message that the sign has comes to these alone
abbrev pub is_of_showing : Step → Bool
is_of_showing steps.Activating = true
is_of_showing steps.Explaining = true
is_of_showing step = false

-- an activation has to stand there: a message that the sign has comes to the step, and none is published
abbrev pub is_activation : Step → List ℕ → Bool
is_activation step text = is_of_showing step && is_none (behind (codes "publish ") text)

unfoldable pub work_at : Order → Step → List ℕ → Option (CommandModel × List ℕ)
work_at order step text = if is_activation step text then activation_at order text else publication_at text

abbrev pub work_wanted : Step → List ℕ → CentreStateField
work_wanted step text = if is_activation step text then fields.Activation else fields.Publication

-- ---- entries of the ledger

unfoldable pub known : List ℕ → Option Outcome
known word =
    if same_octets word (codes "waiting") then Some outcomes.Waiting
    else if same_octets word (codes "accepted") then Some outcomes.Accepted
    else if same_octets word (codes "noreply") then Some outcomes.NoReply
    else if same_octets word (codes "unknown") then Some outcomes.Unknown
    else None

unfoldable pub refused_at : List (List ℕ) → Option Outcome
refused_at words = do
  found ← word_at words
  status ← integer_in found.0
  if_last (outcomes.Refused status) found.1

unfoldable pub known_at : List ℕ → List (List ℕ) → Option Outcome
known_at word words = do
  outcome ← known word
  if_last outcome words

unfoldable pub outcome_at : List (List ℕ) → Option Outcome
outcome_at words = do
  found ← word_at words
  if same_octets found.0 (codes "refused") then refused_at found.1 else known_at found.0 found.1

unfoldable pub entry_in : Order → ℕ → ℕ → List ℕ → Option Entry
entry_in order least most value = do
  first ← word_at (words_of value)
  number ← number_in least most first.0
  second ← word_at first.1
  code ← code_in order second.0
  outcome ← outcome_at second.1
  Some (record { number = number; code = code; outcome = outcome })

-- an entry of a number from the least to the greatest
unfoldable pub entry_line_at : Order → ℕ → ℕ → List ℕ → Option (Entry × List ℕ)
entry_line_at order least most text = do
  field ← field_at (codes "ledger ") text
  entry ← entry_in order least most field.0
  Some (entry, field.1)
