-- What a sign shows, and what is wrong with a text, as it is given to C (this profile).
use Rattle.std.specs.Prelude.{ℕ, ◌*◌, if◌then◌else◌, nat_le, Option, Some, None, Result, Ok, Err}
use Rattle.dms_face.specs.declared.multi_fault.MultiFault.{MultiFault}
use Rattle.dms_face.specs.FaultCode.{number_of_code}
use Rattle.dms_table.specs.Activation.{ShownModel}
use Rattle.dms_table.specs.Activation.{minutes_left}
use Rattle.wisangub_c.specs.Answers.{done, nothing_sent, at_fault}
use Rattle.wisangub_c.specs.declared.shown_calls.ShownNow.{ShownNow}
use Rattle.wisangub_c.specs.declared.shown_calls.TextFault.{TextFault}

abbrev pub shown_now : ShownModel → ShownNow
shown_now shown = record {
  minutes = minutes_left shown.remaining;
  number = shown.source.number;
  checksum = shown.source.crc;
  memory = shown.source.memory;
  mode = shown.mode;
  priority = shown.priority;
  beacon = shown.beacon;
  pixel = shown.pixel;
}

-- ---- when the message ends by itself: with one second left, and with none, the next second ends it (after_duration)

-- in tenths of a second
abbrev pub tenths_of : ℕ → ℕ
tenths_of seconds = if nat_le seconds 1 then 10 else 10 * seconds

abbrev pub ends_answer : Option ℕ → ℕ
ends_answer None = nothing_sent
ends_answer (Some seconds) = done

abbrev pub ends_after : Option ℕ → ℕ → ℕ
ends_after None old = old
ends_after (Some seconds) old = tenths_of seconds

-- ---- a text

abbrev pub text_fault : MultiFault → TextFault
text_fault fault = record { place = fault.place; code = number_of_code fault.code }

-- what is known of a fault afterwards
abbrev pub fault_after : {A : Type 0} → Result A MultiFault → TextFault → TextFault
fault_after (Ok value) old = old
fault_after (Err fault) old = text_fault fault

abbrev pub check_answer : Result ℕ MultiFault → ℕ
check_answer (Ok count) = done
check_answer (Err fault) = at_fault

-- the number of pages afterwards
abbrev pub count_after : Result ℕ MultiFault → ℕ → ℕ
count_after (Ok count) old = count
count_after (Err fault) old = old
