-- What a call prints, and how it ends (this profile).
use Rattle.std.specs.Prelude.{◌≡◌, ℕ, ◌⊎◌, List, codes, Option, Result, Ok, Err}
use Rattle.std.specs.Io.KnownBytes.{Appends}
use Rattle.dms_text_streams.specs.Calls.{one_more}
use Rattle.dms_text_streams.specs.Prefixes.{AppendsPrefix}
use Rattle.dms_text_streams.specs.declared.failed.Failed.{Failed}
use Rattle.signtool_print.specs.declared.statuses.ExitStatus.{ExitStatus}
use Rattle.signtool_print.specs.declared.statuses.ExitStatus.TheVariants.{Refused}

-- the text of a call, and the status with which it ends
pub record Answer : Type 0 where
  pub text : List ℕ
  pub status : ExitStatus

abbrev pub answer : ExitStatus → List ℕ → Answer
answer status text = record { text = text; status = status }

-- out of memory
abbrev pub no_memory : Answer
no_memory = answer Refused (codes "memory\n")

-- The whole text was written, the status is given, and no call of the output failed. Or a call failed, the last one: a
-- front of the text was written.
abbrev pub Prints : (old new : Option (List ℕ)) → (before after : ℕ) → Result ExitStatus Failed → Answer → Type 0
Prints old new before after (Ok status) it = Appends old new it.text × (status ≡ it.status) × (after ≡ before)
Prints old new before after (Err failed) it = AppendsPrefix old new it.text × (after ≡ one_more before)

-- so of this answer, or of `memory` where there was none
abbrev pub PrintsOrMemory : (old new : Option (List ℕ)) → (before after : ℕ) → Result ExitStatus Failed → Answer
    → Type 0
PrintsOrMemory old new before after result it =
    Prints old new before after result it ⊎ Prints old new before after result no_memory

-- the status of the program: 1 too where a call of its output failed
abbrev pub status_of : Result ExitStatus Failed → ExitStatus
status_of (Ok status) = status
status_of (Err failed) = Refused

-- The whole text was written, the program's status is that of the answer, and no call of the output failed. Or a call
-- failed, the last one: a front of the text was written, and the program's status is 1.
abbrev pub Ends : (old new : Option (List ℕ)) → (before after : ℕ) → ExitStatus → Answer → Type 0
Ends old new before after status it =
    (Appends old new it.text × (status ≡ it.status) × (after ≡ before))
    ⊎ (AppendsPrefix old new it.text × (status ≡ Refused) × (after ≡ one_more before))

-- so of this answer, or of `memory` where there was none
abbrev pub EndsOrMemory : (old new : Option (List ℕ)) → (before after : ℕ) → ExitStatus → Answer → Type 0
EndsOrMemory old new before after status it =
    Ends old new before after status it ⊎ Ends old new before after status no_memory
