-- The state of a central system as text (this profile): what came to be since it was made. Each line begins with the
-- name of a field; numbers are decimal, octets are pairs of small hexadecimal digits. What it was made with, its
-- community and the order of a code's octets, does not stand in it, nor what is computed: the number and the octets of
-- a request that waits.
use Rattle.std.specs.Prelude.{ℕ, List, ◌++◌, codes, decimal, flat_map}
use Rattle.dms_wire_ber.specs.NameText.{dotted}
use Rattle.dms_text_forms.specs.LineText.{code_text}
use Rattle.dms_text_values.specs.ValueText.{octets_text}
use Rattle.dms_codes.specs.declared.codes.Order.{Order}
use Rattle.dms_centre_jobs.specs.Job.{PublicationModel, Work, Publishing, Showing, Job}
use Rattle.dms_centre_jobs.specs.Steps.{step_number}
use Rattle.dms_centre.specs.declared.ended.Ended.{Ended}
use Rattle.dms_centre.specs.declared.ended.Ended.TheVariants.{Never, Accepted, Failed}
use Rattle.dms_centre.specs.State.{Phase, Idle, Awaits, Due, Entry, CentreState}
use Rattle.dms_centre.specs.Texts.{outcome_text, why_text}

-- a field that is a number
abbrev pub number_line : List ℕ → ℕ → List ℕ
number_line name number = name ++ codes " " ++ decimal number ++ codes "\n"

-- ---- what is to be activated, in the words of an operator's command

abbrev pub row_words : PublicationModel → List ℕ
row_words p = codes "publish " ++ decimal p.memory ++ codes " " ++ decimal p.number

abbrev pub message_words : PublicationModel → List ℕ
message_words p = codes " " ++ octets_text p.text ++ codes " " ++ octets_text p.owner

abbrev pub attribute_words : PublicationModel → List ℕ
attribute_words p =
    codes " " ++ decimal p.beacon ++ codes " " ++ decimal p.pixel ++ codes " " ++ decimal p.run_priority

abbrev pub term_words : PublicationModel → List ℕ
term_words p =
    codes " " ++ decimal p.minutes ++ codes " " ++ decimal p.priority ++ codes " " ++ (dotted p.address ++ codes "\n")

-- `publish MEMORY NUMBER TEXT OWNER BEACON PIXEL RUN MINUTES PRIORITY ADDRESS`
abbrev pub publish_line : PublicationModel → List ℕ
publish_line p = row_words p ++ message_words p ++ attribute_words p ++ term_words p

-- `activate CODE`
abbrev pub work_line : Order → Work → List ℕ
work_line order (Publishing p) = publish_line p
work_line order (Showing code) = codes "activate " ++ code_text order code ++ codes "\n"

-- ---- the job

-- its step, how many replies said that the row is still being validated, and what it is to activate
abbrev pub job_text : Order → Job → List ℕ
job_text order job =
    number_line (codes "step") (step_number job.step) ++ number_line (codes "polls") job.polls
    ++ work_line order job.work

-- No job; a job whose request waits for its reply, how many times it was sent, and the ticks since the last time; or a
-- job whose request the next tick sends.
abbrev pub phase_text : Order → Phase → List ℕ
phase_text order Idle = codes "idle\n"
phase_text order (Awaits job pending) =
    codes "awaits\n" ++ number_line (codes "sends") pending.sends ++ number_line (codes "ticks") pending.age
    ++ job_text order job
phase_text order (Due job) = codes "due\n" ++ job_text order job

-- how the last job ended, as a live centre answers it
abbrev pub last_line : Ended → List ℕ
last_line Never = codes "last none\n"
last_line Accepted = codes "last accepted\n"
last_line (Failed step why) =
    codes "last failed at step " ++ decimal step ++ codes ": " ++ (why_text why ++ codes "\n")

-- ---- the ledger, as in a report

abbrev pub ledger_line : Order → Entry → List ℕ
ledger_line order entry =
    codes "ledger " ++ decimal entry.number ++ codes " " ++ code_text order entry.code ++ codes " "
    ++ (outcome_text entry.outcome ++ codes "\n")

-- in the order of the requests
abbrev pub ledger_lines : Order → List Entry → List ℕ
ledger_lines order ledger = flat_map (ledger_line order) ledger

-- ---- the whole

-- the first number is that of this form
unfoldable pub text_of_state : CentreState → List ℕ
text_of_state s =
    codes "state 1 centre\n" ++ number_line (codes "next") s.next ++ last_line s.last
    ++ phase_text s.settings.order s.phase ++ ledger_lines s.settings.order s.ledger ++ codes "end\n"
