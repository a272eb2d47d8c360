-- What a line makes of the central system, and the lines that answer it (this profile).
use Rattle.std.specs.Prelude.{ℕ, ◌+◌, ◌*◌, Bool, true, false, List, ◌++◌, codes, flat_map, Option, Some, None}
use Rattle.hex.specs.Hex.{encode_lower}
use Rattle.dms_wire_ber.specs.Limits.{longest_datagram}
use Rattle.dms_centre.specs.declared.fault.CommandFault.{CommandFault}
use Rattle.dms_centre.specs.declared.fault.CommandFault.TheVariants as faults
use Rattle.dms_centre.specs.declared.ended.Ended.{Ended}
use Rattle.dms_centre.specs.declared.ended.Ended.TheVariants.{Never, Accepted, Failed}
use Rattle.dms_centre.specs.State.{CentreState, is_busy}
use Rattle.dms_centre_jobs.specs.Commands.{CommandModel}
use Rattle.dms_centre.specs.Commands.{refusal_of, commanded}
use Rattle.dms_centre.specs.Inputs.{received, ticked, restarted}
use Rattle.dms_centre.specs.Texts.{command_fault_text, ended_text}
use Rattle.dms_text_forms.specs.LineText.{ended}
use Rattle.dms_centre_text.specs.LedgerLine.{ledger_line}
use Rattle.dms_centre_state.specs.CentreText.{text_of_state}
use Rattle.dms_text_streams.specs.Conversation.{bad_line, ok_line}
use Rattle.dms_centre_lines.specs.BadValue.{value_text, bad_value}
use Rattle.dms_centre_lines.specs.Calls.{CentreCall, command, datagram, tick, restart, status, status_last, save}
use Rattle.dms_centre_lines.specs.CallForm.{call_cause, bad_line_text}
use Rattle.dms_centre_lines.specs.CallReading.{call_of}
use Rattle.dms_centre_lines.specs.declared.cause.CentreCallCause.{CentreCallCause}

-- ---- lines

-- the datagram that goes out, in small digits; or `ok`
abbrev pub sent_line : Option (List ℕ) → List ℕ
sent_line None = ok_line
sent_line (Some octets) = ended (codes "send " ++ encode_lower octets)

-- the most octets of such a line
abbrev pub longest_sent : ℕ
longest_sent = 2 * longest_datagram + 6

-- why a command is not taken; where a value is out of its range, which one
abbrev pub refusal_text : CommandModel → CommandFault → List ℕ
refusal_text asked faults.BadCommand =
    command_fault_text faults.BadCommand ++ (codes ": " ++ value_text (bad_value asked))
refusal_text asked fault = command_fault_text fault

abbrev pub refused_line : CommandModel → CommandFault → List ℕ
refused_line asked fault = ended (codes "refused " ++ refusal_text asked fault)

abbrev pub command_line : CentreState → CommandModel → Option CommandFault → List ℕ
command_line state asked None = sent_line (commanded state asked).sent
command_line state asked (Some fault) = refused_line asked fault

-- whether a job is on
abbrev pub job_line : Bool → List ℕ
job_line true = ended (codes "busy")
job_line false = ended (codes "idle")

abbrev pub last_text : Ended → List ℕ
last_text Never = codes "none"
last_text Accepted = ended_text Accepted
last_text (Failed step why) = ended_text (Failed step why)

-- how the last job ended
abbrev pub last_line : Ended → List ℕ
last_line last = ended (codes "last " ++ last_text last)

-- how the central system stands: its job, the end of the last one, and its ledger, a line each as in a report
abbrev pub status_lines : CentreState → List ℕ
status_lines state =
    job_line (is_busy state.phase) ++ last_line state.last ++ flat_map (ledger_line state.settings.order) state.ledger
    ++ ok_line

-- the same without its ledger
abbrev pub last_lines : CentreState → List ℕ
last_lines state = job_line (is_busy state.phase) ++ last_line state.last ++ ok_line

-- ---- the answer to a line

abbrev pub call_text : CentreState → CentreCall → List ℕ
call_text state (command asked) = command_line state asked (refusal_of state asked)
call_text state (datagram octets) = sent_line (received state octets).sent
call_text state tick = sent_line (ticked state).sent
call_text state restart = ok_line
call_text state status = status_lines state
call_text state status_last = last_lines state
call_text state save = text_of_state state ++ ok_line

-- the answer to a call, or why a line is none; one of the two there always is (`each_line_is_a_call_or_has_a_cause`)
abbrev pub call_answer : CentreState → Option CentreCall → Option CentreCallCause → List ℕ
call_answer state (Some call) cause = call_text state call
call_answer state None (Some cause) = bad_line_text cause
call_answer state None None = bad_line

-- the central system after it
abbrev pub after_call : CentreState → Option CentreCall → CentreState
after_call state None = state
after_call state (Some (command asked)) = (commanded state asked).state
after_call state (Some (datagram octets)) = (received state octets).state
after_call state (Some tick) = (ticked state).state
after_call state (Some restart) = restarted state
after_call state (Some status) = state
after_call state (Some status_last) = state
after_call state (Some save) = state

-- one that is no call is a bad line, and is told why
abbrev pub answer_text : CentreState → List ℕ → List ℕ
answer_text state line = call_answer state (call_of state.settings.order line) (call_cause line)

abbrev pub after_line : CentreState → List ℕ → CentreState
after_line state line = after_call state (call_of state.settings.order line)
