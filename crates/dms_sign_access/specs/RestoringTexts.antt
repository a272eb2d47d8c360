-- What the faults of a saved state print (this profile).
use Rattle.std.specs.Prelude.{ℕ, List, ◌++◌, codes}
use Rattle.dms_face.specs.FaultTexts.{multi_fault_text}
use Rattle.dms_table.specs.FaultTexts.{shown_fault_text}
use Rattle.dms_sign_access.specs.declared.reports.ReportFault.{ReportFault}
use Rattle.dms_sign_access.specs.declared.reports.ReportFault.TheVariants as reports
use Rattle.dms_sign_access.specs.declared.restoring.MessageFault.{MessageFault}
use Rattle.dms_sign_access.specs.declared.restoring.MessageFault.TheVariants as messages
use Rattle.dms_sign_access.specs.declared.restoring.StateFault.{StateFault}
use Rattle.dms_sign_access.specs.declared.restoring.StateFault.TheVariants as faults

abbrev pub message_fault_text : MessageFault → List ℕ
message_fault_text (messages.Shown fault) = shown_fault_text fault
message_fault_text messages.Source = codes "the sign has no row of its source"
message_fault_text messages.Beacons = codes "the sign has no beacons"
message_fault_text messages.PixelService = codes "the sign has no pixel service"
message_fault_text messages.Defaults = codes "its defaults do not fit the face"
message_fault_text (messages.Text fault) = multi_fault_text fault

abbrev pub report_fault_text : ReportFault → List ℕ
report_fault_text reports.ValidateError = codes "no such error of a validation"
report_fault_text reports.ActivateError = codes "no such error of an activation"
report_fault_text reports.SyntaxError = codes "no such fault of a text"
report_fault_text reports.Position = codes "no such place of this fault"

abbrev pub state_fault_text : StateFault → List ℕ
state_fault_text faults.Defaults = codes "the defaults do not fit the face"
state_fault_text faults.Silence = codes "too many seconds were silent"
state_fault_text (faults.Shown fault) = codes "what is shown: " ++ message_fault_text fault
state_fault_text (faults.Kept fault) = codes "what was kept: " ++ message_fault_text fault
state_fault_text (faults.Reports fault) = report_fault_text fault
state_fault_text faults.Power = codes "another power than that of its messages"
