-- What the faults of the table print (this profile).
use Rattle.std.specs.Prelude.{ℕ, List, ◌++◌, codes, decimal}
use Rattle.dms_face.specs.FaultTexts.{multi_fault_text}
use Rattle.dms_table.specs.declared.stock.TableFault.{TableFault}
use Rattle.dms_table.specs.declared.stock.TableFault.TheVariants as faults
use Rattle.dms_table.specs.declared.saved_row.RowFault.{RowFault}
use Rattle.dms_table.specs.declared.saved_row.RowFault.TheVariants as row_faults
use Rattle.dms_table.specs.declared.saved_shown.ShownFault.{ShownFault}
use Rattle.dms_table.specs.declared.saved_shown.ShownFault.TheVariants as shown_faults
use Rattle.dms_table.specs.declared.activation.Cause.{Cause}
use Rattle.dms_table.specs.declared.activation.Cause.TheVariants as causes

abbrev pub refused_text : List ℕ
refused_text = codes "the row does not take this now"

abbrev pub table_fault_text : TableFault → List ℕ
table_fault_text faults.Counts = codes "too many rows"
table_fault_text (faults.Permanent number) = codes "permanent row " ++ (decimal number ++ codes " is not valid")
table_fault_text faults.Memory = codes "out of memory"

abbrev pub row_fault_text : RowFault → List ℕ
row_fault_text row_faults.NotUsed = codes "the row is not used"
row_fault_text row_faults.Text = codes "the text is too long"
row_fault_text row_faults.Owner = codes "the owner is too long"
row_fault_text row_faults.Beacon = codes "no such beacon"
row_fault_text row_faults.Pixel = codes "no such pixel service"
row_fault_text row_faults.Priority = codes "no such priority"
row_fault_text row_faults.Validating = codes "another row is being validated"
row_fault_text row_faults.Place = codes "no such row can be changed"
row_fault_text row_faults.Used = codes "the row that is there is used"

abbrev pub shown_fault_text : ShownFault → List ℕ
shown_fault_text shown_faults.Text = codes "the text is too long"
shown_fault_text shown_faults.Owner = codes "the owner is too long"
shown_fault_text shown_faults.Beacon = codes "no such beacon"
shown_fault_text shown_faults.Pixel = codes "no such pixel service"
shown_fault_text shown_faults.Priority = codes "no such priority"
shown_fault_text shown_faults.Checksum = codes "another checksum than the message's"
shown_fault_text shown_faults.Blank = codes "not the blank message that its source names"
shown_fault_text shown_faults.Mode = codes "no such mode"
shown_fault_text shown_faults.Remaining = codes "too many seconds are left"

abbrev pub cause_text : Cause → List ℕ
cause_text causes.MemoryType = codes "no type of memory"
cause_text causes.Number = codes "no such row"
cause_text causes.Status = codes "the row is not valid"
cause_text causes.Checksum = codes "another checksum"
cause_text causes.Priority = codes "what is shown has a higher priority"
cause_text (causes.Syntax fault) = multi_fault_text fault
