-- What is printed of the faults of reading and writing, and of a conversation that ends before its input (this
-- profile).
use Rattle.std.specs.Prelude.{ℕ, List, codes}
use Rattle.dms_text_streams.specs.declared.failed.Failed.{Failed}
use Rattle.dms_text_streams.specs.declared.fault.InputFault.{InputFault}
use Rattle.dms_text_streams.specs.declared.fault.InputFault.TheVariants as input
use Rattle.dms_text_streams.specs.declared.fault.ConversationFault.{ConversationFault}
use Rattle.dms_text_streams.specs.declared.fault.ConversationFault.TheVariants as conversation

abbrev pub failed_text : Failed → List ℕ
failed_text failed = codes "a call failed"

abbrev pub input_fault_text : InputFault → List ℕ
input_fault_text input.Read = codes "read"
input_fault_text input.TooLong = codes "too long"
input_fault_text input.Memory = codes "memory"

abbrev pub conversation_fault_text : ConversationFault → List ℕ
conversation_fault_text conversation.Read = codes "read"
conversation_fault_text conversation.Write = codes "write"
conversation_fault_text conversation.TooLong = codes "too long"
conversation_fault_text conversation.Memory = codes "memory"
