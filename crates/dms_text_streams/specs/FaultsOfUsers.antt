-- Which fault of a conversation a fault of its input is (this profile).
use Rattle.dms_text_streams.specs.declared.fault.InputFault.{InputFault}
use Rattle.dms_text_streams.specs.declared.fault.InputFault.TheVariants as input
use Rattle.dms_text_streams.specs.declared.fault.ConversationFault.{ConversationFault}
use Rattle.dms_text_streams.specs.declared.fault.ConversationFault.TheVariants as conversation

abbrev pub conversation_fault : InputFault → ConversationFault
conversation_fault input.Read = conversation.Read
conversation_fault input.TooLong = conversation.TooLong
conversation_fault input.Memory = conversation.Memory
