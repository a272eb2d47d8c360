-- What the code's next instance is: a name, and the value that it reads.
use Rattle.std.specs.Prelude.{ℕ, List}
use Rattle.dms_wire.specs.Message.{VarBind}
use Rattle.dms_wire.specs.View.{object_value}
use Rattle.dms_mib.specs.Names.{name_of}
use Rattle.dms_mib_replies.specs.declared.objects.Next.{Next}
use Rattle.dms_mib_replies.specs.declared.objects.NextName.{NextName}
use Rattle.dms_mib_replies.specs.declared.objects.NextName.TheVariants.{Instance, Lent, Numbered}

abbrev pub next_name : NextName → List ℕ
next_name (Instance instance) = name_of instance
next_name (Lent name) = name
next_name (Numbered name) = name

abbrev pub next_binding : Next → VarBind
next_binding next = record { name = next_name next.name; value = object_value next.value }
