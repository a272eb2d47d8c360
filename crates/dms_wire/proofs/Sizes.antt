-- Sizes of elements and octets appended, for the functions that write.
use Rattle.std.proofs.Common.{length-append, append_assoc}
use Rattle.dms_wire_ber.proofs.Shortest.{element_put, element_length}

-- how many octets elements take
pub ruleset sizes = (element_length, length-append)

-- octets written, one part after the other
pub ruleset element_steps = (length-append, append_assoc)

-- an element written around others
pub ruleset nested_steps = (element_put, element_length, length-append)
