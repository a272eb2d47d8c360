-- What the library answers to C of a sign, and what it leaves in a buffer (this profile).
use Rattle.std.specs.Prelude.{ℕ, if◌then◌else◌, List, length, nat_lt}
use Rattle.dms_wire_ber.specs.Limits.{longest_datagram}
use Rattle.dms_sign_text.specs.declared.fault.DescriptionFault.{DescriptionFault}
use Rattle.dms_sign_text.specs.declared.fault.DescriptionFault.TheVariants as faults
use Rattle.dms_agent.specs.declared.agent.Agent.{Agent}
use Rattle.dms_agent.specs.Received.{agent_received}
use Rattle.dms_agent_watched.specs.Watched.{WatchedSign, watched}
pub use Rattle.wisangub_c_values.specs.Answers.{done, nothing_sent, too_small, no_memory, at_fault, busy}
pub use Rattle.wisangub_c_values.specs.Answers.{numbers_used_up, out_of_range, put_first, given_answer, given_buffer}
pub use Rattle.wisangub_c_values.specs.Answers.{ranged_answer, ranged_size, ranged_buffer, unless_memory}
pub use Rattle.wisangub_c_values.specs.Answers.{answer_of, size_of, buffer_with}

-- ---- a description of which no sign is made

abbrev pub fault_answer : DescriptionFault → ℕ
fault_answer (faults.Line number) = at_fault
fault_answer faults.Memory = no_memory

-- the number of the line at fault; out of memory what is old stays
abbrev pub line_after : DescriptionFault → ℕ → ℕ
line_after (faults.Line number) old = number
line_after faults.Memory old = old

-- ---- a datagram to a sign and the objects beside it: one that comes with a buffer which could not take every reply is
-- not heard

abbrev pub after_datagram : WatchedSign → List ℕ → ℕ → WatchedSign
after_datagram w datagram room =
    if nat_lt room longest_datagram then w else watched w (agent_received w.agent datagram).after

abbrev pub datagram_answer : Agent → List ℕ → ℕ → ℕ
datagram_answer a datagram room =
    if nat_lt room longest_datagram then too_small else answer_of (agent_received a datagram).reply

abbrev pub datagram_size : Agent → List ℕ → ℕ → ℕ
datagram_size a datagram room =
    if nat_lt room longest_datagram then longest_datagram else size_of (agent_received a datagram).reply

abbrev pub datagram_buffer : Agent → List ℕ → List ℕ → List ℕ
datagram_buffer a datagram buffer =
    if nat_lt (length buffer) longest_datagram then buffer else buffer_with (agent_received a datagram).reply buffer
