-- What the library answers to C, and what it leaves in a buffer (this profile).
use Rattle.std.specs.Prelude.{ℕ, ◌==◌, if◌then◌else◌, List, ◌++◌, drop, length, nat_lt, Option, Some, None}

-- it is done
abbrev pub done : ℕ
done = 0

-- it is done, and nothing is sent
abbrev pub nothing_sent : ℕ
nothing_sent = 1

-- a buffer is too small, and nothing is done
abbrev pub too_small : ℕ
too_small = 2

-- there is no memory, and nothing is done
abbrev pub no_memory : ℕ
no_memory = 3

-- what was given is at fault, and nothing is done
abbrev pub at_fault : ℕ
at_fault = 4

-- a command is not taken: a job is not done yet
abbrev pub busy : ℕ
busy = 6

-- a command is not taken: no request number is left
abbrev pub numbers_used_up : ℕ
numbers_used_up = 7

-- a value is out of its range, and nothing is done
abbrev pub out_of_range : ℕ
out_of_range = 8

-- the octets stand first in the buffer, and those after them stay
abbrev pub put_first : List ℕ → List ℕ → List ℕ
put_first octets buffer = octets ++ drop (length octets) buffer

-- ---- octets that a buffer has room for or not; where it has none the buffer stays as it is, and the size that is
-- needed is given

abbrev pub given_answer : List ℕ → ℕ → ℕ
given_answer octets room = if nat_lt room (length octets) then too_small else done

abbrev pub given_buffer : List ℕ → List ℕ → List ℕ
given_buffer octets buffer = if nat_lt (length buffer) (length octets) then buffer else put_first octets buffer

-- ---- octets that there are where each value is in its range, and else nothing is done

abbrev pub ranged_answer : Option (List ℕ) → ℕ → ℕ
ranged_answer None room = out_of_range
ranged_answer (Some octets) room = given_answer octets room

abbrev pub ranged_size : Option (List ℕ) → ℕ → ℕ
ranged_size None old = old
ranged_size (Some octets) old = length octets

abbrev pub ranged_buffer : Option (List ℕ) → List ℕ → List ℕ
ranged_buffer None buffer = buffer
ranged_buffer (Some octets) buffer = given_buffer octets buffer

-- out of memory what is old stays
abbrev pub unless_memory : {A : Type 0} → ℕ → A → A → A
unless_memory answer old new = if answer == no_memory then old else new

-- ---- what is sent, if anything is

abbrev pub answer_of : Option (List ℕ) → ℕ
answer_of None = nothing_sent
answer_of (Some octets) = done

abbrev pub size_of : Option (List ℕ) → ℕ
size_of None = 0
size_of (Some octets) = length octets

abbrev pub buffer_with : Option (List ℕ) → List ℕ → List ℕ
buffer_with None buffer = buffer
buffer_with (Some octets) buffer = put_first octets buffer
