-- The types of memory that messages are named by (NTCIP 1203, dmsMessageMemoryType).
use Rattle.std.specs.Prelude.{ℕ, ◌==◌, if◌then◌else◌, Option, Some, None}
use Rattle.dms_codes.specs.declared.memory.Memory.{Memory}
use Rattle.dms_codes.specs.declared.memory.Memory.TheVariants.{Permanent, Changeable, Volatile, CurrentBuffer, Blank}

abbrev pub permanent_memory : ℕ
permanent_memory = 2

abbrev pub changeable_memory : ℕ
changeable_memory = 3

abbrev pub volatile_memory : ℕ
volatile_memory = 4

-- what is shown
abbrev pub current_buffer : ℕ
current_buffer = 5

abbrev pub blank_memory : ℕ
blank_memory = 7

-- the number of a type of memory
abbrev pub memory_number : Memory → ℕ
memory_number Permanent = permanent_memory
memory_number Changeable = changeable_memory
memory_number Volatile = volatile_memory
memory_number CurrentBuffer = current_buffer
memory_number Blank = blank_memory

-- the type of memory of a number, if there is one
abbrev pub memory_of : ℕ → Option Memory
memory_of number =
    if number == permanent_memory then Some Permanent
    else if number == changeable_memory then Some Changeable
    else if number == volatile_memory then Some Volatile
    else if number == current_buffer then Some CurrentBuffer
    else if number == blank_memory then Some Blank
    else None
