-- A cause in numbers, as it is given to C (this profile).
use Rattle.std.specs.Prelude.{ℕ}
use Rattle.wisangub_c_causes.specs.declared.cause.Bounds.{Bounds}
use Rattle.wisangub_c_causes.specs.declared.cause.CauseNumbers.{CauseNumbers}

-- no range is wanted
abbrev pub no_bounds : Bounds
no_bounds = record { least = 0; most = 0 }

abbrev pub from_to : ℕ → ℕ → Bounds
from_to least most = record { least = least; most = most }

-- a line that is at fault as a whole
abbrev pub of_line : ℕ → ℕ → CauseNumbers
of_line line kind = record {
  line = line;
  word = 0;
  row = 0;
  place = 0;
  least = 0;
  most = 0;
  kind = kind;
  wanted = 0;
  number = 0;
  code = 0;
}
