-- What a line asks of a live sign (this profile).
use Rattle.std.specs.Prelude.{ℕ, List}

pub data SignCall : Type 0 where
  -- the sign receives these octets
  datagram : (octets : List ℕ) → SignCall
  -- a second passes
  tick : SignCall
  -- so many seconds pass
  ticks : (seconds : ℕ) → SignCall
  -- what a Get or a GetNext leaves that was answered
  heard : SignCall
  power_lost : SignCall
  -- the power is back after so many seconds
  power_back : (seconds : ℕ) → SignCall
  -- the pages of what is shown are asked for
  show : SignCall
  -- the line of what is shown is asked for
  state : SignCall
  -- the text of the sign's state is asked for
  save : SignCall
