-- What a line asks of the central system (this profile).
use Rattle.std.specs.Prelude.{ℕ, List}
use Rattle.dms_centre_jobs.specs.Commands.{CommandModel}

-- an operator's command; a datagram that reached it; a tick of its clock; a restart; how it stands, with its ledger; or
-- without it; or its state, to be saved
pub data CentreCall : Type 0 where
  command : CommandModel → CentreCall
  datagram : List ℕ → CentreCall
  tick : CentreCall
  restart : CentreCall
  status : CentreCall
  status_last : CentreCall
  save : CentreCall
