-- A call has octets where its command has, or where its datagram is spelled.
use Rattle.std.proofs.Common.{◌≡◌, ℕ, true, List, Option, Some, None, option_map, arith}
use Rattle.std.specs.Prelude.{IsSome}
use Rattle.dms_centre_jobs.specs.Commands.{CommandModel}
use Rattle.dms_centre_text.specs.CommandReading as commands
use Rattle.dms_centre_lines.specs.Calls.{command, datagram}
use Rattle.dms_centre_lines.specs.CallReading.{has_octets}

pub of_command : (asked : Option CommandModel) → commands.has_octets asked ≡ true → has_octets (option_map command asked) ≡ true
of_command None has = has
of_command (Some asked) has = has

pub of_datagram : (octets : Option (List ℕ)) → IsSome octets → has_octets (option_map datagram octets) ≡ true
of_datagram octets some = grind arith

pub ruleset octets_kept = (of_command, of_datagram)
