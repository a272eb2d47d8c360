-- What writing leaves, where a datagram has at most longest_datagram octets (this profile).
use Rattle.std.specs.Prelude.{◌≡◌, ℕ, ◌<◌, ◌≤◌, nat_le, List, [], length, Option}
use Rattle.std.specs.Prelude.{Some, None, Result, Ok, Err, if◌then◌else◌}
use Rattle.std.specs.List.{flat_map}
use Rattle.dms_wire.specs.declared.fault.TooBig.{TooBig}
use Rattle.dms_wire.specs.Message.{VarBind}
use Rattle.dms_wire.specs.Canonical.{binding_octets}
use Rattle.dms_wire_ber.specs.Limits.{longest_datagram}

-- The octets are what was written; or they would not fit a datagram, and nothing was written.
abbrev pub IsWritten : Result (Unit {0}) TooBig → List ℕ → List ℕ → Type 0
IsWritten (Ok _) written octets = (written ≡ octets) × (length octets ≤ longest_datagram)
IsWritten (Err _) written octets = (written ≡ []) × (longest_datagram < length octets)

abbrev pub if_it_fits : List ℕ → Option (List ℕ)
if_it_fits octets = if nat_le (length octets) longest_datagram then Some octets else None

-- the shortest octets of bindings, where they fit a datagram
abbrev pub octets_of_bindings : List VarBind → Option (List ℕ)
octets_of_bindings bindings = if_it_fits (flat_map binding_octets bindings)
