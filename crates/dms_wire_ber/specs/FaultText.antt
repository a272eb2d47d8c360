-- The numbers and the texts of faults (this profile).
use Rattle.std.specs.Prelude.{ℕ, List, ◌++◌, codes, decimal}
use Rattle.dms_wire_ber.specs.declared.fault.FaultKind.{FaultKind}
use Rattle.dms_wire_ber.specs.declared.fault.FaultKind.TheVariants.{Truncated, BadTag, BadLength, LengthPast}
use Rattle.dms_wire_ber.specs.declared.fault.FaultKind.TheVariants.{BadInteger}
use Rattle.dms_wire_ber.specs.declared.fault.FaultKind.TheVariants.{BadName, BadVersion, TrailingBytes, TooLong}
use Rattle.dms_wire_ber.specs.declared.fault.WireFault.{WireFault}

abbrev pub kind_number : FaultKind → ℕ
kind_number Truncated = 1
kind_number BadTag = 2
kind_number BadLength = 3
kind_number LengthPast = 4
kind_number BadInteger = 5
kind_number BadName = 6
kind_number BadVersion = 7
kind_number TrailingBytes = 8
kind_number TooLong = 9

abbrev pub kind_text : FaultKind → List ℕ
kind_text Truncated = codes "truncated"
kind_text BadTag = codes "unexpected tag"
kind_text BadLength = codes "bad length"
kind_text LengthPast = codes "content passes its element"
kind_text BadInteger = codes "bad integer"
kind_text BadName = codes "bad object identifier"
kind_text BadVersion = codes "version is not 0"
kind_text TrailingBytes = codes "trailing octets"
kind_text TooLong = codes "datagram over 1472 octets"

abbrev pub fault_text : WireFault → List ℕ
fault_text f = kind_text f.kind ++ codes " at octet " ++ decimal f.place
