-- The limits of what a message can say: its numbers, its names and its values (RFC 1157 and this profile).
use Rattle.std.specs.Prelude.{◌≡◌, ◌^◌, ◌<◌, IsTrue, List, [], ◌∷◌, length}
use Rattle.std.specs.Int.Digits.{AllBelowBase}
use Rattle.dms_wire.specs.Message.{ObjectValue, integer, octet_string, null, object_identifier}
use Rattle.dms_wire.specs.Message.{ip_address, counter, gauge, time_ticks, opaque, VarBind, SnmpMessage}
use Rattle.dms_wire_ber.specs.Integer.{in_range}
use Rattle.dms_wire_ber.specs.ObjectIdentifier.{IsNameInLimits}
use Rattle.std.specs.Prelude.{ℕ}

-- the most bindings of a datagram: each has seven octets at least
abbrev pub most_bindings : ℕ
most_bindings = 210

abbrev pub IsValueInLimits : ObjectValue → Type 0
IsValueInLimits (integer z) = IsTrue (in_range z)
IsValueInLimits (octet_string s) = AllBelowBase 256 s
IsValueInLimits null = Unit {0}
IsValueInLimits (object_identifier numbers) = IsNameInLimits numbers
IsValueInLimits (ip_address address) = AllBelowBase 256 address × (length address ≡ 4)
IsValueInLimits (counter n) = n < 2 ^ 32
IsValueInLimits (gauge n) = n < 2 ^ 32
IsValueInLimits (time_ticks n) = n < 2 ^ 32
IsValueInLimits (opaque s) = AllBelowBase 256 s

abbrev pub AreBindingsInLimits : List VarBind → Type 0
AreBindingsInLimits [] = Unit {0}
AreBindingsInLimits (b ∷ bs) = IsNameInLimits b.name × IsValueInLimits b.value × AreBindingsInLimits bs

pub record IsMessageInLimits (m : SnmpMessage) : Type 0 where
  pub community : AllBelowBase 256 m.community
  pub request : IsTrue (in_range m.request)
  pub status : IsTrue (in_range m.status)
  pub index : IsTrue (in_range m.index)
  pub bindings : AreBindingsInLimits m.bindings
