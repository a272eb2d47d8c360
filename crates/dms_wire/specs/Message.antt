-- What an SNMPv1 message says (RFC 1157, 4.1), apart from where its octets lie.
use Rattle.std.specs.Prelude.{ℕ, ℤ, List}
use Rattle.dms_wire.specs.declared.message.Kind.{Kind}

-- the value of an object (RFC 1155, 3.2); an object identifier is the list of its numbers
pub data ObjectValue : Type 0 where
  integer : ℤ → ObjectValue
  octet_string : List ℕ → ObjectValue
  null : ObjectValue
  object_identifier : List ℕ → ObjectValue
  ip_address : List ℕ → ObjectValue
  counter : ℕ → ObjectValue
  gauge : ℕ → ObjectValue
  time_ticks : ℕ → ObjectValue
  opaque : List ℕ → ObjectValue

-- a variable binding (RFC 1157, 4.1.1)
pub record VarBind : Type 0 where
  pub name : List ℕ
  pub value : ObjectValue

pub record SnmpMessage : Type 0 where
  pub community : List ℕ
  pub kind : Kind
  pub request : ℤ
  pub status : ℤ
  pub index : ℤ
  pub bindings : List VarBind
