-- The replies to a Get and to a GetNext, by what names read and by which name comes next (RFC 1157, 4.1.2 and 4.1.3).
use Rattle.std.specs.Prelude.{ℕ, Bool, if◌then◌else◌, List, map, length, nat_le}
use Rattle.std.specs.Prelude.{Option, Some, None, is_none, unwrap_or}
use Rattle.std.specs.List.{position_from}
use Rattle.dms_wire_ber.specs.Limits.{longest_datagram}
use Rattle.dms_wire.specs.declared.error_status.ErrorStatus.TheVariants.{NoSuchName, TooBig}
use Rattle.dms_wire.specs.ErrorStatus.{error_status_number}
use Rattle.dms_wire.specs.Message.{ObjectValue, VarBind, SnmpMessage}
use Rattle.dms_wire.specs.Spelling.{Spells}
use Rattle.dms_wire.specs.Canonical.{canonical}
use Rattle.dms_wire.specs.Response.{response_to, response_with}

-- ---- what is sent

abbrev pub too_big : ℕ
too_big = error_status_number TooBig

-- this Response to a request, or tooBig where its octets do not fit a datagram (RFC 1157, 4.1.2)
abbrev pub or_too_big : SnmpMessage → SnmpMessage → SnmpMessage
or_too_big m response =
    if nat_le (length (canonical response)) longest_datagram then response else response_to m too_big 0

-- the octets of a Response, or those of tooBig where they do not fit a datagram
abbrev pub reply_with : SnmpMessage → ℕ → ℕ → List VarBind → List ℕ
reply_with m status index bindings = canonical (or_too_big m (response_with m status index bindings))

-- octets spell the message, and they fit a datagram
pub record IsRead (m : SnmpMessage) : Type 0 where
  pub octets : List ℕ
  pub spelled : Spells m octets

-- the bindings that were found, unless one at this index was not: then the request's with noSuchName
abbrev pub reply_found : SnmpMessage → List VarBind → Option ℕ → List ℕ
reply_found m found None = reply_with m 0 0 found
reply_found m found (Some index) = reply_with m (error_status_number NoSuchName) index m.bindings

-- ---- a Get, where `reads` is the value that a name has (RFC 1157, 4.1.2)

-- no instance has this name
abbrev pub has_no_value_by : (List ℕ → Option ObjectValue) → VarBind → Bool
has_no_value_by reads binding = is_none (reads binding.name)

-- the binding with the value that its name has
abbrev pub with_value_by : (List ℕ → Option ObjectValue) → VarBind → VarBind
with_value_by reads binding = record { name = binding.name; value = unwrap_or (reads binding.name) binding.value }

-- each value, or noSuchName at the first name that has none
unfoldable pub get_reply : (List ℕ → Option ObjectValue) → SnmpMessage → List ℕ
get_reply reads m =
    reply_found m (map (with_value_by reads) m.bindings) (position_from (has_no_value_by reads) 1 m.bindings)

-- ---- a GetNext, where `follows` is the binding that comes after a name (RFC 1157, 4.1.3)

-- no instance comes after this name
abbrev pub is_last_by : (List ℕ → Option VarBind) → VarBind → Bool
is_last_by follows binding = is_none (follows binding.name)

-- the binding of the instance that comes next
abbrev pub next_after_by : (List ℕ → Option VarBind) → VarBind → VarBind
next_after_by follows binding = unwrap_or (follows binding.name) binding

-- what comes after each name, or noSuchName at the first that is the last
unfoldable pub get_next_reply : (List ℕ → Option VarBind) → SnmpMessage → List ℕ
get_next_reply follows m =
    reply_found m (map (next_after_by follows) m.bindings) (position_from (is_last_by follows) 1 m.bindings)
