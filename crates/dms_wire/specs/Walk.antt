-- The bindings that octets spell, as far as they spell any (RFC 1157, 4.1).
use Rattle.std.specs.Prelude.{◌≡◌, ℕ, zero, suc, List, [], ◌∷◌, length, Result, Ok, Err}
use Rattle.std.specs.List.{flat_map}
use Rattle.dms_wire_ber.specs.declared.fault.WireFault.{WireFault}
use Rattle.dms_wire.specs.Message.{VarBind}
use Rattle.dms_wire.specs.Spelling.{AreBindings}
use Rattle.dms_wire.specs.Canonical.{binding_octets}
use Rattle.dms_wire.specs.Reading.{binding_at}

abbrev pub or_none : {A : Type 0} → List A → (A → List ℕ → List A) → Result (A × List ℕ) WireFault → List A
or_none none more (Ok x) = more x.0 x.1
or_none none more (Err f) = none

-- at most k of them
unfoldable pub bindings_within : ℕ → List ℕ → List VarBind
bindings_within zero bytes = []
bindings_within (suc k) bytes = or_none [] (λ b rest. b ∷ bindings_within k rest) (binding_at (length bytes) bytes)

abbrev pub bindings_of : List ℕ → List VarBind
bindings_of bytes = bindings_within (length bytes) bytes

-- octets that bindings fill
abbrev pub AreWhole : List ℕ → Type 0
AreWhole bytes = AreBindings (bindings_of bytes) bytes

-- octets that are the shortest spelling of their bindings
abbrev pub AreShortest : List ℕ → Type 0
AreShortest bytes = bytes ≡ flat_map binding_octets (bindings_of bytes)
