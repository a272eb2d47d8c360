-- Whether a SET has given a name before (RFC 1157, 4.1.5, and this profile).
use Rattle.std.specs.Prelude.{ℕ, Bool, List, nat_eq}
use Rattle.std.specs.List.{list_any}
use Rattle.std.specs.Cmp.Lexicographic.{pointwise}
use Rattle.dms_wire.specs.Message.{VarBind}

-- a name is that of one of these bindings
abbrev pub is_among : List ℕ → List VarBind → Bool
is_among name bindings = list_any (λ (binding : VarBind). pointwise nat_eq binding.name name) bindings
