-- A number that is read of a value passes its test.
use Rattle.std.proofs.Common.{◌≡◌, ℕ, ◌&&◌, Bool, true, cond, Some, None, refl, arith}
use Rattle.std.specs.Prelude.{pos, negsuc, nat_le}
use Rattle.std.specs.Option.{IfSome}
use Rattle.dms_wire.specs.Message.{ObjectValue, integer, octet_string, null, object_identifier, ip_address, counter, gauge, time_ticks, opaque}
use Rattle.dms_sign_access.specs.Access.{number_in}

pub passes_if : (test : ℕ → Bool) (n : ℕ) (b : Bool) → test n ≡ b → IfSome (cond b (Some n) None) (λ n. test n ≡ true)
passes_if test n b e = grind arith

pub number_passes : (low high : ℕ) (value : ObjectValue) → IfSome (number_in low high value) (λ n. (nat_le low n && nat_le n high) ≡ true)
number_passes low high (integer (pos n)) = passes_if (λ n. nat_le low n && nat_le n high) n (nat_le low n && nat_le n high) refl
number_passes low high (integer (negsuc n)) = tt
number_passes low high (octet_string octets) = tt
number_passes low high null = tt
number_passes low high (object_identifier numbers) = tt
number_passes low high (ip_address address) = tt
number_passes low high (counter n) = tt
number_passes low high (gauge n) = tt
number_passes low high (time_ticks n) = tt
number_passes low high (opaque octets) = tt
