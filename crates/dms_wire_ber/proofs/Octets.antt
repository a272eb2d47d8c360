-- Numbers of up to five octets, in the code's own numbers.
use Rattle.std.proofs.Common.{◌≡◌, ℕ, ◌+◌, ◌*◌, ◌^◌, ◌%◌, ◌<◌, ◌≤◌, arith}
use Rattle.std.proofs.Math.Nat.{pow-le-pow_right}
use Rattle.std.proofs.lemmas.Nat.{pow-add}

-- one octet more in the bound
octet_power : (i : ℕ) → 2 ^ (8 * (i + 1)) ≡ 2 ^ (8 * i) * 256
octet_power i = let e : 8 * (i + 1) ≡ 8 * i + 8 = omega arith in rw e (pow-add 2 (8 * i) 8)

-- one octet more
pub octet_bound : (n i b : ℕ) → n < 2 ^ (8 * i) → b < 256 → n * 256 + b < 2 ^ (8 * (i + 1))
octet_bound n i b h k = rw octet_power (omega arith)

-- a shift by one octet loses nothing
pub octet_room : (n i : ℕ) → n < 2 ^ (8 * i) → i < 5 → n * 256 % 2 ^ 64 ≡ n * 256
octet_room n i h k =
    let p : 2 ^ (8 * i) ≤ 2 ^ 32 = pow-le-pow_right {n = 2} (omega arith) {i = 8 * i} {j = 32} (omega arith) in omega arith

-- the power fits the code's number
pub power_room : (i : ℕ) → i ≤ 5 → 1 * 2 ^ (8 * i) % 2 ^ 64 ≡ 2 ^ (8 * i)
power_room i k =
    let p : 2 ^ (8 * i) ≤ 2 ^ 40 = pow-le-pow_right {n = 2} (omega arith) {i = 8 * i} {j = 40} (omega arith) in omega arith
