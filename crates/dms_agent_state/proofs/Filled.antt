-- What is put into a buffer of an address.
use Rattle.std.proofs.Common.{◌≡◌, ℕ, List, [], ◌∷◌, ◌++◌, codes, decimal, length, get_or, append_assoc, append-nil, arith}
use Rattle.dms_wire_ber.specs.NameText.{dotted}

joined : (v w x y z : List ℕ) → v ++ w ++ x ++ y ++ z ≡ v ++ (w ++ (x ++ (y ++ (z ++ []))))
joined v w x y z = simp (append_assoc, append-nil)

-- four numbers with dots between them
pub address_text : (address : List ℕ) → length address ≡ 4
    → codes "IpAddress " ++ decimal (get_or address 0 0) ++ (codes "." ++ decimal (get_or address 1 0)) ++ (codes "." ++ decimal (get_or address 2 0))
    ++ (codes "." ++ decimal (get_or address 3 0)) ≡ codes "IpAddress " ++ dotted address
address_text [] four = absurd (omega (arith, four))
address_text (a ∷ []) four = absurd (omega (arith, four))
address_text (a ∷ b ∷ []) four = absurd (omega (arith, four))
address_text (a ∷ b ∷ c ∷ []) four = absurd (omega (arith, four))
address_text (a ∷ b ∷ c ∷ d ∷ []) four =
    joined (codes "IpAddress ") (decimal a) (codes "." ++ decimal b) (codes "." ++ decimal c) (codes "." ++ decimal d)
address_text (a ∷ b ∷ c ∷ d ∷ e ∷ more) four = absurd (omega (arith, four))
