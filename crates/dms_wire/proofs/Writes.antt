-- The octets of bindings, one binding after the other.
use Rattle.std.proofs.Common.{◌≡◌, ℕ, ◌+◌, ◌<◌, ◌≤◌, List, [], ◌∷◌, ◌++◌, length, map, take, get_or, refl, sym, ap, ◌∙◌, arith, length-append, append_assoc}
use Rattle.std.specs.List.{flat_map}
use Rattle.std.proofs.lemmas.List.{take_more, flat_map_more}
use Rattle.std.proofs.lemmas.List.Folds.{length-flat_map-take}
use Rattle.dms_wire.specs.declared.binding.Bind.{Bind}
use Rattle.dms_wire.specs.View.{var_bind}
use Rattle.dms_wire.specs.Canonical.{binding_octets}

-- the octets of bindings as the code has them
abbrev pub written : List Bind → List ℕ
written bs = flat_map binding_octets (map var_bind bs)

-- and of one
octets_of : Bind → List ℕ
octets_of b = binding_octets (var_bind b)

written_is : (bs : List Bind) → written bs ≡ flat_map octets_of bs
unfolding octets_of
written_is [] = refl
written_is (b ∷ bs) = ap (λ xs. binding_octets (var_bind b) ++ xs) (written_is bs)

-- one binding more
pub written_more : (bs : List Bind) (i : ℕ) (x : Bind) → i < length bs → x ≡ get_or bs i x → written (take (i + 1) bs) ≡ written (take i bs) ++ binding_octets (var_bind x)
unfolding octets_of
written_more bs i x h e =
    written_is (take (i + 1) bs)
    ∙ ap (λ xs. flat_map octets_of xs) (take_more bs i x h)
    ∙ sym (flat_map_more octets_of [] (take i bs) (get_or bs i x))
    ∙ ap (λ xs. xs ++ octets_of (get_or bs i x)) (sym (written_is (take i bs)))
    ∙ ap (λ b. written (take i bs) ++ octets_of b) (sym e)

-- with one more they are no longer than all
pub written_fits : (bs : List Bind) (i : ℕ) (x : Bind) → i < length bs → x ≡ get_or bs i x → length (written (take i bs)) + length (binding_octets (var_bind x)) ≤ length (written bs)
unfolding octets_of
written_fits bs i x h e =
    omega (arith, length-flat_map-take octets_of bs i x h, ap length (written_is (take i bs)), ap length (written_is bs), ap (λ b. length (octets_of b)) e)

pub ruleset written_steps = (written_more, written_fits, length-append, append_assoc)
