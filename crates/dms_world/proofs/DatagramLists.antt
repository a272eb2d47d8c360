-- Datagrams stay as they are while octets are put behind them.
use Rattle.std.proofs.Common.{◌≡◌, ℕ, List, [], ◌∷◌, ◌++◌, length, refl, arith}
use Rattle.std.specs.List.{All, AllByRecursion}
use Rattle.std.proofs.lemmas.List.{take-append-le, drop-append-le, map-append, length-drop, length-append, take_all}
use Rattle.std.proofs.Math.Seq.{drop-append_seam}
use Rattle.std.proofs.lemmas.List.Elements.{recursion_from_All}
use Rattle.dms_world.specs.Datagrams.{octets_at, datagrams_at, IsWithin}

-- ---- earlier datagrams

same_octets_at : (octets more : List ℕ) (place : ℕ × ℕ) → IsWithin (length octets) place → octets_at (octets ++ more) place ≡ octets_at octets place
same_octets_at octets more place within = grind (arith, length-drop, drop-append-le, take-append-le)

all_same : (octets more : List ℕ) (places : List (ℕ × ℕ)) → AllByRecursion (IsWithin (length octets)) places
    → datagrams_at (octets ++ more) places ≡ datagrams_at octets places
all_same octets more [] all = refl
all_same octets more (place ∷ places) all = rw (same_octets_at octets more place all.0, all_same octets more places all.1) refl

-- ---- the last one

last_octets : (octets more : List ℕ) → octets_at (octets ++ more) (length octets, length (octets ++ more)) ≡ more
last_octets octets more = grind (arith, drop-append_seam, take_all, length-append)

pub kept_one_more : (octets all_octets more : List ℕ) (places all_places : List (ℕ × ℕ)) (start end : ℕ) → All (IsWithin (length octets)) places
    → all_octets ≡ octets ++ more → all_places ≡ places ++ (start, end) ∷ [] → start ≡ length octets → end ≡ length all_octets
    → datagrams_at all_octets all_places ≡ datagrams_at octets places ++ more ∷ []
kept_one_more octets all_octets more places all_places start end within a b s e = grind (arith, map-append, all_same, recursion_from_All, last_octets)
