-- The communities of a sign (this profile).
use Rattle.std.specs.Prelude.{ℕ, ◌&&◌, Bool, not, List, nat_eq}
use Rattle.std.specs.Cmp.Lexicographic.{pointwise}
use Rattle.dms_codes.specs.Limits.{has_community_size}

-- communities have their size, and differ
abbrev pub are_communities : List ℕ → List ℕ → Bool
are_communities reader writer =
    has_community_size reader && has_community_size writer && not (pointwise nat_eq reader writer)
