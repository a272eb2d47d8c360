-- What an object identifier prints (the dotted notation of RFC 1157, 3.2.6.3).
use Rattle.std.specs.Prelude.{ℕ, List, [], ◌∷◌, ◌++◌, codes, decimal}
use Rattle.std.specs.List.{flat_map}

-- its numbers, with a dot between them
abbrev pub dotted : List ℕ → List ℕ
dotted [] = []
dotted (n ∷ ns) = decimal n ++ flat_map (λ m. codes "." ++ decimal m) ns
