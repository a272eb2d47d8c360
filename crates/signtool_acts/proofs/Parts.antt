-- What is written in two parts.
use Rattle.std.proofs.Common.{ℕ, List, [], ◌++◌, Option}
use Rattle.std.specs.Io.KnownBytes.{Appends}
use Rattle.std.proofs.KnownBytes.{Appends-nil, Appends-trans}

pub two : (old between new : Option (List ℕ)) (first second : List ℕ) → Appends old between first → Appends between new second
    → Appends old new (first ++ second)
two old between new first second one other = Appends-trans old between new first second one other

pub none : (old : Option (List ℕ)) → Appends old old []
none old = Appends-nil old

pub ruleset two_parts = (two, none)
