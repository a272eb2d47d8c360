-- The parts of the text of an agent's state (this profile).
use Rattle.std.specs.Prelude.{ℕ, ◌-◌, ◌==◌, ◌&&◌, Bool, true, if◌then◌else◌, List, [], ◌∷◌, codes, length, take, drop}
use Rattle.std.specs.Str.{byte}
use Rattle.dms_text.specs.Reading.{same_octets}

-- a text begins with the line `end`
abbrev pub ends_here : List ℕ → Bool
ends_here text = same_octets (take 4 text) (codes "end\n")

-- what stands behind the first line `end` of a text, with which a line begins or does not
abbrev pub behind_end : Bool → List ℕ → List ℕ
behind_end begins [] = []
behind_end begins (octet ∷ octets) =
    if begins && ends_here (octet ∷ octets) then drop 4 (octet ∷ octets)
    else behind_end (octet == byte "\n") octets

-- the lines of objects
abbrev pub objects_part : List ℕ → List ℕ
objects_part text = behind_end true text

-- what stands before them: the state of the sign, with its line `end`
abbrev pub sign_part : List ℕ → List ℕ
sign_part text = take (length text - length (objects_part text)) text
