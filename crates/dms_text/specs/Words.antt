-- A text as parts with a separator between two, and a line as words with a space between two (this profile).
use Rattle.std.specs.Prelude.{ℕ, ◌==◌, List, Option, position}
use Rattle.std.specs.List.{slice_split}
use Rattle.std.specs.Str.{byte}

-- the index of the first octet that is this one
abbrev pub index_of : ℕ → List ℕ → Option ℕ
index_of wanted octets = position (λ octet. octet == wanted) octets

-- the parts of a text: what stands before, between and after its separators
abbrev pub parts_of : ℕ → List ℕ → List (List ℕ)
parts_of separator text = slice_split (λ octet. octet == separator) text

-- the words of a line, which spaces part
abbrev pub words_of : List ℕ → List (List ℕ)
words_of line = parts_of (byte " ") line
