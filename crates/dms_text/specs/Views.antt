-- What the code's lines, words and octets are (this profile).
use Rattle.std.specs.Prelude.{ℕ, List, [], Option, Some, None, Vec, option_map}
use Rattle.std.specs.declared.alloc.Global.{Global}
use Rattle.std.specs.Borrow.{Bor}
use Rattle.dms_text.specs.declared.lines.Line.{Line}
use Rattle.dms_text.specs.Lines.{NumberedLine}
use Rattle.dms_text.specs.Words.{parts_of}

abbrev pub numbered_line : Line → NumberedLine
numbered_line line = record { number = line.number; octets = line.octets.now }

-- the parts of what is left
abbrev pub words_left : ℕ → Option (Bor (List ℕ)) → List (List ℕ)
words_left separator None = []
words_left separator (Some line) = parts_of separator line.now

abbrev pub word_and_rest : Bor (List ℕ) × List (List ℕ) → List ℕ × List (List ℕ)
word_and_rest found = (found.0.now, found.1)

abbrev pub octets_found : Option (Vec ℕ Global) → Option (List ℕ)
octets_found found = option_map (λ (octets : Vec ℕ Global). octets.items) found
