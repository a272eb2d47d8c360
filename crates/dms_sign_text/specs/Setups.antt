-- What reading a description answers: a sign as it starts, and the lines after its own (this profile).
use Rattle.std.specs.Prelude.{◌≡◌, ℕ, List, ◌++◌, map}
use Rattle.dms_text.specs.Lines.{NumberedLine, TextLeft, lines_left}
use Rattle.dms_sign.specs.State.{start}
use Rattle.dms_sign_text.specs.declared.setup.Setup.{Setup}
use Rattle.dms_sign_text.specs.Description.{Description, SpellsSign}

-- the lines that are left, without their numbers
abbrev pub octets_left : TextLeft → List (List ℕ)
octets_left left = map (λ (line : NumberedLine). line.octets) (lines_left left)

-- these lines begin with those of a sign, and the rest stands after them
pub record BeginsWith (lines rest : List (List ℕ)) (it : Description) : Type 0 where
  pub prefix : List (List ℕ)
  pub lines_are : lines ≡ prefix ++ rest
  pub spelled : SpellsSign prefix it

-- the sign is made as it is described, and is as it starts
pub record IsMade (it : Description) (setup : Setup) : Type 0 where
  pub sign : setup.sign ≡ start it.config it.table
  pub first : setup.first ≡ it.first
