-- A conversation by lines (this profile): each line is answered, and the answer to a line may depend on those before
-- it. Of a party, `reply` is what it answers to a line, and `after` what it is after it.
use Rattle.std.specs.Prelude.{◌≡◌, ℕ, nat_lt, if◌then◌else◌, List, [], ◌∷◌, ◌++◌, take, drop, length, codes}
use Rattle.std.specs.Prelude.{Option, IfSome}
use Rattle.std.specs.Io.KnownBytes.{Appends}
use Rattle.std.specs.Str.Lines.{lines}
use Rattle.dms_text_streams.specs.Lines.{IsInLine}

-- the most octets of a line
abbrev pub longest_line : ℕ
longest_line = 65536

-- what is answered to a line that is too long, and to one that spells none of the party's calls
abbrev pub bad_line : List ℕ
bad_line = codes "bad line\n"

-- what is answered to a line that asks for something to be done, and for no more: it is done
abbrev pub ok_line : List ℕ
ok_line = codes "ok\n"

-- what is answered to a line: one that is too long is refused, whatever it says
abbrev pub answered : {S : Type 0} → (S → List ℕ → List ℕ) → S → List ℕ → List ℕ
answered reply state line = if nat_lt longest_line (length line) then bad_line else reply state line

-- what a line leaves: one that is too long changes nothing
abbrev pub left_by : {S : Type 0} → (S → List ℕ → S) → S → List ℕ → S
left_by after state line = if nat_lt longest_line (length line) then state else after state line

-- the answers to lines, in turn
abbrev pub answers : {S : Type 0} → (S → List ℕ → List ℕ) → (S → List ℕ → S) → S → List (List ℕ) → List ℕ
answers reply after state [] = []
answers reply after state (line ∷ more) =
    answered reply state line ++ answers reply after (left_by after state line) more

-- what lines leave, in turn
abbrev pub left_by_all : {S : Type 0} → (S → List ℕ → S) → S → List (List ℕ) → S
left_by_all after state [] = state
left_by_all after state (line ∷ more) = left_by_all after (left_by after state line) more

-- The lines that came whole are answered, and the party is now what they leave: of the octets so much was taken that
-- `rest` is left, and what is not answered are the lines of the part of a line that was taken, and of the rest.
abbrev pub AnswersWholeLines : {S : Type 0} → (S → List ℕ → List ℕ) → (S → List ℕ → S) → S → S → List ℕ → List ℕ
    → Option (List ℕ) → Option (List ℕ) → Type 0
AnswersWholeLines reply after state now octets rest old new =
    (count : ℕ) × (part : List ℕ) × Appends old new (answers reply after state (take count (lines octets)))
    × (now ≡ left_by_all after state (take count (lines octets)))
    × (drop count (lines octets) ≡ lines (part ++ rest)) × IsInLine part

-- The lines before one are answered, and of the answer to that one the octets of `part` are written, perhaps none of
-- them; the party is now what these lines and that one leave, and the lines after that one are left of the input.
pub record AnswersInPart {S : Type 0} (reply : S → List ℕ → List ℕ) (after : S → List ℕ → S) (state now : S)
    (octets : List ℕ) (untaken old new : Option (List ℕ)) : Type 0 where
  pub done : List (List ℕ)
  pub line : List ℕ
  pub more : List (List ℕ)
  pub part : List ℕ
  pub rest : List ℕ
  pub lines_are : lines octets ≡ done ++ line ∷ more
  pub answer_is : answered reply (left_by_all after state done) line ≡ part ++ rest
  pub written : Appends old new (answers reply after state done ++ part)
  pub left : now ≡ left_by_all after state (done ++ line ∷ [])
  pub next : IfSome untaken (λ octets. lines octets ≡ more)
