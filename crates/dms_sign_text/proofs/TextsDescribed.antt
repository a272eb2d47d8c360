-- A description that was read or taken, and the sign that it describes.
use Rattle.std.proofs.Common.{◌≡◌, ◌≤◌, ℕ, List, length, Option, Some, None, ap, sym, subst, ◌∙◌, filter, not, arith}
use Rattle.std.specs.Prelude.{IfSome}
use Rattle.std.specs.Str.Lines.{lines}
use Rattle.dms_text.specs.Lines.{is_skipped, kept_lines}
use Rattle.dms_sign_text.specs.declared.setup.Setup.{Setup}
use Rattle.dms_sign_text.specs.Description.{Description, SpellsSign, SpellsDescription}
use Rattle.dms_text_streams.specs.DescriptionText.{longest_input}
use Rattle.dms_sign_text.specs.Setups.{IsMade}
use Rattle.dms_text_streams.specs.DescriptionText.{TakesDescription, lines_through_end}
use Rattle.dms_sign_text.specs.Before.{Describes, NotDescribed, description_lines}

kept_same : (octets text : List ℕ) → lines text ≡ lines_through_end (lines octets) → kept_lines text ≡ description_lines (lines octets)
kept_same octets text e = ap (λ ls. filter (λ line. not (is_skipped line)) ls) e

pub describes : (old new : Option (List ℕ)) (text : List ℕ) (setup : Setup) → TakesDescription old text new
    → (it : Description) × SpellsSign (kept_lines text) it × IsMade it setup → Describes old setup new
describes old new text setup taken made = grind arith

pub describes_not : (old new : Option (List ℕ)) (text : List ℕ) → TakesDescription old text new
    → ((it : Description) → SpellsSign (kept_lines text) it → ⊥) → NotDescribed old
describes_not None new text taken none = tt
describes_not (Some octets) None text taken none = absurd taken
describes_not (Some octets) (Some rest) text taken none = λ it spelled. none it (subst (λ ls. SpellsSign ls it) (sym (kept_same octets text taken.1)) spelled)

pub ruleset descriptions = (describes, describes_not)

-- of a description that is read to its end
pub not_described : (slice octets : List ℕ) (all : Option (List ℕ)) → slice ≡ octets → length octets ≤ longest_input → IfSome all (λ whole. octets ≡ whole)
    → ((it : Description) → SpellsSign (kept_lines slice) it → ⊥)
    → IfSome all (λ whole. (length whole ≤ longest_input) × ((it : Description) → SpellsDescription whole it → ⊥))
not_described slice octets None lent short same bad = tt
not_described slice octets (Some whole) lent short same bad = (
  subst (λ xs. length xs ≤ longest_input) same short,
  λ it spelled. bad it (subst (λ xs. SpellsSign (kept_lines xs) it) (sym (lent ∙ same)) spelled.lines),
)
