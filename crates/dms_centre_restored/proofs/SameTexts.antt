-- Octets that are compared are the same.
use Rattle.std.proofs.Common.{◌≡◌, ℕ, Bool, true, List, sym, ◌∙◌}
use Rattle.dms_text.specs.Reading.{same_octets}
use Rattle.dms_text.proofs.WordLaws.{same_found}

pub same_text : (written text state : List ℕ) (same : Bool) → written ≡ state → same ≡ same_octets written text → same ≡ true → state ≡ text
same_text written text state same is compared holds = sym is ∙ same_found written text (sym compared ∙ holds)

pub ruleset same_texts = (same_text)
