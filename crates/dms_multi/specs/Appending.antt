-- What the calls that write a piece of a text do (this profile).
use Rattle.std.specs.Prelude.{◌≡◌, ℕ, ◌+◌, ◌<◌, ◌≤◌, List, ◌++◌, length, Result, Ok, Err}
use Rattle.dms_codes.specs.Limits.{longest_text}
use Rattle.dms_multi.specs.declared.fault.TooLong.{TooLong}

-- the text with these octets at its end, or a refusal where they would make it longer than a text may be
abbrev pub AppendsOrRefuses : Result (Unit {0}) TooLong → List ℕ → List ℕ → List ℕ → Type 0
AppendsOrRefuses (Ok done) before after octets = (after ≡ before ++ octets) × (length after ≤ longest_text)
AppendsOrRefuses (Err refusal) before after octets = longest_text < length before + length octets
