use Rattle.std.proofs.Common.{◌≡◌, true, take}
use Rattle.std.specs.List.{list_all}
use Rattle.dms_text_exact.specs.ExactWords.{is_small_digit}
use Rattle.dms_text_exact.proofs.digits.are_small_digits.Given as goal

-- each octet before this index is a small digit
abbrev pub invariant-loop-octet : goal.invariant-loop-octet
invariant-loop-octet l = list_all is_small_digit (take l.octet-index l.word) ≡ true
