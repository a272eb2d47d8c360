use Rattle.std.proofs.Common.{◌≡◌, drop}
use Rattle.dms_sign_state.specs.NumberSettings.{all_numbers}
use Rattle.dms_sign_state.specs.FieldReading.{numbers_at}
use Rattle.dms_sign_state.proofs.reading.numbers.Given as goal

-- the numbers before this index are read, and the others are read then
abbrev pub invariant-loop-number : goal.invariant-loop-number
invariant-loop-number l = numbers_at (drop l.number-index all_numbers) l.settings l.rest ≡ numbers_at all_numbers l.fn.known l.text
