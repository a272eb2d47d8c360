use Rattle.std.proofs.Common.{◌≡◌, ◌+◌, drop}
use Rattle.dms_sign_state.specs.NumberSettings.{all_numbers, numbers_room}
use Rattle.dms_sign_state.proofs.number_settings.numbers_room.Given as goal

-- the room of the numbers before this index, and that of the others
abbrev pub invariant-loop-number : goal.invariant-loop-number
invariant-loop-number l = l.room + numbers_room (drop l.number-index all_numbers) ≡ numbers_room all_numbers
