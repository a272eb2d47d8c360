use Rattle.std.proofs.Common.{◌+◌, ◌≤◌, take, drop, flat_map}
use Rattle.dms_text_filling.specs.Filling.{Puts}
use Rattle.dms_sign_state.specs.NumberSettings.{all_numbers, numbers_room}
use Rattle.dms_sign_state.specs.FieldsText.{setting_line}
use Rattle.dms_sign_state.proofs.saving.put_numbers.Given as goal

-- the lines of the numbers before this index are put
abbrev pub invariant-loop-number : goal.invariant-loop-number
invariant-loop-number l = record {
  octets : Puts (flat_map (setting_line l.settings) (take l.number-index all_numbers)) l.place l.initial.buffer l.end l.buffer;
  short : l.end + numbers_room (drop l.number-index all_numbers) ≤ l.place + numbers_room all_numbers;
}
