use Rattle.std.proofs.Common.{◌≡◌, ◌+◌, ◌*◌, ◌≤◌, ◌++◌, length, vec_len, vec_capacity}
use Rattle.hex.specs.Hex.{encode_lower}
use Rattle.dms_text_streams.proofs.answers.put_digits.Given as goal

abbrev pub invariant-loop-rest : goal.invariant-loop-rest
invariant-loop-rest l = record {
  written : l.text.items ++ encode_lower l.rest ≡ l.initial.text.items ++ encode_lower l.octets;
  len : vec_len l.text + 2 * length l.rest ≡ vec_len l.initial.text + 2 * length l.octets;
  capacity : vec_capacity l.initial.text ≤ vec_capacity l.text;
}

abbrev pub decreases-loop-rest : goal.decreases-loop-rest
decreases-loop-rest l = length l.rest
