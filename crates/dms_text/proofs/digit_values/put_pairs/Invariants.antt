use Rattle.std.proofs.Common.{◌≡◌, ◌*◌, true, take, drop}
use Rattle.std.specs.List.{list_all}
use Rattle.hex.specs.Hex.{decode_pairs, is_hex_digit}
use Rattle.hex.proofs.Pairs.{prepend}
use Rattle.dms_text.proofs.digit_values.put_pairs.Given as goal

-- the pairs before this index are of digits, and their octets are put
abbrev pub invariant-pairs : goal.invariant-pairs
invariant-pairs l =
    (list_all is_hex_digit (take (2 * l.index) l.word) ≡ true)
    × (decode_pairs 0 l.word ≡ prepend (take l.index l.octets) (decode_pairs (2 * l.index) (drop (2 * l.index) l.word)))
