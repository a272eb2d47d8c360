use Rattle.std.proofs.Common.{◌≡◌, ◌*◌, true, take, drop}
use Rattle.std.specs.List.{list_all}
use Rattle.hex.specs.Hex.{decode_pairs}
use Rattle.hex.proofs.Pairs.{prepend}
use Rattle.dms_text_exact.specs.ExactWords.{is_small_digit}
use Rattle.dms_text_exact.proofs.pairs.put_pairs.Given as goal

-- the pairs before this index are of small digits, and their octets are put
abbrev pub invariant-pairs : goal.invariant-pairs
invariant-pairs l =
    (list_all is_small_digit (take (2 * l.index) l.word) ≡ true)
    × (decode_pairs 0 l.word ≡ prepend (take l.index l.octets) (decode_pairs (2 * l.index) (drop (2 * l.index) l.word)))
