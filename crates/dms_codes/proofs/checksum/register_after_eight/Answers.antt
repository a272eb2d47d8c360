use Rattle.std.proofs.Common.{◌≡◌, ◌∙◌, ℕ, List, [], ◌∷◌, bit_xor, arith, rules}
use Rattle.std.proofs.lemmas.Nat.{and_mask}
use Rattle.std.proofs.lemmas.Slice.Eq.{text_from_reads}
use Rattle.dms_codes.proofs.Eights.{takes_eight}
use Rattle.dms_codes.proofs.checksum.register_after_eight.Goals as goal

pub returns : goal.returns
returns c =
    let octets : List ℕ =
    c.from.result ∷ c.from-2.result ∷ c.from-5.result ∷ c.from-6.result ∷ c.from-7.result ∷ c.from-8.result ∷ c.from-9.result ∷ c.from-10.result ∷ [] in
    let is : c.args.octets ≡ octets = text_from_reads c.args.octets octets (omega arith) (search rules) in
    takes_eight c.args.octets c.args.register c.from.result c.from-2.result c.from-5.result c.from-6.result c.from-7.result c.from-8.result c.from-9.result c.from-10.result
    c.from-3.result c.from-4.result is (omega arith) (omega arith) (omega arith) (omega arith) (omega arith) (omega arith) (omega arith) (omega arith)
    (c.from-3.ensures ∙ and_mask (bit_xor c.args.register c.from.result) 8) c.from-4.ensures
