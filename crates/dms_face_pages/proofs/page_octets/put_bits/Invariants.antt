use Rattle.std.proofs.Common.{◌≡◌, ◌*◌}
use Rattle.dms_face_pages.specs.PageOctets.{eight_bits}
use Rattle.dms_face_pages.proofs.Filled.{filled}
use Rattle.dms_face_pages.proofs.page_octets.put_bits.Given as goal

abbrev pub invariant-loop-k : goal.invariant-loop-k
invariant-loop-k l = l.bits ≡ filled (λ k. eight_bits l.looks (8 * k)) l.k l.initial.bits
