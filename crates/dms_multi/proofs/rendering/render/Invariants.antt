use Rattle.std.proofs.Common.{◌≡◌, ◌≤◌, length, take}
use Rattle.dms_codes.specs.Limits.{longest_text}
use Rattle.dms_multi.specs.Canonical.{text_of}
use Rattle.dms_multi.proofs.rendering.render.Given as goal

abbrev pub invariant-loop-item : goal.invariant-loop-item
invariant-loop-item l = (l.text.items ≡ text_of (take l.item-index l.items)) × (length l.text.items ≤ longest_text)
