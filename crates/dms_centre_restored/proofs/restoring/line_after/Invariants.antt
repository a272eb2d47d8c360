use Rattle.std.proofs.Common.{◌≡◌, ◌+◌, ◌≤◌, ◌==◌, count_by, take}
use Rattle.std.specs.Str.{byte}
use Rattle.dms_centre_restored.proofs.restoring.line_after.Given as goal

abbrev pub invariant-loop-octet : goal.invariant-loop-octet
invariant-loop-octet l = record {
  lines : l.line ≡ count_by (λ octet. octet == byte "\n") (take l.octet-index l.text) + 1;
  few : l.line ≤ l.octet-index + 1;
}
