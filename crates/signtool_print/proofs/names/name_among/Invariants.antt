use Rattle.std.proofs.Common.{◌≡◌, drop}
use Rattle.signtool_print.proofs.Named.{from_row}
use Rattle.signtool_print.proofs.names.name_among.Given as goal

abbrev pub invariant-loop-name : goal.invariant-loop-name
invariant-loop-name l = from_row (drop l.name-index l.fn.rows) l.fn.group l.fn.number ≡ from_row l.fn.rows l.fn.group l.fn.number
