use Rattle.std.proofs.Common.{ℕ, List, ◌++◌, length, sym, ap, ◌∙◌, arith}
use Rattle.dms_centre_jobs.proofs.ShortFields.{short_number, long_number}
use Rattle.dms_centre_jobs.proofs.fields.put_number_field.Goals as goal

pub put_content-requires : goal.put_content-requires
put_content-requires c =
    omega (arith, c.requires.room, ap length (short_number c.args.column c.args.row _ c.args.number c.number-entry.ensures c.requires.short (omega arith)))

pub put_content-requires-else-number-lt128 : goal.put_content-requires-else-number-lt128
put_content-requires-else-number-lt128 c =
    omega (arith, c.requires.room, ap length (long_number c.args.column c.args.row _ c.args.number c.number-entry.ensures c.requires.short (omega arith) (omega arith)))

pub returns-then-number-lt128 : goal.returns-then-number-lt128
returns-then-number-lt128 c =
    c.put_content.ensures
    ∙ ap (λ (octets : List ℕ). c.args.out.now.items ++ octets)
    (sym (short_number c.args.column c.args.row _ c.args.number c.number-entry.ensures c.requires.short (omega arith)))

pub returns-else-number-lt128 : goal.returns-else-number-lt128
returns-else-number-lt128 c =
    c.put_content-else-number-lt128.ensures
    ∙ ap (λ (octets : List ℕ). c.args.out.now.items ++ octets)
    (sym (long_number c.args.column c.args.row _ c.args.number c.number-entry.ensures c.requires.short (omega arith) (omega arith)))
