use Rattle.std.proofs.Common.{◌≡◌, Some, ap, sym, ◌∙◌}
use Rattle.std.proofs.lemmas.Option.{same_Some}
use Rattle.dms_mib.specs.declared.instance.Instance.TheVariants.{Cell}
use Rattle.dms_mib_instances.specs.NameReading.{column_at}
use Rattle.dms_mib_instances.proofs.CellOctets.{short_named}
use Rattle.dms_mib_instances.proofs.Inverses.{column_back}
use Rattle.dms_mib_instances.proofs.octets.cell_named.Goals as goal

pub returns-in_ok-column-clause-named : goal.returns-in_ok-column-clause-named
returns-in_ok-column-clause-named c =
    rw c.from-number.ensures
    (short_named c.in_ok-column.column c.args.column c.args.memory c.args.number (sym c.in_ok-column.ensures.named) c.if-memory-lt128.true c.if-number-lt128.true)

pub returns-in_ok-column-clause-found : goal.returns-in_ok-column-clause-found
returns-in_ok-column-clause-found c = λ column is few_memory few_number.
    let same : c.in_ok-column.column ≡ column =
    same_Some c.in_ok-column.column column (c.in_ok-column.ensures.found ∙ ap column_at (sym is) ∙ column_back column) in
    rw c.from-number.ensures (ap (λ x. Some (Cell x (record { memory = c.args.memory; number = c.args.number }))) same)
