use Rattle.std.proofs.Common.{sym, subst, refl}
use Rattle.dms_mib_instances.specs.Objects.{IsInstance}
use Rattle.dms_mib_instances.proofs.WhichInstances.{object_there, counted_there, there_counted}
use Rattle.dms_mib_instances.proofs.counts.Counts.has.Goals as goal

pub returns-in-Scalar : goal.returns-in-Scalar
returns-in-Scalar c = record {
  is = λ is table has. subst (IsInstance table) (sym c.in-Scalar.is) (object_there table c.in-Scalar.field-0);
  each = λ table has there. refl;
}

pub returns-in-Cell : goal.returns-in-Cell
returns-in-Cell c = record {
  is = λ is table has.
      subst (IsInstance table) (sym c.in-Cell.is)
      (counted_there table c.args.self.now c.in-Cell.field-0 c.in-Cell.row has (c.has_row.ensures.is is));
  each = λ table has there.
      c.has_row.ensures.each (there_counted table c.args.self.now c.in-Cell.field-0 c.in-Cell.row has (subst (IsInstance table) c.in-Cell.is there));
}
