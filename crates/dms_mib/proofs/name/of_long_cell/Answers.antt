use Rattle.std.proofs.Common.{arith, ◌∙◌, refl, sym, subst}
use Rattle.dms_mib.specs.declared.instance.Instance.TheVariants as kinds
use Rattle.dms_mib.specs.NameOctets.{IsNamed}
use Rattle.dms_mib.proofs.NameLaws.{cell_named, padded}
use Rattle.dms_mib.proofs.name.of_long_cell.Goals as goal

pub invariant_of-result : goal.invariant_of-result
invariant_of-result c =
    let octets = c.push_sub_identifier-2.new.octets.items in (
      c.len-length.ensures.fits,
      subst (IsNamed (kinds.Cell c.args.column (record { memory = c.args.memory; number = c.args.number })))
          (sym (padded c.len-length.result octets c.copy_from_slice.new.self _ c.len-length.ensures.value (c.copy_from_slice.ensures.after ∙ c.as_slice.ensures.value)))
          (cell_named c.args.column (record { memory = c.args.memory; number = c.args.number }) octets (omega arith) (omega arith)
          (c.push_sub_identifier-2.ensures.octets ∙ rw (c.push_sub_identifier.ensures.octets, c.from.ensures, c.below_dms-octets.ensures, c.number.ensures) refl)),
    )
