use Rattle.std.proofs.Common.{◌≤◌, ap, ◌∙◌, subst}
use Rattle.std.specs.Prelude.{IsTrue}
use Rattle.dms_face.specs.declared.defaults.Defaults.{Defaults}
use Rattle.dms_face.specs.Face.{fit}
use Rattle.dms_sign.specs.KnownTexts.{first_known}
use Rattle.dms_sign.proofs.KnownTexts.{known_made}
use Rattle.dms_sign_access.specs.Ranges.{AreDefaultsInRange}
use Rattle.dms_sign.specs.State.{ConfigModel}
use Rattle.dms_sign.proofs.Wholes.{made_kept, made_state, made_source}
use Rattle.dms_sign.proofs.sign.Sign.of.Goals as goal

pub invariant_of-result : goal.invariant_of-result
invariant_of-result c =
    let config : ConfigModel = record { face = c.args.face; reader = c.args.reader.items; writer = c.args.writer.items } in
    let kept =
    made_kept config c.args.table c.matrix_is_typed.ensures.width c.matrix_is_typed.ensures.height
    (subst (λ (d : Defaults). IsTrue (fit c.args.face.fonts d)) c.defaults-defaults.ensures.value c.defaults-defaults.ensures.fit)
    c.requires.communities (subst AreDefaultsInRange c.defaults-defaults.ensures.value c.new.ensures.octets) c.requires.reader c.requires.writer c.requires.stocked
    c.requires.octets
    in
    record {
      kept = made_state config c.args.table c.defaults-defaults.result c.new.result c.new-2.result c.blank.result c.blank-2.result
          c.defaults-defaults.ensures.value c.new.ensures.first c.new-2.ensures
          c.blank.ensures c.blank-2.ensures kept;
      source = made_source c.args.table.order c.defaults-defaults.result c.blank.result c.blank.ensures;
      known = known_made c.new-3.result c.args.face c.args.table (c.new-3.ensures ∙ ap first_known c.defaults-defaults.ensures.value) c.requires.good;
    }
