use Rattle.std.proofs.Common.{IsSome, sym, subst, ap, ◌∙◌}
use Rattle.std.specs.Prelude.{option_map}
use Rattle.dms_table.specs.Rows.{TableModel, asked}
use Rattle.dms_sign.specs.State.{SignState}
use Rattle.dms_sign.specs.SignView.{state_of}
use Rattle.dms_sign.proofs.Assigned.{asked_whole, asked_ok}
use Rattle.dms_sign.proofs.sign.Sign.ask.Goals as goal

pub invariant_of-self : goal.invariant_of-self
invariant_of-self c =
    let some : IsSome (asked c.self.inside.table c.args.id c.args.ask) =
    subst (λ (s : SignState). IsSome (asked s.table c.args.id c.args.ask)) (sym c.self.view_is) c.requires
    in
    let e = asked_ok (asked c.self.inside.table c.args.id c.args.ask) c.ask.new.self c.ask.result some c.ask.ensures.ok c.ask.ensures.refused in
    asked_whole c.self.inside c.ask.new.self c.args.id c.args.ask c.self.invariant e

pub returns : goal.returns
returns c =
    let some : IsSome (asked c.self.inside.table c.args.id c.args.ask) =
    subst (λ (s : SignState). IsSome (asked s.table c.args.id c.args.ask)) (sym c.self.view_is) c.requires
    in
    let e = asked_ok (asked c.self.inside.table c.args.id c.args.ask) c.ask.new.self c.ask.result some c.ask.ensures.ok c.ask.ensures.refused in
    sym (ap (option_map (λ (t : TableModel). record (state_of c.self.inside) { table = t })) e)
    ∙ ap (λ (s : SignState). option_map (λ (t : TableModel). record s { table = t }) (asked s.table c.args.id c.args.ask)) c.self.view_is
