use Rattle.std.proofs.Common.{Option, subst, arith}
use Rattle.dms_table.specs.declared.writable.RowPlace.{RowPlace}
use Rattle.dms_table.specs.PlaceView.{IsPlaced}
use Rattle.dms_sign.specs.SignView.{state_of}
use Rattle.dms_sign.proofs.Wholes.{verdict_placed, room_for, unsettled, settled_whole}
use Rattle.dms_sign.proofs.sign.Sign.settle.Goals as goal

pub returns-in_default : goal.returns-in_default
returns-in_default c = grind (arith, unsettled)

pub with_verdict-self-inside-requires : goal.with_verdict-self-inside-requires
with_verdict-self-inside-requires c = verdict_placed (state_of c.self.inside) c.settle-verdict.result c.settle-verdict.ensures.verdict

pub note-requires : goal.note-requires
note-requires c = grind (arith, room_for)

pub invariant_of-self : goal.invariant_of-self
invariant_of-self c =
    let s = state_of c.self.inside in
    settled_whole c.self.inside c.in-Some.place c.settle-verdict.new.self c.settle-verdict.result c.with_verdict-self-inside.result c.note.new.self c.self.invariant
    (omega arith) (subst (λ (o : Option RowPlace). IsPlaced o s.table.changeable s.table.volatile) c.in-Some.is c.settling.ensures)
    c.settle-verdict.ensures.rows c.settle-verdict.ensures.verdict c.with_verdict-self-inside.ensures c.note.ensures
