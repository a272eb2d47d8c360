use Rattle.std.proofs.Common.{sym, ap, ◌∙◌}
use Rattle.std.specs.Option.{option_map}
use Rattle.dms_wire.specs.Message.{VarBind}
use Rattle.dms_wire.specs.View.{object_value}
use Rattle.dms_mib_replies.specs.Next.{next_name, next_binding}
use Rattle.dms_mib_replies.specs.Replies.{is_last_by, next_after_by}
use Rattle.dms_mib_replies.proofs.Walks.{found_more, next_there, next_chosen}
use Rattle.dms_mib_replies.proofs.answering.values_after.Goals as goal

pub loop-name-preserved : goal.loop-name-preserved
loop-name-preserved g c =
    let follows = g.O.Objects.follows c.args.objects.now in
    let first = c.in-Some.ensures.some in
    let b : VarBind = record { name = c.in-Some.name; value = first.0 } in
    let found = c.in-Some-next.next in
    let read = sym (ap (option_map next_binding) c.in-Some-next.is) ∙ c.next.ensures in
    let value = object_value found.value in
    found_more (is_last_by follows) (next_after_by follows) c.args.binds.now c.loop-name.rest c.next_name.new.self c.loop-name.octets
    c.push_value.new.self c.loop-name.index b (record { name = c.oid.result; value = value }) c.loop-name.invariant
    first.1 (next_there follows b (next_binding found) read)
    (next_chosen follows b (next_name found.name) value c.oid.result c.oid.ensures read) c.push_value.ensures
