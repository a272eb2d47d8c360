use Rattle.std.proofs.Common.{sym, ap, ◌∙◌}
use Rattle.std.specs.Option.{option_map}
use Rattle.dms_wire.specs.Message.{VarBind}
use Rattle.dms_wire.specs.View.{object_value}
use Rattle.dms_mib_replies.specs.Replies.{has_no_value_by, with_value_by}
use Rattle.dms_mib_replies.proofs.Walks.{found_more, value_there, value_chosen}
use Rattle.dms_mib_replies.proofs.answering.values_of.Goals as goal

pub loop-name-preserved : goal.loop-name-preserved
loop-name-preserved g c =
    let reads = g.O.Objects.reads c.args.objects.now in
    let first = c.in-Some.ensures.some in
    let b : VarBind = record { name = c.in-Some.name; value = first.0 } in
    let value = object_value c.in-Some-value.value in
    let read = sym (ap (option_map object_value) c.in-Some-value.is) ∙ c.value.ensures in
    found_more (has_no_value_by reads) (with_value_by reads) c.args.binds.now c.loop-name.rest c.next_name.new.self c.loop-name.octets
    c.push_value.new.self c.loop-name.index b (record { name = b.name; value = value }) c.loop-name.invariant
    first.1 (value_there reads b value read)
    (value_chosen reads b value read) c.push_value.ensures
