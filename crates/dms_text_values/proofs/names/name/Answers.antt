use Rattle.std.proofs.Common.{◌++◌, ◌+◌, ◌*◌, ◌≤◌, sym, ap, subst, ◌∙◌}
use Rattle.dms_wire_ber.specs.ObjectIdentifier.{sub_identifier_octets}
use Rattle.dms_text_values.specs.NameReading.{numbers_at}
use Rattle.dms_text_values.specs.View.{with_numbers}
use Rattle.dms_text_values.proofs.NameLaws.{IsRead, name_read, name_returned}
use Rattle.dms_text_values.proofs.names.name.Goals as goal

was_read : (c : goal.In_ok-content) → IsRead c.in_ok-first.first c.in_ok-second.second c.in_ok-second.parts c.in_ok-content.content.items
was_read c =
    let within = subst (λ most. c.in_ok-second.second ≤ most) c.most_second.ensures.value c.in_ok-second.ensures.greatest in
    let start = c.put_sub_identifier.ensures.octets
    ∙ ap (λ xs. xs ++ sub_identifier_octets (40 * c.in_ok-first.first + c.in_ok-second.second)) c.new-content.ensures in
    name_read c.in_ok-first.first c.in_ok-second.second c.in_ok-second.parts c.in_ok-content.content.items c.in_ok-first.ensures.greatest within
    (c.in_ok-content.ensures ∙ ap (λ xs. with_numbers xs (numbers_at 126 c.in_ok-second.parts)) start)

pub invariant_of-result : goal.invariant_of-result
invariant_of-result c = (was_read c).named

pub returns : goal.returns
returns c =
    name_returned c.args.word.now c.in_ok-first.first c.in_ok-second.second c.most_second.result c.split.result c.in_ok-first.parts c.in_ok-second.parts
    c.in_ok-content.content.items c.split.ensures (sym c.in_ok-first.ensures.value) c.most_second.ensures.value (sym c.in_ok-second.ensures.value)
    (was_read c)
