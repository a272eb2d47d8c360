use Rattle.std.proofs.Common.{◌≡◌, ◌<◌, ◌/◌, ◌%◌, true, length, ap, sym, subst, ◌∙◌, arith}
use Rattle.dms_wire_ber.specs.ObjectIdentifier.{name_octets}
use Rattle.dms_sign_access.specs.Slots.{content_slot, slot_of, is_taken}
use Rattle.dms_sign_access.proofs.TakenSlots.{marked, taken_stays, marked_taken, others_stay, more_taken}
use Rattle.dms_sign_access.proofs.met_names.mark_name.Goals as goal

pub returns-clause-others : goal.returns-clause-others
returns-clause-others c = λ other apart.
    let slot = c.content_slot-slot.result in
    let few = c.content_slot-slot.ensures.few in
    let small : slot % 64 < 64 = omega arith in
    let there : slot / 64 < length c.args.slots.now = omega arith in
    let is : slot ≡ slot_of c.args.name.now = c.content_slot-slot.ensures.slot ∙ ap content_slot c.content.ensures in
    others_stay c.args.slots.now slot other small there (λ same. apart (same ∙ is))

pub returns-clause-taken : goal.returns-clause-taken
returns-clause-taken c = λ bindings b e taken.
    let slot = c.content_slot-slot.result in
    let few = c.content_slot-slot.ensures.few in
    let small : slot % 64 < 64 = omega arith in
    let there : slot / 64 < length c.args.slots.now = omega arith in
    let is : slot ≡ slot_of b.name =
    c.content_slot-slot.ensures.slot ∙ ap content_slot c.content.ensures ∙ ap (λ n. content_slot (name_octets n)) (sym e)
    in
    more_taken c.args.slots.now (marked c.args.slots.now slot) bindings b (λ other h. taken_stays c.args.slots.now slot other small there h)
    (subst (λ k. is_taken (marked c.args.slots.now slot) k ≡ true) is (marked_taken c.args.slots.now slot small there)) taken
