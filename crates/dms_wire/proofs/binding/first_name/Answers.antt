use Rattle.std.proofs.Common.{◌∷◌, List, ℕ, sym, ap, ◌∙◌}
use Rattle.dms_wire.specs.Walk.{bindings_of}
use Rattle.dms_wire.proofs.Bindings.{walk_more, whole_more, known_first, known_name, binding_joined, some_element, no_first}
use Rattle.dms_wire.proofs.binding.first_name.Goals as goal

pub returns-in_default-clause-none : goal.returns-in_default-clause-none
returns-in_default-clause-none c = no_first c.args.octets.now _ c.in_default.ensures.exact

pub returns-in_default-read_element-clause-none : goal.returns-in_default-read_element-clause-none
returns-in_default-read_element-clause-none c =
    let first = known_first c.args.octets.now _ c.requires c.in-Ok.ensures.exact in
    let read = (rw (c.offset_of-end.ensures) at c.in_default-read_element.ensures.exact) in
    absurd (some_element _ c.in-Ok.content.now first.0 _ first.1 read)

pub known-requires : goal.known-requires
known-requires c =
    let first = known_first c.args.octets.now _ c.requires c.in-Ok.ensures.exact in
    let read = (rw (c.offset_of-end.ensures) at c.in-Ok-read_element.ensures.exact) in
    (first.0.name, known_name _ c.in-Ok.content.now first.0 _ first.1 read)

pub returns-clause-some : goal.returns-clause-some
returns-clause-some c =
    let octets = c.args.octets.now in
    let rest = c.in-Ok.rest.now in
    let first = known_first octets _ c.requires c.in-Ok.ensures.exact in
    let read = (rw (c.offset_of-end.ensures) at c.in-Ok-read_element.ensures.exact) in
    let named = known_name _ c.in-Ok.content.now first.0 _ first.1 read in (
      first.0.value,
      walk_more octets rest first.0 (binding_joined _ octets _ first.0 c.in-Ok.ensures.exact first.1)
          ∙ ap (λ (name : List ℕ). record { name = name; value = first.0.value } ∷ bindings_of rest) (sym (c.known.ensures first.0.name named)),
    )

pub returns-clause-whole : goal.returns-clause-whole
returns-clause-whole c =
    let octets = c.args.octets.now in
    let first = known_first octets _ c.requires c.in-Ok.ensures.exact in
    whole_more octets c.in-Ok.rest.now first.0 c.requires (binding_joined _ octets _ first.0 c.in-Ok.ensures.exact first.1)
