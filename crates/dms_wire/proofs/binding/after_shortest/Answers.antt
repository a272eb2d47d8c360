use Rattle.std.proofs.Common.{◌∙◌, rules}
use Rattle.dms_wire.proofs.Promises.{octets_fit}
use Rattle.dms_wire.proofs.ShortestSpellings.{first_shortest, first_and_rest, whole_rest}
use Rattle.dms_wire.proofs.binding.after_shortest.Goals as goal

pub returns-then-octets-rest-clause-whole : goal.returns-then-octets-rest-clause-whole
returns-then-octets-rest-clause-whole c =
    let first = first_shortest c.args.octets.now _ _ _ (octets_fit _ (λ i. (c.type_inv.octets i).fits)) c.requires.whole c.in-Ok.ensures.exact
    c.in-Ok-read_element.ensures.exact c.in-len1-up.len_at_least c.in-Ok-read_content.ensures.exact (search rules)
    (λ tag. c.if-octets-rest.true ∙ c.size_of_members.ensures tag) in
    whole_rest c.args.octets.now c.in-Ok.rest.now first c.requires.whole

pub returns-then-octets-rest-clause-same : goal.returns-then-octets-rest-clause-same
returns-then-octets-rest-clause-same c =
    let first = first_shortest c.args.octets.now _ _ _ (octets_fit _ (λ i. (c.type_inv.octets i).fits)) c.requires.whole c.in-Ok.ensures.exact
    c.in-Ok-read_element.ensures.exact c.in-len1-up.len_at_least c.in-Ok-read_content.ensures.exact (search rules)
    (λ tag. c.if-octets-rest.true ∙ c.size_of_members.ensures tag) in
    first_and_rest c.args.octets.now c.in-Ok.rest.now first
