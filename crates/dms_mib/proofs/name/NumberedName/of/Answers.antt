use Rattle.std.proofs.Common.{◌∙◌, ◌++◌, ap, sym, subst, arith}
use Rattle.dms_wire_ber.specs.ObjectIdentifier.{IsName, sub_identifier_octets}
use Rattle.dms_mib.proofs.NameLaws.{numbered}
use Rattle.dms_mib.proofs.name.NumberedName.of.Goals as goal

pub returns : goal.returns
returns c =
    (numbered c.args.numbers.now c.push_sub_identifier.new.octets.items c.args.last c.requires.few c.requires.small (omega arith)
    (c.push_sub_identifier.ensures.octets ∙ ap (λ octets. octets ++ sub_identifier_octets c.args.last) c.below_dms-content.ensures)).1

pub invariant_of-result : goal.invariant_of-result
invariant_of-result c =
    let named = numbered c.args.numbers.now c.push_sub_identifier.new.octets.items c.args.last c.requires.few c.requires.small (omega arith)
    (c.push_sub_identifier.ensures.octets ∙ ap (λ octets. octets ++ sub_identifier_octets c.args.last) c.below_dms-content.ensures) in
    subst (λ numbers. IsName numbers c.push_sub_identifier.new.octets.items) (sym named.1) named.0
