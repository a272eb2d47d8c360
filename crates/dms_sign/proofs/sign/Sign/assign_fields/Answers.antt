use Rattle.std.proofs.Common.{sym, subst, ap, ◌∙◌, refl}
use Rattle.dms_mib_instances.specs.Places.{HasCounts}
use Rattle.dms_sign.specs.State.{SignState}
use Rattle.dms_sign.specs.SetRequest.{assigned}
use Rattle.dms_sign.specs.Requests.{writes_of}
use Rattle.dms_sign.specs.SetView.{AreLeft}
use Rattle.dms_sign.specs.SignView.{state_of}
use Rattle.dms_sign.proofs.Assigned.{assigned_whole, state_assigned}
use Rattle.dms_sign.proofs.sign.Sign.assign_fields.Goals as goal

pub invariant_of-self : goal.invariant_of-self
invariant_of-self c =
    let are = subst (AreLeft c.args.settings c.args.binds.now) (sym c.self.view_is) c.requires.settings in
    assigned_whole c.self.inside c.args.binds.now c.args.settings c.write_fields.new.table c.self.invariant c.requires.limits
    (c.write_fields.ensures (state_of c.self.inside) (subst (λ (s : SignState). HasCounts s.table c.counts-counts.result) (sym c.self.view_is) c.counts-counts.ensures) refl) are

pub returns : goal.returns
returns c =
    let are = subst (AreLeft c.args.settings c.args.binds.now) (sym c.self.view_is) c.requires.settings in
    state_assigned c.self.inside (writes_of (state_of c.self.inside) c.args.binds.now) c.args.settings c.write_fields.new.table
    (c.write_fields.ensures (state_of c.self.inside) (subst (λ (s : SignState). HasCounts s.table c.counts-counts.result) (sym c.self.view_is) c.counts-counts.ensures) refl) are
    ∙ ap (λ (s : SignState). assigned s (writes_of s c.args.binds.now)) c.self.view_is
