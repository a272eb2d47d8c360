use Rattle.std.proofs.Common.{◌≡◌, false, sym, subst, ap, ◌∙◌, refl}
use Rattle.dms_sign.specs.State.{SignState}
use Rattle.dms_sign.specs.SetRequest.{assigned, with_writes}
use Rattle.dms_sign.specs.Requests.{writes_of}
use Rattle.dms_sign.specs.SetView.{AreLeft, StaysWithout}
use Rattle.dms_sign.specs.SignView.{state_of}
use Rattle.dms_sign.proofs.Assigned.{assigned_whole, state_assigned}
use Rattle.dms_sign.proofs.sign.Sign.assign_settings.Goals as goal

pub invariant_of-self : goal.invariant_of-self
invariant_of-self c =
    let bs = c.args.binds.now in
    let are = subst (AreLeft c.args.settings bs) (sym c.self.view_is) c.requires.settings in
    let same : with_writes c.self.inside.table (writes_of (state_of c.self.inside) bs) ≡ c.self.inside.table =
    subst (λ (s : SignState). StaysWithout false s bs) (sym c.self.view_is) c.requires.fields refl
    in
    assigned_whole c.self.inside bs c.args.settings c.self.inside.table c.self.invariant c.requires.limits (sym same) are

pub returns : goal.returns
returns c =
    let bs = c.args.binds.now in
    let are = subst (AreLeft c.args.settings bs) (sym c.self.view_is) c.requires.settings in
    let same : with_writes c.self.inside.table (writes_of (state_of c.self.inside) bs) ≡ c.self.inside.table =
    subst (λ (s : SignState). StaysWithout false s bs) (sym c.self.view_is) c.requires.fields refl
    in
    state_assigned c.self.inside (writes_of (state_of c.self.inside) bs) c.args.settings c.self.inside.table (sym same) are
    ∙ ap (λ (s : SignState). assigned s (writes_of s bs)) c.self.view_is
