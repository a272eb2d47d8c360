use Rattle.std.proofs.Common.{◌≡◌, map, sym, subst, ap, ◌∙◌}
use Rattle.dms_sign_access.specs.ChangeView.{write_by}
use Rattle.dms_sign.specs.State.{SignState}
use Rattle.dms_sign.specs.SetRequest.{with_writes, assigned}
use Rattle.dms_sign.specs.Requests.{writes_of}
use Rattle.dms_sign.specs.SetView.{AreLeft}
use Rattle.dms_sign.specs.SignView.{state_of}
use Rattle.dms_sign.proofs.Assigned.{assigned_whole, state_assigned}
use Rattle.dms_sign.proofs.sign.Sign.assign_kept.Goals as goal

pub invariant_of-self : goal.invariant_of-self
invariant_of-self c =
    let bs = c.args.binds.now in
    let are = subst (AreLeft c.args.settings bs) (sym c.self.view_is) c.requires.settings in
    let writes : map write_by c.args.changes.now ≡ writes_of (state_of c.self.inside) bs =
    subst (λ (s : SignState). map write_by c.args.changes.now ≡ writes_of s bs) (sym c.self.view_is) c.requires.changes
    in
    assigned_whole c.self.inside bs c.args.settings c.write_changes.new.table c.self.invariant c.requires.limits
    (c.write_changes.ensures ∙ ap (with_writes c.self.inside.table) writes) are

pub returns : goal.returns
returns c =
    let bs = c.args.binds.now in
    let are = subst (AreLeft c.args.settings bs) (sym c.self.view_is) c.requires.settings in
    let writes : map write_by c.args.changes.now ≡ writes_of (state_of c.self.inside) bs =
    subst (λ (s : SignState). map write_by c.args.changes.now ≡ writes_of s bs) (sym c.self.view_is) c.requires.changes
    in
    state_assigned c.self.inside (writes_of (state_of c.self.inside) bs) c.args.settings c.write_changes.new.table
    (c.write_changes.ensures ∙ ap (with_writes c.self.inside.table) writes) are
    ∙ ap (λ (s : SignState). assigned s (writes_of s bs)) c.self.view_is
