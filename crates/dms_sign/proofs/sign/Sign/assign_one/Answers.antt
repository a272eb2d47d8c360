use Rattle.std.proofs.Common.{◌≡◌, [], ◌∷◌, sym, subst, ap, ◌∙◌}
use Rattle.dms_sign_access.specs.ChangeView.{write_by}
use Rattle.dms_sign_access.specs.Settings.{set_by}
use Rattle.dms_sign.specs.State.{SignState}
use Rattle.dms_sign.specs.SetRequest.{with_writes, assigned}
use Rattle.dms_sign.specs.Requests.{writes_of}
use Rattle.dms_sign.specs.SignView.{state_of}
use Rattle.dms_sign.proofs.Assigned.{assigned_whole, state_assigned}
use Rattle.dms_sign.proofs.sign.Sign.assign_one.Goals as goal

pub invariant_of-self : goal.invariant_of-self
invariant_of-self c =
    let bs = c.args.binds.now in
    let writes : writes_of (state_of c.self.inside) bs ≡ write_by c.args.change.now ∷ [] =
    subst (λ (s : SignState). writes_of s bs ≡ write_by c.args.change.now ∷ []) (sym c.self.view_is) c.requires.writes
    in
    assigned_whole c.self.inside bs c.write.new.settings c.write.new.table c.self.invariant c.requires.limits
    (c.write.ensures.fields ∙ ap (with_writes c.self.inside.table) (sym writes))
    (c.write.ensures.settings ∙ ap (set_by c.self.inside.settings) (sym writes))

pub returns : goal.returns
returns c =
    let bs = c.args.binds.now in
    let writes : writes_of (state_of c.self.inside) bs ≡ write_by c.args.change.now ∷ [] =
    subst (λ (s : SignState). writes_of s bs ≡ write_by c.args.change.now ∷ []) (sym c.self.view_is) c.requires.writes
    in
    state_assigned c.self.inside (writes_of (state_of c.self.inside) bs) c.write.new.settings c.write.new.table
    (c.write.ensures.fields ∙ ap (with_writes c.self.inside.table) (sym writes))
    (c.write.ensures.settings ∙ ap (set_by c.self.inside.settings) (sym writes))
    ∙ ap (λ (s : SignState). assigned s (writes_of s bs)) c.self.view_is
