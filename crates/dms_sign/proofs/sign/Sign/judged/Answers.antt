use Rattle.std.proofs.Common.{◌≡◌, ◌+◌, [], ◌∷◌, ◌++◌, true, false, take, is_some, refl, sym, subst, ◌∙◌, arith}
use Rattle.std.specs.Prelude.{option_map}
use Rattle.dms_wire.specs.View.{var_bind}
use Rattle.dms_sign_access.specs.Access.{is_command}
use Rattle.dms_sign_access.specs.ChangeView.{write_by}
use Rattle.dms_codes.proofs.Options.{is_some_mapped}
use Rattle.dms_sign.proofs.Causes.{judged_starts, judged_more, judged_refused, judged_all, all_taken, stays_more, kept_more}
use Rattle.dms_sign.specs.SetView.{AreKept, StaysWithout}
use Rattle.dms_sign_access.specs.Slots.{AreTaken}
use Rattle.dms_sign.proofs.Causes.{one_more}
use Rattle.dms_sign.proofs.sign.Sign.judged.Goals as goal

pub loop-binding-init : goal.loop-binding-init
loop-binding-init c = grind (arith, judged_starts)

pub loop-binding-preserved : goal.loop-binding-preserved
loop-binding-preserved c =
    let b = var_bind c.in-Some.binding in
    let w = write_by c.in-Ok.change in
    let alone : is_command w ≡ true → is_some (option_map write_by c.loop-binding.judged.command) ≡ false =
    λ h. is_some_mapped write_by c.loop-binding.judged.command ∙ sym c.is_some-commanded.ensures ∙ c.in-Ok.ensures.alone h
    in
    let index = c.loop-binding.index in
    let command = option_map write_by c.loop-binding.judged.command in
    let next : take index c.args.binds.now ++ b ∷ [] ≡ take (index + 1) c.args.binds.now =
    one_more c.args.self.now c.args.may_write c.args.binds.now c.args.settings index c.loop-binding.judged.settings c.loop-binding.judged.index command
    c.loop-binding.rest c.next.new.self b c.loop-binding.invariant.0 c.in-Some.ensures.steps
    in (
      judged_more c.args.self.now c.args.may_write c.args.binds.now c.args.settings index c.loop-binding.judged.settings c.loop-binding.judged.index
          command c.loop-binding.rest c.next.new.self b w c.note.new.self.settings c.note.new.self.index
          (option_map write_by c.note.new.self.command) c.loop-binding.invariant.0 c.in-Some.ensures.steps c.in-Ok.ensures.none c.in-Ok.ensures.change
          alone c.note.ensures.settings c.note.ensures.command c.note.ensures.index,
      subst (AreTaken c.mark_name.new.slots) next (c.mark_name.ensures.taken (take index c.args.binds.now) b refl c.loop-binding.invariant.1),
      stays_more c.args.self.now (take index c.args.binds.now) (take (index + 1) c.args.binds.now) b w c.loop-binding.judged.fields
          c.note.new.self.fields c.in-Ok.ensures.change next c.note.ensures.fields c.loop-binding.invariant.2,
      kept_more c.args.self.now c.args.binds.now c.loop-binding.kept c.keep.new.kept index b c.in-Ok.change c.keep.ensures c.in-Ok.ensures.change next
          c.loop-binding.invariant.3,
    )

pub returns-in-Err-clause-first : goal.returns-in-Err-clause-first
returns-in-Err-clause-first c =
    judged_refused c.args.self.now c.args.may_write c.args.binds.now c.args.settings c.loop-binding.index c.loop-binding.judged.settings
    c.loop-binding.judged.index (option_map write_by c.loop-binding.judged.command) c.loop-binding.rest c.next.new.self (var_bind c.in-Some.binding)
    c.in-Err.status c.loop-binding.invariant.0 c.in-Some.ensures.steps c.in-Err.ensures.refusal

pub returns : goal.returns
returns c =
    let command = option_map write_by c.loop-binding.judged.command in
    let all =
    judged_all c.args.self.now c.args.may_write c.args.binds.now c.args.settings c.loop-binding.index c.loop-binding.judged.settings
    c.loop-binding.judged.index command c.loop-binding.rest c.loop-binding.invariant.0 c.in_default.ensures.steps.0 in
    let taken =
    all_taken c.args.self.now c.args.may_write c.args.binds.now c.args.settings c.loop-binding.index c.loop-binding.judged.settings
    c.loop-binding.judged.index command c.loop-binding.rest c.loop-binding.invariant.0 c.in_default.ensures.steps.0 in
    record {
      none = all.none;
      settings = all.set;
      fields = subst (StaysWithout c.loop-binding.judged.fields c.args.self.now) taken c.loop-binding.invariant.2;
      kept = subst (AreKept c.loop-binding.kept c.loop-binding.index c.args.self.now) taken c.loop-binding.invariant.3;
      command = all.found;
      index = all.place;
      first = tt;
    }
