-- The state in which the values of a SET are assigned, and what a command makes of it.
use Rattle.std.proofs.Common.{◌≡◌, ℕ, Bool, true, false, List, [], ◌∷◌, ◌++◌, find, Option, Some, None, Result, Ok, Err, is_some, IsSome, IsTrue, refl, sym, ap, subst, ◌∙◌, arith}
use Rattle.std.specs.Prelude.{option_and_then, slice_get}
use Rattle.std.specs.Option.{IfSome}
use Rattle.std.specs.Result.{OnOk, OnErr}
use Rattle.std.specs.List.{cons_option}
use Rattle.dms_wire.specs.Message.{VarBind}
use Rattle.dms_wire.specs.Limits.{AreBindingsInLimits}
use Rattle.dms_face.specs.declared.defaults.Defaults.{Defaults}
use Rattle.dms_face.specs.Face.{fit}
use Rattle.dms_face.proofs.Lists.{if_found}
use Rattle.dms_codes.specs.declared.codes.Order.{Order}
use Rattle.dms_codes.specs.declared.codes.Activation.{Activation}
use Rattle.dms_codes.specs.declared.row_id.RowId.{RowId}
use Rattle.dms_codes.specs.declared.status.Ask.{Ask}
use Rattle.dms_codes.specs.Codes.{octets_of_id, activation_of}
use Rattle.dms_mib.specs.declared.instance.Instance.{Instance}
use Rattle.dms_mib_instances.specs.Objects.{instance_named}
use Rattle.dms_table.specs.declared.row.Refused.{Refused}
use Rattle.dms_table.specs.declared.activation.Cause.{Cause}
use Rattle.dms_table.specs.Rows.{TableModel, asked}
use Rattle.dms_table.specs.Activation.{ShownModel, shown_by, refusal, unless_refused, decided}
use Rattle.dms_sign_access.specs.declared.settings.SignSettings.{SignSettings}
use Rattle.dms_sign_access.specs.declared.reports.Reports.{Reports}
use Rattle.dms_sign.specs.declared.sign.Sign.TheInside.{Inside}
use Rattle.dms_sign.specs.Communities.{are_communities}
use Rattle.dms_sign.specs.State.{ConfigModel, SignState}
use Rattle.dms_sign_access.specs.Access.{Write, AskRow, Activate, is_command, is_settable, write_of}
use Rattle.dms_sign.specs.SetRequest.{with_writes, assigned, SetCause, causes, if_settable, settable_instance, write_at}
use Rattle.dms_sign.specs.Requests.{as_decided, as_asked, commanded, commanded_if, command_index, writes_of, set, set_unless}
use Rattle.dms_sign_access.specs.Reports.{IsCauseInRange}
use Rattle.dms_sign.specs.InRange.{AreOctets, IsTableInRange, IsShownInRange, IsSignInRange}
use Rattle.dms_sign.specs.Transitions.{HasFitDefaults}
use Rattle.dms_sign.specs.Kept.{IsKept}
use Rattle.dms_sign.specs.SignView.{state_of, IsWhole}
use Rattle.dms_sign_access.specs.Settings.{set_by}
use Rattle.dms_sign.specs.SetView.{AreLeft}
use Rattle.dms_sign.specs.SetView.{IsCommandInRange}
use Rattle.dms_table.proofs.Decisions.{accepted_decision, accepted_elsewhere}
use Rattle.dms_sign.proofs.InRangeShown.{with_table_in_range, activation_is, IsDecisionInRange, decided_in_range}
use Rattle.dms_sign.proofs.InRangeSets.{IsWriteInRange, writes_in_range, assigned_in_range, asked_in_range}
use Rattle.dms_sign.proofs.StepDefaults.{writes_fit, assigned_fit}
use Rattle.dms_sign.proofs.KnownTexts.{known_kept}
use Rattle.dms_sign.proofs.StepRows.{KeepsRows, writes_keep, asked_keeps}
use Rattle.dms_sign.proofs.Replies.{set_unless_is, are_causes}
use Rattle.dms_sign.proofs.Causes.{writes_append, with_writes_append}
use Rattle.dms_sign.proofs.Writes.{writes_like, asked_alike, decided_alike}

-- ---- settings

pub state_assigned : (old : Inside) (ws : List Write) (settings : SignSettings) (table : TableModel) → table ≡ with_writes old.table ws
    → settings ≡ set_by old.settings ws → state_of (record old { table = table; settings = settings }) ≡ assigned (state_of old) ws
unfolding assigned
state_assigned old ws settings table t is = grind arith

assigned_config : (s : SignState) (ws : List Write) → (assigned s ws).config ≡ s.config
unfolding assigned
assigned_config s ws = refl

pub assigned_whole : (old : Inside) (bindings : List VarBind) (settings : SignSettings) (table : TableModel) → IsWhole old → AreBindingsInLimits bindings
    → table ≡ with_writes old.table (writes_of (state_of old) bindings) → AreLeft settings bindings (state_of old)
    → IsWhole (record old { table = table; settings = settings })
assigned_whole old bindings settings table is within t are =
    let s = state_of old in
    let ws = writes_of s bindings in
    let kept : IsKept (assigned s ws) = record {
      in_range = assigned_in_range s ws is.kept.in_range (writes_in_range s bindings within);
      fit = assigned_fit s ws (writes_fit s bindings) is.kept.fit;
      communities = subst (λ (c : ConfigModel). IsTrue (are_communities c.reader c.writer)) (sym (assigned_config s ws)) is.kept.communities;
    } in
    let order : table.order ≡ old.table.order = ap (λ (t : TableModel). t.order) t ∙ (writes_keep old.table ws).order in
    record {
      kept = subst IsKept (sym (state_assigned old ws settings table t are)) kept;
      source = is.source ∙ ap (λ (o : Order). octets_of_id o old.shown.source) (sym order);
      known = known_kept old.known old.face old.table table (subst (KeepsRows old.table) (sym t) (writes_keep old.table ws)) is.known;
    }

-- ---- rows that are asked

pub asked_whole : (old : Inside) (table : TableModel) (id : RowId) (ask : Ask) → IsWhole old → asked old.table id ask ≡ Some table
    → IsWhole (record old { table = table })
asked_whole old table id ask is e =
    let range : IsTableInRange table = subst (λ (o : Option TableModel). IfSome o IsTableInRange) e (asked_in_range old.table id ask is.kept.in_range.table) in
    record {
      kept = record { in_range = with_table_in_range (state_of old) table is.kept.in_range range; fit = is.kept.fit; communities = is.kept.communities };
      source = is.source ∙ ap (λ (o : Order). octets_of_id o old.shown.source) (sym (asked_keeps old.table table id ask e).order);
      known = known_kept old.known old.face old.table table (asked_keeps old.table table id ask e) is.known;
    }

-- one that takes what it is asked, or is left as it is
pub asked_either : (old : Inside) (table : TableModel) (id : RowId) (ask : Ask) (r : Result (Unit {0}) Refused) → IsWhole old
    → OnOk r (asked old.table id ask ≡ Some table) → OnErr r (table ≡ old.table) → IsWhole (record old { table = table })
asked_either old table id ask (Ok done) is ok err = asked_whole old table id ask is ok
asked_either old table id ask (Err refused) is ok err = subst (λ (t : TableModel). IsWhole (record old { table = t })) (sym err) is

pub takes_after : (s : SignState) (ws : List Write) (id : RowId) (ask : Ask) → is_some (asked s.table id ask) ≡ is_some (asked (assigned s ws).table id ask)
unfolding assigned
takes_after s ws id ask = asked_alike s.table (with_writes s.table ws) id ask (writes_like s.table ws)

asked_none : (o : Option TableModel) → is_some o ≡ false → o ≡ None
asked_none o e = grind arith

pub ask_refused : (s : SignState) (ws : List Write) (bindings : List VarBind) (index : ℕ) (id : RowId) (ask : Ask) → is_some (asked s.table id ask) ≡ false
    → commanded s (assigned s ws) bindings index (AskRow id ask) ≡ as_asked s (assigned s ws) bindings index None
ask_refused s ws bindings index id ask e =
    ap (as_asked s (assigned s ws) bindings index) (asked_none (asked (assigned s ws).table id ask) (sym (takes_after s ws id ask) ∙ e))

-- ---- activations

pub accepted_whole : (old : Inside) (shown : ShownModel) (source octets : List ℕ) (reports : Reports) → IsWhole old → IsShownInRange shown → AreOctets 12 octets
    → source ≡ octets_of_id old.table.order shown.source → reports ≡ record old.reports { activate_error = 2; accepted_code = octets }
    → IsWhole (record old { shown = shown; source = source; reports = reports })
accepted_whole old shown source octets reports is range twelve s r = grind arith

pub decided_new : (s : SignState) (ws : List Write) (settings : SignSettings) (octets : List ℕ) (code : Activation) → settings ≡ set_by s.settings ws
    → code ≡ activation_of s.table.order octets
    → decided s.config.face settings.defaults s.table s.shown code
    ≡ decided (assigned s ws).config.face (assigned s ws).settings.defaults (assigned s ws).table (assigned s ws).shown (activation_of s.table.order octets)
unfolding assigned
decided_new s ws settings octets code is c =
    ap (λ (d : Defaults). decided s.config.face d s.table s.shown code) (ap (λ (x : SignSettings). x.defaults) is)
    ∙ decided_alike s.config.face _ s.table (with_writes s.table ws) s.shown code (writes_like s.table ws)
    ∙ ap (decided s.config.face _ (with_writes s.table ws) s.shown) c

-- a code that is let pass before the values are assigned puts up what is there after it
pub accepted_new : {A : Type 0} (a : A) (s : SignState) (ws : List Write) (settings : SignSettings) (octets : List ℕ) (code : Activation)
    → settings ≡ set_by s.settings ws → code ≡ activation_of s.table.order octets
    → Ok a ≡ unless_refused a (refusal s.config.face settings.defaults s.table s.shown code)
    → Ok (shown_by (assigned s ws).settings.defaults (assigned s ws).table (assigned s ws).shown code) ≡ decided s.config.face settings.defaults s.table s.shown code
accepted_new a s ws settings octets code is c e =
    let new = assigned s ws in
    let same = decided_new s ws settings octets code is c in
    let old = accepted_decision a s.config.face settings.defaults s.table s.shown code e in
    ap (λ (code : Activation). Ok (shown_by new.settings.defaults new.table new.shown code)) c
    ∙ accepted_elsewhere new.config.face new.settings.defaults new.shown (shown_by settings.defaults s.table s.shown code) new.table
    (activation_of s.table.order octets) (old ∙ same)
    ∙ sym same

fit_of : (s : SignState) (ws : List Write) → HasFitDefaults (assigned s ws) → IsTrue (fit s.config.face.fonts (set_by s.settings ws).defaults)
unfolding assigned
fit_of s ws is = is

pub fit_new : (s : SignState) (bindings : List VarBind) (settings : SignSettings) → HasFitDefaults s → AreLeft settings bindings s
    → IsTrue (fit s.config.face.fonts settings.defaults)
fit_new s bindings settings is are =
    subst (λ (x : SignSettings). IsTrue (fit s.config.face.fonts x.defaults)) (sym are)
    (fit_of s (writes_of s bindings) (assigned_fit s (writes_of s bindings) (writes_fit s bindings) is))

decision_new : (s : SignState) (bindings : List VarBind) (settings : SignSettings) (octets : List ℕ) (code : Activation) → IsSignInRange s → AreBindingsInLimits bindings
    → AreLeft settings bindings s → code ≡ activation_of s.table.order octets → AreOctets 12 octets
    → IsDecisionInRange (decided s.config.face settings.defaults s.table s.shown code)
decision_new s bindings settings octets code is within are c twelve =
    let ws = writes_of s bindings in
    let new = assigned s ws in
    let range : IsSignInRange new = assigned_in_range s ws is (writes_in_range s bindings within) in
    subst IsDecisionInRange (sym (decided_new s ws settings octets code are c))
    (decided_in_range new.config.face new.settings.defaults new.table new.shown (activation_of s.table.order octets) range.settings.defaults range.table range.shown
    (activation_is s.table.order octets twelve.below))

pub accepted_shown : (s : SignState) (bindings : List VarBind) (settings : SignSettings) (octets : List ℕ) (code : Activation) (shown : ShownModel) → IsSignInRange s
    → AreBindingsInLimits bindings → AreLeft settings bindings s → code ≡ activation_of s.table.order octets → AreOctets 12 octets
    → Ok shown ≡ decided s.config.face settings.defaults s.table s.shown code → IsShownInRange shown
accepted_shown s bindings settings octets code shown is within are c twelve ok =
    subst IsDecisionInRange (sym ok) (decision_new s bindings settings octets code is within are c twelve)

pub refused_cause : (s : SignState) (bindings : List VarBind) (settings : SignSettings) (octets : List ℕ) (code : Activation) (cause : Cause) → IsSignInRange s
    → AreBindingsInLimits bindings → AreLeft settings bindings s → code ≡ activation_of s.table.order octets → AreOctets 12 octets
    → Err cause ≡ decided s.config.face settings.defaults s.table s.shown code → IsCauseInRange cause
refused_cause s bindings settings octets code cause is within are c twelve err =
    subst IsDecisionInRange (sym err) (decision_new s bindings settings octets code is within are c twelve)

pub activation_answer : (s : SignState) (ws : List Write) (bindings : List VarBind) (index : ℕ) (settings : SignSettings) (octets : List ℕ) (code : Activation)
    (r : Result ShownModel Cause) → settings ≡ set_by s.settings ws → code ≡ activation_of s.table.order octets
    → r ≡ decided s.config.face settings.defaults s.table s.shown code
    → commanded s (assigned s ws) bindings index (Activate octets) ≡ as_decided s (assigned s ws) bindings index octets r
activation_answer s ws bindings index settings octets code r are c e =
    ap (as_decided s (assigned s ws) bindings index octets) (sym (e ∙ decided_new s ws settings octets code are c))

-- ---- answers

in_range_of : (o : Option Write) → IfSome o IsWriteInRange → IfSome o IsCommandInRange
in_range_of o is = grind arith

pub command_in_range : (s : SignState) (bindings : List VarBind) (o : Option Write) → AreBindingsInLimits bindings → o ≡ find is_command (writes_of s bindings)
    → IfSome o IsCommandInRange
command_in_range s bindings o within e = grind (arith, in_range_of, if_found, writes_in_range)

-- without a cause the command is done
pub set_commanded : (s : SignState) (may : Bool) (bindings : List VarBind) (index : ℕ) (command : Option Write) → causes s may bindings ≡ []
    → command ≡ find is_command (writes_of s bindings) → index ≡ command_index s bindings
    → commanded_if s (assigned s (writes_of s bindings)) bindings index command ≡ set s may bindings
set_commanded s may bindings index command p c i = grind arith

first_refuses : (s : SignState) (bindings : List VarBind) (found : List SetCause) (cause : SetCause) → slice_get found 0 ≡ Some cause
    → set_unless s bindings found ≡ record { status = cause.status; index = cause.index; bindings = bindings; after = s; accepted = None }
first_refuses s bindings found cause e = grind arith

pub set_refused : (s : SignState) (may : Bool) (bindings : List VarBind) (cause : SetCause) → slice_get (causes s may bindings) 0 ≡ Some cause
    → set s may bindings ≡ record { status = cause.status; index = cause.index; bindings = bindings; after = s; accepted = None }
set_refused s may bindings cause e = first_refuses s bindings (causes s may bindings) cause e

pub set_echoes : (s : SignState) (may : Bool) (bindings : List VarBind) → (set s may bindings).bindings ≡ bindings
set_echoes s may bindings = (set_unless_is s bindings (causes s may bindings) (are_causes s may bindings)).echo

-- ---- what a binding writes

pub settable_there : (s : SignState) (b : VarBind) (i : Instance) (o : Option Write) → Some i ≡ instance_named s.table b.name → is_settable i ≡ true
    → o ≡ write_of s.config.face i b.value → o ≡ write_at s b
unfolding write_at settable_instance
settable_there s b i o e settable w = grind arith

pub settable_not : (s : SignState) (b : VarBind) (i : Instance) → Some i ≡ instance_named s.table b.name → is_settable i ≡ false → None ≡ write_at s b
unfolding write_at settable_instance
settable_not s b i e settable = grind arith

pub settable_none : (s : SignState) (b : VarBind) → None ≡ instance_named s.table b.name → None ≡ write_at s b
unfolding write_at settable_instance
settable_none s b e = ap (λ o. option_and_then (λ i. write_of s.config.face i b.value) (option_and_then if_settable o)) e

pub fields_more : (s : SignState) (initial table new : TableModel) (done : List VarBind) (b : VarBind) (o : Option Write)
    → table ≡ with_writes initial (writes_of s done) → o ≡ write_at s b → new ≡ with_writes table (cons_option o [])
    → new ≡ with_writes initial (writes_of s (done ++ b ∷ []))
fields_more s initial table new done b o t w n = grind (arith, with_writes_append, writes_append)

-- ---- a row that takes what it is asked

pub asked_ok : (o : Option TableModel) (table : TableModel) (r : Result (Unit {0}) Refused) → IsSome o → OnOk r (o ≡ Some table) → OnErr r (o ≡ None)
    → o ≡ Some table
asked_ok o table r some ok err = grind arith
