-- What comes to a sign makes one step of it.
use Rattle.std.proofs.Common.{◌≡◌, inl, inr, ℕ, ◌+◌, ◌==◌, ◌&&◌, Bool, true, false, cond, List, [], ◌∷◌, Option, Some, None, Result, Ok, Err, refl, sym, subst, ◌∙◌, arith}
use Rattle.std.specs.Prelude.{nat_lt, nat_le}
use Rattle.dms_wire.specs.declared.message.Kind.{Kind}
use Rattle.dms_wire.specs.declared.message.Kind.TheVariants.{Get, GetNext, Response, Set}
use Rattle.dms_wire.specs.Message.{VarBind, SnmpMessage}
use Rattle.dms_wire.specs.MessageOf.{message_of}
use Rattle.dms_face.specs.declared.defaults.Defaults.{Defaults}
use Rattle.dms_face.specs.Layout.{under}
use Rattle.dms_table.specs.declared.activation.Cause.{Cause}
use Rattle.dms_codes.specs.declared.codes.MessageId.{MessageId}
use Rattle.dms_codes.specs.declared.codes.Activation.{Activation}
use Rattle.dms_codes.specs.Codes.{activation_of, id_of}
use Rattle.dms_table.specs.Rows.{TableModel, asked, after_power}
use Rattle.dms_table.specs.Activation.{ShownModel, seconds_of, decided}
use Rattle.dms_sign.specs.State.{ConfigModel, SignState, power_recovery_mode, communications_loss_mode, power_loss_mode, end_duration_mode}
use Rattle.dms_sign.specs.OwnCodes.{showing, put_up_code}
use Rattle.dms_sign_access.specs.Access.{Write, SetNumber, SetCode, SetField, AskRow, Activate, SetRemaining}
use Rattle.dms_sign.specs.SetRequest.{SetCause, causes, assigned}
use Rattle.dms_sign.specs.Requests.{Answer, found_unless, as_decided, as_asked, with_remaining, commanded, commanded_if, set_unless, may_write, answer_by, answer_of_any_size}
use Rattle.dms_sign.specs.Reply.{is_heard, heard, dropped, on_message_if, received}
use Rattle.dms_sign.specs.Events.{after_settling, counted_down, after_duration, longest_silence, quieter, after_silence, after_tick, recovery_code, restored, after_power_loss, after_power_return}
use Rattle.dms_sign.specs.Transitions.{IsSameMessage, IsBlankedUnder, IsRowOf, IsOwnCode, ShowsNow, stayed, came_back, blanked, activated, fell_back, IsSignStep}
use Rattle.dms_sign.proofs.StepRows.{KeepsRows, rows_then, step_kept, asked_keeps, writes_keep, after_power_keeps, settled_step}
use Rattle.dms_sign.proofs.StepShown.{same_as, same_then, blank_as, row_as, Displays, still, empty, of_row, decided_displays, KeepsRest, code_puts_up}

-- ---- a step, and then one that leaves all but what is shown

row_moved : (mid new : SignState) (shown : ShownModel) → KeepsRest mid new → IsRowOf mid.config.face mid.settings.defaults mid.table shown
    → IsRowOf new.config.face new.settings.defaults new.table shown
row_moved mid new shown kept_rest is = grind arith

code_moved : (mid new : SignState) (a b : MessageId) → KeepsRest mid new → b ≡ a → IsOwnCode mid.table.order mid.settings.fallbacks a
    → IsOwnCode new.table.order new.settings.fallbacks b
code_moved mid new a b kept_rest same own = grind arith

shows_on : (old mid new : SignState) (a : Option Activation) → KeepsRest mid new → IsSameMessage mid.shown new.shown → ShowsNow old mid a → ShowsNow old new a
shows_on old mid new a kept_rest same (stayed is) = stayed (same_then old.shown mid.shown new.shown is same)
shows_on old mid new a kept_rest same (came_back is) = came_back (same_then old.shown_at_power_loss mid.shown new.shown is same)
shows_on old mid new a kept_rest same (blanked is) = grind (arith, same_then, blank_as, row_moved, row_as, code_moved)
shows_on old mid new a kept_rest same (activated code accepted source is) =
    activated code accepted (same.source ∙ source)
    (row_moved mid new new.shown kept_rest (row_as mid.config.face mid.settings.defaults mid.table mid.shown new.shown same is))
shows_on old mid new a kept_rest same (fell_back own is) = grind (arith, same_then, blank_as, row_moved, row_as, code_moved)

step_with : (old mid new : SignState) (a : Option Activation) → IsSignStep old mid a → KeepsRest mid new → ShowsNow old new a → IsSignStep old new a
step_with old mid new a step kept_rest shows = grind arith

-- the message stays
step_on : (old mid new : SignState) (a : Option Activation) → IsSignStep old mid a → KeepsRest mid new → IsSameMessage mid.shown new.shown → IsSignStep old new a
step_on old mid new a step kept_rest same = step_with old mid new a step kept_rest (shows_on old mid new a kept_rest same step.shown)

shows_code : (old mid new : SignState) (id : MessageId) → ShowsNow old mid None → IsOwnCode mid.table.order mid.settings.fallbacks id → KeepsRest mid new
    → Displays mid.config.face mid.settings.defaults mid.table mid.shown id new.shown → ShowsNow old new None
shows_code old mid new id shows own kept_rest p = grind arith

-- a code of the sign's own is put up
step_code : (old mid : SignState) (octets : List ℕ) (mode : ℕ) → IsSignStep old mid None
    → IsOwnCode mid.table.order mid.settings.fallbacks (id_of mid.table.order octets) → IsSignStep old (put_up_code mid octets mode) None
step_code old mid octets mode step own = grind (arith, code_puts_up, step_with, shows_code)

-- nothing happens
pub step_none : (s : SignState) → IsSignStep s s None
step_none s = grind arith

-- ---- what a SET assigns

record IsWritten (old new : SignState) : Type 0 where
  config : new.config ≡ old.config
  rows : KeepsRows old.table new.table
  shown : new.shown ≡ old.shown
  shown_at_power_loss : new.shown_at_power_loss ≡ old.shown_at_power_loss

assigned_is : (s : SignState) (writes : List Write) → IsWritten s (assigned s writes)
unfolding assigned
assigned_is s writes = record { config = refl; rows = writes_keep s.table writes; shown = refl; shown_at_power_loss = refl }

step_written : (s new : SignState) → IsWritten s new → IsSignStep s new None
step_written s new is = grind arith

-- what an answer makes of the sign
abbrev Answers : SignState → Answer → Type 0
Answers s answer = IsSignStep s answer.after answer.accepted

shows_decided : (s mid new : SignState) (code : Activation) → mid.shown ≡ s.shown → new.config ≡ mid.config → new.settings.defaults ≡ mid.settings.defaults → new.table ≡ mid.table
    → Displays mid.config.face mid.settings.defaults mid.table mid.shown code.id new.shown → ShowsNow s new (Some code)
shows_decided s mid new code was config defaults table (still same) = stayed (subst (λ x. IsSameMessage x new.shown) was same)
shows_decided s mid new code was config defaults table (empty is) = blanked (subst (λ d. IsBlankedUnder d new.shown) (sym defaults) is)
shows_decided s mid new code was config defaults table (of_row source is) =
    activated code refl source
    (subst (λ (c : ConfigModel). IsRowOf c.face new.settings.defaults new.table new.shown) (sym config)
    (subst (λ (d : Defaults). IsRowOf mid.config.face d new.table new.shown) (sym defaults)
    (subst (λ (t : TableModel). IsRowOf mid.config.face mid.settings.defaults t new.shown) (sym table) is)))

answers_decided : (s new : SignState) (bindings : List VarBind) (index : ℕ) (octets : List ℕ) (r : Result ShownModel Cause) → IsWritten s new
    → decided new.config.face new.settings.defaults new.table new.shown (activation_of s.table.order octets) ≡ r
    → Answers s (as_decided s new bindings index octets r)
answers_decided s new bindings index octets (Ok shown) is e =
    let code = activation_of s.table.order octets in
    let displays = decided_displays new.config.face new.settings.defaults new.table new.shown code shown e in
    record {
      config = is.config;
      table = step_kept (under s.config.face s.settings.defaults) s.table new.table is.rows;
      shown = shows_decided s new (as_decided s new bindings index octets (Ok shown)).after code is.shown refl refl refl displays;
      shown_at_power_loss = inl is.shown_at_power_loss;
    }
answers_decided s new bindings index octets (Err cause) is e = grind (arith, decided_displays, step_kept, shows_decided, step_on, step_none, same_as)

answers_asked : (s new : SignState) (bindings : List VarBind) (index : ℕ) (o : Option TableModel) → IsWritten s new
    → ((table : TableModel) → o ≡ Some table → KeepsRows new.table table)
    → Answers s (as_asked s new bindings index o)
answers_asked s new bindings index None is each = step_none s
answers_asked s new bindings index (Some table) is each =
    step_written s (record new { table = table })
    (record { config = is.config; rows = rows_then s.table new.table table is.rows (each table refl); shown = is.shown; shown_at_power_loss = is.shown_at_power_loss })

step_remaining_if : (b : Bool) (s new : SignState) (minutes : ℕ) → IsSignStep s new None
    → IsSignStep s (cond b (put_up_code new new.settings.fallbacks.end_duration end_duration_mode) (showing new (record new.shown { remaining = seconds_of minutes }))) None
step_remaining_if true s new minutes step = step_code s new new.settings.fallbacks.end_duration end_duration_mode step (inr (inr (inr (inl refl))))
step_remaining_if false s new minutes step = grind (arith, step_code, step_on)

step_remaining : (s new : SignState) (minutes : ℕ) → IsSignStep s new None → IsSignStep s (with_remaining new minutes) None
step_remaining s new minutes step = step_remaining_if (minutes == 0) s new minutes step

answers_commanded : (s new : SignState) (bindings : List VarBind) (index : ℕ) (write : Write) → IsWritten s new → Answers s (commanded s new bindings index write)
answers_commanded s new bindings index (AskRow id ask) is =
    answers_asked s new bindings index (asked new.table id ask) is (λ table e. asked_keeps new.table table id ask e)
answers_commanded s new bindings index (Activate octets) is = grind (arith, answers_asked, asked_keeps, answers_decided, step_remaining, step_written)
answers_commanded s new bindings index (SetRemaining minutes) is = step_remaining s new minutes (step_written s new is)
answers_commanded s new bindings index (SetNumber object number) is = step_written s new is
answers_commanded s new bindings index (SetCode object octets) is = step_written s new is
answers_commanded s new bindings index (SetField id field) is = step_written s new is

answers_commanded_if : (s new : SignState) (bindings : List VarBind) (index : ℕ) (o : Option Write) → IsWritten s new → Answers s (commanded_if s new bindings index o)
answers_commanded_if s new bindings index None is = step_written s new is
answers_commanded_if s new bindings index (Some write) is = answers_commanded s new bindings index write is

answers_set : (s : SignState) (bindings : List VarBind) (found : List SetCause) → Answers s (set_unless s bindings found)
answers_set s bindings [] = grind (arith, answers_commanded_if, assigned_is, step_none)
answers_set s bindings (cause ∷ more) = step_none s

answers_found : (s : SignState) (bindings found : List VarBind) (o : Option ℕ) → Answers s (found_unless s bindings found o)
answers_found s bindings found o = grind arith

answers_kind : (s : SignState) (m : SnmpMessage) (kind : Kind) → Answers s (answer_by s m kind)
answers_kind s m Get = answers_found s m.bindings _ _
answers_kind s m GetNext = answers_found s m.bindings _ _
answers_kind s m Response = step_none s
answers_kind s m Set = answers_set s m.bindings (causes s (may_write s m) m.bindings)

answers_any : (s : SignState) (m : SnmpMessage) → Answers s (answer_of_any_size s m)
unfolding answer_of_any_size
answers_any s m = answers_kind s m m.kind

step_heard : (s : SignState) (m : SnmpMessage) (b : Bool) → IsSignStep s (cond b (heard s m) (dropped s)).after (cond b (heard s m) (dropped s)).accepted
step_heard s m true =
    step_on s (answer_of_any_size s m).after (heard s m).after (answer_of_any_size s m).accepted (answers_any s m)
    (record { config = refl; table = refl; settings = refl; shown_at_power_loss = refl }) (same_as (answer_of_any_size s m).after.shown)
step_heard s m false = step_none s

step_message : (s : SignState) (o : Option SnmpMessage) → IsSignStep s (on_message_if s o).after (on_message_if s o).accepted
step_message s None = step_none s
step_message s (Some m) = step_heard s m (is_heard s m)

pub step_received : (s : SignState) (datagram : List ℕ) → IsSignStep s (received s datagram).after (received s datagram).accepted
unfolding received
step_received s datagram = step_message s (message_of datagram)

-- ---- a second

step_settling : (s : SignState) → IsSignStep s (after_settling s) None
unfolding after_settling
step_settling s = record {
  config = refl;
  table = settled_step (under s.config.face s.settings.defaults) s.table;
  shown = stayed (same_as s.shown);
  shown_at_power_loss = inl refl;
}

step_down_if : (b : Bool) (s mid : SignState) (remaining : Option ℕ) → IsSignStep s mid None
    → IsSignStep s (cond b (put_up_code mid mid.settings.fallbacks.end_duration end_duration_mode) (showing mid (record mid.shown { remaining = remaining }))) None
step_down_if true s mid remaining step = step_code s mid mid.settings.fallbacks.end_duration end_duration_mode step (inr (inr (inr (inl refl))))
step_down_if false s mid remaining step = grind (arith, step_code, step_on)

step_down : (s mid : SignState) (o : Option ℕ) → IsSignStep s mid None → IsSignStep s (counted_down mid o) None
step_down s mid None step = step
step_down s mid (Some seconds) step = step_down_if (nat_le seconds 1) s mid _ step

step_duration : (s mid : SignState) → IsSignStep s mid None → IsSignStep s (after_duration mid) None
unfolding after_duration
step_duration s mid step = step_down s mid mid.shown.remaining step

step_quieter : (s mid : SignState) → IsSignStep s mid None → IsSignStep s (quieter mid) None
step_quieter s mid step = grind arith

step_silence_if : (counts ends : Bool) (s mid : SignState) → IsSignStep s mid None
    → IsSignStep s (cond counts (cond ends (put_up_code (quieter mid) mid.settings.fallbacks.communications_loss communications_loss_mode) (quieter mid)) mid) None
step_silence_if true true s mid step =
    step_code s (quieter mid) mid.settings.fallbacks.communications_loss communications_loss_mode (step_quieter s mid step) (inr (inr (inr (inr refl))))
step_silence_if true false s mid step = step_quieter s mid step
step_silence_if false ends s mid step = step

step_silence : (s mid : SignState) → IsSignStep s mid None → IsSignStep s (after_silence mid) None
unfolding after_silence
step_silence s mid step = step_silence_if (nat_lt mid.silent_seconds (longest_silence mid)) (mid.silent_seconds + 1 == longest_silence mid) s mid step

step_if : (b : Bool) (s x y : SignState) → IsSignStep s x None → IsSignStep s y None → IsSignStep s (cond b x y) None
step_if b s x y first second = grind arith

pub step_tick : (s : SignState) → IsSignStep s (after_tick s) None
unfolding after_tick
step_tick s =
    step_if s.powered s (after_silence (after_duration (after_settling s))) s
    (step_silence s (after_duration (after_settling s)) (step_duration s (after_settling s) (step_settling s))) (step_none s)

-- ---- power

step_keeping : (s : SignState) → IsSignStep s (record s { shown_at_power_loss = s.shown }) None
step_keeping s = grind arith

step_off : (s mid : SignState) → IsSignStep s mid None → IsSignStep s (record mid { powered = false }) None
step_off s mid step = grind arith

pub step_power_loss : (s : SignState) → IsSignStep s (after_power_loss s) None
unfolding after_power_loss
step_power_loss s =
    let mid : SignState = record s { shown_at_power_loss = s.shown } in
    step_if s.powered s (record (put_up_code mid s.settings.fallbacks.power_loss power_loss_mode) { powered = false }) s
    (step_off s (put_up_code mid s.settings.fallbacks.power_loss power_loss_mode)
    (step_code s mid s.settings.fallbacks.power_loss power_loss_mode (step_keeping s) (inr (inr (inl refl))))) (step_none s)

step_restored : (s : SignState) → IsSignStep s (restored s) None
step_restored s = record {
  config = refl;
  table = step_kept (under s.config.face s.settings.defaults) s.table (after_power s.table) (after_power_keeps s.table);
  shown = came_back (same_as s.shown_at_power_loss);
  shown_at_power_loss = inl refl;
}

recovery_is_own : (b : Bool) (s : SignState)
    → IsOwnCode s.table.order s.settings.fallbacks (id_of s.table.order (cond b s.settings.fallbacks.short_power_recovery s.settings.fallbacks.long_power_recovery))
recovery_is_own b s = grind arith

pub step_power_return : (s : SignState) (seconds : ℕ) → IsSignStep s (after_power_return s seconds) None
unfolding after_power_return
step_power_return s seconds =
    step_if s.powered s s (put_up_code (restored s) (recovery_code s seconds) power_recovery_mode) (step_none s)
    (step_code s (restored s) (recovery_code s seconds) power_recovery_mode (step_restored s)
    (recovery_is_own (nat_lt 0 s.settings.short_power_loss_time && nat_le seconds s.settings.short_power_loss_time) s))
