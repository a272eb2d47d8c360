-- A binding of a SET by itself: the first thing that is wrong with it is so after others too, and where nothing is, what
-- was given before is looked at; and a SET of one binding.
use Rattle.std.proofs.Common.{◌≡◌, ℕ, ◌+◌, ◌&&◌, ◌||◌, Bool, true, false, not, cond, List, [], ◌∷◌, length, find, Option, Some, None, refl, sym, ap, ◌∙◌, arith}
use Rattle.std.specs.Prelude.{filter_map, slice_get, unwrap_or, option_map, is_none}
use Rattle.std.specs.List.{list_any, cons_option}
use Rattle.std.proofs.lemmas.List.{append-nil}
use Rattle.dms_wire.specs.Message.{VarBind}
use Rattle.dms_wire.specs.Limits.{AreBindingsInLimits}
use Rattle.dms_wire.specs.declared.error_status.ErrorStatus.{ErrorStatus}
use Rattle.dms_wire.specs.declared.error_status.ErrorStatus.TheVariants.{NoSuchName, BadValue, GenErr}
use Rattle.dms_sign_access.specs.declared.settings.SignSettings.{SignSettings}
use Rattle.dms_sign_access.specs.Access.{Write, SetNumber, SetCode, SetField, AskRow, Activate, SetRemaining, is_command}
use Rattle.dms_sign_access.specs.MetNames.{is_among}
use Rattle.dms_sign_access.specs.Settings.{set_by}
use Rattle.dms_sign.specs.State.{SignState}
use Rattle.dms_sign.specs.SetRequest.{SetCause, write_at, is_command_at, is_refused_field, settable_instance, cause_if, causes_at, causes_after, causes, assigned}
use Rattle.dms_sign.specs.SetView.{IsCommandInRange}
use Rattle.dms_sign.specs.Requests.{granted, writes_of, commanded, command_index, set}
use Rattle.dms_sign.proofs.Causes.{set_empty}
use Rattle.dms_sign.proofs.Assigned.{command_in_range, set_commanded, set_refused}

-- ---- after others

-- the causes by what each test says
abbrev causes_by : ℕ → (there written among second field : Bool) → List SetCause
causes_by index there written among second field =
    filter_map (cause_if index) ((there, NoSuchName) ∷ (written, BadValue) ∷ (among, GenErr) ∷ (second, GenErr) ∷ (field, GenErr) ∷ [])

-- the first of them
abbrev IsFirst : ℕ → ErrorStatus → List SetCause → Type 0
IsFirst index status found = slice_get found 0 ≡ Some (record { index = index; status = status })

none_by : (a b c d e is : Bool) (index : ℕ) → causes_by 1 a b false (is && false) e ≡ [] → c ≡ false → d ≡ false → causes_by index a b c d e ≡ []
none_by a b c d e is index none among second = grind arith

given_by : (a b d e is : Bool) (index : ℕ) → causes_by 1 a b false (is && false) e ≡ [] → IsFirst index GenErr (causes_by index a b true d e)
given_by a b d e is index none = grind arith

second_by : (a b c e is : Bool) (index : ℕ) → causes_by 1 a b false (is && false) e ≡ [] → IsFirst index GenErr (causes_by index a b c true e)
second_by a b c e is index none = grind arith

first_by : (a b c d e is : Bool) (index : ℕ) (status : ErrorStatus) → IsFirst 1 status (causes_by 1 a b false (is && false) e)
    → IsFirst index status (causes_by index a b c d e)
first_by a b c d e is index status first = grind arith

abbrev not_there : SignState → Bool → VarBind → Bool
not_there s may b = not may || is_none (settable_instance s b.name)

abbrev refused_field : SignState → VarBind → Bool
refused_field s b = unwrap_or (option_map (is_refused_field s.table) (write_at s b)) false

commands : (s : SignState) (b : VarBind) (w : Write) → write_at s b ≡ Some w → is_command_at s b ≡ is_command w
commands s b w writes = ap (λ (o : Option Write). unwrap_or (option_map is_command o) false) writes

pub none_after : (s : SignState) (may : Bool) (before : List VarBind) (b : VarBind) (w : Write) → causes_at s may [] b ≡ [] → write_at s b ≡ Some w
    → is_among b.name before ≡ false → (is_command w && list_any (is_command_at s) before) ≡ false → causes_at s may before b ≡ []
none_after s may before b w none writes among second =
    none_by (not_there s may b) (is_none (write_at s b)) (is_among b.name before) (is_command_at s b && list_any (is_command_at s) before)
    (refused_field s b) (is_command_at s b) (length before + 1) none among (ap (λ c. c && list_any (is_command_at s) before) (commands s b w writes) ∙ second)

pub given_after : (s : SignState) (may : Bool) (before : List VarBind) (b : VarBind) → causes_at s may [] b ≡ [] → is_among b.name before ≡ true
    → IsFirst (length before + 1) GenErr (causes_at s may before b)
given_after s may before b none among =
    ap (λ c. slice_get (causes_by (length before + 1) (not_there s may b) (is_none (write_at s b)) c (is_command_at s b && list_any (is_command_at s) before) (refused_field s b)) 0) among
    ∙ given_by (not_there s may b) (is_none (write_at s b)) (is_command_at s b && list_any (is_command_at s) before) (refused_field s b) (is_command_at s b)
    (length before + 1) none

pub second_after : (s : SignState) (may : Bool) (before : List VarBind) (b : VarBind) (w : Write) → causes_at s may [] b ≡ [] → write_at s b ≡ Some w
    → (is_command w && list_any (is_command_at s) before) ≡ true → IsFirst (length before + 1) GenErr (causes_at s may before b)
second_after s may before b w none writes second =
    ap (λ d. slice_get (causes_by (length before + 1) (not_there s may b) (is_none (write_at s b)) (is_among b.name before) d (refused_field s b)) 0)
    (ap (λ c. c && list_any (is_command_at s) before) (commands s b w writes) ∙ second)
    ∙ second_by (not_there s may b) (is_none (write_at s b)) (is_among b.name before) (refused_field s b) (is_command_at s b) (length before + 1) none

pub first_after : (s : SignState) (may : Bool) (before : List VarBind) (b : VarBind) (status : ErrorStatus) → IsFirst 1 status (causes_at s may [] b)
    → IsFirst (length before + 1) status (causes_at s may before b)
first_after s may before b status first =
    first_by (not_there s may b) (is_none (write_at s b)) (is_among b.name before) (is_command_at s b && list_any (is_command_at s) before)
    (refused_field s b) (is_command_at s b) (length before + 1) status first

pub ruleset alone = (none_after, given_after, second_after, first_after)

-- ---- one binding

one_causes : (s : SignState) (may : Bool) (bs : List VarBind) (b : VarBind) → bs ≡ b ∷ [] → causes s may bs ≡ causes_at s may [] b
unfolding causes
one_causes s may bs b e = ap (causes_after s may []) e ∙ append-nil (causes_at s may [] b)

one_writes : (s : SignState) (bs : List VarBind) (b : VarBind) (w : Write) → bs ≡ b ∷ [] → write_at s b ≡ Some w → writes_of s bs ≡ w ∷ []
one_writes s bs b w e writes = ap (writes_of s) e ∙ ap (λ o. cons_option o []) writes

one_found : (s : SignState) (bs : List VarBind) (b : VarBind) (w : Write) (is : Bool) → bs ≡ b ∷ [] → write_at s b ≡ Some w → is_command w ≡ is
    → cond is (Some w) None ≡ find is_command (writes_of s bs)
one_found s bs b w is e writes command =
    sym (ap (find is_command) (one_writes s bs b w e writes) ∙ ap (λ c. cond c (Some w) None) command)

command_leaves : (settings : SignSettings) (w : Write) → is_command w ≡ true → settings ≡ set_by settings (w ∷ [])
unfolding set_by
command_leaves settings (AskRow id ask) e = set_empty settings
command_leaves settings (Activate octets) e = set_empty settings
command_leaves settings (SetRemaining minutes) e = set_empty settings
command_leaves settings (SetNumber object number) e = absurd (cc)
command_leaves settings (SetCode object octets) e = absurd (cc)
command_leaves settings (SetField id field) e = absurd (cc)

-- a command assigns nothing
command_assigns : (s : SignState) (w : Write) → is_command w ≡ true → s ≡ assigned s (w ∷ [])
unfolding assigned
command_assigns s (AskRow id ask) e = ap (λ (x : SignSettings). record s { settings = x }) (command_leaves s.settings (AskRow id ask) e)
command_assigns s (Activate octets) e = ap (λ (x : SignSettings). record s { settings = x }) (command_leaves s.settings (Activate octets) e)
command_assigns s (SetRemaining minutes) e = ap (λ (x : SignSettings). record s { settings = x }) (command_leaves s.settings (SetRemaining minutes) e)
command_assigns s (SetNumber object number) e = absurd (cc)
command_assigns s (SetCode object octets) e = absurd (cc)
command_assigns s (SetField id field) e = absurd (cc)

pub one_in_range : (s : SignState) (bs : List VarBind) (b : VarBind) (w : Write) → AreBindingsInLimits bs → bs ≡ b ∷ [] → write_at s b ≡ Some w
    → is_command w ≡ true → IsCommandInRange w
one_in_range s bs b w within e writes command = command_in_range s bs (Some w) within (one_found s bs b w true e writes command)

pub one_commanded : (s : SignState) (may : Bool) (bs : List VarBind) (b : VarBind) (w : Write) → bs ≡ b ∷ [] → causes_at s may [] b ≡ []
    → write_at s b ≡ Some w → is_command w ≡ true → commanded s s bs 1 w ≡ set s may bs
one_commanded s may bs b w e none writes command =
    ap (λ (new : SignState). commanded s new bs 1 w) (command_assigns s w command ∙ ap (assigned s) (sym (one_writes s bs b w e writes)))
    ∙ set_commanded s may bs 1 (Some w) (one_causes s may bs b e ∙ none) (one_found s bs b w true e writes command)
    (sym (ap (command_index s) e ∙ ap (λ c. unwrap_or (cond c (Some 1) None) 0) (commands s b w writes ∙ command)))

pub one_assigned : (s : SignState) (may : Bool) (bs : List VarBind) (b : VarBind) (w : Write) → bs ≡ b ∷ [] → causes_at s may [] b ≡ []
    → write_at s b ≡ Some w → is_command w ≡ false → granted (assigned s (writes_of s bs)) bs ≡ set s may bs
one_assigned s may bs b w e none writes command =
    set_commanded s may bs (command_index s bs) None (one_causes s may bs b e ∙ none) (one_found s bs b w false e writes command) refl

pub one_refused : (s : SignState) (may : Bool) (bs : List VarBind) (b : VarBind) (status : ErrorStatus) → bs ≡ b ∷ []
    → IsFirst 1 status (causes_at s may [] b)
    → set s may bs ≡ record { status = status; index = 1; bindings = bs; after = s; accepted = None }
one_refused s may bs b status e first =
    set_refused s may bs (record { index = 1; status = status }) (ap (λ cs. slice_get cs 0) (one_causes s may bs b e) ∙ first)
