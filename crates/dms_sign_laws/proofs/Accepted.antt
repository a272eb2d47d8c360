-- An activation is accepted where a SET of it succeeds, and there alone.
use Rattle.std.proofs.Common.{◌≡◌, ◌↔◌, ℕ, suc, ◌&&◌, Bool, true, false, cond, List, [], ◌∷◌, length, Option, Some, None, Result, refl, sym, ap, subst, ◌∙◌, arith}
use Rattle.std.specs.Prelude.{nat_le, option_map, option_and_then, is_none, unwrap_or, find}
use Rattle.std.specs.List.{cons_option, list_any, AllByRecursion, Contains}
use Rattle.dms_wire.specs.declared.message.Kind.{Kind}
use Rattle.dms_wire.specs.declared.message.Kind.TheVariants.{Get, GetNext, Response, Set}
use Rattle.dms_wire.specs.declared.error_status.ErrorStatus.{ErrorStatus}
use Rattle.dms_wire.specs.declared.error_status.ErrorStatus.TheVariants.{NoError, GenErr}
use Rattle.dms_wire.specs.Message.{ObjectValue, octet_string, VarBind, SnmpMessage}
use Rattle.dms_face.specs.Face.{FaceModel}
use Rattle.dms_table.specs.declared.activation.Cause.{Cause}
use Rattle.dms_codes.specs.declared.codes.Activation.{Activation}
use Rattle.dms_mib.specs.Names.{activate_message}
use Rattle.dms_table.specs.Rows.{TableModel, asked}
use Rattle.dms_codes.specs.Codes.{activation_of}
use Rattle.dms_table.specs.Activation.{ShownModel}
use Rattle.dms_mib.specs.declared.scalar.Scalar.TheVariants.{ActivateMessage}
use Rattle.dms_mib.specs.declared.instance.Instance.{Instance}
use Rattle.dms_mib.specs.declared.instance.Instance.TheVariants as kinds
use Rattle.dms_mib.specs.Names.{name_of}
use Rattle.dms_mib_instances.specs.Objects.{instance_named}
use Rattle.dms_sign.specs.State.{SignState}
use Rattle.dms_sign_access.specs.Access.{Write, SetNumber, SetCode, SetField, AskRow, Activate, SetRemaining, is_command, is_settable, octets_in, object_write, cell_write, write_of}
use Rattle.dms_sign_access.specs.MetNames.{is_among}
use Rattle.dms_sign.specs.SetRequest.{SetCause, if_settable, settable_instance, write_at, is_command_at, is_refused_field, causes, assigned}
use Rattle.dms_sign.specs.Requests.{found_unless, as_decided, as_asked, commanded, commanded_if, writes_of, set_unless, set, may_write, answer_by, answer_of_any_size}
use Rattle.dms_sign.specs.Promises.{activates, AsksFor}
use Rattle.dms_mib_instances.proofs.InOrder.{named_is}
use Rattle.dms_sign.proofs.Replies.{IsCause, are_causes}

-- ---- what writes an activation

octets_if : (b : Bool) (given octets : List ℕ) → (b ≡ true → length given ≡ 12)
    → option_map Activate (cond b (Some given) None) ≡ Some (Activate octets) → (given ≡ octets) × (length octets ≡ 12)
octets_if b given octets size e = grind arith

is_twelve : (octets : List ℕ) → (nat_le 12 (length octets) && nat_le (length octets) 12) ≡ true → length octets ≡ 12
is_twelve octets h = grind arith

-- a value that is the twelve octets of an activation
pub record IsActivating (i : Instance) (value : ObjectValue) (octets : List ℕ) : Type 0 where
  pub object : i ≡ kinds.Scalar ActivateMessage
  pub value_is : value ≡ octet_string octets
  pub size : length octets ≡ 12

twelve : (value : ObjectValue) (octets : List ℕ) → option_map Activate (octets_in 12 12 value) ≡ Some (Activate octets)
    → (value ≡ octet_string octets) × (length octets ≡ 12)
twelve value octets e = grind arith

activating : (face : FaceModel) (i : Instance) (value : ObjectValue) (octets : List ℕ) → write_of face i value ≡ Some (Activate octets)
    → IsActivating i value octets
unfolding write_of object_write cell_write
activating face i value octets e = grind arith

-- the instance of a name that can be set
settable_if : (b : Bool) (j i : Instance) → cond b (Some j) None ≡ Some i → j ≡ i
settable_if true j i e = cc
settable_if false j i e = absurd (cc)

settable_by : (o : Option Instance) (i : Instance) → option_and_then if_settable o ≡ Some i → o ≡ Some i
settable_by None i e = absurd (cc)
settable_by (Some j) i e = ap Some (settable_if (is_settable j) j i e)

settable_named : (s : SignState) (name : List ℕ) (i : Instance) → settable_instance s name ≡ Some i → name_of i ≡ name
unfolding settable_instance
settable_named s name i e = (named_is s.table name i (settable_by (instance_named s.table name) i e)).0

-- a binding that writes something names an instance that takes it
record WritesAt (s : SignState) (binding : VarBind) (write : Write) : Type 0 where
  instance : Instance
  named : name_of instance ≡ binding.name
  writes : write_of s.config.face instance binding.value ≡ Some write

writes_by : (s : SignState) (binding : VarBind) (write : Write) (o : Option Instance) → settable_instance s binding.name ≡ o
    → option_and_then (λ i. write_of s.config.face i binding.value) o ≡ Some write → WritesAt s binding write
writes_by s binding write o is e = grind (arith, settable_named)

writes_at : (s : SignState) (binding : VarBind) (write : Write) → write_at s binding ≡ Some write → WritesAt s binding write
unfolding write_at
writes_at s binding write e = writes_by s binding write (settable_instance s binding.name) refl e

activate_name : name_of (kinds.Scalar ActivateMessage) ≡ activate_message
unfolding name_of
activate_name = refl

same_binding : (binding : VarBind) (octets : List ℕ) → binding.name ≡ activate_message → binding.value ≡ octet_string octets
    → binding ≡ activates octets
same_binding binding octets name value = grind arith

-- a binding that writes an activation sets dmsActivateMessage to it
activates_at : (s : SignState) (binding : VarBind) (octets : List ℕ) → write_at s binding ≡ Some (Activate octets)
    → (binding ≡ activates octets) × (length octets ≡ 12)
activates_at s binding octets e =
    let by = writes_at s binding (Activate octets) e in
    let is = activating s.config.face by.instance binding.value octets by.writes in
    (same_binding binding octets (sym by.named ∙ ap name_of is.object ∙ activate_name) is.value_is, is.size)

-- ---- what is accepted was asked for

record IsAccepting (s : SignState) (activation : Activation) (write : Write) : Type 0 where
  octets : List ℕ
  write_is : write ≡ Activate octets
  is : activation ≡ activation_of s.table.order octets

decided_accepts : (old new : SignState) (bindings : List VarBind) (index : ℕ) (octets : List ℕ) (r : Result ShownModel Cause) (a : Activation)
    → (as_decided old new bindings index octets r).accepted ≡ Some a
    → ((as_decided old new bindings index octets r).status ≡ NoError) × IsAccepting old a (Activate octets)
decided_accepts old new bindings index octets r a e = grind arith

pub asked_accepts : (old new : SignState) (bindings : List VarBind) (index : ℕ) (o : Option TableModel) (a : Activation)
    → (as_asked old new bindings index o).accepted ≡ Some a → ⊥
asked_accepts old new bindings index None a e = cc
asked_accepts old new bindings index (Some table) a e = cc

commanded_accepts : (old new : SignState) (bindings : List VarBind) (index : ℕ) (write : Write) (a : Activation)
    → (commanded old new bindings index write).accepted ≡ Some a → ((commanded old new bindings index write).status ≡ NoError) × IsAccepting old a write
commanded_accepts old new bindings index (AskRow id ask) a e = absurd (asked_accepts old new bindings index (asked new.table id ask) a e)
commanded_accepts old new bindings index (Activate octets) a e = grind (arith, asked_accepts, decided_accepts)
commanded_accepts old new bindings index (SetRemaining minutes) a e = absurd (cc)
commanded_accepts old new bindings index (SetNumber object number) a e = absurd (cc)
commanded_accepts old new bindings index (SetCode object octets) a e = absurd (cc)
commanded_accepts old new bindings index (SetField id field) a e = absurd (cc)

-- the command of a SET that was accepted
record AcceptedBy (s : SignState) (activation : Activation) (o : Option Write) : Type 0 where
  write : Write
  command : o ≡ Some write
  accepting : IsAccepting s activation write

if_accepts : (old new : SignState) (bindings : List VarBind) (index : ℕ) (o : Option Write) (a : Activation)
    → (commanded_if old new bindings index o).accepted ≡ Some a → ((commanded_if old new bindings index o).status ≡ NoError) × AcceptedBy old a o
if_accepts old new bindings index None a e = absurd (cc)
if_accepts old new bindings index (Some write) a e =
    let done = commanded_accepts old new bindings index write a e in (done.0, record { write = write; command = refl; accepting = done.1 })

set_accepts : (s : SignState) (bindings : List VarBind) (found : List SetCause) (a : Activation)
    → (set_unless s bindings found).accepted ≡ Some a
    → ((set_unless s bindings found).status ≡ NoError) × AcceptedBy s a (find is_command (writes_of s bindings))
set_accepts s bindings [] a e = if_accepts s (assigned s (writes_of s bindings)) bindings _ (find is_command (writes_of s bindings)) a e
set_accepts s bindings (cause ∷ more) a e = absurd (cc)

-- the binding that a write comes from
record ComesFrom (s : SignState) (bindings : List VarBind) (write : Write) : Type 0 where
  binding : VarBind
  there : Contains bindings binding
  writes : write_at s binding ≡ Some write

comes_later : (s : SignState) (first : VarBind) (bindings : List VarBind) (write : Write) → ComesFrom s bindings write
    → ComesFrom s (first ∷ bindings) write
comes_later s first bindings write c = record { binding = c.binding; there = (suc c.there.0, omega (arith, c.there.1), c.there.2); writes = c.writes }

comes_if : (s : SignState) (first : VarBind) (bindings : List VarBind) (write other : Write) (b : Bool) (o : Option Write)
    → write_at s first ≡ Some other
    → (o ≡ Some write → ComesFrom s bindings write) → cond b (Some other) o ≡ Some write → ComesFrom s (first ∷ bindings) write
comes_if s first bindings write other b o is later e = grind (arith, comes_later)

comes_by : (s : SignState) (first : VarBind) (bindings : List VarBind) (write : Write) (o : Option Write) → write_at s first ≡ o
    → (find is_command (writes_of s bindings) ≡ Some write → ComesFrom s bindings write)
    → find is_command (cons_option o (writes_of s bindings)) ≡ Some write → ComesFrom s (first ∷ bindings) write
comes_by s first bindings write o is later e = grind (arith, comes_later, comes_if)

comes_from : (s : SignState) (bindings : List VarBind) (write : Write) → find is_command (writes_of s bindings) ≡ Some write
    → ComesFrom s bindings write
comes_from s [] write e = absurd (cc)
comes_from s (first ∷ bindings) write e = comes_by s first bindings write (write_at s first) refl (comes_from s bindings write) e

asks_for : (s : SignState) (m : SnmpMessage) (a : Activation) → AcceptedBy s a (find is_command (writes_of s m.bindings)) → AsksFor s m a
asks_for s m a by =
    let from = comes_from s m.bindings by.write by.command in
    let octets = by.accepting.octets in
    let set = activates_at s from.binding octets (from.writes ∙ ap Some by.accepting.write_is) in
    record { octets = octets; size = set.1; binding = subst (Contains m.bindings) set.0 from.there; is = by.accepting.is }

pub found_accepts : (s : SignState) (bindings found : List VarBind) (o : Option ℕ) (a : Activation)
    → (found_unless s bindings found o).accepted ≡ Some a → ⊥
found_accepts s bindings found None a e = cc
found_accepts s bindings found (Some index) a e = cc

answer_accepts : (s : SignState) (m : SnmpMessage) (kind : Kind) (a : Activation) → (answer_by s m kind).accepted ≡ Some a
    → ((answer_by s m kind).status ≡ NoError) × AsksFor s m a
answer_accepts s m Get a e = absurd (found_accepts s m.bindings _ _ a e)
answer_accepts s m GetNext a e = absurd (found_accepts s m.bindings _ _ a e)
answer_accepts s m Response a e = absurd (cc)
answer_accepts s m Set a e = let done = set_accepts s m.bindings (causes s (may_write s m) m.bindings) a e in (done.0, asks_for s m a done.1)

pub accepted_was_asked_for : (s : SignState) (m : SnmpMessage) (a : Activation) → (answer_of_any_size s m).accepted ≡ Some a
    → ((answer_of_any_size s m).status ≡ NoError) × AsksFor s m a
unfolding answer_of_any_size
accepted_was_asked_for s m a e = answer_accepts s m m.kind a e

-- ---- a SET of one activation that succeeds

only_activate : (i : Instance) → name_of i ≡ activate_message → i ≡ kinds.Scalar ActivateMessage
unfolding name_of
only_activate i e = grind arith

writes_twelve : (b : Bool) (octets : List ℕ) (write : Write) → option_map Activate (cond b (Some octets) None) ≡ Some write → write ≡ Activate octets
writes_twelve b octets write e = grind arith

activate_writes : (face : FaceModel) (octets : List ℕ) (write : Write)
    → write_of face (kinds.Scalar ActivateMessage) (octet_string octets) ≡ Some write → write ≡ Activate octets
unfolding write_of object_write
activate_writes face octets write e = writes_twelve (nat_le 12 (length octets) && nat_le (length octets) 12) octets write e

pub what_is_written : (s : SignState) (octets : List ℕ) (o : Option Write) → write_at s (activates octets) ≡ o → is_none o ≡ false
    → o ≡ Some (Activate octets)
what_is_written s octets None is some = absurd (cc)
what_is_written s octets (Some write) is some =
    let at = writes_at s (activates octets) write is in
    let object : at.instance ≡ kinds.Scalar ActivateMessage = only_activate at.instance at.named in
    ap Some (activate_writes s.config.face octets write (rw object at at.writes))

-- the tests after the first two, of a binding that stands first
abbrev later_tests : SignState → VarBind → List (Bool × ErrorStatus)
later_tests s binding =
    (is_among binding.name [], GenErr) ∷ (is_command_at s binding && list_any (is_command_at s) [], GenErr)
    ∷ (unwrap_or (option_map (is_refused_field s.table) (write_at s binding)) false, GenErr) ∷ []

writes_without_cause : (s : SignState) (writing : Bool) (binding : VarBind) → causes s writing (binding ∷ []) ≡ []
    → is_none (write_at s binding) ≡ false
unfolding causes
writes_without_cause s writing binding e = grind arith

decided_succeeds : (old new : SignState) (bindings : List VarBind) (index : ℕ) (octets : List ℕ) (r : Result ShownModel Cause)
    → (as_decided old new bindings index octets r).status ≡ NoError
    → (as_decided old new bindings index octets r).accepted ≡ Some (activation_of old.table.order octets)
decided_succeeds old new bindings index octets r e = grind arith

pub if_succeeds : (old new : SignState) (bindings : List VarBind) (index : ℕ) (octets : List ℕ) (o : Option Write) → o ≡ Some (Activate octets)
    → (commanded_if old new bindings index o).status ≡ NoError
    → (commanded_if old new bindings index o).accepted ≡ Some (activation_of old.table.order octets)
if_succeeds old new bindings index octets o is = grind (arith, decided_succeeds)

one_succeeds : (s : SignState) (writing : Bool) (octets : List ℕ) (found : List SetCause)
    → causes s writing (activates octets ∷ []) ≡ found → AllByRecursion (IsCause 1) found
    → (set_unless s (activates octets ∷ []) found).status ≡ NoError
    → (set_unless s (activates octets ∷ []) found).accepted ≡ Some (activation_of s.table.order octets)
one_succeeds s writing octets (cause ∷ more) are each e = absurd (each.0.fails e)
one_succeeds s writing octets [] are each e =
    let written : write_at s (activates octets) ≡ Some (Activate octets) =
    what_is_written s octets (write_at s (activates octets)) refl (writes_without_cause s writing (activates octets) are) in
    if_succeeds s (assigned s (writes_of s (activates octets ∷ []))) (activates octets ∷ []) _ octets (find is_command (writes_of s (activates octets ∷ [])))
    (ap (λ o. find is_command (cons_option o [])) written) e

set_succeeds : (s : SignState) (writing : Bool) (octets : List ℕ) (bindings : List VarBind) → bindings ≡ activates octets ∷ []
    → (set s writing bindings).status ≡ NoError → (set s writing bindings).accepted ≡ Some (activation_of s.table.order octets)
set_succeeds s writing octets bindings is = grind (arith, one_succeeds, are_causes)

answer_succeeds : (s : SignState) (m : SnmpMessage) (octets : List ℕ) (kind : Kind) → kind ≡ Set → m.bindings ≡ activates octets ∷ []
    → (answer_by s m kind).status ≡ NoError → (answer_by s m kind).accepted ≡ Some (activation_of s.table.order octets)
answer_succeeds s m octets kind is one e = grind (arith, set_succeeds)

success_is_accepted : (s : SignState) (m : SnmpMessage) (octets : List ℕ) → m.kind ≡ Set → m.bindings ≡ activates octets ∷ []
    → (answer_of_any_size s m).status ≡ NoError → (answer_of_any_size s m).accepted ≡ Some (activation_of s.table.order octets)
unfolding answer_of_any_size
success_is_accepted s m octets is one e = answer_succeeds s m octets m.kind is one e

pub accepted_where_no_error : (s : SignState) (m : SnmpMessage) (octets : List ℕ) → m.kind ≡ Set → m.bindings ≡ activates octets ∷ []
    → ((answer_of_any_size s m).status ≡ NoError) ↔ ((answer_of_any_size s m).accepted ≡ Some (activation_of s.table.order octets))
accepted_where_no_error s m octets is one =
    (success_is_accepted s m octets is one, λ e. (accepted_was_asked_for s m (activation_of s.table.order octets) e).0)
