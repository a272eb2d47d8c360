-- An activation among the bindings of a SET that succeeds was accepted.
use Rattle.std.proofs.Common.{◌≡◌, ℕ, zero, suc, ◌&&◌, ◌||◌, Bool, true, false, List, [], ◌∷◌, ◌++◌, length, Option, Some, refl, sym, ap, subst, ◌∙◌, arith}
use Rattle.std.specs.Prelude.{option_map, is_none, unwrap_or, filter_map, find}
use Rattle.std.specs.List.{cons_option, list_any, AllByRecursion, Contains}
use Rattle.std.proofs.lemmas.Bool.{false_from_ne_true, or_left, or_right}
use Rattle.dms_wire.specs.declared.message.Kind.{Kind}
use Rattle.dms_wire.specs.declared.message.Kind.TheVariants.{Set}
use Rattle.dms_wire.specs.declared.error_status.ErrorStatus.{ErrorStatus}
use Rattle.dms_wire.specs.declared.error_status.ErrorStatus.TheVariants.{NoError}
use Rattle.dms_wire.specs.Message.{VarBind, SnmpMessage}
use Rattle.dms_codes.specs.Codes.{activation_of}
use Rattle.dms_sign_access.specs.Access.{Write, Activate, is_command}
use Rattle.dms_sign.specs.State.{SignState}
use Rattle.dms_sign.specs.SetRequest.{SetCause, write_at, is_command_at, cause_if, causes_after, causes, assigned}
use Rattle.dms_sign.specs.Requests.{writes_of, set_unless, answer_by, answer_of_any_size}
use Rattle.dms_sign.specs.Promises.{activates}
use Rattle.dms_sign.proofs.Replies.{IsCause, are_causes}
use Rattle.dms_sign_laws.proofs.Accepted.{what_is_written, if_succeeds}

-- ---- tests

not_both : (a b : Bool) → (a && b) ≡ false → b ≡ true → a ≡ false
not_both a b e passed = grind arith

or_later : (a b c : Bool) → (a || b) ≡ true → (b ≡ true → c ≡ true) → (a || c) ≡ true
or_later a b c e more = grind arith

still_any : (p : VarBind → Bool) (xs : List VarBind) (x : VarBind) → list_any p xs ≡ true → list_any p (xs ++ x ∷ []) ≡ true
still_any p [] x e = absurd (cc)
still_any p (y ∷ xs) x e = or_later (p y) (list_any p xs) (list_any p (xs ++ x ∷ [])) e (λ h. still_any p xs x h)

last_any : (p : VarBind → Bool) (xs : List VarBind) (x : VarBind) → p x ≡ true → list_any p (xs ++ x ∷ []) ≡ true
last_any p [] x e = or_left (p x) false e
last_any p (y ∷ xs) x e = or_right (p y) (list_any p (xs ++ x ∷ [])) (last_any p xs x e)

-- the tests of a binding, none of which fails
all_pass : (a b c d e : Bool) (k l m n o : ErrorStatus) (index : ℕ) (more : List SetCause)
    → filter_map (cause_if index) ((a, k) ∷ (b, l) ∷ (c, m) ∷ (d, n) ∷ (e, o) ∷ []) ++ more ≡ [] → (b ≡ false) × (d ≡ false) × (more ≡ [])
all_pass a b c d e k l m n o index more p = grind arith

-- ---- a SET without a cause

-- its first binding writes something, is no second command, and none after it is a cause
record Passes (s : SignState) (may : Bool) (before : List VarBind) (first : VarBind) (more : List VarBind) : Type 0 where
  writes : is_none (write_at s first) ≡ false
  no_second : (is_command_at s first && list_any (is_command_at s) before) ≡ false
  later : causes_after s may (before ++ first ∷ []) more ≡ []

passes : (s : SignState) (may : Bool) (before : List VarBind) (first : VarBind) (more : List VarBind) → causes_after s may before (first ∷ more) ≡ []
    → Passes s may before first more
passes s may before first more p = grind arith

all_write : (s : SignState) (may : Bool) (before bindings : List VarBind) (binding : VarBind) → causes_after s may before bindings ≡ []
    → Contains bindings binding → is_none (write_at s binding) ≡ false
all_write s may before [] binding none there = absurd (omega (arith, there.1))
all_write s may before (first ∷ more) binding none (zero, within, same) = grind (arith, passes)
all_write s may before (first ∷ more) binding none (suc place, within, same) = grind (arith, passes, all_write s may (before ++ first ∷ []) more binding (passes s may before first more none).later (place, omega (arith, within), same))

-- none is a command after one
none_after : (s : SignState) (may : Bool) (before bindings : List VarBind) (binding : VarBind) → causes_after s may before bindings ≡ []
    → list_any (is_command_at s) before ≡ true → Contains bindings binding → is_command_at s binding ≡ false
none_after s may before [] binding none any there = absurd (omega (arith, there.1))
none_after s may before (first ∷ more) binding none any (zero, within, same) = grind (arith, not_both, passes, still_any)
none_after s may before (first ∷ more) binding none any (suc place, within, same) = grind (arith, not_both, passes, still_any, none_after s may (before ++ first ∷ []) more binding (passes s may before first more none).later)

-- ---- the command of a SET

writes_it : (s : SignState) (octets : List ℕ) → is_none (write_at s (activates octets)) ≡ false → write_at s (activates octets) ≡ Some (Activate octets)
writes_it s octets some = what_is_written s octets (write_at s (activates octets)) refl some

skip : (o : Option Write) (rest : List Write) (goal : Option Write) → unwrap_or (option_map is_command o) false ≡ false
    → find is_command rest ≡ goal → find is_command (cons_option o rest) ≡ goal
skip o rest goal fails e = grind arith

found : (s : SignState) (may : Bool) (before bindings : List VarBind) (octets : List ℕ) → causes_after s may before bindings ≡ []
    → Contains bindings (activates octets) → find is_command (writes_of s bindings) ≡ Some (Activate octets)
found s may before [] octets none there = absurd (omega (arith, there.1))
found s may before (first ∷ more) octets none (zero, within, same) =
    let writes : is_none (write_at s (activates octets)) ≡ false =
    subst (λ b. is_none (write_at s b) ≡ false) same (passes s may before first more none).writes in
    ap (λ o. find is_command (cons_option o (writes_of s more))) (ap (write_at s) same ∙ writes_it s octets writes)
found s may before (first ∷ more) octets none (suc place, within, same) =
    let later = (passes s may before first more none).later in
    let there : Contains more (activates octets) = (place, omega (arith, within), same) in
    let writes = writes_it s octets (all_write s may (before ++ first ∷ []) more (activates octets) later there) in
    let commands : is_command_at s (activates octets) ≡ true = ap (λ o. unwrap_or (option_map is_command o) false) writes in
    let fails : is_command_at s first ≡ false =
    false_from_ne_true (is_command_at s first) (λ passed.
    let other : is_command_at s (activates octets) ≡ false =
    none_after s may (before ++ first ∷ []) more (activates octets) later (last_any (is_command_at s) before first passed) there in
    let wrong : true ≡ false = sym commands ∙ other in
    absurd (cc)) in
    skip (write_at s first) (writes_of s more) (Some (Activate octets)) fails (found s may (before ++ first ∷ []) more octets later there)

-- ---- the law

set_among : (s : SignState) (may : Bool) (bindings : List VarBind) (octets : List ℕ) (found_causes : List SetCause) → causes s may bindings ≡ found_causes
    → AllByRecursion (IsCause (length bindings)) found_causes → Contains bindings (activates octets)
    → (set_unless s bindings found_causes).status ≡ NoError → (set_unless s bindings found_causes).accepted ≡ Some (activation_of s.table.order octets)
unfolding causes
set_among s may bindings octets (cause ∷ more) are each there e = absurd (each.0.fails e)
set_among s may bindings octets [] are each there e =
    if_succeeds s (assigned s (writes_of s bindings)) bindings _ octets (find is_command (writes_of s bindings)) (found s may [] bindings octets are there) e

answer_among : (s : SignState) (m : SnmpMessage) (octets : List ℕ) (kind : Kind) → kind ≡ Set → Contains m.bindings (activates octets)
    → (answer_by s m kind).status ≡ NoError → (answer_by s m kind).accepted ≡ Some (activation_of s.table.order octets)
answer_among s m octets kind is there e = grind (arith, set_among, are_causes)

pub accepted_among : (s : SignState) (m : SnmpMessage) (octets : List ℕ) → m.kind ≡ Set → Contains m.bindings (activates octets)
    → (answer_of_any_size s m).status ≡ NoError → (answer_of_any_size s m).accepted ≡ Some (activation_of s.table.order octets)
unfolding answer_of_any_size
accepted_among s m octets is there e = answer_among s m octets m.kind is there e
