-- What a SET that commands an activation answers, on the state that the fields are (`s`) and on the one that the contract
-- speaks of (`now`).
use Rattle.std.proofs.Common.{◌≡◌, ℕ, List, Result, Ok, Err, sym, subst, ap, ◌∙◌}
use Rattle.dms_wire.specs.Message.{VarBind}
use Rattle.dms_wire.specs.Limits.{AreBindingsInLimits}
use Rattle.dms_codes.specs.declared.codes.Activation.{Activation}
use Rattle.dms_codes.specs.Codes.{activation_of}
use Rattle.dms_table.specs.declared.activation.Cause.{Cause}
use Rattle.dms_table.specs.Activation.{ShownModel, shown_by, refusal, unless_refused, decided}
use Rattle.dms_table.proofs.Decisions.{accepted_decision, refused_decision}
use Rattle.dms_sign_access.specs.declared.settings.SignSettings.{SignSettings}
use Rattle.dms_sign_access.specs.Access.{Activate}
use Rattle.dms_sign_access.specs.Reports.{IsCauseInRange}
use Rattle.dms_sign.specs.State.{SignState}
use Rattle.dms_sign.specs.SetRequest.{assigned}
use Rattle.dms_sign.specs.Requests.{writes_of, commanded, as_decided}
use Rattle.dms_sign.specs.InRange.{AreOctets, IsShownInRange, IsSignInRange}
use Rattle.dms_sign.specs.SetView.{AreLeft}
use Rattle.dms_sign.proofs.InRangeShown.{activation_is, IsDecisionInRange, decided_in_range}
use Rattle.dms_sign.proofs.Assigned.{accepted_new, accepted_shown, refused_cause, activation_answer}

-- what is shown once the values are assigned and the code is accepted
abbrev pub shown_after : SignState → List VarBind → Activation → ShownModel
shown_after s bindings code =
    let new = assigned s (writes_of s bindings) in
    shown_by new.settings.defaults new.table new.shown code

-- the answer is that to this decision
abbrev pub IsDecided : SignState → List VarBind → ℕ → List ℕ → Result ShownModel Cause → Type 0
IsDecided s bindings index octets decision =
    commanded s (assigned s (writes_of s bindings)) bindings index (Activate octets)
    ≡ as_decided s (assigned s (writes_of s bindings)) bindings index octets decision

-- ---- a code that is accepted

pub accepted_in_range : {A : Type 0} (a : A) (s now : SignState) (bindings : List VarBind) (settings : SignSettings) (octets : List ℕ) (code : Activation)
    → s ≡ now → AreLeft settings bindings now → code ≡ activation_of s.table.order octets
    → Ok a ≡ unless_refused a (refusal s.config.face settings.defaults s.table s.shown code)
    → IsSignInRange s → AreBindingsInLimits bindings → AreOctets 12 octets → IsShownInRange (shown_after now bindings code)
accepted_in_range a s now bindings settings octets code view are is ok range within twelve =
    let left = subst (AreLeft settings bindings) (sym view) are in
    subst (λ (s : SignState). IsShownInRange (shown_after s bindings code)) view
    (accepted_shown s bindings settings octets code _ range within left is twelve
    (accepted_new a s (writes_of s bindings) settings octets code left is ok))

pub accepted_answer : {A : Type 0} (a : A) (s now : SignState) (bindings : List VarBind) (settings : SignSettings) (octets : List ℕ) (code : Activation)
    → s ≡ now → AreLeft settings bindings now → code ≡ activation_of s.table.order octets
    → Ok a ≡ unless_refused a (refusal s.config.face settings.defaults s.table s.shown code)
    → (index : ℕ) → IsDecided now bindings index octets (Ok (shown_after now bindings code))
accepted_answer a s now bindings settings octets code view are is ok index =
    let left = subst (AreLeft settings bindings) (sym view) are in
    subst (λ (s : SignState). IsDecided s bindings index octets (Ok (shown_after s bindings code))) view
    (activation_answer s (writes_of s bindings) bindings index settings octets code (Ok (shown_after s bindings code)) left is
    (accepted_new a s (writes_of s bindings) settings octets code left is ok))

-- ---- a code that is refused

pub refused_in_range : {A : Type 0} (a : A) (s now : SignState) (bindings : List VarBind) (settings : SignSettings) (octets : List ℕ) (code : Activation)
    (cause : Cause) → s ≡ now → AreLeft settings bindings now → code ≡ activation_of s.table.order octets
    → Err cause ≡ unless_refused a (refusal s.config.face settings.defaults s.table s.shown code)
    → IsSignInRange s → AreBindingsInLimits bindings → AreOctets 12 octets → IsCauseInRange cause
refused_in_range a s now bindings settings octets code cause view are is err range within twelve =
    let left = subst (AreLeft settings bindings) (sym view) are in
    refused_cause s bindings settings octets code cause range within left is twelve
    (refused_decision a s.config.face settings.defaults s.table s.shown code cause err)

pub refused_answer : {A : Type 0} (a : A) (s now : SignState) (bindings : List VarBind) (settings : SignSettings) (octets : List ℕ) (code : Activation)
    (cause : Cause) → s ≡ now → AreLeft settings bindings now → code ≡ activation_of s.table.order octets
    → Err cause ≡ unless_refused a (refusal s.config.face settings.defaults s.table s.shown code)
    → (index : ℕ) → IsDecided now bindings index octets (Err cause)
refused_answer a s now bindings settings octets code cause view are is err index =
    let left = subst (AreLeft settings bindings) (sym view) are in
    subst (λ (s : SignState). IsDecided s bindings index octets (Err cause)) view
    (activation_answer s (writes_of s bindings) bindings index settings octets code (Err cause) left is
    (refused_decision a s.config.face settings.defaults s.table s.shown code cause err))

-- ---- a code beside which nothing is assigned

-- what is decided on it
abbrev pub decided_alone : SignState → List ℕ → Result ShownModel Cause
decided_alone s octets = decided s.config.face s.settings.defaults s.table s.shown (activation_of s.table.order octets)

-- what it puts up
abbrev pub shown_alone : SignState → Activation → ShownModel
shown_alone s code = shown_by s.settings.defaults s.table s.shown code

pub accepted_alone : {A : Type 0} (a : A) (s now : SignState) (octets : List ℕ) (code : Activation) → s ≡ now → code ≡ activation_of s.table.order octets
    → Ok a ≡ unless_refused a (refusal s.config.face s.settings.defaults s.table s.shown code) → Ok (shown_alone now code) ≡ decided_alone now octets
accepted_alone a s now octets code view is ok =
    subst (λ (n : SignState). Ok (shown_alone n code) ≡ decided_alone n octets) view
    (accepted_decision a s.config.face s.settings.defaults s.table s.shown code ok ∙ ap (decided s.config.face s.settings.defaults s.table s.shown) is)

pub refused_alone : {A : Type 0} (a : A) (s now : SignState) (octets : List ℕ) (code : Activation) (cause : Cause) → s ≡ now
    → code ≡ activation_of s.table.order octets → Err cause ≡ unless_refused a (refusal s.config.face s.settings.defaults s.table s.shown code)
    → Err cause ≡ decided_alone now octets
refused_alone a s now octets code cause view is err =
    subst (λ (n : SignState). Err cause ≡ decided_alone n octets) view
    (refused_decision a s.config.face s.settings.defaults s.table s.shown code cause err ∙ ap (decided s.config.face s.settings.defaults s.table s.shown) is)

pub alone_in_range : (s now : SignState) (octets : List ℕ) (r : Result ShownModel Cause) → s ≡ now → IsSignInRange s → AreOctets 12 octets
    → r ≡ decided_alone now octets → IsDecisionInRange r
alone_in_range s now octets r view range twelve e =
    let is : IsSignInRange now = subst IsSignInRange view range in
    subst IsDecisionInRange (sym e)
    (decided_in_range now.config.face now.settings.defaults now.table now.shown (activation_of now.table.order octets) is.settings.defaults is.table is.shown
    (activation_is now.table.order octets twelve.below))

pub alone_answer : (s : SignState) (bindings : List VarBind) (octets : List ℕ) (r : Result ShownModel Cause) → r ≡ decided_alone s octets
    → as_decided s s bindings 1 octets r ≡ commanded s s bindings 1 (Activate octets)
alone_answer s bindings octets r e = ap (as_decided s s bindings 1 octets) e
