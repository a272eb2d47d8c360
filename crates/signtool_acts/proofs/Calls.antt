-- What the calls print, put together from what their parts promise.
use Rattle.std.proofs.Common.{◌≡◌, ◌⊎◌, inl, inr, ℕ, true, false, ◌<◌, ◌≤◌, List, ◌++◌, length, codes, Option, Some, None, Result, Ok, Err, refl, ap, sym, subst, ◌∙◌}
use Rattle.std.specs.Prelude.{◌≢◌, IfSome, IfErr}
use Rattle.std.specs.Io.KnownBytes.{Appends, Keeps}
use Rattle.std.specs.Str.Lines.{lines}
use Rattle.hex.specs.declared.error.FromHexError.{FromHexError}
use Rattle.hex.specs.declared.error.FromHexError.TheVariants.{OutOfMemory}
use Rattle.signtool_calls.specs.declared.call.SignWanted.{SignWanted}
use Rattle.signtool_calls.specs.declared.call.SignWanted.TheVariants.{Bench, Described}
use Rattle.dms_text_streams.specs.Calls.{one_more}
use Rattle.dms_text_streams.specs.DescriptionText.{longest_input}
use Rattle.dms_text_streams.specs.declared.failed.Failed.{Failed}
use Rattle.dms_sign_text.specs.RefusedLine.{all_numbered, IsRefusedLine}
use Rattle.dms_sign_text.specs.declared.reading_fault.ReplayFault.{ReplayFault}
use Rattle.dms_sign_text.specs.declared.reading_fault.ReplayFault.TheVariants as faults
use Rattle.dms_sign_text.specs.declared.setup.Setup.{Setup}
use Rattle.dms_replay.specs.RefusedScript.{IsRefusedIn}
use Rattle.dms_replay.specs.Replayed.{Replayed, ReplayedPrefix, NoScript}
use Rattle.dms_sign.specs.State.{SignState}
use Rattle.signtool_print.specs.Printed.{Answer, answer, Prints, PrintsOrMemory}
use Rattle.signtool_print.specs.declared.statuses.ExitStatus.{ExitStatus}
use Rattle.signtool_print.specs.declared.statuses.ExitStatus.TheVariants.{Done, Refused, Misused}
use Rattle.signtool_acts.specs.declared.refusal.InputRefusal.{InputRefusal}
use Rattle.signtool_acts.specs.RefusalText.{fault_line}
use Rattle.signtool_acts.specs.Refused.{with_fault, is_write}
use Rattle.signtool_acts.specs.CallAnswers.{IsWanted, IsRefused, IsInputFault, IsScriptFault, OfSign, OfDigits, OfScript, answer_to}

-- ---- a sign

abbrev ErrIs : (A : Type 0) → ReplayFault → ReplayFault → Type 0
ErrIs A fault other = ◌≡◌ {A = Result A ReplayFault} (Err fault) (Err other)

input_fault_of : (input : Option (List ℕ)) (fault : ReplayFault)
    → ((number : ℕ) → ErrIs Setup fault (faults.Line number) → IfSome input (λ octets. IsRefusedLine (all_numbered (lines octets)) number))
    → (ErrIs Setup fault faults.TooLong → IfSome input (λ octets. longest_input < length octets))
    → (ErrIs Setup fault faults.Write → ⊥) → IsInputFault input fault
input_fault_of input (faults.Line number) line long write = line number refl
input_fault_of input faults.TooLong line long write = long refl
input_fault_of input faults.Read line long write = tt
input_fault_of input faults.Memory line long write = tt
input_fault_of input faults.Write line long write = write refl

pub input_fault : (input : Option (List ℕ)) (result : Result Setup InputRefusal)
    → ((number : ℕ) → with_fault result ≡ Err (faults.Line number) → IfSome input (λ octets. IsRefusedLine (all_numbered (lines octets)) number))
    → (with_fault result ≡ Err faults.TooLong → IfSome input (λ octets. longest_input < length octets))
    → (with_fault result ≢ Err faults.Write) → IfErr result (λ refusal. IsInputFault input refusal.fault)
input_fault input (Ok setup) line long write = tt
input_fault input (Err refusal) line long write = input_fault_of input refusal.fault line long write

pub of_sign : (wanted : SignWanted) (input : Option (List ℕ)) (P : Answer → Type 0) (gives : SignState → Answer) (setup : Setup) (it : Answer)
    → IsWanted wanted input setup → it ≡ gives setup.sign → P it → OfSign wanted input P gives
of_sign wanted input P gives setup it is same printed = inl (setup, is, subst P same printed)

pub of_refusal : (wanted : SignWanted) (input : Option (List ℕ)) (P : Answer → Type 0) (gives : SignState → Answer) (fault : ReplayFault)
    → IsRefused wanted input fault → P (answer Refused (fault_line fault)) → OfSign wanted input P gives
of_refusal wanted input P gives fault is printed = inr (fault, is, printed)

-- ---- digits

no_memory_for : (wanted : SignWanted) (input : Option (List ℕ)) (P : Answer → Type 0) (read : Result (List ℕ) FromHexError) → ((it : Answer) → P it)
    → OfDigits wanted input P read
no_memory_for wanted input P (Err fault) any = any (answer Misused (codes "not hex\n"))
no_memory_for Bench input P (Ok datagram) any = inr (faults.Memory, refl, any (answer Refused (fault_line faults.Memory)))
no_memory_for Described input P (Ok datagram) any = inr (faults.Memory, tt, any (answer Refused (fault_line faults.Memory)))

pub of_digits : (wanted : SignWanted) (input : Option (List ℕ)) (P : Answer → Type 0) (read : Result (List ℕ) FromHexError) (datagram : List ℕ)
    → read ≡ Ok datagram → OfSign wanted input P (answer_to datagram) → OfDigits wanted input P read
of_digits wanted input P read datagram is printed = subst (λ r. OfDigits wanted input P r) (sym is) printed

pub no_digits : (wanted : SignWanted) (input : Option (List ℕ)) (P : Answer → Type 0) (read : Result (List ℕ) FromHexError) (fault : FromHexError)
    → (fault ≡ OutOfMemory) ⊎ (read ≡ Err fault) → P (answer Misused (codes "not hex\n")) → (fault ≡ OutOfMemory → (it : Answer) → P it)
    → OfDigits wanted input P read
no_digits wanted input P read fault (inl memory) printed any = no_memory_for wanted input P read (any memory)
no_digits wanted input P read fault (inr is) printed any = subst (λ r. OfDigits wanted input P r) (sym is) printed

-- ---- a script

pub reported : (input old new : Option (List ℕ)) (before after : ℕ) → IfSome input (λ octets. Replayed octets old new)
    → ((◌≡◌ {A = Result Unit ReplayFault} (Ok tt) (Err faults.Write) → ⊥) → after ≡ before) → OfScript input (PrintsOrMemory old new before after (Ok Done))
reported None old new before after written same = inl tt
reported (Some octets) old new before after written same =
    let never : ◌≡◌ {A = Result Unit ReplayFault} (Ok tt) (Err faults.Write) → ⊥ = (λ is. cc) in
    inl (written.report, written.is_report, inl (written.written, refl, same never))

reported_prefix : (input old new : Option (List ℕ)) (before after : ℕ) (failed : Failed) → IfSome input (λ octets. ReplayedPrefix octets old new)
    → after ≡ one_more before → OfScript input (PrintsOrMemory old new before after (Err failed))
reported_prefix None old new before after failed written same = inl tt
reported_prefix (Some octets) old new before after failed written same =
    inl (written.report, written.is_report, inl (written.written, same))

pub reported_in_part : (input old new : Option (List ℕ)) (before after : ℕ) (failed : Failed) (fault : ReplayFault) → is_write fault ≡ true
    → (ErrIs Unit fault faults.Write → IfSome input (λ octets. ReplayedPrefix octets old new)) → (ErrIs Unit fault faults.Write → after ≡ one_more before)
    → OfScript input (PrintsOrMemory old new before after (Err failed))
reported_in_part input old new before after failed faults.Write is written same = reported_prefix input old new before after failed (written refl) (same refl)
reported_in_part input old new before after failed (faults.Line number) is written same = absurd (cc)
reported_in_part input old new before after failed faults.Read is written same = absurd (cc)
reported_in_part input old new before after failed faults.TooLong is written same = absurd (cc)
reported_in_part input old new before after failed faults.Memory is written same = absurd (cc)

no_write : (fault : ReplayFault) → is_write fault ≡ false → ErrIs Unit fault faults.Write → ⊥
no_write faults.Write is same = cc
no_write (faults.Line number) is same = cc
no_write faults.Read is same = cc
no_write faults.TooLong is same = cc
no_write faults.Memory is same = cc

appends_after : (a b c : Option (List ℕ)) (text : List ℕ) → Keeps a b → Appends b c text → Appends a c text
appends_after None b c text kept more = tt
appends_after (Some x) None c text kept more = absurd kept
appends_after (Some x) (Some y) None text kept more = absurd more
appends_after (Some x) (Some y) (Some z) text kept more = more ∙ ap (λ xs. xs ++ text) kept

prints_after : (old between new : Option (List ℕ)) (before mid after : ℕ) (result : Result ExitStatus Failed) (it : Answer)
    → Keeps old between → mid ≡ before → Prints between new mid after result it → Prints old new before after result it
prints_after old between new before mid after (Ok status) it kept same p = (appends_after old between new it.text kept p.0, p.1, p.2 ∙ same)
prints_after old between new before mid after (Err failed) it kept same p =
    ((p.0.0, p.0.1, p.0.2, appends_after old between new p.0.0 kept p.0.3), p.1 ∙ ap one_more same)

prints_or_memory_after : (old between new : Option (List ℕ)) (before mid after : ℕ) (result : Result ExitStatus Failed) (it : Answer)
    → Keeps old between → mid ≡ before → PrintsOrMemory between new mid after result it → PrintsOrMemory old new before after result it
prints_or_memory_after old between new before mid after result it kept same (inl p) = inl (prints_after old between new before mid after result it kept same p)
prints_or_memory_after old between new before mid after result it kept same (inr p) = inr (prints_after old between new before mid after result _ kept same p)

script_fault_of : (input : Option (List ℕ)) (fault : ReplayFault)
    → ((number : ℕ) → ErrIs Unit fault (faults.Line number) → IfSome input (λ octets. (length octets ≤ longest_input) × NoScript octets))
    → ((number : ℕ) → ErrIs Unit fault (faults.Line number) → IfSome input (λ octets. IsRefusedIn octets number))
    → (ErrIs Unit fault faults.TooLong → IfSome input (λ octets. longest_input < length octets))
    → (ErrIs Unit fault faults.Write → ⊥) → IsScriptFault input fault
script_fault_of None (faults.Line number) none line long write = tt
script_fault_of (Some octets) (faults.Line number) none line long write = ((none number refl).1, line number refl)
script_fault_of input faults.TooLong none line long write = long refl
script_fault_of input faults.Read none line long write = tt
script_fault_of input faults.Memory none line long write = tt
script_fault_of input faults.Write none line long write = write refl

pub script_refused : (input old between new : Option (List ℕ)) (before mid after : ℕ) (result : Result ExitStatus Failed) (fault : ReplayFault)
    → ((number : ℕ) → ErrIs Unit fault (faults.Line number) → IfSome input (λ octets. (length octets ≤ longest_input) × NoScript octets))
    → ((number : ℕ) → ErrIs Unit fault (faults.Line number) → IfSome input (λ octets. IsRefusedIn octets number))
    → (ErrIs Unit fault faults.TooLong → IfSome input (λ octets. longest_input < length octets))
    → is_write fault ≡ false → ((ErrIs Unit fault faults.Write → ⊥) → Keeps old between) → ((ErrIs Unit fault faults.Write → ⊥) → mid ≡ before)
    → PrintsOrMemory between new mid after result (answer Refused (fault_line fault)) → OfScript input (PrintsOrMemory old new before after result)
script_refused input old between new before mid after result fault none line long is kept same printed =
    let never : ErrIs Unit fault faults.Write → ⊥ = no_write fault is in
    inr (fault, script_fault_of input fault none line long never, prints_or_memory_after old between new before mid after result _ (kept never) (same never) printed)
