-- How the program ends, by what its calls print.
use Rattle.std.proofs.Common.{◌≡◌, ◌⊎◌, inl, inr, ℕ, true, false, List, Option, Some, None, Result, Ok, Err, refl, sym, subst}
use Rattle.std.specs.Prelude.{IfSome}
use Rattle.hex.specs.Hex.{decode_of}
use Rattle.hex.specs.declared.error.FromHexError.{FromHexError}
use Rattle.signtool_calls.specs.declared.call.Call.{Call}
use Rattle.signtool_calls.specs.declared.call.Call.TheVariants as calls
use Rattle.signtool_calls.specs.declared.call.Form.TheVariants.{Lines, Json}
use Rattle.signtool_calls.specs.declared.call.SignWanted.{SignWanted}
use Rattle.dms_text_streams.specs.declared.failed.Failed.{Failed}
use Rattle.dms_replay.specs.Replayed.{IsReport}
use Rattle.dms_sign.specs.State.{SignState}
use Rattle.dms_text_forms.specs.FieldsReading.{address_of}
use Rattle.signtool_print.specs.CodeAnswers.{code_answer, activation_answer}
use Rattle.signtool_print.specs.DatagramLines.{decode_answer}
use Rattle.signtool_print.specs.ItemLines.{items_answer}
use Rattle.signtool_print.specs.Printed.{Answer, answer, status_of, no_memory, Prints, PrintsOrMemory, Ends, EndsOrMemory}
use Rattle.signtool_print.specs.TextAnswers.{check_answer, pages_answer}
use Rattle.signtool_print.specs.declared.statuses.ExitStatus.{ExitStatus}
use Rattle.signtool_print.specs.declared.statuses.ExitStatus.TheVariants.{Done}
use Rattle.signtool_acts.specs.CallAnswers.{OfSign, OfDigits, OfScript, answer_to, CarriesOut, version_line}

-- ---- what holds of each answer holds of a call

of_sign : (wanted : SignWanted) (input : Option (List ℕ)) (P Q : Answer → Type 0) (gives : SignState → Answer) → ((it : Answer) → P it → Q it)
    → OfSign wanted input P gives → OfSign wanted input Q gives
of_sign wanted input P Q gives so (inl (setup, is, printed)) = inl (setup, is, so _ printed)
of_sign wanted input P Q gives so (inr (fault, is, printed)) = inr (fault, is, so _ printed)

of_digits : (wanted : SignWanted) (input : Option (List ℕ)) (P Q : Answer → Type 0) (read : Result (List ℕ) FromHexError) → ((it : Answer) → P it → Q it)
    → OfDigits wanted input P read → OfDigits wanted input Q read
of_digits wanted input P Q (Ok datagram) so printed = of_sign wanted input P Q (answer_to datagram) so printed
of_digits wanted input P Q (Err fault) so printed = so _ printed

abbrev IfReport : Option (List ℕ) → (Answer → Type 0) → Type 0
IfReport input P = IfSome input (λ octets. (report : List ℕ) × IsReport octets report × P (answer Done report))

of_report : (input : Option (List ℕ)) (P Q : Answer → Type 0) → ((it : Answer) → P it → Q it) → IfReport input P → IfReport input Q
of_report None P Q so printed = tt
of_report (Some octets) P Q so (report, is, printed) = (report, is, so _ printed)

of_script : (input : Option (List ℕ)) (P Q : Answer → Type 0) → ((it : Answer) → P it → Q it) → OfScript input P → OfScript input Q
of_script input P Q so (inl printed) = inl (of_report input P Q so printed)
of_script input P Q so (inr (fault, is, printed)) = inr (fault, is, so _ printed)

of_call : (call : Call) (input : Option (List ℕ)) (P Q : Answer → Type 0) → ((it : Answer) → P it → Q it) → CarriesOut call input P → CarriesOut call input Q
of_call (calls.Answer hex sign) input P Q so printed = of_digits sign input P Q (decode_of hex.now) so printed
of_call (calls.Check text sign Lines) input P Q so printed = of_sign sign input P Q (λ sign. check_answer sign.config.face text.now) so printed
of_call (calls.Check text sign Json) input P Q so printed = tt
of_call (calls.Pages text sign drawing) input P Q so printed = of_sign sign input P Q (λ sign. pages_answer sign.config.face text.now drawing) so printed
of_call (calls.Decode hex spaced Lines) input P Q so printed = so _ printed
of_call (calls.Decode hex spaced Json) input P Q so printed = tt
of_call (calls.Items text Lines) input P Q so printed = so _ printed
of_call (calls.Items text Json) input P Q so printed = tt
of_call calls.Version input P Q so printed = so _ printed
of_call (calls.Code words) input P Q so printed = so _ printed
of_call (calls.Activation words) input P Q so printed = so _ printed
of_call calls.Replay input P Q so printed = of_script input P Q so printed
of_call (calls.Sign sign state) input P Q so printed = tt
of_call (calls.Centre sign state) input P Q so printed = tt

-- ---- the end of the program

ends : (old new : Option (List ℕ)) (before after : ℕ) (result : Result ExitStatus Failed) (it : Answer) → Prints old new before after result it
    → Ends old new before after (status_of result) it
ends old new before after (Ok status) it printed = inl printed
ends old new before after (Err failed) it printed = inr (printed.0, refl, printed.1)

ends_or_memory : (old new : Option (List ℕ)) (before after : ℕ) (result : Result ExitStatus Failed) (it : Answer) → PrintsOrMemory old new before after result it
    → EndsOrMemory old new before after (status_of result) it
ends_or_memory old new before after result it (inl printed) = inl (ends old new before after result it printed)
ends_or_memory old new before after result it (inr printed) = inr (ends old new before after result no_memory printed)

pub carried_out : (call : Call) (input old new : Option (List ℕ)) (before after : ℕ) (result : Result ExitStatus Failed) (status : ExitStatus) → status ≡ status_of result
    → CarriesOut call input (PrintsOrMemory old new before after result) → CarriesOut call input (EndsOrMemory old new before after status)
carried_out call input old new before after result status is carried =
    subst (λ s. CarriesOut call input (EndsOrMemory old new before after s)) (sym is)
    (of_call call input (PrintsOrMemory old new before after result) (EndsOrMemory old new before after (status_of result))
    (λ it printed. ends_or_memory old new before after result it printed) carried)
