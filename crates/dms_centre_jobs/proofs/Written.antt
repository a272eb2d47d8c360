-- Requests that are written fit a datagram.
use Rattle.std.proofs.Common.{◌≡◌, ℕ, ◌≤◌, pos, Bool, true, false, List, [], ◌∷◌, ◌++◌, length, Option, Result, Ok, Err, refl, sym, ap, subst, ◌∙◌, arith}
use Rattle.std.proofs.lemmas.Bool.{false≢true}
use Rattle.std.specs.Result.{IsOk}
use Rattle.dms_wire.specs.declared.fault.TooBig.{TooBig}
use Rattle.dms_wire.specs.Message.{ObjectValue, integer, octet_string, VarBind, SnmpMessage}
use Rattle.dms_wire.specs.Canonical.{canonical}
use Rattle.dms_wire.specs.Written.{IsWritten, octets_of_bindings}
use Rattle.dms_codes.specs.declared.codes.Activation.{Activation}
use Rattle.dms_codes.specs.declared.row_id.RowId.{RowId}
use Rattle.dms_mib.specs.declared.column.Column.{Column}
use Rattle.dms_mib.specs.declared.column.Column.TheVariants.{MultiString, Owner, Beacon, PixelService, RunTimePriority}
use Rattle.dms_mib.specs.Names.{cell_name}
use Rattle.dms_centre_jobs.specs.declared.job.WrittenRowFields.{WrittenRowFields}
use Rattle.dms_centre_jobs.specs.declared.step.Step.{Step}
use Rattle.dms_centre_jobs.specs.Job.{SettingsModel, Work, Publishing}
use Rattle.dms_centre_jobs.specs.Steps.{fields, request_of, row_of, last_number}
use Rattle.dms_centre_jobs.specs.Requests.{AreSettings, IsWork}
use Rattle.dms_centre_jobs.specs.CodeView.{IsPushed}
use Rattle.dms_centre_jobs.specs.JobView.{publication_of, work_model}
use Rattle.dms_centre_jobs.proofs.Requests.{request_fits}
use Rattle.dms_wire_ber.specs.Limits.{longest_datagram}

pub fits : (settings : SettingsModel) (number : ℕ) (work : Work) (step : Step) (m : SnmpMessage) → AreSettings settings → number ≤ last_number → IsWork work
    → request_of settings number work step ≡ m → length (canonical m) ≤ longest_datagram
fits settings number work step m are few is same = subst (λ m. length (canonical m) ≤ longest_datagram) same (request_fits settings number work step are few is)

-- what fits was written
pub record IsDone (result : Result (Unit {0}) TooBig) (written octets : List ℕ) : Type 0 where
  pub ok : IsOk result
  pub is : written ≡ octets

pub done : (result : Result (Unit {0}) TooBig) (written octets : List ℕ) → IsWritten result written octets → length octets ≤ longest_datagram → IsDone result written octets
done (Ok u) written octets is few = record { ok = refl; is = is.0 }
done (Err e) written octets is few = absurd (omega (arith, is.1, few))

-- ---- five bindings, one after the other

pub pushed_five : (nothing one two three four five : Option (List ℕ)) (a b c d e : VarBind) → nothing ≡ octets_of_bindings []
    → IsPushed nothing a one → IsPushed one b two → IsPushed two c three → IsPushed three d four → IsPushed four e five
    → five ≡ octets_of_bindings ([] ++ a ∷ [] ++ b ∷ [] ++ c ∷ [] ++ d ∷ [] ++ e ∷ [])
pushed_five nothing one two three four five a b c d e begun first second third fourth fifth =
    fifth ([] ++ a ∷ [] ++ b ∷ [] ++ c ∷ [] ++ d ∷ []) (fourth ([] ++ a ∷ [] ++ b ∷ [] ++ c ∷ []) (third ([] ++ a ∷ [] ++ b ∷ []) (second ([] ++ a ∷ []) (first [] begun))))

-- ---- the fields of a row

abbrev pub field_in : RowId → Column → ObjectValue → VarBind
field_in row column value = record { name = cell_name column row; value = value }

-- the fields of a row, one after the other
abbrev pub fields_in : RowId → (text owner : List ℕ) → (beacon pixel run_priority : ℕ) → List VarBind
fields_in row text owner beacon pixel run_priority =
    [] ++ field_in row MultiString (octet_string text) ∷ [] ++ field_in row Owner (octet_string owner) ∷ []
    ++ field_in row Beacon (integer (pos beacon)) ∷ [] ++ field_in row PixelService (integer (pos pixel)) ∷ [] ++ field_in row RunTimePriority (integer (pos run_priority)) ∷ []

written_fields : (code : Activation) (kept : WrittenRowFields) (row : RowId) (text owner : List ℕ) → row ≡ row_of (Publishing (publication_of code kept))
    → text ≡ kept.text.items → owner ≡ kept.owner.items → fields_in row text owner kept.attributes.beacon kept.attributes.pixel kept.attributes.run_priority ≡ fields (Publishing (publication_of code kept))
written_fields code kept row text owner is text_is owner_is = rw (is, text_is, owner_is) refl

pub published_fields : (publishes : Bool) (code : Activation) (kept : WrittenRowFields) (work : Work) (row : RowId) (text owner : List ℕ) → publishes ≡ true
    → work_model publishes code kept ≡ work → row ≡ row_of work → text ≡ kept.text.items → owner ≡ kept.owner.items
    → fields_in row text owner kept.attributes.beacon kept.attributes.pixel kept.attributes.run_priority ≡ fields work
published_fields true code kept work row text owner some view is text_is owner_is =
    written_fields code kept row text owner (is ∙ ap row_of (sym view)) text_is owner_is ∙ ap fields view
published_fields false code kept work row text owner some view is text_is owner_is = absurd (false≢true some)

-- ---- the request that sets them

pub done_around : (result : Result (Unit {0}) TooBig) (written : List ℕ) (m n : SnmpMessage) → m ≡ n → IsWritten result written (canonical m)
    → length (canonical n) ≤ longest_datagram → IsDone result written (canonical n)
done_around result written m n is written_is few = done result written (canonical n) (subst (λ m. IsWritten result written (canonical m)) is written_is) few
