-- Each code of the ledger is that of a command that was taken.
use Rattle.std.proofs.Common.{◌≡◌, ℕ, List, [], ◌∷◌, ◌++◌, length, take, Some, None, slice_get, refl, sym, ap, ◌∙◌, subst, append_assoc, append-nil, arith}
use Rattle.std.specs.List.{AllByRecursion}
use Rattle.std.proofs.lemmas.Option.{none-some}
use Rattle.dms_centre_jobs.specs.Job.{SettingsModel}
use Rattle.dms_centre_jobs.specs.Commands.{CommandModel, job_of}
use Rattle.dms_centre.specs.Commands.{refusal_of}
use Rattle.dms_centre_jobs.specs.Requests.{AreSettings}
use Rattle.dms_centre.specs.History.{Input, Commands, IsInput, History, made, after_input, after_inputs}
use Rattle.dms_centre_laws.specs.Ledger.{IsOrdered, CodesAreOrdered}
use Rattle.dms_centre_laws.proofs.LedgerLaws.{HistoryIsKept, is_kept_input, is_kept_made}
use Rattle.dms_centre_laws.proofs.Working.{OfTaken, AreOf, are_of_input}

after_more : (history : History) (inputs more : List Input) → after_inputs history (inputs ++ more) ≡ after_inputs (after_inputs history inputs) more
after_more history [] more = refl
after_more history (input ∷ inputs) more = after_more (after_input history input) inputs more

get_middle : {X : Type 0} (front rest : List X) (x : X) → slice_get (front ++ x ∷ rest) (length front) ≡ Some x
get_middle [] rest x = refl
get_middle (y ∷ front) rest x = get_middle front rest x

take_front : {X : Type 0} (front rest : List X) → take (length front) (front ++ rest) ≡ front
take_front [] rest = refl
take_front (y ∷ front) rest = ap (λ xs. y ∷ xs) (take_front front rest)

-- the command after these inputs
taken : (settings : SettingsModel) (first : ℕ) (all front rest : List Input) (command : CommandModel) → all ≡ front ++ Commands command ∷ rest
    → refusal_of (after_inputs (made settings first) front).state command ≡ None → IsOrdered settings first all (job_of command).work
taken settings first all front rest command e none = record {
  place = length front;
  command = command;
  ordered = ap (λ inputs. slice_get inputs (length front)) e ∙ get_middle front rest (Commands command);
  taken =
      let before : take (length front) all ≡ front = ap (take (length front)) e ∙ take_front front (Commands command ∷ rest) in
      subst (λ inputs. refusal_of (after_inputs (made settings first) inputs).state command ≡ None) (sym before) none;
  work_is = refl;
}

of_taken : (settings : SettingsModel) (first : ℕ) (all front rest : List Input) (input : Input) → all ≡ front ++ input ∷ rest
    → OfTaken (IsOrdered settings first all) (after_inputs (made settings first) front).state input
of_taken settings first all front rest input e = grind (arith, taken)

record IsSoFar (settings : SettingsModel) (first : ℕ) (all : List Input) (history : History) : Type 0 where
  kept : HistoryIsKept history
  are : AreOf (IsOrdered settings first all) history.state

walk : (settings : SettingsModel) (first : ℕ) (all rest front : List Input) → all ≡ front ++ rest → AllByRecursion IsInput rest
    → IsSoFar settings first all (after_inputs (made settings first) front) → IsSoFar settings first all (after_inputs (made settings first) all)
walk settings first all [] front e are so_far = subst (λ inputs. IsSoFar settings first all (after_inputs (made settings first) inputs)) (sym (e ∙ append-nil front)) so_far
walk settings first all (input ∷ rest) front e are so_far =
    let history = after_inputs (made settings first) front in
    let next : IsSoFar settings first all (after_input history input) = record {
      kept = is_kept_input history input so_far.kept are.0;
      are = are_of_input (IsOrdered settings first all) history input so_far.kept are.0 so_far.are (of_taken settings first all front rest input e);
    } in
    walk settings first all rest (front ++ input ∷ []) (e ∙ sym (append_assoc front (input ∷ []) rest)) are.1
    (subst (IsSoFar settings first all) (sym (after_more (made settings first) front (input ∷ []))) next)

pub codes_are_ordered : (settings : SettingsModel) (first : ℕ) (inputs : List Input) → AreSettings settings → AllByRecursion IsInput inputs
    → CodesAreOrdered settings first inputs (after_inputs (made settings first) inputs).state.ledger
codes_are_ordered settings first inputs fine are =
    (walk settings first inputs inputs [] refl are (record {
      kept = is_kept_made settings first fine;
      are = record { job = tt; entries = λ k entry e. absurd (none-some entry e) };
    })).are.entries
