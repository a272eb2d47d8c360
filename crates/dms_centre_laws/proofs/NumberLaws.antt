-- The laws on numbers, under any list of inputs.
use Rattle.std.proofs.Common.{◌≡◌, ℕ, List, [], ◌∷◌, refl, ◌∙◌, subst, arith}
use Rattle.std.specs.List.{AllByRecursion}
use Rattle.dms_centre_jobs.specs.Job.{SettingsModel}
use Rattle.dms_centre_jobs.specs.Requests.{AreSettings}
use Rattle.dms_centre.specs.History.{Input, IsInput, History, made, move_at, after_input, after_inputs}
use Rattle.dms_centre_laws.specs.RequestNumbers.{AreRequests, NumbersRise, EqualNumbersMeanEqualOctets, ThreeSendsAtMost, Sends}
use Rattle.dms_centre_laws.specs.Numbered.{HistoryIsNumbered}
use Rattle.dms_centre_laws.proofs.Keeping.{keeps_input, numbered_made, numbered_after}

settings_stay : (inputs : List Input) (history : History) → HistoryIsNumbered history → AllByRecursion IsInput inputs
    → (after_inputs history inputs).state.settings ≡ history.state.settings
settings_stay [] history n are = refl
settings_stay (input ∷ inputs) history n are =
    let k = keeps_input history input n are.0 in
    settings_stay inputs (after_input history input) k.numbered are.1 ∙ k.settings_stay

pub numbered : (settings : SettingsModel) (first : ℕ) (inputs : List Input) → AreSettings settings → AllByRecursion IsInput inputs
    → HistoryIsNumbered (after_inputs (made settings first) inputs)
numbered settings first inputs fine are = numbered_after inputs (made settings first) (numbered_made settings first fine) are

pub settings_are : (settings : SettingsModel) (first : ℕ) (inputs : List Input) → AreSettings settings → AllByRecursion IsInput inputs
    → (after_inputs (made settings first) inputs).state.settings ≡ settings
settings_are settings first inputs fine are = settings_stay inputs (made settings first) (numbered_made settings first fine) are

pub are_requests : (settings : SettingsModel) (first : ℕ) (inputs : List Input) → AreSettings settings → AllByRecursion IsInput inputs
    → AreRequests settings (after_inputs (made settings first) inputs).state.next (after_inputs (made settings first) inputs).sent
are_requests settings first inputs fine are = grind (arith, settings_are, numbered)

pub numbers_rise : (settings : SettingsModel) (first : ℕ) (inputs : List Input) → AreSettings settings → AllByRecursion IsInput inputs
    → NumbersRise (after_inputs (made settings first) inputs).sent
numbers_rise settings first inputs fine are = (numbered settings first inputs fine are).rise

pub next_number : (settings : SettingsModel) (first : ℕ) (inputs : List Input) (input : Input) → AreSettings settings → AllByRecursion IsInput inputs → IsInput input
    → Sends settings (after_inputs (made settings first) inputs).state.next (after_inputs (made settings first) inputs).sent
    (move_at (after_inputs (made settings first) inputs).state input)
next_number settings first inputs input fine are is =
    subst
    (λ s. Sends s (after_inputs (made settings first) inputs).state.next (after_inputs (made settings first) inputs).sent
    (move_at (after_inputs (made settings first) inputs).state input))
    (settings_are settings first inputs fine are)
    (keeps_input (after_inputs (made settings first) inputs) input (numbered settings first inputs fine are) is).sends

pub equal_numbers : (settings : SettingsModel) (first : ℕ) (inputs : List Input) → AreSettings settings → AllByRecursion IsInput inputs
    → EqualNumbersMeanEqualOctets (after_inputs (made settings first) inputs).sent
equal_numbers settings first inputs fine are = (numbered settings first inputs fine are).same

pub three_sends : (settings : SettingsModel) (first : ℕ) (inputs : List Input) → AreSettings settings → AllByRecursion IsInput inputs
    → ThreeSendsAtMost (after_inputs (made settings first) inputs).sent
three_sends settings first inputs fine are = (numbered settings first inputs fine are).few

pub kept_input : (history : History) (input : Input) → HistoryIsNumbered history → IsInput input → HistoryIsNumbered (after_input history input)
kept_input history input n is = (keeps_input history input n is).numbered
