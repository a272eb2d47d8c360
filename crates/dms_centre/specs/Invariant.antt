-- What holds of a central system between its calls (this profile).
use Rattle.std.specs.Prelude.{ℕ, ◌+◌, ◌≡◌, ◌<◌, ◌≤◌, Bool, true, false, List, [], ◌∷◌, length, All}
use Rattle.dms_centre.specs.State.{CentreState, Pending, Phase, Idle, Awaits, Due, Entry}
use Rattle.dms_centre.specs.Replies.{most_polls}
use Rattle.dms_centre.specs.Resending.{ticks_to_wait, is_waiting}
use Rattle.dms_centre_jobs.specs.Requests.{AreSettings, IsWork}
use Rattle.dms_centre_jobs.specs.Steps.{is_activating}

-- the waiting request has octets, and did not wait for long
pub record IsPending (pending : Pending) : Type 0 where
  pub some : 0 < length pending.octets
  pub age : pending.age ≤ ticks_to_wait

abbrev pub IsPhase : Phase → Type 0
IsPhase Idle = Unit {0}
IsPhase (Awaits job pending) = IsWork job.work × IsPending pending × (job.polls ≤ most_polls)
IsPhase (Due job) = IsWork job.work × (job.polls ≤ most_polls)

-- each entry has a lower number
abbrev pub AllBelow : ℕ → List Entry → Type 0
AllBelow next ledger = All (λ entry. entry.number < next) ledger

-- the numbers of entries rise, from least on, and are below next
abbrev pub Rise : ℕ → ℕ → List Entry → Type 0
Rise least next [] = least ≤ next
Rise least next (entry ∷ ledger) = (least ≤ entry.number) × Rise (entry.number + 1) next ledger

-- ---- which entries wait

abbrev pub NoneWaits : List Entry → Type 0
NoneWaits ledger = All (λ entry. is_waiting entry.outcome ≡ false) ledger

-- with these after it, the entry does not wait unless it is the last
abbrev pub WaitsAsLast : Entry → List Entry → Type 0
WaitsAsLast entry [] = Unit {0}
WaitsAsLast entry (next ∷ ledger) = is_waiting entry.outcome ≡ false

-- no entry but the last waits
abbrev pub OnlyLastWaits : List Entry → Type 0
OnlyLastWaits [] = Unit {0}
OnlyLastWaits (entry ∷ ledger) = WaitsAsLast entry ledger × OnlyLastWaits ledger

-- an entry that waits is that of this number
abbrev pub OneWaits : ℕ → List Entry → Type 0
OneWaits number ledger = All (λ entry. is_waiting entry.outcome ≡ true → entry.number ≡ number) ledger

-- while a request waits that is an activation, as said, or not
abbrev pub WaitsWith : Bool → ℕ → List Entry → Type 0
WaitsWith true number ledger = OnlyLastWaits ledger × OneWaits number ledger
WaitsWith false number ledger = NoneWaits ledger

-- At most one entry waits: the last, while its activation waits for a reply.
abbrev pub HasWaiting : Phase → List Entry → Type 0
HasWaiting Idle ledger = NoneWaits ledger
HasWaiting (Awaits job pending) ledger = WaitsWith (is_activating job.step) pending.number ledger
HasWaiting (Due job) ledger = NoneWaits ledger

-- ----

pub record IsState (state : CentreState) : Type 0 where
  pub settings : AreSettings state.settings
  pub below : AllBelow state.next state.ledger
  pub rise : Rise 0 state.next state.ledger
  pub phase : IsPhase state.phase
  pub waiting : HasWaiting state.phase state.ledger
