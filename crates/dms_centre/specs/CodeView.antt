-- What the code's types say: the models of settings, waiting requests and the ledger (this profile).
use Rattle.std.specs.Prelude.{ℕ, List, [], ◌∷◌, map, Option, Some, None, if◌then◌else◌}
use Rattle.dms_centre_jobs.specs.declared.job.Job.{Job}
use Rattle.dms_centre_jobs.specs.Job.{SettingsModel}
use Rattle.dms_centre_jobs.specs.CodeView.{job_model}
use Rattle.dms_centre.specs.declared.settings.Settings.{Settings}
use Rattle.dms_centre.specs.declared.pending.Pending.{Pending}
use Rattle.dms_centre.specs.declared.stage.Stage.{Stage}
use Rattle.dms_centre.specs.declared.stage.Stage.TheVariants as stages
use Rattle.dms_centre.specs.declared.stage.Phase.{Phase}
use Rattle.dms_centre.specs.declared.stage.Phase.TheVariants as phases
use Rattle.dms_centre.specs.declared.ledger.Entry.{Entry}
use Rattle.dms_centre.specs.declared.outcome.Outcome.{Outcome}
use Rattle.dms_centre.specs.State as state
use Rattle.dms_centre.specs.Resending.{is_waiting}

abbrev pub settings_model : Settings → SettingsModel
settings_model settings = record { community = settings.community.now; order = settings.order }

-- an entry of the ledger under its number
abbrev pub entry_model : ℕ × Entry → state.Entry
entry_model numbered = record { number = numbered.0; code = numbered.1.code; outcome = numbered.1.outcome }

abbrev pub ledger_model : List (ℕ × Entry) → List state.Entry
ledger_model entries = map entry_model entries

abbrev pub pending_model : Pending → state.Pending
pending_model pending = record {
  number = pending.number;
  octets = pending.octets.items;
  sends = pending.sends;
  age = pending.age;
}

-- the phase whose parts are lent
abbrev pub lent_phase : Phase → state.Phase
lent_phase phases.Idle = state.Idle
lent_phase (phases.Awaits job pending) = state.Awaits (job_model job.now) (pending_model pending.now)
lent_phase (phases.Due job) = state.Due (job_model job.now)

-- What a datagram buffer holds after a call: nothing where nothing is sent.
abbrev pub sent_in : List ℕ → Option (List ℕ)
sent_in [] = None
sent_in (octet ∷ octets) = Some (octet ∷ octets)

-- ---- inside the crate

-- an entry that waits gets this outcome
abbrev pub entry_given_up : Outcome → Entry → Entry
entry_given_up outcome entry = if is_waiting entry.outcome then record entry { outcome = outcome } else entry

abbrev pub phase_model : Stage → Job → Pending → state.Phase
phase_model stages.Idle job pending = state.Idle
phase_model stages.Awaits job pending = state.Awaits (job_model job) (pending_model pending)
phase_model stages.Due job pending = state.Due (job_model job)
