-- What is shown, what is stored, and the rows of a sign, after any events.
use Rattle.std.proofs.Common.{◌≡◌, ◌⊎◌, ℕ, zero, suc, List, length, Option, sym, ◌∙◌, arith}
use Rattle.dms_face.specs.declared.defaults.Defaults.{Defaults}
use Rattle.dms_codes.specs.declared.codes.Activation.{Activation}
use Rattle.dms_table.specs.Activation.{ShownModel}
use Rattle.dms_sign.specs.Transitions.{ShowsNow}
use Rattle.dms_world.specs.Event.{EventModel}
use Rattle.dms_world.specs.World.{WorldModel, IsFresh, world_at}
use Rattle.dms_world.specs.Backed.{WereDefaults, CopiedDefaults}
use Rattle.dms_world.proofs.WorldSignSteps.{world_step}

-- ---- what holds after so many events

pub record IsSoundAt (world : WorldModel) (events : List EventModel) (count : ℕ) : Type 0 where
  pub config : (world_at world events count).sign.config ≡ world.sign.config
  pub services : (world_at world events count).sign.table.services ≡ world.sign.table.services
  pub order : (world_at world events count).sign.table.order ≡ world.sign.table.order
  pub shown_copy : WereDefaults world events count (world_at world events count).sign.shown.defaults
  pub kept_copy : WereDefaults world events count (world_at world events count).sign.shown_at_power_loss.defaults

-- ---- copies of the defaults

copy_more : (world : WorldModel) (events : List EventModel) (count : ℕ) (defaults : Defaults) → WereDefaults world events count defaults
    → WereDefaults world events (suc count) defaults
copy_more world events count defaults were = (were.0, omega (arith, were.1), were.2)

copy_now : (world : WorldModel) (events : List EventModel) (count : ℕ) (defaults : Defaults) → defaults ≡ (world_at world events count).sign.settings.defaults
    → WereDefaults world events count defaults
copy_now world events count defaults e = (count, omega arith, sym e)

copy_shown : (world : WorldModel) (events : List EventModel) (count : ℕ) (accepted : Option Activation) → IsSoundAt world events count
    → ShowsNow (world_at world events count).sign (world_at world events (suc count)).sign accepted
    → WereDefaults world events (suc count) (world_at world events (suc count)).sign.shown.defaults
copy_shown world events count accepted sound p = grind (arith, copy_more, copy_now)

copy_kept : (world : WorldModel) (events : List EventModel) (count : ℕ) (kept : ShownModel) → IsSoundAt world events count
    → (kept ≡ (world_at world events count).sign.shown_at_power_loss) ⊎ (kept ≡ (world_at world events count).sign.shown)
    → WereDefaults world events (suc count) kept.defaults
copy_kept world events count kept sound p = grind arith

-- ---- the start, and one event more

sound_next : (world : WorldModel) (events : List EventModel) (count : ℕ) → IsSoundAt world events count → IsSoundAt world events (suc count)
sound_next world events count sound =
    let next = world_step world events count in
    let step = next.step in
    record {
      config = step.config ∙ sound.config;
      services = step.table.services ∙ sound.services;
      order = step.table.order ∙ sound.order;
      shown_copy = copy_shown world events count next.accepted sound step.shown;
      kept_copy = copy_kept world events count (world_at world events (suc count)).sign.shown_at_power_loss sound step.shown_at_power_loss;
    }

sound_first : (world : WorldModel) (events : List EventModel) → IsFresh world → IsSoundAt world events zero
sound_first world events fresh = grind arith

pub sound_at : (world : WorldModel) (events : List EventModel) → IsFresh world → (count : ℕ) → IsSoundAt world events count
sound_at world events fresh zero = sound_first world events fresh
sound_at world events fresh (suc count) = sound_next world events count (sound_at world events fresh count)

pub copies_were_defaults : (world : WorldModel) (events : List EventModel) → IsFresh world → CopiedDefaults world events
copies_were_defaults world events fresh = (sound_at world events fresh (length events)).shown_copy
