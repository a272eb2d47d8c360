-- Each event of a world makes one step of its sign, and lists what was accepted.
use Rattle.std.proofs.Common.{◌≡◌, ℕ, suc, List, [], ◌∷◌, ◌++◌, Option, Some, None, slice_get, refl, subst, arith}
use Rattle.dms_codes.specs.declared.codes.Activation.{Activation}
use Rattle.dms_sign.specs.State.{SignState}
use Rattle.dms_sign.specs.Events.{after_tick, after_power_loss, after_power_return}
use Rattle.dms_sign.specs.Transitions.{IsSignStep}
use Rattle.dms_sign_laws.proofs.StepEvents.{step_received, step_tick, step_power_loss, step_power_return}
use Rattle.dms_centre_laws.proofs.Lists.{on_left}
use Rattle.dms_world.specs.Event.{EventModel, command, sign_tick, centre_tick, to_sign, to_centre, power_lost, power_back, centre_restart, forge_sign, forge_centre}
use Rattle.dms_world.specs.World.{WorldModel, noted, with_sign, at_sign, at_centre, happens, happens_if, world_at}
use Rattle.dms_world.specs.Backed.{Has}

-- ---- lists that grow

has_on_left : {X : Type 0} (xs ys : List X) (x : X) → Has xs x → Has (xs ++ ys) x
has_on_left xs ys x has = (has.0, on_left xs ys has.0 x has.1)

has_at_end : {X : Type 0} (xs : List X) (x : X) → Has (xs ++ x ∷ []) x
has_at_end [] x = (0, refl)
has_at_end (y ∷ xs) x = let rest = has_at_end xs x in (suc rest.0, rest.1)

-- ---- one event

pub record IsWorldStep (number : ℕ) (old new : WorldModel) : Type 0 where
  pub accepted : Option Activation
  pub step : IsSignStep old.sign new.sign accepted
  pub listed : (entry : ℕ × Activation) → Has old.accepted entry → Has new.accepted entry
  pub known : (code : Activation) → accepted ≡ Some code → Has new.accepted (number, code)

-- where the sign does nothing
resting : (number : ℕ) (old new : WorldModel) → new.sign ≡ old.sign → new.accepted ≡ old.accepted → IsWorldStep number old new
resting number old new sign accepted = grind arith

-- where no datagram comes
alone : (number : ℕ) (old : WorldModel) (new : SignState) → IsSignStep old.sign new None → IsWorldStep number old (with_sign old new)
alone number old new step = record { accepted = None; step = step; listed = λ entry has. has; known = λ code e. absurd (cc) }

note_is : (number : ℕ) (xs : List (ℕ × Activation)) (o : Option Activation) (code : Activation) → o ≡ Some code → Has (xs ++ noted number o) (number, code)
note_is number xs None code e = absurd (cc)
note_is number xs (Some other) code e =
    let same : other ≡ code = cc in subst (λ (c : Activation). Has (xs ++ (number, other) ∷ []) (number, c)) same (has_at_end xs (number, other))

handed_to_sign : (number : ℕ) (world : WorldModel) (o : Option (List ℕ)) → IsWorldStep number world (at_sign number world o)
handed_to_sign number world None = resting number world world refl refl
handed_to_sign number world (Some datagram) = grind (arith, resting, step_received, has_on_left, note_is)

handed_to_centre : (number : ℕ) (world : WorldModel) (o : Option (List ℕ)) → IsWorldStep number world (at_centre world o)
handed_to_centre number world o = grind arith

event_step : (number : ℕ) (world : WorldModel) (event : EventModel) → IsWorldStep number world (happens number world event)
event_step number world (command asked) = resting number world (happens number world (command asked)) refl refl
event_step number world sign_tick = alone number world (after_tick world.sign) (step_tick world.sign)
event_step number world centre_tick = resting number world (happens number world centre_tick) refl refl
event_step number world (to_sign place) = handed_to_sign number world (slice_get world.to_sign place)
event_step number world (to_centre place) = handed_to_centre number world (slice_get world.to_centre place)
event_step number world power_lost = alone number world (after_power_loss world.sign) (step_power_loss world.sign)
event_step number world (power_back seconds) = alone number world (after_power_return world.sign seconds) (step_power_return world.sign seconds)
event_step number world centre_restart = resting number world (happens number world centre_restart) refl refl
event_step number world (forge_sign datagram) = handed_to_sign number world (Some datagram)
event_step number world (forge_centre datagram) = handed_to_centre number world (Some datagram)

step_if : (number : ℕ) (world : WorldModel) (o : Option EventModel) → IsWorldStep number world (happens_if number world o)
step_if number world o = grind (arith, resting, event_step)

pub world_step : (world : WorldModel) (events : List EventModel) (count : ℕ) → IsWorldStep (suc count) (world_at world events count) (world_at world events (suc count))
world_step world events count = step_if (suc count) (world_at world events count) (slice_get events count)
