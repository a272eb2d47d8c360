-- The defaults of a sign fit its face after any events, and so does the copy that belongs to what is shown.
use Rattle.std.proofs.Common.{◌≡◌, ℕ, ◌&&◌, true, IsTrue, length, List, subst, arith}
use Rattle.std.proofs.lemmas.Bool.{and_parts}
use Rattle.dms_face.specs.declared.defaults.Defaults.{Defaults}
use Rattle.dms_face.specs.Face.{FaceModel, is_matrix, are_fonts, fit, is_face}
use Rattle.dms_sign.specs.Transitions.{HasFitDefaults}
use Rattle.dms_sign.proofs.StepDefaults.{received_fits, tick_fits, power_loss_fits, power_return_fits}
use Rattle.dms_world.specs.Event.{EventModel}
use Rattle.dms_world.specs.World.{WorldModel, IsFresh, world_at}
use Rattle.dms_world.specs.GoodRows.{DefaultsFit}
use Rattle.dms_world.proofs.WorldSign.{EachEventKeeps, kept_after}
use Rattle.dms_world.proofs.WorldSignSound.{sound_at, copies_were_defaults}

fit_is_kept : EachEventKeeps HasFitDefaults
fit_is_kept = record { datagram = received_fits; tick = tick_fits; power_loss = power_loss_fits; power_return = power_return_fits }

face_fits : (face : FaceModel) → is_face face ≡ true → IsTrue (fit face.fonts face.defaults)
face_fits face e = (and_parts (is_matrix face.width face.height && are_fonts face.fonts) (fit face.fonts face.defaults) e).1

fits_first : (world : WorldModel) → IsFresh world → HasFitDefaults world.sign
fits_first world fresh = grind arith

fits_at : (world : WorldModel) (events : List EventModel) → IsFresh world → (count : ℕ)
    → IsTrue (fit world.sign.config.face.fonts (world_at world events count).sign.settings.defaults)
fits_at world events fresh count = grind (arith, sound_at, kept_after, fit_is_kept, fits_first)

pub defaults_fit_after : (world : WorldModel) (events : List EventModel) → IsFresh world → DefaultsFit world events
defaults_fit_after world events fresh =
    let were = copies_were_defaults world events fresh in
    record {
      own = fits_at world events fresh (length events);
      copied = subst (λ (d : Defaults). IsTrue (fit world.sign.config.face.fonts d)) were.2 (fits_at world events fresh were.0);
    }
