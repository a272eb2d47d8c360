-- What is shown after any events is blank, or was validated, and its checksum stands in the code that put it up.
use Rattle.std.proofs.Common.{◌≡◌, ◌⊎◌, inl, inr, ℕ, zero, suc, IsTrue, List, length, Option, Some, sym, subst, ◌∙◌, arith}
use Rattle.dms_face.specs.declared.defaults.Defaults.{Defaults}
use Rattle.dms_face.specs.Layout.{under}
use Rattle.dms_face.specs.Fit.{IsGood}
use Rattle.dms_codes.specs.declared.codes.Order.{Order}
use Rattle.dms_codes.specs.declared.codes.MessageId.{MessageId}
use Rattle.dms_codes.specs.declared.codes.Activation.{Activation}
use Rattle.dms_table.specs.Rows.{RowModel}
use Rattle.dms_table.specs.Activation.{ShownModel}
use Rattle.dms_sign.specs.State.{ConfigModel}
use Rattle.dms_sign.specs.Transitions.{IsSameMessage, IsRowOf, IsOwnCode, ShowsNow, stayed, came_back, blanked, activated, fell_back}
use Rattle.dms_world.specs.Event.{EventModel}
use Rattle.dms_world.specs.World.{WorldModel, IsFresh, world_at}
use Rattle.dms_world.specs.Backed.{Has, IsBlank, WasPutUp, WasTheSigns, WasHeld, IsBackedAt, IsBacked}
use Rattle.dms_world.specs.InFlight.{KeptIsBacked}
use Rattle.dms_world.specs.GoodRows.{WasGood}
use Rattle.dms_world.proofs.WorldSignSteps.{world_step}
use Rattle.dms_world.proofs.WorldSignSound.{sound_at}
use Rattle.dms_world.proofs.WorldSignGood.{good_rows_at}

-- ---- the same message

blank_as : (a b : ShownModel) → IsSameMessage a b → IsBlank a → IsBlank b
blank_as a b same is = grind arith

backed_as : (world : WorldModel) (events : List EventModel) (count : ℕ) (a b : ShownModel) → IsSameMessage a b → IsBackedAt world events count a
    → IsBackedAt world events count b
backed_as world events count a b same p = grind arith

-- ---- one event more

source_more : (world : WorldModel) (events : List EventModel) (count : ℕ) (id : MessageId) → WasPutUp world events count id ⊎ WasTheSigns world events count id
    → WasPutUp world events (suc count) id ⊎ WasTheSigns world events (suc count) id
source_more world events count id (inl was) = inl (was.0, was.1, (world_step world events count).listed (was.0, was.1) was.2, was.3)
source_more world events count id (inr was) = inr (was.0, omega (arith, was.1), was.2)

held_more : (world : WorldModel) (events : List EventModel) (count : ℕ) (shown : ShownModel) → WasHeld world events count shown → WasHeld world events (suc count) shown
held_more world events count shown was = (was.0, was.1, omega (arith, was.2), was.3, was.4)

backed_more : (world : WorldModel) (events : List EventModel) (count : ℕ) (shown : ShownModel) → IsBackedAt world events count shown
    → IsBackedAt world events (suc count) shown
backed_more world events count shown (inl is) = inl is
backed_more world events count shown (inr is) = inr (record {
  good = is.good;
  checksum = is.checksum;
  source = source_more world events count shown.source is.source;
  row = held_more world events count shown is.row;
})

-- ---- a row that comes up

-- what a row that was good needs, the sign has
record IsServed (world : WorldModel) (row : RowModel) : Type 0 where
  has_beacon : row.beacon ≡ 1 → IsTrue world.sign.table.services.beacon
  has_pixel : row.pixel ≡ 1 → IsTrue world.sign.table.services.pixel

served : (world : WorldModel) (events : List EventModel) (count memory number : ℕ) (row : RowModel) → WasGood world events count memory number row → IsServed world row
served world events count memory number row p = grind arith

validated_row : (world : WorldModel) (events : List EventModel) (count : ℕ) → IsFresh world
    → IsRowOf (world_at world events count).sign.config.face (world_at world events count).sign.settings.defaults (world_at world events count).sign.table
    (world_at world events count).sign.shown
    → WasPutUp world events count (world_at world events count).sign.shown.source ⊎ WasTheSigns world events count (world_at world events count).sign.shown.source
    → IsBackedAt world events count (world_at world events count).sign.shown
validated_row world events count fresh is source =
    let sign = (world_at world events count).sign in
    let has : IsServed world is.row =
    served world events count sign.shown.source.memory sign.shown.source.number is.row
    (good_rows_at world events fresh count sign.shown.source.memory sign.shown.source.number is.row is.there is.valid) in
    inr (record {
      good = record {
        good = subst (λ (c : ConfigModel). IsGood (under c.face sign.shown.defaults) sign.shown.text) (sound_at world events fresh count).config
            (subst (λ (d : Defaults). IsGood (under sign.config.face d) sign.shown.text) (sym is.copied) is.good);
        has_beacon = λ on. has.has_beacon (is.beacon ∙ on);
        has_pixel = λ on. has.has_pixel (is.pixel ∙ on);
      };
      checksum = is.checksum;
      source = source;
      row = (
        count,
        is.row,
        omega arith,
        is.there,
        record { valid = is.valid; text = is.text; owner = is.owner; beacon = is.beacon; pixel = is.pixel; priority = is.priority },
      );
    })

record IsSureAt (world : WorldModel) (events : List EventModel) (count : ℕ) : Type 0 where
  shown : IsBackedAt world events count (world_at world events count).sign.shown
  kept : IsBackedAt world events count (world_at world events count).sign.shown_at_power_loss

was_the_signs : (world : WorldModel) (events : List EventModel) (count : ℕ) → IsFresh world
    → IsOwnCode (world_at world events count).sign.table.order (world_at world events count).sign.settings.fallbacks (world_at world events count).sign.shown.source
    → WasTheSigns world events count (world_at world events count).sign.shown.source
was_the_signs world events count fresh own =
    let sign = (world_at world events count).sign in
    (count, omega arith, subst (λ (o : Order). IsOwnCode o sign.settings.fallbacks sign.shown.source) (sound_at world events fresh count).order own)

shown_next : (world : WorldModel) (events : List EventModel) (count : ℕ) (accepted : Option Activation) → IsFresh world → IsSureAt world events count
    → ((code : Activation) → accepted ≡ Some code → Has (world_at world events (suc count)).accepted (suc count, code))
    → ShowsNow (world_at world events count).sign (world_at world events (suc count)).sign accepted
    → IsBackedAt world events (suc count) (world_at world events (suc count)).sign.shown
shown_next world events count accepted fresh sure known (stayed same) =
    backed_as world events (suc count) (world_at world events count).sign.shown (world_at world events (suc count)).sign.shown same
    (backed_more world events count (world_at world events count).sign.shown sure.shown)
shown_next world events count accepted fresh sure known (came_back same) =
    backed_as world events (suc count) (world_at world events count).sign.shown_at_power_loss (world_at world events (suc count)).sign.shown same
    (backed_more world events count (world_at world events count).sign.shown_at_power_loss sure.kept)
shown_next world events count accepted fresh sure known (blanked is) =
    inl (record { memory = is.memory; text = is.text; beacon = is.beacon; pixel = is.pixel })
shown_next world events count accepted fresh sure known (activated code e source is) =
    validated_row world events (suc count) fresh is (inl (suc count, code, known code e, sym source))
shown_next world events count accepted fresh sure known (fell_back own is) =
    validated_row world events (suc count) fresh is (inr (was_the_signs world events (suc count) fresh own))

kept_next : (world : WorldModel) (events : List EventModel) (count : ℕ) (kept : ShownModel) → IsSureAt world events count
    → (kept ≡ (world_at world events count).sign.shown_at_power_loss) ⊎ (kept ≡ (world_at world events count).sign.shown)
    → IsBackedAt world events (suc count) kept
kept_next world events count kept sure (inl e) =
    subst (IsBackedAt world events (suc count)) (sym e) (backed_more world events count (world_at world events count).sign.shown_at_power_loss sure.kept)
kept_next world events count kept sure (inr e) =
    subst (IsBackedAt world events (suc count)) (sym e) (backed_more world events count (world_at world events count).sign.shown sure.shown)

sure_next : (world : WorldModel) (events : List EventModel) (count : ℕ) → IsFresh world → IsSureAt world events count → IsSureAt world events (suc count)
sure_next world events count fresh sure =
    let next = world_step world events count in
    record {
      shown = shown_next world events count next.accepted fresh sure next.known next.step.shown;
      kept = kept_next world events count (world_at world events (suc count)).sign.shown_at_power_loss sure next.step.shown_at_power_loss;
    }

-- ---- the start, and any number of events

blank_first : (world : WorldModel) → IsFresh world → IsBlank world.sign.shown × IsBlank world.sign.shown_at_power_loss
blank_first world fresh = grind arith

sure_at : (world : WorldModel) (events : List EventModel) → IsFresh world → (count : ℕ) → IsSureAt world events count
sure_at world events fresh zero = let blank = blank_first world fresh in record { shown = inl blank.0; kept = inl blank.1 }
sure_at world events fresh (suc count) = sure_next world events count fresh (sure_at world events fresh count)

pub is_backed : (world : WorldModel) (events : List EventModel) → IsFresh world → IsBacked world events
is_backed world events fresh = (sure_at world events fresh (length events)).shown

-- the copy that is stored at a loss of power too
pub kept_is_backed : (world : WorldModel) (events : List EventModel) → IsFresh world → KeptIsBacked world events
kept_is_backed world events fresh = (sure_at world events fresh (length events)).kept
