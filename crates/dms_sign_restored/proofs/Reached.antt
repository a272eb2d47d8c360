-- Each sign that events lead to is restored of its text, and a run over saves ends where it ends without them.
use Rattle.std.proofs.Common.{◌≡◌, ◌↔◌, ℕ, zero, suc, ◌-◌, ◌==◌, ◌&&◌, Bool, true, false, not, cond, List, [], ◌∷◌, length, replicate, Option, Some, None, slice_get, refl, ap, sym, subst, ◌∙◌, arith}
use Rattle.std.specs.Prelude.{option_map}
use Rattle.std.specs.Option.{IfSome}
use Rattle.std.specs.List.{AllByRecursion, list_all, position}
use Rattle.std.proofs.lemmas.Bool.{and_parts, not-false}
use Rattle.std.proofs.lemmas.List.Folds.{list_all-map}
use Rattle.std.proofs.lemmas.List.Sums.{list_all-from_AllPass}
use Rattle.std.proofs.lemmas.Option.{same_Some}
use Rattle.dms_codes.specs.declared.memory.Memory.{Memory}
use Rattle.dms_codes.specs.declared.memory.Memory.TheVariants.{Permanent, Changeable, Volatile, CurrentBuffer, Blank}
use Rattle.dms_codes.specs.declared.codes.Activation.{Activation}
use Rattle.dms_codes.specs.declared.status.Status.TheVariants.{Valid}
use Rattle.dms_codes.specs.Memory.{memory_of}
use Rattle.dms_codes.specs.Status.{is_valid}
use Rattle.dms_codes.proofs.Loops.{none_passes}
use Rattle.dms_codes.proofs.Options.{mapped_none}
use Rattle.dms_face.specs.declared.multi_fault.MultiFault.{MultiFault}
use Rattle.dms_face.specs.Face.{FaceModel}
use Rattle.dms_face.specs.Fit.{fault_of}
use Rattle.dms_face.specs.Layout.{under}
use Rattle.dms_face.proofs.GoodLaws.{empty_is_good}
use Rattle.dms_face.proofs.Lists.{if_either}
use Rattle.dms_codes.specs.declared.validation_error.ValidationError.TheVariants as errors
use Rattle.dms_table.specs.declared.row.Services.{Services}
use Rattle.dms_table.specs.declared.stock.Stock.{Stock}
use Rattle.dms_table.specs.Rows.{RowModel, TableModel, unused, numbered, rows_by, rows_of, IsTable}
use Rattle.dms_table.specs.SavedRows.{AreEmptyWhereUnused}
use Rattle.dms_table.specs.Stock.{permanent_row, permanent_fault, services_of, are_counts, stock_fault, table_of, may_not_stand, may_stand, has_ranges}
use Rattle.dms_table.specs.Validation.{verdict_without_fault, text_verdict, verdict_of, passes}
use Rattle.dms_table.proofs.EmptyRows.{unused_empty}
use Rattle.dms_table.proofs.OneRow.{count, none_unused}
use Rattle.dms_sign.specs.declared.config.Config.{Config}
use Rattle.dms_sign.specs.declared.config.ConfigFault.TheVariants as config_faults
use Rattle.dms_sign.specs.Communities.{are_communities}
use Rattle.dms_sign.specs.Configuration.{config_of, config_fault}
use Rattle.dms_sign.specs.Construction.{CanBeMade, row_may_stand}
use Rattle.dms_sign.specs.InRange.{IsSignInRange}
use Rattle.dms_sign.specs.Reply.{awake}
use Rattle.dms_sign.specs.State.{ConfigModel, SignState, start}
use Rattle.dms_sign.specs.Transitions.{IsSignStep, HasFitDefaults}
use Rattle.dms_sign.proofs.InRangeEvents.{tick_in_range, power_loss_in_range, power_return_in_range, with_silence}
use Rattle.dms_sign.proofs.InRangeLists.{either, if_at}
use Rattle.dms_sign.proofs.InRangeSets.{received_in_range}
use Rattle.dms_sign.proofs.InRangeStart.{faultless_is_stocked}
use Rattle.dms_sign.proofs.StepDefaults.{received_fits, tick_fits, power_loss_fits, power_return_fits}
use Rattle.dms_sign_laws.proofs.OneValidating.{one_received, one_after_tick, one_after_power_loss, one_after_power_return}
use Rattle.dms_sign_laws.proofs.StepEvents.{step_received, step_tick, step_power_loss, step_power_return}
use Rattle.dms_sign_state.specs.StateText.{fields_of, text_of_state}
use Rattle.dms_sign_restored.specs.Alike.{AreMadeAlike}
use Rattle.dms_sign_restored.specs.Restored.{made, IsPut, IsRestored}
use Rattle.dms_sign_restored.specs.Runs.{SignEvent, datagram, second, heard, power_lost, power_back, after_event, after_events, RunStep, comes, saves, events_in, Lead}
use Rattle.dms_sign_restored.proofs.FieldsInRange.{fields_in_range}
use Rattle.dms_sign_restored.proofs.Going.{IsHeld, received_held, tick_held, power_loss_held, power_return_held}
use Rattle.dms_sign_restored.proofs.OneSign.{TellApart, one_restored}
use Rattle.dms_sign_restored.proofs.PutBack.{taken_back}
use Rattle.dms_sign_restored.proofs.PutUps.{IsPutUp}
use Rattle.dms_sign_restored.proofs.SameSign.{AreIdsOfOctets}
use Rattle.dms_sign_restored.proofs.Standing.{IsServed, AreServed, served_next, IsStanding, no_fault_of, IsStepTo, shown_next, kept_next}
use Rattle.dms_sign_restored.proofs.TakenUp.{IsFaultless, can_be_taken_up}

-- ---- a sign that events lead to

-- what is known of it, and of the one that they began with
pub record IsReached (first s : SignState) : Type 0 where
  pub alike : AreMadeAlike first s
  pub in_range : IsSignInRange s
  pub fits : HasFitDefaults s
  pub one : IsTable s.table
  pub is_held : IsHeld first.table s
  pub served : AreServed s.table
  pub shown : IsStanding s.config.face s.table s.shown
  pub kept : IsStanding s.config.face s.table s.shown_at_power_loss

step_reached : (first old new : SignState) (accepted : Option Activation) → IsReached first old → IsSignStep old new accepted → IsSignInRange new → HasFitDefaults new
    → IsTable new.table → IsHeld first.table new → IsReached first new
step_reached first old new accepted was step in_range fits one is_held =
    let served = served_next (under old.config.face old.settings.defaults) old.table new.table step.table was.served in
    let to : IsStepTo old new = record {
      config = step.config;
      services = step.table.services;
      long = record {
        permanent_count = ap length (sym step.table.permanent);
        changeable_count = was.is_held.rows.changeable_count ∙ sym is_held.rows.changeable_count;
        volatile_count = was.is_held.rows.volatile_count ∙ sym is_held.rows.volatile_count;
      };
      served = served;
      fits = fits;
      row = in_range.shown.row;
      by_source = is_held.shown.by_source;
    } in
    record {
      alike = record {
        config = was.alike.config ∙ sym step.config;
        permanent = was.alike.permanent ∙ sym step.table.permanent;
        changeable = sym is_held.rows.changeable_count;
        volatile = sym is_held.rows.volatile_count;
        services = was.alike.services ∙ sym step.table.services;
        order = was.alike.order ∙ sym step.table.order;
      };
      in_range = in_range;
      fits = fits;
      one = one;
      is_held = is_held;
      served = served;
      shown = shown_next old new accepted to was.shown was.kept step.shown;
      kept = kept_next old new to was.shown was.kept step.shown_at_power_loss;
    }

awake_reached : (first s : SignState) → IsReached first s → IsReached first (awake s)
awake_reached first s is = record {
  alike = record {
    config = is.alike.config;
    permanent = is.alike.permanent;
    changeable = is.alike.changeable;
    volatile = is.alike.volatile;
    services = is.alike.services;
    order = is.alike.order;
  };
  in_range = with_silence s 0 is.in_range (omega arith);
  fits = is.fits;
  one = is.one;
  is_held = record { rows = is.is_held.rows; shown = is.is_held.shown; kept = is.is_held.kept; reports = is.is_held.reports };
  served = is.served;
  shown = is.shown;
  kept = is.kept;
}

event_reached : (first s : SignState) (event : SignEvent) → IsReached first s → IsReached first (after_event s event)
event_reached first s (datagram octets) is =
    step_reached first s _ _ is (step_received s octets) (received_in_range s octets is.in_range) (received_fits s octets is.fits)
    (one_received s octets is.one) (received_held first.table s octets is.is_held)
event_reached first s second is =
    step_reached first s _ _ is (step_tick s) (tick_in_range s is.in_range) (tick_fits s is.fits) (one_after_tick s is.one) (tick_held first.table s is.is_held)
event_reached first s heard is = either (IsReached first) s.powered (awake s) s (awake_reached first s is) is
event_reached first s power_lost is =
    step_reached first s _ _ is (step_power_loss s) (power_loss_in_range s is.in_range) (power_loss_fits s is.fits) (one_after_power_loss s is.one)
    (power_loss_held first.table s is.is_held)
event_reached first s (power_back seconds) is =
    step_reached first s _ _ is (step_power_return s seconds) (power_return_in_range s seconds is.in_range) (power_return_fits s seconds is.fits)
    (one_after_power_return s seconds is.one) (power_return_held first.table s seconds is.is_held)

events_reached : (first s : SignState) (events : List SignEvent) → IsReached first s → IsReached first (after_events s events)
events_reached first s [] is = is
events_reached first s (event ∷ events) is = events_reached first (after_event s event) events (event_reached first s event is)

-- ---- a sign as it is made

abbrev IsServedWhereValid : Services → RowModel → Type 0
IsServedWhereValid services row = row.status ≡ Valid → IsServed services row.beacon row.pixel

passes_served : (beacons pixels : Bool) (o : Option MultiFault)
    → passes (cond beacons (verdict_without_fault errors.Beacons) (cond pixels (verdict_without_fault errors.PixelService) (text_verdict o))) ≡ true
    → (beacons ≡ false) × (pixels ≡ false)
passes_served true pixels o e = absurd (cc)
passes_served false true o e = absurd (cc)
passes_served false false o e = (refl, refl)

row_served : (services : Services) (face : FaceModel) (row : RowModel) → row_may_stand services face row ≡ true → IsServedWhereValid services row
row_served services face row e = λ valid.
    let parts = and_parts (is_valid row.status && has_ranges row) (passes (verdict_of services face row)) e in
    let both = passes_served (row.beacon == 1 && not services.beacon) (row.pixel == 1 && not services.pixel) (fault_of face row.text) parts.1 in
    record { has_beacon = both.0; has_pixel = both.1 }

rows_served : (services : Services) (face : FaceModel) (rows : List RowModel) → list_all (row_may_stand services face) rows ≡ true
    → AllByRecursion (IsServedWhereValid services) rows
rows_served services face [] e = tt
rows_served services face (row ∷ rows) e =
    let parts = and_parts (row_may_stand services face row) (list_all (row_may_stand services face) rows) e in
    (row_served services face row parts.0, rows_served services face rows parts.1)

unused_served : (services : Services) (n : ℕ) → AllByRecursion (IsServedWhereValid services) (replicate n unused)
unused_served services zero = tt
unused_served services (suc n) = (λ valid. absurd (cc), unused_served services n)

each_served : (services : Services) (table : TableModel) (memory : Option Memory) → AllByRecursion (IsServedWhereValid services) table.permanent
    → AllByRecursion (IsServedWhereValid services) table.changeable → AllByRecursion (IsServedWhereValid services) table.volatile
    → AllByRecursion (IsServedWhereValid services) (rows_by table memory)
each_served services table (Some Permanent) permanent changeable volatile = permanent
each_served services table (Some Changeable) permanent changeable volatile = changeable
each_served services table (Some Volatile) permanent changeable volatile = volatile
each_served services table (Some CurrentBuffer) permanent changeable volatile = tt
each_served services table (Some Blank) permanent changeable volatile = tt
each_served services table None permanent changeable volatile = tt

if_there : {A : Type 0} (P : A → Type 0) (o : Option A) (x : A) → o ≡ Some x → IfSome o P → P x
if_there P None x e some = absurd (cc)
if_there P (Some y) x e some = subst P (same_Some y x e) some

served_at : (services : Services) (rows : List RowModel) (number : ℕ) (row : RowModel) → AllByRecursion (IsServedWhereValid services) rows
    → numbered rows number ≡ Some row → IsServedWhereValid services row
served_at services rows number row all there =
    if_there (IsServedWhereValid services) (numbered rows number) row there
    (if_either (IsServedWhereValid services) (number == 0) None (slice_get rows (number - 1)) tt (if_at (IsServedWhereValid services) rows (number - 1) all))

-- what a sign can be made of
record IsBeginning (config : ConfigModel) (table : TableModel) : Type 0 where
  rows : list_all (row_may_stand table.services config.face) table.permanent ≡ true
  changeable : table.changeable ≡ replicate (length table.changeable) unused
  volatile : table.volatile ≡ replicate (length table.volatile) unused

start_served : (config : ConfigModel) (table : TableModel) → IsBeginning config table → AreServed table
start_served config table is = λ memory number row there valid.
    served_at table.services (rows_of table memory) number row
    (each_served table.services table (memory_of memory) (rows_served table.services config.face table.permanent is.rows)
    (subst (AllByRecursion (IsServedWhereValid table.services)) (sym is.changeable) (unused_served table.services (length table.changeable)))
    (subst (AllByRecursion (IsServedWhereValid table.services)) (sym is.volatile) (unused_served table.services (length table.volatile)))) there valid

start_reached : (config : ConfigModel) (table : TableModel) → IsSignInRange (start config table) → HasFitDefaults (start config table) → IsBeginning config table
    → IsReached (start config table) (start config table)
start_reached config table in_range fits is =
    let up : IsPutUp true (start config table).shown = record { by_source = refl; mode = refl; power = refl; time = refl } in
    let standing : IsStanding config.face table (start config table).shown = record {
      named = refl;
      served = record { has_beacon = refl; has_pixel = refl };
      fits = fits;
      good = no_fault_of (under config.face config.face.defaults) [] (empty_is_good (under config.face config.face.defaults));
      checksum = refl;
    } in
    record {
      alike = record { config = refl; permanent = refl; changeable = refl; volatile = refl; services = refl; order = refl };
      in_range = in_range;
      fits = fits;
      one = record {
        one = omega (arith, ap count is.changeable, ap count is.volatile, none_unused (length table.changeable), none_unused (length table.volatile));
      };
      is_held = record {
        rows = record {
          changeable_count = refl;
          volatile_count = refl;
          changeable_empty = subst AreEmptyWhereUnused (sym is.changeable) (unused_empty (length table.changeable));
          volatile_empty = subst AreEmptyWhereUnused (sym is.volatile) (unused_empty (length table.volatile));
        };
        shown = up;
        kept = up;
        reports = record { validate = refl; activate = refl; syntax_told = refl; place = refl };
      };
      served = start_served config table is;
      shown = standing;
      kept = standing;
    }

-- ---- what a configuration without a fault says

faultless_test : {A : Type 0} (test : Bool) (others : Option A) (fault : A) → cond test others (Some fault) ≡ None → others ≡ None
faultless_test true others fault e = e
faultless_test false others fault e = absurd (cc)

rows_stand : (face : FaceModel) (stock : Stock) → stock_fault face stock ≡ None → list_all (row_may_stand (services_of stock) face) (table_of stock).permanent ≡ true
rows_stand face stock e =
    let messages = stock.permanent.now in
    let place : Option ℕ = position (may_not_stand (services_of stock) face) messages in
    let none : place ≡ None = mapped_none permanent_fault place (faultless_test (are_counts stock) (option_map permanent_fault place) _ e) in
    let each = none_passes (may_not_stand (services_of stock) face) messages none in
    list_all-map (row_may_stand (services_of stock) face) permanent_row messages
    ∙ list_all-from_AllPass (may_stand (services_of stock) face) messages (λ k d within. not-false _ (each k d within))

config_begins : (config : Config) → config_fault config ≡ None → IsBeginning (config_of config) (table_of config.stock)
config_begins config e =
    let none : stock_fault config.face config.stock ≡ None =
    mapped_none config_faults.Table (stock_fault config.face config.stock)
    (faultless_test (are_communities config.reader.now config.writer.now) (option_map config_faults.Table (stock_fault config.face config.stock)) _ e) in
    let stocked = faultless_is_stocked config.face config.stock none in
    record { rows = rows_stand config.face config.stock none; changeable = stocked.changeable; volatile = stocked.volatile }

can_begin : (config : ConfigModel) (table : TableModel) → CanBeMade config table → IsBeginning config table
can_begin config table can = record { rows = can.rows; changeable = can.changeable_unused; volatile = can.volatile_unused }

-- ---- each of them is put back

reached_is_put : AreIdsOfOctets → (config : ConfigModel) (table : TableModel) (s : SignState) → IsBeginning config table → IsReached (start config table) s
    → IsPut (start config table) (text_of_state s) s
unfolding text_of_state
reached_is_put ids config table s begins is =
    let faultless : IsFaultless s = record {
      in_range = is.in_range;
      fits = is.fits;
      one = is.one;
      changeable_empty = is.is_held.rows.changeable_empty;
      volatile_empty = is.is_held.rows.volatile_empty;
      served = is.served;
      up = is.is_held.shown;
      up_at_power_loss = is.is_held.kept;
      shown = is.shown;
      kept = is.kept;
      reports = is.is_held.reports;
    } in
    record {
      fields = fields_of s;
      said = (fields_in_range s is.in_range, refl);
      taken_up = taken_back ids (start config table) s is.alike begins.changeable begins.volatile (can_be_taken_up s faultless);
    }

reached_is_restored : AreIdsOfOctets → (config : Config) (s : SignState) → config_fault config ≡ None → IsReached (made config) s → IsRestored config (text_of_state s) s
reached_is_restored ids config s none is =
    record { possible = none; state = reached_is_put ids (config_of config) (table_of config.stock) s (config_begins config none) is }

-- the sign of a configuration as it is made, of which its type says the rest
pub record IsFirst (first : SignState) : Type 0 where
  pub in_range : IsSignInRange first
  pub fits : HasFitDefaults first

made_reached : (config : Config) (first : SignState) → IsFirst first → config_fault config ≡ None → first ≡ made config → IsReached (made config) first
made_reached config first is none e =
    subst (IsReached (made config)) (sym e)
    (start_reached (config_of config) (table_of config.stock) (subst IsSignInRange e is.in_range) (subst HasFitDefaults e is.fits) (config_begins config none))

pub each_is_restored : AreIdsOfOctets → (first : SignState) → IsFirst first → (config : Config) (events : List SignEvent) → config_fault config ≡ None → first ≡ made config
    → IsRestored config (text_of_state (after_events first events)) (after_events first events)
each_is_restored ids first is config events none e =
    reached_is_restored ids config (after_events first events) none (events_reached (made config) first events (made_reached config first is none e))

pub each_is_put : AreIdsOfOctets → (first : SignState) → IsFirst first → (config : ConfigModel) (table : TableModel) (events : List SignEvent) → CanBeMade config table
    → first ≡ start config table → IsPut first (text_of_state (after_events first events)) (after_events first events)
each_is_put ids first is config table events can e =
    let begins = can_begin config table can in
    let in_range = subst IsSignInRange e is.in_range in
    let fits = subst HasFitDefaults e is.fits in
    subst (λ first. IsPut first (text_of_state (after_events first events)) (after_events first events)) (sym e)
    (reached_is_put ids config table (after_events (start config table) events) begins
    (events_reached (start config table) (start config table) events (start_reached config table in_range fits begins)))

-- ---- runs over saves

lead_on : TellApart → AreIdsOfOctets → (config : Config) (s last : SignState) (steps : List RunStep) → config_fault config ≡ None → IsReached (made config) s
    → Lead config s steps last → last ≡ after_events s (events_in steps)
lead_on apart ids config s last [] none is lead = lead
lead_on apart ids config s last (comes event ∷ steps) none is lead =
    lead_on apart ids config (after_event s event) last steps none (event_reached (made config) s event is) lead
lead_on apart ids config s last (saves ∷ steps) none is lead =
    let same : lead.0 ≡ s = one_restored apart config (text_of_state s) lead.0 s lead.1 (reached_is_restored ids config s none is) in
    lead_on apart ids config s last steps none is (subst (λ again. Lead config again steps last) same lead.2)

leads : AreIdsOfOctets → (config : Config) (s : SignState) (steps : List RunStep) → config_fault config ≡ None → IsReached (made config) s
    → Lead config s steps (after_events s (events_in steps))
leads ids config s [] none is = refl
leads ids config s (comes event ∷ steps) none is = leads ids config (after_event s event) steps none (event_reached (made config) s event is)
leads ids config s (saves ∷ steps) none is = (s, reached_is_restored ids config s none is, leads ids config s steps none is)

pub saves_leave_runs : TellApart → AreIdsOfOctets → (first : SignState) → IsFirst first → (config : Config) (steps : List RunStep) (last : SignState)
    → config_fault config ≡ None → first ≡ made config → Lead config first steps last ↔ (last ≡ after_events first (events_in steps))
saves_leave_runs apart ids first is config steps last none e =
    let reached = made_reached config first is none e in (
      lead_on apart ids config first last steps none reached,
      λ same. subst (Lead config first steps) (sym same) (leads ids config first steps none reached),
    )
