-- What a change of some fields leaves whole.
use Rattle.std.proofs.Common.{◌≡◌, ℕ, ◌+◌, ◌<◌, ◌≤◌, true, List, Option, Some, None, Result, Ok, Err, length, sym, subst, ap, ◌∙◌, arith}
use Rattle.std.specs.Option.{IfSome}
use Rattle.std.specs.Prelude.{All, IsTrue}
use Rattle.std.specs.Int.Digits.{AllBelowBase}
use Rattle.dms_face.specs.Layout.{under}
use Rattle.dms_face.specs.declared.defaults.Defaults.{Defaults}
use Rattle.dms_face.specs.Face.{FaceModel, fit}
use Rattle.dms_codes.specs.declared.codes.Order.{Order}
use Rattle.dms_table.specs.Stock.{HasOctets}
use Rattle.dms_codes.specs.Memory.{current_buffer}
use Rattle.dms_codes.specs.declared.codes.MessageId.{MessageId}
use Rattle.dms_codes.specs.declared.codes.Activation.{Activation}
use Rattle.dms_codes.specs.Codes.{octets_of_id, id_of, octets_of_activation, IsMessageId}
use Rattle.dms_table.specs.declared.activation.Cause.{Cause}
use Rattle.dms_table.specs.declared.validation.Verdict.{Verdict}
use Rattle.dms_table.specs.Rows.{TableModel, after_power}
use Rattle.dms_table.specs.declared.writable.Writable.{Writable}
use Rattle.dms_table.specs.declared.writable.RowPlace.{RowPlace}
use Rattle.dms_table.specs.PlaceView.{of_type, IsOnly, IsPlaced}
use Rattle.dms_table.proofs.Places.{only_of_type}
use Rattle.dms_table.specs.Validation.{settled, verdict}
use Rattle.dms_table.specs.Activation.{ShownModel, shown_by, refusal, unless_refused, decided}
use Rattle.dms_sign_access.specs.declared.reports.Reports.{Reports}
use Rattle.dms_sign.specs.declared.sign.Sign.TheInside.{Inside}
use Rattle.dms_sign.specs.Communities.{are_communities}
use Rattle.dms_table.specs.Activation.{blank_id, blank_shown}
use Rattle.dms_table.specs.Activation.{blank_octets}
use Rattle.dms_sign.specs.State.{ConfigModel, SignState, start, power_recovery_mode}
use Rattle.dms_sign.specs.Kept.{IsKept}
use Rattle.dms_sign_access.specs.declared.settings.SignSettings.{SignSettings}
use Rattle.dms_sign_access.specs.Settings.{first_settings}
use Rattle.dms_sign_access.specs.Reports.{first_reports}
use Rattle.dms_sign.specs.OwnCodes.{showing, with_refused_code, own_activation, put_up_as_decided, put_up_code}
use Rattle.dms_sign_access.specs.Reports.{settled_reports}
use Rattle.dms_sign_access.specs.Reports.{IsCauseInRange}
use Rattle.dms_sign_access.specs.Ranges.{AreDefaultsInRange}
use Rattle.dms_sign.specs.InRange.{IsStocked, IsTableInRange, IsShownInRange, IsSignInRange}
use Rattle.dms_sign.specs.declared.known_texts.KnownTexts.{KnownTexts}
use Rattle.dms_sign.specs.KnownTexts.{first_entry, HasRoom, noted, AreKnown}
use Rattle.dms_sign.specs.SignView.{state_of, IsWhole}
use Rattle.dms_table.proofs.Decisions.{accepted_decision, refused_decision}
use Rattle.dms_table.proofs.Places.{placed_settling}
use Rattle.dms_table.proofs.Settlement.{nothing_settled, no_verdict}
use Rattle.dms_sign.specs.Events.{after_settling}
use Rattle.dms_sign.proofs.InRangeShown.{telling_in_range, with_table_in_range, with_mode, own_is, id_is, IsDecisionInRange, decided_in_range}
use Rattle.dms_sign.proofs.KnownTexts.{HasEntries, only_within, known_kept, known_settled}
use Rattle.dms_sign.proofs.StepRows.{after_power_keeps}
use Rattle.dms_sign.proofs.InRangeStart.{start_in_range, stocked_in_range}
use Rattle.dms_sign.proofs.InRangeEvents.{IsVerdictInRange, settled_in_range, settled_verdict, verdict_reported, restored_in_range}

pub shown_whole : (old : Inside) (shown : ShownModel) (source : List ℕ) → IsWhole old → IsShownInRange shown
    → source ≡ octets_of_id old.table.order shown.source → IsWhole (record old { shown = shown; source = source })
shown_whole old shown source is range octets = grind arith

placed : (o : Option Verdict) → IfSome o IsVerdictInRange → IfSome o (λ v. IfSome v.fault (λ f. f.place ≤ 512))
placed o is = grind arith

pub verdict_placed : (s : SignState) (o : Option Verdict) → o ≡ verdict (under s.config.face s.settings.defaults) s.table
    → IfSome o (λ v. IfSome v.fault (λ f. f.place ≤ 512))
verdict_placed s o e = grind (arith, placed, settled_verdict)

settled_as_reported : (old : Inside) (table : TableModel) (reports : Reports) → IsWhole old
    → table ≡ settled (under old.face old.settings.defaults) old.table
    → reports ≡ settled_reports old.reports (verdict (under old.face old.settings.defaults) old.table)
    → IsSignInRange (state_of (record old { table = table; reports = reports }))
settled_as_reported old table reports is t r = grind (arith, verdict_reported, settled_verdict, telling_in_range, with_table_in_range, settled_in_range)

-- there is room for what becomes known of the row that is being validated
room_by : (memory : Writable) (index : ℕ) (table : TableModel) → IsTableInRange table → IsOnly index (of_type memory table.changeable table.volatile)
    → first_entry memory + index < 80
room_by memory index table is only = grind (arith, only_within)

pub room_for : (place : RowPlace) (table : TableModel) → IsTableInRange table → IsPlaced (Some place) table.changeable table.volatile → HasRoom place
room_for place table is placed = room_by place.memory place.index table is (only_of_type place table.changeable table.volatile placed)

-- where no row is being validated, the second settles none
pub unsettled : (s : SignState) → IsPlaced None s.table.changeable s.table.volatile → s ≡ after_settling s
unfolding after_settling
unsettled s nowhere =
    let face : FaceModel = under s.config.face s.settings.defaults in
    let none = placed_settling None s.table nowhere in
    ap (λ (table : TableModel). record s { table = table }) (nothing_settled face s.table none)
    ∙ ap (λ (o : Option Verdict). record s { table = settled face s.table; reports = settled_reports s.reports o }) (no_verdict face s.table none)

entries_there : (old : Inside) → IsWhole old → length old.known.rows ≡ 80 → HasEntries old.known old.table
entries_there old is entries = grind arith

pub settled_whole : (old : Inside) (place : RowPlace) (table : TableModel) (o : Option Verdict) (reports : Reports) (known : KnownTexts) → IsWhole old
    → length old.known.rows ≡ 80 → IsPlaced (Some place) old.table.changeable old.table.volatile
    → table ≡ settled (under old.face old.settings.defaults) old.table → o ≡ verdict (under old.face old.settings.defaults) old.table
    → reports ≡ settled_reports old.reports o → known ≡ noted old.known place old.settings.defaults
    → IsWhole (record old { table = table; reports = reports; known = known })
settled_whole old place table o reports known is entries placed t v r n = record {
  kept = record {
    in_range = settled_as_reported old table reports is t (r ∙ ap (settled_reports old.reports) v);
    fit = is.kept.fit;
    communities = is.kept.communities;
  };
  source = is.source ∙ ap (λ (t : TableModel). octets_of_id t.order old.shown.source) (sym t);
  known = subst (λ (known : KnownTexts). AreKnown known old.face table) (sym n)
      (subst (AreKnown (noted old.known place old.settings.defaults) old.face) (sym t)
      (known_settled place old.known old.face old.settings.defaults old.table (entries_there old is entries) placed is.known));
}

pub restored_whole : (old : Inside) (table : TableModel) (shown : ShownModel) (source : List ℕ) → IsWhole old → table ≡ after_power old.table
    → shown ≡ old.shown_at_power_loss → source ≡ octets_of_id table.order shown.source
    → IsWhole (record old { table = table; shown = shown; source = source; powered = true; silent_seconds = 0 })
restored_whole old table shown source is t e octets = record {
  kept = record {
    in_range = subst (λ s. IsSignInRange s)
        (ap (λ (t : TableModel). record (state_of old) { table = t; shown = old.shown_at_power_loss; powered = true; silent_seconds = 0 }) (sym t)
        ∙ ap (λ (shown : ShownModel). record (state_of old) { table = table; shown = shown; powered = true; silent_seconds = 0 }) (sym e))
        (restored_in_range (state_of old) is.kept.in_range);
    fit = is.kept.fit;
    communities = is.kept.communities;
  };
  source = octets;
  known = subst (AreKnown old.known old.face) (sym t)
      (known_kept old.known old.face old.table (after_power old.table) (after_power_keeps old.table) is.known);
}

-- ---- codes of the sign's own

own_decision : (s : SignState) (octets : List ℕ) (id : MessageId) (code : Activation) → IsSignInRange s → AllBelowBase 256 octets
    → id ≡ id_of s.table.order octets → code ≡ own_activation id → IsDecisionInRange (decided s.config.face s.settings.defaults s.table s.shown code)
own_decision s octets id code is below e own =
    let known : IsMessageId id = subst IsMessageId (sym e) (id_is s.table.order octets below) in
    subst (λ code. IsDecisionInRange (decided s.config.face s.settings.defaults s.table s.shown code)) (sym own)
    (decided_in_range s.config.face s.settings.defaults s.table s.shown (own_activation id) is.settings.defaults is.table is.shown (own_is id known))

pub put_up_shown : {A : Type 0} (a : A) (s : SignState) (octets : List ℕ) (id : MessageId) (code : Activation) (mode : ℕ) → IsSignInRange s
    → AllBelowBase 256 octets → id ≡ id_of s.table.order octets → code ≡ own_activation id → mode ≤ 255
    → Ok a ≡ unless_refused a (refusal s.config.face s.settings.defaults s.table s.shown code)
    → IsShownInRange (record (shown_by s.settings.defaults s.table s.shown code) { mode = mode })
put_up_shown a s octets id code mode is below e own small ok =
    let up = shown_by s.settings.defaults s.table s.shown code in
    let decision : IsDecisionInRange (Ok up) =
    subst IsDecisionInRange (sym (accepted_decision a s.config.face s.settings.defaults s.table s.shown code ok)) (own_decision s octets id code is below e own)
    in
    with_mode up mode decision small

pub put_up_refused : {A : Type 0} (a : A) (s : SignState) (octets : List ℕ) (id : MessageId) (code : Activation) (cause : Cause) → IsSignInRange s
    → AllBelowBase 256 octets → id ≡ id_of s.table.order octets → code ≡ own_activation id
    → Err cause ≡ unless_refused a (refusal s.config.face s.settings.defaults s.table s.shown code) → IsCauseInRange cause
put_up_refused a s octets id code cause is below e own err =
    subst IsDecisionInRange (sym (refused_decision a s.config.face s.settings.defaults s.table s.shown code cause err)) (own_decision s octets id code is below e own)

-- what comes of a decision on a code that is not of the current buffer
own_as_decided : (s : SignState) (octets : List ℕ) (id : MessageId) (code : Activation) (mode : ℕ) (r : Result ShownModel Cause)
    → id ≡ id_of s.table.order octets → code ≡ own_activation id → (id.memory ≡ current_buffer → ⊥)
    → r ≡ decided s.config.face s.settings.defaults s.table s.shown code → put_up_as_decided s id mode r ≡ put_up_code s octets mode
unfolding put_up_code
own_as_decided s octets id code mode r i own other e = grind arith

pub own_accepted : {A : Type 0} (a : A) (s : SignState) (octets : List ℕ) (id : MessageId) (code : Activation) (mode : ℕ) → id ≡ id_of s.table.order octets
    → code ≡ own_activation id → (id.memory ≡ current_buffer → ⊥)
    → Ok a ≡ unless_refused a (refusal s.config.face s.settings.defaults s.table s.shown code)
    → showing s (record (shown_by s.settings.defaults s.table s.shown code) { mode = mode }) ≡ put_up_code s octets mode
own_accepted a s octets id code mode i own other e =
    own_as_decided s octets id code mode (Ok (shown_by s.settings.defaults s.table s.shown code)) i own other
    (accepted_decision a s.config.face s.settings.defaults s.table s.shown code e)

pub own_refused : {A : Type 0} (a : A) (s : SignState) (octets : List ℕ) (id : MessageId) (code : Activation) (mode : ℕ) (cause : Cause) (blank : ShownModel)
    (told : List ℕ) → id ≡ id_of s.table.order octets → code ≡ own_activation id → (id.memory ≡ current_buffer → ⊥)
    → Err cause ≡ unless_refused a (refusal s.config.face s.settings.defaults s.table s.shown code) → blank ≡ blank_shown s.settings.defaults mode
    → told ≡ octets_of_activation s.table.order code → with_refused_code (showing s blank) cause told ≡ put_up_code s octets mode
own_refused a s octets id code mode cause blank told i own other e b t =
    ap (λ (blank : ShownModel). with_refused_code (showing s blank) cause told) b
    ∙ ap (with_refused_code (showing s (blank_shown s.settings.defaults mode)) cause) (t ∙ ap (octets_of_activation s.table.order) own)
    ∙ own_as_decided s octets id code mode (Err cause) i own other (refused_decision a s.config.face s.settings.defaults s.table s.shown code cause e)

-- ---- a sign as it is made

pub blank_source : (order : Order) → blank_octets ≡ octets_of_id order blank_id
blank_source order = grind arith

pub made_kept : (config : ConfigModel) (table : TableModel) → config.face.width ≤ 256 → config.face.height ≤ 64 → IsTrue (fit config.face.fonts config.face.defaults)
    → IsTrue (are_communities config.reader config.writer) → AreDefaultsInRange config.face.defaults → AllBelowBase 256 config.reader → AllBelowBase 256 config.writer → IsStocked table → All HasOctets table.permanent
    → IsKept (start config table)
made_kept config table width height fits communities are reader writer stocked octets = record {
  in_range = start_in_range config table (record { width = width; height = height; reader = reader; writer = writer }) are
      (stocked_in_range config table stocked (record {
        reader = reader;
        writer = writer;
        defaults = are;
        texts = λ k d h. (octets k d h).text;
        owners = λ k d h. (octets k d h).owner;
      }));
  fit = fits;
  communities = communities;
}

pub made_state : (config : ConfigModel) (table : TableModel) (defaults : Defaults) (settings : SignSettings) (reports : Reports) (shown kept : ShownModel)
    → defaults ≡ config.face.defaults → settings ≡ first_settings defaults → reports ≡ first_reports
    → shown ≡ blank_shown defaults power_recovery_mode → kept ≡ blank_shown defaults power_recovery_mode → IsKept (start config table)
    → IsKept (record (start config table) {
      settings = settings;
      shown = shown;
      shown_at_power_loss = kept;
      reports = reports;
    })
made_state config table defaults settings reports shown kept d e r s k is = grind arith

pub made_source : (order : Order) (defaults : Defaults) (shown : ShownModel) → shown ≡ blank_shown defaults power_recovery_mode
    → blank_octets ≡ octets_of_id order shown.source
made_source order defaults shown s = blank_source order ∙ ap (λ (x : ShownModel). octets_of_id order x.source) (sym s)
