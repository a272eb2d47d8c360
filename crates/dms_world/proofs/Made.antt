-- Two ends as their constructors give them are a fresh world.
use Rattle.std.proofs.Common.{◌≡◌, ℕ, ◌&&◌, Bool, true, false, cond, not, List, [], ◌∷◌, Option, Some, None, option_map, refl, ap, ◌∙◌, subst}
use Rattle.std.specs.Prelude.{nat_eq}
use Rattle.std.specs.List.{AllByRecursion, list_all, position}
use Rattle.std.specs.Cmp.Lexicographic.{pointwise, bytes_decides}
use Rattle.std.specs.Int.Digits.{AllBelowBase}
use Rattle.std.proofs.lemmas.Bool.{and_parts, not-true, not-false, iff_false}
use Rattle.std.proofs.lemmas.List.Elements.{All-from_recursion}
use Rattle.std.proofs.lemmas.List.Sums.{list_all-from_AllPass}
use Rattle.std.proofs.lemmas.List.Folds.{list_all-map}
use Rattle.dms_codes.proofs.Loops.{none_passes}
use Rattle.dms_codes.proofs.Options.{mapped_none}
use Rattle.dms_face.specs.Face.{FaceModel, IsFace}
use Rattle.dms_table.specs.Rows.{RowModel, TableModel}
use Rattle.dms_table.specs.declared.stock.Permanent.{Permanent}
use Rattle.dms_table.specs.declared.stock.Stock.{Stock}
use Rattle.dms_table.specs.Stock.{permanent_row, permanent_fault, services_of, are_counts, stock_fault, table_of, may_not_stand, may_stand as message_may_stand}
use Rattle.dms_sign.specs.declared.config.Config.{Config}
use Rattle.dms_sign.specs.declared.config.ConfigFault.TheVariants as faults
use Rattle.dms_codes.specs.Limits.{has_community_size}
use Rattle.dms_sign.specs.Communities.{are_communities}
use Rattle.dms_sign.specs.Configuration.{config_of, config_fault}
use Rattle.dms_sign.specs.Construction.{CanBeMade, row_may_stand}
use Rattle.dms_sign.specs.State.{ConfigModel, SignState, start as sign_start}
use Rattle.dms_sign.specs.InRange.{IsMadeOfOctets, IsRowInRange, IsSignInRange}
use Rattle.dms_sign.proofs.InRangeStart.{faultless_is_stocked}
use Rattle.dms_centre.specs.State.{CentreState}
use Rattle.dms_centre_jobs.specs.Requests.{AreSettings}
use Rattle.dms_codes.specs.declared.codes.Activation.{Activation}
use Rattle.dms_world.specs.World.{WorldModel, IsFresh, beginning}
use Rattle.dms_world.specs.Construction.{IsNewSign, IsNewCentre}

-- ---- what a configuration without a fault says

-- no first fault, and none after it
record IsFaultless {A : Type 0} (test : Bool) (others : Option A) : Type 0 where
  passes : test ≡ true
  none : others ≡ None

faultless : {A : Type 0} (test : Bool) (others : Option A) (fault : A) → cond test others (Some fault) ≡ None → IsFaultless test others
faultless true others fault e = record { passes = refl; none = e }
faultless false others fault e = absurd (cc)

-- ---- permanent rows

rows_stand : (face : FaceModel) (stock : Stock) → stock_fault face stock ≡ None
    → list_all (row_may_stand (services_of stock) face) (table_of stock).permanent ≡ true
rows_stand face stock e =
    let messages : List Permanent = stock.permanent.now in
    let first : Option ℕ = position (may_not_stand (services_of stock) face) messages in
    let none : first ≡ None = mapped_none permanent_fault first (faultless (are_counts stock) (option_map permanent_fault first) _ e).none in
    let each = none_passes (may_not_stand (services_of stock) face) messages none in
    list_all-map (row_may_stand (services_of stock) face) permanent_row messages
    ∙ list_all-from_AllPass (message_may_stand (services_of stock) face) messages
    (λ k d within. not-false _ (each k d within))

-- ---- signs

can_be_made : (config : Config) → config_fault config ≡ None → IsFace config.face → CanBeMade (config_of config) (table_of config.stock)
can_be_made config e face =
    let reader : List ℕ = config.reader.now in
    let writer : List ℕ = config.writer.now in
    let is = faultless (are_communities reader writer) (option_map faults.Table (stock_fault config.face config.stock)) faults.Community e in
    let no_fault : stock_fault config.face config.stock ≡ None = mapped_none faults.Table (stock_fault config.face config.stock) is.none in
    let stocked = faultless_is_stocked config.face config.stock no_fault in
    let parts = and_parts (has_community_size reader && has_community_size writer) (not (pointwise nat_eq reader writer)) is.passes in
    let sizes = and_parts (has_community_size reader) (has_community_size writer) parts.0 in
    record {
      face = face.is_face;
      permanent = stocked.permanent_count;
      rows = rows_stand config.face config.stock no_fault;
      changeable = stocked.changeable_count;
      changeable_unused = stocked.changeable;
      volatile = stocked.volatile_count;
      volatile_unused = stocked.volatile;
      reader = sizes.0;
      writer = sizes.1;
      differ = iff_false (bytes_decides reader writer) (not-true _ parts.1);
    }

texts : (rows : List RowModel) → AllByRecursion IsRowInRange rows → AllByRecursion (λ (row : RowModel). AllBelowBase 256 row.text) rows
texts [] are = tt
texts (row ∷ rows) are = (are.0.text.below, texts rows are.1)

owners : (rows : List RowModel) → AllByRecursion IsRowInRange rows → AllByRecursion (λ (row : RowModel). AllBelowBase 256 row.owner) rows
owners [] are = tt
owners (row ∷ rows) are = (are.0.owner.below, owners rows are.1)

-- a sign in range was made of octets
made_of_octets : (config : ConfigModel) (table : TableModel) → IsSignInRange (sign_start config table) → IsMadeOfOctets config table
made_of_octets config table is = record {
  reader = is.config.reader;
  writer = is.config.writer;
  defaults = is.settings.defaults;
  texts = All-from_recursion (λ (row : RowModel). AllBelowBase 256 row.text) table.permanent (texts table.permanent is.table.permanent);
  owners = All-from_recursion (λ (row : RowModel). AllBelowBase 256 row.owner) table.permanent (owners table.permanent is.table.permanent);
}

-- ---- worlds

pub made_fresh : (sign : SignState) (centre : CentreState) → IsSignInRange sign → IsFace sign.config.face → AreSettings centre.settings
    → IsNewSign sign → IsNewCentre centre → IsFresh (beginning sign centre)
made_fresh sign centre range face settings new_sign new_centre =
    let config : ConfigModel = config_of new_sign.config in
    let table : TableModel = table_of new_sign.config.stock in
    record {
      config = config;
      table = table;
      settings = new_centre.settings;
      first = new_centre.first;
      can_be_made = can_be_made new_sign.config new_sign.faultless (subst (λ (s : SignState). IsFace s.config.face) new_sign.made face);
      made_of_octets = made_of_octets config table (subst IsSignInRange new_sign.made range);
      are_settings = subst (λ (c : CentreState). AreSettings c.settings) new_centre.made settings;
      is_beginning = ap (λ (s : SignState). beginning s centre) new_sign.made ∙ ap (beginning (sign_start config table)) new_centre.made;
    }

-- a world with no datagram and no activation
pub no_datagram_yet : (sign : SignState) (centre : CentreState) (to_sign to_centre : List (List ℕ)) (accepted : List (ℕ × Activation)) → to_sign ≡ []
    → to_centre ≡ [] → accepted ≡ []
    → ◌≡◌ {A = WorldModel} (beginning sign centre)
    (record { sign = sign; centre = centre; to_sign = to_sign; to_centre = to_centre; accepted = accepted })
no_datagram_yet sign centre to_sign to_centre accepted a b c = rw (a, b, c) refl
