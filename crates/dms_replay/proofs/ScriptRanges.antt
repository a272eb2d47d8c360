-- A script's commands are in the ranges of their types, and the world that it begins with is fresh.
use Rattle.std.proofs.Common.{◌≡◌, ℕ, zero, suc, ◌<◌, ◌≤◌, ◌^◌, List, [], ◌∷◌, ◌++◌, Some, slice_get, refl, subst, arith}
use Rattle.std.specs.List.{AllByRecursion}
use Rattle.std.specs.Int.Digits.{AllBelowBase}
use Rattle.std.proofs.lemmas.Option.{none-some, same_Some}
use Rattle.std.proofs.lemmas.List.Elements.{All-from_recursion}
use Rattle.dms_text.specs.Lines.{kept_lines}
use Rattle.dms_text.specs.Words.{words_of}
use Rattle.dms_face.specs.declared.defaults.Defaults.{Defaults}
use Rattle.dms_sign_access.specs.Ranges.{AreDefaultsInRange}
use Rattle.dms_table.specs.Rows.{RowModel}
use Rattle.dms_codes.specs.declared.codes.Order.{Order}
use Rattle.dms_sign.specs.InRange.{IsMadeOfOctets}
use Rattle.dms_centre_jobs.specs.Commands.{CommandModel, Publish, Blank, Activate, IsAddress, IsPublication, IsCommand, OfPublish, OfBlank, OfActivate}
use Rattle.dms_centre_jobs.specs.Job.{PublicationModel}
use Rattle.dms_world.specs.Event.{EventModel, command, sign_tick, centre_tick, to_sign, to_centre, power_lost, power_back, centre_restart, forge_sign, forge_centre}
use Rattle.dms_world.specs.World.{IsFresh}
use Rattle.dms_world.specs.Headline.{IsEvent, AreEvents}
use Rattle.dms_sign_text.specs.BenchSign.{bench_text}
use Rattle.dms_sign_text.specs.Description.{Description, SpellsSign, SpellsPermanentLine, numbers_of}
use Rattle.dms_text_forms.specs.Fields.{SpellsEach, SpellsOctet, SpellsAddress, SpellsAddressPart}
use Rattle.dms_sign_text.proofs.BenchValue.{bench_sign}
use Rattle.dms_sign_text.proofs.BenchText.{spells_the_bench_sign}
use Rattle.dms_sign_text.proofs.DescriptionLaws.{one_sign}
use Rattle.dms_centre_text.specs.CommandLine.{SpellsPublication, SpellsCommand}
use Rattle.dms_replay.specs.EventLine.{SpellsEvent, SpellsEventWords}
use Rattle.dms_replay.specs.Script.{NamesSign, the_bench, described, SpellsScript, beginning_of}
use Rattle.dms_replay.proofs.BenchFresh.{bench_is_fresh}
use Rattle.dms_replay.proofs.SpelledOctets.{lines_are_octets, words_are_octets, spelled_octets}

-- ---- commands

small : (numbers : List ℕ) (words : List (List ℕ)) → SpellsEach SpellsAddressPart numbers words → AllByRecursion (λ octet. octet < 2 ^ 8) numbers
small [] words each = tt
small (number ∷ numbers) [] each = absurd each
small (number ∷ numbers) (word ∷ words) each = (omega (arith, each.0.small), small numbers words each.1)

is_address : (address word : List ℕ) → SpellsAddress address word → IsAddress address
is_address address word spelled =
    record { size = spelled.four; octets = All-from_recursion (λ octet. octet < 2 ^ 8) address (small address _ spelled.parts) }

is_publication : (p : PublicationModel) (words : List (List ℕ)) → SpellsPublication p words → IsPublication p
is_publication p words spelled = record {
  memory = omega (arith, spelled.memory.greatest);
  number = omega (arith, spelled.number.greatest);
  text = spelled_octets p.text spelled.text_word spelled.text;
  owner = spelled_octets p.owner spelled.owner_word spelled.owner;
  beacon = omega (arith, spelled.beacon.greatest);
  pixel = omega (arith, spelled.pixel.greatest);
  run_priority = omega (arith, spelled.run_priority.greatest);
  minutes = omega (arith, spelled.minutes.greatest);
  priority = omega (arith, spelled.priority.greatest);
  address = is_address p.address spelled.address_word spelled.address;
}

is_command : (order : Order) (asked : CommandModel) (words : List (List ℕ)) → SpellsCommand order asked words → IsCommand asked
is_command order (Publish publication) words spelled = OfPublish publication (is_publication publication words spelled)
is_command order (Blank number minutes priority address) words spelled =
    OfBlank number minutes priority address (omega (arith, spelled.has_number.greatest)) (omega (arith, spelled.has_minutes.greatest))
    (omega (arith, spelled.has_priority.greatest)) (is_address address spelled.address_word spelled.has_address)
is_command order (Activate code) words spelled = OfActivate code spelled.spelled.is_code

is_event : (order : Order) (event : EventModel) (words : List (List ℕ)) → SpellsEventWords order event words → IsEvent event
is_event order (command asked) words spelled = is_command order asked words spelled
is_event order sign_tick words spelled = tt
is_event order centre_tick words spelled = tt
is_event order (to_sign place) words spelled = tt
is_event order (to_centre place) words spelled = tt
is_event order power_lost words spelled = tt
is_event order (power_back seconds) words spelled = tt
is_event order centre_restart words spelled = tt
is_event order (forge_sign datagram) words spelled = tt
is_event order (forge_centre datagram) words spelled = tt

event_there : (order : Order) (events : List EventModel) (lines : List (List ℕ)) → SpellsEach (SpellsEvent order) events lines
    → (place : ℕ) (event : EventModel) → slice_get events place ≡ Some event → IsEvent event
event_there order [] lines each place event there = absurd (none-some event there)
event_there order (first ∷ events) [] each place event there = absurd each
event_there order (first ∷ events) (line ∷ lines) each zero event there =
    subst IsEvent (same_Some first event there) (is_event order first (words_of line) each.0)
event_there order (first ∷ events) (line ∷ lines) each (suc place) event there = event_there order events lines each.1 place event there

pub are_events : (order : Order) (events : List EventModel) (lines : List (List ℕ)) → SpellsEach (SpellsEvent order) events lines → AreEvents events
are_events order events lines each = λ asked has. event_there order events lines each has.0 (command asked) has.1

-- ---- a sign that is described

at_most : (numbers : List ℕ) (words : List (List ℕ)) → SpellsEach SpellsOctet numbers words → AllByRecursion (λ number. number ≤ 255) numbers
at_most [] words each = tt
at_most (number ∷ numbers) [] each = absurd each
at_most (number ∷ numbers) (word ∷ words) each = (each.0.greatest, at_most numbers words each.1)

are_defaults : (d : Defaults) (words : List (List ℕ)) → SpellsEach SpellsOctet (numbers_of d) words → AreDefaultsInRange d
are_defaults d words each =
    let all = at_most (numbers_of d) words each in
    record {
      background = all.0;
      foreground = all.1.0;
      flash_on = all.1.1.0;
      flash_off = all.1.1.1.0;
      font = all.1.1.1.1.0;
      line = all.1.1.1.1.1.0;
      page = all.1.1.1.1.1.1.0;
      on = all.1.1.1.1.1.1.1.0;
      off = all.1.1.1.1.1.1.1.1.0;
    }

texts : (rows : List RowModel) (lines : List (List ℕ)) → SpellsEach SpellsPermanentLine rows lines
    → AllByRecursion (λ (row : RowModel). AllBelowBase 256 row.text) rows
texts [] lines each = tt
texts (row ∷ rows) [] each = absurd each
texts (row ∷ rows) (line ∷ lines) each = (spelled_octets row.text each.0.text_word each.0.text, texts rows lines each.1)

owners : (rows : List RowModel) (lines : List (List ℕ)) → SpellsEach SpellsPermanentLine rows lines
    → AllByRecursion (λ (row : RowModel). AllBelowBase 256 row.owner) rows
owners [] lines each = tt
owners (row ∷ rows) [] each = absurd each
owners (row ∷ rows) (line ∷ lines) each = (spelled_octets row.owner each.0.owner_word each.0.owner, owners rows lines each.1)

abbrev Each : List (List ℕ) → Type 0
Each lists = AllByRecursion (AllBelowBase 256) lists

first_part : (lines others : List (List ℕ)) → Each (lines ++ others) → Each lines
first_part [] others all = tt
first_part (line ∷ lines) others all = (all.0, first_part lines others all.1)

made_of_octets : (lines : List (List ℕ)) (it : Description) → Each lines → SpellsSign lines it → IsMadeOfOctets it.config it.table
made_of_octets lines it all spelled =
    let each = subst Each spelled.lines_are all in
    let communities = subst Each spelled.communities (words_are_octets spelled.communities_line each.1.0) in
    record {
      reader = communities.1.0;
      writer = communities.1.1.0;
      defaults = are_defaults it.config.face.defaults spelled.defaults.number_words spelled.defaults.numbers;
      texts = All-from_recursion (λ (row : RowModel). AllBelowBase 256 row.text) it.table.permanent (texts it.table.permanent spelled.permanent_lines spelled.permanent);
      owners = All-from_recursion (λ (row : RowModel). AllBelowBase 256 row.owner) it.table.permanent (owners it.table.permanent spelled.permanent_lines spelled.permanent);
    }

described_is_fresh : (lines : List (List ℕ)) (it : Description) → Each lines → SpellsSign lines it → IsFresh (beginning_of it)
described_is_fresh lines it all spelled =
    let made = made_of_octets lines it all spelled in
    record {
      config = it.config;
      table = it.table;
      settings = record { community = it.config.writer; order = it.table.order };
      first = it.first;
      can_be_made = spelled.can_be_made;
      made_of_octets = made;
      are_settings = record { size = spelled.can_be_made.writer; octets = made.writer };
      is_beginning = refl;
    }

named_is_fresh : (lines : List (List ℕ)) (it : Description) → Each lines → NamesSign lines it → IsFresh (beginning_of it)
named_is_fresh lines it all (the_bench sign spelled) =
    subst (λ (sign : Description). IsFresh (beginning_of sign)) (one_sign (kept_lines bench_text) bench_sign sign spells_the_bench_sign spelled) bench_is_fresh
named_is_fresh lines it all (described these sign spelled) = described_is_fresh these sign all spelled

-- ---- scripts

pub script_is_fresh : (octets : List ℕ) (it : Description) (events : List EventModel) → AllBelowBase 256 octets → SpellsScript octets it events
    → IsFresh (beginning_of it)
script_is_fresh octets it events all spelled =
    let lines = subst Each spelled.lines_are (lines_are_octets octets all) in
    named_is_fresh spelled.sign_lines it (first_part spelled.sign_lines spelled.event_lines lines) spelled.names

pub script_ranges : (octets : List ℕ) (it : Description) (events : List EventModel) → SpellsScript octets it events → AreEvents events
script_ranges octets it events spelled = are_events it.table.order events spelled.event_lines spelled.spelled
