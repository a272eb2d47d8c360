-- The events of a list of lines, run one line after another.
use Rattle.std.proofs.Common.{◌≡◌, ℕ, ◌+◌, ◌≤◌, true, List, [], ◌∷◌, ◌++◌, length, Option, Some, None, is_some, refl, sym, ap, ◌∙◌, arith}
use Rattle.std.proofs.lemmas.List.{length-append}
use Rattle.dms_text.specs.declared.lines.Line.{Line}
use Rattle.dms_text.specs.Lines.{NumberedLine}
use Rattle.dms_text.specs.Views.{numbered_line}
use Rattle.dms_text.proofs.LineFilter.{octets_of_lines}
use Rattle.dms_codes.specs.declared.codes.Order.{Order}
use Rattle.dms_world.specs.Event.{EventModel}
use Rattle.dms_world.specs.World.{WorldModel, happens, happens_if, world_after}
use Rattle.dms_world.proofs.Runs.{after_one_more}
use Rattle.dms_replay.specs.EventReading.{event_of}
use Rattle.dms_replay.specs.ScriptRun.{AreRun}
use Rattle.dms_replay.proofs.EventsRead.{AreReadTo, none_to, one_more_to, all_to, memory_names}

-- the lines from the first on are run up to those that are left
pub record AreRunTo (order : Order) (start left : List NumberedLine) (before now : WorldModel) (count : ℕ) : Type 0 where
  pub events : List EventModel
  pub to : AreReadTo order start left events
  pub world_is : now ≡ world_after before events
  pub count_is : count ≡ length events
  pub lines_are : count + length left ≡ length start

pub none_run : (order : Order) (start : List NumberedLine) (before : WorldModel) → AreRunTo order start start before before 0
none_run order start before = record { events = []; to = none_to order start; world_is = refl; count_is = refl; lines_are = omega arith }

more_run : (order : Order) (start left next : List NumberedLine) (line : Line) (before now then : WorldModel) (count : ℕ) (found : Option EventModel)
    → AreRunTo order start left before now count → left ≡ numbered_line line ∷ next → found ≡ event_of order line.octets.now → is_some found ≡ true
    → then ≡ happens_if (count + 1) now found → AreRunTo order start next before then (count + 1)
more_run order start left next line before now then count None run split is some happened = absurd (cc)
more_run order start left next line before now then count (Some event) run split is some happened =
    let size : length left ≡ length next + 1 = omega (arith, ap length split) in
    record {
      events = run.events ++ event ∷ [];
      to = one_more_to order start left next line run.events event run.to split is;
      world_is =
          happened ∙ ap (λ n. happens (n + 1) now event) run.count_is ∙ ap (λ world. happens (length run.events + 1) world event) run.world_is
          ∙ sym (after_one_more before run.events event);
      count_is = omega (arith, run.count_is, length-append run.events (event ∷ []));
      lines_are = omega (arith, run.lines_are, size);
    }

pub one_more_run : (order : Order) (start left next : List NumberedLine) (line : Line) (before now then : WorldModel) (count : ℕ)
    → AreRunTo order start left before now count → left ≡ numbered_line line ∷ next → is_some (event_of order line.octets.now) ≡ true
    → then ≡ happens_if (count + 1) now (event_of order line.octets.now) → AreRunTo order start next before then (count + 1)
one_more_run order start left next line before now then count run split some happened =
    more_run order start left next line before now then count (event_of order line.octets.now) run split refl some happened

pub all_run : (order : Order) (start left : List NumberedLine) (before now : WorldModel) (count : ℕ) → AreRunTo order start left before now count → left ≡ []
    → AreRun order (octets_of_lines start) before now count
all_run order start left before now count run end = record {
  events = run.events;
  spelled = all_to order start left run.events run.to end;
  world_is = run.world_is;
  count_is = run.count_is;
}

-- where a line is left, there are no more events before it than other lines
pub room_for_one_more : (order : Order) (start left next : List NumberedLine) (line : Line) (before now : WorldModel) (count : ℕ) → AreRunTo order start left before now count
    → left ≡ numbered_line line ∷ next → count + 1 ≤ length start
room_for_one_more order start left next line before now count run split =
    let size : length left ≡ length next + 1 = omega (arith, ap length split) in
    omega (arith, run.lines_are, size)

pub ruleset events_run = (none_run, one_more_run, all_run, room_for_one_more, memory_names)
