-- The events of a list of lines, one line after another.
use Rattle.std.proofs.Common.{◌≡◌, ℕ, true, cond, List, [], ◌∷◌, ◌++◌, Option, Some, None, refl, sym, ap, subst, ◌∙◌, append_assoc}
use Rattle.std.proofs.lemmas.List.{append-nil}
use Rattle.std.specs.Prelude.{◌⊎◌}
use Rattle.std.proofs.Common.{inl, inr}
use Rattle.dms_sign_text.specs.declared.reading_fault.ReplayFault.{ReplayFault}
use Rattle.dms_sign_text.specs.declared.reading_fault.ReplayFault.TheVariants.{Memory}
use Rattle.dms_sign_text.specs.ReadingFaults.{IsLine}
use Rattle.dms_text.specs.declared.lines.Line.{Line}
use Rattle.dms_text.specs.Lines.{NumberedLine}
use Rattle.dms_text.specs.Views.{numbered_line}
use Rattle.dms_text.proofs.LineFilter.{octets_of_lines}
use Rattle.dms_codes.specs.declared.codes.Order.{Order}
use Rattle.dms_world.specs.Event.{EventModel}
use Rattle.dms_text_forms.specs.Fields.{SpellsEach}
use Rattle.dms_replay.specs.EventLine.{SpellsEvent}
use Rattle.dms_replay.specs.EventReading.{event_of}
use Rattle.dms_replay.specs.RefusedScript.{from_no_event, NamesLine}
use Rattle.dms_sign_text.specs.RefusedLine.{first_number}
use Rattle.std.specs.Option.{is_some}
use Rattle.dms_replay.proofs.EventLaws.{event_found, event_only}

-- some of the lines are read, and these are left
pub record AreRead (order : Order) (all left : List (List ℕ)) (events : List EventModel) : Type 0 where
  pub prefix : List (List ℕ)
  pub lines_are : all ≡ prefix ++ left
  pub spelled : SpellsEach (SpellsEvent order) events prefix

pub none_read : (order : Order) (all : List (List ℕ)) → AreRead order all all []
none_read order all = record { prefix = []; lines_are = refl; spelled = refl }

each_more : (order : Order) (events : List EventModel) (prefix : List (List ℕ)) (event : EventModel) (line : List ℕ) → SpellsEach (SpellsEvent order) events prefix
    → SpellsEvent order event line → SpellsEach (SpellsEvent order) (events ++ event ∷ []) (prefix ++ line ∷ [])
each_more order [] [] event line each spelled = (spelled, refl)
each_more order [] (first ∷ prefix) event line each spelled = absurd (let never : first ∷ prefix ≡ [] = each in cc)
each_more order (first ∷ events) [] event line each spelled = absurd each
each_more order (first ∷ events) (word ∷ prefix) event line each spelled = (each.0, each_more order events prefix event line each.1 spelled)

pub one_more_read : (order : Order) (all : List (List ℕ)) (left next : List NumberedLine) (line : Line) (events : List EventModel) (event : EventModel)
    → AreRead order all (octets_of_lines left) events → left ≡ numbered_line line ∷ next → Some event ≡ event_of order line.octets.now
    → AreRead order all (octets_of_lines next) (events ++ event ∷ [])
one_more_read order all left next line events event read split found = record {
  prefix = read.prefix ++ line.octets.now ∷ [];
  lines_are = read.lines_are ∙ ap (λ rest. read.prefix ++ octets_of_lines rest) split ∙ sym (append_assoc read.prefix (line.octets.now ∷ []) (octets_of_lines next));
  spelled = each_more order events read.prefix event line.octets.now read.spelled (event_found order line.octets.now event (sym found));
}

each_at : (order : Order) (events : List EventModel) (prefix : List (List ℕ)) (line : List ℕ) (rest : List (List ℕ))
    → SpellsEach (SpellsEvent order) events (prefix ++ line ∷ rest) → (event : EventModel) × SpellsEvent order event line
each_at order [] [] line rest each = absurd (let never : line ∷ rest ≡ [] = each in cc)
each_at order [] (first ∷ prefix) line rest each = absurd (let never : first ∷ (prefix ++ line ∷ rest) ≡ [] = each in cc)
each_at order (event ∷ events) [] line rest each = (event, each.0)
each_at order (event ∷ events) (first ∷ prefix) line rest each = each_at order events prefix line rest each.1

pub none_spelled : (order : Order) (all : List (List ℕ)) (left next : List NumberedLine) (line : Line) (events : List EventModel)
    → AreRead order all (octets_of_lines left) events → left ≡ numbered_line line ∷ next → None ≡ event_of order line.octets.now
    → (others : List EventModel) → SpellsEach (SpellsEvent order) others all → ⊥
none_spelled order all left next line events read split none others each =
    let whole = read.lines_are ∙ ap (λ rest. read.prefix ++ octets_of_lines rest) split in
    let found = each_at order others read.prefix line.octets.now (octets_of_lines next) (subst (SpellsEach (SpellsEvent order) others) whole each) in
    let never : None ≡ Some found.0 = none ∙ event_only order line.octets.now found.0 found.1 in
    cc

pub refused : (order : Order) (all : List (List ℕ)) (left next : List NumberedLine) (line : Line) (events : List EventModel) (fault : ReplayFault)
    → AreRead order all (octets_of_lines left) events → left ≡ numbered_line line ∷ next
    → (fault ≡ Memory) ⊎ (IsLine fault × (None ≡ event_of order line.octets.now))
    → (fault ≡ Memory) ⊎ (IsLine fault × ((others : List EventModel) → SpellsEach (SpellsEvent order) others all → ⊥))
refused order all left next line events fault read split (inl memory) = inl memory
refused order all left next line events fault read split (inr bad) = inr (bad.0, none_spelled order all left next line events read split bad.1)

pub all_read : (order : Order) (all : List (List ℕ)) (left : List NumberedLine) (events : List EventModel) → AreRead order all (octets_of_lines left) events → left ≡ []
    → SpellsEach (SpellsEvent order) events all
all_read order all left events read end =
    subst (SpellsEach (SpellsEvent order) events) (sym (read.lines_are ∙ ap (λ rest. read.prefix ++ octets_of_lines rest) end ∙ append-nil read.prefix)) read.spelled

-- ---- the first line that is no event's

pub goes_on : (order : Order) (line : NumberedLine) (rest : List NumberedLine) (event : EventModel) → event_of order line.octets ≡ Some event
    → from_no_event order (line ∷ rest) ≡ from_no_event order rest
goes_on order line rest event e = ap (λ o. cond (is_some o) (from_no_event order rest) (line ∷ rest)) e

pub stops : (order : Order) (line : NumberedLine) (rest : List NumberedLine) → event_of order line.octets ≡ None → from_no_event order (line ∷ rest) ≡ line ∷ rest
stops order line rest e = ap (λ o. cond (is_some o) (from_no_event order rest) (line ∷ rest)) e

-- the lines from the first on are read up to those that are left
pub record AreReadTo (order : Order) (start left : List NumberedLine) (events : List EventModel) : Type 0 where
  pub read : AreRead order (octets_of_lines start) (octets_of_lines left) events
  pub same : from_no_event order start ≡ from_no_event order left

pub none_to : (order : Order) (start : List NumberedLine) → AreReadTo order start start []
none_to order start = record { read = none_read order (octets_of_lines start); same = refl }

pub one_more_to : (order : Order) (start left next : List NumberedLine) (line : Line) (events : List EventModel) (event : EventModel)
    → AreReadTo order start left events → left ≡ numbered_line line ∷ next → Some event ≡ event_of order line.octets.now
    → AreReadTo order start next (events ++ event ∷ [])
one_more_to order start left next line events event to split found = record {
  read = one_more_read order (octets_of_lines start) left next line events event to.read split found;
  same = to.same ∙ ap (from_no_event order) split ∙ goes_on order (numbered_line line) next event (sym found);
}

pub refused_to : (order : Order) (start left next : List NumberedLine) (line : Line) (events : List EventModel) (fault : ReplayFault)
    → AreReadTo order start left events → left ≡ numbered_line line ∷ next
    → (fault ≡ Memory) ⊎ (IsLine fault × (None ≡ event_of order line.octets.now))
    → (fault ≡ Memory) ⊎ (IsLine fault × ((others : List EventModel) → SpellsEach (SpellsEvent order) others (octets_of_lines start) → ⊥))
refused_to order start left next line events fault to split bad = refused order (octets_of_lines start) left next line events fault to.read split bad

pub all_to : (order : Order) (start left : List NumberedLine) (events : List EventModel) → AreReadTo order start left events → left ≡ []
    → SpellsEach (SpellsEvent order) events (octets_of_lines start)
all_to order start left events to end = all_read order (octets_of_lines start) left events to.read end

-- they are those of some events
pub record ReadTo (order : Order) (start left : List NumberedLine) : Type 0 where
  pub events : List EventModel
  pub to : AreReadTo order start left events

pub none_of_them : (order : Order) (start : List NumberedLine) → ReadTo order start start
none_of_them order start = record { events = []; to = none_to order start }

pub one_more_of_them : (order : Order) (start left next : List NumberedLine) (line : Line) → ReadTo order start left → left ≡ numbered_line line ∷ next
    → is_some (event_of order line.octets.now) ≡ true → ReadTo order start next
one_more_of_them order start left next line read split is = if_found (event_of order line.octets.now) refl is
  where
    if_found : (found : Option EventModel) → found ≡ event_of order line.octets.now → is_some found ≡ true → ReadTo order start next
    if_found None found is = absurd (cc)
    if_found (Some event) found is = record { events = read.events ++ event ∷ []; to = one_more_to order start left next line read.events event read.to split found }

pub all_of_them : (order : Order) (start left : List NumberedLine) → ReadTo order start left → left ≡ []
    → (events : List EventModel) × SpellsEach (SpellsEvent order) events (octets_of_lines start)
all_of_them order start left read end = (read.events, all_to order start left read.events read.to end)

pub memory_names : (IsIt : ℕ → Type 0) (fault : ReplayFault) → fault ≡ Memory → NamesLine IsIt fault
memory_names IsIt fault memory = subst (NamesLine IsIt) (sym memory) tt

pub number_to : (order : Order) (start left next : List NumberedLine) (line : Line) (events : List EventModel) (fault : ReplayFault) (after : ℕ)
    → AreReadTo order start left events → left ≡ numbered_line line ∷ next
    → (fault ≡ Memory) ⊎ (IsLine fault × (None ≡ event_of order line.octets.now)) → NamesLine (λ number. number ≡ line.number) fault
    → NamesLine (λ number. number ≡ first_number (from_no_event order start) after) fault
number_to order start left next line events fault after to split (inl memory) names = memory_names _ fault memory
number_to order start left next line events fault after to split (inr bad) names =
    subst (λ n. NamesLine (λ number. number ≡ n) fault)
    (sym (ap (λ lines. first_number lines after)
    (to.same ∙ ap (from_no_event order) split ∙ stops order (numbered_line line) next (sym bad.1)))) names

pub ruleset events_read = (none_of_them, one_more_of_them, all_of_them, memory_names)
