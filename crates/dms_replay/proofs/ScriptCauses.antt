-- The line for which a text is refused as a script has a cause, and where there is none no line is.
use Rattle.std.proofs.Common.{◌≡◌, ◌⊎◌, ℕ, ◌+◌, ◌==◌, ◌≤◌, Bool, true, false, cond, List, [], ◌∷◌, ◌++◌, length, Option, Some, None, option_map, refl, sym, ap, subst, ◌∙◌, arith, append_assoc, inl, inr}
use Rattle.std.specs.Prelude.{IfNone, IfSome}
use Rattle.std.specs.Str.Lines.{lines}
use Rattle.std.proofs.lemmas.Bool.{eq-eqb}
use Rattle.std.proofs.lemmas.Bool.Decides.{nat_tests}
use Rattle.std.proofs.lemmas.List.{append-nil}
use Rattle.std.proofs.lemmas.Option.{none-some}
use Rattle.dms_text.specs.Lines.{NumberedLine, numbered, is_skipped, TextLeft, lines_left, kept_lines}
use Rattle.dms_text.proofs.LineFilter.{octets_of_lines}
use Rattle.dms_text.proofs.WordLaws as words
use Rattle.dms_codes.specs.declared.codes.Order.{Order}
use Rattle.dms_codes.proofs.Options.{mapped_none}
use Rattle.dms_world.specs.Event.{EventModel}
use Rattle.dms_text_forms.specs.Fields.{SpellsEach}
use Rattle.dms_sign_text_causes.specs.declared.cause.LineCause.{LineCause}
use Rattle.dms_sign_text.specs.Description.{Description, SpellsSign}
use Rattle.dms_sign_text.specs.ReadingFaults.{IsLine}
use Rattle.dms_sign_text.specs.RefusedLine.{NumberedLines, numbered_left, all_numbered, first_number, last_lines, Leaves}
use Rattle.dms_sign_text.specs.Setups.{octets_left, IsMade}
use Rattle.dms_sign_text.specs.declared.reading_fault.ReplayFault.{ReplayFault}
use Rattle.dms_sign_text.specs.declared.reading_fault.ReplayFault.TheVariants as faults
use Rattle.dms_sign_text.specs.declared.setup.Setup.{Setup}
use Rattle.dms_sign_text.proofs.LastLines.{last_are}
use Rattle.dms_replay.specs.EventLine.{SpellsEvent}
use Rattle.dms_replay.specs.EventReading.{event_of}
use Rattle.dms_replay.specs.EventForm.{event_cause}
use Rattle.dms_replay.specs.Reasons.{line_numbered, event_cause_at, NamesASign, IsCauseOf}
use Rattle.dms_replay.specs.RefusedScript.{from_no_event, no_event_number, IsRefusedIn, NamesLine}
use Rattle.dms_replay.specs.RefusedScript as script_fault
use Rattle.dms_replay.specs.Script.{described, NamesPrefix, SpellsScript}
use Rattle.dms_replay.specs.declared.event_cause.EventCause.{EventCause}
use Rattle.dms_replay.specs.declared.reasons.ScriptCause.{ScriptCause}
use Rattle.dms_replay.specs.declared.reasons.ScriptCause.TheVariants as causes
use Rattle.dms_replay.proofs.EventFits.{event_fits}
use Rattle.dms_replay.proofs.EventLaws.{event_found}
use Rattle.dms_replay.proofs.EventsRead.{goes_on, stops}
use Rattle.dms_replay.proofs.ScriptRead.{one_name, named_by, moved, one_line}

-- ---- lines by their numbers

-- a line of a text has a number of its own, by which it is found
by_number : (number : ℕ) (lines : List (List ℕ)) (prefix : List NumberedLine) (line : NumberedLine) (rest : List NumberedLine) → numbered number lines ≡ prefix ++ line ∷ rest
    → (number ≤ line.number) × (line_numbered line.number (numbered number lines) ≡ Some line.octets)
by_number number [] [] line rest e = absurd (let wrong : [] ≡ line ∷ rest = e in cc)
by_number number [] (other ∷ prefix) line rest e = absurd (let wrong : [] ≡ other ∷ (prefix ++ line ∷ rest) = e in cc)
by_number number (first ∷ lines) prefix line rest e = if_skipped (λ left. by_number (number + 1) lines left line rest) (is_skipped first) prefix e
  where
    if_skipped : ((left : List NumberedLine) → numbered (number + 1) lines ≡ left ++ line ∷ rest
        → (number + 1 ≤ line.number) × (line_numbered line.number (numbered (number + 1) lines) ≡ Some line.octets))
        → (skipped : Bool) (left : List NumberedLine)
        → cond skipped (numbered (number + 1) lines) (record { number = number; octets = first } ∷ numbered (number + 1) lines) ≡ left ++ line ∷ rest
        → (number ≤ line.number)
        × (line_numbered line.number (cond skipped (numbered (number + 1) lines) (record { number = number; octets = first } ∷ numbered (number + 1) lines)) ≡ Some line.octets)
    if_skipped more true left e =
        let later = more left e in
        (omega (arith, later.0), later.1)
    if_skipped more false [] e =
        let this : NumberedLine = record { number = number; octets = first } in
        let others : List NumberedLine = numbered (number + 1) lines in
        let split : this ∷ others ≡ line ∷ rest = e in
        let same : this ≡ line = cc in
        let its_number : number ≡ line.number = ap (λ (l : NumberedLine). l.number) same in
        (omega (arith, its_number), ap (λ b. cond b (Some first) (line_numbered line.number others)) (eq-eqb number line.number its_number) ∙ ap (λ (l : NumberedLine). Some l.octets) same)
    if_skipped more false (other ∷ left) e =
        let this : NumberedLine = record { number = number; octets = first } in
        let others : List NumberedLine = numbered (number + 1) lines in
        let split : this ∷ others ≡ other ∷ (left ++ line ∷ rest) = e in
        let after : others ≡ left ++ line ∷ rest = cc in
        let later = more left after in
        let apart : (number == line.number) ≡ false = grind (arith, nat_tests, later.0) in
        (omega (arith, later.0), ap (λ b. cond b (Some first) (line_numbered line.number others)) apart ∙ later.1)

-- ---- the first line that is no event's

record NoEvent (order : Order) (lines : List NumberedLine) : Type 0 where
  prefix : List NumberedLine
  line : NumberedLine
  rest : List NumberedLine
  lines_are : lines ≡ prefix ++ line ∷ rest
  from : from_no_event order lines ≡ line ∷ rest
  none : event_of order line.octets ≡ None

-- where lines spell no events there is one
no_event : (order : Order) (lines : List NumberedLine) → ((events : List EventModel) → SpellsEach (SpellsEvent order) events (octets_of_lines lines) → ⊥) → NoEvent order lines
no_event order [] never = absurd (never [] refl)
no_event order (line ∷ lines) never = by_event (no_event order lines) (event_of order line.octets) refl
  where
    by_event : (((events : List EventModel) → SpellsEach (SpellsEvent order) events (octets_of_lines lines) → ⊥) → NoEvent order lines)
        → (found : Option EventModel) → event_of order line.octets ≡ found → NoEvent order (line ∷ lines)
    by_event more None is = record { prefix = []; line = line; rest = lines; lines_are = refl; from = stops order line lines is; none = is }
    by_event more (Some event) is =
        let later = more (λ events each. never (event ∷ events) (event_found order line.octets event is, each)) in
        record {
          prefix = line ∷ later.prefix;
          line = later.line;
          rest = later.rest;
          lines_are = ap (λ others. line ∷ others) later.lines_are;
          from = goes_on order line lines event is ∙ later.from;
          none = later.none;
        }

-- ---- no cause

no_value : {A : Type 0} (o : Option A) → o ≡ None → (x : A) × (o ≡ Some x) → ⊥
no_value None none some = absurd (none-some _ some.1)
no_value (Some x) none some = absurd (none-some _ (sym none))

-- the line of an event for which a text is refused has a cause
event_line : (octets : List ℕ) (left : TextLeft) (setup : Setup) (number : ℕ) → (it : Description) × NamesPrefix (kept_lines octets) (octets_left left) it × IsMade it setup
    → Leaves (all_numbered (lines octets)) (numbered_left left) → event_cause_at octets number ≡ None → IsRefusedIn octets number → ⊥
event_line octets left setup number named leaves none (script_fault.no_sign never) = never named.0 (octets_left left) named.1
event_line octets left setup number named leaves none (script_fault.no_event sign rest names never) =
    let all : NumberedLines = all_numbered (lines octets) in
    let order : Order = sign.table.order in
    let rest_is : rest ≡ octets_left left = (one_name (kept_lines octets) rest (octets_left left) sign named.0 names named.1).1 in
    let last : last_lines (length rest) all.lines ≡ lines_left left = ap (λ (ls : List (List ℕ)). last_lines (length ls) all.lines) rest_is ∙ last_are all (numbered_left left) leaves in
    let found : NoEvent order (lines_left left) = no_event order (lines_left left) (λ events each. never events (subst (SpellsEach (SpellsEvent order) events) (sym rest_is) each)) in
    let number_is : no_event_number order (length rest) octets ≡ found.line.number =
    ap (λ ls. first_number (from_no_event order ls) all.after) last ∙ ap (λ ls. first_number ls all.after) found.from in
    let among : all.lines ≡ (leaves.prefix ++ found.prefix) ++ found.line ∷ found.rest =
    leaves.lines_are ∙ ap (λ ls. leaves.prefix ++ ls) found.lines_are ∙ sym (append_assoc leaves.prefix found.prefix (found.line ∷ found.rest)) in
    let at = by_number 1 (lines octets) (leaves.prefix ++ found.prefix) found.line found.rest among in
    let fits : event_cause found.line.octets ≡ None = sym (ap (event_cause_at octets) number_is ∙ words.goes_on _ _ _ at.1) ∙ none in
    no_value _ found.none (event_fits order found.line.octets fits)

-- after the sign the cause of the line is said
event_cause_is : (octets : List ℕ) (number : ℕ) (found : Option ScriptCause) (cause : Option EventCause) → NamesASign octets → event_cause_at octets number ≡ cause
    → found ≡ option_map causes.Event cause → IfSome found (IsCauseOf octets number)
event_cause_is octets number found None named read is = subst (λ said. IfSome said (IsCauseOf octets number)) (sym is) tt
event_cause_is octets number found (Some cause) named read is = subst (λ said. IfSome said (IsCauseOf octets number)) (sym is) (named, read)

pub event_cause_said : (octets : List ℕ) (left : TextLeft) (setup : Setup) (number : ℕ) (found : Option ScriptCause)
    → (it : Description) × NamesPrefix (kept_lines octets) (octets_left left) it × IsMade it setup → found ≡ option_map causes.Event (event_cause_at octets number)
    → IfSome found (IsCauseOf octets number)
event_cause_said octets left setup number found named is =
    event_cause_is octets number found (event_cause_at octets number) (record { sign = named.0; rest = octets_left left; names = named.1 }) refl is

pub no_event_line : (octets : List ℕ) (left : TextLeft) (setup : Setup) (number : ℕ) (found : Option ScriptCause)
    → (it : Description) × NamesPrefix (kept_lines octets) (octets_left left) it × IsMade it setup → Leaves (all_numbered (lines octets)) (numbered_left left)
    → found ≡ option_map causes.Event (event_cause_at octets number) → IfNone found (IsRefusedIn octets number → ⊥)
no_event_line octets left setup number (Some cause) named leaves is = tt
no_event_line octets left setup number None named leaves is = event_line octets left setup number named leaves (mapped_none causes.Event (event_cause_at octets number) (sym is))

-- where they are refused the first lines name no sign
pub names_none : (octets : List ℕ) (fault : ReplayFault) → (fault ≡ faults.Memory → ⊥)
    → (fault ≡ faults.Memory) ⊎ (IsLine fault × ((it : Description) (rest : List (List ℕ)) → NamesPrefix (kept_lines octets) rest it → ⊥)) → NamesASign octets → ⊥
names_none octets fault other (inl memory) named = other memory
names_none octets fault other (inr bad) named = bad.1 named.sign named.rest named.names

-- so they have a cause
pub no_sign_line : (octets : List ℕ) (fault : ReplayFault) (found : Option LineCause) (number : ℕ) → (fault ≡ faults.Memory → ⊥)
    → (fault ≡ faults.Memory) ⊎ (IsLine fault × ((it : Description) (rest : List (List ℕ)) → NamesPrefix (kept_lines octets) rest it → ⊥))
    → IfNone found ((it : Description) × SpellsSign (kept_lines octets) it) → found ≡ None → IsRefusedIn octets number → ⊥
no_sign_line octets fault found number other bad told is refused =
    let sign = subst (λ cause. IfNone cause ((it : Description) × SpellsSign (kept_lines octets) it)) is told in
    names_none octets fault other bad (record {
      sign = sign.0;
      rest = [];
      names = record { prefix = kept_lines octets; lines_are = sym (append-nil (kept_lines octets)); names = described (kept_lines octets) sign.0 sign.1 };
    })

-- ---- no line

-- a script is refused for no line
pub no_line_of_a_script : (octets : List ℕ) (number : ℕ) (it : Description) (events : List EventModel) → SpellsScript octets it events → IsRefusedIn octets number → ⊥
no_line_of_a_script octets number it events script (script_fault.no_sign never) = never it script.event_lines (named_by octets it events script)
no_line_of_a_script octets number it events script (script_fault.no_event sign rest names never) =
    let same = one_name (kept_lines octets) rest script.event_lines sign it names (named_by octets it events script) in
    never events (moved sign it rest script.event_lines events same.0 same.1 script.spelled)

-- and other texts for no other line
pub another_line : (octets : List ℕ) (fault : ReplayFault) (line number : ℕ) → NamesLine (IsRefusedIn octets) fault → fault ≡ faults.Line line → (line ≡ number → ⊥)
    → IsRefusedIn octets number → ⊥
another_line octets fault line number names is other refused = other (one_line octets line number (subst (NamesLine (IsRefusedIn octets)) is names) refused)
