-- A text spells at most one script, and what is read of it is that script.
use Rattle.std.proofs.Common.{◌≡◌, ℕ, ◌+◌, ◌≤◌, ◌==◌, Bool, true, false, cond, not, List, [], ◌∷◌, ◌++◌, length, Option, Some, None, Result, Ok, Err, IsOk, refl, sym, ap, subst, ◌∙◌, arith, inl, inr}
use Rattle.std.specs.Prelude.{codes, ◌⊎◌, IfSome}
use Rattle.std.specs.List.{slice_split}
use Rattle.std.proofs.lemmas.List.{length-append, length-map}
use Rattle.std.proofs.lemmas.List.Splits.{length-slice_split}
use Rattle.std.proofs.lemmas.List.Sums.{length-filter, count_by-le-length}
use Rattle.std.specs.Str.Lines.{lines, lines_of_parts}
use Rattle.dms_text.specs.Lines.{NumberedLine, TextLeft, lines_left, number_after, kept_lines, is_skipped}
use Rattle.dms_sign_text.specs.RefusedLine.{NumberedLines, numbered_left, all_numbered, first_number, last_lines, refused_number, Leaves}
use Rattle.dms_sign_text.proofs.LastLines.{last_are}
use Rattle.dms_replay.specs.RefusedScript.{from_no_event, no_event_number, NamesLine, IsRefusedIn}
use Rattle.dms_replay.specs.RefusedScript as script_fault
use Rattle.dms_text.specs.Words.{words_of}
use Rattle.dms_text.specs.Views.{numbered_line}
use Rattle.dms_text.specs.declared.lines.Line.{Line}
use Rattle.dms_text.proofs.LineFilter.{octets_of_lines}
use Rattle.dms_codes.specs.declared.codes.Order.{Order}
use Rattle.dms_sign.specs.State.{SignState, start}
use Rattle.dms_centre.specs.State as centre
use Rattle.dms_world.specs.Event.{EventModel}
use Rattle.dms_world.specs.World.{WorldModel, beginning, world_after}
use Rattle.dms_sign_text.specs.BenchSign.{bench_text}
use Rattle.dms_sign_text.specs.Description.{Description, SpellsSign}
use Rattle.dms_text_streams.specs.DescriptionText.{longest_input}
use Rattle.dms_text_forms.specs.Fields.{SpellsEach}
use Rattle.dms_sign_text.specs.Setups.{octets_left, BeginsWith, IsMade}
use Rattle.dms_sign_text.specs.declared.setup.Setup.{Setup}
use Rattle.dms_sign_text.proofs.DescriptionLaws.{one_prefix, one_sign}
use Rattle.dms_replay.specs.EventLine.{SpellsEvent}
use Rattle.dms_sign_text.specs.ReadingFaults.{IsLine}
use Rattle.dms_replay.specs.Script.{NamesSign, the_bench, described, NamesPrefix, SpellsScript, beginning_of}
use Rattle.dms_sign_text.specs.declared.reading_fault.ReplayFault.{ReplayFault}
use Rattle.dms_replay.specs.ScriptRun.{AreRun, IsRun}
use Rattle.dms_sign_text.specs.declared.reading_fault.ReplayFault.TheVariants.{Read, Write, TooLong, Memory, Line as LineFault}
use Rattle.dms_text_forms.proofs.FieldLaws.{same_rest}
use Rattle.dms_sign_text.proofs.SetupLaws.{kept}
use Rattle.dms_replay.specs.Report.{report_of}
use Rattle.dms_replay.specs.Replayed.{IsReport, IsLawful, RunsLawfully, HasNoRoom, NoScript}
use Rattle.dms_text_streams.specs.Room.{HasRoom, IsWrittenWithinRoom}
use Rattle.dms_text_streams.specs.declared.failed.Failed.{Failed}
use Rattle.dms_replay.proofs.EventLaws.{one_list}

abbrev head_or : List ℕ → List (List ℕ) → List ℕ
head_or otherwise [] = otherwise
head_or otherwise (line ∷ lines) = line

same_head : (line other : List ℕ) (lines others : List (List ℕ)) → line ∷ lines ≡ other ∷ others → line ≡ other
same_head line other lines others e = ap (head_or []) e

-- a description does not begin with the word `bench`
no_bench : (prefix rest others : List (List ℕ)) (it : Description) → SpellsSign prefix it → prefix ++ rest ≡ codes "bench" ∷ others → ⊥
no_bench prefix rest others it spelled e =
    let first : spelled.size_line ≡ codes "bench" = same_head _ _ _ _ (ap (λ lines. lines ++ rest) (sym spelled.lines_are) ∙ e) in
    let words = ap words_of (sym first) ∙ spelled.size.words_are in
    let three : 1 ≡ 3 = ap length words in
    absurd (omega (arith, three))

pub one_name : (lines rest others : List (List ℕ)) (it that : Description) → NamesPrefix lines rest it → NamesPrefix lines others that → (it ≡ that) × (rest ≡ others)
one_name lines rest others it that this other = names_are lines rest others this.prefix other.prefix it that this.lines_are other.lines_are this.names other.names
  where
    names_are : (lines rest others prefix another : List (List ℕ)) (it that : Description) → lines ≡ prefix ++ rest → lines ≡ another ++ others → NamesSign prefix it → NamesSign another that
        → (it ≡ that) × (rest ≡ others)
    names_are lines rest others prefix another it that e h (the_bench sign spelled) (the_bench other says) =
        (one_sign _ _ _ spelled says, same_rest _ _ _ _ (sym e ∙ h))
    names_are lines rest others prefix another it that e h (the_bench sign spelled) (described prefix_lines other says) = absurd (no_bench _ _ _ _ says (sym h ∙ e))
    names_are lines rest others prefix another it that e h (described prefix_lines sign spelled) (the_bench other says) = absurd (no_bench _ _ _ _ spelled (sym e ∙ h))
    names_are lines rest others prefix another it that e h (described prefix_lines sign spelled) (described other_lines other says) =
        one_prefix lines rest others it that (record { prefix = prefix_lines; lines_are = e; spelled = spelled }) (record { prefix = other_lines; lines_are = h; spelled = says })

pub named_by : (octets : List ℕ) (it : Description) (events : List EventModel) (script : SpellsScript octets it events) → NamesPrefix (kept_lines octets) script.event_lines it
named_by octets it events script = record { prefix = script.sign_lines; lines_are = script.lines_are; names = script.names }

pub moved : (it that : Description) (lines others : List (List ℕ)) (events : List EventModel) → it ≡ that → lines ≡ others → SpellsEach (SpellsEvent that.table.order) events others
    → SpellsEach (SpellsEvent it.table.order) events lines
moved it that lines others events same same_lines each =
    subst (λ (sign : Description). SpellsEach (SpellsEvent sign.table.order) events lines) (sym same)
    (subst (SpellsEach (SpellsEvent that.table.order) events) (sym same_lines) each)

-- a text spells at most one script
pub one_script : (octets : List ℕ) (it that : Description) (events others : List EventModel) → SpellsScript octets it events → SpellsScript octets that others
    → (it ≡ that) × (events ≡ others)
one_script octets it that events others this other =
    let same = one_name (kept_lines octets) this.event_lines other.event_lines it that (named_by octets it events this) (named_by octets that others other) in
    (same.0, one_list it.table.order this.event_lines events others this.spelled (moved it that this.event_lines other.event_lines others same.0 same.1 other.spelled))

-- ---- what is read

abbrev from_start : List ℕ → TextLeft
from_start octets = record { number = 1; text = octets }

pub bench_first : (octets : List ℕ) (start left : TextLeft) (line : Line) → start ≡ from_start octets → lines_left start ≡ numbered_line line ∷ lines_left left → line.octets.now ≡ codes "bench"
    → kept_lines octets ≡ codes "bench" ∷ octets_left left
bench_first octets start left line from split is =
    sym (kept octets) ∙ ap octets_left (sym from) ∙ ap octets_of_lines split ∙ ap (λ first. first ∷ octets_left left) is

pub other_first : (octets : List ℕ) (start left : TextLeft) (line : Line) → start ≡ from_start octets → lines_left start ≡ numbered_line line ∷ lines_left left
    → (line.octets.now ≡ codes "bench" → ⊥) → (rest : List (List ℕ)) → kept_lines octets ≡ codes "bench" ∷ rest → ⊥
other_first octets start left line from split is_not rest e =
    is_not (same_head _ _ _ _ (sym (sym (kept octets) ∙ ap octets_left (sym from) ∙ ap octets_of_lines split) ∙ e))

pub nothing_first : (octets : List ℕ) (start : TextLeft) → start ≡ from_start octets → lines_left start ≡ [] → (rest : List (List ℕ)) → kept_lines octets ≡ codes "bench" ∷ rest → ⊥
nothing_first octets start from none rest e =
    let never : [] ≡ codes "bench" ∷ rest = sym (sym (kept octets) ∙ ap octets_left (sym from) ∙ ap octets_of_lines none) ∙ e in
    cc

pub bench_is_named : (octets : List ℕ) (rest : List (List ℕ)) (setup : Setup) → kept_lines octets ≡ codes "bench" ∷ rest
    → (it : Description) × SpellsSign (kept_lines bench_text) it × IsMade it setup → (it : Description) × NamesPrefix (kept_lines octets) rest it × IsMade it setup
bench_is_named octets rest setup e found = (found.0, record { prefix = codes "bench" ∷ []; lines_are = e; names = the_bench found.0 found.1 }, found.2)

pub sign_is_named : (octets : List ℕ) (start : TextLeft) (rest : List (List ℕ)) (setup : Setup) → start ≡ from_start octets
    → (it : Description) × BeginsWith (octets_left start) rest it × IsMade it setup → (it : Description) × NamesPrefix (kept_lines octets) rest it × IsMade it setup
sign_is_named octets start rest setup from found = (
  found.0,
  record { prefix = found.1.prefix; lines_are = sym (kept octets) ∙ ap octets_left (sym from) ∙ found.1.lines_are; names = described found.1.prefix found.0 found.1.spelled },
  found.2,
)

pub none_is_named : (octets : List ℕ) (start : TextLeft) → start ≡ from_start octets → ((rest : List (List ℕ)) → kept_lines octets ≡ codes "bench" ∷ rest → ⊥)
    → ((it : Description) (rest : List (List ℕ)) → BeginsWith (octets_left start) rest it → ⊥) → (it : Description) (rest : List (List ℕ)) → NamesPrefix (kept_lines octets) rest it → ⊥
none_is_named octets start from no_word no_sign it rest named = none named.prefix it rest named.lines_are named.names
  where
    none : (prefix : List (List ℕ)) (it : Description) (rest : List (List ℕ)) → kept_lines octets ≡ prefix ++ rest → NamesSign prefix it → ⊥
    none prefix it rest e (the_bench sign spelled) = no_word rest e
    none prefix it rest e (described lines sign spelled) =
        no_sign sign rest (record { prefix = lines; lines_are = ap octets_left from ∙ kept octets ∙ e; spelled = spelled })

pub is_script : (octets : List ℕ) (rest : List (List ℕ)) (setup : Setup) (order : Order) (events : List EventModel) → length octets ≤ longest_input
    → (it : Description) × NamesPrefix (kept_lines octets) rest it × IsMade it setup → order ≡ setup.sign.table.order → SpellsEach (SpellsEvent order) events rest
    → (it : Description) × SpellsScript octets it events × IsMade it setup
is_script octets rest setup order events short named is_order each =
    let its_order : order ≡ named.0.table.order = is_order ∙ ap (λ sign. sign.table.order) named.2.sign in (
      named.0,
      record {
        short = short;
        sign_lines = named.1.prefix;
        event_lines = rest;
        lines_are = named.1.lines_are;
        names = named.1.names;
        spelled = subst (λ order. SpellsEach (SpellsEvent order) events rest) its_order each;
      },
      named.2,
    )

pub script_checked : (octets : List ℕ) (rest : List (List ℕ)) (setup : Setup) (order : Order) → length octets ≤ longest_input
    → (it : Description) × NamesPrefix (kept_lines octets) rest it × IsMade it setup → order ≡ setup.sign.table.order
    → (events : List EventModel) × SpellsEach (SpellsEvent order) events rest → (it : Description) × (events : List EventModel) × SpellsScript octets it events
script_checked octets rest setup order short named is_order each =
    let script = is_script octets rest setup order each.0 short named is_order each.1 in
    (script.0, each.0, script.1)

-- the world of a sign that is made as it is described, and of its centre
made_world : (it : Description) (setup : Setup) (before : WorldModel) → IsMade it setup
    → before ≡ beginning setup.sign (centre.start (record { community = setup.sign.config.writer; order = setup.sign.table.order }) setup.first)
    → before ≡ beginning_of it
made_world it setup before made begins =
    begins
    ∙ ap (λ (sign : SignState). beginning sign (centre.start (record { community = sign.config.writer; order = sign.table.order }) setup.first)) made.sign
    ∙ ap (λ first. beginning (start it.config it.table) (centre.start (record { community = it.config.writer; order = it.table.order }) first)) made.first

pub script_run : (octets : List ℕ) (rest : List (List ℕ)) (setup : Setup) (order : Order) (before now : WorldModel) (count : ℕ) → length octets ≤ longest_input
    → (it : Description) × NamesPrefix (kept_lines octets) rest it × IsMade it setup → order ≡ setup.sign.table.order
    → before ≡ beginning setup.sign (centre.start (record { community = setup.sign.config.writer; order = setup.sign.table.order }) setup.first)
    → AreRun order rest before now count → IsRun octets now count
script_run octets rest setup order before now count short named is_order begins run =
    let script = is_script octets rest setup order run.events short named is_order run.spelled in
    record {
      sign = script.0;
      events = run.events;
      spelled = script.1;
      world_is = run.world_is ∙ ap (λ world. world_after world run.events) (made_world script.0 setup before script.2 begins);
      count_is = run.count_is;
    }

-- a text has at most one line more than octets
none_or_one : (test : Bool) (part : List ℕ) → length (cond test [] (part ∷ [])) ≤ 1
none_or_one true part = omega arith
none_or_one false part = omega arith

lines_of_many : (parts : List (List ℕ)) → length (lines_of_parts parts) ≤ length parts
lines_of_many [] = omega arith
lines_of_many (part ∷ []) = none_or_one (length part == 0) part
lines_of_many (part ∷ next ∷ parts) = omega (arith, lines_of_many (next ∷ parts))

pub few_lines : (octets : List ℕ) (left : TextLeft) (setup : Setup) → length octets ≤ longest_input
    → (it : Description) × NamesPrefix (kept_lines octets) (octets_left left) it × IsMade it setup → length (lines_left left) ≤ longest_input + 1
few_lines octets left setup short named =
    let newlines = λ (o : ℕ). o == 10 in
    let kept = λ (line : List ℕ). not (is_skipped line) in
    let parts = length-slice_split newlines octets in
    let few : length (lines octets) ≤ length octets + 1 = omega (arith, parts, count_by-le-length newlines octets, lines_of_many (slice_split newlines octets)) in
    let fewer : length (kept_lines octets) ≤ length (lines octets) = omega (arith, length-filter kept (lines octets), count_by-le-length kept (lines octets)) in
    let some = ap length named.1.lines_are in
    omega (arith, short, few, fewer, some, length-append named.1.prefix (octets_left left), length-map (lines_left left) (λ (line : NumberedLine). line.octets))

pub no_sign : (octets : List ℕ) (fault : ReplayFault) → (fault ≡ Memory) ⊎ (IsLine fault × ((it : Description) (rest : List (List ℕ)) → NamesPrefix (kept_lines octets) rest it → ⊥))
    → (fault ≡ Memory) ⊎ (IsLine fault × ((it : Description) (events : List EventModel) → SpellsScript octets it events → ⊥))
no_sign octets fault (inl memory) = inl memory
no_sign octets fault (inr bad) = inr (bad.0, λ it events script. bad.1 it script.event_lines (named_by octets it events script))

pub no_events : (octets : List ℕ) (rest : List (List ℕ)) (setup : Setup) (order : Order) (fault : ReplayFault)
    → (it : Description) × NamesPrefix (kept_lines octets) rest it × IsMade it setup → order ≡ setup.sign.table.order
    → (fault ≡ Memory) ⊎ (IsLine fault × ((events : List EventModel) → SpellsEach (SpellsEvent order) events rest → ⊥))
    → (fault ≡ Memory) ⊎ (IsLine fault × ((it : Description) (events : List EventModel) → SpellsScript octets it events → ⊥))
no_events octets rest setup order fault named is_order (inl memory) = inl memory
no_events octets rest setup order fault named is_order (inr bad) = inr (
  bad.0,
  λ that events script.
      let its_order : order ≡ named.0.table.order = is_order ∙ ap (λ sign. sign.table.order) named.2.sign in
      let same = one_name (kept_lines octets) rest script.event_lines named.0 that named.1 (named_by octets that events script) in
      let each = moved named.0 that rest script.event_lines events same.0 same.1 script.spelled in
      bad.1 events (subst (λ order. SpellsEach (SpellsEvent order) events rest) (sym its_order) each),
)

-- ---- the line for which a text is refused

pub bench_leaves : (octets : List ℕ) (start left : TextLeft) (line : Line) → start ≡ from_start octets → lines_left start ≡ numbered_line line ∷ lines_left left
    → number_after left ≡ number_after start → Leaves (all_numbered (lines octets)) (numbered_left left)
bench_leaves octets start left line from split last = record {
  prefix = numbered_line line ∷ [];
  lines_are = ap lines_left (sym from) ∙ split;
  after_is = last ∙ ap number_after from;
}

pub sign_leaves : (octets : List ℕ) (start : TextLeft) (rest : NumberedLines) → start ≡ from_start octets → Leaves (numbered_left start) rest
    → Leaves (all_numbered (lines octets)) rest
sign_leaves octets start rest from leaves = subst (λ (s : TextLeft). Leaves (numbered_left s) rest) from leaves

pub sign_number : (octets : List ℕ) (start : TextLeft) (number : ℕ) → start ≡ from_start octets → number ≡ refused_number (numbered_left start)
    → number ≡ refused_number (all_numbered (lines octets))
sign_number octets start number from is = is ∙ ap (λ (s : TextLeft). refused_number (numbered_left s)) from

pub sign_refused : (octets : List ℕ) (fault : ReplayFault)
    → (fault ≡ Memory) ⊎ (IsLine fault × ((it : Description) (rest : List (List ℕ)) → NamesPrefix (kept_lines octets) rest it → ⊥))
    → NamesLine (λ number. number ≡ refused_number (all_numbered (lines octets))) fault → NamesLine (IsRefusedIn octets) fault
sign_refused octets (LineFault number) (inl memory) is = absurd (cc)
sign_refused octets (LineFault number) (inr bad) is = subst (IsRefusedIn octets) (sym is) (script_fault.no_sign bad.1)
sign_refused octets Read bad is = tt
sign_refused octets Write bad is = tt
sign_refused octets TooLong bad is = tt
sign_refused octets Memory bad is = tt

pub events_refused : (octets : List ℕ) (left : TextLeft) (setup : Setup) (order : Order) (fault : ReplayFault)
    → (it : Description) × NamesPrefix (kept_lines octets) (octets_left left) it × IsMade it setup
    → Leaves (all_numbered (lines octets)) (numbered_left left) → order ≡ setup.sign.table.order
    → (fault ≡ Memory) ⊎ (IsLine fault × ((events : List EventModel) → SpellsEach (SpellsEvent order) events (octets_left left) → ⊥))
    → NamesLine (λ number. number ≡ first_number (from_no_event order (lines_left left)) (number_after left)) fault → NamesLine (IsRefusedIn octets) fault
events_refused octets left setup order (LineFault number) named leaves is_order (inl memory) is = absurd (cc)
events_refused octets left setup order (LineFault number) named leaves is_order (inr bad) is =
    let its_order : order ≡ named.0.table.order = is_order ∙ ap (λ sign. sign.table.order) named.2.sign in
    let all : NumberedLines = all_numbered (lines octets) in
    let last : last_lines (length (octets_left left)) all.lines ≡ lines_left left = last_are all (numbered_left left) leaves in
    let same : number ≡ no_event_number named.0.table.order (length (octets_left left)) octets =
    is ∙ ap (λ o. first_number (from_no_event o (lines_left left)) (number_after left)) its_order
    ∙ ap (λ ls. first_number (from_no_event named.0.table.order ls) (number_after left)) (sym last)
    ∙ ap (λ a. first_number (from_no_event named.0.table.order (last_lines (length (octets_left left)) all.lines)) a) leaves.after_is in
    let none = λ (events : List EventModel) (each : SpellsEach (SpellsEvent named.0.table.order) events (octets_left left)).
    bad.1 events (subst (λ o. SpellsEach (SpellsEvent o) events (octets_left left)) (sym its_order) each) in
    subst (IsRefusedIn octets) (sym same) (script_fault.no_event named.0 (octets_left left) named.1 none)
events_refused octets left setup order Read named leaves is_order bad is = tt
events_refused octets left setup order Write named leaves is_order bad is = tt
events_refused octets left setup order TooLong named leaves is_order bad is = tt
events_refused octets left setup order Memory named leaves is_order bad is = tt

-- a text is refused for at most one line
pub one_line : (octets : List ℕ) (one other : ℕ) → IsRefusedIn octets one → IsRefusedIn octets other → one ≡ other
one_line octets one other (script_fault.no_sign none) (script_fault.no_sign never) = refl
one_line octets one other (script_fault.no_sign none) (script_fault.no_event sign rest names never) = absurd (none sign rest names)
one_line octets one other (script_fault.no_event sign rest names never) (script_fault.no_sign none) = absurd (none sign rest names)
one_line octets one other (script_fault.no_event sign rest names none) (script_fault.no_event that others also never) =
    let same = one_name (kept_lines octets) rest others sign that names also in
    ap (λ (it : Description). no_event_number it.table.order (length rest) octets) same.0
    ∙ ap (λ (ls : List (List ℕ)). no_event_number that.table.order (length ls) octets) same.1

pub refused_whole : (slice octets : List ℕ) (all : Option (List ℕ)) (fault : ReplayFault) (number : ℕ) → slice ≡ octets → IfSome all (λ whole. octets ≡ whole)
    → NamesLine (IsRefusedIn slice) fault → fault ≡ LineFault number → IfSome all (λ whole. IsRefusedIn whole number)
refused_whole slice octets None fault number lent same names is = tt
refused_whole slice octets (Some whole) fault number lent same names is =
    subst (λ xs. IsRefusedIn xs number) (lent ∙ same) (subst (NamesLine (IsRefusedIn slice)) is names)

-- ---- what a replay answers

-- of a fault of the reader of scripts
pub no_script : (slice octets : List ℕ) (all : Option (List ℕ)) (fault : ReplayFault) (number : ℕ) → slice ≡ octets → length octets ≤ longest_input
    → IfSome all (λ whole. octets ≡ whole) → (fault ≡ Memory) ⊎ (IsLine fault × NoScript slice) → fault ≡ LineFault number
    → IfSome all (λ whole. (length whole ≤ longest_input) × NoScript whole)
no_script slice octets None fault number lent short same bad is = tt
no_script slice octets (Some whole) fault number lent short same (inl memory) is = absurd (let wrong : Memory ≡ LineFault number = sym memory ∙ is in cc)
no_script slice octets (Some whole) fault number lent short same (inr bad) is = (
  subst (λ xs. length xs ≤ longest_input) same short,
  λ it events script. bad.1 it events (subst (λ xs. SpellsScript xs it events) (sym (lent ∙ same)) script),
)

pub same_fault : (fault other : ReplayFault) → ◌≡◌ {A = Result Unit ReplayFault} (Err fault) (Err other) → fault ≡ other
same_fault fault other e = cc

pub is_report : (octets : List ℕ) (world : WorldModel) (report : List ℕ) (count : ℕ) → IsRun octets world count → report ≡ report_of world count → IsReport octets report
is_report octets world report count run reports = record {
  sign = run.sign;
  events = run.events;
  spelled = run.spelled;
  report_is = reports ∙ ap (report_of world) run.count_is ∙ ap (λ w. report_of w (length run.events)) run.world_is;
}

pub runs_lawfully : (octets : List ℕ) (world : WorldModel) (count : ℕ) → IsRun octets world count
    → ((it : Description) (events : List EventModel) → SpellsScript octets it events → IsLawful it events) → RunsLawfully octets
runs_lawfully octets world count run law = record { sign = run.sign; events = run.events; spelled = run.spelled; lawful = law run.sign run.events run.spelled }

-- a text has one report
one_report : (octets report other : List ℕ) → IsReport octets report → IsReport octets other → report ≡ other
one_report octets report other is also =
    let same = one_script octets is.sign also.sign is.events also.events is.spelled also.spelled in
    is.report_is
    ∙ ap (λ (sign : Description). report_of (world_after (beginning_of sign) is.events) (length is.events)) same.0
    ∙ ap (λ events. report_of (world_after (beginning_of also.sign) events) (length events)) same.1
    ∙ sym also.report_is

failed_is_no_success : (result : Result Unit Failed) (fault : Failed) → result ≡ Err fault → IsOk result → ⊥
failed_is_no_success (Ok done) fault e ok = cc
failed_is_no_success (Err other) fault e ok = absurd (cc)

-- where a write failed, there was no room for the report
pub no_room : (slice octets written report : List ℕ) (all : Option (List ℕ)) (room next : Option ℕ) (result : Result Unit Failed) (fault : Failed)
    → slice ≡ octets → IfSome all (λ whole. octets ≡ whole) → written ≡ report → IsReport slice report → result ≡ Err fault
    → IsWrittenWithinRoom room next result written → IfSome all (λ whole. HasNoRoom whole room)
no_room slice octets written report None room next result fault lent same as_written is failed within = tt
no_room slice octets written report (Some whole) room next result fault lent same as_written is failed within = λ other is_other has.
    let other_here : IsReport slice other = subst (λ xs. IsReport xs other) (sym (lent ∙ same)) is_other in
    let one : other ≡ written = one_report slice other report other_here is ∙ sym as_written in
    let size : length other ≡ length written + 0 = omega (arith, ap length one) in
    failed_is_no_success result fault failed (within 0 (subst (HasRoom room) size has)).0

pub ruleset scripts_read = (script_checked, no_sign, no_events, sign_refused, events_refused)

pub ruleset scripts_run = (script_run, few_lines, no_sign, no_events, sign_refused, events_refused)

pub ruleset signs_named = (bench_is_named, sign_is_named, none_is_named, sign_leaves, sign_number)

pub ruleset first_lines = (bench_first, other_first, nothing_first, bench_leaves)
