-- Lines, each of which is read where it is spelled so, and nowhere else.
use Rattle.std.proofs.Common.{◌≡◌, ℕ, ◌<◌, ◌≤◌, ◌^◌, true, cond, List, [], ◌∷◌, ◌++◌, Option, Some, None, decimal, codes, refl, sym, ap, subst, ◌∙◌, append_assoc, append-nil, arith, inl, inr}
use Rattle.std.proofs.lemmas.Bool.{cases_Bool}
use Rattle.std.proofs.lemmas.Option.{same_Some}
use Rattle.dms_text.specs.Reading.{◌>>=◌}
use Rattle.dms_text.proofs.WordLaws.{begun}
use Rattle.dms_text_forms.specs.LineText.{code_text}
use Rattle.dms_codes.specs.declared.codes.Order.{Order}
use Rattle.dms_centre_jobs.specs.declared.step.Step.{Step}
use Rattle.dms_centre_jobs.specs.Job.{Work, Publishing, Showing}
use Rattle.dms_centre_jobs.specs.Steps.{step_number}
use Rattle.dms_centre_jobs.specs.Commands.{CommandModel, job_of}
use Rattle.dms_centre_jobs.specs.Requests.{IsWork, OfPublishing, OfShowing}
use Rattle.dms_centre.specs.declared.ended.Ended.{Ended}
use Rattle.dms_centre.specs.declared.ended.Ended.TheVariants as endings
use Rattle.dms_centre.specs.declared.restoring.EndFault.{EndFault}
use Rattle.dms_centre.specs.declared.restoring.SavedStage.{SavedStage}
use Rattle.dms_centre.specs.Texts.{outcome_text, why_text}
use Rattle.dms_centre.specs.State.{Entry}
use Rattle.dms_centre.specs.Restoring.{suits, end_fault}
use Rattle.dms_centre_state.specs.CentreText.{number_line, last_line, work_line, ledger_line}
use Rattle.dms_centre_state.specs.Reached.{IsEnded}
use Rattle.dms_text_exact.specs.Fronts.{IsFree}
use Rattle.dms_centre_restored.specs.declared.lines.PhaseLine.{PhaseLine}
use Rattle.dms_centre_restored.specs.declared.lines.PhaseLine.TheVariants as phases
use Rattle.dms_text_exact.specs.Fronts.{behind}
use Rattle.dms_text_exact.proofs.FrontLaws.{behind_found, behind_only, cut_only, free_append}
use Rattle.dms_text_exact.proofs.NumberLaws.{decimal_free}
use Rattle.dms_centre_restored.specs.WordReading.{line_at}
use Rattle.dms_centre_restored.specs.LineReading.{field_at, number_line_at, ended_in, phase_or, can_wait, awaits_at, phase_at, comes_to, step_in, step_line_at, work_at, entry_in, entry_line_at}
use Rattle.dms_centre_restored.proofs.WordsRead.{some, spaced_free, code_word}
use Rattle.dms_centre_restored.proofs.LinesRead.{number_line_only, end_line, failure, failure_free, failure_line, IsSpelledEntry, entry_words, entry_free, entry_grouped, spelled_line_only}
use Rattle.dms_centre_restored.proofs.LinesFound.{field_found, number_line_found, ended_found, last_line_is, entry_found, step_found, work_found}
use Rattle.dms_centre_restored.proofs.JobsRead.{is_fit, words, more_words, are_words, publish_text, command_back, work_back, work_only, step_range, step_line_only}
use Rattle.dms_centre_restored.proofs.PhasesRead.{idle_line, due_line, awaits_line}
use Rattle.dms_centre_restored.proofs.TakenUp.{is_ended}

-- it is one line, with its end
pub record IsOneLine (text : List ℕ) : Type 0 where
  pub word : List ℕ
  pub free : IsFree 10 word
  pub is : text ≡ word ++ 10 ∷ []

-- what is read by the reader is a line that is spelled so
pub record IsLine {A : Type 0} (spelled : A → List ℕ) (Good : A → Type 0) (reader : List ℕ → Option (A × List ℕ)) : Type 0 where
  pub found : (text : List ℕ) (x : A × List ℕ) → reader text ≡ Some x → Good x.0 × (text ≡ spelled x.0 ++ x.1)
  pub only : (a : A) (rest : List ℕ) → Good a → reader (spelled a ++ rest) ≡ Some (a, rest)
  pub line : (a : A) → Good a → IsOneLine (spelled a)

-- ---- a line is read whatever stands behind it

pub same_line : (one other rest more : List ℕ) → IsFree 10 one → IsFree 10 other → one ++ 10 ∷ rest ≡ other ++ 10 ∷ more → (one ≡ other) × (rest ≡ more)
same_line one other rest more free clear e =
    let same : (one, rest) ≡ (other, more) = same_Some (one, rest) (other, more) (sym (cut_only 10 one rest free) ∙ ap line_at e ∙ cut_only 10 other more clear) in
    (ap (λ (x : List ℕ × List ℕ). x.0) same, ap (λ (x : List ℕ × List ℕ). x.1) same)

pub record Follows {A : Type 0} (reader : List ℕ → Option (A × List ℕ)) (rest after more : List ℕ) (x : A × List ℕ) : Type 0 where
  pub again : reader rest ≡ Some (x.0, after)
  pub more_is : x.1 ≡ more

pub follows : {A : Type 0} {spelled : A → List ℕ} {Good : A → Type 0} {reader : List ℕ → Option (A × List ℕ)} → IsLine spelled Good reader
    → (other rest line more after : List ℕ) (x : A × List ℕ) → IsFree 10 line → other ≡ line ++ 10 ∷ more → rest ≡ line ++ 10 ∷ after → reader other ≡ Some x → Follows reader rest after more x
follows {A = A} {spelled = spelled} {reader = reader} is other rest line more after x free there here e =
    let found = is.found other x e in
    let one = is.line x.0 found.0 in
    let regroup : (tail : List ℕ) → spelled x.0 ++ tail ≡ one.word ++ 10 ∷ tail = λ tail. ap (λ front. front ++ tail) one.is ∙ append_assoc one.word (10 ∷ []) tail in
    let same = same_line one.word line x.1 more one.free free (sym (regroup x.1) ∙ sym found.1 ∙ there) in
    record {
      again = ap reader (here ∙ ap (λ word. word ++ 10 ∷ after) (sym same.0) ∙ sym (regroup after)) ∙ is.only x.0 after found.0;
      more_is = same.1;
    }

-- ---- numbers

abbrev pub IsWithin : ℕ → ℕ → ℕ → Type 0
IsWithin low high number = (low ≤ number) × (number ≤ high)

pub number_is : (name : List ℕ) (low high : ℕ) → IsFree 10 name → high < 10 ^ 10 → IsLine (λ n. name ++ (decimal n ++ 10 ∷ [])) (IsWithin low high) (number_line_at name low high)
number_is name low high free small = record {
  found = λ text x e.
      let is = number_line_found name text low high x e in
      (is.0, is.1 ∙ ap (λ rest. name ++ rest) (sym (append_assoc (decimal x.0) (10 ∷ []) x.1)) ∙ sym (append_assoc name (decimal x.0 ++ 10 ∷ []) x.1));
  only = λ n rest good.
      ap (λ text. number_line_at name low high text) (append_assoc name (decimal n ++ 10 ∷ []) rest) ∙ number_line_only name low high n rest good.0 good.1 small;
  line = λ n good. record {
    word = name ++ decimal n;
    free = free_append 10 name (decimal n) free (decimal_free 10 n (omega arith) (omega (arith, good.1, small)));
    is = sym (append_assoc name (decimal n) (10 ∷ []));
  };
}

-- ---- the first line

abbrev pub form_or : Option (List ℕ) → Option (Unit {0} × List ℕ)
form_or None = None
form_or (Some rest) = Some (tt, rest)

abbrev pub form_line : List ℕ → Option (Unit {0} × List ℕ)
form_line text = form_or (behind (codes "state 1 centre\n") text)

form_found : (text : List ℕ) (x : Unit {0} × List ℕ) (found : Option (List ℕ)) → behind (codes "state 1 centre\n") text ≡ found → form_or found ≡ Some x → text ≡ codes "state 1 centre\n" ++ x.1
form_found text x None is e = absurd (let none : None ≡ Some x = e in cc)
form_found text x (Some rest) is e =
    behind_found (codes "state 1 centre\n") text rest is ∙ ap (λ (x : Unit {0} × List ℕ). codes "state 1 centre\n" ++ x.1) (same_Some (tt, rest) x e)

pub form_is : IsLine {A = Unit {0}} (λ u. codes "state 1 centre\n") (λ u. Unit {0}) form_line
form_is = record {
  found = λ text x e. (tt, form_found text x (behind (codes "state 1 centre\n") text) refl e);
  only = λ u rest good. ap form_or (behind_only (codes "state 1 centre\n") rest);
  line = λ u good. record { word = codes "state 1 centre"; free = refl; is = refl };
}

-- ---- how the last job ended

abbrev pub faultless : Option EndFault → Ended → List ℕ → Option (Ended × List ℕ)
faultless None ended rest = Some (ended, rest)
faultless (Some fault) ended rest = None

abbrev pub end_or : List ℕ → Option Ended → Option (Ended × List ℕ)
end_or rest None = None
end_or rest (Some ended) = faultless (end_fault ended) ended rest

abbrev pub end_of : Option (List ℕ × List ℕ) → Option (Ended × List ℕ)
end_of None = None
end_of (Some field) = end_or field.1 (ended_in field.0)

abbrev pub ended_line : List ℕ → Option (Ended × List ℕ)
ended_line text = end_of (field_at (codes "last ") text)

is_faultless : (fault : Option EndFault) (ended : Ended) (rest : List ℕ) (x : Ended × List ℕ) → faultless fault ended rest ≡ Some x → (fault ≡ None) × ((ended, rest) ≡ x)
is_faultless None ended rest x e = (refl, same_Some (ended, rest) x e)
is_faultless (Some fault) ended rest x e = absurd cc

ended_line_found : (text : List ℕ) (x : Ended × List ℕ) → ended_line text ≡ Some x → IsEnded x.0 × (text ≡ last_line x.0 ++ x.1)
ended_line_found text x e = of_field (field_at (codes "last ") text) refl e
  where
    of_end : (field : List ℕ × List ℕ) (found : Option Ended) → field_at (codes "last ") text ≡ Some field → ended_in field.0 ≡ found → end_or field.1 found ≡ Some x → IsEnded x.0 × (text ≡ last_line x.0 ++ x.1)
    of_end field None is read e = absurd (let none : None ≡ Some x = e in cc)
    of_end field (Some ended) is read e =
        let good = is_faultless (end_fault ended) ended field.1 x e in
        let spelled = ended_found field.0 ended read in
        subst (λ (x : Ended × List ℕ). IsEnded x.0 × (text ≡ last_line x.0 ++ x.1)) good.1
        (is_ended ended good.0, field_found (codes "last ") text field is ∙ ap (λ words. codes "last " ++ (words ++ 10 ∷ field.1)) spelled.1 ∙ last_line_is ended field.1 spelled.0)

    of_field : (found : Option (List ℕ × List ℕ)) → field_at (codes "last ") text ≡ found → end_of found ≡ Some x → IsEnded x.0 × (text ≡ last_line x.0 ++ x.1)
    of_field None is e = absurd (let none : None ≡ Some x = e in cc)
    of_field (Some field) is e = of_end field (ended_in field.0) is refl e

last_one : (ended : Ended) → IsEnded ended → IsOneLine (last_line ended)
last_one endings.Never is = record { word = codes "last none"; free = refl; is = refl }
last_one endings.Accepted is = record { word = codes "last accepted"; free = refl; is = refl }
last_one (endings.Failed step why) is = record {
  word = codes "last " ++ failure step (why_text why);
  free = failure_free step why is.2;
  is = sym (append-nil (last_line (endings.Failed step why))) ∙ failure_line step why [] is.1;
}

pub ended_is : ((ended : Ended) → IsEnded ended → end_fault ended ≡ None) → IsLine last_line IsEnded ended_line
ended_is none = record {
  found = ended_line_found;
  only = λ ended rest good.
      let line = end_line ended rest good in
      ap end_of line.line ∙ ap (λ found. end_or rest found) line.read ∙ ap (λ fault. faultless fault ended rest) (none ended good);
  line = last_one;
}

-- ---- whether a job is on

abbrev pub phase_line : PhaseLine → List ℕ
phase_line phases.Idle = codes "idle\n"
phase_line phases.Due = codes "due\n"
phase_line phases.Awaits = codes "awaits\n"

abbrev pub IsPhaseLine : ℕ → PhaseLine → Type 0
IsPhaseLine next phases.Idle = Unit {0}
IsPhaseLine next phases.Due = Unit {0}
IsPhaseLine next phases.Awaits = can_wait next ≡ true

abbrev IsPhaseIn : ℕ → List ℕ → PhaseLine × List ℕ → Type 0
IsPhaseIn next text x = IsPhaseLine next x.0 × (text ≡ phase_line x.0 ++ x.1)

one_phase : (next : ℕ) (text : List ℕ) (line : PhaseLine) (others : Option (PhaseLine × List ℕ)) (x : PhaseLine × List ℕ) (found : Option (List ℕ)) → IsPhaseLine next line
    → behind (phase_line line) text ≡ found → phase_or found line others ≡ Some x → (others ≡ Some x → IsPhaseIn next text x) → IsPhaseIn next text x
one_phase next text line others x None good is e other = other e
one_phase next text line others x (Some rest) good is e other =
    subst (λ (x : PhaseLine × List ℕ). IsPhaseIn next text x) (same_Some (line, rest) x e) (good, behind_found (phase_line line) text rest is)

awaits_found : (next : ℕ) (text : List ℕ) (x : PhaseLine × List ℕ) → awaits_at next text ≡ Some x → IsPhaseIn next text x
awaits_found next text x e =
    elim (cases_Bool (can_wait next)) [
      | inl can ↦
          one_phase next text phases.Awaits None x (behind (codes "awaits\n") text) can refl
          (ap (λ b. cond b (phase_or (behind (codes "awaits\n") text) phases.Awaits None) None) (sym can) ∙ e) (λ e. absurd (let none : None ≡ Some x = e in cc))
      | inr not ↦
          absurd (let none : None ≡ Some x = ap (λ b. cond b (phase_or (behind (codes "awaits\n") text) phases.Awaits None) None) (sym not) ∙ e in cc)
    ]

phase_found : (next : ℕ) (text : List ℕ) (x : PhaseLine × List ℕ) → phase_at next text ≡ Some x → IsPhaseIn next text x
unfolding phase_at
phase_found next text x e =
    one_phase next text phases.Idle (phase_or (behind (codes "due\n") text) phases.Due (awaits_at next text)) x (behind (codes "idle\n") text) tt refl e (λ e.
    one_phase next text phases.Due (awaits_at next text) x (behind (codes "due\n") text) tt refl e (λ e.
    awaits_found next text x e))

phase_only : (next : ℕ) (line : PhaseLine) (rest : List ℕ) → IsPhaseLine next line → phase_at next (phase_line line ++ rest) ≡ Some (line, rest)
phase_only next phases.Idle rest good = idle_line next rest
phase_only next phases.Due rest good = due_line next rest
phase_only next phases.Awaits rest good = awaits_line next rest good

phase_one : (line : PhaseLine) → IsOneLine (phase_line line)
phase_one phases.Idle = record { word = codes "idle"; free = refl; is = refl }
phase_one phases.Due = record { word = codes "due"; free = refl; is = refl }
phase_one phases.Awaits = record { word = codes "awaits"; free = refl; is = refl }

pub phase_is : (next : ℕ) → IsLine phase_line (IsPhaseLine next) (phase_at next)
phase_is next = record { found = phase_found next; only = phase_only next; line = λ line good. phase_one line }

-- ---- the step of a job, and its work

abbrev pub step_line : Step → List ℕ
step_line step = number_line (codes "step") (step_number step)

abbrev pub Comes : SavedStage → Step → Type 0
Comes stage step = comes_to stage step ≡ true

step_line_found : (stage : SavedStage) (text : List ℕ) (x : Step × List ℕ) → step_line_at stage text ≡ Some x → Comes stage x.0 × (text ≡ step_line x.0 ++ x.1)
unfolding step_line_at
step_line_found stage text x e =
    let field = begun (field_at (codes "step ") text) (λ field. step_in stage field.0 >>= (λ step. Some (step, field.1))) x e in
    let step = begun (step_in stage field.0.0) (λ step. Some (step, field.0.1)) x field.2 in
    let is = step_found stage field.0.0 step.0 step.1 in
    subst (λ (x : Step × List ℕ). Comes stage x.0 × (text ≡ step_line x.0 ++ x.1)) (same_Some (step.0, field.0.1) x step.2) (
      is.0,
      field_found (codes "step ") text field.0 field.1 ∙ ap (λ digits. codes "step " ++ (digits ++ 10 ∷ field.0.1)) is.1
          ∙ ap (λ text. codes "step " ++ text) (sym (append_assoc (decimal (step_number step.0)) (codes "\n") field.0.1)),
    )

pub step_is : (stage : SavedStage) → IsLine step_line (Comes stage) (step_line_at stage)
step_is stage = record {
  found = step_line_found stage;
  only = λ step rest good. step_line_only stage step rest good;
  line = λ step good. let range = step_range step in record {
    word = codes "step " ++ decimal (step_number step);
    free = decimal_free 10 (step_number step) (omega arith) (omega (arith, range.1));
    is = refl;
  };
}

-- a command that is the work of a job on a step
pub record IsWorkOf (step : Step) (command : CommandModel) : Type 0 where
  pub work : Work
  pub is : IsWork work
  pub suit : suits work step ≡ true
  pub command_is : command ≡ command_back work

-- the work that a command begins
abbrev pub line_of : Order → CommandModel → List ℕ
line_of order command = work_line order (job_of command).work

work_one : (order : Order) (work : Work) → IsWork work → IsOneLine (work_line order work)
work_one order (Publishing p) (OfPublishing q is good) =
    let are = are_words p (is_fit p is good) in
    record {
      word = codes "publish " ++ words p;
      free = spaced_free (decimal p.memory) (more_words p) are.0 are.1;
      is = sym (append-nil (work_line order (Publishing p))) ∙ publish_text p [];
    }
work_one order (Showing code) (OfShowing other is) = record {
  word = codes "activate " ++ code_text order code;
  free = (code_word order code is).line;
  is = refl;
}

pub work_is : (order : Order) (step : Step) → IsLine (line_of order) (IsWorkOf step) (work_at order step)
work_is order step = record {
  found = λ text x e.
      let is = work_found order step text x e in (
        record { work = is.work; is = is.is; suit = is.suit; command_is = is.command },
        is.text_is ∙ ap (λ work. work_line order work ++ x.1) (sym (work_back is.work)) ∙ ap (λ command. line_of order command ++ x.1) (sym is.command),
      );
  only = λ command rest good.
      ap (λ command. work_at order step (line_of order command ++ rest)) good.command_is
      ∙ ap (λ work. work_at order step (work_line order work ++ rest)) (work_back good.work)
      ∙ work_only order step good.work rest good.is good.suit
      ∙ ap (λ command. some (command, rest)) (sym good.command_is);
  line = λ command good.
      subst (λ (work : Work). IsOneLine (work_line order work)) (sym (ap (λ (command : CommandModel). (job_of command).work) good.command_is ∙ work_back good.work))
      (work_one order good.work good.is);
}

-- ---- entries of the ledger

pub record IsEntryWithin (least most : ℕ) (entry : Entry) : Type 0 where
  pub from : least ≤ entry.number
  pub to : entry.number ≤ most
  pub is : IsSpelledEntry entry

entry_text_is : (order : Order) (entry : Entry) (rest : List ℕ) → ledger_line order entry ++ rest ≡ codes "ledger " ++ (entry_words order entry ++ 10 ∷ rest)
entry_text_is order entry rest = entry_grouped (codes "ledger ") (codes " ") (decimal entry.number) (code_text order entry.code) (outcome_text entry.outcome) (codes "\n") rest

entry_line_found : (order : Order) (least most : ℕ) → most < 10 ^ 10 → (text : List ℕ) (x : Entry × List ℕ) → entry_line_at order least most text ≡ Some x
    → IsEntryWithin least most x.0 × (text ≡ ledger_line order x.0 ++ x.1)
unfolding entry_line_at
entry_line_found order least most small text x e =
    let field = begun (field_at (codes "ledger ") text) (λ field. entry_in order least most field.0 >>= (λ entry. Some (entry, field.1))) x e in
    let entry = begun (entry_in order least most field.0.0) (λ entry. Some (entry, field.0.1)) x field.2 in
    let is = entry_found order least most field.0.0 entry.0 small entry.1 in
    subst (λ (x : Entry × List ℕ). IsEntryWithin least most x.0 × (text ≡ ledger_line order x.0 ++ x.1)) (same_Some (entry.0, field.0.1) x entry.2) (
      record { from = is.from; to = is.to; is = is.is },
      field_found (codes "ledger ") text field.0 field.1 ∙ ap (λ words. codes "ledger " ++ (words ++ 10 ∷ field.0.1)) is.words_are ∙ sym (entry_text_is order entry.0 field.0.1),
    )

pub entry_is : (order : Order) (least most : ℕ) → most < 10 ^ 10 → IsLine (ledger_line order) (IsEntryWithin least most) (entry_line_at order least most)
entry_is order least most small = record {
  found = entry_line_found order least most small;
  only = λ entry rest good. spelled_line_only order least most entry rest good.from good.to small good.is;
  line = λ entry good. record {
    word = codes "ledger " ++ entry_words order entry;
    free = entry_free order entry (omega (arith, good.to, small)) good.is;
    is = sym (append-nil (ledger_line order entry)) ∙ entry_text_is order entry [];
  };
}
