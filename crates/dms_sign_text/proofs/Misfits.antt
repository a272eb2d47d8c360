-- Lines that have the forms that they ought to have, and the first that has not.
use Rattle.std.proofs.Common.{◌≡◌, ℕ, Bool, cond, List, [], ◌∷◌, ◌++◌, Option, Some, None, sym, ap, ◌∙◌}
use Rattle.dms_text.specs.Lines.{NumberedLine, TextLeft, lines_left, number_after}
use Rattle.dms_text.specs.Words.{words_of}
use Rattle.dms_sign_text.specs.RefusedLine.{octets_of, first_number, has_form, from_misfit, first_four_forms}
use Rattle.dms_sign_text.specs.Views.{HaveForms, IsMisfit, FindsLine, FindsNoLine}
use Rattle.dms_sign_text.specs.Setups.{octets_left}
use Rattle.dms_sign_text.specs.DescriptionReading.{line_at}
use Rattle.dms_text.specs.Reading.{◌>>=◌}
use Rattle.std.specs.Option.{is_some, option_or}
use Rattle.std.specs.Prelude.{option_map}
use Rattle.dms_text_forms.specs.Form.{word_fault}
use Rattle.dms_text_forms.specs.declared.wanted.Wanted.{Wanted}
use Rattle.dms_text_forms.specs.declared.fault.WordFault.{WordFault}
use Rattle.dms_sign_text_causes.specs.declared.cause.LineCause.TheVariants as causes
use Rattle.dms_sign_text.specs.Causes.{head_cause, first_four_words}
use Rattle.dms_sign_text.specs.declared.line_fault.LineFault.{LineFault}

-- ---- one line

first_cause_is : (wanted : List Wanted) (more : List (List Wanted)) (left : TextLeft) (line : NumberedLine) (others : List NumberedLine) (found : Option WordFault)
    → lines_left left ≡ line ∷ others → word_fault wanted (words_of line.octets) ≡ found
    → head_cause (wanted ∷ more) (octets_left left) ≡ option_or (option_map causes.Word found) (head_cause more (octets_of others))
first_cause_is wanted more left line others found is words =
    ap (λ lines. head_cause (wanted ∷ more) (octets_of lines)) is
    ∙ ap (λ fault. option_or (option_map causes.Word fault) (head_cause more (octets_of others))) words

pub finds_line : {A : Type 0} (read : List (List ℕ) → Option A) (wanted : List Wanted) (left rest : TextLeft) (line : NumberedLine) (value : A) → lines_left left ≡ line ∷ lines_left rest
    → number_after rest ≡ number_after left → read (words_of line.octets) ≡ Some value → word_fault wanted (words_of line.octets) ≡ None → FindsLine read wanted left value rest
finds_line read wanted left rest line value is after reads taken = record {
  said = ap (λ lines. line_at read (octets_of lines)) is ∙ ap (λ found. found >>= λ said. Some (said, octets_left rest)) reads;
  forms = record {
    lines = λ more. ap (from_misfit (has_form read ∷ more)) is
        ∙ ap (λ fits. cond fits (from_misfit more (lines_left rest)) (line ∷ lines_left rest)) (ap is_some reads);
    after = after;
    causes = λ more. first_cause_is wanted more left line (lines_left rest) None is taken;
  };
}

pub finds_misfit : {A : Type 0} (read : List (List ℕ) → Option A) (wanted : List Wanted) (left rest : TextLeft) (line : NumberedLine) (fault : WordFault) (found : LineFault) → lines_left left ≡ line ∷ lines_left rest
    → read (words_of line.octets) ≡ None → word_fault wanted (words_of line.octets) ≡ Some fault → found.line ≡ line.number → found.cause ≡ causes.Word fault → FindsNoLine read wanted left found
finds_misfit read wanted left rest line fault found is reads lacks number cause = record {
  none = ap (λ lines. line_at read (octets_of lines)) is ∙ ap (λ found. found >>= λ said. Some (said, octets_left rest)) reads;
  misfit = record {
    is = λ more. number ∙ sym (ap (λ lines. first_number lines (number_after left))
        (ap (from_misfit (has_form read ∷ more)) is ∙ ap (λ fits. cond fits (from_misfit more (lines_left rest)) (line ∷ lines_left rest)) (ap is_some reads)));
    cause = λ more. first_cause_is wanted more left line (lines_left rest) (Some fault) is lacks ∙ ap Some (sym cause);
  };
}

pub finds_nothing : {A : Type 0} (read : List (List ℕ) → Option A) (wanted : List Wanted) (left : TextLeft) (found : LineFault) → lines_left left ≡ []
    → found.line ≡ number_after left → found.cause ≡ causes.NoEnd → FindsNoLine read wanted left found
finds_nothing read wanted left found is number cause = record {
  none = ap (λ lines. line_at read (octets_of lines)) is;
  misfit = record {
    is = λ more. number ∙ sym (ap (λ lines. first_number lines (number_after left)) (ap (from_misfit (has_form read ∷ more)) is));
    cause = λ more. ap (λ lines. head_cause (wanted ∷ more) (octets_of lines)) is ∙ ap Some (sym cause);
  };
}

pub ruleset one = (finds_line, finds_misfit, finds_nothing)

-- ---- lines one after another

pub fits_next : (form : List ℕ → Bool) (forms : List (List ℕ → Bool)) (words : List Wanted) (wanted : List (List Wanted)) (left mid rest : TextLeft) → HaveForms (form ∷ []) (words ∷ []) left mid
    → HaveForms forms wanted mid rest → HaveForms (form ∷ forms) (words ∷ wanted) left rest
fits_next form forms words wanted left mid rest first next = record {
  lines = λ more. first.lines (forms ++ more) ∙ next.lines more;
  after = next.after ∙ first.after;
  causes = λ more. first.causes (wanted ++ more) ∙ next.causes more;
}

pub misfit_next : (form : List ℕ → Bool) (forms : List (List ℕ → Bool)) (words : List Wanted) (wanted : List (List Wanted)) (left mid : TextLeft) (fault : LineFault) → HaveForms (form ∷ []) (words ∷ []) left mid
    → IsMisfit forms wanted mid fault → IsMisfit (form ∷ forms) (words ∷ wanted) left fault
misfit_next form forms words wanted left mid fault first next = record {
  is = λ more.
      next.is more
      ∙ sym (ap (λ lines. first_number lines (number_after mid)) (first.lines (forms ++ more)))
      ∙ ap (λ after. first_number (from_misfit (form ∷ forms ++ more) (lines_left left)) after) first.after;
  cause = λ more. first.causes (wanted ++ more) ∙ next.cause more;
}

-- a misfit is one of the first of more lines
pub misfit_first : (form : List ℕ → Bool) (forms : List (List ℕ → Bool)) (words : List Wanted) (wanted : List (List Wanted)) (left : TextLeft) (fault : LineFault)
    → IsMisfit (form ∷ []) (words ∷ []) left fault → IsMisfit (form ∷ forms) (words ∷ wanted) left fault
misfit_first form forms words wanted left fault misfit = record { is = λ more. misfit.is (forms ++ more); cause = λ more. misfit.cause (wanted ++ more) }

pub ruleset more = (fits_next, misfit_next, misfit_first)

-- of all seven lines, one of the last three is a misfit
pub misfit_after_four : (forms : List (List ℕ → Bool)) (wanted : List (List Wanted)) (left mid : TextLeft) (fault : LineFault) → HaveForms first_four_forms first_four_words left mid
    → IsMisfit forms wanted mid fault → IsMisfit (first_four_forms ++ forms) (first_four_words ++ wanted) left fault
misfit_after_four forms wanted left mid fault first next = record {
  is = λ more.
      next.is more
      ∙ sym (ap (λ lines. first_number lines (number_after mid)) (first.lines (forms ++ more)))
      ∙ ap (λ after. first_number (from_misfit (first_four_forms ++ forms ++ more) (lines_left left)) after) first.after;
  cause = λ more. first.causes (wanted ++ more) ∙ next.cause more;
}

-- one of the first four is
pub misfit_in_four : (forms : List (List ℕ → Bool)) (wanted : List (List Wanted)) (left : TextLeft) (fault : LineFault) → IsMisfit first_four_forms first_four_words left fault
    → IsMisfit (first_four_forms ++ forms) (first_four_words ++ wanted) left fault
misfit_in_four forms wanted left fault misfit = record { is = λ more. misfit.is (forms ++ more); cause = λ more. misfit.cause (wanted ++ more) }

pub fits_after_four : (forms : List (List ℕ → Bool)) (wanted : List (List Wanted)) (left mid rest : TextLeft) → HaveForms first_four_forms first_four_words left mid → HaveForms forms wanted mid rest
    → HaveForms (first_four_forms ++ forms) (first_four_words ++ wanted) left rest
fits_after_four forms wanted left mid rest first next = record {
  lines = λ more. first.lines (forms ++ more) ∙ next.lines more;
  after = next.after ∙ first.after;
  causes = λ more. first.causes (wanted ++ more) ∙ next.causes more;
}

pub ruleset seven = (misfit_after_four, misfit_in_four, misfit_next, misfit_first)
