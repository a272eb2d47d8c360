-- A line is a call just where it has no cause.
use Rattle.std.proofs.Common.{◌≡◌, ℕ, not, List, [], ◌∷◌, Option, Some, None, is_some, refl, ◌∙◌}
use Rattle.std.specs.Prelude.{codes, IsSome}
use Rattle.dms_text.specs.Reading.{keyword_at, ◌>>=◌}
use Rattle.dms_codes.specs.declared.codes.Order.{Order}
use Rattle.dms_codes.proofs.Options.{is_some_mapped}
use Rattle.dms_text_forms.specs.Form.{fault_from}
use Rattle.dms_text_forms.specs.FieldsReading.{if_last, last_octets_at}
use Rattle.dms_text_forms.specs.declared.vocabulary.WordName.TheVariants as names
use Rattle.dms_text_causes.proofs.CauseLaws.{end_wanted, octets_wanted, by_fault, line_wanted, some_cause, no_cause}
use Rattle.dms_centre_text.specs.CommandReading.{command_after}
use Rattle.dms_centre_text.proofs.CommandCauses.{command_wanted}
use Rattle.dms_centre_lines.specs.Calls.{CentreCall, command, datagram, tick, restart, status_last, save}
use Rattle.dms_centre_lines.specs.SpelledCalls.{SpellsCentreCall, SpellsNoCall}
use Rattle.dms_centre_lines.specs.CallReading.{keyword_of, last_alone_at, status_after, call_after, call_of}
use Rattle.dms_centre_lines.specs.CallForm.{last_cause, status_cause, words_cause, call_cause}
use Rattle.dms_centre_lines.specs.declared.cause.CentreCallCause.TheVariants as causes
use Rattle.dms_centre_lines.specs.declared.keyword.CentreKeyword.{CentreKeyword}
use Rattle.dms_centre_lines.specs.declared.keyword.CentreKeyword.TheVariants as key
use Rattle.dms_centre_lines.proofs.CallLaws.{call_only, none_read}

status_wanted : (words : List (List ℕ)) → is_some (status_after words) ≡ not (is_some (status_cause words))
unfolding last_alone_at
status_wanted [] = refl
status_wanted (word ∷ words) = by_last (keyword_at (codes "last") (word ∷ words))
  where
    by_last : (found : Option (List (List ℕ)))
        → is_some (found >>= if_last status_last) ≡ not (is_some (last_cause found))
    by_last None = refl
    by_last (Some rest) = end_wanted status_last 3 rest ∙ by_fault causes.Word (fault_from 3 [] rest)

after_wanted : (order : Order) (keyword : CentreKeyword) (words : List (List ℕ)) → is_some (call_after order keyword words) ≡ not (is_some (words_cause keyword words))
after_wanted order (key.Command asked) words =
    is_some_mapped command (command_after order asked words) ∙ command_wanted order asked words ∙ by_fault causes.Word _
after_wanted order key.Datagram words = is_some_mapped datagram (last_octets_at words) ∙ octets_wanted names.Datagram 2 words ∙ by_fault causes.Word _
after_wanted order key.Tick words = end_wanted tick 2 words ∙ by_fault causes.Word _
after_wanted order key.Restart words = end_wanted restart 2 words ∙ by_fault causes.Word _
after_wanted order key.Status words = status_wanted words
after_wanted order key.Save words = end_wanted save 2 words ∙ by_fault causes.Word _

call_wanted : (order : Order) (line : List ℕ) → is_some (call_of order line) ≡ not (is_some (call_cause line))
unfolding call_of
call_wanted order line = line_wanted causes.Keyword keyword_of (call_after order) words_cause (after_wanted order) line

-- a line that spells no call has a cause
pub cause_of_no_call : (order : Order) (line : List ℕ) → SpellsNoCall order line → IsSome (call_cause line)
cause_of_no_call order line none = some_cause (call_of order line) (call_cause line) (call_wanted order line) (none_read order line none)

-- one that spells a call has none
pub no_cause_of_call : (order : Order) (line : List ℕ) (call : CentreCall) → SpellsCentreCall order call line → call_cause line ≡ None
no_cause_of_call order line call spelled = no_cause call (call_of order line) (call_cause line) (call_wanted order line) (call_only order line call spelled)
