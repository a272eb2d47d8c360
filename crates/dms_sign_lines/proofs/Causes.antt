-- A line is a call just where it has no cause.
use Rattle.std.proofs.Common.{◌≡◌, ℕ, not, List, None, is_some, ◌∙◌}
use Rattle.std.specs.Prelude.{IsSome}
use Rattle.dms_codes.proofs.Options.{is_some_mapped}
use Rattle.dms_text_forms.specs.Form.{fault_from}
use Rattle.dms_text_forms.specs.FieldsReading.{last_number_at, last_octets_at}
use Rattle.dms_text_forms.specs.declared.vocabulary.WordName.TheVariants as names
use Rattle.dms_text_causes.proofs.CauseLaws.{end_wanted, octets_wanted, number_wanted, form_line_wanted, some_cause, no_cause}
use Rattle.dms_sign_lines.specs.SignCall.{SignCall, datagram, tick, ticks, heard, power_lost, power_back, show, state, save}
use Rattle.dms_sign_lines.specs.SignLine.{SpellsSignCall, SpellsNoSignCall}
use Rattle.dms_sign_lines.specs.SignReading.{keyword_of, call_after, call_of}
use Rattle.dms_sign_lines.specs.SignForm.{form_after, call_cause}
use Rattle.dms_sign_lines.specs.declared.cause.SignCallCause.TheVariants as causes
use Rattle.dms_sign_lines.specs.declared.keyword.SignKeyword.{SignKeyword}
use Rattle.dms_sign_lines.specs.declared.keyword.SignKeyword.TheVariants as key
use Rattle.dms_sign_lines.proofs.CallLaws.{call_only, none_read}

form_wanted : (keyword : SignKeyword) (words : List (List ℕ)) → is_some (call_after keyword words) ≡ not (is_some (fault_from 2 (form_after keyword) words))
form_wanted key.Datagram words = is_some_mapped datagram (last_octets_at words) ∙ octets_wanted names.Datagram 2 words
form_wanted key.Tick words = end_wanted tick 2 words
form_wanted key.Ticks words = is_some_mapped ticks (last_number_at words) ∙ number_wanted 2 words
form_wanted key.Heard words = end_wanted heard 2 words
form_wanted key.PowerLost words = end_wanted power_lost 2 words
form_wanted key.PowerBack words = is_some_mapped power_back (last_number_at words) ∙ number_wanted 2 words
form_wanted key.Show words = end_wanted show 2 words
form_wanted key.State words = end_wanted state 2 words
form_wanted key.Save words = end_wanted save 2 words

call_wanted : (line : List ℕ) → is_some (call_of line) ≡ not (is_some (call_cause line))
unfolding call_of
call_wanted line = form_line_wanted causes.Keyword causes.Word keyword_of call_after form_after form_wanted line

-- a line that spells no call has a cause
pub cause_of_no_call : (line : List ℕ) → SpellsNoSignCall line → IsSome (call_cause line)
cause_of_no_call line none = some_cause (call_of line) (call_cause line) (call_wanted line) (none_read line none)

-- one that spells a call has none
pub no_cause_of_call : (line : List ℕ) (call : SignCall) → SpellsSignCall call line → call_cause line ≡ None
no_cause_of_call line call spelled = no_cause call (call_of line) (call_cause line) (call_wanted line) (call_only line call spelled)
