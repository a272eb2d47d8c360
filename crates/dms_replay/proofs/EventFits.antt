-- A line is an event's just where it has no cause.
use Rattle.std.proofs.Common.{◌≡◌, ℕ, not, List, Some, None, is_some, ◌∙◌}
use Rattle.dms_codes.specs.declared.codes.Order.{Order}
use Rattle.dms_codes.proofs.Options.{is_some_mapped}
use Rattle.dms_text_forms.specs.Form.{fault_from}
use Rattle.dms_text_forms.specs.FieldsReading.{last_number_at, last_octets_at}
use Rattle.dms_text_forms.specs.declared.vocabulary.WordName.TheVariants as names
use Rattle.dms_text_causes.proofs.CauseLaws.{end_wanted, octets_wanted, number_wanted, form_line_wanted, read_without_cause}
use Rattle.dms_centre_text.specs.CommandReading.{command_after}
use Rattle.dms_centre_text.proofs.CommandCauses.{command_wanted}
use Rattle.dms_world.specs.Event.{EventModel, command, sign_tick, centre_tick, to_sign, to_centre, power_lost, power_back, centre_restart, forge_sign, forge_centre}
use Rattle.dms_replay.specs.EventReading.{keyword_of, event_after, event_of}
use Rattle.dms_replay.specs.EventForm.{form_after, event_cause}
use Rattle.dms_replay.specs.declared.event_cause.EventCause.TheVariants as causes
use Rattle.dms_replay.specs.declared.keyword.EventKeyword.{EventKeyword}
use Rattle.dms_replay.specs.declared.keyword.EventKeyword.TheVariants as key

form_wanted : (order : Order) (keyword : EventKeyword) (words : List (List ℕ)) → is_some (event_after order keyword words) ≡ not (is_some (fault_from 2 (form_after keyword) words))
form_wanted order (key.Command asked) words = is_some_mapped command (command_after order asked words) ∙ command_wanted order asked words
form_wanted order key.SignTick words = end_wanted sign_tick 2 words
form_wanted order key.CentreTick words = end_wanted centre_tick 2 words
form_wanted order key.ToSign words = is_some_mapped to_sign (last_number_at words) ∙ number_wanted 2 words
form_wanted order key.ToCentre words = is_some_mapped to_centre (last_number_at words) ∙ number_wanted 2 words
form_wanted order key.PowerLost words = end_wanted power_lost 2 words
form_wanted order key.PowerBack words = is_some_mapped power_back (last_number_at words) ∙ number_wanted 2 words
form_wanted order key.CentreRestart words = end_wanted centre_restart 2 words
form_wanted order key.ForgeSign words = is_some_mapped forge_sign (last_octets_at words) ∙ octets_wanted names.Datagram 2 words
form_wanted order key.ForgeCentre words = is_some_mapped forge_centre (last_octets_at words) ∙ octets_wanted names.Datagram 2 words

event_wanted : (order : Order) (line : List ℕ) → is_some (event_of order line) ≡ not (is_some (event_cause line))
unfolding event_of
event_wanted order line = form_line_wanted causes.Keyword causes.Word keyword_of (event_after order) form_after (form_wanted order) line

-- a line that has no cause is an event's, whatever the order of its code
pub event_fits : (order : Order) (line : List ℕ) → event_cause line ≡ None → (event : EventModel) × (event_of order line ≡ Some event)
event_fits order line e = read_without_cause (event_of order line) (event_cause line) (event_wanted order line) e
