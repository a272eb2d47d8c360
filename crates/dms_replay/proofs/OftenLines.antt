-- The lines of which scripts have most, told by their octets, are what their words say.
use Rattle.std.proofs.Common.{◌≡◌, ℕ, List, ◌++◌, Some, None, option_map, sym, ap, ◌∙◌}
use Rattle.std.specs.Prelude.{codes}
use Rattle.dms_text.specs.Words.{words_of}
use Rattle.dms_text.specs.Reading.{word_at}
use Rattle.dms_codes.specs.declared.codes.Order.{Order}
use Rattle.dms_world.specs.Event.{sign_tick, centre_tick, to_sign, to_centre}
use Rattle.dms_text_forms.specs.Form.{fault_from}
use Rattle.dms_text_forms.specs.FieldsReading.{last_number_at}
use Rattle.dms_centre_text.specs.CommandReading.{command_word}
use Rattle.dms_replay.specs.EventForm.{place_cause, event_cause}
use Rattle.dms_replay.specs.EventReading.{keyword_of, event_of}

pub to_sign_event : (order : Order) (line rest : List ℕ) (place : ℕ) → line ≡ codes "to-sign " ++ rest → Some place ≡ last_number_at (words_of rest) → Some (to_sign place) ≡ event_of order line
unfolding event_of word_at keyword_of command_word
to_sign_event order line rest place is read = ap (option_map to_sign) read ∙ sym (ap (event_of order) is)

pub to_sign_cause : (line rest : List ℕ) → line ≡ codes "to-sign " ++ rest → None ≡ place_cause rest → None ≡ event_cause line
unfolding word_at keyword_of command_word
to_sign_cause line rest is none = none ∙ sym (ap event_cause is)

pub to_centre_event : (order : Order) (line rest : List ℕ) (place : ℕ) → line ≡ codes "to-centre " ++ rest → Some place ≡ last_number_at (words_of rest) → Some (to_centre place) ≡ event_of order line
unfolding event_of word_at keyword_of command_word
to_centre_event order line rest place is read = ap (option_map to_centre) read ∙ sym (ap (event_of order) is)

pub to_centre_cause : (line rest : List ℕ) → line ≡ codes "to-centre " ++ rest → None ≡ place_cause rest → None ≡ event_cause line
unfolding word_at keyword_of command_word
to_centre_cause line rest is none = none ∙ sym (ap event_cause is)

pub sign_tick_event : (order : Order) (line : List ℕ) → line ≡ codes "sign-tick" → Some sign_tick ≡ event_of order line
unfolding event_of word_at keyword_of command_word
sign_tick_event order line is = sym (ap (event_of order) is)

pub sign_tick_cause : (line : List ℕ) → line ≡ codes "sign-tick" → None ≡ event_cause line
unfolding word_at keyword_of command_word fault_from
sign_tick_cause line is = sym (ap event_cause is)

pub centre_tick_event : (order : Order) (line : List ℕ) → line ≡ codes "centre-tick" → Some centre_tick ≡ event_of order line
unfolding event_of word_at keyword_of command_word
centre_tick_event order line is = sym (ap (event_of order) is)

pub centre_tick_cause : (line : List ℕ) → line ≡ codes "centre-tick" → None ≡ event_cause line
unfolding word_at keyword_of command_word fault_from
centre_tick_cause line is = sym (ap event_cause is)

pub ruleset often_read = (to_sign_event, to_sign_cause, to_centre_event, to_centre_cause, sign_tick_event, sign_tick_cause, centre_tick_event, centre_tick_cause)
