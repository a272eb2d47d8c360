-- What a live sign answers to a line, and what it is afterwards (this profile). Each line of an answer ends in a
-- newline.
use Rattle.std.specs.Prelude.{ℕ, ◌+◌, ◌*◌, ◌&&◌, Bool, if◌then◌else◌, List, []}
use Rattle.std.specs.Prelude.{◌++◌, codes, Option, Some, None, Result, Ok, Err, is_ok}
use Rattle.hex.specs.Hex.{encode_lower}
use Rattle.dms_wire_ber.specs.Limits.{longest_datagram}
use Rattle.dms_codes.specs.declared.codes.Order.{Order}
use Rattle.dms_codes.specs.declared.codes.Activation.{Activation}
use Rattle.dms_face.specs.declared.multi_fault.MultiFault.{MultiFault}
use Rattle.dms_face.specs.Face.{fit}
use Rattle.dms_face.specs.Layout.{under}
use Rattle.dms_face_pages.specs.Drawn.{DrawnPage, drawn_text}
use Rattle.dms_sign.specs.State.{SignState}
use Rattle.dms_sign.specs.Reply.{Received, received, after_get}
use Rattle.dms_sign.specs.Events.{after_tick, after_ticks, after_power_loss, after_power_return}
use Rattle.dms_text_forms.specs.LineText.{ended, code_text}
use Rattle.dms_sign_text.specs.ShownLine.{shown_line}
use Rattle.dms_sign_state.specs.StateText.{text_of_state}
use Rattle.dms_face_pages.specs.PageText.{pages_text}
use Rattle.dms_text_streams.specs.Conversation.{bad_line, ok_line}
use Rattle.dms_sign_lines.specs.SignCall.{SignCall, datagram, tick, ticks, heard, power_lost, power_back}
use Rattle.dms_sign_lines.specs.SignCall.{show, state, save}
use Rattle.dms_sign_lines.specs.SignForm.{call_cause, bad_line_text}
use Rattle.dms_sign_lines.specs.SignReading.{call_of}
use Rattle.dms_sign_lines.specs.declared.cause.SignCallCause.{SignCallCause}

-- ---- what comes of a datagram

-- the reply's octets, and before them the code that was accepted, in the sign's order
abbrev pub reply_line : Order → List ℕ → Option Activation → List ℕ
reply_line order reply None = ended (codes "reply " ++ encode_lower reply)
reply_line order reply (Some code) =
    ended (codes "accepted " ++ code_text order code ++ codes " " ++ encode_lower reply)

abbrev pub receipt_line : Order → Option (List ℕ) → Option Activation → List ℕ
receipt_line order None accepted = ended (codes "dropped")
receipt_line order (Some reply) accepted = reply_line order reply accepted

abbrev pub received_line : Order → Received → List ℕ
received_line order received = receipt_line order received.reply received.accepted

-- the most octets of such a line: `accepted`, the twelve octets of a code and those of a reply in two digits each, two
-- spaces and a newline
abbrev pub longest_receipt_line : ℕ
longest_receipt_line = 8 + 2 * 12 + 2 * longest_datagram + 3

-- ---- what is shown

abbrev pub pages_or_none : Result (List DrawnPage) MultiFault → List DrawnPage
pages_or_none (Ok pages) = pages
pages_or_none (Err fault) = []

-- what is shown has pages, under the copy of the defaults that belongs to it
abbrev pub has_pages : SignState → Bool
has_pages s =
    fit s.config.face.fonts s.shown.defaults
    && is_ok (drawn_text (under s.config.face s.shown.defaults) s.shown.text)

-- The pages of what is shown, under the copy of the defaults that belongs to it. What a sign shows has pages: the other
-- cases never come (`signs_show_good_texts` of laws).
abbrev pub shown_pages : SignState → List DrawnPage
shown_pages s =
    if fit s.config.face.fonts s.shown.defaults
    then pages_or_none (drawn_text (under s.config.face s.shown.defaults) s.shown.text) else []

-- ---- calls

abbrev pub call_text : SignState → SignCall → List ℕ
call_text s (datagram octets) = received_line s.table.order (received s octets)
call_text s tick = ok_line
call_text s (ticks seconds) = ok_line
call_text s heard = ok_line
call_text s power_lost = ok_line
call_text s (power_back seconds) = ok_line
call_text s show = pages_text (shown_pages s) ++ ok_line
call_text s state = shown_line s.shown ++ ok_line
call_text s save = text_of_state s ++ ok_line

abbrev pub after_call : SignState → SignCall → SignState
after_call s (datagram octets) = (received s octets).after
after_call s tick = after_tick s
after_call s (ticks seconds) = after_ticks seconds s
after_call s heard = after_get s
after_call s power_lost = after_power_loss s
after_call s (power_back seconds) = after_power_return s seconds
after_call s show = s
after_call s state = s
after_call s save = s

-- ---- lines

-- the answer to a call, or why a line is none; one of the two there always is (`each_line_is_a_call_or_has_a_cause`)
abbrev pub text_if : SignState → Option SignCall → Option SignCallCause → List ℕ
text_if s (Some call) cause = call_text s call
text_if s None (Some cause) = bad_line_text cause
text_if s None None = bad_line

abbrev pub after_if : SignState → Option SignCall → SignState
after_if s None = s
after_if s (Some call) = after_call s call

-- the answer to a line; one that is no call is a bad line, and is told why
abbrev pub answer_text : SignState → List ℕ → List ℕ
answer_text s line = text_if s (call_of line) (call_cause line)

-- the sign after a line; a bad line changes nothing
abbrev pub after_line : SignState → List ℕ → SignState
after_line s line = after_if s (call_of line)
