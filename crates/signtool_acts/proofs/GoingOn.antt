-- A sign to which lines came is put in the state of its text, and goes on as it would have.
use Rattle.std.proofs.Common.{◌≡◌, ℕ, zero, suc, Bool, true, false, cond, List, [], ◌∷◌, ◌++◌, length, replicate, nat_lt, Option, Some, None, refl, ap, sym, subst, ◌∙◌}
use Rattle.dms_text_streams.specs.Conversation.{longest_line, left_by, left_by_all, answers}
use Rattle.dms_sign.specs.State.{SignState}
use Rattle.dms_sign.specs.Events.{after_tick, after_ticks}
use Rattle.dms_sign_lines.specs.Answer.{after_call, after_if, after_line}
use Rattle.dms_sign_lines.specs.SignCall.{SignCall}
use Rattle.dms_sign_lines.specs.SignCall as calls
use Rattle.dms_sign_lines.specs.SignReading.{call_of}
use Rattle.dms_sign_restored.specs.Runs.{SignEvent, after_event, after_events}
use Rattle.dms_sign_restored.specs.Runs as events

-- events lead from a sign to another
abbrev pub Reaches : SignState → SignState → Type 0
Reaches s t = (came : List SignEvent) × (t ≡ after_events s came)

joined : (s : SignState) (some more : List SignEvent) → after_events s (some ++ more) ≡ after_events (after_events s some) more
joined s [] more = refl
joined s (event ∷ some) more = joined (after_event s event) some more

goes_on : (s t u : SignState) → Reaches s t → Reaches t u → Reaches s u
goes_on s t u first next = (
  first.0 ++ next.0,
  next.1 ∙ ap (λ s. after_events s next.0) first.1 ∙ sym (joined s first.0 next.0),
)

-- ---- a line

second_first : (n : ℕ) (s : SignState) → after_ticks n (after_tick s) ≡ after_tick (after_ticks n s)
unfolding after_ticks
second_first zero s = refl
second_first (suc n) s = ap after_tick (second_first n s)

seconds : (n : ℕ) (s : SignState) → after_ticks n s ≡ after_events s (replicate n events.second)
unfolding after_ticks
seconds zero s = refl
seconds (suc n) s = sym (second_first n s) ∙ seconds n (after_tick s)

by_call : (s : SignState) (call : SignCall) → Reaches s (after_call s call)
by_call s (calls.datagram octets) = (events.datagram octets ∷ [], refl)
by_call s calls.tick = (events.second ∷ [], refl)
by_call s (calls.ticks n) = (replicate n events.second, seconds n s)
by_call s calls.heard = (events.heard ∷ [], refl)
by_call s calls.power_lost = (events.power_lost ∷ [], refl)
by_call s (calls.power_back n) = (events.power_back n ∷ [], refl)
by_call s calls.show = ([], refl)
by_call s calls.state = ([], refl)
by_call s calls.save = ([], refl)

by_reading : (s : SignState) (call : Option SignCall) → Reaches s (after_if s call)
by_reading s None = ([], refl)
by_reading s (Some call) = by_call s call

if_short : (is_long : Bool) (s t : SignState) → Reaches s t → Reaches s (cond is_long s t)
if_short true s t reaches = ([], refl)
if_short false s t reaches = reaches

by_line : (s : SignState) (line : List ℕ) → Reaches s (left_by after_line s line)
by_line s line = if_short (nat_lt longest_line (length line)) s (after_line s line) (by_reading s (call_of line))

pub by_lines : (s : SignState) (lines : List (List ℕ)) → Reaches s (left_by_all after_line s lines)
by_lines s [] = ([], refl)
by_lines s (line ∷ more) =
    goes_on s (left_by after_line s line) (left_by_all after_line (left_by after_line s line) more) (by_line s line)
    (by_lines (left_by after_line s line) more)
