-- A loss of communications on the bench sign, computed.
use Rattle.std.proofs.Common.{◌≡◌, [], ◌∷◌, Some, None, refl}
use Rattle.std.specs.Prelude.{codes}
use Rattle.dms_wire.specs.declared.message.Kind.TheVariants.{GetNext}
use Rattle.dms_wire.specs.Message.{null}
use Rattle.dms_mib.specs.declared.scalar.Scalar.TheVariants.{ShortPowerLossTime, CommunicationsLossMessage, TimeCommLoss, EndDurationMessage}
use Rattle.dms_mib.specs.declared.instance.Instance.TheVariants.{Scalar}
use Rattle.dms_table.specs.Activation.{blank_octets}
use Rattle.dms_sign.specs.State.{SignState}
use Rattle.dms_sign.specs.Values.{bound}
use Rattle.dms_sign.specs.Reply.{dropped}
use Rattle.dms_sign_laws.proofs.BenchSign.{octets_of, bench_sign, lettered_sign, number, octets, code, datagram, answer, after_set, later, without_power, with_power, seen, letter_a, blank_one}

-- after dmsShortPowerLossTime.0 comes dmsCommunicationsLossMessage.0
after_short_power_loss_time : (answer bench_sign GetNext (bound (Scalar ShortPowerLossTime) null ∷ [])).bindings
    ≡ octets (Scalar CommunicationsLossMessage) blank_octets ∷ []
unfolding answer
after_short_power_loss_time = refl

-- ---- a minute of silence

abbrev one_minute : SignState
one_minute = record bench_sign { settings = record bench_sign.settings { time_comm_loss = 1 } }

-- dmsTimeCommLoss is set to 1
time_is_set : (datagram bench_sign (codes "302b020100040561646d696ea31f02010902010002010030143012060d2b060104018936040203060d00020101")).after ≡ one_minute
unfolding datagram
time_is_set = refl

-- after 59 seconds nothing has happened
fifty_nine_seconds : seen (later 59 one_minute) ≡ blank_one 10
unfolding later
fifty_nine_seconds = refl

-- a second later blank 1 is up with the mode commLoss
sixty_seconds : seen (later 60 one_minute) ≡ blank_one 12
unfolding later
sixty_seconds = refl

-- it acts once: the count stays
once : (later 70 one_minute).silent_seconds ≡ 60
unfolding later
once = refl

-- ---- what ends the silence

abbrev half_a_minute : SignState
half_a_minute = record one_minute { silent_seconds = 30 }

-- thirty seconds of silence are counted
thirty_seconds : later 30 one_minute ≡ half_a_minute
unfolding later
thirty_seconds = refl

-- a datagram that is dropped does not: octets that spell no message
junk : datagram half_a_minute (codes "3000") ≡ dropped half_a_minute
unfolding datagram
junk = refl

-- a Response
response_is_dropped : datagram half_a_minute (codes "3017020100040561646d696ea20b0201010201000201003000") ≡ dropped half_a_minute
unfolding datagram
response_is_dropped = refl

-- the community "private"
another_community_is_dropped : datagram half_a_minute (codes "3019020100040770726976617465a00b0201010201000201003000") ≡ dropped half_a_minute
unfolding datagram
another_community_is_dropped = refl

-- 29 seconds after it nothing has happened
silence_is_not_over : seen (later 29 (datagram half_a_minute (codes "3000")).after) ≡ blank_one 10
unfolding datagram later
silence_is_not_over = refl

-- a second later the minute is over
silence_goes_on : seen (later 30 (datagram half_a_minute (codes "3000")).after) ≡ blank_one 12
unfolding datagram later
silence_goes_on = refl

-- a Get is answered after 59 seconds
abbrev answered : SignState
answered = (datagram (later 59 one_minute) (codes "301802010004067075626c6963a00b0201010201000201003000")).after

-- 118 seconds: nothing has happened
silence_begins_anew : seen (later 59 answered) ≡ blank_one 10
unfolding datagram later
silence_begins_anew = refl

-- 119 seconds
minute_after_the_answer : seen (later 60 answered) ≡ blank_one 12
unfolding datagram later
minute_after_the_answer = refl

-- a SET that is refused is answered too
refusal_is_an_answer : (datagram half_a_minute (codes "302c02010004067075626c6963a31f02010102010002010030143012060d2b060104018936040203060a00020105")).after.silent_seconds
    ≡ 0
unfolding datagram
refusal_is_an_answer = refl

-- power that comes back ends it
power_ends_the_silence : (with_power 9 (without_power half_a_minute)).silent_seconds ≡ 0
unfolding without_power with_power
power_ends_the_silence = refl

-- power that was there does not
power_was_there : (with_power 9 half_a_minute).silent_seconds ≡ 30
unfolding with_power
power_was_there = refl

-- ---- what comes up

-- "A" is up for five minutes, and its code for a loss of communications is that of the current buffer
abbrev staying_sign : SignState
staying_sign =
    after_set
    (after_set lettered_sign (octets (Scalar CommunicationsLossMessage) (octets_of (codes "0500010000")) ∷ number (Scalar TimeCommLoss) 1 ∷ []))
    (code (codes "00050a0300019a66c0000201") ∷ [])

-- "A" stays, without an end
message_stays : seen (later 60 staying_sign) ≡ letter_a 12 None
unfolding answer later
message_stays = refl

-- "A" is up for one minute, and a minute of silence is a loss
abbrev both_end : SignState
both_end = after_set (after_set lettered_sign (number (Scalar TimeCommLoss) 1 ∷ [])) (code (codes "00010a0300019a66c0000201") ∷ [])

-- a second before it "A" is up, with a second left
before_both_end : seen (later 59 both_end) ≡ letter_a 8 (Some 1)
unfolding answer later
before_both_end = refl

-- duration and silence end at one second: the mode is commLoss
silence_is_last : seen (later 60 both_end) ≡ blank_one 12
unfolding answer later
silence_is_last = refl

-- with a code of the current buffer for the silence, what the end of the duration puts up stays
abbrev end_stays : SignState
end_stays =
    after_set
    (after_set lettered_sign
    (number (Scalar TimeCommLoss) 1 ∷ octets (Scalar CommunicationsLossMessage) (octets_of (codes "0500010000"))
    ∷ octets (Scalar EndDurationMessage) (octets_of (codes "0700090000")) ∷ []))
    (code (codes "00010a0300019a66c0000201") ∷ [])

-- it has the mode of the silence
end_of_the_duration_stays : seen (later 60 end_stays) ≡ record { text = []; source = octets_of (codes "0700090000"); mode = 12; remaining = None }
unfolding answer later
end_of_the_duration_stays = refl
