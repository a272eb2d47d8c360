-- The bench sign without power, and with power again, computed.
use Rattle.std.proofs.Common.{◌≡◌, ℕ, zero, suc, true, false, [], ◌∷◌, Some, None, refl, ap, ◌∙◌}
use Rattle.std.specs.Prelude.{pos, codes}
use Rattle.dms_wire.specs.Message.{integer}
use Rattle.dms_mib.specs.declared.column.Column.TheVariants.{Status}
use Rattle.dms_mib.specs.declared.scalar.Scalar.TheVariants.{ShortPowerLossTime, ShortPowerRecoveryMessage, LongPowerRecoveryMessage, ActivateMsgError}
use Rattle.dms_mib.specs.declared.instance.Instance.TheVariants.{Scalar}
use Rattle.dms_sign.specs.State.{SignState}
use Rattle.dms_sign.specs.Reply.{dropped}
use Rattle.dms_sign.specs.Events.{after_tick, after_power_loss, after_power_return}
use Rattle.dms_sign_laws.proofs.BenchSign.{octets_of, bench_table, bench_sign, lettered_sign, valid_row, cell, number, octets, code, datagram, answer, after_set, reads, later, without_power, with_power, seen, letter_a, blank_one}
use Rattle.dms_sign_laws.proofs.WorkedTable.{validating_sign}

-- ---- a volatile row

-- volatile row 1, "A", is up; a loss of up to ten seconds is short, and after it the row is to come up again
abbrev volatile_sign : SignState
volatile_sign =
    let stored = record bench_sign { table = record bench_table { volatile = valid_row (codes "A") 200 ∷ [] } } in
    after_set (after_set stored (code (codes "ffffff0400019a6600000000") ∷ []))
    (number (Scalar ShortPowerLossTime) 10 ∷ octets (Scalar ShortPowerRecoveryMessage) (octets_of (codes "0400019a66")) ∷ [])

-- it is up without an end
volatile_is_up : seen volatile_sign ≡ record { text = codes "A"; source = octets_of (codes "0400019a66"); mode = 8; remaining = None }
unfolding answer
volatile_is_up = refl

-- it is gone with the power: blank 1 is up, with the mode powerRecovery
volatile_is_gone : seen (with_power 10 (without_power volatile_sign)) ≡ blank_one 10
unfolding answer without_power with_power
volatile_is_gone = refl

-- the cause is its status
volatile_has_a_cause : reads (with_power 10 (without_power volatile_sign)) (Scalar ActivateMsgError) ≡ Some (integer (pos 4))
unfolding answer reads without_power with_power
volatile_has_a_cause = refl

-- ---- what was up comes back

-- "A" is up for five minutes, and after a long loss what was up is to stay
abbrev kept_sign : SignState
kept_sign =
    after_set (after_set lettered_sign (octets (Scalar LongPowerRecoveryMessage) (octets_of (codes "0500010000")) ∷ []))
    (code (codes "00050a0300019a66c0000201") ∷ [])

abbrev off : SignState
off = without_power kept_sign

-- blank 1 is up, with the mode powerLoss
blank_without_power : seen off ≡ blank_one 13
unfolding answer without_power
blank_without_power = refl

-- a GET is dropped
unheard_without_power : datagram off (codes "302e02010004067075626c6963a0210201010201000201003016301406102b0601040189360402030508010903010500")
    ≡ dropped off
unfolding answer datagram without_power
unheard_without_power = refl

-- a second changes nothing
second_without_power : (s : SignState) → s.powered ≡ false → after_tick s ≡ s
unfolding after_tick
second_without_power s without = rw without refl

-- nor does any number of them
no_time_without_power : (seconds : ℕ) (s : SignState) → s.powered ≡ false → later seconds s ≡ s
unfolding later
no_time_without_power zero s without = refl
no_time_without_power (suc seconds) s without = ap (later seconds) (second_without_power s without) ∙ no_time_without_power seconds s without

-- nor does a second loss
second_loss : (s : SignState) → s.powered ≡ false → after_power_loss s ≡ s
unfolding after_power_loss
second_loss s without = rw without refl

-- back after a second: "A" is up, with the mode powerRecovery and without an end
comes_back : seen (with_power 1 off) ≡ letter_a 10 None
unfolding answer without_power with_power
comes_back = refl

-- and so it is after none, since with a short time of 0 every loss is long
comes_back_at_once : seen (with_power 0 off) ≡ letter_a 10 None
unfolding answer without_power with_power
comes_back_at_once = refl

-- with a short time of 1 a loss of one second is short, and the code for it is that of blank 1
short_loss : seen (with_power 1 (without_power (after_set kept_sign (number (Scalar ShortPowerLossTime) 1 ∷ [])))) ≡ blank_one 10
unfolding answer without_power with_power
short_loss = refl

-- one of two seconds is long
longer_loss : seen (with_power 2 (without_power (after_set kept_sign (number (Scalar ShortPowerLossTime) 1 ∷ [])))) ≡ letter_a 10 None
unfolding answer without_power with_power
longer_loss = refl

-- power that comes back where it is there changes nothing
power_is_there : (s : SignState) (seconds : ℕ) → s.powered ≡ true → after_power_return s seconds ≡ s
unfolding after_power_return
power_is_there s seconds with_it = rw with_it refl

-- ---- a row that was being validated

-- it has to be asked again: it is being modified
interrupted : reads (with_power 1 (without_power validating_sign)) (cell Status 3 1) ≡ Some (integer (pos 2))
unfolding answer reads without_power with_power
interrupted = refl
