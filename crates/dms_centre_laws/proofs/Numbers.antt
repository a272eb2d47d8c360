-- Request numbers along what is sent.
use Rattle.std.proofs.Common.{◌≡◌, ℕ, pos, ◌+◌, ◌<◌, ◌≤◌, inl, inr, Bool, true, false, cond, List, [], ◌∷◌, ◌++◌, Some, slice_get, refl, sym, ap, ◌∙◌, subst, arith}
use Rattle.std.specs.Prelude.{count_by}
use Rattle.std.proofs.lemmas.Option.{slice_get_within}
use Rattle.std.proofs.lemmas.Bool.Decides.{Decides-int_eq}
use Rattle.dms_centre_jobs.specs.Job.{SettingsModel}
use Rattle.dms_centre_jobs.specs.Steps.{request_of}
use Rattle.dms_centre_jobs.specs.Requests.{IsRequest}
use Rattle.dms_centre_laws.specs.RequestNumbers.{HasNumber, is_number_of, has_number, AreRequests, NumbersRise, EqualNumbersMeanEqualOctets, ThreeSendsAtMost}
use Rattle.dms_centre_laws.proofs.Lists.{in_push, count_push, count_none}

-- ---- the number of a datagram

pub one_number : (a b : ℕ) (octets : List ℕ) → HasNumber a octets → HasNumber b octets → a ≡ b
one_number a b octets p q = grind arith

number_counts : (number : ℕ) (octets : List ℕ) → HasNumber number octets → has_number number octets ≡ true
number_counts number octets p = ap (is_number_of number) p.spelled ∙ (Decides-int_eq p.message.request (pos number)).1 p.is

not_counted : (number : ℕ) (octets : List ℕ) (b : Bool) → has_number number octets ≡ b → (HasNumber number octets → ⊥) → b ≡ false
not_counted number octets b e h = grind arith

pub request_number : (settings : SettingsModel) (number : ℕ) (octets : List ℕ) → IsRequest settings number octets → HasNumber number octets
unfolding request_of
request_number settings number octets r = record { message = request_of settings number r.work r.step; spelled = r.spelled; is = refl }

-- ---- a datagram more

pub requests_push : (settings : SettingsModel) (next more number : ℕ) (sent : List (List ℕ)) (octets : List ℕ)
    → IsRequest settings number octets → number < more → next ≤ more → AreRequests settings next sent → AreRequests settings more (sent ++ octets ∷ [])
requests_push settings next more number sent octets is small grows requests k other e = grind (arith, in_push)

pub rise_push : (sent : List (List ℕ)) (octets : List ℕ) (number : ℕ) → HasNumber number octets → NumbersRise sent
    → ((k m : ℕ) (other : List ℕ) → slice_get sent k ≡ Some other → HasNumber m other → m ≤ number)
    → NumbersRise (sent ++ octets ∷ [])
rise_push sent octets number has rise newest j k m n earlier later le a b p q =
    elim (in_push sent octets j earlier a) [
      | inl old ↦
          (elim (in_push sent octets k later b) [
            | inl late ↦ rise j k m n earlier later le old late p q
            | inr new ↦
                (let e = one_number n number octets (subst (λ o. HasNumber n o) (sym new.1) q) has in
                omega (arith, e, newest j m earlier old p))
          ])
      | inr first ↦
          (elim (in_push sent octets k later b) [
            | inl late ↦ absurd (omega (arith, first.0, le, slice_get_within sent k later late))
            | inr new ↦
                (let e = one_number m n octets (subst (λ o. HasNumber m o) (sym first.1) p) (subst (λ o. HasNumber n o) (sym new.1) q) in
                omega (arith, e))
          ])
    ]

pub same_push : (sent : List (List ℕ)) (octets : List ℕ) (number : ℕ) → HasNumber number octets → EqualNumbersMeanEqualOctets sent
    → ((k : ℕ) (other : List ℕ) → slice_get sent k ≡ Some other → HasNumber number other → other ≡ octets)
    → EqualNumbersMeanEqualOctets (sent ++ octets ∷ [])
same_push sent octets number has same alike j k n one other a b p q =
    elim (in_push sent octets j one a) [
      | inl old ↦
          (elim (in_push sent octets k other b) [
            | inl late ↦ same j k n one other old late p q
            | inr new ↦
                (let e = one_number n number octets (subst (λ o. HasNumber n o) (sym new.1) q) has in
                alike j one old (subst (λ i. HasNumber i one) e p) ∙ new.1)
          ])
      | inr first ↦
          (elim (in_push sent octets k other b) [
            | inl late ↦
                (let e = one_number n number octets (subst (λ o. HasNumber n o) (sym first.1) p) has in
                sym (alike k other late (subst (λ i. HasNumber i other) e q) ∙ first.1))
            | inr new ↦ sym first.1 ∙ new.1
          ])
    ]

few_by : (number n : ℕ) (sent : List (List ℕ)) (octets : List ℕ) (b : Bool) → has_number n octets ≡ b → HasNumber number octets
    → count_by (has_number n) sent ≤ 3 → count_by (has_number number) sent < 3 → count_by (has_number n) sent + cond {A = ℕ} b 1 0 ≤ 3
few_by number n sent octets b e has few room = grind arith

pub few_push : (sent : List (List ℕ)) (octets : List ℕ) (number : ℕ) → HasNumber number octets → ThreeSendsAtMost sent → count_by (has_number number) sent < 3
    → ThreeSendsAtMost (sent ++ octets ∷ [])
few_push sent octets number has few room n =
    subst (λ c. c ≤ 3) (sym (count_push (has_number n) sent octets)) (few_by number n sent octets (has_number n octets) refl has (few n) room)

-- the count of the number of the datagram that is pushed
pub count_more : (sent : List (List ℕ)) (octets : List ℕ) (number count : ℕ) → HasNumber number octets → count_by (has_number number) sent ≤ count
    → count_by (has_number number) (sent ++ octets ∷ []) ≤ count + 1
count_more sent octets number count has few = grind (arith, number_counts, count_push)

-- a number that no datagram has
pub count_of_none : (sent : List (List ℕ)) (number : ℕ) → ((k : ℕ) (octets : List ℕ) → slice_get sent k ≡ Some octets → HasNumber number octets → ⊥)
    → count_by (has_number number) sent ≡ 0
count_of_none sent number h = count_none (has_number number) sent (λ k octets e. not_counted number octets (has_number number octets) refl (h k octets e))

-- ---- numbers below the next one

pub below_next : (settings : SettingsModel) (next number k : ℕ) (sent : List (List ℕ)) (octets : List ℕ) → AreRequests settings next sent → slice_get sent k ≡ Some octets
    → HasNumber number octets → number < next
below_next settings next number k sent octets requests e has =
    let r = requests k octets e in
    let same = one_number number r.0 octets has (request_number settings r.0 octets r.2) in
    omega (arith, r.1, same)
