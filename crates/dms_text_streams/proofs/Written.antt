-- A loop of calls of a writer writes a prefix of the octets, and shows which call failed.
use Rattle.std.proofs.Common.{◌≡◌, ℕ, List, [], ◌∷◌, ◌++◌, take, drop, length, refl, sym, ◌∙◌, ap, subst, Option, Result, Ok, ◌+◌, append_assoc, ◌==◌, false, if◌then◌else◌, arith}
use Rattle.std.proofs.lemmas.Bool.Decides.{nat_tests}
use Rattle.std.proofs.lemmas.List.{take-append-drop, length-drop}
use Rattle.std.specs.Io.KnownBytes.{Appends, WriteAppends}
use Rattle.std.proofs.KnownBytes.{Appends-trans}
use Rattle.dms_text_streams.specs.Calls.{one_more, after_write}
use Rattle.dms_text_streams.specs.Room.{HasRoom, TakesWithinRoom}

whole_still : (octets prefix rest after : List ℕ) (count : ℕ) → octets ≡ prefix ++ rest → after ≡ drop count rest
    → octets ≡ (prefix ++ take count rest) ++ after
whole_still octets prefix rest after count whole cut = grind (arith, take-append-drop, append_assoc)

no_zero : (count : ℕ) → (count ≡ 0 → ⊥) → (count == 0) ≡ false
no_zero count some = grind (arith, nat_tests)

-- what a call took stands after what earlier calls took
pub wrote_more : {E : Type 0} (first now next : Option (List ℕ)) (octets prefix rest after : List ℕ) (count : ℕ) (result : Result ℕ E)
    → octets ≡ prefix ++ rest → Appends first now prefix → result ≡ Ok count → WriteAppends now next result rest → after ≡ drop count rest
    → (written : List ℕ) × (octets ≡ written ++ after) × Appends first next written
wrote_more first now next octets prefix rest after count result whole before is_ok wrote cut =
    let took : Appends now next (take count rest) = subst (λ r. WriteAppends now next r rest) is_ok wrote in
    (prefix ++ take count rest, whole_still octets prefix rest after count whole cut, Appends-trans first now next prefix (take count rest) before took)

-- a call that took some is no failure
pub unfailed : {E : Type 0} (before after count : ℕ) (octets : List ℕ) (result : Result ℕ E) → after ≡ after_write before result octets → result ≡ Ok count
    → (count ≡ 0 → ⊥) → after ≡ before
unfailed {E} before after count [] result counted is_ok some = counted ∙ ap (λ r. after_write {E = E} before r []) is_ok
unfailed {E} before after count (octet ∷ octets) result counted is_ok some =
    counted ∙ ap (λ r. after_write {E = E} before r (octet ∷ octets)) is_ok
    ∙ ap (λ b. if b then one_more before else before) (no_zero count some)

-- a call that took none of some octets is one
pub took_none : {E : Type 0} (before after count : ℕ) (octets : List ℕ) (result : Result ℕ E) → after ≡ after_write before result octets → result ≡ Ok count
    → count ≡ 0 → (length octets ≡ 0 → ⊥) → after ≡ one_more before
took_none before after count [] result counted is_ok none some = absurd (some refl)
took_none {E} before after count (octet ∷ octets) result counted is_ok none some =
    counted ∙ ap (λ r. after_write {E = E} before r (octet ∷ octets)) (is_ok ∙ ap (λ n. Ok n) none)

pub ruleset calls = (wrote_more, unfailed, took_none)

-- ---- room

all_taken : {E : Type 0} (now next : Option ℕ) (rest : List ℕ) (more count : ℕ) (result : Result ℕ E) → HasRoom now (length rest + more)
    → result ≡ Ok count → TakesWithinRoom now next result rest → (count ≡ length rest) × HasRoom next more
all_taken {E} now next rest more count result has is_ok takes =
    let took = takes more has in
    let same : ◌≡◌ {A = Result ℕ E} (Ok count) (Ok (length rest)) = sym is_ok ∙ took.0 in
    (cc, took.1)

-- a call that took what there was room for leaves room for what is to follow
pub room_still : {E : Type 0} (now next : Option ℕ) (rest after : List ℕ) (more count : ℕ) (result : Result ℕ E) → HasRoom now (length rest + more)
    → result ≡ Ok count → TakesWithinRoom now next result rest → after ≡ drop count rest → HasRoom next (length after + more)
room_still now next rest after more count result has is_ok takes cut = grind (arith, all_taken, length-drop)
