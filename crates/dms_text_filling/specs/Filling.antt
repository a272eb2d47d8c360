-- Octets that are put into a buffer from a place on, so far as it reaches (this profile).
use Rattle.std.specs.Prelude.{◌≡◌, ℕ, zero, suc, ◌+◌, ◌-◌, ◌^◌, ◌≤◌, List, [], ◌∷◌, length, min}

-- the most that is counted
abbrev pub most_counted : ℕ
most_counted = 2 ^ 64 - 1

-- a count, which stops there
abbrev pub counted : ℕ → ℕ
counted number = min number most_counted

-- a buffer into which octets are put from a place on: those that it has no place for are left out
abbrev pub laid : ℕ → List ℕ → List ℕ → List ℕ
laid place octets [] = []
laid zero [] (x ∷ buffer) = x ∷ buffer
laid zero (octet ∷ octets) (x ∷ buffer) = octet ∷ laid zero octets buffer
laid (suc place) octets (x ∷ buffer) = x ∷ laid place octets buffer

-- octets are put into a buffer from one place to another
pub record Puts (octets : List ℕ) (from : ℕ) (before : List ℕ) (to : ℕ) (after : List ℕ) : Type 0 where
  pub place : to ≡ counted (from + length octets)
  pub buffer : after ≡ laid from octets before
  pub reach : length before ≤ most_counted
