-- An object identifier as its content octets (X.690, 8.19).
use Rattle.std.specs.Prelude.{◌≡◌, ◌≢◌, ℕ, ◌+◌, ◌-◌, ◌^◌, ◌<◌, ◌≤◌, nat_lt, List}
use Rattle.std.specs.Prelude.{[], ◌∷◌, ◌++◌, map, length, if◌then◌else◌, get_or}
use Rattle.std.specs.Int.Digits.{number_from_digits, AllBelowBase}
use Rattle.std.specs.Prelude.{◌*◌, ◌/◌, ◌%◌}
use Rattle.std.specs.List.{flat_map}
use Rattle.std.specs.Int.Digits.{digits_of}
use Rattle.dms_wire_ber.specs.Limits.{most_sub_identifiers}

-- A sub-identifier's digits in base 128, high first, with 128 added to all but the last (8.19.2). The first is not 0,
-- unless it is the last.
pub record IsSubIdentifier (n : ℕ) (bytes : List ℕ) : Type 0 where
  pub high : List ℕ
  pub low : ℕ
  pub parts : bytes ≡ map (λ d. 128 + d) high ++ low ∷ []
  pub digits : AllBelowBase 128 high
  pub last : low < 128
  pub first : get_or high 0 1 ≢ 0
  pub value : n ≡ number_from_digits 128 (high ++ low ∷ [])

-- the octets of sub-identifiers, one after the other, each below 2^32 (a limit of the profile's own)
abbrev pub AreSubIdentifiers : List ℕ → List ℕ → Type 0
AreSubIdentifiers [] bytes = bytes ≡ []
AreSubIdentifiers (n ∷ ns) bytes = (front : List ℕ) × (back : List ℕ) × (n < 2 ^ 32) × IsSubIdentifier n front
    × AreSubIdentifiers ns back × (bytes ≡ front ++ back)

-- the first two numbers a, b are one sub-identifier 40a + b (8.19.4): a is 0 below 40, 1 below 80, else 2
abbrev pub numbers_from : List ℕ → List ℕ
numbers_from [] = []
numbers_from (n ∷ ns) =
    (if nat_lt n 40 then 0 ∷ n ∷ ns else if nat_lt n 80 then 1 ∷ (n - 40) ∷ ns else 2 ∷ (n - 80) ∷ ns)

-- the octets are the content of the name with these numbers; that there are not more sub-identifiers is the profile's
-- own limit
pub record IsName (numbers : List ℕ) (bytes : List ℕ) : Type 0 where
  pub sub_identifiers : List ℕ
  pub some : 0 < length sub_identifiers
  pub few : length sub_identifiers ≤ most_sub_identifiers
  pub spelled : AreSubIdentifiers sub_identifiers bytes
  pub numbers_is : numbers ≡ numbers_from sub_identifiers

-- the digits in base 128, with 128 added to all but the last (X.690, 8.19.2)
abbrev pub sub_identifier_octets : ℕ → List ℕ
sub_identifier_octets n = map (λ d. 128 + d) (digits_of 128 (n / 128)) ++ (n % 128) ∷ []

-- the first two numbers are one sub-identifier (X.690, 8.19.4)
abbrev pub sub_identifiers_of : List ℕ → List ℕ
sub_identifiers_of [] = []
sub_identifiers_of (a ∷ []) = []
sub_identifiers_of (a ∷ b ∷ ns) = (40 * a + b) ∷ ns

unfoldable pub name_octets : List ℕ → List ℕ
name_octets numbers = flat_map sub_identifier_octets (sub_identifiers_of numbers)

-- A name is 2 to 128 numbers a, b, ..: a at most 2, b below 40 where a is 0 or 1 (X.690, 8.19.4); 40a + b and each
-- later number below 2^32.
abbrev pub IsNameInLimits : List ℕ → Type 0
IsNameInLimits [] = ⊥
IsNameInLimits (a ∷ []) = ⊥
IsNameInLimits (a ∷ b ∷ ns) =
    (a ≤ 2) × (a < 2 → b < 40) × (40 * a + b < 2 ^ 32) × AllBelowBase (2 ^ 32) ns × (length ns ≤ 126)

-- the octets of a name below dms, 1.3.6.1.4.1.1206.4.2.3 (NTCIP 1203), under which all objects of a sign stand
abbrev pub under_dms : List ℕ → List ℕ
under_dms rest = 43 ∷ 6 ∷ 1 ∷ 4 ∷ 1 ∷ 137 ∷ 54 ∷ 4 ∷ 2 ∷ 3 ∷ rest
