-- Reading elements on lists, from left to right: what is found and the octets after it, or the first fault (X.690,
-- 8.1).
use Rattle.std.specs.Prelude.{◌≡◌, ℕ, ℤ, pos, ◌-◌, nat_lt, ◌==◌, List, [], ◌∷◌, length, take, drop}
use Rattle.std.specs.Prelude.{Option, Some, None, ok_or, option_and_then, Result, Ok, Err, if◌then◌else◌}
use Rattle.std.specs.Int.Digits.{number_from_digits}
use Rattle.dms_wire_ber.specs.declared.fault.FaultKind.{FaultKind}
use Rattle.dms_wire_ber.specs.declared.fault.FaultKind.TheVariants.{Truncated, BadTag, BadLength, LengthPast}
use Rattle.dms_wire_ber.specs.declared.fault.FaultKind.TheVariants.{BadInteger, BadName, TrailingBytes}
use Rattle.dms_wire_ber.specs.declared.fault.WireFault.{WireFault}
use Rattle.dms_wire_ber.specs.Integer.{is_shortest, signed_value, in_range}
use Rattle.dms_wire_ber.specs.NameReading.{is_name, numbers_of}
use Rattle.dms_wire_ber.specs.Tags.{integer_tag, object_identifier_tag}

infixl 10 ◌>>=◌
abbrev pub ◌>>=◌ : {A B : Type 0} → Result A WireFault → (A → Result B WireFault) → Result B WireFault
(Ok x) >>= f = f x
(Err e) >>= f = Err e

-- what a function returned, seen by view, is what reading gives
abbrev pub Gives : {X Y : Type 0} → (X → Y) → Result X WireFault → Result Y WireFault → Type 0
Gives view (Ok x) read = read ≡ Ok (view x)
Gives view (Err e) read = read ≡ Err e

abbrev pub fault : FaultKind → ℕ → WireFault
fault kind place = record { kind = kind; place = place }

-- end is the offset at which the octets end
unfoldable pub length_at : ℕ → List ℕ → Result (ℕ × List ℕ) WireFault
length_at end [] = Err (fault Truncated end)
length_at end (b ∷ bs) =
    if nat_lt b 128 then Ok (b, bs)
    else if nat_lt 132 b then Err (fault BadLength (end - length bs - 1))
    else if b == 128 then Err (fault BadLength (end - length bs - 1))
    else if nat_lt (length bs) (b - 128) then Err (fault Truncated end)
    else Ok (number_from_digits 256 (take (b - 128) bs), drop (b - 128) bs)

unfoldable pub integer_value : List ℕ → Option ℤ
integer_value bs =
    if nat_lt 5 (length bs) then None
    else if is_shortest bs then (if in_range (signed_value bs) then Some (signed_value bs) else None)
    else None

-- after a tag: the content, and the octets after it
unfoldable pub content_at : ℕ → List ℕ → Result (List ℕ × List ℕ) WireFault
content_at end bytes = do
  n ← length_at end bytes
  if nat_lt (length n.1) n.0 then Err (fault LengthPast (end - length bytes)) else Ok (take n.0 n.1, drop n.0 n.1)

unfoldable pub element_at : ℕ → ℕ → List ℕ → Result (List ℕ × List ℕ) WireFault
element_at tag end [] = Err (fault Truncated end)
element_at tag end (b ∷ bytes) =
    (if b == tag then content_at end bytes else Err (fault BadTag (end - length (b ∷ bytes))))

-- the offset of the first octet of a content before these octets
abbrev pub offset_of_content : ℕ → List ℕ → List ℕ → ℕ
offset_of_content end content rest = end - length rest - length content

unfoldable pub integer_at : ℕ → List ℕ → Result (ℤ × List ℕ) WireFault
integer_at end bytes = do
  c ← element_at integer_tag end bytes
  z ← ok_or (integer_value c.0) (fault BadInteger (offset_of_content end c.0 c.1))
  Ok (z, c.1)

abbrev pub name_of : ℕ → List ℕ → Result (List ℕ) WireFault
name_of place content = (if is_name content then Ok (numbers_of content) else Err (fault BadName place))

unfoldable pub name_at : ℕ → List ℕ → Result (List ℕ × List ℕ) WireFault
name_at end bytes = do
  c ← element_at object_identifier_tag end bytes
  n ← name_of (offset_of_content end c.0 c.1) c.0
  Ok (n, c.1)

-- a number from 0 to 2^32 - 1
abbrev pub natural : ℤ → Option ℕ
natural (pos n) = Some n
natural _ = None

abbrev pub natural_value : List ℕ → Option ℕ
natural_value bytes = option_and_then natural (integer_value bytes)

-- nothing follows the last member
unfoldable pub ended : ℕ → List ℕ → Result (Unit {0}) WireFault
ended end [] = Ok tt
ended end (b ∷ bytes) = Err (fault TrailingBytes (end - length (b ∷ bytes)))
