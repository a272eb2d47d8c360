-- A spelling of a binding that is no longer than the shortest one is the shortest one: only a length can be spelled longer.
use Rattle.std.proofs.Common.{◌≡◌, ℕ, ℤ, pos, negsuc, ◌+◌, ◌-◌, ◌<◌, ◌≤◌, nat_lt, nat_le, Bool, true, cond, List, [], ◌∷◌, ◌++◌, length, refl, sym, ap, ap₂, ◌∙◌, subst, ⊎_elim, Ok, take, drop, get_or, take_all, length-append, append-nil, arith, le-ltb, leb-true, leb-false, le_trans}
use Rattle.std.specs.Int.Digits.{digits_of, number_from_digits, AllBelowBase}
use Rattle.std.specs.List.{slice_index_or}
use Rattle.std.proofs.lemmas.Bool.{cond-false, cases_lt, cases_eq}
use Rattle.std.proofs.lemmas.Bool.Decides.{nat_tests}
use Rattle.std.proofs.lemmas.Int.Digits.{number_lt, length-digits_of-le}
use Rattle.dms_wire_ber.specs.Length.{IsLength, short_length}
use Rattle.dms_wire_ber.specs.Integer.{IsInteger, is_shortest, inverted, positive_octets, integer_octets}
use Rattle.dms_wire_ber.specs.ObjectIdentifier.{IsName, name_octets}
use Rattle.dms_wire_ber.specs.Element.{IsElement, ◌⨾◌, element}
use Rattle.dms_wire_ber.proofs.Shortest.{short_length_small, positive_small}
use Rattle.dms_wire_ber.proofs.ShorterContents.{NoLonger, short_length_monotone, length_no_longer, integer_no_longer, name_no_longer, positive_whole}
use Rattle.dms_wire_ber.specs.Reading.{element_at, content_at}
use Rattle.dms_wire_ber.proofs.Elements.{ok_is, element_only, content_only}
use Rattle.dms_wire_ber.proofs.Unique.{base256, digits_number, name_is}
use Rattle.dms_wire_ber.proofs.BelowBase.{below_inverted}
use Rattle.dms_wire_ber.proofs.CanonicalIntegers.{inverted_back}
use Rattle.dms_wire.specs.Message.{ObjectValue, integer, octet_string, null, object_identifier, ip_address, counter, gauge, time_ticks, opaque, VarBind}
use Rattle.dms_wire.specs.Spelling.{IsAddress, IsValue, IsBinding, AreBindings}
use Rattle.dms_wire.specs.Canonical.{value_octets, binding_octets}
use Rattle.dms_wire.specs.Reading.{binding_at}
use Rattle.dms_wire.specs.Walk.{bindings_within, bindings_of, AreWhole, AreShortest}
use Rattle.dms_wire.proofs.Bindings.{binding_only, walk_more, whole_more}
use Rattle.dms_wire.proofs.ShorterSpellings.{below_parts, exactly, element_no_longer, sequence_no_longer}

-- no octets that the relation takes are shorter, and no others are as short
record OnlyShortest (short : List ℕ) (Spelled : List ℕ → Type 0) : Type 0 where
  longer : NoLonger short Spelled
  same : (bytes : List ℕ) → AllBelowBase 256 bytes → Spelled bytes → length bytes ≤ length short → bytes ≡ short

-- Lengths.

long_form : (n : ℕ) → 128 ≤ n → short_length n ≡ (128 + length (digits_of 256 n)) ∷ digits_of 256 n
long_form n large = cond-false (nat_lt n 128) (n ∷ []) ((128 + length (digits_of 256 n)) ∷ digits_of 256 n) (le-ltb n 128 large)

-- as many octets as their number has digits are these digits
digits_same : (ds : List ℕ) → AllBelowBase 256 ds → length ds ≤ length (digits_of 256 (number_from_digits 256 ds)) → digits_of 256 (number_from_digits 256 ds) ≡ ds
digits_same [] below few = refl
digits_same (d ∷ ds) below few =
    ⊎_elim
    (λ e.
    let rest : number_from_digits 256 (d ∷ ds) ≡ number_from_digits 256 ds = ap (λ d. number_from_digits 256 (d ∷ ds)) e in
    let fit : length (digits_of 256 (number_from_digits 256 ds)) ≤ length ds =
    length-digits_of-le 256 (length ds) (number_from_digits 256 ds) base256 (number_lt 256 ds below.1) in
    absurd (omega (arith, few, fit, ap (λ n. length (digits_of 256 n)) rest)))
    (λ some. digits_number 256 base256 (d ∷ ds) below some)
    (cases_eq d 0)

long_same : (b n : ℕ) (bs : List ℕ) → AllBelowBase 256 bs → b ≡ 128 + length bs → 0 < length bs → n ≡ number_from_digits 256 bs
    → length (b ∷ bs) ≤ length (short_length n) → b ∷ bs ≡ short_length n
long_same b n bs below first some is few = grind (arith, short_length_small, long_form, digits_same, cases_lt)

length_same : (len : List ℕ) (n : ℕ) → AllBelowBase 256 len → IsLength len n → length len ≤ length (short_length n) → len ≡ short_length n
length_same len n below form few = grind (arith, short_length_small, long_same)

-- Numbers: their octets are the shortest by what they are.

-- a 0 before digits of which the first is 128 or more
abbrev padded : List ℕ → List ℕ
padded ds = cond (nat_lt (slice_index_or ds 0 128) 128) ds (0 ∷ ds)

positive_padded : (n d : ℕ) (ds : List ℕ) → digits_of 256 n ≡ d ∷ ds → 128 ≤ d → positive_octets n ≡ 0 ∷ (d ∷ ds)
positive_padded n d ds e high = ap padded e ∙ grind (arith, nat_tests)

-- a 0 stands before nothing, or before 128 or more
zero_first : (bs : List ℕ) → AllBelowBase 256 bs → is_shortest (0 ∷ bs) ≡ true → positive_octets (number_from_digits 256 bs) ≡ 0 ∷ bs
zero_first bs below short = grind (arith, positive_small, leb-true, positive_padded, digits_number, base256)

positive_same : (b : ℕ) (bs : List ℕ) → AllBelowBase 256 (b ∷ bs) → b < 128 → is_shortest (b ∷ bs) ≡ true
    → positive_octets (number_from_digits 256 (b ∷ bs)) ≡ b ∷ bs
positive_same b bs below free short =
    ⊎_elim
    (λ e.
    ap (λ b. positive_octets (number_from_digits 256 (b ∷ bs))) e
    ∙ zero_first bs below.1 (subst (λ b. is_shortest (b ∷ bs) ≡ true) e short)
    ∙ ap (λ b. b ∷ bs) (sym e))
    (λ some. positive_whole (number_from_digits 256 (b ∷ bs)) b bs (digits_number 256 base256 (b ∷ bs) below some) free)
    (cases_eq b 0)

inverted_shortest : (b : ℕ) (bs : List ℕ) → AllBelowBase 256 (b ∷ bs) → 128 ≤ b → is_shortest (b ∷ bs) ≡ true → is_shortest (inverted (b ∷ bs)) ≡ true
inverted_shortest b bs below high short = grind arith

signed_same : (b : ℕ) (bs : List ℕ) (negative : Bool) → nat_le 128 b ≡ negative → AllBelowBase 256 (b ∷ bs) → is_shortest (b ∷ bs) ≡ true
    → integer_octets (cond negative (negsuc (number_from_digits 256 (inverted (b ∷ bs)))) (pos (number_from_digits 256 (b ∷ bs)))) ≡ b ∷ bs
unfolding integer_octets
signed_same b bs negative sign below short = grind (arith, leb-true, positive_same, below_inverted, inverted_shortest, inverted_back, leb-false)

integer_same : (z : ℤ) (bytes : List ℕ) → AllBelowBase 256 bytes → IsInteger z bytes → bytes ≡ integer_octets z
integer_same z bytes below i = grind (arith, signed_same, nat_le)

-- Elements and their sequences.

element_same : (tag : ℕ) (Content : List ℕ → Type 0) (short bytes : List ℕ) → OnlyShortest short Content → AllBelowBase 256 bytes
    → IsElement tag Content bytes → length bytes ≤ length (element tag short) → bytes ≡ element tag short
unfolding element
element_same tag Content short bytes only below e few = grind (arith, below_parts, le_trans, short_length_monotone, length_no_longer, length-append, length_same)

element_shortest : {tag : ℕ} {Content : List ℕ → Type 0} {short : List ℕ} → OnlyShortest short Content → OnlyShortest (element tag short) (IsElement tag Content)
element_shortest {tag} {Content} {short} only = record {
  longer = element_no_longer tag only.longer;
  same = λ bytes. element_same tag Content short bytes only;
}

sequence_is : {First Second : List ℕ → Type 0} {xs ys : List ℕ} → OnlyShortest xs First → OnlyShortest ys Second → OnlyShortest (xs ++ ys) (First ⨾ Second)
sequence_is {First} {Second} {xs} {ys} first second = record {
  longer = sequence_no_longer first.longer second.longer;
  same = λ bytes below s few.
      let parts = below_parts s.front s.back (subst (AllBelowBase 256) s.parts below) in
      let front : length xs ≤ length s.front = first.longer.than s.front parts.0 s.first in
      let back : length ys ≤ length s.back = second.longer.than s.back parts.1 s.second in
      let sum : length s.front + length s.back ≤ length xs + length ys =
      omega (arith, few, ap length s.parts, length-append s.front s.back, length-append xs ys) in
      s.parts
      ∙ ap₂ (λ xs ys. xs ++ ys)
      (first.same s.front parts.0 s.first (omega (arith, sum, back)))
      (second.same s.back parts.1 s.second (omega (arith, sum, front)));
}

-- Contents, values and bindings.

one_content : (s : List ℕ) → OnlyShortest s (λ content. content ≡ s)
one_content s = record { longer = exactly s; same = λ bytes below e few. e }

one_integer : (z : ℤ) → OnlyShortest (integer_octets z) (IsInteger z)
one_integer z = record { longer = integer_no_longer z; same = λ bytes below i few. integer_same z bytes below i }

one_name : (numbers : List ℕ) → OnlyShortest (name_octets numbers) (IsName numbers)
one_name numbers = record { longer = name_no_longer numbers; same = λ bytes below name few. name_is numbers bytes name }

one_address : (address : List ℕ) → OnlyShortest address (IsAddress address)
one_address address = grind arith

value_is : (v : ObjectValue) → OnlyShortest (value_octets v) (IsValue v)
value_is (integer z) = element_shortest (one_integer z)
value_is (octet_string s) = element_shortest (one_content s)
value_is null = element_shortest (one_content [])
value_is (object_identifier numbers) = element_shortest (one_name numbers)
value_is (ip_address address) = element_shortest {Content = IsAddress address} (one_address address)
value_is (counter n) = element_shortest (one_integer (pos n))
value_is (gauge n) = element_shortest (one_integer (pos n))
value_is (time_ticks n) = element_shortest (one_integer (pos n))
value_is (opaque s) = element_shortest (one_content s)

binding_is : (b : VarBind) → OnlyShortest (binding_octets b) (IsBinding b)
unfolding binding_octets
binding_is b = element_shortest (sequence_is (element_shortest (one_name b.name)) (value_is b.value))

-- A binding of which the lengths alone are read.

-- a value's octets are a tag, a length and the content of its shortest spelling
record IsHeaded (short bytes : List ℕ) : Type 0 where
  tag : ℕ
  len : List ℕ
  content : List ℕ
  form : IsLength len (length content)
  parts : bytes ≡ tag ∷ (len ++ content)
  same : short ≡ element tag content

headed : (tag : ℕ) (Content : List ℕ → Type 0) (short bytes : List ℕ) → ((content : List ℕ) → AllBelowBase 256 content → Content content → content ≡ short)
    → AllBelowBase 256 bytes → IsElement tag Content bytes → IsHeaded (element tag short) bytes
headed tag Content short bytes law below e = grind (arith, below_parts)

value_headed : (v : ObjectValue) (bytes : List ℕ) → AllBelowBase 256 bytes → IsValue v bytes → IsHeaded (value_octets v) bytes
value_headed (integer z) bytes below e = headed 2 (IsInteger z) (integer_octets z) bytes (integer_same z) below e
value_headed (octet_string s) bytes below e = headed 4 (λ content. content ≡ s) s bytes (λ content below is. is) below e
value_headed null bytes below e = headed 5 (λ content. content ≡ []) [] bytes (λ content below is. is) below e
value_headed (object_identifier numbers) bytes below e =
    headed 6 (IsName numbers) (name_octets numbers) bytes (λ content below is. name_is numbers content is) below e
value_headed (ip_address address) bytes below e = headed 64 (IsAddress address) address bytes (λ content below is. is.0) below e
value_headed (counter n) bytes below e = headed 65 (IsInteger (pos n)) (integer_octets (pos n)) bytes (integer_same (pos n)) below e
value_headed (gauge n) bytes below e = headed 66 (IsInteger (pos n)) (integer_octets (pos n)) bytes (integer_same (pos n)) below e
value_headed (time_ticks n) bytes below e = headed 67 (IsInteger (pos n)) (integer_octets (pos n)) bytes (integer_same (pos n)) below e
value_headed (opaque s) bytes below e = headed 68 (λ content. content ≡ s) s bytes (λ content below is. is) below e

-- what reading an element gives is what was spelled
element_read : (tag end : ℕ) (len content rest bytes : List ℕ) (c : List ℕ × List ℕ) → IsLength len (length content) → bytes ≡ (tag ∷ (len ++ content)) ++ rest
    → element_at tag end bytes ≡ Ok c → c ≡ (content, rest)
element_read tag end len content rest bytes c form parts h = grind (arith, ok_is, element_only)

content_read : (end : ℕ) (len content bytes : List ℕ) (c : List ℕ × List ℕ) → IsLength len (length content) → bytes ≡ len ++ content
    → content_at end bytes ≡ Ok c → c ≡ (content, [])
content_read end len content bytes c form parts h =
    ok_is c (content, []) (sym h ∙ ap (content_at end) (parts ∙ sym (append-nil (len ++ content))) ∙ content_only end len content [] form)

-- the shortest spelling of a binding's members, from the contents that were read
members_read : (b : VarBind) (content : List ℕ) (name_end value_end : ℕ) (n v : List ℕ × List ℕ) (tag : ℕ) (after : List ℕ) → AllBelowBase 256 content
    → (IsElement 6 (IsName b.name) ⨾ IsValue b.value) content → element_at 6 name_end content ≡ Ok n → n.1 ≡ tag ∷ after
    → content_at value_end after ≡ Ok v → element 6 n.0 ++ element tag v.0 ≡ element 6 (name_octets b.name) ++ value_octets b.value
members_read b content name_end value_end n v tag after below m name_found is value_found =
    let parts = below_parts m.front m.back (subst (AllBelowBase 256) m.parts below) in
    let e = m.first in
    let name : n ≡ (e.content, m.back) =
    element_read 6 name_end e.len e.content m.back content n e.form (m.parts ∙ ap (λ front. front ++ m.back) e.parts) name_found in
    let value = value_headed b.value m.back parts.1 m.second in
    let back : tag ∷ after ≡ value.tag ∷ (value.len ++ value.content) = sym is ∙ ap (λ n. n.1) name ∙ value.parts in
    let tags : tag ≡ value.tag = cc in
    let afters : after ≡ value.len ++ value.content = cc in
    let found : v ≡ (value.content, []) = content_read value_end value.len value.content after v value.form afters value_found in
    ap₂ (λ xs ys. xs ++ ys)
    (ap (λ n. element 6 n.0) name ∙ ap (element 6) (name_is b.name e.content e.spelled))
    (ap₂ (λ (tag : ℕ) (content : List ℕ). element tag content) tags (ap (λ v. v.0) found) ∙ sym value.same)

-- octets, and those after the first
first_and_after : (xs : List ℕ) → 1 ≤ length xs → xs ≡ get_or xs 0 0 ∷ take (length xs - 1) (drop 1 xs)
first_and_after xs some = grind (arith, take_all)

-- the first of bindings, where it has no more octets than its shortest spelling
pub record IsFirst (bytes rest : List ℕ) : Type 0 where
  binding : VarBind
  read : binding_at (length bytes) bytes ≡ Ok (binding, rest)
  shortest : bytes ≡ binding_octets binding ++ rest

first_of_bindings : (bs : List VarBind) (bytes : List ℕ) (c n v : List ℕ × List ℕ) (tag : ℕ) (after : List ℕ) → AllBelowBase 256 bytes → AreBindings bs bytes
    → element_at 48 (length bytes) bytes ≡ Ok c → element_at 6 (length c.0) c.0 ≡ Ok n → n.1 ≡ tag ∷ after → content_at (length after) after ≡ Ok v
    → length bytes ≡ length c.1 + length (element 48 (element 6 n.0 ++ element tag v.0)) → IsFirst bytes c.1
unfolding binding_octets element_at
first_of_bindings [] bytes c n v tag after below nil h name_found is value_found size = absurd (cc (h, ap (element_at 48 (length bytes)) nil))
first_of_bindings (b ∷ bs) bytes c n v tag after below are h name_found is value_found size =
    let e = are.first in
    let parts = below_parts are.front are.back (subst (AllBelowBase 256) are.parts below) in
    let inside : AllBelowBase 256 (48 ∷ (e.len ++ e.content)) = subst (AllBelowBase 256) e.parts parts.0 in
    let content_below = (below_parts e.len e.content inside.1).1 in
    let first : c ≡ (e.content, are.back) =
    element_read 48 (length bytes) e.len e.content are.back bytes c e.form (are.parts ∙ ap (λ front. front ++ are.back) e.parts) h in
    let content : c.0 ≡ e.content = ap (λ c. c.0) first in
    let back : c.1 ≡ are.back = ap (λ c. c.1) first in
    let members = members_read b e.content (length c.0) (length after) n v tag after content_below e.spelled (ap (element_at 6 (length c.0)) (sym content) ∙ name_found) is value_found in
    let few : length are.front ≤ length (binding_octets b) =
    omega (arith, size, ap length are.parts, length-append are.front are.back, ap length back, ap (λ content. length (element 48 content)) members) in
    let same : are.front ≡ binding_octets b = (binding_is b).same are.front parts.0 are.first few in
    record {
      binding = b;
      read = ap (binding_at (length bytes)) are.parts ∙ binding_only (length bytes) b are.front are.back are.first ∙ ap (λ rest. Ok (b, rest)) (sym back);
      shortest = are.parts ∙ ap₂ (λ xs ys. xs ++ ys) same (sym back);
    }

pub first_shortest : (bytes : List ℕ) (c n v : List ℕ × List ℕ) → AllBelowBase 256 bytes → AreWhole bytes
    → element_at 48 (length bytes) bytes ≡ Ok c → element_at 6 (length c.0) c.0 ≡ Ok n → 1 ≤ length n.1
    → content_at (length (take (length n.1 - 1) (drop 1 n.1))) (take (length n.1 - 1) (drop 1 n.1)) ≡ Ok v
    → length c.1 ≤ length bytes → ((tag : ℕ) → length bytes - length c.1 ≡ length (element 48 (element 6 n.0 ++ element tag v.0))) → IsFirst bytes c.1
first_shortest bytes c n v below whole h name_found some value_found fewer size =
    first_of_bindings (bindings_of bytes) bytes c n v (get_or n.1 0 0) (take (length n.1 - 1) (drop 1 n.1)) below whole h name_found (first_and_after n.1 some) value_found
    (omega (arith, fewer, size (get_or n.1 0 0)))

pub first_and_rest : (bytes rest : List ℕ) → IsFirst bytes rest → AreShortest rest → AreShortest bytes
first_and_rest bytes rest first shortest = grind (arith, walk_more)

pub whole_rest : (bytes rest : List ℕ) → IsFirst bytes rest → AreWhole bytes → AreWhole rest
whole_rest bytes rest first whole = whole_more bytes rest first.binding whole first.read

pub nothing_shortest : (bytes : List ℕ) → length bytes ≡ 0 → AreShortest bytes
unfolding bindings_within
nothing_shortest [] none = refl
nothing_shortest (b ∷ bytes) some = absurd (omega (arith, some))
