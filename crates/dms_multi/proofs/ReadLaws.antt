-- The items and the fault that are read of a text, against the grammar.
use Rattle.std.proofs.Common.{◌≡◌, ℕ, ◌<◌, ◌≤◌, ◌^◌, List, [], ◌∷◌, ◌++◌, take, map, Option, Some, None, refl, sym, ap, ◌∙◌, arith, subst}
use Rattle.std.specs.Prelude.{All, codes}
use Rattle.std.proofs.Math.Nat.{pow-le-pow_right}
use Rattle.std.proofs.lemmas.Int.Digits.{digits_value-lt}
use Rattle.std.proofs.lemmas.List.Elements.{All-cons, All-head, All-tail}
use Rattle.dms_multi.specs.declared.fault.SyntaxFault.{SyntaxFault}
use Rattle.dms_multi.specs.declared.item.Item.{Item}
use Rattle.dms_multi.specs.declared.item.Item.TheVariants.{Char, Background, Foreground, Font, FlashOn, FlashEnd, JustLine, JustPage, NewLine, NewPage, PageTime}
use Rattle.dms_multi.specs.declared.item.Lead.{Lead}
use Rattle.dms_multi.specs.declared.spots.Spot.{Spot}
use Rattle.dms_multi.specs.Range.{IsWithin}
use Rattle.dms_multi.specs.Item.{IsFontInRange, IsInRange}
use Rattle.dms_text.specs.Numbers.{SpellsNumber}
use Rattle.dms_multi.specs.Grammar.{Value, LaterTime, FontValue, FlashTimes, TagBody, IsPlain, ItemSpells, TextSpells, IsSyntaxFault, ReadsAs, outcomes, IsReading}
use Rattle.dms_multi.specs.Outcomes.{outcomes_of, items_in, fault_in, items_of, syntax_fault}
use Rattle.dms_multi.proofs.ItemLaws.{one_list}
use Rattle.dms_multi.proofs.Readings.{text_of_spots, is_reading}

-- ---- what is read

items_in_outcomes : (spots : List Spot) (f : Option SyntaxFault) → items_in (outcomes spots f) ≡ map (λ (s : Spot). s.item) spots
items_in_outcomes [] None = refl
items_in_outcomes [] (Some f) = refl
items_in_outcomes (s ∷ ss) None = ap (λ (is : List Item). s.item ∷ is) (items_in_outcomes ss None)
items_in_outcomes (s ∷ ss) (Some f) = ap (λ (is : List Item). s.item ∷ is) (items_in_outcomes ss (Some f))

fault_in_outcomes : (spots : List Spot) (f : Option SyntaxFault) → fault_in (outcomes spots f) ≡ f
fault_in_outcomes [] None = refl
fault_in_outcomes [] (Some f) = refl
fault_in_outcomes (s ∷ ss) None = fault_in_outcomes ss None
fault_in_outcomes (s ∷ ss) (Some f) = fault_in_outcomes ss (Some f)

items_are : (text : List ℕ) (r : IsReading text (outcomes_of text)) → items_of text ≡ map (λ (s : Spot). s.item) r.spots
items_are text r = ap items_in r.parts ∙ items_in_outcomes r.spots r.fault

fault_is : (text : List ℕ) (r : IsReading text (outcomes_of text)) → syntax_fault text ≡ r.fault
fault_is text r = ap fault_in r.parts ∙ fault_in_outcomes r.spots r.fault

spelled_read : (items : List Item) (text : List ℕ) (spots : List Spot) (f : Option SyntaxFault) → TextSpells items text → ReadsAs text spots f → (map (λ (s : Spot). s.item) spots ≡ items) × (f ≡ None)
spelled_read items text spots f spelled reads = grind (arith, one_list, text_of_spots)

pub items_read : (items : List Item) (text : List ℕ) → TextSpells items text → (items_of text ≡ items) × (syntax_fault text ≡ None)
items_read items text spelled =
    let r = is_reading text in
    let both = spelled_read items text r.spots r.fault spelled r.reads in
    (items_are text r ∙ both.0, fault_is text r ∙ both.1)

no_fault : (text : List ℕ) (spots : List Spot) (f : Option SyntaxFault) → f ≡ None → ReadsAs text spots f → TextSpells (map (λ (s : Spot). s.item) spots) text
no_fault text spots f s reads = grind (arith, text_of_spots)

pub items_spelled : (text : List ℕ) → syntax_fault text ≡ None → TextSpells (items_of text) text
items_spelled text none =
    let r = is_reading text in
    subst (λ (items : List Item). TextSpells items text) (sym (items_are text r)) (no_fault text r.spots r.fault (sym (fault_is text r) ∙ none) r.reads)

one_fault : (text : List ℕ) (spots : List Spot) (f : Option SyntaxFault) (fault : SyntaxFault) → f ≡ Some fault → ReadsAs text spots f → IsSyntaxFault text fault × TextSpells (map (λ (s : Spot). s.item) spots) (take fault.place text)
one_fault text spots f fault same reads = grind (arith, text_of_spots)

pub fault_read : (text : List ℕ) (fault : SyntaxFault) → syntax_fault text ≡ Some fault → IsSyntaxFault text fault × TextSpells (items_of text) (take fault.place text)
fault_read text fault same =
    let r = is_reading text in
    let both = one_fault text r.spots r.fault fault (sym (fault_is text r) ∙ same) r.reads in
    (both.0, subst (λ (items : List Item). TextSpells items (take fault.place text)) (sym (items_are text r)) both.1)

-- ---- what is spelled is in range

value_within : (low high : ℕ) (v : Option ℕ) (text : List ℕ) → Value low high v text → IsWithin low high v
value_within low high None text nothing = tt
value_within low high (Some n) text number = (number.least, number.greatest)

later_within : (letter : List ℕ) (high : ℕ) (time : Option ℕ) (text : List ℕ) → LaterTime letter high time text → IsWithin 0 high time
later_within letter high time text p = grind (arith, value_within)

digits_within : (n : ℕ) (text : List ℕ) → SpellsNumber 16 4 n text → n ≤ 65535
digits_within n text digits = grind (arith, pow-le-pow_right, digits_value-lt)

font_within : (font : Option (ℕ × Option ℕ)) (text : List ℕ) → FontValue font text → IsFontInRange font
font_within None text nothing = tt
font_within (Some (n, None)) text number = (number.least, number.greatest, tt)
font_within (Some (n, Some version)) text parts =
    let small : version ≤ 65535 = digits_within version _ parts.second.second.spelled in
    let none : 0 ≤ version = omega arith in
    (parts.first.least, parts.first.greatest, (none, small))

flash_within : (first : Lead) (lit dark : Option ℕ) (text : List ℕ) → FlashTimes first lit dark text → IsWithin 0 99 lit × IsWithin 0 99 dark
flash_within first lit dark text times = grind (arith, value_within, later_within)

body_within : (item : Item) (body : List ℕ) → TagBody item body → IsInRange item
body_within (Char c) body b = digits_within c b.back b.second
body_within (Background colour) body b = value_within 0 9 colour b.back b.second
body_within (Foreground colour) body b = value_within 0 9 colour b.back b.second
body_within (Font font) body b = font_within font b.back b.second
body_within (FlashOn first lit dark) body b = flash_within first lit dark b.back b.second
body_within FlashEnd body b = tt
body_within (JustLine place) body b = value_within 2 4 place b.back b.second
body_within (JustPage place) body b = value_within 2 4 place b.back b.second
body_within (NewLine gap) body b = value_within 0 9 gap b.back b.second
body_within NewPage body b = tt
body_within (PageTime lit dark) body b = (value_within 0 255 lit b.second.front b.second.first, later_within (codes "o") 255 dark b.second.back b.second.second)

-- the octets of a text
abbrev IsOctet : ℕ → Type 0
IsOctet c = c < 256

octets_apart : (xs ys : List ℕ) → All (λ c. c < 256) (xs ++ ys) → All (λ c. c < 256) xs × All (λ c. c < 256) ys
octets_apart [] ys all = ((λ k d inside. absurd (omega arith)), all)
octets_apart (x ∷ xs) ys all =
    let rest = octets_apart xs ys (All-tail IsOctet x (xs ++ ys) all) in
    (All-cons IsOctet x xs (All-head IsOctet x (xs ++ ys) all) rest.0, rest.1)

plain_item_within : (item : Item) (piece : List ℕ) → All (λ c. c < 256) piece → IsPlain item piece → IsInRange item
plain_item_within item piece all is = grind arith

item_within : (item : Item) (piece : List ℕ) → All (λ c. c < 256) piece → ItemSpells item piece → IsInRange item
item_within item piece all p = grind (arith, plain_item_within, body_within)

pub items_within : (items : List Item) (text : List ℕ) → All (λ c. c < 256) text → TextSpells items text → All IsInRange items
items_within [] text all spelled = λ k d inside. absurd (omega arith)
items_within (item ∷ items) text all spelled =
    let both = octets_apart spelled.front spelled.back (subst (All IsOctet) spelled.parts all) in
    All-cons IsInRange item items (item_within item spelled.front both.0 spelled.first) (items_within items spelled.back both.1 spelled.second)
