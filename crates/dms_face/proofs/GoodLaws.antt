-- The texts without a fault are the good ones.
use Rattle.std.proofs.Common.{◌≡◌, ◌↔◌, ℕ, zero, suc, ◌≤◌, Bool, true, false, IsTrue, cond, List, [], ◌∷◌, ◌++◌, length, map, take, nat_lt, Option, Some, None, Result, refl, ap, sym, ◌∙◌, subst, arith, append-nil, append_assoc}
use Rattle.std.specs.Option.{option_or}
use Rattle.std.specs.Result.{is_ok}
use Rattle.std.proofs.lemmas.Bool.{cases_Bool}
use Rattle.std.proofs.lemmas.Bool.Decides.{nat_tests}
use Rattle.dms_multi.specs.declared.spots.Spot.{Spot}
use Rattle.dms_multi.specs.declared.fault.SyntaxFault.{SyntaxFault}
use Rattle.dms_multi.specs.Grammar.{IsReading, ReadsAs, outcomes}
use Rattle.dms_multi.specs.Outcomes.{outcomes_of}
use Rattle.dms_multi.proofs.ItemLaws.{one_list}
use Rattle.dms_multi.proofs.Readings.{is_reading}
use Rattle.dms_codes.specs.Limits.{longest_text}
use Rattle.dms_face.specs.declared.multi_fault.MultiFault.{MultiFault}
use Rattle.dms_face.specs.declared.multi_fault.MultiFaultCode.TheVariants.{TextTooBig}
use Rattle.dms_face.specs.Face.{FaceModel}
use Rattle.dms_face.specs.Layout.{Turn, layout_of}
use Rattle.dms_face.specs.Fit.{fits, Fits, code_of, PlacedTurn, turns_in, first_fault, fault_of_reading, fault_of, or_fault, checked_text, IsGood}
use Rattle.dms_face.proofs.Bools.{join}
use Rattle.dms_face.proofs.RoomLaws.{nothing_fits}
use Rattle.dms_face.proofs.WalkLaws.{none_fits}
use Rattle.dms_face.proofs.ReadingLaws.{item_of, fault_in_outcomes, no_fault_in_outcomes, turns_in_outcomes, text_spelled}

end_fits : (face : FaceModel) → fits face (None ∷ []) ≡ true
end_fits face = join _ _ (join _ _ (join _ _ refl (nothing_fits face.height)) refl) (nothing_fits face.height)

empty_fronts : (face : FaceModel) (n : ℕ) → Fits face (take n (None ∷ []))
empty_fronts face zero = none_fits face
empty_fronts face (suc zero) = end_fits face
empty_fronts face (suc (suc n)) = end_fits face

pub empty_is_good : (face : FaceModel) → IsGood face []
empty_is_good face = record { short = omega arith; items = []; spelled = refl; fit = empty_fronts face }

-- ---- without a fault, each front fits

turns_alone : List PlacedTurn → List Turn
turns_alone turns = map (λ placed. placed.0) turns

front_alone : (face : FaceModel) (front : List Turn) → fits face front ≡ true → fits face (front ++ []) ≡ true
front_alone face front fit = ap (fits face) (append-nil front) ∙ fit

fronts_fit : (face : FaceModel) (front : List Turn) (turns : List PlacedTurn) → fits face front ≡ true → first_fault face front turns ≡ None
    → (n : ℕ) → fits face (front ++ take n (turns_alone turns)) ≡ true
unfolding turns_alone
fronts_fit face front turns fit none zero = front_alone face front fit
fronts_fit face front [] fit none (suc n) = front_alone face front fit
fronts_fit face front ((turn, place) ∷ more) fit none (suc n) =
    let M : Bool → Type 0 = λ b. fits face (front ++ turn ∷ []) ≡ b
    → cond b (first_fault face (front ++ turn ∷ []) more) (Some (record { code = code_of face (layout_of face front) turn; place = place })) ≡ None
    → fits face (front ++ (turn ∷ take n (turns_alone more))) ≡ true in
    let fitting : M true = λ is rest. ap (fits face) (sym (append_assoc front (turn ∷ []) (take n (turns_alone more)))) ∙ fronts_fit face (front ++ turn ∷ []) more is rest n in
    let failing : M false = λ is rest. absurd (let wrong : Some (record { code = code_of face (layout_of face front) turn; place = place }) ≡ None = rest in cc) in
    let go : (b : Bool) → M b = λ b. elim b as M [ true ↦ fitting | false ↦ failing ] in
    go (fits face (front ++ turn ∷ [])) refl none

no_fault : (face : FaceModel) (front : List Turn) (turns : List PlacedTurn) → ((n : ℕ) → fits face (front ++ take n (turns_alone turns)) ≡ true) → first_fault face front turns ≡ None
unfolding turns_alone
no_fault face front [] fit = refl
no_fault face front ((turn, place) ∷ more) fit =
    ap (λ b. cond b (first_fault face (front ++ turn ∷ []) more) (Some (record { code = code_of face (layout_of face front) turn; place = place }))) (fit 1)
    ∙ no_fault face (front ++ turn ∷ []) more (λ n. ap (fits face) (append_assoc front (turn ∷ []) (take n (turns_alone more))) ∙ fit (suc n))

-- ---- readings

or_none : (o p : Option MultiFault) → option_or o p ≡ None → (o ≡ None) × (p ≡ None)
or_none o p is = grind arith

good_reading : (face : FaceModel) (text : List ℕ) (spots : List Spot) (fault : Option SyntaxFault) → ReadsAs text spots fault → length text ≤ longest_text
    → fault_of_reading face (length text) (outcomes spots fault) ≡ None → IsGood face text
unfolding turns_alone
good_reading face text spots None reads short none =
    let P : List Turn → Type 0 = λ turns. (n : ℕ) → Fits face (take n turns) in
    let first : first_fault face [] (turns_in (length text) (outcomes spots None)) ≡ None = (or_none _ _ none).0 in
    record {
      short = short;
      items = map item_of spots;
      spelled = text_spelled 0 spots text reads;
      fit = subst P (turns_in_outcomes (length text) spots) (fronts_fit face [] (turns_in (length text) (outcomes spots None)) (none_fits face) first);
    }
good_reading face text spots (Some fault) reads short none = grind (arith, or_none, item_of, text_spelled, turns_in_outcomes, fronts_fit, none_fits, fault_in_outcomes)

reading_good : (face : FaceModel) (text : List ℕ) (spots : List Spot) (fault : Option SyntaxFault) → ReadsAs text spots fault → IsGood face text
    → fault_of_reading face (length text) (outcomes spots fault) ≡ None
unfolding turns_alone
reading_good face text spots fault reads good = grind (arith, item_of, one_list, text_spelled, turns_alone, turns_in_outcomes, no_fault, no_fault_in_outcomes)

short_law : (face : FaceModel) (text : List ℕ) → nat_lt longest_text (length text) ≡ false → (fault_of face text ≡ None) ↔ IsGood face text
unfolding fault_of
short_law face text few =
    let reading : IsReading text (outcomes_of text) = is_reading text in
    let short : length text ≤ longest_text = grind (arith, nat_tests) in
    let fault : fault_of face text ≡ fault_of_reading face (length text) (outcomes reading.spots reading.fault) =
    ap (λ b. cond b (Some (record { code = TextTooBig; place = longest_text })) (fault_of_reading face (length text) (outcomes_of text))) few
    ∙ ap (fault_of_reading face (length text)) reading.parts in
    let there : fault_of face text ≡ None → IsGood face text =
    λ none. good_reading face text reading.spots reading.fault reading.reads short (sym fault ∙ none) in
    let back : IsGood face text → fault_of face text ≡ None =
    λ good. fault ∙ reading_good face text reading.spots reading.fault reading.reads good in
    (there, back)

long_law : (face : FaceModel) (text : List ℕ) → nat_lt longest_text (length text) ≡ true → (fault_of face text ≡ None) ↔ IsGood face text
unfolding fault_of
long_law face text many = grind arith

-- A text has no fault just where it is good.
pub faultless_law : (face : FaceModel) (text : List ℕ) → (fault_of face text ≡ None) ↔ IsGood face text
faultless_law face text = grind (arith, cases_Bool, nat_lt, long_law, short_law)

is_ok_none : (n : ℕ) (o : Option MultiFault) → is_ok (or_fault n o) ≡ true → o ≡ None
is_ok_none n o is = grind arith

-- A text has an answer but no fault just where it is good.
pub good_law : (face : FaceModel) (text : List ℕ) (result : Result ℕ MultiFault) → result ≡ checked_text face text → IsTrue (is_ok result) ↔ IsGood face text
good_law face text result is = grind (arith, faultless_law, is_ok_none)
