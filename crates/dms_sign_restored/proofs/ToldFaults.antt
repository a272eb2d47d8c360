-- The faults that a sign tells of texts are those that a saved state may say.
use Rattle.std.proofs.Common.{◌≡◌, ℕ, ◌≤◌, Bool, true, cond, List, [], ◌∷◌, ◌++◌, length, Option, Some, None, refl, arith}
use Rattle.std.specs.Prelude.{unwrap_or, nat_lt}
use Rattle.std.specs.Option.{IfSome, option_or, option_map}
use Rattle.dms_multi.specs.declared.fault.SyntaxFault.{SyntaxFault}
use Rattle.dms_multi.specs.Outcomes.{outcomes_of, fault_in}
use Rattle.dms_codes.specs.Limits.{longest_text}
use Rattle.dms_face_font.specs.Font.{FontModel}
use Rattle.dms_face.specs.declared.multi_fault.MultiFault.{MultiFault}
use Rattle.dms_face.specs.declared.multi_fault.MultiFaultCode.{MultiFaultCode}
use Rattle.dms_face.specs.declared.multi_fault.MultiFaultCode.TheVariants as codes
use Rattle.dms_face.specs.FaultCode.{number_of_code, syntax_fault}
use Rattle.dms_face.specs.Face.{FaceModel}
use Rattle.dms_face.specs.Layout.{Layout, Turn, layout_of}
use Rattle.dms_face.specs.Fit.{PlacedTurn, font_fault, misuse, code_of, fits, turns_in, first_fault, fault_of_reading, fault_of}
use Rattle.dms_face.proofs.Lists.{if_either}
use Rattle.dms_sign.proofs.InRangeFaults.{fault_placed}
use Rattle.dms_sign_access.specs.Reports.{is_text_error}

-- ---- codes

-- the code of a fault of a text
abbrev IsToldCode : MultiFaultCode → Type 0
IsToldCode code = is_text_error (number_of_code code) ≡ true

font_told : (font : Option FontModel) (version : Option ℕ) → IfSome (font_fault font version) IsToldCode
font_told font version = grind arith

misuse_told : (face : FaceModel) (layout : Layout) (turn : Turn) → IfSome (misuse face layout turn) IsToldCode
misuse_told face layout turn = grind (arith, font_told)

or_too_big : (o : Option MultiFaultCode) → IfSome o IsToldCode → IsToldCode (unwrap_or o codes.TextTooBig)
or_too_big o told = grind arith

code_told : (face : FaceModel) (layout : Layout) (turn : Turn) → IsToldCode (code_of face layout turn)
code_told face layout turn = grind (arith, or_too_big, misuse_told)

-- ---- faults

abbrev IsToldBy : MultiFault → Type 0
IsToldBy fault = IsToldCode fault.code

fault_if : (b : Bool) (o : Option MultiFault) (code : MultiFaultCode) (place : ℕ) → IsToldCode code → IfSome o IsToldBy
    → IfSome (cond b o (Some (record { code = code; place = place }))) IsToldBy
fault_if b o code place told later = grind arith

first_told : (face : FaceModel) (front : List Turn) (turns : List PlacedTurn) → IfSome (first_fault face front turns) IsToldBy
first_told face front [] = tt
first_told face front ((turn, place) ∷ more) =
    fault_if (fits face (front ++ turn ∷ [])) (first_fault face (front ++ turn ∷ []) more) (code_of face (layout_of face front) turn) place
    (code_told face (layout_of face front) turn) (first_told face (front ++ turn ∷ []) more)

syntax_told : (o : Option SyntaxFault) → IfSome (option_map syntax_fault o) IsToldBy
syntax_told o = grind arith

either_told : (o p : Option MultiFault) → IfSome o IsToldBy → IfSome p IsToldBy → IfSome (option_or o p) IsToldBy
either_told o p first second = grind arith

text_told : (face : FaceModel) (text : List ℕ) → IfSome (fault_of face text) IsToldBy
unfolding fault_of
text_told face text =
    if_either IsToldBy (nat_lt longest_text (length text)) (Some (record { code = codes.TextTooBig; place = longest_text }))
    (fault_of_reading face (length text) (outcomes_of text)) refl
    (either_told (first_fault face [] (turns_in (length text) (outcomes_of text))) (option_map syntax_fault (fault_in (outcomes_of text)))
    (first_told face [] (turns_in (length text) (outcomes_of text))) (syntax_told (fault_in (outcomes_of text))))

-- what is told of a text: the number of a fault, and a place in the text or at its end
pub record IsTold (fault : MultiFault) : Type 0 where
  pub code : is_text_error (number_of_code fault.code) ≡ true
  pub place : fault.place ≤ longest_text

both_told : (o : Option MultiFault) → IfSome o IsToldBy → IfSome o (λ fault. fault.place ≤ longest_text) → IfSome o IsTold
both_told None told placed = tt
both_told (Some fault) told placed = record { code = told; place = placed }

pub fault_told : (face : FaceModel) (text : List ℕ) → IfSome (fault_of face text) IsTold
fault_told face text = both_told (fault_of face text) (text_told face text) (fault_placed face text)
