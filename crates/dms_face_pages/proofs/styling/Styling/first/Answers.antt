use Rattle.std.proofs.Common.{◌≡◌, ◌∙◌, Bool, true, false, List, [], ◌∷◌, Option, ap, refl, inl, inr, arith}
use Rattle.std.specs.Option.{is_some, option_map}
use Rattle.std.specs.List.{find, list_any}
use Rattle.std.proofs.lemmas.Bool.{and_parts, cases_Bool}
use Rattle.dms_face_pages.proofs.styling.Styling.first.Goals as goal

-- where an element passes a test, one is found
found : {A : Type 0} (p : A → Bool) (xs : List A) → list_any p xs ≡ true → is_some (find p xs) ≡ true
found p [] some = absurd (let wrong : false ≡ true = some in cc)
found p (x ∷ xs) some = elim (cases_Bool (p x)) [
  | inl here ↦ rw here refl
  | inr past ↦ rw past (found p xs (rw past at some))
]

mapped : {A B : Type 0} (f : A → B) (o : Option A) → is_some o ≡ is_some (option_map f o)
mapped f o = grind arith

pub unwrap-requires : goal.unwrap-requires
unwrap-requires c = mapped _ c.font.result ∙ ap is_some c.font.ensures ∙ found _ c.args.face.now.fonts ((and_parts _ _ c.requires).1)
