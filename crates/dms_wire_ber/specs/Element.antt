-- Elements and their sequences (X.690, 8.1.1).
use Rattle.std.specs.Prelude.{◌≡◌, ℕ, List, ◌∷◌, ◌++◌, length}
use Rattle.dms_wire_ber.specs.Length.{IsLength}
use Rattle.dms_wire_ber.specs.Length.{short_length}

-- a tag, any accepted form of the content's length, and the content
pub record IsElement (tag : ℕ) (Content : List ℕ → Type 0) (bytes : List ℕ) : Type 0 where
  pub len : List ℕ
  pub content : List ℕ
  pub form : IsLength len (length content)
  pub spelled : Content content
  pub parts : bytes ≡ tag ∷ (len ++ content)

-- the one and after it the other
infixr 5 ◌⨾◌
pub record ◌⨾◌ (First Second : List ℕ → Type 0) (bytes : List ℕ) : Type 0 where
  pub front : List ℕ
  pub back : List ℕ
  pub first : First front
  pub second : Second back
  pub parts : bytes ≡ front ++ back

unfoldable pub element : ℕ → List ℕ → List ℕ
element tag content = tag ∷ (short_length (length content) ++ content)
