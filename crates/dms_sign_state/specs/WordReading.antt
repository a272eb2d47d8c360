-- Reading words from a text's front: a value and the octets after it, or what lacks there. Inner words of the readers;
-- the laws in proofs/ join them to the texts of fields (this profile).
use Rattle.std.specs.Prelude.{◌≡◌, ℕ, List, Option, Some, None, Result, Ok, Err}
use Rattle.dms_text_exact.specs.ExactWords.{number_in, octets_in, code_in, address_in}
use Rattle.dms_text_exact.specs.Fronts.{behind, cut_at}
use Rattle.dms_sign_state.specs.declared.field.SignFieldLack.{SignFieldLack}
use Rattle.dms_sign_state.specs.declared.field.UnreadSignField.{UnreadSignField}
use Rattle.dms_sign_state.specs.declared.field.UnreadSignField.TheVariants as unread

-- ---- readers

infixl 10 ◌>>=◌
abbrev pub ◌>>=◌ : {A B : Type 0} → Result A SignFieldLack → (A → Result B SignFieldLack) → Result B SignFieldLack
(Ok x) >>= f = f x
(Err lack) >>= f = Err lack

-- What a function returned, seen by view, is what reading gives, unless memory ran out.
abbrev pub Fails : {Y : Type 0} → UnreadSignField → Result Y SignFieldLack → Type 0
Fails unread.Memory read = Unit {0}
Fails (unread.Lacks lack) read = read ≡ Err lack

abbrev pub Gives : {X Y : Type 0} → (X → Y) → Result X UnreadSignField → Result Y SignFieldLack → Type 0
Gives view (Ok x) read = read ≡ Ok (view x)
Gives view (Err error) read = Fails error read

-- a reader: of a text, a value and the rest
abbrev pub Reader : Type 0 → Type 0
Reader A = List ℕ → Result (A × List ℕ) SignFieldLack

abbrev pub or_lack : {A : Type 0} → SignFieldLack → Option A → Result A SignFieldLack
or_lack lack None = Err lack
or_lack lack (Some x) = Ok x

-- one, and then the other
abbrev pub pair : {A B : Type 0} → Reader A → Reader B → Reader (A × B)
pair first second text = first text >>= λ x. second x.1 >>= λ y. Ok ((x.0, y.0), y.1)

-- the same, made into something
abbrev pub made : {A B : Type 0} → (A → B) → Reader A → Reader B
made make reader text = reader text >>= λ x. Ok (make x.0, x.1)

-- ---- words

-- the text after these octets
unfoldable pub named_at : List ℕ → SignFieldLack → List ℕ → Result (List ℕ) SignFieldLack
named_at name lack text = or_lack lack (behind name text)

-- what is read after these octets
abbrev pub after : {A : Type 0} → List ℕ → SignFieldLack → Reader A → Reader A
after name lack reader text = named_at name lack text >>= λ rest. reader rest

-- the value of what stands before the first such octet
abbrev pub ended : {A : Type 0} → (List ℕ → Option A) → ℕ → SignFieldLack → Reader A
ended value end lack text =
    or_lack lack (cut_at end text) >>= λ cut. or_lack lack (value cut.0) >>= λ x. Ok (x, cut.1)

-- a number from low to high, and what ends it
abbrev pub number : ℕ → ℕ → ℕ → SignFieldLack → Reader ℕ
number low high end lack = ended (number_in low high) end lack

-- a number of one octet
abbrev pub small : ℕ → SignFieldLack → Reader ℕ
small end lack = number 0 255 end lack

-- at most so many octets
abbrev pub octets : ℕ → ℕ → SignFieldLack → Reader (List ℕ)
octets most end lack = ended (octets_in most) end lack

-- just so many octets
abbrev pub code : ℕ → ℕ → SignFieldLack → Reader (List ℕ)
code size end lack = ended (code_in size) end lack

-- an address of four numbers
abbrev pub address : ℕ → SignFieldLack → Reader (List ℕ)
address end lack = ended address_in end lack
