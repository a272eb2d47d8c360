-- What lacks in a text where its reading comes to an end: a reading answers what is read, or the first thing that
-- lacks. Inner words of the readers (this profile).
use Rattle.std.specs.Prelude.{◌≡◌, ℕ, List, length, Option, Some, None, Result, Ok, Err}
use Rattle.dms_centre_restored.specs.declared.refusal.CentreStateField.{CentreStateField}
use Rattle.dms_centre_restored.specs.declared.refusal.CentreLineLack.{CentreLineLack}
use Rattle.dms_centre_restored.specs.declared.refusal.UnreadCentreLine.{UnreadCentreLine}
use Rattle.dms_centre_restored.specs.declared.refusal.UnreadCentreLine.TheVariants as unread

infixl 10 ◌>>=◌
abbrev pub ◌>>=◌ : {A B : Type 0} → Result A CentreLineLack → (A → Result B CentreLineLack) → Result B CentreLineLack
(Ok x) >>= next = next x
(Err lack) >>= next = Err lack

-- this is wanted where the text begins
abbrev pub here : CentreStateField → List ℕ → CentreLineLack
here wanted text = record { wanted = wanted; left = length text }

-- what is read of a text; where nothing is, this lacks at its beginning
abbrev pub wanting : {A : Type 0} → CentreStateField → List ℕ → Option A → Result A CentreLineLack
wanting wanted text None = Err (here wanted text)
wanting wanted text (Some x) = Ok x

-- what is taken up, unless there is something wrong with it
abbrev pub unless : {A F : Type 0} → CentreLineLack → Option F → A → Result A CentreLineLack
unless lack None value = Ok value
unless lack (Some fault) value = Err lack

-- ---- what functions return

-- What a function returned, seen by view, is what reading gives.
abbrev pub Reads : {X Y : Type 0} → (X → Y) → Result X CentreLineLack → Result Y CentreLineLack → Type 0
Reads view (Ok x) read = read ≡ Ok (view x)
Reads view (Err lack) read = read ≡ Err lack

-- The same, unless memory ran out.
abbrev pub Fails : {Y : Type 0} → UnreadCentreLine → Result Y CentreLineLack → Type 0
Fails unread.Memory read = Unit {0}
Fails (unread.Lacks lack) read = read ≡ Err lack

abbrev pub Gives : {X Y : Type 0} → (X → Y) → Result X UnreadCentreLine → Result Y CentreLineLack → Type 0
Gives view (Ok x) read = read ≡ Ok (view x)
Gives view (Err error) read = Fails error read
