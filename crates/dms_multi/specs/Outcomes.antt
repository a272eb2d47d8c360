-- What a text is read as: its spots from the beginning, and at most one fault after them (NTCIP 1203, MULTI).
use Rattle.std.specs.Prelude.{ℕ, zero, suc, ◌-◌, List, [], ◌∷◌, length, Option, Some, None, Result, Ok, Err}
use Rattle.dms_multi.specs.declared.fault.FaultCode.{FaultCode}
use Rattle.dms_multi.specs.declared.fault.SyntaxFault.{SyntaxFault}
use Rattle.dms_multi.specs.declared.item.Item.{Item}
use Rattle.dms_multi.specs.declared.spots.Spot.{Spot}
use Rattle.dms_multi.specs.TagReading.{item_at}

abbrev pub spot : ℕ → List ℕ → Item × List ℕ → Spot
spot end text piece = record { item = piece.0; first = end - length text; past = end - length piece.1 }

abbrev pub fault : ℕ → List ℕ → FaultCode → SyntaxFault
fault end text code = record { code = code; place = end - length text }

-- an item's spot and what is read after it, or a fault
abbrev pub with_outcome : ℕ → List ℕ → Result (Item × List ℕ) FaultCode → (List ℕ → List (Result Spot SyntaxFault))
    → List (Result Spot SyntaxFault)
with_outcome end text (Ok piece) more = Ok (spot end text piece) ∷ more piece.1
with_outcome end text (Err code) more = Err (fault end text code) ∷ []

-- of at most k items; end is the offset at which the text ends
unfoldable pub outcomes_within : ℕ → ℕ → List ℕ → List (Result Spot SyntaxFault)
outcomes_within zero end text = []
outcomes_within (suc k) end [] = []
outcomes_within (suc k) end (c ∷ cs) = with_outcome end (c ∷ cs) (item_at (c ∷ cs)) (outcomes_within k end)

abbrev pub outcomes_from : ℕ → List ℕ → List (Result Spot SyntaxFault)
outcomes_from end text = outcomes_within (length text) end text

abbrev pub outcomes_of : List ℕ → List (Result Spot SyntaxFault)
outcomes_of text = outcomes_from (length text) text

-- ---- the items and the fault alone

abbrev pub items_in : List (Result Spot SyntaxFault) → List Item
items_in [] = []
items_in (Ok s ∷ more) = s.item ∷ items_in more
items_in (Err f ∷ more) = items_in more

abbrev pub fault_in : List (Result Spot SyntaxFault) → Option SyntaxFault
fault_in [] = None
fault_in (Ok s ∷ more) = fault_in more
fault_in (Err f ∷ more) = Some f

-- the items that a text spells, or that its longest prefix spells that spells any
abbrev pub items_of : List ℕ → List Item
items_of text = items_in (outcomes_of text)

-- the fault of a text that spells no items
abbrev pub syntax_fault : List ℕ → Option SyntaxFault
syntax_fault text = fault_in (outcomes_of text)
