-- What is known of the items that a text is read as.
use Rattle.std.proofs.Common.{◌≡◌, ℕ, List, [], ◌∷◌, map, Option, Some, None, refl, ap, arith}
use Rattle.dms_multi.specs.declared.item.Item.{Item}
use Rattle.dms_multi.specs.declared.spots.Spot.{Spot}
use Rattle.dms_multi.specs.declared.fault.SyntaxFault.{SyntaxFault}
use Rattle.dms_multi.specs.Grammar.{TextSpells, SpotsSpell, outcomes}
use Rattle.dms_multi.specs.Outcomes.{items_in, fault_in}
use Rattle.dms_face.specs.Layout.{Turn}
use Rattle.dms_face.specs.Fit.{turns_in, turns_of}

abbrev pub item_of : Spot → Item
item_of spot = spot.item

-- ---- spots as items and turns

pub items_in_outcomes : (spots : List Spot) (fault : Option SyntaxFault) → items_in (outcomes spots fault) ≡ map item_of spots
items_in_outcomes [] None = refl
items_in_outcomes [] (Some fault) = refl
items_in_outcomes (spot ∷ spots) None = ap (λ items. spot.item ∷ items) (items_in_outcomes spots None)
items_in_outcomes (spot ∷ spots) (Some fault) = ap (λ items. spot.item ∷ items) (items_in_outcomes spots (Some fault))

pub fault_in_outcomes : (spots : List Spot) (fault : SyntaxFault) → fault_in (outcomes spots (Some fault)) ≡ Some fault
fault_in_outcomes [] fault = refl
fault_in_outcomes (spot ∷ spots) fault = fault_in_outcomes spots fault

pub no_fault_in_outcomes : (spots : List Spot) → fault_in (outcomes spots None) ≡ None
no_fault_in_outcomes [] = refl
no_fault_in_outcomes (spot ∷ spots) = no_fault_in_outcomes spots

pub turns_in_outcomes : (end : ℕ) (spots : List Spot) → map (λ placed. placed.0) (turns_in end (outcomes spots None)) ≡ turns_of (map item_of spots)
turns_in_outcomes end [] = refl
turns_in_outcomes end (spot ∷ spots) = ap (λ (turns : List Turn). Some spot.item ∷ turns) (turns_in_outcomes end spots)

pub text_spelled : (offset : ℕ) (spots : List Spot) (text : List ℕ) → SpotsSpell offset spots text → TextSpells (map item_of spots) text
text_spelled offset [] text spelled = spelled
text_spelled offset (spot ∷ spots) text spelled = grind (arith, text_spelled spot.past spots spelled.back spelled.second)
