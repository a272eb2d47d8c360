-- Lines that are read one after the other.
use Rattle.std.proofs.Common.{◌≡◌, ℕ, ◌+◌, ◌<◌, ◌==◌, List, [], ◌∷◌, ◌++◌, length, map, Result, Ok, Err, refl, sym, ap, ◌∙◌, append_assoc, append-nil, arith}
use Rattle.std.proofs.lemmas.List.Splits.{length-slice_split}
use Rattle.dms_wire.specs.Message.{VarBind}
use Rattle.dms_text.specs.Words.{parts_of}
use Rattle.dms_agent_state.specs.declared.fault.SetCause.TheVariants as causes
use Rattle.dms_agent_state.specs.declared.fault.SetFault.{SetFault}
use Rattle.dms_agent_state.specs.declared.fault.SetError.{SetError}
use Rattle.dms_agent_state.specs.declared.fault.SetError.TheVariants as errors
use Rattle.dms_device.specs.Object.{DeviceObject}
use Rattle.dms_device.specs.Objects.{binding_of}
use Rattle.dms_agent_state.specs.PutBack.{IsWhy}
use Rattle.dms_agent_state.specs.ValueLines.{set_of, in_line, put_before, nothing_left, sets_at}

-- a text has a part
pub some_part : (text : List ℕ) → 0 < length (parts_of 10 text)
some_part text = omega (arith, length-slice_split (λ octet. octet == 10) text)

abbrev pub after_done : List VarBind → Result (List VarBind) SetFault → Result (List VarBind) SetFault
after_done done (Ok more) = Ok (done ++ more)
after_done done (Err fault) = Err fault

-- what all lines say are the values that were read, and what those that are left say
abbrev pub AreReadTo : (first : ℕ) (all : List (List ℕ)) (number : ℕ) (rest : List (List ℕ)) (done : List VarBind) → Type 0
AreReadTo first all number rest done = sets_at first all ≡ after_done done (sets_at number rest)

after_none : (said : Result (List VarBind) SetFault) → said ≡ after_done [] said
after_none (Ok more) = refl
after_none (Err fault) = refl

pub read_starts : (first : ℕ) (all : List (List ℕ)) → AreReadTo first all first all []
read_starts first all = after_none (sets_at first all)

after_one : (done : List VarBind) (binding : VarBind) (said : Result (List VarBind) SetFault) → after_done done (put_before (Ok binding) said) ≡ after_done (done ++ binding ∷ []) said
after_one done binding (Ok more) = ap Ok (sym (append_assoc done (binding ∷ []) more))
after_one done binding (Err fault) = refl

pub read_more : (first number : ℕ) (all rest others : List (List ℕ)) (line : List ℕ) (binding : VarBind) (done : List VarBind) → rest ≡ line ∷ others → 0 < length others
    → in_line number (set_of line) ≡ Ok binding → AreReadTo first all number rest done → AreReadTo first all (number + 1) others (done ++ binding ∷ [])
read_more first number all rest [] line binding done is some said so_far = absurd (omega (arith, some))
read_more first number all rest (next ∷ more) line binding done is some said so_far =
    so_far ∙ ap (λ rest. after_done done (sets_at number rest)) is
    ∙ ap (λ said. after_done done (put_before said (sets_at (number + 1) (next ∷ more)))) said
    ∙ after_one done binding (sets_at (number + 1) (next ∷ more))

pub read_fault : (first number : ℕ) (all rest others : List (List ℕ)) (line : List ℕ) (fault : SetFault) (done : List VarBind) → rest ≡ line ∷ others → 0 < length others
    → in_line number (set_of line) ≡ Err fault → AreReadTo first all number rest done → sets_at first all ≡ Err fault
read_fault first number all rest [] line fault done is some said so_far = absurd (omega (arith, some))
read_fault first number all rest (next ∷ more) line fault done is some said so_far =
    so_far ∙ ap (λ rest. after_done done (sets_at number rest)) is
    ∙ ap (λ said. after_done done (put_before said (sets_at (number + 1) (next ∷ more)))) said

-- whatever is wrong with a line
pub read_error : (error : SetError) (first number : ℕ) (all rest others : List (List ℕ)) (line : List ℕ) (done : List VarBind) → rest ≡ line ∷ others
    → 0 < length others → IsWhy error (in_line number (set_of line)) → AreReadTo first all number rest done → IsWhy error (sets_at first all)
read_error errors.Memory first number all rest others line done is some why so_far = tt
read_error (errors.Fault fault) first number all rest others line done is some why so_far =
    read_fault first number all rest others line fault done is some why so_far

pub map_push : (values : List DeviceObject) (value : DeviceObject) → map binding_of (values ++ value ∷ []) ≡ map binding_of values ++ binding_of value ∷ []
map_push [] value = refl
map_push (first ∷ values) value = ap (λ rest. binding_of first ∷ rest) (map_push values value)

pub read_all : (first number : ℕ) (all rest : List (List ℕ)) (last : List ℕ) (done : List VarBind) → rest ≡ last ∷ [] → last ≡ [] → AreReadTo first all number rest done
    → sets_at first all ≡ Ok done
read_all first number all rest last done is none so_far =
    so_far ∙ ap (λ rest. after_done done (sets_at number rest)) is ∙ ap (λ last. after_done done (nothing_left number last)) none ∙ ap Ok (append-nil done)

some_left : (number : ℕ) (last : List ℕ) → 0 < length last → nothing_left number last ≡ Err (record { line = number; cause = causes.Newline })
some_left number [] some = absurd (omega (arith, some))
some_left number (octet ∷ octets) some = refl

pub read_left : (first number : ℕ) (all rest : List (List ℕ)) (last : List ℕ) (done : List VarBind) → rest ≡ last ∷ [] → 0 < length last → AreReadTo first all number rest done
    → sets_at first all ≡ Err (record { line = number; cause = causes.Newline })
read_left first number all rest last done is some so_far =
    so_far ∙ ap (λ rest. after_done done (sets_at number rest)) is ∙ ap (after_done done) (some_left number last some)

pub ruleset steps = (read_starts, read_all, read_left)
