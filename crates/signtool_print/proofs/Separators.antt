-- Digits with separators between pairs of them, octet by octet.
use Rattle.std.proofs.Common.{◌≡◌, ◌⊎◌, inl, inr, ℕ, Bool, true, false, cond, ◌+◌, ◌-◌, ◌<◌, ◌≤◌, List, [], ◌∷◌, ◌++◌, length, drop, get_or, Option, Some, None, Result, Ok, Err, refl, ap, sym, subst, ◌∙◌, arith, append_assoc}
use Rattle.std.specs.Result.{result_ok}
use Rattle.std.specs.List.{AllPass}
use Rattle.std.proofs.lemmas.List.{drop_more, drop_all, length-drop, length-append, append-nil}
use Rattle.std.proofs.lemmas.List.Elements.{All-head, All-tail}
use Rattle.hex.proofs.HexLemmas.{decode_of-ok}
use Rattle.hex.specs.Hex.{decode_of, is_hex_digit}
use Rattle.hex.specs.declared.error.FromHexError.{FromHexError}
use Rattle.hex.specs.declared.error.FromHexError.TheVariants.{OutOfMemory}
use Rattle.signtool_print.specs.SpacedDigits.{is_separator, is_between, stand_between, without_separators, spaced_octets}

pub decoded : (word digits octets : List ℕ) → digits ≡ without_separators word → stand_between 0 word ≡ true → decode_of digits ≡ Ok octets
    → spaced_octets word ≡ Some octets
decoded word digits octets alone between is =
    ap (λ b. cond b (result_ok (decode_of (without_separators word))) None) between ∙ ap (λ d. result_ok (decode_of d)) (sym alone) ∙ ap (λ r. result_ok r) is

pub not_decoded : (word digits : List ℕ) (fault : FromHexError) → digits ≡ without_separators word → stand_between 0 word ≡ true
    → (fault ≡ OutOfMemory) ⊎ (decode_of digits ≡ Err fault) → (fault ≡ OutOfMemory) ⊎ (spaced_octets word ≡ None)
not_decoded word digits fault alone between (inl memory) = inl memory
not_decoded word digits fault alone between (inr is) =
    inr (ap (λ b. cond b (result_ok (decode_of (without_separators word))) None) between ∙ ap (λ d. result_ok (decode_of d)) (sym alone) ∙ ap (λ r. result_ok r) is)

pub ruleset octets = (decoded, not_decoded)

-- ---- octet by octet

-- these digits were read of a word, and this is left of it
pub record IsRead (word digits rest : List ℕ) : Type 0 where
  pub alone : digits ++ without_separators rest ≡ without_separators word
  pub between : stand_between (length digits) rest ≡ stand_between 0 word

pub starts : (word digits : List ℕ) → digits ≡ [] → IsRead word digits (drop 0 word)
starts word digits none = record { alone = ap (λ d. d ++ without_separators word) none; between = ap (λ d. stand_between (length d) word) none }

passes : (word digits : List ℕ) (octet : ℕ) (more : List ℕ) → is_separator octet ≡ true → is_between (length digits) (length more) ≡ true
    → IsRead word digits (octet ∷ more) → IsRead word digits more
passes word digits octet more separates is so_far = record { alone = grind (arith, so_far.alone); between = grind (arith, so_far.between) }

refuses : (word digits : List ℕ) (octet : ℕ) (more : List ℕ) → is_separator octet ≡ true → is_between (length digits) (length more) ≡ false
    → IsRead word digits (octet ∷ more) → spaced_octets word ≡ None
refuses word digits octet more separates is so_far =
    let never : stand_between 0 word ≡ false = grind (arith, so_far.between) in
    ap (λ b. cond b (result_ok (decode_of (without_separators word))) None) never

takes : (word digits next : List ℕ) (octet : ℕ) (more : List ℕ) → is_separator octet ≡ false → next ≡ digits ++ octet ∷ []
    → IsRead word digits (octet ∷ more) → IsRead word next more
takes word digits next octet more separates is so_far = record {
  alone = grind (arith, append_assoc, so_far.alone);
  between = grind (arith, so_far.between, length-append);
}

-- the last step of the lemmas above, at a place of the word
at_place : (word digits : List ℕ) (place : ℕ) → place < length word → IsRead word digits (drop place word)
    → IsRead word digits (get_or word place 0 ∷ drop (place + 1) word)
at_place word digits place below so_far = subst (λ rest. IsRead word digits rest) (drop_more word place 0 below) so_far

after : (word : List ℕ) (place : ℕ) → place < length word → length word - 1 - place ≡ length (drop (place + 1) word)
after word place below = omega (arith, length-drop (place + 1) word)

pub passed : (word digits : List ℕ) (place : ℕ) → place < length word → is_separator (get_or word place 0) ≡ true
    → is_between (length digits) (length word - 1 - place) ≡ true → IsRead word digits (drop place word) → IsRead word digits (drop (place + 1) word)
passed word digits place below separates is so_far =
    passes word digits (get_or word place 0) (drop (place + 1) word) separates
    (subst (λ n. is_between (length digits) n ≡ true) (after word place below) is) (at_place word digits place below so_far)

pub misplaced : (word digits : List ℕ) (place : ℕ) → place < length word → is_separator (get_or word place 0) ≡ true
    → is_between (length digits) (length word - 1 - place) ≡ false → IsRead word digits (drop place word) → spaced_octets word ≡ None
misplaced word digits place below separates is so_far =
    refuses word digits (get_or word place 0) (drop (place + 1) word) separates
    (subst (λ n. is_between (length digits) n ≡ false) (after word place below) is) (at_place word digits place below so_far)

pub taken : (word digits next : List ℕ) (place : ℕ) → place < length word → is_separator (get_or word place 0) ≡ false
    → next ≡ digits ++ get_or word place 0 ∷ [] → IsRead word digits (drop place word) → IsRead word next (drop (place + 1) word)
taken word digits next place below separates is so_far =
    takes word digits next (get_or word place 0) (drop (place + 1) word) separates is (at_place word digits place below so_far)

all_at : (front : List ℕ) (octet : ℕ) (back : List ℕ) → AllPass is_hex_digit (front ++ octet ∷ back) → is_hex_digit octet ≡ true
all_at [] octet back pass = All-head (λ c. is_hex_digit c ≡ true) octet back pass
all_at (x ∷ front) octet back pass = all_at front octet back (All-tail (λ c. is_hex_digit c ≡ true) x (front ++ octet ∷ back) pass)

bad_digit : (front : List ℕ) (octet : ℕ) (back : List ℕ) (read : Result (List ℕ) FromHexError) → decode_of (front ++ octet ∷ back) ≡ read → is_hex_digit octet ≡ false
    → result_ok read ≡ None
bad_digit front octet back (Err fault) is bad = refl
bad_digit front octet back (Ok octets) is bad =
    let digit : is_hex_digit octet ≡ true = all_at front octet back (decode_of-ok (front ++ octet ∷ back) octets is).1 in
    absurd (cc)

unless : (b : Bool) (found : Option (List ℕ)) → found ≡ None → cond b found None ≡ None
unless true found none = none
unless false found none = refl

not_read : (word digits : List ℕ) (octet : ℕ) (more : List ℕ) → is_separator octet ≡ false → is_hex_digit octet ≡ false
    → IsRead word digits (octet ∷ more) → spaced_octets word ≡ None
not_read word digits octet more separates bad so_far =
    let kept : without_separators (octet ∷ more) ≡ octet ∷ without_separators more = grind (arith) in
    let whole : without_separators word ≡ digits ++ octet ∷ without_separators more = sym so_far.alone ∙ ap (λ d. digits ++ d) kept in
    unless (stand_between 0 word) (result_ok (decode_of (without_separators word)))
    (bad_digit digits octet (without_separators more) (decode_of (without_separators word)) (ap decode_of (sym whole)) bad)

pub no_digit : (word digits : List ℕ) (place : ℕ) → place < length word → is_separator (get_or word place 0) ≡ false
    → is_hex_digit (get_or word place 0) ≡ false → IsRead word digits (drop place word) → spaced_octets word ≡ None
no_digit word digits place below separates is so_far =
    not_read word digits (get_or word place 0) (drop (place + 1) word) separates is (at_place word digits place below so_far)

pub ended : (word digits : List ℕ) (place : ℕ) → length word ≤ place → IsRead word digits (drop place word)
    → (digits ≡ without_separators word) × (stand_between 0 word ≡ true)
ended word digits place all so_far =
    let whole : IsRead word digits [] = subst (λ rest. IsRead word digits rest) (drop_all place word all) so_far in
    (sym (append-nil digits) ∙ whole.alone, sym whole.between)

pub ruleset digits = (starts, passed, misplaced, taken, no_digit, ended)
