-- A word that is wanted as an address or as a code is read as one, and no other word is.
use Rattle.std.proofs.Common.{◌≡◌, ℕ, ◌==◌, Bool, true, false, cond, List, length, Some, None, is_some, Result, Ok, Err, arith, refl}
use Rattle.std.specs.Prelude.{IsSome}
use Rattle.hex.specs.Hex.{decode_of}
use Rattle.hex.specs.declared.error.FromHexError.{FromHexError}
use Rattle.dms_codes.specs.declared.codes.Order.{Order}
use Rattle.dms_codes.specs.declared.codes.Activation.{Activation}
use Rattle.dms_codes.specs.Codes.{activation_of}
use Rattle.dms_text_forms.specs.FieldsReading.{address_of}
use Rattle.dms_text_forms.specs.Form.{is_twelve}
use Rattle.dms_text_forms.specs.LineReading.{wanted_at}
use Rattle.dms_text_forms.specs.declared.wanted.Wanted.TheVariants as wants
use Rattle.dms_centre_text.specs.CommandReading.{code_from, code_at, next_address_at}

-- ---- addresses

pub address_wanted : (words : List (List ℕ)) (word : List ℕ) (rest : List (List ℕ)) → wanted_at wants.Address words ≡ Some (word, rest) → IsSome (address_of word)
unfolding wanted_at
address_wanted words word rest e = grind (arith, e)

pub address_next : (words : List (List ℕ)) (word address : List ℕ) (rest : List (List ℕ)) → wanted_at wants.Address words ≡ Some (word, rest) → Some address ≡ address_of word
    → next_address_at words ≡ Some (address, rest)
unfolding wanted_at next_address_at
address_next words word address rest e is = grind (arith, e, is)

pub address_none : (words : List (List ℕ)) → wanted_at wants.Address words ≡ None → next_address_at words ≡ None
unfolding wanted_at next_address_at
address_none words e = grind (arith, e)

pub ruleset addresses = (address_wanted, address_next, address_none)

-- ---- codes

chosen : {A : Type 0} (b : Bool) (x : A) → b ≡ is_some (cond b (Some x) None)
chosen true x = refl
chosen false x = refl

code_result : (order : Order) (read : Result (List ℕ) FromHexError) → is_twelve read ≡ is_some (code_from order read)
code_result order (Ok octets) = chosen (length octets == 12) (activation_of order octets)
code_result order (Err fault) = refl

code_word : (order : Order) (word : List ℕ) → is_twelve (decode_of word) ≡ is_some (code_from order (decode_of word))
code_word order word = code_result order (decode_of word)

pub code_wanted : (order : Order) (words : List (List ℕ)) (word : List ℕ) (rest : List (List ℕ)) → wanted_at wants.Code words ≡ Some (word, rest)
    → IsSome (code_from order (decode_of word))
unfolding wanted_at
code_wanted order words word rest e = grind (arith, e, code_word)

pub code_next : (order : Order) (words : List (List ℕ)) (word : List ℕ) (code : Activation) (rest : List (List ℕ)) → wanted_at wants.Code words ≡ Some (word, rest)
    → Some code ≡ code_from order (decode_of word) → code_at order words ≡ Some (code, rest)
unfolding wanted_at code_at
code_next order words word code rest e is = grind (arith, e, is)

pub code_none : (order : Order) (words : List (List ℕ)) → wanted_at wants.Code words ≡ None → code_at order words ≡ None
unfolding wanted_at code_at
code_none order words e = grind (arith, e, code_word)

pub ruleset codes_wanted = (code_wanted, code_next, code_none)
