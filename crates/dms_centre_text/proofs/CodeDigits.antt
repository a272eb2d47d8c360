-- A code is read of its twenty-four digits without memory.
use Rattle.std.proofs.Common.{◌≡◌, ℕ, ◌*◌, List, length, Some, None, Result, Ok, Err, refl, sym, ap, ◌∙◌, arith}
use Rattle.hex.specs.Hex.{decode_of, decode_sized}
use Rattle.hex.specs.declared.error.FromHexError.{FromHexError}
use Rattle.hex.proofs.HexLemmas.{decode_of-ok, decode_sized-ok, decode_sized-twice}
use Rattle.dms_codes.specs.declared.codes.Order.{Order}
use Rattle.dms_codes.specs.declared.codes.Activation.{Activation}
use Rattle.dms_codes.specs.Codes.{activation_of}
use Rattle.dms_centre_text.specs.CommandReading.{code_from}

decoded : (word octets : List ℕ) → decode_sized word 12 ≡ Ok octets → decode_of word ≡ Ok octets
decoded word octets read = sym (decode_sized-twice word 12 (decode_sized-ok word 12 octets read)) ∙ read

of_twelve : (order : Order) (octets : List ℕ) → length octets ≡ 12 → Some (activation_of order octets) ≡ code_from order (Ok octets)
of_twelve order octets twelve = grind arith

pub code_read : (order : Order) (word octets : List ℕ) (code : Activation) → Ok octets ≡ decode_sized word 12 → code ≡ activation_of order octets
    → Some code ≡ code_from order (decode_of word)
code_read order word octets code read is =
    let whole = decoded word octets (sym read) in
    let long = decode_sized-ok word 12 octets (sym read) in
    let twice = (decode_of-ok word octets whole).2 in
    let twelve : length octets ≡ 12 = omega (arith, long, twice) in
    ap Some is ∙ of_twelve order octets twelve ∙ ap (code_from order) (sym whole)

not_twelve : (order : Order) (word : List ℕ) (fault : FromHexError) (read : Result (List ℕ) FromHexError) → decode_sized word 12 ≡ Err fault
    → decode_of word ≡ read → None ≡ code_from order read
not_twelve order word fault (Ok octets) refused is =
    let twice : length word ≡ 2 * length octets = (decode_of-ok word octets is).2 in
    grind (arith, decode_sized-twice word 12, twice, is, refused)
not_twelve order word fault (Err other) refused is = refl

pub no_code_read : (order : Order) (word : List ℕ) (fault : FromHexError) → Err fault ≡ decode_sized word 12 → None ≡ code_from order (decode_of word)
no_code_read order word fault read = not_twelve order word fault (decode_of word) (sym read) refl
