use Rattle.std.proofs.Common.{◌≡◌, ◌∷◌, ◌++◌, List, ℕ, true, rules, sym, ap, ◌∙◌, arith, take-append-drop}
use Rattle.dms_wire_ber.specs.NameReading.{is_name, numbers_of}
use Rattle.dms_wire.specs.Message.{null}
use Rattle.dms_wire.proofs.Bindings.{null_binding}
use Rattle.dms_wire.proofs.binding.after_null_binding.Goals as goal

pub returns-clause-found : goal.returns-clause-found
returns-clause-found c =
    let size = c.in_ok-size.size in
    let count = c.in_ok-size.name_size in
    let name = c.split_at.result.0.now in
    let back = c.split_at.result.1.now in
    let parts : c.in_ok-size.rest.now ≡ name ++ back =
    rw (c.split_at.ensures.front, c.split_at.ensures.back) (sym (take-append-drop c.from-count.result c.in_ok-size.rest.now))
    in
    let whole = c.in_ok-size.ensures ∙ ap (λ (octets : List ℕ). 48 ∷ size ∷ 6 ∷ count ∷ octets) (parts ∙ ap (λ (octets : List ℕ). name ++ octets) c.in_ok-rest.ensures) in
    let named : is_name name ≡ true = search rules in (
      record { name = numbers_of name; value = null },
      λ end. null_binding end size count c.args.octets.now name c.in_ok-rest.rest.now named (omega arith) (omega arith) (omega arith) whole,
    )
