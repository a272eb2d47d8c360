use Rattle.std.proofs.Common.{[], ◌∷◌, rules, refl}
use Rattle.dms_wire.specs.View.{binding_of, message_around}
use Rattle.dms_wire.proofs.Prefixes.{computed, completed, bindings_alone}
use Rattle.dms_wire.proofs.message.write_one.Goals as goal

pub returns-in_err-content : goal.returns-in_err-content
returns-in_err-content c =
    let h = bindings_alone (message_around c.args.header.now (binding_of c.args.name.now c.args.value.now ∷ [])) in
    search (rules, h)

pub returns-then-size-gt-MAX_DATAGRAM : goal.returns-then-size-gt-MAX_DATAGRAM
returns-then-size-gt-MAX_DATAGRAM c =
    let h = bindings_alone (message_around c.args.header.now (binding_of c.args.name.now c.args.value.now ∷ [])) in
    search (rules, h)

pub returns-in_err-begin : goal.returns-in_err-begin
returns-in_err-begin c = search (rules, computed c.args.header.now (binding_of c.args.name.now c.args.value.now ∷ []) _ refl)

pub returns : goal.returns
returns c =
    let binds = binding_of c.args.name.now c.args.value.now ∷ [] in
    search (rules, computed c.args.header.now binds _ refl, completed c.args.header.now binds _ refl)
