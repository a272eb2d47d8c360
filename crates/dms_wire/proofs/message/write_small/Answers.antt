use Rattle.std.proofs.Common.{[], ◌∷◌, rules, refl}
use Rattle.dms_wire.specs.View.{binding_of}
use Rattle.dms_wire.proofs.Prefixes.{computed, completed}
use Rattle.dms_wire.proofs.message.write_small.Goals as goal

pub returns-in_err-begin : goal.returns-in_err-begin
returns-in_err-begin c = search (rules, computed c.args.header.now (binding_of c.args.name.now c.args.value.now ∷ []) _ refl)

pub returns : goal.returns
returns c =
    let binds = binding_of c.args.name.now c.args.value.now ∷ [] in
    search (rules, computed c.args.header.now binds _ refl, completed c.args.header.now binds _ refl)
