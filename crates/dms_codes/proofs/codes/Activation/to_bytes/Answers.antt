use Rattle.std.proofs.Common.{◌≡◌, ◌/◌, ◌%◌, [], ◌∷◌, ap, ◌∙◌, arith, rules}
use Rattle.dms_codes.proofs.Places.{written}
use Rattle.dms_codes.proofs.codes.Activation.to_bytes.Goals as goal

pub returns : goal.returns
returns c =
    let a = c.args.self.now in
    let high : a.minutes / 256 % 256 ≡ a.minutes / 256 = omega arith in
    written c.args.order a c.to_be_bytes.result c.to_bytes.result (search rules)
    (c.to_be_bytes.ensures ∙ ap (λ n. n ∷ a.minutes % 256 ∷ []) high) c.to_bytes.ensures
