use Rattle.std.proofs.Common.{◌+◌, arith, ap, sym, ◌∙◌}
use Rattle.std.specs.Prelude.{option_map}
use Rattle.dms_text_exact.proofs.FrontLaws.{index_behind}
use Rattle.dms_text_exact.proofs.fronts.first_index.Goals as goal

pub returns-in_err-index : goal.returns-in_err-index
returns-in_err-index c =
    let place = c.passed-place in
    c.from_residual.ensures ∙ ap (option_map (λ index. place.result + index)) (sym c.in_err-index.was ∙ c.index_of.ensures)
    ∙ index_behind c.args.end place.result _ c.args.text.now (omega arith) place.ensures.few place.ensures.free

pub returns : goal.returns
returns c =
    let place = c.passed-place in
    ap (option_map (λ index. place.result + index)) (sym c.in_ok-index.was ∙ c.index_of.ensures)
    ∙ index_behind c.args.end place.result _ c.args.text.now (omega arith) place.ensures.few place.ensures.free
