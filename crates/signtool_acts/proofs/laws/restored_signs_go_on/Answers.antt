use Rattle.std.proofs.Common.{◌≡◌, ℕ, List, ap, sym, subst}
use Rattle.dms_table.specs.Rows.{TableModel}
use Rattle.dms_sign.specs.State.{ConfigModel, SignState, start}
use Rattle.dms_sign.specs.Construction.{CanBeMade}
use Rattle.dms_sign_state.specs.StateText.{text_of_state}
use Rattle.dms_text_streams.specs.Conversation.{answers, left_by_all}
use Rattle.dms_sign_lines.specs.Answer.{answer_text, after_line}
use Rattle.dms_sign_restored.specs.Restored.{IsPut}
use Rattle.signtool_acts.proofs.GoingOn.{by_lines}
use Rattle.signtool_acts.proofs.laws.restored_signs_go_on.Goals as goal

pub returns-clause-saved : goal.returns-clause-saved
returns-clause-saved c config table lines can is =
    let came = by_lines c.args.first.now lines in
    subst (λ (s : SignState). IsPut c.args.first.now (text_of_state s) s) (sym came.1) (c.each_sign_is_restored.ensures.put config table came.0 can is)

pub returns-clause-answers : goal.returns-clause-answers
returns-clause-answers c config table lines more again can is put =
    let came = by_lines c.args.first.now lines in
    let saved = left_by_all after_line c.args.first.now lines in
    let one = subst (λ (s : SignState). IsPut c.args.first.now (text_of_state s) s) (sym came.1) (c.each_sign_is_restored.ensures.put config table came.0 can is) in
    ap (λ s. answers answer_text after_line s more) (c.a_text_restores_one_sign.ensures.put c.args.first.now (text_of_state saved) again saved put one)
