use Rattle.std.proofs.Common.{◌∙◌, Err, sym, ap, subst, rules, arith}
use Rattle.dms_text_streams.specs.Lines.{Takes, held, left}
use Rattle.dms_text_streams.proofs.Parts.{some_there, none_there}
use Rattle.dms_text_streams.proofs.Turns.{said_more, all_said, all_left, said_in_part, said_so_far, said_whole, kept_whole}
use Rattle.dms_text_streams.proofs.conversation.converse.Goals as goal

-- src/conversation.rt:50:13
pub returns-then-is_empty-clause-answers : goal.returns-then-is_empty-clause-answers
returns-then-is_empty-clause-answers g c =
    let taken = subst (λ l. Takes held (left g.S.Source.remaining c.loop.input) l (left g.S.Source.remaining c.next_line.new.input)) (sym c.as_slice-octets.ensures.value)
    c.in-Ok.ensures.line in
    all_said g.P.Party.reply g.P.Party.after _ _ _ _ _ _ _ _ _ c.loop.invariant.said taken (none_there _ (sym c.is_empty.ensures ∙ c.if-is_empty.true))

pub returns-then-is_empty-clause-after : goal.returns-then-is_empty-clause-after
returns-then-is_empty-clause-after g c =
    let taken = subst (λ l. Takes held (left g.S.Source.remaining c.loop.input) l (left g.S.Source.remaining c.next_line.new.input)) (sym c.as_slice-octets.ensures.value)
    c.in-Ok.ensures.line in
    all_left g.P.Party.reply g.P.Party.after _ _ _ _ _ _ _ _ _ c.loop.invariant.said taken (none_there _ (sym c.is_empty.ensures ∙ c.if-is_empty.true))

pub returns-in-Err-answer_line-clause-whole : goal.returns-in-Err-answer_line-clause-whole
returns-in-Err-answer_line-clause-whole g c = λ other _.
    let memory = ap Err (c.in-Err-answer_line.ensures.memory (λ e. other (ap Err e))) in
    kept_whole g.P.Party.reply g.P.Party.after _ _ _ _ _ _ _ _ _ c.loop.invariant.said (c.in-Err-answer_line.ensures.kept memory) (c.in-Err-answer_line.ensures.nothing memory)

pub returns-in-Err-answer_line-clause-in_part : goal.returns-in-Err-answer_line-clause-in_part
returns-in-Err-answer_line-clause-in_part g c = λ failed.
    let taken = subst (λ l. Takes held (left g.S.Source.remaining c.loop.input) l (left g.S.Source.remaining c.next_line.new.input)) (sym c.as_slice-octets.ensures.value)
    c.in-Ok.ensures.line in
    said_in_part g.P.Party.reply g.P.Party.after _ _ _ _ _ _ _ _ _ _ _ c.loop.invariant.said taken (some_there _ (sym c.is_empty.ensures ∙ c.if-is_empty.false))
    (c.in-Err-answer_line.ensures.after (search rules)) (c.in-Err-answer_line.ensures.prefix failed)

-- src/conversation.rt:46:5
pub loop-preserved : goal.loop-preserved
loop-preserved g c = grind (arith, said_more, some_there)

pub returns-in-Err-clause-prompt : goal.returns-in-Err-clause-prompt
returns-in-Err-clause-prompt g c = λ failed. said_so_far g.P.Party.reply g.P.Party.after _ _ _ _ _ _ _ _ c.loop.invariant.said (c.in-Err.ensures.part failed)

pub returns-clause-whole : goal.returns-clause-whole
returns-clause-whole g c = λ _ _. said_whole g.P.Party.reply g.P.Party.after _ _ _ _ _ _ _ c.loop.invariant.said
