use Rattle.std.proofs.Common.{rules, arith, ◌≡◌, [], slice_range}
use Rattle.std.specs.Io.KnownBytes.{IsAtEnd}
use Rattle.dms_text_streams.specs.Lines.{left}
use Rattle.dms_text_streams.proofs.Taken.{holds_more, ends_within}
use Rattle.dms_text_streams.proofs.input.Input.take_part_within.Goals as goal

pub returns-clause-goes_on : goal.returns-clause-goes_on
returns-clause-goes_on g c = λ more first before.
    holds_more _ _ _ first _ _ _ _ _ _ _ _ c.fill.ensures.kept c.unread-piece.ensures (c.part_length-count.ensures.goes_on (search rules)) c.requires
    (omega (arith, c.len.ensures)) c.if-count-limit.false (search rules) c.skip.ensures.unread (search rules) before

pub returns-clause-ends : goal.returns-clause-ends
returns-clause-ends g c = λ more first before.
    let here = c.fill.new.self in
    let end : slice_range here.buffer.items here.start here.end ≡ [] → IsAtEnd (left g.S.Source.remaining here) = search rules in
    ends_within _ _ _ first _ _ _ _ _ _ _ _ c.fill.ensures.kept c.unread-piece.ensures end (c.part_length-count.ensures.ends (search rules)) c.requires
    (omega (arith, c.len.ensures)) c.if-count-limit.false (search rules) c.skip.ensures.unread (search rules) before
