use Rattle.std.proofs.Common.{◌≡◌, ℕ, ◌+◌, ◌-◌, ◌≤◌, List, take, drop, slice_range, sym, ap, ◌∙◌, arith, drop-drop}
use Rattle.std.proofs.lemmas.List.{drop-take}
use Rattle.dms_text_streams.proofs.input.Input.skip.Goals as goal

advanced : (xs : List ℕ) (start end count : ℕ) → count ≤ end - start → slice_range xs (start + count) end ≡ drop count (slice_range xs start end)
advanced xs start end count within =
    let whole : count + (end - (start + count)) ≡ end - start = omega arith in
    ap (take (end - (start + count))) (sym (drop-drop count start xs)) ∙ sym (drop-take count (end - (start + count)) (drop start xs))
    ∙ ap (λ n. drop count (take n (drop start xs))) whole

-- src/taking.rt:103:5
pub returns-clause-unread : goal.returns-clause-unread
returns-clause-unread g c = let held = c.args.self.now in advanced held.buffer.items held.start held.end c.args.count c.requires
