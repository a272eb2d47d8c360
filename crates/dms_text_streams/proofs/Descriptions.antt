-- A description that is taken line by line.
use Rattle.std.proofs.Common.{◌≡◌, ℕ, ◌+◌, ◌<◌, ◌≤◌, true, false, cond, List, [], ◌∷◌, ◌++◌, length, take, Option, Some, None, IfSome, refl, sym, ap, ◌∙◌, arith, append_assoc, append-nil, take_all, length-append, length-take}
use Rattle.std.specs.Bool.{⊤}
use Rattle.std.specs.List.{position}
use Rattle.std.specs.Io.BufRead.{take_through, drop_through}
use Rattle.std.specs.Str.Lines.{lines}
use Rattle.std.proofs.BufReadLemmas.{take_through-append, drop_through-append, take_through-nil}
use Rattle.dms_text_streams.specs.Lines.{Takes, TakesAtMost, line_of}
use Rattle.dms_text_streams.specs.DescriptionText.{is_end, lines_through_end, lines_after_end, TakesDescription}
use Rattle.dms_text_streams.proofs.Parts.{is_newline, before_newline}
use Rattle.dms_text_streams.proofs.LineCuts.{first_line_is, to_newline, to_end}

-- what is taken and what is left are the whole
both : (octets : List ℕ) → take_through 10 octets ++ drop_through 10 octets ≡ octets
both [] = refl
both (x ∷ octets) = grind (arith, both octets)

-- a line that has its newline is the first one, whatever follows it
first_of_more : (octets rest : List ℕ) (n : ℕ) → position is_newline octets ≡ Some n → lines (take_through 10 octets ++ rest) ≡ line_of (take_through 10 octets) ∷ lines rest
first_of_more octets rest n found =
    let line = take n octets in
    let all = before_newline octets n found in
    let joined : take_through 10 octets ++ rest ≡ line ++ 10 ∷ rest = ap (λ l. l ++ rest) (to_newline octets n found) ∙ append_assoc line (10 ∷ []) rest in
    let some : 0 < length (line ++ 10 ∷ rest) = omega (arith, length-append line (10 ∷ rest)) in
    ap lines joined ∙ first_line_is (line ++ 10 ∷ rest) some
    ∙ ap (λ l. line_of l ∷ lines (drop_through 10 (line ++ 10 ∷ rest))) (take_through-append 10 line (10 ∷ rest) all ∙ sym (to_newline octets n found))
    ∙ ap (λ l. line_of (take_through 10 octets) ∷ lines l) (drop_through-append 10 line (10 ∷ rest) all)

alone_at : (octets : List ℕ) → 0 < length octets → (place : Option ℕ) → position is_newline octets ≡ place
    → lines (take_through 10 octets) ≡ line_of (take_through 10 octets) ∷ []
alone_at octets some (Some n) found = ap lines (sym (append-nil (take_through 10 octets))) ∙ first_of_more octets [] n found
alone_at octets some None none = grind (arith, append-nil, first_of_more, to_end, first_line_is)

-- a line alone
alone : (octets : List ℕ) → 0 < length octets → lines (take_through 10 octets) ≡ line_of (take_through 10 octets) ∷ []
alone octets some = alone_at octets some (position is_newline octets) refl

followed_at : (octets rest : List ℕ) → 0 < length (drop_through 10 octets) → (place : Option ℕ) → position is_newline octets ≡ place
    → lines (take_through 10 octets ++ rest) ≡ line_of (take_through 10 octets) ∷ lines rest
followed_at octets rest some p found = grind (arith, first_of_more, to_end)

-- a line after which there is more has its newline
followed : (octets rest : List ℕ) → 0 < length (drop_through 10 octets) → lines (take_through 10 octets ++ rest) ≡ line_of (take_through 10 octets) ∷ lines rest
followed octets rest some = followed_at octets rest some (position is_newline octets) refl

-- lines of a text without a line `end` are taken, and those of `rest` are left
pub record Collected (octets text rest : List ℕ) : Type 0 where
  pub whole : octets ≡ text ++ rest
  pub cut : lines octets ≡ lines text ++ lines rest
  pub through : (more : List (List ℕ)) → lines_through_end (lines text ++ more) ≡ lines text ++ lines_through_end more
  pub after : (more : List (List ℕ)) → lines_after_end (lines text ++ more) ≡ lines_after_end more
  pub closed : 0 < length rest → (more : List ℕ) → lines (text ++ more) ≡ lines text ++ lines more

abbrev pub Collects : Option (List ℕ) → List ℕ → Option (List ℕ) → Type 0
Collects None text now = ⊤
Collects (Some octets) text None = ⊥
Collects (Some octets) text (Some rest) = Collected octets text rest

pub none_collected : (first : Option (List ℕ)) → Collects first [] first
none_collected first = grind arith

goes_through : (line : List ℕ) (more : List (List ℕ)) → is_end line ≡ false → lines_through_end (line ∷ more) ≡ line ∷ lines_through_end more
goes_through line more tested = ap (λ b. cond b (line ∷ []) (line ∷ lines_through_end more)) tested

goes_after : (line : List ℕ) (more : List (List ℕ)) → is_end line ≡ false → lines_after_end (line ∷ more) ≡ lines_after_end more
goes_after line more tested = ap (λ b. cond b more (lines_after_end more)) tested

-- a line that was held whole
held_whole : (rest line : List ℕ) (room : ℕ) → line ≡ take (room + 1) (take_through 10 rest) → length line ≤ room → line ≡ take_through 10 rest
held_whole rest line room is short = grind (arith, take_all, length-take)

there : (rest line : List ℕ) → line ≡ take_through 10 rest → 0 < length line → 0 < length rest
there [] line is some = absurd (omega (arith, ap length is))
there (x ∷ rest) line is some = omega arith

one_more_line : (octets text rest line : List ℕ) → Collected octets text rest → line ≡ take_through 10 rest → 0 < length line → is_end (line_of line) ≡ false
    → Collected octets (text ++ line) (drop_through 10 rest)
one_more_line octets text rest line before is some tested =
    let some_rest = there rest line is some in
    let name = line_of line in
    let single : lines line ≡ name ∷ [] = ap lines is ∙ alone rest some_rest ∙ ap (λ l. line_of l ∷ []) (sym is) in
    let more_lines : lines (text ++ line) ≡ lines text ++ (name ∷ []) = before.closed some_rest line ∙ ap (λ l. lines text ++ l) single in
    let later = drop_through 10 rest in record {
      whole = before.whole ∙ ap (λ l. text ++ l) (sym (both rest) ∙ ap (λ l. l ++ later) (sym is)) ∙ sym (append_assoc text line later);
      cut = before.cut ∙ ap (λ l. lines text ++ l) (first_line_is rest some_rest ∙ ap (λ l. line_of l ∷ lines later) (sym is))
          ∙ sym (append_assoc (lines text) (name ∷ []) (lines later)) ∙ ap (λ l. l ++ lines later) (sym more_lines);
      through = λ more. ap (λ l. lines_through_end (l ++ more)) more_lines ∙ ap lines_through_end (append_assoc (lines text) (name ∷ []) more)
          ∙ before.through (name ∷ more) ∙ ap (λ l. lines text ++ l) (goes_through name more tested) ∙ sym (append_assoc (lines text) (name ∷ []) (lines_through_end more))
          ∙ ap (λ l. l ++ lines_through_end more) (sym more_lines);
      after = λ more. ap (λ l. lines_after_end (l ++ more)) more_lines ∙ ap lines_after_end (append_assoc (lines text) (name ∷ []) more)
          ∙ before.after (name ∷ more) ∙ goes_after name more tested;
      closed = λ left more. ap lines (append_assoc text line more) ∙ before.closed some_rest (line ++ more)
          ∙ ap (λ l. lines text ++ l) (ap (λ l. lines (l ++ more)) is ∙ followed rest more left ∙ ap (λ l. line_of l ∷ lines more) (sym is))
          ∙ sym (append_assoc (lines text) (name ∷ []) (lines more)) ∙ ap (λ l. l ++ lines more) (sym more_lines);
    }

pub collected_more : (first now after : Option (List ℕ)) (text line longer : List ℕ) (room : ℕ) → Collects first text now → Takes (room + 1) now line after
    → length line ≤ room → 0 < length line → is_end (line_of line) ≡ false → longer ≡ text ++ line → Collects first longer after
collected_more first now after text line longer room before taken short some tested is = grind (arith, one_more_line, held_whole)

ends_there : (octets text rest line : List ℕ) → Collected octets text rest → line ≡ take_through 10 rest → 0 < length line → is_end (line_of line) ≡ true
    → TakesDescription (Some octets) (text ++ line) (Some (drop_through 10 rest))
ends_there octets text rest line before is some tested =
    let some_rest = there rest line is some in
    let name = line_of line in
    let later = drop_through 10 rest in
    let single : lines line ≡ name ∷ [] = ap lines is ∙ alone rest some_rest ∙ ap (λ l. line_of l ∷ []) (sym is) in
    let cut : lines octets ≡ lines text ++ (name ∷ lines later) = before.cut ∙ ap (λ l. lines text ++ l) (first_line_is rest some_rest ∙ ap (λ l. line_of l ∷ lines later) (sym is)) in (
      before.whole ∙ ap (λ l. text ++ l) (sym (both rest) ∙ ap (λ l. l ++ later) (sym is)) ∙ sym (append_assoc text line later),
      before.closed some_rest line ∙ ap (λ l. lines text ++ l) (single ∙ sym (ap (λ b. cond b (name ∷ []) (name ∷ lines_through_end (lines later))) tested))
          ∙ sym (before.through (name ∷ lines later)) ∙ ap lines_through_end (sym cut),
      sym (ap (λ b. cond b (lines later) (lines_after_end (lines later))) tested) ∙ sym (before.after (name ∷ lines later)) ∙ ap lines_after_end (sym cut),
    )

pub described : (first now after : Option (List ℕ)) (text line longer : List ℕ) (room : ℕ) → Collects first text now → Takes (room + 1) now line after
    → length line ≤ room → 0 < length line → is_end (line_of line) ≡ true → longer ≡ text ++ line → TakesDescription first longer after
described first now after text line longer room before taken short some tested is = grind (arith, ends_there, held_whole)

all_there : (octets text : List ℕ) → Collected octets text [] → TakesDescription (Some octets) text (Some [])
all_there octets text before = grind (arith, append-nil)

pub without_end : (first now after : Option (List ℕ)) (text line longer : List ℕ) (room : ℕ) → Collects first text now → Takes (room + 1) now line after
    → length line ≤ room → length line ≡ 0 → longer ≡ text ++ line → TakesDescription first longer after
without_end first now after text line longer room before taken short p is = grind (arith, take_through-nil, held_whole, append-nil, all_there)

-- where a line does not fit, there are more octets than the limit
pub too_many : (first now : Option (List ℕ)) (text : List ℕ) (limit room : ℕ) → Collects first text now → length text + room ≡ limit
    → IfSome now (λ octets. room < length octets) → IfSome first (λ octets. limit < length octets)
too_many None now text limit room before same long = tt
too_many (Some octets) None text limit room before same long = absurd before
too_many (Some octets) (Some rest) text limit room before same long = omega (arith, ap length before.whole, length-append text rest, long)

-- what was taken, and the part of a line after it
pub lost_so_far : (first now after : Option (List ℕ)) (text : List ℕ) (limit room : ℕ) → Collects first text now → length text + room ≡ limit
    → TakesAtMost room now after → TakesAtMost limit first after
lost_so_far None now after text limit room before same more = tt
lost_so_far (Some octets) None after text limit room before same more = absurd before
lost_so_far (Some octets) (Some rest) None text limit room before same more = absurd more
lost_so_far (Some octets) (Some rest) (Some later) text limit room before same more =
    (text ++ more.0, before.whole ∙ ap (λ l. text ++ l) more.1 ∙ sym (append_assoc text more.0 later), omega (arith, length-append text more.0, more.2))

-- a line that was taken, and not kept
pub lost_line : (now after : Option (List ℕ)) (line : List ℕ) (room : ℕ) → Takes (room + 1) now line after → length line ≤ room → TakesAtMost room now after
lost_line None after line room taken short = tt
lost_line (Some rest) None line room taken short = absurd taken
lost_line (Some rest) (Some later) line room taken short =
    let whole = held_whole rest line room taken.0 short in
    (line, sym (both rest) ∙ ap (λ l. take_through 10 rest ++ l) (sym taken.1) ∙ ap (λ l. l ++ later) (sym whole), short)

pub ruleset descriptions = (none_collected, collected_more, described, without_end)
