-- The turns of a conversation.
use Rattle.std.proofs.Common.{◌≡◌, ℕ, ◌+◌, ◌<◌, ◌≤◌, List, [], ◌∷◌, ◌++◌, length, take, drop, Option, Some, None, IfSome, refl, sym, ap, subst, ◌∙◌, arith, append_assoc, append-nil, length-take}
use Rattle.std.specs.Bool.{⊤}
use Rattle.std.specs.Io.KnownBytes.{Appends}
use Rattle.std.specs.Io.BufRead.{take_through}
use Rattle.std.specs.Str.Lines.{lines}
use Rattle.std.proofs.KnownBytes.{Appends-nil, Appends-trans}
use Rattle.std.proofs.BufReadLemmas.{take_through-nil}
use Rattle.std.proofs.Math.Seq.{take-append_seam, drop-append_seam}
use Rattle.dms_text_streams.specs.Prefixes.{AppendsPrefix}
use Rattle.dms_text_streams.specs.Lines.{Breaks, Takes, line_of, held}
use Rattle.dms_text_streams.specs.Conversation.{AnswersWholeLines, AnswersInPart, answered, left_by, answers, left_by_all}
use Rattle.dms_text_streams.proofs.LineCuts.{first_line_is, shorter, cut_is_answered, cut_leaves}

pub left-append : {S : Type 0} (after : S → List ℕ → S) (state : S) (done more : List (List ℕ)) → left_by_all after state (done ++ more) ≡ left_by_all after (left_by_all after state done) more
left-append after state [] more = refl
left-append after state (line ∷ done) more = left-append after (left_by after state line) done more

module _ {S : Type 0} (reply : S → List ℕ → List ℕ) (after : S → List ℕ → S) where
  pub answers-append : (state : S) (done more : List (List ℕ)) → answers reply after state (done ++ more) ≡ answers reply after state done ++ answers reply after (left_by_all after state done) more
  answers-append state [] more = refl
  answers-append state (line ∷ done) more =
      ap (λ l. answered reply state line ++ l) (answers-append (left_by after state line) done more)
      ∙ sym (append_assoc (answered reply state line) (answers reply after (left_by after state line) done) (answers reply after (left_by_all after (left_by after state line) done) more))

  -- the lines before `now` are answered, in so many turns or fewer octets
  abbrev pub Said : ℕ → S → Option (List ℕ) → Option (List ℕ) → S → Option (List ℕ) → Option (List ℕ) → Type 0
  Said count start None old state now new = ⊤
  Said count start (Some octets) old state None new = ⊥
  Said count start (Some octets) old state (Some rest) new = (done : List (List ℕ)) × (lines octets ≡ done ++ lines rest) × (state ≡ left_by_all after start done)
      × Appends old new (answers reply after start done) × (count + length rest ≤ length octets)

  pub nothing_said : (start : S) (first old : Option (List ℕ)) → Said 0 start first old start first old
  nothing_said start None old = tt
  nothing_said start (Some octets) old = ([], refl, refl, Appends-nil old, omega arith)

  abbrev first_line : List ℕ → List ℕ
  first_line rest = line_of (take_through 10 rest)

  some_left : (rest line : List ℕ) → line ≡ take 65539 (take_through 10 rest) → 0 < length line → 0 < length rest
  some_left [] line is some = absurd (omega (arith, ap length is))
  some_left (x ∷ rest) line is some = omega arith

  none_left : (rest line : List ℕ) → line ≡ take 65539 (take_through 10 rest) → length line ≡ 0 → rest ≡ []
  none_left rest line is none = take_through-nil 10 rest (omega (arith, ap length is, length-take 65539 (take_through 10 rest)))

  -- a line that is held is answered as the whole line, and leaves what it leaves
  the_answer : (state end : S) (rest line : List ℕ) → state ≡ end → line ≡ take 65539 (take_through 10 rest)
      → answered reply state (line_of line) ≡ answered reply end (first_line rest)
  the_answer state end rest line same is =
      ap (λ l. answered reply state (line_of l)) is ∙ cut_is_answered reply state (take_through 10 rest) _ refl ∙ ap (λ s. answered reply s (first_line rest)) same

  the_state : (state end : S) (rest line : List ℕ) → state ≡ end → line ≡ take 65539 (take_through 10 rest)
      → left_by after state (line_of line) ≡ left_by after end (first_line rest)
  the_state state end rest line same is =
      ap (λ l. left_by after state (line_of l)) is ∙ cut_leaves after state (take_through 10 rest) _ refl ∙ ap (λ s. left_by after s (first_line rest)) same

  all_lines : (octets rest line : List ℕ) (done : List (List ℕ)) → lines octets ≡ done ++ lines rest → line ≡ take 65539 (take_through 10 rest) → length line ≡ 0
      → lines octets ≡ done
  all_lines octets rest line done whole is none = whole ∙ ap (λ l. done ++ lines l) (none_left rest line is none) ∙ append-nil done

  -- the lines that are said are the first ones
  first_said : (octets rest : List ℕ) (done : List (List ℕ)) → lines octets ≡ done ++ lines rest → done ≡ take (length done) (lines octets)
  first_said octets rest done whole = sym (ap (take (length done)) whole ∙ take-append_seam done (lines rest))

  -- one line more is answered
  pub said_more : (count : ℕ) (start : S) (first old : Option (List ℕ)) (state next : S) (now left new written : Option (List ℕ)) (line : List ℕ)
      → Said count start first old state now new → Takes held now line left → 0 < length line
      → next ≡ left_by after state (line_of line) → Appends new written (answered reply state (line_of line))
      → Said (count + 1) start first old next left written
  said_more count start None old state next now left new written line said taken some goes wrote = tt
  said_more count start (Some octets) old state next None left new written line said taken some goes wrote = absurd said
  said_more count start (Some octets) old state next (Some rest) None new written line said taken some goes wrote = absurd taken
  said_more count start (Some octets) old state next (Some rest) (Some later) new written line said taken some goes wrote =
      let there = some_left rest line taken.0 some in
      let text = answered reply state (line_of line) in
      let end = left_by_all after start said.0 in
      let done = said.0 ++ first_line rest ∷ [] in (
        done,
        said.1 ∙ ap (λ l. said.0 ++ l) (first_line_is rest there ∙ ap (λ l. first_line rest ∷ lines l) (sym taken.1)) ∙ sym (append_assoc said.0 (first_line rest ∷ []) (lines later)),
        goes ∙ the_state state end rest line said.2 taken.0 ∙ sym (left-append after start said.0 (first_line rest ∷ [])),
        subst (Appends old written)
            (ap (λ t. answers reply after start said.0 ++ t) (the_answer state end rest line said.2 taken.0 ∙ sym (append-nil (answered reply end (first_line rest))))
            ∙ sym (answers-append start said.0 (first_line rest ∷ [])))
            (Appends-trans old new written (answers reply after start said.0) text said.3 wrote),
        omega (arith, said.4, ap length taken.1, shorter rest there),
      )

  -- the input is at its end
  pub all_said : (count : ℕ) (start : S) (first old : Option (List ℕ)) (state : S) (now left new : Option (List ℕ)) (line : List ℕ)
      → Said count start first old state now new → Takes held now line left → length line ≡ 0
      → IfSome first (λ octets. Appends old new (answers reply after start (lines octets)))
  all_said count start None old state now left new line said taken none = tt
  all_said count start (Some octets) old state None left new line said taken none = absurd said
  all_said count start (Some octets) old state (Some rest) None new line said taken none = absurd taken
  all_said count start (Some octets) old state (Some rest) (Some later) new line said taken none =
      subst (λ l. Appends old new (answers reply after start l)) (sym (all_lines octets rest line said.0 said.1 taken.0 none)) said.3

  pub all_left : (count : ℕ) (start : S) (first old : Option (List ℕ)) (state : S) (now left new : Option (List ℕ)) (line : List ℕ)
      → Said count start first old state now new → Takes held now line left → length line ≡ 0
      → IfSome first (λ octets. state ≡ left_by_all after start (lines octets))
  all_left count start None old state now left new line said taken none = tt
  all_left count start (Some octets) old state None left new line said taken none = absurd said
  all_left count start (Some octets) old state (Some rest) None new line said taken none = absurd taken
  all_left count start (Some octets) old state (Some rest) (Some later) new line said taken none =
      said.2 ∙ ap (left_by_all after start) (sym (all_lines octets rest line said.0 said.1 taken.0 none))

  -- some lines are answered, each of them whole
  pub said_whole : (count : ℕ) (start : S) (first old : Option (List ℕ)) (state : S) (now new : Option (List ℕ)) → Said count start first old state now new
      → IfSome first (λ octets. (done : ℕ) × Appends old new (answers reply after start (take done (lines octets)))
      × (state ≡ left_by_all after start (take done (lines octets))))
  said_whole count start None old state now new said = tt
  said_whole count start (Some octets) old state None new said = absurd said
  said_whole count start (Some octets) old state (Some rest) new said =
      let first_lines = first_said octets rest said.0 said.1 in
      (length said.0, subst (λ l. Appends old new (answers reply after start l)) first_lines said.3, said.2 ∙ ap (left_by_all after start) first_lines)

  -- the same, where the next line changed nothing and nothing of its answer is written
  pub kept_whole : (count : ℕ) (start : S) (first old : Option (List ℕ)) (state next : S) (now new written : Option (List ℕ))
      → Said count start first old state now new → next ≡ state → written ≡ new
      → IfSome first (λ octets. (done : ℕ) × Appends old written (answers reply after start (take done (lines octets)))
      × (next ≡ left_by_all after start (take done (lines octets))))
  kept_whole count start first old state next now new written said same nothing = rw (same, nothing) (said_whole count start first old state now new said)

  -- where a line breaks off, all before it are answered
  pub said_so_far : (count : ℕ) (start : S) (first old : Option (List ℕ)) (state : S) (now left new : Option (List ℕ)) → Said count start first old state now new → Breaks now left
      → IfSome first (λ octets. IfSome left (λ rest. AnswersWholeLines reply after start state octets rest old new))
  said_so_far count start None old state now left new said broken = tt
  said_so_far count start (Some octets) old state None left new said broken = absurd said
  said_so_far count start (Some octets) old state (Some rest) None new said broken = tt
  said_so_far count start (Some octets) old state (Some rest) (Some later) new said broken = (
    length said.0,
    broken.0,
    subst (λ l. Appends old new (answers reply after start l)) (first_said octets rest said.0 said.1) said.3,
    said.2 ∙ ap (left_by_all after start) (first_said octets rest said.0 said.1),
    ap (drop (length said.0)) said.1 ∙ drop-append_seam said.0 (lines rest) ∙ ap lines broken.1,
    broken.2,
  )

  -- and of the next answer the first octets
  pub said_in_part : (count : ℕ) (start : S) (first old : Option (List ℕ)) (state next : S) (now left new written : Option (List ℕ)) (line : List ℕ)
      → Said count start first old state now new → Takes held now line left → 0 < length line
      → next ≡ left_by after state (line_of line) → AppendsPrefix new written (answered reply state (line_of line))
      → IfSome first (λ octets. AnswersInPart reply after start next octets left old written)
  said_in_part count start None old state next now left new written line said taken some goes wrote = tt
  said_in_part count start (Some octets) old state next None left new written line said taken some goes wrote = absurd said
  said_in_part count start (Some octets) old state next (Some rest) None new written line said taken some goes wrote = absurd taken
  said_in_part count start (Some octets) old state next (Some rest) (Some later) new written line said taken some goes wrote =
      let there = some_left rest line taken.0 some in
      let end = left_by_all after start said.0 in record {
        done = said.0;
        line = first_line rest;
        more = lines later;
        part = wrote.0;
        rest = wrote.1;
        lines_are = said.1 ∙ ap (λ l. said.0 ++ l) (first_line_is rest there ∙ ap (λ l. first_line rest ∷ lines l) (sym taken.1));
        answer_is = sym (the_answer state end rest line said.2 taken.0) ∙ wrote.2;
        written = Appends-trans old new written (answers reply after start said.0) wrote.0 said.3 wrote.3;
        left = goes ∙ the_state state end rest line said.2 taken.0 ∙ sym (left-append after start said.0 (first_line rest ∷ []));
        next = refl;
      }

  pub said_as_many : (count : ℕ) (start : S) (first old : Option (List ℕ)) (state : S) (now new : Option (List ℕ)) → Said count start first old state now new
      → IfSome first (λ octets. count ≤ length octets)
  said_as_many count start None old state now new said = tt
  said_as_many count start (Some octets) old state None new said = absurd said
  said_as_many count start (Some octets) old state (Some rest) new said = omega (arith, said.4)

pub ruleset turns = (nothing_said, said_more, all_said, all_left, said_whole, said_so_far, said_in_part, said_as_many)
