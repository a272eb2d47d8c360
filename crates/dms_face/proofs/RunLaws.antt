-- Characters that octets spell by themselves, one after another: the sums match the layout after them.
use Rattle.std.proofs.Common.{◌≡◌, ℕ, ◌+◌, ◌≤◌, ◌<◌, Bool, true, false, cond, List, [], ◌∷◌, ◌++◌, map, nat_lt, Option, Some, None, unwrap_or, Result, Ok, refl, ap, sym, subst, ◌∙◌, arith}
use Rattle.std.proofs.lemmas.Bool.Decides.{nat_tests}
use Rattle.std.proofs.lemmas.List.{map-append, append-nil}
use Rattle.std.proofs.lemmas.List.Elements.{filter-append}
use Rattle.dms_multi.specs.declared.item.Item.TheVariants.{Char}
use Rattle.dms_multi.specs.Grammar.{is_bracket}
use Rattle.dms_multi.specs.Outcomes.{spot, outcomes_from}
use Rattle.dms_multi.specs.TagReading.{item_at}
use Rattle.dms_multi.proofs.Walk.{outcomes_ok}
use Rattle.dms_face.specs.declared.justification.Place.{Place}
use Rattle.dms_face.specs.declared.justification.Place.TheVariants.{Start, Halfway, End}
use Rattle.dms_face.specs.declared.multi_fault.MultiFault.{MultiFault}
use Rattle.dms_face.specs.declared.room.Block.{Block}
use Rattle.dms_face.specs.declared.room.Run.{Run}
use Rattle.dms_face.specs.declared.room.Places.{Places}
use Rattle.dms_face.specs.declared.totals.Totals.{Totals}
use Rattle.dms_face_font.specs.Glyph.{GlyphModel}
use Rattle.dms_face_font.specs.Font.{FontModel, glyph_of}
use Rattle.dms_face.specs.Face.{FaceModel}
use Rattle.dms_face.specs.Justification.{place_of_side, same_place}
use Rattle.dms_face.specs.Layout.{Character, Layout, is_blank, standing, with_character}
use Rattle.dms_face.specs.OnePass.{walked, character_fault, room_fault, or_else}
use Rattle.dms_face.specs.Room.{average, is_at, at_place, blocks_fit, character_block, characters_fit, lines_fit}
use Rattle.dms_face.specs.Totals.{Sums, MatchesBlocks}
use Rattle.dms_face.specs.Runs.{run_at, sized, HaveRoom, run_with, run_after, with_size, IsRunning}
use Rattle.dms_face.specs.Walked.{IsWalkedTo}
use Rattle.dms_face.proofs.Bools.{join}
use Rattle.dms_face.proofs.Extents.{sums_more}
use Rattle.dms_face.proofs.GrowthLaws.{most, most_push, standing_kept}
use Rattle.dms_face.proofs.PartLaws.{blank_mapped}

-- ---- the text

plain_item : (c : ℕ) (cs : List ℕ) → is_bracket c ≡ false → item_at (c ∷ cs) ≡ Ok (Char c, cs)
unfolding item_at
plain_item c cs plain = grind arith

plain_outcome : (end c : ℕ) (cs : List ℕ) → is_bracket c ≡ false → outcomes_from end (c ∷ cs) ≡ Ok (spot end (c ∷ cs) (Char c, cs)) ∷ outcomes_from end cs
plain_outcome end c cs plain = outcomes_ok end (c ∷ cs) (Char c, cs) (omega arith) (plain_item c cs plain)

-- ---- the sums at the place of the next character

pub sized_same : (place : Place) (places : Places) → sized place (run_at place places).size places ≡ places
sized_same Start places = refl
sized_same Halfway places = refl
sized_same End places = refl

-- one block more, as widely spaced as those before it
same_average : (a b : ℕ) → a ≡ b → average a b ≡ b
same_average a b same = omega arith

more_sums : (size total : ℕ) (run : Run) (blocks : List Block) (block : Block) → Sums (record run { size = size }) blocks → run.any ≡ true → run.spacing ≡ block.spacing → block.gap ≡ None
    → total ≡ size + block.spacing + block.size → Sums (record run { size = total }) (blocks ++ block ∷ [])
more_sums size total run blocks block sums some same none is =
    let gap : unwrap_or block.gap (average run.spacing block.spacing) ≡ block.spacing =
    ap (λ gap. unwrap_or gap (average run.spacing block.spacing)) none ∙ same_average run.spacing block.spacing same in
    let whole : total ≡ size + unwrap_or block.gap (average run.spacing block.spacing) + block.size = is ∙ ap (λ n. size + n + block.size) (sym gap) in
    let made : ℕ → Run = λ spacing. record { any = run.any; size = total; spacing = spacing } in
    subst (λ spacing. Sums (made spacing) (blocks ++ block ∷ [])) (sym same) (sums_more total (record run { size = size }) blocks block sums some whole)

at_own : (place : Place) (blocks : List Block) (block : Block) → block.place ≡ place → same_place place place ≡ true → at_place place (blocks ++ block ∷ []) ≡ at_place place blocks ++ block ∷ []
at_own place blocks block there own =
    filter-append (is_at place) blocks (block ∷ []) ∙ ap (λ p. at_place place blocks ++ cond (same_place p place) (block ∷ []) []) there ∙ ap (λ b. at_place place blocks ++ cond b (block ∷ []) []) own

at_other : (place other : Place) (blocks : List Block) (block : Block) → block.place ≡ place → same_place place other ≡ false → at_place other (blocks ++ block ∷ []) ≡ at_place other blocks
at_other place other blocks block there apart =
    filter-append (is_at other) blocks (block ∷ []) ∙ ap (λ p. at_place other blocks ++ cond (same_place p other) (block ∷ []) []) there ∙ ap (λ b. at_place other blocks ++ cond b (block ∷ []) []) apart
    ∙ append-nil (at_place other blocks)

more_blocks : (place : Place) (places : Places) (blocks : List Block) (block : Block) (size total : ℕ) → MatchesBlocks (sized place size places) blocks
    → (run_at place places).any ≡ true → (run_at place places).spacing ≡ block.spacing → block.gap ≡ None → block.place ≡ place
    → total ≡ size + block.spacing + block.size → MatchesBlocks (sized place total places) (blocks ++ block ∷ [])
more_blocks Start places blocks block size total matches some same none there is = record {
  start = subst (Sums (record places.start { size = total })) (sym (at_own Start blocks block there refl)) (more_sums size total places.start (at_place Start blocks) block matches.start some same none is);
  halfway = subst (Sums places.halfway) (sym (at_other Start Halfway blocks block there refl)) matches.halfway;
  end = subst (Sums places.end) (sym (at_other Start End blocks block there refl)) matches.end;
}
more_blocks Halfway places blocks block size total matches some same none there is = record {
  start = subst (Sums places.start) (sym (at_other Halfway Start blocks block there refl)) matches.start;
  halfway = subst (Sums (record places.halfway { size = total })) (sym (at_own Halfway blocks block there refl)) (more_sums size total places.halfway (at_place Halfway blocks) block matches.halfway some same none is);
  end = subst (Sums places.end) (sym (at_other Halfway End blocks block there refl)) matches.end;
}
more_blocks End places blocks block size total matches some same none there is = record {
  start = subst (Sums places.start) (sym (at_other End Start blocks block there refl)) matches.start;
  halfway = subst (Sums places.halfway) (sym (at_other End Halfway blocks block there refl)) matches.halfway;
  end = subst (Sums (record places.end { size = total })) (sym (at_own End blocks block there refl)) (more_sums size total places.end (at_place End blocks) block matches.end some same none is);
}

some_blocks : (place : Place) (places : Places) (blocks : List Block) (size : ℕ) → MatchesBlocks (sized place size places) blocks → (run_at place places).any ≡ true → is_blank blocks ≡ false
some_blocks place places [] size matches some = absurd (none_there place matches some)
  where
    none_there : (place : Place) → MatchesBlocks (sized place size places) [] → (run_at place places).any ≡ true → ⊥
    none_there Start matches some = absurd (let wrong : true ≡ false = sym some ∙ matches.start.any in cc)
    none_there Halfway matches some = absurd (let wrong : true ≡ false = sym some ∙ matches.halfway.any in cc)
    none_there End matches some = absurd (let wrong : true ≡ false = sym some ∙ matches.end.any in cc)
some_blocks place places (block ∷ blocks) size matches some = refl

-- blocks whose sums have room
room_of_sums : (whole : ℕ) (places : Places) (blocks : List Block) → MatchesBlocks places blocks → HaveRoom whole places → blocks_fit whole blocks ≡ true
room_of_sums whole places blocks matches room = grind (arith, matches.start.size, matches.halfway.size, matches.end.size)

-- ---- one character

one_more : (face : FaceModel) (end limit : ℕ) (totals : Totals) (c : ℕ) (cs : List ℕ) (size : ℕ) (answer : Result ℕ MultiFault) (glyph : GlyphModel)
    → IsRunning face.width totals limit → is_bracket c ≡ false → glyph_of totals.font.now c ≡ Some glyph → size + totals.font.now.character_spacing + glyph.width < limit
    → IsWalkedTo face end (with_size size totals) (outcomes_from end (c ∷ cs)) answer
    → IsWalkedTo face end (with_size (size + totals.font.now.character_spacing + glyph.width) totals) (outcomes_from end cs) answer
one_more face end limit totals c cs size answer glyph running plain has below state =
    let place = place_of_side totals.side in
    let longer : ℕ = size + totals.font.now.character_spacing + glyph.width in
    let layout = state.layout in
    let matches = state.holds.matches in
    let it : Character = record { glyph = glyph; style = layout.style } in
    let after : Layout = with_character layout (Some glyph) in
    let font : totals.font.now ≡ layout.style.font = matches.font in
    let spacing : totals.font.now.character_spacing ≡ layout.style.font.character_spacing = ap (λ (f : FontModel). f.character_spacing) font in
    let total : longer ≡ size + layout.style.font.character_spacing + glyph.width = ap (λ n. size + n + glyph.width) spacing in
    let some : is_blank layout.characters ≡ false = sym (blank_mapped layout.characters) ∙ some_blocks place totals.characters (map character_block layout.characters) size matches.characters running.any in
    let tall : totals.font.now.height ≡ layout.style.font.height = ap (λ (f : FontModel). f.height) font in
    let low : layout.style.font.height ≤ most (λ (f : FontModel). f.height) layout.characters = omega (arith, tall, running.low, matches.height) in
    let wide : totals.font.now.line_spacing ≡ layout.style.font.line_spacing = ap (λ (f : FontModel). f.line_spacing) font in
    let close : layout.style.font.line_spacing ≤ most (λ (f : FontModel). f.line_spacing) layout.characters = omega (arith, wide, running.close, matches.spacing) in
    let blocks : MatchesBlocks (sized place longer totals.characters) (map character_block (layout.characters ++ it ∷ [])) =
    subst (MatchesBlocks (sized place longer totals.characters)) (sym (map-append character_block layout.characters (it ∷ [])))
    (more_blocks place totals.characters (map character_block layout.characters) (character_block it) size longer matches.characters running.any (running.spacing ∙ spacing) refl (ap place_of_side (sym matches.side)) total) in
    let room : lines_fit face (standing after) ≡ true = ap (blocks_fit face.height) (standing_kept layout glyph some low close) ∙ state.holds.room in
    let fits : characters_fit face after.characters ≡ true = room_of_sums face.width (sized place longer totals.characters) (map character_block after.characters) blocks (running.room.room longer below) in
    let more = outcomes_from end cs in
    let first : ℕ = (spot end (c ∷ cs) (Char c, cs)).first in
    record {
      layout = after;
      holds = record {
        matches = record {
          pages = matches.pages;
          lines = matches.lines;
          characters = blocks;
          height = matches.height ∙ sym (most_push (λ (f : FontModel). f.height) layout.characters it low);
          spacing = matches.spacing ∙ sym (most_push (λ (f : FontModel). f.line_spacing) layout.characters it close);
          gap = matches.gap;
          side = matches.side;
          part = matches.part;
          font = matches.font;
        };
        room = room;
      };
      small = record { pages = state.small.pages; lines = state.small.lines; characters = running.room.within longer below };
      same = state.same ∙ ap (walked face end layout) (plain_outcome end c cs plain)
          ∙ ap (λ o. or_else first (character_fault face layout o) (walked face end (with_character layout o) more)) (ap (λ f. glyph_of f c) (sym font) ∙ has)
          ∙ ap (λ b. or_else first (room_fault b) (walked face end after more)) (join _ _ fits room);
    }

-- ---- all of them

by_bracket : (P : List ℕ × ℕ → Type 0) (c : ℕ) (x y : List ℕ × ℕ) (b : Bool) → is_bracket c ≡ b → P x → (is_bracket c ≡ false → P y) → P (cond b x y)
by_bracket P c x y true is here there = here
by_bracket P c x y false is here there = there is

by_room : (P : List ℕ × ℕ → Type 0) (n limit : ℕ) (x y : List ℕ × ℕ) (b : Bool) → nat_lt n limit ≡ b → (n < limit → P x) → P y → P (cond b x y)
by_room P n limit x y true is there here = there (grind (arith, nat_tests))
by_room P n limit x y false is there here = here

by_glyph : (P : List ℕ × ℕ → Type 0) (font : FontModel) (limit : ℕ) (text : List ℕ) (size : ℕ) (more : ℕ → List ℕ × ℕ) (found : Option GlyphModel) → P (text, size)
    → ((glyph : GlyphModel) → found ≡ Some glyph → size + font.character_spacing + glyph.width < limit → P (more (size + font.character_spacing + glyph.width)))
    → P (run_with font limit text size more found)
by_glyph P font limit text size more None here there = here
by_glyph P font limit text size more (Some glyph) here there =
    let longer = size + font.character_spacing + glyph.width in
    by_room P longer limit (more longer) (text, size) (nat_lt longer limit) refl (there glyph refl) here

pub run_law : (face : FaceModel) (end limit : ℕ) (totals : Totals) (text : List ℕ) (size : ℕ) (answer : Result ℕ MultiFault) → IsRunning face.width totals limit
    → IsWalkedTo face end (with_size size totals) (outcomes_from end text) answer
    → IsWalkedTo face end (with_size (run_after totals.font.now limit text size).1 totals) (outcomes_from end (run_after totals.font.now limit text size).0) answer
unfolding run_after
run_law face end limit totals [] size answer running state = state
run_law face end limit totals (c ∷ cs) size answer running state =
    let P : List ℕ × ℕ → Type 0 = λ run. IsWalkedTo face end (with_size run.1 totals) (outcomes_from end run.0) answer in
    by_bracket P c (c ∷ cs, size) (run_with totals.font.now limit (c ∷ cs) size (run_after totals.font.now limit cs) (glyph_of totals.font.now c)) (is_bracket c) refl state
    (λ plain. by_glyph P totals.font.now limit (c ∷ cs) size (run_after totals.font.now limit cs) (glyph_of totals.font.now c) state
    (λ glyph has below. run_law face end limit totals cs (size + totals.font.now.character_spacing + glyph.width) answer running
    (one_more face end limit totals c cs size answer glyph running plain has below state)))

-- what is left of the text, where the sums are those after the run
pub taken_run : (face : FaceModel) (end limit : ℕ) (old : Totals) (place : Place) (before size : ℕ) (characters : Places) (text rest : List ℕ) (answer : Result ℕ MultiFault)
    → IsRunning face.width old limit → place ≡ place_of_side old.side → before ≡ (run_at place old.characters).size
    → rest ≡ (run_after old.font.now limit text before).0 → size ≡ (run_after old.font.now limit text before).1 → characters ≡ sized place size old.characters
    → IsWalkedTo face end old (outcomes_from end text) answer
    → IsWalkedTo face end (record old { characters = characters }) (outcomes_from end rest) answer
taken_run face end limit old place before size characters text rest answer running there first left most is state =
    let at : Places → List ℕ → Type 0 = λ places more. IsWalkedTo face end (record old { characters = places }) (outcomes_from end more) answer in
    let run = run_after old.font.now limit text before in
    let start : sized (place_of_side old.side) before old.characters ≡ old.characters =
    ap (λ n. sized (place_of_side old.side) n old.characters) (first ∙ ap (λ p. (run_at p old.characters).size) there) ∙ sized_same (place_of_side old.side) old.characters in
    let law : at (sized (place_of_side old.side) run.1 old.characters) run.0 =
    run_law face end limit old text before answer running (subst (λ places. at places text) (sym start) state) in
    let same : characters ≡ sized (place_of_side old.side) run.1 old.characters = is ∙ ap (λ p. sized p size old.characters) there ∙ ap (λ n. sized (place_of_side old.side) n old.characters) most in
    subst (λ places. at places rest) (sym same) (subst (λ more. at (sized (place_of_side old.side) run.1 old.characters) more) (sym left) law)
