-- The pages that a sign shows are those of its text, where its defaults fit its face.
use Rattle.std.proofs.Common.{◌≡◌, ℕ, Bool, true, false, cond, List, [], Option, None, Result, Ok, Err, refl, sym, ap, ◌∙◌}
use Rattle.std.specs.Prelude.{slice_get}
use Rattle.dms_face.specs.declared.multi_fault.MultiFault.{MultiFault}
use Rattle.dms_face.specs.Face.{fit}
use Rattle.dms_face.specs.Layout.{under}
use Rattle.dms_face_pages.specs.Drawn.{DrawnPage, drawn_text}
use Rattle.dms_face_rows.specs.Rows.{page_numbered}
use Rattle.dms_sign.specs.State.{SignState}
use Rattle.dms_sign_lines.specs.Answer.{pages_or_none}
use Rattle.wisangub_c.specs.Rows.{shown_page}

numbered_of : (number : ℕ) (found : Result (List DrawnPage) MultiFault) → slice_get (pages_or_none found) number ≡ page_numbered number found
numbered_of number (Ok pages) = refl
numbered_of number (Err fault) = refl

pub shown_numbered : (s : SignState) (number : ℕ) → fit s.config.face.fonts s.shown.defaults ≡ true
    → page_numbered number (drawn_text (under s.config.face s.shown.defaults) s.shown.text) ≡ shown_page number s
shown_numbered s number fits =
    let found = drawn_text (under s.config.face s.shown.defaults) s.shown.text in
    sym (ap (λ b. slice_get (cond b (pages_or_none found) []) number) fits ∙ numbered_of number found)

pub shown_none : (s : SignState) (number : ℕ) → fit s.config.face.fonts s.shown.defaults ≡ false → shown_page number s ≡ None
shown_none s number unfit =
    ap (λ b. slice_get (cond b (pages_or_none (drawn_text (under s.config.face s.shown.defaults) s.shown.text)) []) number) unfit

pub ruleset showing = (shown_numbered, shown_none)
