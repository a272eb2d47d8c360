-- The times of the pages of what a sign shows, and when it changes by itself, as they are given to C (this profile).
use Rattle.std.specs.Prelude.{ℕ, ◌-◌, if◌then◌else◌, List, [], length, Option, Some, None, option_map, slice_get}
use Rattle.dms_face.specs.Layout.{under}
use Rattle.dms_sign.specs.State.{SignState}
use Rattle.dms_sign_lines.specs.Answer.{has_pages}
use Rattle.dms_face_times.specs.declared.times.PageTimes.{PageTimes}
use Rattle.dms_face_times.specs.Times.{page_times}
use Rattle.dms_face_times.specs.Due.{sooner, due}
use Rattle.wisangub_c.specs.Answers.{done, nothing_sent, at_fault}
use Rattle.wisangub_c.specs.Shown.{tenths_of}
use Rattle.wisangub_c.specs.declared.time_calls.PageNow.{PageNow}

-- those of what is shown, under the copy of the defaults that belongs to it
abbrev pub shown_times : SignState → List PageTimes
shown_times s = if has_pages s then page_times (under s.config.face s.shown.defaults) s.shown.text else []

-- ---- a page

abbrev pub page_now : ℕ → PageTimes → PageNow
page_now count times = record { count = count; on = times.on; off = times.off; background = times.background }

abbrev pub page_answer : Option PageTimes → ℕ
page_answer None = at_fault
page_answer (Some times) = done

abbrev pub page_after : ℕ → Option PageTimes → PageNow → PageNow
page_after count None old = old
page_after count (Some times) old = page_now count times

-- ---- what is due

-- by a page or a flash, when the picture has been up for so many tenths
abbrev pub picture_due : SignState → ℕ → Option ℕ
picture_due s up = if has_pages s then due (under s.config.face s.shown.defaults) s.shown.text up else None

-- the end of the message, so many tenths after the last second that the sign was told
abbrev pub end_due : ℕ → ℕ → ℕ
end_due told seconds = tenths_of seconds - told

abbrev pub next_due : SignState → ℕ → ℕ → Option ℕ
next_due s up told = sooner (picture_due s up) (option_map (end_due told) s.shown.remaining)

abbrev pub due_answer : Option ℕ → ℕ
due_answer None = nothing_sent
due_answer (Some tenths) = done

abbrev pub due_after : Option ℕ → ℕ → ℕ
due_after None old = old
due_after (Some tenths) old = tenths
