-- What the code keeps of a text's items, as the definitions have it (this profile).
use Rattle.std.specs.Prelude.{◌≡◌, ℕ}
use Rattle.dms_face_font.specs.Font.{FontModel}
use Rattle.dms_face.specs.Layout.{Style, Line}
use Rattle.dms_face.specs.Room.{line_height, greatest}
use Rattle.dms_face_pages.specs.declared.styling.Styling.{Styling}

abbrev pub style_of : Styling → Style
style_of s = record {
  font = s.font.now;
  foreground = s.foreground;
  flash = s.flash;
  side = s.side;
  part = s.part;
  background = s.background;
  on = s.on;
  off = s.off;
}

-- what is kept of a line beside its parts: its height, and the greatest spacing of its fonts
pub record IsMeasured (height spacing : ℕ) (line : Line) : Type 0 where
  pub height_is : height ≡ line_height line
  pub spacing_is : spacing ≡ greatest (λ (font : FontModel). font.line_spacing) line
