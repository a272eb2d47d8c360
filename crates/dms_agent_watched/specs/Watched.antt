-- A sign that is watched: how often its picture has changed (this profile).
use Rattle.std.specs.Prelude.{ℕ, ◌+◌, ◌^◌, ◌%◌, ◌==◌, ◌&&◌, ◌||◌, Bool, if◌then◌else◌, List, nat_eq}
use Rattle.std.specs.Cmp.Lexicographic.{pointwise}
use Rattle.dms_face.specs.declared.defaults.Defaults.{Defaults}
use Rattle.dms_table.specs.Activation.{ShownModel}
use Rattle.dms_sign.specs.State.{communications_loss_mode, end_duration_mode}
use Rattle.dms_agent.specs.declared.agent.Agent.{Agent}

-- ---- pictures

-- all of what is shown that can be seen: a text under the defaults that belong to it, the beacons and the pixel service
pub record Picture : Type 0 where
  pub text : List ℕ
  pub defaults : Defaults
  pub beacon : ℕ
  pub pixel : ℕ

abbrev pub picture_of : ShownModel → Picture
picture_of shown =
    record { text = shown.text; defaults = shown.defaults; beacon = shown.beacon; pixel = shown.pixel }

abbrev pub same_defaults : Defaults → Defaults → Bool
same_defaults one other =
    (one.background == other.background) && (one.foreground == other.foreground)
    && (one.flash_on == other.flash_on) && (one.flash_off == other.flash_off) && (one.font == other.font)
    && (one.line == other.line) && (one.page == other.page) && (one.on == other.on) && (one.off == other.off)

abbrev pub same_picture : Picture → Picture → Bool
same_picture one other =
    (one.beacon == other.beacon) && (one.pixel == other.pixel) && same_defaults one.defaults other.defaults
    && pointwise nat_eq one.text other.text

-- ---- how often it has changed

-- a sign and the objects beside it, and how many pictures came in place of another one
pub record WatchedSign : Type 0 where
  pub agent : Agent
  pub changes : ℕ

-- as it is made
abbrev pub unchanged : Agent → WatchedSign
unchanged agent = record { agent = agent; changes = 0 }

-- one more where another picture came; after the greatest number comes 0
abbrev pub changes_after : Picture → Picture → ℕ → ℕ
changes_after old new changes = if same_picture old new then changes else (changes + 1) % 2 ^ 64

-- a sign to which something came
abbrev pub watched : WatchedSign → Agent → WatchedSign
watched w agent = record {
  agent = agent;
  changes = changes_after (picture_of w.agent.sign.shown) (picture_of agent.sign.shown) w.changes;
}

-- what the sign put up by itself, without a code that a manager sent
abbrev pub is_put_up_by_itself : ShownModel → Bool
is_put_up_by_itself shown = (shown.mode == end_duration_mode) || (shown.mode == communications_loss_mode)
