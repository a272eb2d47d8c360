-- What a replay writes, and what holds of its run (this profile).
use Rattle.std.specs.Prelude.{◌≡◌, ℕ, List, Option, length}
use Rattle.std.specs.Io.KnownBytes.{Appends}
use Rattle.dms_text_streams.specs.Prefixes.{AppendsPrefix}
use Rattle.dms_text_streams.specs.Room.{HasRoom}
use Rattle.dms_world.specs.Event.{EventModel}
use Rattle.dms_world.specs.World.{IsFresh, world_after}
use Rattle.dms_world.specs.Headline.{AreEvents, Headline}
use Rattle.dms_world.specs.Always.{Always}
use Rattle.dms_sign_text.specs.Description.{Description}
use Rattle.dms_replay.specs.Script.{SpellsScript, beginning_of}
use Rattle.dms_replay.specs.Report.{report_of}

-- the text spells a script, and this is the report of its world
pub record IsReport (octets report : List ℕ) : Type 0 where
  pub sign : Description
  pub events : List EventModel
  pub spelled : SpellsScript octets sign events
  pub report_is : report ≡ report_of (world_after (beginning_of sign) events) (length events)

-- the report was written, and nothing else
pub record Replayed (octets : List ℕ) (old new : Option (List ℕ)) : Type 0 where
  pub report : List ℕ
  pub is_report : IsReport octets report
  pub written : Appends old new report

-- a prefix of the report was written, perhaps none of it
pub record ReplayedPrefix (octets : List ℕ) (old new : Option (List ℕ)) : Type 0 where
  pub report : List ℕ
  pub is_report : IsReport octets report
  pub written : AppendsPrefix old new report

-- The world of a sign that is described begins as its two ends are made, these events are in range, and what holds of
-- every run holds of theirs.
pub record IsLawful (sign : Description) (events : List EventModel) : Type 0 where
  pub fresh : IsFresh (beginning_of sign)
  pub ranges : AreEvents events
  pub headline : Headline (beginning_of sign) events
  pub always : Always (beginning_of sign) events

-- the text spells a script, and its run is lawful
pub record RunsLawfully (octets : List ℕ) : Type 0 where
  pub sign : Description
  pub events : List EventModel
  pub spelled : SpellsScript octets sign events
  pub lawful : IsLawful sign events

-- a writer with so much room has none for the report
abbrev pub HasNoRoom : List ℕ → Option ℕ → Type 0
HasNoRoom octets room = (report : List ℕ) → IsReport octets report → HasRoom room (length report) → ⊥

-- the text spells no script
abbrev pub NoScript : List ℕ → Type 0
NoScript octets = (sign : Description) (events : List EventModel) → SpellsScript octets sign events → ⊥
