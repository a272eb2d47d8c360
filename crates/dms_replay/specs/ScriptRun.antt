-- A script run line by line, which the calls say of themselves (this profile).
use Rattle.std.specs.Prelude.{◌≡◌, ℕ, List, length}
use Rattle.dms_codes.specs.declared.codes.Order.{Order}
use Rattle.dms_world.specs.Event.{EventModel}
use Rattle.dms_world.specs.World.{WorldModel, world_after}
use Rattle.dms_text_forms.specs.Fields.{SpellsEach}
use Rattle.dms_sign_text.specs.Description.{Description}
use Rattle.dms_replay.specs.EventLine.{SpellsEvent}
use Rattle.dms_replay.specs.Script.{SpellsScript, beginning_of}

-- these lines spell so many events, which lead from one world to the other
pub record AreRun (order : Order) (lines : List (List ℕ)) (before after : WorldModel) (count : ℕ) : Type 0 where
  pub events : List EventModel
  pub spelled : SpellsEach (SpellsEvent order) events lines
  pub world_is : after ≡ world_after before events
  pub count_is : count ≡ length events

-- the text spells a script of so many events, after which its world is this one
pub record IsRun (octets : List ℕ) (world : WorldModel) (count : ℕ) : Type 0 where
  pub sign : Description
  pub events : List EventModel
  pub spelled : SpellsScript octets sign events
  pub world_is : world ≡ world_after (beginning_of sign) events
  pub count_is : count ≡ length events
