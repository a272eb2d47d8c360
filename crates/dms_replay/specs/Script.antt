-- Scripts: a sign, then what happens, an event a line (this profile).
use Rattle.std.specs.Prelude.{◌≡◌, ℕ, ◌≤◌, List, [], ◌∷◌, ◌++◌, length, codes}
use Rattle.dms_text.specs.Lines.{kept_lines}
use Rattle.dms_world.specs.Event.{EventModel}
use Rattle.dms_text_forms.specs.Fields.{SpellsEach}
use Rattle.dms_replay.specs.EventLine.{SpellsEvent}
use Rattle.dms_sign.specs.State.{start}
use Rattle.dms_centre.specs.State as centre
use Rattle.dms_sign_text.specs.Description.{Description, SpellsSign}
use Rattle.dms_text_streams.specs.DescriptionText.{longest_input}
use Rattle.dms_world.specs.World.{WorldModel, beginning}
use Rattle.dms_sign_text.specs.BenchSign.{bench_text}

-- the world in which a script's events happen: the centre has the sign's writing community and its order
abbrev pub beginning_of : Description → WorldModel
beginning_of it = beginning (start it.config it.table)
    (centre.start (record { community = it.config.writer; order = it.table.order }) it.first)

-- the lines that name a sign: the word `bench`, or the sign's own description
pub data NamesSign : List (List ℕ) → Description → Type 0 where
  the_bench : (sign : Description) → SpellsSign (kept_lines bench_text) sign → NamesSign (codes "bench" ∷ []) sign
  described : (lines : List (List ℕ)) (sign : Description) → SpellsSign lines sign → NamesSign lines sign

-- these lines begin with those that name a sign, and the rest stands after them
pub record NamesPrefix (lines rest : List (List ℕ)) (sign : Description) : Type 0 where
  pub prefix : List (List ℕ)
  pub lines_are : lines ≡ prefix ++ rest
  pub names : NamesSign prefix sign

pub record SpellsScript (octets : List ℕ) (sign : Description) (events : List EventModel) : Type 0 where
  pub short : length octets ≤ longest_input
  pub sign_lines : List (List ℕ)
  pub event_lines : List (List ℕ)
  pub lines_are : kept_lines octets ≡ sign_lines ++ event_lines
  pub names : NamesSign sign_lines sign
  pub spelled : SpellsEach (SpellsEvent sign.table.order) events event_lines
