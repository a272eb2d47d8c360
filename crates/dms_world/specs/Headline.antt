-- What holds of a sign and its centre after any events (this profile). These are commands, ticks, losses of power,
-- restarts and deliveries, with datagrams lost, repeated, reordered and forged.
use Rattle.std.specs.Prelude.{◌≡◌, Bool, true, false, List, ⊤}
use Rattle.dms_centre_jobs.specs.Commands.{CommandModel, IsCommand}
use Rattle.dms_world.specs.Event.{EventModel, command, forge_sign, forge_centre}
use Rattle.dms_world.specs.World.{WorldModel, IsFresh}
use Rattle.dms_world.specs.Backed.{Has, IsBacked, CopiedDefaults}
use Rattle.dms_world.specs.GoodRows.{ValidRowsWereGood, OneRowIsValidating, DefaultsFit}
use Rattle.dms_world.specs.Honest.{RequestsAgree, AcceptedWasAccepted, RefusedWasRefused, LedgerWasOrdered}

-- ---- premises

-- a command's values are in the ranges of their types
abbrev pub IsEvent : EventModel → Type 0
IsEvent (command asked) = IsCommand asked
IsEvent event = ⊤

-- those of all commands are
abbrev pub AreEvents : List EventModel → Type 0
AreEvents events = (asked : CommandModel) → Has events (command asked) → IsCommand asked

abbrev pub is_forged : EventModel → Bool
is_forged (forge_sign datagram) = true
is_forged (forge_centre datagram) = true
is_forged event = false

-- nobody but the two ends makes datagrams
abbrev pub NothingIsForged : List EventModel → Type 0
NothingIsForged events = (event : EventModel) → Has events event → is_forged event ≡ false

-- ---- the law

-- what the ledger says is true
pub record LedgerIsTrue (world : WorldModel) (events : List EventModel) : Type 0 where
  pub accepted : AcceptedWasAccepted world events
  pub refused : RefusedWasRefused world events

-- No number is given to two requests: a request that is sent again is unchanged. What is shown is blank, or a
-- validated message whose checksum stands in the code that activated it. Rows and defaults are as they should be. Each
-- code of the ledger was an operator's; and, where nothing is forged, a code is recorded as accepted or refused only
-- after the sign accepted or refused it.
pub record Headline (world : WorldModel) (events : List EventModel) : Type 0 where
  pub requests_agree : RequestsAgree world events
  pub backed : IsBacked world events
  pub copied_defaults : CopiedDefaults world events
  pub rows_were_good : ValidRowsWereGood world events
  pub one_row_is_validating : OneRowIsValidating world events
  pub defaults_fit : DefaultsFit world events
  pub ledger_was_ordered : LedgerWasOrdered world events
  pub ledger_is_true : NothingIsForged events → LedgerIsTrue world events

-- It holds from every fresh world on.
abbrev pub HeadlineHolds : Type 0
HeadlineHolds = (world : WorldModel) (events : List EventModel) → IsFresh world → AreEvents events
    → Headline world events
