-- What holds of every sign (this profile).
use Rattle.std.specs.Prelude.{IsTrue}
use Rattle.dms_sign.specs.Communities.{are_communities}
use Rattle.dms_sign.specs.State.{SignState}
use Rattle.dms_sign.specs.InRange.{IsSignInRange}
use Rattle.dms_sign.specs.Transitions.{HasFitDefaults}

-- its values are in range, its defaults fit its face, and its communities have 1 to 32 octets and differ
pub record IsKept (s : SignState) : Type 0 where
  pub in_range : IsSignInRange s
  pub fit : HasFitDefaults s
  pub communities : IsTrue (are_communities s.config.reader s.config.writer)
