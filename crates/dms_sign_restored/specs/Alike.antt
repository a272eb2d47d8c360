-- Signs that are made with the same, whatever came to them since (this profile).
use Rattle.std.specs.Prelude.{◌≡◌, length}
use Rattle.dms_sign.specs.State.{SignState}

-- They have one configuration and the same permanent rows, as many rows that can be changed, the same services and one
-- order of a checksum's octets.
pub record AreMadeAlike (one other : SignState) : Type 0 where
  pub config : one.config ≡ other.config
  pub permanent : one.table.permanent ≡ other.table.permanent
  pub changeable : length one.table.changeable ≡ length other.table.changeable
  pub volatile : length one.table.volatile ≡ length other.table.volatile
  pub services : one.table.services ≡ other.table.services
  pub order : one.table.order ≡ other.table.order
