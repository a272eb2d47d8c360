-- That each default is an octet (this profile); its range is that of `fit` in dms_face.
use Rattle.std.specs.Prelude.{◌≤◌}
use Rattle.dms_face.specs.declared.defaults.Defaults.{Defaults}

-- each default is an octet
pub record AreDefaultsInRange (defaults : Defaults) : Type 0 where
  pub background : defaults.background ≤ 255
  pub foreground : defaults.foreground ≤ 255
  pub flash_on : defaults.flash_on ≤ 255
  pub flash_off : defaults.flash_off ≤ 255
  pub font : defaults.font ≤ 255
  pub line : defaults.line ≤ 255
  pub page : defaults.page ≤ 255
  pub on : defaults.on ≤ 255
  pub off : defaults.off ≤ 255
