use Rattle.std.proofs.Common.{◌≡◌}
use Rattle.std.specs.List.{list_all}
use Rattle.dms_device.specs.Setting.{is_named}
use Rattle.dms_device.proofs.setting.are_named.Given as goal

abbrev pub invariant-loop-binding : goal.invariant-loop-binding
invariant-loop-binding l = list_all (is_named l.objects) l.rest ≡ list_all (is_named l.objects) l.fn.binds
