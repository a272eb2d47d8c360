use Rattle.dms_sign.specs.Values.{value_of, value_after}
use Rattle.dms_device.specs.Objects.{device_value, device_after}
use Rattle.dms_device_fonts.specs.Fonts.{fonts_value, fonts_after}
use Rattle.dms_agent.specs.Values.{font_value, font_after, own_value, own_after}
use Rattle.dms_agent.proofs.Unions.{union, walk_if}
use Rattle.dms_agent.proofs.SignWalk.{sign_walk}
use Rattle.dms_agent.proofs.DeviceWalk.{device_walk}
use Rattle.dms_agent.proofs.laws.walks_are_in_order.Goals as goal

pub returns : goal.returns
returns c =
    let a = c.args.agent.now in
    let fonts = walk_if a.has_fonts (fonts_value a.sign.config.face) (fonts_after a.sign.config.face) (c.fonts_are_walked.ensures a.sign.config.face) in
    let own = union (value_of a.sign) (font_value a) (value_after a.sign) (font_after a) (sign_walk a.sign) fonts in
    union (own_value a) (device_value a.device) (own_after a) (device_after a.device) own (device_walk a.device c.in_order.ensures)
