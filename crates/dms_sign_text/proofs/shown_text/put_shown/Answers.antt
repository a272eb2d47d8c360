use Rattle.std.proofs.Common.{◌++◌, codes, decimal}
use Rattle.std.proofs.lemmas.Result.{on_ok_weaker}
use Rattle.hex.specs.Hex.{encode_lower}
use Rattle.dms_codes.specs.Codes.{two_octets}
use Rattle.dms_table.specs.Activation.{minutes_left}
use Rattle.dms_sign_text.specs.ShownLine.{octets_text}
use Rattle.dms_sign_text.proofs.ShownParts.{four_parts}
use Rattle.dms_sign_text.proofs.shown_text.put_shown.Goals as goal

pub returns : goal.returns
returns c =
    let shown = c.args.shown.now in
    let source = codes "shown " ++ decimal shown.source.memory ++ codes " " ++ decimal shown.source.number ++ codes " " ++ encode_lower (two_octets shown.source.crc) in
    let whole = four_parts _ _ _ _ c.put_text.new.report.items source (codes " mode ") (decimal shown.mode) (codes " priority ") (decimal shown.priority)
    (codes " remaining ") (decimal (minutes_left shown.remaining)) (codes " text ") (octets_text shown.text) (codes "\n") c.in_ok-put_source.ensures
    c.in_ok-put_manner.ensures c.in_ok-put_remaining.ensures in
    on_ok_weaker c.put_text.result whole c.put_text.ensures
