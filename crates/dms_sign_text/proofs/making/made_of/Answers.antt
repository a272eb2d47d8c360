use Rattle.std.proofs.Common.{◌∙◌, sym}
use Rattle.dms_sign.specs.declared.config.Config.{Config}
use Rattle.dms_sign_text.proofs.MadeLaws.{faultless_can_be_made, refused_is_none}
use Rattle.dms_sign_text.proofs.making.made_of.Goals as goal

pub returns-in-Ok : goal.returns-in-Ok
returns-in-Ok c =
    let config : Config = record {
      face = c.args.face;
      stock = record {
        permanent = c.args.permanent;
        changeable = c.args.head.now.beginning.rows.changeable;
        volatile = c.args.head.now.beginning.rows.volatile;
        beacon = c.args.head.now.services.beacon;
        pixel = c.args.head.now.services.pixel;
        order = c.args.head.now.beginning.order;
      };
      reader = c.args.head.now.beginning.communities.reader;
      writer = c.args.head.now.beginning.communities.writer;
    } in
    (c.in-Ok.ensures.made, faultless_can_be_made config c.requires c.in-Ok.ensures.faultless)

pub returns-in-Err-2 : goal.returns-in-Err-2
returns-in-Err-2 c =
    let config : Config = record {
      face = c.args.face;
      stock = record {
        permanent = c.args.permanent;
        changeable = c.args.head.now.beginning.rows.changeable;
        volatile = c.args.head.now.beginning.rows.volatile;
        beacon = c.args.head.now.services.beacon;
        pixel = c.args.head.now.services.pixel;
        order = c.args.head.now.beginning.order;
      };
      reader = c.args.head.now.beginning.communities.reader;
      writer = c.args.head.now.beginning.communities.writer;
    } in
    refused_is_none config c.in-Err.fault (sym c.is_memory.ensures ∙ c.if-is_memory.false) c.in-Err.ensures.fault
