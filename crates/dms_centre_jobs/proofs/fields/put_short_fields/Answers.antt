use Rattle.std.proofs.Common.{◌∙◌, pos}
use Rattle.dms_wire.specs.declared.message.Header.{Header}
use Rattle.dms_wire.specs.declared.message.Kind.TheVariants.{Set}
use Rattle.dms_centre_jobs.proofs.ShortFields.{size_around, room_after, put_around}
use Rattle.dms_centre_jobs.proofs.fields.put_short_fields.Goals as goal

pub begin_set-requires : goal.begin_set-requires
begin_set-requires c =
    let h : Header = record { community = c.args.community; kind = Set; request = pos c.args.number; status = pos 0; index = pos 0 } in
    size_around h _ _ (c.size_of_fields.ensures.exact c.args.row c.requires.short) c.requires.fits

pub put_fields-requires-clause-room : goal.put_fields-requires-clause-room
put_fields-requires-clause-room c =
    let h : Header = record { community = c.args.community; kind = Set; request = pos c.args.number; status = pos 0; index = pos 0 } in
    room_after h _ _ _ (c.size_of_fields.ensures.exact c.args.row c.requires.short) c.begin_set.ensures c.requires.fits

pub returns : goal.returns
returns c =
    let h : Header = record { community = c.args.community; kind = Set; request = pos c.args.number; status = pos 0; index = pos 0 } in
    c.put_fields.ensures ∙ put_around h _ _ _ (c.size_of_fields.ensures.exact c.args.row c.requires.short) c.begin_set.ensures
