use Rattle.std.proofs.Common.{pos, refl, arith}
use Rattle.dms_wire.specs.declared.message.Header.{Header}
use Rattle.dms_centre_jobs.proofs.ShortRequests.{short_request}
use Rattle.dms_centre_jobs.proofs.short.put_short.Goals as goal

pub returns : goal.returns
returns c bindings spelled =
    let h : Header = record { community = c.args.community; kind = c.args.kind; request = pos c.args.number; status = pos 0; index = pos 0 } in
    rw (c.put_content-6.ensures, c.put_content-5.ensures, c.put_content-4.ensures, c.put_unsigned.ensures, c.put_content-3.ensures, c.tag_of.ensures, c.put_content-2.ensures, c.put_content.ensures, c.clear.ensures)
    (short_request h c.args.number _ _ c.args.front.now c.args.back.now bindings (record { request = refl; status = refl; index = refl })
    (record {
      pdu = omega (arith, c.size_of_number.ensures.exact);
      content = refl;
      short = omega (arith, c.size_of_number.ensures.small, c.requires.community, c.requires.octets);
    })
    spelled)
