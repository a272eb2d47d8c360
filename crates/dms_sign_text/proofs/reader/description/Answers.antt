use Rattle.std.proofs.Common.{inr}
use Rattle.dms_text.specs.Lines.{lines_left}
use Rattle.dms_text.specs.Views.{numbered_line}
use Rattle.dms_sign_text.proofs.Refused.{none_refused, after_refused}
use Rattle.dms_sign_text.proofs.SetupLaws.{whole_read, line_after, whole_is_none}
use Rattle.dms_sign_text.proofs.reader.description.Goals as goal

pub returns-in-Some-clause-line : goal.returns-in-Some-clause-line
returns-in-Some-clause-line c =
    inr (line_after c.args.octets.now c.of.result c.in-Ok.rest c.in-Ok.setup (numbered_line c.in-Some.line) (lines_left c.next_line.new.self) c.of.ensures c.in-Some.ensures.line c.in-Ok.ensures.read)

pub returns-in-Some-clause-number : goal.returns-in-Some-clause-number
returns-in-Some-clause-number c =
    after_refused c.args.octets.now c.of.result c.in-Ok.rest c.in-Ok.setup (numbered_line c.in-Some.line) (lines_left c.next_line.new.self) c.of.ensures c.in-Some.ensures.line c.in-Ok.ensures.read
    c.in-Ok.ensures.last

pub returns-in-None-clause-read : goal.returns-in-None-clause-read
returns-in-None-clause-read c = whole_read c.args.octets.now c.of.result c.in-Ok.rest c.in-Ok.setup c.of.ensures c.in-None.ensures.end c.in-Ok.ensures.read

pub returns-in-Err-clause-line : goal.returns-in-Err-clause-line
returns-in-Err-clause-line c = whole_is_none c.args.octets.now c.of.result c.in-Err.fault c.of.ensures c.in-Err.ensures.line

pub returns-in-Err-clause-number : goal.returns-in-Err-clause-number
returns-in-Err-clause-number c = none_refused c.args.octets.now c.of.result c.in-Err.fault c.of.ensures c.in-Err.ensures.line c.in-Err.ensures.number
