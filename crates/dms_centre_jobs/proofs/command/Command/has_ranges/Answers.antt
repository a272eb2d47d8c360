use Rattle.std.proofs.Common.{sym, subst}
use Rattle.dms_codes.specs.Codes.{IsActivation}
use Rattle.dms_centre_jobs.specs.Commands.{IsCommand, OfPublish, OfBlank, OfActivate}
use Rattle.dms_centre_jobs.specs.PublicationView.{parts_model}
use Rattle.dms_centre_jobs.proofs.command.Command.has_ranges.Goals as goal

pub returns-in-Publish : goal.returns-in-Publish
returns-in-Publish c =
    subst IsCommand c.parts.ensures (subst (λ parts. IsCommand (parts_model parts)) (sym c.in-Publish.is) (OfPublish _ c.has_ranges.ensures))

pub returns-in-Blank : goal.returns-in-Blank
returns-in-Blank c =
    let is = subst IsActivation c.blank_code.ensures c.code_has_ranges.ensures in
    subst IsCommand c.parts.ensures (subst (λ parts. IsCommand (parts_model parts)) (sym c.in-Blank.is)
    (OfBlank _ _ _ _ is.id.number is.minutes is.priority (record { size = is.size; octets = is.octets })))

pub returns-in-Activate : goal.returns-in-Activate
returns-in-Activate c =
    subst IsCommand c.parts.ensures (subst (λ parts. IsCommand (parts_model parts)) (sym c.in-Activate.is) (OfActivate _ c.code_has_ranges-in-Activate.ensures))
