-- What the code's parts of a command are (this profile).
use Rattle.std.specs.Prelude.{ℕ, List, Option, Some, None}
use Rattle.dms_codes.specs.declared.row_id.RowId.{RowId}
use Rattle.dms_centre_jobs.specs.declared.publication.Terms.{Terms}
use Rattle.dms_centre_jobs.specs.declared.publication.Attributes.{Attributes}
use Rattle.dms_centre_jobs.specs.declared.publication.Publication.{Publication}
use Rattle.dms_centre_jobs.specs.declared.command.CommandParts.{CommandParts}
use Rattle.dms_centre_jobs.specs.declared.command.CommandParts.TheVariants as parts
use Rattle.dms_centre_jobs.specs.Job.{PublicationModel, Work, Publishing, Showing}
use Rattle.dms_centre_jobs.specs.Commands.{CommandModel, Publish, Blank, Activate}

-- a message of these parts
abbrev pub published : RowId → (text owner : List ℕ) → Attributes → Terms → PublicationModel
published row text owner attributes terms = record {
  memory = row.memory;
  number = row.number;
  text = text;
  owner = owner;
  beacon = attributes.beacon;
  pixel = attributes.pixel;
  run_priority = attributes.run_priority;
  minutes = terms.minutes;
  priority = terms.priority;
  address = terms.address;
}

abbrev pub publication_model : Publication → PublicationModel
publication_model p = published p.row p.text.now p.owner.now p.attributes p.terms

-- the message that a job writes first, if it writes one
abbrev pub publication_in : Work → Option PublicationModel
publication_in (Publishing p) = Some p
publication_in (Showing code) = None

-- ---- inside the crate

abbrev pub parts_model : CommandParts → CommandModel
parts_model (parts.Publish publication) = Publish (publication_model publication)
parts_model (parts.Blank number terms) = Blank number terms.minutes terms.priority terms.address
parts_model (parts.Activate code) = Activate code
