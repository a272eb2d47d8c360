-- What the code's commands are (this profile).
use Rattle.dms_centre_jobs.specs.PublicationView.{published}
use Rattle.dms_centre_jobs.specs.Commands as centre
use Rattle.dms_text_forms.specs.FieldsView.{octets_in}
use Rattle.dms_centre_text.specs.declared.reading.PublicationWords.{PublicationWords}
use Rattle.dms_centre_text.specs.declared.owned_command.OwnedCommand.{OwnedCommand}
use Rattle.dms_centre_text.specs.declared.owned_command.OwnedCommand.TheVariants as owned

-- the command that was read
abbrev pub owned_command_model : OwnedCommand → centre.CommandModel
owned_command_model (owned.Publish row text owner attributes terms) =
    centre.Publish (published row text.items owner.items attributes terms)
owned_command_model (owned.Blank number terms) = centre.Blank number terms.minutes terms.priority terms.address
owned_command_model (owned.Activate code) = centre.Activate code

-- the publication of the words that spell one
abbrev pub publication_in : PublicationWords → centre.CommandModel
publication_in words =
    centre.Publish
    (published words.row (octets_in words.text.now) (octets_in words.owner.now) words.attributes words.terms)
