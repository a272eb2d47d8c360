-- What a job holds of what it is to activate (this profile): the code that puts it up, and the fields of a row that is
-- written first.
use Rattle.std.specs.Prelude.{◌≡◌, ℕ, Bool, true, false, Option, Some, None}
use Rattle.dms_codes.specs.declared.codes.Activation.{Activation}
use Rattle.dms_codes.specs.Checksum.{message_checksum}
use Rattle.dms_centre_jobs.specs.declared.job.WrittenRowFields.{WrittenRowFields}
use Rattle.dms_centre_jobs.specs.Job.{PublicationModel, Work, Publishing, Showing}
use Rattle.dms_centre_jobs.specs.PublicationView.{published}

-- the message that is written: the code names its row, and its checksum is that of the fields
abbrev pub publication_of : Activation → WrittenRowFields → PublicationModel
publication_of code fields =
    published (record { memory = code.id.memory; number = code.id.number }) fields.text.items fields.owner.items
    fields.attributes
    (record { minutes = code.minutes; priority = code.priority; address = code.address })

-- publishes: the message is written first
abbrev pub work_model : (publishes : Bool) → Activation → WrittenRowFields → Work
work_model true code fields = Publishing (publication_of code fields)
work_model false code fields = Showing code

-- the checksum of the fields, where it is stored
abbrev pub HasItsChecksum : Option ℕ → WrittenRowFields → Type 0
HasItsChecksum None fields = Unit {0}
HasItsChecksum (Some checksum) fields =
    checksum ≡ message_checksum fields.text.items fields.attributes.beacon fields.attributes.pixel
