-- Which value of a command is out of its range (this profile).
use Rattle.std.specs.Prelude.{ℕ, ◌==◌, ◌||◌, not, if◌then◌else◌, List, length, codes, nat_lt}
use Rattle.dms_codes.specs.Limits.{longest_text, longest_owner}
use Rattle.dms_codes.specs.Memory.{changeable_memory, volatile_memory}
use Rattle.dms_centre_jobs.specs.Job.{PublicationModel}
use Rattle.dms_centre_jobs.specs.Commands.{CommandModel, Publish, Blank, Activate}
use Rattle.dms_centre_lines.specs.declared.bad_value.CommandValue.{CommandValue}
use Rattle.dms_centre_lines.specs.declared.bad_value.CommandValue.TheVariants as values

-- a value, by its word in the form of a command's line
abbrev pub value_text : CommandValue → List ℕ
value_text values.Memory = codes "MEMORY"
value_text values.Number = codes "NUMBER"
value_text values.Text = codes "TEXT"
value_text values.Owner = codes "OWNER"
value_text values.Beacon = codes "BEACON"
value_text values.Pixel = codes "PIXEL"
value_text values.Run = codes "RUN"

-- the first value of a publication that is out of its range: the last one, where none before it is
abbrev pub bad_in_publication : PublicationModel → CommandValue
bad_in_publication p =
    if not (p.memory == changeable_memory || p.memory == volatile_memory) then values.Memory
    else if p.number == 0 then values.Number
    else if nat_lt longest_text (length p.text) then values.Text
    else if nat_lt longest_owner (length p.owner) then values.Owner
    else if nat_lt 1 p.beacon then values.Beacon
    else if nat_lt 1 p.pixel then values.Pixel
    else values.Run

-- the first value of a command that is out of its range: of a blank message it is its number, and a code has none
abbrev pub bad_value : CommandModel → CommandValue
bad_value (Publish p) = bad_in_publication p
bad_value (Blank number minutes priority address) = values.Number
bad_value (Activate code) = values.Number
