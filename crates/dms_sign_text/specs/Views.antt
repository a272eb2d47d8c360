-- What the code's parts and fields of a description are (this profile).
use Rattle.std.specs.Prelude.{◌≡◌, ◌⊎◌, ℕ, Bool, true, false, List, [], ◌∷◌, ◌++◌, Option, Some}
use Rattle.std.specs.Prelude.{None, Result, Ok, Err, option_map, map, replicate}
use Rattle.dms_text.specs.Lines.{TextLeft, lines_left, number_after}
use Rattle.dms_text.specs.Views.{numbered_line}
use Rattle.dms_text.specs.declared.lines.Line as text
use Rattle.dms_codes.specs.declared.status.Status.TheVariants.{Valid}
use Rattle.dms_face.specs.Face.{FaceModel}
use Rattle.dms_table.specs.declared.stock.Permanent.{Permanent}
use Rattle.dms_table.specs.Stock.{permanent_row}
use Rattle.dms_table.specs.Rows.{RowModel, unused}
use Rattle.dms_table.specs.declared.stock.TableFault.TheVariants as table
use Rattle.dms_sign.specs.declared.config.ConfigFault.{ConfigFault}
use Rattle.dms_sign.specs.declared.config.ConfigFault.TheVariants as config
use Rattle.dms_sign.specs.State.{SignState, start}
use Rattle.dms_sign.specs.Construction.{CanBeMade}
use Rattle.dms_sign_text.specs.declared.fault.DescriptionFault.{DescriptionFault}
use Rattle.dms_sign_text.specs.declared.fault.DescriptionFault.TheVariants.{Memory}
use Rattle.dms_sign_text.specs.declared.line_fault.LineFault.{LineFault}
use Rattle.dms_sign_text.specs.Causes.{head_cause}
use Rattle.dms_text_forms.specs.declared.wanted.Wanted.{Wanted}
use Rattle.dms_sign_text.specs.declared.head.Communities.{Communities}
use Rattle.dms_sign_text.specs.declared.head.Beginning.{Beginning}
use Rattle.dms_sign_text.specs.declared.head.Head.{Head}
use Rattle.dms_sign_text.specs.declared.rows.RowLine.{RowLine}
use Rattle.dms_sign_text.specs.declared.rows.OwnedRow.{OwnedRow}
use Rattle.dms_sign_text.specs.Description.{Description}
use Rattle.dms_sign_text.specs.RefusedLine.{NumberedLines, first_number, has_form, from_misfit}
use Rattle.dms_sign_text.specs.Setups.{octets_left}
use Rattle.dms_sign_text.specs.DescriptionReading.{CommunityWords, line_at, BeginningModel, HeadModel}
use Rattle.dms_sign_text.specs.DescriptionReading.{RowWords, end_at}

abbrev pub communities_seen : Communities → CommunityWords
communities_seen words = record { reader = words.reader.now; writer = words.writer.now }

abbrev pub beginning_seen : Beginning → BeginningModel
beginning_seen it =
    record { size = it.size; communities = communities_seen it.communities; rows = it.rows; order = it.order }

abbrev pub head_seen : Head → HeadModel
head_seen head = record {
  beginning = beginning_seen head.beginning;
  services = head.services;
  defaults = head.defaults;
  first = head.first;
}

abbrev pub row_line : RowLine → RowWords
row_line said = record {
  text = said.text.now;
  owner = said.owner.now;
  beacon = said.beacon;
  pixel = said.pixel;
  priority = said.priority;
}

abbrev pub row_seen : OwnedRow → RowModel
row_seen row = record {
  text = row.text.items;
  owner = row.owner.items;
  beacon = row.beacon;
  pixel = row.pixel;
  priority = row.priority;
  status = Valid;
}

-- the line that comes next and those after it
abbrev pub upcoming : Option text.Line → TextLeft → NumberedLines
upcoming None left = record { lines = []; after = number_after left }
upcoming (Some line) left = record { lines = numbered_line line ∷ lines_left left; after = number_after left }

-- the lines after the next one
abbrev pub after : {A : Type 0} → List A → List A
after [] = []
after (line ∷ lines) = lines

abbrev pub past : NumberedLines → NumberedLines
past lines = record { lines = after lines.lines; after = lines.after }

-- the first lines have these forms and words, and the rest is left after them
pub record HaveForms (forms : List (List ℕ → Bool)) (wanted : List (List Wanted)) (left rest : TextLeft) : Type 0 where
  pub lines : (more : List (List ℕ → Bool))
      → from_misfit (forms ++ more) (lines_left left) ≡ from_misfit more (lines_left rest)
  pub after : number_after rest ≡ number_after left
  pub causes : (more : List (List Wanted))
      → head_cause (wanted ++ more) (octets_left left) ≡ head_cause more (octets_left rest)

-- the fault is that of the first of the lines that has not its form, be there more lines with forms after these or not
pub record IsMisfit (forms : List (List ℕ → Bool)) (wanted : List (List Wanted)) (left : TextLeft)
    (fault : LineFault) : Type 0 where
  pub is : (more : List (List ℕ → Bool))
      → fault.line ≡ first_number (from_misfit (forms ++ more) (lines_left left)) (number_after left)
  pub cause : (more : List (List Wanted)) → head_cause (wanted ++ more) (octets_left left) ≡ Some fault.cause

-- the first line says this, and the rest is left after it
pub record FindsLine {A : Type 0} (read : List (List ℕ) → Option A) (wanted : List Wanted) (left : TextLeft)
    (value : A) (rest : TextLeft) : Type 0 where
  pub said : line_at read (octets_left left) ≡ Some (value, octets_left rest)
  pub forms : HaveForms (has_form read ∷ []) (wanted ∷ []) left rest

-- the first line says no such thing, and the fault is its own
pub record FindsNoLine {A : Type 0} (read : List (List ℕ) → Option A) (wanted : List Wanted) (left : TextLeft)
    (fault : LineFault) : Type 0 where
  pub none : line_at read (octets_left left) ≡ None
  pub misfit : IsMisfit (has_form read ∷ []) (wanted ∷ []) left fault

-- the answer is the expected one; without one, there is none or memory ran out
abbrev pub ReadsOrMemory : {A B : Type 0} → (A → B) → Result A DescriptionFault → Option B → Type 0
ReadsOrMemory view (Ok value) expected = expected ≡ Some (view value)
ReadsOrMemory view (Err fault) expected = (fault ≡ Memory) ⊎ (expected ≡ None)

-- the lines after the line `end`, or no such line comes first
abbrev pub EndsOrNot : Option TextLeft → List (List ℕ) → Type 0
EndsOrNot found lines = option_map octets_left found ≡ end_at lines

-- a sign that was made is the described one at its start; where there is none, none can be made
abbrev pub MadeOrRefused : Description → Option SignState → Type 0
MadeOrRefused it None = CanBeMade it.config it.table → ⊥
MadeOrRefused it (Some sign) = (sign ≡ start it.config it.table) × CanBeMade it.config it.table

abbrev pub is_memory : ConfigFault → Bool
is_memory config.Community = false
is_memory (config.Table table.Counts) = false
is_memory (config.Table (table.Permanent number)) = false
is_memory (config.Table table.Memory) = true

-- the sign of a head, with these rows and this face
abbrev pub described_with : Head → List Permanent → FaceModel → Description
described_with head permanent face = record {
  config = record {
    face = face;
    reader = head.beginning.communities.reader.now;
    writer = head.beginning.communities.writer.now;
  };
  table = record {
    permanent = map permanent_row permanent;
    changeable = replicate head.beginning.rows.changeable unused;
    volatile = replicate head.beginning.rows.volatile unused;
    services = head.services;
    order = head.beginning.order;
  };
  first = head.first;
}
