-- The state of a sign as text: the text of its fields (this profile). What the description of the sign says does not
-- stand in it, nor what is computed.
use Rattle.std.specs.Prelude.{ℕ, ◌+◌, ◌*◌, if◌then◌else◌, List, [], ◌∷◌, ◌++◌, codes, flat_map, length}
use Rattle.std.specs.List.{enumerate_from}
use Rattle.dms_codes.specs.declared.codes.Order.{Order}
use Rattle.dms_codes.specs.Codes.{octets_of_id}
use Rattle.dms_codes.specs.Status.{is_not_used}
use Rattle.dms_table.specs.Rows.{RowModel, TableModel}
use Rattle.dms_table.specs.Activation.{ShownModel, shown_row}
use Rattle.dms_sign.specs.State.{SignState}
use Rattle.dms_sign_state.specs.NumberSettings.{all_numbers, numbers_room}
use Rattle.dms_sign_state.specs.Fields.{MessageModel, UsedRow, PutModel, FieldsModel}
use Rattle.dms_sign_state.specs.FieldsText.{row_line, row_lines, put_text, text_of_fields}

-- ---- the fields of a state

abbrev pub message_of : RowModel → MessageModel
message_of row =
    record { text = row.text; owner = row.owner; beacon = row.beacon; pixel = row.pixel; priority = row.priority }

abbrev pub used_row : ℕ → RowModel → UsedRow
used_row number row = record { number = number; status = row.status; message = message_of row }

-- the rows that are used, the first of all of this number
abbrev pub used_rows : ℕ → List RowModel → List UsedRow
used_rows number [] = []
used_rows number (row ∷ rows) =
    if is_not_used row.status
    then used_rows (number + 1) rows
    else used_row number row ∷ used_rows (number + 1) rows

-- its source is the code that names it, as dmsMsgTableSource reads it
abbrev pub put_fields : Order → ShownModel → PutModel
put_fields order shown = record {
  message = message_of (shown_row shown);
  source = octets_of_id order shown.source;
  mode = shown.mode;
  address = shown.address;
  remaining = shown.remaining;
  defaults = shown.defaults;
}

-- permanent rows are in the description
abbrev pub fields_of : SignState → FieldsModel
fields_of s = record {
  changeable = used_rows 1 s.table.changeable;
  volatile = used_rows 1 s.table.volatile;
  settings = s.settings;
  silent_seconds = s.silent_seconds;
  shown = put_fields s.table.order s.shown;
  shown_at_power_loss = put_fields s.table.order s.shown_at_power_loss;
  reports = s.reports;
  powered = s.powered;
}

-- the whole state, but for what the sign was made with
unfoldable pub text_of_state : SignState → List ℕ
text_of_state s = text_of_fields (fields_of s)

-- the rows that a state has lines of, where they are used
abbrev pub saved_rows : SignState → ℕ
saved_rows s = length s.table.changeable + length s.table.volatile

-- the most octets that the text of a state of a sign with so many such rows has: 1,315 for each, whose text has 512
-- octets and whose owner 127, the lines of the settings that are numbers, and 3,288 for all else
abbrev pub most_saved : ℕ → ℕ
most_saved rows = 3288 + numbers_room all_numbers + 1315 * rows

-- ---- its parts, as they are written

-- A row that is not used has no line.
abbrev pub row_text : List ℕ → ℕ × RowModel → List ℕ
row_text name numbered =
    if is_not_used numbered.1.status then [] else row_line name (used_row numbered.0 numbered.1)

abbrev pub rows_text : List ℕ → List RowModel → List ℕ
rows_text name rows = flat_map (row_text name) (enumerate_from 1 rows)

abbrev pub table_text : TableModel → List ℕ
table_text table =
    row_lines (codes "changeable") (used_rows 1 table.changeable)
    ++ row_lines (codes "volatile") (used_rows 1 table.volatile)

abbrev pub shown_text : List ℕ → Order → ShownModel → List ℕ
shown_text name order shown = put_text name (put_fields order shown)
