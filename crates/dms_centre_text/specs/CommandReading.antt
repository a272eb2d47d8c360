-- The lines of commands read from their beginning, which the calls say of themselves; `command_found` and
-- `command_only` in proofs/ join it to the lines that spell commands (this profile).
use Rattle.std.specs.Prelude.{ℕ, ◌≡◌, ◌==◌, Bool, true, false, if◌then◌else◌, List, length, codes, Option}
use Rattle.std.specs.Prelude.{Some, None, option_map}
use Rattle.std.specs.Prelude.{Result, Ok, Err}
use Rattle.hex.specs.Hex.{decode_of}
use Rattle.hex.specs.declared.error.FromHexError.{FromHexError}
use Rattle.dms_text.specs.Words.{words_of}
use Rattle.dms_text.specs.Reading.{same_octets, word_at, ◌>>=◌}
use Rattle.dms_codes.specs.declared.codes.Order.{Order}
use Rattle.dms_codes.specs.declared.codes.Activation.{Activation}
use Rattle.dms_codes.specs.Codes.{activation_of}
use Rattle.dms_codes.specs.declared.row_id.RowId.{RowId}
use Rattle.dms_centre_jobs.specs.declared.publication.Attributes.{Attributes}
use Rattle.dms_centre_jobs.specs.declared.publication.Terms.{Terms}
use Rattle.dms_centre_jobs.specs.PublicationView.{published}
use Rattle.dms_centre_jobs.specs.Commands.{CommandModel, Publish, Blank, Activate}
use Rattle.dms_text_forms.specs.FieldsReading.{if_last, octet_at, two_octets_at, octets_at, address_of}
use Rattle.dms_centre_text.specs.declared.command_word.CommandWord.{CommandWord}
use Rattle.dms_centre_text.specs.declared.command_word.CommandWord.TheVariants as key

-- ---- words

-- the code of twelve octets
abbrev pub code_from : Order → Result (List ℕ) FromHexError → Option Activation
code_from order (Ok octets) = if length octets == 12 then Some (activation_of order octets) else None
code_from order (Err fault) = None

-- a code, and the words after it
unfoldable pub code_at : Order → List (List ℕ) → Option (Activation × List (List ℕ))
code_at order words = do
  found ← word_at words
  code ← code_from order (decode_of found.0)
  Some (code, found.1)

-- a code, and nothing after it
unfoldable pub last_code_at : Order → List (List ℕ) → Option Activation
last_code_at order words = do
  code ← code_at order words
  if_last code.0 code.1

-- an address, and the words after it
unfoldable pub next_address_at : List (List ℕ) → Option (List ℕ × List (List ℕ))
next_address_at words = do
  found ← word_at words
  address ← address_of found.0
  Some (address, found.1)

-- ---- commands

-- a row, and the words after it
unfoldable pub row_at : List (List ℕ) → Option (RowId × List (List ℕ))
row_at words = do
  memory ← octet_at words
  number ← two_octets_at memory.1
  Some (record { memory = memory.0; number = number.0 }, number.1)

-- the attributes of a message, and the words after them
unfoldable pub attributes_at : List (List ℕ) → Option (Attributes × List (List ℕ))
attributes_at words = do
  beacon ← octet_at words
  pixel ← octet_at beacon.1
  run ← octet_at pixel.1
  Some (record { beacon = beacon.0; pixel = pixel.0; run_priority = run.0 }, run.1)

-- the terms on which a message is activated, and nothing after them
unfoldable pub last_terms_at : List (List ℕ) → Option Terms
last_terms_at words = do
  minutes ← two_octets_at words
  priority ← octet_at minutes.1
  address ← next_address_at priority.1
  if_last (record { minutes = minutes.0; priority = priority.0; address = address.0 }) address.1

unfoldable pub publish_at : List (List ℕ) → Option CommandModel
publish_at words = do
  row ← row_at words
  text ← octets_at row.1
  owner ← octets_at text.1
  attributes ← attributes_at owner.1
  terms ← last_terms_at attributes.1
  Some (Publish (published row.0 text.0 owner.0 attributes.0 terms))

unfoldable pub blank_at : List (List ℕ) → Option CommandModel
blank_at words = do
  number ← two_octets_at words
  terms ← last_terms_at number.1
  Some (Blank number.0 terms.minutes terms.priority terms.address)

-- ---- lines

unfoldable pub command_word : List ℕ → Option CommandWord
command_word word =
    if same_octets word (codes "publish") then Some key.Publish
    else if same_octets word (codes "blank") then Some key.Blank
    else if same_octets word (codes "activate") then Some key.Activate
    else None

-- what stands after a keyword
abbrev pub command_after : Order → CommandWord → List (List ℕ) → Option CommandModel
command_after order key.Publish words = publish_at words
command_after order key.Blank words = blank_at words
command_after order key.Activate words = option_map Activate (last_code_at order words)

-- the command of a line
unfoldable pub command_of : Order → List ℕ → Option CommandModel
command_of order line = do
  found ← word_at (words_of line)
  keyword ← command_word found.0
  command_after order keyword found.1

-- ---- lines that may want memory

-- the command has octets that are kept: a message's; a code is numbers
abbrev pub has_octets : Option CommandModel → Bool
has_octets None = false
has_octets (Some (Publish publication)) = true
has_octets (Some (Blank number minutes priority address)) = false
has_octets (Some (Activate code)) = false

-- the command's line carries octets that are kept: a message's; a code is numbers
abbrev pub carries_octets : CommandWord → Bool
carries_octets key.Publish = true
carries_octets key.Blank = false
carries_octets key.Activate = false

-- the keyword with which a line begins
unfoldable pub keyword_of : List ℕ → Option CommandWord
keyword_of line = do
  found ← word_at (words_of line)
  command_word found.0

-- the line begins as that of a command that carries octets
abbrev pub IsOfOctets : List ℕ → Type 0
IsOfOctets line = option_map carries_octets (keyword_of line) ≡ Some true
