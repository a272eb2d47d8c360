-- A word that is at fault, in numbers, as it is given to C (this profile).
use Rattle.std.specs.Prelude.{ℕ, Option, Some, None}
use Rattle.dms_text_forms.specs.declared.wanted.Wanted.{Wanted}
use Rattle.dms_text_forms.specs.declared.wanted.Wanted.TheVariants as wanted
use Rattle.dms_text_forms.specs.declared.fault.WordFault.{WordFault}
use Rattle.dms_text_forms.specs.declared.fault.WordFaultKind.{WordFaultKind}
use Rattle.dms_text_forms.specs.declared.fault.WordFaultKind.TheVariants as kinds
use Rattle.wisangub_c_causes.specs.declared.cause.Bounds.{Bounds}
use Rattle.wisangub_c_causes.specs.declared.cause.CauseNumbers.{CauseNumbers}
use Rattle.wisangub_c_causes.specs.Causes.{no_bounds, from_to}

abbrev pub word_kind : WordFaultKind → ℕ
word_kind (kinds.Missing word) = 1
word_kind kinds.Empty = 2
word_kind (kinds.Not word) = 3
word_kind kinds.More = 4

-- what is wanted in its place
abbrev pub wanted_in : WordFaultKind → Option Wanted
wanted_in (kinds.Missing word) = Some word
wanted_in kinds.Empty = None
wanted_in (kinds.Not word) = Some word
wanted_in kinds.More = None

abbrev pub wanted_number : Option Wanted → ℕ
wanted_number None = 0
wanted_number (Some (wanted.Keyword word)) = 1
wanted_number (Some (wanted.Either one other)) = 2
wanted_number (Some (wanted.Name name)) = 3
wanted_number (Some (wanted.Number low high)) = 4
wanted_number (Some wanted.FourOctets) = 4
wanted_number (Some (wanted.Octets name)) = 5
wanted_number (Some wanted.Version) = 6
wanted_number (Some wanted.Address) = 7
wanted_number (Some wanted.Code) = 8

-- from which number to which it is to be
abbrev pub wanted_bounds : Option Wanted → Bounds
wanted_bounds (Some (wanted.Number low high)) = from_to low high
wanted_bounds (Some wanted.FourOctets) = from_to 0 4294967295
wanted_bounds word = no_bounds

-- a word of this line is at fault
abbrev pub of_word : ℕ → WordFault → CauseNumbers
of_word line fault = record {
  line = line;
  word = fault.place;
  row = 0;
  place = 0;
  least = (wanted_bounds (wanted_in fault.kind)).least;
  most = (wanted_bounds (wanted_in fault.kind)).most;
  kind = word_kind fault.kind;
  wanted = wanted_number (wanted_in fault.kind);
  number = 0;
  code = 0;
}
