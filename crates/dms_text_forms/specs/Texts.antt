-- How it is said what a word is to be, and what is wrong with it (this profile).
use Rattle.std.specs.Prelude.{ℕ, List, ◌++◌, codes, decimal}
use Rattle.dms_text_forms.specs.Vocabulary.{keyword_text, name_text}
use Rattle.dms_text_forms.specs.declared.wanted.Wanted.{Wanted}
use Rattle.dms_text_forms.specs.declared.wanted.Wanted.TheVariants as wanted
use Rattle.dms_text_forms.specs.declared.fault.WordFault.{WordFault}
use Rattle.dms_text_forms.specs.declared.fault.WordFaultKind.{WordFaultKind}
use Rattle.dms_text_forms.specs.declared.fault.WordFaultKind.TheVariants as kinds

abbrev pub wanted_text : Wanted → List ℕ
wanted_text (wanted.Keyword word) = codes "the word " ++ keyword_text word
wanted_text (wanted.Either one other) = keyword_text one ++ (codes " or " ++ keyword_text other)
wanted_text (wanted.Name name) = name_text name
wanted_text (wanted.Number low high) = codes "a number from " ++ (decimal low ++ (codes " to " ++ decimal high))
wanted_text wanted.FourOctets = codes "a number from 0 to 4294967295"
wanted_text (wanted.Octets name) = name_text name ++ codes " in hexadecimal"
wanted_text wanted.Version = codes "a version of four hexadecimal digits"
wanted_text wanted.Address = codes "an address, as 192.0.2.1,"
wanted_text wanted.Code = codes "a code of 24 hexadecimal digits"

abbrev pub kind_text : WordFaultKind → List ℕ
kind_text (kinds.Missing wanted) = codes "the line ends where " ++ (wanted_text wanted ++ codes " is wanted")
kind_text kinds.Empty = codes "two spaces, or a space at an end of the line"
kind_text (kinds.Not wanted) = wanted_text wanted ++ codes " is wanted"
kind_text kinds.More = codes "no more words are wanted"

abbrev pub fault_text : WordFault → List ℕ
fault_text fault = codes "word " ++ (decimal fault.place ++ (codes ": " ++ kind_text fault.kind))
