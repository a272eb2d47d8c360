-- A line that is read word by word has no fault where each word is what is wanted, and else the first that is not.
use Rattle.std.proofs.Common.{◌≡◌, ℕ, ◌+◌, true, false, List, [], ◌∷◌, Option, Some, None, arith, refl, ◌∙◌}
use Rattle.std.specs.Prelude.{IsSome}
use Rattle.dms_text.specs.Reading.{word_at, octets_of, is_end}
use Rattle.dms_text_forms.specs.Form.{is_number, is_wanted, fault_from}
use Rattle.dms_text_forms.specs.FieldsReading.{octets_at}
use Rattle.dms_text_forms.specs.FieldsView.{octets_in}
use Rattle.dms_text_forms.specs.LineReading.{number_within, wanted_at, Takes, Lacks}
use Rattle.dms_text_forms.specs.declared.vocabulary.WordName.{WordName}
use Rattle.dms_text_forms.specs.declared.wanted.Wanted.{Wanted}
use Rattle.dms_text_forms.specs.declared.wanted.Wanted.TheVariants as wants
use Rattle.dms_text_forms.specs.declared.fault.WordFault.{WordFault}
use Rattle.dms_text_forms.specs.declared.fault.WordFaultKind.TheVariants as kinds
use Rattle.dms_text_forms.specs.declared.line_words.LineWords.{LineWords}

pub ends : (wanted : Wanted) (line : LineWords) (fault : WordFault) → is_end line.words ≡ true → fault ≡ record { place = line.place; kind = kinds.Missing wanted }
    → Lacks wanted line fault
unfolding fault_from
ends wanted line fault e is = record { is = λ more. grind (arith, e, is) }

pub empty : (wanted : Wanted) (line : LineWords) (fault : WordFault) → is_end line.words ≡ false → word_at line.words ≡ None → fault ≡ record { place = line.place; kind = kinds.Empty }
    → Lacks wanted line fault
unfolding fault_from
empty wanted line fault some none is = record { is = λ more. grind (arith, some, none, is) }

pub none_at_end : (words : List (List ℕ)) → is_end words ≡ true → word_at words ≡ None
unfolding word_at
none_at_end [] e = refl
none_at_end (word ∷ words) e = absurd (cc)

pub ruleset no_word = (ends, empty, none_at_end)

some_word : (words : List (List ℕ)) (found : List ℕ × List (List ℕ)) → word_at words ≡ Some found → is_end words ≡ false
unfolding word_at
some_word [] found e = absurd (cc)
some_word (word ∷ words) found e = refl

pub other : (wanted : Wanted) (line : LineWords) (fault : WordFault) (word : List ℕ) (rest : List (List ℕ)) → word_at line.words ≡ Some (word, rest) → is_wanted wanted word ≡ false
    → fault ≡ record { place = line.place; kind = kinds.Not wanted } → Lacks wanted line fault
unfolding fault_from
other wanted line fault word rest found not is = record { is = λ more. grind (arith, some_word, found, not, is) }

pub taken : (wanted : Wanted) (line rest : LineWords) (word : List ℕ) → word_at line.words ≡ Some (word, rest.words) → is_wanted wanted word ≡ true
    → rest.place ≡ line.place + 1 → Takes wanted line rest
unfolding fault_from
taken wanted line rest word found fits place = record { place = place; others = λ more. grind (arith, some_word, found, fits, place) }

pub ruleset one_word = (other, taken)

pub name_taken : (name : WordName) (line rest : LineWords) (word : List ℕ) → word_at line.words ≡ Some (word, rest.words) → rest.place ≡ line.place + 1
    → Takes (wants.Name name) line rest
name_taken name line rest word found place = taken (wants.Name name) line rest word found refl place

-- ---- numbers

inside : (most low high number : ℕ) (word : List ℕ) → number_within most low high word ≡ Some number → is_number most low high word ≡ true
inside most low high number word e = grind (arith, e)

outside : (most low high : ℕ) (word : List ℕ) → number_within most low high word ≡ None → is_number most low high word ≡ false
outside most low high word e = grind (arith, e)

pub two_taken : (line rest : LineWords) (word : List ℕ) (low high number : ℕ) → word_at line.words ≡ Some (word, rest.words) → number_within 5 low high word ≡ Some number
    → rest.place ≡ line.place + 1 → Takes (wants.Number low high) line rest
two_taken line rest word low high number found fits place = taken (wants.Number low high) line rest word found (inside 5 low high number word fits) place

pub two_other : (line : LineWords) (fault : WordFault) (word : List ℕ) (rest : List (List ℕ)) (low high : ℕ) → word_at line.words ≡ Some (word, rest) → number_within 5 low high word ≡ None
    → fault ≡ record { place = line.place; kind = kinds.Not (wants.Number low high) } → Lacks (wants.Number low high) line fault
two_other line fault word rest low high found not is = other (wants.Number low high) line fault word rest found (outside 5 low high word not) is

pub four_taken : (line rest : LineWords) (word : List ℕ) (number : ℕ) → word_at line.words ≡ Some (word, rest.words) → number_within 10 0 4294967295 word ≡ Some number
    → rest.place ≡ line.place + 1 → Takes wants.FourOctets line rest
four_taken line rest word number found fits place = taken wants.FourOctets line rest word found (inside 10 0 4294967295 number word fits) place

pub four_other : (line : LineWords) (fault : WordFault) (word : List ℕ) (rest : List (List ℕ)) → word_at line.words ≡ Some (word, rest) → number_within 10 0 4294967295 word ≡ None
    → fault ≡ record { place = line.place; kind = kinds.Not wants.FourOctets } → Lacks wants.FourOctets line fault
four_other line fault word rest found not is = other wants.FourOctets line fault word rest found (outside 10 0 4294967295 word not) is

pub ruleset one_number = (two_taken, two_other, four_taken, four_other)

-- ---- words one after another

pub here : (wanted : Wanted) (more : List Wanted) (line : LineWords) (fault : WordFault) → Lacks wanted line fault → fault_from line.place (wanted ∷ more) line.words ≡ Some fault
here wanted more line fault lacks = lacks.is more

pub later : (wanted : Wanted) (more : List Wanted) (line rest : LineWords) (found : Option WordFault) → Takes wanted line rest → fault_from rest.place more rest.words ≡ found
    → fault_from line.place (wanted ∷ more) line.words ≡ found
later wanted more line rest found takes is = takes.others more ∙ is

pub ruleset words = (here, later)

-- ---- octets

pub some_octets : (name : WordName) (words : List (List ℕ)) (word : List ℕ) (rest : List (List ℕ)) → wanted_at (wants.Octets name) words ≡ Some (word, rest)
    → octets_at words ≡ Some (octets_in word, rest)
unfolding wanted_at octets_at
some_octets name words word rest e = grind (arith, e)

pub no_octets : (name : WordName) (words : List (List ℕ)) → wanted_at (wants.Octets name) words ≡ None → octets_at words ≡ None
unfolding wanted_at octets_at
no_octets name words e = grind (arith, e)

pub are_octets : (name : WordName) (words : List (List ℕ)) (word : List ℕ) (rest : List (List ℕ)) → wanted_at (wants.Octets name) words ≡ Some (word, rest)
    → IsSome (octets_of word)
unfolding wanted_at
are_octets name words word rest e = grind (arith, e)

pub ruleset octets_words = (some_octets, no_octets, are_octets)
