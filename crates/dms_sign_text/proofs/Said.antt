-- The words of a line, read one after another, have no fault, or the first that is not as it is wanted.
use Rattle.std.proofs.Common.{◌≡◌, ℕ, List, ◌∷◌, Option, Some, None, true, false, arith, sym, ap, ◌∙◌}
use Rattle.std.specs.Prelude.{codes}
use Rattle.dms_text.specs.Reading.{same_octets}
use Rattle.dms_codes.specs.declared.codes.Order.TheVariants.{High, Swapped}
use Rattle.dms_sign_text.specs.DescriptionReading.{order_at}
use Rattle.dms_text_forms.specs.Form.{fault_from, word_fault}
use Rattle.dms_text_forms.specs.LineReading.{wanted_at, Takes, Lacks}
use Rattle.dms_text_forms.proofs.LineLaws.{here, later}
use Rattle.dms_text_forms.specs.declared.wanted.Wanted.{Wanted}
use Rattle.dms_text_forms.specs.declared.wanted.Wanted.TheVariants as wanted
use Rattle.dms_text_forms.specs.declared.vocabulary.Keyword.TheVariants as keywords
use Rattle.dms_text_forms.specs.declared.fault.WordFault.{WordFault}
use Rattle.dms_text_forms.specs.declared.line_words.LineWords.{LineWords}

pub all_words : (form : List Wanted) (line : LineWords) (words : List (List ℕ)) (found : Option WordFault) → line ≡ record { place = 1; words = words } → fault_from line.place form line.words ≡ found
    → word_fault form words ≡ found
all_words form line words found is fault = ap (λ (l : LineWords). fault_from l.place form l.words) (sym is) ∙ fault

pub lacks_here : (wanted : Wanted) (more : List Wanted) (line : LineWords) (fault : WordFault) → Lacks wanted line fault → fault_from line.place (wanted ∷ more) line.words ≡ Some fault
lacks_here = here

pub takes_here : (wanted : Wanted) (more : List Wanted) (line rest : LineWords) (found : Option WordFault) → Takes wanted line rest → fault_from rest.place more rest.words ≡ found
    → fault_from line.place (wanted ∷ more) line.words ≡ found
takes_here = later

pub ruleset words = (all_words, lacks_here, takes_here)

-- ---- the order of a checksum's octets

abbrev either : Wanted
either = wanted.Either keywords.High keywords.Swapped

pub order_high : (words : List (List ℕ)) (word : List ℕ) (rest : List (List ℕ)) → wanted_at either words ≡ Some (word, rest) → same_octets word (codes "high") ≡ true → order_at words ≡ Some (High, rest)
unfolding wanted_at
order_high words word rest e same = grind (arith, e, same)

pub order_swapped : (words : List (List ℕ)) (word : List ℕ) (rest : List (List ℕ)) → wanted_at either words ≡ Some (word, rest) → same_octets word (codes "high") ≡ false → order_at words ≡ Some (Swapped, rest)
unfolding wanted_at
order_swapped words word rest e other = grind (arith, e, other)

pub order_none : (words : List (List ℕ)) → wanted_at either words ≡ None → order_at words ≡ None
unfolding wanted_at
order_none words e = grind (arith, e)

pub ruleset orders = (order_high, order_swapped, order_none)
