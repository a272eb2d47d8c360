-- A command is read just where its words are as they are wanted.
use Rattle.std.proofs.Common.{◌≡◌, ℕ, ◌+◌, not, List, [], ◌∷◌, ◌++◌, is_some, refl, ◌∙◌, arith}
use Rattle.dms_text.specs.Reading.{word_at}
use Rattle.dms_codes.specs.declared.codes.Order.{Order}
use Rattle.dms_codes.proofs.Options.{is_some_mapped}
use Rattle.dms_text_forms.specs.Form.{fault_from}
use Rattle.dms_text_forms.specs.LineReading.{wanted_at}
use Rattle.dms_text_forms.specs.declared.vocabulary.WordName.TheVariants as names
use Rattle.dms_text_forms.specs.declared.wanted.Wanted.{Wanted}
use Rattle.dms_text_forms.specs.declared.wanted.Wanted.TheVariants as wants
use Rattle.dms_text_causes.proofs.CauseLaws.{end_wanted}
use Rattle.dms_text_causes.proofs.WordsFollow.{Follows, first_then, first_at_end, made_wanted, number_follows, octets_follow}
use Rattle.dms_centre_jobs.specs.Commands.{Activate}
use Rattle.dms_centre_text.specs.CommandForm.{attributes_form, terms_form, form_after}
use Rattle.dms_centre_text.specs.CommandReading.{code_at, last_code_at, next_address_at, row_at, attributes_at, last_terms_at, publish_at, blank_at, command_after}
use Rattle.dms_centre_text.specs.declared.command_word.CommandWord.{CommandWord}
use Rattle.dms_centre_text.specs.declared.command_word.CommandWord.TheVariants as asked
use Rattle.dms_centre_text.proofs.WantedWords.{address_wanted, address_none, code_wanted, code_none}

address_follows : (place : ℕ) (more : List Wanted) (words : List (List ℕ))
    → Follows (fault_from (place + 1) more) (next_address_at words) (fault_from place (wants.Address ∷ more) words)
unfolding fault_from next_address_at wanted_at word_at
address_follows place more [] = grind arith
address_follows place more ([] ∷ words) = grind arith
address_follows place more ((octet ∷ octets) ∷ words) =
    grind (arith, address_wanted ((octet ∷ octets) ∷ words) (octet ∷ octets) words, address_none ((octet ∷ octets) ∷ words))

code_follows : (order : Order) (place : ℕ) (more : List Wanted) (words : List (List ℕ))
    → Follows (fault_from (place + 1) more) (code_at order words) (fault_from place (wants.Code ∷ more) words)
unfolding fault_from code_at wanted_at word_at
code_follows order place more [] = grind arith
code_follows order place more ([] ∷ words) = grind arith
code_follows order place more ((octet ∷ octets) ∷ words) =
    grind (arith, code_wanted order ((octet ∷ octets) ∷ words) (octet ∷ octets) words, code_none order ((octet ∷ octets) ∷ words))

row_follows : (place : ℕ) (more : List Wanted) (words : List (List ℕ))
    → Follows (fault_from ((place + 1) + 1) more) (row_at words) (fault_from place (wants.Number 0 255 ∷ wants.Number 0 65535 ∷ more) words)
unfolding row_at
row_follows place more words =
    first_then (fault_from (place + 1) (wants.Number 0 65535 ∷ more)) _ _ _ _ (number_follows 0 255 place _ words) λ memory.
    first_then (fault_from ((place + 1) + 1) more) _ _ _ _ (number_follows 0 65535 (place + 1) more memory.1) λ number. refl

attributes_follow : (place : ℕ) (more : List Wanted) (words : List (List ℕ))
    → Follows (fault_from (((place + 1) + 1) + 1) more) (attributes_at words)
    (fault_from place (wants.Number 0 255 ∷ wants.Number 0 255 ∷ wants.Number 0 255 ∷ more) words)
unfolding attributes_at
attributes_follow place more words =
    first_then (fault_from (place + 1) (wants.Number 0 255 ∷ wants.Number 0 255 ∷ more)) _ _ _ _ (number_follows 0 255 place _ words) λ beacon.
    first_then (fault_from ((place + 1) + 1) (wants.Number 0 255 ∷ more)) _ _ _ _ (number_follows 0 255 (place + 1) _ beacon.1) λ pixel.
    first_then (fault_from (((place + 1) + 1) + 1) more) _ _ _ _ (number_follows 0 255 ((place + 1) + 1) more pixel.1) λ run. refl

terms_wanted : (place : ℕ) (words : List (List ℕ)) → is_some (last_terms_at words) ≡ not (is_some (fault_from place terms_form words))
unfolding last_terms_at
terms_wanted place words =
    first_at_end (fault_from (place + 1) (wants.Number 0 255 ∷ wants.Address ∷ [])) _ _ _ (number_follows 0 65535 place _ words) λ minutes.
    first_at_end (fault_from ((place + 1) + 1) (wants.Address ∷ [])) _ _ _ (number_follows 0 255 (place + 1) _ minutes.1) λ priority.
    first_at_end (fault_from (((place + 1) + 1) + 1) []) _ _ _ (address_follows ((place + 1) + 1) [] priority.1) λ address.
    end_wanted _ (((place + 1) + 1) + 1) address.1

-- the words after the keyword of a command are read just where they are as they are wanted
pub command_wanted : (order : Order) (keyword : CommandWord) (words : List (List ℕ))
    → is_some (command_after order keyword words) ≡ not (is_some (fault_from 2 (form_after keyword) words))
unfolding publish_at blank_at last_code_at
command_wanted order asked.Publish words =
    first_at_end (fault_from 4 (wants.Octets names.Text ∷ wants.Octets names.Owner ∷ (attributes_form ++ terms_form))) _ _ _ (row_follows 2 _ words) λ row.
    first_at_end (fault_from 5 (wants.Octets names.Owner ∷ (attributes_form ++ terms_form))) _ _ _ (octets_follow names.Text 4 _ row.1) λ text.
    first_at_end (fault_from 6 (attributes_form ++ terms_form)) _ _ _ (octets_follow names.Owner 5 _ text.1) λ owner.
    first_at_end (fault_from 9 terms_form) _ _ _ (attributes_follow 6 terms_form owner.1) λ attributes.
    made_wanted (last_terms_at attributes.1) _ ∙ terms_wanted 9 attributes.1
command_wanted order asked.Blank words =
    first_at_end (fault_from 3 terms_form) _ _ _ (number_follows 0 65535 2 _ words) λ number.
    made_wanted (last_terms_at number.1) _ ∙ terms_wanted 3 number.1
command_wanted order asked.Activate words =
    is_some_mapped Activate (last_code_at order words)
    ∙ first_at_end (fault_from 3 []) _ _ _ (code_follows order 2 [] words) λ code. end_wanted code.0 3 code.1
