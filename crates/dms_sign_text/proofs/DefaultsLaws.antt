-- What the line of a sign's defaults spells is what is read of it.
use Rattle.std.proofs.Common.{◌≡◌, ℕ, List, [], ◌∷◌, Some, refl, ap, subst, ◌∙◌, arith}
use Rattle.std.specs.Prelude.{codes}
use Rattle.std.proofs.lemmas.Option.{same_Some}
use Rattle.dms_text.proofs.WordLaws.{begun_as, goes_on, keyword_found, keyword_only, decimal_found, decimal_only}
use Rattle.dms_face.specs.declared.defaults.Defaults.{Defaults}
use Rattle.dms_sign_text.specs.declared.head.ColoursAndFlash.{ColoursAndFlash}
use Rattle.dms_text_forms.specs.Fields.{SpellsEach, SpellsOctet}
use Rattle.dms_sign_text.specs.Description.{SpellsDefaults, numbers_of}
use Rattle.dms_sign_text.specs.DescriptionReading.{colours_and_flash_at, defaults_with, defaults_of}
use Rattle.dms_text_forms.proofs.WordReading.{last_found}

-- ---- read, and so spelled

record FoundFirst (words : List (List ℕ)) (found : ColoursAndFlash × List (List ℕ)) : Type 0 where
  background_word : List ℕ
  foreground_word : List ℕ
  flash_on_word : List ℕ
  flash_off_word : List ℕ
  words_are : words ≡ background_word ∷ foreground_word ∷ flash_on_word ∷ flash_off_word ∷ found.1
  background : SpellsOctet found.0.background background_word
  foreground : SpellsOctet found.0.foreground foreground_word
  flash_on : SpellsOctet found.0.flash_on flash_on_word
  flash_off : SpellsOctet found.0.flash_off flash_off_word

first_found : (words : List (List ℕ)) (found : ColoursAndFlash × List (List ℕ)) → colours_and_flash_at words ≡ Some found → FoundFirst words found
unfolding colours_and_flash_at
first_found words found e =
    let background = begun_as _ _ _ (decimal_found 0 255 words) e in
    let foreground = begun_as _ _ _ (decimal_found 0 255 background.0.1) background.2 in
    let flash_on = begun_as _ _ _ (decimal_found 0 255 foreground.0.1) foreground.2 in
    let flash_off = begun_as _ _ _ (decimal_found 0 255 flash_on.0.1) flash_on.2 in
    subst (λ (pair : ColoursAndFlash × List (List ℕ)). FoundFirst words pair) (same_Some _ _ flash_off.2) (record {
      background_word = background.1.word;
      foreground_word = foreground.1.word;
      flash_on_word = flash_on.1.word;
      flash_off_word = flash_off.1.word;
      words_are = background.1.words_are
          ∙ ap (λ rest. background.1.word ∷ rest) (foreground.1.words_are
          ∙ ap (λ rest. foreground.1.word ∷ rest) (flash_on.1.words_are ∙ ap (λ rest. flash_on.1.word ∷ rest) flash_off.1.words_are));
      background = background.1.spelled;
      foreground = foreground.1.spelled;
      flash_on = flash_on.1.spelled;
      flash_off = flash_off.1.spelled;
    })

record FoundAll (first : ColoursAndFlash) (words : List (List ℕ)) (found : Defaults) : Type 0 where
  font_word : List ℕ
  line_word : List ℕ
  page_word : List ℕ
  on_word : List ℕ
  off_word : List ℕ
  words_are : words ≡ font_word ∷ line_word ∷ page_word ∷ on_word ∷ off_word ∷ []
  font : SpellsOctet found.font font_word
  line : SpellsOctet found.line line_word
  page : SpellsOctet found.page page_word
  on : SpellsOctet found.on on_word
  off : SpellsOctet found.off off_word
  background : first.background ≡ found.background
  foreground : first.foreground ≡ found.foreground
  flash_on : first.flash_on ≡ found.flash_on
  flash_off : first.flash_off ≡ found.flash_off

all_found : (first : ColoursAndFlash) (words : List (List ℕ)) (found : Defaults) → defaults_with first words ≡ Some found → FoundAll first words found
unfolding defaults_with
all_found first words found e =
    let font = begun_as _ _ _ (decimal_found 0 255 words) e in
    let line = begun_as _ _ _ (decimal_found 0 255 font.0.1) font.2 in
    let page = begun_as _ _ _ (decimal_found 0 255 line.0.1) line.2 in
    let on = begun_as _ _ _ (decimal_found 0 255 page.0.1) page.2 in
    let off = begun_as _ _ _ (decimal_found 0 255 on.0.1) on.2 in
    let end = last_found _ _ found off.2 in
    subst (λ (read : Defaults). FoundAll first words read) end.1 (record {
      font_word = font.1.word;
      line_word = line.1.word;
      page_word = page.1.word;
      on_word = on.1.word;
      off_word = off.1.word;
      words_are = font.1.words_are
          ∙ ap (λ rest. font.1.word ∷ rest) (line.1.words_are
          ∙ ap (λ rest. line.1.word ∷ rest) (page.1.words_are
          ∙ ap (λ rest. page.1.word ∷ rest) (on.1.words_are
          ∙ ap (λ rest. on.1.word ∷ rest) (off.1.words_are ∙ ap (λ rest. off.1.word ∷ rest) end.0))));
      font = font.1.spelled;
      line = line.1.spelled;
      page = page.1.spelled;
      on = on.1.spelled;
      off = off.1.spelled;
      background = refl;
      foreground = refl;
      flash_on = refl;
      flash_off = refl;
    })

both_found : (first : ColoursAndFlash) (defaults : Defaults) (words after rest : List (List ℕ)) → words ≡ codes "defaults" ∷ after → FoundFirst after (first, rest)
    → FoundAll first rest defaults → SpellsDefaults defaults words
both_found first defaults words after rest are begins goes = grind arith

pub defaults_found : (defaults : Defaults) (words : List (List ℕ)) → defaults_of words ≡ Some defaults → SpellsDefaults defaults words
unfolding defaults_of
defaults_found defaults words e =
    let read = begun_as _ _ _ (keyword_found (codes "defaults") words) e in
    let first = begun_as _ _ _ (first_found read.0) read.2 in
    both_found first.0.0 defaults words read.0 first.0.1 read.1 first.1
    (all_found first.0.0 first.0.1 defaults first.2)

-- ---- spelled, and so read

record NineWords (d : Defaults) (words : List (List ℕ)) : Type 0 where
  background : List ℕ
  foreground : List ℕ
  flash_on : List ℕ
  flash_off : List ℕ
  font : List ℕ
  line : List ℕ
  page : List ℕ
  on : List ℕ
  off : List ℕ
  words_are : words ≡ background ∷ foreground ∷ flash_on ∷ flash_off ∷ font ∷ line ∷ page ∷ on ∷ off ∷ []
  at_background : SpellsOctet d.background background
  at_foreground : SpellsOctet d.foreground foreground
  at_flash_on : SpellsOctet d.flash_on flash_on
  at_flash_off : SpellsOctet d.flash_off flash_off
  at_font : SpellsOctet d.font font
  at_line : SpellsOctet d.line line
  at_page : SpellsOctet d.page page
  at_on : SpellsOctet d.on on
  at_off : SpellsOctet d.off off

nine_words : (d : Defaults) (words : List (List ℕ)) → SpellsEach SpellsOctet (numbers_of d) words → NineWords d words
nine_words d words s = grind arith

abbrev first_of_all : Defaults → ColoursAndFlash
first_of_all d = record { background = d.background; foreground = d.foreground; flash_on = d.flash_on; flash_off = d.flash_off }

first_only : (d : Defaults) (a b c e : List ℕ) (rest : List (List ℕ)) → SpellsOctet d.background a → SpellsOctet d.foreground b → SpellsOctet d.flash_on c → SpellsOctet d.flash_off e
    → colours_and_flash_at (a ∷ b ∷ c ∷ e ∷ rest) ≡ Some (first_of_all d, rest)
unfolding colours_and_flash_at
first_only d a b c e rest at_a at_b at_c at_e =
    goes_on _ _ _ (decimal_only 0 255 d.background a (b ∷ c ∷ e ∷ rest) at_a)
    ∙ goes_on _ _ _ (decimal_only 0 255 d.foreground b (c ∷ e ∷ rest) at_b)
    ∙ goes_on _ _ _ (decimal_only 0 255 d.flash_on c (e ∷ rest) at_c)
    ∙ goes_on _ _ _ (decimal_only 0 255 d.flash_off e rest at_e)

all_only : (d : Defaults) (a b c e f : List ℕ) → SpellsOctet d.font a → SpellsOctet d.line b → SpellsOctet d.page c → SpellsOctet d.on e → SpellsOctet d.off f
    → defaults_with (first_of_all d) (a ∷ b ∷ c ∷ e ∷ f ∷ []) ≡ Some d
unfolding defaults_with
all_only d a b c e f at_a at_b at_c at_e at_f = grind (arith, goes_on, decimal_only)

by_words : (d : Defaults) (words number_words : List (List ℕ)) → words ≡ codes "defaults" ∷ number_words → NineWords d number_words → defaults_of words ≡ Some d
unfolding defaults_of
by_words d words number_words are nine =
    ap defaults_of (are ∙ ap (λ rest. codes "defaults" ∷ rest) nine.words_are)
    ∙ goes_on _ _ _ (keyword_only (codes "defaults") _ (omega arith))
    ∙ goes_on _ _ _ (first_only d nine.background nine.foreground nine.flash_on nine.flash_off _ nine.at_background nine.at_foreground nine.at_flash_on nine.at_flash_off)
    ∙ all_only d nine.font nine.line nine.page nine.on nine.off nine.at_font nine.at_line nine.at_page nine.at_on nine.at_off

pub defaults_only : (defaults : Defaults) (words : List (List ℕ)) → SpellsDefaults defaults words → defaults_of words ≡ Some defaults
defaults_only defaults words spelled = by_words defaults words spelled.number_words spelled.words_are (nine_words defaults spelled.number_words spelled.numbers)
