-- The settings that are numbers: their lines one after the other, read and put.
use Rattle.std.proofs.Common.{◌≡◌, ℕ, ◌+◌, ◌<◌, ◌≤◌, List, [], ◌∷◌, ◌++◌, length, take, drop, get_or, flat_map, Result, Ok, Err, codes, refl, sym, ap, ◌∙◌, drop-cons, add-one, arith}
use Rattle.std.proofs.lemmas.List.{take_more, flat_map_more, drop_all}
use Rattle.dms_text_filling.specs.Filling.{Puts}
use Rattle.dms_text_filling.proofs.Parts.{two, same}
use Rattle.dms_face.specs.declared.defaults.Defaults.{Defaults}
use Rattle.dms_sign_access.specs.declared.settings.Fallbacks.{Fallbacks}
use Rattle.dms_sign_access.specs.declared.settings.SignSettings.{SignSettings}
use Rattle.dms_sign_state.specs.declared.field.SignStateField.TheVariants as fields
use Rattle.dms_sign_state.specs.declared.field.SignFieldLack.{SignFieldLack}
use Rattle.dms_sign_state.specs.declared.field.UnreadSignField.{UnreadSignField}
use Rattle.dms_sign_state.specs.declared.field.UnreadSignField.TheVariants as unread
use Rattle.dms_sign_state.specs.declared.number_settings.NumberSetting.{NumberSetting}
use Rattle.dms_sign_state.specs.NumberSettings.{all_numbers, number_word, number_of, with_number, greatest_number, numbers_room}
use Rattle.dms_sign_state.specs.FieldsText.{number_line, setting_line}
use Rattle.dms_sign_state.specs.WordReading.{◌>>=◌, Reader, Fails, pair, made}
use Rattle.dms_sign_state.specs.FieldReading.{defaults_field, fallbacks_at, setting_at, numbers_at, begun_settings, settings_at}
use Rattle.dms_sign_state.proofs.Forms.{ok_is, goes_on}
use Rattle.dms_sign_state.proofs.FieldForms.{Reads, Any, pair_reads}

abbrev failed : {A : Type 0} → SignFieldLack → Result A SignFieldLack
failed lack = Err lack

-- ---- the values of these

abbrev pub Values : List NumberSetting → Type 0
Values [] = Unit {0}
Values (number ∷ numbers) = ℕ × Values numbers

abbrev pub values_text : (numbers : List NumberSetting) → Values numbers → List ℕ
values_text [] values = []
values_text (number ∷ numbers) values = number_line (number_word number) values.0 ++ values_text numbers values.1

abbrev pub AreSmall : (numbers : List NumberSetting) → Values numbers → Type 0
AreSmall [] values = Unit {0}
AreSmall (number ∷ numbers) values = (values.0 ≤ greatest_number) × AreSmall numbers values.1

abbrev pub values_at : (numbers : List NumberSetting) → Reader (Values numbers)
values_at [] text = Ok (tt, text)
values_at (number ∷ numbers) text = pair (setting_at number) (values_at numbers) text

-- the settings with these values
abbrev pub with_values : (numbers : List NumberSetting) → Values numbers → SignSettings → SignSettings
with_values [] values settings = settings
with_values (number ∷ numbers) values settings = with_values numbers values.1 (with_number number values.0 settings)

-- their values among the settings
abbrev pub values_of : (numbers : List NumberSetting) → SignSettings → Values numbers
values_of [] settings = tt
values_of (number ∷ numbers) settings = (number_of settings number, values_of numbers settings)

none_reads : Reads (values_text []) (AreSmall []) Any (values_at [])
none_reads = record {
  found = λ text x e. (tt, ap (λ (x : Values [] × List ℕ). x.1) (ok_is (tt, text) x e));
  only = λ values rest good next. refl;
  stops = λ text lack e. absurd (let never : Ok (tt, text) ≡ failed {A = Values [] × List ℕ} lack = e in cc);
  some = (tt, tt);
}

pub values_reads : ((number : NumberSetting) → Reads (number_line (number_word number)) (λ n. n ≤ greatest_number) Any (setting_at number))
    → (numbers : List NumberSetting) → Reads (values_text numbers) (AreSmall numbers) Any (values_at numbers)
values_reads one [] = none_reads
values_reads one (number ∷ numbers) =
    pair_reads _ _ _ _ _ _ _ _ (one number) (values_reads one numbers) (λ b rest good next. tt)

-- ---- read among the settings

-- a value with what is read behind it
abbrev both : {A B : Type 0} → A → B × List ℕ → Result ((A × B) × List ℕ) SignFieldLack
both a y = Ok ((a, y.0), y.1)

-- what is made of a value that is read
abbrev made_of : {A B : Type 0} → (A → B) → A × List ℕ → Result (B × List ℕ) SignFieldLack
made_of make x = Ok (make x.0, x.1)

module _ (number : NumberSetting) (numbers : List NumberSetting) (settings : SignSettings) where
  abbrev with_first : ℕ → SignSettings
  with_first n = with_number number n settings

  abbrev others_of : SignSettings → Values numbers → SignSettings
  others_of known values = with_values numbers values known

  abbrev all_of : Values (number ∷ numbers) → SignSettings
  all_of values = with_values (number ∷ numbers) values settings

  abbrev read_with : ℕ × List ℕ → Result (SignSettings × List ℕ) SignFieldLack
  read_with x = numbers_at numbers (with_first x.0) x.1

  abbrev read_beside : ℕ × List ℕ → Result (Values (number ∷ numbers) × List ℕ) SignFieldLack
  read_beside x = values_at numbers x.1 >>= both x.0

  with_others : (n : ℕ) (others : Result (Values numbers × List ℕ) SignFieldLack) → (others >>= made_of (others_of (with_first n))) ≡ ((others >>= both n) >>= made_of all_of)
  with_others n (Ok x) = refl
  with_others n (Err lack) = refl

  with_one : ((known : SignSettings) (text : List ℕ) → numbers_at numbers known text ≡ made (others_of known) (values_at numbers) text)
      → (first : Result (ℕ × List ℕ) SignFieldLack) → (first >>= read_with) ≡ ((first >>= read_beside) >>= made_of all_of)
  with_one others (Ok x) = others (with_first x.0) x.1 ∙ with_others x.0 (values_at numbers x.1)
  with_one others (Err lack) = refl

numbers_are : (numbers : List NumberSetting) (settings : SignSettings) (text : List ℕ)
    → numbers_at numbers settings text ≡ made (λ values. with_values numbers values settings) (values_at numbers) text
unfolding numbers_at
numbers_are [] settings text = refl
numbers_are (number ∷ numbers) settings text =
    with_one number numbers settings (λ known text. numbers_are numbers known text) (setting_at number text)

-- ---- all settings

abbrev pub Parts : Type 0
Parts = Defaults × (Fallbacks × Values all_numbers)

abbrev pub settings_of : Parts → SignSettings
settings_of x = with_values all_numbers x.1.1 (begun_settings x.0 x.1.0)

abbrev pub parts_at : Reader Parts
parts_at = pair (defaults_field fields.Defaults (codes "defaults") (codes " ")) (pair fallbacks_at (values_at all_numbers))

abbrev begun_with : Defaults → Fallbacks → Values all_numbers → SignSettings
begun_with d f values = with_values all_numbers values (begun_settings d f)

abbrev behind_fallbacks : Defaults → Fallbacks × List ℕ → Result (SignSettings × List ℕ) SignFieldLack
behind_fallbacks d f = numbers_at all_numbers (begun_settings d f.0) f.1

abbrev beside_fallbacks : Fallbacks × List ℕ → Result ((Fallbacks × Values all_numbers) × List ℕ) SignFieldLack
beside_fallbacks f = values_at all_numbers f.1 >>= both f.0

abbrev behind_defaults : Defaults × List ℕ → Result (SignSettings × List ℕ) SignFieldLack
behind_defaults d = fallbacks_at d.1 >>= behind_fallbacks d.0

abbrev beside_defaults : Defaults × List ℕ → Result (Parts × List ℕ) SignFieldLack
beside_defaults d = pair fallbacks_at (values_at all_numbers) d.1 >>= both d.0

values_last : (d : Defaults) (f : Fallbacks) (values : Result (Values all_numbers × List ℕ) SignFieldLack)
    → (values >>= made_of (begun_with d f)) ≡ (((values >>= both f) >>= both d) >>= made_of settings_of)
values_last d f (Ok x) = refl
values_last d f (Err lack) = refl

fallbacks_next : (d : Defaults) (fallbacks : Result (Fallbacks × List ℕ) SignFieldLack)
    → (fallbacks >>= behind_fallbacks d) ≡ (((fallbacks >>= beside_fallbacks) >>= both d) >>= made_of settings_of)
fallbacks_next d (Ok f) = numbers_are all_numbers (begun_settings d f.0) f.1 ∙ values_last d f.0 (values_at all_numbers f.1)
fallbacks_next d (Err lack) = refl

defaults_first : (defaults : Result (Defaults × List ℕ) SignFieldLack)
    → (defaults >>= behind_defaults) ≡ ((defaults >>= beside_defaults) >>= made_of settings_of)
defaults_first (Ok d) = fallbacks_next d.0 (fallbacks_at d.1)
defaults_first (Err lack) = refl

pub settings_are : (text : List ℕ) → settings_at text ≡ made settings_of parts_at text
unfolding settings_at
settings_are text = defaults_first (defaults_field fields.Defaults (codes "defaults") (codes " ") text)

-- the same reader
pub read_alike : {A : Type 0} {spelled : A → List ℕ} {Good : A → Type 0} {Next : List ℕ → Type 0} {reader other : Reader A}
    → ((text : List ℕ) → reader text ≡ other text) → Reads spelled Good Next other → Reads spelled Good Next reader
read_alike {spelled = spelled} alike reads = record {
  found = λ text x e. reads.found text x (sym (alike text) ∙ e);
  only = λ a rest good next. alike (spelled a ++ rest) ∙ reads.only a rest good next;
  stops = λ text lack e. reads.stops text lack (sym (alike text) ∙ e);
  some = reads.some;
}

-- ---- one of them after the other

abbrev pub number_after : ℕ → NumberSetting → NumberSetting
number_after i other = get_or all_numbers i other

-- what is read from the next on
pub next_read : (i : ℕ) (other : NumberSetting) (settings : SignSettings) (text : List ℕ) (whole : Result (SignSettings × List ℕ) SignFieldLack) → i < length all_numbers
    → numbers_at (drop i all_numbers) settings text ≡ whole
    → (setting_at (number_after i other) text >>= λ x. numbers_at (drop (i + 1) all_numbers) (with_number (number_after i other) x.0 settings) x.1) ≡ whole
unfolding numbers_at
next_read i other settings text whole less is =
    ap (λ k. setting_at (number_after i other) text >>= λ x. numbers_at (drop k all_numbers) (with_number (number_after i other) x.0 settings) x.1) (add-one i)
    ∙ ap (λ (numbers : List NumberSetting). numbers_at numbers settings text) (sym (drop-cons all_numbers i other less))
    ∙ is

pub one_read : (i : ℕ) (other : NumberSetting) (settings : SignSettings) (text : List ℕ) (whole : Result (SignSettings × List ℕ) SignFieldLack) → i < length all_numbers
    → numbers_at (drop i all_numbers) settings text ≡ whole → (n : ℕ) (rest : List ℕ) → setting_at (number_after i other) text ≡ Ok (n, rest)
    → numbers_at (drop (i + 1) all_numbers) (with_number (number_after i other) n settings) rest ≡ whole
one_read i other settings text whole less is n rest read =
    sym (goes_on (setting_at (number_after i other) text) (λ x. numbers_at (drop (i + 1) all_numbers) (with_number (number_after i other) x.0 settings) x.1) (n, rest) read)
    ∙ next_read i other settings text whole less is

pub one_lacks : (error : UnreadSignField) (i : ℕ) (other : NumberSetting) (settings : SignSettings) (text : List ℕ) (whole : Result (SignSettings × List ℕ) SignFieldLack) → i < length all_numbers
    → numbers_at (drop i all_numbers) settings text ≡ whole → Fails error (setting_at (number_after i other) text) → Fails error whole
one_lacks unread.Memory i other settings text whole less is fails = tt
one_lacks (unread.Lacks lack) i other settings text whole less is fails =
    sym (next_read i other settings text whole less is)
    ∙ ap (λ r. r >>= λ x. numbers_at (drop (i + 1) all_numbers) (with_number (number_after i other) x.0 settings) x.1) fails

pub all_read : (i : ℕ) (settings : SignSettings) (text : List ℕ) (whole : Result (SignSettings × List ℕ) SignFieldLack) → length all_numbers ≤ i
    → numbers_at (drop i all_numbers) settings text ≡ whole → whole ≡ Ok (settings, text)
unfolding numbers_at
all_read i settings text whole more is =
    sym is ∙ ap (λ (numbers : List NumberSetting). numbers_at numbers settings text) (drop_all i all_numbers more)

-- what is put with the next
pub one_put : (settings : SignSettings) (i : ℕ) (other : NumberSetting) (from now next : ℕ) (before written last : List ℕ) → i < length all_numbers
    → Puts (flat_map (setting_line settings) (take i all_numbers)) from before now written → Puts (setting_line settings (number_after i other)) now written next last
    → Puts (flat_map (setting_line settings) (take (i + 1) all_numbers)) from before next last
one_put settings i other from now next before written last less so_far more =
    same (flat_map_more (setting_line settings) [] (take i all_numbers) (number_after i other)
    ∙ ap (flat_map (setting_line settings)) (sym (take_more all_numbers i other less)))
    (two so_far more)

next_room : (i : ℕ) (other : NumberSetting) → i < length all_numbers
    → numbers_room (drop i all_numbers) ≡ length (number_word (number_after i other)) + 7 + numbers_room (drop (i + 1) all_numbers)
next_room i other less =
    ap numbers_room (drop-cons all_numbers i other less)
    ∙ ap (λ k. length (number_word (number_after i other)) + 7 + numbers_room (drop k all_numbers)) (sym (add-one i))

-- the room that is left behind the next
pub room_left : (i : ℕ) (other : NumberSetting) (place end next : ℕ) → i < length all_numbers → end + numbers_room (drop i all_numbers) ≤ place + numbers_room all_numbers
    → next ≤ end + length (number_word (number_after i other)) + 7 → next + numbers_room (drop (i + 1) all_numbers) ≤ place + numbers_room all_numbers
room_left i other place end next less short more = omega (arith, next_room i other less, short, more)

-- what is counted with the next
pub one_counted : (i : ℕ) (other : NumberSetting) (room size : ℕ) → i < length all_numbers → room + numbers_room (drop i all_numbers) ≡ numbers_room all_numbers
    → size ≡ length (number_word (number_after i other)) → (room + (size + 7)) + numbers_room (drop (i + 1) all_numbers) ≡ numbers_room all_numbers
one_counted i other room size less so_far is = omega (arith, next_room i other less, so_far, is)
