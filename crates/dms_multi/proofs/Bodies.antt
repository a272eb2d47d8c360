-- What reading a tag's body finds is spelled so, and what is spelled so is found.
use Rattle.std.proofs.Common.{◌≡◌, ℕ, true, not, ◌==◌, eqb, List, [], ◌∷◌, ◌++◌, Option, Some, None, Ok, option_map, refl, sym, ap, ◌∙◌, inl, inr, arith, subst, append-nil}
use Rattle.std.specs.Prelude.{codes, ok_or}
use Rattle.std.specs.Char.{to_ascii_lowercase}
use Rattle.std.specs.List.{list_all}
use Rattle.std.specs.Str.{str_to_ascii_lowercase}
use Rattle.std.proofs.lemmas.Bool.{eqb-true, and_parts, not-true}
use Rattle.dms_multi.specs.declared.fault.FaultCode.TheVariants.{UnsupportedTagValue}
use Rattle.dms_multi.specs.declared.tag.TagName.{TagName}
use Rattle.dms_multi.specs.declared.tag.TagName.TheVariants.{Cb, Pb, Cf, Fo, Fl, EndFl, Hc, Jl, Jp, Nl, Np, Pt}
use Rattle.dms_multi.specs.declared.item.Item.{Item}
use Rattle.dms_multi.specs.declared.item.Item.TheVariants.{Char, Background, Foreground, Font, FlashOn, FlashEnd, JustLine, JustPage, NewLine, NewPage, PageTime}
use Rattle.dms_multi.specs.declared.item.Lead.{Lead}
use Rattle.dms_multi.specs.declared.item.Lead.TheVariants.{Lit, Dark}
use Rattle.dms_multi.specs.declared.value.TwoTimes.{TwoTimes}
use Rattle.dms_multi.specs.Grammar.{Word, Times, LaterTime, FontValue, FlashTimes, TagBody}
use Rattle.dms_multi.specs.TagReading.{times_of, name_at, lit_first, dark_first, flash_of, page_time_of, item_alone, item_of, body_in, body_item}
use Rattle.dms_multi.proofs.Cuts.{IsFree, free_append}
use Rattle.dms_text.proofs.NumberLaws.{number_found, number_only}
use Rattle.dms_multi.proofs.Values.{chosen, value_found, value_again, free_digits, free_value, times_found, one_letter, times_again, font_found, font_again}
use Rattle.dms_multi.proofs.Tags.{spelling, HasName, name_found, name_again}

-- ---- what is found is spelled so

made : {A : Type 0} (make : A → Item) (o : Option A) (item : Item) (body : List ℕ) → ((v : A) → o ≡ Some v → TagBody (make v) body) → option_map make o ≡ Some item → TagBody item body
made make o item body spelled e = grind arith

alone_found : (i item : Item) (value : List ℕ) → item_alone i value ≡ Some item → (value ≡ []) × (i ≡ item)
alone_found i item value e = grind arith

flash_found : (word value : List ℕ) (item : Item) → Word (codes "fl") word → flash_of value ≡ Some item → TagBody item (word ++ value)
unfolding flash_of
flash_found word [] item is e =
    let same : FlashOn Lit None None ≡ item = cc in
    subst (λ (i : Item). TagBody i (word ++ [])) same (record { front = word; back = []; first = is; second = inl (refl, refl, refl); parts = refl })
flash_found word (c ∷ rest) item is e = elim (chosen (to_ascii_lowercase c == 116) e) [
  | inl lit ↦ made lit_first (times_of 111 99 rest) item (word ++ c ∷ rest) (λ t found. record {
    front = word;
    back = c ∷ rest;
    first = is;
    second = inr (record { front = c ∷ []; back = rest; first = ap (λ d. d ∷ []) (eqb-true _ _ lit.0); second = times_found 111 99 rest t found; parts = refl });
    parts = refl;
  }) lit.1
  | inr other ↦ elim (chosen (to_ascii_lowercase c == 111) other.1) [
    | inl dark ↦ made dark_first (times_of 116 99 rest) item (word ++ c ∷ rest) (λ t found. record {
      front = word;
      back = c ∷ rest;
      first = is;
      second = record { front = c ∷ []; back = rest; first = ap (λ d. d ∷ []) (eqb-true _ _ dark.0); second = times_found 116 99 rest t found; parts = refl };
      parts = refl;
    }) dark.1
    | inr neither ↦ absurd (let never : None ≡ Some item = neither.1 in cc)
  ]
]

spelled_by : (name : TagName) (word value : List ℕ) (item : Item) → Word (spelling name) word → item_of name value ≡ Some item → TagBody item (word ++ value)
unfolding item_of page_time_of
spelled_by name word value item is e = grind (arith, made, value_found, font_found, flash_found, alone_found, append-nil, number_found, times_found)

ok_or_found : {A E : Type 0} (o : Option A) (code : E) (x : A) → ok_or o code ≡ Ok x → o ≡ Some x
ok_or_found o code x e = grind arith

body_found_in : (body : List ℕ) (item : Item) (o : Option (TagName × List ℕ)) → ((name : TagName) (value : List ℕ) → o ≡ Some (name, value) → HasName name body value) → body_in o ≡ Ok item → TagBody item body
body_found_in body item None named e = absurd cc
body_found_in body item (Some (name, value)) named e =
    let has = named name value refl in
    subst (TagBody item) (sym has.parts) (spelled_by name has.word value item has.is (ok_or_found (item_of name value) UnsupportedTagValue item e))

pub body_found : (body : List ℕ) (item : Item) → body_item body ≡ Ok item → TagBody item body
unfolding body_item
body_found body item e = body_found_in body item (name_at body) (name_found body) e

-- ---- what is spelled so is found

-- the body's name, after which its item is read
pub record IsNamed (item : Item) (body : List ℕ) : Type 0 where
  pub name : TagName
  pub value : List ℕ
  pub has : HasName name body value
  pub gives : item_of name value ≡ Some item

named_by : (name : TagName) (item : Item) (body word value : List ℕ) → Word (spelling name) word → body ≡ word ++ value → item_of name value ≡ Some item → IsNamed item body
named_by name item body word value is parts gives = record { name = name; value = value; has = record { word = word; is = is; parts = parts }; gives = gives }

flash_lit : (lit dark : Option ℕ) (value : List ℕ) → FlashTimes Lit lit dark value → flash_of value ≡ Some (FlashOn Lit lit dark)
unfolding flash_of
flash_lit lit dark value (inl nothing) = rw (nothing.0, nothing.1, nothing.2) refl
flash_lit lit dark value (inr times) =
    let letter = one_letter 116 times.front times.first in
    let whole : value ≡ letter.0 ∷ times.back = times.parts ∙ ap (λ t. t ++ times.back) letter.1 in
    ap flash_of whole ∙ rw (letter.2, times_again 111 99 lit dark times.back (omega arith) times.second) refl

flash_dark : (lit dark : Option ℕ) (value : List ℕ) → FlashTimes Dark lit dark value → flash_of value ≡ Some (FlashOn Dark lit dark)
unfolding flash_of
flash_dark lit dark value times =
    let letter = one_letter 111 times.front times.first in
    let whole : value ≡ letter.0 ∷ times.back = times.parts ∙ ap (λ t. t ++ times.back) letter.1 in
    ap flash_of whole ∙ rw (letter.2, times_again 116 99 dark lit times.back (omega arith) times.second) refl

named : (item : Item) (body : List ℕ) → TagBody item body → IsNamed item body
unfolding item_of page_time_of
named (Char c) body b = named_by Hc (Char c) body b.front b.back b.first b.parts (ap (option_map Char) (number_only 16 4 c b.back b.second))
named (Background colour) body b = elim b.first [
  | inl cb ↦ named_by Cb (Background colour) body b.front b.back cb b.parts (ap (option_map Background) (value_again 0 9 colour b.back b.second))
  | inr pb ↦ named_by Pb (Background colour) body b.front b.back pb b.parts (ap (option_map Background) (value_again 0 9 colour b.back b.second))
]
named (Foreground colour) body b = named_by Cf (Foreground colour) body b.front b.back b.first b.parts (ap (option_map Foreground) (value_again 0 9 colour b.back b.second))
named (Font font) body b = named_by Fo (Font font) body b.front b.back b.first b.parts (ap (option_map Font) (font_again font b.back b.second))
named (FlashOn Lit lit dark) body b = named_by Fl (FlashOn Lit lit dark) body b.front b.back b.first b.parts (flash_lit lit dark b.back b.second)
named (FlashOn Dark lit dark) body b = named_by Fl (FlashOn Dark lit dark) body b.front b.back b.first b.parts (flash_dark lit dark b.back b.second)
named FlashEnd body b = named_by EndFl FlashEnd body body [] b (sym (append-nil body)) refl
named (JustLine place) body b = named_by Jl (JustLine place) body b.front b.back b.first b.parts (ap (option_map JustLine) (value_again 2 4 place b.back b.second))
named (JustPage place) body b = named_by Jp (JustPage place) body b.front b.back b.first b.parts (ap (option_map JustPage) (value_again 2 4 place b.back b.second))
named (NewLine gap) body b = named_by Nl (NewLine gap) body b.front b.back b.first b.parts (ap (option_map NewLine) (value_again 0 9 gap b.back b.second))
named NewPage body b = named_by Np NewPage body body [] b (sym (append-nil body)) refl
named (PageTime lit dark) body b = named_by Pt (PageTime lit dark) body b.front b.back b.first b.parts (ap (option_map (λ (t : TwoTimes). PageTime t.first t.second)) (times_again 111 255 lit dark b.back (omega arith) b.second))

pub body_again : (item : Item) (body : List ℕ) → TagBody item body → body_item body ≡ Ok item
unfolding body_item
body_again item body b =
    let n = named item body b in
    ap body_in (name_again n.name body n.value n.has) ∙ ap (λ (o : Option Item). ok_or o UnsupportedTagValue) n.gives

-- the name that stands at the front of a body
pub body_name : (item : Item) (body : List ℕ) → TagBody item body → (name : TagName) × (value : List ℕ) × HasName name body value
body_name item body b = let n = named item body b in (n.name, n.value, n.has)

-- ---- no body holds a closing bracket

free_word : (word : List ℕ) → list_all (λ c. not (eqb c 93)) (str_to_ascii_lowercase word) ≡ true → IsFree 93 word
free_word [] test = tt
free_word (c ∷ cs) test = let both = and_parts (not (eqb (to_ascii_lowercase c) 93)) _ test in (not-true _ both.0, free_word cs both.1)

pub free_name : (name word : List ℕ) → list_all (λ c. not (eqb c 93)) name ≡ true → Word name word → IsFree 93 word
free_name name word test is = free_word word (ap (list_all (λ c. not (eqb c 93))) is ∙ test)

free_parts : (body front back : List ℕ) → body ≡ front ++ back → IsFree 93 front → IsFree 93 back → IsFree 93 body
free_parts body front back parts first second = subst (IsFree 93) (sym parts) (free_append 93 front back first second)

free_later : (letter : List ℕ) (high : ℕ) (time : Option ℕ) (text : List ℕ) → list_all (λ c. not (eqb c 93)) letter ≡ true → LaterTime letter high time text → IsFree 93 text
free_later letter high time text test p = grind (arith, free_parts, free_name, free_value)

free_times : (letter : List ℕ) (high : ℕ) (first second : Option ℕ) (text : List ℕ) → list_all (λ c. not (eqb c 93)) letter ≡ true → Times letter high first second text → IsFree 93 text
free_times letter high first second text test times = free_parts text times.front times.back times.parts (free_value 93 0 high first times.front (omega arith) times.first) (free_later letter high second times.back test times.second)

free_font : (font : Option (ℕ × Option ℕ)) (text : List ℕ) → FontValue font text → IsFree 93 text
free_font None text nothing = subst (IsFree 93) (sym nothing) tt
free_font (Some (n, None)) text number = free_digits 10 93 text (omega arith) number.spelled.numeral.1
free_font (Some (n, Some version)) text parts = grind (arith, free_digits, free_parts)

free_flash : (first : Lead) (lit dark : Option ℕ) (text : List ℕ) → FlashTimes first lit dark text → IsFree 93 text
free_flash Lit lit dark text (inl nothing) = subst (IsFree 93) (sym nothing.2) tt
free_flash Lit lit dark text (inr times) = free_parts text times.front times.back times.parts (free_name (codes "t") times.front refl times.first) (free_times (codes "o") 99 lit dark times.back refl times.second)
free_flash Dark lit dark text times = free_parts text times.front times.back times.parts (free_name (codes "o") times.front refl times.first) (free_times (codes "t") 99 dark lit times.back refl times.second)

pub free_body : (item : Item) (body : List ℕ) → TagBody item body → IsFree 93 body
free_body (Char c) body b = free_parts body b.front b.back b.parts (free_name (codes "hc") b.front refl b.first) (free_digits 16 93 b.back (omega arith) b.second.numeral.1)
free_body (Background colour) body b = free_parts body b.front b.back b.parts (elim b.first [ inl cb ↦ free_name (codes "cb") b.front refl cb | inr pb ↦ free_name (codes "pb") b.front refl pb ]) (free_value 93 0 9 colour b.back (omega arith) b.second)
free_body (Foreground colour) body b = free_parts body b.front b.back b.parts (free_name (codes "cf") b.front refl b.first) (free_value 93 0 9 colour b.back (omega arith) b.second)
free_body (Font font) body b = free_parts body b.front b.back b.parts (free_name (codes "fo") b.front refl b.first) (free_font font b.back b.second)
free_body (FlashOn first lit dark) body b = free_parts body b.front b.back b.parts (free_name (codes "fl") b.front refl b.first) (free_flash first lit dark b.back b.second)
free_body FlashEnd body b = free_name (codes "/fl") body refl b
free_body (JustLine place) body b = free_parts body b.front b.back b.parts (free_name (codes "jl") b.front refl b.first) (free_value 93 2 4 place b.back (omega arith) b.second)
free_body (JustPage place) body b = free_parts body b.front b.back b.parts (free_name (codes "jp") b.front refl b.first) (free_value 93 2 4 place b.back (omega arith) b.second)
free_body (NewLine gap) body b = free_parts body b.front b.back b.parts (free_name (codes "nl") b.front refl b.first) (free_value 93 0 9 gap b.back (omega arith) b.second)
free_body NewPage body b = free_name (codes "np") body refl b
free_body (PageTime lit dark) body b = free_parts body b.front b.back b.parts (free_name (codes "pt") b.front refl b.first) (free_times (codes "o") 255 lit dark b.back refl b.second)
