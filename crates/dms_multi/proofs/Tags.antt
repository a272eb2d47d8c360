-- What reading a tag's body finds is spelled so, and what is spelled so is found.
use Rattle.std.proofs.Common.{◌≡◌, ◌≢◌, ℕ, true, false, ◌&&◌, ◌==◌, eqb, List, [], ◌∷◌, ◌++◌, Some, None, refl, sym, ap, ◌∙◌, inl, inr, arith}
use Rattle.std.specs.Prelude.{codes}
use Rattle.std.specs.Char.{to_ascii_lowercase}
use Rattle.std.specs.Str.{str_to_ascii_lowercase}
use Rattle.std.proofs.lemmas.Bool.{eqb-true, and_parts, ne_eqb}
use Rattle.dms_codes.proofs.Options.{mapped_some}
use Rattle.dms_multi.specs.declared.tag.TagName.{TagName}
use Rattle.dms_multi.specs.declared.tag.TagName.TheVariants.{Cb, Pb, Cf, Fo, Fl, EndFl, Hc, Jl, Jp, Nl, Np, Pt}
use Rattle.dms_multi.specs.Grammar.{Word}
use Rattle.dms_multi.specs.TagReading.{letters_name, end_name, name_at}
use Rattle.dms_multi.proofs.Values.{chosen, lower_other}

-- ---- names

-- a name's letters
abbrev pub spelling : TagName → List ℕ
spelling Cb = codes "cb"
spelling Pb = codes "pb"
spelling Cf = codes "cf"
spelling Fo = codes "fo"
spelling Fl = codes "fl"
spelling EndFl = codes "/fl"
spelling Hc = codes "hc"
spelling Jl = codes "jl"
spelling Jp = codes "jp"
spelling Nl = codes "nl"
spelling Np = codes "np"
spelling Pt = codes "pt"

-- a body begins with the name, and goes on with the value
pub record HasName (name : TagName) (body value : List ℕ) : Type 0 where
  pub word : List ℕ
  pub is : Word (spelling name) word
  pub parts : body ≡ word ++ value

letters_are : (a b x y : ℕ) (k name : TagName) → (((a == x) && (b == y)) ≡ true) × (Some k ≡ Some name) → x ∷ y ∷ [] ≡ spelling k → a ∷ b ∷ [] ≡ spelling name
letters_are a b x y k name found letters = grind arith

letters_found : (a b : ℕ) (name : TagName) → letters_name a b ≡ Some name → a ∷ b ∷ [] ≡ spelling name
unfolding letters_name
letters_found a b name e =
    elim (chosen ((a == 99) && (b == 98)) e) [
      | inl here ↦ letters_are a b 99 98 Cb name here refl
      | inr rest0 ↦
          elim (chosen ((a == 112) && (b == 98)) rest0.1) [
            | inl here ↦ letters_are a b 112 98 Pb name here refl
            | inr rest1 ↦
                elim (chosen ((a == 99) && (b == 102)) rest1.1) [
                  | inl here ↦ letters_are a b 99 102 Cf name here refl
                  | inr rest2 ↦
                      elim (chosen ((a == 102) && (b == 111)) rest2.1) [
                        | inl here ↦ letters_are a b 102 111 Fo name here refl
                        | inr rest3 ↦
                            elim (chosen ((a == 102) && (b == 108)) rest3.1) [
                              | inl here ↦ letters_are a b 102 108 Fl name here refl
                              | inr rest4 ↦
                                  elim (chosen ((a == 104) && (b == 99)) rest4.1) [
                                    | inl here ↦ letters_are a b 104 99 Hc name here refl
                                    | inr rest5 ↦
                                        elim (chosen ((a == 106) && (b == 108)) rest5.1) [
                                          | inl here ↦ letters_are a b 106 108 Jl name here refl
                                          | inr rest6 ↦
                                              elim (chosen ((a == 106) && (b == 112)) rest6.1) [
                                                | inl here ↦ letters_are a b 106 112 Jp name here refl
                                                | inr rest7 ↦
                                                    elim (chosen ((a == 110) && (b == 108)) rest7.1) [
                                                      | inl here ↦ letters_are a b 110 108 Nl name here refl
                                                      | inr rest8 ↦
                                                          elim (chosen ((a == 110) && (b == 112)) rest8.1) [
                                                            | inl here ↦ letters_are a b 110 112 Np name here refl
                                                            | inr rest9 ↦
                                                                elim (chosen ((a == 112) && (b == 116)) rest9.1) [ inl here ↦ letters_are a b 112 116 Pt name here refl | inr rest10 ↦ absurd (let never : None ≡ Some name = rest10.1 in cc) ]
                                                          ]
                                                    ]
                                              ]
                                        ]
                                  ]
                            ]
                      ]
                ]
          ]
    ]

end_found : (a : ℕ) (rest : List ℕ) (name : TagName) (value : List ℕ) → a ≡ 47 → end_name rest ≡ Some (name, value) → HasName name (a ∷ rest) value
unfolding end_name
end_found a [] name value slash e = absurd (let never : None ≡ Some (name, value) = e in cc)
end_found a (b ∷ []) name value slash e = absurd (let never : None ≡ Some (name, value) = e in cc)
end_found a (b ∷ c ∷ rest) name value slash e = elim (chosen ((to_ascii_lowercase b == 102) && (to_ascii_lowercase c == 108)) e) [
  | inl here ↦ (
      let both = and_parts (eqb (to_ascii_lowercase b) 102) (eqb (to_ascii_lowercase c) 108) here.0 in
      let pair : (EndFl, rest) ≡ (name, value) = let equal : Some (EndFl, rest) ≡ Some (name, value) = here.1 in cc in
      let letters : str_to_ascii_lowercase (a ∷ b ∷ c ∷ []) ≡ spelling EndFl = ap (λ d. d ∷ to_ascii_lowercase b ∷ to_ascii_lowercase c ∷ []) (ap to_ascii_lowercase slash) ∙ ap (λ d. 47 ∷ d ∷ to_ascii_lowercase c ∷ []) (eqb-true _ _ both.0) ∙ ap (λ d. 47 ∷ 102 ∷ d ∷ []) (eqb-true _ _ both.1) in
      record {
        word = a ∷ b ∷ c ∷ [];
        is = letters ∙ ap (λ (p : TagName × List ℕ). spelling p.0) pair;
        parts = ap (λ (p : TagName × List ℕ). a ∷ b ∷ c ∷ p.1) pair;
      })
  | inr no_name ↦ absurd (let never : None ≡ Some (name, value) = no_name.1 in cc)
]

pub name_found : (body : List ℕ) (name : TagName) (value : List ℕ) → name_at body ≡ Some (name, value) → HasName name body value
unfolding name_at
name_found [] name value e = absurd (let never : None ≡ Some (name, value) = e in cc)
name_found (a ∷ []) name value e = absurd (let never : None ≡ Some (name, value) = e in cc)
name_found (a ∷ b ∷ rest) name value e = elim (chosen (a == 47) e) [
  | inl slash ↦ end_found a (b ∷ rest) name value (eqb-true a 47 slash.0) slash.1
  | inr letters ↦ (
      let found = mapped_some (λ (k : TagName). (k, rest)) (letters_name (to_ascii_lowercase a) (to_ascii_lowercase b)) (name, value) letters.1 in
      record {
        word = a ∷ b ∷ [];
        is = letters_found _ _ found.0 found.1 ∙ ap (λ (p : TagName × List ℕ). spelling p.0) found.2;
        parts = ap (λ (p : TagName × List ℕ). a ∷ b ∷ p.1) found.2;
      })
]

-- a word of two letters
two_letters : (x y : ℕ) (word : List ℕ) → Word (x ∷ y ∷ []) word → (a b : ℕ) × (word ≡ a ∷ b ∷ []) × (to_ascii_lowercase a ≡ x) × (to_ascii_lowercase b ≡ y)
two_letters x y [] is = absurd cc
two_letters x y (a ∷ []) is = absurd cc
two_letters x y (a ∷ b ∷ []) is = grind arith
two_letters x y (a ∷ b ∷ c ∷ cs) is = absurd cc

three_letters : (x y z : ℕ) (word : List ℕ) → Word (x ∷ y ∷ z ∷ []) word → (a b c : ℕ) × (word ≡ a ∷ b ∷ c ∷ []) × (to_ascii_lowercase a ≡ x) × (to_ascii_lowercase b ≡ y) × (to_ascii_lowercase c ≡ z)
three_letters x y z [] is = absurd cc
three_letters x y z (a ∷ []) is = absurd cc
three_letters x y z (a ∷ b ∷ []) is = absurd cc
three_letters x y z (a ∷ b ∷ c ∷ []) is = grind arith
three_letters x y z (a ∷ b ∷ c ∷ d ∷ cs) is = absurd cc

letters_again : (x y : ℕ) (name : TagName) (body value : List ℕ) → letters_name x y ≡ Some name → x ≢ 47 → spelling name ≡ x ∷ y ∷ [] → HasName name body value → name_at body ≡ Some (name, value)
unfolding name_at
letters_again x y name body value letters other same has =
    let octets = two_letters x y has.word (has.is ∙ same) in
    let differs : octets.0 ≡ 47 → ⊥ = λ e. other (sym octets.3 ∙ ap to_ascii_lowercase e) in
    let whole : body ≡ octets.0 ∷ octets.1 ∷ value = has.parts ∙ ap (λ w. w ++ value) octets.2 in
    let no_slash : eqb octets.0 47 ≡ false = ne_eqb _ _ differs in
    ap name_at whole ∙ rw (no_slash, octets.3, octets.4, letters) refl

pub name_again : (name : TagName) (body value : List ℕ) → HasName name body value → name_at body ≡ Some (name, value)
unfolding name_at end_name letters_name
name_again EndFl body value has =
    let octets = three_letters 47 102 108 has.word has.is in
    let slash : octets.0 ≡ 47 = lower_other octets.0 47 octets.4 (omega arith) in
    let whole : body ≡ octets.0 ∷ octets.1 ∷ octets.2 ∷ value = has.parts ∙ ap (λ w. w ++ value) octets.3 in
    ap name_at whole ∙ rw (slash, octets.5, octets.6) refl
name_again Cb body value has = letters_again 99 98 Cb body value refl (λ e. omega arith) refl has
name_again Pb body value has = letters_again 112 98 Pb body value refl (λ e. omega arith) refl has
name_again Cf body value has = letters_again 99 102 Cf body value refl (λ e. omega arith) refl has
name_again Fo body value has = letters_again 102 111 Fo body value refl (λ e. omega arith) refl has
name_again Fl body value has = letters_again 102 108 Fl body value refl (λ e. omega arith) refl has
name_again Hc body value has = letters_again 104 99 Hc body value refl (λ e. omega arith) refl has
name_again Jl body value has = letters_again 106 108 Jl body value refl (λ e. omega arith) refl has
name_again Jp body value has = letters_again 106 112 Jp body value refl (λ e. omega arith) refl has
name_again Nl body value has = letters_again 110 108 Nl body value refl (λ e. omega arith) refl has
name_again Np body value has = letters_again 110 112 Np body value refl (λ e. omega arith) refl has
name_again Pt body value has = letters_again 112 116 Pt body value refl (λ e. omega arith) refl has

-- no body begins with an opening bracket
first_other : (x y letter : ℕ) (rest : List ℕ) (name : TagName) (body value : List ℕ) → spelling name ≡ x ∷ y ∷ rest → to_ascii_lowercase letter ≡ letter → x ≢ letter → HasName name body value → (c d : ℕ) × (cs : List ℕ) × (body ≡ c ∷ d ∷ cs) × (eqb c letter ≡ false)
first_other x y letter rest name body value same small other has = in_word has.word has.is has.parts where
  in_word : (word : List ℕ) → Word (spelling name) word → body ≡ word ++ value → (c d : ℕ) × (cs : List ℕ) × (body ≡ c ∷ d ∷ cs) × (eqb c letter ≡ false)
  in_word [] is parts = absurd (let never : [] ≡ x ∷ y ∷ rest = is ∙ same in cc)
  in_word (c ∷ []) is parts = absurd (let never : to_ascii_lowercase c ∷ [] ≡ x ∷ y ∷ rest = is ∙ same in cc)
  in_word (c ∷ d ∷ cs) is parts =
      let first : to_ascii_lowercase c ≡ x = let whole : to_ascii_lowercase c ∷ to_ascii_lowercase d ∷ str_to_ascii_lowercase cs ≡ x ∷ y ∷ rest = is ∙ same in cc in
      let differs : c ≡ letter → ⊥ = λ e. other (sym first ∙ ap to_ascii_lowercase e ∙ small) in
      (c, d, cs ++ value, parts, ne_eqb _ _ differs)

pub body_first : (name : TagName) (body value : List ℕ) → HasName name body value → (c d : ℕ) × (cs : List ℕ) × (body ≡ c ∷ d ∷ cs) × (eqb c 91 ≡ false)
body_first Cb body value has = first_other 99 98 91 [] Cb body value refl refl (λ e. omega arith) has
body_first Pb body value has = first_other 112 98 91 [] Pb body value refl refl (λ e. omega arith) has
body_first Cf body value has = first_other 99 102 91 [] Cf body value refl refl (λ e. omega arith) has
body_first Fo body value has = first_other 102 111 91 [] Fo body value refl refl (λ e. omega arith) has
body_first Fl body value has = first_other 102 108 91 [] Fl body value refl refl (λ e. omega arith) has
body_first Hc body value has = first_other 104 99 91 [] Hc body value refl refl (λ e. omega arith) has
body_first Jl body value has = first_other 106 108 91 [] Jl body value refl refl (λ e. omega arith) has
body_first Jp body value has = first_other 106 112 91 [] Jp body value refl refl (λ e. omega arith) has
body_first Nl body value has = first_other 110 108 91 [] Nl body value refl refl (λ e. omega arith) has
body_first Np body value has = first_other 110 112 91 [] Np body value refl refl (λ e. omega arith) has
body_first Pt body value has = first_other 112 116 91 [] Pt body value refl refl (λ e. omega arith) has
body_first EndFl body value has = first_other 47 102 91 (108 ∷ []) EndFl body value refl refl (λ e. omega arith) has
