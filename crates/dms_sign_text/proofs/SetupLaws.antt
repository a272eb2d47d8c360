-- Signs that were made of what was read are the signs that the lines spell.
use Rattle.std.proofs.Common.{◌≡◌, ◌⊎◌, ℕ, List, [], ◌∷◌, map, Option, Some, None, sym, ap, subst, ◌∙◌, inl, inr, arith}
use Rattle.std.specs.Str.Lines.{lines}
use Rattle.std.proofs.lemmas.List.{append-nil}
use Rattle.dms_text.specs.Lines.{NumberedLine, TextLeft, lines_left, kept_lines}
use Rattle.dms_text.proofs.LineFilter.{octets-numbered}
use Rattle.dms_sign.specs.State.{SignState}
use Rattle.dms_sign_text.specs.declared.fault.DescriptionFault.{DescriptionFault}
use Rattle.dms_sign_text.specs.declared.fault.DescriptionFault.TheVariants.{Memory}
use Rattle.dms_sign_text.specs.declared.reader.DescriptionParts.{DescriptionParts}
use Rattle.dms_sign_text.specs.declared.rows.OwnedRow.{OwnedRow}
use Rattle.dms_sign_text.specs.declared.setup.Setup.{Setup}
use Rattle.dms_sign_text.specs.Description.{Description, SpellsSign}
use Rattle.dms_sign_text.specs.DescriptionReading.{described, description_at}
use Rattle.dms_sign_text.specs.Setups.{octets_left, BeginsWith, IsMade}
use Rattle.dms_sign_text.specs.Views.{head_seen, row_seen, MadeOrRefused}
use Rattle.dms_sign_text.specs.PartsView.{parts_seen}
use Rattle.dms_sign_text.proofs.DescriptionLaws.{read_is_spelled, none_begins, refused_begins, one_prefix}

-- ---- the first lines

-- the answer of `made` is about the parts
pub made_of_parts : (parts : DescriptionParts) (rows : List OwnedRow) (made found : Option SignState) → rows ≡ parts.rows.items → made ≡ found
    → MadeOrRefused (described (head_seen parts.head) (map row_seen rows) parts.fonts.items) made → MadeOrRefused (parts_seen parts) found
made_of_parts parts rows made found are is answer = grind arith

pub is_made : (lines rest : List (List ℕ)) (parts : DescriptionParts) (sign : SignState) (setup : Setup) → description_at lines ≡ Some (parts_seen parts, rest) → MadeOrRefused (parts_seen parts) (Some sign)
    → setup.sign ≡ sign → setup.first ≡ parts.head.first → (it : Description) × BeginsWith lines rest it × IsMade it setup
is_made lines rest parts sign setup read made same first =
    (parts_seen parts, read_is_spelled lines rest (parts_seen parts) read made.1, record { sign = same ∙ made.0; first = first })

pub is_refused : (lines rest : List (List ℕ)) (parts : DescriptionParts) → description_at lines ≡ Some (parts_seen parts, rest) → MadeOrRefused (parts_seen parts) None
    → (it : Description) (others : List (List ℕ)) → BeginsWith lines others it → ⊥
is_refused lines rest parts read refused = refused_begins lines rest (parts_seen parts) read refused

pub is_none : (lines : List (List ℕ)) (fault : DescriptionFault) → (fault ≡ Memory) ⊎ (description_at lines ≡ None)
    → (fault ≡ Memory) ⊎ ((it : Description) (rest : List (List ℕ)) → BeginsWith lines rest it → ⊥)
is_none lines fault (inl memory) = inl memory
is_none lines fault (inr none) = inr (none_begins lines none)

-- ---- the whole text

abbrev pub from_start : List ℕ → TextLeft
from_start text = record { number = 1; text = text }

pub kept : (text : List ℕ) → octets_left (from_start text) ≡ kept_lines text
kept text = octets-numbered 1 (lines text)

pub whole_begins : (text : List ℕ) (it : Description) → SpellsSign (kept_lines text) it → BeginsWith (octets_left (from_start text)) [] it
whole_begins text it spelled = record { prefix = kept_lines text; lines_are = kept text ∙ sym (append-nil (kept_lines text)); spelled = spelled }

begins_whole : (text : List ℕ) (rest : List (List ℕ)) (it : Description) → rest ≡ [] → BeginsWith (octets_left (from_start text)) rest it → SpellsSign (kept_lines text) it
begins_whole text rest it p begins = grind (arith, append-nil, kept)

pub whole_read : (text : List ℕ) (left rest : TextLeft) (setup : Setup) → left ≡ from_start text → lines_left rest ≡ []
    → (it : Description) × BeginsWith (octets_left left) (octets_left rest) it × IsMade it setup → (it : Description) × SpellsSign (kept_lines text) it × IsMade it setup
whole_read text left rest setup is it read = grind (arith, begins_whole)

-- a line after the sign's own
pub line_after : (text : List ℕ) (left rest : TextLeft) (setup : Setup) (line : NumberedLine) (others : List NumberedLine) → left ≡ from_start text → lines_left rest ≡ line ∷ others
    → (it : Description) × BeginsWith (octets_left left) (octets_left rest) it × IsMade it setup → (it : Description) → SpellsSign (kept_lines text) it → ⊥
line_after text left rest setup line others is some read it spelled =
    let begins = subst (λ (l : TextLeft). BeginsWith (octets_left l) (octets_left rest) read.0) is read.1 in
    let none : octets_left rest ≡ [] = (one_prefix (octets_left (from_start text)) (octets_left rest) [] read.0 it begins (whole_begins text it spelled)).1 in
    let more : octets_left rest ≡ line.octets ∷ map (λ (l : NumberedLine). l.octets) others = ap (map (λ (l : NumberedLine). l.octets)) some in
    absurd (let wrong : [] ≡ line.octets ∷ map (λ (l : NumberedLine). l.octets) others = sym none ∙ more in cc)

pub whole_is_none : (text : List ℕ) (left : TextLeft) (fault : DescriptionFault) → left ≡ from_start text
    → (fault ≡ Memory) ⊎ ((it : Description) (rest : List (List ℕ)) → BeginsWith (octets_left left) rest it → ⊥)
    → (fault ≡ Memory) ⊎ ((it : Description) → SpellsSign (kept_lines text) it → ⊥)
whole_is_none text left fault is (inl memory) = inl memory
whole_is_none text left fault is (inr none) =
    inr (λ it spelled. none it [] (subst (λ (l : TextLeft). BeginsWith (octets_left l) [] it) (sym is) (whole_begins text it spelled)))
