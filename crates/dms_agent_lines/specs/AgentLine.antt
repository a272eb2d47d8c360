-- The lines to a sign and the objects beside it (this profile).
use Rattle.std.specs.Prelude.{◌≡◌, ℕ, List, [], ◌∷◌, ◌++◌, codes}
use Rattle.dms_wire.specs.Message.{VarBind}
use Rattle.dms_text.specs.Words.{words_of}
use Rattle.dms_text.specs.Octets.{SpellsOctets}
use Rattle.dms_text_forms.specs.Fields.{SpellsTwoOctets, SpellsOne}
use Rattle.dms_device.specs.declared.access.ManagerAccess.{ManagerAccess}
use Rattle.dms_device.specs.declared.access.ManagerAccess.TheVariants.{ReadOnly, Number, Octets}
use Rattle.dms_agent_lines.specs.AgentCall.{AgentCall, NewObject, receive, publish, withdraw, show_fonts, tell}
use Rattle.dms_agent_lines.specs.AgentCall.{put_back, save}
use Rattle.dms_agent_state.specs.ObjectFields.{SpellsName, SpellsInteger}
use Rattle.dms_agent_state.specs.SpelledValue.{SpellsValue}

-- a keyword, and the least and the most of what a manager may write
pub record SpellsBounds {A : Type 0} (keyword : List ℕ) (Spelled : A → List ℕ → Type 0) (least most : A)
    (words : List (List ℕ)) : Type 0 where
  pub least_word : List ℕ
  pub most_word : List ℕ
  pub words_are : words ≡ keyword ∷ least_word ∷ most_word ∷ []
  pub has_least : Spelled least least_word
  pub has_most : Spelled most most_word

-- no words: the object is read alone
abbrev pub SpellsAccess : ManagerAccess → List (List ℕ) → Type 0
SpellsAccess ReadOnly words = words ≡ []
SpellsAccess (Number least most) words = SpellsBounds (codes "number") SpellsInteger least most words
SpellsAccess (Octets least most) words = SpellsBounds (codes "octets") SpellsTwoOctets least most words

-- `object NAME VALUE ACCESS`
pub record SpellsObject (object : NewObject) (words : List (List ℕ)) : Type 0 where
  pub name_word : List ℕ
  pub value_words : List (List ℕ)
  pub access_words : List (List ℕ)
  pub words_are : words ≡ codes "object" ∷ name_word ∷ (value_words ++ access_words)
  pub name : SpellsName object.name name_word
  pub value : SpellsValue object.value value_words
  pub access : SpellsAccess object.access access_words

-- `set NAME VALUE`
pub record SpellsSet (binding : VarBind) (words : List (List ℕ)) : Type 0 where
  pub name_word : List ℕ
  pub value_words : List (List ℕ)
  pub words_are : words ≡ codes "set" ∷ name_word ∷ value_words
  pub name : SpellsName binding.name name_word
  pub value : SpellsValue binding.value value_words

abbrev pub SpellsCallWords : AgentCall → List (List ℕ) → Type 0
SpellsCallWords (receive octets) words = SpellsOne (codes "datagram") (SpellsOctets octets) words
SpellsCallWords (publish object) words = SpellsObject object words
SpellsCallWords (withdraw name) words = SpellsOne (codes "no-object") (SpellsName name) words
SpellsCallWords show_fonts words = words ≡ codes "fonts" ∷ []
SpellsCallWords tell words = words ≡ codes "objects" ∷ []
SpellsCallWords (put_back binding) words = SpellsSet binding words
SpellsCallWords save words = words ≡ codes "save" ∷ []

-- the line of a call: its words, with one space between two
abbrev pub SpellsAgentCall : AgentCall → List ℕ → Type 0
SpellsAgentCall call line = SpellsCallWords call (words_of line)

-- the line spells no call
abbrev pub SpellsNoAgentCall : List ℕ → Type 0
SpellsNoAgentCall line = (call : AgentCall) → SpellsAgentCall call line → ⊥
