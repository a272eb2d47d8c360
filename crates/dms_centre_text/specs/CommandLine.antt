-- The lines of an operator's commands (this profile).
use Rattle.std.specs.Prelude.{◌≡◌, ℕ, List, [], ◌∷◌, codes}
use Rattle.dms_text.specs.Octets.{SpellsOctets}
use Rattle.dms_codes.specs.declared.codes.Order.{Order}
use Rattle.dms_centre_jobs.specs.Job.{PublicationModel}
use Rattle.dms_centre_jobs.specs.Commands.{CommandModel, Publish, Blank, Activate}
use Rattle.dms_text_forms.specs.Fields.{SpellsOctet, SpellsTwoOctets, SpellsOne, SpellsAddress}
use Rattle.dms_centre_text.specs.CommandFields.{SpellsCode}

-- `publish MEMORY NUMBER TEXT OWNER BEACON PIXEL RUN MINUTES PRIORITY ADDRESS`
pub record SpellsPublication (publication : PublicationModel) (words : List (List ℕ)) : Type 0 where
  pub memory_word : List ℕ
  pub number_word : List ℕ
  pub text_word : List ℕ
  pub owner_word : List ℕ
  pub beacon_word : List ℕ
  pub pixel_word : List ℕ
  pub run_word : List ℕ
  pub minutes_word : List ℕ
  pub priority_word : List ℕ
  pub address_word : List ℕ
  pub words_are : words
      ≡ codes "publish" ∷ memory_word ∷ number_word ∷ text_word ∷ owner_word ∷ beacon_word ∷ pixel_word ∷ run_word
      ∷ minutes_word ∷ priority_word ∷ address_word ∷ []
  pub memory : SpellsOctet publication.memory memory_word
  pub number : SpellsTwoOctets publication.number number_word
  pub text : SpellsOctets publication.text text_word
  pub owner : SpellsOctets publication.owner owner_word
  pub beacon : SpellsOctet publication.beacon beacon_word
  pub pixel : SpellsOctet publication.pixel pixel_word
  pub run_priority : SpellsOctet publication.run_priority run_word
  pub minutes : SpellsTwoOctets publication.minutes minutes_word
  pub priority : SpellsOctet publication.priority priority_word
  pub address : SpellsAddress publication.address address_word

-- `blank NUMBER MINUTES PRIORITY ADDRESS`
pub record SpellsBlank (number minutes priority : ℕ) (address : List ℕ) (words : List (List ℕ)) : Type 0 where
  pub number_word : List ℕ
  pub minutes_word : List ℕ
  pub priority_word : List ℕ
  pub address_word : List ℕ
  pub words_are : words ≡ codes "blank" ∷ number_word ∷ minutes_word ∷ priority_word ∷ address_word ∷ []
  pub has_number : SpellsTwoOctets number number_word
  pub has_minutes : SpellsTwoOctets minutes minutes_word
  pub has_priority : SpellsOctet priority priority_word
  pub has_address : SpellsAddress address address_word

-- the words of a command; its code is in this order
abbrev pub SpellsCommand : Order → CommandModel → List (List ℕ) → Type 0
SpellsCommand order (Publish publication) words = SpellsPublication publication words
SpellsCommand order (Blank number minutes priority address) words = SpellsBlank number minutes priority address words
SpellsCommand order (Activate code) words = SpellsOne (codes "activate") (SpellsCode order code) words
