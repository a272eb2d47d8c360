-- The lines of fields.
use Rattle.std.proofs.Common.{◌≡◌, ℕ, ◌<◌, ◌≤◌, ◌^◌, false, List, ◌++◌, decimal, codes, refl, sym, ap, ◌∙◌, append_assoc, arith, inl, inr}
use Rattle.std.proofs.lemmas.Bool.{cases_eq}
use Rattle.dms_wire_ber.specs.NameText.{dotted}
use Rattle.dms_text_values.specs.ValueText.{octets_text}
use Rattle.dms_codes.specs.Limits.{longest_text, longest_owner}
use Rattle.dms_codes.specs.declared.status.Status.{Status}
use Rattle.dms_codes.specs.declared.status.Status.TheVariants as statuses
use Rattle.dms_codes.specs.Status.{is_not_used, status_number}
use Rattle.dms_face.specs.declared.defaults.Defaults.{Defaults}
use Rattle.dms_sign_state.specs.declared.field.Put.{Put}
use Rattle.dms_sign_state.specs.declared.field.SignFieldLack.{SignFieldLack}
use Rattle.dms_sign_state.specs.declared.field.Stored.{Stored}
use Rattle.dms_sign_state.specs.declared.field.Stored.TheVariants.{Changeable, Volatile}
use Rattle.dms_sign_state.specs.Fields.{MessageModel, UsedRow, AreDefaults, IsCode, IsMessage, IsAddress, IsUsedRow}
use Rattle.dms_sign_state.specs.FieldsText.{defaults_words, message_words, message_line, address_line, copied_line, row_line}
use Rattle.dms_sign_state.specs.FieldFaults.{put_name, stored_name, most_rows}
use Rattle.dms_sign_state.specs.WordReading.{Reader}
use Rattle.dms_sign_state.specs.FieldReading.{number_line_at, code_line_at, defaults_of, defaults_at, defaults_line_at, message_of, message_at, message_line_at, used_status, status_at, row_of, row_at, address_at}
use Rattle.dms_sign_state.proofs.Forms.{IsRead, pair_read, made_read, after_read}
use Rattle.dms_sign_state.proofs.Groupings.{of_defaults, of_message, of_row}
use Rattle.dms_sign_state.proofs.WordForms.{IsWithin, number_read, below_read, small_read, octets_read, code_read, dotted_read}

-- the same in another spelling
module _ {A : Type 0} {spelled other : A → List ℕ} {Good : A → Type 0} {reader : SignFieldLack → Reader A} (one : IsRead spelled Good reader) (same : (a : A) → spelled a ≡ other a) where
  pub respelled : IsRead other Good reader
  respelled = record {
    found = λ lack text x e. let is = one.found lack text x e in (is.0, is.1 ∙ ap (λ front. front ++ x.1) (same x.0));
    only = λ lack a rest good. ap (λ front. reader lack (front ++ rest)) (sym (same a)) ∙ one.only lack a rest good;
    lacks = λ lack wrong text e. one.lacks lack wrong text e;
  }

pub number_line_read : (name part : List ℕ) (high : ℕ) → high < 10 ^ 10 → IsRead (λ n. name ++ (part ++ (decimal n ++ codes "\n"))) (λ n. n ≤ high) (number_line_at name part high)
number_line_read name part high small = after_read name _ _ _ (after_read part _ _ _ (below_read high 10 small (omega arith)))

pub code_line_read : (name part : List ℕ) (size : ℕ) → 0 < size → IsRead (λ o. name ++ (part ++ (octets_text o ++ codes "\n"))) (IsCode size) (code_line_at name part size)
code_line_read name part size some = after_read name _ _ _ (after_read part _ _ _ (code_read size 10 some (omega arith)))

-- ---- defaults

abbrev spaced : ℕ → List ℕ
spaced n = decimal n ++ codes " "

abbrev last : ℕ → List ℕ
last n = decimal n ++ codes "\n"

-- the nine defaults, each with what ends it
abbrev pub ended_defaults : Defaults → List ℕ
ended_defaults d =
    (spaced d.background ++ (spaced d.foreground ++ (spaced d.flash_on ++ spaced d.flash_off)))
    ++ ((spaced d.font ++ (spaced d.line ++ spaced d.page)) ++ (spaced d.on ++ last d.off))

abbrev parts_of_defaults : Defaults → (ℕ × (ℕ × (ℕ × ℕ))) × ((ℕ × (ℕ × ℕ)) × (ℕ × ℕ))
parts_of_defaults d = ((d.background, (d.foreground, (d.flash_on, d.flash_off))), ((d.font, (d.line, d.page)), (d.on, d.off)))

defaults_read : IsRead ended_defaults AreDefaults defaults_at
unfolding defaults_at
defaults_read =
    let space = small_read 32 (omega arith) in
    let colours = pair_read _ _ _ _ _ _ space (pair_read _ _ _ _ _ _ space (pair_read _ _ _ _ _ _ space space)) in
    let layouts = pair_read _ _ _ _ _ _ space (pair_read _ _ _ _ _ _ space space) in
    let times = pair_read _ _ _ _ _ _ space (small_read 10 (omega arith)) in
    made_read _ _ _ ended_defaults AreDefaults defaults_of parts_of_defaults (pair_read _ _ _ _ _ _ colours (pair_read _ _ _ _ _ _ layouts times))
    (λ x good. (good, refl)) (λ d good. (good, refl, refl))

ended_words : (d : Defaults) → codes " " ++ ended_defaults d ≡ defaults_words d
ended_words d =
    of_defaults (codes " ") (codes "\n") (decimal d.background) (decimal d.foreground) (decimal d.flash_on) (decimal d.flash_off) (decimal d.font) (decimal d.line)
    (decimal d.page) (decimal d.on) (decimal d.off)

pub defaults_line_read : (name part : List ℕ) → IsRead (λ d. name ++ (part ++ ended_defaults d)) AreDefaults (defaults_line_at name part)
defaults_line_read name part = after_read name _ _ _ (after_read part _ _ _ defaults_read)

pub set_defaults_read : IsRead (λ d. codes "defaults" ++ defaults_words d) AreDefaults (defaults_line_at (codes "defaults") (codes " "))
set_defaults_read = respelled (defaults_line_read (codes "defaults") (codes " ")) (λ d. ap (λ words. codes "defaults" ++ words) (ended_words d))

pub copied_read : (name : List ℕ) → IsRead (copied_line name) AreDefaults (defaults_line_at name (codes "-defaults "))
copied_read name =
    respelled (defaults_line_read name (codes "-defaults "))
    (λ d. ap (λ words. name ++ (codes "-defaults" ++ words)) (ended_words d) ∙ sym (append_assoc name (codes "-defaults") (defaults_words d)))

-- ---- messages

abbrev parts_of_message : MessageModel → List ℕ × (List ℕ × (ℕ × (ℕ × ℕ)))
parts_of_message m = (m.text, (m.owner, (m.beacon, (m.pixel, m.priority))))

abbrev pub ended_message : MessageModel → List ℕ
ended_message m =
    (octets_text m.text ++ codes " ") ++ ((octets_text m.owner ++ codes " ") ++ (spaced m.beacon ++ (spaced m.pixel ++ last m.priority)))

message_read : IsRead ended_message IsMessage message_at
unfolding message_at
message_read =
    let space = small_read 32 (omega arith) in
    let numbers = pair_read _ _ _ _ _ _ space (pair_read _ _ _ _ _ _ space (small_read 10 (omega arith))) in
    let owner = pair_read _ _ _ _ _ _ (octets_read longest_owner 32 (omega arith)) numbers in
    made_read _ _ _ ended_message IsMessage message_of parts_of_message (pair_read _ _ _ _ _ _ (octets_read longest_text 32 (omega arith)) owner)
    (λ x good. (good, refl)) (λ m good. (good, refl, refl))

words_of_message : (m : MessageModel) → codes " " ++ ended_message m ≡ message_words m
words_of_message m =
    of_message (codes " ") (codes "\n") (octets_text m.text) (octets_text m.owner) (decimal m.beacon) (decimal m.pixel) (decimal m.priority)

pub message_line_read : (put : Put) → IsRead (message_line (put_name put)) IsMessage (message_line_at put)
message_line_read put =
    respelled (after_read (put_name put) _ _ _ (after_read (codes " ") _ _ _ message_read)) (λ m. ap (λ words. put_name put ++ words) (words_of_message m))

-- ---- rows

status_there : (n : ℕ) → IsWithin 2 5 n → (is_not_used (used_status n) ≡ false) × (n ≡ status_number (used_status n))
status_there n good =
    elim (cases_eq n 2) [
      | inl e ↦ rw e (refl, refl)
      | inr other ↦
          elim (cases_eq n 3) [
            | inl e ↦ rw e (refl, refl)
            | inr another ↦
                elim (cases_eq n 4) [
                  | inl e ↦ rw e (refl, refl)
                  | inr neither ↦ let e : n ≡ 5 = omega (arith, good.0, good.1, other, another, neither) in rw e (refl, refl)
                ]
          ]
    ]

status_again : (s : Status) → is_not_used s ≡ false → IsWithin 2 5 (status_number s) × (used_status (status_number s) ≡ s)
status_again statuses.NotUsed used = absurd cc
status_again statuses.Modifying used = ((omega arith, omega arith), refl)
status_again statuses.Validating used = ((omega arith, omega arith), refl)
status_again statuses.Valid used = ((omega arith, omega arith), refl)
status_again statuses.Error used = ((omega arith, omega arith), refl)

status_read : IsRead (λ s. spaced (status_number s)) (λ s. is_not_used s ≡ false) status_at
status_read =
    made_read _ _ _ (λ s. spaced (status_number s)) (λ s. is_not_used s ≡ false) used_status status_number (number_read 2 5 32 (omega arith) (omega arith))
    (λ n good. let is = status_there n good in (is.0, ap spaced is.1))
    (λ s good. let is = status_again s good in (is.0, refl, is.1))

few : (stored : Stored) → most_rows stored < 10 ^ 10
few Changeable = omega arith
few Volatile = omega arith

abbrev parts_of_row : UsedRow → ℕ × (Status × MessageModel)
parts_of_row row = (row.number, (row.status, row.message))

abbrev ended_row : UsedRow → List ℕ
ended_row row = spaced row.number ++ (spaced (status_number row.status) ++ ended_message row.message)

row_words : (name : List ℕ) (row : UsedRow) → name ++ (codes " " ++ ended_row row) ≡ row_line name row
row_words name row =
    let number = decimal row.number in
    let status = decimal (status_number row.status) in
    of_row name (codes " ") number status (ended_message row.message)
    ∙ ap (λ words. (name ++ codes " " ++ number ++ codes " " ++ status) ++ words) (words_of_message row.message)

pub row_read : (stored : Stored) (least : ℕ) → IsRead (row_line (stored_name stored)) (IsUsedRow least (most_rows stored)) (row_at stored least)
unfolding row_at
row_read stored least =
    let parts = pair_read _ _ _ _ _ _ (number_read least (most_rows stored) 32 (few stored) (omega arith)) (pair_read _ _ _ _ _ _ status_read message_read) in
    let row = made_read _ _ _ ended_row (IsUsedRow least (most_rows stored)) row_of parts_of_row parts (λ x good. (good, refl)) (λ r good. (good, refl, refl)) in
    respelled (after_read (stored_name stored) _ _ _ (after_read (codes " ") _ _ _ row)) (row_words (stored_name stored))

-- ---- addresses

pub address_read : (name : List ℕ) → IsRead (address_line name) IsAddress (address_at name)
unfolding address_at
address_read name =
    respelled (after_read name _ _ _ (after_read (codes "-address ") _ _ _ (dotted_read 10 (omega arith)))) (λ a. sym (append_assoc name (codes "-address ") (dotted a ++ codes "\n")))
