-- What was set, what is shown and what is reported, as fields.
use Rattle.std.proofs.Common.{◌≡◌, ℕ, zero, suc, ◌<◌, ◌≤◌, ◌^◌, ◌==◌, Bool, true, false, cond, List, [], ◌∷◌, ◌++◌, Option, Some, None, Result, Ok, Err, IfSome, codes, decimal, refl, sym, ap, subst, ◌∙◌, append_assoc, arith, inl, inr}
use Rattle.std.proofs.lemmas.Bool.{cases_eq}
use Rattle.dms_face.specs.declared.defaults.Defaults.{Defaults}
use Rattle.dms_sign_access.specs.declared.settings.Fallbacks.{Fallbacks}
use Rattle.dms_sign_access.specs.declared.settings.SignSettings.{SignSettings}
use Rattle.dms_sign_access.specs.declared.reports.Reports.{Reports}
use Rattle.dms_sign_state.specs.declared.field.Put.{Put}
use Rattle.dms_sign_state.specs.declared.field.Put.TheVariants.{Shown, Kept}
use Rattle.dms_sign_state.specs.declared.field.SignStateField.{SignStateField}
use Rattle.dms_sign_state.specs.declared.field.SignStateField.TheVariants as fields
use Rattle.dms_sign_state.specs.declared.field.SignFieldLack.{SignFieldLack}
use Rattle.dms_sign_state.specs.declared.number_settings.NumberSetting.{NumberSetting}
use Rattle.dms_sign_state.specs.NumberSettings.{all_numbers, number_word, greatest_number}
use Rattle.dms_sign_state.specs.Fields.{MessageModel, PutModel, AreDefaults, AreFallbacks, AreSettings, AreReports, IsCode, IsMessage, IsPut}
use Rattle.dms_sign_state.specs.FieldsText.{message_line, address_line, number_line, part_line, octets_line, defaults_words, fallbacks_text, numbers_text, settings_text, source_line, copied_line, remaining_text, put_text, reports_text, powered_number}
use Rattle.dms_sign_state.specs.FieldFaults.{Stands, NumberStands, CodeStands, put_name}
use Rattle.dms_text_exact.specs.Fronts.{starts_with}
use Rattle.dms_text_exact.proofs.FrontLaws.{starts_only}
use Rattle.dms_text_exact.proofs.DigitLaws.{bytes_more}
use Rattle.dms_sign_state.specs.WordReading.{Reader, pair, made}
use Rattle.dms_sign_state.specs.FieldReading.{number_field, code_field, defaults_field, message_field, address_field, number_line_at, code_line_at, fallbacks_of, fallbacks_at, setting_at, settings_at, number_at, remaining_at, put_of, put_at, reports_of, verdicts_at, reports_at, powered_at}
use Rattle.dms_sign_state.proofs.Forms.{IsRead, bind_ok, bind_err, goes_on, ok_is}
use Rattle.dms_text_values.specs.ValueText.{octets_text}
use Rattle.dms_sign_state.proofs.Groupings.{of_number, of_part, of_part_begun, of_five, of_six, of_reports}
use Rattle.dms_sign_state.proofs.LineForms.{respelled, number_line_read, code_line_read, set_defaults_read, copied_read, message_line_read, address_read}
use Rattle.dms_sign_state.proofs.FieldForms.{Stops, Reads, Any, field_reads, pair_reads, made_reads, stops_as}
use Rattle.dms_sign_state.proofs.NumberForms.{Parts, values_text, values_of, values_reads, settings_of, settings_are, read_alike}

abbrev failed : {A : Type 0} → SignFieldLack → Result A SignFieldLack
failed lack = Err lack

abbrev done : {A : Type 0} → A → Result A SignFieldLack
done x = Ok x

-- one after the other, whatever follows the first
module _ {A B : Type 0} {sa : A → List ℕ} {ga : A → Type 0} {ra : Reader A} {sb : B → List ℕ} {gb : B → Type 0} {nb : List ℕ → Type 0} {rb : Reader B}
    (one : Reads sa ga Any ra) (other : Reads sb gb nb rb) where
  pub then_reads : Reads {A = A × B} (λ p. sa p.0 ++ sb p.1) (λ p. ga p.0 × gb p.1) nb (pair ra rb)
  then_reads = pair_reads sa ga Any ra sb gb nb rb one other (λ b rest good next. tt)

-- ---- examples of values

pub zeros : (n : ℕ) → (octets : List ℕ) × IsCode n octets
zeros zero = ([], (refl, λ i. omega arith))
zeros (suc n) = let z = zeros n in (0 ∷ z.0, (ap suc z.1.0, bytes_more 0 z.0 (omega arith) z.1.1))

pub blank_defaults : (d : Defaults) × AreDefaults d
blank_defaults = (
  record { background = 0; foreground = 0; flash_on = 0; flash_off = 0; font = 0; line = 0; page = 0; on = 0; off = 0 },
  ((omega arith, (omega arith, (omega arith, omega arith))), ((omega arith, (omega arith, omega arith)), (omega arith, omega arith))),
)

pub blank_message : (m : MessageModel) × IsMessage m
blank_message = (
  record { text = []; owner = []; beacon = 0; pixel = 0; priority = 0 },
  ((omega arith, λ i. omega arith), ((omega arith, λ i. omega arith), (omega arith, (omega arith, omega arith)))),
)

-- ---- fields of one kind

pub number_reads : (wanted : SignStateField) (name : List ℕ) (high : ℕ) → high < 10 ^ 10 → ((text : List ℕ) → Stands wanted text → NumberStands name high text)
    → ((text : List ℕ) → NumberStands name high text → Stands wanted text) → Reads (number_line name) (λ n. n ≤ high) Any (number_at wanted name high)
unfolding number_field
number_reads wanted name high small begins stands =
    field_reads {spelled = number_line name} {Good = λ n. n ≤ high} {reader = number_line_at name (codes " ") high} wanted (respelled (number_line_read name (codes " ") high small) (λ n. of_number name (codes " ") (decimal n) (codes "\n"))) (0, omega arith) begins stands

code_read : (name : List ℕ) (size : ℕ) → 0 < size → IsRead (octets_line name) (IsCode size) (code_line_at name (codes " ") size)
code_read name size some = respelled (code_line_read name (codes " ") size some) (λ o. of_number name (codes " ") (octets_text o) (codes "\n"))

pub code_reads : (wanted : SignStateField) (name : List ℕ) (size : ℕ) → 0 < size → ((text : List ℕ) → Stands wanted text → CodeStands name size text)
    → ((text : List ℕ) → CodeStands name size text → Stands wanted text) → Reads (octets_line name) (IsCode size) Any (code_field wanted name (codes " ") size)
unfolding code_field
code_reads wanted name size some begins stands = field_reads wanted (code_read name size some) (zeros size) begins stands

-- ---- what was set

abbrev parts_of_fallbacks : Fallbacks → List ℕ × (List ℕ × (List ℕ × (List ℕ × List ℕ)))
parts_of_fallbacks f = (f.short_power_recovery, (f.long_power_recovery, (f.power_loss, (f.end_duration, f.communications_loss))))

fallbacks_reads : Reads fallbacks_text AreFallbacks Any fallbacks_at
unfolding fallbacks_at
fallbacks_reads =
    let short = code_reads fields.ShortPowerRecovery (codes "short-power-recovery") 5 (omega arith) (λ t s. s) (λ t s. s) in
    let long = code_reads fields.LongPowerRecovery (codes "long-power-recovery") 5 (omega arith) (λ t s. s) (λ t s. s) in
    let loss = code_reads fields.PowerLoss (codes "power-loss") 5 (omega arith) (λ t s. s) (λ t s. s) in
    let end = code_reads fields.EndDuration (codes "end-duration") 5 (omega arith) (λ t s. s) (λ t s. s) in
    let silence = code_reads fields.CommunicationsLoss (codes "communications-loss") 5 (omega arith) (λ t s. s) (λ t s. s) in
    made_reads _ _ _ _ fallbacks_text AreFallbacks fallbacks_of parts_of_fallbacks (then_reads short (then_reads long (then_reads loss (then_reads end silence))))
    (λ x good. (good, of_five (octets_line (codes "short-power-recovery") x.0) (octets_line (codes "long-power-recovery") x.1.0) (octets_line (codes "power-loss") x.1.1.0) (octets_line (codes "end-duration") x.1.1.1.0) (octets_line (codes "communications-loss") x.1.1.1.1))) (λ f good. (good, sym (of_five (octets_line (codes "short-power-recovery") f.short_power_recovery) (octets_line (codes "long-power-recovery") f.long_power_recovery) (octets_line (codes "power-loss") f.power_loss) (octets_line (codes "end-duration") f.end_duration) (octets_line (codes "communications-loss") f.communications_loss)), refl))

number_setting_reads : (number : NumberSetting) → Reads (number_line (number_word number)) (λ n. n ≤ greatest_number) Any (setting_at number)
number_setting_reads number = number_reads (fields.Number number) (number_word number) greatest_number (omega arith) (λ t s. s) (λ t s. s)

abbrev parts_of_settings : SignSettings → Parts
parts_of_settings s = (s.defaults, (s.fallbacks, values_of all_numbers s))

pub settings_reads : Reads settings_text AreSettings Any settings_at
unfolding defaults_field
settings_reads =
    let defaults = field_reads fields.Defaults set_defaults_read blank_defaults (λ t s. s) (λ t s. s) in
    let numbers = values_reads number_setting_reads all_numbers in
    read_alike settings_are
    (made_reads _ _ _ _ settings_text AreSettings settings_of parts_of_settings (then_reads defaults (then_reads fallbacks_reads numbers))
    (λ x good. (good, sym (append_assoc (codes "defaults" ++ defaults_words x.0) (fallbacks_text x.1.0) (values_text all_numbers x.1.1))))
    (λ s good. (good, append_assoc (codes "defaults" ++ defaults_words s.defaults) (fallbacks_text s.fallbacks) (numbers_text s), refl)))

-- ---- what is reported

abbrev parts_of_reports : Reports → (ℕ × (ℕ × (ℕ × ℕ))) × (List ℕ × List ℕ)
parts_of_reports r = ((r.validate_error, (r.activate_error, (r.syntax_error, r.syntax_error_position))), (r.accepted_code, r.failed_code))

pub reports_reads : Reads reports_text AreReports Any reports_at
unfolding reports_at verdicts_at
reports_reads =
    let validated = number_reads fields.ValidateError (codes "validate-error") 255 (omega arith) (λ t s. s) (λ t s. s) in
    let activated = number_reads fields.ActivateError (codes "activate-error") 255 (omega arith) (λ t s. s) (λ t s. s) in
    let syntax = number_reads fields.SyntaxError (codes "syntax-error") 255 (omega arith) (λ t s. s) (λ t s. s) in
    let position = number_reads fields.SyntaxErrorPosition (codes "syntax-error-position") 65535 (omega arith) (λ t s. s) (λ t s. s) in
    let accepted = code_reads fields.AcceptedCode (codes "accepted-code") 12 (omega arith) (λ t s. s) (λ t s. s) in
    let failed = code_reads fields.FailedCode (codes "failed-code") 12 (omega arith) (λ t s. s) (λ t s. s) in
    made_reads _ _ _ _ reports_text AreReports reports_of parts_of_reports (then_reads (then_reads validated (then_reads activated (then_reads syntax position))) (then_reads accepted failed))
    (λ x good. (good, of_reports (number_line (codes "validate-error") x.0.0) (number_line (codes "activate-error") x.0.1.0) (number_line (codes "syntax-error") x.0.1.1.0) (number_line (codes "syntax-error-position") x.0.1.1.1) (octets_line (codes "accepted-code") x.1.0) (octets_line (codes "failed-code") x.1.1))) (λ r good. (good, sym (of_reports (number_line (codes "validate-error") r.validate_error) (number_line (codes "activate-error") r.activate_error) (number_line (codes "syntax-error") r.syntax_error) (number_line (codes "syntax-error-position") r.syntax_error_position) (octets_line (codes "accepted-code") r.accepted_code) (octets_line (codes "failed-code") r.failed_code)), refl))

powered_there : (n : ℕ) → n ≤ 1 → n ≡ powered_number (n == 1)
powered_there n small =
    elim (cases_eq n 1) [
      | inl e ↦ rw e refl
      | inr other ↦ let e : n ≡ 0 = omega (arith, small, other) in rw e refl
    ]

powered_again : (p : Bool) → (powered_number p ≤ 1) × ((powered_number p == 1) ≡ p)
powered_again true = (omega arith, refl)
powered_again false = (omega arith, refl)

pub powered_reads : Reads (λ p. number_line (codes "powered") (powered_number p)) (λ p. Unit {0}) Any powered_at
unfolding powered_at
powered_reads =
    let number = number_reads fields.Powered (codes "powered") 1 (omega arith) (λ t s. s) (λ t s. s) in
    made_reads _ _ _ _ (λ p. number_line (codes "powered") (powered_number p)) (λ p. Unit {0}) (λ number. number == 1) powered_number number
    (λ n good. (tt, ap (number_line (codes "powered")) (powered_there n good))) (λ p good. ((powered_again p).0, refl, (powered_again p).1))

-- ---- what is shown

abbrev remaining_name : Put → List ℕ
remaining_name put = put_name put ++ codes "-remaining "

abbrev IsLeft : Option ℕ → Type 0
IsLeft o = IfSome o (λ seconds. seconds ≤ 4294967295)

-- no line of remaining seconds follows
abbrev pub NoneLeft : Put → List ℕ → Type 0
NoneLeft put rest = starts_with (remaining_name put) rest ≡ false

seconds_read : (put : Put) → Reads (part_line (put_name put) (codes "-remaining")) (λ n. n ≤ 4294967295) Any (number_field (fields.Remaining put) (put_name put) (codes "-remaining ") 4294967295)
unfolding number_field
seconds_read put =
    field_reads {spelled = part_line (put_name put) (codes "-remaining")} {Good = λ n. n ≤ 4294967295} {reader = number_line_at (put_name put) (codes "-remaining ") 4294967295}
    (fields.Remaining put) (respelled (number_line_read (put_name put) (codes "-remaining ") 4294967295 (omega arith)) (λ n. of_part (put_name put) (codes "-remaining") (codes " ") (decimal n) (codes "\n"))) (0, omega arith) (λ t s. s) (λ t s. s)

module _ (put : Put) where
  abbrev line : Reader ℕ
  line = number_field (fields.Remaining put) (put_name put) (codes "-remaining ") 4294967295

  abbrev chosen : Bool → List ℕ → Result (Option ℕ × List ℕ) SignFieldLack
  chosen test text = cond test (made Some line text) (Ok (None, text))

  abbrev Found : List ℕ → Option ℕ × List ℕ → Type 0
  Found text x = IsLeft x.0 × (text ≡ remaining_text (put_name put) x.0 ++ x.1)

  chosen_found : (test : Bool) (text : List ℕ) (x : Option ℕ × List ℕ) → chosen test text ≡ Ok x → Found text x
  chosen_found true text x e =
      let first = bind_ok (line text) (λ x. Ok (Some x.0, x.1)) x e in
      subst (λ x. Found text x) (ok_is (Some first.0.0, first.0.1) x first.2) ((seconds_read put).found text first.0 first.1)
  chosen_found false text x e = subst (λ x. Found text x) (ok_is (None, text) x e) (tt, refl)

  chosen_stops : (test : Bool) (text : List ℕ) (lack : SignFieldLack) → chosen test text ≡ Err lack → Stops (remaining_text (put_name put)) IsLeft (NoneLeft put) text lack
  chosen_stops true text lack e =
      elim (bind_err (line text) (λ x. Ok (Some x.0, x.1)) lack e) [
        | inl first ↦
            let stop = (seconds_read put).stops text lack first in
            stops_as (remaining_text (put_name put)) IsLeft (NoneLeft put) text lack stop (λ more next. let on = stop.goes_on more tt in (Some on.0, on.1, on.2, on.3, on.4))
        | inr x ↦ absurd (let never : Ok (Some x.0.0, x.0.1) ≡ failed {A = Option ℕ × List ℕ} lack = x.2 in cc)
      ]
  chosen_stops false text lack e = absurd (let never : Ok (None, text) ≡ failed {A = Option ℕ × List ℕ} lack = e in cc)

  seconds_first : (n : ℕ) (rest : List ℕ) → starts_with (remaining_name put) (part_line (put_name put) (codes "-remaining") n ++ rest) ≡ true
  seconds_first n rest =
      ap (starts_with (remaining_name put)) (of_part_begun (put_name put) (codes "-remaining") (codes " ") (decimal n) (codes "\n") rest)
      ∙ starts_only (remaining_name put) ((decimal n ++ codes "\n") ++ rest)

  remaining_only : (o : Option ℕ) (rest : List ℕ) → IsLeft o → NoneLeft put rest → remaining_at put (remaining_text (put_name put) o ++ rest) ≡ Ok (o, rest)
  unfolding remaining_at
  remaining_only None rest good next = ap (λ test. chosen test rest) next
  remaining_only (Some n) rest good next =
      let text = part_line (put_name put) (codes "-remaining") n ++ rest in
      ap (λ test. chosen test text) (seconds_first n rest)
      ∙ goes_on (line text) (λ x. Ok (Some x.0, x.1)) (n, rest) ((seconds_read put).only n rest good tt)

  remaining_reads : Reads (remaining_text (put_name put)) IsLeft (NoneLeft put) (remaining_at put)
  unfolding remaining_at
  remaining_reads = record {
    found = λ text x e. chosen_found (starts_with (remaining_name put) text) text x e;
    only = remaining_only;
    stops = λ text lack e. chosen_stops (starts_with (remaining_name put) text) text lack e;
    some = (None, tt);
  }

copied_next : (put : Put) (d : Defaults) (rest : List ℕ) → NoneLeft put (copied_line (put_name put) d ++ rest)
copied_next Shown d rest = refl
copied_next Kept d rest = refl

abbrev parts_of_put : PutModel → MessageModel × (List ℕ × (ℕ × (List ℕ × (Option ℕ × Defaults))))
parts_of_put p = (p.message, (p.source, (p.mode, (p.address, (p.remaining, p.defaults)))))

pub put_reads : (put : Put) → Reads (put_text (put_name put)) IsPut Any (put_at put)
unfolding put_at message_field code_field number_field address_field defaults_field
put_reads put =
    let name = put_name put in
    let message = field_reads (fields.Message put) (message_line_read put) blank_message (λ t s. s) (λ t s. s) in
    let source_read = respelled {other = source_line name} (code_line_read name (codes "-source ") 5 (omega arith)) (λ o. of_number name (codes "-source ") (octets_text o) (codes "\n")) in
    let source = field_reads (fields.Source put) source_read (zeros 5) (λ t s. s) (λ t s. s) in
    let mode =
    field_reads {spelled = part_line name (codes "-mode")} {Good = λ n. n ≤ 255} {reader = number_line_at name (codes "-mode ") 255}
    (fields.Mode put) (respelled (number_line_read name (codes "-mode ") 255 (omega arith)) (λ n. of_part name (codes "-mode") (codes " ") (decimal n) (codes "\n"))) (0, omega arith) (λ t s. s) (λ t s. s) in
    let address = field_reads (fields.Address put) (address_read name) (zeros 4) (λ t s. s) (λ t s. s) in
    let copied = field_reads (fields.Copied put) (copied_read name) blank_defaults (λ t s. s) (λ t s. s) in
    let ended = pair_reads _ _ _ _ _ _ _ _ (remaining_reads put) copied (λ d rest good next. copied_next put d rest) in
    made_reads _ _ _ _ (put_text name) IsPut put_of parts_of_put (then_reads message (then_reads source (then_reads mode (then_reads address ended))))
    (λ x good. (good, of_six (message_line name x.0) (source_line name x.1.0) (part_line name (codes "-mode") x.1.1.0) (address_line name x.1.1.1.0) (remaining_text name x.1.1.1.1.0) (copied_line name x.1.1.1.1.1))) (λ p good. (good, sym (of_six (message_line name p.message) (source_line name p.source) (part_line name (codes "-mode") p.mode) (address_line name p.address) (remaining_text name p.remaining) (copied_line name p.defaults)), refl))
