-- What the calls of the program print (this profile). Whether a text is printed, and with which status a call ends, is
-- said by `Printed` of the texts and statuses that the calls have.
use Rattle.std.specs.Prelude.{◌≡◌, ℕ, ◌⊎◌, ◌<◌, List, ◌++◌, length, codes, Option, Some, None, IfSome, Result, Ok}
use Rattle.std.specs.Prelude.{Err, ⊤}
use Rattle.std.specs.Str.Lines.{lines}
use Rattle.hex.specs.Hex.{encode_lower, decode_of}
use Rattle.hex.specs.declared.error.FromHexError.{FromHexError}
use Rattle.dms_text.specs.Lines.{kept_lines}
use Rattle.dms_text_forms.specs.FieldsReading.{address_of}
use Rattle.signtool_calls.specs.declared.call.Call.{Call}
use Rattle.signtool_calls.specs.declared.call.Call.TheVariants as calls
use Rattle.signtool_calls.specs.declared.call.SignWanted.{SignWanted}
use Rattle.signtool_calls.specs.declared.call.SignWanted.TheVariants.{Bench, Described}
use Rattle.signtool_calls.specs.declared.call.Form.TheVariants.{Lines, Json}
use Rattle.dms_text_streams.specs.DescriptionText.{longest_input}
use Rattle.dms_sign_text.specs.BenchSign.{bench_text}
use Rattle.dms_sign_text.specs.Description.{Description, SpellsDescription, SpellsSign}
use Rattle.dms_sign_text.specs.RefusedLine.{all_numbered, IsRefusedLine}
use Rattle.dms_sign_text.specs.Setups.{IsMade}
use Rattle.dms_sign_text.specs.declared.reading_fault.ReplayFault.{ReplayFault}
use Rattle.dms_sign_text.specs.declared.reading_fault.ReplayFault.TheVariants as faults
use Rattle.dms_sign_text.specs.declared.setup.Setup.{Setup}
use Rattle.dms_replay.specs.RefusedScript.{IsRefusedIn}
use Rattle.dms_replay.specs.Replayed.{IsReport, NoScript}
use Rattle.dms_sign.specs.State.{SignState}
use Rattle.dms_sign.specs.Reply.{received}
use Rattle.signtool_print.specs.CodeAnswers.{code_answer, activation_answer}
use Rattle.signtool_print.specs.DatagramLines.{decode_answer}
use Rattle.signtool_print.specs.ItemLines.{items_answer}
use Rattle.signtool_print.specs.Printed.{Answer, answer}
use Rattle.signtool_print.specs.TextAnswers.{check_answer, pages_answer}
use Rattle.signtool_print.specs.declared.statuses.ExitStatus.TheVariants.{Done, Refused, Misused}
use Rattle.signtool_acts.specs.RefusalText.{fault_line}

-- ---- the sign that a call is about

-- the bench sign, or the one that the whole input describes
abbrev pub IsWanted : SignWanted → Option (List ℕ) → Setup → Type 0
IsWanted Bench input setup = (it : Description) × SpellsSign (kept_lines bench_text) it × IsMade it setup
IsWanted Described input setup =
    IfSome input (λ octets. (it : Description) × SpellsDescription octets it × IsMade it setup)

-- this is the fault of an input that describes no sign: what failed of the reading of it is not seen here
abbrev pub IsInputFault : Option (List ℕ) → ReplayFault → Type 0
IsInputFault input (faults.Line number) =
    IfSome input (λ octets. IsRefusedLine (all_numbered (lines octets)) number)
IsInputFault input faults.TooLong = IfSome input (λ octets. longest_input < length octets)
IsInputFault input faults.Read = ⊤
IsInputFault input faults.Memory = ⊤
IsInputFault input faults.Write = ⊥

-- why there is no sign: the bench sign needs memory alone
abbrev pub IsRefused : SignWanted → Option (List ℕ) → ReplayFault → Type 0
IsRefused Bench input fault = fault ≡ faults.Memory
IsRefused Described input fault = IsInputFault input fault

-- what a sign as it is wanted gives is printed, or why there is none
abbrev pub OfSign : SignWanted → Option (List ℕ) → (Answer → Type 0) → (SignState → Answer) → Type 0
OfSign wanted input Printed gives =
    ((setup : Setup) × IsWanted wanted input setup × Printed (gives setup.sign))
    ⊎ ((fault : ReplayFault) × IsRefused wanted input fault × Printed (answer Refused (fault_line fault)))

-- ---- `answer`

-- the octets of the reply in small hexadecimal digits
abbrev pub reply_answer : Option (List ℕ) → Answer
reply_answer None = answer Refused (codes "dropped\n")
reply_answer (Some octets) = answer Done (encode_lower octets ++ codes "\n")

abbrev pub answer_to : List ℕ → SignState → Answer
answer_to datagram sign = reply_answer (received sign datagram).reply

-- the digits are looked at first
abbrev pub OfDigits : SignWanted → Option (List ℕ) → (Answer → Type 0) → Result (List ℕ) FromHexError → Type 0
OfDigits wanted input Printed (Ok datagram) = OfSign wanted input Printed (answer_to datagram)
OfDigits wanted input Printed (Err fault) = Printed (answer Misused (codes "not hex\n"))

-- ---- `replay`

-- this is the fault of an input that is no script
abbrev pub IsScriptFault : Option (List ℕ) → ReplayFault → Type 0
IsScriptFault input (faults.Line number) = IfSome input (λ octets. NoScript octets × IsRefusedIn octets number)
IsScriptFault input faults.TooLong = IfSome input (λ octets. longest_input < length octets)
IsScriptFault input faults.Read = ⊤
IsScriptFault input faults.Memory = ⊤
IsScriptFault input faults.Write = ⊥

-- the report is printed, or why there is none
abbrev pub OfScript : Option (List ℕ) → (Answer → Type 0) → Type 0
OfScript input Printed =
    IfSome input (λ octets. (report : List ℕ) × IsReport octets report × Printed (answer Done report))
    ⊎ ((fault : ReplayFault) × IsScriptFault input fault × Printed (answer Refused (fault_line fault)))

-- ---- a call: nothing is said here of what is printed as JSON and of conversations

abbrev pub version_line : List ℕ
version_line = codes "signtool 1.0.0\n"

abbrev pub CarriesOut : Call → Option (List ℕ) → (Answer → Type 0) → Type 0
CarriesOut (calls.Answer hex sign) input Printed = OfDigits sign input Printed (decode_of hex.now)
CarriesOut (calls.Check text sign Lines) input Printed =
    OfSign sign input Printed (λ sign. check_answer sign.config.face text.now)
CarriesOut (calls.Check text sign Json) input Printed = ⊤
CarriesOut (calls.Pages text sign drawing) input Printed =
    OfSign sign input Printed (λ sign. pages_answer sign.config.face text.now drawing)
CarriesOut (calls.Decode hex spaced Lines) input Printed = Printed (decode_answer spaced hex.now)
CarriesOut (calls.Decode hex spaced Json) input Printed = ⊤
CarriesOut (calls.Items text Lines) input Printed = Printed (items_answer text.now)
CarriesOut (calls.Items text Json) input Printed = ⊤
CarriesOut calls.Version input Printed = Printed (answer Done version_line)
CarriesOut (calls.Code words) input Printed =
    Printed (code_answer words (address_of words.terms.address.now))
CarriesOut (calls.Activation words) input Printed =
    Printed (activation_answer words (address_of words.terms.address.now))
CarriesOut calls.Replay input Printed = OfScript input Printed
CarriesOut (calls.Sign sign state) input Printed = ⊤
CarriesOut (calls.Centre sign state) input Printed = ⊤
