-- A central system's ledger as lines of text (this profile).
use Rattle.std.specs.Prelude.{ℕ, List, ◌++◌, codes, decimal}
use Rattle.dms_codes.specs.declared.codes.Order.{Order}
use Rattle.dms_centre.specs.State.{Entry}
use Rattle.dms_centre.specs.Texts.{outcome_text}
use Rattle.dms_text_forms.specs.LineText.{code_text, ended}

-- a code of the ledger, the number of its request, and what became of it
abbrev pub ledger_line : Order → Entry → List ℕ
ledger_line order entry =
    ended (codes "ledger " ++ decimal entry.number ++ codes " " ++ code_text order entry.code ++ codes " "
    ++ outcome_text entry.outcome)
