-- What a sign shows as a line of text, and the words of such lines (this profile): octets in small hexadecimal digits.
use Rattle.std.specs.Prelude.{ℕ, List, [], ◌∷◌, ◌++◌, codes, decimal}
use Rattle.hex.specs.Hex.{encode_lower}
use Rattle.dms_codes.specs.Codes.{two_octets}
use Rattle.dms_text_forms.specs.LineText.{ended}
use Rattle.dms_table.specs.Activation.{ShownModel}
use Rattle.dms_table.specs.Activation.{minutes_left}

-- ---- words

-- octets as pairs of digits; none at all is `-`
abbrev pub octets_text : List ℕ → List ℕ
octets_text [] = codes "-"
octets_text (octet ∷ octets) = encode_lower (octet ∷ octets)

-- ---- lines

-- its source with the checksum as a number of four digits, its mode, its priority, the minutes that are left, and its
-- text
abbrev pub shown_line : ShownModel → List ℕ
shown_line shown = ended (
    codes "shown " ++ decimal shown.source.memory ++ codes " " ++ decimal shown.source.number
    ++ codes " " ++ encode_lower (two_octets shown.source.crc)
    ++ codes " mode " ++ decimal shown.mode ++ codes " priority " ++ decimal shown.priority
    ++ codes " remaining " ++ decimal (minutes_left shown.remaining) ++ codes " text " ++ octets_text shown.text)
