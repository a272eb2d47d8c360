-- What each word of a description's lines is to be (this profile).
use Rattle.std.specs.Prelude.{List, [], ◌∷◌, ◌++◌}
use Rattle.dms_text_forms.specs.declared.vocabulary.Keyword.TheVariants as keywords
use Rattle.dms_text_forms.specs.declared.vocabulary.WordName.TheVariants as names
use Rattle.dms_text_forms.specs.declared.wanted.Wanted.{Wanted}
use Rattle.dms_text_forms.specs.declared.wanted.Wanted.TheVariants as wanted
use Rattle.dms_sign_text_causes.specs.declared.forms.DescriptionLine.{DescriptionLine}
use Rattle.dms_sign_text_causes.specs.declared.forms.DescriptionLine.TheVariants as forms

-- ---- the first seven lines

abbrev pub size_words : List Wanted
size_words = wanted.Keyword keywords.Size ∷ wanted.Number 0 65535 ∷ wanted.Number 0 65535 ∷ []

abbrev pub communities_words : List Wanted
communities_words = wanted.Keyword keywords.Communities ∷ wanted.Name names.Reader ∷ wanted.Name names.Writer ∷ []

abbrev pub rows_words : List Wanted
rows_words = wanted.Keyword keywords.Rows ∷ wanted.Number 0 255 ∷ wanted.Number 0 255 ∷ []

abbrev pub order_words : List Wanted
order_words = wanted.Keyword keywords.Order ∷ wanted.Either keywords.High keywords.Swapped ∷ []

abbrev pub has_words : List Wanted
has_words = wanted.Keyword keywords.Has ∷ wanted.Number 0 1 ∷ wanted.Number 0 1 ∷ []

abbrev pub four_octets : List Wanted
four_octets = wanted.Number 0 255 ∷ wanted.Number 0 255 ∷ wanted.Number 0 255 ∷ wanted.Number 0 255 ∷ []

abbrev pub five_octets : List Wanted
five_octets = wanted.Number 0 255 ∷ four_octets

abbrev pub defaults_words : List Wanted
defaults_words = wanted.Keyword keywords.Defaults ∷ four_octets ++ five_octets

abbrev pub first_words : List Wanted
first_words = wanted.Keyword keywords.First ∷ wanted.FourOctets ∷ []

-- ---- the other lines

abbrev pub form_words : DescriptionLine → List Wanted
form_words forms.Permanent = wanted.Keyword keywords.Permanent ∷ wanted.Octets names.Text ∷ wanted.Octets names.Owner
    ∷ wanted.Number 0 255 ∷ wanted.Number 0 255 ∷ wanted.Number 0 255 ∷ []
form_words forms.Font = wanted.Keyword keywords.Font ∷ wanted.Number 1 255 ∷ wanted.Keyword keywords.Height
    ∷ wanted.Number 1 32 ∷ wanted.Keyword keywords.Space ∷ wanted.Number 0 32 ∷ wanted.Keyword keywords.Line
    ∷ wanted.Number 0 32 ∷ wanted.Keyword keywords.Version ∷ wanted.Version ∷ []
form_words forms.Glyph =
    wanted.Keyword keywords.Glyph ∷ wanted.Number 1 65535 ∷ wanted.Number 1 32 ∷ wanted.Octets names.Picture ∷ []
form_words forms.End = wanted.Keyword keywords.End ∷ []
