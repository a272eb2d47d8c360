-- The words that stand as they are in the lines of descriptions and scripts, and the names of the others (this
-- profile).
use Rattle.std.specs.Prelude.{ℕ, List, codes}
use Rattle.dms_text_forms.specs.declared.vocabulary.Keyword.{Keyword}
use Rattle.dms_text_forms.specs.declared.vocabulary.Keyword.TheVariants as keywords
use Rattle.dms_text_forms.specs.declared.vocabulary.WordName.{WordName}
use Rattle.dms_text_forms.specs.declared.vocabulary.WordName.TheVariants as names

abbrev pub keyword_text : Keyword → List ℕ
keyword_text keywords.Size = codes "size"
keyword_text keywords.Communities = codes "communities"
keyword_text keywords.Rows = codes "rows"
keyword_text keywords.Order = codes "order"
keyword_text keywords.High = codes "high"
keyword_text keywords.Swapped = codes "swapped"
keyword_text keywords.Has = codes "has"
keyword_text keywords.Defaults = codes "defaults"
keyword_text keywords.First = codes "first"
keyword_text keywords.Permanent = codes "permanent"
keyword_text keywords.Font = codes "font"
keyword_text keywords.Height = codes "height"
keyword_text keywords.Space = codes "space"
keyword_text keywords.Line = codes "line"
keyword_text keywords.Version = codes "version"
keyword_text keywords.Glyph = codes "glyph"
keyword_text keywords.End = codes "end"
keyword_text keywords.Publish = codes "publish"
keyword_text keywords.Blank = codes "blank"
keyword_text keywords.Activate = codes "activate"
keyword_text keywords.SignTick = codes "sign-tick"
keyword_text keywords.CentreTick = codes "centre-tick"
keyword_text keywords.ToSign = codes "to-sign"
keyword_text keywords.ToCentre = codes "to-centre"
keyword_text keywords.PowerLost = codes "power-lost"
keyword_text keywords.PowerBack = codes "power-back"
keyword_text keywords.CentreRestart = codes "centre-restart"
keyword_text keywords.ForgeSign = codes "forge-sign"
keyword_text keywords.ForgeCentre = codes "forge-centre"

abbrev pub name_text : WordName → List ℕ
name_text names.Reader = codes "the first community"
name_text names.Writer = codes "the second community"
name_text names.Text = codes "a text"
name_text names.Owner = codes "an owner"
name_text names.Picture = codes "a picture"
name_text names.Datagram = codes "a datagram"
