-- The description that the code's parts are (this profile).
use Rattle.std.specs.Prelude.{map}
use Rattle.dms_sign_text.specs.declared.reader.DescriptionParts.{DescriptionParts}
use Rattle.dms_sign_text.specs.Description.{Description}
use Rattle.dms_sign_text.specs.DescriptionReading.{described}
use Rattle.dms_sign_text.specs.Views.{head_seen, row_seen}

abbrev pub parts_seen : DescriptionParts → Description
parts_seen parts = described (head_seen parts.head) (map row_seen parts.rows.items) parts.fonts.items
