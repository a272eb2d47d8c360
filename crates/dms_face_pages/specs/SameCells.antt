-- Cells that show the same (this profile).
use Rattle.std.specs.Prelude.{◌==◌, ◌&&◌, Bool, true, false, not, if◌then◌else◌, Option, Some, None}
use Rattle.dms_multi.specs.declared.item.Lead.{Lead}
use Rattle.dms_multi.specs.declared.item.Lead.TheVariants.{Lit, Dark}
use Rattle.dms_face.specs.declared.cell.Flash.{Flash}
use Rattle.dms_face.specs.declared.cell.Cell.{Cell}

abbrev pub same_lead : Lead → Lead → Bool
same_lead Lit Lit = true
same_lead Dark Dark = true
same_lead _ _ = false

abbrev pub same_flash : Option Flash → Option Flash → Bool
same_flash None None = true
same_flash (Some one) (Some other) =
    same_lead one.first other.first && (one.lit == other.lit) && (one.dark == other.dark)
same_flash _ _ = false

-- both are lit, or neither, and they have the same colour and flash
abbrev pub same_cell : Cell → Cell → Bool
same_cell one other = (if one.lit then other.lit else not other.lit) && (one.colour == other.colour)
    && same_flash one.flash other.flash
