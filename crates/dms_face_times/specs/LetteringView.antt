-- What holds for characters, as the walk over a text's items keeps it (this profile).
use Rattle.dms_face_times.specs.Walk.{LetteringModel}
use Rattle.dms_face_times.specs.declared.flashes.Lettering.{Lettering}

abbrev pub lettering_of : Lettering → LetteringModel
lettering_of now = record { font = now.font.now; flash = now.flash }
