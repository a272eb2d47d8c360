-- The numbers of a face's faults (this profile).
use Rattle.std.specs.Prelude.{ℕ}
use Rattle.dms_face.specs.declared.fault.FaceFault.{FaceFault}
use Rattle.dms_face.specs.declared.fault.FaceFault.TheVariants.{Size, Fonts, Default}

abbrev pub fault_number : FaceFault → ℕ
fault_number Size = 1
fault_number Fonts = 2
fault_number Default = 3
