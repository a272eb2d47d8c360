use Rattle.std.proofs.Common.{◌≡◌, ◌++◌, take, flat_map}
use Rattle.dms_face_picture.specs.Picture.{said}
use Rattle.dms_face_picture.proofs.description.put_octets.Given as goal

abbrev pub invariant-loop-octet : goal.invariant-loop-octet
invariant-loop-octet l = l.out.items ≡ l.initial.out.items ++ flat_map said (take l.octet-index l.text)
