use Rattle.std.proofs.Common.{◌≡◌, ◌++◌, take, flat_map}
use Rattle.dms_face_picture.specs.Picture.{style_path}
use Rattle.dms_face_picture.proofs.document.put_paths.Given as goal

abbrev pub invariant-loop-style : goal.invariant-loop-style
invariant-loop-style l = l.out.items ≡ l.initial.out.items ++ flat_map (style_path l.motion l.page) (take l.style-index l.styles)
