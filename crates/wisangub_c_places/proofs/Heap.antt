-- The heap's allocator, and a box on the heap taken apart.
use Rattle.std.proofs.Common.{[]}
use mir.Syntax.{impl, tnil, dnil}
use denote.RattleType.{RattleType}
use Rattle.core.proofs.alloc.Calls.{Al}
use Rattle.std.specs.contracts.alloc.Global as heap
use Rattle.std.proofs.alloc.Global.TheLaws as heap_laws
use Rattle.std.specs.contracts.impls.GlobalAllocator.TheImpl.{ghosts}
use Rattle.wisangub_c_places.proofs.Values.{Loose}

abbrev pub Z : RattleType
Z = heap.the_row

abbrev pub al : Al
al = record { row = Z; laws = heap_laws.the_row_laws; g = ghosts; d = impl [] tnil dnil; drops = impl [] tnil dnil }

-- the parts of a box of such a value
abbrev pub Parts : RattleType → RattleType
Parts R = Loose R Z heap_laws.the_row_laws ghosts
