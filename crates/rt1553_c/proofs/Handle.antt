-- The handle of the C library's heap, which is one value.
use mathlib.Core.List.{[], ◌∷◌}
use mir.Val.{Val, vunit, vstruct, vnil, vcons}
use denote.Laws.{Is, Tells}
use denote.Struct.Laws as struct_laws
use Rattle.std.specs.contracts.alloc.Global as heap
use Rattle.std.proofs.alloc.Global.TheLaws as heap_laws

abbrev pub heap_val : Val
heap_val = vstruct (vcons (vstruct (vcons vunit vnil)) vnil)

pub heap_Tells : Tells heap.the_row (Is heap.the_row) (λ _. heap_val ∷ [])
heap_Tells = struct_laws.tells heap.the_type heap_laws.the_laws
