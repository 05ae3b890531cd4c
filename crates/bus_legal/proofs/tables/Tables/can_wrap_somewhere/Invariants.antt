use Rattle.std.proofs.Common.{◌≡◌, ◌≤◌, ◌-◌, false}
use Rattle.bus_legal.specs.Reach.{any_to}
use Rattle.bus_legal.specs.Tables.{masks_wrap}
use Rattle.bus_legal.proofs.tables.Tables.can_wrap_somewhere.Given as goal

-- none was found before this one
abbrev pub invariant-loop-subaddress : goal.invariant-loop-subaddress
invariant-loop-subaddress l = record {
  from : 1 ≤ l.subaddress;
  none : any_to (l.subaddress - 1) (masks_wrap l.self) ≡ false;
}
