use Rattle.std.proofs.Common.{◌≤◌, List, take}
use Rattle.bus_legal.specs.Description.{Description}
use Rattle.terminal_rules.specs.declared.event.Event.{Event}
use Rattle.recorded_terminal.specs.declared.watch.Marked.{Marked}
use Rattle.recorded_terminal.specs.Ways.{AreWays}
use Rattle.recorded_terminal.specs.inner.Followed.{AreFollowed}
use Rattle.recorded_terminal.proofs.watch.follow.Given as goal

abbrev pub invariant-loop-number : goal.invariant-loop-number
invariant-loop-number g l =
    (P : Description) (h : List Event) (ms : List Marked) → P.address ≤ 30 → AreWays g.L.Legality.is_legal P h ms l.fn.ways.items →
    AreFollowed g.L.Legality.is_legal P h ms l.status (take l.number l.waiting) l.fn.ways.items l.ways.items
