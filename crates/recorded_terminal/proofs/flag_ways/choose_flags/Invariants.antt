use Rattle.std.proofs.Common.{List}
use Rattle.bus_legal.specs.Description.{Description}
use Rattle.terminal_rules.specs.declared.event.Event.{Event}
use Rattle.recorded_terminal.specs.declared.watch.Marked.{Marked}
use Rattle.recorded_terminal.specs.Watched.{LeadOnBy}
use Rattle.recorded_terminal.proofs.FlagLaws.{IsChosen}
use Rattle.recorded_terminal.proofs.flag_ways.choose_flags.Given as goal

abbrev pub invariant-loop-others : goal.invariant-loop-others
invariant-loop-others g l =
    (P : Description) (h : List Event) (ms : List Marked) → LeadOnBy g.L.Legality.is_legal P h ms l.fn.ways.items l.fn.by_flags.items → IsChosen g.L.Legality.is_legal P h ms l.status l.ways.items l.by_flags.items

abbrev pub decreases-loop-others : goal.decreases-loop-others
decreases-loop-others g l = goal.left-loop-others g l
