use Rattle.std.proofs.Common.{◌≡◌, List, true, subst, take_all}
use Rattle.std.specs.List.{AllByRecursion}
use Rattle.bus_legal.specs.Description.{Description}
use Rattle.terminal_rules.specs.declared.event.Event.{Event}
use Rattle.terminal_recordings.specs.MaybeGaps.{gap_does_nothing}
use Rattle.recorded_terminal.specs.Ways.{WayIsAt}
use Rattle.recorded_terminal.proofs.WayLaws.{all_split}
use Rattle.recorded_terminal.proofs.ways.all_pass.Goals as goal

pub returns : goal.returns
returns g c e status =
    all_split g.L.Legality.is_legal c.args.bus status c.args.ways.now
    (subst (AllByRecursion (λ w. (P : Description) (h : List Event) → WayIsAt g.L.Legality.is_legal P h w → gap_does_nothing P h c.args.bus ≡ true)) (take_all c.loop-way.way-index c.args.ways.now c.loop-way-test.false) c.loop-way.invariant)
