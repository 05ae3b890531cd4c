use Rattle.std.proofs.Common.{◌≡◌, ◌++◌, List}
use Rattle.bus_legal.specs.Description.{Description, described}
use Rattle.terminal_rules.specs.declared.event.Event.{Event}
use Rattle.terminal_recordings.specs.Later.{shutting, shut_history}
use Rattle.recorded_terminal.specs.Follows.{shut_down}
use Rattle.recorded_terminal.proofs.ToldSoFar.{ToldSoFar}
use Rattle.recorded_terminal.proofs.telling.behaviour_after.Given as goal

abbrev pub invariant-loop-number : goal.invariant-loop-number
invariant-loop-number g l =
    let P : Description = described l.fn.setup (g.L.Legality.is_legal l.fn.legality) in
    (behaviour : List Event) × (l.events.items ≡ shutting P (shut_down l.fn.shut) ++ behaviour)
    × ToldSoFar g.L.Legality.is_legal P (shut_history P (shut_down l.fn.shut)) l.recording l.number l.status behaviour l.follower
