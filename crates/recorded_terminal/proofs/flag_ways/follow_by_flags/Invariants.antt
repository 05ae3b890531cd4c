use Rattle.recorded_terminal.proofs.WayLaws.{ChangedBelow}
use Rattle.recorded_terminal.proofs.FlagLaws.{PartFollows}
use Rattle.recorded_terminal.proofs.flag_ways.follow_by_flags.Given as goal

abbrev pub invariant-loop-others : goal.invariant-loop-others
invariant-loop-others g l = ChangedBelow (PartFollows g.L.Legality.is_legal l.followed l.waiting) l.others-index l.fn.by_flags.items l.others-items
