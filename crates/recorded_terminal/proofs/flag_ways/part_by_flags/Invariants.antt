use Rattle.std.proofs.Common.{take}
use Rattle.recorded_terminal.proofs.FlagLaws.{status_words, ArePartedBy}
use Rattle.recorded_terminal.proofs.flag_ways.part_by_flags.Given as goal

abbrev pub invariant-loop-status : goal.invariant-loop-status
invariant-loop-status g l = ArePartedBy g.L.Legality.is_legal l.ways (take l.status-index status_words) l.by_flags.items
