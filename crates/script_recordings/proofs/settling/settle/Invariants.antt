use Rattle.std.proofs.Common.{take, drop}
use Rattle.bus_legal.specs.Parts.{description_in}
use Rattle.terminal_recordings.specs.Later.{shut_history}
use Rattle.recorded_terminal.specs.Follows.{shut_down}
use Rattle.script_recordings.proofs.SettleLaws.{SettledSoFar}
use Rattle.script_recordings.proofs.settling.settle.Given as goal

abbrev pub invariant-loop-number : goal.invariant-loop-number
invariant-loop-number l =
    SettledSoFar (description_in l.normal) (shut_history (description_in l.normal) (shut_down l.shut)) l.recording (take l.number l.recording) (drop l.number l.recording) l.settled.items
