use Rattle.std.proofs.Common.{◌+◌, is_some, cond}
use Rattle.bus_legal.specs.Parts.{description_in}
use Rattle.rt1553_verify.specs.Reader.{left_in, turns_left}
use Rattle.script_recordings.proofs.PartLaws.{OthersSoFar}
use Rattle.script_recordings.proofs.explaining.judge_others.Given as goal

abbrev pub invariant-parts : goal.invariant-parts
invariant-parts g l =
    OthersSoFar (description_in l.fn.normal) (left_in g.B.Read.remaining l.fn.reader.script) l.fn.reader.silence (left_in g.B.Read.remaining l.reader.script) l.reader.silence l.told l.parts

-- a part that ends before the script takes a turn, and behind the last one there is none
abbrev pub decreases-parts : goal.decreases-parts
decreases-parts g l = cond (is_some l.reader.silence) (turns_left l.reader.script + 1) 0
