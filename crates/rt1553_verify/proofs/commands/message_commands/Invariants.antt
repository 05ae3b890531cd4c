use Rattle.std.proofs.Common.{◌≡◌, ◌++◌, drop, map, None}
use Rattle.rt1553_verify.specs.Stated.{shown}
use Rattle.rt1553_verify.specs.Verify.{told_answer}
use Rattle.rt1553_verify.specs.Commands.{commands_from}
use Rattle.rt1553_verify.proofs.commands.message_commands.Given as goal

abbrev pub invariant-loop-stated : goal.invariant-loop-stated
invariant-loop-stated l =
    l.commands.items ++ commands_from l.address l.latest (map shown (drop l.stated-index l.script)) (map told_answer l.rest)
    ≡ commands_from l.address None (map shown l.script) (map told_answer l.wrong)
