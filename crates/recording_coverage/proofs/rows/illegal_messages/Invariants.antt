use Rattle.std.proofs.Common.{◌≡◌, ◌++◌, ◌-◌, List}
use Rattle.bus_legal.specs.Parts.{description_in}
use Rattle.recording_coverage.specs.declared.outcome.MessageEnd.{MessageEnd}
use Rattle.recording_coverage.specs.Covers.{Covers}
use Rattle.recording_coverage.specs.Rows.{tried_of, commands_by_number}
use Rattle.recording_coverage.proofs.rows.illegal_messages.Given as goal

abbrev pub invariant-loop-number : goal.invariant-loop-number
invariant-loop-number l =
    (ends : List MessageEnd) → Covers ends l.coverage → l.rows.items ++ tried_of (description_in l.normal) ends (commands_by_number l.address l.number (4096 - l.number)) ≡ tried_of (description_in l.normal) ends (commands_by_number l.address 0 4096)
