use Rattle.std.proofs.Common.{List, [], ◌≡◌, ◌++◌, map, drop}
use Rattle.bus_legal.specs.Description.{Description}
use Rattle.bus_legal.specs.Tables.{tables_say}
use Rattle.terminal_rules.specs.declared.event.Event.{Event}
use Rattle.bus_terminal.specs.Stands.{StandsAt}
use Rattle.rt1553_verify.specs.Stated.{shown}
use Rattle.rt1553_verify.specs.Verify.{told_answer, wrong_answers_from}
use Rattle.rt1553_verify.proofs.verifying.wrong_answers.Given as goal

abbrev pub invariant-loop-stated : goal.invariant-loop-stated
invariant-loop-stated l = (P : Description) → StandsAt (λ normal. tables_say normal.tables) P [] l.initial.terminal
    → (h : List Event) × StandsAt (λ normal. tables_say normal.tables) P h l.terminal
    × (map told_answer l.found.items ++ wrong_answers_from P h (map shown (drop l.stated-index l.script)) ≡ wrong_answers_from P [] (map shown l.script))
