-- What is left of the rows.
use Rattle.std.specs.Prelude.{◌≡◌, ℕ, ◌+◌, List, length}
use Rattle.bus_legal.specs.Description.{Description}
use Rattle.bus_legal.specs.Tables.{tables_say}
use Rattle.terminal_rules.specs.declared.event.Event.{Event}
use Rattle.bus_complete_test.specs.Left.{exchanges_left}
use Rattle.bus_terminal.specs.Stands.{StandsAt}
use Rattle.rt1553_results.specs.declared.rows.Rows.{Rows}
use Rattle.rt1553_results.specs.Rows.{Answered, rows_from}

-- how many rows are left
abbrev pub rows_left : Rows → ℕ
rows_left rows = length (exchanges_left rows.exchanges)

-- Row number n is the next, and these are all that are left. The terminal stands at the history of the exchanges that were
-- played.
pub record AreLeft (rows : Rows) (n : ℕ) (left : List Answered) : Type 0 where
  pub description : Description
  pub history : List Event
  pub stands : StandsAt (λ normal. tables_say normal.tables) description history rows.terminal
  pub rest : left ≡ rows_from description history (exchanges_left rows.exchanges)
  pub number : rows.exchanges.given + 1 ≡ n
