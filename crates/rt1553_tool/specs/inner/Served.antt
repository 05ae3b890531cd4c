-- What a terminal and a sink have done, as a pair: (terminal, sink), `a` before and `b` after. `written` are the bytes that a sink tells.
use Rattle.std.specs.Prelude.{ℕ, ◌≡◌, ◌<◌, Bool, true, false, List, [], ◌∷◌, Option, Some, length}
use Rattle.std.specs.Io.KnownBytes.{Appends}
use Rattle.bus_word.specs.declared.cell.Cell.{Cell}
use Rattle.bus_legal.specs.Description.{Description}
use Rattle.terminal_rules.specs.declared.event.Event.{Event}
use Rattle.bus_terminal.specs.declared.terminal.Terminal.{Terminal}
use Rattle.bus_terminal.specs.Stands.{StandsAt}
use Rattle.script_lines.specs.Text.{lines_of}
use Rattle.rt1553_tool.specs.Session.{history_after_lines, AnswersLines}

-- the terminal took these lines, and just what answers them was written
pub record Served {L W : Type 0} (is_legal : L → Cell → Bool) (written : W → Option (List ℕ)) (a b : Terminal L × W) (lines : List (List ℕ)) : Type 0 where
  pub at : (P : Description) (h : List Event) → StandsAt is_legal P h a.0 → StandsAt is_legal P (history_after_lines lines h) b.0
  pub wrote : (P : Description) (h : List Event) → StandsAt is_legal P h a.0 → (text : List ℕ) × AnswersLines P h lines text × Appends (written a.1) (written b.1) text

-- where there is a line, it is the first of these bytes, the terminal took it, and what is left follows it
abbrev pub ServesLine : {L W : Type 0} → (L → Cell → Bool) → (W → Option (List ℕ)) → Terminal L × W → Terminal L × W → Bool → List ℕ → Option (List ℕ) → Type 0
ServesLine is_legal written a b true xs left = (line : List ℕ) × (rest : List ℕ) × (lines_of xs ≡ line ∷ lines_of rest) × (left ≡ Some rest) × (length rest < length xs)
    × Served is_legal written a b (line ∷ [])
ServesLine is_legal written a b false xs left = (xs ≡ []) × (b ≡ a)
