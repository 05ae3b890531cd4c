-- What was added to a script for a line.
use Rattle.std.specs.Prelude.{ℕ, ◌≡◌, ◌≤◌, ◌+◌, ◌++◌, false, List, length}
use Rattle.std.specs.List.{flat_map}
use Rattle.terminal_rules.specs.declared.event.Event.{Event}
use Rattle.script_lines.specs.Text.{NoLineFeed}
use Rattle.bus_script.specs.inner.Lines.{ReadsLines}
use Rattle.rt1553_expand.specs.declared.script_for.ScriptFor.{ScriptFor}
use Rattle.rt1553_expand.specs.declared.expanding.ScriptSoFar.{ScriptSoFar}
use Rattle.rt1553_expand.specs.Own.{is_of_bus}
use Rattle.rt1553_expand.specs.Placing.{Placing}
use Rattle.rt1553_expand.specs.Expansion.{expansion_of, with_expanded, spelled, expanded_events, expanded_lines}
use Rattle.rt1553_expand.specs.inner.StillLeft.{StillLeft, left_of, IsPending, to_come}

-- the script so far, and what comes of the rest
abbrev pub whole : List ℕ → StillLeft → Placing → List ℕ
whole text l p = text ++ flat_map spelled (to_come l p)

-- the text is read as all these events but those that are left, with which it has so many lines
pub record ReadSo (text : List ℕ) (left : List Event) (lines : ℕ) (all : List Event) : Type 0 where
  pub said : List Event
  pub written : ℕ
  pub reads : ReadsLines 0 text said written
  pub events : all ≡ said ++ left
  pub count : written + length left ≡ lines

-- the script of which line n was read; it has room for it
pub record Added (own : ScriptFor) (n : ℕ) (old new : ScriptSoFar) (line : List ℕ) : Type 0 where
  pub text : (p : Placing) → whole old.text.items (left_of old.pending) (with_expanded n (expansion_of own line) p) ≡ whole new.text.items (left_of new.pending) p
  pub lines : new.lines ≡ old.lines + expanded_lines (expansion_of own line)
  pub few : new.lines ≤ 1048576
  pub fits : IsPending new.pending
  pub reads : is_of_bus own ≡ false → NoLineFeed line → (all : List Event) → ReadSo old.text.items (left_of old.pending).events old.lines all
      → ReadSo new.text.items (left_of new.pending).events new.lines (all ++ expanded_events (expansion_of own line))
