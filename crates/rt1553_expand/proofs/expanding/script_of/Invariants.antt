use Rattle.std.proofs.Common.{◌≡◌, ◌++◌, ◌+◌, ◌≤◌, false, List, length}
use Rattle.terminal_rules.specs.declared.event.Event.{Event}
use Rattle.script_lines.specs.Text.{lines_of}
use Rattle.rt1553_expand.specs.Own.{is_of_bus}
use Rattle.rt1553_expand.specs.Expansion.{placing, script_in, all_events, line_count}
use Rattle.rt1553_expand.specs.inner.StillLeft.{left_of, IsPending}
use Rattle.rt1553_expand.specs.inner.Added.{whole, ReadSo}
use Rattle.rt1553_expand.proofs.expanding.script_of.Given as goal

-- the script so far, and then what comes of the lines that are left, is all of it
abbrev pub invariant-loop-rest : goal.invariant-loop-rest
invariant-loop-rest l = record {
  few : l.script.lines ≤ 1048576;
  fits : IsPending l.script.pending;
  number : l.number + length l.rest ≤ 1 + length l.text;
  text : script_in l.own (lines_of l.text) ≡ whole l.script.text.items (left_of l.script.pending) (placing l.own l.number (lines_of l.rest));
  count : line_count l.own (lines_of l.text) ≡ l.script.lines + line_count l.own (lines_of l.rest);
  read : is_of_bus l.own ≡ false → (es : List Event) × (all_events l.own (lines_of l.text) ≡ es ++ all_events l.own (lines_of l.rest)) × ReadSo l.script.text.items (left_of l.script.pending).events l.script.lines es;
}

abbrev pub decreases-loop-rest : goal.decreases-loop-rest
decreases-loop-rest l = length l.rest
