use Rattle.std.proofs.Common.{ℕ, List, ◌≡◌, ◌≤◌, ◌+◌, ◌*◌, ◌-◌, length, take}
use Rattle.terminal_rules.specs.declared.event.Event.{Event}
use Rattle.bus_script.proofs.RunLaws.{Running}
use Rattle.bus_script.proofs.run.run_lines.Given as goal

abbrev pub invariant-reads : goal.invariant-reads
invariant-reads g l = record {
  buffered : l.buffered ≤ 64;
  fits : length l.buffer ≡ 65536;
  running : (whole : List ℕ) × (es : List Event)
      × Running g.L.Legality.is_legal g.W.Sink.written (g.R.Source.left l.fn.reader) (g.R.Source.left l.reader) (l.fn.terminal, l.fn.writer) (l.terminal, l.writer) l.counts (take l.buffered l.buffer) whole es;
}

abbrev pub decreases-reads : goal.decreases-reads
decreases-reads g l = 68157505 - (65 * l.counts.lines + l.buffered)
