use Rattle.std.proofs.Common.{string_bytes}
use Rattle.rt1553_files.specs.Printable.{PrintsOnOneLine}
use Rattle.message_names.proofs.printed.push_cut.Given as goal

abbrev pub invariant-loop-index : goal.invariant-loop-index
invariant-loop-index l = PrintsOnOneLine (string_bytes l.initial.text) → PrintsOnOneLine (string_bytes l.text)
