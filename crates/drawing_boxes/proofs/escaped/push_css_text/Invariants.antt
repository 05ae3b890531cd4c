use Rattle.std.proofs.Common.{◌≡◌, ◌++◌}
use Rattle.std.specs.List.{flat_map}
use Rattle.std.specs.String.{string_bytes}
use Rattle.drawing_boxes.specs.Escaped.{css_char}
use Rattle.drawing_boxes.proofs.escaped.push_css_text.Given as goal

abbrev pub invariant-loop-c : goal.invariant-loop-c
invariant-loop-c l = string_bytes l.page ≡ string_bytes l.initial.page ++ flat_map css_char l.yielded
