use Rattle.std.proofs.Common.{◌+◌, take, option_map}
use Rattle.refused_lines.specs.Sources.{line_in_file}
use Rattle.tool_buses.proofs.BusLefts.{CutSo}
use Rattle.tool_buses.proofs.parts.parts_of.Given as goal

abbrev pub invariant-loop-said : goal.invariant-loop-said
invariant-loop-said l = CutSo (line_in_file (option_map (λ s. s.now) l.sources)) (take (l.said-index + 1) l.said) l.parts.items l.last
