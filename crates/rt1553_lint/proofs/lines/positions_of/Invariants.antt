use Rattle.std.proofs.Common.{◌≡◌, take, map}
use Rattle.rt1553_lint.specs.Positions.{position_in}
use Rattle.rt1553_lint.proofs.lines.positions_of.Given as goal

abbrev pub invariant-loop-statement : goal.invariant-loop-statement
invariant-loop-statement l = record {
  at : l.position ≡ position_in l.text l.from;
  found : l.found.items ≡ map (λ s. position_in l.text s.at) (take l.statement-index l.statements);
}
