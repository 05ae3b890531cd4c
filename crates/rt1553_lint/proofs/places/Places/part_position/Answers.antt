use Rattle.std.proofs.Common.{rules}
use Rattle.rt1553_lint.specs.Places.{has_entry}
use Rattle.rt1553_lint.proofs.PlaceLaws.{found_there}
use Rattle.rt1553_lint.proofs.places.Places.part_position.Goals as goal

pub returns : goal.returns
returns c = record {
  root = λ is. search rules;
  entry =
      found_there (has_entry c.args.part) c.args.self.now.text.now c.args.self.now.statements.now c.entry_statement.result c.statement_position.result c.args.self.now.read
      c.entry_statement.ensures.gives c.statement_position.ensures;
}
