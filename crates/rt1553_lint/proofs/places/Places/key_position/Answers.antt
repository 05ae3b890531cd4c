use Rattle.rt1553_lint.specs.Places.{has_key}
use Rattle.rt1553_lint.proofs.PlaceLaws.{found_there}
use Rattle.rt1553_lint.proofs.places.Places.key_position.Goals as goal

pub returns : goal.returns
returns c =
    found_there (has_key c.args.part c.args.name.now) c.args.self.now.text.now c.args.self.now.statements.now c.key_statement.result c.statement_position.result c.args.self.now.read
    c.key_statement.ensures.gives c.statement_position.ensures
