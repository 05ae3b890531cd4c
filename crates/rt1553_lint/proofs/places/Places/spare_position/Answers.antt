use Rattle.rt1553_lint.specs.Places.{has_spare}
use Rattle.rt1553_lint.proofs.PlaceLaws.{found_there}
use Rattle.rt1553_lint.proofs.places.Places.spare_position.Goals as goal

pub returns : goal.returns
returns c =
    found_there (has_spare c.args.spare) c.args.self.now.text.now c.args.self.now.statements.now c.spare_statement.result c.statement_position.result c.args.self.now.read
    c.spare_statement.ensures.gives c.statement_position.ensures
