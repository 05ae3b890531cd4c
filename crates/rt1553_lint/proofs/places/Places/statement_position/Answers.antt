use Rattle.std.proofs.Common.{Some, IfSome, ◌<◌, length, get_or, ap, subst, ◌∙◌}
use Rattle.rt1553_lint.proofs.PlaceLaws.{placed_at}
use Rattle.rt1553_lint.proofs.places.Places.statement_position.Goals as goal

pub returns-in-Some : goal.returns-in-Some
returns-in-Some c =
    let within = subst (λ o. IfSome o (λ j. j < length c.args.self.now.statements.now)) c.in-Some.is c.requires in
    rw c.in-Some.is (ap Some (c.index.ensures ∙ (ap (λ ps. get_or ps c.in-Some.index c.index.result.now) c.args.self.now.placed
    ∙ placed_at c.args.self.now.text.now c.args.self.now.statements.now c.in-Some.index c.index.result.now within)))
