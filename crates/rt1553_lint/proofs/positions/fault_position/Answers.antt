use Rattle.std.proofs.Common.{subst, sym}
use Rattle.rt1553_lint.specs.Standing.{IsAtFault}
use Rattle.rt1553_lint.proofs.PlaceLaws.{fault_of_value}
use Rattle.rt1553_lint.proofs.positions.fault_position.Goals as goal

pub returns-in-Missing : goal.returns-in-Missing
returns-in-Missing c = subst (λ f. IsAtFault f c.args.places.now.text.now c.part_position.result) (sym c.in-Missing.is) c.part_position.ensures

pub returns-in-TooMany : goal.returns-in-TooMany
returns-in-TooMany c = subst (λ f. IsAtFault f c.args.places.now.text.now c.excess_position.result) (sym c.in-TooMany.is) c.excess_position.ensures

pub returns-in-WrongKind : goal.returns-in-WrongKind
returns-in-WrongKind c = fault_of_value c.args.fault c.in-WrongKind.part c.in-WrongKind.key _ _ c.in-WrongKind.is c.value_position.ensures
