use Rattle.std.proofs.Common.{◌≡◌, length}
use Rattle.rt1553_verify.specs.Stated.{may_be_fields}
use Rattle.rt1553_verify.proofs.possible.may_be_fields.Given as goal

abbrev pub invariant-loop-fields : goal.invariant-loop-fields
invariant-loop-fields l = may_be_fields l.masked l.fields ≡ may_be_fields l.masked l.fn.fields

abbrev pub decreases-loop-fields : goal.decreases-loop-fields
decreases-loop-fields l = length l.fields
