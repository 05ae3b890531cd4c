use Rattle.std.proofs.Common.{◌≡◌, length}
use Rattle.rt1553_verify.specs.Stated.{fits_mask}
use Rattle.rt1553_verify.proofs.matching.fits_mask.Given as goal

abbrev pub invariant-loop-masks : goal.invariant-loop-masks
invariant-loop-masks l = fits_mask l.masks l.bytes ≡ fits_mask l.mask l.line

abbrev pub decreases-loop-masks : goal.decreases-loop-masks
decreases-loop-masks l = length l.masks
