-- Truth values.
use Rattle.std.proofs.Common.{◌≡◌, Bool, true, false, ◌&&◌, refl}

pub left_of : (a b : Bool) → (a && b) ≡ true → a ≡ true
left_of true b e = refl
left_of false b e = e

pub right_of : (a b : Bool) → (a && b) ≡ true → b ≡ true
right_of true b e = e
right_of false b e = cc

-- what stands behind a test may be replaced by what equals it where the test passes
pub guarded : (t a b : Bool) → (t ≡ true → a ≡ b) → (t && a) ≡ (t && b)
guarded true a b h = h refl
guarded false a b h = refl
