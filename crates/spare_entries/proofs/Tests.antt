-- Truth values behind a test.
use Rattle.std.proofs.Common.{◌≡◌, ◌↔◌, Bool, true, ◌&&◌, arith}

-- what stands behind a test is the same exactly if it is the same where the test passes
pub behind : (t a b : Bool) → (t ≡ true → a ≡ b) ↔ ((t && a) ≡ (t && b))
behind t a b = search arith
