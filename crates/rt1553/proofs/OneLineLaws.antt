-- Texts without line feeds.
use Rattle.std.proofs.Common.{ℕ, ◌≡◌, ◌==◌, false, List, [], ◌∷◌, arith}
use Rattle.std.proofs.lemmas.Bool.{or_parts}
use Rattle.std.proofs.lemmas.Bool.Decides.{nat_tests}
use Rattle.script_lines.specs.Text.{NoLineFeed}
use Rattle.rt1553.specs.OneLine.{has_line_feed}

pub no_line_feed : (bytes : List ℕ) → has_line_feed bytes ≡ false → NoLineFeed bytes
no_line_feed [] none = tt
no_line_feed (b ∷ bytes) none = let p = or_parts (b == 10) (has_line_feed bytes) none in (λ is. grind (arith, nat_tests), no_line_feed bytes p.1)
