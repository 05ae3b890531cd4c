-- Texts that are written piece by piece.
use Rattle.std.proofs.Common.{◌≡◌, ℕ, List, ◌++◌, ◌∙◌, ap, append_assoc, Result, OnOk}
use Rattle.std.proofs.lemmas.Result.{on_ok_weaker}

-- a piece, and behind it another one, if it could be written
pub adds_on_ok : {T E : Type 0} (r : Result T E) (old next new a b : List ℕ) → next ≡ old ++ a → OnOk r (new ≡ next ++ b) → OnOk r (new ≡ old ++ (a ++ b))
adds_on_ok r old next new a b first later = on_ok_weaker r (λ e. e ∙ (ap (λ t. t ++ b) first ∙ append_assoc old a b)) later
