-- Texts that are written piece by piece.
use Rattle.std.proofs.Common.{◌≡◌, ℕ, List, [], ◌++◌, ◌∙◌, ap, sym, subst, append_assoc, Result, OnOk}
use Rattle.std.proofs.lemmas.Result.{on_ok_weaker}
use Rattle.rt1553_report.specs.Pieces.{AddsPiece}

-- a piece, and behind it another one
pub adds : {old next new a b : List ℕ} → AddsPiece old next a → AddsPiece next new b → AddsPiece old new (a ++ b)
adds {old} {next} {new} {a} {b} first later = record { is = later.is ∙ (ap (λ t. t ++ b) first.is ∙ append_assoc old a b) }

-- the same, if it could be written
pub adds_on_ok : {T E : Type 0} (r : Result T E) {old next a : List ℕ} (new b : List ℕ) → AddsPiece old next a → OnOk r (AddsPiece next new b) → OnOk r (AddsPiece old new (a ++ b))
adds_on_ok r new b first later = on_ok_weaker r (adds first) later

-- the text of which one piece was chosen
pub chosen : {T E : Type 0} (r : Result T E) (P : List ℕ → Type 0) (old new a : List ℕ) → P a → OnOk r (AddsPiece old new a) → OnOk r ((part : List ℕ) × P part × AddsPiece old new part)
chosen r P old new a is written = on_ok_weaker r (λ e. (a, is, e)) written

-- a piece, and behind it the last one, which was chosen
pub last_piece : {T E : Type 0} (r : Result T E) (P Q : List ℕ → Type 0) {old next a : List ℕ} (new : List ℕ) → ((b : List ℕ) → P b → Q (a ++ b)) → AddsPiece old next a
    → OnOk r ((b : List ℕ) × P b × AddsPiece next new b) → OnOk r ((part : List ℕ) × Q part × AddsPiece old new part)
last_piece r P Q {old} {next} {a} new leads first later = on_ok_weaker r (λ x. (a ++ x.0, leads x.0 x.1, adds first x.2)) later

-- the piece of a thing that is another one
pub piece_of_same : {T E A : Type 0} (r : Result T E) (P : A → List ℕ → Type 0) {x y : A} (old new : List ℕ) → x ≡ y
    → OnOk r ((part : List ℕ) × P y part × AddsPiece old new part) → OnOk r ((part : List ℕ) × P x part × AddsPiece old new part)
piece_of_same r P {x} {y} old new e written = subst (λ z. OnOk r ((part : List ℕ) × P z part × AddsPiece old new part)) (sym e) written

-- a text that was empty is all that was written
pub all_written : {old new piece : List ℕ} → old ≡ [] → AddsPiece old new piece → new ≡ piece
all_written {old} {new} {piece} empty added = added.is ∙ ap (λ t. t ++ piece) empty

-- a text behind another one, if it could be written
pub text_behind : {T E : Type 0} (r : Result T E) (old next new a b : List ℕ) → next ≡ old ++ a → OnOk r (new ≡ next ++ b) → OnOk r (new ≡ old ++ (a ++ b))
text_behind r old next new a b first later = on_ok_weaker r (λ e. e ∙ (ap (λ t. t ++ b) first ∙ append_assoc old a b)) later
