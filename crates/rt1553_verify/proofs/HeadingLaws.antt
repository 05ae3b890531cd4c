-- Laws of what the comments at the front of a script name.
use Rattle.std.proofs.Common.{ℕ, ◌≡◌, List, [], ◌∷◌, Some, None, length, is_some, if◌then◌else◌, refl, ap, ap₂, arith}
use Rattle.line_format.specs.Front.{after}
use Rattle.script_lines.specs.Text.{lines_of}
use Rattle.rt1553_verify.specs.Heading.{or_first, named}

pub named-here : (key line : List ℕ) (lines : List (List ℕ)) (name : List ℕ) → after key line ≡ Some name → named key (line ∷ lines) ≡ Some name
unfolding named
named-here key line lines name e = ap (λ o. or_first o (if is_some (after (35 ∷ []) line) then named key lines else None)) e

pub named-next : (key line comment : List ℕ) (lines : List (List ℕ)) → after key line ≡ None → after (35 ∷ []) line ≡ Some comment → named key (line ∷ lines) ≡ named key lines
unfolding named
named-next key line comment lines e at = ap₂ (λ o c. or_first o (if is_some c then named key lines else None)) e at

pub named-ends : (key line : List ℕ) (lines : List (List ℕ)) → after key line ≡ None → after (35 ∷ []) line ≡ None → named key (line ∷ lines) ≡ None
unfolding named
named-ends key line lines e other = ap₂ (λ o c. or_first o (if is_some c then named key lines else None)) e other

pub named-nowhere : (key rest : List ℕ) → length rest ≡ 0 → named key (lines_of rest) ≡ None
unfolding named lines_of
named-nowhere key [] e = refl
named-nowhere key (b ∷ rest) e = absurd (omega (arith, e))
