-- Characters that print, as bytes.
use Rattle.std.proofs.Common.{ℕ, ◌≡◌, ◌<◌, ◌≤◌, inl, inr, arith, get_or, sym, subst, zero, suc, is_ok, List, [], ◌∷◌, ◌++◌, append-nil, Result, Ok, Err, OnOk}
use Rattle.std.specs.Prelude.{if◌then◌else◌}
use Rattle.std.specs.Char.{encode_utf8}
use Rattle.std.specs.List.{All}
use Rattle.std.proofs.lemmas.Bool.{cases_lt}
use Rattle.std.proofs.lemmas.List.Elements.{All-append}
use Rattle.std.proofs.lemmas.Str.{inside_one, encode_ascii}
use Rattle.std.proofs.lemmas.Grind.{get_or_default_zero}
use Rattle.rt1553_files.specs.Printable.{IsPrintable, PrintsOnOneLine}

high_prints : (b : ℕ) → 128 ≤ b → IsPrintable b
high_prints b high = (omega arith, λ is. absurd (omega arith))

one_prints : (c k d : ℕ) → 32 ≤ c → (c ≡ 127 → ⊥) → k < 1 → IsPrintable (get_or (c ∷ []) k d)
one_prints c zero d low other below = (low, other)
one_prints c (suc k) d low other below = absurd (omega arith)

-- the bytes of such a character print
pub encoded_prints : (c : ℕ) → 32 ≤ c → (c ≡ 127 → ⊥) → All IsPrintable (encode_utf8 c)
encoded_prints c low other = elim (cases_lt c 128) [
  | inl small ↦ rw (encode_ascii c small) (λ k d below. one_prints c k d low other below)
  | inr big ↦ λ k d below.
      subst IsPrintable (sym (get_or_default_zero (encode_utf8 c) k d below)) (high_prints _ (elim (cases_lt (get_or (encode_utf8 c) k 0) 128) [
        | inl few ↦ absurd (omega (arith, inside_one c [] (encode_utf8 c) k (sym (append-nil _)) below few))
        | inr h ↦ h
      ]))
]

-- a text that prints and such a character give a text that prints
pub stays_one_line : {X E : Type 0} (r : Result X E) (old new piece : List ℕ) → All IsPrintable piece → new ≡ (if is_ok r then old ++ piece else old) → OnOk r (PrintsOnOneLine old → PrintsOnOneLine new)
stays_one_line (Ok x) old new piece prints is = λ one. subst PrintsOnOneLine (sym is) (All-append IsPrintable old piece one prints)
stays_one_line (Err e) old new piece prints is = tt
