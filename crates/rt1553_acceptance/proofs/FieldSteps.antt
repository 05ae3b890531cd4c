-- Words that an answer states, written one after the other.
use Rattle.std.proofs.Common.{ℕ, zero, suc, ◌≡◌, ◌∙◌, ◌-◌, ◌<◌, List, [], ◌∷◌, ◌++◌, codes, sym, ap, arith, append_assoc}
use Rattle.script_lines.specs.Digits.{digits_of}
use Rattle.rt1553_acceptance.specs.Text.{fields_stated}

-- the first word of a line that goes on
pub first_field : (room : ℕ) (old text more : List ℕ) (word : ℕ) (words : List ℕ) → room ≡ 0 → text ≡ old ++ codes "\n#+ " → more ≡ text ++ digits_of word
    → more ++ fields_stated 11 words ≡ old ++ fields_stated room (word ∷ words)
unfolding fields_stated
first_field room old text more word words none lead digits =
    ap (λ xs. xs ++ fields_stated 11 words) (digits ∙ ap (λ xs. xs ++ digits_of word) lead)
    ∙ append_assoc (old ++ codes "\n#+ ") (digits_of word) (fields_stated 11 words)
    ∙ append_assoc old (codes "\n#+ ") (digits_of word ++ fields_stated 11 words)
    ∙ ap (λ k. old ++ fields_stated k (word ∷ words)) (sym none)

-- a word for which there is room
pub next_field : (room : ℕ) (old text more : List ℕ) (word : ℕ) (words : List ℕ) → 0 < room → text ≡ old ++ codes " " → more ≡ text ++ digits_of word
    → more ++ fields_stated (room - 1) words ≡ old ++ fields_stated room (word ∷ words)
unfolding fields_stated
next_field zero old text more word words some lead digits = absurd (omega (arith, some))
next_field (suc room) old text more word words some lead digits =
    let one : suc room - 1 ≡ room = omega arith in
    ap (λ xs. xs ++ fields_stated (suc room - 1) words) (digits ∙ ap (λ xs. xs ++ digits_of word) lead)
    ∙ append_assoc (old ++ codes " ") (digits_of word) (fields_stated (suc room - 1) words)
    ∙ append_assoc old (codes " ") (digits_of word ++ fields_stated (suc room - 1) words)
    ∙ ap (λ k. old ++ 32 ∷ (digits_of word ++ fields_stated k words)) one

-- no word is left
pub fields_end : (room : ℕ) (old text left all : List ℕ) → left ≡ [] → text ≡ old ++ codes "\n" → old ++ fields_stated room left ≡ all → text ≡ all
unfolding fields_stated
fields_end room old text left all none feed before = feed ∙ ap (λ ws. old ++ fields_stated room ws) (sym none) ∙ before
