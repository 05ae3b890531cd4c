-- Laws of the lines of the words held ready.
use Rattle.std.proofs.Common.{◌≡◌, ℕ, zero, suc, ◌+◌, ◌-◌, ◌*◌, ◌<◌, List, [], ◌∷◌, ◌++◌, Ok, Err, refl, ap, sym, ◌∙◌, subst, codes, arith, add-one, append-nil}
use Rattle.line_format.specs.Format.{Spells, IsSound}
use Rattle.line_format.specs.Reading.{Spot, read}
use Rattle.line_format.specs.Shapes.{words_line}
use Rattle.line_format.proofs.SoundLaws.{sound_words}
use Rattle.line_format.proofs.OneText.{HasOneText, words_one}
use Rattle.line_format.proofs.SizeLaws.{HasSize, size_done, size_words}
use Rattle.bus_canon.proofs.Several.{one_and, one_and_spelled, one_and_sound, one_and_one, one_and_size}
use Rattle.bus_canon.proofs.Steps.{with_front, one_more, one_err}
use Rattle.terminal_state.specs.declared.held.HeldWords.{HeldWords}
use Rattle.terminal_state.specs.Held.{block_in}
use Rattle.rt1553_live.specs.State.{held_from}
use Rattle.rt1553_live.specs.Text.{held_lines}

pub held_sound : (s k : ℕ) → s + k < 100 → IsSound (held_lines s k)
unfolding held_lines
held_sound s zero l = tt
held_sound s (suc k) l = one_and_sound (words_line (codes "held") s 32) (held_lines (suc s) k) (sound_words (codes "held") s 32 (omega arith) refl) (held_sound (suc s) k (omega arith))

pub held_one : (s k : ℕ) → HasOneText (held_lines s k)
unfolding held_lines
held_one s zero = λ v x y h t. h.1 ∙ sym t.1
held_one s (suc k) = one_and_one (words_line (codes "held") s 32) (held_lines (suc s) k) (words_one (codes "held") s 32) (held_one (suc s) k)

-- one more line
pub held_on : (s left : ℕ) (ws : List ℕ) (others : List (List ℕ)) (x y : List ℕ) → 0 < left → Spells (words_line (codes "held") s 32) ws x → Spells (held_lines (s + 1) (left - 1)) others y → Spells (held_lines s left) (ws ∷ others) (x ++ y)
unfolding held_lines
held_on s zero ws others x y some a b = absurd (omega arith)
held_on s (suc k) ws others x y some a b =
    let less : suc k - 1 ≡ k = omega arith in
    one_and_spelled (words_line (codes "held") s 32) (held_lines (suc s) k) ws others x y a (rw (add-one, less) at b)

pub held_none : (s : ℕ) → Spells (held_lines s 0) [] []
unfolding held_lines
held_none s = (refl, refl)

held_suc : (s left : ℕ) → 0 < left → held_lines s left ≡ one_and (words_line (codes "held") s 32) (held_lines (s + 1) (left - 1))
unfolding held_lines
held_suc s zero some = absurd (omega arith)
held_suc s (suc k) some = let less : suc k - 1 ≡ k = omega arith in rw (less, add-one s) refl

pub held_end : (s : ℕ) (front : List (List ℕ)) (p : Spot) → with_front front (read (held_lines s 0) p) ≡ Ok (front, p)
unfolding held_lines
held_end s front p = rw (append-nil front) refl

pub held_more : (s left : ℕ) (front : List (List ℕ)) (p q : Spot) (ws : List ℕ) → 0 < left → read (words_line (codes "held") s 32) p ≡ Ok (ws, q)
    → with_front front (read (held_lines s left) p) ≡ with_front (front ++ ws ∷ []) (read (held_lines (s + 1) (left - 1)) q)
held_more s left front p q ws some e =
    ap (λ F. with_front front (read F p)) (held_suc s left some) ∙ one_more (words_line (codes "held") s 32) (held_lines (s + 1) (left - 1)) front p q ws e

pub held_err : (s left : ℕ) (front : List (List ℕ)) (p : Spot) (n : ℕ) → 0 < left → read (words_line (codes "held") s 32) p ≡ Err n → with_front front (read (held_lines s left) p) ≡ Err n
held_err s left front p n some e =
    ap (λ F. with_front front (read F p)) (held_suc s left some) ∙ one_err (words_line (codes "held") s 32) (held_lines (s + 1) (left - 1)) front p n e

pub held_from-suc : (held : HeldWords) (s left : ℕ) → 0 < left → held_from held s left ≡ block_in held s ∷ held_from held (s + 1) (left - 1)
held_from-suc held s zero some = absurd (omega arith)
held_from-suc held s (suc k) some = let less : suc k - 1 ≡ k = omega arith in rw (less, add-one s) refl

pub held_size : (s k n : ℕ) → n ≡ k * 168 → HasSize (held_lines s k) n n
unfolding held_lines
held_size s zero n e = let none : HasSize (held_lines s zero) 0 0 = size_done [] in let same : n ≡ 0 = omega arith in subst (λ n. HasSize (held_lines s zero) n n) (sym same) none
held_size s (suc k) n e =
    let all : HasSize (held_lines s (suc k)) (168 + k * 168) (168 + k * 168) =
    one_and_size (words_line (codes "held") s 32) (held_lines (suc s) k) 168 168 (k * 168) (k * 168) (size_words (codes "held") s 32 168 refl) (held_size (suc s) k (k * 168) refl) in
    let same : n ≡ 168 + k * 168 = omega arith in
    subst (λ n. HasSize (held_lines s (suc k)) n n) (sym same) all
