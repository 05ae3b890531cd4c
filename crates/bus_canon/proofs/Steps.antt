-- Steps of the readers.
use Rattle.std.proofs.Common.{◌≡◌, ◌≢◌, ℕ, zero, suc, ◌+◌, ◌-◌, ◌<◌, ◌==◌, List, [], ◌∷◌, ◌++◌, true, false, not, codes, Result, Ok, Err, refl, ap, sym, ◌∙◌, arith, add-one, append_assoc, append-nil, replicate}
use Rattle.std.proofs.lemmas.Bool.Decides.{nat_tests}
use Rattle.bus_legal.specs.Tables.{largest_in}
use Rattle.line_format.specs.Format.{Format, done, and_then}
use Rattle.line_format.specs.Shapes.{numbered_line, words_line}
use Rattle.line_format.specs.Reading.{Spot, read}
use Rattle.line_format.proofs.Steps.{◌then◌, read-then, then_ok, then_err}
use Rattle.bus_canon.specs.Canon.{masks, block, blocks, sent_words}
use Rattle.bus_canon.proofs.Several.{one_and}

-- what was read before, in front of what is read
abbrev pub with_front : {X : Type 0} → List X → Result (List X × Spot) ℕ → Result (List X × Spot) ℕ
with_front front (Ok x) = Ok (front ++ x.0, x.1)
with_front front (Err n) = Err n

pub with_none : {X : Type 0} (r : Result (List X × Spot) ℕ) → with_front [] r ≡ r
with_none (Ok x) = refl
with_none (Err n) = refl

join : {X : Type 0} (front : List X) (x : X) (r : Result (List X × Spot) ℕ) → with_front front (r then λ r. Ok (x ∷ r.0, r.1)) ≡ with_front (front ++ x ∷ []) r
join front x (Ok y) = ap (λ l. Ok (l, y.1)) (sym (append_assoc front (x ∷ []) y.0))
join front x (Err n) = refl

pub one_more : {X : Type 0} (F : Format X) (G : Format (List X)) (front : List X) (p q : Spot) (x : X) → read F p ≡ Ok (x, q)
    → with_front front (read (one_and F G) p) ≡ with_front (front ++ x ∷ []) (read G q)
one_more F G front p q x e =
    ap (with_front front) (then_ok F (λ x. and_then G (λ xs. done (x ∷ xs))) p q x e ∙ read-then G (λ xs. done (x ∷ xs)) q) ∙ join front x (read G q)

pub one_err : {X : Type 0} (F : Format X) (G : Format (List X)) (front : List X) (p : Spot) (n : ℕ) → read F p ≡ Err n → with_front front (read (one_and F G) p) ≡ Err n
one_err F G front p n e = ap (with_front front) (then_err F (λ x. and_then G (λ xs. done (x ∷ xs))) p n e)

-- ---- masks

pub masks_suc : (name : List ℕ) (s left : ℕ) → 0 < left → masks name s left ≡ one_and (numbered_line name s) (masks name (s + 1) (left - 1))
unfolding masks
masks_suc name s zero some = absurd (omega arith)
masks_suc name s (suc k) some = let less : suc k - 1 ≡ k = omega arith in rw (less, add-one s) refl

pub masks_end : (name : List ℕ) (s : ℕ) (front : List ℕ) (p : Spot) → with_front front (read (masks name s 0) p) ≡ Ok (front, p)
unfolding masks
masks_end name s front p = rw (append-nil front) refl

pub masks_more : (name : List ℕ) (s left : ℕ) (front : List ℕ) (p q : Spot) (m : ℕ) → 0 < left → read (numbered_line name s) p ≡ Ok (m, q)
    → with_front front (read (masks name s left) p) ≡ with_front (front ++ m ∷ []) (read (masks name (s + 1) (left - 1)) q)
masks_more name s left front p q m some e =
    ap (λ F. with_front front (read F p)) (masks_suc name s left some) ∙ one_more (numbered_line name s) (masks name (s + 1) (left - 1)) front p q m e

pub masks_err : (name : List ℕ) (s left : ℕ) (front : List ℕ) (p : Spot) (n : ℕ) → 0 < left → read (numbered_line name s) p ≡ Err n → with_front front (read (masks name s left) p) ≡ Err n
masks_err name s left front p n some e =
    ap (λ F. with_front front (read F p)) (masks_suc name s left some) ∙ one_err (numbered_line name s) (masks name (s + 1) (left - 1)) front p n e

-- ---- words

pub block_none : (s counts : ℕ) (p : Spot) → counts ≡ 0 → read (block s counts) p ≡ Ok (replicate 32 0, p)
unfolding block
block_none s counts p e = let none : not (counts == 0) ≡ false = grind (arith, nat_tests) in rw none refl

block_is : (s counts : ℕ) → counts ≢ 0 → block s counts ≡ sent_words s (largest_in counts)
unfolding block
block_is s counts some = let any : not (counts == 0) ≡ true = grind (arith, nat_tests) in rw any refl

pub block_some : (s counts : ℕ) (p q : Spot) (ws : List ℕ) → counts ≢ 0 → read (words_line (codes "initial") s (largest_in counts)) p ≡ Ok (ws, q)
    → read (block s counts) p ≡ Ok (ws ++ replicate (32 - largest_in counts) 0, q)
unfolding sent_words
block_some s counts p q ws some e =
    ap (λ F. read F p) (block_is s counts some) ∙ then_ok (words_line (codes "initial") s (largest_in counts)) (λ ws. done (ws ++ replicate (32 - largest_in counts) 0)) p q ws e

pub block_err : (s counts : ℕ) (p : Spot) (n : ℕ) → counts ≢ 0 → read (words_line (codes "initial") s (largest_in counts)) p ≡ Err n → read (block s counts) p ≡ Err n
unfolding sent_words
block_err s counts p n some e =
    ap (λ F. read F p) (block_is s counts some) ∙ then_err (words_line (codes "initial") s (largest_in counts)) (λ ws. done (ws ++ replicate (32 - largest_in counts) 0)) p n e

pub blocks_cons : (s counts : ℕ) (masks others : List ℕ) → masks ≡ counts ∷ others → blocks s masks ≡ one_and (block s counts) (blocks (s + 1) others)
unfolding blocks
blocks_cons s counts masks others e = rw (e, add-one s) refl

pub blocks_end : (s : ℕ) (masks : List ℕ) (front : List (List ℕ)) (p : Spot) → masks ≡ [] → with_front front (read (blocks s masks) p) ≡ Ok (front, p)
unfolding blocks
blocks_end s masks front p e = rw (e, append-nil front) refl

pub blocks_more : (s counts : ℕ) (masks others : List ℕ) (front : List (List ℕ)) (p q : Spot) (ws : List ℕ) → masks ≡ counts ∷ others → read (block s counts) p ≡ Ok (ws, q)
    → with_front front (read (blocks s masks) p) ≡ with_front (front ++ ws ∷ []) (read (blocks (s + 1) others) q)
blocks_more s counts masks others front p q ws is e =
    ap (λ F. with_front front (read F p)) (blocks_cons s counts masks others is) ∙ one_more (block s counts) (blocks (s + 1) others) front p q ws e

pub blocks_err : (s counts : ℕ) (masks others : List ℕ) (front : List (List ℕ)) (p : Spot) (n : ℕ) → masks ≡ counts ∷ others → read (block s counts) p ≡ Err n
    → with_front front (read (blocks s masks) p) ≡ Err n
blocks_err s counts masks others front p n is e =
    ap (λ F. with_front front (read F p)) (blocks_cons s counts masks others is) ∙ one_err (block s counts) (blocks (s + 1) others) front p n e
