-- The lines of words.
use Rattle.std.proofs.Common.{◌≡◌, ◌≢◌, ℕ, zero, suc, ◌+◌, ◌-◌, ◌*◌, ◌^◌, ◌<◌, ◌≤◌, ◌==◌, List, [], ◌∷◌, ◌++◌, Bool, true, false, not, codes, take, drop, replicate, length, get_or, refl, ap, sym, ◌∙◌, subst, arith, lit<, add-one, length-append, length-drop, length-take-le, append-nil, ⊎_elim}
use Rattle.std.proofs.lemmas.Bool.{cases_lt}
use Rattle.std.proofs.lemmas.Bool.Decides.{nat_tests}
use Rattle.std.proofs.lemmas.List.{append_cancel_right, length-replicate, take-append-drop, get_or-replicate, get_or-drop, get_or-append_right, get_or_past}
use Rattle.std.proofs.Math.ListN.{get_or-append}
use Rattle.std.specs.Int.{bit_at}
use Rattle.bus_legal.specs.Reach.{largest_count}
use Rattle.bus_legal.specs.Tables.{has_any, largest_in}
use Rattle.bus_legal.specs.Parts.{IsBlock}
use Rattle.bus_legal.proofs.Counts.{largest_to-le}
use Rattle.line_format.specs.Format.{done, Spells, IsSound}
use Rattle.line_format.specs.Shapes.{words_line}
use Rattle.line_format.proofs.SoundLaws.{sound_then, sound_words}
use Rattle.line_format.proofs.Writes.{words_spelled, spells-then}
use Rattle.line_format.proofs.OneText.{HasOneText, Parted, parted, words_one, words_fit, AreSoManyWords}
use Rattle.line_format.proofs.SizeLaws.{HasSize, size_done, size_then, size_words}
use Rattle.bus_canon.specs.Canon.{block, blocks, sent_words}
use Rattle.bus_canon.proofs.Several.{OneAnd, one_and_cut, one_and_spelled, one_and_sound, one_and_one, one_and_size, when_sound, when_one, when_size}

pub largest_room : (counts : ℕ) → largest_in counts ≤ 32
unfolding largest_count
largest_room counts = largest_to-le 32 (λ count. bit_at counts (count - 1) == 1)

largest_none : largest_in 0 ≡ 0
unfolding largest_count
largest_none = refl

-- ---- zeros

abbrev pub zero_words : ℕ → List ℕ
zero_words n = replicate n 0

pub zero_at : (n i : ℕ) → get_or (zero_words n) i 0 ≡ 0
zero_at n i = ⊎_elim (λ lt. get_or-replicate {A = ℕ} n i 0 0 lt) (λ le. get_or_past (zero_words n) i 0 (omega (arith, length-replicate {A = ℕ} n 0))) (cases_lt i n)

pub zeros : (n : ℕ) (xs : List ℕ) → length xs ≡ n → ((i : ℕ) → i < n → get_or xs i 0 ≡ 0) → xs ≡ replicate n 0
zeros zero [] long none = refl
zeros zero (x ∷ xs) long none = absurd (omega arith)
zeros (suc n) [] long none = absurd (omega arith)
zeros (suc n) (x ∷ xs) long none =
    let here : x ≡ 0 = none 0 (omega arith) in
    let later : xs ≡ replicate n 0 = zeros n xs (omega arith) (λ i l. none (suc i) (omega arith)) in
    ap (λ y. y ∷ xs) here ∙ ap (λ ys. 0 ∷ ys) later

-- a block of which only the first words may be other than 0
pub block_split : (k : ℕ) (ws : List ℕ) → k ≤ 32 → length ws ≡ 32 → ((i : ℕ) → i < 32 → k ≤ i → get_or ws i 0 ≡ 0) → take k ws ++ replicate (32 - k) 0 ≡ ws
block_split k ws room long none =
    let behind : drop k ws ≡ replicate (32 - k) 0 =
    zeros (32 - k) (drop k ws) (omega (arith, length-drop k ws)) (λ i l. get_or-drop k ws i 0 ∙ none (k + i) (omega arith) (omega arith)) in
    ap (λ ys. take k ws ++ ys) (sym behind) ∙ take-append-drop k ws

-- ---- the words of a line

-- a block that fits the transmit counts of its subaddress
pub record FitsBlock (counts : ℕ) (block : List ℕ) : Type 0 where
  pub is_block : IsBlock block
  pub unsent : (i : ℕ) → i < 32 → largest_in counts ≤ i → get_or block i 0 ≡ 0

zero_block-fits : (counts : ℕ) → FitsBlock counts (zero_words 32)
zero_block-fits counts = record { is_block = record { long = refl; fit = λ i. (let none : get_or (zero_words 32) i 0 ≡ 0 = zero_at 32 i in omega arith) }; unsent = λ i l k. zero_at 32 i }

-- words and then zeros
padded : (counts k : ℕ) (ws : List ℕ) → k ≡ largest_in counts → k ≤ 32 → AreSoManyWords k ws → FitsBlock counts (ws ++ replicate (32 - k) 0)
padded counts k ws is room are = record {
  is_block = record {
    long = omega (arith, length-append ws (zero_words (32 - k)), length-replicate {A = ℕ} (32 - k) 0, are.long);
    fit = λ i. ⊎_elim
        (λ lt. subst (λ n. n < 2 ^ 16) (sym (get_or-append ws (zero_words (32 - k)) 0 i (omega (arith, are.long)))) (are.fit i))
        (λ le. (let none : get_or (ws ++ zero_words (32 - k)) i 0 ≡ 0 = behind i le in omega arith))
        (cases_lt i k);
  };
  unsent = λ i l le. behind i (omega (arith, is));
}
  where
    behind : (i : ℕ) → k ≤ i → get_or (ws ++ zero_words (32 - k)) i 0 ≡ 0
    behind i le = get_or-append_right ws (zero_words (32 - k)) k i 0 are.long le ∙ zero_at (32 - k) (i - k)

sent_cut : (s k : ℕ) (v x : List ℕ) → Spells (sent_words s k) v x → (ws : List ℕ) × (v ≡ ws ++ replicate (32 - k) 0) × Spells (words_line (codes "initial") s k) ws x
unfolding sent_words
sent_cut s k v x h = within (parted (words_line (codes "initial") s k) (λ ws. done (ws ++ replicate (32 - k) 0)) v x h)
  where
    within : Parted (words_line (codes "initial") s k) (λ ws. done (ws ++ replicate (32 - k) 0)) v x → (ws : List ℕ) × (v ≡ ws ++ replicate (32 - k) 0) × Spells (words_line (codes "initial") s k) ws x
    within p = (p.value, p.spells_rest.0, subst (λ y. Spells (words_line (codes "initial") s k) p.value y) (sym (p.is ∙ ap (λ r. p.front ++ r) p.spells_rest.1 ∙ append-nil p.front)) p.spells_front)

sent_one : (s k : ℕ) → HasOneText (sent_words s k)
sent_one s k v x y h t =
    let (ws, is, spells) = sent_cut s k v x h in
    let (us, is', spells') = sent_cut s k v y t in
    let same : ws ≡ us = append_cancel_right ws us (replicate (32 - k) 0) (sym is ∙ is') in
    words_one (codes "initial") s k us x y (subst (λ zs. Spells (words_line (codes "initial") s k) zs x) same spells) spells'

sent_size : (s k : ℕ) → k ≤ 32 → HasSize (sent_words s k) 0 171
unfolding sent_words
sent_size s k room =
    let all : HasSize (sent_words s k) (11 + 5 * k + 0) (11 + 5 * k + 0) =
    size_then (words_line (codes "initial") s k) (λ ws. done (ws ++ replicate (32 - k) 0)) (11 + 5 * k) (11 + 5 * k) 0 0 (size_words (codes "initial") s k (11 + 5 * k) (omega arith)) (λ ws. size_done (ws ++ replicate (32 - k) 0)) in
    record { least = λ v x h. omega arith; most = λ v x h. omega (arith, all.most v x h) }

-- ---- one subaddress

pub block_sound : (s counts : ℕ) → s < 100 → IsSound (block s counts)
unfolding block sent_words
block_sound s counts l =
    when_sound (has_any counts) (replicate 32 0) (sent_words s (largest_in counts))
    (sound_then (words_line (codes "initial") s (largest_in counts)) (λ ws. done (ws ++ replicate (32 - largest_in counts) 0)) (sound_words (codes "initial") s (largest_in counts) l refl) (λ ws. tt))

pub block_one : (s counts : ℕ) → HasOneText (block s counts)
unfolding block
block_one s counts = when_one (has_any counts) (replicate 32 0) (sent_words s (largest_in counts)) (sent_one s (largest_in counts))

pub block_size : (s counts : ℕ) → HasSize (block s counts) 0 171
unfolding block
block_size s counts = when_size (has_any counts) (replicate 32 0) (sent_words s (largest_in counts)) 0 171 (sent_size s (largest_in counts) (largest_room counts))

pub block_fits : (s counts : ℕ) (v x : List ℕ) → Spells (block s counts) v x → FitsBlock counts v
unfolding block
block_fits s counts v x h = by_any (has_any counts) refl
  where
    by_any : (t : Bool) → has_any counts ≡ t → FitsBlock counts v
    by_any true e =
        let (ws, is, spells) = sent_cut s (largest_in counts) v x (rw e at h) in
        subst (FitsBlock counts) (sym is) (padded counts (largest_in counts) ws refl (largest_room counts) (words_fit (codes "initial") s (largest_in counts) ws x spells))
    by_any false e = let absent = rw e at h in subst (FitsBlock counts) (sym absent.0) (zero_block-fits counts)

-- a block of zeros has no line
pub block_absent : (s counts : ℕ) (words : List ℕ) → counts ≡ 0 → FitsBlock counts words → Spells (block s counts) words []
unfolding block
block_absent s counts words none fits =
    let test : not (counts == 0) ≡ false = grind (arith, nat_tests) in
    let least : largest_in counts ≡ 0 = ap largest_in none ∙ largest_none in
    rw test (zeros 32 words fits.is_block.long (λ i l. fits.unsent i l (omega arith)), refl)

-- the first words of a block, in a line
pub block_given : (s counts k : ℕ) (words x : List ℕ) → counts ≢ 0 → k ≡ largest_in counts → FitsBlock counts words → Spells (words_line (codes "initial") s (length (take k words))) (take k words) x → Spells (block s counts) words x
unfolding block sent_words
block_given s counts k words x some is fits h =
    let test : not (counts == 0) ≡ true = grind (arith, nat_tests) in
    let room : k ≤ 32 = omega (arith, largest_room counts) in
    let long : length (take k words) ≡ k = length-take-le k words (omega (arith, fits.is_block.long)) in
    let whole : take k words ++ replicate (32 - k) 0 ≡ words = block_split k words room fits.is_block.long (λ i l le. fits.unsent i l (omega arith)) in
    let all : Spells (sent_words s k) (take k words ++ replicate (32 - k) 0) (x ++ []) =
    spells-then (words_line (codes "initial") s k) (λ ws. done (ws ++ replicate (32 - k) 0)) (take k words) (take k words ++ replicate (32 - k) 0) x [] (rw long at h) (refl, refl) in
    rw test (subst (λ n. Spells (sent_words s n) words x) is (subst (λ w. Spells (sent_words s k) w x) whole (subst (λ y. Spells (sent_words s k) (take k words ++ replicate (32 - k) 0) y) (append-nil x) all)))

pub block_some : (s counts : ℕ) (words : List ℕ) → s < 100 → FitsBlock counts words → (x : List ℕ) × Spells (block s counts) words x
block_some s counts words l fits = by_none (counts == 0) refl
  where
    take_fits : (k i : ℕ) (ws : List ℕ) → ((i : ℕ) → get_or ws i 0 < 2 ^ 16) → get_or (take k ws) i 0 < 2 ^ 16
    take_fits zero i ws fit = lit< tt
    take_fits (suc k) i [] fit = lit< tt
    take_fits (suc k) zero (w ∷ ws) fit = fit 0
    take_fits (suc k) (suc i) (w ∷ ws) fit = take_fits k i ws (λ i. fit (suc i))

    by_none : (t : Bool) → (counts == 0) ≡ t → (x : List ℕ) × Spells (block s counts) words x
    by_none true e = let none : counts ≡ 0 = grind (arith, nat_tests) in ([], block_absent s counts words none fits)
    by_none false e =
        let some : counts ≢ 0 = grind (arith, nat_tests) in
        let line = words_spelled (codes "initial") s (take (largest_in counts) words) l (λ i. take_fits (largest_in counts) i words fits.is_block.fit) in
        (_, block_given s counts (largest_in counts) words _ some refl fits line)

-- ---- all subaddresses

pub blocks_sound : (s : ℕ) (masks : List ℕ) → s + length masks < 100 → IsSound (blocks s masks)
unfolding blocks
blocks_sound s [] l = tt
blocks_sound s (counts ∷ masks) l = one_and_sound (block s counts) (blocks (suc s) masks) (block_sound s counts (omega arith)) (blocks_sound (suc s) masks (omega arith))

pub blocks_one : (s : ℕ) (masks : List ℕ) → HasOneText (blocks s masks)
unfolding blocks
blocks_one s [] = λ v x y h t. h.1 ∙ sym t.1
blocks_one s (counts ∷ masks) = one_and_one (block s counts) (blocks (suc s) masks) (block_one s counts) (blocks_one (suc s) masks)

pub blocks_size : (s : ℕ) (masks : List ℕ) → HasSize (blocks s masks) 0 (171 * length masks)
unfolding blocks
blocks_size s [] = size_done []
blocks_size s (counts ∷ masks) =
    let all : HasSize (blocks s (counts ∷ masks)) (0 + 0) (171 + 171 * length masks) =
    one_and_size (block s counts) (blocks (suc s) masks) 0 171 0 (171 * length masks) (block_size s counts) (blocks_size (suc s) masks) in
    record { least = λ v x h. omega arith; most = λ v x h. omega (arith, all.most v x h) }

-- a block for each mask, which fits it
pub record FitBlocks (masks : List ℕ) (words : List (List ℕ)) : Type 0 where
  pub long : length words ≡ length masks
  pub fit : (s : ℕ) → s < length masks → FitsBlock (get_or masks s 0) (get_or words s [])

pub blocks_fit : (s : ℕ) (masks : List ℕ) (v : List (List ℕ)) (x : List ℕ) → Spells (blocks s masks) v x → FitBlocks masks v
unfolding blocks
blocks_fit s [] v x h = subst (FitBlocks []) (sym h.0) (record { long = refl; fit = λ i l. absurd (omega arith) })
blocks_fit s (counts ∷ masks) v x h = within (one_and_cut (block s counts) (blocks (suc s) masks) v x h) (blocks_fit (suc s) masks)
  where
    within : OneAnd (block s counts) (blocks (suc s) masks) v x → ((v : List (List ℕ)) (x : List ℕ) → Spells (blocks (suc s) masks) v x → FitBlocks masks v) → FitBlocks (counts ∷ masks) v
    within p others_fit =
        let later : FitBlocks masks p.others = others_fit p.others p.rest p.spells_rest in
        subst (FitBlocks (counts ∷ masks)) (sym p.means) (record { long = ap suc later.long; fit = by_place (block_fits s counts p.first p.front p.spells_front) later.fit })
      where
        by_place : FitsBlock counts p.first → ((i : ℕ) → i < length masks → FitsBlock (get_or masks i 0) (get_or p.others i [])) → (i : ℕ) → i < suc (length masks) → FitsBlock (get_or (counts ∷ masks) i 0) (get_or (p.first ∷ p.others) i [])
        by_place here later zero l = here
        by_place here later (suc i) l = later i (omega arith)

pub blocks_some : (s : ℕ) (masks : List ℕ) (words : List (List ℕ)) → s + length masks < 100 → FitBlocks masks words → (x : List ℕ) × Spells (blocks s masks) words x
unfolding blocks
blocks_some s [] [] l fit = ([], (refl, refl))
blocks_some s [] (w ∷ ws) l fit = absurd (omega (arith, fit.long))
blocks_some s (counts ∷ masks) [] l fit = absurd (omega (arith, fit.long))
blocks_some s (counts ∷ masks) (w ∷ ws) l fit =
    let here = block_some s counts w (omega arith) (fit.fit 0 (omega arith)) in
    let later = blocks_some (suc s) masks ws (omega arith) (record { long = omega (arith, fit.long); fit = λ i l. fit.fit (suc i) (omega arith) }) in
    (here.0 ++ later.0, one_and_spelled (block s counts) (blocks (suc s) masks) w ws here.0 later.0 here.1 later.1)

-- one more block
pub blocks_on : (s counts : ℕ) (masks others : List ℕ) (w : List ℕ) (ws words : List (List ℕ)) (x y : List ℕ) → masks ≡ counts ∷ others → words ≡ w ∷ ws → Spells (block s counts) w x → Spells (blocks (s + 1) others) ws y
    → Spells (blocks s masks) words (x ++ y)
unfolding blocks
blocks_on s counts masks others w ws words x y is means a b =
    rw (is, means) (one_and_spelled (block s counts) (blocks (suc s) others) w ws x y a (rw add-one at b))

pub blocks_none : (s : ℕ) (masks : List ℕ) (words : List (List ℕ)) → masks ≡ [] → words ≡ [] → Spells (blocks s masks) words []
unfolding blocks
blocks_none s masks words e f = rw (e, f) (refl, refl)
