-- An initial entry with 0 at a word is one.
use Rattle.std.proofs.Common.{◌≡◌, ◌≤◌, ◌+◌, ℕ, List, length, set, length-set, subst, sym, ◌∙◌, ap, refl}
use Rattle.std.proofs.Props.{props}
use Rattle.bus_legal.specs.declared.entries.InitialWords.{InitialWords}
use Rattle.spare_entries.specs.Without.{IsZeroed}

abbrev Bounds : ℕ → ℕ → ℕ → List ℕ → Type 0
Bounds s f n ws = (1 ≤ s) × (s ≤ 30) × (1 ≤ f) × (f ≤ 32) × (f + n ≤ 33) × (length ws ≡ 32)

abbrev made : (s f n : ℕ) (ws : List ℕ) → Bounds s f n ws → InitialWords
made s f n ws h = record { subaddress = s; first = f; len = n; words = ws; subaddress_low = h.0; subaddress_high = h.1; first_low = h.2; first_high = h.3; room = h.4; whole = h.5 }

Bounds-prop : (s f n : ℕ) (ws : List ℕ) → IsProp (Bounds s f n ws)
Bounds-prop s f n ws = Prim.hlevel props

abbrev bounds_of : (e : InitialWords) → Bounds e.subaddress e.first e.len e.words
bounds_of e = (e.subaddress_low, e.subaddress_high, e.first_low, e.first_high, e.room, e.whole)

made_of : (e : InitialWords) → made e.subaddress e.first e.len e.words (bounds_of e) ≡ e
made_of e = refl

made_same : (s f n : ℕ) (ws : List ℕ) (t g m : ℕ) (us : List ℕ) (h : Bounds s f n ws) (k : Bounds t g m us) → s ≡ t → f ≡ g → n ≡ m → ws ≡ us → made s f n ws h ≡ made t g m us k
made_same s f n ws t g m us h k es ef en ew =
    let parts : (s, f, n, ws) ≡ (t, g, m, us) = λ i. (es i, ef i, en i, ew i) in
    subst (λ (p : ℕ × ℕ × ℕ × List ℕ). (b : Bounds p.0 p.1 p.2 p.3) → made s f n ws h ≡ made p.0 p.1 p.2 p.3 b) parts (λ b. ap (made s f n ws) (Bounds-prop s f n ws h b)) k

pub zeroed_once : (old : InitialWords) (word : ℕ) (a b : InitialWords) → IsZeroed old word a → IsZeroed old word b → a ≡ b
zeroed_once old word a b za zb =
    sym (made_of a)
    ∙ (made_same a.subaddress a.first a.len a.words b.subaddress b.first b.len b.words (bounds_of a) (bounds_of b)
    (za.subaddress ∙ sym zb.subaddress) (za.first ∙ sym zb.first) (za.len ∙ sym zb.len) (za.words ∙ sym zb.words)
    ∙ made_of b)

pub zeroed_of : InitialWords → ℕ → InitialWords
zeroed_of e word = record e { words = set e.words word 0; whole = length-set e.words word 0 ∙ e.whole }

pub zeroed-is : (e : InitialWords) (word : ℕ) → IsZeroed e word (zeroed_of e word)
unfolding zeroed_of
zeroed-is e word = record { subaddress = refl; first = refl; len = refl; words = refl }
