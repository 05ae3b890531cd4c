-- Which entries have no effect on the bits of a mask.
use Rattle.std.proofs.Common.{◌≡◌, ◌↔◌, ℕ, suc, ◌+◌, ◌^◌, ◌<◌, ◌≤◌, ◌==◌, Bool, true, false, not, ◌&&◌, cond, IsTrue, List, length, map, get_or, set, take, drop, Option, Some, bit_and, ap, sym, ◌∙◌, get_or-set_same, get_or-set_other, arith}
use Rattle.std.proofs.lemmas.Bool.{cases_lt}
use Rattle.bus_legal.proofs.Last.{last_of-take}
use Rattle.std.specs.List.{list_any}
use Rattle.std.proofs.lemmas.Nat.{and_le_r}
use Rattle.std.proofs.lemmas.List.{drop-map, get_or-map, length-map}
use Rattle.bus_legal.specs.Last.{last_of}
use Rattle.bus_word.specs.Mask.{has_bit}
use Rattle.bus_legal.proofs.Bits.{has_bit-and}
use Rattle.spare_entries.specs.declared.said.Said.{Said}
use Rattle.spare_entries.specs.inner.Says.{what_is_said, bit_after, SameBits}
use Rattle.spare_entries.proofs.Bits.{zero_mask}
use Rattle.spare_entries.proofs.LastOf.{same_without, list_any-map}

-- a bit is not among those that change
masked : (n u left b : Bool) → ((n && (cond u (not b) b && left)) ≡ false) ↔ (n ≡ true → left ≡ true → u ≡ b)
masked n u left b = search arith

-- Of an entry: the mask before it, the bits of which it is the last to speak, and those of them that it changes.
pub same_bits : (entries : List Said) (k : ℕ) (d : Said) (start numbers before last effect : ℕ) → k < length entries → numbers < 2 ^ 32 →
    ((i : ℕ) → i < 32 → has_bit before i ≡ bit_after (has_bit start i) (take k entries) i) →
    ((i : ℕ) → i < 32 → has_bit last i ≡ (not (list_any (λ e. has_bit e.bits i) (drop (suc k) entries)) && has_bit (get_or entries k d).bits i)) →
    ((i : ℕ) → i < 32 → has_bit effect i ≡ (cond (get_or entries k d).legal (not (has_bit before i)) (has_bit before i) && has_bit last i)) →
    ((bit_and effect numbers == 0) ≡ true) ↔ SameBits start numbers entries k
same_bits entries k d start numbers before last effect l small befores lasts effects =
    let e : Said = get_or entries k d in
    let below : bit_and effect numbers ≤ numbers = and_le_r effect numbers in
    let zero = zero_mask (bit_and effect numbers) (omega arith) in
    let bit : (i : ℕ) → i < 32 → has_bit (bit_and effect numbers) i ≡ (has_bit numbers i && (cond e.legal (not (has_bit before i)) (has_bit before i) && has_bit last i)) =
    (λ i m. has_bit-and effect numbers i ∙ ap (λ b. has_bit numbers i && b) (effects i m)) in
    let law = λ (i : ℕ). same_without (what_is_said (has_bit start i)) (λ (s : Said). has_bit s.bits i) entries k d l in
    let test = λ (i : ℕ). masked (has_bit numbers i) e.legal (has_bit last i) (has_bit before i) in (
      λ z i m n. (law i).1 (λ h. (test i).0 (sym (bit i m) ∙ zero.0 z i m) n (lasts i m ∙ h) ∙ befores i m),
      λ same. zero.1 (λ i m. bit i m ∙ (test i).1 (λ n h. (law i).0 (same i m n) (sym (lasts i m) ∙ h) ∙ sym (befores i m))),
    )

-- one more entry
said_of-cond : (default t : Bool) (e : Said) (o : Option Said) → what_is_said default (cond t (Some e) o) ≡ cond t e.legal (what_is_said default o)
said_of-cond default t e o = search arith

pub bit_after-take : (default : Bool) (entries : List Said) (at : ℕ) (d : Said) (old new i : ℕ) → at < length entries → has_bit old i ≡ bit_after default (take at entries) i →
    has_bit new i ≡ cond (has_bit (get_or entries at d).bits i) (get_or entries at d).legal (has_bit old i) → has_bit new i ≡ bit_after default (take (at + 1) entries) i
bit_after-take default entries at d old new i l e f =
    let p = λ (s : Said). has_bit s.bits i in
    let x = get_or entries at d in
    f ∙ (ap (cond (p x) x.legal) e ∙ sym (ap (what_is_said default) (last_of-take p entries at d l) ∙ said_of-cond default (p x) x (last_of p (take at entries))))

both : (a b : Bool) (P : Type 0) → (b ≡ true) ↔ P → IsTrue (a && b) ↔ (IsTrue a × P)
both a b P h = search arith

-- one more mark, made by a test
pub marked : (spares old : List Bool) (at : ℕ) (test : Bool) (P : ℕ → Type 0) → at < length spares → get_or spares at false ≡ get_or old at false →
    ((j : ℕ) → j < at → IsTrue (get_or spares j false) ↔ (IsTrue (get_or old j false) × P j)) → (test ≡ true) ↔ P at →
    (j : ℕ) → j < at + 1 → IsTrue (get_or (set spares at (get_or spares at false && test)) j false) ↔ (IsTrue (get_or old j false) × P j)
marked spares old at test P l is made law j k = search (arith, get_or-set_other, get_or-set_same, both, cases_lt)

-- the bits of the entries, of which each mask kept its last
pub bits_last : {X : Type 0} (bits : X → ℕ) (entries : List X) (old new : List ℕ) (k i : ℕ) (d : X) → old ≡ map bits entries → k < length entries → i < 32 →
    ((k i : ℕ) → k < length old → i < 32 → has_bit (get_or new k 0) i ≡ (not (list_any (λ mask. has_bit mask i) (drop (suc k) old)) && has_bit (get_or old k 0) i)) →
    has_bit (get_or new k 0) i ≡ (not (list_any (λ e. has_bit (bits e) i) (drop (suc k) entries)) && has_bit (bits (get_or entries k d)) i)
bits_last {X} bits entries old new k i d is l m kept = search (arith, length-map, drop-map, list_any-map, get_or-map)
