-- Marks that are taken away test by test.
use Rattle.std.proofs.Common.{◌≡◌, ◌<◌, ◌↔◌, ℕ, ◌+◌, Bool, true, false, List, ◌++◌, length, get_or, take, drop, replicate, IsTrue, below_more, subst, sym, arith}
use Rattle.std.proofs.lemmas.List.{take-append-le, take_all, get_or-replicate}

-- one more of the tests in order
pub one_more : (new old first : Bool) (P : ℕ → Type 0) (Q : Type 0) (at : ℕ) → IsTrue old ↔ (IsTrue first × ((s : ℕ) → s < at → P s)) → IsTrue new ↔ (IsTrue old × Q) → Q ↔ P at →
    IsTrue new ↔ (IsTrue first × ((s : ℕ) → s < at + 1 → P s))
one_more new old first P Q at before step law = search (arith, below_more)

-- a test, and a second where a choice is made
pub two : (first one last : Bool) (A C D : Type 0) → IsTrue one ↔ (IsTrue first × A) → IsTrue last ↔ (IsTrue one × C) → (C ↔ D) → IsTrue last ↔ (IsTrue first × (A × D))
two first one last A C D a c law = search arith

-- a list that was written over the whole of another
pub written : {A : Type 0} (len : ℕ) (new old : List A) → length new ≡ length old → len ≡ length old → take len (new ++ drop (length new) old) ≡ new
written len new old same is = search (arith, take-append-le, take_all)

-- all marks stand at first
pub all_marked : (n k : ℕ) (marks : List Bool) → marks ≡ replicate n true → k < n → IsTrue (get_or marks k false)
all_marked n k marks is l = subst (λ ms. IsTrue (get_or ms k false)) (sym is) (get_or-replicate n k true false l)

-- a mark that stood at first
pub all_tests : (new first : Bool) (P Q : Type 0) → IsTrue first → IsTrue new ↔ (IsTrue first × P) → (P ↔ Q) → IsTrue new ↔ Q
all_tests new first P Q stands made law = (λ h. law.0 (made.0 h).1, λ q. made.1 (stands, law.1 q))

-- a test in other words
pub by_law : (new old : Bool) (P Q : Type 0) → IsTrue new ↔ (IsTrue old × P) → (P ↔ Q) → IsTrue new ↔ (IsTrue old × Q)
by_law new old P Q made law = ((λ h. let both = made.0 h in (both.0, law.0 both.1)), λ h. made.1 (h.0, law.1 h.1))
