-- What is told of the places, one after the other.
use Rattle.std.proofs.Common.{◌≡◌, ◌∙◌, false, ◌<◌, ◌≤◌, ◌+◌, ℕ, zero, suc, Some, List, [], ◌∷◌, ◌++◌, length, drop, slice_get, flat_map, arith, refl, ap, sym, append_assoc, append-nil}
use Rattle.std.proofs.lemmas.List.{drop_all}
use Rattle.terminal_rules.specs.declared.event.Event.TheVariants.{Word, Noise, Gap, Slot, Write, Vector, Bit, Flag}
use Rattle.terminal_bus.specs.declared.event.BusEvent.{BusEvent}
use Rattle.terminal_bus.specs.declared.event.BusEvent.TheVariants.{OnBus, SlotPasses, Subsystem}
use Rattle.terminal_bus.specs.Members.{Member}
use Rattle.live_bus.specs.BusNumbers.{Told, member_told, brings_answers}

-- a member at its place
pub record Placed (ms : List Member) (k : ℕ) : Type 0 where
  pub it : Member
  pub at : slice_get ms k ≡ Some it
  pub rest : drop k ms ≡ it ∷ drop (k + 1) ms

pub placed : (ms : List Member) (k : ℕ) → k < length ms → Placed ms k
placed [] k within = absurd (omega (arith, within))
placed (m ∷ ms) zero within = record { it = m; at = refl; rest = refl }
placed (m ∷ ms) (suc k) within = let there = placed ms k (omega (arith, within)) in let next : suc (k + 1) ≡ suc k + 1 = omega arith in
    record { it = there.it; at = there.at; rest = there.rest ∙ ap (λ i. there.it ∷ drop i (m ∷ ms)) next }

-- one member more is told of
pub one_told : (f : Member → List Told) (ms : List Member) (k : ℕ) (m : Member) (old new all : List Told) → drop k ms ≡ m ∷ drop (k + 1) ms → new ≡ old ++ f m →
    old ++ flat_map f (drop k ms) ≡ all → new ++ flat_map f (drop (k + 1) ms) ≡ all
one_told f ms k m old new all rest is before =
    ap (λ t. t ++ flat_map f (drop (k + 1) ms)) is ∙ (append_assoc old (f m) (flat_map f (drop (k + 1) ms)) ∙ (ap (λ ns. old ++ flat_map f ns) (sym rest) ∙ before))

-- all are told of
pub all_told : (f : Member → List Told) (ms : List Member) (k : ℕ) (old all : List Told) → length ms ≤ k → old ++ flat_map f (drop k ms) ≡ all → old ≡ all
all_told f ms k old all past before = sym (append-nil old) ∙ (ap (λ ns. old ++ flat_map f ns) (sym (drop_all k ms past)) ∙ before)

-- where an event is never answered, nothing is told of any member
pub none_told : (members : List Member) (x : BusEvent) → brings_answers x ≡ false → (ms : List Member) → [] ≡ flat_map (member_told members x) ms
none_told members (OnBus (Word b w)) never [] = refl
none_told members (OnBus (Word b w)) never (m ∷ ms) = none_told members (OnBus (Word b w)) never ms
none_told members (OnBus (Noise b)) never [] = refl
none_told members (OnBus (Noise b)) never (m ∷ ms) = none_told members (OnBus (Noise b)) never ms
none_told members (OnBus (Gap b)) never ms = cc
none_told members (OnBus Slot) never ms = cc
none_told members (OnBus (Write p v)) never ms = cc
none_told members (OnBus (Vector v)) never ms = cc
none_told members (OnBus (Bit v)) never ms = cc
none_told members (OnBus (Flag f v)) never ms = cc
none_told members SlotPasses never ms = cc
none_told members (Subsystem a e) never ms = cc
