-- What comparing two texts answers.
use Rattle.std.specs.Prelude.{◌≡◌, ◌≢◌, ◌↔◌, ℕ, List, ◌⊎◌}
use Rattle.bus_legal.specs.Description.{Description}
use Rattle.bus_legal.specs.Reach.{reach}
use Rattle.terminal_rules.specs.declared.event.Event.{Event}
use Rattle.terminal_rules.specs.Same.{Same}
use Rattle.terminal_exchanges.specs.Distinguish.{TellsApart}
use Rattle.bus_canon.specs.declared.difference.Difference.{Difference}
use Rattle.bus_canon.specs.Difference.{IsFirstDifference, script_for}
use Rattle.rt1553.specs.declared.comparison.Verdict.{Verdict}
use Rattle.rt1553.specs.declared.comparison.Verdict.TheVariants as verdict
use Rattle.rt1553.specs.declared.fault.LoadFault.{LoadFault}
use Rattle.rt1553.specs.Load.{Of, IsNotLoaded, IsNoCanonText}
use Rattle.rt1553.specs.Canon.{IsCanon}

-- both texts are accepted and have these canonical bytes, and their terminals answer alike for ever
pub record AreSame (first second : List ℕ) : Type 0 where
  pub p : Description
  pub q : Description
  pub of_first : Of first p
  pub of_second : Of second q
  pub bytes : List ℕ
  pub canon_first : IsCanon first bytes
  pub canon_second : IsCanon second bytes
  pub same : Same p q

-- Both texts are accepted, and these are their canonical bytes, which differ. The script is the one of the first
-- difference between what can be reached of their terminals, and the terminals answer it otherwise.
pub record AreDifferent (first second : List ℕ) (script : List Event) : Type 0 where
  pub p : Description
  pub q : Description
  pub of_first : Of first p
  pub of_second : Of second q
  pub first_bytes : List ℕ
  pub second_bytes : List ℕ
  pub canon_first : IsCanon first first_bytes
  pub canon_second : IsCanon second second_bytes
  pub canonical : first_bytes ≢ second_bytes
  pub difference : Difference
  pub first_difference : IsFirstDifference (reach p) (reach q) difference
  pub shows : script ≡ script_for (reach p) (reach q) difference
  pub apart : TellsApart p q script

-- what the verdict says is so
abbrev pub IsRight : List ℕ → List ℕ → Verdict → Type 0
IsRight first second verdict.Same = AreSame first second
IsRight first second (verdict.Differ script) = AreDifferent first second script.items

-- The verdict is `Same` exactly if the two texts mean the same terminal, of whatever descriptions they are.
abbrev pub IsExact : List ℕ → List ℕ → Verdict → Type 0
IsExact first second v = (P Q : Description) → Of first P → Of second Q → (v ≡ verdict.Same) ↔ Same P Q

-- The fault is that of the first text that is not accepted, or says that memory ran out. The second text is loaded only where
-- the first was accepted.
abbrev pub IsNotCompared : List ℕ → List ℕ → LoadFault → Type 0
IsNotCompared first second fault = IsNotLoaded first fault ⊎ ((p : Description) × Of first p × IsNotLoaded second fault)

-- the same of two canonical texts, for which no memory is taken
abbrev pub IsNotComparedCanonical : List ℕ → List ℕ → LoadFault → Type 0
IsNotComparedCanonical first second fault = IsNoCanonText first fault ⊎ ((p : Description) × Of first p × IsNoCanonText second fault)

-- For any two accepted texts the canonical bytes are equal exactly if, from power-up, over every list of events that can
-- come, both terminals send the same words and hand over the same things, each at the same event.
abbrev pub Headline : Type 0
Headline = (first second a b : List ℕ) (P Q : Description) → Of first P → Of second Q → IsCanon first a → IsCanon second b → (a ≡ b) ↔ Same P Q
