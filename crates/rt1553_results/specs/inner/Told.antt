-- What is told of the first sighting of results that nothing explains.
use Rattle.std.specs.Prelude.{◌≡◌, ℕ, ◌<◌, ◌^◌, Option, Some, None, List}
use Rattle.bus_legal.specs.Description.{Description}
use Rattle.recorded_terminal.specs.declared.watch.Unexplained.{Unexplained}
use Rattle.rt1553_acceptance.specs.Label.{label_of}
use Rattle.rt1553_results.specs.declared.explaining.UnexplainedReply.{UnexplainedReply}
use Rattle.rt1553_results.specs.inner.Placed.{line_of_slot}

-- the place that its line stands for, its command, and the reply there
pub record TellsPlace (D : Description) (came : ℕ → Option (List ℕ)) (first : Unexplained) (it : UnexplainedReply) : Type 0 where
  pub place : (n slot : ℕ) → first.marked.line ≡ line_of_slot n slot → n < 2 ^ 32 → (it.number ≡ n) × (it.slot ≡ slot)
  pub command : (c : ℕ) → first.marked.command ≡ Some c → it.command ≡ c
  pub reply : (words : List ℕ) → came it.number ≡ Some words → it.came.items ≡ words
  pub label : it.label.bytes ≡ label_of D it.command
  pub possible : it.possible ≡ first.sent

-- the same, where there is one
abbrev pub TellsUnexplainedReply : Description → (ℕ → Option (List ℕ)) → Option Unexplained → Option UnexplainedReply → Type 0
TellsUnexplainedReply D came None None = Unit {0}
TellsUnexplainedReply D came (Some first) (Some it) = TellsPlace D came first it
TellsUnexplainedReply D came _ _ = ⊥
