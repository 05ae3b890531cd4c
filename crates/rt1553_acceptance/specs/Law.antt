-- What the acceptance test of a terminal shows.
use Rattle.std.specs.Prelude.{ℕ, ◌≡◌, ◌↔◌, List, [], ◌∷◌, map, Ok}
use Rattle.bus_legal.specs.Description.{Description}
use Rattle.bus_legal.specs.Parts.{Parts, description_in, IsNormal}
use Rattle.terminal_rules.specs.declared.event.Event.{Event}
use Rattle.terminal_rules.specs.Same.{Same}
use Rattle.bus_complete_test.specs.CompleteTest.{complete_test}
use Rattle.script_lines.specs.Transcript.{text_at}
use Rattle.rt1553_verify.specs.declared.matching.Matching.TheVariants.{Exact}
use Rattle.rt1553_verify.specs.Stated.{StatedEvent, stated_in}
use Rattle.rt1553_verify.specs.Verify.{verified}

-- of each event, after a history, just the answer of the terminal of P is stated, without a mask
abbrev pub AreStatedAnswers : Description → List Event → List StatedEvent → Type 0
AreStatedAnswers P h [] = Unit {0}
AreStatedAnswers P h (s ∷ ss) = (s.matching ≡ Exact) × (s.answer ≡ text_at P h s.event) × AreStatedAnswers P (s.event ∷ h) ss

-- The text is a script that states its answers. Its events are those of the complete test of the terminal of P, and its
-- answers are those of this terminal; so `verify` finds nothing for the terminal of P, and for the terminal of any other
-- profile it finds nothing exactly if that is the same terminal.
pub record IsAcceptanceTest (P : Description) (text : List ℕ) : Type 0 where
  pub stated : List StatedEvent
  pub reads : stated_in text ≡ Ok stated
  pub events : map (λ s. s.event) stated ≡ complete_test P
  pub answers : AreStatedAnswers P [] stated
  pub own : verified P text ≡ Ok []
  pub others : (v : Parts) → IsNormal v → (verified (description_in v) text ≡ Ok []) ↔ Same (description_in v) P
