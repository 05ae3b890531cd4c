-- What is promised of a terminal that is stepped by plain events.
use Rattle.std.specs.Prelude.{◌≡◌, ℕ, Option, Some, None, List, [], ◌∷◌}
use Rattle.bus_legal.specs.Description.{Description}
use Rattle.bus_legal.specs.Parts.{Parts}
use Rattle.bus_legal.specs.Tables.{tables_say}
use Rattle.terminal_rules.specs.declared.event.Event.{Event}
use Rattle.terminal_rules.specs.Out.{out, Silence}
use Rattle.bus_terminal.specs.declared.terminal.Terminal.{Terminal}
use Rattle.bus_terminal.specs.Stands.{StandsAt}
use Rattle.rt1553_live.specs.State.{state_of, IsMade}
use Rattle.rt1553_live.specs.Text.{StateText}
use Rattle.rt1553_live.specs.declared.terminal.Live.{Live}
use Rattle.rt1553_live.specs.PlainEvent.{plain_event}
use Rattle.rt1553_live.specs.PlainAnswer.{answer_in}

-- The terminal stands at this history, the latest event first, as one of this description: it stands there under a
-- description of its own, that of its profile, whose terminal answers the same to each event after each history.
pub record AnswersAs (P : Description) (h : List Event) (t : Terminal Parts) : Type 0 where
  pub own : Description
  pub stands : StandsAt (λ (normal : Parts). tables_say normal.tables) own h t
  pub alike : (past : List Event) (e : Event) → out own past e ≡ out P past e
  pub made : IsMade t

-- the terminal is at power-up, and nothing was answered yet
pub record IsNew (P : Description) (x : Live) : Type 0 where
  pub stands : AnswersAs P [] x.terminal
  pub silent : answer_in x.answer ≡ Some Silence

-- The event was played: for each description and each history at which the terminal stood, what stands in front of it
-- is the answer of that description, and the terminal stands behind the event.
pub record IsStepped (x : Live) (e : Event) (w : Live) : Type 0 where
  pub answers : (P : Description) (h : List Event) → AnswersAs P h x.terminal → answer_in w.answer ≡ Some (out P h e)
  pub stands : (P : Description) (h : List Event) → AnswersAs P h x.terminal → AnswersAs P (e ∷ h) w.terminal
  pub event : w.event ≡ x.event

-- 0 where an event was played; 2 where there was none, and nothing changed
abbrev pub StepsBy : Option Event → Live → ℕ → Live → Type 0
StepsBy (Some e) x status w = (status ≡ 0) × IsStepped x e w
StepsBy None x status w = (status ≡ 2) × (w ≡ x)

-- the event that the numbers in front mean was played, or they mean none and nothing changed
abbrev pub Steps : Live → ℕ → Live → Type 0
Steps x status w = StepsBy (plain_event x.event) x status w

-- the second answers further events as the first does, whatever the first was made of and whatever came
abbrev pub GoesOnAs : Terminal Parts → Terminal Parts → Type 0
GoesOnAs t u = (P : Description) (h : List Event) → AnswersAs P h t → AnswersAs P h u

-- the same event in front, the same answer, and a terminal that goes on as that one
pub record IsCopy (x w : Live) : Type 0 where
  pub event : w.event ≡ x.event
  pub answer : w.answer ≡ x.answer
  pub terminal : GoesOnAs x.terminal w.terminal

-- A terminal of this saved state, of which nothing was answered yet: it goes on as any that is saved so.
pub record IsRestored (text : List ℕ) (w : Live) : Type 0 where
  pub state : StateText (state_of w.terminal) text
  pub silent : answer_in w.answer ≡ Some Silence
  pub terminal : (t : Terminal Parts) → StateText (state_of t) text → GoesOnAs t w.terminal
