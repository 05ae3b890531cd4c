-- The events of which something is drawn.
use Rattle.std.specs.Prelude.{ℕ, ◌≡◌, ◌==◌, ◌++◌, Bool, List, Option, Some, None, map, filter}
use Rattle.std.specs.List.{flat_map, list_any}
use Rattle.drawing_boxes.specs.declared.numbered.Numbered.{Numbered}
use Rattle.rt1553_draw.specs.declared.part.DrawnMessage.{DrawnMessage}

-- those of a message
abbrev pub drawn_of : DrawnMessage → List Numbered
drawn_of part = map (λ column. column.of) part.columns.items

-- those of messages, one after another
abbrev pub drawn_in : List DrawnMessage → List Numbered
drawn_in parts = flat_map drawn_of parts

-- an event of the message stands in one of these lines
abbrev pub stands_in : List ℕ → DrawnMessage → Bool
stands_in lines part = list_any (λ column. list_any (λ line. line == column.of.line) lines) part.columns.items

-- of messages, those with an event in one of these lines; where there are no lines, all
abbrev pub wanted : Option (List ℕ) → List DrawnMessage → List DrawnMessage
wanted None parts = parts
wanted (Some lines) parts = filter (stands_in lines) parts

-- these are the wanted ones of messages that have just these events, in their order
pub record AreWanted (lines : Option (List ℕ)) (events : List Numbered) (parts : List DrawnMessage) : Type 0 where
  pub all : List DrawnMessage
  pub drawn : drawn_in all ≡ events
  pub kept : parts ≡ wanted lines all

-- these are the wanted ones of messages that have ended; those and the one that goes on have just these events, in their order
pub record AreSoFar (lines : Option (List ℕ)) (events : List Numbered) (parts : List DrawnMessage) (now : DrawnMessage) : Type 0 where
  pub all : List DrawnMessage
  pub drawn : drawn_in all ++ drawn_of now ≡ events
  pub kept : parts ≡ wanted lines all

-- A message ended, or none did; if it is wanted, it was added to those that were kept. What goes on has the events that it has not.
pub record EndsMessages (lines : Option (List ℕ)) (old new : List DrawnMessage) (part now : DrawnMessage) : Type 0 where
  pub ended : List DrawnMessage
  pub drawn : drawn_in ended ++ drawn_of now ≡ drawn_of part
  pub kept : new ≡ old ++ wanted lines ended
