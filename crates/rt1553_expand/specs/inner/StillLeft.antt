-- What is left of the last message while a text is read, line by line.
use Rattle.std.specs.Prelude.{ℕ, suc, ◌≤◌, Bool, true, false, if◌then◌else◌, List, [], ◌∷◌, ◌++◌, length, drop}
use Rattle.terminal_rules.specs.declared.event.Event.{Event}
use Rattle.rt1553_expand.specs.declared.placing.Pending.{Pending}
use Rattle.rt1553_expand.specs.Placing.{ScriptLine, Placing, is_more, is_hand, can_have, among_events, leading}
use Rattle.rt1553_expand.specs.Expansion.{Expansion, Stays, Gives, is_statement}

-- events of the message in this line; fresh: no line came behind it
pub record StillLeft : Type 0 where
  pub events : List Event
  pub source : ℕ
  pub fresh : Bool

-- those that a value holds
abbrev pub left_of : Pending → StillLeft
left_of p = record { events = drop p.at p.events.items; source = p.source; fresh = p.fresh }

abbrev pub IsPending : Pending → Type 0
IsPending p = p.at ≤ length p.events.items

-- the lines of the script from there on, where these lines of the text come next
abbrev pub to_come : StillLeft → Placing → List ScriptLine
to_come l p =
    if l.fresh then among_events l.source l.events (leading p.more ++ p.statements) ++ p.script
    else p.more ++ (among_events l.source l.events p.statements ++ p.script)

-- the first of these events can have the answer
abbrev pub first_can_have : Bool → List Event → Bool
first_can_have hand [] = false
first_can_have hand (e ∷ es) = can_have hand e es

-- how many events come up to the first that can have the answer; all, if none can
abbrev pub count_up_to : Bool → List Event → ℕ
count_up_to hand [] = 0
count_up_to hand (e ∷ es) = if can_have hand e es then 1 else suc (count_up_to hand es)

-- how many events come before a line that states an answer
abbrev pub events_before_statement : StillLeft → List ℕ → ℕ
events_before_statement l line = if is_more line then (if l.fresh then count_up_to (is_hand line) l.events else 0) else count_up_to (is_hand line) l.events

-- how many events come before the lines of this expansion
abbrev pub events_before_line : StillLeft → Expansion → ℕ
events_before_line l (Gives es) = length l.events
events_before_line l (Stays line said) = if is_statement line said then events_before_statement l line else length l.events

-- the line that comes behind them
abbrev pub own_line : ℕ → Expansion → List ScriptLine
own_line n (Gives es) = []
own_line n (Stays line said) = record { text = line; source = n } ∷ []

-- what is left behind it
abbrev pub left_behind : ℕ → StillLeft → Expansion → StillLeft
left_behind n l (Gives es) = record { events = es; source = n; fresh = true }
left_behind n l (Stays line said) =
    if is_statement line said then record { events = drop (events_before_statement l line) l.events; source = l.source; fresh = false }
    else record { events = []; source = l.source; fresh = false }
