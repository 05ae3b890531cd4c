-- The lines behind a message that state its answers, each right behind the event that it is for.
use Rattle.std.specs.Prelude.{ℕ, ◌==◌, Bool, true, false, not, ◌&&◌, ◌||◌, if◌then◌else◌, List, [], ◌∷◌, ◌++◌, codes, Option, Some, None, is_some}
use Rattle.std.specs.List.{flat_map}
use Rattle.terminal_rules.specs.declared.event.Event.{Event}
use Rattle.terminal_rules.specs.declared.event.Event.TheVariants as event
use Rattle.line_format.specs.Front.{after}
use Rattle.script_lines.specs.EventLine.{event_text}

-- a line of a script, without its line feed, and the number of the line of the text that it comes from
pub record ScriptLine : Type 0 where
  pub text : List ℕ
  pub source : ℕ

-- a statement of an answer: the line that it begins with, and those that go on with it
pub record Statement : Type 0 where
  pub first : ScriptLine
  pub more : List ScriptLine

abbrev pub statement_lines : Statement → List ScriptLine
statement_lines s = s.first ∷ s.more

abbrev pub this_or : Option (List ℕ) → Option (List ℕ) → Option (List ℕ)
this_or (Some text) other = Some text
this_or None other = other

-- the answer that a line states, or the mask that it has to fit
abbrev pub stated_answer : List ℕ → Option (List ℕ)
stated_answer line = this_or (after (codes "#> ") line) (after (codes "#~ ") line)

-- the line goes on with the one before it
abbrev pub is_more : List ℕ → Bool
is_more line = is_some (after (codes "#+ ") line)

-- the line states an answer, or goes on with one
abbrev pub is_stating : List ℕ → Bool
is_stating line = is_some (stated_answer line) || is_more line

-- a word ends here
abbrev pub is_word_over : Option (List ℕ) → Bool
is_word_over None = false
is_word_over (Some []) = true
is_word_over (Some (b ∷ bytes)) = b == 32

abbrev pub behind_hand : Option (List ℕ) → Option (List ℕ)
behind_hand None = None
behind_hand (Some text) = after (codes "hand") text

-- the line states a hand-over: the word `hand` comes first
abbrev pub is_hand : List ℕ → Bool
is_hand line = is_word_over (behind_hand (stated_answer line))

-- a word comes first
abbrev pub word_first : List Event → Bool
word_first (event.Word bus w ∷ es) = true
word_first es = false

-- The event, behind which these come, can have the answer: a gap a hand-over, unless a word comes right behind it, as in a transfer the
-- status word of the terminal that sends; a slot any other answer.
abbrev pub can_have : Bool → Event → List Event → Bool
can_have hand (event.Gap bus) es = hand && not (word_first es)
can_have hand event.Slot es = not hand
can_have hand e es = false

-- the line of an event of the message in line n
abbrev pub event_at : ℕ → Event → ScriptLine
event_at n e = record { text = event_text e; source = n }

-- The lines of the events of the message in line n, and among them the statements in their order: each event has the next one, if it can
-- have it. Those that are left come after the last event.
abbrev pub among_events : ℕ → List Event → List Statement → List ScriptLine
among_events n [] ss = flat_map statement_lines ss
among_events n (e ∷ es) [] = event_at n e ∷ among_events n es []
among_events n (e ∷ es) (s ∷ ss) = event_at n e ∷ (if can_have (is_hand s.first.text) e es then statement_lines s ++ among_events n es ss else among_events n es (s ∷ ss))

-- Lines of a text from some line on: those at the front that go on with a statement, the statements right behind these, and the script of
-- the other lines.
pub record Placing : Type 0 where
  pub more : List ScriptLine
  pub statements : List Statement
  pub script : List ScriptLine

abbrev pub nothing_placed : Placing
nothing_placed = record { more = []; statements = []; script = [] }

-- all of them where they stand
abbrev pub lines_in_order : Placing → List ScriptLine
lines_in_order p = p.more ++ (flat_map statement_lines p.statements ++ p.script)

-- lines that go on with no statement are taken as one
abbrev pub leading : List ScriptLine → List Statement
leading [] = []
leading (l ∷ ls) = record { first = l; more = ls } ∷ []

-- a message in line n comes before them
abbrev pub with_message : ℕ → List Event → Placing → Placing
with_message n es p = record { more = []; statements = []; script = among_events n es (leading p.more ++ p.statements) ++ p.script }

-- a line comes before them that states an answer, or goes on with one
abbrev pub with_statement : ScriptLine → Placing → Placing
with_statement l p =
    if is_more l.text then record { more = l ∷ p.more; statements = p.statements; script = p.script }
    else record { more = []; statements = record { first = l; more = p.more } ∷ p.statements; script = p.script }

-- another line comes before them, which stays where it is
abbrev pub with_line : ScriptLine → Placing → Placing
with_line l p = record { more = []; statements = []; script = l ∷ lines_in_order p }
