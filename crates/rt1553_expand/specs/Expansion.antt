-- The script that a text of events and messages stands for.
use Rattle.std.specs.Prelude.{ℕ, ◌+◌, ◌-◌, ◌≡◌, ◌≢◌, ◌<◌, ◌≤◌, ◌==◌, Bool, false, ◌&&◌, nat_lt, if◌then◌else◌, List, [], ◌∷◌, ◌++◌, length, get_or, map, drop, Option, Some, None, is_some, Result, Ok, Err}
use Rattle.std.specs.List.{flat_map, sum_by}
use Rattle.bus_word.specs.declared.word.Bus.{Bus}
use Rattle.terminal_rules.specs.declared.event.Event.{Event}
use Rattle.line_format.specs.Front.{after}
use Rattle.script_lines.specs.declared.line.LineFault.{LineFault}
use Rattle.script_lines.specs.Line.{meaning, bus_first}
use Rattle.script_lines.specs.Text.{lines_of}
use Rattle.rt1553_expand.specs.declared.fault.ExpandFault.{ExpandFault}
use Rattle.rt1553_expand.specs.declared.fault.ExpandFault.TheVariants.{Long, LongComment, Neither, Mark, Return}
use Rattle.rt1553_expand.specs.declared.expanding.Expanded.{Expanded}
use Rattle.rt1553_expand.specs.declared.expanding.Expanded.TheVariants.{Script, Refused, TooLong}
use Rattle.rt1553_expand.specs.declared.expanding.UnexpandedLine.{UnexpandedLine}
use Rattle.script_terminals.specs.BusLine.{address_first}
use Rattle.rt1553_expand.specs.declared.script_for.ScriptFor.{ScriptFor}
use Rattle.rt1553_expand.specs.Own.{is_of_bus}
use Rattle.rt1553_expand.specs.Message.{SaidMessage, message_in}
use Rattle.rt1553_expand.specs.Events.{message_events}
use Rattle.rt1553_expand.specs.Placing.{ScriptLine, Placing, is_stating, nothing_placed, lines_in_order, with_message, with_statement, with_line}

-- what stands in the script for a line: the line itself, with what it says, or a line for each of the events of a message
pub data Expansion : Type 0 where
  Stays : List ℕ → Option Event → Expansion
  Gives : List Event → Expansion

-- the event that a line of a script says; an empty line and a comment say none
abbrev pub events_said : Option Event → List Event
events_said None = []
events_said (Some e) = e ∷ []

-- the events of it
abbrev pub events_given : Expansion → List Event
events_given (Stays line said) = events_said said
events_given (Gives es) = es

-- how many lines it has
abbrev pub lines_given : Expansion → ℕ
lines_given (Stays line said) = 1
lines_given (Gives es) = length es

-- a message on the bus gives the lines of its events, unless it has a fault
abbrev pub message_expansion : ScriptFor → Bus → Result SaidMessage ExpandFault → Result Expansion ExpandFault
message_expansion own bus (Err fault) = Err fault
message_expansion own bus (Ok message) = Ok (Gives (message_events own bus message))

-- A message begins with the letter of a bus. A line without one is no message; on a bus, one with an address in front stays, whatever is
-- behind it.
abbrev pub by_bus_letter : ScriptFor → List ℕ → Option Bus → Result Expansion ExpandFault
by_bus_letter own line None = if is_of_bus own && is_some (address_first line) then Ok (Stays line None) else Err Neither
by_bus_letter own line (Some bus) = message_expansion own bus (message_in own (drop 2 line))

-- the line ends in a carriage return
abbrev pub ends_in_return : List ℕ → Bool
ends_in_return line = get_or line (length line - 1) 0 == 13

-- the line begins with a byte order mark
abbrev pub has_mark : List ℕ → Bool
has_mark line = is_some (after (239 ∷ 187 ∷ 191 ∷ []) line)

-- why a line is refused: first for what editors add unseen
abbrev pub named_fault : List ℕ → ExpandFault → ExpandFault
named_fault line fault = if ends_in_return line then Return else if has_mark line then Mark else fault

abbrev pub with_named_fault : List ℕ → Result Expansion ExpandFault → Result Expansion ExpandFault
with_named_fault line (Ok expansion) = Ok expansion
with_named_fault line (Err fault) = Err (named_fault line fault)

-- a line of a script stays, unless it is a comment too long for a script; any other line is read as a message
abbrev pub by_meaning : ScriptFor → List ℕ → Result (Option Event) LineFault → Result Expansion ExpandFault
by_meaning own line (Ok said) = if nat_lt 64 (length line) then Err LongComment else Ok (Stays line said)
by_meaning own line (Err fault) = with_named_fault line (by_bus_letter own line (bus_first line))

-- what stands in the script for a line of the text, or why the line is refused
abbrev pub expansion_of : ScriptFor → List ℕ → Result Expansion ExpandFault
expansion_of own line = if nat_lt 256 (length line) then Err Long else by_meaning own line (meaning line)

-- the events that a line of the text adds to the script: none where it is refused
abbrev pub expanded_events : Result Expansion ExpandFault → List Event
expanded_events (Ok expansion) = events_given expansion
expanded_events (Err fault) = []

-- how many lines it adds: none where it is refused
abbrev pub expanded_lines : Result Expansion ExpandFault → ℕ
expanded_lines (Ok expansion) = lines_given expansion
expanded_lines (Err fault) = 0

-- a line that says an event states no answer
abbrev pub is_statement : List ℕ → Option Event → Bool
is_statement line None = is_stating line
is_statement line (Some e) = false

-- line n comes before these
abbrev pub with_expansion : ℕ → Expansion → Placing → Placing
with_expansion n (Gives es) p = with_message n es p
with_expansion n (Stays line said) p =
    if is_statement line said then with_statement (record { text = line; source = n }) p else with_line (record { text = line; source = n }) p

-- a line that is refused is left out
abbrev pub with_expanded : ℕ → Result Expansion ExpandFault → Placing → Placing
with_expanded n (Ok expansion) p = with_expansion n expansion p
with_expanded n (Err fault) p = p

-- lines, of which the first has number n, with their statements and the script behind these
unfoldable pub placing : ScriptFor → ℕ → List (List ℕ) → Placing
placing own n [] = nothing_placed
placing own n (line ∷ lines) = with_expanded n (expansion_of own line) (placing own (n + 1) lines)

-- the lines of the script of a text
abbrev pub script_lines : ScriptFor → List (List ℕ) → List ScriptLine
script_lines own lines = lines_in_order (placing own 1 lines)

-- a line with its line feed
abbrev pub spelled : ScriptLine → List ℕ
spelled l = l.text ++ 10 ∷ []

-- the script
abbrev pub script_in : ScriptFor → List (List ℕ) → List ℕ
script_in own lines = flat_map spelled (script_lines own lines)

-- its events
abbrev pub all_events : ScriptFor → List (List ℕ) → List Event
all_events own lines = flat_map (λ line. expanded_events (expansion_of own line)) lines

-- how many lines these are
abbrev pub line_count : ScriptFor → List (List ℕ) → ℕ
line_count own lines = sum_by (λ line. expanded_lines (expansion_of own line)) lines

-- a line that is refused, by its number, and why
pub record Refusal : Type 0 where
  pub line : ℕ
  pub fault : ExpandFault

-- the line of this number, if it is refused
abbrev pub refusal_at : ℕ → Result Expansion ExpandFault → List Refusal
refusal_at n (Ok expansion) = []
refusal_at n (Err fault) = record { line = n; fault = fault } ∷ []

-- the lines that are refused, of which the first has number n
unfoldable pub refusals_from : ScriptFor → ℕ → List (List ℕ) → List Refusal
refusals_from own n [] = []
refusals_from own n (line ∷ lines) = refusal_at n (expansion_of own line) ++ refusals_from own (n + 1) lines

-- those of a text
abbrev pub refusals_in : ScriptFor → List ℕ → List Refusal
refusals_in own text = refusals_from own 1 (lines_of text)

-- the number and the fault of a line that is returned as refused; its column is left out
abbrev pub refusal_of : UnexpandedLine → Refusal
refusal_of line = record { line = line.line; fault = line.fault }

-- What a text is expanded to. The three exclude one another: some lines are refused, and these are all of them; none is, and
-- the script would have over 1,048,576 lines; or this is the script.
abbrev pub IsExpansion : ScriptFor → List ℕ → Expanded → Type 0
IsExpansion own text (Refused lines) = (map refusal_of lines.items ≡ refusals_in own text) × (refusals_in own text ≢ [])
IsExpansion own text TooLong = (refusals_in own text ≡ []) × (1048576 < line_count own (lines_of text))
IsExpansion own text (Script script) = (refusals_in own text ≡ []) × (line_count own (lines_of text) ≤ 1048576) × (script.items ≡ script_in own (lines_of text))

-- a fact of the script, where there is one
abbrev pub IfScript : Expanded → (List ℕ → Type 0) → Type 0
IfScript (Script script) p = p script.items
IfScript (Refused lines) p = Unit {0}
IfScript TooLong p = Unit {0}
