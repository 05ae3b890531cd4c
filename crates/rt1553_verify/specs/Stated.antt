-- What a script says that states its answers: `#> LINE` behind the event that LINE of the transcript answers; `#~ MASK` behind one
-- that a line answers of which MASK says all but the digits at its dots, and `#~ *` behind one that any line answers; and `#+ REST`
-- behind an answer that goes on with a space and REST. A line `#! row ..` says that the recording ends before its table does. In a recording
-- `#? A gap` or `#? B gap` says that a gap may have come on that bus, or not, and `#? slot` that the unit may have been silent in a slot, whatever
-- it had to send. All else is read as in any script.
use Rattle.std.specs.Prelude.{ℕ, ◌+◌, Bool, true, false, not, ◌&&◌, ◌||◌, ◌==◌, nat_le, nat_lt, if◌then◌else◌, List, [], ◌∷◌, ◌++◌, Option, Some, None, option_map, length, map, filter, Result, Ok, Err, codes}
use Rattle.terminal_rules.specs.declared.event.Event.{Event}
use Rattle.std.specs.Str.{bytes_eq}
use Rattle.terminal_rules.specs.declared.event.Event.TheVariants.{Gap, Slot}
use Rattle.line_format.specs.Front.{after}
use Rattle.script_lines.specs.declared.line.LineFault.{LineFault}
use Rattle.script_lines.specs.Line.{meaning}
use Rattle.script_lines.specs.Text.{lines_of}
use Rattle.refused_lines.specs.Refused.{mistyped}
use Rattle.rt1553_verify.specs.declared.matching.Matching.{Matching}
use Rattle.rt1553_verify.specs.declared.matching.Matching.TheVariants.{Exact, Masked, AnyLine, Unchecked, Maybe}
use Rattle.rt1553_verify.specs.declared.stated.Stated.{Stated}
use Rattle.rt1553_verify.specs.declared.stated.AfterLine.{AfterLine}
use Rattle.rt1553_verify.specs.declared.stated.ScriptWarning.{ScriptWarning}
use Rattle.rt1553_verify.specs.declared.stated.ScriptWarning.TheVariants.{NoEvent, NoAnswer}
use Rattle.rt1553_verify.specs.declared.stated.StatedFault.{StatedFault}
use Rattle.rt1553_verify.specs.declared.stated.StatedFault.TheVariants.{Line, LongLine, TooLong, Mistyped, Misplaced, Impossible, EndsEarly}

-- An event with the number of its line, from 1, and what is to answer it: the line of the transcript, or its mask, with a line feed, or
-- nothing; the number of the line that states this, 0 for none; and how what comes is compared with that.
pub record StatedEvent : Type 0 where
  pub line : ℕ
  pub event : Event
  pub matching : Matching
  pub answer_line : ℕ
  pub answer : List ℕ

-- an event of the code, as these definitions speak of it
abbrev pub shown : Stated → StatedEvent
shown s = record { line = s.line; event = s.event; matching = s.matching; answer_line = s.answer_line; answer = s.answer.items }

-- there are no bytes
abbrev pub is_empty : List ℕ → Bool
is_empty [] = true
is_empty (b ∷ bytes) = false

-- a digit of a transcript: 0-9a-f
abbrev pub is_digit : ℕ → Bool
is_digit b = (nat_le 48 b && nat_lt b 58) || (nat_le 97 b && nat_lt b 103)

-- a byte of a mask admits a byte: a dot any digit, and any other itself
abbrev pub admits : ℕ → ℕ → Bool
admits m b = if m == 46 then is_digit b else m == b

-- a mask admits a line: byte by byte
abbrev pub fits_mask : List ℕ → List ℕ → Bool
fits_mask [] [] = true
fits_mask [] (b ∷ bytes) = false
fits_mask (m ∷ mask) [] = false
fits_mask (m ∷ mask) (b ∷ bytes) = admits m b && fits_mask mask bytes

-- what comes, a line or nothing, is as stated
abbrev pub fits : Matching → List ℕ → List ℕ → Bool
fits Exact answer came = bytes_eq came answer
fits Masked mask came = fits_mask mask came
fits AnyLine _ came = not (is_empty came)
fits Unchecked _ came = true
fits Maybe _ came = true

-- an answer is stated of the event
abbrev pub states_answer : StatedEvent → Bool
states_answer s = not (is_empty s.answer)

-- there is a rest, and a word ends before it: it is empty or begins with a space
abbrev pub ends_word : Option (List ℕ) → Bool
ends_word None = false
ends_word (Some []) = true
ends_word (Some (b ∷ rest)) = b == 32

-- a line hands over: its first word is `hand`
abbrev pub hands_over : List ℕ → Bool
hands_over line = ends_word (after (codes "hand") line)

-- what is handed over answers a gap, and a word that is sent answers a slot
abbrev pub can_answer : Event → List ℕ → Bool
can_answer (Gap bus) line = hands_over line
can_answer Slot line = not (is_empty line) && not (hands_over line)
can_answer _ line = false

-- the event is a gap
abbrev pub is_gap : Event → Bool
is_gap (Gap bus) = true
is_gap _ = false

-- a line can be stated so of the event: of some line only that there is one
abbrev pub can_match : Matching → Event → List ℕ → Bool
can_match AnyLine (Gap bus) line = true
can_match AnyLine Slot line = true
can_match AnyLine _ line = false
can_match _ event line = can_answer event line

-- a byte of a mask is open to any digit
abbrev pub is_open_digit : Bool → ℕ → Bool
is_open_digit masked b = masked && (b == 46)

-- a digit of a word, or in a mask a dot
abbrev pub may_be_digit : Bool → ℕ → Bool
may_be_digit masked b = is_open_digit masked b || is_digit b

-- a word: four digits
abbrev pub may_be_word : Bool → List ℕ → Bool
may_be_word masked (a ∷ b ∷ c ∷ d ∷ []) = may_be_digit masked a && (may_be_digit masked b && (may_be_digit masked c && may_be_digit masked d))
may_be_word masked _ = false

-- a subaddress of data: 01 to 09, 10 to 29, or 30
abbrev pub may_be_subaddress : Bool → ℕ → ℕ → Bool
may_be_subaddress masked tens ones =
    ((tens == 48) && (is_open_digit masked ones || (nat_le 49 ones && nat_lt ones 58)))
    || (((is_open_digit masked tens || (nat_le 49 tens && nat_lt tens 51)) && (is_open_digit masked ones || (nat_le 48 ones && nat_lt ones 58)))
    || ((tens == 51) && (is_open_digit masked ones || (ones == 48))))

-- what follows a space and a word at the front
abbrev pub behind_field : Bool → List ℕ → Option (List ℕ)
behind_field masked (s ∷ a ∷ b ∷ c ∷ d ∷ rest) = if (s == 32) && may_be_word masked (a ∷ b ∷ c ∷ d ∷ []) then Some rest else None
behind_field masked _ = None

-- words, each behind a space
abbrev pub may_be_fields : Bool → List ℕ → Bool
may_be_fields masked [] = true
may_be_fields masked (s ∷ a ∷ b ∷ c ∷ d ∷ rest) = (s == 32) && (may_be_word masked (a ∷ b ∷ c ∷ d ∷ []) && may_be_fields masked rest)
may_be_fields masked _ = false

-- what is received: a subaddress, and 1 to 32 words, of five bytes each with its space
abbrev pub may_be_received : Bool → List ℕ → Bool
may_be_received masked (tens ∷ ones ∷ words) = may_be_subaddress masked tens ones && (not (is_empty words) && (nat_le (length words) 160 && may_be_fields masked words))
may_be_received masked _ = false

-- there is a rest, and this holds of it
abbrev pub holds_of_rest : (List ℕ → Bool) → Option (List ℕ) → Bool
holds_of_rest holds None = false
holds_of_rest holds (Some rest) = holds rest

-- a line begins so, and this holds of what follows
abbrev pub is_behind : List ℕ → (List ℕ → Bool) → List ℕ → Bool
is_behind front holds line = holds_of_rest holds (after front line)

-- a word that a terminal sends, on either bus: a status word or a data word
abbrev pub may_be_sent_line : Bool → List ℕ → Bool
may_be_sent_line masked line =
    is_behind (codes "A s ") (may_be_word masked) line
    || (is_behind (codes "A d ") (may_be_word masked) line
    || (is_behind (codes "B s ") (may_be_word masked) line
    || is_behind (codes "B d ") (may_be_word masked) line))

-- what a terminal hands over
abbrev pub may_be_handed : Bool → List ℕ → Bool
may_be_handed masked line =
    is_behind (codes "hand receive own ") (may_be_received masked) line
    || (is_behind (codes "hand receive broadcast ") (may_be_received masked) line
    || (is_behind (codes "hand sync ") (may_be_word masked) line
    || (bytes_eq line (codes "hand sync") || (bytes_eq line (codes "hand self-test") || bytes_eq line (codes "hand bus-control")))))

-- a line that a terminal can answer, or a mask that admits one
abbrev pub is_possible : Bool → List ℕ → Bool
is_possible masked line = may_be_sent_line masked line || may_be_handed masked line

-- what is stated so can be given: it is a line, or nothing
abbrev pub can_be_given : Matching → List ℕ → Bool
can_be_given Exact line = is_empty line || is_possible false line
can_be_given Masked mask = is_possible true mask
can_be_given _ line = true

-- how a mask is compared: `*` stands for any line
abbrev pub matching_of : List ℕ → Matching
matching_of mask = if bytes_eq mask (codes "*") then AnyLine else Masked

-- a capital hexadecimal digit is read as the small one, and any other byte as itself
abbrev pub small_digit : ℕ → ℕ
small_digit b = if nat_le 65 b && nat_lt b 71 then b + 32 else b

-- what is stated of an answer, with small digits: its first byte, which may be the letter of a bus, stays
abbrev pub small_digits : List ℕ → List ℕ
small_digits [] = []
small_digits (b ∷ bytes) = b ∷ map small_digit bytes

-- While lines are read, the latest event is kept apart, with what was stated of it so far, without a line feed.
abbrev pub Latest : Type 0
Latest = Option StatedEvent

-- the event may have come or not
abbrev pub is_maybe : Matching → Bool
is_maybe Maybe = true
is_maybe _ = false

-- an answer can be stated of the event: it came, and none was stated so far
abbrev pub is_unanswered : StatedEvent → Bool
is_unanswered s = is_empty s.answer && not (is_maybe s.matching)

-- the line, of number n, is stated so as the answer to the latest event, which it can answer and of which nothing was stated
abbrev pub states : ℕ → Matching → Latest → List ℕ → Option StatedEvent
states n matching None line = None
states n matching (Some s) line = if is_unanswered s && can_match matching s.event line then Some (record s { matching = matching; answer_line = n; answer = line }) else None

-- more can be stated of the answer than that there is one
abbrev pub says_bytes : Matching → Bool
says_bytes AnyLine = false
says_bytes _ = true

-- the answer that was stated last goes on
abbrev pub goes_on : Latest → List ℕ → Option StatedEvent
goes_on None rest = None
goes_on (Some s) rest = if states_answer s && says_bytes s.matching then Some (record s { answer = s.answer ++ 32 ∷ rest }) else None

-- a line with its line feed; nothing stays nothing
abbrev pub with_line_feed : List ℕ → List ℕ
with_line_feed bytes = if is_empty bytes then [] else bytes ++ 10 ∷ []

-- the latest event, of which all was stated
abbrev pub ended : Latest → List StatedEvent
ended None = []
ended (Some s) = record s { answer = with_line_feed s.answer } ∷ []

-- the latest event, of which all was stated, unless no terminal gives that answer
abbrev pub all_stated : Latest → Result (List StatedEvent) StatedFault
all_stated None = Ok []
all_stated (Some s) = if can_be_given s.matching s.answer then Ok (ended (Some s)) else Err (Impossible s.answer_line)

-- what is known after a line: the events of which all was stated by then, and the latest one
pub record After : Type 0 where
  pub events : List StatedEvent
  pub latest : Latest

-- the event, if there is one
abbrev pub if_any : Option StatedEvent → List StatedEvent
if_any None = []
if_any (Some s) = s ∷ []

-- what the code knows after a line, as these definitions speak of it
abbrev pub shown_after : AfterLine → After
shown_after a = record { events = if_any (option_map shown a.ended); latest = option_map shown a.latest }

-- no event is complete, and this is the latest one
abbrev pub stays : Latest → After
stays latest = record { events = []; latest = latest }

-- the event with what is now stated of it, or that line n can't be stated here
abbrev pub or_misplaced : ℕ → Option StatedEvent → Result After StatedFault
or_misplaced n None = Err (Misplaced n)
or_misplaced n (Some s) = Ok (stays (Some s))

-- a line that says nothing: a comment that looks like a stated answer is a fault
abbrev pub silent_line : ℕ → Latest → Option ℕ → Result After StatedFault
silent_line n latest None = Ok (stays latest)
silent_line n latest (Some column) = Err (Mistyped n column)

-- line n, with which a recording ends early if it has a rest behind `#! row `; any other says nothing
abbrev pub by_early_end : ℕ → Latest → List ℕ → Option (List ℕ) → Result After StatedFault
by_early_end n latest line (Some rest) = Err (EndsEarly n)
by_early_end n latest line None = silent_line n latest (mistyped line)

-- a new event on line n, compared so, behind those of which all was stated
abbrev pub then_event : ℕ → Event → Matching → Result (List StatedEvent) StatedFault → Result After StatedFault
then_event n e matching (Err fault) = Err fault
then_event n e matching (Ok events) = Ok (record { events = events; latest = Some (record { line = n; event = e; matching = matching; answer_line = 0; answer = [] }) })

-- line n, with this behind `#? `: a gap that may have come, or a slot in which the unit may have been silent
abbrev pub maybe_line : ℕ → Latest → Result (Option Event) LineFault → Result After StatedFault
maybe_line n latest (Ok (Some (Gap bus))) = then_event n (Gap bus) Maybe (all_stated latest)
maybe_line n latest (Ok (Some Slot)) = then_event n Slot Maybe (all_stated latest)
maybe_line n latest _ = Err (Line n)

-- line n, which of a recording says what may have come if it has a rest behind `#? `
abbrev pub by_maybe : Bool → ℕ → Latest → List ℕ → Option (List ℕ) → Result After StatedFault
by_maybe true n latest line (Some rest) = maybe_line n latest (meaning rest)
by_maybe true n latest line None = by_early_end n latest line (after (codes "#! row ") line)
by_maybe false n latest line rest = by_early_end n latest line (after (codes "#! row ") line)

-- a line, of a recording or not, that states no answer: an event, perhaps one that may have come, nothing, or none of a script
abbrev pub unstated_line : Bool → ℕ → Latest → List ℕ → Result (Option Event) LineFault → Result After StatedFault
unstated_line is_recording n latest line (Err fault) = Err (Line n)
unstated_line is_recording n latest line (Ok None) = by_maybe is_recording n latest line (after (codes "#? ") line)
unstated_line is_recording n latest line (Ok (Some e)) = then_event n e Exact (all_stated latest)

-- line n, which goes on with an answer if it has a rest behind `#+ `
abbrev pub by_going_on : Bool → ℕ → Latest → List ℕ → Option (List ℕ) → Result After StatedFault
by_going_on is_recording n latest line (Some rest) = or_misplaced n (goes_on latest (map small_digit rest))
by_going_on is_recording n latest line None = unstated_line is_recording n latest line (meaning line)

-- line n, which states a mask if it has one behind `#~ `
abbrev pub by_mask : Bool → ℕ → Latest → List ℕ → Option (List ℕ) → Result After StatedFault
by_mask is_recording n latest line (Some mask) = or_misplaced n (states n (matching_of mask) latest (small_digits mask))
by_mask is_recording n latest line None = by_going_on is_recording n latest line (after (codes "#+ ") line)

-- line n, which states an answer if it has one behind `#> `
abbrev pub by_answer : Bool → ℕ → Latest → List ℕ → Option (List ℕ) → Result After StatedFault
by_answer is_recording n latest line (Some answer) = or_misplaced n (states n Exact latest (small_digits answer))
by_answer is_recording n latest line None = by_mask is_recording n latest line (after (codes "#~ ") line)

-- what line number n says: a stated answer, how one goes on, that the recording ends early, or what it says in any script
abbrev pub line_says : Bool → ℕ → Latest → List ℕ → Result After StatedFault
line_says is_recording n latest line = by_answer is_recording n latest line (after (codes "#> ") line)

-- what line number n says where it has at most 64 bytes; a longer one is too long
abbrev pub bounded_line : Bool → ℕ → Latest → List ℕ → Result After StatedFault
bounded_line is_recording n latest line = if nat_lt 64 (length line) then Err (LongLine n) else line_says is_recording n latest line

-- these events before the later ones, unless the later lines have a fault
abbrev pub then_events : List StatedEvent → Result (List StatedEvent) StatedFault → Result (List StatedEvent) StatedFault
then_events es (Ok later) = Ok (es ++ later)
then_events es (Err fault) = Err fault

-- what a line says, and then the lines after it, by the latest event
abbrev pub then_lines : Result After StatedFault → (Latest → Result (List StatedEvent) StatedFault) → Result (List StatedEvent) StatedFault
then_lines (Err fault) later = Err fault
then_lines (Ok after) later = then_events after.events (later after.latest)

-- What lines say that follow n lines, of a script that may have so many: of one line more that there are too many, of a line of over 64
-- bytes that it is too long, and of any other what it says by itself. The first fault is that of all.
unfoldable pub stated_by : Bool → ℕ → ℕ → Latest → List (List ℕ) → Result (List StatedEvent) StatedFault
stated_by is_recording most n latest [] = all_stated latest
stated_by is_recording most n latest (line ∷ lines) =
    if nat_le most n then Err TooLong else then_lines (bounded_line is_recording (n + 1) latest line) (λ latest. stated_by is_recording most (n + 1) latest lines)

-- what a script, or a recording, of at most so many lines says: its events, each with what is stated of it, or its first fault
abbrev pub stated_within : Bool → ℕ → List ℕ → Result (List StatedEvent) StatedFault
stated_within is_recording most script = stated_by is_recording most 0 None (lines_of script)

-- what a script says that is played: it has at most 1,048,576 lines
abbrev pub stated_in : List ℕ → Result (List StatedEvent) StatedFault
stated_in script = stated_within false 1048576 script

-- what a recording says, which is read event by event: its lines are counted in 64 bits
abbrev pub stated_through : List ℕ → Result (List StatedEvent) StatedFault
stated_through script = stated_within true 18446744073709551615 script

-- the words of a warning
abbrev pub warning_text : ScriptWarning → List ℕ
warning_text NoEvent = codes "the script has no event"
warning_text NoAnswer = codes "the script states no answer"

-- a script has no event, or states no answer
abbrev pub stated_warning : Bool → ℕ → Option ScriptWarning
stated_warning has_event answers = if not has_event then Some NoEvent else if answers == 0 then Some NoAnswer else None

abbrev pub script_warning : List Stated → Option ScriptWarning
script_warning script = stated_warning (not (length script == 0)) (length (filter (λ stated. states_answer (shown stated)) script))

-- On the bus alone nothing is seen of hand-overs, which answer gaps: where none is stated, whatever answers a gap is left aside.
abbrev pub is_unseen : StatedEvent → Bool
is_unseen s = is_gap s.event && is_empty s.answer

-- what is stated of an event, as far as the bus alone shows it
abbrev pub seen_on_bus : StatedEvent → StatedEvent
seen_on_bus s = if is_unseen s then record s { matching = Unchecked } else s
