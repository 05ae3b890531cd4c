-- What is told of a message.
use Rattle.std.specs.Prelude.{ℕ, Bool, true, false, not, ◌&&◌, ◌==◌, nat_lt, if◌then◌else◌, Option, Some, None, List, [], ◌∷◌, ◌++◌, length, is_some}
use Rattle.bus_word.specs.declared.word.Bus.{Bus}
use Rattle.bus_word.specs.declared.word.Kind.{Kind}
use Rattle.bus_word.specs.declared.word.Kind.TheVariants.{Com, Dat}
use Rattle.bus_word.specs.Word.{is_valid}
use Rattle.bus_word.specs.Command.{address_of, expected}
use Rattle.bus_legal.specs.Description.{Description}
use Rattle.terminal_rules.specs.declared.event.Event.{Event}
use Rattle.terminal_rules.specs.declared.event.Event.TheVariants.{Word, Noise, Gap}
use Rattle.terminal_rules.specs.LookBack.{latest, some}
use Rattle.terminal_rules.specs.History.{Ending, Nothing, Badly, Illegal, Blocked, Done}
use Rattle.terminal_rules.specs.Open.{is_on}
use Rattle.terminal_rules.specs.Ends.{data_of}
use Rattle.terminal_rules.specs.SinceReset.{either_word}
use Rattle.terminal_rules.specs.Starts.{is_for_terminal}
use Rattle.terminal_rules.specs.Turn.{is_answered}
use Rattle.terminal_rules.specs.Out.{Out, SendsWord, HandsOver, Sending, Handing, sent_in}
use Rattle.terminal_messages.specs.declared.ending.ErrorCause.{ErrorCause}
use Rattle.terminal_messages.specs.declared.ending.ErrorCause.TheVariants.{WordCount, InvalidWord, CommandWithin, GapWithin, NoStatus}
use Rattle.terminal_messages.specs.declared.ending.IgnoreCause.{IgnoreCause}
use Rattle.terminal_messages.specs.declared.ending.IgnoreCause.TheVariants.{Reply, NoGap}
use Rattle.terminal_messages.specs.declared.ending.Unsent.{Unsent}
use Rattle.terminal_messages.specs.declared.ending.Unsent.TheVariants.{ShutDown, Dropped}
use Rattle.terminal_messages.specs.declared.ending.MessageEnding.{MessageEnding}
use Rattle.terminal_messages.specs.declared.ending.MessageEnding.TheVariants.{Other, Open, Ignored, Superseded, InError, Illegal as ToIllegal, Busy as ToBusy, Done as ToDone}
use Rattle.terminal_messages.specs.Told.{ToldEvent, event_bus, is_unheard, is_command_within}
use Rattle.terminal_messages.specs.Message.{Message}
use Rattle.terminal_messages.specs.Parts.{second_in, bits_of_word}

-- the answers of those that answer, the first first, of a list whose latest is the first
abbrev pub first_to_last : {X Y : Type 0} → (X → Option Y) → List X → List Y
first_to_last f [] = []
first_to_last f (x ∷ xs) = elim (f x) [ None ↦ first_to_last f xs | Some y ↦ first_to_last f xs ++ y ∷ [] ]

-- a valid data word that came
abbrev pub datum_heard : Event → Option ℕ
datum_heard (Word b w) = data_of (Some w)
datum_heard _ = None

abbrev pub datum_of_kind : Kind → ℕ → Option ℕ
datum_of_kind Com bits = None
datum_of_kind Dat bits = Some bits

-- a data word that the terminal sent
abbrev pub datum_sent : Out → Option ℕ
datum_sent (SendsWord s) = datum_of_kind s.kind s.bits
datum_sent _ = None

-- a data word that came, or that the terminal sent
abbrev pub datum : ToldEvent → Option ℕ
datum t = either_word (datum_heard t.noted.event) (datum_sent t.answer)

abbrev pub handed_in : Out → Option Handing
handed_in (HandsOver x) = Some x
handed_in _ = None

abbrev pub sent_by : ToldEvent → Option Sending
sent_by t = sent_in t.answer

abbrev pub handed_by : ToldEvent → Option Handing
handed_by t = handed_in t.answer

-- the data words of a message, those that came and those that the terminal sent
abbrev pub data_words_of : Message → List ℕ
data_words_of m = first_to_last datum m.later

-- the words that the terminal sent in it
abbrev pub sent_of : Message → List Sending
sent_of m = first_to_last sent_by m.later

-- what the terminal handed over in it
abbrev pub handed_of : Message → List Handing
handed_of m = first_to_last handed_by m.later

-- how a message stands with its first command
abbrev pub ignored_because : ToldEvent → IgnoreCause
ignored_because t = if is_unheard t.part then Reply else NoGap

abbrev pub end_unstarted : Description → ToldEvent → Event → MessageEnding
end_unstarted P t (Word b w) = if is_for_terminal P w then Ignored (ignored_because t) else Other
end_unstarted P t _ = Other

abbrev pub end_at_first : Description → ToldEvent → MessageEnding
end_at_first P t = if t.noted.starts then Open else end_unstarted P t t.noted.event

-- a word that is not valid, or noise
abbrev pub is_invalid : Event → Bool
is_invalid (Word b w) = not (is_valid w)
is_invalid (Noise b) = true
is_invalid _ = false

-- why a message is in error with an event, by what belongs to it before that
abbrev pub cause_at : Event → (awaits invalid within : Bool) → ErrorCause
cause_at (Gap b) awaits invalid within = if awaits then NoStatus else if invalid then InvalidWord else if within then CommandWithin else WordCount
cause_at e awaits invalid within = if is_invalid e then InvalidWord else NoStatus

abbrev pub cause_of : ToldEvent → List ToldEvent → ErrorCause
cause_of t before = cause_at t.noted.event t.awaits (some (λ t. is_invalid t.noted.event) before) (some (λ t. is_command_within t.part) before)

-- how a message stands, by how an event ends it: in error for this cause
abbrev pub end_after : MessageEnding → ErrorCause → Ending → MessageEnding
end_after before cause Nothing = before
end_after before cause (Badly c) = InError cause
end_after before cause (Illegal c) = ToIllegal
end_after before cause (Blocked c cell) = ToBusy
end_after before cause (Done c cell ds) = ToDone

-- how many data words the terminal expects: none if it is the transmitter, else as many as the first command says
abbrev pub expected_words : ℕ → Option ℕ → ℕ → ℕ
expected_words own None c = expected c
expected_words own (Some second) c = if address_of second == own then 0 else expected c

-- a message of too few words in error has a gap within, if a data word follows
abbrev pub with_gap_within : Bool → MessageEnding → MessageEnding
with_gap_within has_gap_within (InError WordCount) = if has_gap_within then InError GapWithin else InError WordCount
with_gap_within has_gap_within x = x

abbrev pub shows_gap_within : Description → ToldEvent → ToldEvent → List ToldEvent → Bool
shows_gap_within P first t before =
    is_some (datum t) && nat_lt (length (first_to_last datum before)) (expected_words P.address (latest second_in before) (bits_of_word first.noted.event))

-- how a message stands after these events of it, the latest first
abbrev pub end_so_far : Description → ToldEvent → List ToldEvent → MessageEnding
end_so_far P first [] = end_at_first P first
end_so_far P first (t ∷ before) =
    end_after
    (if t.noted.starts then Open else with_gap_within (shows_gap_within P first t before) (end_so_far P first before))
    (cause_of t before) t.noted.ends

-- a message that goes on is superseded by a start on the other bus
abbrev pub superseded_end : MessageEnding → MessageEnding
superseded_end Open = Superseded
superseded_end x = x

-- how a message ends with the event with which it is over: on its bus that may be the end in error of one that waits
abbrev pub end_closed : Bus → Option ToldEvent → MessageEnding → MessageEnding
end_closed b None x = x
end_closed b (Some t) x =
    if is_on b (event_bus t.noted.event) then end_after x (cause_of t []) t.noted.ends
    else if t.noted.starts then superseded_end x else x

-- how a message ended for the terminal
abbrev pub ended_how : Description → Message → MessageEnding
ended_how P m = end_closed m.bus m.closer (end_so_far P m.first m.later)

-- a message that ended so is to be answered, and no reply began, since the transmitter is shut down
abbrev pub lacks_reply : Bus → ToldEvent → Option Unsent
lacks_reply b t = if is_answered false t.noted.ends && not (t.engaged b) then Some ShutDown else None

-- the start with which a message is over drops the rest of its reply
abbrev pub drops_reply : Bus → ToldEvent → Bool
drops_reply b t = t.noted.starts && (not (is_on b (event_bus t.noted.event)) && is_on b t.replied)

abbrev pub unsent_closed : Bus → Option ToldEvent → Option Unsent → Option Unsent
unsent_closed b None u = u
unsent_closed b (Some t) u = if drops_reply b t then Some Dropped else u

-- why its reply is not sent, or not whole
abbrev pub unsent : Message → Option Unsent
unsent m = unsent_closed m.bus m.closer (latest (lacks_reply m.bus) m.later)
