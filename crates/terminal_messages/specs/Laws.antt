-- What holds of the messages of a run.
use Rattle.std.specs.Prelude.{◌≡◌, ℕ, ◌+◌, if◌then◌else◌, Bool, true, false, ◌&&◌, ◌||◌, Option, Some, None, is_some, is_none, List, [], ◌∷◌, ◌++◌}
use Rattle.bus_word.specs.declared.word.Bus.{Bus}
use Rattle.bus_word.specs.declared.word.Raw.{Raw}
use Rattle.bus_word.specs.Word.{is_command}
use Rattle.bus_legal.specs.Description.{Description}
use Rattle.terminal_rules.specs.declared.event.Event.{Event}
use Rattle.terminal_rules.specs.declared.event.Event.TheVariants.{Word}
use Rattle.terminal_rules.specs.LookBack.{keep, latest, some}
use Rattle.terminal_rules.specs.History.{Ending, Nothing, Badly, Illegal, Blocked, Done}
use Rattle.terminal_rules.specs.Open.{is_on}
use Rattle.terminal_rules.specs.Past.{past, history_after}
use Rattle.terminal_rules.specs.SinceReset.{either_word}
use Rattle.terminal_rules.specs.Out.{Out, Silence, outs}
use Rattle.terminal_messages.specs.declared.part.MessagePart.{MessagePart}
use Rattle.terminal_messages.specs.declared.part.MessagePart.TheVariants.{Plain, First, Unheard}
use Rattle.terminal_messages.specs.declared.ending.MessageEnding.{MessageEnding}
use Rattle.terminal_messages.specs.declared.ending.MessageEnding.TheVariants.{Other, Ignored, InError, Illegal as ToIllegal, Busy as ToBusy, Done as ToDone}
use Rattle.terminal_messages.specs.Told.{ToldEvent, is_first_command, is_unheard, event_bus, belongs_on, closes}
use Rattle.terminal_messages.specs.Message.{Message, message_on_bus}
use Rattle.terminal_messages.specs.Parts.{tell, told, bits_of_word, command_begun, second_of, terminal_command}
use Rattle.terminal_messages.specs.Messages.{messages_of, closed}
use Rattle.terminal_messages.specs.Ends.{first_to_last, ended_how}

-- an answer that sends or hands over something
abbrev pub act_of : Out → Option Out
act_of Silence = None
act_of o = Some o

abbrev pub action : ToldEvent → Option Out
action t = act_of t.answer

-- what the terminal sent and handed over in a message, in order
abbrev pub message_answers : Message → List Out
message_answers m = first_to_last action m.later

-- the same of messages, one after the other
abbrev pub all_answers : List Message → List Out
all_answers [] = []
all_answers (m ∷ ms) = message_answers m ++ all_answers ms

-- What the terminal sends and hands over in a run, in order, is what it sends and hands over in the messages of the run, one message
-- after the other: nothing is left out, nothing is told twice, and nothing is of two messages.
abbrev pub PartitionLaw : Type 0
PartitionLaw = (P : Description) (es : List Event) → all_answers (messages_of P es) ≡ keep act_of (outs P es)

-- Of a longer run the messages that are over stay as they are, and come first.
abbrev pub LocalLaw : Type 0
LocalLaw = (P : Description) (es more : List Event) →
    (rest : List Message) × (messages_of P (es ++ more) ≡ closed (tell P (history_after es [])) ++ rest)

-- how much the first events of messages weigh
abbrev pub firsts_weigh : (ToldEvent → ℕ) → List Message → ℕ
firsts_weigh f [] = 0
firsts_weigh f (m ∷ ms) = f m.first + firsts_weigh f ms

-- how much the commands weigh that begin a message, or are not heard
abbrev pub commands_weigh : (ToldEvent → ℕ) → List ToldEvent → ℕ
commands_weigh f [] = 0
commands_weigh f (t ∷ h) = (if is_first_command t.part || is_unheard t.part then f t else 0) + commands_weigh f h

-- Each command that begins a message or is not heard is the first of one message, and no other event is: whatever the events weigh, the
-- two sums are the same.
abbrev pub FirstsLaw : Type 0
FirstsLaw = (P : Description) (es : List Event) (f : ToldEvent → ℕ) → firsts_weigh f (messages_of P es) ≡ commands_weigh f (tell P (history_after es []))

-- the place of a command in the messages: it begins one or is not heard, or it belongs to the one on its bus, which goes on
abbrev pub HasPlace : MessagePart → Option Message → (belongs_on closes : Bool) → Type 0
HasPlace Plain m belongs_on closes = ⊥
HasPlace First m belongs_on closes = Unit {0}
HasPlace Unheard m belongs_on closes = Unit {0}
HasPlace p m belongs_on closes = (is_some m ≡ true) × (belongs_on ≡ true) × (closes ≡ false)

-- Each valid word of command sync has its place in the messages: as a first command (of one message, by the law above), as one that is
-- not heard, or within the message on its bus: as second command, as status word of another terminal, or as a wrong word.
abbrev pub PlacedLaw : Type 0
PlacedLaw = (P : Description) (h : List Event) (b : Bus) (w : Raw) → is_command w ≡ true →
    (let t : ToldEvent = told P (past P h) (tell P h) (Word b w) in HasPlace t.part (message_on_bus (tell P h) b) (belongs_on b t) (closes b t))

-- an event of a message ends it so, by the rules of the terminal
abbrev pub is_done : Ending → Bool
is_done (Done c cell ds) = true
is_done _ = false

abbrev pub is_illegal : Ending → Bool
is_illegal (Illegal c) = true
is_illegal _ = false

abbrev pub is_blocked : Ending → Bool
is_blocked (Blocked c cell) = true
is_blocked _ = false

abbrev pub is_badly : Ending → Bool
is_badly (Badly c) = true
is_badly _ = false

-- some event of a message ends it so: one that belongs to it, or on its bus the one with which it is over
abbrev pub closer_ends : (Ending → Bool) → Bus → Option ToldEvent → Bool
closer_ends f b None = false
closer_ends f b (Some t) = is_on b (event_bus t.noted.event) && f t.noted.ends

abbrev pub ends_in : (Ending → Bool) → Message → Bool
ends_in f m = closer_ends f m.bus m.closer || some (λ t. f t.noted.ends) m.later

-- what has to be so where a message is told to have ended in this way
abbrev pub EndsAs : MessageEnding → Message → Type 0
EndsAs ToDone m = ends_in is_done m ≡ true
EndsAs ToIllegal m = ends_in is_illegal m ≡ true
EndsAs ToBusy m = ends_in is_blocked m ≡ true
EndsAs (InError cause) m = ends_in is_badly m ≡ true
EndsAs x m = Unit {0}

-- A message is told to be done, illegal, busy or in error only if the rules of the terminal end it so.
abbrev pub EndLaw : Type 0
EndLaw = (P : Description) (m : Message) → EndsAs (ended_how P m) m

abbrev pub has_end : Ending → Bool
has_end Nothing = false
has_end e = true

abbrev pub any_end : List ToldEvent → Bool
any_end ts = some (λ t. has_end t.noted.ends) ts

-- behind an event that ends a message nothing ends it and nothing starts it again
abbrev pub EndsOnce : List ToldEvent → Type 0
EndsOnce [] = Unit {0}
EndsOnce (t ∷ before) = (has_end t.noted.ends ≡ true → any_end before ≡ false) × (t.noted.starts ≡ true → any_end before ≡ false) × EndsOnce before

abbrev pub closer_has_end : Bus → Option ToldEvent → Bool
closer_has_end b None = false
closer_has_end b (Some t) = is_on b (event_bus t.noted.event) && has_end t.noted.ends

abbrev pub IsEndedOnce : Message → Type 0
IsEndedOnce m = EndsOnce m.later × (closer_has_end m.bus m.closer ≡ true → any_end m.later ≡ false)

abbrev pub says_done : MessageEnding → Bool
says_done ToDone = true
says_done x = false

abbrev pub says_illegal : MessageEnding → Bool
says_illegal ToIllegal = true
says_illegal x = false

abbrev pub says_busy : MessageEnding → Bool
says_busy ToBusy = true
says_busy x = false

abbrev pub says_error : MessageEnding → Bool
says_error (InError cause) = true
says_error x = false

-- how a message is told to have ended, where the rules of the terminal end it
pub record IsToldEnded (told : MessageEnding) (m : Message) : Type 0 where
  pub done : ends_in is_done m ≡ true → says_done told ≡ true
  pub illegal : ends_in is_illegal m ≡ true → says_illegal told ≡ true
  pub busy : ends_in is_blocked m ≡ true → says_busy told ≡ true
  pub error : ends_in is_badly m ≡ true → says_error told ≡ true

-- A message that the rules of the terminal end once is told to have ended just so.
abbrev pub ToldLaw : Type 0
ToldLaw = (P : Description) (m : Message) → IsEndedOnce m → IsToldEnded (ended_how P m) m

-- each of these messages
abbrev pub EachMessage : (Message → Type 0) → List Message → Type 0
EachMessage Q [] = Unit {0}
EachMessage Q (m ∷ ms) = Q m × EachMessage Q ms

-- Each message of a run is told to be done, illegal, busy or in error exactly if the rules of the terminal end it so.
abbrev pub ExactLaw : Type 0
ExactLaw = (P : Description) (es : List Event) → EachMessage (λ m. IsToldEnded (ended_how P m) m × EndsAs (ended_how P m) m) (messages_of P es)

-- the command with which an event starts a message
abbrev pub start_in : ToldEvent → Option ℕ
start_in t = if t.noted.starts then Some (bits_of_word t.noted.event) else None

-- that of the last event that starts one, of those of a message
abbrev pub last_start : Message → Option ℕ
last_start m = either_word (latest start_in m.later) (start_in m.first)

-- there is none, or it is this one
abbrev pub StartsWith : ℕ → Option ℕ → Type 0
StartsWith c None = Unit {0}
StartsWith c (Some d) = d ≡ c

-- a message is told to be for other terminals, or ignored
abbrev pub says_unstarted : MessageEnding → Bool
says_unstarted Other = true
says_unstarted (Ignored cause) = true
says_unstarted x = false

-- the terminal starts a message, or does not, and this is told of it
pub record IsToldStarted (P : Description) (m : Message) : Type 0 where
  pub told : says_unstarted (ended_how P m) ≡ is_none (last_start m)
  pub command : StartsWith (terminal_command P.address (command_begun m) (second_of m)) (last_start m)

-- A message of a run is told to be for other terminals, or ignored, exactly if the terminal does not start it. If it does, then last
-- with the command that the message has for it.
abbrev pub StartLaw : Type 0
StartLaw = (P : Description) (es : List Event) → EachMessage (IsToldStarted P) (messages_of P es)
