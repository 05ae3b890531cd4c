-- What is kept of a message that is not over, and what an event makes of it.
use Rattle.std.specs.Prelude.{ℕ, ◌-◌, min, Bool, true, false, not, ◌&&◌, ◌||◌, ◌==◌, nat_lt, if◌then◌else◌, Option, Some, None, List, [], ◌∷◌, length, take, bit_and, is_some}
use Rattle.bus_word.specs.declared.word.Bus.{Bus}
use Rattle.bus_word.specs.declared.word.Raw.{Raw}
use Rattle.bus_word.specs.declared.word.Kind.{Kind}
use Rattle.bus_word.specs.declared.word.Kind.TheVariants.{Com, Dat}
use Rattle.bus_word.specs.Word.{is_for}
use Rattle.bus_word.specs.Command.{address_of, is_broadcast}
use Rattle.bus_legal.specs.Description.{Description}
use Rattle.terminal_rules.specs.declared.event.Event.{Event}
use Rattle.terminal_rules.specs.LookBack.{latest, some}
use Rattle.terminal_rules.specs.History.{Ending}
use Rattle.terminal_rules.specs.Open.{is_on}
use Rattle.terminal_rules.specs.Reply.{is_slot}
use Rattle.terminal_rules.specs.Turn.{is_answered}
use Rattle.terminal_rules.specs.SinceReset.{either_word}
use Rattle.terminal_rules.specs.Out.{Out, SendsWord}
use Rattle.terminal_state.specs.Ended.{ending_of}
use Rattle.terminal_state.specs.Buses.{on_bus}
use Rattle.bus_terminal.specs.Answer.{shown_copy}
use Rattle.terminal_messages.specs.declared.part.MessagePart.{MessagePart}
use Rattle.terminal_messages.specs.declared.ending.IgnoreCause.TheVariants.{Reply, NoGap}
use Rattle.terminal_messages.specs.declared.ending.Unsent.TheVariants.{ShutDown, Dropped}
use Rattle.terminal_messages.specs.declared.ending.MessageEnding.{MessageEnding}
use Rattle.terminal_messages.specs.declared.ending.MessageEnding.TheVariants.{Other, Open, Ignored}
use Rattle.terminal_messages.specs.declared.seen.SeenEvent.{SeenEvent}
use Rattle.terminal_messages.specs.declared.state.MessageState.{MessageState}
use Rattle.terminal_messages.specs.declared.state.ToAnswer.{ToAnswer}
use Rattle.terminal_messages.specs.Told.{ToldEvent, event_bus, is_second_command, is_status, is_command_within}
use Rattle.terminal_messages.specs.Message.{Message}
use Rattle.terminal_messages.specs.Parts.{bits_of_word, command_begun, second_of, is_none_yet, is_after_gap, is_gap_event, is_transmitter_for, to_answer}
use Rattle.terminal_messages.specs.Ends.{datum_heard, datum_sent, data_words_of, cause_at, end_after, end_so_far, with_gap_within, superseded_end, expected_words, is_invalid, lacks_reply, ended_how, unsent}

-- what of an event messages are told by, and what the caller calls it
pub record Facts : Type 0 where
  pub place : ℕ
  pub event : Event
  pub starts : Bool
  pub ends : Ending
  pub awaits : Bool
  pub replied : Option Bus
  pub engaged : Bus → Bool
  pub answer : Out

abbrev pub facts_of : (ℕ → ℕ) → ToldEvent → Facts
facts_of place t = record {
  place = place t.index;
  event = t.noted.event;
  starts = t.noted.starts;
  ends = t.noted.ends;
  awaits = t.awaits;
  replied = t.replied;
  engaged = t.engaged;
  answer = t.answer;
}

-- the same of an event as the code sees it; of a message that is done the words are told elsewhere
abbrev pub facts_in : SeenEvent → List ℕ → Facts
facts_in s ds = record {
  place = s.place;
  event = s.event;
  starts = s.starts;
  ends = ending_of s.ended ds;
  awaits = s.awaits;
  replied = s.replied;
  engaged = λ b. on_bus b s.engaged;
  answer = shown_copy s.answer;
}

-- of the other terminals that are to answer, the next and the last
abbrev pub pair_of : List ℕ → ToAnswer
pair_of [] = record { next = None; last = None }
pair_of (a ∷ []) = record { next = Some a; last = None }
pair_of (a ∷ b ∷ more) = record { next = Some a; last = Some b }

abbrev pub tail_by : Option ℕ → Option ℕ → ToAnswer
tail_by None last = record { next = None; last = None }
tail_by (Some a) last = record { next = last; last = None }

abbrev pub tail_pair : ToAnswer → ToAnswer
tail_pair p = tail_by p.next p.last

abbrev pub other_of : ℕ → ℕ → Option ℕ
other_of own c = if (address_of c == own) || is_broadcast c then None else Some (address_of c)

abbrev pub pair_with : Option ℕ → Option ℕ → ToAnswer
pair_with None o = record { next = o; last = None }
pair_with (Some a) o = record { next = Some a; last = o }

abbrev pub pair_for : ℕ → Option ℕ → ℕ → ToAnswer
pair_for own None c = record { next = other_of own c; last = None }
pair_for own (Some second) c = pair_with (other_of own second) (other_of own c)

abbrev pub status_of_kind : Kind → ℕ → Option ℕ
status_of_kind Com bits = Some bits
status_of_kind Dat bits = None

-- a status word that the terminal sent
abbrev pub status_answered : Out → Option ℕ
status_answered (SendsWord s) = status_of_kind s.kind s.bits
status_answered _ = None

-- what comes now, or else what came before
abbrev pub newer : {X : Type 0} → Option X → Option X → Option X
newer None before = before
newer (Some x) before = Some x

-- the data word that came, or that the terminal sent
abbrev pub datum_told : Facts → Option ℕ
datum_told x = either_word (datum_heard x.event) (datum_sent x.answer)

abbrev pub has_datum : Facts → Bool
has_datum x = is_some (datum_told x)

-- a message is to be answered, and no reply began
abbrev pub lacks : Bus → Facts → Bool
lacks b x = is_answered false x.ends && not (x.engaged b)

-- what is kept after an event that belongs to the message, by its part and by how many data words came before
abbrev pub state_after : ℕ → Facts → MessagePart → ℕ → MessageState → MessageState
state_after own x part count s = record {
  bus = s.bus;
  command = s.command;
  second = if is_second_command part then Some (bits_of_word x.event) else s.second;
  status = newer (status_answered x.answer) s.status;
  «end» = end_after
      (if x.starts then Open else with_gap_within (has_datum x && nat_lt count s.expected) s.«end»)
      (cause_at x.event x.awaits s.has_invalid s.has_within) x.ends;
  unsent = if lacks s.bus x then Some ShutDown else s.unsent;
  expected = if is_second_command part then expected_words own (Some (bits_of_word x.event)) s.command else s.expected;
  is_fresh = false;
  is_after_gap = if is_slot x.event then s.is_after_gap else is_gap_event x.event;
  has_invalid = is_invalid x.event || s.has_invalid;
  has_within = is_command_within part || s.has_within;
  to_answer = if is_second_command part then pair_for own (Some (bits_of_word x.event)) s.command else if is_status part then tail_pair s.to_answer else s.to_answer;
}

-- what is kept with the first command, a word for the terminal or not, heard or not
abbrev pub first_end : Bool → Bool → Bool → MessageEnding
first_end starts ours unheard = if starts then Open else if ours then Ignored (if unheard then Reply else NoGap) else Other

abbrev pub begun_state : ℕ → Bool → Bus → Raw → (starts unheard : Bool) → MessageState
begun_state own broadcast b w starts unheard = record {
  bus = b;
  command = w.bits;
  second = None;
  status = None;
  «end» = first_end starts (is_for own broadcast w) unheard;
  unsent = None;
  expected = expected_words own None w.bits;
  is_fresh = true;
  is_after_gap = false;
  has_invalid = false;
  has_within = false;
  to_answer = pair_for own None w.bits;
}

-- what is told of a message that is over with an event
abbrev pub drops : Bus → Facts → Bool
drops b x = x.starts && (not (is_on b (event_bus x.event)) && is_on b x.replied)

abbrev pub state_closed : Facts → MessageState → MessageState
state_closed x s = record s {
  «end» =
      if is_on s.bus (event_bus x.event) then end_after s.«end» (cause_at x.event x.awaits false false) x.ends
      else if x.starts then superseded_end s.«end» else s.«end»;
  unsent = if drops s.bus x then Some Dropped else s.unsent;
}

-- a command is the second one, or a status word, by what is kept
abbrev pub takes_second_in : ℕ → MessageState → Bool
takes_second_in c s = s.is_fresh && is_transmitter_for s.command c

abbrev pub is_next_in : ℕ → Option ℕ → Bool
is_next_in a None = false
is_next_in a (Some x) = x == a

abbrev pub takes_status_in : ℕ → MessageState → Bool
takes_status_in c s = s.is_after_gap && (is_next_in (address_of c) s.to_answer.next && (bit_and c 0x02e0 == 0))

-- what is kept of a message, by the definitions
abbrev pub message_state : Description → Message → MessageState
message_state P m = record {
  bus = m.bus;
  command = command_begun m;
  second = second_of m;
  status = latest (λ t. status_answered t.answer) m.later;
  «end» = end_so_far P m.first m.later;
  unsent = latest (lacks_reply m.bus) m.later;
  expected = expected_words P.address (second_of m) (command_begun m);
  is_fresh = is_none_yet m.later;
  is_after_gap = is_after_gap m.later;
  has_invalid = some (λ t. is_invalid t.noted.event) m.later;
  has_within = some (λ t. is_command_within t.part) m.later;
  to_answer = pair_of (to_answer P m);
}

-- what is told of a message: the same, with how it ended and why its reply is missing or cut
abbrev pub told_state : Description → Message → MessageState
told_state P m = record (message_state P m) { «end» = ended_how P m; unsent = unsent m }

-- at most 64 of its data words are kept
abbrev pub most_words : ℕ
most_words = 64

abbrev pub words_kept : Message → List ℕ
words_kept m = take most_words (data_words_of m)

-- a count that ends at 2^64 - 1
abbrev pub in_u64 : ℕ → ℕ
in_u64 n = min n 18446744073709551615

-- how many more there are
abbrev pub left_out : List ℕ → ℕ
left_out ds = in_u64 (length ds - most_words)
