-- The messages of one command, and when they end well.
use Rattle.std.specs.Prelude.{◌≡◌, ◌≢◌, ℕ, zero, suc, Bool, true, false, not, ◌&&◌, ◌||◌, if◌then◌else◌, Some, List, [], ◌∷◌, ◌++◌, map, length}
use Rattle.bus_word.specs.declared.word.Bus.{Bus}
use Rattle.bus_word.specs.declared.word.Kind.TheVariants.{Com, Dat}
use Rattle.bus_word.specs.declared.cell.Cell.{Cell}
use Rattle.bus_word.specs.declared.status.StatusParts.{StatusParts}
use Rattle.bus_word.specs.Word.{valid_word}
use Rattle.bus_word.specs.Command.{is_broadcast, expected}
use Rattle.bus_word.specs.Cell.{cell_of}
use Rattle.bus_word.specs.Status.{status_word}
use Rattle.bus_word.specs.Mode as mode
use Rattle.bus_legal.specs.Description.{Description}
use Rattle.terminal_rules.specs.declared.event.Event.{Event}
use Rattle.terminal_rules.specs.declared.event.Event.TheVariants.{Word, Gap}
use Rattle.terminal_rules.specs.History.{Done}
use Rattle.terminal_rules.specs.Reply.{words_after_status}
use Rattle.terminal_rules.specs.Starts.{is_meant}
use Rattle.terminal_rules.specs.SinceReset.{code_in}
use Rattle.terminal_rules.specs.Status.{reports_kept, formed_done, kept_now}
use Rattle.terminal_rules.specs.Out.{Out, SendsWord, sending, reply_word, hands, handing_over}
use Rattle.terminal_bus.specs.declared.event.BusEvent.{BusEvent}
use Rattle.terminal_bus.specs.declared.event.BusEvent.TheVariants.{OnBus}
use Rattle.terminal_bus.specs.Members.{Member, play}
use Rattle.terminal_bus.specs.Alone.{own_answers}
use Rattle.terminal_bus.specs.Lists.{Each}
use Rattle.terminal_bus.specs.Transfer.{Has, noted_of, passing, actions, word_out}
use Rattle.terminal_schedules.specs.Schedule.{IsClearIf}

-- A message of one command: a receive or a transmit command or a mode code, to one terminal or to all (MIL-STD-1553B,
-- 4.3.3.6.1, 4.3.3.6.2, 4.3.3.6.4 to 4.3.3.6.6 and 4.3.3.6.7), with the data words that the controller sends.
pub record ScheduledCommand : Type 0 where
  pub bus : Bus
  pub command : ℕ
  pub words : List ℕ

-- these, and then the rest
abbrev pub putting : List Event → List BusEvent → List BusEvent
putting [] xs = xs
putting (e ∷ es) xs = OnBus e ∷ putting es xs

abbrev pub data_on : Bus → List ℕ → List Event
data_on b [] = []
data_on b (v ∷ vs) = Word b (valid_word Dat v) ∷ data_on b vs

-- the command, the data words and a gap
abbrev pub put_by : ScheduledCommand → List Event
put_by x = Word x.bus (valid_word Com x.command) ∷ (data_on x.bus x.words ++ Gap x.bus ∷ [])

-- a slot for each word of the reply; to all, there is none
abbrev pub reply_slots : ℕ → ℕ
reply_slots c = if is_broadcast c then 0 else suc (words_after_status (cell_of c))

abbrev pub command_events : ScheduledCommand → List BusEvent
command_events x = putting (put_by x) (passing (reply_slots x.command) [])

-- A command must be legal at a terminal that takes it; if kept message errors are left out, one to all need not be.
abbrev pub must_be_legal : Bool → Description → ℕ → Bool
must_be_legal asked P c = (asked || not (is_broadcast c)) && is_meant P c

-- A message is legal: its command has a cell, which is legal where it must be, and as many words as that expects; it shuts no
-- transmitter down; and if kept message errors are left out, it does not ask for the kept status.
pub record IsLegal (asked : Bool) (Ps : List Description) (x : ScheduledCommand) : Type 0 where
  pub cell : Cell
  pub has : cell_of x.command ≡ Some cell
  pub count : length x.words ≡ expected x.command
  pub legal : Each (λ P. must_be_legal asked P x.command ≡ true → P.legal cell ≡ true) Ps
  pub on : code_in cell ≢ Some mode.shutdown
  pub asks : asked ≡ false → reports_kept cell ≡ false

-- The status word for a message that is done, as its terminal forms it by what came before the message; for mode codes 2 and 18 the
-- status that it kept then.
abbrev pub good_status : Bus → Member → ℕ → Cell → Out
good_status b m c cell =
    let parts : StatusParts = if reports_kept cell then kept_now m.description (noted_of m) else formed_done m.description (noted_of m) c cell in
    SendsWord (sending b Com (status_word m.description.address parts))

-- data words of a reply, n of them from number i, as they are before the message: the words that are held, or the vector word,
-- last command or BIT word
abbrev pub words_of_reply : Member → Cell → ℕ → ℕ → List ℕ
words_of_reply m cell i zero = []
words_of_reply m cell i (suc n) = reply_word m.description (noted_of m) (Some cell) i ∷ words_of_reply m cell (suc i) n

-- the reply, if the message is not for all
abbrev pub good_reply : ScheduledCommand → Cell → Member → List Out
good_reply x cell m =
    if is_broadcast x.command then [] else good_status x.bus m x.command cell ∷ map (word_out x.bus) (words_of_reply m cell 1 (words_after_status (Some cell)))

-- a command is for a terminal, and legal there
abbrev pub carries_out : Description → ℕ → Cell → Bool
carries_out P c cell = is_meant P c && P.legal cell

-- What a terminal answers to a message that ends well: if it carries it out, it hands over what the message has for its subsystem,
-- with just the words that were sent, and replies; and else nothing.
abbrev pub good_answers : Cell → ScheduledCommand → Member → List Out
good_answers cell x m =
    if carries_out m.description x.command cell
    then actions (handing_over (hands m.description (Done x.command cell x.words)) ∷ []) ++ good_reply x cell m
    else []

pub record EndsWell (asked : Bool) (members : List Member) (x : ScheduledCommand) : Type 0 where
  pub answers : (cell : Cell) → cell_of x.command ≡ Some cell → (m : Member) → Has members m →
      actions (own_answers members (command_events x) m) ≡ good_answers cell x m
  pub clear : Each (IsClearIf asked) (play members (command_events x))
