-- Transfers from a terminal to another, or to all others, and when they end well.
use Rattle.std.specs.Prelude.{◌≡◌, ◌≢◌, ℕ, suc, ◌==◌, Bool, true, false, if◌then◌else◌, Some, List, [], ◌∷◌, map}
use Rattle.bus_word.specs.declared.word.Bus.{Bus}
use Rattle.bus_word.specs.declared.word.Kind.TheVariants.{Com}
use Rattle.bus_word.specs.declared.cell.Cell.{Cell}
use Rattle.bus_word.specs.declared.cell.Cell.TheVariants.{OwnReceive, OwnTransmit, BroadReceive}
use Rattle.bus_word.specs.Word.{valid_word}
use Rattle.bus_word.specs.Command.{address_of, is_broadcast}
use Rattle.bus_word.specs.Cell.{cell_of}
use Rattle.bus_legal.specs.Description.{Description}
use Rattle.terminal_rules.specs.declared.event.Event.TheVariants.{Word, Gap}
use Rattle.terminal_rules.specs.LookBack.{some}
use Rattle.terminal_rules.specs.Out.{Out, HandsOver, HandsReceived}
use Rattle.terminal_bus.specs.declared.event.BusEvent.{BusEvent}
use Rattle.terminal_bus.specs.declared.event.BusEvent.TheVariants.{OnBus}
use Rattle.terminal_bus.specs.Members.{Member, play}
use Rattle.terminal_bus.specs.Alone.{own_answers}
use Rattle.terminal_bus.specs.Lists.{Each}
use Rattle.terminal_bus.specs.Transfer.{Has, passing, actions, held_words, word_out}
use Rattle.terminal_schedules.specs.Schedule.{IsClearIf}
use Rattle.terminal_schedules.specs.Formats.{putting, must_be_legal, carries_out, good_status}

-- A transfer (MIL-STD-1553B, 4.3.3.6.3, 4.3.3.6.7.2): a receive command, to one terminal or to all, and a transmit command to
-- another, with what these commands say: subaddress s receives n words of subaddress t.
pub record Transfer : Type 0 where
  pub bus : Bus
  pub receive : ℕ
  pub transmit : ℕ
  pub s : ℕ
  pub t : ℕ
  pub n : ℕ

-- The commands and a gap; slots for a status word and the words; a gap; and a slot for the status word of the receiver, if it is one.
abbrev pub transfer_events : Transfer → List BusEvent
transfer_events x =
    putting (Word x.bus (valid_word Com x.receive) ∷ Word x.bus (valid_word Com x.transmit) ∷ Gap x.bus ∷ [])
    (passing (suc x.n) (OnBus (Gap x.bus) ∷ passing (if is_broadcast x.receive then 0 else 1) []))

abbrev pub received_cell : Transfer → Cell
received_cell x = if is_broadcast x.receive then BroadReceive x.s x.n else OwnReceive x.s x.n

abbrev pub sends_it : Transfer → Description → Bool
sends_it x P = P.address == address_of x.transmit

-- It is legal: the two commands are to different addresses and have these cells; a terminal of the bus has the address of the
-- transmit command, which is legal there, and the receive command is legal at each other where it must be.
pub record CanBeSent (asked : Bool) (Ps : List Description) (x : Transfer) : Type 0 where
  pub receives : cell_of x.receive ≡ Some (received_cell x)
  pub transmits : cell_of x.transmit ≡ Some (OwnTransmit x.t x.n)
  pub two : address_of x.receive ≢ address_of x.transmit
  pub sender : some (sends_it x) Ps ≡ true
  pub sends : Each (λ P. sends_it x P ≡ true → P.legal (OwnTransmit x.t x.n) ≡ true) Ps
  pub legal : Each (λ P. sends_it x P ≡ false → must_be_legal asked P x.receive ≡ true → P.legal (received_cell x) ≡ true) Ps

-- What a terminal m answers to a transfer that ends well, by the one that sends, y. That sends its status word and the words that
-- it holds; another that carries the receive command out hands just these over, and replies if it is not for all.
abbrev pub transfer_answers : Transfer → Member → Member → List Out
transfer_answers x y m =
    if sends_it x m.description then good_status x.bus m x.transmit (OwnTransmit x.t x.n) ∷ map (word_out x.bus) (held_words y x.t 1 x.n)
    else if carries_out m.description x.receive (received_cell x)
    then HandsOver (HandsReceived (is_broadcast x.receive) x.s (held_words y x.t 1 x.n))
    ∷ (if is_broadcast x.receive then [] else good_status x.bus m x.receive (received_cell x) ∷ [])
    else []

pub record IsTransferred (asked : Bool) (members : List Member) (x : Transfer) : Type 0 where
  pub answers : (y m : Member) → Has members y → sends_it x y.description ≡ true → Has members m →
      actions (own_answers members (transfer_events x) m) ≡ transfer_answers x y m
  pub clear : Each (IsClearIf asked) (play members (transfer_events x))
