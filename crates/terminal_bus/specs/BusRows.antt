-- Worked examples: buses of three terminals.
use Rattle.std.specs.Prelude.{◌≡◌, ℕ, ◌+◌, ◌*◌, true, false, List, [], ◌∷◌, length}
use Rattle.bus_word.specs.declared.word.Bus.TheVariants.{A, B}
use Rattle.bus_word.specs.declared.word.Kind.TheVariants.{Com, Dat}
use Rattle.bus_word.specs.declared.cell.Cell.TheVariants.{OwnReceive, OwnTransmit}
use Rattle.bus_legal.specs.Description.{Description}
use Rattle.terminal_rules.specs.declared.event.Event.TheVariants.{Noise, Gap}
use Rattle.terminal_rules.specs.LookBack.{keep}
use Rattle.terminal_rules.specs.Out.{Out, SendsWord, HandsOver, HandsReceived, sending}
use Rattle.terminal_rules.specs.WorkedExamples.Words.{five, command, data_word}
use Rattle.terminal_bus.specs.declared.event.BusEvent.{BusEvent}
use Rattle.terminal_bus.specs.declared.event.BusEvent.TheVariants.{OnBus}
use Rattle.terminal_bus.specs.Members.{heard_of, sendings, play, member_of, powered_up}
use Rattle.terminal_bus.specs.Discipline.{member_reply, is_disciplined}
use Rattle.terminal_bus.specs.Transfer.{transfer_between, actions_at_each, CanTransfer}

-- a terminal with this address, one word received at subaddress 1, one transmitted of subaddress 2, and no word held twice
abbrev pub at_address : ℕ → Description
at_address a = record (five (OwnReceive 1 1 ∷ OwnTransmit 2 1 ∷ [])) { address = a; initial = λ s i. a * 4096 + s * 256 + i }

abbrev pub three : List Description
three = at_address 5 ∷ at_address 6 ∷ at_address 7 ∷ []

-- what the terminal with this address sends or hands over, from power-up
abbrev pub row_actions : ℕ → List BusEvent → List (List Out)
row_actions a xs = actions_at_each (powered_up three) xs (member_of (at_address a))

-- how many replies are in progress
abbrev pub replying : List BusEvent → ℕ
replying xs = length (keep member_reply (play (powered_up three) xs))

-- a transfer from 5 to 6
abbrev pub from_five : List BusEvent
from_five = transfer_between A 0x3021 0x2c41 1

-- transmit commands to 5 and then to 6, whose gap comes during the reply of 5
abbrev pub too_early : List BusEvent
too_early = OnBus (command A 0x2c41) ∷ OnBus (Gap A) ∷ OnBus (command A 0x3441) ∷ OnBus (Gap A) ∷ []

-- the same, with the command to 6 on the other bus
abbrev pub too_early_there : List BusEvent
too_early_there = OnBus (command A 0x2c41) ∷ OnBus (Gap A) ∷ OnBus (command B 0x3441) ∷ OnBus (Gap B) ∷ []

-- 6 waits for 5, which does not answer, since its own message was disturbed; then 5 is to receive a word
abbrev pub taken_for_status : List BusEvent
taken_for_status =
    OnBus (command A 0x2821) ∷ OnBus (command A 0x3021) ∷ OnBus (command A 0x2c41) ∷ OnBus (Gap A)
    ∷ OnBus (command A 0x2821) ∷ OnBus (data_word A 0x1234) ∷ OnBus (Gap A) ∷ []

-- the same with a gap, at which 6 stops waiting
abbrev pub after_time_out : List BusEvent
after_time_out =
    OnBus (command A 0x2821) ∷ OnBus (command A 0x3021) ∷ OnBus (command A 0x2c41) ∷ OnBus (Gap A) ∷ OnBus (Gap A)
    ∷ OnBus (command A 0x2821) ∷ OnBus (data_word A 0x1234) ∷ OnBus (Gap A) ∷ []

pub record BusRows : Type 0 where
  -- a transfer: 5 sends its status word and its word, 6 hands that over and then sends its status word, 7 is silent
  pub sends : row_actions 5 from_five ≡ [] ∷ [] ∷ [] ∷ (SendsWord (sending A Com 0x2800) ∷ []) ∷ (SendsWord (sending A Dat 0x5201) ∷ []) ∷ [] ∷ [] ∷ []
  pub receives : row_actions 6 from_five ≡ [] ∷ [] ∷ [] ∷ [] ∷ [] ∷ (HandsOver (HandsReceived false 1 (0x5201 ∷ [])) ∷ []) ∷ (SendsWord (sending A Com 0x3000) ∷ []) ∷ []
  pub silent : row_actions 7 from_five ≡ [] ∷ [] ∷ [] ∷ [] ∷ [] ∷ [] ∷ [] ∷ []
  pub fair : is_disciplined (powered_up three) from_five ≡ true
  -- the transfer law speaks of it
  pub can : CanTransfer (powered_up three) (member_of (at_address 6)) (member_of (at_address 5)) A 0x3021 0x2c41 1 2 1
  -- a gap during a reply: two reply, on one bus or on both; the discipline forbids it
  pub early : replying too_early ≡ 2
  pub early_forbidden : is_disciplined (powered_up three) too_early ≡ false
  pub early_there : replying too_early_there ≡ 2
  pub early_there_forbidden : is_disciplined (powered_up three) too_early_there ≡ false
  -- a command that another terminal takes for the status word: two reply, and their words collide; the discipline forbids it
  pub taken : replying taken_for_status ≡ 2
  pub collides : heard_of A (sendings A (play (powered_up three) taken_for_status)) ≡ Noise A ∷ []
  pub taken_forbidden : is_disciplined (powered_up three) taken_for_status ≡ false
  pub timed_out : replying after_time_out ≡ 1
  pub timed_out_fair : is_disciplined (powered_up three) after_time_out ≡ true
