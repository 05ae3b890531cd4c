-- Worked examples: two units, a schedule for them, and what is left behind by what can't stand in one.
use Rattle.std.specs.Prelude.{◌≡◌, ℕ, ◌+◌, ◌*◌, true, false, Option, Some, None, List, [], ◌∷◌, ◌++◌, map}
use Rattle.bus_word.specs.declared.word.Bus.TheVariants.{A, B}
use Rattle.bus_word.specs.declared.word.Kind.TheVariants.{Com, Dat}
use Rattle.bus_word.specs.declared.cell.Cell.{Cell}
use Rattle.bus_word.specs.declared.cell.Cell.TheVariants.{OwnReceive, OwnTransmit, BroadReceive, OwnMode}
use Rattle.bus_legal.specs.Description.{Description}
use Rattle.terminal_rules.specs.declared.event.Event.TheVariants.{Gap, Write, Flag as FlagIs}
use Rattle.terminal_rules.specs.declared.event.Flag.TheVariants.{Service, Busy}
use Rattle.terminal_rules.specs.Out.{Out, SendsWord, HandsOver, HandsReceived, sending}
use Rattle.terminal_rules.specs.WorkedExamples.Words.{five_hearing_all, command, data_word}
use Rattle.terminal_bus.specs.declared.event.BusEvent.{BusEvent}
use Rattle.terminal_bus.specs.declared.event.BusEvent.TheVariants.{OnBus, SlotPasses, Subsystem}
use Rattle.terminal_bus.specs.Members.{member_of, powered_up}
use Rattle.terminal_bus.specs.Alone.{own_answers}
use Rattle.terminal_bus.specs.Lists.{Each}
use Rattle.terminal_bus.specs.OneSpeaker.{AddressesDiffer}
use Rattle.terminal_bus.specs.Transfer.{actions}
use Rattle.terminal_schedules.specs.declared.left.LeftAt.{LeftAt}
use Rattle.terminal_schedules.specs.declared.left.LeftBehind.{LeftBehind}
use Rattle.terminal_schedules.specs.declared.left.LeftBehind.TheVariants as left
use Rattle.terminal_schedules.specs.Left.{left_alone}
use Rattle.terminal_schedules.specs.Entries.{ScheduleEntry, One, Between, Happens, entry_events, CanStand}

-- a unit with this address, the broadcast option, and these cells legal
abbrev pub unit_with : List Cell → ℕ → Description
unit_with cells a = record (five_hearing_all cells) { address = a; initial = λ s i. a * 4096 + s * 256 + i }

-- one word received at subaddress 1, also by broadcast, and one transmitted of subaddress 2
abbrev pub unit : ℕ → Description
unit a = unit_with (OwnReceive 1 1 ∷ OwnTransmit 2 1 ∷ BroadReceive 1 1 ∷ OwnMode 16 ∷ []) a

abbrev pub units : List Description
units = unit 5 ∷ unit 6 ∷ []

-- at the other of these the broadcast is illegal
abbrev pub mixed : List Description
mixed = unit 5 ∷ unit_with (OwnTransmit 2 1 ∷ []) 6 ∷ []

-- a word to 5, and one to all; the vector word of 5; a word of 6; a word of 6 to 5, and one of 5 to all
abbrev pub to_five : ScheduleEntry
to_five = One (record { bus = A; command = 0x2821; words = 0x1234 ∷ [] })

abbrev pub to_all : ScheduleEntry
to_all = One (record { bus = A; command = 0xf821; words = 0x5678 ∷ [] })

abbrev pub vector_of_five : ScheduleEntry
vector_of_five = One (record { bus = B; command = 0x2c10; words = [] })

abbrev pub of_six : ScheduleEntry
of_six = One (record { bus = B; command = 0x3441; words = [] })

abbrev pub six_to_five : ScheduleEntry
six_to_five = Between (record { bus = A; receive = 0x2821; transmit = 0x3441; s = 1; t = 2; n = 1 })

abbrev pub five_to_all : ScheduleEntry
five_to_all = Between (record { bus = B; receive = 0xf821; transmit = 0x2c41; s = 1; t = 2; n = 1 })

abbrev pub six_writes : ScheduleEntry
six_writes = Happens 6 (Write (record { subaddress = 2; number = 1 }) 0xabcd)

abbrev pub five_requests : ScheduleEntry
five_requests = Happens 5 (FlagIs Service true)

-- all that happens for entries
abbrev pub run_of : List ScheduleEntry → List BusEvent
run_of [] = []
run_of (x ∷ entries) = entry_events x ++ run_of entries

-- what a unit answers, from power-up
abbrev pub answered_by : List Description → Description → List BusEvent → List Out
answered_by Ps P xs = actions (own_answers (powered_up Ps) xs (member_of P))

-- that with this address
abbrev pub answered : ℕ → List BusEvent → List Out
answered a xs = answered_by units (unit a) xs

abbrev pub status : ℕ → Out
status bits = SendsWord (sending A Com bits)

abbrev pub handed : ℕ → Out
handed v = HandsOver (HandsReceived false 1 (v ∷ []))

-- what can't stand in a schedule: a command without its words; one that another bus superseded, without a gap; a reply without its
-- slots; a transmitter shut down; busy; an illegal message
abbrev pub lone_command : List BusEvent
lone_command = OnBus (command A 0x2821) ∷ []

abbrev pub no_gap : List BusEvent
no_gap = OnBus (command A 0x2821) ∷ OnBus (command B 0x2c10) ∷ OnBus (Gap B) ∷ SlotPasses ∷ SlotPasses ∷ []

abbrev pub no_slots : List BusEvent
no_slots = OnBus (command A 0x2c10) ∷ OnBus (Gap A) ∷ []

abbrev pub shut_off : List BusEvent
shut_off = OnBus (command B 0x2c04) ∷ OnBus (Gap B) ∷ SlotPasses ∷ []

abbrev pub made_busy : List BusEvent
made_busy = Subsystem 5 (FlagIs Busy true) ∷ []

abbrev pub illegal : List BusEvent
illegal = OnBus (command A 0x2822) ∷ OnBus (data_word A 0) ∷ OnBus (data_word A 0) ∷ OnBus (Gap A) ∷ SlotPasses ∷ []

-- transmit status word
abbrev pub status_asked : List BusEvent
status_asked = OnBus (command A 0x2c02) ∷ OnBus (Gap A) ∷ SlotPasses ∷ []

abbrev pub at_five : LeftBehind → Option LeftAt
at_five what = Some (record { address = 5; what = what })

pub record ScheduleRows : Type 0 where
  -- the law speaks of this schedule
  pub differ : AddressesDiffer units
  pub stand : Each (CanStand true units) (to_five ∷ to_all ∷ vector_of_five ∷ of_six ∷ six_to_five ∷ five_to_all ∷ six_writes ∷ five_requests ∷ [])
  -- a transfer hands over what is held then
  pub run : answered 5 (run_of (to_five ∷ six_to_five ∷ six_writes ∷ six_to_five ∷ [])) ≡ handed 0x1234 ∷ status 0x2800 ∷ handed 0x6201 ∷ status 0x2800 ∷ handed 0xabcd ∷ status 0x2800 ∷ []
  -- a status word has the flags of then: service request
  pub flagged : answered 5 (run_of (to_five ∷ five_requests ∷ to_five ∷ [])) ≡ handed 0x1234 ∷ status 0x2800 ∷ handed 0x1234 ∷ status 0x2900 ∷ []
  -- the kept status may be any, but for its message error
  pub kept : answered 5 (run_of (to_all ∷ []) ++ status_asked) ≡ HandsOver (HandsReceived true 1 (0x5678 ∷ [])) ∷ status 0x2810 ∷ []
  -- if kept message errors are left out, the law speaks of broadcasts that are illegal at 6: it does nothing for them, and goes on
  pub stand_unasked : Each (CanStand false mixed) (to_all ∷ five_to_all ∷ of_six ∷ [])
  pub illegal_at_six : map (λ P. answered_by mixed P (run_of (to_all ∷ of_six ∷ []))) mixed
      ≡ (HandsOver (HandsReceived true 1 (0x5678 ∷ [])) ∷ []) ∷ (SendsWord (sending B Com 0x3000) ∷ SendsWord (sending B Dat 0x6201) ∷ []) ∷ []
  -- a message, as it is alone
  pub alone : answered 5 (entry_events to_five) ≡ handed 0x1234 ∷ status 0x2800 ∷ []
  -- and after what leaves a message, a command in the run, a reply, a transmitter shut down, or busy
  pub message_left : answered 5 (lone_command ++ entry_events to_five) ≡ []
  pub run_left : answered 5 (no_gap ++ entry_events to_five) ≡ SendsWord (sending B Com 0x2800) ∷ SendsWord (sending B Dat 0) ∷ []
  pub reply_left : answered 5 (no_slots ++ entry_events to_five) ≡ status 0x2800 ∷ []
  pub shut_left : answered 5 (shut_off ++ entry_events to_five) ≡ SendsWord (sending B Com 0x2800) ∷ handed 0x1234 ∷ []
  pub busy_left : answered 5 (made_busy ++ entry_events to_five) ≡ status 0x2808 ∷ []
  -- and after a message error is kept
  pub asked_alone : answered 5 status_asked ≡ status 0x2800 ∷ []
  pub error_left : answered 5 (illegal ++ status_asked) ≡ status 0x2c00 ∷ status 0x2c00 ∷ []
  -- what is left behind: by a message nothing; by each of these what is said above
  pub nothing_left : left_alone units (entry_events six_to_five) ≡ None
  pub lefts : map (left_alone units) (lone_command ∷ no_gap ∷ no_slots ∷ shut_off ∷ made_busy ∷ illegal ∷ [])
      ≡ map at_five (left.Message A ∷ left.WordInRun A ∷ left.Reply ∷ left.ShutDown A ∷ left.Busy ∷ left.MessageError ∷ [])
