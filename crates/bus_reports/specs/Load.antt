-- How long messages keep a bus busy, in microseconds, by the formats of MIL-STD-1553B, 4.3.3.6. A word takes 20.
use Rattle.std.specs.Prelude.{ℕ, ◌≡◌, ◌≢◌, ◌++◌, ◌+◌, ◌*◌, ◌/◌, ◌%◌, ◌^◌, ◌-◌, ◌==◌, nat_le, if◌then◌else◌, min, List, [], ◌∷◌, length, filter, Option, Some, None}
use Rattle.bus_word.specs.Command.{code_of, count_of, expected, is_broadcast, is_mode}
use Rattle.bus_word.specs.declared.word.Bus.{Bus}
use Rattle.bus_word.specs.declared.word.Bus.TheVariants.{A, B}
use Rattle.terminal_rules.specs.Buses.{same_bus}
use Rattle.bus_reports.specs.declared.load.LoadTimes.{LoadTimes}
use Rattle.bus_reports.specs.declared.load.PutMessage.{PutMessage}
use Rattle.bus_reports.specs.declared.load.RateGroup.{RateGroup}
use Rattle.bus_reports.specs.declared.load.RateRow.{RateRow}
use Rattle.bus_reports.specs.declared.load.LoadRow.{LoadRow}
use Rattle.bus_reports.specs.declared.load.BusLoad.{BusLoad}

-- how many data words a message has to which a terminal replies: a mode code from 16 on has one
abbrev pub data_count : ℕ → ℕ
data_count command = if is_mode command then (if nat_le 16 (code_of command) then 1 else 0) else count_of command

-- Of one command: the command, the data words, and the status word. A broadcast has no words but those of the controller.
abbrev pub one_time : ℕ → LoadTimes → ℕ
one_time command times =
    if is_broadcast command then 20 * (1 + expected command)
    else 20 * (2 + data_count command) + times.response

-- Of a transfer: two commands, the status word of the transmitter, the data words, and the status word of a receiver.
abbrev pub transfer_time : ℕ → ℕ → LoadTimes → ℕ
transfer_time receiver transmitter times =
    if is_broadcast receiver then 20 * (3 + data_count transmitter) + times.response
    else 20 * (4 + data_count transmitter) + 2 * times.response

abbrev pub words_time : LoadTimes → ℕ → Option ℕ → ℕ
words_time times command None = one_time command times
words_time times command (Some transmitter) = transfer_time command transmitter times

-- a message takes the time of its words, and the gap behind it
abbrev pub message_time : LoadTimes → PutMessage → ℕ
message_time times put = words_time times put.command put.transmitter + times.gap

-- a sum of 64 bits: one that is too large stands at the largest
abbrev pub capped_sum : ℕ → ℕ → ℕ
capped_sum a b = min (a + b) (2 ^ 64 - 1)

-- the messages that are on a bus take together
abbrev pub time_on : Bus → LoadTimes → List PutMessage → ℕ
time_on bus times [] = 0
time_on bus times (put ∷ more) = if same_bus bus put.bus then capped_sum (message_time times put) (time_on bus times more) else time_on bus times more

-- what the messages of a rate take of a bus: how many there are, and how long they take together
abbrev pub rate_row : Bus → LoadTimes → RateGroup → RateRow
rate_row bus times group = record {
  line = group.line;
  rate = group.rate;
  bus = bus;
  messages = length (filter (λ put. same_bus bus put.bus) group.messages.items);
  time = time_on bus times group.messages.items;
}

-- the messages of a rate come again after so many microseconds
abbrev pub period : ℕ → ℕ
period rate = if rate == 0 then 0 else 1000000 / rate

-- the messages of a rate take so much of each second
abbrev pub share : RateRow → ℕ
share row = min (row.time * row.rate) (2 ^ 64 - 1)

-- what rows of a bus take of each second
abbrev pub busy_on : Bus → List RateRow → ℕ
busy_on bus [] = 0
busy_on bus (row ∷ rows) = if same_bus bus row.bus then capped_sum (share row) (busy_on bus rows) else busy_on bus rows

-- thousandths of a second, rounded up
abbrev pub tenths : ℕ → ℕ
tenths time = time / 1000 + (if time % 1000 == 0 then 0 else 1)

-- a row without messages is not told
abbrev pub told_row : RateRow → List RateRow
told_row row = if row.messages == 0 then [] else row ∷ []

-- the rows of a rate: one for each bus on which it has messages
abbrev pub group_rows : LoadTimes → RateGroup → List RateRow
group_rows times group = told_row (rate_row A times group) ++ told_row (rate_row B times group)

-- the load of a bus, if rows tell of it
abbrev pub load_row : Bus → List RateRow → List LoadRow
load_row bus rows = if length (filter (λ row. same_bus bus row.bus) rows) == 0 then [] else record { bus = bus; time = busy_on bus rows } ∷ []

-- the load that these rows have, if there is one
abbrev pub IsLoadOf : List RateRow → Option BusLoad → Type 0
IsLoadOf rows None = rows ≡ []
IsLoadOf rows (Some load) = (rows ≢ []) × (load.rates.items ≡ rows) × (load.buses.items ≡ load_row A rows ++ load_row B rows)
