-- What is handed over, and a row, as values of the code.
use Rattle.std.specs.Prelude.{option_map}
use Rattle.terminal_rules.specs.Out.{Handing, HandsReceived, HandsSynchronize, HandsSynchronizeWith, HandsSelfTest, HandsBusControl}
use Rattle.terminal_exchanges.specs.Values.{exchange_in}
use Rattle.rt1553_results.specs.declared.playing.Handed.{Handed}
use Rattle.rt1553_results.specs.declared.playing.Handed.TheVariants.{Received, Synchronize, SynchronizeWith, SelfTest, BusControl}
use Rattle.rt1553_results.specs.declared.playing.TestRow.{TestRow}
use Rattle.rt1553_results.specs.Rows.{Answered}

-- what the code says of a hand-over, as the rules of the terminal say it
abbrev pub handing_in : Handed → Handing
handing_in (Received broadcast subaddress words) = HandsReceived broadcast subaddress words.items
handing_in Synchronize = HandsSynchronize
handing_in (SynchronizeWith word) = HandsSynchronizeWith word
handing_in SelfTest = HandsSelfTest
handing_in BusControl = HandsBusControl

-- a row of the code, as these definitions speak of it
abbrev pub answered_in : TestRow → Answered
answered_in row = record { exchange = exchange_in row.exchange; reply = row.reply.items; handed = option_map handing_in row.handed }
