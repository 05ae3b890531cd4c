-- What is kept of the messages that terminals have of one that was put on a bus.
use Rattle.std.specs.Prelude.{ℕ, ◌≡◌, List, map, filter, length}
use Rattle.std.specs.List.{list_any}
use Rattle.bus_legal.specs.Description.{Description}
use Rattle.bus_legal.specs.Parts.{Parts}
use Rattle.bus_legal.specs.Tables.{tables_say}
use Rattle.terminal_rules.specs.declared.event.Event.{Event}
use Rattle.bus_reports.specs.declared.load.PutMessage.{PutMessage}
use Rattle.terminal_messages.specs.declared.kept.KeptMessage.{KeptMessage}
use Rattle.terminal_messages.specs.declared.watch.MessageWatch.{MessageWatch}
use Rattle.terminal_messages.specs.Messages.{closed}
use Rattle.terminal_messages.specs.Parts.{tell}
use Rattle.terminal_messages.specs.Shown.{shown_message}
use Rattle.terminal_messages.specs.View.{told_view}
use Rattle.terminal_messages.specs.Watch.{WatchStands}
use Rattle.tool_buses.specs.declared.ended.CommandResult.{CommandResult}
use Rattle.tool_buses.specs.declared.ended.MessageResult.{MessageResult}
use Rattle.tool_buses.specs.EndsWell.{MessageAt, is_done_at, is_faulty_at, at_receivers, at_transmitter}

abbrev pub message_of_terminal : ℕ → KeptMessage → MessageAt
message_of_terminal a m = record { address = a; state = m.state }

-- of those to which one command speaks
pub record IsResultOf (ms : List MessageAt) (r : CommandResult) : Type 0 where
  pub seen : r.seen_at.items ≡ map (λ m. m.address) ms
  pub done : r.is_done ≡ list_any is_done_at ms
  pub told : length r.told.items ≡ length (filter is_faulty_at ms)

-- of all
pub record AreResultsAt (put : PutMessage) (ms : List MessageAt) (r : MessageResult) : Type 0 where
  pub first : IsResultOf (at_receivers put ms) r.first
  pub second : IsResultOf (at_transmitter put ms) r.second

-- a terminal was watched up to this history, and these messages of it are over
pub record HasWatched (P : Description) (h : List Event) (watch : MessageWatch Parts) (ms : List KeptMessage) : Type 0 where
  pub stands : WatchStands (λ (normal : Parts). tables_say normal.tables) P (λ _. 0) h watch
  pub over : map shown_message ms ≡ map (told_view P (λ _. 0)) (closed (tell P h))
