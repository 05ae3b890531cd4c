-- What terminals keep, where no message or reply is in progress.
use Rattle.std.specs.Prelude.{◌≡◌, None, List, []}
use Rattle.bus_word.specs.declared.word.Bus.{Bus}
use Rattle.bus_legal.specs.Description.{Description}
use Rattle.terminal_rules.specs.declared.event.Event.{Event}
use Rattle.terminal_rules.specs.History.{run}
use Rattle.terminal_rules.specs.Open.{Idle}
use Rattle.terminal_rules.specs.Reply.{reply_now}
use Rattle.terminal_rules.specs.Past.{past, open_at}
use Rattle.terminal_state.specs.declared.registers.Registers.{Registers}

-- the same transmitters are shut down, and the last command, the inhibited flag and the kept status are the same
pub record KeepTheSame (r s : Registers) : Type 0 where
  pub off_a : r.off.a ≡ s.off.a
  pub off_b : r.off.b ≡ s.off.b
  pub last : r.last ≡ s.last
  pub inhibited : r.inhibited ≡ s.inhibited
  pub kept : r.kept ≡ s.kept

-- no message or reply is in progress
pub record IsFree (P : Description) (h : List Event) : Type 0 where
  pub message : (b : Bus) → open_at P h b ≡ Idle
  pub reply : reply_now (past P h) ≡ None

-- nor did a word or noise come since the last gap of each bus
pub record IsIdleAt (P : Description) (h : List Event) : Type 0 where
  pub free : IsFree P h
  pub run : (b : Bus) → run (past P h) b ≡ []
