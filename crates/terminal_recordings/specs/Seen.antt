-- What can be seen, as tests.
use Rattle.std.specs.Prelude.{Bool, true, nat_lt, Option, Some, None}
use Rattle.terminal_rules.specs.declared.event.Event.{Event}
use Rattle.terminal_rules.specs.declared.event.Event.TheVariants.{Word}
use Rattle.terminal_rules.specs.Out.{Sending}
use Rattle.terminal_recordings.specs.Recordings.{is_seen}

-- an event that is seen and can come
abbrev pub can_be_seen : Event → Bool
can_be_seen (Word b w) = nat_lt w.bits 65536
can_be_seen e = is_seen e

-- a word that is sent has 16 bits
abbrev pub can_be_sent : Option Sending → Bool
can_be_sent None = true
can_be_sent (Some s) = nat_lt s.bits 65536
