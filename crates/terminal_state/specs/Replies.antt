-- The reply in progress, as the terminal holds it.
use Rattle.std.specs.Prelude.{ℕ, zero, suc, Bool, true, ◌&&◌, ◌||◌, ◌==◌, nat_le, if◌then◌else◌, Option, Some, None}
use Rattle.bus_word.specs.declared.word.Bus.{Bus}
use Rattle.bus_word.specs.declared.cell.Cell.{Cell}
use Rattle.terminal_state.specs.declared.reply.Reply.{Reply}
use Rattle.terminal_rules.specs.History.{Replying}
use Rattle.terminal_rules.specs.Steps.{sent_one}
use Rattle.terminal_rules.specs.Reply.{words_after_status}
use Rattle.terminal_state.specs.Places.{has_place, can_reply}

-- the reply in progress in the words of the rules
abbrev pub shown_reply : Option Reply → Option Replying
shown_reply None = None
shown_reply (Some r) = Some (record { bus = r.bus; cell = r.cell; number = r.next })

-- the next word is there: the status, or a word of a place that can be read
abbrev pub can_send : Option Replying → Bool
can_send None = true
can_send (Some r) = (r.number == 0) || has_place r.cell r.number

-- the reply to a message of this cell whose word m is sent next, if there is one
abbrev pub reply_at : Bus → Option Cell → ℕ → Option Replying
reply_at bus cell m = if can_reply cell && nat_le m (words_after_status cell) then Some (record { bus = bus; cell = cell; number = m }) else None

-- the reply in progress after so many of its words were sent, one after another
abbrev pub sent_many : ℕ → Option Replying → Option Replying
sent_many zero r = r
sent_many (suc k) r = sent_many k (sent_one r)
