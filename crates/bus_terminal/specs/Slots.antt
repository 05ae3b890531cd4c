-- Slots one after another, and the data words that are sent in them.
use Rattle.std.specs.Prelude.{◌≡◌, ℕ, suc, ◌<◌, ◌-◌, false, is_some, Option, Some, None, List, length, replicate, get_or}
use Rattle.bus_word.specs.declared.word.Bus.{Bus}
use Rattle.bus_word.specs.declared.word.Kind.TheVariants.{Dat}
use Rattle.bus_word.specs.declared.cell.Cell.{Cell}
use Rattle.bus_word.specs.declared.cell.Cell.TheVariants.{OwnTransmit}
use Rattle.bus_legal.specs.Description.{Description}
use Rattle.terminal_rules.specs.declared.event.Event.{Event}
use Rattle.terminal_rules.specs.declared.event.Event.TheVariants.{Slot}
use Rattle.bus_terminal.specs.declared.answer.NextWord.{NextWord}
use Rattle.terminal_rules.specs.History.{Replying}
use Rattle.terminal_rules.specs.Reply.{reply_now}
use Rattle.terminal_rules.specs.Past.{past, history_after}
use Rattle.terminal_rules.specs.Out.{sending, Silence, SendsWord, out}

-- so many slots
abbrev pub slots : ℕ → List Event
slots k = replicate k Slot

-- where no reply is in progress, nothing is sent in the slots to come
abbrev pub SlotsAreSilent : Type 0
SlotsAreSilent =
    (P : Description) (h : List Event) → is_some (reply_now (past P h)) ≡ false → (k : ℕ) → out P (history_after (slots k) h) Slot ≡ Silence

-- the word that is sent next, as the definitions say it
abbrev pub shown_next : Option NextWord → Option Replying
shown_next None = None
shown_next (Some w) = Some (record { bus = w.bus; cell = w.cell; number = w.number })

-- the words of a subaddress that a reply is still to send, by its cell and the number of the next word: none before its status
abbrev pub words_left_of : Option Cell → ℕ → ℕ
words_left_of (Some (OwnTransmit s n)) (suc m) = n - m
words_left_of _ _ = 0

-- the same of the reply in progress, where there is one
abbrev pub words_left : Option Replying → ℕ
words_left None = 0
words_left (Some r) = words_left_of r.cell r.number

-- after this history each of these data words is sent in a slot, one after another
abbrev pub AreSent : Description → List Event → Bus → List ℕ → Type 0
AreSent P h b words = (k : ℕ) → k < length words → out P (history_after (slots k) h) Slot ≡ SendsWord (sending b Dat (get_or words k 0))
