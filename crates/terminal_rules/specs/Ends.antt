-- Which events end a message, and how (MIL-STD-1553B, 4.4.1.2, 4.4.3.4, 4.4.3.5, 4.4.3.6).
use Rattle.std.specs.Prelude.{ℕ, Bool, true, ◌&&◌, ◌||◌, ◌==◌, if◌then◌else◌, Option, Some, None, List, [], ◌∷◌, ◌++◌, length}
use Rattle.bus_word.specs.declared.word.Raw.{Raw}
use Rattle.bus_word.specs.declared.cell.Cell.{Cell}
use Rattle.bus_word.specs.declared.cell.Cell.TheVariants.{OwnMode, BroadMode}
use Rattle.bus_word.specs.Word.{is_data}
use Rattle.bus_word.specs.Command.{expected}
use Rattle.bus_word.specs.Cell.{cell_of}
use Rattle.bus_word.specs.Mode as mode
use Rattle.bus_legal.specs.Description.{Description}
use Rattle.terminal_rules.specs.declared.event.Event.{Event}
use Rattle.terminal_rules.specs.declared.event.Event.TheVariants.{Word, Noise, Gap}
use Rattle.terminal_rules.specs.declared.event.Flag.TheVariants.{Busy}
use Rattle.terminal_rules.specs.History.{Noted, Entry, Ending, Nothing, Badly, Illegal, Blocked, Done}
use Rattle.terminal_rules.specs.Open.{Open, Idle, Collects, Waits, Resumes, open_now, transfer, status_at}
use Rattle.terminal_rules.specs.Flags.{flag_now}
use Rattle.terminal_rules.specs.Reply.{reply_now, ignores}

-- the bits of a valid data word
abbrev pub data_of : Option Raw → Option ℕ
data_of None = None
data_of (Some w) = if is_data w then Some w.bits else None

-- words, and one more entry's, where all are data
abbrev pub with_word : Option (List ℕ) → Option ℕ → Option (List ℕ)
with_word None d = None
with_word (Some ds) None = None
with_word (Some ds) (Some d) = Some (ds ++ d ∷ [])

-- the bits of what was collected, the first first, where it is nothing but valid data words
abbrev pub data_words : List Entry → Option (List ℕ)
data_words [] = Some []
data_words (x ∷ xs) = with_word (data_words xs) (data_of x.word)

-- the data words, where there are as many as the command expects
abbrev pub if_expected : ℕ → Option (List ℕ) → Option (List ℕ)
if_expected c None = None
if_expected c (Some ds) = if length ds == expected c then Some ds else None

-- what was collected, where it is just as many valid data words as the command expects
abbrev pub complete : ℕ → List Entry → Option (List ℕ)
complete c after = if_expected c (data_words after)

-- the busy flag (4.3.3.5.3.8; Notice 2, 30.5.3) keeps a terminal from data, from the vector word and from synchronize with
-- data word, and from nothing else
abbrev pub is_blocked_by_busy : Cell → Bool
is_blocked_by_busy (OwnMode code) = (code == mode.vector_word) || (code == mode.synchronize_with_word)
is_blocked_by_busy (BroadMode code) = (code == mode.vector_word) || (code == mode.synchronize_with_word)
is_blocked_by_busy _ = true

-- how a message that has its words ends, by its cell and by whether that is legal and the busy flag is set
abbrev pub verdict : (Cell → Bool) → Bool → ℕ → List ℕ → Option Cell → Ending
verdict legal busy c ds None = Illegal c
verdict legal busy c ds (Some cell) =
    if legal cell
    then (if busy && is_blocked_by_busy cell then Blocked c cell else Done c cell ds)
    else Illegal c

-- a message that ends well: illegal (4.4.3.4) without a legal cell, then blocked while busy, else done
abbrev pub well : Description → Bool → ℕ → List ℕ → Ending
well P busy c ds = verdict P.legal busy c ds (cell_of c)

-- a message that has its words ends well (4.4.3.5), one that is a transfer goes on, and any other ends in error (4.4.3.6)
abbrev pub ends_with : Description → Bool → ℕ → Option (List ℕ) → Option (ℕ × ℕ) → Ending
ends_with P busy c (Some ds) t = well P busy c ds
ends_with P busy c None (Some t) = Nothing
ends_with P busy c None None = Badly c

-- what a gap ends; while a transfer waits, it is the time-out (4.3.3.9; Notice 2, 30.9)
abbrev pub at_gap : Description → Bool → Open → Ending
at_gap P busy Idle = Nothing
at_gap P busy (Collects c after) = ends_with P busy c (complete c after) (transfer P (Some (c, after)))
at_gap P busy (Waits c a) = Badly c
at_gap P busy (Resumes c after) = ends_with P busy c (complete c after) None

-- what a word or noise ends: a transfer that waits for another word
abbrev pub at_entry : Option Raw → Open → Ending
at_entry w (Waits c a) = if status_at a w then Nothing else Badly c
at_entry w _ = Nothing

-- how an event that is heard ends the message in progress on its bus, after a noted history
abbrev pub ends_heard : Description → List Noted → Event → Ending
ends_heard P h (Gap b) = at_gap P (flag_now h Busy) (open_now P h b)
ends_heard P h (Word b w) = at_entry (Some w) (open_now P h b)
ends_heard P h (Noise b) = at_entry None (open_now P h b)
ends_heard P h _ = Nothing

-- what is ignored ends nothing
abbrev pub unless_ignored : Bool → Ending → Ending
unless_ignored ignored x = if ignored then Nothing else x

-- how an event ends the message in progress on its bus
abbrev pub ends_now : Description → List Noted → Event → Ending
ends_now P h e = unless_ignored (ignores (reply_now h) e) (ends_heard P h e)
