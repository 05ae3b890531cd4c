-- Recordings: what was heard, as lines of a script; and that such a script, read back, says just that.
use Rattle.std.specs.Prelude.{ℕ, ◌≡◌, ◌*◌, ◌<◌, ◌≤◌, ◌^◌, ◌+◌, ◌-◌, ◌/◌, ◌==◌, if◌then◌else◌, Bool, true, List, [], ◌∷◌, ◌++◌, Option, codes, decimal, length, map, flat_map, Ok, Err}
use Rattle.std.specs.Io.KnownBytes.{Appends}
use Rattle.bus_word.specs.Word.{valid_word}
use Rattle.terminal_rules.specs.declared.event.Event.{Event}
use Rattle.terminal_rules.specs.declared.event.Event.TheVariants as event
use Rattle.bus_terminal.specs.Answer.{shown_word}
use Rattle.script_lines.specs.EventLine.{event_line}
use Rattle.script_lines.specs.Transcript.{sent_text}
use Rattle.rt1553_verify.specs.declared.matching.Matching.TheVariants as matching
use Rattle.rt1553_verify.specs.declared.stated.StatedFault.TheVariants.{EndsEarly}
use Rattle.rt1553_verify.specs.Stated.{StatedEvent, stated_within}
use Rattle.monitor_cells.specs.declared.heard.HeardItem.{HeardItem}
use Rattle.monitor_cells.specs.declared.heard.HeardItem.TheVariants.{Gap, Word, Noise, Reply, Late, Slot, MaybeSilent, MaybeGap, Pause}
use Rattle.monitor_cells.specs.Cells.{is_time_text, kind_of_sync}
use Rattle.monitor_tables.specs.declared.fault.EarlyEnd.{EarlyEnd}
use Rattle.monitor_tables.specs.declared.fault.EarlyEnd.TheVariants.{Refused, Write}
use Rattle.monitor_tables.specs.declared.fault.RefusedRow.{RefusedRow}

-- what was heard, with the text of its time, which may be left out
pub record HeardAt : Type 0 where
  pub time : List ℕ
  pub heard : HeardItem

-- ---- lines

-- a time, as a comment
abbrev pub time_line : List ℕ → List ℕ
time_line [] = []
time_line (b ∷ bs) = codes "# " ++ ((b ∷ bs) ++ codes "\n")

-- that a word came later than the silence that is no response, by so many nanoseconds, which are rounded up to microseconds
abbrev pub late_line : ℕ → List ℕ
late_line late =
    if late == 0 then codes "# later than no response: "
    else codes "# later than no response by " ++ (decimal ((late - 1) / 1000 + 1) ++ codes " us: ")

-- what was heard: an event, a slot with the word that the terminal sent or without any, or a comment
abbrev pub heard_line : HeardItem → List ℕ
heard_line (Gap bus) = event_line (event.Gap bus)
heard_line (Word bus sync bits) = event_line (event.Word bus (valid_word (kind_of_sync sync) bits))
heard_line (Noise bus) = event_line (event.Noise bus)
heard_line (Reply sent) = codes "slot\n#> " ++ sent_text (shown_word sent)
heard_line (Late sent late) = late_line late ++ sent_text (shown_word sent)
heard_line Slot = event_line event.Slot
heard_line MaybeSilent = codes "#? " ++ event_line event.Slot
heard_line (MaybeGap bus) = codes "#? " ++ event_line (event.Gap bus)
heard_line Pause = event_line event.Slot

-- the lines of what was heard
abbrev pub noted_text : HeardAt → List ℕ
noted_text n = time_line n.time ++ heard_line n.heard

-- a recording
abbrev pub recording_text : List HeardAt → List ℕ
recording_text [] = []
recording_text (n ∷ ns) = noted_text n ++ recording_text ns

-- ---- recordings that end early

-- the last line: this row was refused, and so many before it were written
abbrev pub refused_line : ℕ → ℕ → List ℕ
refused_line row rows = codes "#! row " ++ (decimal row ++ (codes " was refused; rows written: " ++ (decimal rows ++ codes "\n")))

-- a recording of so many rows, that ends at this one
abbrev pub early_text : List HeardAt → RefusedRow → List ℕ
early_text ns refused = recording_text ns ++ refused_line refused.row refused.rows

-- just that line was written, or the sink failed
abbrev pub PutsRefusal : {W : Type 0} → (W → Option (List ℕ)) → (W → Bool) → W → W → RefusedRow → EarlyEnd → Type 0
PutsRefusal written has_failed w w' refused (Refused it) = (it ≡ refused) × Appends (written w) (written w') (refused_line it.row it.rows)
PutsRefusal written has_failed w w' refused Write = has_failed w' ≡ true

-- ---- what lines say

-- an event of which this is stated; on which lines is left aside
abbrev pub event_stating : Event → List ℕ → StatedEvent
event_stating e answer = record { line = 0; event = e; matching = matching.Exact; answer_line = 0; answer = answer }

-- a gap that may have come, or a slot in which the terminal may be silent
abbrev pub event_maybe : Event → StatedEvent
event_maybe e = record { line = 0; event = e; matching = matching.Maybe; answer_line = 0; answer = [] }

-- the same of an event that was read
abbrev pub without_line : StatedEvent → StatedEvent
without_line s = record s { line = 0; answer_line = 0 }

-- What was heard, as an event: a word of the terminal is one that is stated of a slot, and nothing is stated of a silent one. What came too late
-- is none.
abbrev pub heard_stated : HeardItem → List StatedEvent
heard_stated (Gap bus) = event_stating (event.Gap bus) [] ∷ []
heard_stated (Word bus sync bits) = event_stating (event.Word bus (valid_word (kind_of_sync sync) bits)) [] ∷ []
heard_stated (Noise bus) = event_stating (event.Noise bus) [] ∷ []
heard_stated (Reply sent) = event_stating event.Slot (sent_text (shown_word sent)) ∷ []
heard_stated (Late sent late) = []
heard_stated Slot = event_stating event.Slot [] ∷ []
heard_stated MaybeSilent = event_maybe event.Slot ∷ []
heard_stated (MaybeGap bus) = event_maybe (event.Gap bus) ∷ []
heard_stated Pause = event_stating event.Slot [] ∷ []

-- ---- the law

-- words have 16 bits
abbrev pub HasWords : HeardItem → Type 0
HasWords (Word bus sync bits) = bits < 2 ^ 16
HasWords (Reply sent) = sent.bits < 2 ^ 16
HasWords (Late sent late) = (sent.bits < 2 ^ 16) × (late < 2 ^ 64)
HasWords _ = Unit {0}

-- a time is the text of one, and words have 16 bits
pub record IsNotable (n : HeardAt) : Type 0 where
  pub time : is_time_text n.time ≡ true
  pub words : HasWords n.heard

abbrev pub AreNotable : List HeardAt → Type 0
AreNotable [] = Unit {0}
AreNotable (n ∷ ns) = IsNotable n × AreNotable ns

-- A recording is a script that states answers, of at most so many lines. Its events, with what is stated of them, are just those that were heard,
-- in order.
pub record IsReadBack (most : ℕ) (ns : List HeardAt) : Type 0 where
  pub stated : List StatedEvent
  pub reads : stated_within true most (recording_text ns) ≡ Ok stated
  pub events : map without_line stated ≡ flat_map heard_stated (map (λ n. n.heard) ns)

-- so is each recording, where a script may have that many lines: each thing that was heard has at most three
abbrev pub ReadBackLaw : Type 0
ReadBackLaw = (most : ℕ) (ns : List HeardAt) → AreNotable ns → 3 * length ns < most → IsReadBack most ns

-- one that ends early is refused for that, at some line, where a script may have that many lines and a line of it is not too long for the last one
abbrev pub EarlyEndLaw : Type 0
EarlyEndLaw = (most : ℕ) (ns : List HeardAt) (refused : RefusedRow) → refused.row < 2 ^ 64 → refused.rows < 2 ^ 64 → AreNotable ns → 3 * length ns < most
    → length (refused_line refused.row refused.rows) ≤ 65 → (n : ℕ) × (stated_within true most (early_text ns refused) ≡ Err (EndsEarly n))
