-- What is told of a part of a recording, and of parts one after the other.
use Rattle.std.specs.Prelude.{ℕ, zero, suc, ◌≡◌, ◌+◌, Option, Some, None, Ok, List, [], ◌++◌, drop, length}
use Rattle.bus_legal.specs.Description.{Description}
use Rattle.terminal_recordings.specs.MaybeGaps.{MaybeSighting}
use Rattle.recorded_terminal.specs.declared.later.FreshPart.{FreshPart}
use Rattle.recorded_terminal.specs.declared.watch.Marked.{Marked}
use Rattle.recorded_terminal.specs.Marks.{maybe_in, HasManyWays}
use Rattle.rt1553_verify.specs.declared.stated.ScriptWarning.{ScriptWarning}
use Rattle.rt1553_verify.specs.declared.stated.ScriptWarning.TheVariants.{NoEvent, NoAnswer}
use Rattle.rt1553_verify.specs.Stated.{StatedEvent}
use Rattle.script_recordings.specs.declared.explaining.PartTold.{PartTold}
use Rattle.script_recordings.specs.declared.explaining.Stretches.{Stretches}
use Rattle.script_recordings.specs.Parts.{split_parts}
use Rattle.script_recordings.specs.Seen.{StateWords, recorded_warning}
use Rattle.script_recordings.specs.Explained.{first_some, told_first, IsJudgedAtFirst, IsJudgedBehind, AreJudgedLater}
use Rattle.script_recordings.specs.inner.Reads.{Left}
use Rattle.script_recordings.specs.inner.Tallies.{words_stated}

-- why what is judged of two parts shows nothing, by the same of each
abbrev pub joined_warning : Option ScriptWarning → Option ScriptWarning → Option ScriptWarning
joined_warning None other = None
joined_warning (Some NoEvent) other = other
joined_warning (Some NoAnswer) None = None
joined_warning (Some NoAnswer) (Some other) = Some NoAnswer

-- what is judged of a part
abbrev pub judged_of : Option FreshPart → List Marked → List MaybeSighting
judged_of None ms = []
judged_of (Some it) ms = maybe_in (drop it.before ms)

-- nothing is judged: just this is told
abbrev pub TellsJust : ℕ → ℕ → PartTold → Type 0
TellsJust answers stretches t = (t.after ≡ None) × (t.first ≡ None) × (t.warning ≡ recorded_warning []) × (t.answers ≡ answers) × (t.stretches ≡ stretches)

-- what is told of parts and then of others
abbrev pub TellsThen : PartTold → PartTold → PartTold → Type 0
TellsThen t others all =
    (all.after ≡ first_some t.after others.after) × (all.first ≡ first_some t.first others.first) × (all.warning ≡ joined_warning t.warning others.warning)
    × (all.answers ≡ t.answers + others.answers) × (all.stretches ≡ t.stretches + others.stretches)

-- sightings are so many stretches, in each of which gaps that may have come leave room for more ways than are followed
abbrev pub AreStretches : ℕ → List Marked → Type 0
AreStretches zero ms = ms ≡ []
AreStretches (suc n) ms = (front : List Marked) × (later : List Marked) × (ms ≡ front ++ later) × HasManyWays (maybe_in front) × AreStretches n later

-- so many there are, and so many words they state
abbrev pub CountsStretches : List Marked → Stretches → Type 0
CountsStretches ms s = AreStretches s.count ms × (s.answers ≡ length (words_stated ms))

-- this is told of a part, from power-up
abbrev pub IsToldFirst : Description → Description → List StatedEvent → PartTold → Type 0
IsToldFirst P D events t =
    (judged : List MaybeSighting) × IsJudgedAtFirst P D t.stretches events (told_first t.first) judged × (t.warning ≡ recorded_warning judged) × StateWords events t.answers

-- of one that began at any time
abbrev pub IsToldLater : Description → List StatedEvent → PartTold → Type 0
IsToldLater D events t = (judged : List MaybeSighting) × IsJudgedBehind D t.stretches events t.after (told_first t.first) judged × (t.warning ≡ recorded_warning judged) × StateWords events t.answers

-- of parts one after the other
abbrev pub ArePartsTold : Description → List (List StatedEvent) → PartTold → Type 0
ArePartsTold D parts t = (judged : List MaybeSighting) × AreJudgedLater D parts t.after (told_first t.first) t.stretches judged × (t.warning ≡ recorded_warning judged)

-- of so many parts behind one that ended: none, if it ended with the script
abbrev pub AreOthersTold : Description → Left → Option ℕ → PartTold → ℕ → Type 0
AreOthersTold D left None t n = ArePartsTold D [] t × (n ≡ 0) × (t.answers ≡ 0)
AreOthersTold D None (Some line) t n = Unit {0}
AreOthersTold D (Some said) (Some line) t n =
    (events : List StatedEvent) × (said ≡ Ok events) × ArePartsTold D (split_parts events) t × (length (split_parts events) ≡ n) × StateWords events t.answers
