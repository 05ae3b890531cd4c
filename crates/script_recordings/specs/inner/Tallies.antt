-- How many words a recording states, and where the last of them is.
use Rattle.std.specs.Prelude.{ℕ, ◌≡◌, ◌≤◌, ◌<◌, List, [], drop, filter, length}
use Rattle.terminal_recordings.specs.MaybeGaps.{MaybeSighting}
use Rattle.recorded_terminal.specs.declared.watch.Marked.{Marked}
use Rattle.recorded_terminal.specs.Marks.{maybe_in}
use Rattle.script_recordings.specs.declared.tally.Tally.{Tally}
use Rattle.script_recordings.specs.Seen.{shows_word}

-- the sightings in which a word was sent
abbrev pub words_stated : List Marked → List MaybeSighting
words_stated ms = filter shows_word (maybe_in ms)

-- so many sightings, and words: none comes behind so many sightings as end with the last, and one comes behind fewer
pub record IsTally (ms : List Marked) (t : Tally) : Type 0 where
  pub seen : t.seen ≡ length ms
  pub answers : t.answers ≡ length (words_stated ms)
  pub within : t.last ≤ length ms
  pub none : words_stated (drop t.last ms) ≡ []
  pub some : (k : ℕ) → k < t.last → words_stated (drop k ms) ≡ [] → ⊥
