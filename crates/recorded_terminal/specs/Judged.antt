-- A recording that began at any time: the part of it that is judged, and the first sighting there that no behaviour of the subsystem
-- explains, whatever came before.
use Rattle.std.specs.Prelude.{ℕ, suc, length, ◌≤◌, ◌↔◌, true, false, Option, Some, None, IfSome, ◌≡◌, Bool, if◌then◌else◌, List, [], ◌∷◌, ◌++◌}
use Rattle.bus_word.specs.declared.cell.Cell.{Cell}
use Rattle.bus_word.specs.declared.cell.Cell.TheVariants.{OwnMode}
use Rattle.bus_word.specs.Mode as mode
use Rattle.bus_legal.specs.Description.{Description, described}
use Rattle.terminal_rules.specs.Status.{spares}
use Rattle.terminal_recordings.specs.Recordings.{Sighting, IsExplainedAfter}
use Rattle.terminal_recordings.specs.Later.{IsExplainedLater, Gaps, no_gaps, first_command, asks_back, ShutDown, shut_history}
use Rattle.terminal_recordings.specs.MaybeGaps.{MaybeSighting, ExplainsReading, IsExplainedSomehow, certainly, fresh_part}
use Rattle.recorded_terminal.specs.declared.watch.Marked.{Marked}
use Rattle.recorded_terminal.specs.declared.watch.Unexplained.{Unexplained}
use Rattle.recorded_terminal.specs.declared.watch.Watch.{Watch}
use Rattle.recorded_terminal.specs.declared.beginnings.Beginnings.{Beginnings}
use Rattle.recorded_terminal.specs.declared.later.WatchPhase.{WatchPhase}
use Rattle.recorded_terminal.specs.declared.later.WatchPhase.TheVariants.{Sought, Begun, Afresh}
use Rattle.recorded_terminal.specs.declared.later.FreshPart.{FreshPart}
use Rattle.recorded_terminal.specs.declared.later.LaterWatch.{LaterWatch}
use Rattle.recorded_terminal.specs.declared.later.Gaps.{Gaps as Counted}
use Rattle.recorded_terminal.specs.Follows.{shut_down}
use Rattle.recorded_terminal.specs.declared.beginnings.BestBeginning.{BestBeginning}
use Rattle.recorded_terminal.specs.Marks.{maybe_in}
use Rattle.recorded_terminal.specs.Watched.{IsUnexplainedBy, Watches}

-- it is explained after one of the four beginnings
abbrev pub IsExplainedBegun : Description → List Sighting → Type 0
IsExplainedBegun P recording = (shut : ShutDown) × IsExplainedAfter P (shut_history P shut) recording

-- so it is after the four beginnings
abbrev pub IsUnexplainedBegunAt : Description → List Marked → Unexplained → Type 0
IsUnexplainedBegunAt P ms it = IsUnexplainedBy (IsExplainedBegun P) ms it

-- the watch of a beginning
abbrev pub watch_at : {L : Type 0} → Beginnings L → ShutDown → Watch L
watch_at bs shut =
    if shut.a then (if shut.b then bs.both else bs.a)
    else (if shut.b then bs.b else bs.none)

-- each of the four has seen these sightings
abbrev pub WatchBegun : {L : Type 0} → (L → Cell → Bool) → Description → List Marked → Beginnings L → Type 0
WatchBegun is_legal P ms bs = (shut : ShutDown) → Watches is_legal P (shut_history P shut) ms (watch_at bs shut)

-- Nothing is told exactly if what was seen is explained after a beginning, as it is then after the one that is told; else the first sighting
-- that none explains.
pub record IsBest (P : Description) (ms : List Marked) (best : BestBeginning) : Type 0 where
  pub explained : (best.first ≡ None) ↔ ExplainsReading (IsExplainedBegun P) (maybe_in ms)
  pub first : IfSome best.first (IsUnexplainedBegunAt P ms)
  pub begins : best.first ≡ None → IsExplainedSomehow P (shut_history P (shut_down best.shut)) (maybe_in ms)

-- the set-up of a terminal whose transmitters can be shut down, as in every accepted profile
pub record CanBegin (P : Description) : Type 0 where
  pub address : P.address ≤ 30
  pub shutdown : P.legal (OwnMode mode.shutdown) ≡ true

-- what comes after a pause is judged, or it asks back: then the next pause is sought
abbrev pub unless_asks : Description → List MaybeSighting → Bool → Option (List MaybeSighting)
unless_asks P part asks = if asks then fresh_part P no_gaps part else Some part

-- the gaps that were counted
abbrev pub shown_gaps : Counted → Gaps
shown_gaps k = record { a = k.a; b = k.b }

-- Where a watch is in what was seen: before a pause; after one, before a command; or in the part that is judged.
abbrev pub IsPartOf : Description → List MaybeSighting → List MaybeSighting → WatchPhase → Type 0
IsPartOf P seen part (Sought k) = (more : List MaybeSighting) → fresh_part P no_gaps (seen ++ more) ≡ fresh_part P (shown_gaps k) more
IsPartOf P seen part Begun =
    (first_command P (certainly part) ≡ None)
    × ((more : List MaybeSighting) → fresh_part P no_gaps (seen ++ more) ≡ unless_asks P (part ++ more) (asks_back P (first_command P (certainly more))))
IsPartOf P seen part Afresh =
    ((c : ℕ) × (first_command P (certainly part) ≡ Some c) × (spares P c ≡ false))
    × ((more : List MaybeSighting) → fresh_part P no_gaps (seen ++ more) ≡ Some (part ++ more))

-- what came after a pause is watched from each beginning
pub record IsBegun {L : Type 0} (is_legal : L → Cell → Bool) (P : Description) (ms : List Marked) (w : LaterWatch L) (p : WatchPhase) : Type 0 where
  pub front : List Marked
  pub pause : Marked
  pub part : List Marked
  pub all : ms ≡ front ++ pause ∷ part
  pub line : w.after ≡ pause.line
  pub before : w.before ≡ suc (length front)
  pub watches : WatchBegun is_legal P part w.beginnings
  pub is_part : IsPartOf P (maybe_in ms) (maybe_in part) p

abbrev pub WatchesPart : {L : Type 0} → (L → Cell → Bool) → Description → List Marked → LaterWatch L → WatchPhase → Type 0
WatchesPart is_legal P ms w (Sought k) = IsPartOf P (maybe_in ms) [] (Sought k)
WatchesPart is_legal P ms w p = IsBegun is_legal P ms w p

-- a watch has seen these sightings, of a terminal of P that was on before
pub record WatchesLater {L : Type 0} (is_legal : L → Cell → Bool) (P : Description) (ms : List Marked) (w : LaterWatch L) : Type 0 where
  pub description : described w.setup (is_legal w.legality) ≡ P
  pub can : CanBegin P
  pub counted : w.seen ≡ length ms
  pub watches : WatchesPart is_legal P ms w w.part

-- The part of a recording that is judged: it comes after the slot that ends a pause. Nothing is told exactly if it is explained, whatever
-- came before, as it is then after the beginning that is told; else the first sighting in it that nothing explains.
pub record IsJudged (P : Description) (ms : List Marked) (judged : FreshPart) : Type 0 where
  pub front : List Marked
  pub pause : Marked
  pub part : List Marked
  pub all : ms ≡ front ++ pause ∷ part
  pub line : judged.after ≡ pause.line
  pub before : judged.before ≡ suc (length front)
  pub is_part : fresh_part P no_gaps (maybe_in ms) ≡ Some (maybe_in part)
  pub explained : (judged.first ≡ None) ↔ ExplainsReading (IsExplainedLater P) (maybe_in part)
  pub begins : judged.first ≡ None → IsExplainedSomehow P (shut_history P (shut_down judged.shut)) (maybe_in part)
  pub first : IfSome judged.first (IsUnexplainedBy (IsExplainedLater P) part)

-- what comes of a recording that began at any time: nothing exactly where no part of it begins afresh after a pause
abbrev pub IsJudgedBy : Description → List Marked → Option FreshPart → Type 0
IsJudgedBy P ms None = fresh_part P no_gaps (maybe_in ms) ≡ None
IsJudgedBy P ms (Some judged) = IsJudged P ms judged
