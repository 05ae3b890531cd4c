use Rattle.std.proofs.Common.{◌≡◌, List, subst}
use Rattle.bus_legal.specs.Description.{Description}
use Rattle.bus_legal.specs.Parts.{description_in}
use Rattle.bus_legal.specs.Reach.{reach}
use Rattle.recorded_terminal.specs.declared.watch.Marked.{Marked}
use Rattle.script_recordings.specs.inner.Plays.{PlaysSeen}
use Rattle.script_recordings.proofs.ExplainedLaws.{played_by}
use Rattle.script_recordings.proofs.telling.recorded_events.Goals as goal

pub returns-clause-plays : goal.returns-clause-plays
returns-clause-plays g c =
    let events = c.in_ok-events_of.field-0.items in
    played_by (g.B.Read.remaining c.args.input) c.in_ok-recording.recording.items events c.in_ok-recording.ensures.read
    (subst (λ (l : List Marked). (P : Description) → description_in c.args.normal.now ≡ reach P → PlaysSeen P l events) c.as_slice.ensures.value c.in_ok-events_of.ensures.plays)
