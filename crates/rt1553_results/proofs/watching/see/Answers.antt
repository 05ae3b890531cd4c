use Rattle.std.proofs.Common.{◌≡◌, ◌∙◌, ◌+◌, ◌*◌, Some, refl, false, true, sym, ap}
use Rattle.terminal_recordings.specs.Recordings.{is_seen}
use Rattle.terminal_recordings.proofs.Tests.{is_sighting}
use Rattle.recorded_terminal.specs.SentWords.{word_shown}
use Rattle.recorded_terminal.specs.Sightings.{shown_sighting}
use Rattle.rt1553_results.proofs.RecordedLaws.{sees_one}
use Rattle.rt1553_results.proofs.watching.see.Goals as goal

pub returns-in_ok-see-in-Some : goal.returns-in_ok-see-in-Some
returns-in_ok-see-in-Some c =
    let s = c.in-Some.sighting in
    let at = c.args.at in
    let is = c.in-Some.ensures.seen in
    let seen : is_seen c.args.event ≡ true = sym (ap is_seen is.0) ∙ (is_sighting (shown_sighting s) s.seen s.bits).seen in
    sees_one (record { sighting = s; line = c.from.result * 4294967296 + c.from-2.result; command = Some at.command; any_word = false; is_maybe = false }) at c.args.event (word_shown c.args.sent) c.args.watch.now c.see.new.self is.0 (ap word_shown is.1) seen (λ j. c.from.ensures j * 4294967296 + c.from-2.ensures j) refl (refl, refl) c.in_ok-see-in-Some.ensures.sees
