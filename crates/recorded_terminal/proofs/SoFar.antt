-- Sightings, one after the other.
use Rattle.std.proofs.Common.{◌≡◌, ℕ, suc, ◌<◌, Option, List, ◌∷◌, ◌++◌, length, drop, get_or, ap, sym, ◌∙◌}
use Rattle.std.proofs.Math.Seq.{drop-cons}
use Rattle.bus_legal.specs.Description.{Description}
use Rattle.bus_terminal.specs.declared.answer.Sent.{Sent}
use Rattle.terminal_rules.specs.declared.event.Event.{Event}
use Rattle.terminal_rules.specs.Past.{history_after}
use Rattle.terminal_rules.specs.Out.{out, sent_in}
use Rattle.terminal_recordings.specs.Recordings.{Sighting}
use Rattle.terminal_recordings.specs.Completion.{next_status, shown_from}
use Rattle.terminal_recordings.proofs.Tests.{is_sighting}
use Rattle.terminal_recordings.proofs.Told.{shown_step}
use Rattle.recorded_terminal.specs.declared.sighting.Sighting.{Sighting as Seen}
use Rattle.recorded_terminal.specs.SentWords.{word_shown}
use Rattle.recorded_terminal.specs.Sightings.{shown_sighting, recorded}
use Rattle.recorded_terminal.specs.Follows.{told_by}

-- one sighting more is shown, whatever is sent in it
pub shown_more : (P : Description) (xs : List Seen) (n : ℕ) (x : Seen) (next : Option ℕ) (k : List Event) (sent : Option Sent) (all front : List Sighting) →
    drop n xs ≡ x ∷ drop (suc n) xs → next ≡ next_status (recorded (drop n xs)) →
    all ≡ front ++ shown_from P k (recorded (drop n xs)) →
    (let l : List Event = history_after (told_by P k next (word_shown x.sent)) k in
    word_shown sent ≡ sent_in (out P l x.event) →
    all ≡ front ++ (record { event = x.event; sent = word_shown sent } ∷ shown_from P (x.event ∷ l) (recorded (drop (suc n) xs))))
shown_more P xs n x next k sent all front cut status shown sends =
    let later : List Sighting = recorded (drop (suc n) xs) in
    let now : next ≡ next_status (shown_sighting x ∷ later) = status ∙ ap (λ l. next_status (recorded l)) cut in
    shown
    ∙ (ap (λ l. front ++ shown_from P k (recorded l)) cut
    ∙ (ap (λ l. front ++ l) (shown_step P k (shown_sighting x) later (is_sighting (shown_sighting x) x.seen x.bits).seen)
    ∙ ((λ j. front ++ (record { event = x.event; sent = sent_in (out P (history_after (told_by P k (sym now j) (word_shown x.sent)) k) x.event) }
    ∷ shown_from P (x.event ∷ history_after (told_by P k (sym now j) (word_shown x.sent)) k) later))
    ∙ (λ j. front ++ (record { event = x.event; sent = sym sends j }
    ∷ shown_from P (x.event ∷ history_after (told_by P k next (word_shown x.sent)) k) later)))))

-- the next sighting, by its place
pub cut_of : (xs : List Seen) (n : ℕ) (x : Seen) → n < length xs → x ≡ get_or xs n x → drop n xs ≡ x ∷ drop (suc n) xs
cut_of xs n x m e = drop-cons xs n x m ∙ ap (λ y. y ∷ drop (suc n) xs) (sym e)
