-- Messages in rows: those of one subaddress, direction and addressee, or of one mode code.
use Rattle.std.specs.Prelude.{ℕ, Bool, true, false, not, ◌&&◌, ◌==◌, if◌then◌else◌, sum_by, List, [], ◌∷◌}
use Rattle.bus_word.specs.declared.cell.Cell.{Cell}
use Rattle.bus_word.specs.declared.cell.Cell.TheVariants.{OwnReceive, OwnTransmit, BroadReceive, OwnMode, BroadMode}
use Rattle.recording_coverage.specs.declared.outcome.OutcomeCounts.{OutcomeCounts}
use Rattle.recording_coverage.specs.declared.rows.CoveredMessage.{CoveredMessage}
use Rattle.recording_coverage.specs.Endings.{saturated}
use Rattle.recording_coverage.specs.Rows.{are_none}

-- they differ in the word count alone
abbrev pub is_same_place : Cell → Cell → Bool
is_same_place (OwnReceive s n) (OwnReceive t m) = s == t
is_same_place (OwnTransmit s n) (OwnTransmit t m) = s == t
is_same_place (BroadReceive s n) (BroadReceive t m) = s == t
is_same_place (OwnMode c) (OwnMode d) = c == d
is_same_place (BroadMode c) (BroadMode d) = c == d
is_same_place _ _ = false

-- a message before rows: in the first of them, if the place is the same, or in one of its own
abbrev pub before_rows : CoveredMessage → List (List CoveredMessage) → List (List CoveredMessage)
before_rows m ((x ∷ row) ∷ rows) = if is_same_place m.cell x.cell then (m ∷ x ∷ row) ∷ rows else (m ∷ []) ∷ (x ∷ row) ∷ rows
before_rows m rows = (m ∷ []) ∷ rows

-- messages in rows, each of which has those of one place that stand together
abbrev pub rows_in : List CoveredMessage → List (List CoveredMessage)
rows_in [] = []
rows_in (m ∷ ms) = before_rows m (rows_in ms)

-- how often all of them came to each outcome
abbrev pub total_of : List CoveredMessage → OutcomeCounts
total_of ms = record {
  in_error = saturated (sum_by (λ m. m.counts.in_error) ms);
  illegal = saturated (sum_by (λ m. m.counts.illegal) ms);
  blocked = saturated (sum_by (λ m. m.counts.blocked) ms);
  done = saturated (sum_by (λ m. m.counts.done) ms);
  superseded = saturated (sum_by (λ m. m.counts.superseded) ms);
  left_open = saturated (sum_by (λ m. m.counts.left_open) ms);
}

-- the message came, whatever the outcome
abbrev pub has_come : CoveredMessage → Bool
has_come m = not (are_none m.counts)

-- the message was done at least once
abbrev pub was_done : CoveredMessage → Bool
was_done m = not (m.counts.done == 0)

-- the word count of a message, 0 for a mode code
abbrev pub word_count_in : Cell → ℕ
word_count_in (OwnReceive s n) = n
word_count_in (OwnTransmit s n) = n
word_count_in (BroadReceive s n) = n
word_count_in _ = 0

abbrev pub same_as : Bool → Bool → Bool
same_as true b = b
same_as false b = not b

-- a message with this word count, that came or did not
abbrev pub is_counted_in : Bool → ℕ → CoveredMessage → Bool
is_counted_in come n m = (word_count_in m.cell == n) && same_as come (has_come m)
