-- What is written of a row.
use Rattle.std.proofs.Common.{ℕ, ◌≡◌, List, [], ◌∷◌, Option, subst}
use Rattle.monitor_cells.specs.declared.heard.HeardItem.{HeardItem}
use Rattle.monitor_cells.specs.declared.listening.Listening.{Listening}
use Rattle.monitor_cells.specs.declared.seen.WordRow.{WordRow}
use Rattle.monitor_cells.specs.declared.silence.Silence.{Silence}
use Rattle.monitor_cells.specs.Listening.{silence_before, row_heard}
use Rattle.monitor_tables.specs.declared.message_times.MessageTimes.{MessageTimes}
use Rattle.monitor_tables.specs.declared.messages.MessageRow.{MessageRow}
use Rattle.monitor_tables.specs.Messages.{message_heard, silence_between, late_gap}
use Rattle.monitor_tables.specs.Recording.{HeardAt}
use Rattle.monitor_tables.specs.Rows.{one_noted, silence_noted, row_noted, timed, message_noted}
use Rattle.monitor_tables.specs.inner.Puts.{PutsNoted}
use Rattle.monitor_tables.proofs.PutLaws.{puts-joined}

module _ {W : Type 0} {written : W → Option (List ℕ)} where
  -- what is heard of a silence, one item after the other
  pub silence-puts : {w w0 w1 w2 w3 w4 w5 w6 w7 w8 : W} (s : Silence)
      → PutsNoted written w w0 (one_noted s.maybe_silent) → PutsNoted written w0 w1 (one_noted s.other_gap) → PutsNoted written w1 w2 (one_noted s.own_gap) → PutsNoted written w2 w3 (one_noted s.slot)
      → PutsNoted written w3 w4 (one_noted s.other_second) → PutsNoted written w4 w5 (one_noted s.own_second) → PutsNoted written w5 w6 (one_noted s.pause)
      → PutsNoted written w6 w7 (one_noted s.other_maybe) → PutsNoted written w7 w8 (one_noted s.own_maybe) → PutsNoted written w w8 (silence_noted s)
  silence-puts s p0 p1 p2 p3 p4 p5 p6 p7 p8 = puts-joined p0 (puts-joined p1 (puts-joined p2 (puts-joined p3 (puts-joined p4 (puts-joined p5 (puts-joined p6 (puts-joined p7 p8)))))))

  -- the silence before a word, and the word
  pub row-puts : {w w1 w2 : W} (l : Listening) (row : WordRow) (next : Option ℕ) (s : Silence) (x : HeardItem) (text : List ℕ) → s ≡ silence_before l row next → x ≡ row_heard l row → text ≡ row.time.text.bytes
      → PutsNoted written w w1 (silence_noted s) → PutsNoted written w1 w2 (record { time = text; heard = x } ∷ []) → PutsNoted written w w2 (row_noted l row next)
  row-puts {w = w} {w1 = w1} {w2 = w2} l row next s x text silence heard same p1 p2 =
      let word : List HeardAt = record { time = row.time.text.bytes; heard = row_heard l row } ∷ [] in
      let is : (record { time = text; heard = x } ∷ []) ≡ word = λ j. record { time = same j; heard = heard j } ∷ [] in
      puts-joined (subst (λ s. PutsNoted written w w1 (silence_noted s)) silence p1) (subst (PutsNoted written w1 w2) is p2)

  -- the silence before a message, and the message
  pub message-puts : {w w1 w2 : W} (t : MessageTimes) (row : MessageRow) (s : Silence) (late : Option HeardItem) (text : List ℕ) (heard : List HeardItem)
      → s ≡ silence_between t row → late ≡ late_gap t row → text ≡ row.time.text.bytes → heard ≡ message_heard t.setup.address row
      → PutsNoted written w w1 (silence_noted s) → PutsNoted written w1 w2 (timed text late heard) → PutsNoted written w w2 (message_noted t row)
  message-puts {w = w} {w1 = w1} {w2 = w2} t row s late text heard silence behind same says p1 p2 =
      puts-joined (subst (λ s. PutsNoted written w w1 (silence_noted s)) silence p1) (subst (PutsNoted written w1 w2) (λ j. timed (same j) (behind j) (says j)) p2)
