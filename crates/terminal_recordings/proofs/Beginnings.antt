-- What the events before a later recording leave: mode codes that shut down a transmitter or inhibit the terminal flag.
use Rattle.std.proofs.Common.{◌≡◌, ℕ, Bool, true, false, ◌&&◌, ◌||◌, ◌==◌, nat_le, if◌then◌else◌, Some, None, List, [], ◌∷◌, refl, ap, ◌∙◌}
use Rattle.bus_word.specs.declared.word.Bus.{Bus}
use Rattle.bus_word.specs.declared.word.Bus.TheVariants.{A, B}
use Rattle.bus_word.specs.declared.word.Raw.{Raw}
use Rattle.bus_word.specs.declared.cell.Cell.{Cell}
use Rattle.bus_word.specs.Command.{expected}
use Rattle.bus_word.specs.Cell.{cell_of}
use Rattle.bus_legal.specs.Description.{Description}
use Rattle.terminal_rules.specs.declared.event.Event.{Event}
use Rattle.terminal_rules.specs.declared.event.Event.TheVariants.{Word, Gap, Slot}
use Rattle.terminal_rules.specs.declared.event.Flag.TheVariants.{Busy}
use Rattle.terminal_rules.specs.Buses.{same_bus, other}
use Rattle.terminal_rules.specs.LookBack.{or_else}
use Rattle.terminal_rules.specs.History.{Nothing, Illegal, Blocked, Done}
use Rattle.terminal_rules.specs.Open.{Open, Idle, Collects, is_on, open_now}
use Rattle.terminal_rules.specs.Reply.{words_after_status, reply_now, reply_bus}
use Rattle.terminal_rules.specs.Starts.{is_for_terminal}
use Rattle.terminal_rules.specs.Flags.{flag_now}
use Rattle.terminal_rules.specs.Ends.{is_blocked_by_busy, verdict, ends_with, at_gap, unless_ignored, ends_now}
use Rattle.terminal_rules.specs.SinceReset.{code_in, resets_by_broadcast, does_own_reset, is_status_of_reset, is_reset, switched, inhibited_now, off_now}
use Rattle.terminal_rules.specs.Turn.{is_answered, done_cell}
use Rattle.terminal_rules.specs.Past.{note, past}
use Rattle.terminal_rules.specs.ResetLaws.{status_of_reset_is_next}
use Rattle.terminal_rules.specs.Steps.{unless_reset, sent_one, begun_if}
use Rattle.terminal_rules.proofs.OpenLaw.{after_event}
use Rattle.terminal_recordings.specs.Later.{IsQuiet}
use Rattle.terminal_recordings.proofs.Endings.{if_busy, effects}
use Rattle.terminal_recordings.proofs.Summary.{Determined, determined, run_after, determined_after, determined_law, inhibited_law, in_silence, reset_of_law, reply_law}
use Rattle.terminal_recordings.proofs.Fresh.{quiet_fresh, fresh_determined, fresh_inhibited, fresh_reply, fresh_starts}

-- a word asks for a mode code of this cell, which is legal
pub record Asks (P : Description) (w : Raw) (cell : Cell) : Type 0 where
  pub meant : is_for_terminal P w ≡ true
  pub has : cell_of w.bits ≡ Some cell
  pub expected : expected w.bits ≡ 0
  pub legal : P.legal cell ≡ true

-- a cell that busy doesn't keep from being done, that is no reset and has no word after its status
pub record IsPlain (cell : Cell) : Type 0 where
  pub unblocked : is_blocked_by_busy cell ≡ false
  pub broadcast_reset : (c : ℕ) → resets_by_broadcast (Done c cell []) ≡ false
  pub own_reset : (c : ℕ) → does_own_reset (Done c cell []) ≡ false
  pub slot : is_status_of_reset 0 (Some cell) ≡ false
  pub words : words_after_status (Some cell) ≡ 0

-- the history after such a word, its gap and a slot
abbrev after_word : Bus → Raw → List Event → List Event
after_word b w h = Word b w ∷ h

abbrev after_gap : Bus → Raw → List Event → List Event
after_gap b w h = Gap b ∷ Word b w ∷ h

abbrev pub after_code : Bus → Raw → List Event → List Event
after_code b w h = Slot ∷ Gap b ∷ Word b w ∷ h

same_self : (b : Bus) → same_bus b b ≡ true
same_self A = refl
same_self B = refl

neither : (b : Bool) → b && false ≡ false
neither true = refl
neither false = refl

module _ (P : Description) (h : List Event) (q : IsQuiet P h) (b : Bus) (w : Raw) (cell : Cell) (a : Asks P w cell) (plain : IsPlain cell) where
  -- with the word
  abbrev started_then : Determined
  started_then = determined_after P (Word b w) false true false (effects P Nothing) (determined P (past P h))

  word_determined : determined P (past P (after_word b w h)) ≡ started_then
  word_determined =
      fresh_determined P h (Word b w) (quiet_fresh P h q)
      ∙ (λ j. determined_after P (Word b w) false (fresh_starts P h b w a.meant (quiet_fresh P h q) j) false (effects P Nothing) (determined P (past P h)))

  word_reply : reply_now (past P (after_word b w h)) ≡ None
  word_reply = fresh_reply P h (Word b w) (quiet_fresh P h q)

  word_open : open_now P (past P (after_word b w h)) b ≡ Collects w.bits []
  word_open = ap (λ d. d.message b) word_determined ∙ ap (λ t. if t then Collects w.bits [] else Idle) (same_self b)

  -- with the gap
  gap_ends : ends_now P (past P (after_word b w h)) (Gap b) ≡ Done w.bits cell []
  gap_ends =
      let busy : Bool = flag_now (past P (after_word b w h)) Busy in
      (λ j. unless_ignored (is_on b (reply_bus (word_reply j))) (at_gap P busy (word_open j)))
      ∙ ((λ j. ends_with P busy w.bits (if 0 == a.expected j then Some [] else None) None)
      ∙ ((λ j. verdict P.legal busy w.bits [] (a.has j))
      ∙ ((λ j. if a.legal j then (if busy && plain.unblocked j then Blocked w.bits cell else Done w.bits cell []) else Illegal w.bits)
      ∙ (λ j. if neither busy j then Blocked w.bits cell else Done w.bits cell []))))

  gap_if_busy : if_busy (ends_now P (past P (after_word b w h)) (Gap b)) ≡ Done w.bits cell []
  gap_if_busy = ap if_busy gap_ends ∙ (λ j. if plain.unblocked j then Blocked w.bits cell else Done w.bits cell [])

  gap_reset : is_reset (note P (past P (after_word b w h)) (Gap b)) ≡ false
  gap_reset =
      let d : Determined = determined P (past P (after_word b w h)) in
      reset_of_law P (after_word b w h) (Gap b)
      ∙ ((λ j. (effects P (gap_if_busy j)).broadcast_reset || (((effects P (gap_if_busy j)).own_reset && in_silence d (Gap b)) || false))
      ∙ (λ j. plain.broadcast_reset w.bits j || ((plain.own_reset w.bits j && in_silence d (Gap b)) || false)))

  abbrev ended_then : Determined
  ended_then = determined_after P (Gap b) false false false (effects P (Done w.bits cell [])) started_then

  gap_determined : determined P (past P (after_gap b w h)) ≡ ended_then
  gap_determined =
      determined_law P (past P (after_word b w h)) (Gap b)
      ∙ (λ j. determined_after P (Gap b) (is_on b (reply_bus (word_reply j))) false (gap_reset j) (effects P (gap_if_busy j)) (word_determined j))

  abbrev answered : Bool
  answered = is_answered (off_now (past P (after_word b w h)) b) (Done w.bits cell [])

  gap_reply : reply_now (past P (after_gap b w h)) ≡ begun_if answered b (Some cell) None
  gap_reply =
      reply_law P (past P (after_word b w h)) (Gap b)
      ∙ (λ j. begun_if (is_answered (off_now (past P (after_word b w h)) b) (gap_ends j)) b (done_cell (gap_ends j)) (word_reply j))

  -- with the slot
  no_reset : (t : Bool) → status_of_reset_is_next (begun_if t b (Some cell) None) ≡ false
  no_reset true = plain.slot
  no_reset false = refl

  all_sent : (t : Bool) → sent_one (begun_if t b (Some cell) None) ≡ None
  all_sent true = λ j. if nat_le 1 (plain.words j) then Some (record { bus = b; cell = Some cell; number = 1 }) else None
  all_sent false = refl

  slot_reset : is_reset (note P (past P (after_gap b w h)) Slot) ≡ false
  slot_reset =
      reset_of_law P (after_gap b w h) Slot
      ∙ ((λ j. status_of_reset_is_next (gap_reply j)) ∙ no_reset answered)

  slot_determined : determined P (past P (after_code b w h)) ≡ determined_after P Slot false false false (effects P Nothing) ended_then
  slot_determined =
      determined_law P (past P (after_gap b w h)) Slot
      ∙ (λ j. determined_after P Slot false false (slot_reset j) (effects P Nothing) (gap_determined j))

  slot_reply : reply_now (past P (after_code b w h)) ≡ None
  slot_reply = reply_law P (past P (after_gap b w h)) Slot ∙ (ap sent_one gap_reply ∙ all_sent answered)

  run_then : (c b : Bus) → run_after c (Gap b) false (run_after c (Word b w) true ((determined P (past P h)).run c)) ≡ []
  run_then A A = refl
  run_then A B = q.run A
  run_then B A = q.run B
  run_then B B = refl

  message_then : (c b : Bus) (o : Open) → after_event P c (Gap b) false (after_event P c (Word b w) true o) ≡ Idle
  message_then A A o = refl
  message_then A B o = refl
  message_then B A o = refl
  message_then B B o = refl

  pub code_quiet : IsQuiet P (after_code b w h)
  code_quiet = record {
    message = λ c. ap (λ d. d.message c) slot_determined ∙ message_then c b ((determined P (past P h)).message c);
    run = λ c. ap (λ d. d.run c) slot_determined ∙ run_then c b;
    reply = slot_reply;
  }

  pub code_off : (c : Bus) → off_now (past P (after_code b w h)) c ≡ or_else (if same_bus (other c) b then switched 4 5 (code_in cell) else None) (off_now (past P h) c)
  code_off c = ap (λ d. d.off c) slot_determined

  pub code_inhibited : inhibited_now (past P (after_code b w h)) ≡ or_else (switched 6 7 (code_in cell)) (inhibited_now (past P h))
  code_inhibited =
      inhibited_law P (past P (after_gap b w h)) Slot
      ∙ ((λ j. unless_reset (slot_reset j) false None (inhibited_now (past P (after_gap b w h))))
      ∙ (inhibited_law P (past P (after_word b w h)) (Gap b)
      ∙ ((λ j. unless_reset (gap_reset j) false (effects P (gap_if_busy j)).inhibits (inhibited_now (past P (after_word b w h))))
      ∙ ap (or_else (switched 6 7 (code_in cell))) (fresh_inhibited P h (Word b w) (quiet_fresh P h q)))))
