-- A gap that does nothing changes no answer to any event that comes later.
use Rattle.std.proofs.Common.{◌≡◌, ℕ, Bool, true, false, ◌==◌, if◌then◌else◌, Option, Some, None, List, [], ◌∷◌, refl, sym, ◌∙◌}
use Rattle.bus_word.specs.declared.word.Bus.{Bus}
use Rattle.bus_legal.specs.Description.{Description}
use Rattle.terminal_rules.specs.declared.event.Event.{Event}
use Rattle.terminal_rules.specs.declared.event.Event.TheVariants.{Word, Noise, Gap, Write, Vector, Bit, Flag as FlagIs, Slot}
use Rattle.terminal_rules.specs.declared.event.Flag.{Flag}
use Rattle.terminal_rules.specs.declared.event.Flag.TheVariants.{Busy}
use Rattle.terminal_rules.specs.LookBack.{or_else}
use Rattle.terminal_rules.specs.History.{Noted, noted_as, Turn, NoTurn, Ending, Nothing, Replying}
use Rattle.terminal_rules.specs.Reply.{reply_now, ignores}
use Rattle.terminal_rules.specs.Flags.{flag_set, flag_now}
use Rattle.terminal_rules.specs.Ends.{at_gap, at_entry, unless_ignored, ends_now}
use Rattle.terminal_rules.specs.SinceReset.{is_reset, inhibited_now, start_bits, recorded_by, last_now, vector_word_set, vector_now, bit_word_set, bit_now, held_set, held_now}
use Rattle.terminal_rules.specs.Status.{kept_now}
use Rattle.terminal_rules.specs.Turn.{is_answered, done_cell, turn_of_gap, turn_of_slot, unless_ignored_turn}
use Rattle.terminal_rules.specs.Steps.{unless_reset, replies_on}
use Rattle.terminal_rules.specs.Past.{note, past}
use Rattle.bus_word.specs.declared.cell.Cell.{Cell}
use Rattle.bus_word.specs.declared.cell.Cell.TheVariants.{OwnReceive, OwnTransmit, BroadReceive, OwnMode, BroadMode}
use Rattle.bus_word.specs.declared.word.Kind.TheVariants.{Com, Dat}
use Rattle.bus_word.specs.Mode as mode
use Rattle.bus_word.specs.Status.{status_word}
use Rattle.terminal_rules.specs.Out.{reply_word, sends, Out, Silence, Sending, sending, hands, handing_over, sending_out, out, outs_from}
use Rattle.terminal_rules.proofs.BackLaw.{flag_step, last_step, vector_step, bit_step, held_step}
use Rattle.terminal_recordings.specs.MaybeGaps.{gap_does_nothing}
use Rattle.terminal_recordings.proofs.Endings.{if_busy, effects}
use Rattle.terminal_recordings.proofs.Summary.{Summary, summary, determined, determined_after, determined_law, inhibited_law, kept_law, kept_new, reply_law, reply_new, answered, started, starts_of, reset_of, reset_of_law}
use Rattle.terminal_recordings.proofs.GapLaw.{quiet_gap, ends_none, summary_same}

-- all that an answer may depend on
record Full : Type 0 where
  pub summary : Summary
  pub last : ℕ
  pub flags : Flag → Bool
  pub vector : ℕ
  pub bit : ℕ
  pub held : ℕ → ℕ → ℕ

abbrev full : Description → List Noted → Full
full P h = record { summary = summary P h; last = last_now h; flags = flag_now h; vector = vector_now P h; bit = bit_now P h; held = held_now P h }

-- what an event does, by that
abbrev ends_full : Description → Full → Event → Ending
ends_full P f (Gap b) = unless_ignored (ignores f.summary.reply (Gap b)) (at_gap P (f.flags Busy) (f.summary.determined.message b))
ends_full P f (Word b w) = unless_ignored (ignores f.summary.reply (Word b w)) (at_entry (Some w) (f.summary.determined.message b))
ends_full P f (Noise b) = unless_ignored (ignores f.summary.reply (Noise b)) (at_entry None (f.summary.determined.message b))
ends_full P f e = Nothing

abbrev turn_full : Description → Full → Event → Turn
turn_full P f (Gap b) = unless_ignored_turn (ignores f.summary.reply (Gap b)) (turn_of_gap b (is_answered (f.summary.determined.off b) (ends_full P f (Gap b))) (done_cell (ends_full P f (Gap b))))
turn_full P f Slot = turn_of_slot f.summary.reply
turn_full P f e = unless_ignored_turn (ignores f.summary.reply e) NoTurn

abbrev note_full : Description → Full → Event → Noted
note_full P f e = noted_as e (turn_full P f e) (starts_of P (ignores f.summary.reply e) e f.summary.determined) (ends_full P f e)

note_law : (P : Description) (h : List Noted) (e : Event) → note P h e ≡ note_full P (full P h) e
note_law P h (Word b w) = refl
note_law P h (Noise b) = refl
note_law P h (Gap b) = refl
note_law P h Slot = refl
note_law P h (Write q v) = refl
note_law P h (Vector v) = refl
note_law P h (Bit v) = refl
note_law P h (FlagIs f v) = refl

-- the answer, by that
abbrev code_full : Description → Full → ℕ → ℕ
code_full P f code =
    if code == mode.vector_word then f.vector
    else if code == mode.last_command then f.last
    else if code == mode.bit_word then f.bit
    else 0

abbrev word_full : Description → Full → Option Cell → ℕ → ℕ
word_full P f (Some (OwnTransmit s n)) m = f.held s m
word_full P f (Some (OwnMode code)) m = code_full P f code
word_full P f _ m = 0

abbrev sends_full : Description → Full → Option Replying → Option Sending
sends_full P f None = None
sends_full P f (Some r) = Some (if r.number == 0 then sending r.bus Com (status_word P.address f.summary.kept) else sending r.bus Dat (word_full P f r.cell r.number))

abbrev out_full : Description → Full → Event → Out
out_full P f (Gap b) = handing_over (hands P (ends_full P f (Gap b)))
out_full P f Slot = sending_out (sends_full P f f.summary.reply)
out_full P f _ = Silence

out_law : (P : Description) (h : List Event) (e : Event) → out P h e ≡ out_full P (full P (past P h)) e
out_law P h (Word b w) = refl
out_law P h (Noise b) = refl
out_law P h (Gap b) = refl
out_law P h Slot = slot_law (reply_now (past P h))
  where
    word_law : (cell : Option Cell) (m : ℕ) → reply_word P (past P h) cell m ≡ word_full P (full P (past P h)) cell m
    word_law None m = refl
    word_law (Some (OwnReceive s n)) m = refl
    word_law (Some (OwnTransmit s n)) m = refl
    word_law (Some (BroadReceive s n)) m = refl
    word_law (Some (OwnMode code)) m = refl
    word_law (Some (BroadMode code)) m = refl

    slot_law : (r : Option Replying) → sending_out (sends P (past P h) r) ≡ sending_out (sends_full P (full P (past P h)) r)
    slot_law None = refl
    slot_law (Some r) = λ j. sending_out (Some (if r.number == 0 then sending r.bus Com (status_word P.address (kept_now P (past P h))) else sending r.bus Dat (word_law r.cell r.number j)))
out_law P h (Write q v) = refl
out_law P h (Vector v) = refl
out_law P h (Bit v) = refl
out_law P h (FlagIs f v) = refl

-- the same event keeps two histories alike
full_step : (P : Description) (h k : List Noted) (e : Event) → full P h ≡ full P k → full P (note P h e ∷ h) ≡ full P (note P k e ∷ k)
full_step P h k e q =
    let n : note P h e ≡ note P k e = note_law P h e ∙ ((λ j. note_full P (q j) e) ∙ sym (note_law P k e)) in
    let d : determined P (note P h e ∷ h) ≡ determined P (note P k e ∷ k) =
    determined_law P h e
    ∙ ((λ j. determined_after P e (ignores (q j).summary.reply e) (n j).starts (is_reset (n j)) (effects P (if_busy (n j).ends)) (q j).summary.determined)
    ∙ sym (determined_law P k e)) in
    let i : inhibited_now (note P h e ∷ h) ≡ inhibited_now (note P k e ∷ k) =
    inhibited_law P h e ∙ ((λ j. unless_reset (is_reset (n j)) false (effects P (if_busy (n j).ends)).inhibits (q j).summary.inhibited) ∙ sym (inhibited_law P k e)) in
    let c : kept_now P (note P h e ∷ h) ≡ kept_now P (note P k e ∷ k) =
    kept_law P h e
    ∙ ((λ j. kept_new P (q j).flags (started e (n j).starts) (is_reset (n j)) (q j).summary.inhibited (if_busy (n j).ends) (q j).summary.kept) ∙ sym (kept_law P k e)) in
    let r : reply_now (note P h e ∷ h) ≡ reply_now (note P k e ∷ k) =
    reply_law P h e
    ∙ ((λ j. reply_new e (n j).starts (answered (q j).summary.determined e (n j).ends) (done_cell (n j).ends) (q j).summary.reply) ∙ sym (reply_law P k e)) in
    let l : last_now (note P h e ∷ h) ≡ last_now (note P k e ∷ k) =
    last_step (note P h e) h ∙ ((λ j. unless_reset (is_reset (n j)) 0 (recorded_by (start_bits (n j))) (q j).last) ∙ sym (last_step (note P k e) k)) in
    let v : vector_now P (note P h e ∷ h) ≡ vector_now P (note P k e ∷ k) =
    vector_step P (note P h e) h ∙ ((λ j. unless_reset (is_reset (n j)) P.vector (vector_word_set (n j).event) (q j).vector) ∙ sym (vector_step P (note P k e) k)) in
    let w : bit_now P (note P h e ∷ h) ≡ bit_now P (note P k e ∷ k) =
    bit_step P (note P h e) h ∙ ((λ j. unless_reset (is_reset (n j)) P.bit (bit_word_set (n j).event) (q j).bit) ∙ sym (bit_step P (note P k e) k)) in
    let f : (x : Flag) → flag_now (note P h e ∷ h) x ≡ flag_now (note P k e ∷ k) x =
    λ x. flag_step x (note P h e) h ∙ ((λ j. or_else (flag_set x (n j).event) ((q j).flags x)) ∙ sym (flag_step x (note P k e) k)) in
    let o : (s m : ℕ) → held_now P (note P h e ∷ h) s m ≡ held_now P (note P k e ∷ k) s m =
    λ s m. held_step P s m (note P h e) h ∙ ((λ j. unless_reset (is_reset (n j)) (P.initial s m) (held_set P s m (n j)) ((q j).held s m)) ∙ sym (held_step P s m (note P k e) k)) in
    λ j. record {
      summary = record { determined = d j; inhibited = i j; kept = c j; reply = r j };
      last = l j;
      flags = λ x. f x j;
      vector = v j;
      bit = w j;
      held = λ s m. o s m j;
    }

outs_alike : (P : Description) (es h k : List Event) → full P (past P h) ≡ full P (past P k) → outs_from P h es ≡ outs_from P k es
outs_alike P [] h k q = refl
outs_alike P (e ∷ es) h k q =
    let first : out P h e ≡ out P k e = out_law P h e ∙ ((λ j. out_full P (q j) e) ∙ sym (out_law P k e)) in
    let rest : outs_from P (e ∷ h) es ≡ outs_from P (e ∷ k) es = outs_alike P es (e ∷ h) (e ∷ k) (full_step P (past P h) (past P k) e q) in
    λ j. first j ∷ rest j

-- and a gap that does nothing is no reset
full_same : (P : Description) (h : List Event) (b : Bus) → gap_does_nothing P h b ≡ true → full P (past P (Gap b ∷ h)) ≡ full P (past P h)
full_same P h b e =
    let n : List Noted = past P h in
    let ends : ends_now P n (Gap b) ≡ Nothing = ends_none P (flag_now n Busy) (replies_on n b) (determined P n) b (quiet_gap P h b e) in
    let reset : is_reset (note P n (Gap b)) ≡ false = reset_of_law P h (Gap b) ∙ (λ j. reset_of (Gap b) (effects P (if_busy (ends j))) (determined P n) (reply_now n)) in
    let l : last_now (past P (Gap b ∷ h)) ≡ last_now n = last_step (note P n (Gap b)) n ∙ (λ j. unless_reset (reset j) 0 None (last_now n)) in
    let v : vector_now P (past P (Gap b ∷ h)) ≡ vector_now P n = vector_step P (note P n (Gap b)) n ∙ (λ j. unless_reset (reset j) P.vector None (vector_now P n)) in
    let w : bit_now P (past P (Gap b ∷ h)) ≡ bit_now P n = bit_step P (note P n (Gap b)) n ∙ (λ j. unless_reset (reset j) P.bit None (bit_now P n)) in
    let o : (s m : ℕ) → held_now P (past P (Gap b ∷ h)) s m ≡ held_now P n s m =
    λ s m. held_step P s m (note P n (Gap b)) n ∙ (λ j. unless_reset (reset j) (P.initial s m) (held_set P s m (noted_as (Gap b) NoTurn false (ends j))) (held_now P n s m)) in
    let same : summary P (past P (Gap b ∷ h)) ≡ summary P n = summary_same P h b e in
    λ j. record { summary = same j; last = l j; flags = flag_now n; vector = v j; bit = w j; held = λ s m. o s m j }

pub gap_shows_nothing : (P : Description) (h : List Event) (b : Bus) (es : List Event) → gap_does_nothing P h b ≡ true → outs_from P (Gap b ∷ h) es ≡ outs_from P h es
gap_shows_nothing P h b es e = outs_alike P es (Gap b ∷ h) h (full_same P h b e)
