-- A terminal that stands at a history stands, after an event, at the history followed by that event.
use Rattle.std.proofs.lemmas.Bool.Decides.{nat_tests}
use Rattle.std.proofs.Common.{◌≡◌, ◌≤◌, arith, ℕ, Bool, true, false, not, ◌&&◌, ◌||◌, if◌then◌else◌, Option, Some, None, List, [], ◌∷◌, refl, ap, sym, ◌∙◌}
use Rattle.bus_word.specs.declared.word.Bus.{Bus}
use Rattle.bus_word.specs.declared.word.Bus.TheVariants.{A, B}
use Rattle.bus_word.specs.declared.word.Raw.{Raw}
use Rattle.bus_word.specs.declared.cell.Cell.{Cell}
use Rattle.bus_word.specs.Cell.{is_data_place}
use Rattle.bus_legal.specs.Description.{Description, word_at, words_at_places}
use Rattle.terminal_rules.specs.declared.event.Event.{Event}
use Rattle.terminal_rules.specs.declared.event.Event.TheVariants.{Word, Noise, Gap, Slot}
use Rattle.terminal_state.specs.declared.buses.OnBuses.{OnBuses}
use Rattle.terminal_state.specs.declared.registers.Registers.{Registers}
use Rattle.bus_terminal.specs.declared.terminal.Terminal.{Terminal}
use Rattle.terminal_rules.specs.Buses.{same_bus}
use Rattle.terminal_rules.specs.declared.event.Flag.TheVariants.{Busy}
use Rattle.terminal_rules.specs.LookBack.{or_else}
use Rattle.terminal_rules.specs.History.{Replying, NoTurn, Noted, noted_as, Ending, Nothing}
use Rattle.terminal_rules.specs.Reply.{reply_now, reply_bus}
use Rattle.terminal_rules.specs.Flags.{flag_now}
use Rattle.terminal_rules.specs.Turn.{is_answered, done_cell, turn_of_gap, turn_of_slot, unless_ignored_turn}
use Rattle.terminal_rules.specs.Open.{Open, Idle, Collects, open_now, is_on}
use Rattle.terminal_rules.specs.Starts.{is_for_terminal, is_free, is_fresh_broadcast, starts_message, heard_now}
use Rattle.terminal_rules.specs.Ends.{at_gap, at_entry, unless_ignored}
use Rattle.terminal_rules.specs.SinceReset.{resets, is_reset, off_now, wrapped, written, either_word, held_now}
use Rattle.terminal_rules.specs.Status.{spares, adds_error}
use Rattle.terminal_rules.specs.Past.{note, past}
use Rattle.terminal_state.specs.Standing.{Standing, Words, standing_of, word_bits, word_leaves, entry_fails, fails, gap_leaves, gap_ends, starts_by}
use Rattle.terminal_state.specs.Registers.{registers_now, registers_after, failed_by, started_if, settled, reset_if}
use Rattle.terminal_rules.specs.Steps.{replies_on, unless_reset, resets_at_gap, sent_one, resets_next, begun_if, dropped_if}
use Rattle.terminal_state.specs.Replies.{shown_reply}
use Rattle.terminal_state.specs.Buses.{on_bus, with_bus}
use Rattle.terminal_state.specs.Message.{standing_on}
use Rattle.terminal_state.specs.Held.{word_in}
use Rattle.bus_terminal.specs.Stands.{StandsAt, heard_on_buses}
use Rattle.bus_terminal.specs.inner.Terminal.{heard_after_word, ends_at_gap, begins_in, TakesWord, TakesGap, TakesSlot}
use Rattle.terminal_rules.proofs.OpenLaw.{word_law, noise_law, gap_law, slot_law, after_word, after_gap, after_entry, unheard}
use Rattle.terminal_state.proofs.CollectedLaw.{gap_ends_law, gap_leaves_law, entry_leaves_law, entry_ends_law, free_law, fresh_broadcast_law}
use Rattle.terminal_rules.proofs.BackLaw.{held_step}
use Rattle.terminal_rules.proofs.ResetLaw.{gap_as, gap_resets, slot_resets}
use Rattle.terminal_state.proofs.RegistersLaw.{registers_law, noise_law as registers_noise_law, word_law as registers_word_law, gap_law as registers_gap_law, slot_law as registers_slot_law}
use Rattle.terminal_rules.proofs.ReplyLaw.{reply_word_law, reply_noise_law, reply_gap_law, reply_slot_law}

-- the buses whose run holds a word for the terminal
heard_choice : (f x y : Bool) → (let t : OnBuses = record { a = f || x; b = y } in t) ≡ (if f then record { a = true; b = y } else record { a = x; b = y })
heard_choice true x y = refl
heard_choice false x y = refl

heard_choice_b : (f x y : Bool) → (let t : OnBuses = record { a = x; b = f || y } in t) ≡ (if f then record { a = x; b = true } else record { a = x; b = y })
heard_choice_b true x y = refl
heard_choice_b false x y = refl

-- A word or noise that isn't ignored, by what it starts and ends.
abbrev pub entry_event : Bus → Option Raw → Event
entry_event b None = Noise b
entry_event b (Some w) = Word b w

abbrev pub word_starts : Description → List Noted → Bus → Option Raw → Bool
word_starts P h b None = false
word_starts P h b (Some w) = starts_message P w (heard_now P h b) (is_free (open_now P h b)) (is_fresh_broadcast (open_now P h b))

abbrev word_noted : Description → List Noted → Bus → Option Raw → Noted
word_noted P h b w = noted_as (entry_event b w) NoTurn (word_starts P h b w) (at_entry w (open_now P h b))

word_is : (P : Description) (h : List Noted) (b : Bus) (w : Option Raw) → replies_on h b ≡ false → note P h (entry_event b w) ≡ word_noted P h b w
word_is P h b None e = ap (λ i. noted_as (Noise b) (unless_ignored_turn i NoTurn) false (unless_ignored i (at_entry None (open_now P h b)))) e
word_is P h b (Some w) e = ap (λ i. noted_as (Word b w) (unless_ignored_turn i NoTurn) (not i && word_starts P h b (Some w)) (unless_ignored i (at_entry (Some w) (open_now P h b)))) e

off_law : (P : Description) (h : List Noted) (b : Bus) → off_now h b ≡ on_bus b (registers_now P h).off
off_law P h A = refl
off_law P h B = refl

-- what a gap ends, and whether a reply begins, from what is kept
abbrev gap_by : Description → List Noted → Bus → Ending
gap_by P h b = gap_ends P (registers_now P h).flags.busy (standing_of P (open_now P h b))

abbrev begins_by : Description → List Noted → Bus → Bool
begins_by P h b = is_answered (on_bus b (registers_now P h).off) (gap_by P h b)

gap_is : (P : Description) (h : List Noted) (b : Bus) → replies_on h b ≡ false → note P h (Gap b) ≡ gap_as b (begins_by P h b) (gap_by P h b)
gap_is P h b e =
    let x : Ending = at_gap P (flag_now h Busy) (open_now P h b) in
    ap (λ i. noted_as (Gap b) (unless_ignored_turn i (turn_of_gap b (is_answered (off_now h b) (unless_ignored i x)) (done_cell (unless_ignored i x)))) false (unless_ignored i x)) e
    ∙ (λ j. gap_as b (is_answered (off_law P h b j) (gap_ends_law P (flag_now h Busy) (open_now P h b) j)) (gap_ends_law P (flag_now h Busy) (open_now P h b) j))

heard_word_by : (P : Description) (h : List Noted) (b : Bus) (w : Option Raw) → heard_on_buses P (word_noted P h b w ∷ h) ≡ heard_after_word P b w (heard_on_buses P h)
heard_word_by P h A None = refl
heard_word_by P h B None = refl
heard_word_by P h A (Some w) = heard_choice (is_for_terminal P w) (heard_now P h A) (heard_now P h B)
heard_word_by P h B (Some w) = heard_choice_b (is_for_terminal P w) (heard_now P h A) (heard_now P h B)

pub heard_word_law : (P : Description) (h : List Noted) (b : Bus) (w : Option Raw) → replies_on h b ≡ false → heard_on_buses P (note P h (entry_event b w) ∷ h) ≡ heard_after_word P b w (heard_on_buses P h)
heard_word_law P h b w e = ap (λ n. heard_on_buses P (n ∷ h)) (word_is P h b w e) ∙ heard_word_by P h b w

heard_gap_by : (P : Description) (h : List Noted) (b : Bus) (begins : Bool) (x : Ending) → heard_on_buses P (gap_as b begins x ∷ h) ≡ with_bus b false (heard_on_buses P h)
heard_gap_by P h A true x = refl
heard_gap_by P h A false x = refl
heard_gap_by P h B true x = refl
heard_gap_by P h B false x = refl

heard_gap_law : (P : Description) (h : List Noted) (b : Bus) → replies_on h b ≡ false → heard_on_buses P (note P h (Gap b) ∷ h) ≡ with_bus b false (heard_on_buses P h)
heard_gap_law P h b e = ap (λ n. heard_on_buses P (n ∷ h)) (gap_is P h b e) ∙ heard_gap_by P h b (begins_by P h b) (gap_by P h b)

on_heard : (P : Description) (h : List Noted) (b : Bus) → on_bus b (heard_on_buses P h) ≡ heard_now P h b
on_heard P h A = refl
on_heard P h B = refl

-- whether it starts a message, from what is kept
pub starts_law : (P : Description) (h : List Noted) (b : Bus) (w : Option Raw) → word_starts P h b w ≡ starts_by P w (on_bus b (heard_on_buses P h)) (standing_of P (open_now P h b))
starts_law P h b None = refl
starts_law P h b (Some w) =
    ap (λ k. starts_message P w k (is_free (open_now P h b)) (is_fresh_broadcast (open_now P h b))) (sym (on_heard P h b))
    ∙ (ap (λ f. starts_message P w (on_bus b (heard_on_buses P h)) f (is_fresh_broadcast (open_now P h b))) (free_law P (open_now P h b))
    ∙ ap (starts_message P w (on_bus b (heard_on_buses P h)) (is_free (standing_of P (open_now P h b)))) (fresh_broadcast_law P (open_now P h b)))

-- how the message in progress stands after a word, after noise and after a gap
choice_standing : (P : Description) (x : Bool) (o o' : Open) (s : Standing) → standing_of P o ≡ s → standing_of P (if x then o else o') ≡ (if x then s else standing_of P o')
choice_standing P true o o' s e = e
choice_standing P false o o' s e = refl

started_standing : (P : Description) (x : Bool) (c : ℕ) → standing_of P (if x then Collects c [] else Idle) ≡ (if x then Collects c (Words []) else Idle)
started_standing P true c = refl
started_standing P false c = refl

word_standing : (P : Description) (c b : Bus) (w : Raw) (s : Bool) (o : Open) → standing_of P (after_word c b w s o) ≡ word_leaves P.address s (same_bus c b) (Some w) (standing_of P o)
word_standing P c b w true o = started_standing P (same_bus c b) w.bits
word_standing P c b w false o = choice_standing P (same_bus c b) (after_entry (unheard (Some w)) o) o _ (entry_leaves_law P (unheard (Some w)) o)

standing_by : (P : Description) (h : List Noted) (c b : Bus) (w : Option Raw) (x : Ending) →
    standing_of P (open_now P (noted_as (entry_event b w) NoTurn (word_starts P h b w) x ∷ h) c) ≡ word_leaves P.address (word_starts P h b w) (same_bus c b) w (standing_of P (open_now P h c))
standing_by P h c b None x =
    ap (standing_of P) (noise_law P h c b x) ∙ choice_standing P (same_bus c b) (after_entry (unheard None) (open_now P h c)) (open_now P h c) _ (entry_leaves_law P (unheard None) (open_now P h c))
standing_by P h c b (Some w) x = ap (standing_of P) (word_law P h c b w (word_starts P h b (Some w)) x) ∙ word_standing P c b w (word_starts P h b (Some w)) (open_now P h c)

pub standing_word_law : (P : Description) (h : List Noted) (c b : Bus) (w : Option Raw) → replies_on h b ≡ false →
    standing_of P (open_now P (note P h (entry_event b w) ∷ h) c)
    ≡ word_leaves P.address (starts_by P w (on_bus b (heard_on_buses P h)) (standing_of P (open_now P h b))) (same_bus c b) w (standing_of P (open_now P h c))
standing_word_law P h c b w e =
    ap (λ n. standing_of P (open_now P (n ∷ h) c)) (word_is P h b w e)
    ∙ (standing_by P h c b w (at_entry w (open_now P h b))
    ∙ ap (λ s. word_leaves P.address s (same_bus c b) w (standing_of P (open_now P h c))) (starts_law P h b w))

standing_gap_law : (P : Description) (h : List Noted) (c b : Bus) → replies_on h b ≡ false →
    standing_of P (open_now P (note P h (Gap b) ∷ h) c)
    ≡ (if same_bus c b then gap_leaves (standing_of P (open_now P h c)) else standing_of P (open_now P h c))
standing_gap_law P h c b e =
    ap (λ n. standing_of P (open_now P (n ∷ h) c)) (gap_is P h b e)
    ∙ (ap (standing_of P) (gap_law P h c b (begins_by P h b) (done_cell (gap_by P h b)) (gap_by P h b))
    ∙ choice_standing P (same_bus c b) (after_gap P (open_now P h c)) (open_now P h c) _ (gap_leaves_law P (open_now P h c)))

-- the registers after a word or noise, and after a gap
registers_by : (P : Description) (h : List Noted) (f : Option ℕ) (b : Bus) (w : Option Raw) (r : Registers) →
    registers_after P (entry_event b w) (resets NoTurn (fails f)) (word_starts P h b w) (fails f) r ≡ started_if (word_starts P h b w) (spares P (word_bits w)) (word_bits w) (failed_by P f r)
registers_by P h f b None r = registers_noise_law P f b r
registers_by P h f b (Some w) r = registers_word_law P f b w (word_starts P h b (Some w)) r

pub registers_word : (P : Description) (h : List Noted) (b : Bus) (w : Option Raw) → replies_on h b ≡ false →
    registers_now P (note P h (entry_event b w) ∷ h)
    ≡ started_if (starts_by P w (on_bus b (heard_on_buses P h)) (standing_of P (open_now P h b))) (spares P (word_bits w)) (word_bits w) (failed_by P (entry_fails w (standing_of P (open_now P h b))) (registers_now P h))
registers_word P h b w e =
    ap (λ n. registers_now P (n ∷ h)) (word_is P h b w e)
    ∙ (registers_law P (word_noted P h b w) h
    ∙ (ap (λ x. registers_after P (entry_event b w) (resets NoTurn x) (word_starts P h b w) x (registers_now P h)) (entry_ends_law P w (open_now P h b))
    ∙ (registers_by P h (entry_fails w (standing_of P (open_now P h b))) b w (registers_now P h)
    ∙ ap (λ s. started_if s (spares P (word_bits w)) (word_bits w) (failed_by P (entry_fails w (standing_of P (open_now P h b))) (registers_now P h))) (starts_law P h b w))))

abbrev settled_for : Description → Bus → Bool → Ending → Registers → Registers
settled_for P b begins x r = settled P.accept (adds_error P x) b (resets_at_gap begins x) x r

registers_gap : (P : Description) (h : List Noted) (b : Bus) → replies_on h b ≡ false →
    registers_now P (note P h (Gap b) ∷ h) ≡ settled_for P b (begins_by P h b) (gap_by P h b) (registers_now P h)
registers_gap P h b e =
    ap (λ n. registers_now P (n ∷ h)) (gap_is P h b e)
    ∙ (registers_law P (gap_as b (begins_by P h b) (gap_by P h b)) h
    ∙ (ap (λ k. registers_after P (Gap b) k false (gap_by P h b) (registers_now P h)) (gap_resets b (begins_by P h b) (gap_by P h b))
    ∙ registers_gap_law P (gap_by P h b) b (begins_by P h b) (registers_now P h)))

-- the reply after a word or noise, and after a gap
reply_by : (P : Description) (h : List Noted) (b : Bus) (w : Option Raw) (x : Ending) → replies_on h b ≡ false →
    reply_now (noted_as (entry_event b w) NoTurn (word_starts P h b w) x ∷ h) ≡ dropped_if (word_starts P h b w) (reply_now h)
reply_by P h b None x e = reply_noise_law h b x
reply_by P h b (Some w) x e = reply_word_law h b w (word_starts P h b (Some w)) x e

pub reply_word : (P : Description) (h : List Noted) (b : Bus) (w : Option Raw) → replies_on h b ≡ false →
    reply_now (note P h (entry_event b w) ∷ h) ≡ dropped_if (starts_by P w (on_bus b (heard_on_buses P h)) (standing_of P (open_now P h b))) (reply_now h)
reply_word P h b w e =
    ap (λ n. reply_now (n ∷ h)) (word_is P h b w e)
    ∙ (reply_by P h b w (at_entry w (open_now P h b)) e
    ∙ ap (λ s. dropped_if s (reply_now h)) (starts_law P h b w))

reply_gap : (P : Description) (h : List Noted) (b : Bus) → replies_on h b ≡ false →
    reply_now (note P h (Gap b) ∷ h) ≡ begun_if (begins_by P h b) b (done_cell (gap_by P h b)) (reply_now h)
reply_gap P h b e = ap (λ n. reply_now (n ∷ h)) (gap_is P h b e) ∙ reply_gap_law h b (begins_by P h b) (done_cell (gap_by P h b)) (gap_by P h b)

-- the words held ready
abbrev held_by : Description → ℕ → ℕ → Event → Bool → Ending → ℕ → ℕ
held_by P s i e reset x old = unless_reset reset (P.initial s i) (either_word (written s i e) (wrapped P.wrap s i x)) old

held_failed : (P : Description) (s i : ℕ) (e : Event) (f : Option ℕ) (old : ℕ) → written s i e ≡ None → held_by P s i e (resets NoTurn (fails f)) (fails f) old ≡ old
held_failed P s i e None old n = ap (λ o. or_else (either_word o None) old) n
held_failed P s i e (Some c) old n = ap (λ o. or_else (either_word o None) old) n

nothing_written : (s i : ℕ) (b : Bus) (w : Option Raw) → written s i (entry_event b w) ≡ None
nothing_written s i b None = refl
nothing_written s i b (Some w) = refl

pub held_word_law : (P : Description) (h : List Noted) (b : Bus) (w : Option Raw) (s i : ℕ) → replies_on h b ≡ false → held_now P (note P h (entry_event b w) ∷ h) s i ≡ held_now P h s i
held_word_law P h b w s i e =
    ap (λ n. held_now P (n ∷ h) s i) (word_is P h b w e)
    ∙ (held_step P s i (word_noted P h b w) h
    ∙ (ap (λ x. held_by P s i (entry_event b w) (resets NoTurn x) x (held_now P h s i)) (entry_ends_law P w (open_now P h b))
    ∙ held_failed P s i (entry_event b w) (entry_fails w (standing_of P (open_now P h b))) (held_now P h s i) (nothing_written s i b w)))

held_gap_law : (P : Description) (h : List Noted) (b : Bus) (s i : ℕ) → replies_on h b ≡ false →
    held_now P (note P h (Gap b) ∷ h) s i ≡ held_by P s i (Gap b) (resets_at_gap (begins_by P h b) (gap_by P h b)) (gap_by P h b) (held_now P h s i)
held_gap_law P h b s i e =
    ap (λ n. held_now P (n ∷ h) s i) (gap_is P h b e)
    ∙ (held_step P s i (gap_as b (begins_by P h b) (gap_by P h b)) h
    ∙ ap (λ k. held_by P s i (Gap b) k (gap_by P h b) (held_now P h s i)) (gap_resets b (begins_by P h b) (gap_by P h b)))

same₄ : {X Y Z W R : Type 0} (f : X → Y → Z → W → R) {x x' : X} {y y' : Y} {z z' : Z} {w w' : W} → x ≡ x' → y ≡ y' → z ≡ z' → w ≡ w' → f x y z w ≡ f x' y' z' w'
same₄ f {x} {x'} {y} {y'} {z} {z'} {w} {w'} p q r s = λ j. f (p j) (q j) (r j) (s j)

-- a terminal that doesn't reply on a bus hears it
hears : {L : Type 0} (is_legal : L → Cell → Bool) (P : Description) (h : List Event) (b : Bus) (t : Terminal L) → StandsAt is_legal P h t →
    is_on b (reply_bus (shown_reply t.reply)) ≡ false → replies_on (past P h) b ≡ false
hears is_legal P h b t s i = ap (λ r. is_on b (reply_bus r)) (sym s.reply) ∙ i

-- the word at a place of data
pub at_place : (words : List (List ℕ)) (s i : ℕ) → 1 ≤ s → s ≤ 30 → 1 ≤ i → i ≤ 32 → words_at_places words s i ≡ word_at words s i
at_place words s i low high first last = ap (λ t. if t then word_at words s i else 0) (is_place s i low high first last)
  where
    is_place : (s i : ℕ) → 1 ≤ s → s ≤ 30 → 1 ≤ i → i ≤ 32 → is_data_place s i ≡ true
    is_place s i low high first last = grind (arith, nat_tests)

pub word_stands : {L : Type 0} (is_legal : L → Cell → Bool) (P : Description) (h : List Event) (b : Bus) (w : Option Raw) (t u : Terminal L) → is_on b (reply_bus (shown_reply t.reply)) ≡ false →
    StandsAt is_legal P h t → TakesWord is_legal b w t u → StandsAt is_legal P (entry_event b w ∷ h) u
word_stands is_legal P h b w t u i s k =
    let e : replies_on (past P h) b ≡ false = hears is_legal P h b t s i in
    record {
      description = k.setup.description ∙ s.description;
      heard = k.heard ∙ ((λ j. heard_after_word (s.description j) b w (s.heard j)) ∙ sym (heard_word_law P (past P h) b w e));
      standing = λ c.
          k.standing c
          ∙ (same₄ (λ D k l m. word_leaves D.address (starts_by D w (on_bus b k) l) (same_bus c b) w m) s.description s.heard (s.standing b) (s.standing c)
          ∙ sym (standing_word_law P (past P h) c b w e));
      registers =
          k.registers
          ∙ (same₄ (λ D k l r. started_if (starts_by D w (on_bus b k) l) (spares D (word_bits w)) (word_bits w) (failed_by D (entry_fails w l) r)) s.description s.heard (s.standing b) s.registers
          ∙ sym (registers_word P (past P h) b w e));
      reply =
          k.reply
          ∙ (same₄ (λ D k l r. dropped_if (starts_by D w (on_bus b k) l) r) s.description s.heard (s.standing b) s.reply
          ∙ sym (reply_word P (past P h) b w e));
      held = λ m i low high first last.
          (λ j. word_in (k.held j) m i)
          ∙ (s.held m i low high first last ∙ sym (held_word_law P (past P h) b w m i e));
    }

pub gap_stands : {L : Type 0} (is_legal : L → Cell → Bool) (P : Description) (h : List Event) (b : Bus) (t u : Terminal L) → is_on b (reply_bus (shown_reply t.reply)) ≡ false →
    StandsAt is_legal P h t → TakesGap is_legal b t u → StandsAt is_legal P (Gap b ∷ h) u
gap_stands is_legal P h b t u i s k =
    let e : replies_on (past P h) b ≡ false = hears is_legal P h b t s i in
    let ends : ends_at_gap is_legal t b ≡ gap_by P (past P h) b = (λ j. gap_ends (s.description j) (s.registers j).flags.busy (s.standing b j)) in
    let begins : begins_in t b (ends_at_gap is_legal t b) ≡ begins_by P (past P h) b = (λ j. is_answered (on_bus b (s.registers j).off) (ends j)) in
    record {
      description = k.settles.setup.description ∙ s.description;
      heard = k.settles.heard ∙ (ap (with_bus b false) s.heard ∙ sym (heard_gap_law P (past P h) b e));
      standing = λ c.
          k.standing c
          ∙ ((λ j. if same_bus c b then gap_leaves (s.standing c j) else s.standing c j)
          ∙ sym (standing_gap_law P (past P h) c b e));
      registers =
          k.settles.registers
          ∙ ((λ j. settled_for (s.description j) b (begins j) (ends j) (s.registers j))
          ∙ sym (registers_gap P (past P h) b e));
      reply =
          k.settles.reply
          ∙ ((λ j. begun_if (begins j) b (done_cell (ends j)) (s.reply j))
          ∙ sym (reply_gap P (past P h) b e));
      held = λ m i low high first last.
          k.settles.held m i low high first last
          ∙ ((λ j. unless_reset (resets_at_gap (begins j) (ends j)) ((sym (at_place t.held.initial m i low high first last) ∙ ap (λ D. D.initial m i) s.description) j) (wrapped (s.description j).wrap m i (ends j)) (s.held m i low high first last j))
          ∙ sym (held_gap_law P (past P h) b m i e));
    }

-- a slot
pub heard_slot : (P : Description) (h : List Noted) (r : Option Replying) → heard_on_buses P (noted_as Slot (turn_of_slot r) false Nothing ∷ h) ≡ heard_on_buses P h
heard_slot P h None = refl
heard_slot P h (Some r) = refl

pub registers_slot : (P : Description) (h : List Noted) → registers_now P (note P h Slot ∷ h) ≡ reset_if (resets_next (reply_now h)) (registers_now P h)
registers_slot P h =
    registers_law P (note P h Slot) h
    ∙ (registers_slot_law P (is_reset (note P h Slot)) (registers_now P h)
    ∙ ap (λ k. reset_if k (registers_now P h)) (slot_resets (reply_now h)))

pub held_slot_law : (P : Description) (h : List Noted) (s i : ℕ) → held_now P (note P h Slot ∷ h) s i ≡ (if resets_next (reply_now h) then P.initial s i else held_now P h s i)
held_slot_law P h s i = held_step P s i (note P h Slot) h ∙ ap (λ k. if k then P.initial s i else held_now P h s i) (slot_resets (reply_now h))

pub slot_stands : {L : Type 0} (is_legal : L → Cell → Bool) (P : Description) (h : List Event) (t u : Terminal L) → StandsAt is_legal P h t → TakesSlot is_legal t u → StandsAt is_legal P (Slot ∷ h) u
slot_stands is_legal P h t u s k = record {
  description = k.setup.description ∙ s.description;
  heard = k.heard ∙ (s.heard ∙ sym (heard_slot P (past P h) (reply_now (past P h))));
  standing = λ c. ap (standing_on c) k.in_progress ∙ (s.standing c ∙ ap (standing_of P) (sym (slot_law P (past P h) c (reply_now (past P h)) Nothing)));
  registers = k.registers ∙ ((λ j. reset_if (resets_next (s.reply j)) (s.registers j)) ∙ sym (registers_slot P (past P h)));
  reply = k.reply ∙ (ap sent_one s.reply ∙ sym (reply_slot_law (past P h) (reply_now (past P h)) Nothing));
  held = λ m i low high first last.
      k.held m i low high first last
      ∙ ((λ j. if resets_next (s.reply j) then (sym (at_place t.held.initial m i low high first last) ∙ ap (λ D. D.initial m i) s.description) j else s.held m i low high first last j)
      ∙ sym (held_slot_law P (past P h) m i));
}
