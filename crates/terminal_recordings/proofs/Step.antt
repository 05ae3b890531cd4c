-- Histories that are alike stay so when the same event comes to both, if the flags of the second are those that are shown later.
use Rattle.std.proofs.Common.{◌≡◌, ℕ, Bool, true, false, not, ◌&&◌, ◌||◌, if◌then◌else◌, ◌⊎◌, inl, inr, Option, Some, None, is_some, List, ◌∷◌, refl, ap, sym, ◌∙◌, subst}
use Rattle.bus_word.specs.declared.word.Bus.{Bus}
use Rattle.bus_word.specs.declared.status.StatusParts.{StatusParts}
use Rattle.bus_word.specs.declared.cell.Cell.{Cell}
use Rattle.bus_legal.specs.Description.{Description}
use Rattle.terminal_rules.specs.declared.event.Event.{Event}
use Rattle.terminal_rules.specs.declared.event.Event.TheVariants.{Word, Noise, Gap, Write, Vector, Bit, Flag as FlagIs, Slot}
use Rattle.terminal_rules.specs.declared.event.Flag.{Flag}
use Rattle.terminal_rules.specs.declared.event.Flag.TheVariants.{Busy}
use Rattle.terminal_rules.specs.History.{Noted, Replying, Ending, Nothing, Badly, Illegal, Blocked, Done}
use Rattle.terminal_rules.specs.Open.{is_on}
use Rattle.terminal_rules.specs.Reply.{reply_now, reply_bus, ignores, is_slot}
use Rattle.terminal_rules.specs.Flags.{flag_now}
use Rattle.terminal_rules.specs.Starts.{starts_now}
use Rattle.terminal_rules.specs.Ends.{is_blocked_by_busy, at_gap, unless_ignored, ends_now}
use Rattle.terminal_rules.specs.SinceReset.{is_reset, inhibited_now}
use Rattle.terminal_rules.specs.Status.{kept_now}
use Rattle.terminal_rules.specs.Turn.{is_answered, done_cell}
use Rattle.terminal_rules.specs.Past.{note, past}
use Rattle.terminal_rules.specs.Steps.{unless_reset, begun_if, dropped_if}
use Rattle.terminal_recordings.specs.Recordings.{is_seen}
use Rattle.terminal_recordings.proofs.Endings.{if_busy, effects, answered_law, busy_end, ends_law}
use Rattle.terminal_recordings.proofs.Summary.{determined, summary, started, determined_after, determined_law, inhibited_law, starts_of, starts_law, in_silence, in_slot, reset_of, reset_of_law, kept_new, kept_law, reply_law}
use Rattle.terminal_recordings.proofs.Idle.{nothing_ends}
use Rattle.terminal_recordings.proofs.Alike.{Implies, implied_after, KeptAlike, kept_stays, ReplyAlike, bus_alike, Alike}

ignores_alike : (r s : Option Replying) (e : Event) → reply_bus r ≡ reply_bus s → ignores r e ≡ ignores s e
ignores_alike r s (Word b w) q = ap (is_on b) q
ignores_alike r s (Noise b) q = ap (is_on b) q
ignores_alike r s (Gap b) q = ap (is_on b) q
ignores_alike r s (Write q' v) q = refl
ignores_alike r s (Vector v) q = refl
ignores_alike r s (Bit v) q = refl
ignores_alike r s (FlagIs f v) q = refl
ignores_alike r s Slot q = refl

-- what an event does in both
pub record SameEvent (P : Description) (h k : List Noted) (e : Event) : Type 0 where
  pub ignored : ignores (reply_now h) e ≡ ignores (reply_now k) e
  pub starts : starts_now P h e ≡ starts_now P k e
  pub ends : if_busy (ends_now P h e) ≡ if_busy (ends_now P k e)
  pub reset : is_reset (note P h e) ≡ is_reset (note P k e)

pub same_event : (P : Description) (h k : List Event) (e : Event) (f : Flag → Bool) → Alike f (summary P (past P h)) (summary P (past P k)) →
    in_slot (reply_now (past P h)) e ≡ in_slot (reply_now (past P k)) e → SameEvent P (past P h) (past P k) e
same_event P h k e f a slot =
    let r = reply_now (past P h) in
    let s = reply_now (past P k) in
    let ignored : ignores r e ≡ ignores s e = ignores_alike r s e (bus_alike (kept_now P (past P h)).busy (f Busy) r s a.reply) in
    let ends : if_busy (ends_now P (past P h) e) ≡ if_busy (ends_now P (past P k) e) =
    ends_law P (past P h) e ∙ ((λ j. unless_ignored (ignored j) (busy_end P (a.determined j).message e)) ∙ sym (ends_law P (past P k) e)) in
    record {
      ignored = ignored;
      starts = starts_law P (past P h) e ∙ ((λ j. starts_of P (ignored j) e (a.determined j)) ∙ sym (starts_law P (past P k) e));
      ends = ends;
      reset =
          reset_of_law P h e
          ∙ ((λ j. (effects P (ends j)).broadcast_reset || (((effects P (ends j)).own_reset && in_silence (a.determined j) e) || slot j))
          ∙ sym (reset_of_law P k e));
    }

pub determined_alike : (P : Description) (h k : List Noted) (e : Event) → determined P h ≡ determined P k → SameEvent P h k e → determined P (note P h e ∷ h) ≡ determined P (note P k e ∷ k)
determined_alike P h k e d s =
    determined_law P h e
    ∙ ((λ j. determined_after P e (s.ignored j) (s.starts j) (s.reset j) (effects P (s.ends j)) (d j))
    ∙ sym (determined_law P k e))

pub inhibited_alike : (P : Description) (h k : List Noted) (e : Event) → SameEvent P h k e → Implies (inhibited_now k) (inhibited_now h) → Implies (inhibited_now (note P k e ∷ k)) (inhibited_now (note P h e ∷ h))
inhibited_alike P h k e s n q =
    let before : unless_reset (is_reset (note P h e)) false (effects P (if_busy (ends_now P h e))).inhibits (inhibited_now k) ≡ true =
    (λ j. unless_reset (s.reset j) false (effects P (s.ends j)).inhibits (inhibited_now k)) ∙ (sym (inhibited_law P k e) ∙ q) in
    inhibited_law P h e ∙ implied_after (is_reset (note P h e)) (effects P (if_busy (ends_now P h e))).inhibits (inhibited_now k) (inhibited_now h) n before

pub kept_alike : (P : Description) (h k : List Noted) (e : Event) (f : Flag → Bool) → Implies (inhibited_now k) (inhibited_now h) → SameEvent P h k e → ((x : Flag) → flag_now k x ≡ f x) →
    KeptAlike f (kept_now P h) (kept_now P k) → KeptAlike f (kept_now P (note P h e ∷ h)) (kept_now P (note P k e ∷ k))
kept_alike P h k e f n s flags a =
    let start : Option ℕ = started e (starts_now P h e) in
    let x : Ending = if_busy (ends_now P h e) in
    let stays : KeptAlike f (kept_new P (flag_now h) start (is_reset (note P h e)) (inhibited_now h) x (kept_now P h)) (kept_new P f start (is_reset (note P h e)) (inhibited_now k) x (kept_now P k)) =
    kept_stays P f (flag_now h) start (is_reset (note P h e)) (inhibited_now h) (inhibited_now k) x (kept_now P h) (kept_now P k) n a in
    let right : kept_new P f start (is_reset (note P h e)) (inhibited_now k) x (kept_now P k) ≡ kept_now P (note P k e ∷ k) =
    (λ j. kept_new P (λ y. sym (flags y) j) (started e (s.starts j)) (s.reset j) (inhibited_now k) (s.ends j) (kept_now P k)) ∙ sym (kept_law P k e) in
    subst (λ (l : StatusParts). KeptAlike f (kept_now P (note P h e ∷ h)) l) right
    (subst (λ (m : StatusParts). KeptAlike f m (kept_new P f start (is_reset (note P h e)) (inhibited_now k) x (kept_now P k))) (sym (kept_law P h e)) stays)

-- An event of the buses that is no slot. While a reply is in progress that began apart, it ends no message.
no_slot : (r s : Option Replying) (e : Event) → is_slot e ≡ false → in_slot r e ≡ in_slot s e
no_slot r s (Word b w) n = refl
no_slot r s (Noise b) n = refl
no_slot r s (Gap b) n = refl
no_slot r s (Write q v) n = refl
no_slot r s (Vector v) n = refl
no_slot r s (Bit v) n = refl
no_slot r s (FlagIs f v) n = refl
no_slot r s Slot n = cc

none_slot : (r : Option Replying) (e : Event) → is_slot e ≡ false → in_slot r e ≡ false
none_slot r (Word b w) n = refl
none_slot r (Noise b) n = refl
none_slot r (Gap b) n = refl
none_slot r (Write q v) n = refl
none_slot r (Vector v) n = refl
none_slot r (Bit v) n = refl
none_slot r (FlagIs f v) n = refl
none_slot r Slot n = cc

-- the kept status stays during a reply, but for a start
kept_quiet : (P : Description) (h : List Event) (e : Event) → is_slot e ≡ false → is_some (reply_now (past P h)) ≡ true → starts_now P (past P h) e ≡ false →
    kept_now P (past P (e ∷ h)) ≡ kept_now P (past P h)
kept_quiet P h e n r s =
    let x : ends_now P (past P h) e ≡ Nothing = nothing_ends P h e r in
    let reset : is_reset (note P (past P h) e) ≡ false =
    reset_of_law P h e ∙ (λ j. (effects P (if_busy (x j))).broadcast_reset || (((effects P (if_busy (x j))).own_reset && in_silence (determined P (past P h)) e) || none_slot (reply_now (past P h)) e n j)) in
    kept_law P (past P h) e
    ∙ (λ j. kept_new P (flag_now (past P h)) (started e (s j)) (reset j) (inhibited_now (past P h)) (if_busy (x j)) (kept_now P (past P h)))

-- a reply that goes on
goes_on : (P : Description) (h : List Event) (e : Event) (f : Bool) (r s : Option Replying) → is_slot e ≡ false → starts_now P (past P h) e ≡ false → reply_now (past P h) ≡ r →
    ReplyAlike (kept_now P (past P h)).busy f r s → ReplyAlike (kept_now P (past P (e ∷ h))).busy f r s
goes_on P h e f r s n q is (inl e') = inl e'
goes_on P h e f r s n q is (inr a) =
    let some : is_some (reply_now (past P h)) ≡ true = ap is_some (is ∙ a.left) in
    inr (record {
      bus = a.bus;
      cell_left = a.cell_left;
      cell_right = a.cell_right;
      left = a.left;
      right = a.right;
      apart = ap (λ k. k.busy) (kept_quiet P h e n some q) ∙ a.apart;
    })

-- the cells of two ends that differ by busy alone: they are alike, or the message is blocked in one
abbrev CellsAlike : Ending → Ending → Type 0
CellsAlike x y = (done_cell x ≡ done_cell y) ⊎ ((c : ℕ) × (cell : Cell) × (if_busy x ≡ Blocked c cell))

cell_if_busy : (x : Ending) → CellsAlike x (if_busy x)
cell_if_busy Nothing = inl refl
cell_if_busy (Badly c) = inl refl
cell_if_busy (Illegal c) = inl refl
cell_if_busy (Blocked c cell) = inl refl
cell_if_busy (Done c cell ds) = by_blocked (is_blocked_by_busy cell)
  where
    by_blocked : (t : Bool) → (Some cell ≡ done_cell (if t then Blocked c cell else Done c cell ds)) ⊎ ((d : ℕ) × (other : Cell) × ((if t then Blocked c cell else Done c cell ds) ≡ Blocked d other))
    by_blocked true = inr (c, cell, refl)
    by_blocked false = inl refl

cells_alike : (x y : Ending) → if_busy x ≡ if_busy y → CellsAlike x y
cells_alike x y e =
    elim (cell_if_busy x) as (λ z. CellsAlike x y) [
      | inl p ↦ elim (cell_if_busy y) as (λ z. CellsAlike x y) [ inl q ↦ inl (p ∙ (ap done_cell e ∙ sym q)) | inr q ↦ inr (q.0, q.1, e ∙ q.2) ]
      | inr p ↦ inr p
    ]

-- where it is blocked in one, the flags of the first are in its kept status
kept_flagged : (P : Description) (h : List Event) (b : Bus) (c : ℕ) (cell : Cell) → if_busy (ends_now P (past P h) (Gap b)) ≡ Blocked c cell →
    (kept_now P (past P (Gap b ∷ h))).busy ≡ flag_now (past P h) Busy
kept_flagged P h b c cell x =
    let reset : is_reset (note P (past P h) (Gap b)) ≡ false =
    reset_of_law P h (Gap b) ∙ (λ j. reset_of (Gap b) (effects P (x j)) (determined P (past P h)) (reply_now (past P h))) in
    ap (λ k. k.busy) (kept_law P (past P h) (Gap b))
    ∙ (λ j. (kept_new P (flag_now (past P h)) None (reset j) (inhibited_now (past P h)) (x j) (kept_now P (past P h))).busy)

-- the same busy flag gives the same end
same_busy : (P : Description) (h k : List Noted) (b : Bus) → determined P h ≡ determined P k → ignores (reply_now h) (Gap b) ≡ ignores (reply_now k) (Gap b) → flag_now h Busy ≡ flag_now k Busy →
    ends_now P h (Gap b) ≡ ends_now P k (Gap b)
same_busy P h k b d i f = λ j. unless_ignored (i j) (at_gap P (f j) ((d j).message b))

either_busy : (x y : Bool) → (x ≡ y) ⊎ (x ≡ not y)
either_busy true true = inl refl
either_busy true false = inr refl
either_busy false true = inr refl
either_busy false false = inl refl

-- a reply that begins with a gap
begins_alike : (P : Description) (h k : List Event) (b : Bus) (f : Flag → Bool) → determined P (past P h) ≡ determined P (past P k) → SameEvent P (past P h) (past P k) (Gap b) →
    ((x : Flag) → flag_now (past P k) x ≡ f x) →
    ReplyAlike (kept_now P (past P (Gap b ∷ h))).busy (f Busy)
    (Some (record { bus = b; cell = done_cell (ends_now P (past P h) (Gap b)); number = 0 }))
    (Some (record { bus = b; cell = done_cell (ends_now P (past P k) (Gap b)); number = 0 }))
begins_alike P h k b f d s flags =
    by_cells (cells_alike (ends_now P (past P h) (Gap b)) (ends_now P (past P k) (Gap b)) s.ends) (either_busy (flag_now (past P h) Busy) (f Busy))
  where
    by_cells : CellsAlike (ends_now P (past P h) (Gap b)) (ends_now P (past P k) (Gap b)) → (flag_now (past P h) Busy ≡ f Busy) ⊎ (flag_now (past P h) Busy ≡ not (f Busy)) →
        ReplyAlike (kept_now P (past P (Gap b ∷ h))).busy (f Busy)
        (Some (record { bus = b; cell = done_cell (ends_now P (past P h) (Gap b)); number = 0 }))
        (Some (record { bus = b; cell = done_cell (ends_now P (past P k) (Gap b)); number = 0 }))
    by_cells (inl e) busy = inl (λ j. Some (record { bus = b; cell = e j; number = 0 }))
    by_cells (inr blocked) (inl same) =
        let e : ends_now P (past P h) (Gap b) ≡ ends_now P (past P k) (Gap b) = same_busy P (past P h) (past P k) b d s.ignored (same ∙ sym (flags Busy)) in
        inl (λ j. Some (record { bus = b; cell = done_cell (e j); number = 0 }))
    by_cells (inr blocked) (inr other) = inr (record {
      bus = b;
      cell_left = done_cell (ends_now P (past P h) (Gap b));
      cell_right = done_cell (ends_now P (past P k) (Gap b));
      left = refl;
      right = refl;
      apart = kept_flagged P h b blocked.0 blocked.1 blocked.2 ∙ other;
    })

carry : (busy f : Bool) (r r' s s' : Option Replying) → r ≡ r' → s ≡ s' → ReplyAlike busy f r s → ReplyAlike busy f r' s'
carry busy f r r' s s' p q a = subst (λ (x : Option Replying). ReplyAlike busy f r' x) q (subst (λ (x : Option Replying). ReplyAlike busy f x s) p a)

-- a word, noise or a gap
reply_alike : (P : Description) (h k : List Event) (e : Event) (f : Flag → Bool) → is_seen e ≡ true → is_slot e ≡ false →
    Alike f (summary P (past P h)) (summary P (past P k)) → SameEvent P (past P h) (past P k) e → ((x : Flag) → flag_now (past P k) x ≡ f x) →
    ReplyAlike (kept_now P (past P (e ∷ h))).busy (f Busy) (reply_now (past P (e ∷ h))) (reply_now (past P (e ∷ k)))
reply_alike P h k (Word b w) f seen n a s flags =
    by_start (starts_now P (past P h) (Word b w)) refl
  where
    by_start : (t : Bool) → starts_now P (past P h) (Word b w) ≡ t →
        ReplyAlike (kept_now P (past P (Word b w ∷ h))).busy (f Busy) (reply_now (past P (Word b w ∷ h))) (reply_now (past P (Word b w ∷ k)))
    by_start true q = inl
        ((reply_law P (past P h) (Word b w) ∙ ap (λ t. dropped_if t (reply_now (past P h))) q)
        ∙ sym (reply_law P (past P k) (Word b w) ∙ ap (λ t. dropped_if t (reply_now (past P k))) (sym s.starts ∙ q)))
    by_start false q =
        carry (kept_now P (past P (Word b w ∷ h))).busy (f Busy) (reply_now (past P h)) _ (reply_now (past P k)) _
        (sym (reply_law P (past P h) (Word b w) ∙ ap (λ t. dropped_if t (reply_now (past P h))) q))
        (sym (reply_law P (past P k) (Word b w) ∙ ap (λ t. dropped_if t (reply_now (past P k))) (sym s.starts ∙ q)))
        (goes_on P h (Word b w) (f Busy) (reply_now (past P h)) (reply_now (past P k)) refl q refl a.reply)
reply_alike P h k (Noise b) f seen n a s flags =
    carry (kept_now P (past P (Noise b ∷ h))).busy (f Busy) (reply_now (past P h)) _ (reply_now (past P k)) _
    (sym (reply_law P (past P h) (Noise b))) (sym (reply_law P (past P k) (Noise b)))
    (goes_on P h (Noise b) (f Busy) (reply_now (past P h)) (reply_now (past P k)) refl refl refl a.reply)
reply_alike P h k (Gap b) f seen n a s flags =
    by_answer (is_answered ((determined P (past P h)).off b) (ends_now P (past P h) (Gap b))) refl
  where
    same : is_answered ((determined P (past P h)).off b) (ends_now P (past P h) (Gap b)) ≡ is_answered ((determined P (past P k)).off b) (ends_now P (past P k) (Gap b))
    same =
        answered_law ((determined P (past P h)).off b) (ends_now P (past P h) (Gap b))
        ∙ ((λ j. is_answered ((a.determined j).off b) (s.ends j))
        ∙ sym (answered_law ((determined P (past P k)).off b) (ends_now P (past P k) (Gap b))))

    by_answer : (t : Bool) → is_answered ((determined P (past P h)).off b) (ends_now P (past P h) (Gap b)) ≡ t →
        ReplyAlike (kept_now P (past P (Gap b ∷ h))).busy (f Busy) (reply_now (past P (Gap b ∷ h))) (reply_now (past P (Gap b ∷ k)))
    by_answer true q =
        carry (kept_now P (past P (Gap b ∷ h))).busy (f Busy) _ _ _ _
        (sym (reply_law P (past P h) (Gap b) ∙ ap (λ t. begun_if t b (done_cell (ends_now P (past P h) (Gap b))) (reply_now (past P h))) q))
        (sym (reply_law P (past P k) (Gap b) ∙ ap (λ t. begun_if t b (done_cell (ends_now P (past P k) (Gap b))) (reply_now (past P k))) (sym same ∙ q)))
        (begins_alike P h k b f a.determined s flags)
    by_answer false q =
        carry (kept_now P (past P (Gap b ∷ h))).busy (f Busy) (reply_now (past P h)) _ (reply_now (past P k)) _
        (sym (reply_law P (past P h) (Gap b) ∙ ap (λ t. begun_if t b (done_cell (ends_now P (past P h) (Gap b))) (reply_now (past P h))) q))
        (sym (reply_law P (past P k) (Gap b) ∙ ap (λ t. begun_if t b (done_cell (ends_now P (past P k) (Gap b))) (reply_now (past P k))) (sym same ∙ q)))
        (goes_on P h (Gap b) (f Busy) (reply_now (past P h)) (reply_now (past P k)) refl refl refl a.reply)
reply_alike P h k (Write q v) f seen n a s flags = cc
reply_alike P h k (Vector v) f seen n a s flags = cc
reply_alike P h k (Bit v) f seen n a s flags = cc
reply_alike P h k (FlagIs g v) f seen n a s flags = cc
reply_alike P h k Slot f seen n a s flags = cc

pub heard_alike : (P : Description) (h k : List Event) (e : Event) (f : Flag → Bool) → is_seen e ≡ true → is_slot e ≡ false →
    Alike f (summary P (past P h)) (summary P (past P k)) → ((x : Flag) → flag_now (past P k) x ≡ f x) →
    Alike f (summary P (past P (e ∷ h))) (summary P (past P (e ∷ k)))
heard_alike P h k e f seen n a flags =
    let s : SameEvent P (past P h) (past P k) e = same_event P h k e f a (no_slot (reply_now (past P h)) (reply_now (past P k)) e n) in
    record {
      determined = determined_alike P (past P h) (past P k) e a.determined s;
      inhibited = inhibited_alike P (past P h) (past P k) e s a.inhibited;
      kept = kept_alike P (past P h) (past P k) e f a.inhibited s flags a.kept;
      reply = reply_alike P h k e f seen n a s flags;
    }
