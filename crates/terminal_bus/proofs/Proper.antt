-- What terminals send has 16 bits, so all that comes to a terminal of a bus can come.
use Rattle.std.proofs.Common.{◌≡◌, ℕ, ◌-◌, ◌/◌, ◌<◌, ◌≤◌, ◌^◌, Bool, true, false, ◌&&◌, ◌==◌, if◌then◌else◌, Option, Some, None, List, [], ◌∷◌, ◌++◌, length, map, sym, subst, arith}
use Rattle.bus_word.specs.declared.word.Bus.{Bus}
use Rattle.bus_word.specs.declared.word.Bus.TheVariants.{A, B}
use Rattle.bus_word.specs.declared.word.Kind.TheVariants.{Com, Dat}
use Rattle.bus_word.specs.declared.word.Raw.{Raw}
use Rattle.bus_word.specs.declared.status.StatusParts.{StatusParts}
use Rattle.bus_word.specs.declared.cell.Cell.{Cell}
use Rattle.bus_word.specs.declared.cell.Cell.TheVariants.{OwnReceive, OwnTransmit, BroadReceive, OwnMode, BroadMode}
use Rattle.bus_word.specs.Word.{is_data}
use Rattle.bus_word.specs.Command.{expected}
use Rattle.bus_word.specs.Status.{status_word}
use Rattle.bus_word.specs.Cell.{cell_of}
use Rattle.bus_word.proofs.WordLaws.{status_has_bits}
use Rattle.bus_legal.specs.Description.{Description}
use Rattle.terminal_rules.specs.declared.event.Event.{Event}
use Rattle.terminal_rules.specs.declared.event.Event.TheVariants.{Word, Noise, Gap, Write, Vector, Bit, Flag as FlagIs, Slot}
use Rattle.terminal_rules.specs.declared.event.Flag.TheVariants.{Busy}
use Rattle.terminal_rules.specs.Buses.{same_bus}
use Rattle.terminal_rules.specs.History.{Noted, Entry, Ending, Nothing, Badly, Illegal, Blocked, Done, Replying, of_word}
use Rattle.terminal_rules.specs.Open.{Open, Idle, Collects, Waits, Resumes, open_now, transfer, status_at}
use Rattle.terminal_rules.specs.Reply.{reply_now, ignores}
use Rattle.terminal_rules.specs.Flags.{flag_now}
use Rattle.terminal_rules.specs.Starts.{starts_now}
use Rattle.terminal_rules.specs.Ends.{is_blocked_by_busy, verdict, with_word, data_of, data_words, if_expected, ends_with, at_gap, at_entry, unless_ignored, ends_now}
use Rattle.terminal_rules.specs.SinceReset.{is_reset, vector_word_set, vector_now, bit_word_set, bit_now, nth_word, wrapped_at, wrapped, written, either_word, held_set, held_now, is_last_command_code, recorded_by, start_bits, last_now}
use Rattle.terminal_rules.specs.Same.{IsProper, AreProper}
use Rattle.terminal_rules.specs.Status.{kept_now}
use Rattle.terminal_rules.specs.Past.{note, past, history_after}
use Rattle.terminal_rules.specs.Out.{Sending, sending, code_word, reply_word, next_sent, sends, sending_out, sent_in}
use Rattle.terminal_rules.specs.Steps.{unless_reset}
use Rattle.terminal_rules.proofs.OpenLaw.{after_gap, after_entry, after_event, unheard, waits, open_law}
use Rattle.terminal_rules.proofs.BackLaw.{vector_step, bit_step, held_step, last_step}
use Rattle.terminal_bus.specs.Lists.{Each}
use Rattle.terminal_bus.specs.declared.event.BusEvent.{BusEvent}
use Rattle.terminal_bus.specs.declared.event.BusEvent.TheVariants.{OnBus, SlotPasses, Subsystem}
use Rattle.terminal_bus.specs.Members.{Member, if_on, sent_on, heard_of, sendings, unless_sends, heard_on, events_for, after_events, bus_after, member_of, powered_up, all_events_for}
use Rattle.terminal_bus.specs.Alone.{CanExist, CanHappen}

-- 16 bits
abbrev Small : ℕ → Type 0
Small v = v < 2 ^ 16

abbrev SmallIf : Option ℕ → Type 0
SmallIf None = Unit {0}
SmallIf (Some v) = Small v

abbrev SmallWord : Option Raw → Type 0
SmallWord None = Unit {0}
SmallWord (Some w) = Small w.bits

abbrev SmallOpen : Open → Type 0
SmallOpen Idle = Unit {0}
SmallOpen (Collects c after) = Each (λ (x : Entry). SmallWord x.word) after
SmallOpen (Waits c a) = Unit {0}
SmallOpen (Resumes c after) = Each (λ (x : Entry). SmallWord x.word) after

abbrev SmallWords : Option (List ℕ) → Type 0
SmallWords None = Unit {0}
SmallWords (Some ds) = Each Small ds

abbrev SmallEnd : Ending → Type 0
SmallEnd (Done c cell ds) = Each Small ds
SmallEnd _ = Unit {0}

-- the words of a message
small_push : (ds : List ℕ) (d : ℕ) → Each Small ds → Small d → Each Small (ds ++ d ∷ [])
small_push [] d a s = (s, tt)
small_push (x ∷ ds) d a s = (a.0, small_push ds d a.1 s)

small_with : (m : Option (List ℕ)) (o : Option ℕ) → SmallWords m → SmallIf o → SmallWords (with_word m o)
small_with None o a s = tt
small_with (Some ds) None a s = tt
small_with (Some ds) (Some d) a s = small_push ds d a s

small_data : (w : Option Raw) → SmallWord w → SmallIf (data_of w)
small_data None s = tt
small_data (Some w) s = elim (is_data w) as (λ t. SmallIf (if t then Some w.bits else None)) [ true ↦ s | false ↦ tt ]

small_words : (after : List Entry) → Each (λ (x : Entry). SmallWord x.word) after → SmallWords (data_words after)
small_words [] a = tt
small_words (x ∷ after) a = small_with (data_words after) (data_of x.word) (small_words after a.1) (small_data x.word a.0)

small_expected : (c : ℕ) (m : Option (List ℕ)) → SmallWords m → SmallWords (if_expected c m)
small_expected c None a = tt
small_expected c (Some ds) a = elim (length ds == expected c) as (λ t. SmallWords (if t then Some ds else None)) [ true ↦ a | false ↦ tt ]

small_verdict : (legal : Cell → Bool) (busy : Bool) (c : ℕ) (ds : List ℕ) (o : Option Cell) → Each Small ds → SmallEnd (verdict legal busy c ds o)
small_verdict legal busy c ds None a = tt
small_verdict legal busy c ds (Some cell) a = by_tests (legal cell) (busy && is_blocked_by_busy cell)
  where
    by_tests : (l k : Bool) → SmallEnd (if l then (if k then Blocked c cell else Done c cell ds) else Illegal c)
    by_tests true true = tt
    by_tests true false = a
    by_tests false k = tt

small_ends : (P : Description) (busy : Bool) (c : ℕ) (m : Option (List ℕ)) (t : Option (ℕ × ℕ)) → SmallWords m → SmallEnd (ends_with P busy c m t)
small_ends P busy c (Some ds) t a = small_verdict P.legal busy c ds (cell_of c) a
small_ends P busy c None (Some t) a = tt
small_ends P busy c None None a = tt

small_gap : (P : Description) (busy : Bool) (o : Open) → SmallOpen o → SmallEnd (at_gap P busy o)
small_gap P busy Idle a = tt
small_gap P busy (Collects c after) a = small_ends P busy c _ (transfer P (Some (c, after))) (small_expected c (data_words after) (small_words after a))
small_gap P busy (Waits c d) a = tt
small_gap P busy (Resumes c after) a = small_ends P busy c _ None (small_expected c (data_words after) (small_words after a))

small_entry : (w : Option Raw) (o : Open) → SmallEnd (at_entry w o)
small_entry w Idle = tt
small_entry w (Collects c after) = tt
small_entry w (Waits c a) = elim (status_at a w) as (λ s. SmallEnd (if s then Nothing else Badly c)) [ true ↦ tt | false ↦ tt ]
small_entry w (Resumes c after) = tt

small_unless : (i : Bool) (x : Ending) → SmallEnd x → SmallEnd (unless_ignored i x)
small_unless true x a = tt
small_unless false x a = a

small_end : (P : Description) (h : List Noted) (e : Event) → ((b : Bus) → SmallOpen (open_now P h b)) → SmallEnd (ends_now P h e)
small_end P h (Gap b) a = small_unless (ignores (reply_now h) (Gap b)) _ (small_gap P (flag_now h Busy) (open_now P h b) (a b))
small_end P h (Word b w) a = small_unless (ignores (reply_now h) (Word b w)) _ (small_entry (Some w) (open_now P h b))
small_end P h (Noise b) a = small_unless (ignores (reply_now h) (Noise b)) _ (small_entry None (open_now P h b))
small_end P h (Write q v) a = tt
small_end P h (Vector v) a = tt
small_end P h (Bit v) a = tt
small_end P h (FlagIs f v) a = tt
small_end P h Slot a = tt

-- the message in progress
entered : (w : Option Raw) (o : Open) → SmallWord w → SmallOpen o → SmallOpen (after_entry (unheard w) o)
entered w Idle s a = tt
entered w (Collects c after) s a = (s, a)
entered w (Waits c d) s a = elim (status_at d w) as (λ t. SmallOpen (if t then Resumes c [] else Idle)) [ true ↦ tt | false ↦ tt ]
entered w (Resumes c after) s a = (s, a)

waited : (t : Option (ℕ × ℕ)) → SmallOpen (waits t)
waited None = tt
waited (Some t) = tt

gapped : (P : Description) (o : Open) → SmallOpen (after_gap P o)
gapped P Idle = tt
gapped P (Collects c after) = waited (transfer P (Some (c, after)))
gapped P (Waits c a) = tt
gapped P (Resumes c after) = tt

if_bus : (t : Bool) (o p : Open) → SmallOpen o → SmallOpen p → SmallOpen (if t then o else p)
if_bus true o p a b = a
if_bus false o p a b = b

small_after : (P : Description) (b : Bus) (e : Event) (s : Bool) (o : Open) → IsProper e → SmallOpen o → SmallOpen (after_event P b e s o)
small_after P b (Word c w) true o p a = if_bus (same_bus b c) (Collects w.bits []) Idle tt tt
small_after P b (Word c w) false o p a = if_bus (same_bus b c) (after_entry (unheard (Some w)) o) o (entered (Some w) o p a) a
small_after P b (Noise c) s o p a = if_bus (same_bus b c) (after_entry (unheard None) o) o (entered None o tt a) a
small_after P b (Gap c) s o p a = if_bus (same_bus b c) (after_gap P o) o (gapped P o) a
small_after P b (Write q v) s o p a = a
small_after P b (Vector v) s o p a = a
small_after P b (Bit v) s o p a = a
small_after P b (FlagIs f v) s o p a = a
small_after P b Slot s o p a = a

-- what a terminal holds
small_reset : (r : Bool) (first before : ℕ) (o : Option ℕ) → Small first → SmallIf o → Small before → Small (unless_reset r first o before)
small_reset true first before o a b c = a
small_reset false first before None a b c = c
small_reset false first before (Some v) a b c = b

small_nth : (i : ℕ) (ds : List ℕ) → Each Small ds → SmallIf (nth_word i ds)
small_nth i [] a = tt
small_nth i (d ∷ ds) a = by_first (i == 1) (small_nth (i - 1) ds a.1)
  where
    by_first : (t : Bool) → SmallIf (nth_word (i - 1) ds) → SmallIf (if t then Some d else nth_word (i - 1) ds)
    by_first true b = a.0
    by_first false b = b

small_wrapped_at : (wrap s i t : ℕ) (ds : List ℕ) → Each Small ds → SmallIf (wrapped_at wrap s i t ds)
small_wrapped_at wrap s i t ds a = elim ((s == t) && (t == wrap)) as (λ x. SmallIf (if x then nth_word i ds else None)) [ true ↦ small_nth i ds a | false ↦ tt ]

small_wrapped : (wrap s i : ℕ) (x : Ending) → SmallEnd x → SmallIf (wrapped wrap s i x)
small_wrapped wrap s i (Done c (OwnReceive t n) ds) a = small_wrapped_at wrap s i t ds a
small_wrapped wrap s i (Done c (BroadReceive t n) ds) a = small_wrapped_at wrap s i t ds a
small_wrapped wrap s i (Done c (OwnTransmit t n) ds) a = tt
small_wrapped wrap s i (Done c (OwnMode code) ds) a = tt
small_wrapped wrap s i (Done c (BroadMode code) ds) a = tt
small_wrapped wrap s i Nothing a = tt
small_wrapped wrap s i (Badly c) a = tt
small_wrapped wrap s i (Illegal c) a = tt
small_wrapped wrap s i (Blocked c cell) a = tt

small_written : (s i : ℕ) (e : Event) → IsProper e → SmallIf (written s i e)
small_written s i (Write q v) p = elim ((q.subaddress == s) && (q.number == i)) as (λ t. SmallIf (if t then Some v else None)) [ true ↦ p.1 | false ↦ tt ]
small_written s i (Word b w) p = tt
small_written s i (Noise b) p = tt
small_written s i (Gap b) p = tt
small_written s i (Vector v) p = tt
small_written s i (Bit v) p = tt
small_written s i (FlagIs f v) p = tt
small_written s i Slot p = tt

small_either : (o q : Option ℕ) → SmallIf o → SmallIf q → SmallIf (either_word o q)
small_either None q a b = b
small_either (Some v) q a b = a

small_vector : (e : Event) → IsProper e → SmallIf (vector_word_set e)
small_vector (Vector v) p = p
small_vector (Write q v) p = tt
small_vector (Word b w) p = tt
small_vector (Noise b) p = tt
small_vector (Gap b) p = tt
small_vector (Bit v) p = tt
small_vector (FlagIs f v) p = tt
small_vector Slot p = tt

small_bit : (e : Event) → IsProper e → SmallIf (bit_word_set e)
small_bit (Bit v) p = p
small_bit (Write q v) p = tt
small_bit (Word b w) p = tt
small_bit (Noise b) p = tt
small_bit (Gap b) p = tt
small_bit (Vector v) p = tt
small_bit (FlagIs f v) p = tt
small_bit Slot p = tt

small_recorded : (o : Option ℕ) → SmallIf o → SmallIf (recorded_by o)
small_recorded None a = tt
small_recorded (Some c) a = elim (is_last_command_code (cell_of c)) as (λ t. SmallIf (if t then None else Some c)) [ true ↦ tt | false ↦ a ]

small_start : (e : Event) (s : Bool) → IsProper e → SmallIf (if s then of_word (λ b w. w.bits) e else None)
small_start e false p = tt
small_start (Word b w) true p = p
small_start (Write q v) true p = tt
small_start (Noise b) true p = tt
small_start (Gap b) true p = tt
small_start (Vector v) true p = tt
small_start (Bit v) true p = tt
small_start (FlagIs f v) true p = tt
small_start Slot true p = tt

record Words (P : Description) (h : List Noted) : Type 0 where
  pub held : (s i : ℕ) → Small (held_now P h s i)
  pub vector : Small (vector_now P h)
  pub bit : Small (bit_now P h)
  pub last : Small (last_now h)
  pub message : (b : Bus) → SmallOpen (open_now P h b)

words_step : (P : Description) (h : List Event) (e : Event) → CanExist P → IsProper e → Words P (past P h) → Words P (past P (e ∷ h))
words_step P h e w p a =
    let n : Noted = note P (past P h) e in
    let zero_small : Small 0 = omega arith in
    record {
      held = λ s i. subst Small (sym (held_step P s i n (past P h)))
          (small_reset (is_reset n) (P.initial s i) _ (held_set P s i n) (w.initial s i)
          (small_either (written s i e) (wrapped P.wrap s i n.ends) (small_written s i e p) (small_wrapped P.wrap s i n.ends (small_end P (past P h) e a.message))) (a.held s i));
      vector = subst Small (sym (vector_step P n (past P h))) (small_reset (is_reset n) P.vector _ (vector_word_set e) w.vector (small_vector e p) a.vector);
      bit = subst Small (sym (bit_step P n (past P h))) (small_reset (is_reset n) P.bit _ (bit_word_set e) w.bit (small_bit e p) a.bit);
      last = subst Small (sym (last_step n (past P h))) (small_reset (is_reset n) 0 _ (recorded_by (start_bits n)) zero_small (small_recorded (start_bits n) (small_start e n.starts p)) a.last);
      message = λ b. subst SmallOpen (sym (open_law P (past P h) b e))
          (if_bus (ignores (reply_now (past P h)) e) (open_now P (past P h) b) _ (a.message b) (small_after P b e (starts_now P (past P h) e) (open_now P (past P h) b) p (a.message b)));
    }

words_law : (P : Description) (h : List Event) → CanExist P → AreProper h → Words P (past P h)
words_law P [] w a = record { held = w.initial; vector = w.vector; bit = w.bit; last = omega arith; message = λ b. tt }
words_law P (e ∷ h) w a = words_step P h e w a.0 (words_law P h w a.1)

-- what is sent
small_status : (a : ℕ) (s : StatusParts) → a ≤ 30 → Small (status_word a s)
small_status a s low = let e : status_word a s / 2048 ≡ a = (status_has_bits a s).address_field in omega (arith, e, low)

small_code : (P : Description) (h : List Noted) (code : ℕ) → Words P h → Small (code_word P h code)
small_code P h code w = by_tests (code == 16) (code == 18) (code == 19)
  where
    by_tests : (x y z : Bool) → Small (if x then vector_now P h else if y then last_now h else if z then bit_now P h else 0)
    by_tests true y z = w.vector
    by_tests false true z = w.last
    by_tests false false true = w.bit
    by_tests false false false = omega arith

small_reply : (P : Description) (h : List Noted) (cell : Option Cell) (m : ℕ) → Words P h → Small (reply_word P h cell m)
small_reply P h (Some (OwnTransmit s n)) m w = w.held s m
small_reply P h (Some (OwnMode code)) m w = small_code P h code w
small_reply P h (Some (OwnReceive s n)) m w = omega arith
small_reply P h (Some (BroadReceive s n)) m w = omega arith
small_reply P h (Some (BroadMode code)) m w = omega arith
small_reply P h None m w = omega arith

small_next : (P : Description) (h : List Noted) (r : Replying) → P.address ≤ 30 → Words P h → Small (next_sent P h r).bits
small_next P h r low w = by_first (r.number == 0)
  where
    by_first : (t : Bool) → Small (if t then sending r.bus Com (status_word P.address (kept_now P h)) else sending r.bus Dat (reply_word P h r.cell r.number)).bits
    by_first true = small_status P.address (kept_now P h) low
    by_first false = small_reply P h r.cell r.number w

abbrev SmallSent : Option Sending → Type 0
SmallSent None = Unit {0}
SmallSent (Some x) = Small x.bits

small_sends : (P : Description) (h : List Noted) (b : Bus) (r : Option Replying) → P.address ≤ 30 → Words P h → SmallSent (if_on b (sent_in (sending_out (sends P h r))))
small_sends P h b None low w = tt
small_sends P h b (Some r) low w = elim (same_bus b (next_sent P h r).bus) as (λ t. SmallSent (if t then Some (next_sent P h r) else None)) [ true ↦ small_next P h r low w | false ↦ tt ]

-- on the bus
record Sound (m : Member) : Type 0 where
  pub words : CanExist m.description
  pub proper : AreProper m.history

small_sent : (b : Bus) (m : Member) → Sound m → SmallSent (sent_on b m)
small_sent b m s = small_sends m.description (past m.description m.history) b (reply_now (past m.description m.history)) s.words.low (words_law m.description m.history s.words s.proper)

small_kept : (b : Bus) (ms : List Member) → Each Sound ms → Each (λ (x : Sending). Small x.bits) (sendings b ms)
small_kept b [] a = tt
small_kept b (m ∷ ms) a = by_answer (sent_on b m) (small_sent b m a.0) (small_kept b ms a.1)
  where
    by_answer : (o : Option Sending) → SmallSent o → Each (λ (x : Sending). Small x.bits) (sendings b ms) →
        Each (λ (x : Sending). Small x.bits) (elim o as (λ o. List Sending) [ None ↦ sendings b ms | Some x ↦ x ∷ sendings b ms ])
    by_answer None s r = r
    by_answer (Some x) s r = (s, r)

proper_carried : (b : Bus) (xs : List Sending) → Each (λ (x : Sending). Small x.bits) xs → AreProper (heard_of b xs)
proper_carried b [] a = tt
proper_carried b (x ∷ []) a = (a.0, tt)
proper_carried b (x ∷ y ∷ more) a = (tt, tt)

proper_unless : (o : Option Sending) (es : List Event) → AreProper es → AreProper (unless_sends o es)
proper_unless None es a = a
proper_unless (Some x) es a = tt

proper_join : (xs ys : List Event) → AreProper xs → AreProper ys → AreProper (xs ++ ys)
proper_join [] ys a b = b
proper_join (x ∷ xs) ys a b = (a.0, proper_join xs ys a.1 b)

proper_if : (t : Bool) (e : Event) → IsProper e → AreProper (if t then e ∷ [] else [])
proper_if true e a = (a, tt)
proper_if false e a = tt

proper_heard : (b : Bus) (ms : List Member) (m : Member) → Each Sound ms → AreProper (heard_on b ms m)
proper_heard b ms m a = proper_unless (sent_on b m) (heard_of b (sendings b ms)) (proper_carried b (sendings b ms) (small_kept b ms a))

proper_in : (ms : List Member) (x : BusEvent) (m : Member) → Each Sound ms → CanHappen x → AreProper (events_for ms x m)
proper_in ms (OnBus e) m a c = (c, tt)
proper_in ms SlotPasses m a c = (tt, proper_join (heard_on A ms m) (heard_on B ms m) (proper_heard A ms m a) (proper_heard B ms m a))
proper_in ms (Subsystem d e) m a c = proper_if (m.description.address == d) e c

proper_after : (es h : List Event) → AreProper es → AreProper h → AreProper (history_after es h)
proper_after [] h a b = b
proper_after (e ∷ es) h a b = proper_after es (e ∷ h) a.1 (a.0, b)

sound_map : (f : Member → List Event) (ms : List Member) → ((m : Member) → AreProper (f m)) → Each Sound ms → Each Sound (map (λ m. after_events (f m) m) ms)
sound_map f [] p a = tt
sound_map f (m ∷ ms) p a = (record { words = a.0.words; proper = proper_after (f m) m.history (p m) a.0.proper }, sound_map f ms p a.1)

proper_events : (xs : List BusEvent) (ms : List Member) (m : Member) → Each Sound ms → Each CanHappen xs → AreProper (all_events_for ms xs m)
proper_events [] ms m a c = tt
proper_events (x ∷ xs) ms m a c =
    proper_join (events_for ms x m) _ (proper_in ms x m a c.0)
    (proper_events xs (bus_after ms x) (after_events (events_for ms x m) m) (sound_map (events_for ms x) ms (λ m. proper_in ms x m a c.0) a) c.1)

sound_start : (Ps : List Description) → Each CanExist Ps → Each Sound (powered_up Ps)
sound_start [] a = tt
sound_start (P ∷ Ps) a = (record { words = a.0; proper = tt }, sound_start Ps a.1)

pub proper_law : (Ps : List Description) (xs : List BusEvent) (P : Description) → Each CanExist Ps → Each CanHappen xs → AreProper (all_events_for (powered_up Ps) xs (member_of P))
proper_law Ps xs P a c = proper_events xs (powered_up Ps) (member_of P) (sound_start Ps a) c
