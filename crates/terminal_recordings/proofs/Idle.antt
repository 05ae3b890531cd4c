-- While a reply is in progress, no message is.
use Rattle.std.proofs.Common.{◌≡◌, ℕ, Bool, true, false, not, ◌&&◌, ◌==◌, if◌then◌else◌, ◌⊎◌, inl, inr, Option, Some, None, is_some, List, [], ◌∷◌, refl, ap, sym, ◌∙◌}
use Rattle.bus_word.specs.declared.word.Bus.{Bus}
use Rattle.bus_word.specs.declared.word.Bus.TheVariants.{A, B}
use Rattle.bus_word.specs.declared.word.Kind.{Kind}
use Rattle.bus_word.specs.declared.word.Kind.TheVariants.{Com, Dat}
use Rattle.bus_word.specs.declared.word.Raw.{Raw}
use Rattle.bus_word.specs.Word.{is_valid, is_command_sync, is_data_sync}
use Rattle.bus_word.specs.Command.{address_of, transmits, is_receive, is_broadcast}
use Rattle.bus_legal.specs.Description.{Description}
use Rattle.terminal_rules.specs.declared.event.Event.{Event}
use Rattle.terminal_rules.specs.declared.event.Event.TheVariants.{Word, Noise, Gap, Write, Vector, Bit, Flag as FlagIs, Slot}
use Rattle.terminal_rules.specs.declared.event.Flag.TheVariants.{Busy}
use Rattle.terminal_rules.specs.Buses.{same_bus}
use Rattle.terminal_rules.specs.History.{Noted, Entry, Nothing, Replying}
use Rattle.terminal_rules.specs.Open.{Open, Idle, Collects, Waits, Resumes, open_now, transfer, transmitter}
use Rattle.terminal_rules.specs.Reply.{reply_now, ignores}
use Rattle.terminal_rules.specs.Flags.{flag_now}
use Rattle.terminal_rules.specs.Starts.{starts_now}
use Rattle.terminal_rules.specs.Ends.{with_word, data_of, if_expected, complete, ends_with, at_gap, at_entry, unless_ignored, ends_now}
use Rattle.terminal_rules.specs.SinceReset.{off_now}
use Rattle.terminal_rules.specs.Turn.{is_answered, done_cell}
use Rattle.terminal_rules.specs.Past.{note, past}
use Rattle.terminal_rules.specs.Steps.{replies_on, sent_one, begun_if, dropped_if}
use Rattle.terminal_rules.proofs.OpenLaw.{after_gap, after_event, waits, open_law}
use Rattle.terminal_rules.proofs.LatestLaw.{one_message_law}
use Rattle.terminal_recordings.proofs.Summary.{reply_law}

-- a message that ends well with a gap doesn't wait
is_expected : (c : ℕ) (m : Option (List ℕ)) → is_some (if_expected c m) ≡ true → is_some m ≡ true
is_expected c None e = e
is_expected c (Some ds) e = refl

abbrev alone : Bool → Option ℕ → ℕ → Option (ℕ × ℕ)
alone r o c = if r then (elim o as (λ o. Option (ℕ × ℕ)) [ None ↦ None | Some a ↦ Some (c, a) ]) else None

no_transmitter : (r : Bool) (c : ℕ) → alone r None c ≡ None
no_transmitter true c = refl
no_transmitter false c = refl

by_kind : (k : Kind) (v m r : Bool) (b a c : ℕ) → is_some (with_word (Some []) (if is_data_sync k && v then Some b else None)) ≡ true → alone r (if is_command_sync k && v && m then Some a else None) c ≡ None
by_kind Com v m r b a c e = cc
by_kind Dat v m r b a c e = no_transmitter r c

by_word : (P : Description) (c : ℕ) (w : Option Raw) (s : Bool) → (let x : Entry = record { word = w; starts = s } in is_some (with_word (Some []) (data_of x.word)) ≡ true → alone (is_receive c) (transmitter P x) c ≡ None)
by_word P c None s e = cc
by_word P c (Some w) s e =
    by_kind w.kind (is_valid w) (transmits w.bits && (not (address_of w.bits == P.address) && not (is_broadcast w.bits))) (is_receive c) w.bits (address_of w.bits) c e

no_transfer : (P : Description) (c : ℕ) (after : List Entry) → is_some (complete c after) ≡ true → transfer P (Some (c, after)) ≡ None
no_transfer P c [] e = refl
no_transfer P c (x ∷ []) e = by_word P c x.word x.starts (is_expected c (with_word (Some []) (data_of x.word)) e)
no_transfer P c (x ∷ y ∷ ys) e = refl

-- what is answered ended well
ended_well : (P : Description) (busy off : Bool) (c : ℕ) (m : Option (List ℕ)) (t : Option (ℕ × ℕ)) → is_answered off (ends_with P busy c m t) ≡ true → is_some m ≡ true
ended_well P busy off c None None e = cc
ended_well P busy off c None (Some t) e = cc
ended_well P busy off c (Some ds) t e = refl

-- the message that a gap ends is over, and there was one
abbrev Over : Description → Open → Type 0
Over P o = (after_gap P o ≡ Idle) × (o ≡ Idle → ⊥)

gap_over : (P : Description) (busy off : Bool) (o : Open) → is_answered off (at_gap P busy o) ≡ true → Over P o
gap_over P busy off Idle e = cc
gap_over P busy off (Collects c after) e =
    (ap waits (no_transfer P c after (ended_well P busy off c (complete c after) (transfer P (Some (c, after))) e)), λ i. cc)
gap_over P busy off (Waits c a) e = cc
gap_over P busy off (Resumes c after) e = (refl, λ i. cc)

-- and the other bus has none
other_idle : (o : Bus → Open) → (o A ≡ Idle) ⊎ (o B ≡ Idle) → (P : Description) (b c : Bus) → Over P (o c) → (if same_bus b c then after_gap P (o b) else o b) ≡ Idle
other_idle o one P A A over = over.0
other_idle o one P B B over = over.0
other_idle o one P A B over = elim one [ inl e ↦ e | inr e ↦ absurd (over.1 e) ]
other_idle o one P B A over = elim one [ inl e ↦ absurd (over.1 e) | inr e ↦ e ]

-- what is not in progress stays so, unless it is started
idle_stays : (P : Description) (b : Bus) (e : Event) → after_event P b e false Idle ≡ Idle
idle_stays P b (Word c w) = elim (same_bus b c) as (λ s. (let o : Open = Idle in if s then Idle else o) ≡ Idle) [ true ↦ refl | false ↦ refl ]
idle_stays P b (Noise c) = elim (same_bus b c) as (λ s. (let o : Open = Idle in if s then Idle else o) ≡ Idle) [ true ↦ refl | false ↦ refl ]
idle_stays P b (Gap c) = elim (same_bus b c) as (λ s. (let o : Open = Idle in if s then Idle else o) ≡ Idle) [ true ↦ refl | false ↦ refl ]
idle_stays P b (Write q v) = refl
idle_stays P b (Vector v) = refl
idle_stays P b (Bit v) = refl
idle_stays P b (FlagIs f v) = refl
idle_stays P b Slot = refl

choice : (i : Bool) (o o' : Open) → o ≡ Idle → o' ≡ Idle → (if i then o else o') ≡ Idle
choice true o o' p q = p
choice false o o' p q = q

-- an event that starts nothing, after which no message is in progress if none was before
pub stays : (P : Description) (h : List Noted) (e : Event) (b : Bus) → starts_now P h e ≡ false → open_now P h b ≡ Idle → open_now P (note P h e ∷ h) b ≡ Idle
stays P h e b s o =
    open_law P h b e
    ∙ choice (ignores (reply_now h) e) _ _ o ((λ j. after_event P b e (s j) (o j)) ∙ idle_stays P b e)

none_dropped : (s : Bool) (r : Option Replying) → is_some (dropped_if s r) ≡ true → (s ≡ false) × (is_some r ≡ true)
none_dropped true r e = cc
none_dropped false r e = (refl, e)

was_sent : (r : Option Replying) → is_some (sent_one r) ≡ true → is_some r ≡ true
was_sent None e = e
was_sent (Some r) e = refl

gap_idle : (P : Description) (h : List Event) (c b : Bus) (i : Bool) →
    is_answered (off_now (past P h) c) (unless_ignored i (at_gap P (flag_now (past P h) Busy) (open_now P (past P h) c))) ≡ true →
    (if i then open_now P (past P h) b else after_event P b (Gap c) false (open_now P (past P h) b)) ≡ Idle
gap_idle P h c b true e = cc
gap_idle P h c b false e = other_idle (open_now P (past P h)) (one_message_law P h) P b c (gap_over P (flag_now (past P h) Busy) (off_now (past P h) c) (open_now P (past P h) c) e)

by_answer : (P : Description) (h : List Event) (c b : Bus) (a : Bool) → is_answered (off_now (past P h) c) (ends_now P (past P h) (Gap c)) ≡ a →
    is_some (begun_if a c (done_cell (ends_now P (past P h) (Gap c))) (reply_now (past P h))) ≡ true →
    (is_some (reply_now (past P h)) ≡ true → open_now P (past P h) b ≡ Idle) → open_now P (past P (Gap c ∷ h)) b ≡ Idle
by_answer P h c b true a e before = open_law P (past P h) b (Gap c) ∙ gap_idle P h c b (replies_on (past P h) c) a
by_answer P h c b false a e before = stays P (past P h) (Gap c) b refl (before e)

pub reply_idle : (P : Description) (h : List Event) → is_some (reply_now (past P h)) ≡ true → (b : Bus) → open_now P (past P h) b ≡ Idle
reply_idle P [] e b = cc
reply_idle P (Word c w ∷ h) e b =
    let d : (starts_now P (past P h) (Word c w) ≡ false) × (is_some (reply_now (past P h)) ≡ true) = none_dropped (starts_now P (past P h) (Word c w)) (reply_now (past P h)) (sym (ap is_some (reply_law P (past P h) (Word c w))) ∙ e) in
    stays P (past P h) (Word c w) b d.0 (reply_idle P h d.1 b)
reply_idle P (Noise c ∷ h) e b = stays P (past P h) (Noise c) b refl (reply_idle P h (sym (ap is_some (reply_law P (past P h) (Noise c))) ∙ e) b)
reply_idle P (Slot ∷ h) e b = stays P (past P h) Slot b refl (reply_idle P h (was_sent (reply_now (past P h)) (sym (ap is_some (reply_law P (past P h) Slot)) ∙ e)) b)
reply_idle P (Write q v ∷ h) e b = stays P (past P h) (Write q v) b refl (reply_idle P h (sym (ap is_some (reply_law P (past P h) (Write q v))) ∙ e) b)
reply_idle P (Vector v ∷ h) e b = stays P (past P h) (Vector v) b refl (reply_idle P h (sym (ap is_some (reply_law P (past P h) (Vector v))) ∙ e) b)
reply_idle P (Bit v ∷ h) e b = stays P (past P h) (Bit v) b refl (reply_idle P h (sym (ap is_some (reply_law P (past P h) (Bit v))) ∙ e) b)
reply_idle P (FlagIs f v ∷ h) e b = stays P (past P h) (FlagIs f v) b refl (reply_idle P h (sym (ap is_some (reply_law P (past P h) (FlagIs f v))) ∙ e) b)
reply_idle P (Gap c ∷ h) e b =
    by_answer P h c b (is_answered (off_now (past P h) c) (ends_now P (past P h) (Gap c))) refl (sym (ap is_some (reply_law P (past P h) (Gap c))) ∙ e)
    (λ r. reply_idle P h r b)

-- so an event ends none
nothing_unless : (i : Bool) → unless_ignored i Nothing ≡ Nothing
nothing_unless true = refl
nothing_unless false = refl

pub none_ended : (P : Description) (h : List Noted) (e : Event) → ((b : Bus) → open_now P h b ≡ Idle) → ends_now P h e ≡ Nothing
none_ended P h (Gap b) o = (λ j. unless_ignored (replies_on h b) (at_gap P (flag_now h Busy) (o b j))) ∙ nothing_unless (replies_on h b)
none_ended P h (Word b w) o = (λ j. unless_ignored (replies_on h b) (at_entry (Some w) (o b j))) ∙ nothing_unless (replies_on h b)
none_ended P h (Noise b) o = (λ j. unless_ignored (replies_on h b) (at_entry None (o b j))) ∙ nothing_unless (replies_on h b)
none_ended P h (Write q v) o = refl
none_ended P h (Vector v) o = refl
none_ended P h (Bit v) o = refl
none_ended P h (FlagIs f v) o = refl
none_ended P h Slot o = refl

pub nothing_ends : (P : Description) (h : List Event) (e : Event) → is_some (reply_now (past P h)) ≡ true → ends_now P (past P h) e ≡ Nothing
nothing_ends P h e r = none_ended P (past P h) e (reply_idle P h r)
