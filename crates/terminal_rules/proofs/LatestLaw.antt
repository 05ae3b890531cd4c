-- The message in progress is that of the latest start of all.
use Rattle.std.proofs.Common.{◌≡◌, ℕ, Bool, true, false, not, ◌&&◌, if◌then◌else◌, ◌⊎◌, inl, inr, Option, Some, None, List, [], ◌∷◌, refl, ap, sym, ◌∙◌}
use Rattle.bus_word.specs.declared.word.Bus.{Bus}
use Rattle.bus_word.specs.declared.word.Bus.TheVariants.{A, B}
use Rattle.bus_word.specs.declared.word.Raw.{Raw}
use Rattle.bus_word.specs.Command.{is_receive}
use Rattle.bus_legal.specs.Description.{Description}
use Rattle.terminal_rules.specs.declared.event.Event.{Event}
use Rattle.terminal_rules.specs.declared.event.Event.TheVariants.{Word, Noise, Gap, Write, Vector, Bit, Flag as FlagIs, Slot}
use Rattle.terminal_rules.specs.Buses.{same_bus}
use Rattle.terminal_rules.specs.LookBack.{latest}
use Rattle.terminal_rules.specs.History.{Noted, Entry, run, of_word}
use Rattle.terminal_rules.specs.Open.{Open, Idle, Collects, Waits, Resumes, transfer, is_status_of, transmitter, is_on, is_latest, start_bus, first_message, awaited_of, open_of, open_now, before_gap}
use Rattle.terminal_rules.specs.Reply.{reply_now, ignores}
use Rattle.terminal_rules.specs.Starts.{heard_now, is_free, is_fresh_broadcast, starts_message, starts_now}
use Rattle.terminal_rules.specs.Past.{past}
use Rattle.terminal_rules.specs.OpenLaws.{start_of, command_open, LatestStartLaw, OneMessageLaw}
use Rattle.terminal_rules.proofs.OpenLaw.{open_law, after_word, after_gap, after_entry, after_event, waits, unheard}

-- the command is the same, or the message is over
abbrev Stays : Open → Open → Type 0
Stays o o' = (c : ℕ) → command_open o ≡ Some c → command_open o' ≡ Some c

entry_stays : (x : Entry) (o : Open) → Stays (after_entry x o) o
entry_stays x Idle c e = e
entry_stays x (Collects d after) c e = e
entry_stays x (Waits d a) c e = by_test (is_status_of a x) e
  where
    by_test : (s : Bool) → command_open (if s then Resumes d [] else Idle) ≡ Some c → Some d ≡ Some c
    by_test true e = e
    by_test false e = cc
entry_stays x (Resumes d after) c e = e

-- a transfer has the command of its message
transfer_stays : (P : Description) (d : ℕ) (after : List Entry) → Stays (waits (transfer P (Some (d, after)))) (Collects d after)
transfer_stays P d [] c e = cc
transfer_stays P d (x ∷ []) c e = by_tests (is_receive d) (transmitter P x) e
  where
    by_tests : (r : Bool) (o : Option ℕ) → command_open (waits (if r then (elim o as (λ o. Option (ℕ × ℕ)) [ None ↦ None | Some a ↦ Some (d, a) ]) else None)) ≡ Some c → Some d ≡ Some c
    by_tests true None e = cc
    by_tests true (Some a) e = e
    by_tests false o e = cc
transfer_stays P d (x ∷ y ∷ ys) c e = cc

gap_stays : (P : Description) (o : Open) → Stays (after_gap P o) o
gap_stays P Idle c e = e
gap_stays P (Collects d after) c e = transfer_stays P d after c e
gap_stays P (Waits d a) c e = cc
gap_stays P (Resumes d after) c e = cc

choice_stays : (x : Bool) (o o' : Open) → Stays o o' → Stays (if x then o else o') o'
choice_stays true o o' k = k
choice_stays false o o' k = λ c e. e

-- an event that starts nothing
quiet_stays : (P : Description) (b : Bus) (e : Event) (o : Open) → Stays (after_event P b e false o) o
quiet_stays P b (Word c w) o = choice_stays (same_bus b c) _ o (entry_stays (unheard (Some w)) o)
quiet_stays P b (Noise c) o = choice_stays (same_bus b c) _ o (entry_stays (unheard None) o)
quiet_stays P b (Gap c) o = choice_stays (same_bus b c) _ o (gap_stays P o)
quiet_stays P b (Write q v) o = λ c e. e
quiet_stays P b (Vector v) o = λ c e. e
quiet_stays P b (Bit v) o = λ c e. e
quiet_stays P b (FlagIs f v) o = λ c e. e
quiet_stays P b Slot o = λ c e. e

-- a word that starts a message
started_is : (b d : Bus) (w : Raw) (c : ℕ) (o : Open) → command_open (after_word b d w true o) ≡ Some c → (let s : Option (Bus × ℕ) = Some (d, w.bits) in s) ≡ Some (b, c)
started_is A A w c o e = ap (λ (m : Option ℕ). elim m as (λ m. Option (Bus × ℕ)) [ None ↦ None | Some k ↦ Some (A, k) ]) e
started_is A B w c o e = cc
started_is B A w c o e = cc
started_is B B w c o e = ap (λ (m : Option ℕ). elim m as (λ m. Option (Bus × ℕ)) [ None ↦ None | Some k ↦ Some (B, k) ]) e

-- only words start messages
abbrev StartsAsWord : Event → Bool → Type 0
StartsAsWord (Word b w) s = Unit {0}
StartsAsWord e s = s ≡ false

word_starts : (P : Description) (h : List Noted) (e : Event) → StartsAsWord e (starts_now P h e)
word_starts P h (Word b w) = tt
word_starts P h (Noise b) = refl
word_starts P h (Gap b) = refl
word_starts P h (Write q v) = refl
word_starts P h (Vector v) = refl
word_starts P h (Bit v) = refl
word_starts P h (FlagIs f v) = refl
word_starts P h Slot = refl

by_start : (P : Description) (b : Bus) (e : Event) (s : Bool) (o : Open) (l : Option (Bus × ℕ)) (c : ℕ) → StartsAsWord e s →
    command_open (after_event P b e s o) ≡ Some c → ((d : ℕ) → command_open o ≡ Some d → l ≡ Some (b, d)) →
    (elim (if s then of_word {X = Bus × ℕ} (λ b w. (b, w.bits)) e else None) as (λ m. Option (Bus × ℕ)) [ None ↦ l | Some y ↦ Some y ]) ≡ Some (b, c)
by_start P b e false o l c k h before = before c (quiet_stays P b e o c h)
by_start P b (Word d w) true o l c k h before = started_is b d w c o h
by_start P b (Noise d) true o l c k h before = cc
by_start P b (Gap d) true o l c k h before = cc
by_start P b (Write q v) true o l c k h before = cc
by_start P b (Vector v) true o l c k h before = cc
by_start P b (Bit v) true o l c k h before = cc
by_start P b (FlagIs f v) true o l c k h before = cc
by_start P b Slot true o l c k h before = cc

-- what is ignored starts nothing
ignored_starts : (P : Description) (h : List Noted) (e : Event) → ignores (reply_now h) e ≡ true → starts_now P h e ≡ false
ignored_starts P h (Word b w) i = ap (λ i. not i && starts_message P w (heard_now P h b) (is_free (open_now P h b)) (is_fresh_broadcast (open_now P h b))) i
ignored_starts P h (Noise b) i = refl
ignored_starts P h (Gap b) i = refl
ignored_starts P h (Write q v) i = refl
ignored_starts P h (Vector v) i = refl
ignored_starts P h (Bit v) i = refl
ignored_starts P h (FlagIs f v) i = refl
ignored_starts P h Slot i = refl

by_ignored : (P : Description) (b : Bus) (e : Event) (i s : Bool) (o : Open) (l : Option (Bus × ℕ)) (c : ℕ) → StartsAsWord e s → (i ≡ true → s ≡ false) →
    command_open (if i then o else after_event P b e s o) ≡ Some c → ((d : ℕ) → command_open o ≡ Some d → l ≡ Some (b, d)) →
    (elim (if s then of_word {X = Bus × ℕ} (λ b w. (b, w.bits)) e else None) as (λ m. Option (Bus × ℕ)) [ None ↦ l | Some y ↦ Some y ]) ≡ Some (b, c)
by_ignored P b e false s o l c k q h before = by_start P b e s o l c k h before
by_ignored P b e true false o l c k q h before = before c h
by_ignored P b e true true o l c k q h before = let wrong : true ≡ false = q refl in cc

pub latest_start_law : LatestStartLaw
latest_start_law P [] b c e = empty b c e
  where
    empty : (b : Bus) (c : ℕ) → command_open (open_now P [] b) ≡ Some c → (let n : Option (Bus × ℕ) = None in n ≡ Some (b, c))
    empty A c e = cc
    empty B c e = cc
latest_start_law P (e ∷ h) b c i =
    by_ignored P b e (ignores (reply_now (past P h)) e) (starts_now P (past P h) e) (open_now P (past P h) b) (latest start_of (past P h)) c (word_starts P (past P h) e) (ignored_starts P (past P h) e)
    (sym (ap command_open (open_law P (past P h) b e)) ∙ i)
    (latest_start_law P h b)

-- both buses at once
closed_unless_latest : (P : Description) (h : List Noted) (b : Bus) → is_latest h b ≡ false → open_now P h b ≡ Idle
closed_unless_latest P h b e = ap (λ l. open_of (run h b) (first_message l (run h b)) (awaited_of P b l (before_gap h b))) e

one_latest : (o : Option Bus) → (is_on A o ≡ false) ⊎ (is_on B o ≡ false)
one_latest None = inl refl
one_latest (Some A) = inr refl
one_latest (Some B) = inl refl

pub one_message_law : OneMessageLaw
one_message_law P h =
    elim (one_latest (latest start_bus (past P h))) [
      | inl e ↦ inl (closed_unless_latest P (past P h) A e)
      | inr e ↦ inr (closed_unless_latest P (past P h) B e)
    ]
