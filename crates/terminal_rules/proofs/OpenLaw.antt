-- The message in progress after one event more.
use Rattle.std.proofs.Common.{◌≡◌, ℕ, Bool, true, false, not, ◌&&◌, if◌then◌else◌, Option, Some, None, List, [], ◌∷◌, refl, ap, ◌∙◌}
use Rattle.bus_word.specs.declared.word.Bus.{Bus}
use Rattle.bus_word.specs.declared.word.Bus.TheVariants.{A, B}
use Rattle.bus_word.specs.declared.word.Raw.{Raw}
use Rattle.bus_word.specs.declared.cell.Cell.{Cell}
use Rattle.bus_legal.specs.Description.{Description}
use Rattle.terminal_rules.specs.declared.event.Event.{Event}
use Rattle.terminal_rules.specs.declared.event.Event.TheVariants.{Word, Noise, Gap, Write, Vector, Bit, Flag as FlagIs, Slot}
use Rattle.terminal_rules.specs.Buses.{same_bus}
use Rattle.terminal_rules.specs.LookBack.{latest, since, oldest}
use Rattle.terminal_rules.specs.Reply.{reply_now, ignores}
use Rattle.terminal_rules.specs.Starts.{heard_now, is_free, is_fresh_broadcast, starts_message, starts_now}
use Rattle.terminal_rules.specs.Ends.{ends_now}
use Rattle.terminal_rules.specs.SinceReset.{off_now}
use Rattle.terminal_rules.specs.Turn.{is_answered, done_cell, turn_of_gap, turn_of_slot, unless_ignored_turn}
use Rattle.terminal_rules.specs.Past.{note}
use Rattle.terminal_rules.specs.History.{Replying, NoTurn, Noted, noted_as, Entry, Ending, Nothing, run}
use Rattle.terminal_rules.specs.Open.{Open, Idle, Collects, Waits, Resumes, transfer, is_status_of, first_message, awaited_of, open_of, open_now, waits_or_resumes, started_by, is_latest, before_gap}
use Rattle.terminal_rules.specs.Steps.{replies_on}

-- what a gap leaves of a message in progress
abbrev pub waits : Option (ℕ × ℕ) → Open
waits None = Idle
waits (Some t) = Waits t.0 t.1

abbrev pub after_gap : Description → Open → Open
after_gap P (Collects c after) = waits (transfer P (Some (c, after)))
after_gap P _ = Idle

-- what a word or noise leaves of it that starts nothing
abbrev pub unheard : Option Raw → Entry
unheard w = record { word = w; starts = false }

abbrev pub after_entry : Entry → Open → Open
after_entry x (Collects c after) = Collects c (x ∷ after)
after_entry x (Waits c a) = if is_status_of a x then Resumes c [] else Idle
after_entry x (Resumes c after) = Resumes c (x ∷ after)
after_entry x Idle = Idle

-- what a word leaves, by whether it starts a message
abbrev pub after_word : Bus → Bus → Raw → Bool → Open → Open
after_word b c w true o = if same_bus b c then Collects w.bits [] else Idle
after_word b c w false o = if same_bus b c then after_entry (unheard (Some w)) o else o

abbrev pub after_event : Description → Bus → Event → Bool → Open → Open
after_event P b (Word c w) starts o = after_word b c w starts o
after_event P b (Noise c) starts o = if same_bus b c then after_entry (unheard None) o else o
after_event P b (Gap c) starts o = if same_bus b c then after_gap P o else o
after_event P b e starts o = o

closes : (P : Description) (c a : ℕ) (x : Option (Entry × List Entry)) → Idle ≡ after_gap P (waits_or_resumes c a x)
closes P c a None = refl
closes P c a (Some p) =
    elim (is_status_of a p.0) as (λ s. Idle ≡ after_gap P (if s then Resumes c p.1 else Idle)) [ true ↦ refl | false ↦ refl ]

gap_of : (P : Description) (r : List Entry) (f : Option (ℕ × List Entry)) (t : Option (ℕ × ℕ)) → open_of [] None (transfer P f) ≡ after_gap P (open_of r f t)
gap_of P r None None = refl
gap_of P r None (Some t) = closes P t.0 t.1 (oldest r)
gap_of P r (Some f) t = elim (transfer P (Some f)) as (λ u. open_of [] None u ≡ waits u) [ None ↦ refl | Some u ↦ refl ]

run_law : (P : Description) (l : Bool) (r : List Entry) (t : Option (ℕ × ℕ)) →
    open_of [] (first_message l []) (if l then transfer P (first_message l r) else None) ≡ after_gap P (open_of r (first_message l r) t)
run_law P false r t = gap_of P r None t
run_law P true r t = gap_of P r (first_message true r) t

second_law : (x : Entry) (c a : ℕ) (o : Option (Entry × List Entry)) (r : List Entry) → oldest r ≡ o →
    waits_or_resumes c a (oldest (x ∷ r)) ≡ after_entry x (waits_or_resumes c a o)
second_law x c a None r e = ap (λ o. waits_or_resumes c a (elim o [ None ↦ Some (x, []) | Some p ↦ Some (p.0, x ∷ p.1) ])) e
second_law x c a (Some p) r e =
    ap (λ o. waits_or_resumes c a (elim o [ None ↦ Some (x, []) | Some p ↦ Some (p.0, x ∷ p.1) ])) e
    ∙ elim (is_status_of a p.0) as (λ s. (if s then Resumes c (x ∷ p.1) else Idle) ≡ after_entry x (if s then Resumes c p.1 else Idle)) [ true ↦ refl | false ↦ refl ]

unheard_law : (w : Option Raw) (r : List Entry) (t : Option (ℕ × ℕ)) → open_of (unheard w ∷ r) None t ≡ after_entry (unheard w) (open_of r None t)
unheard_law w r None = refl
unheard_law w r (Some t) = second_law (unheard w) t.0 t.1 (oldest r) r refl

entry_law : (w : Option Raw) (l : Bool) (r : List Entry) (t : Option (ℕ × ℕ)) →
    open_of (unheard w ∷ r) (first_message l (unheard w ∷ r)) t ≡ after_entry (unheard w) (open_of r (first_message l r) t)
entry_law w false r t = unheard_law w r t
entry_law w true r t =
    let x : Entry = unheard w in
    elim (latest started_by r) as (λ m. open_of (x ∷ r) (elim m [ None ↦ None | Some c ↦ Some (c, x ∷ since (λ x. x.starts) r) ]) t ≡ after_entry x (open_of r (elim m [ None ↦ None | Some c ↦ Some (c, since (λ x. x.starts) r) ]) t)) [ None ↦ unheard_law w r t | Some c ↦ refl ]

-- a word that isn't ignored, whether it starts a message being told
pub word_law : (P : Description) (h : List Noted) (b c : Bus) (w : Raw) (s : Bool) (x : Ending) → open_now P (noted_as (Word c w) NoTurn s x ∷ h) b ≡ after_word b c w s (open_now P h b)
word_law P h A A w true x = refl
word_law P h A A w false x = entry_law (Some w) (is_latest h A) (run h A) (awaited_of P A (is_latest h A) (before_gap h A))
word_law P h A B w true x = refl
word_law P h A B w false x = refl
word_law P h B A w true x = refl
word_law P h B A w false x = refl
word_law P h B B w true x = refl
word_law P h B B w false x = entry_law (Some w) (is_latest h B) (run h B) (awaited_of P B (is_latest h B) (before_gap h B))

pub noise_law : (P : Description) (h : List Noted) (b c : Bus) (x : Ending) →
    open_now P (noted_as (Noise c) NoTurn false x ∷ h) b ≡ (if same_bus b c then after_entry (unheard None) (open_now P h b) else open_now P h b)
noise_law P h A A x = entry_law None (is_latest h A) (run h A) (awaited_of P A (is_latest h A) (before_gap h A))
noise_law P h A B x = refl
noise_law P h B A x = refl
noise_law P h B B x = entry_law None (is_latest h B) (run h B) (awaited_of P B (is_latest h B) (before_gap h B))

-- a gap that isn't ignored, whether a reply begins being told
pub gap_law : (P : Description) (h : List Noted) (b c : Bus) (a : Bool) (cell : Option Cell) (x : Ending) →
    open_now P (noted_as (Gap c) (turn_of_gap c a cell) false x ∷ h) b ≡ (if same_bus b c then after_gap P (open_now P h b) else open_now P h b)
gap_law P h A A true cell x = run_law P (is_latest h A) (run h A) (awaited_of P A (is_latest h A) (before_gap h A))
gap_law P h A A false cell x = run_law P (is_latest h A) (run h A) (awaited_of P A (is_latest h A) (before_gap h A))
gap_law P h A B true cell x = refl
gap_law P h A B false cell x = refl
gap_law P h B A true cell x = refl
gap_law P h B A false cell x = refl
gap_law P h B B true cell x = run_law P (is_latest h B) (run h B) (awaited_of P B (is_latest h B) (before_gap h B))
gap_law P h B B false cell x = run_law P (is_latest h B) (run h B) (awaited_of P B (is_latest h B) (before_gap h B))

-- an event, whether it is ignored being told
heard_word : (P : Description) (h : List Noted) (b c : Bus) (w : Raw) (i s : Bool) (x : Ending) →
    open_now P (noted_as (Word c w) (unless_ignored_turn i NoTurn) (not i && s) x ∷ h) b ≡ (if i then open_now P h b else after_word b c w (not i && s) (open_now P h b))
heard_word P h b c w true s x = refl
heard_word P h b c w false s x = word_law P h b c w s x

heard_noise : (P : Description) (h : List Noted) (b c : Bus) (i : Bool) (x : Ending) →
    open_now P (noted_as (Noise c) (unless_ignored_turn i NoTurn) false x ∷ h) b ≡ (if i then open_now P h b else (if same_bus b c then after_entry (unheard None) (open_now P h b) else open_now P h b))
heard_noise P h b c true x = refl
heard_noise P h b c false x = noise_law P h b c x

heard_gap : (P : Description) (h : List Noted) (b c : Bus) (i a : Bool) (cell : Option Cell) (x : Ending) →
    open_now P (noted_as (Gap c) (unless_ignored_turn i (turn_of_gap c a cell)) false x ∷ h) b ≡ (if i then open_now P h b else (if same_bus b c then after_gap P (open_now P h b) else open_now P h b))
heard_gap P h b c true a cell x = refl
heard_gap P h b c false a cell x = gap_law P h b c a cell x

pub slot_law : (P : Description) (h : List Noted) (b : Bus) (r : Option Replying) (x : Ending) → open_now P (noted_as Slot (turn_of_slot r) false x ∷ h) b ≡ open_now P h b
slot_law P h b None x = refl
slot_law P h b (Some r) x = refl

-- the message in progress after an event, from what it was before
pub open_law : (P : Description) (h : List Noted) (b : Bus) (e : Event) →
    open_now P (note P h e ∷ h) b ≡ (if ignores (reply_now h) e then open_now P h b else after_event P b e (starts_now P h e) (open_now P h b))
open_law P h b (Word c w) =
    heard_word P h b c w (replies_on h c) (starts_message P w (heard_now P h c) (is_free (open_now P h c)) (is_fresh_broadcast (open_now P h c))) (ends_now P h (Word c w))
open_law P h b (Noise c) = heard_noise P h b c (replies_on h c) (ends_now P h (Noise c))
open_law P h b (Gap c) =
    heard_gap P h b c (replies_on h c) (is_answered (off_now h c) (ends_now P h (Gap c))) (done_cell (ends_now P h (Gap c))) (ends_now P h (Gap c))
open_law P h b Slot = slot_law P h b (reply_now h) Nothing
open_law P h b (Write q v) = refl
open_law P h b (Vector v) = refl
open_law P h b (Bit v) = refl
open_law P h b (FlagIs f v) = refl
