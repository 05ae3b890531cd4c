-- A transfer, at each of its terminals by itself.
use Rattle.std.proofs.Common.{◌≡◌, ◌≢◌, ℕ, zero, suc, ◌+◌, Bool, true, false, not, ◌&&◌, ◌||◌, ◌==◌, nat_le, if◌then◌else◌, Option, Some, None, List, [], ◌∷◌, length, refl, ap, sym, ◌∙◌, subst, arith, eq-eqb, length-append}
use Rattle.std.proofs.lemmas.Bool.{ne_eqb}
use Rattle.bus_word.specs.declared.word.Bus.{Bus}
use Rattle.bus_word.specs.declared.word.Kind.TheVariants.{Com, Dat}
use Rattle.bus_word.specs.declared.cell.Cell.{Cell}
use Rattle.bus_word.specs.declared.cell.Cell.TheVariants.{OwnReceive, OwnTransmit, BroadReceive, OwnMode, BroadMode}
use Rattle.bus_word.specs.declared.mode.ModeRow.{ModeRow}
use Rattle.bus_word.specs.Mode.{mode_row}
use Rattle.bus_word.specs.Word.{valid_word}
use Rattle.bus_word.specs.Command.{address_of, transmits, subaddress_of, code_of, count_of, is_mode, is_receive, is_broadcast, expected}
use Rattle.bus_word.specs.Cell.{same_bool, mode_cell_by, cell_of}
use Rattle.bus_legal.specs.Description.{Description}
use Rattle.terminal_rules.specs.declared.event.Event.{Event}
use Rattle.terminal_rules.specs.declared.event.Event.TheVariants.{Word, Gap, Slot}
use Rattle.terminal_rules.specs.Buses.{same_bus, other}
use Rattle.terminal_rules.specs.History.{Ending, Nothing, Badly, Illegal, Done}
use Rattle.terminal_rules.specs.Open.{Idle, Collects, Waits, Resumes}
use Rattle.terminal_rules.specs.Reply.{reply_after}
use Rattle.terminal_rules.specs.Starts.{is_meant, is_free}
use Rattle.terminal_rules.specs.Ends.{with_word, if_expected, verdict, ends_with, ends_now}
use Rattle.terminal_rules.specs.Steps.{begun_if}
use Rattle.terminal_rules.specs.Past.{past}
use Rattle.terminal_rules.proofs.ReplyLaw.{next_of, no_words}
use Rattle.terminal_recordings.proofs.Endings.{effects}
use Rattle.terminal_bus.proofs.Cells.{receives_law, transmits_law}
use Rattle.terminal_bus.proofs.Walk.{valid, other_command, asked, gapped, sent_at, slots_hist, heard_hist, words_to}
use Rattle.terminal_schedules.proofs.Seen.{Seen, SeenOpen, seen_word, command_in, is_awaited, seen_words, seen_transfer, seen_waits, gap_ending, entry_ending, worded, starting, seen_fresh, gapped as gap_leaves}
use Rattle.terminal_schedules.proofs.Step.{SeenEvent, WordComes, GapComes, Shape, reset_by, next, next_with, ends_as, shown, shown_next, shown_step, masked, event_can, none_can}
use Rattle.terminal_schedules.proofs.Rests.{resting, shut_none, false_both, word_rests, slot_shown, gap_shown}
use Rattle.terminal_schedules.proofs.Single.{collecting, datum, seen_datum, same_self, Leaves, word_collected, gap_done, stays_on, error_done, error_start, no_end, meant_command, command_collects, command_rests}
use Rattle.terminal_schedules.specs.Schedule.{asks_by}

-- a message on a bus without a command in its run
abbrev pub holding : Bus → SeenOpen → Shape
holding b o = record {
  message = λ a. if same_bus a b then o else Idle;
  heard = λ a. false;
  reply = None;
  off = λ a. false;
  busy = false;
  error = false;
}

-- the gap after both commands, at the one that receives
waits_if : (t : Bool) (c : ℕ) (xs : List Seen) (a : ℕ) → seen_transfer c xs ≡ Some (c, a) →
    (if t then gap_leaves (if t then Collects c xs else Idle) else (if t then Collects c xs else Idle)) ≡ (if t then Waits c a else Idle)
waits_if true c xs a e = ap seen_waits e
waits_if false c xs a e = refl

gap_unheard : (t : Bool) → (if t then false else t) ≡ false
gap_unheard true = refl
gap_unheard false = refl

gap_waits : (P : Description) (b : Bus) (c a : ℕ) (s : Seen) → s.carried ≡ None → seen_transfer c (s ∷ []) ≡ Some (c, a) → next P (GapComes b) (collecting b c (s ∷ [])) ≡ holding b (Waits c a)
gap_waits P b c a s k e =
    let t : Shape = collecting b c (s ∷ []) in
    let v : SeenEvent = GapComes b in
    let ends : gap_ending P false (if same_bus b b then Collects c (s ∷ []) else Idle) ≡ Nothing =
    ap (λ u. gap_ending P false (if u then Collects c (s ∷ []) else Idle)) (same_self b) ∙ (λ j. ends_with P false c (if_expected c (with_word (Some []) (k j))) (e j)) in
    (λ j. next_with P v t false None (ends j) (reset_by v (effects P (ends j)) t))
    ∙ (λ j. record {
      message = λ d. waits_if (same_bus d b) c (s ∷ []) a e j;
      heard = λ d. gap_unheard (same_bus d b) j;
      reply = None;
      off = λ d. shut_none (same_bus (other d) b) j;
      busy = false;
      error = false;
    })

-- the status word of the other
self_awaited : (a : ℕ) → is_awaited a (Some a) ≡ true
self_awaited a = eq-eqb a a refl

status_end : (t : Bool) (s : Seen) (c a : ℕ) → s.status ≡ Some a → entry_ending s (if t then Waits c a else Idle) ≡ Nothing
status_end true s c a q = ap (λ o. if is_awaited a o then Nothing else Badly c) q ∙ (λ j. if self_awaited a j then Nothing else Badly c)
status_end false s c a q = refl

status_more : (t : Bool) (s : Seen) (c a : ℕ) → s.status ≡ Some a → worded t s None (if t then Waits c a else Idle) ≡ (if t then Resumes c [] else Idle)
status_more true s c a q = ap (λ o. if is_awaited a o then Resumes c [] else Idle) q ∙ (λ j. if self_awaited a j then Resumes c [] else Idle)
status_more false s c a q = refl

status_resumes : (P : Description) (b : Bus) (c a : ℕ) (s : Seen) → s.command ≡ None → s.status ≡ Some a → next P (WordComes b s) (holding b (Waits c a)) ≡ holding b (Resumes c [])
status_resumes P b c a s k q =
    let n : Seen = record s { command = None } in
    let v : SeenEvent = WordComes b n in
    let t : Shape = holding b (Waits c a) in
    (λ j. next P (WordComes b (record s { command = k j })) t)
    ∙ ((λ j. (let x : Ending = status_end (same_bus b b) n c a q j in next_with P v t false None x (reset_by v (effects P x) t)))
    ∙ (λ j. record {
      message = λ d. status_more (same_bus d b) n c a q j;
      heard = λ d. false_both (same_bus d b) j;
      reply = None;
      off = λ d. false;
      busy = false;
      error = false;
    }))

-- its data words
word_end : (t : Bool) (s : Seen) (c : ℕ) (xs : List Seen) → entry_ending s (if t then Resumes c xs else Idle) ≡ Nothing
word_end true s c xs = refl
word_end false s c xs = refl

word_more : (t : Bool) (s : Seen) (c : ℕ) (xs : List Seen) → worded t s None (if t then Resumes c xs else Idle) ≡ (if t then Resumes c (s ∷ xs) else Idle)
word_more true s c xs = refl
word_more false s c xs = refl

datum_resumes : (P : Description) (b : Bus) (c : ℕ) (xs : List Seen) (d : ℕ) → next P (WordComes b (datum d)) (holding b (Resumes c xs)) ≡ holding b (Resumes c (datum d ∷ xs))
datum_resumes P b c xs d =
    let v : SeenEvent = WordComes b (datum d) in
    let t : Shape = holding b (Resumes c xs) in
    (λ j. (let x : Ending = word_end (same_bus b b) (datum d) c xs j in next_with P v t false None x (reset_by v (effects P x) t)))
    ∙ (λ j. record {
      message = λ a. word_more (same_bus a b) (datum d) c xs j;
      heard = λ a. false_both (same_bus a b) j;
      reply = None;
      off = λ a. false;
      busy = false;
      error = false;
    })

-- and the gap after them
resumed_over : (t : Bool) (c : ℕ) (xs : List Seen) → (if t then gap_leaves (if t then Resumes c xs else Idle) else (if t then Resumes c xs else Idle)) ≡ Idle
resumed_over true c xs = refl
resumed_over false c xs = refl

resumed_ends : (P : Description) (b : Bus) (c : ℕ) (xs : List Seen) (x : Ending) → gap_ending P false (Resumes c xs) ≡ x → gap_ending P false (if same_bus b b then Resumes c xs else Idle) ≡ x
resumed_ends P b c xs x e = ap (λ u. gap_ending P false (if u then Resumes c xs else Idle)) (same_self b) ∙ e

gap_resumed : (P : Description) (b : Bus) (c : ℕ) (xs : List Seen) (cell : Cell) (ds : List ℕ) → gap_ending P false (Resumes c xs) ≡ Done c cell ds → Leaves cell →
    next P (GapComes b) (holding b (Resumes c xs)) ≡ resting (begun_if (not (is_broadcast c || false)) b (Some cell) None)
gap_resumed P b c xs cell ds e l =
    let x : Ending = Done c cell ds in
    let v : SeenEvent = GapComes b in
    let t : Shape = holding b (Resumes c xs) in
    let reset : Bool = reset_by v (effects P x) t in
    (λ j. (let y : Ending = resumed_ends P b c xs x e j in next_with P v t false None y (reset_by v (effects P y) t)))
    ∙ (λ j. record {
      message = λ a. resumed_over (same_bus a b) c xs j;
      heard = λ a. false_both (same_bus a b) j;
      reply = begun_if (not (is_broadcast c || false)) b (Some cell) None;
      off = λ a. stays_on reset (same_bus (other a) b) cell l j;
      busy = false;
      error = error_done P reset c cell ds j;
    })

-- to all, where it is illegal and a message error may be kept
gap_refused : (z : Bool) (P : Description) (b : Bus) (c : ℕ) (xs : List Seen) → gap_ending P false (Resumes c xs) ≡ Illegal c → z ≡ false → is_broadcast c ≡ true → masked z (next P (GapComes b) (holding b (Resumes c xs))) ≡ resting None
gap_refused z P b c xs e off all =
    let v : SeenEvent = GapComes b in
    let t : Shape = holding b (Resumes c xs) in
    (λ j. (let y : Ending = resumed_ends P b c xs (Illegal c) e j in masked (off j) (next_with P v t false None y (reset_by v (effects P y) t))))
    ∙ (λ j. masked false (record {
      message = λ a. resumed_over (same_bus a b) c xs j;
      heard = λ a. false_both (same_bus a b) j;
      reply = begun_if (not (all j || false)) b None None;
      off = λ a. shut_none (same_bus (other a) b) j;
      busy = false;
      error = true;
    }))

-- what receive commands say
abbrev is_broad_cell : Option Cell → Bool
is_broad_cell (Some (BroadReceive s n)) = true
is_broad_cell _ = false

broad_row : (a b r : Bool) (code : ℕ) → is_broad_cell (if a then (if b then (if r then Some (BroadMode code) else None) else Some (OwnMode code)) else None) ≡ false
broad_row false b r code = refl
broad_row true true true code = refl
broad_row true true false code = refl
broad_row true false r code = refl

broad_mode : (c : ℕ) (o : Option ModeRow) → is_broad_cell (mode_cell_by c o) ≡ false
broad_mode c None = refl
broad_mode c (Some row) = broad_row (same_bool (transmits c) row.transmit) (is_broadcast c) row.broadcast (code_of c)

pub record ReceivesWords (c n : ℕ) : Type 0 where
  pub receive : is_receive c ≡ true
  pub count : expected c ≡ n

broad_law : (c s n : ℕ) → cell_of c ≡ Some (BroadReceive s n) → ReceivesWords c n
broad_law c s n e = by_tests (is_mode c) (transmits c) (is_broadcast c) refl refl refl e
  where
    by_tests : (m t b : Bool) → is_mode c ≡ m → transmits c ≡ t → is_broadcast c ≡ b →
        (if m then mode_cell_by c (mode_row (code_of c)) else (if t then (if b then None else Some (OwnTransmit (subaddress_of c) (count_of c))) else (if b then Some (BroadReceive (subaddress_of c) (count_of c)) else Some (OwnReceive (subaddress_of c) (count_of c))))) ≡ Some (BroadReceive s n) →
        ReceivesWords c n
    by_tests true t b p q r e = let no : true ≡ false = sym (ap is_broad_cell e) ∙ broad_mode c (mode_row (code_of c)) in cc
    by_tests false true true p q r e = cc
    by_tests false true false p q r e = cc
    by_tests false false false p q r e = cc
    by_tests false false true p q r e =
        let count : count_of c ≡ n = cc in
        record {
          receive = (λ j. not (q j) && not (p j));
          count = (λ j. if q j then 0 else if p j then (if nat_le 16 (code_of c) then 1 else 0) else count_of c) ∙ count;
        }

-- a transfer on a bus: its commands, with their cells
pub record Commands (c d s t n : ℕ) (cell : Cell) : Type 0 where
  pub is : cell ≡ (if is_broadcast c then BroadReceive s n else OwnReceive s n)
  pub receives : cell_of c ≡ Some cell
  pub sends : cell_of d ≡ Some (OwnTransmit t n)
  pub two : address_of c ≢ address_of d

pub receives_words : (c d s t n : ℕ) (cell : Cell) → Commands c d s t n cell → ReceivesWords c n
receives_words c d s t n cell k = by_broadcast (is_broadcast c) (k.receives ∙ ap (λ x. Some x) k.is)
  where
    by_broadcast : (u : Bool) → cell_of c ≡ Some (if u then BroadReceive s n else OwnReceive s n) → ReceivesWords c n
    by_broadcast true e = broad_law c s n e
    by_broadcast false e = let r = receives_law c s n e in record { receive = r.receive; count = r.count }

pub cell_leaves : (c d s t n : ℕ) (cell : Cell) → Commands c d s t n cell → Leaves cell
cell_leaves c d s t n cell k = subst Leaves (sym k.is) (by_broadcast (is_broadcast c))
  where
    by_broadcast : (u : Bool) → Leaves (if u then BroadReceive s n else OwnReceive s n)
    by_broadcast true = refl
    by_broadcast false = refl

-- they ask for no kept status
receive_asks : (c d s t n : ℕ) (cell : Cell) → Commands c d s t n cell → asks_by (cell_of c) ≡ false
receive_asks c d s t n cell k = ap asks_by (k.receives ∙ ap (λ x. Some x) k.is) ∙ by_broadcast (is_broadcast c)
  where
    by_broadcast : (u : Bool) → asks_by (Some (if u then BroadReceive s n else OwnReceive s n)) ≡ false
    by_broadcast true = refl
    by_broadcast false = refl

transmit_asks : (c d s t n : ℕ) (cell : Cell) → Commands c d s t n cell → asks_by (cell_of d) ≡ false
transmit_asks c d s t n cell k = ap asks_by k.sends

-- the one that sends, up to the gap
restarts : (P : Description) (b : Bus) (c d : ℕ) (s : Seen) → s.command ≡ Some d → is_receive c ≡ true → is_broadcast c ≡ true → transmits d ≡ true → (address_of d == P.address) ≡ true →
    next P (WordComes b s) (collecting b c []) ≡ collecting b d []
restarts P b c d s k rc bc td ad =
    let n : Seen = record s { command = Some d } in
    let v : SeenEvent = WordComes b n in
    let t : Shape = collecting b c [] in
    let start : starting P false (same_bus b b) (is_free {F = List Seen} (if same_bus b b then Collects c [] else Idle)) (seen_fresh (if same_bus b b then Collects c [] else Idle)) (Some d) ≡ Some d =
    ap (λ u. starting P false u (is_free {F = List Seen} (if u then Collects c [] else Idle)) (seen_fresh (if u then Collects c [] else Idle)) (Some d)) (same_self b)
    ∙ (λ j. if (rc j && bc j) && (td j && ad j) then Some d else None) in
    (λ j. next P (WordComes b (record s { command = k j })) t)
    ∙ ((λ j. (let x : Ending = no_end n (same_bus b b) c [] j in next_with P v t false (start j) x (reset_by v (effects P x) t)))
    ∙ (λ j. record {
      message = λ a. if same_bus a b then Collects d [] else Idle;
      heard = λ a. heard_again (same_bus a b) j;
      reply = None;
      off = λ a. false;
      busy = false;
      error = error_start P d j;
    }))
  where
    heard_again : (t : Bool) → (if t then true || t else t) ≡ t
    heard_again true = refl
    heard_again false = refl

own_meant : (P : Description) (d : ℕ) → (address_of d == P.address) ≡ true → is_meant P d ≡ true
own_meant P d e = ap (λ u. u || (is_broadcast d && P.broadcast)) e

meant_broad : (a u v : Bool) → a ≡ false → a || (u && v) ≡ true → u ≡ true
meant_broad a true v e q = refl
meant_broad a false v e q = let no : false ≡ true = sym e ∙ (or_nothing a ∙ q) in cc
  where
    or_nothing : (a : Bool) → a ≡ a || false
    or_nothing true = refl
    or_nothing false = refl

pub sender_asked : (z : Bool) (P : Description) (b : Bus) (c d s t n : ℕ) (cell : Cell) (h : List Event) → Commands c d s t n cell → address_of d ≡ P.address → shown z P h ≡ resting None →
    shown z P (asked b c d h) ≡ collecting b d []
sender_asked z P b c d s t n cell h k own r = by_meant (is_meant P c) refl
  where
    by_meant : (u : Bool) → is_meant P c ≡ u → shown z P (asked b c d h) ≡ collecting b d []
    by_meant true m =
        let apart : (address_of c == P.address) ≡ false = ne_eqb (address_of c) P.address (λ q. k.two (q ∙ sym own)) in
        let to : (address_of d == P.address) ≡ true = eq-eqb (address_of d) P.address own in
        let w : Event = Word b (valid_word Com d) in
        shown_next z P (Word b (valid_word Com c) ∷ h) w (collecting b c []) (collecting b d []) (event_can z true P w (λ q. transmit_asks c d s t n cell k)) (command_collects z P b c h (λ q. receive_asks c d s t n cell k) m r)
        (restarts P b c d (seen_word true P (Some (valid_word Com d))) (meant_command P d (own_meant P d to))
        (receives_words c d s t n cell k).receive (meant_broad (address_of c == P.address) (is_broadcast c) P.broadcast apart m) (transmits_law d t n k.sends).transmit to) refl
    by_meant false m =
        command_collects z P b d (Word b (valid_word Com c) ∷ h) (λ q. transmit_asks c d s t n cell k) (own_meant P d (eq-eqb (address_of d) P.address own)) (command_rests z P b c h m r)

pub sender_done : (P : Description) (d t n : ℕ) → cell_of d ≡ Some (OwnTransmit t n) → P.legal (OwnTransmit t n) ≡ true → gap_ending P false (Collects d []) ≡ Done d (OwnTransmit t n) []
sender_done P d t n has l =
    let count : expected d ≡ 0 = (transmits_law d t n has).count in
    (λ j. ends_with P false d (if 0 == count j then Some [] else None) None)
    ∙ ((λ j. verdict P.legal false d [] (has j)) ∙ (λ j. if l j then Done d (OwnTransmit t n) [] else Illegal d))

sender_gapped : (z : Bool) (P : Description) (b : Bus) (c d s t n : ℕ) (cell : Cell) (h : List Event) → Commands c d s t n cell → address_of d ≡ P.address → P.legal (OwnTransmit t n) ≡ true → shown z P h ≡ resting None →
    shown z P (gapped b c d h) ≡ resting (reply_after b (Some (OwnTransmit t n)) false 0)
sender_gapped z P b c d s t n cell h k own l r =
    let no_broadcast : is_broadcast d ≡ false = (transmits_law d t n k.sends).own in
    shown_next z P (asked b c d h) (Gap b) (collecting b d []) (resting (reply_after b (Some (OwnTransmit t n)) false 0)) tt (sender_asked z P b c d s t n cell h k own r)
    (gap_done P b d [] (OwnTransmit t n) [] (sender_done P d t n k.sends l) refl refl
    ∙ (λ j. resting (((λ i. begun_if (not (no_broadcast i || false)) b (Some (OwnTransmit t n)) None) ∙ (λ i. if sym (no_words n) i then Some (record { bus = b; cell = Some (OwnTransmit t n); number = 0 }) else None)) j))) refl

pub sender_slots : (z : Bool) (P : Description) (b : Bus) (c d s t n : ℕ) (cell : Cell) (h : List Event) → Commands c d s t n cell → address_of d ≡ P.address → P.legal (OwnTransmit t n) ≡ true → shown z P h ≡ resting None → (k : ℕ) →
    shown z P (slots_hist k (gapped b c d h)) ≡ resting (reply_after b (Some (OwnTransmit t n)) false k)
sender_slots z P b c d s t n cell h k own l r zero = sender_gapped z P b c d s t n cell h k own l r
sender_slots z P b c d s t n cell h k own l r (suc i) =
    slot_shown z P (reply_after b (Some (OwnTransmit t n)) false i) (slots_hist i (gapped b c d h)) (sender_slots z P b c d s t n cell h k own l r i) ∙ ap resting (sym (next_of b (Some (OwnTransmit t n)) false i))

-- a command to another terminal
pub record NotFor (P : Description) (d : ℕ) : Type 0 where
  pub other : address_of d ≢ P.address
  pub own : is_broadcast d ≡ false

not_for : (P : Description) (d : ℕ) → NotFor P d → command_in P (Some (valid_word Com d)) ≡ None
not_for P d f = λ j. if other_command P d f.other f.own j then Some d else None

-- the one that receives
the_transfer : (P : Description) (c d : ℕ) → is_receive c ≡ true → transmits d ≡ true → NotFor P d → seen_transfer c (seen_word true P (Some (valid_word Com d)) ∷ []) ≡ Some (c, address_of d)
the_transfer P c d rc td f =
    λ j. if rc j
    then (elim (if valid Com d j && (td j && (not (ne_eqb (address_of d) P.address f.other j) && not (f.own j))) then Some (address_of d) else None) as (λ o. Option (ℕ × ℕ)) [ None ↦ None | Some a ↦ Some (c, a) ])
    else None

receiver_asked : (z : Bool) (P : Description) (b : Bus) (c d s t n : ℕ) (cell : Cell) (h : List Event) → Commands c d s t n cell → is_meant P c ≡ true → NotFor P d → shown z P h ≡ resting None →
    shown z P (asked b c d h) ≡ collecting b c (seen_word true P (Some (valid_word Com d)) ∷ [])
receiver_asked z P b c d s t n cell h k m f r =
    let second : Seen = seen_word true P (Some (valid_word Com d)) in
    shown_next z P (Word b (valid_word Com c) ∷ h) (Word b (valid_word Com d)) (collecting b c []) (collecting b c (second ∷ [])) (none_can z P b second (not_for P d f))
    (command_collects z P b c h (λ q. receive_asks c d s t n cell k) m r) (word_collected P b c [] second (not_for P d f)) refl

pub receiver_waits : (z : Bool) (P : Description) (b : Bus) (c d s t n : ℕ) (cell : Cell) (h : List Event) → Commands c d s t n cell → is_meant P c ≡ true → NotFor P d → shown z P h ≡ resting None →
    ends_now P (past P (asked b c d h)) (Gap b) ≡ Nothing
receiver_waits z P b c d s t n cell h k m f r =
    let second : Seen = seen_word true P (Some (valid_word Com d)) in
    ends_as z P (asked b c d h) (Gap b) (collecting b c (second ∷ [])) Nothing (receiver_asked z P b c d s t n cell h k m f r)
    (ap (λ u. gap_ending P false (if u then Collects c (second ∷ []) else Idle)) (same_self b)
    ∙ (λ j. ends_with P false c None (the_transfer P c d (receives_words c d s t n cell k).receive (transmits_law d t n k.sends).transmit f j)))

receiver_gapped : (z : Bool) (P : Description) (b : Bus) (c d s t n : ℕ) (cell : Cell) (h : List Event) → Commands c d s t n cell → is_meant P c ≡ true → NotFor P d → shown z P h ≡ resting None →
    shown z P (gapped b c d h) ≡ holding b (Waits c (address_of d))
receiver_gapped z P b c d s t n cell h k m f r =
    let second : Seen = seen_word true P (Some (valid_word Com d)) in
    shown_next z P (asked b c d h) (Gap b) (collecting b c (second ∷ [])) (holding b (Waits c (address_of d))) tt (receiver_asked z P b c d s t n cell h k m f r)
    (gap_waits P b c (address_of d) second refl (the_transfer P c d (receives_words c d s t n cell k).receive (transmits_law d t n k.sends).transmit f)) refl

-- what has followed, the latest first
abbrev seen_list : (ℕ → ℕ) → ℕ → List Seen
seen_list v zero = []
seen_list v (suc k) = datum (v (suc k)) ∷ seen_list v k

abbrev receiving : ℕ → ℕ → (ℕ → ℕ) → ℕ → SeenOpen
receiving c a v zero = Waits c a
receiving c a v (suc k) = Resumes c (seen_list v k)

-- the status word of the one that sends
pub record IsStatus (P : Description) (d st : ℕ) : Type 0 where
  pub from : address_of st ≡ address_of d
  pub not_for : NotFor P d

status_not_for : (P : Description) (d st : ℕ) → IsStatus P d st → NotFor P st
status_not_for P d st f = record { other = λ q. f.not_for.other (sym f.from ∙ q); own = ap (λ a. a == 31) f.from ∙ f.not_for.own }

slot_holds : (z : Bool) (P : Description) (b : Bus) (o : SeenOpen) (h : List Event) → shown z P h ≡ holding b o → shown z P (Slot ∷ h) ≡ holding b o
slot_holds z P b o h s = shown_next z P h Slot (holding b o) (holding b o) tt s refl refl

pub receiver_slots : (z : Bool) (P : Description) (b : Bus) (c d s t n : ℕ) (cell : Cell) (h : List Event) (st : ℕ) (v : ℕ → ℕ) → Commands c d s t n cell → is_meant P c ≡ true → IsStatus P d st → shown z P h ≡ resting None → (k : ℕ) →
    shown z P (heard_hist b (sent_at b st v) k (gapped b c d h)) ≡ holding b (receiving c (address_of d) v k)
receiver_slots z P b c d s t n cell h st v k m f r zero = receiver_gapped z P b c d s t n cell h k m f.not_for r
receiver_slots z P b c d s t n cell h st v k m f r (suc zero) =
    let g : List Event = gapped b c d h in
    let w : Seen = seen_word true P (Some (valid_word Com st)) in
    let status : w.status ≡ Some (address_of d) = (λ j. if valid Com st j then Some (f.from j) else None) in
    let none : w.command ≡ None = not_for P st (status_not_for P d st f) in
    shown_next z P (Slot ∷ g) (Word b (valid_word Com st)) (holding b (Waits c (address_of d))) (holding b (Resumes c [])) (none_can z P b w none)
    (slot_holds z P b (Waits c (address_of d)) g (receiver_gapped z P b c d s t n cell h k m f.not_for r)) (status_resumes P b c (address_of d) w none status) refl
receiver_slots z P b c d s t n cell h st v k m f r (suc (suc i)) =
    let g : List Event = heard_hist b (sent_at b st v) (suc i) (gapped b c d h) in
    let u : ℕ = v (suc i) in
    shown_next z P (Slot ∷ g) (Word b (valid_word Dat u)) (holding b (Resumes c (seen_list v i))) (holding b (Resumes c (datum u ∷ seen_list v i))) (λ q c k. cc)
    (slot_holds z P b (Resumes c (seen_list v i)) g (receiver_slots z P b c d s t n cell h st v k m f r (suc i)))
    ((λ j. next P (WordComes b (seen_datum P u j)) (holding b (Resumes c (seen_list v i)))) ∙ datum_resumes P b c (seen_list v i) u) refl

words_seen : (v : ℕ → ℕ) (k : ℕ) → seen_words (seen_list v k) ≡ Some (words_to v k)
words_seen v zero = refl
words_seen v (suc k) = ap (λ m. with_word m (Some (v (suc k)))) (words_seen v k)

counted : (v : ℕ → ℕ) (k : ℕ) → length (words_to v k) ≡ k
counted v zero = refl
counted v (suc k) = length-append (words_to v k) (v (suc k) ∷ []) ∙ (ap (λ m. m + 1) (counted v k) ∙ omega arith)

receiver_verdict : (P : Description) (c d s t n : ℕ) (cell : Cell) (v : ℕ → ℕ) → Commands c d s t n cell → gap_ending P false (Resumes c (seen_list v n)) ≡ (if P.legal cell then Done c cell (words_to v n) else Illegal c)
receiver_verdict P c d s t n cell v k =
    let count : length (words_to v n) ≡ expected c = counted v n ∙ sym (receives_words c d s t n cell k).count in
    (λ j. ends_with P false c (if_expected c (words_seen v n j)) None)
    ∙ ((λ j. ends_with P false c (if eq-eqb (length (words_to v n)) (expected c) count j then Some (words_to v n) else None) None)
    ∙ (λ j. verdict P.legal false c (words_to v n) (k.receives j)))

pub receiver_ends : (z : Bool) (P : Description) (b : Bus) (c d s t n : ℕ) (cell : Cell) (h : List Event) (st : ℕ) (v : ℕ → ℕ) → Commands c d s t n cell → is_meant P c ≡ true → IsStatus P d st → shown z P h ≡ resting None →
    ends_now P (past P (heard_hist b (sent_at b st v) (suc n) (gapped b c d h))) (Gap b) ≡ (if P.legal cell then Done c cell (words_to v n) else Illegal c)
receiver_ends z P b c d s t n cell h st v k m f r =
    let x : Ending = if P.legal cell then Done c cell (words_to v n) else Illegal c in
    ends_as z P (heard_hist b (sent_at b st v) (suc n) (gapped b c d h)) (Gap b) (holding b (Resumes c (seen_list v n))) x (receiver_slots z P b c d s t n cell h st v k m f r (suc n))
    (resumed_ends P b c (seen_list v n) x (receiver_verdict P c d s t n cell v k))

pub receiver_over : (z : Bool) (P : Description) (b : Bus) (c d s t n : ℕ) (cell : Cell) (h : List Event) (st : ℕ) (v : ℕ → ℕ) → Commands c d s t n cell → is_meant P c ≡ true → IsStatus P d st → P.legal cell ≡ true → shown z P h ≡ resting None →
    shown z P (Gap b ∷ heard_hist b (sent_at b st v) (suc n) (gapped b c d h)) ≡ resting (begun_if (not (is_broadcast c || false)) b (Some cell) None)
receiver_over z P b c d s t n cell h st v k m f l r =
    shown_next z P (heard_hist b (sent_at b st v) (suc n) (gapped b c d h)) (Gap b) (holding b (Resumes c (seen_list v n))) (resting (begun_if (not (is_broadcast c || false)) b (Some cell) None)) tt
    (receiver_slots z P b c d s t n cell h st v k m f r (suc n))
    (gap_resumed P b c (seen_list v n) cell (words_to v n) (receiver_verdict P c d s t n cell v k ∙ (λ j. if l j then Done c cell (words_to v n) else Illegal c)) (cell_leaves c d s t n cell k)) refl

pub receiver_refuses : (z : Bool) (P : Description) (b : Bus) (c d s t n : ℕ) (cell : Cell) (h : List Event) (st : ℕ) (v : ℕ → ℕ) → Commands c d s t n cell → is_meant P c ≡ true → IsStatus P d st → P.legal cell ≡ false → z ≡ false →
    is_broadcast c ≡ true → shown z P h ≡ resting None → shown z P (Gap b ∷ heard_hist b (sent_at b st v) (suc n) (gapped b c d h)) ≡ resting None
receiver_refuses z P b c d s t n cell h st v k m f l off all r =
    shown_step z P (heard_hist b (sent_at b st v) (suc n) (gapped b c d h)) (Gap b) (holding b (Resumes c (seen_list v n))) (resting None) tt (receiver_slots z P b c d s t n cell h st v k m f r (suc n))
    (gap_refused z P b c (seen_list v n) (receiver_verdict P c d s t n cell v k ∙ (λ j. if l j then Done c cell (words_to v n) else Illegal c)) off all)

-- any other
word_other : (z : Bool) (P : Description) (b : Bus) (d : ℕ) (h : List Event) → NotFor P d → shown z P h ≡ resting None → shown z P (Word b (valid_word Com d) ∷ h) ≡ resting None
word_other z P b d h f r =
    let u : Seen = seen_word true P (Some (valid_word Com d)) in
    shown_next z P h (Word b (valid_word Com d)) (resting None) (resting None) (none_can z P b u (not_for P d f)) r (word_rests P b u None (not_for P d f)) refl

pub other_asked : (z : Bool) (P : Description) (b : Bus) (c d : ℕ) (h : List Event) → is_meant P c ≡ false → NotFor P d → shown z P h ≡ resting None → shown z P (asked b c d h) ≡ resting None
other_asked z P b c d h m f r = word_other z P b d (Word b (valid_word Com c) ∷ h) f (command_rests z P b c h m r)

pub other_slots : (z : Bool) (P : Description) (b : Bus) (c d : ℕ) (h : List Event) (st : ℕ) (v : ℕ → ℕ) → is_meant P c ≡ false → IsStatus P d st → shown z P h ≡ resting None → (k : ℕ) →
    shown z P (heard_hist b (sent_at b st v) k (gapped b c d h)) ≡ resting None
other_slots z P b c d h st v m f r zero = gap_shown z P b (asked b c d h) (other_asked z P b c d h m f.not_for r)
other_slots z P b c d h st v m f r (suc zero) =
    word_other z P b st (Slot ∷ gapped b c d h) (status_not_for P d st f) (slot_shown z P None (gapped b c d h) (other_slots z P b c d h st v m f r zero))
other_slots z P b c d h st v m f r (suc (suc i)) =
    let g : List Event = heard_hist b (sent_at b st v) (suc i) (gapped b c d h) in
    let u : Seen = seen_word true P (Some (valid_word Dat (v (suc i)))) in
    shown_next z P (Slot ∷ g) (Word b (valid_word Dat (v (suc i)))) (resting None) (resting None) (λ q c k. cc) (slot_shown z P None g (other_slots z P b c d h st v m f r (suc i))) (word_rests P b u None refl) refl
