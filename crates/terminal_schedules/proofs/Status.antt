-- The status word of a reply is as it is formed, or kept, before the message.
use Rattle.std.proofs.Common.{◌≡◌, ℕ, Bool, true, false, ◌&&◌, ◌||◌, ◌==◌, if◌then◌else◌, Option, Some, None, List, [], ◌∷◌, refl, ap, sym, ◌∙◌}
use Rattle.bus_word.specs.declared.word.Bus.{Bus}
use Rattle.bus_word.specs.declared.word.Kind.TheVariants.{Com, Dat}
use Rattle.bus_word.specs.declared.word.Raw.{Raw}
use Rattle.bus_word.specs.declared.mode.ModeRow.{ModeRow}
use Rattle.bus_word.specs.declared.status.StatusParts.{StatusParts}
use Rattle.bus_word.specs.declared.cell.Cell.{Cell}
use Rattle.bus_word.specs.declared.cell.Cell.TheVariants.{OwnReceive, OwnTransmit, BroadReceive, OwnMode, BroadMode}
use Rattle.bus_word.specs.Word.{valid_word}
use Rattle.bus_word.specs.Command.{transmits, subaddress_of, code_of, count_of, is_mode, is_broadcast}
use Rattle.bus_word.specs.Cell.{same_bool, mode_cell_by, cell_of}
use Rattle.bus_word.specs.Mode.{mode_row}
use Rattle.bus_legal.specs.Description.{Description}
use Rattle.terminal_rules.specs.declared.event.Event.{Event}
use Rattle.terminal_rules.specs.declared.event.Event.TheVariants.{Word, Gap}
use Rattle.terminal_rules.specs.Buses.{same_bus}
use Rattle.terminal_rules.specs.History.{Noted, NoTurn, Ending, Nothing, Done}
use Rattle.terminal_rules.specs.Open.{Idle, Collects}
use Rattle.terminal_rules.specs.Reply.{reply_now, ignores}
use Rattle.terminal_rules.specs.Starts.{is_meant, starts_now}
use Rattle.terminal_rules.specs.Ends.{ends_now}
use Rattle.terminal_rules.specs.SinceReset.{resets_by_broadcast, does_own_reset, resets, is_reset, start_bits}
use Rattle.terminal_rules.specs.Status.{reports_kept, spares_kept, spares, kept_by_end, kept_by_command, kept_by_start, later_or, adds_error, kept_now, formed_done}
use Rattle.terminal_rules.specs.Turn.{unless_ignored_turn}
use Rattle.terminal_rules.specs.Past.{note, past, history_after}
use Rattle.terminal_rules.specs.Steps.{reset_first, kept_after}
use Rattle.terminal_rules.proofs.KeptLaw.{kept_step}
use Rattle.terminal_recordings.proofs.Endings.{effects}
use Rattle.terminal_bus.proofs.Local.{not_started, Steady, steady_then, word_steady}
use Rattle.terminal_bus.proofs.Walk.{formed_steady}
use Rattle.terminal_schedules.specs.Formats.{data_on}
use Rattle.terminal_schedules.proofs.Seen.{Seen, seen_word, exact_ending, gap_ending}
use Rattle.terminal_schedules.proofs.Step.{SeenEvent, GapComes, ends_as, reset_by, reset_law, shown}
use Rattle.terminal_schedules.proofs.Rests.{resting}
use Rattle.terminal_schedules.proofs.Single.{collecting, datum, same_self, no_end, datum_collected, command_collects, meant_collects, data_seen, IsFormed, done_by, asks_none}

-- the bits of the status word for a message that is done
abbrev pub parts_for : Description → List Noted → ℕ → Cell → StatusParts
parts_for P h c cell = if reports_kept cell then kept_now P h else formed_done P h c cell

-- a word that ends nothing, and starts nothing that sets the kept status
no_reset : (i : Bool) → resets (unless_ignored_turn i NoTurn) Nothing ≡ false
no_reset true = refl
no_reset false = refl

word_keeps : (P : Description) (h : List Event) (b : Bus) (w : Raw) → ends_now P (past P h) (Word b w) ≡ Nothing →
    (let none : Option StatusParts = None in kept_by_start P (start_bits (note P (past P h) (Word b w))) ≡ none) → kept_now P (past P (Word b w ∷ h)) ≡ kept_now P (past P h)
word_keeps P h b w e s =
    let p : Noted = note P (past P h) (Word b w) in
    let reset : is_reset p ≡ false = ap (resets p.turn) e ∙ no_reset (ignores (reply_now (past P h)) (Word b w)) in
    kept_step P p (past P h)
    ∙ (λ j. kept_after (later_or (s j) (reset_first (reset j) (kept_by_end P (past P h) false (e j)))) (adds_error P (e j)) (kept_now P (past P h)))

-- data words
data_keep : (z : Bool) (P : Description) (b : Bus) (c : ℕ) (vs : List ℕ) (xs : List Seen) (h : List Event) → shown z P h ≡ collecting b c xs → kept_now P (past P (history_after (data_on b vs) h)) ≡ kept_now P (past P h)
data_keep z P b c [] xs h s = refl
data_keep z P b c (v ∷ vs) xs h s =
    let w : Raw = valid_word Dat v in
    data_keep z P b c vs (datum v ∷ xs) (Word b w ∷ h) (datum_collected z P b c v xs h s)
    ∙ word_keeps P h b w (ends_as z P h (Word b w) (collecting b c xs) Nothing s (no_end (seen_word true P (Some w)) (same_bus b b) c xs)) (λ j. kept_by_start P (if not_started P h b w refl j then Some v else None))

data_steady : (P : Description) (b : Bus) (vs : List ℕ) (h : List Event) → Steady P b (past P (history_after (data_on b vs) h)) (past P h)
data_steady P b [] h = record { flags = λ f. refl; off = refl; inhibited = refl; held = λ s i. refl }
data_steady P b (v ∷ vs) h = steady_then P b _ _ _ (data_steady P b vs (Word b (valid_word Dat v) ∷ h)) (word_steady P h b b (valid_word Dat v))

-- up to the gap
front_parts : (z : Bool) (P : Description) (b : Bus) (c : ℕ) (cell : Cell) (vs : List ℕ) (h : List Event) → IsFormed z c cell vs → is_meant P c ≡ true → P.legal cell ≡ true → shown z P h ≡ resting None →
    parts_for P (past P (history_after (data_on b vs) (Word b (valid_word Com c) ∷ h))) c cell ≡ parts_for P (past P h) c cell
front_parts z P b c cell vs h f m l s = by_report (reports_kept cell) refl
  where
    by_start : spares P c ≡ true → (u : Bool) → (let none : Option StatusParts = None in kept_by_start P (if u then Some c else None) ≡ none)
    by_start q true = λ j. kept_by_command (q j) c
    by_start q false = refl

    by_report : (t : Bool) → reports_kept cell ≡ t →
        (if t then kept_now P (past P (history_after (data_on b vs) (Word b (valid_word Com c) ∷ h))) else formed_done P (past P (history_after (data_on b vs) (Word b (valid_word Com c) ∷ h))) c cell)
        ≡ (if t then kept_now P (past P h) else formed_done P (past P h) c cell)
    by_report true q =
        let w : Raw = valid_word Com c in
        data_keep z P b c vs [] (Word b w ∷ h) (command_collects z P b c h (asks_none z c cell vs f) m s)
        ∙ word_keeps P h b w (ends_as z P h (Word b w) (resting None) Nothing s refl) (by_start (ap (spares_kept P) f.has ∙ (λ j. q j && l j)) (starts_now P (past P h) (Word b w)))
    by_report false q =
        formed_steady P b (past P (history_after (data_on b vs) (Word b (valid_word Com c) ∷ h))) (past P h) c cell
        (steady_then P b _ _ _ (data_steady P b vs (Word b (valid_word Com c) ∷ h)) (word_steady P h b b (valid_word Com c)))

-- an own command is no reset of all
abbrev is_broad_reset : Option Cell → Bool
is_broad_reset (Some (BroadMode code)) = code == 8
is_broad_reset _ = false

own_data : (t b : Bool) (s n : ℕ) → is_broad_reset (if t then (if b then None else Some (OwnTransmit s n)) else (if b then Some (BroadReceive s n) else Some (OwnReceive s n))) ≡ false
own_data true true s n = refl
own_data true false s n = refl
own_data false true s n = refl
own_data false false s n = refl

own_mode : (c : ℕ) (o : Option ModeRow) → is_broadcast c ≡ false → is_broad_reset (mode_cell_by c o) ≡ false
own_mode c None e = refl
own_mode c (Some row) e =
    (λ j. is_broad_reset (if same_bool (transmits c) row.transmit then (if e j then (if row.broadcast then Some (BroadMode (code_of c)) else None) else Some (OwnMode (code_of c))) else None))
    ∙ elim (same_bool (transmits c) row.transmit) as (λ t. is_broad_reset (if t then Some (OwnMode (code_of c)) else None) ≡ false) [ true ↦ refl | false ↦ refl ]

own_cell : (c : ℕ) → is_broadcast c ≡ false → is_broad_reset (cell_of c) ≡ false
own_cell c e = by_mode (is_mode c)
  where
    by_mode : (t : Bool) → is_broad_reset (if t then mode_cell_by c (mode_row (code_of c))
        else (if transmits c then (if is_broadcast c then None else Some (OwnTransmit (subaddress_of c) (count_of c))) else (if is_broadcast c then Some (BroadReceive (subaddress_of c) (count_of c)) else Some (OwnReceive (subaddress_of c) (count_of c))))) ≡ false
    by_mode true = own_mode c (mode_row (code_of c)) e
    by_mode false = own_data (transmits c) (is_broadcast c) (subaddress_of c) (count_of c)

broad_reset : (c : ℕ) (cell : Cell) (ds : List ℕ) → resets_by_broadcast (Done c cell ds) ≡ is_broad_reset (Some cell)
broad_reset c (OwnReceive s n) ds = refl
broad_reset c (OwnTransmit s n) ds = refl
broad_reset c (BroadReceive s n) ds = refl
broad_reset c (OwnMode code) ds = refl
broad_reset c (BroadMode code) ds = refl

-- after the gap
and_false : (t : Bool) → t && false ≡ false
and_false true = refl
and_false false = refl

gap_parts : (z : Bool) (P : Description) (b : Bus) (c : ℕ) (cell : Cell) (ds : List ℕ) (xs : List Seen) (g : List Event) → is_broadcast c ≡ false → cell_of c ≡ Some cell → shown z P g ≡ collecting b c xs →
    gap_ending P false (Collects c xs) ≡ Done c cell ds → kept_now P (past P (Gap b ∷ g)) ≡ parts_for P (past P g) c cell
gap_parts z P b c cell ds xs g own has s e =
    let v : SeenEvent = GapComes b in
    let p : Noted = note P (past P g) (Gap b) in
    let x : Ending = Done c cell ds in
    let ends : ends_now P (past P g) (Gap b) ≡ x = ends_as z P g (Gap b) (collecting b c xs) x s (ap (λ t. gap_ending P false (if t then Collects c xs else Idle)) (same_self b) ∙ e) in
    let broad : resets_by_broadcast x ≡ false = broad_reset c cell ds ∙ (ap is_broad_reset (sym has) ∙ own_cell c own) in
    let reset : is_reset p ≡ false =
    reset_law true P g (Gap b) ∙ ((λ j. reset_by v (effects P ((exact_ending (ends_now P (past P g) (Gap b)) ∙ ends) j)) (s j)) ∙ (λ j. broad j || (and_false (does_own_reset x) j || false))) in
    kept_step P p (past P g)
    ∙ ((λ j. kept_after (reset_first (reset j) (kept_by_end P (past P g) false (ends j))) (adds_error P (ends j)) (kept_now P (past P g)))
    ∙ elim (reports_kept cell) as (λ t. kept_after (if t then None else Some (formed_done P (past P g) c cell)) false (kept_now P (past P g)) ≡ (if t then kept_now P (past P g) else formed_done P (past P g) c cell)) [
      | true ↦ refl
      | false ↦ refl
    ])

pub reply_parts : (z : Bool) (P : Description) (b : Bus) (c : ℕ) (cell : Cell) (vs : List ℕ) (h : List Event) → IsFormed z c cell vs → is_broadcast c ≡ false → is_meant P c ≡ true → P.legal cell ≡ true → shown z P h ≡ resting None →
    kept_now P (past P (Gap b ∷ history_after (data_on b vs) (Word b (valid_word Com c) ∷ h))) ≡ parts_for P (past P h) c cell
reply_parts z P b c cell vs h f own m l s =
    gap_parts z P b c cell vs (data_seen vs []) (history_after (data_on b vs) (Word b (valid_word Com c) ∷ h)) own f.has (meant_collects z P b c vs h (asks_none z c cell vs f) m s) (done_by z P c cell vs f l)
    ∙ front_parts z P b c cell vs h f m l s
