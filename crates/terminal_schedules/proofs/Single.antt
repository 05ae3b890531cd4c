-- A message of one command, at one terminal, up to the gap.
use Rattle.std.proofs.Common.{◌≡◌, ℕ, Bool, true, false, not, ◌&&◌, ◌||◌, if◌then◌else◌, Option, Some, None, List, [], ◌∷◌, ◌++◌, length, refl, ap, sym, ◌∙◌, eq-eqb}
use Rattle.bus_word.specs.declared.word.Bus.{Bus}
use Rattle.bus_word.specs.declared.word.Bus.TheVariants.{A, B}
use Rattle.bus_word.specs.declared.word.Kind.TheVariants.{Com, Dat}
use Rattle.bus_word.specs.declared.cell.Cell.{Cell}
use Rattle.bus_word.specs.Word.{valid_word}
use Rattle.bus_word.specs.Command.{is_receive, is_broadcast, expected}
use Rattle.bus_word.specs.Cell.{cell_of}
use Rattle.bus_legal.specs.Description.{Description}
use Rattle.terminal_rules.specs.declared.event.Event.{Event}
use Rattle.terminal_rules.specs.declared.event.Event.TheVariants.{Word, Gap}
use Rattle.terminal_rules.specs.Buses.{same_bus, other}
use Rattle.terminal_rules.specs.LookBack.{or_else}
use Rattle.terminal_rules.specs.History.{Ending, Nothing, Illegal, Done}
use Rattle.terminal_rules.specs.Open.{Idle, Collects}
use Rattle.terminal_rules.specs.Starts.{is_meant}
use Rattle.terminal_rules.specs.Ends.{with_word, if_expected, verdict, ends_with}
use Rattle.terminal_rules.specs.SinceReset.{switched, code_in}
use Rattle.terminal_rules.specs.Status.{reports_kept, spares}
use Rattle.terminal_rules.specs.Past.{history_after}
use Rattle.terminal_rules.specs.Steps.{unless_reset, begun_if}
use Rattle.terminal_recordings.proofs.Endings.{effects}
use Rattle.terminal_bus.proofs.Walk.{valid}
use Rattle.terminal_schedules.specs.Schedule.{asks_by}
use Rattle.terminal_schedules.specs.Formats.{data_on}
use Rattle.terminal_schedules.proofs.Seen.{Seen, seen_word, command_in, gapped, seen_words, seen_transfer, seen_waits, gap_ending, entry_ending, worded, said_data}
use Rattle.terminal_schedules.proofs.Step.{WordComes, GapComes, Shape, first_error, error_after, error_by, reset_by, next, next_with, shown, shown_next, shown_step, event_can, none_can, masked}
use Rattle.terminal_schedules.proofs.Rests.{resting, word_rests, gap_shown, shut_none}

-- a message whose words are collected
abbrev pub collecting : Bus → ℕ → List Seen → Shape
collecting b c xs = record {
  message = λ a. if same_bus a b then Collects c xs else Idle;
  heard = λ a. same_bus a b;
  reply = None;
  off = λ a. false;
  busy = false;
  error = false;
}

pub error_start : (P : Description) (c : ℕ) → error_by P (Some c) false Nothing false ≡ false
error_start P c = elim (spares P c) as (λ t. error_after (first_error (if t then None else Some false) None) false false ≡ false) [ true ↦ refl | false ↦ refl ]

heard_start : (t : Bool) → (if t then true else false) ≡ t
heard_start true = refl
heard_start false = refl

-- its command
command_starts : (P : Description) (b : Bus) (c : ℕ) (s : Seen) → s.command ≡ Some c → next P (WordComes b s) (resting None) ≡ collecting b c []
command_starts P b c s e =
    (λ j. next P (WordComes b (record s { command = e j })) (resting None))
    ∙ (λ j. record {
      message = λ a. if same_bus a b then Collects c [] else Idle;
      heard = λ a. heard_start (same_bus a b) j;
      reply = None;
      off = λ a. false;
      busy = false;
      error = error_start P c j;
    })

-- a word of data
abbrev pub datum : ℕ → Seen
datum d = record { carried = Some d; transmitter = None; status = None; command = None }

pub seen_datum : (P : Description) (v : ℕ) → seen_word true P (Some (valid_word Dat v)) ≡ datum v
seen_datum P v = λ j. record { carried = said_data true (if valid Dat v j then Some v else None); transmitter = None; status = None; command = None }

pub no_end : (s : Seen) (t : Bool) (c : ℕ) (xs : List Seen) → entry_ending s (if t then Collects c xs else Idle) ≡ Nothing
no_end s true c xs = refl
no_end s false c xs = refl

word_more : (t : Bool) (s : Seen) (c : ℕ) (xs : List Seen) → worded t s None (if t then Collects c xs else Idle) ≡ (if t then Collects c (s ∷ xs) else Idle)
word_more true s c xs = refl
word_more false s c xs = refl

pub heard_more : (t : Bool) → (if t then false || t else t) ≡ t
heard_more true = refl
heard_more false = refl

pub word_collected : (P : Description) (b : Bus) (c : ℕ) (xs : List Seen) (s : Seen) → s.command ≡ None → next P (WordComes b s) (collecting b c xs) ≡ collecting b c (s ∷ xs)
word_collected P b c xs s e =
    let n : Seen = record s { command = None } in
    (λ j. next P (WordComes b (record s { command = e j })) (collecting b c xs))
    ∙ ((λ j. (let x : Ending = no_end n (same_bus b b) c xs j in next_with P (WordComes b n) (collecting b c xs) false None x (reset_by (WordComes b n) (effects P x) (collecting b c xs))))
    ∙ (λ j. record {
      message = λ a. (word_more (same_bus a b) n c xs ∙ ap (λ k. if same_bus a b then Collects c (record s { command = k } ∷ xs) else Idle) (sym e)) j;
      heard = λ a. heard_more (same_bus a b) j;
      reply = None;
      off = λ a. false;
      busy = false;
      error = false;
    }))

pub datum_collected : (z : Bool) (P : Description) (b : Bus) (c v : ℕ) (xs : List Seen) (h : List Event) → shown z P h ≡ collecting b c xs →
    shown z P (Word b (valid_word Dat v) ∷ h) ≡ collecting b c (datum v ∷ xs)
datum_collected z P b c v xs h s =
    shown_next z P h (Word b (valid_word Dat v)) (collecting b c xs) (collecting b c (datum v ∷ xs)) (λ q c k. cc) s
    ((λ j. next P (WordComes b (seen_datum P v j)) (collecting b c xs)) ∙ word_collected P b c xs (datum v) refl) refl

-- the latest word first
abbrev pub data_seen : List ℕ → List Seen → List Seen
data_seen [] xs = xs
data_seen (v ∷ vs) xs = data_seen vs (datum v ∷ xs)

data_collected : (z : Bool) (P : Description) (b : Bus) (c : ℕ) (vs : List ℕ) (xs : List Seen) (h : List Event) → shown z P h ≡ collecting b c xs →
    shown z P (history_after (data_on b vs) h) ≡ collecting b c (data_seen vs xs)
data_collected z P b c [] xs h s = s
data_collected z P b c (v ∷ vs) xs h s =
    data_collected z P b c vs (datum v ∷ xs) (Word b (valid_word Dat v) ∷ h) (datum_collected z P b c v xs h s)

-- the words of a list, and these after them
join_none : (ds : List ℕ) → ds ++ [] ≡ ds
join_none [] = refl
join_none (d ∷ ds) = ap (λ xs. d ∷ xs) (join_none ds)

join_next : (ds : List ℕ) (d : ℕ) (vs : List ℕ) → (ds ++ d ∷ []) ++ vs ≡ ds ++ d ∷ vs
join_next [] d vs = refl
join_next (x ∷ ds) d vs = ap (λ xs. x ∷ xs) (join_next ds d vs)

words_seen : (vs : List ℕ) (xs : List Seen) (ds : List ℕ) → seen_words xs ≡ Some ds → seen_words (data_seen vs xs) ≡ Some (ds ++ vs)
words_seen [] xs ds q = q ∙ ap (λ ys. Some ys) (sym (join_none ds))
words_seen (v ∷ vs) xs ds q = words_seen vs (datum v ∷ xs) (ds ++ v ∷ []) (ap (λ m. with_word m (Some v)) q) ∙ ap (λ ys. Some ys) (join_next ds v vs)

-- words of data ask nobody to transmit
abbrev pub AsksNobody : List Seen → Type 0
AsksNobody [] = Unit {0}
AsksNobody (x ∷ xs) = (x.transmitter ≡ None) × AsksNobody xs

data_asks : (vs : List ℕ) (xs : List Seen) → AsksNobody xs → AsksNobody (data_seen vs xs)
data_asks [] xs a = a
data_asks (v ∷ vs) xs a = data_asks vs (datum v ∷ xs) (refl, a)

no_receive : (t : Bool) → (let none : Option (ℕ × ℕ) = None in (if t then none else none) ≡ none)
no_receive true = refl
no_receive false = refl

pub no_transfer : (c : ℕ) (xs : List Seen) → AsksNobody xs → (let none : Option (ℕ × ℕ) = None in seen_transfer c xs ≡ none)
no_transfer c [] a = refl
no_transfer c (x ∷ []) a = (λ j. if is_receive c then (elim (a.0 j) as (λ o. Option (ℕ × ℕ)) [ None ↦ None | Some a ↦ Some (c, a) ]) else None) ∙ no_receive (is_receive c)
no_transfer c (x ∷ y ∷ ys) a = refl

-- the gap
pub same_self : (b : Bus) → same_bus b b ≡ true
same_self A = refl
same_self B = refl

gap_over : (t : Bool) (c : ℕ) (xs : List Seen) → (let none : Option (ℕ × ℕ) = None in seen_transfer c xs ≡ none) → (if t then gapped (if t then Collects c xs else Idle) else (if t then Collects c xs else Idle)) ≡ Idle
gap_over true c xs e = ap seen_waits e
gap_over false c xs e = refl

gap_heard : (t : Bool) → (if t then false else t) ≡ false
gap_heard true = refl
gap_heard false = refl

-- what is done leaves its own transmitters on
abbrev pub Leaves : Cell → Type 0
Leaves cell = or_else (switched 4 5 (code_in cell)) false ≡ false

pub stays_on : (reset t : Bool) (cell : Cell) → Leaves cell → unless_reset reset false (if t then switched 4 5 (code_in cell) else None) false ≡ false
stays_on true t cell l = refl
stays_on false true cell l = l
stays_on false false cell l = refl

pub error_done : (P : Description) (reset : Bool) (c : ℕ) (cell : Cell) (ds : List ℕ) → error_by P None reset (Done c cell ds) false ≡ false
error_done P true c cell ds = refl
error_done P false c cell ds = elim (reports_kept cell) as (λ t. error_after (if t then None else Some false) false false ≡ false) [ true ↦ refl | false ↦ refl ]

pub gap_done : (P : Description) (b : Bus) (c : ℕ) (xs : List Seen) (cell : Cell) (ds : List ℕ) → gap_ending P false (Collects c xs) ≡ Done c cell ds → (let none : Option (ℕ × ℕ) = None in seen_transfer c xs ≡ none) → Leaves cell →
    next P (GapComes b) (collecting b c xs) ≡ resting (begun_if (not (is_broadcast c || false)) b (Some cell) None)
gap_done P b c xs cell ds e n l =
    let x : Ending = Done c cell ds in
    let ends : gap_ending P false (if same_bus b b then Collects c xs else Idle) ≡ x = ap (λ t. gap_ending P false (if t then Collects c xs else Idle)) (same_self b) ∙ e in
    let reset : Bool = reset_by (GapComes b) (effects P x) (collecting b c xs) in
    (λ j. next_with P (GapComes b) (collecting b c xs) false None (ends j) (reset_by (GapComes b) (effects P (ends j)) (collecting b c xs)))
    ∙ (λ j. record {
      message = λ a. gap_over (same_bus a b) c xs n j;
      heard = λ a. gap_heard (same_bus a b) j;
      reply = begun_if (not (is_broadcast c || false)) b (Some cell) None;
      off = λ a. stays_on reset (same_bus (other a) b) cell l j;
      busy = false;
      error = error_done P reset c cell ds j;
    })

-- a command of a cell, with its data words
pub record IsFormed (z : Bool) (c : ℕ) (cell : Cell) (vs : List ℕ) : Type 0 where
  pub has : cell_of c ≡ Some cell
  pub count : length vs ≡ expected c
  pub leaves : Leaves cell
  pub asks : z ≡ false → reports_kept cell ≡ false

pub asks_none : (z : Bool) (c : ℕ) (cell : Cell) (vs : List ℕ) → IsFormed z c cell vs → z ≡ false → asks_by (cell_of c) ≡ false
asks_none z c cell vs f q = ap asks_by f.has ∙ f.asks q

pub ends_by : (z : Bool) (P : Description) (c : ℕ) (cell : Cell) (vs : List ℕ) → IsFormed z c cell vs →
    gap_ending P false (Collects c (data_seen vs [])) ≡ (if P.legal cell then Done c cell vs else Illegal c)
ends_by z P c cell vs f =
    let t : Option (ℕ × ℕ) = seen_transfer c (data_seen vs []) in
    (λ j. ends_with P false c (if_expected c (words_seen vs [] [] refl j)) t)
    ∙ ((λ j. ends_with P false c (if eq-eqb (length vs) (expected c) f.count j then Some vs else None) t) ∙ (λ j. verdict P.legal false c vs (f.has j)))

pub done_by : (z : Bool) (P : Description) (c : ℕ) (cell : Cell) (vs : List ℕ) → IsFormed z c cell vs → P.legal cell ≡ true → gap_ending P false (Collects c (data_seen vs [])) ≡ Done c cell vs
done_by z P c cell vs f l = ends_by z P c cell vs f ∙ (λ j. if l j then Done c cell vs else Illegal c)

-- what is put, the gap last
abbrev pub put_single : Bus → ℕ → List ℕ → List Event
put_single b c vs = Word b (valid_word Com c) ∷ (data_on b vs ++ Gap b ∷ [])

pub after_gap : (es h : List Event) (b : Bus) → history_after (es ++ Gap b ∷ []) h ≡ Gap b ∷ history_after es h
after_gap [] h b = refl
after_gap (x ∷ es) h b = after_gap es (x ∷ h) b

pub meant_command : (P : Description) (c : ℕ) → is_meant P c ≡ true → command_in P (Some (valid_word Com c)) ≡ Some c
meant_command P c m = λ j. if valid Com c j && m j then Some c else None

unmeant_command : (P : Description) (c : ℕ) → is_meant P c ≡ false → command_in P (Some (valid_word Com c)) ≡ None
unmeant_command P c m = λ j. if valid Com c j && m j then Some c else None

pub data_rests : (z : Bool) (P : Description) (b : Bus) (vs : List ℕ) (h : List Event) → shown z P h ≡ resting None → shown z P (history_after (data_on b vs) h) ≡ resting None
data_rests z P b [] h s = s
data_rests z P b (v ∷ vs) h s =
    data_rests z P b vs (Word b (valid_word Dat v) ∷ h)
    (shown_next z P h (Word b (valid_word Dat v)) (resting None) (resting None) (λ q c k. cc) s (word_rests P b (seen_word true P (Some (valid_word Dat v))) None refl) refl)

pub command_collects : (z : Bool) (P : Description) (b : Bus) (c : ℕ) (h : List Event) → (z ≡ false → asks_by (cell_of c) ≡ false) → is_meant P c ≡ true → shown z P h ≡ resting None →
    shown z P (Word b (valid_word Com c) ∷ h) ≡ collecting b c []
command_collects z P b c h a m s =
    let w : Event = Word b (valid_word Com c) in
    shown_next z P h w (resting None) (collecting b c []) (event_can z true P w a) s (command_starts P b c (seen_word true P (Some (valid_word Com c))) (meant_command P c m)) refl

pub command_rests : (z : Bool) (P : Description) (b : Bus) (c : ℕ) (h : List Event) → is_meant P c ≡ false → shown z P h ≡ resting None → shown z P (Word b (valid_word Com c) ∷ h) ≡ resting None
command_rests z P b c h m s =
    let u : Seen = seen_word true P (Some (valid_word Com c)) in
    shown_next z P h (Word b (valid_word Com c)) (resting None) (resting None) (none_can z P b u (unmeant_command P c m)) s (word_rests P b u None (unmeant_command P c m)) refl

-- with all words, before the gap
pub meant_collects : (z : Bool) (P : Description) (b : Bus) (c : ℕ) (vs : List ℕ) (h : List Event) → (z ≡ false → asks_by (cell_of c) ≡ false) → is_meant P c ≡ true → shown z P h ≡ resting None →
    shown z P (history_after (data_on b vs) (Word b (valid_word Com c) ∷ h)) ≡ collecting b c (data_seen vs [])
meant_collects z P b c vs h a m s = data_collected z P b c vs [] (Word b (valid_word Com c) ∷ h) (command_collects z P b c h a m s)

pub unmeant_stays : (z : Bool) (P : Description) (b : Bus) (c : ℕ) (vs : List ℕ) (h : List Event) → is_meant P c ≡ false → shown z P h ≡ resting None →
    shown z P (history_after (data_on b vs) (Word b (valid_word Com c) ∷ h)) ≡ resting None
unmeant_stays z P b c vs h m s = data_rests z P b vs (Word b (valid_word Com c) ∷ h) (command_rests z P b c h m s)

-- and after it
pub meant_rests : (z : Bool) (P : Description) (b : Bus) (c : ℕ) (cell : Cell) (vs : List ℕ) (h : List Event) → IsFormed z c cell vs → is_meant P c ≡ true → P.legal cell ≡ true → shown z P h ≡ resting None →
    shown z P (history_after (put_single b c vs) h) ≡ resting (begun_if (not (is_broadcast c || false)) b (Some cell) None)
meant_rests z P b c cell vs h f m l s =
    let g : List Event = Word b (valid_word Com c) ∷ h in
    let xs : List Seen = data_seen vs [] in
    ap (shown z P) (after_gap (data_on b vs) g b)
    ∙ shown_next z P (history_after (data_on b vs) g) (Gap b) (collecting b c xs) (resting (begun_if (not (is_broadcast c || false)) b (Some cell) None)) tt (meant_collects z P b c vs h (asks_none z c cell vs f) m s)
    (gap_done P b c xs cell vs (done_by z P c cell vs f l) (no_transfer c xs (data_asks vs [] tt)) f.leaves) refl

pub unmeant_rests : (z : Bool) (P : Description) (b : Bus) (c : ℕ) (vs : List ℕ) (h : List Event) → is_meant P c ≡ false → shown z P h ≡ resting None → shown z P (history_after (put_single b c vs) h) ≡ resting None
unmeant_rests z P b c vs h m s =
    let g : List Event = Word b (valid_word Com c) ∷ h in
    ap (shown z P) (after_gap (data_on b vs) g b) ∙ gap_shown z P b (history_after (data_on b vs) g) (unmeant_stays z P b c vs h m s)

-- to all, where it is illegal and a message error may be kept
gap_illegal : (z : Bool) (P : Description) (b : Bus) (c : ℕ) (xs : List Seen) → gap_ending P false (Collects c xs) ≡ Illegal c → (let none : Option (ℕ × ℕ) = None in seen_transfer c xs ≡ none) → z ≡ false → is_broadcast c ≡ true →
    masked z (next P (GapComes b) (collecting b c xs)) ≡ resting None
gap_illegal z P b c xs e n off all =
    let x : Ending = Illegal c in
    let ends : gap_ending P false (if same_bus b b then Collects c xs else Idle) ≡ x = ap (λ t. gap_ending P false (if t then Collects c xs else Idle)) (same_self b) ∙ e in
    (λ j. masked (off j) (next_with P (GapComes b) (collecting b c xs) false None (ends j) (reset_by (GapComes b) (effects P (ends j)) (collecting b c xs))))
    ∙ (λ j. masked false (record {
      message = λ a. gap_over (same_bus a b) c xs n j;
      heard = λ a. gap_heard (same_bus a b) j;
      reply = begun_if (not (all j || false)) b None None;
      off = λ a. shut_none (same_bus (other a) b) j;
      busy = false;
      error = true;
    }))

pub illegal_rests : (z : Bool) (P : Description) (b : Bus) (c : ℕ) (cell : Cell) (vs : List ℕ) (h : List Event) → IsFormed z c cell vs → is_meant P c ≡ true → P.legal cell ≡ false → z ≡ false → is_broadcast c ≡ true → shown z P h ≡ resting None →
    shown z P (history_after (put_single b c vs) h) ≡ resting None
illegal_rests z P b c cell vs h f m l off all s =
    let g : List Event = Word b (valid_word Com c) ∷ h in
    let xs : List Seen = data_seen vs [] in
    ap (shown z P) (after_gap (data_on b vs) g b)
    ∙ shown_step z P (history_after (data_on b vs) g) (Gap b) (collecting b c xs) (resting None) tt (meant_collects z P b c vs h (asks_none z c cell vs f) m s)
    (gap_illegal z P b c xs (ends_by z P c cell vs f ∙ (λ j. if l j then Done c cell vs else Illegal c)) (no_transfer c xs (data_asks vs [] tt)) off all)
