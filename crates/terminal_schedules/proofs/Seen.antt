-- What a terminal sees of an event and of a message in progress, without what data words carry.
use Rattle.std.proofs.Common.{◌≡◌, ℕ, suc, Bool, true, false, not, ◌&&◌, ◌||◌, ◌==◌, if◌then◌else◌, Option, Some, None, List, [], ◌∷◌, ◌++◌, map, length, refl, ap, ◌∙◌}
use Rattle.bus_word.specs.declared.word.Raw.{Raw}
use Rattle.bus_word.specs.declared.cell.Cell.{Cell}
use Rattle.bus_word.specs.Word.{is_command}
use Rattle.bus_word.specs.Command.{address_of, transmits, is_receive, is_broadcast, expected}
use Rattle.bus_word.specs.Cell.{cell_of}
use Rattle.bus_legal.specs.Description.{Description}
use Rattle.terminal_rules.specs.History.{Entry, Ending, Nothing, Badly, Illegal, Blocked, Done}
use Rattle.terminal_rules.specs.Open.{MessageState, Open, Idle, Collects, Waits, Resumes, transmitter_at, transfer, status_at}
use Rattle.terminal_rules.specs.Starts.{is_for_terminal, is_free, is_fresh_broadcast, starts_message}
use Rattle.terminal_rules.specs.Ends.{is_blocked_by_busy, data_of, with_word, data_words, if_expected, verdict, ends_with, at_gap, at_entry}
use Rattle.terminal_rules.proofs.OpenLaw.{after_gap, after_entry, unheard, waits}
use Rattle.terminal_schedules.specs.Schedule.{said_datum}

-- what is seen of a word or noise: data; the address that it has transmit; the address whose status word it may be; a command
pub record Seen : Type 0 where
  pub carried : Option ℕ
  pub transmitter : Option ℕ
  pub status : Option ℕ
  pub command : Option ℕ

abbrev pub said_data : Bool → Option ℕ → Option ℕ
said_data e None = None
said_data e (Some v) = Some (said_datum e v)

abbrev pub status_in : Option Raw → Option ℕ
status_in None = None
status_in (Some w) = if is_command w then Some (address_of w.bits) else None

abbrev pub command_in : Description → Option Raw → Option ℕ
command_in P None = None
command_in P (Some w) = if is_for_terminal P w then Some w.bits else None

abbrev pub seen_word : Bool → Description → Option Raw → Seen
seen_word e P w = record { carried = said_data e (data_of w); transmitter = transmitter_at P.address w; status = status_in w; command = command_in P w }

abbrev pub seen_after : Bool → Description → List Entry → List Seen
seen_after e P [] = []
seen_after e P (x ∷ xs) = seen_word e P x.word ∷ seen_after e P xs

abbrev pub SeenOpen : Type 0
SeenOpen = MessageState (List Seen)

abbrev pub seen_open : Bool → Description → Open → SeenOpen
seen_open e P Idle = Idle
seen_open e P (Collects c after) = Collects c (seen_after e P after)
seen_open e P (Waits c a) = Waits c a
seen_open e P (Resumes c after) = Resumes c (seen_after e P after)

-- what is seen of an end
abbrev pub seen_ending : Bool → Ending → Ending
seen_ending e Nothing = Nothing
seen_ending e (Badly c) = Badly c
seen_ending e (Illegal c) = Illegal c
seen_ending e (Blocked c cell) = Blocked c cell
seen_ending e (Done c cell ds) = Done c cell (map (said_datum e) ds)

-- with all that is said, an end is seen as it is
same_data : (ds : List ℕ) → map (said_datum true) ds ≡ ds
same_data [] = refl
same_data (d ∷ ds) = ap (λ vs. d ∷ vs) (same_data ds)

pub exact_ending : (x : Ending) → seen_ending true x ≡ x
exact_ending Nothing = refl
exact_ending (Badly c) = refl
exact_ending (Illegal c) = refl
exact_ending (Blocked c cell) = refl
exact_ending (Done c cell ds) = ap (λ vs. Done c cell vs) (same_data ds)

-- an awaited status
abbrev pub is_awaited : ℕ → Option ℕ → Bool
is_awaited a None = false
is_awaited a (Some b) = b == a

awaited_law : (a : ℕ) (w : Option Raw) → status_at a w ≡ is_awaited a (status_in w)
awaited_law a None = refl
awaited_law a (Some w) = elim (is_command w) as (λ t. t && (address_of w.bits == a) ≡ is_awaited a (if t then Some (address_of w.bits) else None)) [ true ↦ refl | false ↦ refl ]

-- an entry more
abbrev pub entered : Seen → SeenOpen → SeenOpen
entered s Idle = Idle
entered s (Collects c xs) = Collects c (s ∷ xs)
entered s (Waits c a) = if is_awaited a s.status then Resumes c [] else Idle
entered s (Resumes c xs) = Resumes c (s ∷ xs)

pub entered_law : (e : Bool) (P : Description) (w : Option Raw) (o : Open) → seen_open e P (after_entry (unheard w) o) ≡ entered (seen_word e P w) (seen_open e P o)
entered_law e P w Idle = refl
entered_law e P w (Collects c after) = refl
entered_law e P w (Waits c a) =
    elim (status_at a w) as (λ t. seen_open e P (if t then Resumes c [] else Idle) ≡ (if t then Resumes c [] else Idle)) [ true ↦ refl | false ↦ refl ]
    ∙ (λ j. if awaited_law a w j then Resumes c [] else Idle)
entered_law e P w (Resumes c after) = refl

-- a transfer
abbrev pub seen_transfer : ℕ → List Seen → Option (ℕ × ℕ)
seen_transfer c (x ∷ []) = if is_receive c then (elim x.transmitter [ None ↦ None | Some a ↦ Some (c, a) ]) else None
seen_transfer c _ = None

transfer_law : (e : Bool) (P : Description) (c : ℕ) (after : List Entry) → transfer P (Some (c, after)) ≡ seen_transfer c (seen_after e P after)
transfer_law e P c [] = refl
transfer_law e P c (x ∷ []) = refl
transfer_law e P c (x ∷ y ∷ ys) = refl

abbrev pub seen_waits : Option (ℕ × ℕ) → SeenOpen
seen_waits None = Idle
seen_waits (Some t) = Waits t.0 t.1

waits_law : (e : Bool) (P : Description) (t : Option (ℕ × ℕ)) → seen_open e P (waits t) ≡ seen_waits t
waits_law e P None = refl
waits_law e P (Some t) = refl

abbrev pub gapped : SeenOpen → SeenOpen
gapped Idle = Idle
gapped (Collects c xs) = seen_waits (seen_transfer c xs)
gapped (Waits c a) = Idle
gapped (Resumes c xs) = Idle

pub gapped_law : (e : Bool) (P : Description) (o : Open) → seen_open e P (after_gap P o) ≡ gapped (seen_open e P o)
gapped_law e P Idle = refl
gapped_law e P (Collects c after) = waits_law e P (transfer P (Some (c, after))) ∙ ap seen_waits (transfer_law e P c after)
gapped_law e P (Waits c a) = refl
gapped_law e P (Resumes c after) = refl

-- the data words of a message
abbrev pub seen_words : List Seen → Option (List ℕ)
seen_words [] = Some []
seen_words (x ∷ xs) = with_word (seen_words xs) x.carried

abbrev pub said_words : Bool → Option (List ℕ) → Option (List ℕ)
said_words e None = None
said_words e (Some ds) = Some (map (said_datum e) ds)

map_snoc : (f : ℕ → ℕ) (ds : List ℕ) (d : ℕ) → map f (ds ++ d ∷ []) ≡ map f ds ++ f d ∷ []
map_snoc f [] d = refl
map_snoc f (x ∷ xs) d = ap (λ ys. f x ∷ ys) (map_snoc f xs d)

map_count : (f : ℕ → ℕ) (ds : List ℕ) → length ds ≡ length (map f ds)
map_count f [] = refl
map_count f (d ∷ ds) = ap suc (map_count f ds)

with_said : (e : Bool) (m : Option (List ℕ)) (d : Option ℕ) → said_words e (with_word m d) ≡ with_word (said_words e m) (said_data e d)
with_said e None d = refl
with_said e (Some ds) None = refl
with_said e (Some ds) (Some d) = ap (λ xs. Some xs) (map_snoc (said_datum e) ds d)

words_law : (e : Bool) (P : Description) (after : List Entry) → said_words e (data_words after) ≡ seen_words (seen_after e P after)
words_law e P [] = refl
words_law e P (x ∷ xs) = with_said e (data_words xs) (data_of x.word) ∙ ap (λ m. with_word m (said_data e (data_of x.word))) (words_law e P xs)

expected_law : (e : Bool) (c : ℕ) (m : Option (List ℕ)) → said_words e (if_expected c m) ≡ if_expected c (said_words e m)
expected_law e c None = refl
expected_law e c (Some ds) =
    elim (length ds == expected c) as (λ t. said_words e (if t then Some ds else None) ≡ (if t then Some (map (said_datum e) ds) else None)) [ true ↦ refl | false ↦ refl ]
    ∙ (λ j. if map_count (said_datum e) ds j == expected c then Some (map (said_datum e) ds) else None)

-- how a gap ends a message
verdict_law : (e : Bool) (legal : Cell → Bool) (busy : Bool) (c : ℕ) (ds : List ℕ) (o : Option Cell) → seen_ending e (verdict legal busy c ds o) ≡ verdict legal busy c (map (said_datum e) ds) o
verdict_law e legal busy c ds None = refl
verdict_law e legal busy c ds (Some cell) = by_tests (legal cell) (busy && is_blocked_by_busy cell)
  where
    by_tests : (l k : Bool) →
        seen_ending e (if l then (if k then Blocked c cell else Done c cell ds) else Illegal c) ≡ (if l then (if k then Blocked c cell else Done c cell (map (said_datum e) ds)) else Illegal c)
    by_tests true true = refl
    by_tests true false = refl
    by_tests false k = refl

with_law : (e : Bool) (P : Description) (busy : Bool) (c : ℕ) (m : Option (List ℕ)) (t : Option (ℕ × ℕ)) → seen_ending e (ends_with P busy c m t) ≡ ends_with P busy c (said_words e m) t
with_law e P busy c (Some ds) t = verdict_law e P.legal busy c ds (cell_of c)
with_law e P busy c None (Some t) = refl
with_law e P busy c None None = refl

abbrev pub gap_ending : Description → Bool → SeenOpen → Ending
gap_ending P busy Idle = Nothing
gap_ending P busy (Collects c xs) = ends_with P busy c (if_expected c (seen_words xs)) (seen_transfer c xs)
gap_ending P busy (Waits c a) = Badly c
gap_ending P busy (Resumes c xs) = ends_with P busy c (if_expected c (seen_words xs)) None

complete_law : (e : Bool) (P : Description) (c : ℕ) (after : List Entry) → said_words e (if_expected c (data_words after)) ≡ if_expected c (seen_words (seen_after e P after))
complete_law e P c after = expected_law e c (data_words after) ∙ ap (if_expected c) (words_law e P after)

pub gap_ending_law : (e : Bool) (P : Description) (busy : Bool) (o : Open) → seen_ending e (at_gap P busy o) ≡ gap_ending P busy (seen_open e P o)
gap_ending_law e P busy Idle = refl
gap_ending_law e P busy (Collects c after) =
    with_law e P busy c (if_expected c (data_words after)) (transfer P (Some (c, after)))
    ∙ (λ j. ends_with P busy c (complete_law e P c after j) (transfer_law e P c after j))
gap_ending_law e P busy (Waits c a) = refl
gap_ending_law e P busy (Resumes c after) =
    with_law e P busy c (if_expected c (data_words after)) None ∙ (λ j. ends_with P busy c (complete_law e P c after j) None)

abbrev pub entry_ending : Seen → SeenOpen → Ending
entry_ending s (Waits c a) = if is_awaited a s.status then Nothing else Badly c
entry_ending s _ = Nothing

pub entry_ending_law : (e : Bool) (P : Description) (w : Option Raw) (o : Open) → seen_ending e (at_entry w o) ≡ entry_ending (seen_word e P w) (seen_open e P o)
entry_ending_law e P w Idle = refl
entry_ending_law e P w (Collects c after) = refl
entry_ending_law e P w (Waits c a) =
    elim (status_at a w) as (λ t. seen_ending e (if t then Nothing else Badly c) ≡ (if t then Nothing else Badly c)) [ true ↦ refl | false ↦ refl ]
    ∙ (λ j. if awaited_law a w j then Nothing else Badly c)
entry_ending_law e P w (Resumes c after) = refl

-- what starts a message
abbrev pub seen_fresh : SeenOpen → Bool
seen_fresh (Collects c []) = is_receive c && is_broadcast c
seen_fresh _ = false

pub fresh_law : (e : Bool) (P : Description) (o : Open) → is_fresh_broadcast o ≡ seen_fresh (seen_open e P o)
fresh_law e P Idle = refl
fresh_law e P (Collects c []) = refl
fresh_law e P (Collects c (x ∷ xs)) = refl
fresh_law e P (Waits c a) = refl
fresh_law e P (Resumes c after) = refl

pub free_law : (e : Bool) (P : Description) (o : Open) → is_free o ≡ is_free (seen_open e P o)
free_law e P Idle = refl
free_law e P (Collects c after) = refl
free_law e P (Waits c a) = refl
free_law e P (Resumes c after) = refl

-- the command that starts a message, by whether it is ignored, heard, free and fresh
abbrev pub starting : Description → Bool → Bool → Bool → Bool → Option ℕ → Option ℕ
starting P ignored heard free fresh None = None
starting P ignored heard free fresh (Some c) =
    if not ignored && ((not heard && free) || (fresh && (transmits c && (address_of c == P.address)))) then Some c else None

pub starting_law : (P : Description) (w : Raw) (ignored heard free fresh : Bool) →
    (if not ignored && starts_message P w heard free fresh then Some w.bits else None) ≡ starting P ignored heard free fresh (command_in P (Some w))
starting_law P w ignored heard free fresh = by_tests ignored (is_for_terminal P w)
  where
    by_tests : (i f : Bool) →
        (if not i && (f && ((not heard && free) || (fresh && (transmits w.bits && (address_of w.bits == P.address))))) then Some w.bits else None)
        ≡ starting P i heard free fresh (if f then Some w.bits else None)
    by_tests true true = refl
    by_tests true false = refl
    by_tests false true = refl
    by_tests false false = refl

-- a word, by the command that it starts a message with
abbrev pub worded : Bool → Seen → Option ℕ → SeenOpen → SeenOpen
worded same s (Some c) o = if same then Collects c [] else Idle
worded same s None o = if same then entered s o else o

pub worded_law : (e : Bool) (P : Description) (same starts : Bool) (w : Raw) (o : Open) →
    seen_open e P (if starts then (if same then Collects w.bits [] else Idle) else (if same then after_entry (unheard (Some w)) o else o))
    ≡ worded same (seen_word e P (Some w)) (if starts then Some w.bits else None) (seen_open e P o)
worded_law e P true true w o = refl
worded_law e P false true w o = refl
worded_law e P true false w o = entered_law e P (Some w) o
worded_law e P false false w o = refl
