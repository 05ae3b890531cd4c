-- Terminals that differ in a word that they hold at power-up, or in wraparound.
use Rattle.std.proofs.Common.{◌≡◌, ℕ, suc, ◌+◌, ◌-◌, ◌≤◌, Bool, true, false, ◌≢◌, not, ◌&&◌, ◌||◌, ◌==◌, nat_le, if◌then◌else◌, Option, Some, None, List, [], ◌∷◌, length, replicate, refl, ap, sym, ◌∙◌, arith}
use Rattle.std.proofs.lemmas.List.{length-replicate}
use Rattle.std.proofs.lemmas.Bool.Decides.{nat_tests}
use Rattle.bus_word.specs.declared.word.Bus.TheVariants.{A}
use Rattle.bus_word.specs.declared.word.Kind.TheVariants.{Com, Dat}
use Rattle.bus_word.specs.declared.cell.Cell.{Cell}
use Rattle.bus_word.specs.declared.cell.Cell.TheVariants.{OwnReceive, OwnTransmit, BroadReceive, OwnMode, BroadMode}
use Rattle.bus_word.specs.Command.{is_broadcast}
use Rattle.bus_word.specs.Cell.{is_data_place, cell_of}
use Rattle.bus_word.specs.Status.{status_word}
use Rattle.bus_legal.specs.Description.{Description}
use Rattle.terminal_rules.specs.LookBack.{or_else}
use Rattle.terminal_rules.specs.History.{Noted, Replying, Ending, Nothing, Badly, Illegal, Blocked, Done}
use Rattle.terminal_rules.specs.SinceReset.{off_now, nth_word, wrapped_at, wrapped, held_set, held_now}
use Rattle.terminal_rules.specs.Ends.{verdict, well}
use Rattle.terminal_rules.specs.Starts.{is_meant}
use Rattle.terminal_rules.specs.Turn.{is_answered, done_cell}
use Rattle.terminal_rules.specs.Status.{kept_now}
use Rattle.terminal_rules.specs.Out.{sending}
use Rattle.terminal_exchanges.specs.Exchanges.{Exchange, script_of}
use Rattle.terminal_exchanges.specs.ExchangeLaws.{ending_of_exchange, slots_needed, AreAnswered}
use Rattle.terminal_exchanges.proofs.Notes.{gap_note, slot_notes, notes_at_gap, exchange_notes}
use Rattle.terminal_exchanges.specs.Distinguish.{TellsApart, all_terminals, transmit, receive_complement}
use Rattle.terminal_rules.specs.Steps.{unless_reset, begun_if}
use Rattle.terminal_rules.proofs.BackLaw.{held_step}
use Rattle.bus_word.proofs.Places.{place_count, place_from}
use Rattle.terminal_rules.proofs.ResetLaw.{gap_as, gap_resets}
use Rattle.terminal_exchanges.proofs.ExchangeLaw.{idle_law, at_gap_reply}
use Rattle.terminal_exchanges.proofs.Distinguish.Commands.{IsTo, slots_for-own, zeros_small, receive_to_own, receive_to_all, transmit_from_own, moved}
use Rattle.terminal_exchanges.proofs.Distinguish.Last.{slot_at, apart_by_one, apart_by_two, bits_in}
use Rattle.terminal_exchanges.proofs.Distinguish.Quiet.{notes_at, exchange_back}
use Rattle.terminal_exchanges.proofs.Distinguish.Said.{all_pass, any, all_any, nothing_said}
use Rattle.terminal_exchanges.proofs.Distinguish.Own.{ended, own_ends, own_sent, is_no_reset, never_resets, slots_back, own_back}
use Rattle.terminal_exchanges.proofs.Distinguish.Broadcast.{broadcast_ends, broadcast_answered}

-- a word that a reply to a transmit command sends, in its slot
pub word_sent : (P : Description) (xs : List Exchange) (x : Exchange) (s n i : ℕ) → P.address ≤ 30 → IsTo P.address (Some (OwnTransmit s n)) x → P.legal (OwnTransmit s n) ≡ true → AreAnswered P xs → 1 ≤ i → i ≤ n →
    bits_in (slot_at i P xs x) ≡ held_now P (exchange_notes P xs) s i
word_sent P xs x s n i low to legal a from upto =
    let few : nat_le i n ≡ true = grind (arith, nat_tests) in
    let later : (i == 0) ≡ false = grind (arith, nat_tests) in
    let k : List Noted = slot_notes i (notes_at_gap P x (exchange_notes P xs)) in
    ap bits_in (own_sent P xs x (OwnTransmit s n) true i low to legal a few)
    ∙ (ap (λ t. bits_in (Some (if t then sending A Com (status_word P.address (kept_now P k)) else sending A Dat (held_now P k s i)))) later
    ∙ ap (λ o. or_else o (P.initial s i)) (own_back P (held_set P s i) xs x (OwnTransmit s n) i low to legal a refl (λ k. refl) (λ d. refl) refl refl))

-- 11: an initial word
pub initial_tells : (P Q : Description) (s n i : ℕ) → P.address ≤ 30 → P.address ≡ Q.address → is_data_place s n ≡ true →
    P.legal (OwnTransmit s n) ≡ true → Q.legal (OwnTransmit s n) ≡ true → 1 ≤ i → i ≤ n → P.initial s i ≢ Q.initial s i → TellsApart P Q (script_of (transmit P.address s n (n + 1) ∷ []))
initial_tells P Q s n i low same place p_legal q_legal from upto other =
    let x : Exchange = transmit P.address s n (n + 1) in
    let high : n ≤ 32 = place_count s n place in
    let to : IsTo P.address (Some (OwnTransmit s n)) x = transmit_from_own P.address s n (n + 1) low place (omega arith) (omega arith) in
    let low_q : Q.address ≤ 30 = omega arith in
    apart_by_one bits_in i P Q P.address (Some (OwnTransmit s n)) x (P.initial s i) (Q.initial s i) to (omega arith)
    (word_sent P [] x s n i low to p_legal tt from upto)
    (word_sent Q [] x s n i low_q (moved P.address Q.address (Some (OwnTransmit s n)) x same to) q_legal tt from upto)
    other

-- a command and its data words change nothing that is held
held_at : (P : Description) (xs : List Exchange) (x : Exchange) (s i : ℕ) → held_now P (notes_at P xs x) s i ≡ held_now P (exchange_notes P xs) s i
held_at P xs x s i = ap (λ o. or_else o (P.initial s i)) (exchange_back P (held_set P s i) x (exchange_notes P xs) (λ d. refl) refl)

-- The words held are those of power-up where no exchange had data words,
abbrev has_no_words : List ℕ → Bool
has_no_words [] = true
has_no_words (d ∷ ds) = false

abbrev pub is_wordless : Exchange → Bool
is_wordless x = has_no_words x.words

wrapped_without : (wrap s i t : ℕ) → wrapped_at wrap s i t [] ≡ None
wrapped_without wrap s i t = by_test ((s == t) && (t == wrap))
  where
    by_test : (b : Bool) → (let none : Option ℕ = None in (if b then none else none) ≡ none)
    by_test true = refl
    by_test false = refl

wordless_cell : (wrap s i c : ℕ) (cell : Cell) → wrapped wrap s i (Done c cell []) ≡ None
wordless_cell wrap s i c (OwnReceive t n) = wrapped_without wrap s i t
wordless_cell wrap s i c (BroadReceive t n) = wrapped_without wrap s i t
wordless_cell wrap s i c (OwnTransmit t n) = refl
wordless_cell wrap s i c (OwnMode code) = refl
wordless_cell wrap s i c (BroadMode code) = refl

wordless_end : (P : Description) (wrap s i : ℕ) (x : Exchange) → is_wordless x ≡ true → wrapped wrap s i (ending_of_exchange P x) ≡ None
wordless_end P wrap s i x none = by_meant (is_meant P x.command)
  where
    by_words : (ds : List ℕ) (cell : Cell) → has_no_words ds ≡ true → wrapped wrap s i (Done x.command cell ds) ≡ None
    by_words [] cell e = wordless_cell wrap s i x.command cell
    by_words (d ∷ ds) cell e = cc

    by_legal : (l : Bool) (cell : Cell) → wrapped wrap s i (ended l x cell) ≡ None
    by_legal true cell = by_words x.words cell none
    by_legal false cell = refl

    by_cell : (o : Option Cell) → wrapped wrap s i (verdict P.legal false x.command x.words o) ≡ None
    by_cell None = refl
    by_cell (Some cell) = by_legal (P.legal cell) cell

    by_meant : (m : Bool) → wrapped wrap s i (if m then well P false x.command x.words else Nothing) ≡ None
    by_meant true = by_cell (cell_of x.command)
    by_meant false = refl

pub initial_held : (P : Description) (xs : List Exchange) (s i : ℕ) → all_pass is_wordless xs ≡ true → held_now P (exchange_notes P xs) s i ≡ P.initial s i
initial_held P xs s i passed =
    ap (λ o. or_else o (P.initial s i))
    (nothing_said P (held_set P s i) (λ d. refl) (λ c. refl) (λ k. refl) is_wordless (λ x k none. wordless_end P P.wrap s i x none) xs passed)

-- and at every subaddress but that of wraparound
unwrapped_at : (wrap s i t : ℕ) (ds : List ℕ) → (s == wrap) ≡ false → wrapped_at wrap s i t ds ≡ None
unwrapped_at wrap s i t ds other = ap (λ b. if b then nth_word i ds else None) (by_tests s t wrap other)
  where
    by_tests : (s t wrap : ℕ) → (s == wrap) ≡ false → (s == t) && (t == wrap) ≡ false
    by_tests s t wrap other = grind (arith, nat_tests)

unwrapped_end : (wrap s i : ℕ) (e : Ending) → (s == wrap) ≡ false → wrapped wrap s i e ≡ None
unwrapped_end wrap s i (Done c (OwnReceive t n) ds) other = unwrapped_at wrap s i t ds other
unwrapped_end wrap s i (Done c (BroadReceive t n) ds) other = unwrapped_at wrap s i t ds other
unwrapped_end wrap s i (Done c (OwnTransmit t n) ds) other = refl
unwrapped_end wrap s i (Done c (OwnMode code) ds) other = refl
unwrapped_end wrap s i (Done c (BroadMode code) ds) other = refl
unwrapped_end wrap s i Nothing other = refl
unwrapped_end wrap s i (Badly c) other = refl
unwrapped_end wrap s i (Illegal c) other = refl
unwrapped_end wrap s i (Blocked c cell) other = refl

unwrapped_held : (P : Description) (xs : List Exchange) (s i : ℕ) → (s == P.wrap) ≡ false → held_now P (exchange_notes P xs) s i ≡ P.initial s i
unwrapped_held P xs s i other =
    ap (λ o. or_else o (P.initial s i))
    (nothing_said P (held_set P s i) (λ d. refl) (λ c. refl) (λ k. refl) any (λ x k p. unwrapped_end P.wrap s i (ending_of_exchange P x) other) xs (all_any xs))

-- 12: wraparound. A receive command at its subaddress, own or by broadcast.
abbrev pub IsReceived : ℕ → Cell → Type 0
IsReceived s (OwnReceive t n) = t ≡ s
IsReceived s (BroadReceive t n) = t ≡ s
IsReceived s cell = ⊥

-- what is held first after that
abbrev pub held_first : Bool → ℕ → ℕ → ℕ
held_first wrap received initial = if wrap then received else initial

wrapped_first : (s wrap received before : ℕ) → or_else (if (s == s) && (s == wrap) then Some received else None) before ≡ held_first (s == wrap) received before
wrapped_first s wrap received before = ap (λ b. or_else (if b && (s == wrap) then Some received else None) before) (same s) ∙ by_test (s == wrap)
  where
    same : (s : ℕ) → (s == s) ≡ true
    same s = grind (arith, nat_tests)

    by_test : (b : Bool) → or_else (if b then Some received else None) before ≡ held_first b received before
    by_test true = refl
    by_test false = refl

received_cell : (P : Description) (h : List Noted) (begins : Bool) (c s : ℕ) (cell : Cell) (d : ℕ) (ds : List ℕ) → IsReceived s cell →
    held_now P (gap_as A begins (Done c cell (d ∷ ds)) ∷ h) s 1 ≡ held_first (s == P.wrap) d (held_now P h s 1)
received_cell P h begins c s (OwnReceive t n) d ds at =
    let p : Noted = gap_as A begins (Done c (OwnReceive s n) (d ∷ ds)) in
    ap (λ t. held_now P (gap_as A begins (Done c (OwnReceive t n) (d ∷ ds)) ∷ h) s 1) at
    ∙ (held_step P s 1 p h
    ∙ (ap (λ r. unless_reset r (P.initial s 1) (held_set P s 1 p) (held_now P h s 1)) (gap_resets A begins (Done c (OwnReceive s n) (d ∷ ds)))
    ∙ wrapped_first s P.wrap d (held_now P h s 1)))
received_cell P h begins c s (BroadReceive t n) d ds at =
    let p : Noted = gap_as A begins (Done c (BroadReceive s n) (d ∷ ds)) in
    ap (λ t. held_now P (gap_as A begins (Done c (BroadReceive t n) (d ∷ ds)) ∷ h) s 1) at
    ∙ (held_step P s 1 p h
    ∙ (ap (λ r. unless_reset r (P.initial s 1) (held_set P s 1 p) (held_now P h s 1)) (gap_resets A begins (Done c (BroadReceive s n) (d ∷ ds)))
    ∙ wrapped_first s P.wrap d (held_now P h s 1)))
received_cell P h begins c s (OwnTransmit t n) d ds at = absurd at
received_cell P h begins c s (OwnMode code) d ds at = absurd at
received_cell P h begins c s (BroadMode code) d ds at = absurd at

received_no_reset : (c s : ℕ) (cell : Cell) (ds : List ℕ) → IsReceived s cell → is_no_reset (done_cell (Done c cell ds)) ≡ true
received_no_reset c s (OwnReceive t n) ds at = refl
received_no_reset c s (BroadReceive t n) ds at = refl
received_no_reset c s (OwnTransmit t n) ds at = absurd at
received_no_reset c s (OwnMode code) ds at = absurd at
received_no_reset c s (BroadMode code) ds at = absurd at

begun_never : (a : Bool) (cell : Option Cell) → is_no_reset cell ≡ true → never_resets (let none : Option Replying = None in begun_if a A cell none) ≡ true
begun_never true cell e = e
begun_never false cell e = refl

-- what is held first after a receive message and its slots
done_held : (P : Description) (xs : List Exchange) (x : Exchange) (s : ℕ) (cell : Cell) (d : ℕ) (ds : List ℕ) → AreAnswered P xs → ending_of_exchange P x ≡ Done x.command cell (d ∷ ds) → IsReceived s cell →
    held_now P (exchange_notes P (x ∷ xs)) s 1 ≡ held_first (s == P.wrap) d (held_now P (notes_at P xs x) s 1)
done_held P xs x s cell d ds a ends received =
    let k : List Noted = notes_at P xs x in
    let begins : Bool = is_answered (off_now k A) (Done x.command cell (d ∷ ds)) in
    ap (λ o. or_else o (P.initial s 1))
    (slots_back (held_set P s 1) x.slots (notes_at_gap P x (exchange_notes P xs)) (λ k. refl)
    (ap never_resets (at_gap_reply P x (exchange_notes P xs) (idle_law P xs a))
    ∙ (ap (λ e. never_resets (let none : Option Replying = None in begun_if (is_answered (off_now k A) e) A (done_cell e) none)) ends
    ∙ begun_never begins (done_cell (Done x.command cell (d ∷ ds))) (received_no_reset x.command s cell (d ∷ ds) received))))
    ∙ (ap (λ e. held_now P (gap_note k e ∷ k) s 1) ends
    ∙ received_cell P k begins x.command s cell d ds received)

-- the first word sent after a receive message, and then a transmit message
pub word_back : (P : Description) (xs : List Exchange) (x y : Exchange) (s : ℕ) (cell : Cell) (m d : ℕ) (ds : List ℕ) → P.address ≤ 30 → AreAnswered P (x ∷ xs) →
    ending_of_exchange P x ≡ Done x.command cell (d ∷ ds) → IsReceived s cell →
    IsTo P.address (Some (OwnTransmit s m)) y → 1 ≤ m → P.legal (OwnTransmit s m) ≡ true →
    bits_in (slot_at 1 P (x ∷ xs) y) ≡ held_first (s == P.wrap) d (P.initial s 1)
word_back P xs x y s cell m d ds low a ends received second some legal =
    word_sent P (x ∷ xs) y s m 1 low second legal a (omega arith) some
    ∙ (done_held P xs x s cell d ds a.1 ends received
    ∙ (ap (held_first (s == P.wrap) d) (held_at P xs x s 1) ∙ by_wrap (s == P.wrap) refl))
  where
    by_wrap : (b : Bool) → (s == P.wrap) ≡ b → held_first b d (held_now P (exchange_notes P xs) s 1) ≡ held_first b d (P.initial s 1)
    by_wrap true e = refl
    by_wrap false e = unwrapped_held P xs s 1 e

-- no word is its own complement
pub wrap_told : (p q : Bool) (w : ℕ) → held_first p (65535 - w) w ≡ held_first q (65535 - w) w → p ≡ q
wrap_told true true w e = refl
wrap_told true false w e = absurd (omega arith)
wrap_told false true w e = absurd (omega arith)
wrap_told false false w e = refl

wrap_apart : (P Q : Description) (x : Exchange) (to s : ℕ) (cell : Cell) (m : ℕ) (ds : List ℕ) → P.address ≤ 30 → P.address ≡ Q.address → IsTo to (Some cell) x → IsReceived s cell →
    x.slots ≤ 1 → AreAnswered P (x ∷ []) → AreAnswered Q (x ∷ []) →
    ending_of_exchange P x ≡ Done x.command cell ((65535 - P.initial s 1) ∷ ds) → ending_of_exchange Q x ≡ Done x.command cell ((65535 - P.initial s 1) ∷ ds) →
    is_data_place s m ≡ true → P.legal (OwnTransmit s m) ≡ true → Q.legal (OwnTransmit s m) ≡ true →
    P.initial s 1 ≡ Q.initial s 1 → (s == P.wrap) ≢ (s == Q.wrap) → TellsApart P Q (script_of (x ∷ transmit P.address s m (m + 1) ∷ []))
wrap_apart P Q x to s cell m ds low same first received one pa qa p_ends q_ends place p_legal q_legal initial other =
    let w : ℕ = P.initial s 1 in
    let y : Exchange = transmit P.address s m (m + 1) in
    let high : m ≤ 32 = place_count s m place in
    let some : 1 ≤ m = place_from s m place in
    let second : IsTo P.address (Some (OwnTransmit s m)) y = transmit_from_own P.address s m (m + 1) low place (omega arith) (omega arith) in
    let low_q : Q.address ≤ 30 = omega arith in
    apart_by_two bits_in 1 P Q to P.address (Some cell) (Some (OwnTransmit s m)) x y (held_first (s == P.wrap) (65535 - w) w) (held_first (s == Q.wrap) (65535 - w) w) first second refl
    one pa qa (omega arith)
    (word_back P [] x y s cell m (65535 - w) ds low pa p_ends received second some p_legal)
    (word_back Q [] x y s cell m (65535 - w) ds low_q qa q_ends received (moved P.address Q.address (Some (OwnTransmit s m)) y same second) some q_legal
    ∙ ap (held_first (s == Q.wrap) (65535 - w)) (sym initial))
    (λ e. other (wrap_told (s == P.wrap) (s == Q.wrap) w e))

-- so many data words, the first of them this one
pub words_length : (s n d : ℕ) → is_data_place s n ≡ true → length (d ∷ replicate (n - 1) 0) ≡ n
words_length s n d place =
    let some : 1 ≤ n = place_from s n place in
    let again : suc (n - 1) ≡ n = omega arith in
    ap suc (length-replicate (n - 1) 0) ∙ again

pub complement_to_own : (P : Description) (s n : ℕ) → P.address ≤ 30 → is_data_place s n ≡ true → IsTo P.address (Some (OwnReceive s n)) (receive_complement P s P.address n)
complement_to_own P s n low place =
    let d : ℕ = 65535 - P.initial s 1 in
    receive_to_own P.address s n (d ∷ replicate (n - 1) 0) low place (words_length s n d place) (omega arith, zeros_small (n - 1))

pub complement_to_all : (P : Description) (s n : ℕ) → is_data_place s n ≡ true → IsTo all_terminals (Some (BroadReceive s n)) (receive_complement P s all_terminals n)
complement_to_all P s n place =
    let d : ℕ = 65535 - P.initial s 1 in
    receive_to_all s n (d ∷ replicate (n - 1) 0) place (words_length s n d place) (omega arith, zeros_small (n - 1))

-- one slot is what the reply to a receive command needs
needs_one : (c s : ℕ) (cell : Cell) (ds : List ℕ) → IsReceived s cell → slots_needed (Done c cell ds) ≤ 1
needs_one c s (OwnReceive t n) ds at = by_all (is_broadcast c)
  where
    by_all : (b : Bool) → (if not (b || false) then 1 else 0) ≤ 1
    by_all true = omega arith
    by_all false = omega arith
needs_one c s (BroadReceive t n) ds at = by_all (is_broadcast c)
  where
    by_all : (b : Bool) → (if not (b || false) then 1 else 0) ≤ 1
    by_all true = omega arith
    by_all false = omega arith
needs_one c s (OwnTransmit t n) ds at = absurd at
needs_one c s (OwnMode code) ds at = absurd at
needs_one c s (BroadMode code) ds at = absurd at

received_answered : (P : Description) (x : Exchange) (s : ℕ) (cell : Cell) (ds : List ℕ) → x.slots ≡ 1 → ending_of_exchange P x ≡ Done x.command cell ds → IsReceived s cell → AreAnswered P (x ∷ [])
received_answered P x s cell ds one ends received =
    let few : slots_needed (Done x.command cell ds) ≤ 1 = needs_one x.command s cell ds received in
    let same : slots_needed (ending_of_exchange P x) ≡ slots_needed (Done x.command cell ds) = ap slots_needed ends in
    (omega arith, tt)

pub own_wraparound_tells : (P Q : Description) (s n m : ℕ) → P.address ≤ 30 → P.address ≡ Q.address →
    is_data_place s n ≡ true → P.legal (OwnReceive s n) ≡ true → Q.legal (OwnReceive s n) ≡ true →
    is_data_place s m ≡ true → P.legal (OwnTransmit s m) ≡ true → Q.legal (OwnTransmit s m) ≡ true →
    P.initial s 1 ≡ Q.initial s 1 → (s == P.wrap) ≢ (s == Q.wrap) →
    TellsApart P Q (script_of (receive_complement P s P.address n ∷ transmit P.address s m (m + 1) ∷ []))
own_wraparound_tells P Q s n m low same place p_receives q_receives place_m p_legal q_legal initial other =
    let x : Exchange = receive_complement P s P.address n in
    let cell : Cell = OwnReceive s n in
    let first : IsTo P.address (Some cell) x = complement_to_own P s n low place in
    let p_ends : ending_of_exchange P x ≡ Done x.command cell x.words = own_ends P x cell first ∙ ap (λ l. ended l x cell) p_receives in
    let q_ends : ending_of_exchange Q x ≡ Done x.command cell x.words = own_ends Q x cell (moved P.address Q.address (Some cell) x same first) ∙ ap (λ l. ended l x cell) q_receives in
    let one : x.slots ≡ 1 = slots_for-own P.address 1 low in
    wrap_apart P Q x P.address s cell m (replicate (n - 1) 0) low same first refl
    (omega arith) (received_answered P x s cell x.words one p_ends refl) (received_answered Q x s cell x.words one q_ends refl)
    p_ends q_ends
    place_m p_legal q_legal initial other

pub broadcast_wraparound_tells : (P Q : Description) (s n m : ℕ) → P.address ≤ 30 → P.address ≡ Q.address → P.broadcast ≡ true → Q.broadcast ≡ true →
    is_data_place s n ≡ true → P.legal (BroadReceive s n) ≡ true → Q.legal (BroadReceive s n) ≡ true →
    is_data_place s m ≡ true → P.legal (OwnTransmit s m) ≡ true → Q.legal (OwnTransmit s m) ≡ true →
    P.initial s 1 ≡ Q.initial s 1 → (s == P.wrap) ≢ (s == Q.wrap) →
    TellsApart P Q (script_of (receive_complement P s all_terminals n ∷ transmit P.address s m (m + 1) ∷ []))
broadcast_wraparound_tells P Q s n m low same p_hears q_hears place p_receives q_receives place_m p_legal q_legal initial other =
    let x : Exchange = receive_complement P s all_terminals n in
    let cell : Cell = BroadReceive s n in
    let first : IsTo all_terminals (Some cell) x = complement_to_all P s n place in
    let low_q : Q.address ≤ 30 = omega arith in
    let none : x.slots ≡ 0 = first.no_slots refl in
    wrap_apart P Q x all_terminals s cell m (replicate (n - 1) 0) low same first refl
    (omega arith) (broadcast_answered P [] x (Some cell) first tt) (broadcast_answered Q [] x (Some cell) first tt)
    (broadcast_ends P x cell low p_hears first ∙ ap (λ l. ended l x cell) p_receives)
    (broadcast_ends Q x cell low_q q_hears first ∙ ap (λ l. ended l x cell) q_receives)
    place_m p_legal q_legal initial other
