-- What a terminal answers when it is asked after a broadcast.
use Rattle.std.proofs.Common.{◌≡◌, ℕ, suc, ◌≤◌, Bool, true, false, not, ◌&&◌, ◌||◌, ◌==◌, ◌≢◌, if◌then◌else◌, Option, Some, None, List, [], ◌∷◌, refl, ap, sym, ◌∙◌, arith}
use Rattle.std.proofs.lemmas.Bool.{ne_eqb}
use Rattle.bus_word.specs.declared.word.Bus.TheVariants.{A}
use Rattle.bus_word.specs.declared.status.StatusParts.{StatusParts}
use Rattle.bus_word.specs.declared.cell.Cell.{Cell}
use Rattle.bus_word.specs.declared.cell.Cell.TheVariants.{OwnReceive, OwnTransmit, BroadReceive, OwnMode, BroadMode}
use Rattle.bus_word.specs.Command.{is_broadcast}
use Rattle.bus_word.specs.Cell.{cell_of}
use Rattle.bus_word.specs.Status.{status_word}
use Rattle.bus_legal.specs.Description.{Description}
use Rattle.terminal_rules.specs.declared.event.Event.TheVariants.{Gap}
use Rattle.terminal_rules.specs.History.{NoTurn, Noted, noted_as, Ending, Nothing, Illegal, Done}
use Rattle.terminal_rules.specs.Reply.{words_after_status}
use Rattle.terminal_rules.specs.Ends.{verdict, well}
use Rattle.terminal_rules.specs.SinceReset.{resets as resets_turn, inhibited_now, off_now}
use Rattle.terminal_rules.specs.Turn.{is_answered, done_cell, turn_of_gap}
use Rattle.terminal_rules.specs.Status.{no_parts, inhibited_after, formed_done, kept_by_end, adds_error, kept_now}
use Rattle.terminal_rules.specs.Steps.{reset_first, kept_after}
use Rattle.terminal_rules.specs.Starts.{is_meant}
use Rattle.terminal_exchanges.specs.Exchanges.{Exchange, script_of, command_event}
use Rattle.terminal_exchanges.specs.ExchangeLaws.{ending_of_exchange, slots_needed, AreAnswered}
use Rattle.terminal_exchanges.proofs.Notes.{command_note, slot_notes, notes_at_gap, exchange_notes}
use Rattle.terminal_exchanges.specs.Distinguish.{TellsApart, all_terminals, mode_code, ask, option_script}
use Rattle.terminal_rules.proofs.KeptLaw.{kept_step}
use Rattle.terminal_rules.proofs.ResetLaw.{or-false}
use Rattle.terminal_exchanges.proofs.Distinguish.Commands.{IsTo, code_to_own, ask_to_all, moved}
use Rattle.terminal_exchanges.proofs.Distinguish.Last.{slot_at, apart_by_two, bits_in}
use Rattle.terminal_exchanges.proofs.Distinguish.Quiet.{notes_at, plain, formed_plain, words_kept}
use Rattle.terminal_exchanges.proofs.Distinguish.Own.{is_reset_cell, ended, status_asked}

-- the cell of a broadcast command, or none
abbrev pub is_of_broadcast : Option Cell → Bool
is_of_broadcast None = true
is_of_broadcast (Some (BroadReceive s n)) = true
is_of_broadcast (Some (BroadMode code)) = true
is_of_broadcast (Some cell) = false

abbrev pub has_legal : Description → Option Cell → Bool
has_legal P None = false
has_legal P (Some cell) = P.legal cell

abbrev pub resets : Option Cell → Bool
resets None = false
resets (Some cell) = is_reset_cell cell

-- what is kept after a broadcast, by whether it is heard, legal and a reset
abbrev pub parts_after : Bool → Bool → Bool → StatusParts
parts_after heard legal reset =
    if heard then (if legal then (if reset then no_parts else plain false true false) else plain true true false) else no_parts

meant_broadcast : (P : Description) (x : Exchange) (o : Option Cell) → P.address ≤ 30 → IsTo all_terminals o x → is_meant P x.command ≡ P.broadcast
meant_broadcast P x o low to =
    let other : (31 == P.address) ≡ false = ne_eqb 31 P.address (λ e. omega arith) in
    (λ j. (to.address j == P.address) || ((to.address j == 31) && P.broadcast)) ∙ ap (λ b. b || P.broadcast) other

-- a broadcast that is heard ends by the legality of its cell
pub broadcast_ends : (P : Description) (x : Exchange) (cell : Cell) → P.address ≤ 30 → P.broadcast ≡ true → IsTo all_terminals (Some cell) x → ending_of_exchange P x ≡ ended (P.legal cell) x cell
broadcast_ends P x cell low hears to =
    ap (λ b. if b then well P false x.command x.words else Nothing) (meant_broadcast P x (Some cell) low to ∙ hears)
    ∙ ap (verdict P.legal false x.command x.words) to.cell

-- a broadcast is never answered
silent_verdict : (P : Description) (off : Bool) (x : Exchange) (o : Option Cell) → is_broadcast x.command ≡ true → is_answered off (verdict P.legal false x.command x.words o) ≡ false
silent_verdict P off x None e = ap (λ b. not (b || off)) e
silent_verdict P off x (Some cell) e = by_legal (P.legal cell)
  where
    by_legal : (l : Bool) → is_answered off (ended l x cell) ≡ false
    by_legal true = ap (λ b. not (b || off)) e
    by_legal false = ap (λ b. not (b || off)) e

silent_end : (P : Description) (off : Bool) (x : Exchange) → is_broadcast x.command ≡ true → is_answered off (ending_of_exchange P x) ≡ false
silent_end P off x e = by_meant (is_meant P x.command)
  where
    by_meant : (m : Bool) → is_answered off (if m then well P false x.command x.words else Nothing) ≡ false
    by_meant true = silent_verdict P off x (cell_of x.command) e
    by_meant false = refl

pub to_all : (x : Exchange) (o : Option Cell) → IsTo all_terminals o x → is_broadcast x.command ≡ true
to_all x o to = ap (λ a. a == 31) to.address

-- it needs no slots
pub broadcast_answered : (P : Description) (xs : List Exchange) (x : Exchange) (o : Option Cell) → IsTo all_terminals o x → AreAnswered P xs → AreAnswered P (x ∷ xs)
broadcast_answered P xs x o to a =
    let e : slots_needed (ending_of_exchange P x) ≡ 0 = ap (λ b. if b then suc (words_after_status (done_cell (ending_of_exchange P x))) else 0) (silent_end P false x (to_all x o to)) in
    (omega arith, a)

-- what is noted at its gap
abbrev silent_note : Ending → Noted
silent_note e = noted_as (Gap A) NoTurn false e

broadcast_notes : (P : Description) (xs : List Exchange) (x : Exchange) (o : Option Cell) → IsTo all_terminals o x → exchange_notes P (x ∷ xs) ≡ silent_note (ending_of_exchange P x) ∷ notes_at P xs x
broadcast_notes P xs x o to =
    ap (λ n. slot_notes n (notes_at_gap P x (exchange_notes P xs))) (to.no_slots refl)
    ∙ ap (λ a. noted_as (Gap A) (turn_of_gap A a (done_cell (ending_of_exchange P x))) false (ending_of_exchange P x) ∷ notes_at P xs x) (silent_end P (off_now (notes_at P xs x) A) x (to_all x o to))

abbrev kept_by : Description → List Exchange → Exchange → Ending → StatusParts
kept_by P xs x e = kept_after (reset_first (resets_turn NoTurn e) (kept_by_end P (notes_at P xs x) false e)) (adds_error P e) (kept_now P (notes_at P xs x))

unheard_kept : (P : Description) (xs : List Exchange) (x : Exchange) → is_meant P x.command ≡ false → kept_by P xs x Nothing ≡ kept_now P (exchange_notes P xs)
unheard_kept P xs x unmeant =
    let h : List Noted = exchange_notes P xs in
    words_kept P x.words (command_note P x.command ∷ h)
    ∙ (ap (λ m. kept_now P (noted_as (command_event x.command) NoTurn m Nothing ∷ h)) unmeant
    ∙ kept_step P (noted_as (command_event x.command) NoTurn false Nothing) h)

illegal_kept : (P : Description) (xs : List Exchange) (x : Exchange) (o : Option Cell) → IsTo all_terminals o x → kept_by P xs x (Illegal x.command) ≡ plain true true false
illegal_kept P xs x o to = formed_plain P xs x x.command true false (inhibited_now (notes_at P xs x)) ∙ ap (λ a. plain true (a == 31) false) to.address

code_kept : (r : Bool) (d p k : StatusParts) → d ≡ p → kept_after (reset_first r (Some d)) false k ≡ (if r then no_parts else p)
code_kept true d p k e = refl
code_kept false d p k e = e

done_kept : (P : Description) (xs : List Exchange) (x : Exchange) (cell : Cell) → IsTo all_terminals (Some cell) x → is_of_broadcast (Some cell) ≡ true →
    kept_by P xs x (Done x.command cell x.words) ≡ (if is_reset_cell cell then no_parts else plain false true false)
done_kept P xs x (OwnReceive s n) to by_broadcast = cc
done_kept P xs x (OwnTransmit s n) to by_broadcast = cc
done_kept P xs x (OwnMode code) to by_broadcast = cc
done_kept P xs x (BroadReceive s n) to by_broadcast =
    formed_plain P xs x x.command false false (inhibited_after (inhibited_now (notes_at P xs x)) (BroadReceive s n)) ∙ ap (λ a. plain false (a == 31) false) to.address
done_kept P xs x (BroadMode code) to by_broadcast =
    code_kept ((code == 8) || false) (formed_done P (notes_at P xs x) x.command (BroadMode code)) (plain false true false) (kept_now P (notes_at P xs x))
    (formed_plain P xs x x.command false false (inhibited_after (inhibited_now (notes_at P xs x)) (BroadMode code)) ∙ ap (λ a. plain false (a == 31) false) to.address)
    ∙ ap (λ t. if t then no_parts else plain false true false) (or-false (code == 8))

heard_kept : (P : Description) (xs : List Exchange) (x : Exchange) (o : Option Cell) → IsTo all_terminals o x → is_of_broadcast o ≡ true →
    kept_by P xs x (verdict P.legal false x.command x.words o) ≡ parts_after true (has_legal P o) (resets o)
heard_kept P xs x None to by_broadcast = illegal_kept P xs x None to
heard_kept P xs x (Some cell) to by_broadcast = by_legal (P.legal cell)
  where
    by_legal : (l : Bool) → kept_by P xs x (ended l x cell) ≡ parts_after true l (is_reset_cell cell)
    by_legal true = done_kept P xs x cell to by_broadcast
    by_legal false = illegal_kept P xs x (Some cell) to

-- where it is not heard, what was kept before it still is: here that is the status of power-up
kept_after_broadcast : (P : Description) (xs : List Exchange) (x : Exchange) (o : Option Cell) → P.address ≤ 30 → IsTo all_terminals o x → is_of_broadcast o ≡ true → (P.broadcast ≡ false → kept_now P (exchange_notes P xs) ≡ no_parts) →
    kept_now P (exchange_notes P (x ∷ xs)) ≡ parts_after P.broadcast (has_legal P o) (resets o)
kept_after_broadcast P xs x o low to by_broadcast fresh =
    ap (kept_now P) (broadcast_notes P xs x o to)
    ∙ (kept_step P (silent_note (ending_of_exchange P x)) (notes_at P xs x)
    ∙ by_option P.broadcast refl (meant_broadcast P x o low to))
  where
    by_option : (b : Bool) → P.broadcast ≡ b → is_meant P x.command ≡ b → kept_by P xs x (ending_of_exchange P x) ≡ parts_after b (has_legal P o) (resets o)
    by_option false hears m = ap (λ m. kept_by P xs x (if m then well P false x.command x.words else Nothing)) m ∙ (unheard_kept P xs x m ∙ fresh hears)
    by_option true hears m =
        ap (kept_by P xs x) (ap (λ b. if b then well P false x.command x.words else Nothing) m ∙ ap (verdict P.legal false x.command x.words) to.cell)
        ∙ heard_kept P xs x o to by_broadcast

-- the status that is asked for after a broadcast
pub status_after : (P : Description) (xs : List Exchange) (x y : Exchange) (o : Option Cell) → P.address ≤ 30 → P.legal (OwnMode 2) ≡ true → IsTo all_terminals o x → is_of_broadcast o ≡ true → IsTo P.address (Some (OwnMode 2)) y →
    (P.broadcast ≡ false → kept_now P (exchange_notes P xs) ≡ no_parts) → AreAnswered P xs →
    bits_in (slot_at 0 P (x ∷ xs) y) ≡ status_word P.address (parts_after P.broadcast (has_legal P o) (resets o))
status_after P xs x y o low legal to by_broadcast asks fresh a =
    status_asked P (x ∷ xs) y low asks legal (broadcast_answered P xs x o to a)
    ∙ ap (status_word P.address) (kept_after_broadcast P xs x o low to by_broadcast fresh)

-- and after one that is heard
pub status_heard : (P : Description) (xs : List Exchange) (x y : Exchange) (cell : Cell) → P.address ≤ 30 → P.broadcast ≡ true → P.legal (OwnMode 2) ≡ true →
    IsTo all_terminals (Some cell) x → is_of_broadcast (Some cell) ≡ true → IsTo P.address (Some (OwnMode 2)) y → AreAnswered P xs →
    bits_in (slot_at 0 P (x ∷ xs) y) ≡ status_word P.address (parts_after true (P.legal cell) (is_reset_cell cell))
status_heard P xs x y cell low hears legal to by_broadcast asks a =
    status_after P xs x y (Some cell) low legal to by_broadcast asks (λ none. (let wrong : true ≡ false = sym hears ∙ none in cc)) a
    ∙ ap (λ b. status_word P.address (parts_after b (P.legal cell) (is_reset_cell cell))) hears

-- two terminals that are asked after the same broadcast, where what they keep differs
pub asked_apart : (P Q : Description) (x : Exchange) (o : Option Cell) → P.address ≤ 30 → P.address ≡ Q.address → P.legal (OwnMode 2) ≡ true → Q.legal (OwnMode 2) ≡ true →
    IsTo all_terminals o x → is_of_broadcast o ≡ true →
    status_word P.address (parts_after P.broadcast (has_legal P o) (resets o)) ≢ status_word P.address (parts_after Q.broadcast (has_legal Q o) (resets o)) →
    TellsApart P Q (script_of (x ∷ ask P.address ∷ []))
asked_apart P Q x o low same p_legal q_legal to by_broadcast apart =
    let asks : IsTo P.address (Some (OwnMode 2)) (ask P.address) = code_to_own P.address 2 low refl in
    let low_q : Q.address ≤ 30 = omega arith in
    let none : x.slots ≡ 0 = to.no_slots refl in
    apart_by_two bits_in 0 P Q all_terminals P.address o (Some (OwnMode 2)) x (ask P.address)
    (status_word P.address (parts_after P.broadcast (has_legal P o) (resets o)))
    (status_word P.address (parts_after Q.broadcast (has_legal Q o) (resets o)))
    to asks refl (omega arith) (broadcast_answered P [] x o to tt) (broadcast_answered Q [] x o to tt) (asks.some_slots low)
    (status_after P [] x (ask P.address) o low p_legal to by_broadcast asks (λ _. refl) tt)
    (status_after Q [] x (ask P.address) o low_q q_legal to by_broadcast (moved P.address Q.address (Some (OwnMode 2)) (ask P.address) same asks) (λ _. refl) tt
    ∙ ap (λ a. status_word a (parts_after Q.broadcast (has_legal Q o) (resets o))) (sym same))
    apart

-- 2: the broadcast option
pub option_told : (a : ℕ) (p q : Bool) → status_word a (parts_after p false false) ≡ status_word a (parts_after q false false) → p ≡ q
option_told a true true e = refl
option_told a true false e = absurd (omega arith)
option_told a false true e = absurd (omega arith)
option_told a false false e = refl

pub option_tells : (P Q : Description) → P.address ≤ 30 → P.address ≡ Q.address → P.legal (OwnMode 2) ≡ true → Q.legal (OwnMode 2) ≡ true → P.broadcast ≢ Q.broadcast →
    TellsApart P Q (option_script P.address)
option_tells P Q low same p_legal q_legal other =
    asked_apart P Q (mode_code all_terminals 2) None low same p_legal q_legal ask_to_all refl (λ e. other (option_told P.address P.broadcast Q.broadcast e))
