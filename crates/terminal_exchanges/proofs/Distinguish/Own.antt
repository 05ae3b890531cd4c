-- What a command to the own address is answered.
use Rattle.std.proofs.Common.{◌≡◌, ℕ, zero, suc, ◌+◌, ◌≤◌, nat_le, Bool, true, false, not, ◌&&◌, ◌||◌, ◌==◌, if◌then◌else◌, Option, Some, None, List, [], ◌∷◌, refl, ap, sym, ◌∙◌, arith}
use Rattle.std.proofs.lemmas.Bool.{eq-eqb, eqb-true}
use Rattle.bus_word.specs.declared.word.Bus.TheVariants.{A}
use Rattle.bus_word.specs.declared.status.StatusParts.{StatusParts}
use Rattle.bus_word.specs.declared.cell.Cell.{Cell}
use Rattle.bus_word.specs.declared.cell.Cell.TheVariants.{OwnReceive, OwnTransmit, BroadReceive, OwnMode, BroadMode}
use Rattle.bus_word.specs.declared.mode.ModeRow.{ModeRow}
use Rattle.bus_word.specs.Command.{address_of, transmits, subaddress_of, code_of, count_of, is_mode, is_broadcast}
use Rattle.bus_word.specs.Mode.{mode_row}
use Rattle.bus_word.specs.Cell.{data_cell, same_bool, mode_cell_by, cell_of}
use Rattle.bus_word.specs.Status.{status_word}
use Rattle.bus_legal.specs.Description.{Description}
use Rattle.terminal_rules.specs.declared.event.Event.TheVariants.{Gap}
use Rattle.terminal_rules.specs.LookBack.{latest}
use Rattle.terminal_rules.specs.History.{Replying, NoTurn, Begins, Noted, noted_as, Ending, Nothing, Illegal, Done}
use Rattle.terminal_rules.specs.Reply.{words_after_status, reply_after, reply_now}
use Rattle.terminal_rules.specs.Ends.{verdict, well}
use Rattle.terminal_rules.specs.SinceReset.{inhibited_now, since_reset, is_status_of_reset, resets_by_broadcast, does_own_reset, is_reset}
use Rattle.terminal_rules.specs.Turn.{is_answered, done_cell, turn_of_gap}
use Rattle.terminal_rules.specs.Status.{no_parts, accepts, inhibited_after, formed_error, formed_done, reports_kept, spares, spares_kept, kept_by_command, later_or, kept_now}
use Rattle.terminal_rules.specs.Steps.{reset_first, kept_after, sent_one, begun_if, resets_next}
use Rattle.terminal_rules.specs.Out.{next_sent, sends}
use Rattle.terminal_rules.specs.Starts.{is_meant}
use Rattle.terminal_exchanges.specs.Exchanges.{Exchange, command_event}
use Rattle.terminal_exchanges.specs.ExchangeLaws.{ending_of_exchange, AreAnswered}
use Rattle.terminal_exchanges.proofs.Notes.{word_note, command_note, slot_note, slot_notes, notes_at_gap, exchange_notes}
use Rattle.terminal_rules.proofs.KeptLaw.{kept_step}
use Rattle.terminal_rules.proofs.ReplyLaw.{no_words, reply_slot_law}
use Rattle.terminal_rules.proofs.ResetLaw.{slot_resets}
use Rattle.terminal_exchanges.proofs.ExchangeLaw.{sent_many, sent_after, slots_reply, at_gap_reply, idle_law}
use Rattle.terminal_exchanges.proofs.Distinguish.Commands.{IsTo, own_no_broadcast}
use Rattle.terminal_exchanges.proofs.Distinguish.Last.{slot_at, bits_in, is_sent}
use Rattle.terminal_exchanges.proofs.Distinguish.Quiet.{notes_at, plain, formed_plain, on_at, words_kept, exchange_back}

-- an exchange that is for the terminal ends by the legality of its cell
abbrev pub ended : Bool → Exchange → Cell → Ending
ended legal x cell = if legal then Done x.command cell x.words else Illegal x.command

pub own_ends : (P : Description) (x : Exchange) (cell : Cell) → IsTo P.address (Some cell) x → ending_of_exchange P x ≡ ended (P.legal cell) x cell
own_ends P x cell to =
    (λ j. if eq-eqb (address_of x.command) P.address to.address j || (is_broadcast x.command && P.broadcast) then well P false x.command x.words else Nothing)
    ∙ ap (verdict P.legal false x.command x.words) to.cell

-- the gap of such an exchange, at which its reply begins
abbrev pub own_noted : Bool → Exchange → Cell → Noted
own_noted legal x cell = noted_as (Gap A) (Begins A (done_cell (ended legal x cell))) false (ended legal x cell)

is_answered-own : (legal : Bool) (x : Exchange) (cell : Cell) → is_broadcast x.command ≡ false → is_answered false (ended legal x cell) ≡ true
is_answered-own true x cell e = ap (λ b. not (b || false)) e
is_answered-own false x cell e = ap (λ b. not (b || false)) e

pub own_gap : (P : Description) (xs : List Exchange) (x : Exchange) (cell : Cell) (legal : Bool) → P.address ≤ 30 → IsTo P.address (Some cell) x → P.legal cell ≡ legal →
    notes_at_gap P x (exchange_notes P xs) ≡ own_noted legal x cell ∷ notes_at P xs x
own_gap P xs x cell legal low to is =
    let e : ending_of_exchange P x ≡ ended legal x cell = own_ends P x cell to ∙ ap (λ l. ended l x cell) is in
    (λ j. noted_as (Gap A) (turn_of_gap A (is_answered (on_at P xs x j) (e j)) (done_cell (e j))) false (e j) ∷ notes_at P xs x)
    ∙ ap (λ a. noted_as (Gap A) (turn_of_gap A a (done_cell (ended legal x cell))) false (ended legal x cell) ∷ notes_at P xs x) (is_answered-own legal x cell (own_no_broadcast P.address (Some cell) x low to))

-- the reply that begins there
pub own_reply : (P : Description) (xs : List Exchange) (x : Exchange) (cell : Cell) (legal : Bool) → P.address ≤ 30 → IsTo P.address (Some cell) x → P.legal cell ≡ legal → AreAnswered P xs →
    reply_now (notes_at_gap P x (exchange_notes P xs)) ≡ Some (record { bus = A; cell = done_cell (ended legal x cell); number = 0 })
own_reply P xs x cell legal low to is a =
    let e : ending_of_exchange P x ≡ ended legal x cell = own_ends P x cell to ∙ ap (λ l. ended l x cell) is in
    at_gap_reply P x (exchange_notes P xs) (idle_law P xs a)
    ∙ ((λ j. let none : Option Replying = None in begun_if (is_answered (on_at P xs x j) (e j)) A (done_cell (e j)) none)
    ∙ ap (λ k. let none : Option Replying = None in begun_if k A (done_cell (ended legal x cell)) none) (is_answered-own legal x cell (own_no_broadcast P.address (Some cell) x low to)))

-- and what it is in slot j
own_reply_at : (P : Description) (xs : List Exchange) (x : Exchange) (cell : Cell) (legal : Bool) (j : ℕ) → P.address ≤ 30 → IsTo P.address (Some cell) x → P.legal cell ≡ legal → AreAnswered P xs →
    nat_le j (words_after_status (done_cell (ended legal x cell))) ≡ true →
    reply_now (slot_notes j (notes_at_gap P x (exchange_notes P xs))) ≡ Some (record { bus = A; cell = done_cell (ended legal x cell); number = j })
own_reply_at P xs x cell legal j low to is a few =
    let done : Option Cell = done_cell (ended legal x cell) in
    let at : j + 0 ≡ j = omega arith in
    slots_reply j (notes_at_gap P x (exchange_notes P xs))
    ∙ (ap (sent_many j) (own_reply P xs x cell legal low to is a ∙ ap (λ t. if t then Some (record { bus = A; cell = done; number = 0 }) else None) (sym (no_words (words_after_status done))))
    ∙ (sent_after j 0 A done
    ∙ (ap (reply_after A done false) at
    ∙ ap (λ t. if t then Some (record { bus = A; cell = done; number = j }) else None) few)))

-- the word sent in slot j
pub own_sent : (P : Description) (xs : List Exchange) (x : Exchange) (cell : Cell) (legal : Bool) (j : ℕ) → P.address ≤ 30 → IsTo P.address (Some cell) x → P.legal cell ≡ legal → AreAnswered P xs →
    nat_le j (words_after_status (done_cell (ended legal x cell))) ≡ true →
    slot_at j P xs x ≡ Some (next_sent P (slot_notes j (notes_at_gap P x (exchange_notes P xs))) (record { bus = A; cell = done_cell (ended legal x cell); number = j }))
own_sent P xs x cell legal j low to is a few = ap (sends P (slot_notes j (notes_at_gap P x (exchange_notes P xs)))) (own_reply_at P xs x cell legal j low to is a few)

-- the status is the one kept at the gap
own_status : (P : Description) (xs : List Exchange) (x : Exchange) (cell : Cell) (legal : Bool) → P.address ≤ 30 → IsTo P.address (Some cell) x → P.legal cell ≡ legal → AreAnswered P xs →
    bits_in (slot_at 0 P xs x) ≡ status_word P.address (kept_now P (own_noted legal x cell ∷ notes_at P xs x))
own_status P xs x cell legal low to is a =
    ap bits_in (own_sent P xs x cell legal 0 low to is a (no_words (words_after_status (done_cell (ended legal x cell)))))
    ∙ ap (λ k. status_word P.address (kept_now P k)) (own_gap P xs x cell legal low to is)

-- An illegal command sets it, and so does one that is done, but for the codes that report it.
illegal_kept : (P : Description) (h : List Noted) (x : Exchange) (cell : Cell) → kept_now P (own_noted false x cell ∷ h) ≡ formed_error h x.command
illegal_kept P h x cell = kept_step P (own_noted false x cell) h

-- the gap of a command to the own address, which is answered, is no reset
abbrev is_all_code : Option Cell → Bool
is_all_code (Some (BroadMode code)) = true
is_all_code _ = false

mode_own : (code : ℕ) (t b r : Bool) → b ≡ false → is_all_code (if t then (if b then (if r then Some (BroadMode code) else None) else Some (OwnMode code)) else None) ≡ false
mode_own code false b r e = refl
mode_own code true false r e = refl
mode_own code true true r e = cc

row_own : (c : ℕ) (o : Option ModeRow) → is_broadcast c ≡ false → is_all_code (mode_cell_by c o) ≡ false
row_own c None e = refl
row_own c (Some row) e = mode_own (code_of c) (same_bool (transmits c) row.transmit) (is_broadcast c) row.broadcast e

data_own : (s n : ℕ) (t b : Bool) → is_all_code (if t then (if b then None else Some (OwnTransmit s n)) else (if b then Some (BroadReceive s n) else Some (OwnReceive s n))) ≡ false
data_own s n true true = refl
data_own s n true false = refl
data_own s n false true = refl
data_own s n false false = refl

own_code : (c : ℕ) → is_broadcast c ≡ false → is_all_code (cell_of c) ≡ false
own_code c e = by_mode (is_mode c)
  where
    by_mode : (m : Bool) → is_all_code (if m then mode_cell_by c (mode_row (code_of c)) else data_cell c) ≡ false
    by_mode true = row_own c (mode_row (code_of c)) e
    by_mode false = data_own (subaddress_of c) (count_of c) (transmits c) (is_broadcast c)

by_own_cell : (c : ℕ) (cell : Cell) (ds : List ℕ) → is_all_code (Some cell) ≡ false → resets_by_broadcast (Done c cell ds) ≡ false
by_own_cell c (OwnReceive s n) ds e = refl
by_own_cell c (OwnTransmit s n) ds e = refl
by_own_cell c (BroadReceive s n) ds e = refl
by_own_cell c (OwnMode code) ds e = refl
by_own_cell c (BroadMode code) ds e = cc

neither : (r d : Bool) → r ≡ false → r || ((d && false) || false) ≡ false
neither true d e = e
neither false true e = refl
neither false false e = refl

own_no_reset : (P : Description) (x : Exchange) (cell : Cell) → P.address ≤ 30 → IsTo P.address (Some cell) x → is_reset (own_noted true x cell) ≡ false
own_no_reset P x cell low to =
    neither (resets_by_broadcast (Done x.command cell x.words)) (does_own_reset (Done x.command cell x.words))
    (by_own_cell x.command cell x.words (ap is_all_code (sym to.cell) ∙ own_code x.command (own_no_broadcast P.address (Some cell) x low to)))

done_kept : (P : Description) (h : List Noted) (x : Exchange) (cell : Cell) → P.address ≤ 30 → IsTo P.address (Some cell) x →
    kept_now P (own_noted true x cell ∷ h) ≡ (if reports_kept cell then kept_now P h else formed_done P h x.command cell)
done_kept P h x cell low to =
    kept_step P (own_noted true x cell) h
    ∙ ap (λ r. kept_after (reset_first r (if reports_kept cell then None else Some (formed_done P h x.command cell))) false (kept_now P h)) (own_no_reset P x cell low to)
    ∙ elim (reports_kept cell) as (λ r. kept_after (if r then None else Some (formed_done P h x.command cell)) false (kept_now P h) ≡ (if r then kept_now P h else formed_done P h x.command cell)) [ true ↦ refl | false ↦ refl ]

-- a command that spares the kept status leaves it as it is
spared : (P : Description) (c : ℕ) (h : List Noted) → spares P c ≡ true → kept_now P (command_note P c ∷ h) ≡ kept_now P h
spared P c h s = by_meant (is_meant P c)
  where
    by_meant : (m : Bool) → kept_now P (noted_as (command_event c) NoTurn m Nothing ∷ h) ≡ kept_now P h
    by_meant true =
        kept_step P (noted_as (command_event c) NoTurn true Nothing) h
        ∙ ap (λ b. kept_after (later_or (kept_by_command b c) None) false (kept_now P h)) s
    by_meant false = kept_step P (noted_as (command_event c) NoTurn false Nothing) h

pub kept_at : (P : Description) (xs : List Exchange) (x : Exchange) (cell : Cell) → IsTo P.address (Some cell) x → reports_kept cell ≡ true → P.legal cell ≡ true →
    kept_now P (notes_at P xs x) ≡ kept_now P (exchange_notes P xs)
kept_at P xs x cell to reports legal =
    words_kept P x.words (command_note P x.command ∷ exchange_notes P xs)
    ∙ spared P x.command (exchange_notes P xs) (ap (spares_kept P) to.cell ∙ (λ j. reports j && legal j))

-- The status says by its message error whether the cell is legal, where the kept status is not reported, or still that of power-up.
abbrev pub parts_by : Bool → Bool → StatusParts
parts_by legal accept = if legal then plain false false accept else plain true false false

no_acceptance : (code : ℕ) (x : Bool) → (code == 2) || (code == 18) ≡ true → (code == 0) && x ≡ false
no_acceptance code x e = by_first (code == 2) refl e
  where
    by_first : (t : Bool) → (code == 2) ≡ t → t || (code == 18) ≡ true → (code == 0) && x ≡ false
    by_first true f e = ap (λ k. (k == 0) && x) (eqb-true code 2 f)
    by_first false f e = ap (λ k. (k == 0) && x) (eqb-true code 18 e)

-- a code that reports the kept status is not one that is accepted
not_accepted : (cell : Cell) (x : Bool) → reports_kept cell ≡ true → accepts x cell ≡ false
not_accepted (OwnMode code) x reports = no_acceptance code x reports
not_accepted (OwnReceive s n) x reports = refl
not_accepted (OwnTransmit s n) x reports = refl
not_accepted (BroadReceive s n) x reports = refl
not_accepted (BroadMode code) x reports = refl

done_parts : (P : Description) (xs : List Exchange) (x : Exchange) (cell : Cell) → P.address ≤ 30 → IsTo P.address (Some cell) x → P.legal cell ≡ true → (reports_kept cell ≡ true → kept_now P (exchange_notes P xs) ≡ no_parts) →
    (if reports_kept cell then kept_now P (notes_at P xs x) else formed_done P (notes_at P xs x) x.command cell) ≡ plain false false (accepts P.accept cell)
done_parts P xs x cell low to legal fresh = by_kept (reports_kept cell) refl
  where
    by_kept : (t : Bool) → reports_kept cell ≡ t → (if t then kept_now P (notes_at P xs x) else formed_done P (notes_at P xs x) x.command cell) ≡ plain false false (accepts P.accept cell)
    by_kept true e = kept_at P xs x cell to e legal ∙ (fresh e ∙ ap (plain false false) (sym (not_accepted cell P.accept e)))
    by_kept false e =
        formed_plain P xs x x.command false (accepts P.accept cell) (inhibited_after (inhibited_now (notes_at P xs x)) cell)
        ∙ ap (λ b. plain false b (accepts P.accept cell)) (own_no_broadcast P.address (Some cell) x low to)

pub status_told : (P : Description) (xs : List Exchange) (x : Exchange) (cell : Cell) → P.address ≤ 30 → IsTo P.address (Some cell) x → (reports_kept cell ≡ true → kept_now P (exchange_notes P xs) ≡ no_parts) → AreAnswered P xs →
    bits_in (slot_at 0 P xs x) ≡ status_word P.address (parts_by (P.legal cell) (accepts P.accept cell))
status_told P xs x cell low to fresh a = by_legal (P.legal cell) refl
  where
    by_legal : (l : Bool) → P.legal cell ≡ l → bits_in (slot_at 0 P xs x) ≡ status_word P.address (parts_by l (accepts P.accept cell))
    by_legal true e = own_status P xs x cell true low to e a ∙ ap (status_word P.address) (done_kept P (notes_at P xs x) x cell low to ∙ done_parts P xs x cell low to e fresh)
    by_legal false e =
        own_status P xs x cell false low to e a
        ∙ ap (status_word P.address)
        (illegal_kept P (notes_at P xs x) x cell
        ∙ (formed_plain P xs x x.command true false (inhibited_now (notes_at P xs x)) ∙ ap (λ b. plain true b false) (own_no_broadcast P.address (Some cell) x low to)))

-- transmit last command: a second word is sent exactly if it is legal
pub last_command_sent : (P : Description) (xs : List Exchange) (x : Exchange) → P.address ≤ 30 → IsTo P.address (Some (OwnMode 18)) x → AreAnswered P xs → is_sent (slot_at 1 P xs x) ≡ P.legal (OwnMode 18)
last_command_sent P xs x low to a = by_legal (P.legal (OwnMode 18)) refl
  where
    by_legal : (l : Bool) → P.legal (OwnMode 18) ≡ l → is_sent (slot_at 1 P xs x) ≡ l
    by_legal true e = ap is_sent (own_sent P xs x (OwnMode 18) true 1 low to e a refl)
    by_legal false e =
        let h : List Noted = notes_at_gap P x (exchange_notes P xs) in
        ap (λ r. is_sent (sends P (slot_notes 1 h) r)) (slots_reply 1 h ∙ ap (sent_many 1) (own_reply P xs x (OwnMode 18) false low to e a))

-- An ask is answered with the status that was kept before it.
pub status_asked : (P : Description) (xs : List Exchange) (x : Exchange) → P.address ≤ 30 → IsTo P.address (Some (OwnMode 2)) x → P.legal (OwnMode 2) ≡ true → AreAnswered P xs →
    bits_in (slot_at 0 P xs x) ≡ status_word P.address (kept_now P (exchange_notes P xs))
status_asked P xs x low to legal a =
    own_status P xs x (OwnMode 2) true low to legal a
    ∙ ap (status_word P.address) (done_kept P (notes_at P xs x) x (OwnMode 2) low to ∙ kept_at P xs x (OwnMode 2) to refl legal)

-- reset remote terminal, by the own address or by broadcast
abbrev pub is_reset_cell : Cell → Bool
is_reset_cell (OwnMode code) = code == 8
is_reset_cell (BroadMode code) = code == 8
is_reset_cell _ = false

-- a reply that is none to a reset
abbrev pub is_no_reset : Option Cell → Bool
is_no_reset None = true
is_no_reset (Some cell) = not (is_reset_cell cell)

abbrev pub never_resets : Option Replying → Bool
never_resets None = true
never_resets (Some r) = is_no_reset r.cell

sent_never : (r : Option Replying) → never_resets r ≡ true → never_resets (sent_one r) ≡ true
sent_never None e = refl
sent_never (Some r) e = by_test (nat_le (suc r.number) (words_after_status r.cell))
  where
    by_test : (t : Bool) → never_resets (if t then Some (record r { number = suc r.number }) else None) ≡ true
    by_test true = e
    by_test false = refl

never_next : (r : Option Replying) → never_resets r ≡ true → resets_next r ≡ false
never_next None e = refl
never_next (Some r) e = by_cell r.number r.cell e
  where
    by_test : (n k : Bool) → not k ≡ true → n && k ≡ false
    by_test n true e = cc
    by_test true false e = refl
    by_test false false e = refl

    by_cell : (number : ℕ) (cell : Option Cell) → is_no_reset cell ≡ true → is_status_of_reset number cell ≡ false
    by_cell number None e = refl
    by_cell number (Some (OwnReceive s n)) e = refl
    by_cell number (Some (OwnTransmit s n)) e = refl
    by_cell number (Some (BroadReceive s n)) e = refl
    by_cell number (Some (OwnMode code)) e = by_test (number == 0) (code == 8) e
    by_cell number (Some (BroadMode code)) e = refl

-- slots of such a reply change nothing that is looked up
pub slots_back : {Y : Type 0} (f : Noted → Option Y) (n : ℕ) (h : List Noted) → ((k : List Noted) → f (slot_note k) ≡ None) → never_resets (reply_now h) ≡ true →
    latest f (since_reset (slot_notes n h)) ≡ latest f (since_reset h)
slots_back f zero h silent never = refl
slots_back {Y} f (suc n) h silent never =
    slots_back f n (slot_note h ∷ h) silent (ap never_resets (reply_slot_law h (reply_now h) Nothing) ∙ sent_never (reply_now h) never)
    ∙ (ap (λ r. latest f (if r then [] else slot_note h ∷ since_reset h)) (slot_resets (reply_now h) ∙ never_next (reply_now h) never)
    ∙ ap (λ o. elim o as (λ o. Option Y) [ None ↦ latest f (since_reset h) | Some y ↦ Some y ]) (silent h))

-- nor does an exchange with the own address, up to slot j, if its gap doesn't
pub own_back : {Y : Type 0} (P : Description) (f : Noted → Option Y) (xs : List Exchange) (x : Exchange) (cell : Cell) (j : ℕ) → P.address ≤ 30 → IsTo P.address (Some cell) x → P.legal cell ≡ true → AreAnswered P xs →
    is_reset_cell cell ≡ false → ((k : List Noted) → f (slot_note k) ≡ None) → ((d : ℕ) → f (word_note d) ≡ None) → f (command_note P x.command) ≡ None → f (own_noted true x cell) ≡ None →
    latest f (since_reset (slot_notes j (notes_at_gap P x (exchange_notes P xs)))) ≡ latest f (since_reset (exchange_notes P xs))
own_back {Y} P f xs x cell j low to legal a plain slots words command gap =
    slots_back f j (notes_at_gap P x (exchange_notes P xs)) slots (ap never_resets (own_reply P xs x cell true low to legal a) ∙ ap not plain)
    ∙ (ap (λ k. latest f (since_reset k)) (own_gap P xs x cell true low to legal)
    ∙ (ap (λ r. latest f (if r then [] else own_noted true x cell ∷ since_reset (notes_at P xs x))) (own_no_reset P x cell low to)
    ∙ (ap (λ o. elim o as (λ o. Option Y) [ None ↦ latest f (since_reset (notes_at P xs x)) | Some y ↦ Some y ]) gap
    ∙ exchange_back P f x (exchange_notes P xs) words command)))
