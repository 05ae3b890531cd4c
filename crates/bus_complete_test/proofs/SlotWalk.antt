-- Two terminals that send the same over a script of exchanges, event by event, send the same in each slot of each exchange.
use Rattle.std.proofs.Common.{◌≡◌, ℕ, zero, suc, ◌^◌, ◌<◌, ◌≤◌, Bool, true, false, not, ◌||◌, if◌then◌else◌, Option, Some, None, List, [], ◌∷◌, ◌++◌, map, refl, ap, sym, ◌∙◌, arith}
use Rattle.bus_word.specs.declared.word.Bus.TheVariants.{A}
use Rattle.bus_word.specs.declared.cell.Cell.{Cell}
use Rattle.bus_word.specs.Command.{is_broadcast}
use Rattle.bus_word.specs.Cell.{cell_of}
use Rattle.bus_legal.specs.Description.{Description}
use Rattle.terminal_rules.specs.declared.event.Event.TheVariants.{Gap}
use Rattle.terminal_rules.specs.History.{Noted, Nothing, Illegal, Done}
use Rattle.terminal_rules.specs.Reply.{words_after_status, reply_now}
use Rattle.terminal_rules.specs.Ends.{verdict, well}
use Rattle.terminal_rules.specs.Starts.{is_meant}
use Rattle.terminal_rules.specs.Same.{AreProper}
use Rattle.terminal_rules.specs.Out.{Out, Sending, Silence, sends, outs_from, sent_in}
use Rattle.terminal_exchanges.specs.Exchanges.{Exchange, slots_then, exchange_then, script_of}
use Rattle.terminal_exchanges.specs.ExchangeLaws.{IsWhole, AreWhole, AreAnswered, history_of, ending_of_exchange, slots_needed, silent_then}
use Rattle.terminal_exchanges.proofs.Notes.{notes_at_gap, exchange_notes, slot_note, slot_notes, gap_answer, slots_answered}
use Rattle.terminal_exchanges.proofs.ExchangeLaw.{exchange_law}
use Rattle.terminal_exchanges.proofs.Distinguish.Commands.{AreSmall}
use Rattle.terminal_exchanges.proofs.Distinguish.Last.{sent_again, slot_at, words_proper, slots_proper}

-- the slots that the reply of some terminal to this command can need
abbrev pub slots_of : ℕ → ℕ
slots_of c = if is_broadcast c then 0 else suc (words_after_status (cell_of c))

-- An exchange that can come, whose command has just the data words that it expects, and as many slots as any reply to it needs.
pub record IsSound (x : Exchange) : Type 0 where
  pub whole : IsWhole x
  pub small : x.command < 2 ^ 16
  pub words_small : AreSmall x.words
  pub enough : slots_of x.command ≤ x.slots

abbrev pub AreSound : List Exchange → Type 0
AreSound [] = Unit {0}
AreSound (x ∷ xs) = IsSound x × AreSound xs

pub sound_join : (xs ys : List Exchange) → AreSound xs → AreSound ys → AreSound (xs ++ ys)
sound_join [] ys a b = b
sound_join (x ∷ xs) ys (s, a) b = (s, sound_join xs ys a b)

-- whatever the terminal
enough_by : (P : Description) (x : Exchange) (o : Option Cell) (b : Bool) → is_broadcast x.command ≡ b → slots_needed (verdict P.legal false x.command x.words o) ≤ (if b then 0 else suc (words_after_status o))
enough_by P x None true e = let n : slots_needed (Illegal x.command) ≡ 0 = ap (λ a. if not (a || false) then 1 else 0) e in omega arith
enough_by P x None false e = let n : slots_needed (Illegal x.command) ≡ 1 = ap (λ a. if not (a || false) then 1 else 0) e in omega arith
enough_by P x (Some cell) b e = by_legal (P.legal cell) b e
  where
    by_legal : (l b : Bool) → is_broadcast x.command ≡ b → slots_needed (if l then Done x.command cell x.words else Illegal x.command) ≤ (if b then 0 else suc (words_after_status (Some cell)))
    by_legal true true e = let n : slots_needed (Done x.command cell x.words) ≡ 0 = ap (λ a. if not (a || false) then suc (words_after_status (Some cell)) else 0) e in omega arith
    by_legal true false e = let n : slots_needed (Done x.command cell x.words) ≡ suc (words_after_status (Some cell)) = ap (λ a. if not (a || false) then suc (words_after_status (Some cell)) else 0) e in omega arith
    by_legal false true e = let n : slots_needed (Illegal x.command) ≡ 0 = ap (λ a. if not (a || false) then 1 else 0) e in omega arith
    by_legal false false e = let n : slots_needed (Illegal x.command) ≡ 1 = ap (λ a. if not (a || false) then 1 else 0) e in omega arith

pub enough_law : (P : Description) (x : Exchange) → slots_needed (ending_of_exchange P x) ≤ slots_of x.command
enough_law P x = by_meant (is_meant P x.command)
  where
    by_meant : (m : Bool) → slots_needed (if m then well P false x.command x.words else Nothing) ≤ slots_of x.command
    by_meant true = enough_by P x (cell_of x.command) (is_broadcast x.command) refl
    by_meant false = omega arith

pub answered_more : (P : Description) (xs : List Exchange) (x : Exchange) → IsSound x → AreAnswered P xs → AreAnswered P (x ∷ xs)
answered_more P xs x s a =
    let needed : slots_needed (ending_of_exchange P x) ≤ slots_of x.command = enough_law P x in
    let enough : slots_of x.command ≤ x.slots = s.enough in
    (omega arith, a)

-- a script of such exchanges can come
pub sound_proper : (xs : List Exchange) → AreSound xs → AreProper (script_of xs)
sound_proper [] a = tt
sound_proper (x ∷ xs) (s, a) = (s.small, words_proper x.words (Gap A ∷ slots_then x.slots (script_of xs)) s.words_small (tt, slots_proper x.slots (script_of xs) (sound_proper xs a)))

-- in each slot of an exchange, after others, the two send the same
abbrev pub AlikeIn : Description → Description → List Exchange → Exchange → Type 0
AlikeIn P Q xs x = (j : ℕ) → j < x.slots → slot_at j P xs x ≡ slot_at j Q xs x

-- and so in each of some exchanges, the first first
abbrev pub AlikeInEach : Description → Description → List Exchange → List Exchange → Type 0
AlikeInEach P Q xs [] = Unit {0}
AlikeInEach P Q xs (y ∷ ys) = AlikeIn P Q xs y × AlikeInEach P Q (y ∷ xs) ys

-- what is sent, answer by answer: some left out, and one by its number
abbrev left : ℕ → List (Option Sending) → List (Option Sending)
left zero os = os
left (suc n) [] = []
left (suc n) (o ∷ os) = left n os

abbrev left_words : List ℕ → List (Option Sending) → List (Option Sending)
left_words [] os = os
left_words (d ∷ ds) [] = []
left_words (d ∷ ds) (o ∷ os) = left_words ds os

abbrev sent_at : ℕ → List (Option Sending) → Option Sending
sent_at j [] = None
sent_at zero (o ∷ os) = o
sent_at (suc j) (o ∷ os) = sent_at j os

-- what is sent after the gap of an exchange
abbrev left_at_gap : Exchange → List (Option Sending) → List (Option Sending)
left_at_gap x os = left 1 (left_words x.words (left 1 os))

words_left : (ds : List ℕ) (os : List Out) → left_words ds (map sent_in (silent_then ds os)) ≡ map sent_in os
words_left [] os = refl
words_left (d ∷ ds) os = words_left ds os

gap_left : (x : Exchange) (o : Out) (os : List Out) → left_at_gap x (map sent_in (Silence ∷ silent_then x.words (o ∷ os))) ≡ map sent_in os
gap_left x o os = ap (left 1) (words_left x.words (o ∷ os))

slots_left : (P : Description) (n : ℕ) (h : List Noted) (os : List Out) → left n (map sent_in (slots_answered P n h os)) ≡ map sent_in os
slots_left P zero h os = refl
slots_left P (suc n) h os = slots_left P n (slot_note h ∷ h) os

slot_sent : (P : Description) (j n : ℕ) (h : List Noted) (os : List Out) → j < n → sent_at j (map sent_in (slots_answered P n h os)) ≡ sends P (slot_notes j h) (reply_now (slot_notes j h))
slot_sent P j zero h os few = absurd (omega arith)
slot_sent P zero (suc n) h os few = sent_again (sends P h (reply_now h))
slot_sent P (suc j) (suc n) h os few = slot_sent P j n (slot_note h ∷ h) os (omega arith)

pub walk : (P Q : Description) (xs ys : List Exchange) → AreWhole xs → AreAnswered P xs → AreAnswered Q xs → AreSound ys →
    map sent_in (outs_from P (history_of xs) (script_of ys)) ≡ map sent_in (outs_from Q (history_of xs) (script_of ys)) → AlikeInEach P Q xs ys
walk P Q xs [] w a b s e = tt
walk P Q xs (y ∷ ys) w a b (s, ss) e =
    let k : List Noted = notes_at_gap P y (exchange_notes P xs) in
    let l : List Noted = notes_at_gap Q y (exchange_notes Q xs) in
    let p_rest : List Out = outs_from P (history_of (y ∷ xs)) (script_of ys) in
    let q_rest : List Out = outs_from Q (history_of (y ∷ xs)) (script_of ys) in
    let p_is : outs_from P (history_of xs) (exchange_then y (script_of ys)) ≡ Silence ∷ silent_then y.words (gap_answer P y ∷ slots_answered P y.slots k p_rest) = exchange_law P xs y (script_of ys) (s.whole, w) a in
    let q_is : outs_from Q (history_of xs) (exchange_then y (script_of ys)) ≡ Silence ∷ silent_then y.words (gap_answer Q y ∷ slots_answered Q y.slots l q_rest) = exchange_law Q xs y (script_of ys) (s.whole, w) b in
    let same : map sent_in (slots_answered P y.slots k p_rest) ≡ map sent_in (slots_answered Q y.slots l q_rest) =
    sym (gap_left y (gap_answer P y) (slots_answered P y.slots k p_rest))
    ∙ (ap (left_at_gap y) (ap (map sent_in) (sym p_is) ∙ (e ∙ ap (map sent_in) q_is))
    ∙ gap_left y (gap_answer Q y) (slots_answered Q y.slots l q_rest)) in (
      λ j few. sym (slot_sent P j y.slots k p_rest few) ∙ (ap (sent_at j) same ∙ slot_sent Q j y.slots l q_rest few),
      walk P Q (y ∷ xs) ys (s.whole, w) (answered_more P xs y s a) (answered_more Q xs y s b) ss
          (sym (slots_left P y.slots k p_rest) ∙ (ap (left y.slots) same ∙ slots_left Q y.slots l q_rest)),
    )
