-- The answer in a slot of the last exchange of a script of one or two.
use Rattle.std.proofs.Common.{◌≡◌, ℕ, zero, suc, ◌+◌, ◌≤◌, ◌<◌, ◌≢◌, Bool, true, false, Option, Some, None, List, [], ◌∷◌, length, refl, ap, sym, ◌∙◌, arith}
use Rattle.bus_word.specs.declared.word.Bus.TheVariants.{A}
use Rattle.bus_word.specs.declared.cell.Cell.{Cell}
use Rattle.bus_legal.specs.Description.{Description}
use Rattle.terminal_rules.specs.declared.event.Event.{Event}
use Rattle.terminal_rules.specs.declared.event.Event.TheVariants.{Gap}
use Rattle.terminal_rules.specs.History.{Noted}
use Rattle.terminal_rules.specs.Reply.{reply_now}
use Rattle.terminal_rules.specs.Same.{AreProper}
use Rattle.terminal_rules.specs.Out.{Out, Sending, Silence, sends, sending_out, outs_from, outs, sent_in}
use Rattle.terminal_exchanges.specs.Exchanges.{Exchange, words_then, slots_then, exchange_then, script_of}
use Rattle.terminal_exchanges.specs.ExchangeLaws.{IsWhole, history_of, AreAnswered, silent_then}
use Rattle.terminal_exchanges.proofs.Notes.{slot_note, slot_notes, notes_at_gap, exchange_notes, gap_answer, slot_answer, slots_answered}
use Rattle.terminal_exchanges.specs.Distinguish.{TellsApart}
use Rattle.terminal_exchanges.proofs.ExchangeLaw.{exchange_law}
use Rattle.terminal_exchanges.proofs.Distinguish.Commands.{AreSmall, IsTo}

abbrev skip_words : List ℕ → List Out → List Out
skip_words [] os = os
skip_words (d ∷ ds) [] = []
skip_words (d ∷ ds) (o ∷ os) = skip_words ds os

abbrev skip : ℕ → List Out → List Out
skip zero os = os
skip (suc n) [] = []
skip (suc n) (o ∷ os) = skip n os

abbrev first_out : List Out → Out
first_out [] = Silence
first_out (o ∷ os) = o

-- the answers after the gap of the exchange with which a script begins, and those after its slots
abbrev after_gap_of : Exchange → List Out → List Out
after_gap_of x os = skip 1 (skip_words x.words (skip 1 os))

abbrev after_slots_of : Exchange → List Out → List Out
after_slots_of x os = skip x.slots (after_gap_of x os)

words_skipped : (ds : List ℕ) (os : List Out) → skip_words ds (silent_then ds os) ≡ os
words_skipped [] os = refl
words_skipped (d ∷ ds) os = words_skipped ds os

slots_skipped : (P : Description) (n : ℕ) (h : List Noted) (os : List Out) → skip n (slots_answered P n h os) ≡ os
slots_skipped P zero h os = refl
slots_skipped P (suc n) h os = slots_skipped P n (slot_note h ∷ h) os

slot_found : (P : Description) (j n : ℕ) (h : List Noted) (os : List Out) → j < n → first_out (skip j (slots_answered P n h os)) ≡ slot_answer P (slot_notes j h)
slot_found P j zero h os few = absurd (omega arith)
slot_found P zero (suc n) h os few = refl
slot_found P (suc j) (suc n) h os few = slot_found P j n (slot_note h ∷ h) os (omega arith)

abbrev sent_in_slot : Description → List Noted → Option Sending
sent_in_slot P h = sends P h (reply_now h)

-- what is sent in slot j of an exchange after others
abbrev pub slot_at : ℕ → Description → List Exchange → Exchange → Option Sending
slot_at j P xs x = sent_in_slot P (slot_notes j (notes_at_gap P x (exchange_notes P xs)))

pub sent_again : (sent : Option Sending) → sent_in (sending_out sent) ≡ sent
sent_again None = refl
sent_again (Some sending) = refl

abbrev sent_first : ℕ → List Out → Option Sending
sent_first j os = sent_in (first_out (skip j os))

of_one : (P : Description) (j : ℕ) (x : Exchange) → IsWhole x → j < x.slots → sent_first j (after_gap_of x (outs P (script_of (x ∷ [])))) ≡ slot_at j P [] x
of_one P j x w few =
    ap (λ os. sent_first j (after_gap_of x os)) (exchange_law P [] x [] (w, tt) tt)
    ∙ (ap (λ os. sent_first j (skip 1 os)) (words_skipped x.words (gap_answer P x ∷ slots_answered P x.slots (notes_at_gap P x []) []))
    ∙ (ap sent_in (slot_found P j x.slots (notes_at_gap P x []) [] few)
    ∙ sent_again (slot_at j P [] x)))

of_two : (P : Description) (j : ℕ) (x y : Exchange) → IsWhole x → IsWhole y → AreAnswered P (x ∷ []) → j < y.slots →
    sent_first j (after_gap_of y (after_slots_of x (outs P (script_of (x ∷ y ∷ []))))) ≡ slot_at j P (x ∷ []) y
of_two P j x y w v a few =
    let rest : List Out = outs_from P (history_of (x ∷ [])) (exchange_then y []) in
    let later : List Out = slots_answered P y.slots (notes_at_gap P y (exchange_notes P (x ∷ []))) [] in
    ap (λ os. sent_first j (after_gap_of y (after_slots_of x os))) (exchange_law P [] x (exchange_then y []) (w, tt) tt)
    ∙ (ap (λ os. sent_first j (after_gap_of y (skip x.slots (skip 1 os)))) (words_skipped x.words (gap_answer P x ∷ slots_answered P x.slots (notes_at_gap P x []) rest))
    ∙ (ap (λ os. sent_first j (after_gap_of y os)) (slots_skipped P x.slots (notes_at_gap P x []) rest)
    ∙ (ap (λ os. sent_first j (after_gap_of y os)) (exchange_law P (x ∷ []) y [] (v, (w, tt)) a)
    ∙ (ap (λ os. sent_first j (skip 1 os)) (words_skipped y.words (gap_answer P y ∷ later))
    ∙ (ap sent_in (slot_found P j y.slots (notes_at_gap P y (exchange_notes P (x ∷ []))) [] few)
    ∙ sent_again (slot_at j P (x ∷ []) y))))))

-- terminals differ on a script where something tells what they send in a slot apart
differ_by : {X : Type 0} (f : Option Sending → X) (g : List Out → Option Sending) (P Q : Description) (script : List Event) (a b : X) → f (g (outs P script)) ≡ a → f (g (outs Q script)) ≡ b → a ≢ b →
    outs P script ≢ outs Q script
differ_by f g P Q script a b p q apart e = apart (sym p ∙ (ap (λ os. f (g os)) e ∙ q))

pub words_proper : (ds : List ℕ) (es : List Event) → AreSmall ds → AreProper es → AreProper (words_then ds es)
words_proper [] es fit proper = proper
words_proper (d ∷ ds) es (small, fit) proper = (small, words_proper ds es fit proper)

pub slots_proper : (n : ℕ) (es : List Event) → AreProper es → AreProper (slots_then n es)
slots_proper zero es proper = proper
slots_proper (suc n) es proper = (tt, slots_proper n es proper)

words_length : (ds : List ℕ) (es : List Event) → length (words_then ds es) ≡ length ds + length es
words_length [] es = omega arith
words_length (d ∷ ds) es = let rest : length (words_then ds es) ≡ length ds + length es = words_length ds es in omega arith

slots_length : (n : ℕ) (es : List Event) → length (slots_then n es) ≡ n + length es
slots_length zero es = omega arith
slots_length (suc n) es = let rest : length (slots_then n es) ≡ n + length es = slots_length n es in omega arith

pub exchange_length : (x : Exchange) (es : List Event) → length (exchange_then x es) ≡ length x.words + x.slots + length es + 2
exchange_length x es =
    let words : length (words_then x.words (Gap A ∷ slots_then x.slots es)) ≡ length x.words + suc (length (slots_then x.slots es)) = words_length x.words (Gap A ∷ slots_then x.slots es) in
    let slots : length (slots_then x.slots es) ≡ x.slots + length es = slots_length x.slots es in
    omega arith

exchange_proper : (to : ℕ) (cell : Option Cell) (x : Exchange) (es : List Event) → IsTo to cell x → AreProper es → AreProper (exchange_then x es)
exchange_proper to cell x es is proper = (is.small, words_proper x.words (Gap A ∷ slots_then x.slots es) is.words_small (tt, slots_proper x.slots es proper))

-- a script of one exchange is short
pub apart_by_one : {X : Type 0} (f : Option Sending → X) (j : ℕ) (P Q : Description) (to : ℕ) (cell : Option Cell) (x : Exchange) (a b : X) → IsTo to cell x → j < x.slots →
    f (slot_at j P [] x) ≡ a → f (slot_at j Q [] x) ≡ b → a ≢ b → TellsApart P Q (script_of (x ∷ []))
apart_by_one f j P Q to cell x a b is at p q apart =
    let long : length (exchange_then x []) ≡ length x.words + x.slots + 0 + 2 = exchange_length x [] in
    let few : length x.words ≤ 32 = is.few in
    let few_slots : x.slots ≤ 33 = is.few_slots in
    record {
      proper = exchange_proper to cell x [] is tt;
      short = omega arith;
      differ = differ_by f (λ os. sent_first j (after_gap_of x os)) P Q (script_of (x ∷ [])) a b (ap f (of_one P j x is.whole at) ∙ p) (ap f (of_one Q j x is.whole at) ∙ q) apart;
    }

-- and so is one of two, the second of them without data words
pub apart_by_two : {X : Type 0} (f : Option Sending → X) (j : ℕ) (P Q : Description) (to then_to : ℕ) (cell then_cell : Option Cell) (x y : Exchange) (a b : X) → IsTo to cell x → IsTo then_to then_cell y → y.words ≡ [] →
    x.slots ≤ 1 → AreAnswered P (x ∷ []) → AreAnswered Q (x ∷ []) → j < y.slots →
    f (slot_at j P (x ∷ []) y) ≡ a → f (slot_at j Q (x ∷ []) y) ≡ b → a ≢ b → TellsApart P Q (script_of (x ∷ y ∷ []))
apart_by_two f j P Q to then_to cell then_cell x y a b is then_is none one pa qa at p q apart =
    let long : length (exchange_then x (exchange_then y [])) ≡ length x.words + x.slots + length (exchange_then y []) + 2 = exchange_length x (exchange_then y []) in
    let rest : length (exchange_then y []) ≡ length y.words + y.slots + 0 + 2 = exchange_length y [] in
    let end : length y.words ≡ 0 = ap length none in
    let few : length x.words ≤ 32 = is.few in
    let few_slots : y.slots ≤ 33 = then_is.few_slots in
    record {
      proper = exchange_proper to cell x (exchange_then y []) is (exchange_proper then_to then_cell y [] then_is tt);
      short = omega arith;
      differ = differ_by f (λ os. sent_first j (after_gap_of y (after_slots_of x os))) P Q (script_of (x ∷ y ∷ [])) a b (ap f (of_two P j x y is.whole then_is.whole pa at) ∙ p) (ap f (of_two Q j x y is.whole then_is.whole qa at) ∙ q) apart;
    }

-- the bits of what is sent
abbrev pub bits_in : Option Sending → ℕ
bits_in None = 0
bits_in (Some s) = s.bits

-- something is sent
abbrev pub is_sent : Option Sending → Bool
is_sent None = false
is_sent (Some s) = true
