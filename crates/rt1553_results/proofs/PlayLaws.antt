-- What is answered to an exchange: nothing up to its gap, then what is handed over, then the words in its slots.
use Rattle.std.proofs.Common.{◌≡◌, ℕ, zero, suc, ◌+◌, ◌-◌, ◌<◌, ◌≤◌, Option, Some, None, List, [], ◌∷◌, ◌++◌, replicate, refl, sym, ap, ◌∙◌, append_assoc, append-nil, arith}
use Rattle.bus_word.specs.declared.word.Bus.TheVariants.{A}
use Rattle.bus_legal.specs.Description.{Description}
use Rattle.terminal_rules.specs.declared.event.Event.{Event}
use Rattle.terminal_rules.specs.declared.event.Event.TheVariants.{Gap, Slot}
use Rattle.terminal_rules.specs.Past.{past, history_after}
use Rattle.terminal_rules.specs.Reply.{reply_now}
use Rattle.terminal_rules.specs.Ends.{ends_now}
use Rattle.terminal_rules.specs.Out.{Handing, Sending, hands, handing_over, sends, sending_out, out, outs_from}
use Rattle.terminal_exchanges.specs.Exchanges.{Exchange, command_event, data_event, words_then, slots_then, script_of}
use Rattle.terminal_exchanges.specs.ExchangeLaws.{after_words, before_its_gap, after_slots}
use Rattle.rt1553_results.specs.Rows.{Answered, sent_word, words_sent, handing_of, first_handing, handed_over, row_at, after_exchange}

-- a gap sends no word, and a slot hands nothing over
no_word : (o : Option Handing) → sent_word (handing_over o) ≡ []
no_word None = refl
no_word (Some handing) = refl

no_handing : (o : Option Sending) → handing_of (sending_out o) ≡ None
no_handing None = refl
no_handing (Some sending) = refl

first_alone : (o : Option Handing) → first_handing o None ≡ o
first_alone None = refl
first_alone (Some handing) = refl

-- over data words
words_pass : (P : Description) (h : List Event) (ds : List ℕ) (es : List Event) → words_sent (outs_from P h (words_then ds es)) ≡ words_sent (outs_from P (after_words ds h) es)
unfolding words_sent
words_pass P h [] es = refl
words_pass P h (d ∷ ds) es = words_pass P (data_event d ∷ h) ds es

handed_pass : (P : Description) (h : List Event) (ds : List ℕ) (es : List Event) → handed_over (outs_from P h (words_then ds es)) ≡ handed_over (outs_from P (after_words ds h) es)
unfolding handed_over
handed_pass P h [] es = refl
handed_pass P h (d ∷ ds) es = handed_pass P (data_event d ∷ h) ds es

history_pass : (h : List Event) (ds : List ℕ) (es : List Event) → history_after (words_then ds es) h ≡ history_after es (after_words ds h)
history_pass h [] es = refl
history_pass h (d ∷ ds) es = history_pass (data_event d ∷ h) ds es

-- over slots
slots_hand_nothing : (P : Description) (h : List Event) (n : ℕ) → handed_over (outs_from P h (slots_then n [])) ≡ None
unfolding handed_over
slots_hand_nothing P h zero = refl
slots_hand_nothing P h (suc n) =
    (λ j. first_handing (no_handing (sends P (past P h) (reply_now (past P h))) j) (slots_hand_nothing P (Slot ∷ h) n j))

slots_pass : (h : List Event) (n : ℕ) → history_after (slots_then n []) h ≡ after_slots n h
slots_pass h zero = refl
slots_pass h (suc n) = slots_pass (Slot ∷ h) n

-- an exchange
pub exchange_sends : (P : Description) (h : List Event) (x : Exchange) → words_sent (outs_from P h (script_of (x ∷ []))) ≡ words_sent (outs_from P (Gap A ∷ before_its_gap x h) (slots_then x.slots []))
unfolding words_sent
exchange_sends P h x =
    let g : List Event = before_its_gap x h in
    words_pass P (command_event x.command ∷ h) x.words (Gap A ∷ slots_then x.slots [])
    ∙ ap (λ ws. ws ++ words_sent (outs_from P (Gap A ∷ g) (slots_then x.slots []))) (no_word (hands P (ends_now P (past P g) (Gap A))))

pub exchange_hands : (P : Description) (h : List Event) (x : Exchange) → handed_over (outs_from P h (script_of (x ∷ []))) ≡ handing_of (out P (before_its_gap x h) (Gap A))
unfolding handed_over
exchange_hands P h x =
    let g : List Event = before_its_gap x h in
    handed_pass P (command_event x.command ∷ h) x.words (Gap A ∷ slots_then x.slots [])
    ∙ ap (λ o. first_handing (handing_of (out P g (Gap A))) o) (slots_hand_nothing P (Gap A ∷ g) x.slots)
    ∙ first_alone (handing_of (out P g (Gap A)))

pub exchange_passes : (h : List Event) (x : Exchange) → after_exchange x h ≡ after_slots x.slots (Gap A ∷ before_its_gap x h)
exchange_passes h x = history_pass (command_event x.command ∷ h) x.words (Gap A ∷ slots_then x.slots []) ∙ slots_pass (Gap A ∷ before_its_gap x h) x.slots

-- what was kept of an exchange is its row
pub row_kept : (P : Description) (h : List Event) (x : Exchange) (reply : List ℕ) (handed : Option Handing)
    → reply ≡ words_sent (outs_from P (Gap A ∷ before_its_gap x h) (slots_then x.slots []))
    → handed ≡ handing_of (out P (before_its_gap x h) (Gap A))
    → (let row : Answered = record { exchange = x; reply = reply; handed = handed } in row) ≡ row_at P h x
row_kept P h x reply handed e f =
    (λ j. record { exchange = x; reply = (e ∙ sym (exchange_sends P h x)) j; handed = (f ∙ sym (exchange_hands P h x)) j })

-- one slot more was played
pub slot_more : (P : Description) (g : List Event) (old new all : List ℕ) (n : ℕ)
    → new ≡ old ++ sent_word (out P g Slot) → old ++ words_sent (outs_from P g (slots_then (suc n) [])) ≡ all
    → new ++ words_sent (outs_from P (Slot ∷ g) (slots_then n [])) ≡ all
unfolding words_sent
slot_more P g old new all n grown before =
    ap (λ ws. ws ++ words_sent (outs_from P (Slot ∷ g) (slots_then n []))) grown
    ∙ append_assoc old (sent_word (out P g Slot)) (words_sent (outs_from P (Slot ∷ g) (slots_then n [])))
    ∙ before

-- the loops, one step on and at their ends
pub zeros_more : (count i : ℕ) (k all : List Event) → i < count → after_words (replicate (count - i) 0) k ≡ all → after_words (replicate (count - (i + 1)) 0) (data_event 0 ∷ k) ≡ all
zeros_more count i k all few before =
    let next : suc (count - (i + 1)) ≡ count - i = omega arith in
    ap (λ n. after_words (replicate n 0) k) next ∙ before

pub zeros_over : (count i : ℕ) (k all : List Event) → count ≤ i → after_words (replicate (count - i) 0) k ≡ all → k ≡ all
zeros_over count i k all over before =
    let none : 0 ≡ count - i = omega arith in
    ap (λ n. after_words (replicate n 0) k) none ∙ before

pub slots_more : (count i : ℕ) (k all : List Event) → i < count → after_slots (count - i) k ≡ all → after_slots (count - (i + 1)) (Slot ∷ k) ≡ all
slots_more count i k all few before =
    let next : suc (count - (i + 1)) ≡ count - i = omega arith in
    ap (λ n. after_slots n k) next ∙ before

pub slots_over : (count i : ℕ) (k all : List Event) → count ≤ i → after_slots (count - i) k ≡ all → k ≡ all
slots_over count i k all over before =
    let none : 0 ≡ count - i = omega arith in
    ap (λ n. after_slots n k) none ∙ before

pub sent_more : (P : Description) (k : List Event) (old new all : List ℕ) (count i : ℕ) → i < count
    → new ≡ old ++ sent_word (out P k Slot) → old ++ words_sent (outs_from P k (slots_then (count - i) [])) ≡ all
    → new ++ words_sent (outs_from P (Slot ∷ k) (slots_then (count - (i + 1)) [])) ≡ all
sent_more P k old new all count i few grown before =
    let next : suc (count - (i + 1)) ≡ count - i = omega arith in
    slot_more P k old new all (count - (i + 1)) grown (ap (λ n. old ++ words_sent (outs_from P k (slots_then n []))) next ∙ before)

pub sent_over : (P : Description) (k : List Event) (reply all : List ℕ) (count i : ℕ) → count ≤ i
    → reply ++ words_sent (outs_from P k (slots_then (count - i) [])) ≡ all → reply ≡ all
unfolding words_sent
sent_over P k reply all count i over before =
    let none : 0 ≡ count - i = omega arith in
    sym (append-nil reply) ∙ ap (λ n. reply ++ words_sent (outs_from P k (slots_then n []))) none ∙ before
