-- Results of a unit that is the terminal of some profile: when they pass.
use Rattle.std.proofs.Common.{◌≡◌, ℕ, zero, suc, ◌+◌, Bool, true, false, if◌then◌else◌, Option, Some, None, List, [], ◌∷◌, ◌++◌, length, map, refl, ap, sym, ◌∙◌, arith, append-nil, nat_eq}
use Rattle.std.specs.Cmp.Lexicographic.{pointwise}
use Rattle.std.proofs.lemmas.Slice.Eq.{bytes_eq-Decides}
use Rattle.std.proofs.lemmas.List.{map-append}
use Rattle.bus_legal.specs.Description.{Description}
use Rattle.bus_legal.specs.Parts.{description_in}
use Rattle.terminal_rules.specs.declared.event.Event.{Event}
use Rattle.terminal_rules.specs.declared.event.Event.TheVariants.{Gap, Slot}
use Rattle.terminal_rules.specs.Starts.{is_meant}
use Rattle.terminal_rules.specs.Past.{past, history_after}
use Rattle.terminal_rules.specs.Out.{Out, Silence, Handing, hands, handing_over, sends, sending_out, outs_from, sent_in}
use Rattle.bus_word.specs.declared.word.Bus.TheVariants.{A}
use Rattle.terminal_exchanges.specs.Exchanges.{Exchange, command_event, data_event, words_then, slots_then, exchange_then, script_of}
use Rattle.terminal_exchanges.specs.ExchangeLaws.{AreWhole, AreAnswered, history_of, after_words, after_slots, before_its_gap, end_of, silent_then, silent_slots, reply_to, reply_then}
use Rattle.terminal_exchanges.proofs.ExchangeAnswers.{meant_exchange_law, unmeant_law}
use Rattle.bus_complete_test.specs.CompleteTest.{complete_test, tried}
use Rattle.bus_complete_test.proofs.SlotWalk.{IsSound, AreSound, answered_more}
use Rattle.bus_complete_test.proofs.Sound.{tried_sound}
use Rattle.terminal_exchanges.proofs.Distinguish.Reached.{normal-reached}
use Rattle.bus_complete_test.proofs.Complete.{complete_test_law}
use Rattle.rt1553_acceptance.specs.Label.{label_of}
use Rattle.rt1553_results.specs.Rows.{Answered, sent_word, words_sent, row_at, after_exchange, rows_from}
use Rattle.rt1553_results.specs.Compare.{ToldReply, replies_told, wrong_replies, missing_at, missing}
use Rattle.rt1553_results.specs.Unit.{AreGiven, UnitLaw}
use Rattle.rt1553_results.proofs.SlotLaws.{GoesOn, same_slots, unmeant_slots, meant_slots}

-- ---- what a terminal answers to an exchange: something at the gap that sends nothing, and slots of a reply

-- silence up to the gap; at the gap and in the slots these; and then others
abbrev around : Exchange → Out → List Out → List Out → List Out
around x gap slots rest = Silence ∷ silent_then x.words (gap ∷ (slots ++ rest))

record Shape (P : Description) (xs : List Exchange) (x : Exchange) : Type 0 where
  gap : Out
  slots : List Out
  quiet : sent_word gap ≡ []
  unsent : sent_in gap ≡ None
  long : length slots ≡ x.slots
  goes : GoesOn 0 slots
  is : (es : List Event) → outs_from P (history_of xs) (exchange_then x es) ≡ around x gap slots (outs_from P (history_of (x ∷ xs)) es)

silent_rest : (n : ℕ) (os : List Out) → silent_slots n os ≡ silent_slots n [] ++ os
silent_rest zero os = refl
silent_rest (suc n) os = ap (λ rest. Silence ∷ rest) (silent_rest n os)

silent_long : (n : ℕ) → length (silent_slots n []) ≡ n
silent_long zero = refl
silent_long (suc n) = ap suc (silent_long n)

reply_rest : (P : Description) (x : Exchange) (k n : ℕ) (h : List Event) (os : List Out) → reply_then P (end_of P x) k n h os ≡ reply_then P (end_of P x) k n h [] ++ os
reply_rest P x k zero h os = refl
reply_rest P x k (suc n) h os = (λ j. reply_here ∷ reply_rest P x (suc k) n (Slot ∷ h) os j)
  where
    reply_here : Out
    reply_here = sending_out (sends P (past P h) (reply_to (end_of P x) k))

reply_long : (P : Description) (x : Exchange) (k n : ℕ) (h : List Event) → length (reply_then P (end_of P x) k n h []) ≡ n
reply_long P x k zero h = refl
reply_long P x k (suc n) h = ap suc (reply_long P x (suc k) n (Slot ∷ h))

quiet_gap : (o : Option Handing) → sent_word (handing_over o) ≡ []
quiet_gap None = refl
quiet_gap (Some handing) = refl

unsent_gap : (o : Option Handing) → sent_in (handing_over o) ≡ None
unsent_gap None = refl
unsent_gap (Some handing) = refl

shape : (P : Description) (xs : List Exchange) (x : Exchange) → IsSound x → AreWhole xs → AreAnswered P xs → Shape P xs x
shape P xs x sound whole enough = by_meant (is_meant P x.command) refl
  where
    by_meant : (b : Bool) → is_meant P x.command ≡ b → Shape P xs x
    by_meant true e = record {
      gap = handing_over (hands P (end_of P x));
      slots = reply_then P (end_of P x) 0 x.slots (Gap A ∷ before_its_gap x (history_of xs)) [];
      quiet = quiet_gap (hands P (end_of P x));
      unsent = unsent_gap (hands P (end_of P x));
      long = reply_long P x 0 x.slots (Gap A ∷ before_its_gap x (history_of xs));
      goes = meant_slots P (end_of P x) x.slots 0 (Gap A ∷ before_its_gap x (history_of xs));
      is = λ es. meant_exchange_law P xs x es (sound.whole, whole) enough e
          ∙ ap (λ s. Silence ∷ silent_then x.words (handing_over (hands P (end_of P x)) ∷ s))
          (reply_rest P x 0 x.slots (Gap A ∷ before_its_gap x (history_of xs)) (outs_from P (history_of (x ∷ xs)) es));
    }
    by_meant false e = record {
      gap = Silence;
      slots = silent_slots x.slots [];
      quiet = refl;
      unsent = refl;
      long = silent_long x.slots;
      goes = unmeant_slots x.slots;
      is = λ es. unmeant_law P xs x es (sound.whole, whole) enough e
          ∙ ap (λ s. Silence ∷ silent_then x.words (Silence ∷ s)) (silent_rest x.slots (outs_from P (history_of (x ∷ xs)) es));
    }

-- ---- its reply, and what is sent

words_after : (ds : List ℕ) (os : List Out) → words_sent (silent_then ds os) ≡ words_sent os
unfolding words_sent
words_after [] os = refl
words_after (d ∷ ds) os = words_after ds os

reply_around : (x : Exchange) (gap : Out) (slots : List Out) → sent_word gap ≡ [] → words_sent (around x gap slots []) ≡ words_sent slots
unfolding words_sent
reply_around x gap slots quiet =
    words_after x.words (gap ∷ (slots ++ [])) ∙ ap (λ ws. ws ++ words_sent (slots ++ [])) quiet ∙ ap words_sent (append-nil slots)

sent_after : (ds : List ℕ) (os ps : List Out) → map sent_in os ≡ map sent_in ps → map sent_in (silent_then ds os) ≡ map sent_in (silent_then ds ps)
sent_after [] os ps e = e
sent_after (d ∷ ds) os ps e = let later = sent_after ds os ps e in (λ j. None ∷ later j)

around_alike : (x : Exchange) (g h : Out) (os ps rest others : List Out) → sent_in g ≡ None → sent_in h ≡ None → map sent_in os ≡ map sent_in ps → map sent_in rest ≡ map sent_in others
    → map sent_in (around x g os rest) ≡ map sent_in (around x h ps others)
around_alike x g h os ps rest others a b e f =
    let gap : sent_in g ≡ sent_in h = a ∙ sym b in
    let later : map sent_in (os ++ rest) ≡ map sent_in (ps ++ others) = map-append sent_in os rest ∙ (λ j. e j ++ f j) ∙ sym (map-append sent_in ps others) in
    let all = sent_after x.words (g ∷ (os ++ rest)) (h ∷ (ps ++ others)) (λ j. gap j ∷ later j) in (λ j. None ∷ all j)

-- ---- the history after an exchange

words_history : (ds : List ℕ) (es h : List Event) → history_after (words_then ds es) h ≡ history_after es (after_words ds h)
words_history [] es h = refl
words_history (d ∷ ds) es h = words_history ds es (data_event d ∷ h)

slots_history : (n : ℕ) (es h : List Event) → history_after (slots_then n es) h ≡ history_after es (after_slots n h)
slots_history zero es h = refl
slots_history (suc n) es h = slots_history n es (Slot ∷ h)

exchange_history : (x : Exchange) (xs : List Exchange) → after_exchange x (history_of xs) ≡ history_of (x ∷ xs)
exchange_history x xs =
    words_history x.words (Gap A ∷ slots_then x.slots []) (command_event x.command ∷ history_of xs)
    ∙ slots_history x.slots [] (Gap A ∷ before_its_gap x (history_of xs))

-- ---- terminals with the same replies send the same

abbrev replies_of : List Answered → List (List ℕ)
replies_of rows = map (λ row. row.reply) rows

reply_is : (P : Description) (xs : List Exchange) (x : Exchange) (s : Shape P xs x) → (row_at P (history_of xs) x).reply ≡ words_sent s.slots
reply_is P xs x s = ap words_sent (s.is []) ∙ reply_around x s.gap s.slots s.quiet

sent_alike : (P Q : Description) (xs ys : List Exchange) → AreWhole xs → AreAnswered P xs → AreAnswered Q xs → AreSound ys
    → replies_of (rows_from Q (history_of xs) ys) ≡ replies_of (rows_from P (history_of xs) ys)
    → map sent_in (outs_from Q (history_of xs) (script_of ys)) ≡ map sent_in (outs_from P (history_of xs) (script_of ys))
unfolding rows_from
sent_alike P Q xs [] whole a b sound e = refl
sent_alike P Q xs (y ∷ ys) whole a b (s, ss) e =
    let p = shape P xs y s whole a in
    let q = shape Q xs y s whole b in
    let here : (row_at Q (history_of xs) y).reply ≡ (row_at P (history_of xs) y).reply = cc in
    let tails : replies_of (rows_from Q (after_exchange y (history_of xs)) ys) ≡ replies_of (rows_from P (after_exchange y (history_of xs)) ys) = cc in
    let next : replies_of (rows_from Q (history_of (y ∷ xs)) ys) ≡ replies_of (rows_from P (history_of (y ∷ xs)) ys) =
    ap (λ h. replies_of (rows_from Q h ys)) (sym (exchange_history y xs)) ∙ tails ∙ ap (λ h. replies_of (rows_from P h ys)) (exchange_history y xs) in
    let slots : map sent_in q.slots ≡ map sent_in p.slots =
    same_slots 0 q.slots p.slots (q.long ∙ sym p.long) q.goes p.goes (sym (reply_is Q xs y q) ∙ here ∙ reply_is P xs y p) in
    let rest = sent_alike P Q (y ∷ xs) ys (s.whole, whole) (answered_more P xs y s a) (answered_more Q xs y s b) ss next in
    ap (map sent_in) (q.is (script_of ys))
    ∙ around_alike y q.gap p.gap q.slots p.slots _ _ q.unsent p.unsent slots rest
    ∙ ap (map sent_in) (sym (p.is (script_of ys)))

-- ---- what is told of results

abbrev told_if : Bool → Description → ℕ → Answered → List ℕ → List ToldReply
told_if same P n row came = if same then [] else record { number = n; command = row.exchange.command; label = label_of P row.exchange.command; expected = row.reply; came = came } ∷ []

told_none : (P : Description) (n : ℕ) (row : Answered) (came : List ℕ) (more : List ToldReply) → replies_told P n row (Some came) ++ more ≡ [] → (came ≡ row.reply) × (more ≡ [])
told_none P n row came more e = pick (pointwise nat_eq came row.reply) refl e
  where
    pick : (b : Bool) → pointwise nat_eq came row.reply ≡ b → told_if b P n row came ++ more ≡ [] → (came ≡ row.reply) × (more ≡ [])
    pick true is e = ((bytes_eq-Decides came row.reply).0 is, e)
    pick false is e = absurd (cc)

told_same : (P : Description) (n : ℕ) (row : Answered) (came : List ℕ) → came ≡ row.reply → replies_told P n row (Some came) ≡ []
told_same P n row came same = pick (pointwise nat_eq came row.reply) ((bytes_eq-Decides came row.reply).1 same)
  where
    pick : (b : Bool) → b ≡ true → told_if b P n row came ≡ []
    pick true e = refl
    pick false e = absurd (cc)

none_differs : (P : Description) (came : ℕ → Option (List ℕ)) (n : ℕ) (ps qs : List Answered) → length ps ≡ length qs → AreGiven came n qs → wrong_replies P came n ps ≡ [] → replies_of qs ≡ replies_of ps
unfolding wrong_replies
none_differs P came n [] [] long given e = refl
none_differs P came n [] (q ∷ qs) long given e = absurd (omega (arith, long))
none_differs P came n (p ∷ ps) [] long given e = absurd (omega (arith, long))
none_differs P came n (p ∷ ps) (q ∷ qs) long given e =
    let one = told_none P n p q.reply (wrong_replies P came (n + 1) ps) (ap (λ o. replies_told P n p o ++ wrong_replies P came (n + 1) ps) (sym given.0) ∙ e) in
    let later = none_differs P came (n + 1) ps qs (omega (arith, long)) given.1 one.1 in
    let here = one.0 in (λ j. here j ∷ later j)

alike_differ : (P : Description) (came : ℕ → Option (List ℕ)) (n : ℕ) (ps qs : List Answered) → length ps ≡ length qs → AreGiven came n qs → replies_of qs ≡ replies_of ps → wrong_replies P came n ps ≡ []
unfolding wrong_replies
alike_differ P came n [] [] long given e = refl
alike_differ P came n [] (q ∷ qs) long given e = absurd (omega (arith, long))
alike_differ P came n (p ∷ ps) [] long given e = absurd (omega (arith, long))
alike_differ P came n (p ∷ ps) (q ∷ qs) long given e =
    let here : q.reply ≡ p.reply = cc in
    let later : replies_of qs ≡ replies_of ps = cc in
    ap (λ o. replies_told P n p o ++ wrong_replies P came (n + 1) ps) given.0
    ∙ ap (λ xs. xs ++ wrong_replies P came (n + 1) ps) (told_same P n p q.reply here)
    ∙ alike_differ P came (n + 1) ps qs (omega (arith, long)) given.1 later

none_missing : (came : ℕ → Option (List ℕ)) (n : ℕ) (ps qs : List Answered) → length ps ≡ length qs → AreGiven came n qs → missing came n ps ≡ []
unfolding missing
none_missing came n [] qs long given = refl
none_missing came n (p ∷ ps) [] long given = absurd (omega (arith, long))
none_missing came n (p ∷ ps) (q ∷ qs) long given =
    ap (λ o. missing_at n o ++ missing came (n + 1) ps) given.0 ∙ none_missing came (n + 1) ps qs (omega (arith, long)) given.1

rows_long : (P : Description) (h : List Event) (xs : List Exchange) → length (rows_from P h xs) ≡ length xs
unfolding rows_from
rows_long P h [] = refl
rows_long P h (x ∷ xs) = ap suc (rows_long P (after_exchange x h) xs)

pub unit_law : UnitLaw
unit_law v w came c normal other given compares =
    let P = description_in v in
    let Q = description_in w in
    let xs = tried P in
    let ps = rows_from P [] xs in
    let qs = rows_from Q [] xs in
    let long : length ps ≡ length qs = rows_long P [] xs ∙ sym (rows_long Q [] xs) in
    let test = complete_test P in (
      (λ passes.
          let none : wrong_replies P came 1 ps ≡ [] = sym compares.tells.differ ∙ passes.0 in
          let same = none_differs P came 1 ps qs long given none in
          (complete_test_law.seen v w normal other).0 (sent_alike P Q [] xs tt tt tt (tried_sound P (normal-reached v normal)) same)),
      (λ alike.
          let equal : v ≡ w = (complete_test_law.complete v w normal other).0 (alike test (complete_test_law.proper v normal)) in
          let same : replies_of qs ≡ replies_of ps = ap (λ u. replies_of (rows_from (description_in u) [] xs)) (sym equal) in
          (compares.tells.differ ∙ alike_differ P came 1 ps qs long given same, compares.tells.miss ∙ none_missing came 1 ps qs long given)),
    )
