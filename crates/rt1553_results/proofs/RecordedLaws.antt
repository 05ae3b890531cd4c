-- Laws of what a watch is given of results.
use Rattle.std.proofs.Common.{◌≡◌, ◌∙◌, ℕ, suc, ◌+◌, ◌-◌, ◌<◌, ◌==◌, true, false, if◌then◌else◌, Option, Some, None, List, [], ◌∷◌, ◌++◌, length, take, map, replicate, get_or, refl, sym, ap, subst, append_assoc, append-nil, arith}
use Rattle.std.specs.List.{flat_map}
use Rattle.std.proofs.lemmas.Grind.{flat_map-append, replicate_next}
use Rattle.std.proofs.lemmas.List.{length-replicate, length-take-le, map-append, take_more}
use Rattle.std.proofs.lemmas.Bool.Decides.{nat_tests}
use Rattle.bus_word.specs.declared.word.Bus.TheVariants.{A}
use Rattle.bus_word.specs.declared.word.Kind.TheVariants.{Com, Dat}
use Rattle.bus_legal.specs.Description.{Description}
use Rattle.bus_legal.specs.Parts.{Parts}
use Rattle.bus_legal.specs.Tables.{tables_say}
use Rattle.terminal_rules.specs.declared.event.Event.{Event}
use Rattle.terminal_rules.specs.declared.event.Event.TheVariants.{Gap, Slot}
use Rattle.terminal_rules.specs.Out.{Sending, sending}
use Rattle.terminal_exchanges.specs.Exchanges.{Exchange, command_event, data_event, words_then}
use Rattle.terminal_recordings.specs.Recordings.{is_seen}
use Rattle.recorded_terminal.specs.declared.watch.Marked.{Marked}
use Rattle.recorded_terminal.specs.declared.watch.Watch.{Watch}
use Rattle.recorded_terminal.specs.SentWords.{word_shown}
use Rattle.recorded_terminal.specs.Watched.{Watches}
use Rattle.rt1553_results.specs.declared.watching.ReplyPlace.{ReplyPlace}
use Rattle.rt1553_results.specs.Recorded.{Replied, words_replied, slots_of, seen_slot, events_to_gap}
use Rattle.rt1553_results.specs.inner.Placed.{PlacedSighting, placed_in, line_of_slot, placed_event, placed_slots, placed_events, placed_exchange, word_in_slot, NoneIsOpen, WatchesAll, Sees}

-- ---- a watch that is given more

pub sees_none : (w : Watch Parts) → Sees [] w w
sees_none w D before all = subst (λ xs. WatchesAll D xs w) (sym (append-nil before)) all

pub sees_more : (xs ys : List PlacedSighting) (u v w : Watch Parts) → Sees xs u v → Sees ys v w → Sees (xs ++ ys) u w
sees_more xs ys u v w a b D before all = subst (λ zs. WatchesAll D zs w) (append_assoc before xs ys) (b D (before ++ xs) (a D before all))

whole_more : (ms : List Marked) (m : Marked) → NoneIsOpen ms → (m.any_word ≡ false) × (m.is_maybe ≡ false) → NoneIsOpen (ms ++ m ∷ [])
whole_more [] m are whole = (whole, tt)
whole_more (x ∷ ms) m are whole = (are.0, whole_more ms m are.1 whole)

pub sees_one : (m : Marked) (at : ReplyPlace) (e : Event) (sent : Option Sending) (old new : Watch Parts)
    → m.sighting.event ≡ e → word_shown m.sighting.sent ≡ sent → is_seen e ≡ true → m.line ≡ line_of_slot at.number at.slot → m.command ≡ Some at.command → (m.any_word ≡ false) × (m.is_maybe ≡ false)
    → ((D : Description) (h : List Event) (ms : List Marked) → Watches (λ normal. tables_say normal.tables) D h ms old → Watches (λ normal. tables_say normal.tables) D h (ms ++ m ∷ []) new)
    → Sees (placed_event at e sent) old new
sees_one m at e sent old new is_event is_sent seen is_line is_command whole more D before (ms, all, are, w) = (
  ms ++ m ∷ [],
  map-append placed_in ms (m ∷ []) ∙ (λ j. all j ++ one j),
  whole_more ms m are whole,
  more D [] ms w,
)
  where
    one : placed_in m ∷ [] ≡ placed_event at e sent
    one =
        (λ j. record { sighting = record { event = is_event j; sent = is_sent j }; line = is_line j; command = is_command j } ∷ [])
        ∙ ap (λ b. if b then record { sighting = record { event = e; sent = sent }; line = line_of_slot at.number at.slot; command = Some at.command } ∷ [] else []) (sym seen)

-- ---- events, words and slots

pub sees_event : (at : ReplyPlace) (events : List Event) (k : ℕ) (e : Event) (u v w : Watch Parts) → k < length events → e ≡ get_or events k e
    → Sees (flat_map (λ e. placed_event at e None) (take k events)) u v → Sees (placed_event at e None) v w → Sees (flat_map (λ e. placed_event at e None) (take (k + 1) events)) u w
sees_event at events k e u v w low is before one =
    subst (λ xs. Sees xs u w)
    (sym (flat_map-append (λ e. placed_event at e None) (take k events) (e ∷ [])) ∙ ap (flat_map (λ e. placed_event at e None)) (ap (λ x. take k events ++ x ∷ []) is ∙ sym (take_more events k e low)))
    (sees_more (flat_map (λ e. placed_event at e None) (take k events)) (flat_map (λ e. placed_event at e None) (e ∷ [])) u v w before
    (subst (λ xs. Sees xs v w) (sym (append-nil (placed_event at e None))) one))

pub slots_over : (n c k : ℕ) (xs ys : List (Option Sending)) → placed_slots n c k (xs ++ ys) ≡ placed_slots n c k xs ++ placed_slots n c (k + length xs) ys
slots_over n c k [] ys = let same : k ≡ k + 0 = omega arith in ap (λ k. placed_slots n c k ys) same
slots_over n c k (s ∷ xs) ys =
    let same : suc k + length xs ≡ k + suc (length xs) = omega arith in
    ap (λ zs. record { sighting = seen_slot s; line = line_of_slot n k; command = Some c } ∷ zs) (slots_over n c (suc k) xs ys ∙ ap (λ m. placed_slots n c (suc k) xs ++ placed_slots n c m ys) same)

-- a data word more
words_more : (ws : List ℕ) (w : ℕ) → words_replied (ws ++ w ∷ []) ≡ words_replied ws ++ word_in_slot (length ws) w ∷ []
words_more [] w = refl
words_more (s ∷ ws) w =
    let later : (suc (length ws) == 0) ≡ false = grind (arith, nat_tests) in
    ap (λ ds. sending A Com s ∷ ds) (map-append (sending A Dat) ws (w ∷ []))
    ∙ ap (λ b. sending A Com s ∷ (map (sending A Dat) ws ++ sending A (if b then Com else Dat) w ∷ [])) (sym later)

words_long : (ws : List ℕ) → length (map Some (words_replied ws)) ≡ length ws
words_long [] = refl
words_long (s ∷ ws) = ap suc (data_long ws)
  where
    data_long : (ds : List ℕ) → length (map Some (map (sending A Dat) ds)) ≡ length ds
    data_long [] = refl
    data_long (d ∷ ds) = ap suc (data_long ds)

-- the slot behind the words of a reply
words_end : (ws : List ℕ) → 0 + length (map Some (words_replied ws)) ≡ length ws
words_end ws = let long = words_long ws in omega (arith, long)

-- ---- more words and slots are seen

pub sees_word : (n c : ℕ) (reply : List ℕ) (k w : ℕ) (at : ReplyPlace) (sent : Option Sending) (old mid new : Watch Parts) → k < length reply → w ≡ get_or reply k 0
    → at.number ≡ n → at.command ≡ c → at.slot ≡ k → sent ≡ Some (word_in_slot k w)
    → Sees (placed_slots n c 0 (map Some (words_replied (take k reply)))) old mid → Sees (placed_event at Slot sent) mid new
    → Sees (placed_slots n c 0 (map Some (words_replied (take (k + 1) reply)))) old new
sees_word n c reply k w at sent old mid new low is number command slot word before one =
    subst (λ xs. Sees xs old new)
    (sym (ap (λ ws. placed_slots n c 0 (map Some (words_replied ws))) (take_more reply k 0 low ∙ ap (λ x. take k reply ++ x ∷ []) (sym is))
    ∙ ap (λ ws. placed_slots n c 0 (map Some ws)) (words_more (take k reply) w)
    ∙ ap (placed_slots n c 0) (map-append Some (words_replied (take k reply)) (word_in_slot (length (take k reply)) w ∷ []))
    ∙ slots_over n c 0 (map Some (words_replied (take k reply))) (Some (word_in_slot (length (take k reply)) w) ∷ [])
    ∙ ap (λ m. placed_slots n c 0 (map Some (words_replied (take k reply))) ++ placed_slots n c m (Some (word_in_slot (length (take k reply)) w) ∷ [])) (words_end (take k reply) ∙ long)
    ∙ ap (λ m. placed_slots n c 0 (map Some (words_replied (take k reply))) ++ placed_slots n c k (Some (word_in_slot m w) ∷ [])) long))
    (sees_more (placed_slots n c 0 (map Some (words_replied (take k reply)))) (placed_slots n c k (Some (word_in_slot k w) ∷ [])) old mid new before
    (subst (λ xs. Sees xs mid new) (λ j. record { sighting = seen_slot (word j); line = line_of_slot (number j) (slot j); command = Some (command j) } ∷ []) one))
  where
    long : length (take k reply) ≡ k
    long = length-take-le k reply (omega (arith, low))

pub sees_slot : (n c first k : ℕ) (at : ReplyPlace) (old mid new : Watch Parts) → at.number ≡ n → at.command ≡ c → at.slot ≡ first + k
    → Sees (placed_slots n c first (replicate k None)) old mid → Sees (placed_event at Slot None) mid new
    → Sees (placed_slots n c first (replicate (k + 1) None)) old new
sees_slot n c first k at old mid new number command place before one =
    subst (λ xs. Sees xs old new)
    (sym (ap (placed_slots n c first) (replicate_next k None)
    ∙ slots_over n c first (replicate k None) (None ∷ [])
    ∙ ap (λ m. placed_slots n c first (replicate k None) ++ placed_slots n c (first + m) (None ∷ [])) (length-replicate k None)))
    (sees_more (placed_slots n c first (replicate k None)) (placed_slots n c (first + k) (None ∷ [])) old mid new before
    (subst (λ xs. Sees xs mid new) (λ j. record { sighting = seen_slot None; line = line_of_slot (number j) (place j); command = Some (command j) } ∷ []) one))

-- ---- an exchange

events_placed : (at : ReplyPlace) (n c : ℕ) (ds : List ℕ) → at.number ≡ n → at.command ≡ c → at.slot ≡ 0
    → flat_map (λ e. placed_event at e None) (words_then ds (Gap A ∷ [])) ≡ placed_events n c (words_then ds (Gap A ∷ []))
events_placed at n c [] number command slot = λ j. record { sighting = record { event = Gap A; sent = None }; line = line_of_slot (number j) (slot j); command = Some (command j) } ∷ []
events_placed at n c (d ∷ ds) number command slot =
    λ j. record { sighting = record { event = data_event d; sent = None }; line = line_of_slot (number j) (slot j); command = Some (command j) } ∷ events_placed at n c ds number command slot j

pub to_gap_placed : (at : ReplyPlace) (n : ℕ) (x : Exchange) → at.number ≡ n → at.command ≡ x.command → at.slot ≡ 0
    → flat_map (λ e. placed_event at e None) (events_to_gap x) ≡ placed_events n x.command (events_to_gap x)
to_gap_placed at n x number command slot =
    λ j. record { sighting = record { event = command_event x.command; sent = None }; line = line_of_slot (number j) (slot j); command = Some (command j) } ∷ events_placed at n x.command x.words number command slot j

pub sees_exchange : (n : ℕ) (r : Replied) (es : List PlacedSighting) (u v w z : Watch Parts) → es ≡ placed_events n r.exchange.command (events_to_gap r.exchange)
    → Sees es u v → Sees (placed_slots n r.exchange.command 0 (map Some (words_replied r.reply))) v w
    → Sees (placed_slots n r.exchange.command (length r.reply) (replicate (r.exchange.slots - length r.reply) None)) w z
    → Sees (placed_exchange n r.exchange (slots_of r)) u z
sees_exchange n r es u v w z events a b d =
    let c = r.exchange.command in
    let words = map Some (words_replied r.reply) in
    let rest = replicate (r.exchange.slots - length r.reply) None in
    subst (λ xs. Sees xs u z)
    (ap (λ xs. xs ++ (placed_slots n c 0 words ++ placed_slots n c (length r.reply) rest)) events
    ∙ ap (λ xs. placed_events n c (events_to_gap r.exchange) ++ xs) (ap (λ m. placed_slots n c 0 words ++ placed_slots n c m rest) (sym (words_end r.reply)) ∙ sym (slots_over n c 0 words rest)))
    (sees_more es (placed_slots n c 0 words ++ placed_slots n c (length r.reply) rest) u v z a
    (sees_more (placed_slots n c 0 words) (placed_slots n c (length r.reply) rest) v w z b d))
