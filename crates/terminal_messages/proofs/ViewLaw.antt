-- The messages on the buses as they are kept, after one event more.
use Rattle.std.proofs.Common.{◌≡◌, ℕ, zero, suc, ◌+◌, nat_lt, Bool, true, false, not, ◌&&◌, ◌||◌, ◌==◌, if◌then◌else◌, Option, Some, None, List, [], ◌∷◌, ◌++◌, map, length, take, bit_and, refl, ap, sym, ◌∙◌, arith, length-append, length-take}
use Rattle.std.proofs.lemmas.Bool.Decides.{nat_tests}
use Rattle.std.specs.Option.{option_map}
use Rattle.bus_word.specs.declared.word.Bus.{Bus}
use Rattle.bus_word.specs.declared.word.Bus.TheVariants.{A, B}
use Rattle.bus_word.specs.declared.word.Raw.{Raw}
use Rattle.bus_word.specs.Word.{is_command}
use Rattle.bus_word.specs.Command.{address_of}
use Rattle.bus_legal.specs.Description.{Description}
use Rattle.terminal_rules.specs.declared.event.Event.{Event}
use Rattle.terminal_rules.specs.declared.event.Event.TheVariants.{Word, Noise, Gap, Write, Vector, Bit, Flag as FlagIs, Slot}
use Rattle.terminal_rules.specs.Buses.{same_bus}
use Rattle.terminal_rules.specs.History.{is_ignored}
use Rattle.terminal_rules.specs.Open.{is_on}
use Rattle.terminal_rules.specs.Starts.{is_for_terminal}
use Rattle.terminal_rules.specs.Past.{past}
use Rattle.terminal_rules.specs.LookBack.{latest}
use Rattle.terminal_messages.specs.declared.part.MessagePart.{MessagePart}
use Rattle.terminal_messages.specs.declared.part.MessagePart.TheVariants.{Plain, First, Second, Status, Within, Unheard}
use Rattle.terminal_messages.specs.Told.{ToldEvent, is_first_command, is_second_command, is_unheard, begins_message, begun_in, begins_on, closes, belongs_on}
use Rattle.terminal_messages.specs.Message.{Message, message_on_bus}
use Rattle.terminal_messages.specs.Parts.{told, tell, is_none_yet, answers_next, is_after_gap, to_answer, takes_second, takes_status, part_of_command, is_transmitter_for, command_begun}
use Rattle.terminal_messages.specs.Messages.{closed_with, closed_on, alone, alone_on}
use Rattle.terminal_messages.specs.Ends.{datum, data_words_of, handed_by}
use Rattle.terminal_messages.specs.State.{facts_of, first_end, begun_state, is_next_in, pair_of, words_kept, most_words, left_out, in_u64}
use Rattle.terminal_messages.specs.View.{View, view_of, told_view, second_by, status_by_view, part_of_kept, part_by, with_datum, left_after, next_number, number_after, added_view, begun_view_of, begun_view, message_after, closed_view, closed_after, alone_on_bus, alone_after, view_listed}
use Rattle.terminal_messages.proofs.StepLaw.{with_later, begun_with, after_by, message_law}
use Rattle.terminal_messages.proofs.StateLaw.{state_law, latest_newer, pair_law}

abbrev pub view_at : Description → (ℕ → ℕ) → List ToldEvent → Bus → Option View
view_at P place h b = option_map (view_of P place) (message_on_bus h b)

abbrev pub t_of : Description → List Event → Event → ToldEvent
t_of P h e = told P (past P h) (tell P h) e

-- the part of an event, from what is kept
second_law : (P : Description) (place : ℕ → ℕ) (c : ℕ) (m : Option Message) → takes_second c m ≡ second_by c (option_map (view_of P place) m)
second_law P place c None = refl
second_law P place c (Some m) = refl

next_law : (a : ℕ) (l : List ℕ) → answers_next a l ≡ is_next_in a (pair_of l).next
next_law a [] = refl
next_law a (x ∷ []) = refl
next_law a (x ∷ y ∷ more) = refl

status_law : (P : Description) (place : ℕ → ℕ) (c : ℕ) (m : Option Message) → takes_status P c m ≡ status_by_view c (option_map (view_of P place) m)
status_law P place c None = refl
status_law P place c (Some m) = ap (λ x. is_after_gap m.later && (x && (bit_and c 0x02e0 == 0))) (next_law (address_of c) (to_answer P m))

command_law : (P : Description) (place : ℕ → ℕ) (c : ℕ) (i s e a : Bool) (m : Option Message) → part_of_command P c i s e a m ≡ part_of_kept c i s e a (option_map (view_of P place) m)
command_law P place c i s e a m =
    λ j. if i then Unheard
    else if second_law P place c m j then Second
    else if s then First
    else if e then (if a then Status else Within)
    else if status_law P place c m j then Status
    else First

pub part_law : (P : Description) (place : ℕ → ℕ) (h : List Event) (e : Event) →
    (t_of P h e).part ≡ part_by e (facts_of place (t_of P h e)) (is_ignored (t_of P h e).noted.turn) (view_at P place (tell P h))
part_law P place h (Word b w) =
    ap (λ p. if is_command w then p else Plain)
    (command_law P place w.bits (is_ignored (t_of P h (Word b w)).noted.turn) (t_of P h (Word b w)).noted.starts ((t_of P h (Word b w)).engaged b) (t_of P h (Word b w)).awaits (message_on_bus (tell P h) b))
part_law P place h (Noise b) = refl
part_law P place h (Gap b) = refl
part_law P place h (Write q v) = refl
part_law P place h (Vector v) = refl
part_law P place h (Bit v) = refl
part_law P place h (FlagIs f v) = refl
part_law P place h Slot = refl

-- the second command of a transfer comes where nothing followed the first
and_left : (x y : Bool) → (x && y) ≡ true → x ≡ true
and_left true y e = refl
and_left false y e = cc

taken_fresh : (c : ℕ) (m : Option Message) (n : Message) → m ≡ Some n → takes_second c m ≡ true → is_none_yet n.later ≡ true
taken_fresh c None n e k = cc
taken_fresh c (Some m) n e k =
    let same : m ≡ n = ap (λ (o : Option Message). elim o as (λ o. Message) [ None ↦ m | Some x ↦ x ]) e in
    ap (λ (x : Message). is_none_yet x.later) (sym same) ∙ and_left (is_none_yet m.later) (is_transmitter_for (command_begun m) c) k

second_taken : (P : Description) (c : ℕ) (i s e a k : Bool) (m : Option Message) → takes_second c m ≡ k → is_second_command (part_of_command P c i s e a m) ≡ true → takes_second c m ≡ true
second_taken P c i s e a true m k p = k
second_taken P c true s e a false m k p = cc
second_taken P c false s e a false m k p =
    let is : is_second_command (if s then First else if e then (if a then Status else Within) else if takes_status P c m then Status else First) ≡ true = sym (ap (λ x. is_second_command (if x then Second else if s then First else if e then (if a then Status else Within) else if takes_status P c m then Status else First)) k) ∙ p in
    absurd (never s e a (takes_status P c m) is)
  where
    never : (s e a k : Bool) → is_second_command (if s then First else if e then (if a then Status else Within) else if k then Status else First) ≡ true → ⊥
    never true e a k x = cc
    never false true true k x = cc
    never false true false k x = cc
    never false false a true x = cc
    never false false a false x = cc

pub second_word : (P : Description) (c : ℕ) (v i s e a : Bool) (m : Option Message) → is_second_command (if v then part_of_command P c i s e a m else Plain) ≡ true → takes_second c m ≡ true
second_word P c false i s e a m p = cc
second_word P c true i s e a m p = second_taken P c i s e a (takes_second c m) m refl p

pub on_same : (b c : Bus) (i : Bool) → (i && (same_bus b c || false)) ≡ true → b ≡ c
on_same A A i e = refl
on_same B B i e = refl
on_same A B true e = cc
on_same A B false e = cc
on_same B A true e = cc
on_same B A false e = cc

pub second_fresh : (P : Description) (h : List Event) (e : Event) (b : Bus) (m : Message) → message_on_bus (tell P h) b ≡ Some m → belongs_on b (t_of P h e) ≡ true →
    is_second_command (t_of P h e).part ≡ true → is_none_yet m.later ≡ true
second_fresh P h (Word c w) b m is n p =
    let same : b ≡ c = on_same b c (not (is_ignored (t_of P h (Word c w)).noted.turn)) n in
    taken_fresh w.bits (message_on_bus (tell P h) c) m (sym (ap (message_on_bus (tell P h)) same) ∙ is)
    (second_word P w.bits (is_command w) (is_ignored (t_of P h (Word c w)).noted.turn) (t_of P h (Word c w)).noted.starts ((t_of P h (Word c w)).engaged c) (t_of P h (Word c w)).awaits (message_on_bus (tell P h) c) p)
second_fresh P h (Noise c) b m is n p = cc
second_fresh P h (Gap c) b m is n p = cc
second_fresh P h (Write q v) b m is n p = cc
second_fresh P h (Vector v) b m is n p = cc
second_fresh P h (Bit v) b m is n p = cc
second_fresh P h (FlagIs f v) b m is n p = cc
second_fresh P h Slot b m is n p = cc

-- the data words that are kept
take_again : (n : ℕ) (xs ys : List ℕ) → take n (xs ++ ys) ≡ take n (take n xs ++ ys)
take_again zero xs ys = refl
take_again (suc n) [] ys = refl
take_again (suc n) (x ∷ xs) ys = ap (λ l. x ∷ l) (take_again n xs ys)

words_by : (ds : List ℕ) (o : Option ℕ) → take most_words (elim o as (λ o. List ℕ) [ None ↦ ds | Some d ↦ ds ++ d ∷ [] ]) ≡ with_datum (take most_words ds) o
words_by ds None = refl
words_by ds (Some d) = take_again most_words ds (d ∷ [])

words_law : (m : Message) (t : ToldEvent) → words_kept (record m { later = t ∷ m.later }) ≡ with_datum (words_kept m) (datum t)
words_law m t = words_by (data_words_of m) (datum t)

-- how many more there are
more_kept : (ds : List ℕ) (d : ℕ) → left_out (ds ++ d ∷ []) ≡ (if nat_lt (length (take most_words ds)) most_words then left_out ds else in_u64 (left_out ds + 1))
more_kept ds d = rw (length-append ds (d ∷ []), length-take) (grind (arith, nat_tests))

left_by : (ds : List ℕ) (o : Option ℕ) → left_out (elim o as (λ o. List ℕ) [ None ↦ ds | Some d ↦ ds ++ d ∷ [] ]) ≡ left_after (take most_words ds) (left_out ds) o
left_by ds None = refl
left_by ds (Some d) = more_kept ds d

-- a message with one event more
added_law : (P : Description) (place : ℕ → ℕ) (h : List Event) (e : Event) (b : Bus) (m : Option Message) → message_on_bus (tell P h) b ≡ m → belongs_on b (t_of P h e) ≡ true →
    option_map (view_of P place) (with_later (t_of P h e) m) ≡ option_map (added_view P.address (facts_of place (t_of P h e)) (t_of P h e).part) (option_map (view_of P place) m)
added_law P place h e b None is n = refl
added_law P place h e b (Some m) is n =
    λ j. Some (record (view_of P place m) {
      state = state_law P place m (t_of P h e) (second_fresh P h e b m is n) j;
      words = words_law m (t_of P h e) j;
      left_out = left_by (data_words_of m) (datum (t_of P h e)) j;
      handed = latest_newer (handed_by (t_of P h e)) (latest handed_by m.later) j;
    })

-- a message of one command
first_not_unheard : (p : MessagePart) → is_first_command p ≡ true → is_unheard p ≡ false
first_not_unheard Plain e = refl
first_not_unheard First e = refl
first_not_unheard Second e = refl
first_not_unheard Status e = refl
first_not_unheard Within e = refl
first_not_unheard Unheard e = cc

-- its number
next_saturated : (k : ℕ) → in_u64 (suc k) ≡ next_number (in_u64 k)
next_saturated k = omega arith

or_true : (b : Bool) → (b || true) ≡ true
or_true true = refl
or_true false = refl

abbrev pub number_next : (P : Description) (h : List Event) → ℕ
number_next P h = next_number (in_u64 (begun_in (tell P h)))

pub number_law : (P : Description) (h : List Event) (e : Event) → in_u64 (t_of P h e).begun ≡ number_after (t_of P h e).part (in_u64 (begun_in (tell P h)))
number_law P h e = by_test (begins_message (t_of P h e).part)
  where
    by_test : (b : Bool) → in_u64 (if b then suc (begun_in (tell P h)) else begun_in (tell P h)) ≡ (if b then number_next P h else in_u64 (begun_in (tell P h)))
    by_test true = next_saturated (begun_in (tell P h))
    by_test false = refl

number_begun : (P : Description) (h : List Event) (e : Event) → begins_message (t_of P h e).part ≡ true → in_u64 (t_of P h e).begun ≡ number_next P h
number_begun P h e b = number_law P h e ∙ ap (λ (b : Bool). if b then number_next P h else in_u64 (begun_in (tell P h))) b

begun_view_law : (P : Description) (place : ℕ → ℕ) (h : List Event) (b c : Bus) (w : Raw) (u : Bool) → is_unheard (t_of P h (Word c w)).part ≡ u → begins_message (t_of P h (Word c w)).part ≡ true →
    Some (view_of P place (begun_with b (t_of P h (Word c w)))) ≡ begun_view_of P.address P.broadcast b (Word c w) (t_of P h (Word c w)).noted.starts u (number_next P h) (place (t_of P h (Word c w)).index)
begun_view_law P place h b c w u e begun =
    λ j. Some (record {
      state = record (begun_state P.address P.broadcast b w (t_of P h (Word c w)).noted.starts u) {
        «end» = first_end (t_of P h (Word c w)).noted.starts (is_for_terminal P w) (e j);
        to_answer = pair_law P.address None w.bits j;
      };
      words = [];
      left_out = 0;
      handed = None;
      number = number_begun P h (Word c w) begun j;
      place = place (t_of P h (Word c w)).index;
    })

begun_law : (P : Description) (place : ℕ → ℕ) (h : List Event) (e : Event) (b : Bus) → begins_on b (t_of P h e) ≡ true →
    Some (view_of P place (begun_with b (t_of P h e))) ≡ begun_view P.address P.broadcast b (facts_of place (t_of P h e)) false (number_next P h)
begun_law P place h (Word c w) b k =
    let first : is_first_command (t_of P h (Word c w)).part ≡ true = and_left (is_first_command (t_of P h (Word c w)).part) (is_on b (Some c)) k in
    begun_view_law P place h b c w false (first_not_unheard (t_of P h (Word c w)).part first) (ap (λ x. x || is_unheard (t_of P h (Word c w)).part) first)
begun_law P place h (Noise c) b k = cc
begun_law P place h (Gap c) b k = cc
begun_law P place h (Write q v) b k = cc
begun_law P place h (Vector v) b k = cc
begun_law P place h (Bit v) b k = cc
begun_law P place h (FlagIs f v) b k = cc
begun_law P place h Slot b k = cc

-- the message on a bus
kept_by : (P : Description) (place : ℕ → ℕ) (h : List Event) (e : Event) (b : Bus) (c k n : Bool) → begins_on b (t_of P h e) ≡ k → belongs_on b (t_of P h e) ≡ n →
    option_map (view_of P place) (after_by b (t_of P h e) c k n (message_on_bus (tell P h) b))
    ≡ (if c then (if k then begun_view P.address P.broadcast b (facts_of place (t_of P h e)) false (number_next P h) else None)
    else if n then option_map (added_view P.address (facts_of place (t_of P h e)) (t_of P h e).part) (view_at P place (tell P h) b) else view_at P place (tell P h) b)
kept_by P place h e b true true n k' n' = begun_law P place h e b k'
kept_by P place h e b true false n k' n' = refl
kept_by P place h e b false k true k' n' = added_law P place h e b (message_on_bus (tell P h) b) refl n'
kept_by P place h e b false k false k' n' = refl

pub kept_law : (P : Description) (place : ℕ → ℕ) (h : List Event) (e : Event) (b : Bus) →
    view_at P place (tell P (e ∷ h)) b
    ≡ message_after P.address P.broadcast b (facts_of place (t_of P h e)) (t_of P h e).part (is_ignored (t_of P h e).noted.turn) (number_next P h) (view_at P place (tell P h) b)
kept_law P place h e b =
    let t : ToldEvent = t_of P h e in
    ap (option_map (view_of P place)) (message_law b t (tell P h)) ∙ kept_by P place h e b (closes b t) (begins_on b t) (belongs_on b t) refl refl

-- the message that is over
pub closed_law : (P : Description) (place : ℕ → ℕ) (h : List ToldEvent) (t : ToldEvent) (b : Bus) → option_map (told_view P place) (closed_on h t b) ≡ closed_after b (facts_of place t) t.part (view_at P place h b)
closed_law P place h t b = by_tests (closes b t) (message_on_bus h b)
  where
    by_tests : (c : Bool) (m : Option Message) → option_map (told_view P place) (if c then closed_with t m else None) ≡ (if c then option_map (closed_view (facts_of place t)) (option_map (view_of P place) m) else None)
    by_tests true None = refl
    by_tests true (Some m) = refl
    by_tests false m = refl

-- a command that is not heard
pub alone_law : (P : Description) (place : ℕ → ℕ) (h : List Event) (e : Event) →
    map (told_view P place) (alone (t_of P h e)) ≡ view_listed (alone_after P.address P.broadcast (facts_of place (t_of P h e)) (t_of P h e).part (number_next P h))
alone_law P place h (Word c w) = by_test (is_unheard (t_of P h (Word c w)).part) refl
  where
    by_test : (u : Bool) → is_unheard (t_of P h (Word c w)).part ≡ u →
        map (told_view P place) (if u then alone_on (Some c) (t_of P h (Word c w)) else [])
        ≡ view_listed (if u then alone_on_bus P.address P.broadcast (Some c) (facts_of place (t_of P h (Word c w))) (number_next P h) else None)
    by_test true u = ap view_listed (begun_view_law P place h c c w true u (ap (λ x. is_first_command (t_of P h (Word c w)).part || x) u ∙ or_true (is_first_command (t_of P h (Word c w)).part)))
    by_test false u = refl
alone_law P place h (Noise c) = refl
alone_law P place h (Gap c) = refl
alone_law P place h (Write q v) = refl
alone_law P place h (Vector v) = refl
alone_law P place h (Bit v) = refl
alone_law P place h (FlagIs f v) = refl
alone_law P place h Slot = refl
