-- What is kept of a message, after one event more of it.
use Rattle.std.proofs.Common.{◌≡◌, ℕ, zero, suc, ◌≤◌, Bool, true, false, ◌&&◌, ◌||◌, ◌==◌, nat_lt, nat_le, if◌then◌else◌, Option, Some, None, List, [], ◌∷◌, ◌++◌, length, take, drop, refl, ap, sym, ◌∙◌, arith, length-take, is_some}
use Rattle.std.proofs.lemmas.Bool.Decides.{nat_tests}
use Rattle.bus_word.specs.Command.{expected, address_of, transmits, is_mode, is_broadcast, code_of}
use Rattle.bus_legal.specs.Description.{Description}
use Rattle.terminal_rules.specs.LookBack.{latest}
use Rattle.terminal_messages.specs.declared.part.MessagePart.{MessagePart}
use Rattle.terminal_messages.specs.declared.part.MessagePart.TheVariants.{Plain, First, Second, Status, Within, Unheard}
use Rattle.terminal_messages.specs.declared.ending.Unsent.TheVariants.{ShutDown}
use Rattle.terminal_messages.specs.declared.ending.MessageEnding.TheVariants.{Open}
use Rattle.terminal_messages.specs.Told.{ToldEvent, is_second_command, is_status}
use Rattle.terminal_messages.specs.Message.{Message}
use Rattle.terminal_messages.specs.Parts.{bits_of_word, command_begun, second_of, is_none_yet, statuses_in, answering, other_terminal, is_after_gap}
use Rattle.terminal_messages.specs.Ends.{datum, end_after, end_so_far, with_gap_within, shows_gap_within, expected_words, cause_of, data_words_of}
use Rattle.terminal_messages.specs.State.{facts_of, newer, pair_with, state_after, message_state, status_answered, has_datum, lacks, pair_of, tail_pair, pair_for, other_of, most_words, words_kept}

-- the latest that answers, where an answer is chosen by a test
choice_latest : {X : Type 0} → (t : Bool) (x : X) (o : Option X) →
    (elim (if t then Some x else None) as (λ o. Option X) [ None ↦ o | Some y ↦ Some y ]) ≡ (if t then Some x else o)
choice_latest true x o = refl
choice_latest false x o = refl

pub latest_newer : {X : Type 0} → (x o : Option X) → (elim x as (λ o. Option X) [ None ↦ o | Some y ↦ Some y ]) ≡ newer x o
latest_newer None o = refl
latest_newer (Some x) o = refl

-- a message expects at most 32 words
at_most : (t : Bool) (a b : ℕ) → a ≤ 32 → b ≤ 32 → (if t then a else b) ≤ 32
at_most true a b p q = p
at_most false a b p q = q

few : (c : ℕ) → expected c ≤ 32
few c =
    at_most (transmits c) 0 _ (omega arith)
    (at_most (is_mode c) _ _ (at_most (nat_le 16 (code_of c)) 1 0 (omega arith) (omega arith)) (at_most (code_of c == 0) 32 (code_of c) (omega arith) (omega arith)))

few_of : (own : ℕ) (s : Option ℕ) (c : ℕ) → expected_words own s c ≤ 32
few_of own None c = few c
few_of own (Some s) c = by_test (address_of s == own)
  where
    by_test : (t : Bool) → (if t then 0 else expected c) ≤ 32
    by_test true = omega arith
    by_test false = few c

short_law : (ds : List ℕ) (e : ℕ) → e ≤ 32 → nat_lt (length ds) e ≡ nat_lt (length (take most_words ds)) e
short_law ds e h = rw length-take (grind (arith, nat_tests))

expected_choice : (own b c : ℕ) (t : Bool) (o : Option ℕ) → expected_words own (if t then Some b else o) c ≡ (if t then expected_words own (Some b) c else expected_words own o c)
expected_choice own b c true o = refl
expected_choice own b c false o = refl

-- the other terminals that are to answer
listed_other : (own c : ℕ) → pair_of (other_terminal own c) ≡ record { next = other_of own c; last = None }
listed_other own c = by_test ((address_of c == own) || is_broadcast c)
  where
    by_test : (t : Bool) → pair_of (if t then [] else address_of c ∷ []) ≡ record { next = if t then None else Some (address_of c); last = None }
    by_test true = refl
    by_test false = refl

pub pair_law : (own : ℕ) (s : Option ℕ) (c : ℕ) → pair_of (answering own s c) ≡ pair_for own s c
pair_law own None c = listed_other own c
pair_law own (Some s) c = by_tests ((address_of s == own) || is_broadcast s) ((address_of c == own) || is_broadcast c)
  where
    by_tests : (t u : Bool) → pair_of ((if t then [] else address_of s ∷ []) ++ (if u then [] else address_of c ∷ []))
        ≡ pair_with (if t then None else Some (address_of s)) (if u then None else Some (address_of c))
    by_tests true true = refl
    by_tests true false = refl
    by_tests false true = refl
    by_tests false false = refl

-- at most two answer
data Short : List ℕ → Type 0 where
  none : Short []
  one : (a : ℕ) → Short (a ∷ [])
  two : (a b : ℕ) → Short (a ∷ b ∷ [])

short_answering : (own : ℕ) (s : Option ℕ) (c : ℕ) → Short (answering own s c)
short_answering own None c = by_test ((address_of c == own) || is_broadcast c)
  where
    by_test : (t : Bool) → Short (if t then [] else address_of c ∷ [])
    by_test true = none
    by_test false = one (address_of c)
short_answering own (Some s) c = by_tests ((address_of s == own) || is_broadcast s) ((address_of c == own) || is_broadcast c)
  where
    by_tests : (t u : Bool) → Short ((if t then [] else address_of s ∷ []) ++ (if u then [] else address_of c ∷ []))
    by_tests true true = none
    by_tests true false = one (address_of c)
    by_tests false true = one (address_of s)
    by_tests false false = two (address_of s) (address_of c)

drop_none : (k : ℕ) → drop k [] ≡ (let n : List ℕ = [] in n)
drop_none zero = refl
drop_none (suc k) = refl

tail_law : (l : List ℕ) (k : ℕ) → Short l → pair_of (drop (suc k) l) ≡ tail_pair (pair_of (drop k l))
tail_law l zero none = refl
tail_law l (suc k) none = refl
tail_law l zero (one a) = refl
tail_law l (suc k) (one a) = ap (λ l. tail_pair (pair_of l)) (sym (drop_none k))
tail_law l zero (two a b) = refl
tail_law l (suc zero) (two a b) = refl
tail_law l (suc (suc k)) (two a b) = ap (λ l. tail_pair (pair_of l)) (sym (drop_none k))

to_answer_law : (P : Description) (t : ToldEvent) (later : List ToldEvent) (p : MessagePart) (o : Option ℕ) (c : ℕ) (n : ℕ) → (is_second_command p ≡ true → n ≡ 0) →
    pair_of (drop (if is_status p then suc n else n) (answering P.address (if is_second_command p then Some (bits_of_word t.noted.event) else o) c))
    ≡ (if is_second_command p then pair_for P.address (Some (bits_of_word t.noted.event)) c else if is_status p then tail_pair (pair_of (drop n (answering P.address o c))) else pair_of (drop n (answering P.address o c)))
to_answer_law P t later Plain o c n z = refl
to_answer_law P t later First o c n z = refl
to_answer_law P t later Within o c n z = refl
to_answer_law P t later Unheard o c n z = refl
to_answer_law P t later Status o c n z = tail_law (answering P.address o c) n (short_answering P.address o c)
to_answer_law P t later Second o c n z =
    (λ j. pair_of (drop (z refl j) (answering P.address (Some (bits_of_word t.noted.event)) c))) ∙ pair_law P.address (Some (bits_of_word t.noted.event)) c

no_status_yet : (later : List ToldEvent) → is_none_yet later ≡ true → statuses_in later ≡ 0
no_status_yet [] e = refl
no_status_yet (t ∷ ts) e = cc

second_step : (m : Message) (t : ToldEvent) → second_of (record m { later = t ∷ m.later }) ≡ (if is_second_command t.part then Some (bits_of_word t.noted.event) else second_of m)
second_step m t = choice_latest (is_second_command t.part) (bits_of_word t.noted.event) (second_of m)

gap_law : (P : Description) (place : ℕ → ℕ) (m : Message) (t : ToldEvent) →
    shows_gap_within P m.first t m.later ≡ (has_datum (facts_of place t) && nat_lt (length (words_kept m)) (expected_words P.address (second_of m) (command_begun m)))
gap_law P place m t =
    (λ j. is_some (datum t)
    && short_law (data_words_of m) (expected_words P.address (second_of m) (command_begun m)) (few_of P.address (second_of m) (command_begun m)) j)

pub state_law : (P : Description) (place : ℕ → ℕ) (m : Message) (t : ToldEvent) → (is_second_command t.part ≡ true → is_none_yet m.later ≡ true) →
    message_state P (record m { later = t ∷ m.later }) ≡ state_after P.address (facts_of place t) t.part (length (words_kept m)) (message_state P m)
state_law P place m t fresh = λ j. record {
  bus = m.bus;
  command = command_begun m;
  second = second_step m t j;
  status = latest_newer (status_answered t.answer) (latest (λ t. status_answered t.answer) m.later) j;
  «end» = end_after (if t.noted.starts then Open else with_gap_within (gap_law P place m t j) (end_so_far P m.first m.later)) (cause_of t m.later) t.noted.ends;
  unsent = choice_latest (lacks m.bus (facts_of place t)) ShutDown (message_state P m).unsent j;
  expected = (ap (λ o. expected_words P.address o (command_begun m)) (second_step m t) ∙ expected_choice P.address (bits_of_word t.noted.event) (command_begun m) (is_second_command t.part) (second_of m)) j;
  is_fresh = false;
  is_after_gap = is_after_gap (t ∷ m.later);
  has_invalid = (message_state P (record m { later = t ∷ m.later })).has_invalid;
  has_within = (message_state P (record m { later = t ∷ m.later })).has_within;
  to_answer = (ap (λ o. pair_of (drop (statuses_in (t ∷ m.later)) (answering P.address o (command_begun m)))) (second_step m t)
      ∙ to_answer_law P t m.later t.part (second_of m) (command_begun m) (statuses_in m.later) (λ s. no_status_yet m.later (fresh s))) j;
}
