-- Where a sighting of results stands: in a slot of an exchange, if nothing explains it.
use Rattle.std.proofs.Common.{◌≡◌, ◌∙◌, ℕ, suc, ◌+◌, ◌≤◌, ◌⊎◌, inl, inr, ◌↔◌, false, if◌then◌else◌, Option, Some, None, List, [], ◌∷◌, ◌++◌, length, map, refl, sym, ap, subst, append_assoc, append-nil, arith}
use Rattle.std.proofs.lemmas.List.{map-append}
use Rattle.bus_word.specs.declared.word.Bus.TheVariants.{A}
use Rattle.bus_legal.specs.Description.{Description}
use Rattle.bus_legal.specs.Reach.{reach}
use Rattle.terminal_rules.specs.declared.event.Event.{Event}
use Rattle.terminal_rules.specs.declared.event.Event.TheVariants.{Gap}
use Rattle.terminal_rules.specs.Past.{history_after}
use Rattle.terminal_rules.specs.Reply.{is_slot}
use Rattle.terminal_rules.proofs.Reach.Same.{out-reach}
use Rattle.terminal_rules.specs.Out.{Sending, out, sent_in}
use Rattle.terminal_exchanges.specs.Exchanges.{Exchange, words_then}
use Rattle.terminal_recordings.specs.Recordings.{Sighting, IsSighting, seen_then, sightings_from, IsExplained}
use Rattle.terminal_recordings.proofs.Follows.{unsent}
use Rattle.terminal_recordings.proofs.Law.{proper_join}
use Rattle.terminal_recordings.proofs.Told.{sightings_more}
use Rattle.recorded_terminal.specs.declared.watch.Marked.{Marked}
use Rattle.recorded_terminal.specs.Marks.{plainly}
use Rattle.rt1553_results.specs.Recorded.{Replied, slots_of, seen_silent, seen_slot, events_to_gap, exchange_seen, recorded_replies}
use Rattle.rt1553_results.specs.inner.Placed.{PlacedSighting, placed_in, line_of_slot, placed_slots, placed_events, placed_exchange, placed_from}

-- ---- what is seen, without its places

abbrev pub seen_of : List PlacedSighting → List Sighting
seen_of = map (λ p. p.sighting)

pub seen_marked : (ms : List Marked) → plainly ms ≡ seen_of (map placed_in ms)
seen_marked [] = refl
seen_marked (m ∷ ms) = ap (λ xs. (placed_in m).sighting ∷ xs) (seen_marked ms)

seen_events : (n c : ℕ) (es : List Event) → seen_of (placed_events n c es) ≡ map seen_silent es
seen_events n c [] = refl
seen_events n c (e ∷ es) = ap (λ xs. seen_silent e ∷ xs) (seen_events n c es)

seen_slots : (n c k : ℕ) (slots : List (Option Sending)) → seen_of (placed_slots n c k slots) ≡ map seen_slot slots
seen_slots n c k [] = refl
seen_slots n c k (s ∷ slots) = ap (λ xs. seen_slot s ∷ xs) (seen_slots n c (suc k) slots)

seen_exchange : (n : ℕ) (x : Exchange) (slots : List (Option Sending)) → seen_of (placed_exchange n x slots) ≡ exchange_seen x slots
seen_exchange n x slots =
    map-append (λ (p : PlacedSighting). p.sighting) (placed_events n x.command (events_to_gap x)) (placed_slots n x.command 0 slots)
    ∙ (λ j. seen_events n x.command (events_to_gap x) j ++ seen_slots n x.command 0 slots j)

pub seen_from : (n : ℕ) (rs : List Replied) → seen_of (placed_from n rs) ≡ recorded_replies rs
seen_from n [] = refl
seen_from n (r ∷ rs) =
    map-append (λ (p : PlacedSighting). p.sighting) (placed_exchange n r.exchange (slots_of r)) (placed_from (n + 1) rs)
    ∙ (λ j. seen_exchange n r.exchange (slots_of r) j ++ seen_from (n + 1) rs j)

-- ---- one of two lists has the place

abbrev Parts : List PlacedSighting → List PlacedSighting → List PlacedSighting → PlacedSighting → List PlacedSighting → Type 0
Parts xs ys front p later =
    ((rest : List PlacedSighting) × (xs ≡ front ++ p ∷ rest) × (later ≡ rest ++ ys))
    ⊎ ((mid : List PlacedSighting) × (front ≡ xs ++ mid) × (ys ≡ mid ++ p ∷ later))

part : (xs ys front : List PlacedSighting) (p : PlacedSighting) (later : List PlacedSighting) → xs ++ ys ≡ front ++ p ∷ later → Parts xs ys front p later
part [] ys front p later e = inr (front, refl, e)
part (x ∷ xs) ys [] p later e =
    let head : x ≡ p = cc in
    let tail : xs ++ ys ≡ later = cc in
    inl (xs, (λ j. head j ∷ xs), sym tail)
part (x ∷ xs) ys (f ∷ front) p later e =
    let head : x ≡ f = cc in
    let tail : xs ++ ys ≡ front ++ p ∷ later = cc in
    more head (part xs ys front p later tail)
  where
    more : x ≡ f → Parts xs ys front p later → Parts (x ∷ xs) ys (f ∷ front) p later
    more head (inl (rest, is, over)) = inl (rest, (λ j. head j ∷ is j), over)
    more head (inr (mid, is, over)) = inr (mid, (λ j. sym head j ∷ is j), over)

abbrev at_slot : ℕ → ℕ → ℕ → Option Sending → PlacedSighting
at_slot n c k s = record { sighting = seen_slot s; line = line_of_slot n k; command = Some c }

abbrev at_start : ℕ → ℕ → Event → PlacedSighting
at_start n c e = record { sighting = seen_silent e; line = line_of_slot n 0; command = Some c }

-- in a slot
record InSlots (n c k : ℕ) (slots : List (Option Sending)) (front : List PlacedSighting) (p : PlacedSighting) : Type 0 where
  sent : List (Option Sending)
  seen : Option Sending
  left : List (Option Sending)
  all : slots ≡ sent ++ seen ∷ left
  front_is : front ≡ placed_slots n c k sent
  is : p ≡ record { sighting = seen_slot seen; line = line_of_slot n (k + length sent); command = Some c }

in_slots : (n c k : ℕ) (slots : List (Option Sending)) (front : List PlacedSighting) (p : PlacedSighting) (later : List PlacedSighting) → placed_slots n c k slots ≡ front ++ p ∷ later → InSlots n c k slots front p
in_slots n c k [] [] p later e = absurd (cc)
in_slots n c k [] (f ∷ front) p later e = absurd (cc)
in_slots n c k (s ∷ slots) [] p later e =
    let first : at_slot n c k s ≡ p = cc in
    let same : k ≡ k + 0 = omega arith in
    record {
      sent = [];
      seen = s;
      left = slots;
      all = refl;
      front_is = refl;
      is = sym first ∙ (λ j. record { sighting = seen_slot s; line = line_of_slot n (same j); command = Some c });
    }
in_slots n c k (s ∷ slots) (f ∷ front) p later e = more (cc) (in_slots n c (suc k) slots front p later cc)
  where
    more : at_slot n c k s ≡ f → InSlots n c (suc k) slots front p → InSlots n c k (s ∷ slots) (f ∷ front) p
    more first i = (
        let same : suc k + length i.sent ≡ k + suc (length i.sent) = omega arith in
        record {
          sent = s ∷ i.sent;
          seen = i.seen;
          left = i.left;
          all = ap (λ xs. s ∷ xs) i.all;
          front_is = λ j. sym first j ∷ i.front_is j;
          is = i.is ∙ (λ j. record { sighting = seen_slot i.seen; line = line_of_slot n (same j); command = Some c });
        })

-- nothing is sent, and the event is no slot
abbrev pub IsQuiet : PlacedSighting → Type 0
IsQuiet p = (p.sighting.sent ≡ None) × (is_slot p.sighting.event ≡ false)

abbrev AreQuiet : List Event → Type 0
AreQuiet [] = Unit {0}
AreQuiet (e ∷ es) = (is_slot e ≡ false) × AreQuiet es

words_quiet : (ds : List ℕ) → AreQuiet (words_then ds (Gap A ∷ []))
words_quiet [] = (refl, tt)
words_quiet (d ∷ ds) = (refl, words_quiet ds)

in_events : (n c : ℕ) (es : List Event) (front : List PlacedSighting) (p : PlacedSighting) (later : List PlacedSighting) → AreQuiet es → placed_events n c es ≡ front ++ p ∷ later → IsQuiet p
in_events n c [] [] p later q e = absurd (cc)
in_events n c [] (f ∷ front) p later q e = absurd (cc)
in_events n c (x ∷ es) [] p later q e =
    let first : at_start n c x ≡ p = cc in
    subst IsQuiet first (refl, q.0)
in_events n c (x ∷ es) (f ∷ front) p later q e = in_events n c es front p later q.1 cc

-- in a slot of one of some exchanges, of which the first has number n
pub record InReply (n : ℕ) (rs : List Replied) (front : List PlacedSighting) (p : PlacedSighting) : Type 0 where
  pub before : List Replied
  pub replied : Replied
  pub later : List Replied
  pub all : rs ≡ before ++ replied ∷ later
  pub sent : List (Option Sending)
  pub seen : Option Sending
  pub left : List (Option Sending)
  pub slots : slots_of replied ≡ sent ++ seen ∷ left
  pub front_is : seen_of front ≡ recorded_replies before ++ exchange_seen replied.exchange sent
  pub is : p ≡ record { sighting = seen_slot seen; line = line_of_slot (n + length before) (length sent); command = Some replied.exchange.command }

in_exchange : (n : ℕ) (r : Replied) (rs : List Replied) (front : List PlacedSighting) (p : PlacedSighting) (rest : List PlacedSighting) → placed_exchange n r.exchange (slots_of r) ≡ front ++ p ∷ rest → IsQuiet p ⊎ InReply n (r ∷ rs) front p
in_exchange n r rs front p rest e = by_part (part (placed_events n x.command (events_to_gap x)) (placed_slots n x.command 0 (slots_of r)) front p rest e)
  where
    x : Exchange
    x = r.exchange

    found : (mid : List PlacedSighting) → front ≡ placed_events n x.command (events_to_gap x) ++ mid → InSlots n x.command 0 (slots_of r) mid p → InReply n (r ∷ rs) front p
    found mid split i = (
        let here : n ≡ n + 0 = omega arith in
        let first : 0 + length i.sent ≡ length i.sent = omega arith in
        record {
          before = [];
          replied = r;
          later = rs;
          all = refl;
          sent = i.sent;
          seen = i.seen;
          left = i.left;
          slots = i.all;
          front_is = ap seen_of (split ∙ ap (λ xs. placed_events n x.command (events_to_gap x) ++ xs) i.front_is) ∙ seen_exchange n x i.sent;
          is = i.is ∙ (λ j. record { sighting = seen_slot i.seen; line = line_of_slot (here j) (first j); command = Some x.command });
        })

    by_part : Parts (placed_events n x.command (events_to_gap x)) (placed_slots n x.command 0 (slots_of r)) front p rest → IsQuiet p ⊎ InReply n (r ∷ rs) front p
    by_part (inl (rest', is, over)) = inl (in_events n x.command (events_to_gap x) front p rest' (refl, words_quiet x.words) is)
    by_part (inr (mid, split, is)) = inr (found mid split (in_slots n x.command 0 (slots_of r) mid p rest is))

pub in_replies : (n : ℕ) (rs : List Replied) (front : List PlacedSighting) (p : PlacedSighting) (later : List PlacedSighting) → placed_from n rs ≡ front ++ p ∷ later → IsQuiet p ⊎ InReply n rs front p
in_replies n [] [] p later e = absurd (cc)
in_replies n [] (f ∷ front) p later e = absurd (cc)
in_replies n (r ∷ rs) front p later e = by_part (part (placed_exchange n r.exchange (slots_of r)) (placed_from (n + 1) rs) front p later e) (λ mid is. in_replies (n + 1) rs mid p later is)
  where
    further : (mid : List PlacedSighting) → front ≡ placed_exchange n r.exchange (slots_of r) ++ mid → IsQuiet p ⊎ InReply (n + 1) rs mid p → IsQuiet p ⊎ InReply n (r ∷ rs) front p
    further mid split (inl quiet) = inl quiet
    further mid split (inr i) = (
        let here : n + 1 + length i.before ≡ n + suc (length i.before) = omega arith in
        inr (record {
          before = r ∷ i.before;
          replied = i.replied;
          later = i.later;
          all = ap (λ xs. r ∷ xs) i.all;
          sent = i.sent;
          seen = i.seen;
          left = i.left;
          slots = i.slots;
          front_is =
              ap seen_of split
              ∙ map-append (λ (q : PlacedSighting). q.sighting) (placed_exchange n r.exchange (slots_of r)) mid
              ∙ (λ j. seen_exchange n r.exchange (slots_of r) j ++ i.front_is j)
              ∙ sym (append_assoc (exchange_seen r.exchange (slots_of r)) (recorded_replies i.before) (exchange_seen i.replied.exchange i.sent));
          is = i.is ∙ (λ j. record { sighting = seen_slot i.seen; line = line_of_slot (here j) (length i.sent); command = Some i.replied.exchange.command });
        }))

    by_part : Parts (placed_exchange n r.exchange (slots_of r)) (placed_from (n + 1) rs) front p later
        → ((mid : List PlacedSighting) → placed_from (n + 1) rs ≡ mid ++ p ∷ later → IsQuiet p ⊎ InReply (n + 1) rs mid p) → IsQuiet p ⊎ InReply n (r ∷ rs) front p
    by_part (inl (rest, is, over)) next = in_exchange n r rs front p rest is
    by_part (inr (mid, split, is)) next = further mid split (next mid is)

-- ---- what is explained

-- what is explained is so with a sighting more, of an event in which no word can come
pub explained_quiet : (P : Description) (xs : List Sighting) (s : Sighting) → IsSighting s → s.sent ≡ None → is_slot s.event ≡ false → IsExplained P xs → IsExplained P (xs ++ s ∷ [])
explained_quiet P xs s is silent quiet (es, proper, seen) = (
  es ++ s.event ∷ [],
  proper_join es (s.event ∷ []) proper (is.proper, tt),
  sightings_more P es [] (s.event ∷ []) ∙ (λ j. seen j ++ one j),
)
  where
    one : sightings_from P (history_after es []) (s.event ∷ []) ≡ s ∷ []
    one =
        ap (λ b. if b then record { event = s.event; sent = sent_in (out P (history_after es []) s.event) } ∷ [] else []) is.seen
        ∙ (λ j. record { event = s.event; sent = (unsent P (history_after es []) s.event quiet ∙ sym silent) j } ∷ [])

sightings_alike : (P Q : Description) → ((h : List Event) (e : Event) → out P h e ≡ out Q h e) → (h es : List Event) → sightings_from P h es ≡ sightings_from Q h es
sightings_alike P Q alike h [] = refl
sightings_alike P Q alike h (e ∷ es) = λ j. seen_then e (alike h e j) (sightings_alike P Q alike (e ∷ h) es j)

-- by what can be reached of a description just what it explains itself is explained
pub explained_reached : (D P : Description) → D.address ≤ 30 → D ≡ reach P → (xs : List Sighting) → IsExplained D xs ↔ IsExplained P xs
explained_reached D P small reached xs = (
  λ x. (x.0, x.1, sym (sightings_alike D P alike [] x.0) ∙ x.2),
  λ x. (x.0, x.1, sightings_alike D P alike [] x.0 ∙ x.2),
)
  where
    own : P.address ≤ 30
    own = subst (λ n. n ≤ 30) (ap (λ D. D.address) reached) small

    alike : (h : List Event) (e : Event) → out D h e ≡ out P h e
    alike h e = ap (λ D. out D h e) reached ∙ out-reach P h e own

-- one slot more
pub exchange_more : (x : Exchange) (sent : List (Option Sending)) (s : Option Sending) → exchange_seen x (sent ++ s ∷ []) ≡ exchange_seen x sent ++ seen_slot s ∷ []
exchange_more x sent s =
    ap (λ xs. map seen_silent (events_to_gap x) ++ xs) (map-append seen_slot sent (s ∷ []))
    ∙ sym (append_assoc (map seen_silent (events_to_gap x)) (map seen_slot sent) (seen_slot s ∷ []))

-- one exchange more
pub placed_more : (n : ℕ) (rs : List Replied) (r : Replied) → placed_from n (rs ++ r ∷ []) ≡ placed_from n rs ++ placed_exchange (n + length rs) r.exchange (slots_of r)
placed_more n [] r =
    let here : n ≡ n + 0 = omega arith in
    append-nil (placed_exchange n r.exchange (slots_of r)) ∙ ap (λ k. placed_exchange k r.exchange (slots_of r)) here
placed_more n (x ∷ rs) r =
    let here : n + 1 + length rs ≡ n + suc (length rs) = omega arith in
    ap (λ xs. placed_exchange n x.exchange (slots_of x) ++ xs) (placed_more (n + 1) rs r ∙ ap (λ k. placed_from (n + 1) rs ++ placed_exchange k r.exchange (slots_of r)) here)
    ∙ sym (append_assoc (placed_exchange n x.exchange (slots_of x)) (placed_from (n + 1) rs) (placed_exchange (n + suc (length rs)) r.exchange (slots_of r)))
