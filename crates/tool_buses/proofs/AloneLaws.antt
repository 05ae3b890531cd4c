-- What comes of a message at terminals of a bus, one after the other.
use Rattle.std.proofs.Common.{◌≡◌, ◌∙◌, ◌<◌, ◌+◌, ◌==◌, ◌||◌, ℕ, zero, suc, Option, Some, None, Result, Ok, Err, OnOk, List, [], ◌∷◌, ◌++◌, length, take, map, flat_map, get_or, slice_get, arith, refl, ap, sym, subst, append-nil}
use Rattle.std.specs.List.{list_any}
use Rattle.std.specs.Option.{option_map}
use Rattle.std.proofs.lemmas.List.{map-append, take_more}
use Rattle.std.proofs.lemmas.List.Concat.{flat_map-append}
use Rattle.std.proofs.lemmas.Option.{slice_get-map, none-some}
use Rattle.bus_legal.specs.Description.{Description}
use Rattle.bus_legal.specs.Parts.{Parts, description_in}
use Rattle.bus_legal.specs.Tables.{tables_say}
use Rattle.terminal_rules.specs.declared.event.Event.{Event}
use Rattle.terminal_rules.specs.Past.{history_after}
use Rattle.terminal_bus.specs.declared.event.BusEvent.{BusEvent}
use Rattle.terminal_bus.specs.declared.bus.TerminalBus.{TerminalBus}
use Rattle.terminal_bus.specs.Members.{Member, member_of, powered_up, play, bus_after, events_for, after_events, all_events_for}
use Rattle.terminal_bus.proofs.CameLaw.{after_at}
use Rattle.terminal_bus.proofs.Law.{alone_law}
use Rattle.terminal_messages.specs.declared.fold.ClosedMessages.{ClosedMessages}
use Rattle.terminal_messages.specs.declared.kept.KeptMessage.{KeptMessage}
use Rattle.terminal_messages.specs.declared.watch.MessageWatch.{MessageWatch}
use Rattle.terminal_messages.specs.Fold.{shown_closed}
use Rattle.terminal_messages.specs.Message.{Message}
use Rattle.terminal_messages.specs.Messages.{closed, closed_by, still_open, messages_of}
use Rattle.terminal_messages.specs.Parts.{tell}
use Rattle.terminal_messages.specs.Shown.{shown_message}
use Rattle.terminal_messages.specs.State.{told_state}
use Rattle.terminal_messages.specs.View.{View, told_view}
use Rattle.terminal_messages.specs.Watch.{WatchStands, told_event_at}
use Rattle.tool_buses.specs.EndsWell.{MessageAt}
use Rattle.tool_buses.specs.Powered.{IsBusAt}
use Rattle.tool_buses.specs.inner.Results.{HasWatched, message_of_terminal}

pub on_ok_weaker : {X E : Type 0} (r : Result X E) (P Q : Type 0) → (P → Q) → OnOk r P → OnOk r Q
on_ok_weaker (Ok x) P Q f p = f p
on_ok_weaker (Err e) P Q f p = tt

-- ---- one terminal

-- one event more
pub watched_more : (P : Description) (h : List Event) (event : Event) (old new : MessageWatch Parts) (ms ns : List KeptMessage) (now : ClosedMessages) → HasWatched P h old ms →
    WatchStands (λ (normal : Parts). tables_say normal.tables) P (λ _. 0) (event ∷ h) new → shown_closed now ≡ map (told_view P (λ _. 0)) (closed_by (tell P h) (told_event_at P h event)) →
    map shown_message ns ≡ map shown_message ms ++ shown_closed now → HasWatched P (event ∷ h) new ns
watched_more P h event old new ms ns now w stands told grown = record {
  stands = stands;
  over = grown ∙ ((λ j. w.over j ++ told j) ∙ sym (map-append (told_view P (λ _. 0)) (closed (tell P h)) (closed_by (tell P h) (told_event_at P h event))));
}

-- the end
pub all_watched : (P : Description) (h : List Event) (watch : MessageWatch Parts) (ms ns : List KeptMessage) (now : ClosedMessages) (events : List Event) → HasWatched P h watch ms → h ≡ history_after events [] →
    shown_closed now ≡ map (told_view P (λ _. 0)) (still_open (tell P h)) → map shown_message ns ≡ map shown_message ms ++ shown_closed now → map shown_message ns ≡ map (told_view P (λ _. 0)) (messages_of P events)
all_watched P h watch ms ns now events w is told grown =
    grown
    ∙ ((λ j. w.over j ++ told j)
    ∙ (sym (map-append (told_view P (λ _. 0)) (closed (tell P h)) (still_open (tell P h)))
    ∙ ap (λ g. map (told_view P (λ _. 0)) (closed (tell P g) ++ still_open (tell P g))) is))

-- ---- the terminal at a place

some_same : {X : Type 0} (x y : X) → Some x ≡ Some y → x ≡ y
some_same x y e = ap (λ o. elim o [ None ↦ x | Some z ↦ z ]) e

play_more : (ms : List Member) (xs : List BusEvent) (x : BusEvent) → play ms (xs ++ x ∷ []) ≡ bus_after (play ms xs) x
play_more ms [] x = refl
play_more ms (y ∷ xs) x = play_more (bus_after ms y) xs x

-- a bus was played so far, and the terminal at this place was watched
pub record WatchedAt (Ps : List Description) (k : ℕ) (xs : List BusEvent) (bus : TerminalBus Parts) (watch : MessageWatch Parts) (ms : List KeptMessage) : Type 0 where
  pub stands : IsBusAt (play (powered_up Ps) xs) bus
  pub watched : (m : Member) → slice_get (play (powered_up Ps) xs) k ≡ Some m → HasWatched m.description m.history watch ms

at_start : (vs : List Parts) (k : ℕ) (v : Parts) → slice_get vs k ≡ Some v → slice_get (powered_up (map description_in vs)) k ≡ Some (member_of (description_in v))
at_start vs k v is = slice_get-map member_of (map description_in vs) k ∙ ap (option_map member_of) (slice_get-map description_in vs k ∙ ap (option_map description_in) is)

pub watched_none : (vs : List Parts) (k : ℕ) (v : Parts) (bus : TerminalBus Parts) (watch : MessageWatch Parts) → slice_get vs k ≡ Some v → IsBusAt (powered_up (map description_in vs)) bus →
    WatchStands (λ (normal : Parts). tables_say normal.tables) (description_in v) (λ _. 0) [] watch → WatchedAt (map description_in vs) k [] bus watch []
watched_none vs k v bus watch is stands begun = record {
  stands = stands;
  watched = λ m there. subst (λ (n : Member). HasWatched n.description n.history watch []) (some_same (member_of (description_in v)) m (sym (at_start vs k v is) ∙ there)) (record { stands = begun; over = refl });
}

pub watched_step : (Ps : List Description) (k : ℕ) (xs : List BusEvent) (x : BusEvent) (bus next : TerminalBus Parts) (watch new : MessageWatch Parts) (ms ns : List KeptMessage) (came : List Event) →
    WatchedAt Ps k xs bus watch ms → IsBusAt (bus_after (play (powered_up Ps) xs) x) next →
    ((m : Member) → slice_get (play (powered_up Ps) xs) k ≡ Some m → came ≡ events_for (play (powered_up Ps) xs) x m) →
    ((P : Description) (h : List Event) → HasWatched P h watch ms → HasWatched P (history_after came h) new ns) → WatchedAt Ps k (xs ++ x ∷ []) next new ns
watched_step Ps k xs x bus next watch new ms ns came w stands is grows = record {
  stands = subst (λ l. IsBusAt l next) (sym (play_more (powered_up Ps) xs x)) stands;
  watched = λ m there. by (slice_get (play (powered_up Ps) xs) k) refl m (ap (λ l. slice_get l k) (sym (play_more (powered_up Ps) xs x)) ∙ there);
}
  where
    here : List Member
    here = play (powered_up Ps) xs

    by : (o : Option Member) → slice_get here k ≡ o → (m : Member) → slice_get (bus_after here x) k ≡ Some m → HasWatched m.description m.history new ns
    by None at m there = absurd (none-some m (sym (slice_get-map (λ p. after_events (events_for here x p) p) here k ∙ ap (option_map (λ p. after_events (events_for here x p) p)) at) ∙ there))
    by (Some n) at m there =
        subst (λ (p : Member). HasWatched p.description p.history new ns) (some_same (after_events (events_for here x n) n) m (sym (after_at {L = Parts} (λ (normal : Parts). tables_say normal.tables) here x k n at) ∙ there))
        (subst (λ es. HasWatched n.description (history_after es n.history) new ns) (is n at) (grows n.description n.history (w.watched n at)))

pub watched_place : (vs : List Parts) (k : ℕ) (v : Parts) (xs : List BusEvent) (bus : TerminalBus Parts) (watch : MessageWatch Parts) (ms ns : List KeptMessage) (now : ClosedMessages) → slice_get vs k ≡ Some v →
    WatchedAt (map description_in vs) k xs bus watch ms →
    ((P : Description) (h : List Event) → WatchStands (λ (normal : Parts). tables_say normal.tables) P (λ _. 0) h watch → shown_closed now ≡ map (told_view P (λ _. 0)) (still_open (tell P h))) →
    map shown_message ns ≡ map shown_message ms ++ shown_closed now →
    map shown_message ns ≡ map (told_view (description_in v) (λ _. 0)) (messages_of (description_in v) (all_events_for (powered_up (map description_in vs)) xs (member_of (description_in v))))
watched_place vs k v xs bus watch ms ns now is w told grown =
    let Ps : List Description = map description_in vs in
    let P : Description = description_in v in
    let came : List Event = all_events_for (powered_up Ps) xs (member_of P) in
    let at : slice_get (play (powered_up Ps) xs) k ≡ Some (after_events came (member_of P)) =
    ap (λ l. slice_get l k) (alone_law.histories Ps xs)
    ∙ (slice_get-map (λ (Q : Description). after_events (all_events_for (powered_up Ps) xs (member_of Q)) (member_of Q)) Ps k
    ∙ ap (option_map (λ (Q : Description). after_events (all_events_for (powered_up Ps) xs (member_of Q)) (member_of Q))) (slice_get-map description_in vs k ∙ ap (option_map description_in) is)) in
    let so : HasWatched P (history_after came []) watch ms = w.watched (after_events came (member_of P)) at in
    all_watched P (history_after came []) watch ms ns now came so refl (told P (history_after came []) so.stands) grown

-- what came of it there
map_map : {X Y Z : Type 0} (f : X → Y) (g : Y → Z) (xs : List X) → map g (map f xs) ≡ map (λ x. g (f x)) xs
map_map f g [] = refl
map_map f g (x ∷ xs) = ap (λ l. g (f x) ∷ l) (map_map f g xs)

pub states_told : (P : Description) (a : ℕ) (kept : List KeptMessage) (ms : List Message) → map shown_message kept ≡ map (told_view P (λ _. 0)) ms →
    map (message_of_terminal a) kept ≡ map (λ m. (let it : MessageAt = record { address = a; state = told_state P m } in it)) ms
states_told P a kept ms is =
    let f : View → MessageAt = λ v. (let it : MessageAt = record { address = a; state = v.state } in it) in
    sym (map_map shown_message f kept) ∙ (ap (map f) is ∙ map_map (told_view P (λ _. 0)) f ms)

-- one terminal more
pub places_more : {X : Type 0} (f : Parts → List X) (vs : List Parts) (k : ℕ) (v : Parts) → k < length vs → v ≡ get_or vs k v → flat_map f (take k vs) ++ f v ≡ flat_map f (take (k + 1) vs)
places_more f vs k v within at =
    ap (λ l. flat_map f (take k vs) ++ l) (sym (append-nil (f v)))
    ∙ (sym (flat_map-append f (take k vs) (v ∷ [])) ∙ ap (flat_map f) (sym (take_more vs k v within ∙ ap (λ y. take k vs ++ y ∷ []) (sym at))))

pub at_index : (vs : List Parts) (k : ℕ) (v : Parts) → k < length vs → v ≡ get_or vs k v → slice_get vs k ≡ Some v
at_index [] k v within at = absurd (omega (arith, within))
at_index (w ∷ vs) zero v within at = ap Some (sym at)
at_index (w ∷ vs) (suc k) v within at = at_index vs k v (omega (arith, within)) at

-- whether a terminal has one of these messages
pub seen_by : (a : ℕ) (ms : List MessageAt) → list_any (λ b. b == a) (map (λ (m : MessageAt). m.address) ms) ≡ list_any (λ (m : MessageAt). m.address == a) ms
seen_by a [] = refl
seen_by a (m ∷ ms) = ap (λ b. (m.address == a) || b) (seen_by a ms)
