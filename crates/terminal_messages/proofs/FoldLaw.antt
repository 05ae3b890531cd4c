-- The fold stands one event further, and gives the messages that the event closes.
use Rattle.std.proofs.Common.{◌≡◌, ℕ, suc, ◌<◌, Bool, true, false, not, ◌&&◌, nat_le, if◌then◌else◌, Option, Some, None, List, [], ◌∷◌, ◌++◌, map, length, refl, ap, sym, ◌∙◌, subst, subst₂, arith}
use Rattle.std.specs.Option.{option_map}
use Rattle.std.proofs.lemmas.Bool.Decides.{nat_tests}
use Rattle.bus_word.specs.declared.word.Bus.{Bus}
use Rattle.bus_word.specs.declared.word.Bus.TheVariants.{A, B}
use Rattle.bus_legal.specs.Description.{Description}
use Rattle.terminal_rules.specs.declared.event.Event.{Event}
use Rattle.terminal_rules.specs.Buses.{same_bus}
use Rattle.terminal_rules.specs.LookBack.{latest, since, keep, or_else}
use Rattle.terminal_rules.specs.History.{is_ignored}
use Rattle.terminal_rules.specs.Open.{is_on}
use Rattle.terminal_messages.specs.declared.fold.MessageFold.{MessageFold}
use Rattle.terminal_messages.specs.declared.fold.ClosedMessages.{ClosedMessages}
use Rattle.terminal_messages.specs.Told.{ToldEvent, is_first_command, event_bus, begins_on, closes, belongs_on}
use Rattle.terminal_messages.specs.Message.{Message, message_on_bus, message_begun, leaves_open, belonging}
use Rattle.terminal_messages.specs.Parts.{tell}
use Rattle.terminal_messages.specs.Messages.{in_turn, closed_with, closed_on, alone, closed_by, still_open}
use Rattle.terminal_messages.specs.State.{Facts, facts_of}
use Rattle.terminal_messages.specs.View.{View, view_of, told_view, part_by, message_after, closed_after, alone_after, newest_after, newest_by, next_number, number_after, view_listed, view_turn}
use Rattle.terminal_messages.specs.Fold.{shown_closed, fold_view, begun_bus, newest_on, FoldStands, FoldSteps}
use Rattle.terminal_messages.proofs.StepLaw.{after_by, message_law}
use Rattle.terminal_messages.proofs.Firsts.{begins_closes}
use Rattle.terminal_messages.proofs.ViewLaw.{view_at, t_of, part_law, number_next, number_law, kept_law, closed_law, alone_law}

-- a message began before so many events
abbrev Below : ℕ → Option Message → Type 0
Below n None = Unit {0}
Below n (Some m) = m.first.index < n

below_after : (b : Bus) (t : ToldEvent) (c k n : Bool) (m : Option Message) → Below t.index m → Below (suc t.index) (after_by b t c k n m)
below_after b t true true n m h = omega arith
below_after b t true false n m h = tt
below_after b t false k true None h = tt
below_after b t false k true (Some m) h = omega arith
below_after b t false k false None h = tt
below_after b t false k false (Some m) h = omega arith

below : (P : Description) (h : List Event) (b : Bus) → Below (length (tell P h)) (message_on_bus (tell P h) b)
below P [] b = tt
below P (e ∷ h) b =
    let t : ToldEvent = t_of P h e in
    subst_below (sym (message_law b t (tell P h))) (below_after b t (closes b t) (begins_on b t) (belongs_on b t) (message_on_bus (tell P h) b) (below P h b))
  where
    subst_below : {x y : Option Message} → x ≡ y → Below (suc (length (tell P h))) x → Below (suc (length (tell P h))) y
    subst_below e p = subst (Below (suc (length (tell P h)))) e p

-- which of the messages on the two buses began last
abbrev InOrder : Bus → Option Message → Option Message → Type 0
InOrder b None n = Unit {0}
InOrder b (Some m) None = Unit {0}
InOrder b (Some m) (Some n) = nat_le m.first.index n.first.index ≡ not (same_bus b A)

after_le : (m n : ℕ) → m < n → nat_le n m ≡ false
after_le m n h = grind (arith, nat_tests)

before_le : (m n : ℕ) → m < n → nat_le m n ≡ true
before_le m n h = grind (arith, nat_tests)

order_after : (t : ToldEvent) (nb nb' : Bus) (ca ka na cb kb nb'' : Bool) (m n : Option Message) →
    (ka ≡ true → ca ≡ true) → (kb ≡ true → cb ≡ true) → (ka ≡ true → nb' ≡ A) → (kb ≡ true → nb' ≡ B) → (ka ≡ false → kb ≡ false → nb' ≡ nb) →
    (ka ≡ true → kb ≡ true → ⊥) → Below t.index m → Below t.index n → InOrder nb m n →
    InOrder nb' (after_by A t ca ka na m) (after_by B t cb kb nb'' n)
order_after t nb nb' true true na true true x m n a b p q r z l k o = absurd (z refl refl)
order_after t nb nb' true true na true false x m n a b p q r z l k o = tt
order_after t nb nb' true true na false kb true m None a b p q r z l k o = tt
order_after t nb nb' true true na false kb true m (Some n) a b p q r z l k o = after_le n.first.index t.index k ∙ sym (ap (λ b. not (same_bus b A)) (p refl))
order_after t nb nb' true true na false kb false m None a b p q r z l k o = tt
order_after t nb nb' true true na false kb false m (Some n) a b p q r z l k o = after_le n.first.index t.index k ∙ sym (ap (λ b. not (same_bus b A)) (p refl))
order_after t nb nb' true false na cb kb x m n a b p q r z l k o = tt
order_after t nb nb' false true na cb kb x m n a b p q r z l k o = let wrong : false ≡ true = a refl in cc
order_after t nb nb' false false true true true x None n a b p q r z l k o = tt
order_after t nb nb' false false true true true x (Some m) n a b p q r z l k o = before_le m.first.index t.index l ∙ sym (ap (λ b. not (same_bus b A)) (q refl))
order_after t nb nb' false false false true true x None n a b p q r z l k o = tt
order_after t nb nb' false false false true true x (Some m) n a b p q r z l k o = before_le m.first.index t.index l ∙ sym (ap (λ b. not (same_bus b A)) (q refl))
order_after t nb nb' false false true true false x None n a b p q r z l k o = tt
order_after t nb nb' false false true true false x (Some m) n a b p q r z l k o = tt
order_after t nb nb' false false false true false x None n a b p q r z l k o = tt
order_after t nb nb' false false false true false x (Some m) n a b p q r z l k o = tt
order_after t nb nb' false false na false true x m n a b p q r z l k o = let wrong : false ≡ true = b refl in cc
order_after t nb nb' false false true false false true None n a b p q r z l k o = tt
order_after t nb nb' false false true false false true (Some m) None a b p q r z l k o = tt
order_after t nb nb' false false true false false true (Some m) (Some n) a b p q r z l k o = o ∙ sym (ap (λ b. not (same_bus b A)) (r refl refl))
order_after t nb nb' false false true false false false None n a b p q r z l k o = tt
order_after t nb nb' false false true false false false (Some m) None a b p q r z l k o = tt
order_after t nb nb' false false true false false false (Some m) (Some n) a b p q r z l k o = o ∙ sym (ap (λ b. not (same_bus b A)) (r refl refl))
order_after t nb nb' false false false false false true None n a b p q r z l k o = tt
order_after t nb nb' false false false false false true (Some m) None a b p q r z l k o = tt
order_after t nb nb' false false false false false true (Some m) (Some n) a b p q r z l k o = o ∙ sym (ap (λ b. not (same_bus b A)) (r refl refl))
order_after t nb nb' false false false false false false None n a b p q r z l k o = tt
order_after t nb nb' false false false false false false (Some m) None a b p q r z l k o = tt
order_after t nb nb' false false false false false false (Some m) (Some n) a b p q r z l k o = o ∙ sym (ap (λ b. not (same_bus b A)) (r refl refl))

-- the bus of the message that began last
abbrev newest_of : Bool → Option Bus → Option Bus → Bus
newest_of p o l = or_else (elim (if p then o else None) as (λ o. Option Bus) [ None ↦ l | Some y ↦ Some y ]) A

newest_a : (p : Bool) (o l : Option Bus) → (p && is_on A o) ≡ true → newest_of p o l ≡ A
newest_a true None l e = cc
newest_a true (Some A) l e = refl
newest_a true (Some B) l e = cc
newest_a false o l e = cc

newest_b : (p : Bool) (o l : Option Bus) → (p && is_on B o) ≡ true → newest_of p o l ≡ B
newest_b true None l e = cc
newest_b true (Some A) l e = cc
newest_b true (Some B) l e = refl
newest_b false o l e = cc

newest_same : (p : Bool) (o l : Option Bus) → (p && is_on A o) ≡ false → (p && is_on B o) ≡ false → newest_of p o l ≡ or_else l A
newest_same true None l e f = refl
newest_same true (Some A) l e f = cc
newest_same true (Some B) l e f = cc
newest_same false o l e f = refl

not_both : (p : Bool) (o : Option Bus) → (p && is_on A o) ≡ true → (p && is_on B o) ≡ true → ⊥
not_both true None e f = cc
not_both true (Some A) e f = cc
not_both true (Some B) e f = cc
not_both false o e f = cc

newest_step : (p : Bool) (o l : Option Bus) → newest_of p o l ≡ (if p then newest_by o (or_else l A) else or_else l A)
newest_step true None l = refl
newest_step true (Some b) l = refl
newest_step false o l = refl

order : (P : Description) (h : List Event) → InOrder (newest_on (tell P h)) (message_on_bus (tell P h) A) (message_on_bus (tell P h) B)
order P [] = tt
order P (e ∷ h) =
    let t : ToldEvent = t_of P h e in
    let o : Option Bus = event_bus e in
    let l : Option Bus = latest begun_bus (tell P h) in
    subst₂ (InOrder (newest_on (tell P (e ∷ h)))) (sym (message_law A t (tell P h))) (sym (message_law B t (tell P h)))
    (order_after t (newest_on (tell P h)) (newest_on (tell P (e ∷ h))) (closes A t) (begins_on A t) (belongs_on A t) (closes B t) (begins_on B t) (belongs_on B t)
    (message_on_bus (tell P h) A) (message_on_bus (tell P h) B)
    (begins_closes A t) (begins_closes B t) (newest_a (is_first_command t.part) o l) (newest_b (is_first_command t.part) o l) (newest_same (is_first_command t.part) o l) (not_both (is_first_command t.part) o)
    (below P h A) (below P h B) (order P h))

-- messages in turn
turn : (f : Message → View) (b : Bus) (x y : Option Message) → InOrder b x y → map f (in_turn x y) ≡ view_turn b (option_map f x) (option_map f y)
turn f A None None o = refl
turn f B None None o = refl
turn f A None (Some n) o = refl
turn f B None (Some n) o = refl
turn f A (Some m) None o = refl
turn f B (Some m) None o = refl
turn f A (Some m) (Some n) o = ap (λ (t : Bool). map f (if t then m ∷ n ∷ [] else n ∷ m ∷ [])) o
turn f B (Some m) (Some n) o = ap (λ (t : Bool). map f (if t then m ∷ n ∷ [] else n ∷ m ∷ [])) o

closed_order : (b : Bus) (t : ToldEvent) (ca cb : Bool) (m n : Option Message) → InOrder b m n → InOrder b (if ca then closed_with t m else None) (if cb then closed_with t n else None)
closed_order b t true true None n o = tt
closed_order b t true true (Some m) None o = tt
closed_order b t true true (Some m) (Some n) o = o
closed_order b t true false None n o = tt
closed_order b t true false (Some m) n o = tt
closed_order b t false cb m n o = tt

map-append : (f : Message → View) (xs ys : List Message) → map f (xs ++ ys) ≡ map f xs ++ map f ys
map-append f [] ys = refl
map-append f (x ∷ xs) ys = ap (λ l. f x ∷ l) (map-append f xs ys)

-- what an event closes
closed_by_law : (P : Description) (place : ℕ → ℕ) (h : List Event) (e : Event) →
    map (told_view P place) (closed_by (tell P h) (t_of P h e))
    ≡ view_turn (newest_on (tell P h)) (closed_after A (facts_of place (t_of P h e)) (t_of P h e).part (view_at P place (tell P h) A)) (closed_after B (facts_of place (t_of P h e)) (t_of P h e).part (view_at P place (tell P h) B))
    ++ view_listed (alone_after P.address P.broadcast (facts_of place (t_of P h e)) (t_of P h e).part (number_next P h))
closed_by_law P place h e =
    let t : ToldEvent = t_of P h e in
    let x : Option Message = closed_on (tell P h) t A in
    let y : Option Message = closed_on (tell P h) t B in
    map-append (told_view P place) (in_turn x y) (alone t)
    ∙ (λ j. (turn (told_view P place) (newest_on (tell P h)) x y (closed_order (newest_on (tell P h)) t (closes A t) (closes B t) (message_on_bus (tell P h) A) (message_on_bus (tell P h) B) (order P h))
    ∙ (λ j. view_turn (newest_on (tell P h)) (closed_law P place (tell P h) t A j) (closed_law P place (tell P h) t B j))) j
    ++ alone_law P place h e j)

-- a step of the fold
pub record Further (P : Description) (place : ℕ → ℕ) (h : List Event) (e : Event) (new : MessageFold) (closed : ClosedMessages) : Type 0 where
  pub stands : FoldStands P place (e ∷ h) new
  pub over : shown_closed closed ≡ map (told_view P place) (closed_by (tell P h) (t_of P h e))

pub further : (P : Description) (place : ℕ → ℕ) (h : List Event) (e : Event) (x : Facts) (ignored : Bool) (old new : MessageFold) (closed : ClosedMessages) →
    x ≡ facts_of place (t_of P h e) → ignored ≡ is_ignored (t_of P h e).noted.turn → FoldStands P place h old → FoldSteps x ignored (part_by x.event x ignored (fold_view old)) old new closed → Further P place h e new closed
further P place h e x ignored old new closed is i s f =
    let t : ToldEvent = t_of P h e in
    let views : fold_view old ≡ view_at P place (tell P h) = λ j b. s.kept b j in
    let number : next_number old.begun ≡ number_next P h = ap next_number s.begun in
    let part : part_by x.event x ignored (fold_view old) ≡ t.part = (λ j. part_by (is j).event (is j) (i j) (views j)) ∙ sym (part_law P place h e) in
    record {
      stands = record {
        address = ap (λ o. o.address) f.own ∙ s.address;
        broadcast = ap (λ o. o.broadcast) f.own ∙ s.broadcast;
        begun = f.begun ∙ ((λ j. number_after (part j) (s.begun j)) ∙ sym (number_law P h e));
        newest = f.newest ∙ ((λ j. newest_after (is j) (part j) (s.newest j)) ∙ sym (newest_step (is_first_command t.part) (event_bus e) (latest begun_bus (tell P h))));
        kept = λ b. f.kept b ∙ ((λ j. message_after (s.address j) (s.broadcast j) b (is j) (part j) (i j) (number j) (s.kept b j)) ∙ sym (kept_law P place h e b));
      };
      over = f.over
          ∙ ((λ j. view_turn (s.newest j) (closed_after A (is j) (part j) (s.kept A j)) (closed_after B (is j) (part j) (s.kept B j)) ++ view_listed (alone_after (s.address j) (s.broadcast j) (is j) (part j) (number j)))
          ∙ sym (closed_by_law P place h e));
    }

-- at the end the messages that are left are given
told_open : (P : Description) (place : ℕ → ℕ) (h : List ToldEvent) (b : Bus) → option_map (told_view P place) (message_on_bus h b) ≡ view_at P place h b
told_open P place h b = by_opener (keep (belonging b) (since (closes b) h)) (latest (leaves_open b) h)
  where
    by_opener : (later : List ToldEvent) (o : Option (Option ToldEvent)) → option_map (told_view P place) (message_begun b later o) ≡ option_map (view_of P place) (message_begun b later o)
    by_opener later None = refl
    by_opener later (Some None) = refl
    by_opener later (Some (Some t)) = refl

pub still_view : (P : Description) (place : ℕ → ℕ) (h : List Event) (f : MessageFold) → FoldStands P place h f →
    view_turn f.newest (fold_view f A) (fold_view f B) ≡ map (told_view P place) (still_open (tell P h))
still_view P place h f s =
    (λ j. view_turn (s.newest j) ((s.kept A ∙ sym (told_open P place (tell P h) A)) j) ((s.kept B ∙ sym (told_open P place (tell P h) B)) j))
    ∙ sym (turn (told_view P place) (newest_on (tell P h)) (message_on_bus (tell P h) A) (message_on_bus (tell P h) B) (order P h))
