-- All terminals of a bus take what happens.
use Rattle.std.proofs.Common.{◌≡◌, ℕ, suc, Bool, true, false, ◌==◌, if◌then◌else◌, Option, Some, None, List, [], ◌∷◌, ◌++◌, length, arith, slice_get, slice_index_or, refl, ap, sym, subst, ◌∙◌}
use Rattle.std.specs.Option.{option_map}
use Rattle.std.proofs.lemmas.Option.{slice_get-map}
use Rattle.std.proofs.lemmas.List.{length-map}
use Rattle.bus_word.specs.declared.word.Bus.{Bus}
use Rattle.bus_word.specs.declared.word.Bus.TheVariants.{A, B}
use Rattle.bus_word.specs.declared.cell.Cell.{Cell}
use Rattle.bus_legal.specs.Description.{Description}
use Rattle.terminal_rules.specs.declared.event.Event.{Event}
use Rattle.terminal_rules.specs.declared.event.Event.TheVariants.{Slot}
use Rattle.terminal_rules.specs.LookBack.{keep}
use Rattle.terminal_rules.specs.Out.{Out, Silence, Sending, out, outs_from, sent_in}
use Rattle.terminal_rules.specs.Past.{history_after}
use Rattle.terminal_recordings.proofs.Leaving.{history_join}
use Rattle.terminal_state.specs.declared.buses.OnBuses.{OnBuses}
use Rattle.bus_terminal.specs.Stands.{StandsAt}
use Rattle.terminal_bus.specs.declared.event.BusEvent.{BusEvent}
use Rattle.terminal_bus.specs.declared.event.BusEvent.TheVariants.{OnBus, SlotPasses, Subsystem}
use Rattle.terminal_bus.specs.declared.seat.Seat.{Seat}
use Rattle.terminal_bus.specs.Members.{Member, if_on, sent_on, heard_of, sendings, unless_sends, heard_on, events_for, after_events, bus_after}
use Rattle.terminal_bus.specs.Alone.{answers_in}
use Rattle.terminal_bus.specs.Transfer.{action_of, actions}
use Rattle.bus_terminal.specs.Answer.{shown_copy}
use Rattle.terminal_bus.specs.AtMembers.{seat_at, AtBoth, SeatStands, SeatsStandAt, kept_at, collides, AtSeat, EachSeat}
use Rattle.terminal_bus.specs.inner.Seats.{TakesAll, Stays, SeatSteps, StepsIfAddressed, sends_there, sends_at, Hears, are_many, SlotSteps}

-- what is kept of two lists that give the same at each place
abbrev pub over : {Y Z : Type 0} → (Y → Option Z) → Option Y → Option Z
over g None = None
over g (Some y) = g y

pub keep_alike : {X Y Z : Type 0} (f : Option X → Option Z) (g : Y → Option Z) (xs : List (Option X)) (ys : List Y) → length xs ≡ length ys →
    ((k : ℕ) → f (slice_index_or xs k None) ≡ over g (slice_get ys k)) → keep f xs ≡ keep g ys
keep_alike f g [] [] e p = refl
keep_alike f g [] (y ∷ ys) e p = cc
keep_alike f g (x ∷ xs) [] e p = cc
keep_alike f g (x ∷ xs) (y ∷ ys) e p =
    let rest : keep f xs ≡ keep g ys = keep_alike f g xs ys (omega (arith, e)) (λ k. p (suc k)) in
    λ j. elim (p 0 j) [ None ↦ rest j | Some z ↦ z ∷ rest j ]

module _ {L : Type 0} (is_legal : L → Cell → Bool) (members : List Member) where
  -- a terminal took these events of a member, and keeps its answer to one
  record Took (events : Member → List Event) (e : Event) (seat : Seat L) (m : Member) : Type 0 where
    address : seat.address ≡ m.description.address
    terminal : StandsAt is_legal m.description (history_after (events m) m.history) seat.terminal
    answer : shown_copy seat.answer ≡ out m.description m.history e

  -- it took all that comes to it, and keeps what it sends or hands over
  pub record Done (x : BusEvent) (seat : Seat L) (m : Member) : Type 0 where
    pub address : seat.address ≡ m.description.address
    pub terminal : StandsAt is_legal m.description (history_after (events_for members x m) m.history) seat.terminal
    pub answer : actions (shown_copy seat.answer ∷ []) ≡ actions (answers_in members x m)

  abbrev Each : (Seat L → Member → Type 0) → List (Option (Seat L)) → Type 0
  Each Q seats = (length seats ≡ length members) × ((k : ℕ) → AtBoth Q (seat_at seats k) (slice_get members k))

  abbrev pub AllDone : BusEvent → List (Option (Seat L)) → Type 0
  AllDone x seats = Each (Done x) seats

  carry_at : (Q Q' : Seat L → Member → Type 0) (R : Seat L → Seat L → Type 0) → ((s t : Seat L) (m : Member) → Q s m → R s t → Q' t m) →
      (o n : Option (Seat L)) (m : Option Member) → AtBoth Q o m → AtSeat R o n → AtBoth Q' n m
  carry_at Q Q' R step None None None q r = q
  carry_at Q Q' R step None None (Some m) q r = absurd q
  carry_at Q Q' R step None (Some t) m q r = absurd r
  carry_at Q Q' R step (Some s) None m q r = absurd r
  carry_at Q Q' R step (Some s) (Some t) None q r = absurd q
  carry_at Q Q' R step (Some s) (Some t) (Some m) q r = step s t m q r

  carry : (Q Q' : Seat L → Member → Type 0) (R : Seat L → Seat L → Type 0) → ((s t : Seat L) (m : Member) → Q s m → R s t → Q' t m) →
      (olds news : List (Option (Seat L))) → length news ≡ length olds → Each Q olds → EachSeat R olds news → Each Q' news
  carry Q Q' R step olds news l q r =
      (l ∙ q.0, λ k. carry_at Q Q' R step (seat_at olds k) (seat_at news k) (slice_get members k) (q.1 k) (r k))

  -- terminals that stand wherever these stand
  stays_done : (s t : Seat L) (m : Member) → SeatStands is_legal s m → Stays is_legal s t → SeatStands is_legal t m
  stays_done s t m q r = record { address = r.address ∙ q.address; terminal = r.takes m.description m.history q.terminal }

  pub all_stay : (olds news : List (Option (Seat L))) → length news ≡ length olds → SeatsStandAt is_legal members olds → EachSeat (Stays is_legal) olds news → SeatsStandAt is_legal members news
  all_stay olds news l q r = let it = carry (SeatStands is_legal) (SeatStands is_legal) (Stays is_legal) stays_done olds news l (q.count, q.each) r in record { count = it.0; each = it.1 }

  -- what is put on a bus
  on_bus_done : (e : Event) (s t : Seat L) (m : Member) → SeatStands is_legal s m → SeatSteps is_legal e s t → Done (OnBus e) t m
  on_bus_done e s t m q r = record {
    address = r.address ∙ q.address;
    terminal = r.takes m.description m.history q.terminal;
    answer = ap (λ (o : Out). actions (o ∷ [])) (r.answer m.description m.history q.terminal);
  }

  pub all_on_bus : (e : Event) (olds news : List (Option (Seat L))) → length news ≡ length olds → SeatsStandAt is_legal members olds → EachSeat (SeatSteps is_legal e) olds news → AllDone (OnBus e) news
  all_on_bus e olds news l q r = carry (SeatStands is_legal) (Done (OnBus e)) (SeatSteps is_legal e) (on_bus_done e) olds news l (q.count, q.each) r

  -- an event of a subsystem
  own_done : (a : ℕ) (e : Event) (s t : Seat L) (m : Member) (i : Bool) → (m.description.address == a) ≡ i → SeatStands is_legal s m → StepsIfAddressed is_legal a e s t →
      StandsAt is_legal m.description (history_after (if i then e ∷ [] else []) m.history) t.terminal
      × (actions (shown_copy t.answer ∷ []) ≡ actions (outs_from m.description m.history (if i then e ∷ [] else [])))
  own_done a e s t m true i q r =
      let o : SeatSteps is_legal e s t = r.own (ap (λ b. b == a) q.address ∙ i) in
      (o.takes m.description m.history q.terminal, ap (λ (x : Out). actions (x ∷ [])) (o.answer m.description m.history q.terminal))
  own_done a e s t m false i q r =
      let o : (shown_copy t.answer ≡ Silence) × TakesAll is_legal [] s.terminal t.terminal = r.other (ap (λ b. b == a) q.address ∙ i) in
      (o.1 m.description m.history q.terminal, ap (λ (x : Out). actions (x ∷ [])) o.0)

  subsystem_done : (a : ℕ) (e : Event) (s t : Seat L) (m : Member) → SeatStands is_legal s m → StepsIfAddressed is_legal a e s t → Done (Subsystem a e) t m
  subsystem_done a e s t m q r =
      let it : StandsAt is_legal m.description (history_after (if m.description.address == a then e ∷ [] else []) m.history) t.terminal
      × (actions (shown_copy t.answer ∷ []) ≡ actions (outs_from m.description m.history (if m.description.address == a then e ∷ [] else [])))
      = own_done a e s t m (m.description.address == a) refl q r in
      record { address = r.address ∙ q.address; terminal = it.0; answer = it.1 }

  pub all_subsystem : (a : ℕ) (e : Event) (olds news : List (Option (Seat L))) → length news ≡ length olds → SeatsStandAt is_legal members olds → EachSeat (StepsIfAddressed is_legal a e) olds news → AllDone (Subsystem a e) news
  all_subsystem a e olds news l q r = carry (SeatStands is_legal) (Done (Subsystem a e)) (StepsIfAddressed is_legal a e) (subsystem_done a e) olds news l (q.count, q.each) r

  -- the words that are sent in a slot
  sent_law : (events : Member → List Event) (b : Bus) (s : Seat L) (m : Member) → Took events Slot s m → sends_there b s ≡ sent_on b m
  sent_law events b s m q = ap (λ (o : Out). if_on b (sent_in o)) q.answer

  sent_law_at : (events : Member → List Event) (b : Bus) (o : Option (Seat L)) (m : Option Member) → AtBoth (Took events Slot) o m → sends_at b o ≡ over (sent_on b) m
  sent_law_at events b None None q = refl
  sent_law_at events b None (Some m) q = absurd q
  sent_law_at events b (Some s) None q = absurd q
  sent_law_at events b (Some s) (Some m) q = sent_law events b s m q

  sendings_law : (events : Member → List Event) (b : Bus) (seats : List (Option (Seat L))) → Each (Took events Slot) seats → keep (sends_at b) seats ≡ sendings b members
  sendings_law events b seats q = keep_alike (sends_at b) (sent_on b) seats members q.0 (λ k. sent_law_at events b (seat_at seats k) (slice_get members k) (q.1 k))

  abbrev more : (Member → List Event) → Bus → Member → List Event
  more events b m = events m ++ heard_on b members m

  heard_step : (events : Member → List Event) (b : Bus) (words : List Sending) → words ≡ sendings b members → (s t : Seat L) (m : Member) → Took events Slot s m → Hears is_legal b (heard_of b words) s t → Took (more events b) Slot t m
  heard_step events b words e s t m q r =
      let heard : unless_sends (sends_there b s) (heard_of b words) ≡ heard_on b members m = λ j. unless_sends (sent_law events b s m q j) (heard_of b (e j)) in
      record {
        address = r.address ∙ q.address;
        terminal =
            subst (λ (h : List Event). StandsAt is_legal m.description h t.terminal)
            (ap (λ (es : List Event). history_after es (history_after (events m) m.history)) heard ∙ sym (history_join (events m) (heard_on b members m) m.history))
            (r.takes m.description (history_after (events m) m.history) q.terminal);
        answer = r.answer ∙ q.answer;
      }

  heard_all : (events : Member → List Event) (b : Bus) (olds news : List (Option (Seat L))) → length news ≡ length olds → Each (Took events Slot) olds →
      EachSeat (Hears is_legal b (heard_of b (keep (sends_at b) olds))) olds news → Each (Took (more events b) Slot) news
  heard_all events b olds news l q r =
      carry (Took events Slot) (Took (more events b) Slot) (Hears is_legal b (heard_of b (keep (sends_at b) olds)))
      (heard_step events b (keep (sends_at b) olds) (sendings_law events b olds q)) olds news l q r

  -- what terminals hear in a slot is not answered
  quiet_first : (P : Description) (h : List Event) (b : Bus) (o : Option Sending) (words : List Sending) (es : List Event) →
      actions (outs_from P h (unless_sends o (heard_of b words) ++ es)) ≡ actions (outs_from P (history_after (unless_sends o (heard_of b words)) h) es)
  quiet_first P h b (Some s) words es = refl
  quiet_first P h b None [] es = refl
  quiet_first P h b None (s ∷ []) es = refl
  quiet_first P h b None (s ∷ t ∷ words) es = refl

  quiet_last : (P : Description) (h : List Event) (b : Bus) (o : Option Sending) (words : List Sending) → actions (outs_from P h (unless_sends o (heard_of b words))) ≡ actions []
  quiet_last P h b (Some s) words = refl
  quiet_last P h b None [] = refl
  quiet_last P h b None (s ∷ []) = refl
  quiet_last P h b None (s ∷ t ∷ words) = refl

  alone_acts : (o : Out) (os : List Out) → actions os ≡ actions [] → actions (o ∷ []) ≡ actions (o ∷ os)
  alone_acts o os e = λ j. elim (action_of o) [ None ↦ sym e j | Some y ↦ y ∷ sym e j ]

  pub slot_acts : (m : Member) → actions (out m.description m.history Slot ∷ []) ≡ actions (answers_in members SlotPasses m)
  slot_acts m =
      alone_acts (out m.description m.history Slot) (outs_from m.description (Slot ∷ m.history) (heard_on A members m ++ heard_on B members m))
      (quiet_first m.description (Slot ∷ m.history) A (sent_on A m) (sendings A members) (heard_on B members m)
      ∙ quiet_last m.description (history_after (heard_on A members m) (Slot ∷ m.history)) B (sent_on B m) (sendings B members))

  abbrev slot_alone : Member → List Event
  slot_alone m = Slot ∷ []

  slot_step : (s t : Seat L) (m : Member) → SeatStands is_legal s m → SeatSteps is_legal Slot s t → Took slot_alone Slot t m
  slot_step s t m q r = record {
    address = r.address ∙ q.address;
    terminal = r.takes m.description m.history q.terminal;
    answer = r.answer m.description m.history q.terminal;
  }

  done_at : (o : Option (Seat L)) (m : Option Member) → AtBoth (Took (more (more slot_alone A) B) Slot) o m → AtBoth (Done SlotPasses) o m
  done_at None None q = q
  done_at None (Some m) q = absurd q
  done_at (Some s) None q = absurd q
  done_at (Some s) (Some m) q = record { address = q.address; terminal = q.terminal; answer = ap (λ (o : Out). actions (o ∷ [])) q.answer ∙ slot_acts m }

  pub record SlotDone (news : List (Option (Seat L))) (a b : Bool) : Type 0 where
    pub done : AllDone SlotPasses news
    pub on_a : a ≡ collides A members SlotPasses
    pub on_b : b ≡ collides B members SlotPasses

  pub all_slot : (olds news : List (Option (Seat L))) (a b : Bool) → SeatsStandAt is_legal members olds → (slot heard : List (Option (Seat L))) →
      length slot ≡ length olds → length heard ≡ length slot → length news ≡ length heard →
      EachSeat (SeatSteps is_legal Slot) olds slot →
      EachSeat (Hears is_legal A (heard_of A (keep (sends_at A) slot))) slot heard →
      EachSeat (Hears is_legal B (heard_of B (keep (sends_at B) heard))) heard news →
      a ≡ are_many (keep (sends_at A) slot) → b ≡ are_many (keep (sends_at B) heard) → SlotDone news a b
  all_slot olds news a b q slot heard l1 l2 l3 r1 r2 r3 a' b' =
      let t1 : Each (Took slot_alone Slot) slot = carry (SeatStands is_legal) (Took slot_alone Slot) (SeatSteps is_legal Slot) slot_step olds slot l1 (q.count, q.each) r1 in
      let t2 : Each (Took (more slot_alone A) Slot) heard = heard_all slot_alone A slot heard l2 t1 r2 in
      let t3 : Each (Took (more (more slot_alone A) B) Slot) news = heard_all (more slot_alone A) B heard news l3 t2 r3 in
      record {
        done = (t3.0, λ k. done_at (seat_at news k) (slice_get members k) (t3.1 k));
        on_a = a' ∙ ap are_many (sendings_law slot_alone A slot t1);
        on_b = b' ∙ ap are_many (sendings_law (more slot_alone A) B heard t2);
      }

  -- so the bus stands at the members after it
  stands_at : (x : BusEvent) (o : Option (Seat L)) (m : Option Member) → AtBoth (Done x) o m → AtBoth (SeatStands is_legal) o (option_map (λ n. after_events (events_for members x n) n) m)
  stands_at x None None q = q
  stands_at x None (Some m) q = absurd q
  stands_at x (Some s) None q = absurd q
  stands_at x (Some s) (Some m) q = record { address = q.address; terminal = q.terminal }

  pub done_stands : (x : BusEvent) (news : List (Option (Seat L))) → AllDone x news → SeatsStandAt is_legal (bus_after members x) news
  done_stands x news q = record {
    count = q.0 ∙ sym (length-map members (λ n. after_events (events_for members x n) n));
    each = λ k. subst (λ (m : Option Member). AtBoth (SeatStands is_legal) (seat_at news k) m) (sym (slice_get-map (λ n. after_events (events_for members x n) n) members k)) (stands_at x (seat_at news k) (slice_get members k) (q.1 k));
  }

  answers_at : (x : BusEvent) (o : Option (Seat L)) (n : Option Member) (m : Member) → n ≡ Some m → AtBoth (Done x) o n → actions (kept_at o ∷ []) ≡ actions (answers_in members x m)
  answers_at x o None m e q = cc
  answers_at x None (Some n) m e q = absurd q
  answers_at x (Some s) (Some n) m e q = subst (λ (it : Option Member). elim it as (λ it. Type 0) [ None ↦ Unit {0} | Some p ↦ actions (shown_copy s.answer ∷ []) ≡ actions (answers_in members x p) ]) e q.answer

  pub done_answers : (x : BusEvent) (news : List (Option (Seat L))) → AllDone x news → (k : ℕ) (m : Member) → slice_get members k ≡ Some m →
      actions (kept_at (seat_at news k) ∷ []) ≡ actions (answers_in members x m)
  done_answers x news q k m e = answers_at x (seat_at news k) (slice_get members k) m e (q.1 k)

  -- so far as a vector has the places, and an event is one of the three
  pub stands_after : (x y : BusEvent) (seats news : List (Option (Seat L))) → x ≡ y → seats ≡ news → AllDone y news → SeatsStandAt is_legal (bus_after members x) seats
  stands_after x y seats news e f d =
      subst (λ z. SeatsStandAt is_legal (bus_after members z) seats) (sym e) (subst (λ w. SeatsStandAt is_legal (bus_after members y) w) (sym f) (done_stands y news d))

  pub answers_after : (x y : BusEvent) (seats news : List (Option (Seat L))) → x ≡ y → seats ≡ news → AllDone y news → (k : ℕ) (m : Member) → slice_get members k ≡ Some m →
      actions (kept_at (seat_at seats k) ∷ []) ≡ actions (answers_in members x m)
  answers_after x y seats news e f d k m at =
      ap (λ (w : List (Option (Seat L))). actions (kept_at (seat_at w k) ∷ [])) f ∙ done_answers y news d k m at ∙ ap (λ z. actions (answers_in members z m)) (sym e)

  pub on_bus_lent : (e : Event) (olds lent news : List (Option (Seat L))) → lent ≡ olds → length news ≡ length lent → SeatsStandAt is_legal members olds → EachSeat (SeatSteps is_legal e) lent news → AllDone (OnBus e) news
  on_bus_lent e olds lent news v l q r = all_on_bus e lent news l (subst (λ w. SeatsStandAt is_legal members w) (sym v) q) r

  pub subsystem_lent : (a : ℕ) (e : Event) (olds lent news : List (Option (Seat L))) → lent ≡ olds → length news ≡ length lent → SeatsStandAt is_legal members olds → EachSeat (StepsIfAddressed is_legal a e) lent news → AllDone (Subsystem a e) news
  subsystem_lent a e olds lent news v l q r = all_subsystem a e lent news l (subst (λ w. SeatsStandAt is_legal members w) (sym v) q) r

  pub slot_done : (olds news : List (Option (Seat L))) (many : OnBuses) → SeatsStandAt is_legal members olds → SlotSteps is_legal olds news many → SlotDone news many.a many.b
  slot_done olds news many q s =
      all_slot olds news many.a many.b q s.slot s.a_heard s.length_slot (s.length_a ∙ sym s.length_slot) (s.length_b ∙ sym s.length_a) s.steps s.a_hears s.b_hears s.a_many s.b_many
