-- What a bus does leaves the legality and the description of each terminal as they are.
use Rattle.std.proofs.Common.{◌≡◌, Bool, Option, Some, None, List, sym, subst, ◌∙◌}
use Rattle.bus_word.specs.declared.word.Bus.TheVariants.{A, B}
use Rattle.bus_word.specs.declared.cell.Cell.{Cell}
use Rattle.terminal_rules.specs.declared.event.Event.TheVariants.{Slot}
use Rattle.terminal_rules.specs.LookBack.{keep}
use Rattle.terminal_state.specs.declared.buses.OnBuses.{OnBuses}
use Rattle.terminal_bus.specs.declared.seat.Seat.{Seat}
use Rattle.terminal_bus.specs.Members.{heard_of}
use Rattle.terminal_bus.specs.AtMembers.{AtSeat, EachSeat, IsSameTerminal, seat_at}
use Rattle.terminal_bus.specs.inner.Seats.{SeatSteps, Hears, SlotSteps, sends_at}

module _ {L : Type 0} (is_legal : L → Cell → Bool) where
  -- what is so of each place by one relation is so by another
  pub each_gives : (R R' : Seat L → Seat L → Type 0) → ((s t : Seat L) → R s t → R' s t) → (olds news : List (Option (Seat L))) → EachSeat R olds news → EachSeat R' olds news
  each_gives R R' give olds news r k = at (seat_at olds k) (seat_at news k) (r k)
    where
      at : (o n : Option (Seat L)) → AtSeat R o n → AtSeat R' o n
      at None None q = q
      at None (Some t) q = q
      at (Some s) None q = q
      at (Some s) (Some t) q = give s t q

  same_then : (xs ys zs : List (Option (Seat L))) → EachSeat (IsSameTerminal is_legal) xs ys → EachSeat (IsSameTerminal is_legal) ys zs → EachSeat (IsSameTerminal is_legal) xs zs
  same_then xs ys zs q r k = at (seat_at xs k) (seat_at ys k) (seat_at zs k) (q k) (r k)
    where
      at : (x y z : Option (Seat L)) → AtSeat (IsSameTerminal is_legal) x y → AtSeat (IsSameTerminal is_legal) y z → AtSeat (IsSameTerminal is_legal) x z
      at None None z q r = r
      at None (Some t) z q r = absurd q
      at (Some s) None z q r = absurd q
      at (Some s) (Some t) None q r = r
      at (Some s) (Some t) (Some u) q r = record { legality = r.legality ∙ q.legality; description = r.description ∙ q.description }

  -- the places of a vector, which were lent and written back
  pub same_lent : (R : Seat L → Seat L → Type 0) → ((s t : Seat L) → R s t → IsSameTerminal is_legal s t) → (olds lent news seats : List (Option (Seat L))) →
      lent ≡ olds → seats ≡ news → EachSeat R lent news → EachSeat (IsSameTerminal is_legal) olds seats
  same_lent R give olds lent news seats v f r =
      subst (λ w. EachSeat (IsSameTerminal is_legal) olds w) (sym f) (subst (λ w. EachSeat (IsSameTerminal is_legal) w news) v (each_gives R (IsSameTerminal is_legal) give lent news r))

  pub same_slot : (olds news : List (Option (Seat L))) (many : OnBuses) → SlotSteps is_legal olds news many → EachSeat (IsSameTerminal is_legal) olds news
  same_slot olds news many s =
      same_then olds s.slot news (each_gives (SeatSteps is_legal Slot) (IsSameTerminal is_legal) (λ x y r. r.same) olds s.slot s.steps)
      (same_then s.slot s.a_heard news
      (each_gives (Hears is_legal A (heard_of A (keep (sends_at A) s.slot))) (IsSameTerminal is_legal) (λ x y r. r.same) s.slot s.a_heard s.a_hears)
      (each_gives (Hears is_legal B (heard_of B (keep (sends_at B) s.a_heard))) (IsSameTerminal is_legal) (λ x y r. r.same) s.a_heard news s.b_hears))
