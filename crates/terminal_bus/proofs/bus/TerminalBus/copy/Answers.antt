use Rattle.std.proofs.Common.{◌≡◌, ◌+◌, ◌∷◌, [], ◌++◌, ◌<◌, ◌≤◌, Option, List, length, take, arith, ap, sym, subst, ◌∙◌}
use Rattle.std.proofs.lemmas.List.{length-take-le, take_more, take_all}
use Rattle.terminal_bus.specs.declared.seat.Seat.{Seat}
use Rattle.terminal_bus.specs.AtMembers.{IsSameTerminal, EachSeat}
use Rattle.terminal_bus.specs.inner.Seats.{Stays}
use Rattle.terminal_bus.proofs.Places.{each_append}
use Rattle.terminal_bus.proofs.Same.{each_gives}
use Rattle.terminal_bus.proofs.Together.{all_stay}
use Rattle.terminal_bus.proofs.bus.TerminalBus.copy.Goals as goal

pub loop-place-preserved : goal.loop-place-preserved
loop-place-preserved g c =
    let olds = c.as_slice-places.result.now in let i = c.loop-place.place-index in let news = c.loop-place.seats.items in
    let within : i < length olds = c.loop-place-test.true in
    let count : length news ≡ length (take i olds) = c.loop-place.invariant.0 ∙ sym (length-take-le i olds (omega (arith, within))) in
    let each : EachSeat (Stays g.L.Legality.is_legal) (take i olds ++ c.place-item.result ∷ []) (news ++ c.place_copy.result ∷ []) =
    each_append (Stays g.L.Legality.is_legal) (take i olds) news c.place-item.result c.place_copy.result count c.loop-place.invariant.1 c.place_copy.ensures in
    let front : take (i + 1) olds ≡ take i olds ++ c.place-item.result ∷ [] = take_more olds i c.place-item.result within ∙ ap (λ (p : Option (Seat g.row.L.Denot)). take i olds ++ p ∷ []) (sym c.place-item.is) in (
      c.push.ensures.len ∙ ap (λ n. n + 1) c.loop-place.invariant.0,
      subst (λ (os : List (Option (Seat g.row.L.Denot))). EachSeat (Stays g.L.Legality.is_legal) os c.push.new.self.items) (sym front)
          (subst (λ (ns : List (Option (Seat g.row.L.Denot))). EachSeat (Stays g.L.Legality.is_legal) (take i olds ++ c.place-item.result ∷ []) ns) (sym c.push.ensures.items) each),
    )

pub returns-clause-stands : goal.returns-clause-stands
returns-clause-stands g c members s =
    let olds = c.as_slice-places.result.now in let i = c.loop-place.place-index in
    let past : length olds ≤ i = c.loop-place-test.false in
    let end : i ≤ length olds = c.loop-place.auto.place-index-end in
    let all : take i olds ≡ c.args.self.now.seats.items = take_all i olds past ∙ c.as_slice-places.ensures.value in
    let count : length c.loop-place.seats.items ≡ length c.args.self.now.seats.items = c.loop-place.invariant.0 ∙ (omega (arith, past, end)) ∙ ap length c.as_slice-places.ensures.value in
    all_stay g.L.Legality.is_legal members c.args.self.now.seats.items c.loop-place.seats.items count s
    (subst (λ (os : List (Option (Seat g.row.L.Denot))). EachSeat (Stays g.L.Legality.is_legal) os c.loop-place.seats.items) all c.loop-place.invariant.1)

pub returns-clause-same : goal.returns-clause-same
returns-clause-same g c =
    let olds = c.as_slice-places.result.now in let i = c.loop-place.place-index in
    let past : length olds ≤ i = c.loop-place-test.false in
    let all : take i olds ≡ c.args.self.now.seats.items = take_all i olds past ∙ c.as_slice-places.ensures.value in
    each_gives g.L.Legality.is_legal (Stays g.L.Legality.is_legal) (IsSameTerminal g.L.Legality.is_legal) (λ x y r. r.same) c.args.self.now.seats.items c.loop-place.seats.items
    (subst (λ (os : List (Option (Seat g.row.L.Denot))). EachSeat (Stays g.L.Legality.is_legal) os c.loop-place.seats.items) all c.loop-place.invariant.1)
