-- What is left behind on a bus of terminals, place by place.
use Rattle.std.proofs.Common.{◌≡◌, ◌<◌, ◌≤◌, ◌+◌, ℕ, zero, suc, Bool, Option, Some, None, List, [], ◌∷◌, ◌++◌, length, drop, take, slice_get, get_or, unwrap_or, is_some, true, false, arith, refl, ap, sym, subst, ◌∙◌}
use Rattle.std.specs.Option.{option_map}
use Rattle.std.proofs.lemmas.List.{drop_all, take_more}
use Rattle.bus_word.specs.declared.cell.Cell.{Cell}
use Rattle.bus_terminal.specs.declared.terminal.Terminal.{Terminal}
use Rattle.bus_terminal.specs.Stands.{StandsAt}
use Rattle.terminal_bus.specs.declared.event.BusEvent.{BusEvent}
use Rattle.terminal_bus.specs.declared.seat.Seat.{Seat}
use Rattle.terminal_bus.specs.Members.{Member, bus_after, play}
use Rattle.terminal_bus.specs.AtMembers.{AtBoth, SeatStands, IsTerminalAt, member_address}
use Rattle.terminal_schedules.specs.declared.left.LeftAt.{LeftAt}
use Rattle.terminal_schedules.specs.Left.{first_there, left_at, first_left}

-- the terminal of a place stands at the member there
module _ {L : Type 0} (is_legal : L → Cell → Bool) (m : Member) where
  pub terminal_there : (o : Option (Seat L)) (at : Option Member) (t : Terminal L) → at ≡ Some m → AtBoth (SeatStands is_legal) o at → IsTerminalAt is_legal o (Some t) → StandsAt is_legal m.description m.history t
  terminal_there o at t is both there = stands o (subst (λ n. AtBoth (SeatStands is_legal) o n) is both) there
    where
      stands : (o : Option (Seat L)) → AtBoth (SeatStands is_legal) o (Some m) → IsTerminalAt is_legal o (Some t) → StandsAt is_legal m.description m.history t
      stands None both there = absurd both
      stands (Some seat) both there = there.stands m.description m.history both.terminal

pub address_there : (members : List Member) (k a : ℕ) (m : Member) → slice_get members k ≡ Some m → Some a ≡ member_address members k → a ≡ m.description.address
address_there members k a m at is = ap (λ o. unwrap_or o 0) (is ∙ ap (option_map (λ (n : Member). n.description.address)) at)

-- an element at its place
pub record MemberAt (members : List Member) (k : ℕ) : Type 0 where
  pub it : Member
  pub at : slice_get members k ≡ Some it
  pub rest : drop k members ≡ it ∷ drop (k + 1) members

pub member_there : (members : List Member) (k : ℕ) → k < length members → MemberAt members k
member_there [] k within = absurd (omega (arith, within))
member_there (m ∷ members) zero within = record { it = m; at = refl; rest = refl }
member_there (m ∷ members) (suc k) within =
    let there = member_there members k (omega (arith, within)) in
    let next : suc (k + 1) ≡ suc k + 1 = omega arith in
    record { it = there.it; at = there.at; rest = there.rest ∙ ap (λ i. there.it ∷ drop i (m ∷ members)) next }

some_first : {X : Type 0} (x y : Option X) → is_some x ≡ true → first_there x y ≡ x
some_first None y e = cc
some_first (Some x) y e = refl

none_first : {X : Type 0} (x y : Option X) → is_some x ≡ false → first_there x y ≡ y
none_first None y e = refl
none_first (Some x) y e = cc

-- of the places from k on, the first is left out if nothing is left there
pub left_here : (members : List Member) (k : ℕ) (there : MemberAt members k) (left : Option LeftAt) → left ≡ left_at there.it → is_some left ≡ true →
    first_left (drop k members) ≡ first_left members → left ≡ first_left members
left_here members k there left is some before =
    is ∙ (sym (some_first (left_at there.it) (first_left (drop (k + 1) members)) (ap is_some (sym is) ∙ some)) ∙ (ap first_left (sym there.rest) ∙ before))

pub left_later : (members : List Member) (k : ℕ) (there : MemberAt members k) (left : Option LeftAt) → left ≡ left_at there.it → is_some left ≡ false →
    first_left (drop k members) ≡ first_left members → first_left (drop (k + 1) members) ≡ first_left members
left_later members k there left is none before =
    sym (none_first (left_at there.it) (first_left (drop (k + 1) members)) (ap is_some (sym is) ∙ none)) ∙ (ap first_left (sym there.rest) ∙ before)

pub left_nowhere : (members : List Member) (k : ℕ) → length members ≤ k → first_left (drop k members) ≡ first_left members → None ≡ first_left members
left_nowhere members k past before = ap first_left (sym (drop_all k members past)) ∙ before

-- ---- one event more

play_more : (members : List Member) (xs : List BusEvent) (x : BusEvent) → play members (xs ++ x ∷ []) ≡ bus_after (play members xs) x
play_more members [] x = refl
play_more members (y ∷ ys) x = play_more (bus_after members y) ys x

pub played_more : (members : List Member) (xs : List BusEvent) (i : ℕ) (d : BusEvent) → i < length xs → bus_after (play members (take i xs)) (get_or xs i d) ≡ play members (take (i + 1) xs)
played_more members xs i d within = sym (ap (play members) (take_more xs i d within) ∙ play_more members (take i xs) (get_or xs i d))
