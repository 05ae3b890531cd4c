-- A terminal that joins a bus or is taken from it is set up as its own profile says, and goes on as it did.
use Rattle.std.proofs.Common.{◌≡◌, ◌∙◌, ℕ, zero, suc, Option, Some, None, Result, Ok, Err, OnOk, OnErr, List, [], ◌∷◌, ◌++◌, refl, ap, sym, subst}
use Rattle.bus_legal.specs.Parts.{Parts, description_in}
use Rattle.bus_legal.specs.Tables.{tables_say}
use Rattle.terminal_rules.specs.Out.{Silence}
use Rattle.bus_terminal.specs.declared.terminal.Terminal.{Terminal}
use Rattle.bus_terminal.specs.Stands.{StandsAt, own_description}
use Rattle.terminal_bus.specs.declared.seat.Seat.{Seat}
use Rattle.terminal_bus.specs.declared.bus.TerminalBus.{TerminalBus}
use Rattle.terminal_bus.specs.declared.bus.NotAdded.{NotAdded}
use Rattle.terminal_bus.specs.Members.{Member}
use Rattle.terminal_bus.specs.AtMembers.{seat_at, AtBoth, SeatStands, IsBehind, IsTerminalAt}
use Rattle.rt1553_live.specs.State.{IsMade}
use Rattle.rt1553_live.specs.PlainAnswer.{answer_in}
use Rattle.rt1553_live.specs.declared.terminal.Live.{Live}
use Rattle.live_bus.specs.LiveBus.{IsTaken}
use Rattle.live_bus.specs.Made.{EachIsMade}

abbrev MadeAt : Option (Seat Parts) → Type 0
MadeAt o = (s : Seat Parts) → o ≡ Some s → IsMade s.terminal

made_seat : (s t : Seat Parts) → s ≡ t → IsMade s.terminal → IsMade t.terminal
made_seat s t e m = subst (λ (x : Seat Parts). IsMade x.terminal) e m

-- a terminal that has the legality and the description of another
pub record IsSame (t u : Terminal Parts) : Type 0 where
  pub legality : u.legality ≡ t.legality
  pub description : own_description (λ (normal : Parts). tables_say normal.tables) u ≡ own_description (λ (normal : Parts). tables_say normal.tables) t

made_like : (t u : Terminal Parts) → IsSame t u → IsMade t → IsMade u
made_like t u r m = r.description ∙ (m ∙ sym (ap (λ l. description_in l) r.legality))

-- of a bus with one more
append_made : (xs : List (Option (Seat Parts))) (s : Seat Parts) → IsMade s.terminal → ((k : ℕ) → MadeAt (seat_at xs k)) → (k : ℕ) → MadeAt (seat_at (xs ++ Some s ∷ []) k)
append_made [] s m made zero t at = let here : s ≡ t = cc in made_seat s t here m
append_made [] s m made (suc k) t at = cc
append_made (x ∷ xs) s m made zero t at = made 0 t at
append_made (x ∷ xs) s m made (suc k) t at = append_made xs s m (λ j. made (suc j)) k t at

pub joined_made : (t : Terminal Parts) (old new : TerminalBus Parts) → IsBehind t old new → IsMade t → EachIsMade old → EachIsMade new
joined_made t old new b m made k s at =
    append_made old.seats.items b.seat (subst (λ (x : Terminal Parts). IsMade x) (sym b.terminal) m) made k s (sym (ap (λ (seats : List (Option (Seat Parts))). seat_at seats k) b.seats) ∙ at)

-- of a bus that was joined, or not
pub after_join : (res : Result Prim.Unit NotAdded) (t u : Terminal Parts) (old new : TerminalBus Parts) → OnOk res (IsBehind t old new) → OnErr res (new ≡ old) →
    IsSame u t → IsMade u → EachIsMade old → EachIsMade new
after_join (Ok done) t u old new b e same m made = joined_made t old new b (made_like u t same m) made
after_join (Err why) t u old new b e same m made = subst (λ (bus : TerminalBus Parts). EachIsMade bus) (sym e) made

-- it goes on as the member
pub taken_goes_on : (o : Option (Seat Parts)) (m : Option Member) (t : Terminal Parts) (it : Live) → it.terminal ≡ t → answer_in it.answer ≡ Some Silence →
    AtBoth (SeatStands (λ (normal : Parts). tables_say normal.tables)) o m → IsTerminalAt (λ (normal : Parts). tables_say normal.tables) o (Some t) → IsTaken m (Some it)
taken_goes_on None m t it e silent q r = absurd r
taken_goes_on (Some s) None t it e silent q r = absurd q
taken_goes_on (Some s) (Some m) t it e silent q r = (
  record {
    own = m.description;
    stands = subst (λ (u : Terminal Parts). StandsAt (λ (normal : Parts). tables_say normal.tables) m.description m.history u) (sym e) (r.stands m.description m.history q.terminal);
    alike = λ past x. refl;
    made = it.made;
  },
  silent,
)
