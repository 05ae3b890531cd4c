-- What breaks the discipline, by the places of a bus and by its members.
use Rattle.std.proofs.Common.{◌≡◌, ℕ, Bool, true, false, not, ◌&&◌, ◌||◌, is_some, is_none, if◌then◌else◌, Option, Some, None, List, [], ◌∷◌, slice_get, refl, ap, sym, ◌∙◌}
use Rattle.std.specs.Option.{option_map}
use Rattle.bus_word.specs.declared.word.Bus.{Bus}
use Rattle.bus_word.specs.declared.cell.Cell.{Cell}
use Rattle.bus_word.specs.Word.{is_command}
use Rattle.bus_word.specs.Command.{address_of}
use Rattle.bus_legal.specs.Description.{Description}
use Rattle.terminal_rules.specs.declared.event.Event.{Event}
use Rattle.terminal_rules.specs.declared.event.Event.TheVariants.{Word, Noise, Gap, Write, Vector, Bit, Flag as FlagIs, Slot}
use Rattle.terminal_rules.specs.LookBack.{keep, some}
use Rattle.terminal_rules.specs.Open.{Open, Idle, Collects, Waits, Resumes}
use Rattle.terminal_state.specs.declared.reply.Reply.{Reply}
use Rattle.terminal_state.specs.Standing.{standing_of}
use Rattle.terminal_state.specs.Replies.{shown_reply}
use Rattle.terminal_bus.specs.declared.seat.Seat.{Seat}
use Rattle.terminal_bus.specs.declared.discipline.Breach.{Breach}
use Rattle.terminal_bus.specs.declared.discipline.Breach.TheVariants.{GapDuringReply, CommandToAwaited}
use Rattle.terminal_bus.specs.Members.{Member}
use Rattle.terminal_bus.specs.Discipline.{replies, awaits, awaits_address, has_address, may_put}
use Rattle.terminal_bus.specs.Breaches.{replier, breach}
use Rattle.terminal_bus.specs.AtMembers.{seat_at, AtBoth, SeatStands, SeatsStandAt}
use Rattle.terminal_bus.specs.inner.Seats.{is_addressed}
use Rattle.terminal_bus.specs.inner.Replying.{replier_at, awaits_in, awaits_at, places_breach}
use Rattle.terminal_bus.proofs.Together.{over, keep_alike}
use Rattle.terminal_bus.proofs.Places.{whether, some_alike, some_addressed}

shown_some : (r : Option Reply) → is_some (shown_reply r) ≡ is_some r
shown_some None = refl
shown_some (Some r) = refl

awaits_standing : (P : Description) (a : ℕ) (o : Open) → awaits_in a (standing_of P o) ≡ awaits_address a o
awaits_standing P a Idle = refl
awaits_standing P a (Collects c after) = refl
awaits_standing P a (Waits c d) = refl
awaits_standing P a (Resumes c after) = refl

module _ {L : Type 0} (is_legal : L → Cell → Bool) (members : List Member) where
  replier_law : (o : Option (Seat L)) (m : Option Member) → AtBoth (SeatStands is_legal) o m → replier_at o ≡ over replier m
  replier_law None None q = refl
  replier_law None (Some m) q = absurd q
  replier_law (Some s) None q = absurd q
  replier_law (Some s) (Some m) q =
      λ j. if (sym (shown_some s.terminal.reply) ∙ ap is_some q.terminal.reply) j then Some (q.address j) else None

  awaits_law : (b : Bus) (a : ℕ) (o : Option (Seat L)) (m : Option Member) → AtBoth (SeatStands is_legal) o m → awaits_at b a o ≡ whether (awaits b a) m
  awaits_law b a None None q = refl
  awaits_law b a None (Some m) q = absurd q
  awaits_law b a (Some s) None q = absurd q
  awaits_law b a (Some s) (Some m) q = ap (awaits_in a) (q.terminal.standing b) ∙ awaits_standing m.description a _

  pub breach_law : (seats : List (Option (Seat L))) → SeatsStandAt is_legal members seats → (e : Event) → places_breach seats e ≡ breach members e
  breach_law seats q (Word b w) =
      let a : ℕ = address_of w.bits in
      let addressed : some (is_addressed a) seats ≡ some (has_address a) members = some_addressed is_legal members a seats q in
      let awaited : some (awaits_at b a) seats ≡ some (awaits b a) members =
      some_alike (awaits_at b a) (awaits b a) seats members q.count (λ k. awaits_law b a (seat_at seats k) (slice_get members k) (q.each k)) in
      λ j. if is_command w && (addressed j && awaited j) then Some (CommandToAwaited a) else None
  breach_law seats q (Noise b) = refl
  breach_law seats q (Gap b) =
      let law : keep replier_at seats ≡ keep replier members = keep_alike replier_at replier seats members q.count (λ k. replier_law (seat_at seats k) (slice_get members k) (q.each k)) in
      λ j. option_map (λ a. GapDuringReply a) (slice_get (law j) 0)
  breach_law seats q (Write p v) = refl
  breach_law seats q (Vector v) = refl
  breach_law seats q (Bit v) = refl
  breach_law seats q (FlagIs f v) = refl
  breach_law seats q Slot = refl

-- by whether a word breaks something
pub broken : (i : Bool) (x : Breach) → i ≡ true → (if i then Some x else None) ≡ Some x
broken true x e = refl
broken false x e = cc

pub kept_to : (i : Bool) (x : Breach) → i ≡ false → (let none : Option Breach = None in (if i then Some x else None) ≡ none)
kept_to true x e = cc
kept_to false x e = refl

-- nothing is broken exactly if the event is allowed
none_if : (i : Bool) (x : Breach) → is_none (if i then Some x else None) ≡ not i
none_if true x = refl
none_if false x = refl

none_replies : (ms : List Member) → is_none (option_map (λ a. GapDuringReply a) (slice_get (keep replier ms) 0)) ≡ not (some replies ms)
none_replies [] = refl
none_replies (m ∷ ms) =
    elim (replies m) as (λ r. is_none (option_map (λ a. GapDuringReply a) (slice_get (elim (if r then Some m.description.address else None) [ None ↦ keep replier ms | Some y ↦ y ∷ keep replier ms ]) 0)) ≡ not (r || some replies ms)) [
      | true ↦ refl
      | false ↦ none_replies ms
    ]

pub allowed_law : (members : List Member) (e : Event) → is_none (breach members e) ≡ may_put members e
allowed_law members (Word b w) = none_if _ (CommandToAwaited (address_of w.bits))
allowed_law members (Noise b) = refl
allowed_law members (Gap b) = none_replies members
allowed_law members (Write p v) = refl
allowed_law members (Vector v) = refl
allowed_law members (Bit v) = refl
allowed_law members (FlagIs f v) = refl
allowed_law members Slot = refl
