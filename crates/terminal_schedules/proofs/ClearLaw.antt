-- What is left behind by what happens on a bus whose terminals are clear is what it leaves behind alone from power-up.
use Rattle.std.proofs.Common.{◌≡◌, ◌≤◌, ◌∙◌, Bool, true, false, not, Option, Some, None, IfNone, is_some, List, [], ◌∷◌, refl, ap, sym, subst}
use Rattle.bus_word.specs.declared.cell.Cell.{Cell}
use Rattle.bus_legal.specs.Description.{Description}
use Rattle.terminal_rules.specs.declared.event.Event.{Event}
use Rattle.terminal_rules.specs.Open.{Open, Idle, Collects, Waits, Resumes}
use Rattle.terminal_rules.specs.Past.{open_at}
use Rattle.terminal_bus.specs.declared.bus.TerminalBus.{TerminalBus}
use Rattle.terminal_bus.specs.declared.event.BusEvent.{BusEvent}
use Rattle.terminal_bus.specs.Members.{Member, member_at, play}
use Rattle.terminal_bus.specs.AtMembers.{BusStandsAt}
use Rattle.terminal_bus.specs.Lists.{Each}
use Rattle.terminal_bus.specs.OneSpeaker.{AddressesDiffer}
use Rattle.terminal_schedules.specs.declared.left.LeftBehind.{LeftBehind}
use Rattle.terminal_schedules.specs.declared.left.LeftAt.{LeftAt}
use Rattle.terminal_schedules.specs.Schedule.{IsClear}
use Rattle.terminal_schedules.specs.Left.{is_idle, first_bus, left_among, what_is_left, left_there, left_at, first_there, first_left, left_alone, IsClearBus}
use Rattle.terminal_schedules.proofs.Seen.{seen_open}
use Rattle.terminal_schedules.proofs.Step.{Shape, shape, idle_seen}
use Rattle.terminal_schedules.proofs.Twins.{Twin, first, second, firsts, seconds, AlikeTwin, AreAlike}
use Rattle.terminal_schedules.proofs.Law.{twins_play, firsts_play, seconds_play, any_data, play_alike, descriptions, twins_of, firsts_of, seconds_of, twins_alike, play_same}
use Rattle.terminal_schedules.proofs.OrderLaw.{all_clear}

-- what is left at a terminal, by what decides
abbrev shape_left : Shape → Option LeftBehind
shape_left s = left_among (first_bus (λ b. not (idle_seen (s.message b)))) (first_bus s.heard) (first_bus s.off) (is_some s.reply) s.busy s.error

same_idle : (P : Description) (o : Open) → is_idle o ≡ idle_seen (seen_open false P o)
same_idle P Idle = refl
same_idle P (Collects c after) = refl
same_idle P (Waits c a) = refl
same_idle P (Resumes c after) = refl

left_by_shape : (P : Description) (h : List Event) → what_is_left (member_at P h) ≡ shape_left (shape false P h)
left_by_shape P h =
    let s : Shape = shape false P h in
    λ j. left_among (first_bus (λ b. not (same_idle P (open_at P h b) j))) (first_bus s.heard) (first_bus s.off) (is_some s.reply) s.busy s.error

same_left : (t : Twin) → AlikeTwin false true t → left_at (first t) ≡ left_at (second t)
same_left t a = ap (left_there t.description.address) (left_by_shape t.description t.one ∙ (ap shape_left a ∙ sym (left_by_shape t.description t.two)))

same_first : (ts : List Twin) → Each (AlikeTwin false true) ts → first_left (firsts ts) ≡ first_left (seconds ts)
same_first [] a = refl
same_first (t ∷ ts) a = λ j. first_there (same_left t a.0 j) (same_first ts a.1 j)

abbrev Low : List Description → Type 0
Low Ps = Each (λ P. P.address ≤ 30) Ps

left_anywhere : (ms : List Member) (xs : List BusEvent) → AddressesDiffer (descriptions ms) → Low (descriptions ms) → Each IsClear ms → first_left (play ms xs) ≡ left_alone (descriptions ms) xs
left_anywhere ms xs differ low clear =
    let ts : List Twin = twins_play (twins_of ms) xs in
    let a : AreAlike false true ts = play_alike false true (twins_of ms) xs (twins_alike false true ms differ low clear) (any_data (seconds (twins_of ms)) xs) (λ q. cc) in
    ap first_left (ap (λ ns. play ns xs) (sym (firsts_of ms)) ∙ firsts_play (twins_of ms) xs)
    ∙ (same_first ts a.alike ∙ sym (ap first_left (ap (λ ns. play ns xs) (sym (seconds_of ms)) ∙ seconds_play (twins_of ms) xs)))

pub if_none_is : {X : Type 0} (o : Option X) (Q : Type 0) → (o ≡ None → Q) → IfNone o Q
if_none_is None Q f = f refl
if_none_is (Some x) Q f = tt

module _ {L : Type 0} (is_legal : L → Cell → Bool) (Ps : List Description) (xs : List BusEvent) (bus more : TerminalBus L) (left : Option LeftAt) where
  pub left_as_alone : AddressesDiffer Ps → Low Ps → (c : IsClearBus is_legal Ps bus) → BusStandsAt is_legal (play c.members xs) more → ((members : List Member) → BusStandsAt is_legal members more → left ≡ first_left members) →
      left ≡ left_alone Ps xs
  left_as_alone differ low c stands told =
      told (play c.members xs) stands
      ∙ subst (λ Qs. AddressesDiffer Qs → Low Qs → first_left (play c.members xs) ≡ left_alone Qs xs) c.same (λ d l. left_anywhere c.members xs d l c.clear) differ low

  pub clear_again : left ≡ None → (c : IsClearBus is_legal Ps bus) → BusStandsAt is_legal (play c.members xs) more → ((members : List Member) → BusStandsAt is_legal members more → left ≡ first_left members) → IsClearBus is_legal Ps more
  clear_again none c stands told = record {
    members = play c.members xs;
    stands = stands;
    same = play_same c.members xs ∙ c.same;
    clear = all_clear (play c.members xs) (sym (told (play c.members xs) stands) ∙ none);
  }
