-- What is told to be left behind is so; and messages of which none leaves anything behind end in every order as each does alone.
use Rattle.std.proofs.Common.{◌≡◌, ◌<◌, ℕ, zero, suc, Bool, true, false, not, if◌then◌else◌, Option, Some, None, is_some, List, [], ◌∷◌, length, Contains, slice_index_or, arith, refl, ap, subst}
use Rattle.std.specs.Option.{option_map}
use Rattle.bus_word.specs.declared.word.Bus.{Bus}
use Rattle.bus_word.specs.declared.word.Bus.TheVariants.{A, B}
use Rattle.bus_legal.specs.Description.{Description}
use Rattle.terminal_rules.specs.History.{Replying}
use Rattle.terminal_rules.specs.declared.event.Flag.TheVariants.{Busy as BusyFlag}
use Rattle.terminal_rules.specs.Open.{Open, Idle, Collects, Waits, Resumes}
use Rattle.terminal_rules.specs.Reply.{reply_now}
use Rattle.terminal_rules.specs.Flags.{flag_now}
use Rattle.terminal_rules.specs.Starts.{heard_now}
use Rattle.terminal_rules.specs.SinceReset.{off_now}
use Rattle.terminal_rules.specs.Status.{kept_now}
use Rattle.terminal_rules.specs.Past.{open_at}
use Rattle.terminal_bus.specs.declared.event.BusEvent.{BusEvent}
use Rattle.terminal_bus.specs.Members.{Member, play, powered_up}
use Rattle.terminal_bus.specs.Lists.{Each}
use Rattle.terminal_bus.specs.Transfer.{noted_of}
use Rattle.terminal_schedules.specs.declared.left.LeftBehind.{LeftBehind}
use Rattle.terminal_schedules.specs.declared.left.LeftBehind.TheVariants.{Message, WordInRun, Reply, ShutDown, Busy, MessageError}
use Rattle.terminal_schedules.specs.Schedule.{IsClear, CanFollow}
use Rattle.terminal_schedules.specs.Left.{is_idle, first_bus, if_so, first_there, left_among, what_is_left, left_at, first_left, left_alone, LeftTells, EveryOrderLaw}
use Rattle.terminal_schedules.proofs.Law.{alone_decides}

-- nothing is the first of two just if both are nothing
left_none : {X : Type 0} (x y : Option X) → first_there x y ≡ None → x ≡ None
left_none None y e = refl
left_none (Some x) y e = e

right_none : {X : Type 0} (x y : Option X) → first_there x y ≡ None → y ≡ None
right_none None y e = e
right_none (Some x) y e = cc

both_none : {X : Type 0} (x y : Option X) → x ≡ None → y ≡ None → first_there x y ≡ None
both_none x y p q = λ j. first_there (p j) (q j)

map_none : {X Y : Type 0} (f : X → Y) (o : Option X) → option_map f o ≡ None → o ≡ None
map_none f None e = refl
map_none f (Some x) e = cc

so_none : (b : Bool) (x : LeftBehind) → if_so b x ≡ None → b ≡ false
so_none true x e = cc
so_none false x e = refl

bus_none : (test : Bus → Bool) → first_bus test ≡ None → (b : Bus) → test b ≡ false
bus_none test e b = by_tests (test A) (test B) refl refl e b
  where
    by_tests : (p q : Bool) → test A ≡ p → test B ≡ q → (if p then Some A else if q then Some B else None) ≡ None → (b : Bus) → test b ≡ false
    by_tests true q a z e b = cc
    by_tests false true a z e b = cc
    by_tests false false a z e A = a
    by_tests false false a z e B = z

idle_is : (o : Open) → not (is_idle o) ≡ false → (let idle : Open = Idle in o ≡ idle)
idle_is Idle e = refl
idle_is (Collects c after) e = cc
idle_is (Waits c a) e = cc
idle_is (Resumes c after) e = cc

none_is : (r : Option Replying) → is_some r ≡ false → (let none : Option Replying = None in r ≡ none)
none_is None e = refl
none_is (Some r) e = cc

-- nothing is left behind
record AreNone (message run off : Option Bus) (replies busy error : Bool) : Type 0 where
  pub no_message : message ≡ None
  pub no_run : run ≡ None
  pub no_reply : replies ≡ false
  pub all_on : off ≡ None
  pub not_busy : busy ≡ false
  pub no_error : error ≡ false

are_none : (message run off : Option Bus) (replies busy error : Bool) → left_among message run off replies busy error ≡ None → AreNone message run off replies busy error
are_none message run off replies busy error e =
    let five : Option LeftBehind = first_there (if_so busy Busy) (if_so error MessageError) in
    let four : Option LeftBehind = first_there (option_map ShutDown off) five in
    let three : Option LeftBehind = first_there (if_so replies Reply) four in
    let two : Option LeftBehind = first_there (option_map WordInRun run) three in
    let e2 : two ≡ None = right_none (option_map Message message) two e in
    let e3 : three ≡ None = right_none (option_map WordInRun run) three e2 in
    let e4 : four ≡ None = right_none (if_so replies Reply) four e3 in
    let e5 : five ≡ None = right_none (option_map ShutDown off) five e4 in
    record {
      no_message = map_none Message message (left_none (option_map Message message) two e);
      no_run = map_none WordInRun run (left_none (option_map WordInRun run) three e2);
      no_reply = so_none replies Reply (left_none (if_so replies Reply) four e3);
      all_on = map_none ShutDown off (left_none (option_map ShutDown off) five e4);
      not_busy = so_none busy Busy (left_none (if_so busy Busy) (if_so error MessageError) e5);
      no_error = so_none error MessageError (right_none (if_so busy Busy) (if_so error MessageError) e5);
    }

clear_of : (m : Member) → what_is_left m ≡ None → IsClear m
clear_of m e =
    let n = are_none (first_bus (λ b. not (is_idle (open_at m.description m.history b)))) (first_bus (λ b. heard_now m.description (noted_of m) b)) (first_bus (λ b. off_now (noted_of m) b))
    (is_some (reply_now (noted_of m))) (flag_now (noted_of m) BusyFlag) (kept_now m.description (noted_of m)).error e in
    record {
      message = λ b. idle_is (open_at m.description m.history b) (bus_none (λ b. not (is_idle (open_at m.description m.history b))) n.no_message b);
      run = bus_none (λ b. heard_now m.description (noted_of m) b) n.no_run;
      reply = none_is (reply_now (noted_of m)) n.no_reply;
      on = bus_none (λ b. off_now (noted_of m) b) n.all_on;
      free = n.not_busy;
      error = λ q. n.no_error;
    }

nothing_left : (m : Member) → IsClear m → what_is_left m ≡ None
nothing_left m c =
    λ j. left_among (first_bus (λ b. not (is_idle (c.message b j)))) (first_bus (λ b. c.run b j)) (first_bus (λ b. c.on b j)) (is_some (c.reply j)) (c.free j) (c.error refl j)

pub all_clear : (members : List Member) → first_left members ≡ None → Each IsClear members
all_clear [] e = tt
all_clear (m ∷ members) e = (
  clear_of m (map_none (λ what. record { address = m.description.address; what = what }) (what_is_left m) (left_none (left_at m) (first_left members) e)),
  all_clear members (right_none (left_at m) (first_left members) e),
)

none_left : (members : List Member) → Each IsClear members → first_left members ≡ None
none_left [] c = refl
none_left (m ∷ members) c = both_none (left_at m) (first_left members) (ap (option_map (λ what. record { address = m.description.address; what = what })) (nothing_left m c.0)) (none_left members c.1)

pub left_tells : LeftTells
left_tells = record {
  terminal = λ m. (clear_of m, nothing_left m);
  message = λ Ps xs. (all_clear (play (powered_up Ps) xs), none_left (play (powered_up Ps) xs));
}

-- what holds of each element holds of one at a place
each_at : {X : Type 0} (P : X → Type 0) (xs : List X) → Each P xs → (k : ℕ) (d : X) → k < length xs → P (slice_index_or xs k d)
each_at P [] e k d l = absurd (omega (arith, l))
each_at P (x ∷ xs) e zero d l = e.0
each_at P (x ∷ xs) e (suc k) d l = each_at P xs e.1 k d (omega (arith, l))

follows : (Ps : List Description) (messages schedule : List (List BusEvent)) → Each (λ xs. left_alone Ps xs ≡ None) messages → Each (Contains messages) schedule → Each (CanFollow true Ps) schedule
follows Ps messages [] left has = tt
follows Ps messages (xs ∷ schedule) left has = (
  record {
    leaves = all_clear (play (powered_up Ps) xs) (subst (λ ys. left_alone Ps ys ≡ None) has.0.2 (each_at (λ ys. left_alone Ps ys ≡ None) messages left has.0.0 xs has.0.1));
    asks = λ e. cc;
  },
  follows Ps messages schedule left has.1,
)

pub every_order_law : EveryOrderLaw
every_order_law Ps messages differ low left schedule has = alone_decides true Ps schedule differ low (follows Ps messages schedule left has)
