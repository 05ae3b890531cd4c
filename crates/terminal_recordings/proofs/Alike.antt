-- Two noted histories of a terminal that differ in what its subsystem did, where the one that comes later shows the flags.
use Rattle.std.proofs.Common.{◌≡◌, ℕ, ◌+◌, ◌*◌, ◌/◌, ◌%◌, ◌≤◌, Bool, true, false, not, ◌&&◌, ◌==◌, if◌then◌else◌, ◌⊎◌, inl, inr, Option, Some, None, refl, ap, sym, ◌∙◌, arith}
use Rattle.bus_word.specs.declared.status.StatusParts.{StatusParts}
use Rattle.bus_word.specs.declared.word.Bus.{Bus}
use Rattle.bus_word.specs.declared.cell.Cell.{Cell}
use Rattle.bus_word.specs.Status.{mask_if, status_word}
use Rattle.bus_legal.specs.Description.{Description}
use Rattle.terminal_rules.specs.declared.event.Flag.{Flag}
use Rattle.terminal_rules.specs.declared.event.Flag.TheVariants.{Service, Busy, Subsystem, Terminal}
use Rattle.terminal_rules.specs.History.{Replying, Ending, Nothing, Badly, Illegal, Blocked, Done}
use Rattle.terminal_rules.specs.Reply.{reply_bus}
use Rattle.terminal_rules.specs.LookBack.{or_else}
use Rattle.terminal_rules.specs.SinceReset.{code_in, switched}
use Rattle.terminal_rules.specs.Status.{with_error_if, accepts, inhibited_after, reports_kept, spares, kept_by_start, later_or, adds_error}
use Rattle.terminal_rules.specs.Steps.{reset_first, kept_after, unless_reset}
use Rattle.terminal_recordings.specs.Completion.{flag_bit}
use Rattle.terminal_recordings.proofs.Endings.{flagged, kept_of}
use Rattle.terminal_recordings.proofs.Summary.{Summary, kept_new}

-- the terminal flag is inhibited in the first where it is in the second
abbrev pub Implies : Bool → Bool → Type 0
Implies a b = a ≡ true → b ≡ true

implied_still : (o : Option Bool) (a b : Bool) → Implies a b → Implies (or_else o a) (or_else o b)
implied_still None a b p = p
implied_still (Some c) a b p = λ e. e

pub implied_after : (reset : Bool) (o : Option Bool) (a b : Bool) → Implies a b → Implies (unless_reset reset false o a) (unless_reset reset false o b)
implied_after true o a b p = λ e. e
implied_after false o a b p = implied_still o a b p

-- two kept statuses that were set at once, by other flags: those of the second are f
pub record SetApart (f : Flag → Bool) (k l : StatusParts) : Type 0 where
  pub error : Bool
  pub broadcast : Bool
  pub accept : Bool
  pub inhibited_left : Bool
  pub inhibited_right : Bool
  pub inhibits : Implies inhibited_right inhibited_left
  pub flags : Flag → Bool
  pub left : k ≡ flagged error broadcast accept inhibited_left flags
  pub right : l ≡ flagged error broadcast accept inhibited_right f

-- two kept statuses are the same, or were set at once
abbrev pub KeptAlike : (Flag → Bool) → StatusParts → StatusParts → Type 0
KeptAlike f k l = (k ≡ l) ⊎ SetApart f k l

with_error : (f : Flag → Bool) (k l : StatusParts) → KeptAlike f k l → KeptAlike f (with_error_if true k) (with_error_if true l)
with_error f k l (inl e) = inl (ap (with_error_if true) e)
with_error f k l (inr a) = inr (record {
  error = true;
  broadcast = a.broadcast;
  accept = a.accept;
  inhibited_left = a.inhibited_left;
  inhibited_right = a.inhibited_right;
  inhibits = a.inhibits;
  flags = a.flags;
  left = ap (with_error_if true) a.left;
  right = ap (with_error_if true) a.right;
})

set_apart : (f g : Flag → Bool) (error broadcast accept i j : Bool) → Implies j i → KeptAlike f (flagged error broadcast accept i g) (flagged error broadcast accept j f)
set_apart f g error broadcast accept i j n =
    inr (record { error = error; broadcast = broadcast; accept = accept; inhibited_left = i; inhibited_right = j; inhibits = n; flags = g; left = refl; right = refl })

by_spared : (f g : Flag → Bool) (c b i j : Bool) (spared : Bool) (k l : StatusParts) → Implies j i → KeptAlike f k l →
    KeptAlike f
    (kept_after (if spared then None else Some (flagged true b c i g)) spared k)
    (kept_after (if spared then None else Some (flagged true b c j f)) spared l)
by_spared f g c b i j true k l n a = with_error f k l a
by_spared f g c b i j false k l n a = set_apart f g true b c i j n

by_reported : (f g : Flag → Bool) (c b i j : Bool) (reported : Bool) (k l : StatusParts) → Implies j i → KeptAlike f k l →
    KeptAlike f
    (kept_after (if reported then None else Some (flagged false b c i g)) false k)
    (kept_after (if reported then None else Some (flagged false b c j f)) false l)
by_reported f g c b i j true k l n a = a
by_reported f g c b i j false k l n a = set_apart f g false b c i j n

by_end : (P : Description) (f g : Flag → Bool) (i j : Bool) (x : Ending) (k l : StatusParts) → Implies j i → KeptAlike f k l →
    KeptAlike f (kept_after (kept_of P g i x) (adds_error P x) k) (kept_after (kept_of P f j x) (adds_error P x) l)
by_end P f g i j Nothing k l n a = a
by_end P f g i j (Badly c) k l n a = by_spared f g false _ i j (spares P c) k l n a
by_end P f g i j (Illegal c) k l n a = set_apart f g true _ false i j n
by_end P f g i j (Blocked c cell) k l n a = set_apart f g false _ false i j n
by_end P f g i j (Done c cell ds) k l n a =
    by_reported f g (accepts P.accept cell) _ (inhibited_after i cell) (inhibited_after j cell) (reports_kept cell) k l (implied_still (switched 6 7 (code_in cell)) j i n) a

-- and so they stay
pub kept_stays : (P : Description) (f g : Flag → Bool) (start : Option ℕ) (reset i j : Bool) (x : Ending) (k l : StatusParts) → Implies j i → KeptAlike f k l →
    KeptAlike f (kept_new P g start reset i x k) (kept_new P f start reset j x l)
kept_stays P f g start reset i j x k l n a = by_start (kept_by_start P start) reset
  where
    by_start : (m : Option StatusParts) (reset : Bool) →
        KeptAlike f (kept_after (later_or m (reset_first reset (kept_of P g i x))) (adds_error P x) k) (kept_after (later_or m (reset_first reset (kept_of P f j x))) (adds_error P x) l)
    by_start (Some s) reset = inl refl
    by_start None true = inl refl
    by_start None false = by_end P f g i j x k l n a

-- what a status word shows of the flags
abbrev number : ℕ → ℕ → ℕ → ℕ → ℕ → ℕ → ℕ → ℕ → ℕ
number a e s b y u c t = a * 2048 + e * 1024 + s * 256 + b * 16 + y * 8 + u * 4 + c * 2 + t

abbrev bit : Bool → ℕ
bit true = 1
bit false = 0

bit_small : (b : Bool) → bit b ≤ 1
bit_small true = omega arith
bit_small false = omega arith

mask_is : (b : Bool) (m : ℕ) → mask_if b m ≡ bit b * m
mask_is true m = omega arith
mask_is false m = omega arith

bit_is : (b : Bool) → (bit b == 1) ≡ b
bit_is true = refl
bit_is false = refl

service_number : (a e s b y u c t : ℕ) → e ≤ 1 → s ≤ 1 → b ≤ 1 → y ≤ 1 → u ≤ 1 → c ≤ 1 → t ≤ 1 → number a e s b y u c t / 256 % 2 ≡ s
service_number a e s b y u c t e1 s1 b1 y1 u1 c1 t1 = omega arith

busy_number : (a e s b y u c t : ℕ) → e ≤ 1 → s ≤ 1 → b ≤ 1 → y ≤ 1 → u ≤ 1 → c ≤ 1 → t ≤ 1 → number a e s b y u c t / 8 % 2 ≡ y
busy_number a e s b y u c t e1 s1 b1 y1 u1 c1 t1 = omega arith

subsystem_number : (a e s b y u c t : ℕ) → e ≤ 1 → s ≤ 1 → b ≤ 1 → y ≤ 1 → u ≤ 1 → c ≤ 1 → t ≤ 1 → number a e s b y u c t / 4 % 2 ≡ u
subsystem_number a e s b y u c t e1 s1 b1 y1 u1 c1 t1 = omega arith

terminal_number : (a e s b y u c t : ℕ) → e ≤ 1 → s ≤ 1 → b ≤ 1 → y ≤ 1 → u ≤ 1 → c ≤ 1 → t ≤ 1 → number a e s b y u c t % 2 ≡ t
terminal_number a e s b y u c t e1 s1 b1 y1 u1 c1 t1 = omega arith

word_number : (a : ℕ) (k : StatusParts) → status_word a k ≡ number a (bit k.error) (bit k.service) (bit k.broadcast) (bit k.busy) (bit k.subsystem) (bit k.accept) (bit k.terminal)
word_number a k =
    omega (arith, mask_is k.error 1024, mask_is k.service 256, mask_is k.broadcast 16, mask_is k.busy 8, mask_is k.subsystem 4, mask_is k.accept 2, mask_is k.terminal 1)

-- the flag that a status has
abbrev pub flag_in : StatusParts → Flag → Bool
flag_in k Service = k.service
flag_in k Busy = k.busy
flag_in k Subsystem = k.subsystem
flag_in k Terminal = k.terminal

pub shows_flag : (a : ℕ) (k : StatusParts) (f : Flag) → flag_bit f (status_word a k) ≡ flag_in k f
shows_flag a k Service =
    ap (λ n. n / 256 % 2 == 1) (word_number a k)
    ∙ (ap (λ n. n == 1) (service_number a _ _ _ _ _ _ _ (bit_small k.error) (bit_small k.service) (bit_small k.broadcast) (bit_small k.busy) (bit_small k.subsystem) (bit_small k.accept) (bit_small k.terminal)) ∙ bit_is k.service)
shows_flag a k Busy =
    ap (λ n. n / 8 % 2 == 1) (word_number a k)
    ∙ (ap (λ n. n == 1) (busy_number a _ _ _ _ _ _ _ (bit_small k.error) (bit_small k.service) (bit_small k.broadcast) (bit_small k.busy) (bit_small k.subsystem) (bit_small k.accept) (bit_small k.terminal)) ∙ bit_is k.busy)
shows_flag a k Subsystem =
    ap (λ n. n / 4 % 2 == 1) (word_number a k)
    ∙ (ap (λ n. n == 1) (subsystem_number a _ _ _ _ _ _ _ (bit_small k.error) (bit_small k.service) (bit_small k.broadcast) (bit_small k.busy) (bit_small k.subsystem) (bit_small k.accept) (bit_small k.terminal)) ∙ bit_is k.subsystem)
shows_flag a k Terminal =
    ap (λ n. n % 2 == 1) (word_number a k)
    ∙ (ap (λ n. n == 1) (terminal_number a _ _ _ _ _ _ _ (bit_small k.error) (bit_small k.service) (bit_small k.broadcast) (bit_small k.busy) (bit_small k.subsystem) (bit_small k.accept) (bit_small k.terminal)) ∙ bit_is k.terminal)

uninhibited_twice : (t i j : Bool) → Implies j i → (t && not i) && not j ≡ t && not i
uninhibited_twice true true j n = refl
uninhibited_twice true false true n = let wrong : false ≡ true = n refl in cc
uninhibited_twice true false false n = refl
uninhibited_twice false i j n = refl

flagged_again : (e b a i j : Bool) (g f : Flag → Bool) → Implies j i → ((x : Flag) → f x ≡ flag_in (flagged e b a i g) x) → flagged e b a i g ≡ flagged e b a j f
flagged_again e b a i j g f n h = λ k. record {
  error = e;
  service = sym (h Service) k;
  broadcast = b;
  busy = sym (h Busy) k;
  subsystem = sym (h Subsystem) k;
  accept = a;
  terminal = (sym (uninhibited_twice (g Terminal) i j n) ∙ ap (λ t. t && not j) (sym (h Terminal))) k;
}

-- where the flags are those of the first, they are the same
pub shown_alike : (f : Flag → Bool) (k l : StatusParts) → ((x : Flag) → f x ≡ flag_in k x) → KeptAlike f k l → k ≡ l
shown_alike f k l h (inl e) = e
shown_alike f k l h (inr a) =
    a.left
    ∙ (flagged_again a.error a.broadcast a.accept a.inhibited_left a.inhibited_right a.flags f a.inhibits (λ x. h x ∙ ap (λ k. flag_in k x) a.left)
    ∙ sym a.right)

-- two replies that began at once, to a message that was blocked in one and done in the other, before the status is sent that
-- tells which: the kept status of the first doesn't show the flag of the second
pub record BegunApart (busy f : Bool) (r s : Option Replying) : Type 0 where
  pub bus : Bus
  pub cell_left : Option Cell
  pub cell_right : Option Cell
  pub left : r ≡ Some (record { bus = bus; cell = cell_left; number = 0 })
  pub right : s ≡ Some (record { bus = bus; cell = cell_right; number = 0 })
  pub apart : busy ≡ not f

abbrev pub ReplyAlike : Bool → Bool → Option Replying → Option Replying → Type 0
ReplyAlike busy f r s = (r ≡ s) ⊎ BegunApart busy f r s

pub bus_alike : (busy f : Bool) (r s : Option Replying) → ReplyAlike busy f r s → reply_bus r ≡ reply_bus s
bus_alike busy f r s (inl e) = ap reply_bus e
bus_alike busy f r s (inr a) = ap reply_bus a.left ∙ sym (ap reply_bus a.right)

-- all that two noted histories are summed up by
pub record Alike (f : Flag → Bool) (s t : Summary) : Type 0 where
  pub determined : s.determined ≡ t.determined
  pub inhibited : Implies t.inhibited s.inhibited
  pub kept : KeptAlike f s.kept t.kept
  pub reply : ReplyAlike s.kept.busy (f Busy) s.reply t.reply
