-- A message that the rules of the terminal end once is told to have ended just so.
use Rattle.std.proofs.Common.{◌≡◌, Bool, true, false, ◌&&◌, ◌||◌, if◌then◌else◌, Option, Some, None, List, [], ◌∷◌, refl, ap}
use Rattle.bus_word.specs.declared.word.Bus.{Bus}
use Rattle.bus_legal.specs.Description.{Description}
use Rattle.terminal_rules.specs.LookBack.{some}
use Rattle.terminal_rules.specs.History.{Ending, Nothing, Badly, Illegal, Blocked, Done}
use Rattle.terminal_rules.specs.Open.{is_on}
use Rattle.terminal_messages.specs.declared.ending.ErrorCause.{ErrorCause}
use Rattle.terminal_messages.specs.declared.ending.ErrorCause.TheVariants.{WordCount, InvalidWord, CommandWithin, GapWithin, NoStatus}
use Rattle.terminal_messages.specs.declared.ending.MessageEnding.{MessageEnding}
use Rattle.terminal_messages.specs.declared.ending.MessageEnding.TheVariants.{Other, Open, Ignored, Superseded, InError, Illegal as ToIllegal, Busy as ToBusy, Done as ToDone}
use Rattle.terminal_messages.specs.Told.{ToldEvent, event_bus}
use Rattle.terminal_messages.specs.Message.{Message}
use Rattle.terminal_messages.specs.Ends.{end_after, end_so_far, end_closed, ended_how, with_gap_within, shows_gap_within, superseded_end, cause_of}
use Rattle.terminal_messages.specs.Laws.{is_done, is_illegal, is_blocked, is_badly, closer_ends, ends_in, has_end, any_end, EndsOnce, closer_has_end, IsEndedOnce, says_done, says_illegal, says_busy, says_error, ToldLaw}

-- an ending, and what is told of it
record Kind (f : Ending → Bool) (g : MessageEnding → Bool) : Type 0 where
  ends : (x : MessageEnding) (c : ErrorCause) (e : Ending) → f e ≡ true → g (end_after x c e) ≡ true
  is_end : (e : Ending) → f e ≡ true → has_end e ≡ true
  gap : (t : Bool) (x : MessageEnding) → g x ≡ true → g (with_gap_within t x) ≡ true
  superseded : (x : MessageEnding) → g x ≡ true → g (superseded_end x) ≡ true

or_either : {X : Type 0} → (x y : Bool) → (x || y) ≡ true → (x ≡ true → X) → (x ≡ false → y ≡ true → X) → X
or_either true y e p q = p refl
or_either false y e p q = q refl e

some_end : (f : Ending → Bool) → ((e : Ending) → f e ≡ true → has_end e ≡ true) → (ts : List ToldEvent) → some (λ t. f t.noted.ends) ts ≡ true → any_end ts ≡ true
some_end f i [] e = e
some_end f i (t ∷ ts) e = or_either (f t.noted.ends) (some (λ t. f t.noted.ends) ts) e
    (λ a. ap (λ x. x || any_end ts) (i t.noted.ends a))
    (λ a b. right (has_end t.noted.ends) (some_end f i ts b))
  where
    right : (x : Bool) → any_end ts ≡ true → (x || any_end ts) ≡ true
    right true y = refl
    right false y = y

-- an event that ends nothing leaves what stands
left_alone : (f : Ending → Bool) (g : MessageEnding → Bool) → Kind f g → (x : MessageEnding) (c : ErrorCause) (e : Ending) → has_end e ≡ false → g x ≡ true → g (end_after x c e) ≡ true
left_alone f g k x c Nothing h a = a
left_alone f g k x c (Badly n) h a = cc
left_alone f g k x c (Illegal n) h a = cc
left_alone f g k x c (Blocked n cell) h a = cc
left_alone f g k x c (Done n cell ds) h a = cc

none_here : (x : Bool) (ts : List ToldEvent) → (x ≡ true → any_end ts ≡ false) → any_end ts ≡ true → x ≡ false
none_here true ts h a = let wrong : any_end ts ≡ false = h refl in cc
none_here false ts h a = refl

so_far : (P : Description) (f : Ending → Bool) (g : MessageEnding → Bool) → Kind f g → (first : ToldEvent) (later : List ToldEvent) → EndsOnce later →
    some (λ t. f t.noted.ends) later ≡ true → g (end_so_far P first later) ≡ true
so_far P f g k first [] o e = cc
so_far P f g k first (t ∷ before) o e =
    or_either (f t.noted.ends) (some (λ t. f t.noted.ends) before) e
    (λ a. k.ends _ (cause_of t before) t.noted.ends a)
    (λ a b.
    let there : any_end before ≡ true = some_end f k.is_end before b in
    left_alone f g k _ (cause_of t before) t.noted.ends (none_here (has_end t.noted.ends) before o.0 there)
    (unstarted t.noted.starts (none_here t.noted.starts before o.1 there) (k.gap (shows_gap_within P first t before) (end_so_far P first before) (so_far P f g k first before o.2 b))))
  where
    unstarted : (s : Bool) → s ≡ false → g (with_gap_within (shows_gap_within P first t before) (end_so_far P first before)) ≡ true →
        g (if s then Open else with_gap_within (shows_gap_within P first t before) (end_so_far P first before)) ≡ true
    unstarted true s a = cc
    unstarted false s a = a

closed : (f : Ending → Bool) (g : MessageEnding → Bool) → Kind f g → (b : Bus) (c : Option ToldEvent) (ts : List ToldEvent) (x : MessageEnding) →
    (closer_has_end b c ≡ true → any_end ts ≡ false) → (some (λ t. f t.noted.ends) ts ≡ true → g x ≡ true) →
    (closer_ends f b c || some (λ t. f t.noted.ends) ts) ≡ true → g (end_closed b c x) ≡ true
closed f g k b None ts x o a e = a e
closed f g k b (Some t) ts x o a e = by_bus (is_on b (event_bus t.noted.event)) t.noted.starts o e
  where
    by_bus : (on s : Bool) → ((on && has_end t.noted.ends) ≡ true → any_end ts ≡ false) → ((on && f t.noted.ends) || some (λ t. f t.noted.ends) ts) ≡ true →
        g (if on then end_after x (cause_of t []) t.noted.ends else if s then superseded_end x else x) ≡ true
    by_bus true s o e = or_either (f t.noted.ends) (some (λ t. f t.noted.ends) ts) e
        (λ p. k.ends x (cause_of t []) t.noted.ends p)
        (λ p q. left_alone f g k x (cause_of t []) t.noted.ends (none_here (has_end t.noted.ends) ts o (some_end f k.is_end ts q)) (a q))
    by_bus false true o e = k.superseded x (a e)
    by_bus false false o e = a e

kind_done : Kind is_done says_done
kind_done = record { ends = ends; is_end = is_end; gap = gap; superseded = superseded }
  where
    ends : (x : MessageEnding) (c : ErrorCause) (e : Ending) → is_done e ≡ true → says_done (end_after x c e) ≡ true
    ends x c (Done n cell ds) e = refl
    ends x c Nothing e = cc
    ends x c (Badly n) e = cc
    ends x c (Illegal n) e = cc
    ends x c (Blocked n cell) e = cc

    is_end : (e : Ending) → is_done e ≡ true → has_end e ≡ true
    is_end (Done n cell ds) e = refl
    is_end Nothing e = cc
    is_end (Badly n) e = refl
    is_end (Illegal n) e = refl
    is_end (Blocked n cell) e = refl

    gap : (t : Bool) (x : MessageEnding) → says_done x ≡ true → says_done (with_gap_within t x) ≡ true
    gap t ToDone e = refl
    gap t ToIllegal e = cc
    gap t ToBusy e = cc
    gap t (InError c) e = cc
    gap t Other e = cc
    gap t Open e = cc
    gap t (Ignored c) e = cc
    gap t Superseded e = cc

    superseded : (x : MessageEnding) → says_done x ≡ true → says_done (superseded_end x) ≡ true
    superseded ToDone e = refl
    superseded ToIllegal e = cc
    superseded ToBusy e = cc
    superseded (InError c) e = cc
    superseded Other e = cc
    superseded Open e = cc
    superseded (Ignored c) e = cc
    superseded Superseded e = cc

kind_illegal : Kind is_illegal says_illegal
kind_illegal = record { ends = ends; is_end = is_end; gap = gap; superseded = superseded }
  where
    ends : (x : MessageEnding) (c : ErrorCause) (e : Ending) → is_illegal e ≡ true → says_illegal (end_after x c e) ≡ true
    ends x c (Done n cell ds) e = cc
    ends x c Nothing e = cc
    ends x c (Badly n) e = cc
    ends x c (Illegal n) e = refl
    ends x c (Blocked n cell) e = cc

    is_end : (e : Ending) → is_illegal e ≡ true → has_end e ≡ true
    is_end (Done n cell ds) e = refl
    is_end Nothing e = cc
    is_end (Badly n) e = refl
    is_end (Illegal n) e = refl
    is_end (Blocked n cell) e = refl

    gap : (t : Bool) (x : MessageEnding) → says_illegal x ≡ true → says_illegal (with_gap_within t x) ≡ true
    gap t ToDone e = cc
    gap t ToIllegal e = refl
    gap t ToBusy e = cc
    gap t (InError c) e = cc
    gap t Other e = cc
    gap t Open e = cc
    gap t (Ignored c) e = cc
    gap t Superseded e = cc

    superseded : (x : MessageEnding) → says_illegal x ≡ true → says_illegal (superseded_end x) ≡ true
    superseded ToDone e = cc
    superseded ToIllegal e = refl
    superseded ToBusy e = cc
    superseded (InError c) e = cc
    superseded Other e = cc
    superseded Open e = cc
    superseded (Ignored c) e = cc
    superseded Superseded e = cc

kind_busy : Kind is_blocked says_busy
kind_busy = record { ends = ends; is_end = is_end; gap = gap; superseded = superseded }
  where
    ends : (x : MessageEnding) (c : ErrorCause) (e : Ending) → is_blocked e ≡ true → says_busy (end_after x c e) ≡ true
    ends x c (Done n cell ds) e = cc
    ends x c Nothing e = cc
    ends x c (Badly n) e = cc
    ends x c (Illegal n) e = cc
    ends x c (Blocked n cell) e = refl

    is_end : (e : Ending) → is_blocked e ≡ true → has_end e ≡ true
    is_end (Done n cell ds) e = refl
    is_end Nothing e = cc
    is_end (Badly n) e = refl
    is_end (Illegal n) e = refl
    is_end (Blocked n cell) e = refl

    gap : (t : Bool) (x : MessageEnding) → says_busy x ≡ true → says_busy (with_gap_within t x) ≡ true
    gap t ToDone e = cc
    gap t ToIllegal e = cc
    gap t ToBusy e = refl
    gap t (InError c) e = cc
    gap t Other e = cc
    gap t Open e = cc
    gap t (Ignored c) e = cc
    gap t Superseded e = cc

    superseded : (x : MessageEnding) → says_busy x ≡ true → says_busy (superseded_end x) ≡ true
    superseded ToDone e = cc
    superseded ToIllegal e = cc
    superseded ToBusy e = refl
    superseded (InError c) e = cc
    superseded Other e = cc
    superseded Open e = cc
    superseded (Ignored c) e = cc
    superseded Superseded e = cc

kind_error : Kind is_badly says_error
kind_error = record { ends = ends; is_end = is_end; gap = gap; superseded = superseded }
  where
    ends : (x : MessageEnding) (c : ErrorCause) (e : Ending) → is_badly e ≡ true → says_error (end_after x c e) ≡ true
    ends x c (Done n cell ds) e = cc
    ends x c Nothing e = cc
    ends x c (Badly n) e = refl
    ends x c (Illegal n) e = cc
    ends x c (Blocked n cell) e = cc

    is_end : (e : Ending) → is_badly e ≡ true → has_end e ≡ true
    is_end (Done n cell ds) e = refl
    is_end Nothing e = cc
    is_end (Badly n) e = refl
    is_end (Illegal n) e = refl
    is_end (Blocked n cell) e = refl

    gap : (t : Bool) (x : MessageEnding) → says_error x ≡ true → says_error (with_gap_within t x) ≡ true
    gap t ToDone e = cc
    gap t ToIllegal e = cc
    gap t ToBusy e = cc
    gap true (InError WordCount) e = refl
    gap false (InError WordCount) e = refl
    gap t (InError InvalidWord) e = refl
    gap t (InError CommandWithin) e = refl
    gap t (InError GapWithin) e = refl
    gap t (InError NoStatus) e = refl
    gap t Other e = cc
    gap t Open e = cc
    gap t (Ignored c) e = cc
    gap t Superseded e = cc

    superseded : (x : MessageEnding) → says_error x ≡ true → says_error (superseded_end x) ≡ true
    superseded ToDone e = cc
    superseded ToIllegal e = cc
    superseded ToBusy e = cc
    superseded (InError c) e = refl
    superseded Other e = cc
    superseded Open e = cc
    superseded (Ignored c) e = cc
    superseded Superseded e = cc

told_so : (P : Description) (f : Ending → Bool) (g : MessageEnding → Bool) → Kind f g → (m : Message) → IsEndedOnce m → ends_in f m ≡ true → g (ended_how P m) ≡ true
told_so P f g k m o e = closed f g k m.bus m.closer m.later (end_so_far P m.first m.later) o.1 (so_far P f g k m.first m.later o.0) e

pub told_law : ToldLaw
told_law P m o = record {
  done = told_so P is_done says_done kind_done m o;
  illegal = told_so P is_illegal says_illegal kind_illegal m o;
  busy = told_so P is_blocked says_busy kind_busy m o;
  error = told_so P is_badly says_error kind_error m o;
}
