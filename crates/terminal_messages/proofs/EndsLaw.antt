-- A message is told to have ended only as the rules of the terminal end it.
use Rattle.std.proofs.Common.{◌≡◌, Bool, true, false, ◌&&◌, ◌||◌, if◌then◌else◌, Option, Some, None, List, [], ◌∷◌, refl}
use Rattle.bus_word.specs.declared.word.Bus.{Bus}
use Rattle.bus_legal.specs.Description.{Description}
use Rattle.terminal_rules.specs.declared.event.Event.{Event}
use Rattle.terminal_rules.specs.declared.event.Event.TheVariants.{Word, Noise, Gap, Write, Vector, Bit, Flag as FlagIs, Slot}
use Rattle.terminal_rules.specs.LookBack.{some}
use Rattle.terminal_rules.specs.History.{Ending, Nothing, Badly, Illegal, Blocked, Done}
use Rattle.terminal_rules.specs.Open.{is_on}
use Rattle.terminal_rules.specs.Starts.{is_for_terminal}
use Rattle.terminal_messages.specs.declared.ending.ErrorCause.{ErrorCause}
use Rattle.terminal_messages.specs.declared.ending.ErrorCause.TheVariants.{WordCount, InvalidWord, CommandWithin, GapWithin, NoStatus}
use Rattle.terminal_messages.specs.declared.ending.MessageEnding.{MessageEnding}
use Rattle.terminal_messages.specs.declared.ending.MessageEnding.TheVariants.{Other, Open, Ignored, Superseded, InError, Illegal as ToIllegal, Busy as ToBusy, Done as ToDone}
use Rattle.terminal_messages.specs.Told.{ToldEvent, event_bus}
use Rattle.terminal_messages.specs.Message.{Message}
use Rattle.terminal_messages.specs.Ends.{end_unstarted, ignored_because, end_after, end_so_far, end_closed, ended_how, with_gap_within, shows_gap_within, superseded_end, cause_of}
use Rattle.terminal_messages.specs.Laws.{is_done, is_illegal, is_blocked, is_badly, closer_ends, ends_in, EndsAs, EndLaw}

-- which endings make a message stand so; any, where it has not ended
abbrev Allowed : MessageEnding → ((Ending → Bool) → Bool) → Type 0
Allowed ToDone f = f is_done ≡ true
Allowed ToIllegal f = f is_illegal ≡ true
Allowed ToBusy f = f is_blocked ≡ true
Allowed (InError cause) f = f is_badly ≡ true
Allowed Other f = Unit {0}
Allowed Open f = Unit {0}
Allowed (Ignored cause) f = Unit {0}
Allowed Superseded f = Unit {0}

or_right : (x y : Bool) → y ≡ true → (x || y) ≡ true
or_right true y e = refl
or_right false y e = e

more : (x : MessageEnding) (f : (Ending → Bool) → Bool) (g : (Ending → Bool) → Bool) → Allowed x f → Allowed x (λ p. g p || f p)
more ToDone f g a = or_right (g is_done) (f is_done) a
more ToIllegal f g a = or_right (g is_illegal) (f is_illegal) a
more ToBusy f g a = or_right (g is_blocked) (f is_blocked) a
more (InError cause) f g a = or_right (g is_badly) (f is_badly) a
more Other f g a = tt
more Open f g a = tt
more (Ignored cause) f g a = tt
more Superseded f g a = tt

within_allowed : (t : Bool) (x : MessageEnding) (f : (Ending → Bool) → Bool) → Allowed x f → Allowed (with_gap_within t x) f
within_allowed true (InError WordCount) f a = a
within_allowed false (InError WordCount) f a = a
within_allowed t (InError InvalidWord) f a = a
within_allowed t (InError CommandWithin) f a = a
within_allowed t (InError GapWithin) f a = a
within_allowed t (InError NoStatus) f a = a
within_allowed t ToDone f a = a
within_allowed t ToIllegal f a = a
within_allowed t ToBusy f a = a
within_allowed t Other f a = a
within_allowed t Open f a = a
within_allowed t (Ignored cause) f a = a
within_allowed t Superseded f a = a

before_allowed : (s t : Bool) (x : MessageEnding) (f : (Ending → Bool) → Bool) → Allowed x f → Allowed (if s then Open else with_gap_within t x) f
before_allowed true t x f a = tt
before_allowed false t x f a = within_allowed t x f a

-- one more ending, which counts if it is heard
after_allowed : (x : MessageEnding) (cause : ErrorCause) (e : Ending) (f : (Ending → Bool) → Bool) → Allowed x f → Allowed (end_after x cause e) (λ p. p e || f p)
after_allowed x cause Nothing f a = more x f (λ p. p Nothing) a
after_allowed x cause (Badly c) f a = refl
after_allowed x cause (Illegal c) f a = refl
after_allowed x cause (Blocked c cell) f a = refl
after_allowed x cause (Done c cell ds) f a = refl

unstarted_allowed : (P : Description) (t : ToldEvent) (e : Event) (f : (Ending → Bool) → Bool) → Allowed (end_unstarted P t e) f
unstarted_allowed P t (Word b w) f = by_test (is_for_terminal P w)
  where
    by_test : (x : Bool) → Allowed (if x then Ignored (ignored_because t) else Other) f
    by_test true = tt
    by_test false = tt
unstarted_allowed P t (Noise b) f = tt
unstarted_allowed P t (Gap b) f = tt
unstarted_allowed P t (Write q v) f = tt
unstarted_allowed P t (Vector v) f = tt
unstarted_allowed P t (Bit v) f = tt
unstarted_allowed P t (FlagIs g v) f = tt
unstarted_allowed P t Slot f = tt

first_allowed : (P : Description) (t : ToldEvent) (s : Bool) (f : (Ending → Bool) → Bool) → Allowed (if s then Open else end_unstarted P t t.noted.event) f
first_allowed P t true f = tt
first_allowed P t false f = unstarted_allowed P t t.noted.event f

so_far : (P : Description) (first : ToldEvent) (later : List ToldEvent) → Allowed (end_so_far P first later) (λ p. some (λ t. p t.noted.ends) later)
so_far P first [] = first_allowed P first first.noted.starts (λ p. false)
so_far P first (t ∷ before) =
    after_allowed _ (cause_of t before) t.noted.ends (λ p. some (λ t. p t.noted.ends) before)
    (before_allowed t.noted.starts (shows_gap_within P first t before) (end_so_far P first before) (λ p. some (λ t. p t.noted.ends) before) (so_far P first before))

superseded_allowed : (x : MessageEnding) (f : (Ending → Bool) → Bool) → Allowed x f → Allowed (superseded_end x) f
superseded_allowed Open f a = tt
superseded_allowed ToDone f a = a
superseded_allowed ToIllegal f a = a
superseded_allowed ToBusy f a = a
superseded_allowed (InError cause) f a = a
superseded_allowed Other f a = tt
superseded_allowed (Ignored cause) f a = tt
superseded_allowed Superseded f a = tt

closed_allowed : (t : ToldEvent) (on s : Bool) (x : MessageEnding) (f : (Ending → Bool) → Bool) → Allowed x f →
    Allowed (if on then end_after x (cause_of t []) t.noted.ends else if s then superseded_end x else x) (λ p. (on && p t.noted.ends) || f p)
closed_allowed t true s x f a = after_allowed x (cause_of t []) t.noted.ends f a
closed_allowed t false true x f a = superseded_allowed x f a
closed_allowed t false false x f a = a

closer_allowed : (b : Bus) (c : Option ToldEvent) (x : MessageEnding) (f : (Ending → Bool) → Bool) → Allowed x f → Allowed (end_closed b c x) (λ p. closer_ends p b c || f p)
closer_allowed b None x f a = a
closer_allowed b (Some t) x f a = closed_allowed t (is_on b (event_bus t.noted.event)) t.noted.starts x f a

as_law : (x : MessageEnding) (m : Message) → Allowed x (λ p. ends_in p m) → EndsAs x m
as_law ToDone m a = a
as_law ToIllegal m a = a
as_law ToBusy m a = a
as_law (InError cause) m a = a
as_law Other m a = tt
as_law Open m a = tt
as_law (Ignored cause) m a = tt
as_law Superseded m a = tt

pub end_law : EndLaw
end_law P m = as_law (ended_how P m) m (closer_allowed m.bus m.closer (end_so_far P m.first m.later) (λ p. some (λ t. p t.noted.ends) m.later) (so_far P m.first m.later))
