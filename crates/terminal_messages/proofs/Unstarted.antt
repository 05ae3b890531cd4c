-- A message is told to be for other terminals, or ignored, exactly if the terminal does not start it.
use Rattle.std.proofs.Common.{◌≡◌, ℕ, Bool, true, false, not, ◌&&◌, ◌||◌, if◌then◌else◌, Option, Some, None, is_none, List, [], ◌∷◌, refl, ap, sym, ◌∙◌, subst}
use Rattle.bus_word.specs.declared.word.Bus.{Bus}
use Rattle.bus_legal.specs.Description.{Description}
use Rattle.terminal_rules.specs.declared.event.Event.{Event}
use Rattle.terminal_rules.specs.declared.event.Event.TheVariants.{Word}
use Rattle.terminal_rules.specs.LookBack.{latest, some}
use Rattle.terminal_rules.specs.History.{Ending, Nothing, Badly, Illegal as EndsIllegal, Blocked, Done as EndsDone}
use Rattle.terminal_rules.specs.Open.{open_now, is_on}
use Rattle.terminal_rules.specs.Reply.{reply_now, reply_bus}
use Rattle.terminal_rules.specs.SinceReset.{either_word}
use Rattle.terminal_rules.specs.Starts.{is_for_terminal}
use Rattle.terminal_rules.specs.Past.{past}
use Rattle.bus_terminal.specs.Waiting.{is_open}
use Rattle.terminal_messages.specs.declared.ending.ErrorCause.{ErrorCause}
use Rattle.terminal_messages.specs.declared.ending.ErrorCause.TheVariants.{WordCount, InvalidWord, CommandWithin, GapWithin, NoStatus}
use Rattle.terminal_messages.specs.declared.ending.MessageEnding.{MessageEnding}
use Rattle.terminal_messages.specs.declared.ending.MessageEnding.TheVariants.{Other, Open, Ignored, Superseded, InError, Illegal, Busy, Done}
use Rattle.terminal_messages.specs.Told.{ToldEvent, event_bus, begins_on, closes, belongs_on}
use Rattle.terminal_messages.specs.Message.{Message, message_on_bus}
use Rattle.terminal_messages.specs.Parts.{tell, bits_of_word}
use Rattle.terminal_messages.specs.Ends.{end_unstarted, ignored_because, end_so_far, end_after, end_closed, superseded_end, with_gap_within, shows_gap_within, cause_of, ended_how}
use Rattle.terminal_messages.specs.Laws.{has_end, closer_has_end, says_unstarted, start_in, last_start}
use Rattle.terminal_messages.proofs.Each.{IfMessage}
use Rattle.terminal_messages.proofs.Once.{end_fits}
use Rattle.terminal_messages.proofs.Exact.{ends_open}
use Rattle.terminal_messages.proofs.Partition.{own, stands}
use Rattle.terminal_messages.proofs.StepLaw.{after_by, message_law}
use Rattle.terminal_messages.proofs.ViewLaw.{t_of}

-- some event of a message starts one
abbrev pub starts_in : ToldEvent → List ToldEvent → Bool
starts_in first later = first.noted.starts || some (λ t. t.noted.starts) later

-- each event that ends the message comes behind one that starts it
abbrev pub EndsStarted : ToldEvent → List ToldEvent → Type 0
EndsStarted first [] = Unit {0}
EndsStarted first (t ∷ before) = (has_end t.noted.ends ≡ true → starts_in first before ≡ true) × EndsStarted first before

first_unstarted : (P : Description) (t : ToldEvent) (e : Event) → says_unstarted (end_unstarted P t e) ≡ true
first_unstarted P t (Word b w) = by_address (is_for_terminal P w)
  where
    by_address : (x : Bool) → says_unstarted (if x then Ignored (ignored_because t) else Other) ≡ true
    by_address true = refl
    by_address false = refl
first_unstarted P t _ = refl

at_first : (s : Bool) (x : MessageEnding) → says_unstarted x ≡ true → says_unstarted (if s then Open else x) ≡ not (s || false)
at_first true x e = refl
at_first false x e = e

gap_same : (g : Bool) (x : MessageEnding) → says_unstarted (with_gap_within g x) ≡ says_unstarted x
gap_same true (InError WordCount) = refl
gap_same false (InError WordCount) = refl
gap_same g (InError InvalidWord) = refl
gap_same g (InError CommandWithin) = refl
gap_same g (InError GapWithin) = refl
gap_same g (InError NoStatus) = refl
gap_same g Other = refl
gap_same g Open = refl
gap_same g (Ignored cause) = refl
gap_same g Superseded = refl
gap_same g Illegal = refl
gap_same g Busy = refl
gap_same g Done = refl

superseded_same : (x : MessageEnding) → says_unstarted (superseded_end x) ≡ says_unstarted x
superseded_same Other = refl
superseded_same Open = refl
superseded_same (Ignored cause) = refl
superseded_same Superseded = refl
superseded_same (InError cause) = refl
superseded_same Illegal = refl
superseded_same Busy = refl
superseded_same Done = refl

or_more : (f s l : Bool) → (f || l) ≡ true → false ≡ not (f || (s || l))
or_more true s l e = refl
or_more false true l e = refl
or_more false false true e = refl
or_more false false false e = cc

or_start : (f l : Bool) → false ≡ not (f || (true || l))
or_start true l = refl
or_start false l = refl

-- an event that ends a message
ended_says : (x : MessageEnding) (cause : ErrorCause) (y : Ending) (r : Bool) → (has_end y ≡ true → false ≡ r) → says_unstarted x ≡ r → says_unstarted (end_after x cause y) ≡ r
ended_says x cause Nothing r e h = h
ended_says x cause (Badly c) r e h = e refl
ended_says x cause (EndsIllegal c) r e h = e refl
ended_says x cause (Blocked c cell) r e h = e refl
ended_says x cause (EndsDone c cell ds) r e h = e refl

before_says : (s g : Bool) (x : MessageEnding) (f l : Bool) → says_unstarted x ≡ not (f || l) → says_unstarted (if s then Open else with_gap_within g x) ≡ not (f || (s || l))
before_says true g x f l h = or_start f l
before_says false g x f l h = gap_same g x ∙ h

so_far_says : (P : Description) (first : ToldEvent) (later : List ToldEvent) → EndsStarted first later → says_unstarted (end_so_far P first later) ≡ not (starts_in first later)
so_far_says P first [] h = at_first first.noted.starts (end_unstarted P first first.noted.event) (first_unstarted P first first.noted.event)
so_far_says P first (t ∷ before) h =
    let f : Bool = first.noted.starts in
    let l : Bool = some (λ t. t.noted.starts) before in
    ended_says (if t.noted.starts then Open else with_gap_within (shows_gap_within P first t before) (end_so_far P first before)) (cause_of t before) t.noted.ends (not (f || (t.noted.starts || l)))
    (λ e. or_more f t.noted.starts l (h.0 e)) (before_says t.noted.starts (shows_gap_within P first t before) (end_so_far P first before) f l (so_far_says P first before h.1))

closed_says : (b : Bus) (o : Option ToldEvent) (x : MessageEnding) (s : Bool) → (closer_has_end b o ≡ true → s ≡ true) → says_unstarted x ≡ not s → says_unstarted (end_closed b o x) ≡ not s
closed_says b None x s c h = h
closed_says b (Some t) x s c h = by_bus (is_on b (event_bus t.noted.event)) c
  where
    by_start : (k : Bool) → says_unstarted (if k then superseded_end x else x) ≡ not s
    by_start true = superseded_same x ∙ h
    by_start false = h

    by_bus : (i : Bool) → ((i && has_end t.noted.ends) ≡ true → s ≡ true) → says_unstarted (if i then end_after x (cause_of t []) t.noted.ends else if t.noted.starts then superseded_end x else x) ≡ not s
    by_bus true c = ended_says x (cause_of t []) t.noted.ends (not s) (λ e. sym (ap not (c e))) h
    by_bus false c = by_start t.noted.starts

-- the same by the last start
one_found : (s : Bool) (c : ℕ) → is_none (if s then Some c else None) ≡ not (s || false)
one_found true c = refl
one_found false c = refl

more_found : (s f l : Bool) (c : ℕ) (o p : Option ℕ) → is_none (either_word o p) ≡ not (f || l) →
    is_none (either_word (elim (if s then Some c else None) as (λ x. Option ℕ) [ None ↦ o | Some y ↦ Some y ]) p) ≡ not (f || (s || l))
more_found true f l c o p h = or_start f l
more_found false f l c o p h = h

last_found : (first : ToldEvent) (later : List ToldEvent) → is_none (either_word (latest start_in later) (start_in first)) ≡ not (starts_in first later)
last_found first [] = one_found first.noted.starts (bits_of_word first.noted.event)
last_found first (t ∷ ts) = more_found t.noted.starts first.noted.starts (some (λ t. t.noted.starts) ts) (bits_of_word t.noted.event) (latest start_in ts) (start_in first) (last_found first ts)

pub told_unstarted : (P : Description) (m : Message) → EndsStarted m.first m.later → (closer_has_end m.bus m.closer ≡ true → starts_in m.first m.later ≡ true) → says_unstarted (ended_how P m) ≡ is_none (last_start m)
told_unstarted P m e c =
    closed_says m.bus m.closer (end_so_far P m.first m.later) (starts_in m.first m.later) c (so_far_says P m.first m.later e) ∙ sym (last_found m.first m.later)

-- where an event ends a message on a bus, the terminal is in the one there
open_own : (P : Description) (h : List Event) (b : Bus) → is_open (open_now P (past P h) b) ≡ true → own (message_on_bus (tell P h) b) ≡ true
open_own P h b o = (stands P h).engaged b (ap (λ x. x || is_on b (reply_bus (reply_now (past P h)))) o)

pub closer_own : (P : Description) (h : List Event) (e : Event) (b : Bus) → is_on b (event_bus e) ≡ true → has_end (t_of P h e).noted.ends ≡ true → own (message_on_bus (tell P h) b) ≡ true
closer_own P h e b i x = open_own P h b (ends_open P h e b i x)

abbrev pub EndsOn : Message → Type 0
EndsOn m = EndsStarted m.first m.later

started_more : (b : Bus) (t : ToldEvent) (c k n : Bool) (m : Option Message) → IfMessage EndsOn m → (n ≡ true → has_end t.noted.ends ≡ true → own m ≡ true) → IfMessage EndsOn (after_by b t c k n m)
started_more b t true true n m q w = tt
started_more b t true false n m q w = tt
started_more b t false k true None q w = tt
started_more b t false k true (Some m) q w = (w refl, q)
started_more b t false k false m q w = q

pub ends_on : (P : Description) (h : List Event) (b : Bus) → IfMessage EndsOn (message_on_bus (tell P h) b)
ends_on P [] b = tt
ends_on P (e ∷ h) b =
    let t : ToldEvent = t_of P h e in
    subst (IfMessage EndsOn) (sym (message_law b t (tell P h)))
    (started_more b t (closes b t) (begins_on b t) (belongs_on b t) (message_on_bus (tell P h) b) (ends_on P h b) (λ n x. open_own P h b ((end_fits P h e b).was_open n x)))
