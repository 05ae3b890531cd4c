-- What the terminal sends and hands over is what it does in the messages of the run.
use Rattle.std.proofs.Common.{◌≡◌, Bool, true, false, ◌||◌, nat_le, if◌then◌else◌, ◌⊎◌, inl, inr, Option, Some, None, is_some, List, [], ◌∷◌, ◌++◌, refl, ap, sym, ◌∙◌, append_assoc, append-nil}
use Rattle.bus_word.specs.declared.word.Bus.{Bus}
use Rattle.bus_word.specs.declared.word.Bus.TheVariants.{A, B}
use Rattle.bus_legal.specs.Description.{Description}
use Rattle.terminal_rules.specs.declared.event.Event.{Event}
use Rattle.terminal_rules.specs.Buses.{same_bus}
use Rattle.terminal_rules.specs.LookBack.{keep, some}
use Rattle.terminal_rules.specs.Past.{past, history_after}
use Rattle.terminal_rules.specs.Out.{Out, outs_from}
use Rattle.terminal_messages.specs.Told.{ToldEvent, is_unheard, begins_on, closes, belongs_on, event_bus}
use Rattle.terminal_messages.specs.Message.{Message, message_on_bus}
use Rattle.bus_terminal.specs.Waiting.{is_engaged}
use Rattle.terminal_messages.specs.Parts.{tell, told}
use Rattle.terminal_messages.specs.Messages.{listed, in_turn, closed_with, closed_on, alone, alone_on, closed_by, closed, still_open, messages_in}
use Rattle.terminal_messages.specs.Ends.{first_to_last}
use Rattle.terminal_messages.specs.Laws.{act_of, action, message_answers, all_answers, PartitionLaw}
use Rattle.terminal_messages.proofs.Fits.{StartFits, AnswerFits, QuietFits, event_fits}
use Rattle.terminal_messages.proofs.StepLaw.{after_by, after_told, message_law}

-- the terminal is or was in a message: a start belongs to it
abbrev pub own : Option Message → Bool
own None = false
own (Some m) = m.first.noted.starts || some (λ t. t.noted.starts) m.later

-- what the terminal sent and handed over in a message, if there is one
abbrev pub acts : Option Message → List Out
acts None = []
acts (Some m) = message_answers m

-- where messages are by an event: what it leaves of the answers of a message stays with it, or is closed
quiet_own : (b : Bus) (t : ToldEvent) (c k n : Bool) (m : Option Message) → t.noted.starts ≡ false → own (after_by b t c k n m) ≡ true → own m ≡ true
quiet_own b t true true n m s e = let off : (t.noted.starts || false) ≡ false = ap (λ x. x || false) s in cc
quiet_own b t true false n m s e = cc
quiet_own b t false k true None s e = e
quiet_own b t false k true (Some m) s e = sym (ap (λ x. m.first.noted.starts || (x || some (λ t. t.noted.starts) m.later)) s) ∙ e
quiet_own b t false k false m s e = e

or_later : (x y z : Bool) → (x || z) ≡ true → (x || (y || z)) ≡ true
or_later true y z e = refl
or_later false true z e = refl
or_later false false z e = e

kept_own : (b : Bus) (t : ToldEvent) (c k n : Bool) (m : Option Message) → c ≡ false → own m ≡ true → own (after_by b t c k n m) ≡ true
kept_own b t true k n m c e = cc
kept_own b t false k true None c e = e
kept_own b t false k true (Some m) c e = or_later m.first.noted.starts t.noted.starts (some (λ t. t.noted.starts) m.later) e
kept_own b t false k false m c e = e

begun_own : (b : Bus) (t : ToldEvent) (c k n : Bool) (m : Option Message) → c ≡ true → k ≡ true → t.noted.starts ≡ true → own (after_by b t c k n m) ≡ true
begun_own b t true true n m c k s = ap (λ x. x || false) s
begun_own b t true false n m c k s = cc
begun_own b t false k' n m c k s = cc

or_here : (x z : Bool) → (x || (true || z)) ≡ true
or_here true z = refl
or_here false z = refl

joined_own : (b : Bus) (t : ToldEvent) (c k n : Bool) (m : Option Message) → c ≡ false → n ≡ true → is_some m ≡ true → t.noted.starts ≡ true → own (after_by b t c k n m) ≡ true
joined_own b t true k n m c n' i s = cc
joined_own b t false k false m c n i s = cc
joined_own b t false k true None c n i s = cc
joined_own b t false k true (Some m) c n i s =
    ap (λ x. m.first.noted.starts || (x || some (λ t. t.noted.starts) m.later)) s ∙ or_here m.first.noted.starts (some (λ t. t.noted.starts) m.later)

first_to_last-none : (t : ToldEvent) (h : List ToldEvent) → action t ≡ None → first_to_last action (t ∷ h) ≡ first_to_last action h
first_to_last-none t h e = ap (λ (o : Option Out). elim o as (λ o. List Out) [ None ↦ first_to_last action h | Some y ↦ first_to_last action h ++ y ∷ [] ]) e

first_to_last-some : (t : ToldEvent) (h : List ToldEvent) (o : Out) → action t ≡ Some o → first_to_last action (t ∷ h) ≡ first_to_last action h ++ o ∷ []
first_to_last-some t h o e = ap (λ (o : Option Out). elim o as (λ o. List Out) [ None ↦ first_to_last action h | Some y ↦ first_to_last action h ++ y ∷ [] ]) e

-- the answers of a message before an event, of the message that it closes, and of the message after it
pub record Moves (x y z : List Out) : Type 0 where
  pub either : ((y ≡ x) × (z ≡ [])) ⊎ ((y ≡ []) × (z ≡ x))

acts_closed : (t : ToldEvent) (m : Option Message) → acts (closed_with t m) ≡ acts m
acts_closed t None = refl
acts_closed t (Some m) = refl

moves_by : (b : Bus) (t : ToldEvent) (c k n : Bool) (m : Option Message) → action t ≡ None → Moves (acts m) (acts (if c then closed_with t m else None)) (acts (after_by b t c k n m))
moves_by b t true true n m a = record { either = inl (acts_closed t m, refl) }
moves_by b t true false n m a = record { either = inl (acts_closed t m, refl) }
moves_by b t false k true None a = record { either = inr (refl, refl) }
moves_by b t false k true (Some m) a = record { either = inr (refl, first_to_last-none t m.later a) }
moves_by b t false k false m a = record { either = inr (refl, refl) }

joined_acts : (b : Bus) (t : ToldEvent) (c k n : Bool) (m : Option Message) (o : Out) → c ≡ false → n ≡ true → is_some m ≡ true → action t ≡ Some o → acts (after_by b t c k n m) ≡ acts m ++ o ∷ []
joined_acts b t true k n m o c n' i a = cc
joined_acts b t false k false m o c n i a = cc
joined_acts b t false k true None o c n i a = cc
joined_acts b t false k true (Some m) o c n i a = first_to_last-some t m.later o a

apart_acts : (b : Bus) (t : ToldEvent) (c k n : Bool) (m : Option Message) → c ≡ false → n ≡ false → acts (after_by b t c k n m) ≡ acts m
apart_acts b t true k n m c n' = cc
apart_acts b t false k true m c n = cc
apart_acts b t false k false m c n = refl

-- of two lists one is empty
abbrev pub OneEmpty : List Out → List Out → Type 0
OneEmpty x y = (x ≡ []) ⊎ (y ≡ [])

-- lists that move keep their order, where one is empty
moved : (c x x' y y' z z' : List Out) → OneEmpty x x' → Moves x y z → Moves x' y' z' → (c ++ (y ++ y')) ++ (z ++ z') ≡ c ++ (x ++ x')
moved c x x' y y' z z' o m m' =
    elim m.either [
      | inl e ↦ elim m'.either [
        | inl e' ↦ (λ j. (c ++ (e.0 j ++ e'.0 j)) ++ (e.1 j ++ e'.1 j)) ∙ append-nil (c ++ (x ++ x'))
        | inr e' ↦ (λ j. (c ++ (e.0 j ++ e'.0 j)) ++ (e.1 j ++ e'.1 j)) ∙ (ap (λ l. (c ++ l) ++ x') (append-nil x) ∙ append_assoc c x x')
      ]
      | inr e ↦ elim m'.either [
        | inl e' ↦ (λ j. (c ++ (e.0 j ++ e'.0 j)) ++ (e.1 j ++ e'.1 j)) ∙ swapped o
        | inr e' ↦ (λ j. (c ++ (e.0 j ++ e'.0 j)) ++ (e.1 j ++ e'.1 j)) ∙ ap (λ l. l ++ (x ++ x')) (append-nil c)
      ]
    ]
  where
    swapped : OneEmpty x x' → (c ++ x') ++ (x ++ []) ≡ c ++ (x ++ x')
    swapped (inl e) = (λ j. (c ++ x') ++ (e j ++ [])) ∙ (append-nil (c ++ x') ∙ (λ j. c ++ (sym e j ++ x')))
    swapped (inr e) = (λ j. (c ++ e j) ++ (x ++ [])) ∙ (ap (λ l. l ++ (x ++ [])) (append-nil c) ∙ (λ j. c ++ (x ++ sym e j)))

-- the answers of messages
answers-append : (ms ns : List Message) → all_answers (ms ++ ns) ≡ all_answers ms ++ all_answers ns
answers-append [] ns = refl
answers-append (m ∷ ms) ns = ap (λ l. message_answers m ++ l) (answers-append ms ns) ∙ sym (append_assoc (message_answers m) (all_answers ms) (all_answers ns))

answers-listed : (m : Option Message) → all_answers (listed m) ≡ acts m
answers-listed None = refl
answers-listed (Some m) = append-nil (message_answers m)

answers-in_turn : (m n : Option Message) → OneEmpty (acts m) (acts n) → all_answers (in_turn m n) ≡ acts m ++ acts n
answers-in_turn None n o = answers-listed n
answers-in_turn (Some m) None o = refl
answers-in_turn (Some m) (Some n) o = by_test (nat_le m.first.index n.first.index)
  where
    swapped : OneEmpty (message_answers m) (message_answers n) → message_answers n ++ (message_answers m ++ []) ≡ message_answers m ++ message_answers n
    swapped (inl e) = (λ j. message_answers n ++ (e j ++ [])) ∙ (append-nil (message_answers n) ∙ (λ j. sym e j ++ message_answers n))
    swapped (inr e) = (λ j. e j ++ (message_answers m ++ [])) ∙ (λ j. message_answers m ++ sym e j)

    by_test : (t : Bool) → all_answers (if t then m ∷ n ∷ [] else n ∷ m ∷ []) ≡ message_answers m ++ message_answers n
    by_test true = ap (λ l. message_answers m ++ l) (append-nil (message_answers n))
    by_test false = swapped o

answers-alone : (t : ToldEvent) → all_answers (alone t) ≡ []
answers-alone t = by_test (is_unheard t.part) (event_bus t.noted.event)
  where
    by_test : (u : Bool) (b : Option Bus) → all_answers (if u then alone_on b t else []) ≡ []
    by_test true None = refl
    by_test true (Some b) = refl
    by_test false b = refl

-- what holds of the messages on the buses at every history
abbrev m_at : Description → List Event → Bus → Option Message
m_at P h b = message_on_bus (tell P h) b

abbrev OneOwn : (Bus → Option Message) → Type 0
OneOwn m = (own (m A) ≡ false) ⊎ (own (m B) ≡ false)

pub record Stands (P : Description) (h : List Event) : Type 0 where
  pub engaged : (b : Bus) → is_engaged P (past P h) b ≡ true → own (m_at P h b) ≡ true
  pub one : OneOwn (m_at P h)
  pub silent : (b : Bus) → own (m_at P h b) ≡ false → acts (m_at P h b) ≡ []
  pub answers : all_answers (closed (tell P h)) ++ (acts (m_at P h A) ++ acts (m_at P h B)) ≡ first_to_last action (tell P h)

one_empty : (P : Description) (h : List Event) → Stands P h → OneEmpty (acts (m_at P h A)) (acts (m_at P h B))
one_empty P h s = elim s.one [ inl e ↦ inl (s.silent A e) | inr e ↦ inr (s.silent B e) ]

-- the same after one event more
abbrev t_of : Description → List Event → Event → ToldEvent
t_of P h e = told P (past P h) (tell P h) e

after_at : (P : Description) (h : List Event) (e : Event) (b : Bus) → m_at P (e ∷ h) b ≡ after_told b (t_of P h e) (m_at P h b)
after_at P h e b = message_law b (t_of P h e) (tell P h)

-- either bus is the one, or the other
pub same_or : (b c : Bus) → (b ≡ c) ⊎ (same_bus b c ≡ false)
same_or A A = inl refl
same_or A B = inr refl
same_or B A = inr refl
same_or B B = inl refl

-- the messages that an event closes
closed-answers : (P : Description) (h : List Event) (e : Event) → OneEmpty (acts (closed_on (tell P h) (t_of P h e) A)) (acts (closed_on (tell P h) (t_of P h e) B)) →
    all_answers (closed (tell P (e ∷ h)))
    ≡ all_answers (closed (tell P h)) ++ (acts (closed_on (tell P h) (t_of P h e) A) ++ acts (closed_on (tell P h) (t_of P h e) B))
closed-answers P h e o =
    let t : ToldEvent = t_of P h e in
    let x : Option Message = closed_on (tell P h) t A in
    let y : Option Message = closed_on (tell P h) t B in
    answers-append (closed (tell P h)) (closed_by (tell P h) t)
    ∙ ap (λ l. all_answers (closed (tell P h)) ++ l)
    (answers-append (in_turn x y) (alone t) ∙ ((λ j. answers-in_turn x y o j ++ answers-alone t j) ∙ append-nil (acts x ++ acts y)))

closed_acts : (b : Bus) (t : ToldEvent) (c : Bool) (m : Option Message) → (acts m ≡ []) → acts (if c then closed_with t m else None) ≡ []
closed_acts b t true m e = acts_closed t m ∙ e
closed_acts b t false m e = refl

one_closed : (P : Description) (h : List Event) (e : Event) → Stands P h →
    OneEmpty (acts (closed_on (tell P h) (t_of P h e) A)) (acts (closed_on (tell P h) (t_of P h e) B))
one_closed P h e s =
    let t : ToldEvent = t_of P h e in
    elim (one_empty P h s) [
      | inl z ↦ inl (closed_acts A t (closes A t) (m_at P h A) z)
      | inr z ↦ inr (closed_acts B t (closes B t) (m_at P h B) z)
    ]

-- an event that is not answered
quiet-answers : (P : Description) (h : List Event) (e : Event) → Stands P h → action (t_of P h e) ≡ None →
    all_answers (closed (tell P (e ∷ h))) ++ (acts (m_at P (e ∷ h) A) ++ acts (m_at P (e ∷ h) B)) ≡ first_to_last action (tell P (e ∷ h))
quiet-answers P h e s a =
    let t : ToldEvent = t_of P h e in
    (λ j. closed-answers P h e (one_closed P h e s) j ++ (acts (after_at P h e A j) ++ acts (after_at P h e B j)))
    ∙ (moved (all_answers (closed (tell P h))) (acts (m_at P h A)) (acts (m_at P h B)) _ _ _ _ (one_empty P h s)
    (moves_by A t (closes A t) (begins_on A t) (belongs_on A t) (m_at P h A) a)
    (moves_by B t (closes B t) (begins_on B t) (belongs_on B t) (m_at P h B) a)
    ∙ (s.answers ∙ sym (first_to_last-none t (tell P h) a)))

-- an event that is answered
pub open_own : (m : Option Message) → own m ≡ true → is_some m ≡ true
open_own None e = cc
open_own (Some m) e = refl

none_closed : (P : Description) (h : List Event) (e : Event) (b : Bus) → closes b (t_of P h e) ≡ false → acts (closed_on (tell P h) (t_of P h e) b) ≡ []
none_closed P h e b c = ap (λ x. acts (if x then closed_with (t_of P h e) (m_at P h b) else None)) c

other_silent : (P : Description) (h : List Event) → Stands P h → (b d : Bus) → same_bus d b ≡ false → own (m_at P h b) ≡ true → acts (m_at P h d) ≡ []
other_silent P h s A B n o = s.silent B (elim s.one [ inl e ↦ cc (e, o) | inr e ↦ e ])
other_silent P h s B A n o = s.silent A (elim s.one [ inl e ↦ e | inr e ↦ cc (e, o) ])
other_silent P h s A A n o = cc
other_silent P h s B B n o = cc

answered-acts : (P : Description) (h : List Event) (e : Event) (b : Bus) (o : Out) → Stands P h → AnswerFits (t_of P h e) (is_engaged P (past P h)) b o →
    acts (m_at P (e ∷ h) A) ++ acts (m_at P (e ∷ h) B) ≡ (acts (m_at P h A) ++ acts (m_at P h B)) ++ o ∷ []
answered-acts P h e A o s f =
    let t : ToldEvent = t_of P h e in
    let mine : own (m_at P h A) ≡ true = s.engaged A f.engaged in
    let none : acts (m_at P h B) ≡ [] = other_silent P h s A B refl mine in
    (λ j. acts (after_at P h e A j) ++ acts (after_at P h e B j))
    ∙ ((λ j. joined_acts A t (closes A t) (begins_on A t) (belongs_on A t) (m_at P h A) o (f.closes A) f.here (open_own (m_at P h A) mine) f.action j
    ++ (apart_acts B t (closes B t) (begins_on B t) (belongs_on B t) (m_at P h B) (f.closes B) (f.apart B refl) ∙ none) j)
    ∙ (append-nil (acts (m_at P h A) ++ o ∷ []) ∙ (λ j. sym (append-nil (acts (m_at P h A))) j ++ o ∷ [])
    ∙ (λ j. (acts (m_at P h A) ++ sym none j) ++ o ∷ [])))
answered-acts P h e B o s f =
    let t : ToldEvent = t_of P h e in
    let mine : own (m_at P h B) ≡ true = s.engaged B f.engaged in
    (λ j. acts (after_at P h e A j) ++ acts (after_at P h e B j))
    ∙ ((λ j. apart_acts A t (closes A t) (begins_on A t) (belongs_on A t) (m_at P h A) (f.closes A) (f.apart A refl) j
    ++ joined_acts B t (closes B t) (begins_on B t) (belongs_on B t) (m_at P h B) o (f.closes B) f.here (open_own (m_at P h B) mine) f.action j)
    ∙ sym (append_assoc (acts (m_at P h A)) (acts (m_at P h B)) (o ∷ [])))

answered-answers : (P : Description) (h : List Event) (e : Event) (b : Bus) (o : Out) → Stands P h → AnswerFits (t_of P h e) (is_engaged P (past P h)) b o →
    all_answers (closed (tell P (e ∷ h))) ++ (acts (m_at P (e ∷ h) A) ++ acts (m_at P (e ∷ h) B)) ≡ first_to_last action (tell P (e ∷ h))
answered-answers P h e b o s f =
    (λ j. closed-answers P h e (one_closed P h e s) j ++ answered-acts P h e b o s f j)
    ∙ ((λ j. (all_answers (closed (tell P h)) ++ (none_closed P h e A (f.closes A) j ++ none_closed P h e B (f.closes B) j)) ++ ((acts (m_at P h A) ++ acts (m_at P h B)) ++ o ∷ []))
    ∙ ((λ j. append-nil (all_answers (closed (tell P h))) j ++ ((acts (m_at P h A) ++ acts (m_at P h B)) ++ o ∷ []))
    ∙ (sym (append_assoc (all_answers (closed (tell P h))) (acts (m_at P h A) ++ acts (m_at P h B)) (o ∷ []))
    ∙ ((λ j. s.answers j ++ o ∷ []) ∙ sym (first_to_last-some (t_of P h e) (tell P h) o f.action)))))

-- after a start
start_own : (P : Description) (h : List Event) (e : Event) (c : Bus) → StartFits (t_of P h e) c (m_at P h c) → own (m_at P (e ∷ h) c) ≡ true
start_own P h e c f =
    let t : ToldEvent = t_of P h e in
    ap own (after_at P h e c)
    ∙ elim f.here [
      | inl x ↦ begun_own c t (closes c t) (begins_on c t) (belongs_on c t) (m_at P h c) x.0 x.1 f.starts
      | inr x ↦ joined_own c t (closes c t) (begins_on c t) (belongs_on c t) (m_at P h c) x.0 x.1 x.2 f.starts
    ]

left_none : (b : Bus) (t : ToldEvent) (c k n : Bool) (m : Option Message) → c ≡ true → k ≡ false → after_by b t c k n m ≡ None
left_none b t true true n m c k = cc
left_none b t true false n m c k = refl
left_none b t false k' n m c k = cc

start_other : (P : Description) (h : List Event) (e : Event) (c d : Bus) → StartFits (t_of P h e) c (m_at P h c) → same_bus d c ≡ false → m_at P (e ∷ h) d ≡ None
start_other P h e c d f n =
    let t : ToldEvent = t_of P h e in
    let x : (closes d t ≡ true) × (begins_on d t ≡ false) × (t.engaged d ≡ false) = f.elsewhere d n in
    after_at P h e d ∙ left_none d t (closes d t) (begins_on d t) (belongs_on d t) (m_at P h d) x.0 x.1

start_engaged : (P : Description) (h : List Event) (e : Event) (c : Bus) → StartFits (t_of P h e) c (m_at P h c) → (b : Bus) → is_engaged P (past P (e ∷ h)) b ≡ true → own (m_at P (e ∷ h) b) ≡ true
start_engaged P h e c f b n =
    elim (same_or b c) [
      | inl i ↦ ap (λ b. own (m_at P (e ∷ h) b)) i ∙ start_own P h e c f
      | inr x ↦ let off : is_engaged P (past P (e ∷ h)) b ≡ false = (f.elsewhere b x).2 in cc (off, n)
    ]

start_one : (P : Description) (h : List Event) (e : Event) (c : Bus) → StartFits (t_of P h e) c (m_at P h c) → OneOwn (m_at P (e ∷ h))
start_one P h e A f = inr (ap own (start_other P h e A B f refl))
start_one P h e B f = inl (ap own (start_other P h e B A f refl))

start_silent : (P : Description) (h : List Event) (e : Event) (c : Bus) → StartFits (t_of P h e) c (m_at P h c) → (b : Bus) → own (m_at P (e ∷ h) b) ≡ false → acts (m_at P (e ∷ h) b) ≡ []
start_silent P h e c f b n =
    elim (same_or b c) [
      | inl i ↦ let is : own (m_at P (e ∷ h) b) ≡ true = ap (λ b. own (m_at P (e ∷ h) b)) i ∙ start_own P h e c f in cc (is, n)
      | inr x ↦ ap acts (start_other P h e c b f x)
    ]

start_stands : (P : Description) (h : List Event) (e : Event) (c : Bus) → StartFits (t_of P h e) c (m_at P h c) → Stands P h → Stands P (e ∷ h)
start_stands P h e c f s = record {
  engaged = start_engaged P h e c f;
  one = start_one P h e c f;
  silent = start_silent P h e c f;
  answers = quiet-answers P h e s f.silent;
}

-- after an event that starts nothing
quiet_off : (P : Description) (h : List Event) (e : Event) (b : Bus) → (t_of P h e).noted.starts ≡ false → own (m_at P h b) ≡ false → own (m_at P (e ∷ h) b) ≡ false
quiet_off P h e b s o = by_case (own (m_at P (e ∷ h) b)) refl
  where
    by_case : (v : Bool) → own (m_at P (e ∷ h) b) ≡ v → own (m_at P (e ∷ h) b) ≡ false
    by_case false v = v
    by_case true v =
        let t : ToldEvent = t_of P h e in
        let was : own (m_at P h b) ≡ true = quiet_own b t (closes b t) (begins_on b t) (belongs_on b t) (m_at P h b) s (sym (ap own (after_at P h e b)) ∙ v) in
        cc (was, o)

quiet_engaged : (P : Description) (h : List Event) (e : Event) → QuietFits (t_of P h e) (is_engaged P (past P h)) → Stands P h →
    (b : Bus) → is_engaged P (past P (e ∷ h)) b ≡ true → own (m_at P (e ∷ h) b) ≡ true
quiet_engaged P h e f s b n =
    let t : ToldEvent = t_of P h e in
    let x : (is_engaged P (past P h) b ≡ true) × (closes b t ≡ false) = f.engaged b n in
    ap own (after_at P h e b) ∙ kept_own b t (closes b t) (begins_on b t) (belongs_on b t) (m_at P h b) x.1 (s.engaged b x.0)

-- what it leaves of a message that is not of the terminal has no answers
apart_or_none : (P : Description) (h : List Event) (e : Event) (b : Bus) → Stands P h → own (m_at P h b) ≡ false →
    (action (t_of P h e) ≡ None) ⊎ ((d : Bus) × (o : Out) × AnswerFits (t_of P h e) (is_engaged P (past P h)) d o) →
    acts (m_at P (e ∷ h) b) ≡ []
apart_or_none P h e b s o (inl a) =
    let t : ToldEvent = t_of P h e in
    ap acts (after_at P h e b) ∙ still (closes b t) (begins_on b t) (belongs_on b t) (m_at P h b) (s.silent b o)
  where
    still : (c k n : Bool) (m : Option Message) → acts m ≡ [] → acts (after_by b (t_of P h e) c k n m) ≡ []
    still true true n m z = refl
    still true false n m z = refl
    still false k true None z = refl
    still false k true (Some m) z = first_to_last-none (t_of P h e) m.later a ∙ z
    still false k false m z = z
apart_or_none P h e b s o (inr x) =
    let t : ToldEvent = t_of P h e in
    elim (same_or b x.0) [
      | inl i ↦ let is : own (m_at P h b) ≡ true = ap (λ b. own (m_at P h b)) i ∙ s.engaged x.0 x.2.engaged in cc (is, o)
      | inr n ↦ ap acts (after_at P h e b) ∙ (apart_acts b t (closes b t) (begins_on b t) (belongs_on b t) (m_at P h b) (x.2.closes b) (x.2.apart b n) ∙ s.silent b o)
    ]

-- the answers of a message that is not of the terminal, where it is after the event: then it was not before
quiet_silent : (P : Description) (h : List Event) (e : Event) → QuietFits (t_of P h e) (is_engaged P (past P h)) → Stands P h →
    (b : Bus) → own (m_at P (e ∷ h) b) ≡ false → acts (m_at P (e ∷ h) b) ≡ []
quiet_silent P h e f s b n = by_own (own (m_at P h b)) refl
  where
    t : ToldEvent
    t = t_of P h e

    closed_off : (c k m' : Bool) (m : Option Message) → own m ≡ true → own (after_by b t c k m' m) ≡ false → acts (after_by b t c k m' m) ≡ []
    closed_off true true m' m o z = refl
    closed_off true false m' m o z = refl
    closed_off false k m' m o z = let is : own (after_by b t false k m' m) ≡ true = kept_own b t false k m' m refl o in cc (is, z)

    by_own : (v : Bool) → own (m_at P h b) ≡ v → acts (m_at P (e ∷ h) b) ≡ []
    by_own false v = apart_or_none P h e b s v f.answer
    by_own true v = ap acts (after_at P h e b) ∙ closed_off (closes b t) (begins_on b t) (belongs_on b t) (m_at P h b) v (sym (ap own (after_at P h e b)) ∙ n)

quiet_stands : (P : Description) (h : List Event) (e : Event) → QuietFits (t_of P h e) (is_engaged P (past P h)) → Stands P h → Stands P (e ∷ h)
quiet_stands P h e f s = record {
  engaged = quiet_engaged P h e f s;
  one = elim s.one [ inl o ↦ inl (quiet_off P h e A f.starts o) | inr o ↦ inr (quiet_off P h e B f.starts o) ];
  silent = quiet_silent P h e f s;
  answers = elim f.answer [ inl a ↦ quiet-answers P h e s a | inr x ↦ answered-answers P h e x.0 x.1 s x.2 ];
}

-- at every history
none_engaged : (P : Description) (b : Bus) → is_engaged P [] b ≡ false
none_engaged P A = refl
none_engaged P B = refl

pub stands : (P : Description) (h : List Event) → Stands P h
stands P [] = record {
  engaged = λ b n. let off : is_engaged P [] b ≡ false = none_engaged P b in cc;
  one = inl refl;
  silent = λ b n. refl;
  answers = refl;
}
stands P (e ∷ h) = elim (event_fits P h e) [ inl f ↦ start_stands P h e f.0 f.1 (stands P h) | inr f ↦ quiet_stands P h e f (stands P h) ]

-- the answers of a history, and of a run

told-answers : (P : Description) (h es : List Event) → first_to_last action (tell P (history_after es h)) ≡ first_to_last action (tell P h) ++ keep act_of (outs_from P h es)
told-answers P h [] = sym (append-nil (first_to_last action (tell P h)))
told-answers P h (e ∷ es) = told-answers P (e ∷ h) es ∙ one_more (action (t_of P h e)) refl
  where
    one_more : (o : Option Out) → action (t_of P h e) ≡ o →
        first_to_last action (tell P (e ∷ h)) ++ keep act_of (outs_from P (e ∷ h) es) ≡ first_to_last action (tell P h) ++ keep act_of (outs_from P h (e ∷ es))
    one_more None a =
        (λ j. first_to_last-none (t_of P h e) (tell P h) a j ++ keep act_of (outs_from P (e ∷ h) es))
        ∙ sym (ap (λ (o : Option Out). first_to_last action (tell P h) ++ (elim o as (λ o. List Out) [ None ↦ keep act_of (outs_from P (e ∷ h) es) | Some y ↦ y ∷ keep act_of (outs_from P (e ∷ h) es) ])) a)
    one_more (Some o) a =
        (λ j. first_to_last-some (t_of P h e) (tell P h) o a j ++ keep act_of (outs_from P (e ∷ h) es))
        ∙ (append_assoc (first_to_last action (tell P h)) (o ∷ []) (keep act_of (outs_from P (e ∷ h) es))
        ∙ sym (ap (λ (o : Option Out). first_to_last action (tell P h) ++ (elim o as (λ o. List Out) [ None ↦ keep act_of (outs_from P (e ∷ h) es) | Some y ↦ y ∷ keep act_of (outs_from P (e ∷ h) es) ])) a))

in-answers : (P : Description) (h : List Event) → all_answers (messages_in P h) ≡ first_to_last action (tell P h)
in-answers P h =
    let s : Stands P h = stands P h in
    answers-append (closed (tell P h)) (still_open (tell P h))
    ∙ (ap (λ l. all_answers (closed (tell P h)) ++ l) (answers-in_turn (m_at P h A) (m_at P h B) (one_empty P h s)) ∙ s.answers)

pub partition_law : PartitionLaw
partition_law P es = in-answers P (history_after es []) ∙ told-answers P [] es
