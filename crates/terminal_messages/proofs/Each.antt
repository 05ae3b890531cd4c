-- What holds of each message on a bus holds of each message of a run.
use Rattle.std.proofs.Common.{Bool, true, false, nat_le, if◌then◌else◌, Option, Some, None, List, [], ◌∷◌, ◌++◌}
use Rattle.bus_word.specs.declared.word.Bus.{Bus}
use Rattle.bus_word.specs.declared.word.Bus.TheVariants.{A, B}
use Rattle.bus_legal.specs.Description.{Description}
use Rattle.terminal_rules.specs.declared.event.Event.{Event}
use Rattle.terminal_messages.specs.Told.{ToldEvent, is_unheard, event_bus}
use Rattle.terminal_messages.specs.Message.{Message, message_on_bus}
use Rattle.terminal_messages.specs.Parts.{tell}
use Rattle.terminal_messages.specs.Messages.{in_turn, closed_on, alone, alone_on, closed_by, closed, still_open, messages_in}
use Rattle.terminal_messages.specs.Laws.{EachMessage}
use Rattle.terminal_messages.proofs.ViewLaw.{t_of}

abbrev pub IfMessage : (Message → Type 0) → Option Message → Type 0
IfMessage Q None = Unit {0}
IfMessage Q (Some m) = Q m

each-append : (Q : Message → Type 0) (xs ys : List Message) → EachMessage Q xs → EachMessage Q ys → EachMessage Q (xs ++ ys)
each-append Q [] ys p q = q
each-append Q (x ∷ xs) ys p q = (p.0, each-append Q xs ys p.1 q)

each-in_turn : (Q : Message → Type 0) (m n : Option Message) → IfMessage Q m → IfMessage Q n → EachMessage Q (in_turn m n)
each-in_turn Q None None p q = tt
each-in_turn Q None (Some n) p q = (q, tt)
each-in_turn Q (Some m) None p q = (p, tt)
each-in_turn Q (Some m) (Some n) p q = by_test (nat_le m.first.index n.first.index)
  where
    by_test : (t : Bool) → EachMessage Q (if t then m ∷ n ∷ [] else n ∷ m ∷ [])
    by_test true = (p, (q, tt))
    by_test false = (q, (p, tt))

-- a message of one command that is not heard
abbrev pub lone : ToldEvent → Bus → Message
lone t b = record { bus = b; first = t; later = []; closer = None }

each-alone : (Q : Message → Type 0) (t : ToldEvent) → ((b : Bus) → Q (lone t b)) → EachMessage Q (alone t)
each-alone Q t q = by_test (is_unheard t.part) (event_bus t.noted.event)
  where
    by_test : (u : Bool) (b : Option Bus) → EachMessage Q (if u then alone_on b t else [])
    by_test false b = tt
    by_test true None = tt
    by_test true (Some b) = (q b, tt)

each-closed : (Q : Message → Type 0) (P : Description) → ((h : List Event) (e : Event) (b : Bus) → IfMessage Q (closed_on (tell P h) (t_of P h e) b)) → ((t : ToldEvent) (b : Bus) → Q (lone t b)) →
    (h : List Event) → EachMessage Q (closed (tell P h))
each-closed Q P c q [] = tt
each-closed Q P c q (e ∷ h) =
    let t : ToldEvent = t_of P h e in
    each-append Q (closed (tell P h)) (closed_by (tell P h) t) (each-closed Q P c q h)
    (each-append Q (in_turn (closed_on (tell P h) t A) (closed_on (tell P h) t B)) (alone t)
    (each-in_turn Q (closed_on (tell P h) t A) (closed_on (tell P h) t B) (c h e A) (c h e B)) (each-alone Q t (q t)))

pub each_in : (Q : Message → Type 0) (P : Description) → ((h : List Event) (b : Bus) → IfMessage Q (message_on_bus (tell P h) b)) → ((h : List Event) (e : Event) (b : Bus) → IfMessage Q (closed_on (tell P h) (t_of P h e) b)) →
    ((t : ToldEvent) (b : Bus) → Q (lone t b)) → (h : List Event) → EachMessage Q (messages_in P h)
each_in Q P o c q h =
    each-append Q (closed (tell P h)) (still_open (tell P h)) (each-closed Q P c q h) (each-in_turn Q (message_on_bus (tell P h) A) (message_on_bus (tell P h) B) (o h A) (o h B))
