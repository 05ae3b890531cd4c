-- The command with which the terminal starts a message.
use Rattle.std.proofs.Common.{◌≡◌, ℕ, Bool, true, false, not, ◌&&◌, ◌||◌, ◌==◌, if◌then◌else◌, Option, Some, None, List, [], ◌∷◌, refl, ap, sym, ◌∙◌, subst, arith}
use Rattle.std.proofs.lemmas.Bool.{and_parts}
use Rattle.std.proofs.lemmas.Bool.Decides.{nat_tests}
use Rattle.bus_word.specs.declared.word.Bus.{Bus}
use Rattle.bus_word.specs.declared.word.Bus.TheVariants.{A, B}
use Rattle.bus_word.specs.declared.word.Raw.{Raw}
use Rattle.bus_word.specs.Word.{is_command}
use Rattle.bus_word.specs.Command.{address_of, transmits, is_receive, is_broadcast}
use Rattle.bus_legal.specs.Description.{Description}
use Rattle.terminal_rules.specs.declared.event.Event.{Event}
use Rattle.terminal_rules.specs.declared.event.Event.TheVariants.{Word, Noise, Gap, Write, Vector, Bit, Flag as FlagIs, Slot}
use Rattle.terminal_rules.specs.Buses.{same_bus}
use Rattle.terminal_rules.specs.LookBack.{latest}
use Rattle.terminal_rules.specs.History.{NoTurn, is_ignored}
use Rattle.terminal_rules.specs.Open.{Open, Idle, Collects, open_now, is_on}
use Rattle.terminal_rules.specs.Starts.{starts_now, is_for_terminal, is_meant, heard_now, is_free, is_fresh_broadcast}
use Rattle.terminal_rules.specs.SinceReset.{either_word}
use Rattle.terminal_rules.specs.Steps.{replies_on}
use Rattle.terminal_rules.specs.Turn.{unless_ignored_turn}
use Rattle.terminal_rules.specs.Past.{past, history_after}
use Rattle.terminal_rules.proofs.OpenLaw.{open_law, after_event}
use Rattle.terminal_rules.proofs.Reach.Heard.{IsMeant, open_meant}
use Rattle.terminal_messages.specs.declared.part.MessagePart.TheVariants.{Plain, First, Second}
use Rattle.terminal_messages.specs.Told.{ToldEvent, event_bus, is_first_command, is_second_command, begins_on, begins_elsewhere, closes, belongs_on}
use Rattle.terminal_messages.specs.Message.{Message, message_on_bus}
use Rattle.terminal_messages.specs.Messages.{closed_with}
use Rattle.terminal_messages.specs.Parts.{tell, bits_of_word, command_begun, second_of, terminal_command, is_none_yet, is_transmitter_for, takes_second, part_of_command}
use Rattle.terminal_messages.specs.Laws.{has_end, closer_has_end, start_in, last_start, StartsWith, IsToldStarted, StartLaw}
use Rattle.terminal_messages.proofs.Each.{IfMessage, lone, each_in}
use Rattle.terminal_messages.proofs.Engaged.{start_heard}
use Rattle.terminal_messages.proofs.Exact.{IsOn, is_on_bus}
use Rattle.terminal_messages.proofs.Partition.{own}
use Rattle.terminal_messages.proofs.Unstarted.{EndsOn, ends_on, told_unstarted, closer_own}
use Rattle.terminal_messages.proofs.Fits.{part_of_start, event_fits}
use Rattle.terminal_messages.proofs.Once.{end_fits, unstarted}
use Rattle.terminal_messages.proofs.StepLaw.{after_by, message_law}
use Rattle.terminal_messages.proofs.ViewLaw.{t_of, on_same, second_word, second_fresh}

-- while nothing followed the command that started a message, that is in progress, and nothing was collected
abbrev FreshOn : Option Message → Open → Type 0
FreshOn None o = Unit {0}
FreshOn (Some m) o = is_none_yet m.later ≡ true → m.first.noted.starts ≡ true → o ≡ Collects (command_begun m) []

fresh_after : (b : Bus) (t : ToldEvent) (c k n : Bool) (m : Option Message) (o o' : Open) → FreshOn m o →
    (k ≡ true → t.noted.starts ≡ true → o' ≡ Collects (bits_of_word t.noted.event) []) → (c ≡ false → n ≡ false → o' ≡ o) → FreshOn (after_by b t c k n m) o'
fresh_after b t true true n m o o' q w u = λ e s. w refl s
fresh_after b t true false n m o o' q w u = tt
fresh_after b t false k true None o o' q w u = tt
fresh_after b t false k true (Some m) o o' q w u = λ e s. cc
fresh_after b t false k false None o o' q w u = tt
fresh_after b t false k false (Some m) o o' q w u = λ e s. u refl refl ∙ q e s

begun_open : (P : Description) (h : List Event) (e : Event) (b : Bus) → begins_on b (t_of P h e) ≡ true → (t_of P h e).noted.starts ≡ true → open_now P (past P (e ∷ h)) b ≡ Collects (bits_of_word e) []
begun_open P h (Word c w) b k s =
    open_law P (past P h) b (Word c w)
    ∙ ((λ j. if (start_heard P (past P h) c w s).0 j then open_now P (past P h) b else after_event P b (Word c w) (s j) (open_now P (past P h) b))
    ∙ ap (λ x. let o : Open = if x then Collects w.bits [] else Idle in o) (and_parts (is_first_command (t_of P h (Word c w)).part) (same_bus b c) k).1)
begun_open P h (Noise c) b k s = cc
begun_open P h (Gap c) b k s = cc
begun_open P h (Write q v) b k s = cc
begun_open P h (Vector v) b k s = cc
begun_open P h (Bit v) b k s = cc
begun_open P h (FlagIs f v) b k s = cc
begun_open P h Slot b k s = cc

fresh_on : (P : Description) (h : List Event) (b : Bus) → FreshOn (message_on_bus (tell P h) b) (open_now P (past P h) b)
fresh_on P [] b = tt
fresh_on P (e ∷ h) b =
    let t : ToldEvent = t_of P h e in
    subst (λ m. FreshOn m (open_now P (past P (e ∷ h)) b)) (sym (message_law b t (tell P h)))
    (fresh_after b t (closes b t) (begins_on b t) (belongs_on b t) (message_on_bus (tell P h) b) (open_now P (past P h) b) (open_now P (past P (e ∷ h)) b) (fresh_on P h b)
    (begun_open P h e b) (λ c n. (end_fits P h e b).apart n (unstarted P h e b (event_fits P h e) c n)))

-- a start that does not close the message on its bus is the second command, to the own address
taken : (c : ℕ) (m : Option Message) → takes_second c m ≡ true → is_broadcast c ≡ false
taken c None k = cc
taken c (Some m) k = not_true (is_broadcast c) (and_parts _ _ (and_parts _ _ (and_parts _ _ k).1).1).0
  where
    not_true : (x : Bool) → not x ≡ true → x ≡ false
    not_true true e = cc
    not_true false e = refl

own_address : (x y z : Bool) → y ≡ false → (x || (y && z)) ≡ true → x ≡ true
own_address true y z n e = refl
own_address false true z n e = cc
own_address false false z n e = cc

same_self : (b : Bus) → same_bus b b ≡ true
same_self A = refl
same_self B = refl

start_second : (P : Description) (h : List Event) (c b : Bus) (w : Raw) (k : Bool) → takes_second w.bits (message_on_bus (tell P h) c) ≡ k →
    closes b (t_of P h (Word c w)) ≡ false → belongs_on b (t_of P h (Word c w)) ≡ true → starts_now P (past P h) (Word c w) ≡ true →
    (is_second_command (t_of P h (Word c w)).part ≡ true) × ((address_of w.bits == P.address) ≡ true)
start_second P h c b w true k cl n s = (
  ap is_second_command (part_of_start P h c w s ∙ ap (λ x. if x then Second else First) k),
  own_address (address_of w.bits == P.address) (is_broadcast w.bits) P.broadcast (taken w.bits (message_on_bus (tell P h) c) k)
      (and_parts (is_command w) _ (and_parts (is_for_terminal P w) _ (and_parts _ _ s).1).0).1,
)
start_second P h c b w false k cl n s =
    let t : ToldEvent = t_of P h (Word c w) in
    let first : t.part ≡ First = part_of_start P h c w s ∙ ap (λ x. if x then Second else First) k in
    let here : same_bus b c ≡ true = ap (λ b. same_bus b c) (on_same b c (not (is_ignored t.noted.turn)) n) ∙ same_self c in
    let yes : closes b t ≡ true = λ j. (is_first_command (first j) && here j) || (begins_elsewhere b t && not (t.engaged b)) in
    cc (yes, cl)

event_second : (P : Description) (h : List Event) (e : Event) (b : Bus) → closes b (t_of P h e) ≡ false → belongs_on b (t_of P h e) ≡ true → (t_of P h e).noted.starts ≡ true →
    (is_second_command (t_of P h e).part ≡ true) × ((address_of (bits_of_word e) == P.address) ≡ true)
event_second P h (Word c w) b cl n s = start_second P h c b w (takes_second w.bits (message_on_bus (tell P h) c)) refl cl n s
event_second P h (Noise c) b cl n s = cc
event_second P h (Gap c) b cl n s = cc
event_second P h (Write q v) b cl n s = cc
event_second P h (Vector v) b cl n s = cc
event_second P h (Bit v) b cl n s = cc
event_second P h (FlagIs f v) b cl n s = cc
event_second P h Slot b cl n s = cc

-- a second command to the own address starts, if the first one did
starts_true : (r v x t f y z : Bool) → r ≡ false → v ≡ true → x ≡ true → t ≡ true → f ≡ true → (not r && ((v && (x || y)) && (z || (f && (t && x))))) ≡ true
starts_true false true true true true y true a b c d e = refl
starts_true false true true true true y false a b c d e = refl
starts_true true v x t f y z a b c d e = cc
starts_true false false x t f y z a b c d e = cc
starts_true false true false t f y z a b c d e = cc
starts_true false true true false f y z a b c d e = cc
starts_true false true true true false y z a b c d e = cc

heard : (P : Description) (c : ℕ) (v i s e a : Bool) (m : Option Message) → is_second_command (if v then part_of_command P c i s e a m else Plain) ≡ true → (v ≡ true) × (i ≡ false)
heard P c false i s e a m p = cc
heard P c true true s e a m p = cc
heard P c true false s e a m p = (refl, refl)

not_replying : (r : Bool) → is_ignored (unless_ignored_turn r NoTurn) ≡ false → r ≡ false
not_replying true e = cc
not_replying false e = refl

by_broadcast : (own first next : ℕ) (y : Bool) → (address_of next == own) ≡ true → not (address_of next == address_of first) ≡ true → ((address_of first == own) || (is_broadcast first && y)) ≡ true → is_broadcast first ≡ true
by_broadcast own first next y same other meant = by_test (address_of first == own) refl meant
  where
    by_test : (t : Bool) → (address_of first == own) ≡ t → (t || (is_broadcast first && y)) ≡ true → is_broadcast first ≡ true
    by_test true e m = absurd (grind (arith, nat_tests))
    by_test false e m = (and_parts _ _ m).0

parts_of_second : (c : ℕ) (m : Option Message) (n : Message) → m ≡ Some n → takes_second c m ≡ true → is_transmitter_for (command_begun n) c ≡ true
parts_of_second c None n e k = cc
parts_of_second c (Some m) n e k =
    ap (λ (o : Option Message). is_transmitter_for (command_begun (elim o as (λ o. Message) [ None ↦ m | Some x ↦ x ])) c) (sym e) ∙ (and_parts _ _ k).1

second_starts : (P : Description) (h : List Event) (c : Bus) (w : Raw) (m : Message) → message_on_bus (tell P h) c ≡ Some m → is_none_yet m.later ≡ true → is_second_command (t_of P h (Word c w)).part ≡ true →
    m.first.noted.starts ≡ true → (address_of w.bits == P.address) ≡ true → starts_now P (past P h) (Word c w) ≡ true
second_starts P h c w m is none p s x =
    let t : ToldEvent = t_of P h (Word c w) in
    let ns = past P h in
    let o : open_now P ns c ≡ Collects (command_begun m) [] = subst (λ n. FreshOn n (open_now P ns c)) is (fresh_on P h c) none s in
    let word : (is_command w ≡ true) × (is_ignored t.noted.turn ≡ false) = heard P w.bits (is_command w) (is_ignored t.noted.turn) t.noted.starts (t.engaged c) t.awaits (message_on_bus (tell P h) c) p in
    let both : is_transmitter_for (command_begun m) w.bits ≡ true =
    parts_of_second w.bits (message_on_bus (tell P h) c) m is (second_word P w.bits (is_command w) (is_ignored t.noted.turn) t.noted.starts (t.engaged c) t.awaits (message_on_bus (tell P h) c) p) in
    let (sorts, places) = and_parts (is_receive (command_begun m) && transmits w.bits) _ both in
    let (receives, sends) = and_parts (is_receive (command_begun m)) (transmits w.bits) sorts in
    let meant : is_meant P (command_begun m) ≡ true = subst (IsMeant P) o (open_meant P h c) (command_begun m) refl in
    let all : is_broadcast (command_begun m) ≡ true = by_broadcast P.address (command_begun m) w.bits P.broadcast x (and_parts _ _ places).1 meant in
    starts_true (replies_on ns c) (is_command w) (address_of w.bits == P.address) (transmits w.bits) (is_fresh_broadcast (open_now P ns c)) (is_broadcast w.bits && P.broadcast) (not (heard_now P ns c) && is_free (open_now P ns c))
    (not_replying (replies_on ns c) word.1) word.0 x sends
    (ap is_fresh_broadcast o ∙ (λ j. receives j && all j))

second_apart : (P : Description) (h : List Event) (e : Event) (b : Bus) (m : Message) → message_on_bus (tell P h) b ≡ Some m → belongs_on b (t_of P h e) ≡ true → (t_of P h e).noted.starts ≡ false →
    is_second_command (t_of P h e).part ≡ true → m.first.noted.starts ≡ true → (address_of (bits_of_word e) == P.address) ≡ false
second_apart P h (Word c w) b m is n off p s = by_test (address_of w.bits == P.address) refl
  where
    by_test : (x : Bool) → (address_of w.bits == P.address) ≡ x → (address_of w.bits == P.address) ≡ false
    by_test false x = x
    by_test true x =
        let on : b ≡ c = on_same b c (not (is_ignored (t_of P h (Word c w)).noted.turn)) n in
        let yes : starts_now P (past P h) (Word c w) ≡ true =
        second_starts P h c w m (ap (message_on_bus (tell P h)) (sym on) ∙ is) (second_fresh P h (Word c w) b m is n p) p s x in
        cc (yes, off)
second_apart P h (Noise c) b m is n off p s = cc
second_apart P h (Gap c) b m is n off p s = cc
second_apart P h (Write q v) b m is n off p s = cc
second_apart P h (Vector v) b m is n off p s = cc
second_apart P h (Bit v) b m is n off p s = cc
second_apart P h (FlagIs f v) b m is n off p s = cc
second_apart P h Slot b m is n off p s = cc

-- one event more
abbrev first_of : {X : Type 0} → Option X → Option X → Option X
first_of {X} x rest = elim x as (λ o. Option X) [ None ↦ rest | Some y ↦ Some y ]

more_by : (own first c : ℕ) (s k f : Bool) (started second : Option ℕ) → (s ≡ true → (k ≡ true) × ((address_of c == own) ≡ true)) → (k ≡ true → started ≡ None) → (s ≡ false → k ≡ true → f ≡ true → (address_of c == own) ≡ false) →
    StartsWith (terminal_command own first second) (either_word started (if f then Some first else None)) →
    StartsWith (terminal_command own first (first_of (if k then Some c else None) second)) (either_word (first_of (if s then Some c else None) started) (if f then Some first else None))
more_by own first c true true f started second a n d q = sym (ap (λ x. if x then c else first) (a refl).1)
more_by own first c true false f started second a n d q = let wrong : false ≡ true = (a refl).0 in cc
more_by own first c false false f started second a n d q = q
more_by own first c false true f started second a n d q =
    subst (λ l. StartsWith (if address_of c == own then c else first) (either_word l (if f then Some first else None))) (sym (n refl)) (by_first f (d refl refl))
  where
    by_first : (f : Bool) → (f ≡ true → (address_of c == own) ≡ false) → StartsWith (if address_of c == own then c else first) (if f then Some first else None)
    by_first false d = tt
    by_first true d = sym (ap (λ x. if x then c else first) (d refl))

none_started : (later : List ToldEvent) → is_none_yet later ≡ true → latest start_in later ≡ None
none_started [] e = refl
none_started (t ∷ ts) e = cc

abbrev IsStarted : Description → Message → Type 0
IsStarted P m = StartsWith (terminal_command P.address (command_begun m) (second_of m)) (last_start m)

own_start : (s : Bool) (c : ℕ) → StartsWith c (if s then Some c else None)
own_start true c = refl
own_start false c = tt

started_after : (P : Description) (b : Bus) (t : ToldEvent) (c k n : Bool) (m : Option Message) → IfMessage (IsStarted P) m →
    ((x : Message) → m ≡ Some x → c ≡ false → n ≡ true → IsStarted P x → IsStarted P (record x { later = t ∷ x.later })) → IfMessage (IsStarted P) (after_by b t c k n m)
started_after P b t true true n m q more = own_start t.noted.starts (bits_of_word t.noted.event)
started_after P b t true false n m q more = tt
started_after P b t false k true None q more = tt
started_after P b t false k true (Some m) q more = more m refl refl refl q
started_after P b t false k false m q more = q

started_on : (P : Description) (h : List Event) (b : Bus) → IfMessage (IsStarted P) (message_on_bus (tell P h) b)
started_on P [] b = tt
started_on P (e ∷ h) b =
    let t : ToldEvent = t_of P h e in
    subst (IfMessage (IsStarted P)) (sym (message_law b t (tell P h)))
    (started_after P b t (closes b t) (begins_on b t) (belongs_on b t) (message_on_bus (tell P h) b) (started_on P h b)
    (λ m is cl n. more_by P.address (command_begun m) (bits_of_word e) t.noted.starts (is_second_command t.part) m.first.noted.starts (latest start_in m.later) (second_of m)
    (event_second P h e b cl n) (λ p. none_started m.later (second_fresh P h e b m is n p)) (second_apart P h e b m is n)))

-- what is told of it
open_told : (P : Description) (b : Bus) (m : Option Message) → IsOn b m → IfMessage EndsOn m → IfMessage (IsStarted P) m → IfMessage (IsToldStarted P) m
open_told P b None i e q = tt
open_told P b (Some m) i e q = record { told = told_unstarted P m e (λ x. let off : closer_has_end m.bus m.closer ≡ false = ap (closer_has_end m.bus) i.1 in cc (x, off)); command = q }

closed_told : (P : Description) (b : Bus) (t : ToldEvent) (c : Bool) (m : Option Message) → IsOn b m → IfMessage EndsOn m → IfMessage (IsStarted P) m →
    (is_on b (event_bus t.noted.event) ≡ true → has_end t.noted.ends ≡ true → own m ≡ true) → IfMessage (IsToldStarted P) (if c then closed_with t m else None)
closed_told P b t false m i e q w = tt
closed_told P b t true None i e q w = tt
closed_told P b t true (Some m) i e q w = record {
  told = told_unstarted P (record m { closer = Some t }) e (λ x. let (on, ends) = and_parts (is_on m.bus (event_bus t.noted.event)) (has_end t.noted.ends) x in w (ap (λ b. is_on b (event_bus t.noted.event)) (sym i.0) ∙ on) ends);
  command = q;
}

pub start_law : StartLaw
start_law P es =
    each_in (IsToldStarted P) P (λ h b. open_told P b (message_on_bus (tell P h) b) (is_on_bus (tell P h) b) (ends_on P h b) (started_on P h b))
    (λ h e b. closed_told P b (t_of P h e) (closes b (t_of P h e)) (message_on_bus (tell P h) b) (is_on_bus (tell P h) b) (ends_on P h b) (started_on P h b) (closer_own P h e b))
    (λ t b. record { told = told_unstarted P (lone t b) tt (λ x. cc); command = own_start t.noted.starts (bits_of_word t.noted.event) }) (history_after es [])
