-- What a message in progress is to the bus, and how an event that is heard changes that.
use Rattle.std.proofs.Common.{◌≡◌, ℕ, Bool, true, false, not, ◌&&◌, ◌||◌, ◌==◌, if◌then◌else◌, ◌⊎◌, inl, inr, Option, Some, None, is_some, List, [], ◌∷◌, refl, ap, sym, ◌∙◌, subst}
use Rattle.std.proofs.lemmas.Bool.{eqb-true}
use Rattle.bus_word.specs.declared.word.Bus.{Bus}
use Rattle.bus_word.specs.declared.word.Bus.TheVariants.{A, B}
use Rattle.bus_word.specs.declared.word.Kind.{Kind}
use Rattle.bus_word.specs.declared.word.Kind.TheVariants.{Com, Dat}
use Rattle.bus_word.specs.declared.word.Raw.{Raw}
use Rattle.bus_word.specs.Word.{is_valid, is_command_sync, is_data_sync, is_command, is_data}
use Rattle.bus_word.specs.Command.{address_of, transmits, is_receive, is_broadcast}
use Rattle.bus_legal.specs.Description.{Description}
use Rattle.terminal_rules.specs.declared.event.Event.{Event}
use Rattle.terminal_rules.specs.declared.event.Event.TheVariants.{Word, Noise, Gap, Write, Vector, Bit, Flag as FlagIs, Slot}
use Rattle.terminal_rules.specs.Buses.{same_bus}
use Rattle.terminal_rules.specs.History.{Entry, Replying}
use Rattle.terminal_rules.specs.Open.{is_on, Open, Idle, Collects, Waits, Resumes, open_now, transfer}
use Rattle.terminal_rules.specs.Reply.{reply_now, reply_bus}
use Rattle.terminal_rules.specs.Starts.{is_for_terminal, heard_now, is_free, is_fresh_broadcast, starts_message, starts_now}
use Rattle.terminal_rules.specs.Ends.{with_word, data_words}
use Rattle.terminal_rules.specs.Past.{past}
use Rattle.terminal_rules.specs.Steps.{replies_on}
use Rattle.terminal_rules.proofs.OpenLaw.{after_gap, after_entry, after_word, unheard, waits, open_law}
use Rattle.terminal_bus.specs.Discipline.{comes_from_subsystem}
use Rattle.terminal_recordings.proofs.Idle.{reply_idle}

-- What a message in progress is to the bus: nothing that is to be answered; it would be answered at a gap; it asks another
-- terminal to transmit; it awaits the status word of an address.
pub data Standing : Type 0 where
  Clear : Standing
  Ready : Standing
  Asks : Standing
  Awaits : (address : ℕ) → Standing

abbrev pub ready_if : Option (List ℕ) → Standing → Standing
ready_if None s = s
ready_if (Some ds) s = Ready

abbrev pub asks_if : Option (ℕ × ℕ) → Standing
asks_if None = Clear
asks_if (Some t) = Asks

abbrev pub unless_broadcast : ℕ → Standing → Standing
unless_broadcast c s = if is_broadcast c then Clear else s

abbrev pub standing_of : Description → Open → Standing
standing_of P Idle = Clear
standing_of P (Collects c after) = unless_broadcast c (ready_if (data_words after) (asks_if (transfer P (Some (c, after)))))
standing_of P (Waits c a) = unless_broadcast c (Awaits a)
standing_of P (Resumes c after) = unless_broadcast c (ready_if (data_words after) Clear)

abbrev pub standing : Description → List Event → Bus → Standing
standing P h b = standing_of P (open_now P (past P h) b)

-- a word that a terminal takes for what it waits for, or for a data word of its message
abbrev pub CarriesOn : Raw → Standing → Type 0
CarriesOn w Clear = ⊥
CarriesOn w Ready = is_data w ≡ true
CarriesOn w Asks = ⊥
CarriesOn w (Awaits a) = (is_command w ≡ true) × (address_of w.bits ≡ a)

-- a command to this address
abbrev pub IsFor : ℕ → Raw → Type 0
IsFor own w = (is_command w ≡ true) × (address_of w.bits ≡ own)

-- what a word that comes may make of it
abbrev pub ByWord : ℕ → Raw → Standing → Standing → Type 0
ByWord own w s Clear = Unit {0}
ByWord own w s Ready = IsFor own w ⊎ CarriesOn w s
ByWord own w s Asks = (s ≡ Ready) × (is_command w ≡ true)
ByWord own w s (Awaits a) = ⊥

-- what a gap may make of it
abbrev pub ByGap : Standing → Standing → Type 0
ByGap s Clear = Unit {0}
ByGap s Ready = ⊥
ByGap s Asks = ⊥
ByGap s (Awaits a) = s ≡ Asks

-- what anything else may make of it: it is over, or as it was
abbrev pub Keeps : Standing → Standing → Type 0
Keeps s t = (t ≡ Clear) ⊎ (t ≡ s)

-- truth values
pub and_left : (a b : Bool) → a && b ≡ true → a ≡ true
and_left true b e = refl
and_left false b e = cc

pub and_right : (a b : Bool) → a && b ≡ true → b ≡ true
and_right true b e = e
and_right false b e = cc

or_false : (a b : Bool) → a || (false && b) ≡ true → a ≡ true
or_false true b e = refl
or_false false b e = cc

-- a word after the words of a message, by whether it is data, and by what it is if the message isn't ready
joined : (own : ℕ) (w : Raw) (broad is : Bool) (m : Option (List ℕ)) (q q' : Standing) → is_data w ≡ is → ByWord own w (ready_if m q) q' →
    ByWord own w (if broad then Clear else ready_if m q) (if broad then Clear else ready_if (with_word m (if is then Some w.bits else None)) q')
joined own w true is m q q' e a = tt
joined own w false true None q q' e a = a
joined own w false false None q q' e a = a
joined own w false true (Some ds) q q' e a = inr e
joined own w false false (Some ds) q q' e a = a

abbrev alone : Bool → Option ℕ → ℕ → Option (ℕ × ℕ)
alone r o c = if r then (elim o as (λ o. Option (ℕ × ℕ)) [ None ↦ None | Some a ↦ Some (c, a) ]) else None

none_alone : (r : Bool) (c : ℕ) → alone r None c ≡ None
none_alone true c = refl
none_alone false c = refl

first_asks : (own : ℕ) (w : Raw) (r k rest : Bool) (a c : ℕ) → is_command w ≡ k → ByWord own w Ready (asks_if (alone r (if k && rest then Some a else None) c))
first_asks own w false k rest a c e = tt
first_asks own w true false rest a c e = tt
first_asks own w true true false a c e = tt
first_asks own w true true true a c e = (refl, e)

asks_word : (P : Description) (c : ℕ) (w : Raw) (after : List Entry) →
    ByWord P.address w (ready_if (data_words after) (asks_if (transfer P (Some (c, after))))) (asks_if (transfer P (Some (c, unheard (Some w) ∷ after))))
asks_word P c w [] =
    first_asks P.address w (is_receive c) (is_command w) (transmits w.bits && (not (address_of w.bits == P.address) && not (is_broadcast w.bits))) (address_of w.bits) c refl
asks_word P c w (x ∷ xs) = tt

-- the awaited word
answers_wait : (own : ℕ) (w : Raw) (P : Description) (c a : ℕ) (broad s : Bool) → (is_command w && (address_of w.bits == a)) ≡ s → is_broadcast c ≡ broad →
    ByWord own w (if broad then Clear else Awaits a) (standing_of P (if s then Resumes c [] else Idle))
answers_wait own w P c a broad false e f = tt
answers_wait own w P c a true true e f = subst (λ (t : Bool). ByWord own w Clear (if t then Clear else Ready)) (sym f) tt
answers_wait own w P c a false true e f =
    subst (λ (t : Bool). ByWord own w (Awaits a) (if t then Clear else Ready)) (sym f)
    (inr (and_left (is_command w) (address_of w.bits == a) e, eqb-true (address_of w.bits) a (and_right (is_command w) (address_of w.bits == a) e)))

entry_word : (P : Description) (w : Raw) (o : Open) → ByWord P.address w (standing_of P o) (standing_of P (after_entry (unheard (Some w)) o))
entry_word P w Idle = tt
entry_word P w (Collects c after) =
    joined P.address w (is_broadcast c) (is_data w) (data_words after) (asks_if (transfer P (Some (c, after)))) (asks_if (transfer P (Some (c, unheard (Some w) ∷ after)))) refl (asks_word P c w after)
entry_word P w (Waits c a) = answers_wait P.address w P c a (is_broadcast c) (is_command w && (address_of w.bits == a)) refl refl
entry_word P w (Resumes c after) = joined P.address w (is_broadcast c) (is_data w) (data_words after) Clear Clear refl tt

-- a start
started : (P : Description) (w : Raw) (s : Standing) (broad : Bool) → is_command w && ((address_of w.bits == P.address) || (broad && P.broadcast)) ≡ true →
    ByWord P.address w s (if broad then Clear else Ready)
started P w s true e = tt
started P w s false e =
    inl (and_left (is_command w) _ e, eqb-true (address_of w.bits) P.address (or_false (address_of w.bits == P.address) P.broadcast (and_right (is_command w) _ e)))

heard_word : (P : Description) (b : Bus) (w : Raw) (s : Bool) (o : Open) → (s ≡ true → is_for_terminal P w ≡ true) →
    ByWord P.address w (standing_of P o) (standing_of P (after_word b b w s o))
heard_word P A w true o f = started P w (standing_of P o) (is_broadcast w.bits) (f refl)
heard_word P B w true o f = started P w (standing_of P o) (is_broadcast w.bits) (f refl)
heard_word P A w false o f = entry_word P w o
heard_word P B w false o f = entry_word P w o

-- while a terminal replies, what it doesn't hear changes nothing
pub replying_on : (b : Bus) (r : Option Replying) → is_on b (reply_bus r) ≡ true → is_some r ≡ true
replying_on b None e = e
replying_on b (Some r) e = refl

pub replies_clear : (P : Description) (h : List Event) (b : Bus) → is_some (reply_now (past P h)) ≡ true → standing P h b ≡ Clear
replies_clear P h b r = ap (standing_of P) (reply_idle P h r b)

by_word : (own : ℕ) (w : Raw) (s t : Standing) → t ≡ Clear → ByWord own w s t
by_word own w s t e = subst (λ (t : Standing). ByWord own w s t) (sym e) tt

starts_for : (P : Description) (w : Raw) (i heard free fresh : Bool) → not i && starts_message P w heard free fresh ≡ true → is_for_terminal P w ≡ true
starts_for P w i heard free fresh e = and_left (is_for_terminal P w) _ (and_right (not i) _ e)

pub word_moves : (P : Description) (h : List Event) (b : Bus) (w : Raw) → ByWord P.address w (standing P h b) (standing P (Word b w ∷ h) b)
word_moves P h b w =
    subst (λ (o : Open). ByWord P.address w (standing P h b) (standing_of P o)) (sym (open_law P (past P h) b (Word b w))) (by_ignored (replies_on (past P h) b) refl)
  where
    by_ignored : (i : Bool) → replies_on (past P h) b ≡ i →
        ByWord P.address w (standing P h b) (standing_of P (if i then open_now P (past P h) b else after_word b b w (starts_now P (past P h) (Word b w)) (open_now P (past P h) b)))
    by_ignored true e = by_word P.address w (standing P h b) (standing P h b) (replies_clear P h b (replying_on b (reply_now (past P h)) e))
    by_ignored false e =
        heard_word P b w (starts_now P (past P h) (Word b w)) (open_now P (past P h) b)
        (λ s. starts_for P w (replies_on (past P h) b) (heard_now P (past P h) b) (is_free (open_now P (past P h) b)) (is_fresh_broadcast (open_now P (past P h) b)) s)

-- any other event on the buses
same_self : (b : Bus) → same_bus b b ≡ true
same_self A = refl
same_self B = refl

if_ignored : (P : Description) (i : Bool) (o o' : Open) → Keeps (standing_of P o) (standing_of P o') → Keeps (standing_of P o) (standing_of P (if i then o else o'))
if_ignored P true o o' k = inr refl
if_ignored P false o o' k = k

word_apart : (P : Description) (b c : Bus) (w : Raw) (s : Bool) (o : Open) → same_bus b c ≡ false → Keeps (standing_of P o) (standing_of P (after_word b c w s o))
word_apart P A A w s o e = cc
word_apart P B B w s o e = cc
word_apart P A B w true o e = inl refl
word_apart P B A w true o e = inl refl
word_apart P A B w false o e = inr refl
word_apart P B A w false o e = inr refl

pub word_off : (P : Description) (h : List Event) (b c : Bus) (w : Raw) → same_bus b c ≡ false → Keeps (standing P h b) (standing P (Word c w ∷ h) b)
word_off P h b c w e =
    subst (λ (o : Open). Keeps (standing P h b) (standing_of P o)) (sym (open_law P (past P h) b (Word c w)))
    (if_ignored P (replies_on (past P h) c) (open_now P (past P h) b) _ (word_apart P b c w (starts_now P (past P h) (Word c w)) (open_now P (past P h) b) e))

no_word : (broad : Bool) (m : Option (List ℕ)) → (let q : Standing = Clear in if broad then q else ready_if (with_word m None) q) ≡ Clear
no_word true m = refl
no_word false None = refl
no_word false (Some ds) = refl

-- a message that a second entry follows asks nothing
noise_first : (P : Description) (c : ℕ) (after : List Entry) → transfer P (Some (c, unheard None ∷ after)) ≡ None
noise_first P c [] = none_alone (is_receive c) c
noise_first P c (x ∷ xs) = refl

entry_noise : (P : Description) (o : Open) → standing_of P (after_entry (unheard None) o) ≡ Clear
entry_noise P Idle = refl
entry_noise P (Collects c after) =
    ap (λ t. unless_broadcast c (ready_if (with_word (data_words after) None) (asks_if t))) (noise_first P c after)
    ∙ no_word (is_broadcast c) (data_words after)
entry_noise P (Waits c a) = refl
entry_noise P (Resumes c after) = no_word (is_broadcast c) (data_words after)

noise_of : (P : Description) (b c : Bus) (o : Open) → Keeps (standing_of P o) (standing_of P (if same_bus b c then after_entry (unheard None) o else o))
noise_of P A A o = inl (entry_noise P o)
noise_of P B B o = inl (entry_noise P o)
noise_of P A B o = inr refl
noise_of P B A o = inr refl

pub noise_keeps : (P : Description) (h : List Event) (b c : Bus) → Keeps (standing P h b) (standing P (Noise c ∷ h) b)
noise_keeps P h b c =
    subst (λ (o : Open). Keeps (standing P h b) (standing_of P o)) (sym (open_law P (past P h) b (Noise c)))
    (if_ignored P (replies_on (past P h) c) (open_now P (past P h) b) _ (noise_of P b c (open_now P (past P h) b)))

-- a gap
asked : (P : Description) (c a : ℕ) (broad : Bool) → is_broadcast c ≡ broad → ByGap (if broad then Clear else Asks) (standing_of P (Waits c a))
asked P c a true e = subst (λ (t : Bool). ByGap Clear (if t then Clear else Awaits a)) (sym e) tt
asked P c a false e = subst (λ (t : Bool). ByGap Asks (if t then Clear else Awaits a)) (sym e) refl

nothing_asked : (P : Description) (s : Standing) (c : ℕ) (r : Bool) → ByGap s (standing_of P (waits (alone r None c)))
nothing_asked P s c true = tt
nothing_asked P s c false = tt

gap_alone : (P : Description) (c : ℕ) (r : Bool) (k : Kind) (v rest : Bool) (bits a : ℕ) →
    ByGap (unless_broadcast c (ready_if (with_word (Some []) (if is_data_sync k && v then Some bits else None)) (asks_if (alone r (if is_command_sync k && v && rest then Some a else None) c))))
    (standing_of P (waits (alone r (if is_command_sync k && v && rest then Some a else None) c)))
gap_alone P c r Dat v rest bits a = nothing_asked P _ c r
gap_alone P c r Com false rest bits a = nothing_asked P _ c r
gap_alone P c r Com true false bits a = nothing_asked P _ c r
gap_alone P c false Com true true bits a = tt
gap_alone P c true Com true true bits a = asked P c a (is_broadcast c) refl

gap_first : (P : Description) (c : ℕ) (w : Option Raw) (s : Bool) → (let x : Entry = record { word = w; starts = s } in
    ByGap (standing_of P (Collects c (x ∷ []))) (standing_of P (after_gap P (Collects c (x ∷ [])))))
gap_first P c None s = nothing_asked P _ c (is_receive c)
gap_first P c (Some w) s =
    gap_alone P c (is_receive c) w.kind (is_valid w) (transmits w.bits && (not (address_of w.bits == P.address) && not (is_broadcast w.bits))) w.bits (address_of w.bits)

gap_of : (P : Description) (o : Open) → ByGap (standing_of P o) (standing_of P (after_gap P o))
gap_of P Idle = tt
gap_of P (Collects c []) = tt
gap_of P (Collects c (x ∷ [])) = gap_first P c x.word x.starts
gap_of P (Collects c (x ∷ y ∷ ys)) = tt
gap_of P (Waits c a) = tt
gap_of P (Resumes c after) = tt

pub gap_moves : (P : Description) (h : List Event) (b : Bus) → ByGap (standing P h b) (standing P (Gap b ∷ h) b)
gap_moves P h b = subst (λ (o : Open). ByGap (standing P h b) (standing_of P o)) (sym (open_law P (past P h) b (Gap b))) (by_ignored (replies_on (past P h) b) refl)
  where
    by_ignored : (i : Bool) → replies_on (past P h) b ≡ i →
        ByGap (standing P h b) (standing_of P (if i then open_now P (past P h) b else (if same_bus b b then after_gap P (open_now P (past P h) b) else open_now P (past P h) b)))
    by_ignored true e =
        subst (λ (t : Standing). ByGap (standing P h b) t) (sym (replies_clear P h b (replying_on b (reply_now (past P h)) e))) tt
    by_ignored false e =
        subst (λ (t : Bool). ByGap (standing P h b) (standing_of P (if t then after_gap P (open_now P (past P h) b) else open_now P (past P h) b))) (sym (same_self b)) (gap_of P (open_now P (past P h) b))

gap_apart : (P : Description) (b c : Bus) (o : Open) → same_bus b c ≡ false → Keeps (standing_of P o) (standing_of P (if same_bus b c then after_gap P o else o))
gap_apart P b c o e = inr (ap (λ t. standing_of P (if t then after_gap P o else o)) e)

pub gap_off : (P : Description) (h : List Event) (b c : Bus) → same_bus b c ≡ false → Keeps (standing P h b) (standing P (Gap c ∷ h) b)
gap_off P h b c e =
    subst (λ (o : Open). Keeps (standing P h b) (standing_of P o)) (sym (open_law P (past P h) b (Gap c)))
    (if_ignored P (replies_on (past P h) c) (open_now P (past P h) b) _ (gap_apart P b c (open_now P (past P h) b) e))

-- a slot, and an event of the subsystem
pub slot_stays : (P : Description) (h : List Event) (b : Bus) → standing P (Slot ∷ h) b ≡ standing P h b
slot_stays P h b = ap (standing_of P) (open_law P (past P h) b Slot)

pub subsystem_stays : (P : Description) (h : List Event) (b : Bus) (e : Event) → comes_from_subsystem e ≡ true → standing P (e ∷ h) b ≡ standing P h b
subsystem_stays P h b (Word c w) t = cc
subsystem_stays P h b (Noise c) t = cc
subsystem_stays P h b (Gap c) t = cc
subsystem_stays P h b Slot t = cc
subsystem_stays P h b (Write q v) t = refl
subsystem_stays P h b (Vector v) t = refl
subsystem_stays P h b (Bit v) t = refl
subsystem_stays P h b (FlagIs f v) t = refl
