-- What an event does to the messages on the buses, by what the terminal does.
use Rattle.std.proofs.Common.{◌≡◌, ℕ, Bool, true, false, not, ◌&&◌, ◌||◌, ◌==◌, if◌then◌else◌, ◌⊎◌, inl, inr, Option, Some, None, is_some, List, ◌∷◌, refl, ap, ◌∙◌}
use Rattle.bus_word.specs.declared.word.Bus.{Bus}
use Rattle.bus_word.specs.declared.word.Bus.TheVariants.{A, B}
use Rattle.bus_word.specs.declared.word.Raw.{Raw}
use Rattle.bus_word.specs.declared.word.Kind.TheVariants.{Com, Dat}
use Rattle.bus_word.specs.declared.cell.Cell.{Cell}
use Rattle.bus_word.specs.Status.{status_word}
use Rattle.bus_word.specs.Word.{is_command}
use Rattle.bus_legal.specs.Description.{Description}
use Rattle.terminal_rules.specs.declared.event.Event.{Event}
use Rattle.terminal_rules.specs.declared.event.Event.TheVariants.{Word, Noise, Gap, Write, Vector, Bit, Flag as FlagIs, Slot}
use Rattle.terminal_rules.specs.declared.event.Flag.TheVariants.{Busy}
use Rattle.terminal_rules.specs.Buses.{same_bus}
use Rattle.terminal_rules.specs.History.{Noted, Replying, NoTurn, Nothing, is_ignored}
use Rattle.terminal_rules.specs.Flags.{flag_now}
use Rattle.terminal_rules.specs.Open.{open_now, is_on}
use Rattle.terminal_rules.specs.Reply.{reply_now, reply_bus}
use Rattle.terminal_rules.specs.Starts.{starts_now}
use Rattle.terminal_rules.specs.Ends.{ends_now, at_gap, unless_ignored}
use Rattle.terminal_rules.specs.SinceReset.{off_now}
use Rattle.terminal_rules.specs.Status.{kept_now}
use Rattle.terminal_rules.specs.Turn.{is_answered, done_cell, turn_of_gap, turn_of_slot, unless_ignored_turn}
use Rattle.terminal_rules.specs.Steps.{replies_on}
use Rattle.terminal_rules.specs.Past.{note, past}
use Rattle.terminal_rules.specs.Out.{Out, SendsWord, sending_out, sends, Handing, hands, handing_over, sending, next_sent, reply_word}
use Rattle.terminal_messages.specs.declared.part.MessagePart.TheVariants.{First, Second, Status, Within, Plain}
use Rattle.terminal_messages.specs.Told.{ToldEvent, sent_bus, is_first_command, begins_on, begins_elsewhere, closes, belongs_on}
use Rattle.terminal_messages.specs.Message.{Message, message_on_bus}
use Rattle.bus_terminal.specs.Waiting.{is_engaged, is_open}
use Rattle.terminal_messages.specs.Parts.{has_to_wait, tell, told, part_of_command, takes_second}
use Rattle.terminal_messages.specs.Laws.{act_of, action}
use Rattle.terminal_messages.proofs.Engaged.{engaged_before, start_heard, start_alone, idle_of}

-- an event that starts a message on a bus, where this message is
pub record StartFits (t : ToldEvent) (c : Bus) (m : Option Message) : Type 0 where
  pub starts : t.noted.starts ≡ true
  pub silent : action t ≡ None
  pub here : ((closes c t ≡ true) × (begins_on c t ≡ true)) ⊎ ((closes c t ≡ false) × (belongs_on c t ≡ true) × (is_some m ≡ true))
  pub elsewhere : (d : Bus) → same_bus d c ≡ false → (closes d t ≡ true) × (begins_on d t ≡ false) × (t.engaged d ≡ false)

-- an answered event: it concerns the message on a bus on which the terminal was engaged, and nothing else, and closes nothing
pub record AnswerFits (t : ToldEvent) (was : Bus → Bool) (b : Bus) (o : Out) : Type 0 where
  pub action : action t ≡ Some o
  pub engaged : was b ≡ true
  pub here : belongs_on b t ≡ true
  pub apart : (d : Bus) → same_bus d b ≡ false → belongs_on d t ≡ false
  pub closes : (d : Bus) → closes d t ≡ false

-- an event that starts nothing, by where the terminal was engaged
pub record QuietFits (t : ToldEvent) (was : Bus → Bool) : Type 0 where
  pub starts : t.noted.starts ≡ false
  pub engaged : (b : Bus) → t.engaged b ≡ true → (was b ≡ true) × (closes b t ≡ false)
  pub answer : (action t ≡ None) ⊎ ((b : Bus) × (o : Out) × AnswerFits t was b o)

and_false : (x : Bool) → (x && false) ≡ false
and_false true = refl
and_false false = refl

or_true : (x : Bool) → (x || true) ≡ true
or_true true = refl
or_true false = refl

same_self : (b : Bus) → same_bus b b ≡ true
same_self A = refl
same_self B = refl

-- a start
abbrev at_word : Description → List Event → Bus → Raw → ToldEvent
at_word P h c w = told P (past P h) (tell P h) (Word c w)

pub part_of_start : (P : Description) (h : List Event) (c : Bus) (w : Raw) → starts_now P (past P h) (Word c w) ≡ true →
    (at_word P h c w).part ≡ (if takes_second w.bits (message_on_bus (tell P h) c) then Second else First)
part_of_start P h c w s =
    let heard : (replies_on (past P h) c ≡ false) × (is_command w ≡ true) = start_heard P (past P h) c w s in
    λ j. if heard.1 j
    then part_of_command P w.bits (is_ignored (unless_ignored_turn (heard.0 j) NoTurn)) (s j)
    (is_engaged P (note P (past P h) (Word c w) ∷ past P h) c) (has_to_wait (open_now P (past P h) c)) (message_on_bus (tell P h) c)
    else Plain

taken : (c : ℕ) (m : Option Message) → takes_second c m ≡ true → is_some m ≡ true
taken c None e = cc
taken c (Some m) e = refl

abbrev Here : ToldEvent → Bus → Option Message → Type 0
Here t c m = ((closes c t ≡ true) × (begins_on c t ≡ true)) ⊎ ((closes c t ≡ false) × (belongs_on c t ≡ true) × (is_some m ≡ true))

here_by : (P : Description) (h : List Event) (c : Bus) (w : Raw) (k : Bool) → takes_second w.bits (message_on_bus (tell P h) c) ≡ k →
    (at_word P h c w).part ≡ (if k then Second else First) → starts_now P (past P h) (Word c w) ≡ true → Here (at_word P h c w) c (message_on_bus (tell P h) c)
here_by P h c w false k p s =
    let t : ToldEvent = at_word P h c w in
    let begins_message : begins_on c t ≡ true = λ j. is_first_command (p j) && same_self c j in
    inl ((λ j. begins_message j || (begins_elsewhere c t && not (t.engaged c))), begins_message)
here_by P h c w true k p s =
    let t : ToldEvent = at_word P h c w in
    inr (
      (λ j. (is_first_command (p j) && same_self c j) || (((is_first_command (p j) || s j) && not (same_self c j)) && not (t.engaged c))),
      (λ j. not (is_ignored (unless_ignored_turn ((start_heard P (past P h) c w s).0 j) NoTurn)) && (same_self c j || false)),
      taken w.bits (message_on_bus (tell P h) c) k,
    )

start_fits : (P : Description) (h : List Event) (c : Bus) (w : Raw) → starts_now P (past P h) (Word c w) ≡ true → StartFits (at_word P h c w) c (message_on_bus (tell P h) c)
start_fits P h c w s =
    let t : ToldEvent = at_word P h c w in
    record {
      starts = s;
      silent = refl;
      here = here_by P h c w (takes_second w.bits (message_on_bus (tell P h) c)) refl (part_of_start P h c w s) s;
      elsewhere = λ d e.
          let alone : t.engaged d ≡ false = start_alone P (past P h) c d w e s in
          let begins_message : begins_on d t ≡ false = (λ j. is_first_command t.part && e j) ∙ and_false (is_first_command t.part) in
          ((λ j. begins_message j || (((is_first_command t.part || s j) && not (e j)) && not (alone j))) ∙ ap (λ x. (x && true) && true) (or_true (is_first_command t.part)), begins_message, alone);
    }

-- an event that starts nothing
first_of_engaged : (P : Description) (c : ℕ) (ignored awaits : Bool) (m : Option Message) → is_first_command (part_of_command P c ignored false true awaits m) ≡ false
first_of_engaged P c true awaits m = refl
first_of_engaged P c false awaits m = by_test (takes_second c m) awaits
  where
    by_test : (k awaits : Bool) → is_first_command (if k then Second else (if awaits then Status else Within)) ≡ false
    by_test true awaits = refl
    by_test false true = refl
    by_test false false = refl

first_at_word : (P : Description) (c : ℕ) (k ignored starts engaged awaits : Bool) (m : Option Message) → starts ≡ false → engaged ≡ true →
    is_first_command (if k then part_of_command P c ignored starts engaged awaits m else Plain) ≡ false
first_at_word P c false ignored starts engaged awaits m s e = refl
first_at_word P c true ignored starts engaged awaits m s e = (λ j. is_first_command (part_of_command P c ignored (s j) (e j) awaits m)) ∙ first_of_engaged P c ignored awaits m

-- the first command of another message is not on a bus on which the terminal is engaged after it
begins_word : (P : Description) (h : List Event) (b c : Bus) (w : Raw) (x : Bool) → same_bus b c ≡ x → starts_now P (past P h) (Word c w) ≡ false →
    (at_word P h c w).engaged b ≡ true → begins_on b (at_word P h c w) ≡ false
begins_word P h b c w false x s e = (λ j. is_first_command (at_word P h c w).part && x j) ∙ and_false (is_first_command (at_word P h c w).part)
begins_word P h A A w true x s e =
    ap (λ f. f && true) (first_at_word P w.bits (is_command w) (is_ignored (note P (past P h) (Word A w)).turn) (starts_now P (past P h) (Word A w)) ((at_word P h A w).engaged A) (has_to_wait (open_now P (past P h) A)) (message_on_bus (tell P h) A) s e)
begins_word P h B B w true x s e =
    ap (λ f. f && true) (first_at_word P w.bits (is_command w) (is_ignored (note P (past P h) (Word B w)).turn) (starts_now P (past P h) (Word B w)) ((at_word P h B w).engaged B) (has_to_wait (open_now P (past P h) B)) (message_on_bus (tell P h) B) s e)
begins_word P h A B w true x s e = cc
begins_word P h B A w true x s e = cc

pub begins_engaged : (P : Description) (h : List Event) (e : Event) (b : Bus) → starts_now P (past P h) e ≡ false →
    (told P (past P h) (tell P h) e).engaged b ≡ true → begins_on b (told P (past P h) (tell P h) e) ≡ false
begins_engaged P h (Word c w) b s n = begins_word P h b c w (same_bus b c) refl s n
begins_engaged P h (Noise c) b s n = refl
begins_engaged P h (Gap c) b s n = refl
begins_engaged P h (Write q v) b s n = refl
begins_engaged P h (Vector v) b s n = refl
begins_engaged P h (Bit v) b s n = refl
begins_engaged P h (FlagIs f v) b s n = refl
begins_engaged P h Slot b s n = refl

closes_engaged : (P : Description) (h : List Event) (e : Event) (b : Bus) → starts_now P (past P h) e ≡ false →
    (told P (past P h) (tell P h) e).engaged b ≡ true → closes b (told P (past P h) (tell P h) e) ≡ false
closes_engaged P h e b s n =
    let t : ToldEvent = told P (past P h) (tell P h) e in
    (λ j. begins_engaged P h e b s n j || (begins_elsewhere b t && not (n j))) ∙ and_false (begins_elsewhere b t)

-- what is answered
abbrev Answered : Description → List Event → Event → Type 0
Answered P h e =
    (action (told P (past P h) (tell P h) e) ≡ None)
    ⊎ ((b : Bus) × (o : Out) × AnswerFits (told P (past P h) (tell P h) e) (is_engaged P (past P h)) b o)

engaged_open : (P : Description) (h : List Noted) (b : Bus) → is_open (open_now P h b) ≡ true → is_engaged P h b ≡ true
engaged_open P h b e = ap (λ x. x || is_on b (reply_bus (reply_now h))) e

-- a gap
gap_silent : (P : Description) (h : List Event) (c : Bus) → ends_now P (past P h) (Gap c) ≡ Nothing → action (told P (past P h) (tell P h) (Gap c)) ≡ None
gap_silent P h c e = ap (λ x. act_of (handing_over (hands P x))) e

gap_concerns : (i a : Bool) (b : Bus) (cell : Option Cell) (s x : Bool) → i ≡ false →
    (not (is_ignored (unless_ignored_turn i (turn_of_gap b a cell))) && (s || x)) ≡ (s || x)
gap_concerns true a b cell s x e = cc
gap_concerns false true b cell s x e = refl
gap_concerns false false b cell s x e = refl

abbrev at_gap_on : Description → List Event → Bus → ToldEvent
at_gap_on P h c = told P (past P h) (tell P h) (Gap c)

pub gap_sends_none : (x : Option Handing) → sent_bus (handing_over x) ≡ None
gap_sends_none None = refl
gap_sends_none (Some x) = refl

gap_apart : (P : Description) (h : List Event) (c d : Bus) → same_bus d c ≡ false → belongs_on d (at_gap_on P h c) ≡ false
gap_apart P h c d e =
    (λ j. not (is_ignored (at_gap_on P h c).noted.turn) && (e j || is_on d (gap_sends_none (hands P (ends_now P (past P h) (Gap c))) j)))
    ∙ and_false (not (is_ignored (at_gap_on P h c).noted.turn))

gap_here : (P : Description) (h : List Event) (c : Bus) → replies_on (past P h) c ≡ false → belongs_on c (at_gap_on P h c) ≡ true
gap_here P h c i =
    gap_concerns (replies_on (past P h) c) (is_answered (off_now (past P h) c) (ends_now P (past P h) (Gap c))) c (done_cell (ends_now P (past P h) (Gap c)))
    (same_bus c c) (is_on c (sent_bus (handing_over (hands P (ends_now P (past P h) (Gap c)))))) i
    ∙ ap (λ x. x || is_on c (sent_bus (handing_over (hands P (ends_now P (past P h) (Gap c)))))) (same_self c)

gap_by_answer : (P : Description) (h : List Event) (c : Bus) (o : Option Out) → action (at_gap_on P h c) ≡ o →
    replies_on (past P h) c ≡ false → is_open (open_now P (past P h) c) ≡ true → Answered P h (Gap c)
gap_by_answer P h c None a i e = inl a
gap_by_answer P h c (Some o) a i e =
    inr (c, o, record { action = a; engaged = engaged_open P (past P h) c e; here = gap_here P h c i; apart = gap_apart P h c; closes = λ d. refl })

gap_by_open : (P : Description) (h : List Event) (c : Bus) (x : Bool) → is_open (open_now P (past P h) c) ≡ x → replies_on (past P h) c ≡ false → Answered P h (Gap c)
gap_by_open P h c true x i = gap_by_answer P h c (action (at_gap_on P h c)) refl i x
gap_by_open P h c false x i =
    inl (gap_silent P h c (λ j. unless_ignored (i j) (at_gap P (flag_now (past P h) Busy) (idle_of (open_now P (past P h) c) x j))))

gap_answered : (P : Description) (h : List Event) (c : Bus) (i : Bool) → replies_on (past P h) c ≡ i → Answered P h (Gap c)
gap_answered P h c true i = inl (gap_silent P h c (ap (λ i. unless_ignored i (at_gap P (flag_now (past P h) Busy) (open_now P (past P h) c))) i))
gap_answered P h c false i = gap_by_open P h c (is_open (open_now P (past P h) c)) refl i

-- a slot
next_bus : (P : Description) (h : List Noted) (r : Replying) (b : Bus) → is_on b (Some (next_sent P h r).bus) ≡ same_bus b r.bus
next_bus P h r b = by_test (r.number == 0)
  where
    by_test : (t : Bool) → same_bus b (if t then sending r.bus Com (status_word P.address (kept_now P h)) else sending r.bus Dat (reply_word P h r.cell r.number)).bus ≡ same_bus b r.bus
    by_test true = refl
    by_test false = refl

slot_answered : (P : Description) (h : List Event) (r : Option Replying) → reply_now (past P h) ≡ r → Answered P h Slot
slot_answered P h None e = inl (λ j. act_of (sending_out (sends P (past P h) (e j))))
slot_answered P h (Some r) e =
    let is : (b : Bus) → belongs_on b (told P (past P h) (tell P h) Slot) ≡ same_bus b r.bus =
    λ b. (λ j. not (is_ignored (turn_of_slot (e j))) && is_on b (sent_bus (sending_out (sends P (past P h) (e j)))))
    ∙ next_bus P (past P h) r b in
    inr (
      r.bus,
      SendsWord (next_sent P (past P h) r),
      record {
        action = λ j. act_of (sending_out (sends P (past P h) (e j)));
        engaged = (λ j. is_open (open_now P (past P h) r.bus) || is_on r.bus (reply_bus (e j))) ∙ ((λ j. is_open (open_now P (past P h) r.bus) || same_self r.bus j) ∙ or_true (is_open (open_now P (past P h) r.bus)));
        here = is r.bus ∙ same_self r.bus;
        apart = λ d n. is d ∙ n;
        closes = λ d. refl;
      },
    )

answered : (P : Description) (h : List Event) (e : Event) → Answered P h e
answered P h (Word c w) = inl refl
answered P h (Noise c) = inl refl
answered P h (Gap c) = gap_answered P h c (replies_on (past P h) c) refl
answered P h (Write q v) = inl refl
answered P h (Vector v) = inl refl
answered P h (Bit v) = inl refl
answered P h (FlagIs f v) = inl refl
answered P h Slot = slot_answered P h (reply_now (past P h)) refl

quiet_fits : (P : Description) (h : List Event) (e : Event) → starts_now P (past P h) e ≡ false → QuietFits (told P (past P h) (tell P h) e) (is_engaged P (past P h))
quiet_fits P h e s = record {
  starts = s;
  engaged = λ b n. (engaged_before P (past P h) e b s n, closes_engaged P h e b s n);
  answer = answered P h e;
}

-- each event is one or the other
abbrev pub EventFits : Description → List Event → Event → Type 0
EventFits P h e =
    ((c : Bus) × StartFits (told P (past P h) (tell P h) e) c (message_on_bus (tell P h) c))
    ⊎ QuietFits (told P (past P h) (tell P h) e) (is_engaged P (past P h))

word_fits : (P : Description) (h : List Event) (c : Bus) (w : Raw) (s : Bool) → starts_now P (past P h) (Word c w) ≡ s → EventFits P h (Word c w)
word_fits P h c w true s = inl (c, start_fits P h c w s)
word_fits P h c w false s = inr (quiet_fits P h (Word c w) s)

pub event_fits : (P : Description) (h : List Event) (e : Event) → EventFits P h e
event_fits P h (Word c w) = word_fits P h c w (starts_now P (past P h) (Word c w)) refl
event_fits P h (Noise c) = inr (quiet_fits P h (Noise c) refl)
event_fits P h (Gap c) = inr (quiet_fits P h (Gap c) refl)
event_fits P h (Write q v) = inr (quiet_fits P h (Write q v) refl)
event_fits P h (Vector v) = inr (quiet_fits P h (Vector v) refl)
event_fits P h (Bit v) = inr (quiet_fits P h (Bit v) refl)
event_fits P h (FlagIs f v) = inr (quiet_fits P h (FlagIs f v) refl)
event_fits P h Slot = inr (quiet_fits P h Slot refl)
