-- Legal messages of one command end well.
use Rattle.std.proofs.Common.{◌≡◌, ◌≢◌, ℕ, zero, suc, ◌+◌, ◌≤◌, Bool, true, false, not, ◌||◌, ◌==◌, nat_le, if◌then◌else◌, Option, Some, None, List, [], ◌∷◌, ◌++◌, map, refl, ap, sym, ◌∙◌, subst, arith, ◌&&◌}
use Rattle.std.proofs.lemmas.Bool.{eqb-true, ne_eqb}
use Rattle.std.proofs.lemmas.Bool.Decides.{nat_tests}
use Rattle.bus_word.specs.declared.word.Bus.{Bus}
use Rattle.bus_word.specs.declared.word.Bus.TheVariants.{A, B}
use Rattle.bus_word.specs.declared.word.Kind.TheVariants.{Com, Dat}
use Rattle.bus_word.specs.declared.cell.Cell.{Cell}
use Rattle.bus_word.specs.Word.{valid_word}
use Rattle.bus_word.specs.Command.{is_broadcast}
use Rattle.bus_word.specs.Cell.{cell_of}
use Rattle.bus_legal.specs.Description.{Description}
use Rattle.terminal_rules.specs.declared.event.Event.{Event}
use Rattle.terminal_rules.specs.declared.event.Event.TheVariants.{Word, Noise, Gap, Write, Vector, Bit, Flag as FlagIs, Slot}
use Rattle.terminal_rules.specs.LookBack.{or_else}
use Rattle.terminal_rules.specs.History.{Replying, Done, Illegal}
use Rattle.terminal_rules.specs.Status.{kept_now}
use Rattle.bus_word.specs.Status.{status_word}
use Rattle.bus_word.specs.declared.status.StatusParts.{StatusParts}
use Rattle.terminal_bus.proofs.Local.{slot_out}
use Rattle.terminal_rules.specs.Open.{Idle, Collects}
use Rattle.terminal_rules.specs.Reply.{words_after_status, reply_after}
use Rattle.terminal_rules.specs.Starts.{is_meant}
use Rattle.terminal_rules.specs.SinceReset.{switched, code_in}
use Rattle.terminal_rules.specs.Past.{past, history_after}
use Rattle.terminal_rules.specs.Out.{Out, Silence, SendsWord, HandsOver, sending, hands, handing_over, out, outs_from, reply_word}
use Rattle.terminal_rules.specs.Steps.{sent_one, begun_if}
use Rattle.terminal_rules.proofs.ReplyLaw.{next_of, no_words}
use Rattle.terminal_bus.specs.declared.event.BusEvent.{BusEvent}
use Rattle.terminal_bus.specs.declared.event.BusEvent.TheVariants.{SlotPasses}
use Rattle.terminal_bus.specs.Members.{Member, heard_on, events_for, after_events, bus_after, play}
use Rattle.terminal_bus.specs.Alone.{answers_in, own_answers}
use Rattle.terminal_bus.specs.Lists.{Each, EachTwo}
use Rattle.terminal_bus.specs.OneSpeaker.{AddressesDiffer}
use Rattle.terminal_bus.specs.Transfer.{noted_of, passing, actions, word_out}
use Rattle.terminal_schedules.specs.Schedule.{IsClearIf}
use Rattle.terminal_schedules.specs.Formats.{ScheduledCommand, putting, data_on, put_by, reply_slots, command_events, IsLegal, good_status, words_of_reply, good_reply, good_answers, EndsWell, must_be_legal, carries_out}
use Rattle.terminal_schedules.proofs.Seen.{gap_ending}
use Rattle.terminal_schedules.proofs.Step.{GapComes, Shape, shown, unmasked}
use Rattle.terminal_schedules.proofs.Said.{says, gap_says}
use Rattle.terminal_schedules.proofs.Held.{others_keep, Replies, replies_law, RepliesAs, slot_keeps, front_keeps}
use Rattle.terminal_schedules.proofs.Twins.{map_both, In, each_in, in_map, each_from, each_map, each_unmap}
use Rattle.terminal_schedules.proofs.Rests.{resting, IsOthers, others_join, hears_others, ApartMembers, AreApart, apart_after, Rests, sent_times, slots_rest, slot_rest, slot_shown}
use Rattle.terminal_schedules.proofs.Single.{data_seen, IsFormed, same_self, meant_collects, unmeant_stays, meant_rests, unmeant_rests, after_gap, asks_none, ends_by, illegal_rests}
use Rattle.terminal_schedules.proofs.Law.{clear_shape, idle_of, two_unmap, in_has, descriptions}
use Rattle.terminal_schedules.proofs.Status.{parts_for, reply_parts}

-- a terminal that rests without a reply is clear
pub clear_rests : (z : Bool) (m : Member) → IsClearIf z m → shown z m.description m.history ≡ resting None
clear_rests z m c = clear_shape true z m c ∙ unmasked z (resting None) refl

pub rests_clear : (z : Bool) (m : Member) → shown z m.description m.history ≡ resting None → IsClearIf z m
rests_clear z m a = record {
  message = λ b. idle_of true m.description _ (ap (λ (s : Shape). s.message b) a);
  run = λ b. ap (λ (s : Shape). s.heard b) a;
  reply = ap (λ (s : Shape). s.reply) a;
  on = λ b. ap (λ (s : Shape). s.off b) a;
  free = ap (λ (s : Shape). s.busy) a;
  error = by_asked z a;
}
  where
    by_asked : (z : Bool) → shown z m.description m.history ≡ resting None → z ≡ true → (kept_now m.description (noted_of m)).error ≡ false
    by_asked true a q = ap (λ (s : Shape). s.error) a
    by_asked false a q = cc

-- what is put comes to each
map_self : (ms : List Member) → ms ≡ map (after_events []) ms
map_self [] = refl
map_self (m ∷ ms) = ap (λ ns. m ∷ ns) (map_self ms)

put_play : (es : List Event) (ms : List Member) (xs : List BusEvent) → play ms (putting es xs) ≡ play (map (after_events es) ms) xs
put_play [] ms xs = ap (λ ns. play ns xs) (map_self ms)
put_play (x ∷ es) ms xs = put_play es (map (after_events (x ∷ [])) ms) xs ∙ ap (λ ns. play ns xs) (map_both (after_events (x ∷ [])) (after_events es) ms)

put_answers : (es : List Event) (ms : List Member) (xs : List BusEvent) (m : Member) →
    own_answers ms (putting es xs) m ≡ outs_from m.description m.history es ++ own_answers (map (after_events es) ms) xs (after_events es m)
put_answers [] ms xs m = ap (λ ns. own_answers ns xs m) (map_self ms)
put_answers (x ∷ es) ms xs m =
    ap (λ os. out m.description m.history x ∷ os)
    (put_answers es (map (after_events (x ∷ [])) ms) xs (after_events (x ∷ []) m)
    ∙ ap (λ ns. outs_from m.description (x ∷ m.history) es ++ own_answers ns xs (after_events (x ∷ es) m)) (map_both (after_events (x ∷ [])) (after_events es) ms))

-- the reply that a message begins
abbrev begins : ScheduledCommand → Cell → Description → Option Replying
begins x cell P = if is_meant P x.command then begun_if (not (is_broadcast x.command || false)) x.bus (Some cell) None else None

abbrev IsLegalAs : Bool → List Description → ScheduledCommand → Cell → Type 0
IsLegalAs z Ps x cell = IsFormed z x.command cell x.words × Each (λ P. must_be_legal z P x.command ≡ true → P.legal cell ≡ true) Ps

-- its command is legal where it must be
abbrev LegalAt : Bool → ScheduledCommand → Cell → Member → Type 0
LegalAt z x cell m = must_be_legal z m.description x.command ≡ true → m.description.legal cell ≡ true

-- only what is for all is illegal somewhere
pub refused : (z : Bool) (P : Description) (c : ℕ) (cell : Cell) → (must_be_legal z P c ≡ true → P.legal cell ≡ true) → is_meant P c ≡ true → P.legal cell ≡ false → (z ≡ false) × (is_broadcast c ≡ true)
refused true P c cell l m q = let no : true ≡ false = sym (l m) ∙ q in cc
refused false P c cell l m q = by_all (is_broadcast c) refl
  where
    by_all : (u : Bool) → is_broadcast c ≡ u → (false ≡ false) × (is_broadcast c ≡ true)
    by_all true e = (refl, e)
    by_all false e = let no : true ≡ false = sym (l (λ j. not (e j) && m j)) ∙ q in cc

begun_rests : (z : Bool) (x : ScheduledCommand) (cell : Cell) (m : Member) → IsFormed z x.command cell x.words → LegalAt z x cell m → IsClearIf z m →
    Rests z (begins x cell) (after_events (put_by x) m)
begun_rests z x cell m f l c = by_tests (is_meant m.description x.command) (m.description.legal cell) refl refl
  where
    by_tests : (t u : Bool) → is_meant m.description x.command ≡ t → m.description.legal cell ≡ u →
        shown z m.description (history_after (put_by x) m.history) ≡ resting (if t then begun_if (not (is_broadcast x.command || false)) x.bus (Some cell) None else None)
    by_tests true true k q = meant_rests z m.description x.bus x.command cell x.words m.history f k q (clear_rests z m c)
    by_tests true false k q =
        let r : (z ≡ false) × (is_broadcast x.command ≡ true) = refused z m.description x.command cell l k q in
        illegal_rests z m.description x.bus x.command cell x.words m.history f k q r.0 r.1 (clear_rests z m c) ∙ (λ j. resting (begun_if (not (sym r.1 j || false)) x.bus (Some cell) None))
    by_tests false u k q = unmeant_rests z m.description x.bus x.command x.words m.history k (clear_rests z m c)

-- the slots end it
times_after : (b : Bus) (cell : Option Cell) (j k : ℕ) → sent_times j (reply_after b cell false k) ≡ reply_after b cell false (j + k)
times_after b cell zero k = let e : k ≡ 0 + k = omega arith in ap (reply_after b cell false) e
times_after b cell (suc j) k =
    let e : j + suc k ≡ suc j + k = omega arith in
    ap (sent_times j) (sym (next_of b cell false k)) ∙ (times_after b cell j (suc k) ∙ ap (reply_after b cell false) e)

all_sent : (b : Bus) (cell : Option Cell) → (let none : Option Replying = None in reply_after b cell false (suc (words_after_status cell) + 0) ≡ none)
all_sent b cell =
    let over : nat_le (suc (words_after_status cell) + 0) (words_after_status cell) ≡ false = grind (arith, nat_tests) in
    λ j. if over j then Some (record { bus = b; cell = cell; number = suc (words_after_status cell) + 0 }) else None

begun_after : (b : Bus) (cell : Option Cell) → Some (record { bus = b; cell = cell; number = 0 }) ≡ reply_after b cell false 0
begun_after b cell = λ j. if sym (no_words (words_after_status cell)) j then Some (record { bus = b; cell = cell; number = 0 }) else None

none_sent : (n : ℕ) → (let none : Option Replying = None in sent_times n none ≡ none)
none_sent zero = refl
none_sent (suc n) = none_sent n

over_by : (b : Bus) (cell : Cell) (t m : Bool) →
    (let none : Option Replying = None in sent_times (if t then 0 else suc (words_after_status (Some cell))) (if m then begun_if (not (t || false)) b (Some cell) none else none) ≡ none)
over_by b cell true true = refl
over_by b cell true false = refl
over_by b cell false true =
    ap (sent_times (suc (words_after_status (Some cell)))) (begun_after b (Some cell)) ∙ (times_after b (Some cell) (suc (words_after_status (Some cell))) 0 ∙ all_sent b (Some cell))
over_by b cell false false = none_sent (suc (words_after_status (Some cell)))

over_law : (x : ScheduledCommand) (cell : Cell) (P : Description) → cell_of x.command ≡ Some cell → sent_times (reply_slots x.command) (begins x cell P) ≡ None
over_law x cell P has =
    ap (λ o. sent_times (if is_broadcast x.command then 0 else suc (words_after_status o)) (begins x cell P)) has ∙ over_by x.bus cell (is_broadcast x.command) (is_meant P x.command)

-- the bus after what is put
abbrev front : ScheduledCommand → List Member → List Member
front x ms = map (after_events (put_by x)) ms

front_apart : (x : ScheduledCommand) (ms : List Member) → AreApart ms → AreApart (front x ms)
front_apart x ms a = record {
  apart = two_front ms a.apart;
  low = each_map (λ (m : Member). m.description.address ≤ 30) (after_events (put_by x)) ms a.low;
}
  where
    two_front : (ms : List Member) → EachTwo ApartMembers ms → EachTwo ApartMembers (map (after_events (put_by x)) ms)
    two_front [] e = tt
    two_front (m ∷ ms) e = (each_map (ApartMembers m) (after_events (put_by x)) ms e.0, two_front ms e.1)

legal_there : (z : Bool) (x : ScheduledCommand) (cell : Cell) (ms : List Member) (m : Member) → IsLegalAs z (descriptions ms) x cell → In ms m → LegalAt z x cell m
legal_there z x cell ms m l h = each_in (LegalAt z x cell) ms m (each_unmap (λ P. must_be_legal z P x.command ≡ true → P.legal cell ≡ true) (λ (m : Member). m.description) ms l.1) h

front_rests : (z : Bool) (x : ScheduledCommand) (cell : Cell) (ms : List Member) → IsLegalAs z (descriptions ms) x cell → Each (IsClearIf z) ms → Each (Rests z (begins x cell)) (front x ms)
front_rests z x cell ms l c =
    each_map (Rests z (begins x cell)) (after_events (put_by x)) ms
    (each_from (IsClearIf z) (λ m. Rests z (begins x cell) (after_events (put_by x) m)) ms (λ m h k. begun_rests z x cell m l.0 (legal_there z x cell ms m l h) k) c)

ends_clear : (z : Bool) (x : ScheduledCommand) (cell : Cell) (ms : List Member) → AreApart ms → IsLegalAs z (descriptions ms) x cell → Each (IsClearIf z) ms → Each (IsClearIf z) (play ms (command_events x))
ends_clear z x cell ms a l c =
    subst (Each (IsClearIf z)) (sym (put_play (put_by x) ms (passing (reply_slots x.command) [])))
    (each_from (Rests z (λ P. sent_times (reply_slots x.command) (begins x cell P))) (IsClearIf z) (play (front x ms) (passing (reply_slots x.command) []))
    (λ m h r. rests_clear z m (r ∙ ap resting (over_law x cell m.description l.0.has)))
    (slots_rest z (begins x cell) (front x ms) (reply_slots x.command) (front_apart x ms a) (front_rests z x cell ms l c)))

-- what is answered, without silence
pub action_one : (o : Out) (os : List Out) → actions (o ∷ os) ≡ actions (o ∷ []) ++ actions os
action_one Silence os = refl
action_one (SendsWord x) os = refl
action_one (HandsOver x) os = refl

join_each : (xs ys zs : List Out) → (xs ++ ys) ++ zs ≡ xs ++ (ys ++ zs)
join_each [] ys zs = refl
join_each (x ∷ xs) ys zs = ap (λ os. x ∷ os) (join_each xs ys zs)

pub actions_join : (xs ys : List Out) → actions (xs ++ ys) ≡ actions xs ++ actions ys
actions_join [] ys = refl
actions_join (o ∷ xs) ys =
    action_one o (xs ++ ys) ∙ (ap (λ os. actions (o ∷ []) ++ os) (actions_join xs ys) ∙ (sym (join_each (actions (o ∷ [])) (actions xs) (actions ys)) ∙ ap (λ os. os ++ actions ys) (sym (action_one o xs))))

pub no_more : (xs : List Out) → xs ++ [] ≡ xs
no_more [] = refl
no_more (x ∷ xs) = ap (λ os. x ∷ os) (no_more xs)

-- what others send is not answered
others_quiet : (P : Description) (es h : List Event) → IsOthers P es → (let none : List Out = [] in actions (outs_from P h es) ≡ none)
others_quiet P [] h o = refl
others_quiet P (Word b w ∷ es) h o = others_quiet P es (Word b w ∷ h) o.1
others_quiet P (Noise b ∷ es) h o = others_quiet P es (Noise b ∷ h) o
others_quiet P (Gap b ∷ es) h o = absurd o
others_quiet P (Write q v ∷ es) h o = absurd o
others_quiet P (Vector v ∷ es) h o = absurd o
others_quiet P (Bit v ∷ es) h o = absurd o
others_quiet P (FlagIs f v ∷ es) h o = absurd o
others_quiet P (Slot ∷ es) h o = absurd o

-- a slot
pub slot_answers : (ms : List Member) (m : Member) (o : Out) → AreApart ms → In ms m → out m.description m.history Slot ≡ o → actions (answers_in ms SlotPasses m) ≡ actions (o ∷ [])
slot_answers ms m o a h q =
    let P : Description = m.description in
    let heard : List Event = heard_on A ms m ++ heard_on B ms m in
    let quiet : (let none : List Out = [] in actions (outs_from P (Slot ∷ m.history) heard) ≡ none) =
    others_quiet P heard (Slot ∷ m.history) (others_join P (heard_on A ms m) (heard_on B ms m) (hears_others A ms m a h) (hears_others B ms m a h)) in
    action_one (out P m.history Slot) (outs_from P (Slot ∷ m.history) heard) ∙ ((λ j. actions (q j ∷ []) ++ quiet j) ∙ no_more (actions (o ∷ [])))

abbrev passed : List Member → Member → Member
passed ms m = after_events (events_for ms SlotPasses m) m

pub slots_quiet : (z : Bool) (R : Description → Option Replying) (ms : List Member) (m : Member) (n : ℕ) → AreApart ms → Each (Rests z R) ms → In ms m → R m.description ≡ None →
    (let none : List Out = [] in actions (own_answers ms (passing n []) m) ≡ none)
slots_quiet z R ms m zero a r h q = refl
slots_quiet z R ms m (suc n) a r h q =
    let silent : out m.description m.history Slot ≡ Silence = slot_out m.description m.history None (ap (λ (s : Shape). s.reply) (each_in (Rests z R) ms m r h) ∙ q) in
    actions_join (answers_in ms SlotPasses m) (own_answers (bus_after ms SlotPasses) (passing n []) (passed ms m))
    ∙ (λ j. slot_answers ms m Silence a h silent j
    ++ slots_quiet z (λ P. sent_one (R P)) (bus_after ms SlotPasses) (passed ms m) n (apart_after ms SlotPasses a) (slot_rest z R ms a r) (in_map (passed ms) ms m h) (ap sent_one q) j)

-- the words of a reply, from one on, as they are before the message
abbrev Holds : Cell → Member → Member → Type 0
Holds cell o m = (i : ℕ) → reply_word m.description (noted_of m) (Some cell) i ≡ reply_word o.description (noted_of o) (Some cell) i

still_holds : (z : Bool) (cell : Cell) (R : Description → Option Replying) (ms : List Member) (o m : Member) → AreApart ms → In ms m → Rests z R m → Replies cell → RepliesAs cell (R m.description) → Holds cell o m → Holds cell o (passed ms m)
still_holds z cell R ms o m a h r k q w i =
    let P : Description = m.description in
    others_keep z P cell (sent_one (R P)) (heard_on A ms m ++ heard_on B ms m) (Slot ∷ m.history) (others_join P (heard_on A ms m) (heard_on B ms m) (hears_others A ms m a h) (hears_others B ms m a h))
    (slot_shown z P (R P) m.history r) i
    ∙ (slot_keeps z P cell (R P) m.history k q r i ∙ w i)

slots_words : (z : Bool) (b : Bus) (cell : Cell) (o : Member) (R : Description → Option Replying) (ms : List Member) (m : Member) (j k : ℕ) → AreApart ms → Each (Rests z R) ms → In ms m → Replies cell →
    R m.description ≡ reply_after b (Some cell) false (suc k) → k + j ≡ words_after_status (Some cell) → Holds cell o m → actions (own_answers ms (passing j []) m) ≡ map (word_out b) (words_of_reply o cell (suc k) j)
slots_words z b cell o R ms m zero k a r h c q e w = refl
slots_words z b cell o R ms m (suc j) k a r h c q e w =
    let P : Description = m.description in
    let left : nat_le (suc k) (words_after_status (Some cell)) ≡ true = grind (arith, nat_tests) in
    let next : suc k + j ≡ words_after_status (Some cell) = omega (arith, e) in
    let later : (suc k == 0) ≡ false = ne_eqb (suc k) 0 (λ q. omega (arith, q)) in
    let this : R P ≡ Some (record { bus = b; cell = Some cell; number = suc k }) = q ∙ (λ i. if left i then Some (record { bus = b; cell = Some cell; number = suc k }) else None) in
    let here : Rests z R m = each_in (Rests z R) ms m r h in
    let says : out P m.history Slot ≡ word_out b (reply_word o.description (noted_of o) (Some cell) (suc k)) =
    slot_out P m.history (Some (record { bus = b; cell = Some cell; number = suc k })) (ap (λ (s : Shape). s.reply) here ∙ this)
    ∙ (λ i. SendsWord (if later i then sending b Com (status_word P.address (kept_now P (noted_of m))) else sending b Dat (w (suc k) i))) in
    actions_join (answers_in ms SlotPasses m) (own_answers (bus_after ms SlotPasses) (passing j []) (passed ms m))
    ∙ (λ i. slot_answers ms m (word_out b (reply_word o.description (noted_of o) (Some cell) (suc k))) a h says i
    ++ slots_words z b cell o (λ P. sent_one (R P)) (bus_after ms SlotPasses) (passed ms m) j (suc k) (apart_after ms SlotPasses a) (slot_rest z R ms a r) (in_map (passed ms) ms m h) c
    (ap sent_one q ∙ sym (next_of b (Some cell) false (suc k))) next (still_holds z cell R ms o m a h here c (subst (RepliesAs cell) (sym this) refl) w) i)

-- its status word, and then these
slots_reply : (z : Bool) (b : Bus) (cell : Cell) (o : Member) (parts : StatusParts) (R : Description → Option Replying) (ms : List Member) (m : Member) → AreApart ms → Each (Rests z R) ms → In ms m →
    R m.description ≡ Some (record { bus = b; cell = Some cell; number = 0 }) → kept_now m.description (noted_of m) ≡ parts → (Replies cell → Holds cell o m) →
    actions (own_answers ms (passing (suc (words_after_status (Some cell))) []) m) ≡ SendsWord (sending b Com (status_word m.description.address parts)) ∷ map (word_out b) (words_of_reply o cell 1 (words_after_status (Some cell)))
slots_reply z b cell o parts R ms m a r h q kept w =
    let status : out m.description m.history Slot ≡ SendsWord (sending b Com (status_word m.description.address parts)) =
    slot_out m.description m.history (Some (record { bus = b; cell = Some cell; number = 0 })) (ap (λ (s : Shape). s.reply) (each_in (Rests z R) ms m r h) ∙ q)
    ∙ ap (λ s. SendsWord (sending b Com (status_word m.description.address s))) kept in
    actions_join (answers_in ms SlotPasses m) (own_answers (bus_after ms SlotPasses) (passing (words_after_status (Some cell)) []) (passed ms m))
    ∙ (λ i. slot_answers ms m (SendsWord (sending b Com (status_word m.description.address parts))) a h status i ++ by_words (words_after_status (Some cell)) refl i)
  where
    by_words : (n : ℕ) → words_after_status (Some cell) ≡ n → actions (own_answers (bus_after ms SlotPasses) (passing n []) (passed ms m)) ≡ map (word_out b) (words_of_reply o cell 1 n)
    by_words zero e = refl
    by_words (suc n) e =
        let c : Replies cell = replies_law cell n e in
        let first : 0 + suc n ≡ words_after_status (Some cell) = omega (arith, e) in
        slots_words z b cell o (λ P. sent_one (R P)) (bus_after ms SlotPasses) (passed ms m) (suc n) 0 (apart_after ms SlotPasses a) (slot_rest z R ms a r) (in_map (passed ms) ms m h) c
        (ap sent_one (q ∙ begun_after b (Some cell)) ∙ sym (next_of b (Some cell) false 0)) first
        (still_holds z cell R ms o m a h (each_in (Rests z R) ms m r h) c (subst (RepliesAs cell) (sym q) refl) (w c))

-- what is answered to what is put
quiet_data : (P : Description) (b : Bus) (vs : List ℕ) (h : List Event) → actions (outs_from P h (data_on b vs ++ Gap b ∷ [])) ≡ actions (out P (history_after (data_on b vs) h) (Gap b) ∷ [])
quiet_data P b [] h = refl
quiet_data P b (v ∷ vs) h = quiet_data P b vs (Word b (valid_word Dat v) ∷ h)

front_says : (z : Bool) (x : ScheduledCommand) (cell : Cell) (m : Member) → IsFormed z x.command cell x.words → IsClearIf z m →
    actions (outs_from m.description m.history (put_by x)) ≡ (if carries_out m.description x.command cell then actions (handing_over (hands m.description (Done x.command cell x.words)) ∷ []) else [])
front_says z x cell m f c =
    quiet_data P x.bus x.words (w ∷ m.history) ∙ (ap (λ o. actions (o ∷ [])) (gap_says z P g x.bus) ∙ by_tests (is_meant P x.command) (P.legal cell) refl refl)
  where
    P : Description
    P = m.description

    w : Event
    w = Word x.bus (valid_word Com x.command)

    g : List Event
    g = history_after (data_on x.bus x.words) (Word x.bus (valid_word Com x.command) ∷ m.history)

    ends : (u : Bool) → is_meant m.description x.command ≡ true → m.description.legal cell ≡ u →
        actions (says m.description (GapComes x.bus) (shown z m.description (history_after (data_on x.bus x.words) (Word x.bus (valid_word Com x.command) ∷ m.history))) ∷ [])
        ≡ actions (handing_over (hands m.description (if u then Done x.command cell x.words else Illegal x.command)) ∷ [])
    ends u k q =
        ap (λ s. actions (says m.description (GapComes x.bus) s ∷ [])) (meant_collects z m.description x.bus x.command x.words m.history (asks_none z x.command cell x.words f) k (clear_rests z m c))
        ∙ ap (λ y. actions (handing_over (hands m.description y) ∷ []))
        (ap (λ t. gap_ending m.description false (if t then Collects x.command (data_seen x.words []) else Idle)) (same_self x.bus)
        ∙ (ends_by z m.description x.command cell x.words f ∙ (λ j. if q j then Done x.command cell x.words else Illegal x.command)))

    by_tests : (t u : Bool) → is_meant m.description x.command ≡ t → m.description.legal cell ≡ u →
        actions (says m.description (GapComes x.bus) (shown z m.description (history_after (data_on x.bus x.words) (Word x.bus (valid_word Com x.command) ∷ m.history))) ∷ [])
        ≡ (if t && u then actions (handing_over (hands m.description (Done x.command cell x.words)) ∷ []) else [])
    by_tests true true k q = ends true k q
    by_tests true false k q = ends false k q
    by_tests false u k q = ap (λ s. actions (says m.description (GapComes x.bus) s ∷ [])) (unmeant_stays z m.description x.bus x.command x.words m.history k (clear_rests z m c))

both_parts : (t : Bool) (xs ys : List Out) → (let none : List Out = [] in (if t then xs else none) ++ (if t then ys else none) ≡ (if t then xs ++ ys else none))
both_parts true xs ys = refl
both_parts false xs ys = refl

-- all that is answered
reply_says : (z : Bool) (x : ScheduledCommand) (cell : Cell) (ms : List Member) (m : Member) → AreApart ms → IsLegalAs z (descriptions ms) x cell → Each (IsClearIf z) ms → In ms m →
    actions (own_answers (front x ms) (passing (reply_slots x.command) []) (after_events (put_by x) m)) ≡ (if carries_out m.description x.command cell then good_reply x cell m else [])
reply_says z x cell ms m a l c h =
    ap (λ n. actions (own_answers (front x ms) (passing n []) (after_events (put_by x) m))) (ap (λ o. if is_broadcast x.command then 0 else suc (words_after_status o)) l.0.has)
    ∙ by_tests (is_broadcast x.command) (is_meant m.description x.command) (m.description.legal cell) refl refl refl
  where
    by_tests : (t u w : Bool) → is_broadcast x.command ≡ t → is_meant m.description x.command ≡ u → m.description.legal cell ≡ w →
        actions (own_answers (front x ms) (passing (if t then 0 else suc (words_after_status (Some cell))) []) (after_events (put_by x) m))
        ≡ (if u && w then (if t then [] else good_status x.bus m x.command cell ∷ map (word_out x.bus) (words_of_reply m cell 1 (words_after_status (Some cell)))) else [])
    by_tests true true true p q k = refl
    by_tests true true false p q k = refl
    by_tests true false w p q k = refl
    by_tests false true false p q k =
        let no : true ≡ false = sym (refused z m.description x.command cell (legal_there z x cell ms m l h) q k).1 ∙ p in cc
    by_tests false false w p q k =
        slots_quiet z (begins x cell) (front x ms) (after_events (put_by x) m) (suc (words_after_status (Some cell))) (front_apart x ms a) (front_rests z x cell ms l c) (in_map (after_events (put_by x)) ms m h)
        (λ j. if q j then begun_if (not (is_broadcast x.command || false)) x.bus (Some cell) None else None)
    by_tests false true true p q k =
        let P : Description = m.description in
        let rest : shown z P m.history ≡ resting None = clear_rests z m (each_in (IsClearIf z) ms m c h) in
        let put : history_after (put_by x) m.history ≡ Gap x.bus ∷ history_after (data_on x.bus x.words) (Word x.bus (valid_word Com x.command) ∷ m.history) = after_gap (data_on x.bus x.words) (Word x.bus (valid_word Com x.command) ∷ m.history) x.bus in
        slots_reply z x.bus cell m (parts_for P (noted_of m) x.command cell) (begins x cell) (front x ms) (after_events (put_by x) m) (front_apart x ms a) (front_rests z x cell ms l c) (in_map (after_events (put_by x)) ms m h)
        (λ j. if q j then begun_if (not (p j || false)) x.bus (Some cell) None else None)
        (ap (λ g. kept_now P (past P g)) put ∙ reply_parts z P x.bus x.command cell x.words m.history l.0 p q k rest)
        (λ r i. ap (λ g. reply_word P (past P g) (Some cell) i) put ∙ front_keeps z P x.bus x.command cell x.words m.history l.0 r q k rest i)

ends_exactly : (z : Bool) (x : ScheduledCommand) (cell : Cell) (ms : List Member) (m : Member) → AreApart ms → IsLegalAs z (descriptions ms) x cell → Each (IsClearIf z) ms → In ms m →
    actions (own_answers ms (command_events x) m) ≡ good_answers cell x m
ends_exactly z x cell ms m a l c h =
    ap actions (put_answers (put_by x) ms (passing (reply_slots x.command) []) m)
    ∙ (actions_join (outs_from m.description m.history (put_by x)) (own_answers (front x ms) (passing (reply_slots x.command) []) (after_events (put_by x) m))
    ∙ ((λ j. front_says z x cell m l.0 (each_in (IsClearIf z) ms m c h) j ++ reply_says z x cell ms m a l c h j)
    ∙ both_parts (carries_out m.description x.command cell) (actions (handing_over (hands m.description (Done x.command cell x.words)) ∷ [])) (good_reply x cell m)))

-- from what is said of a message
leaves_on : (code : Option ℕ) → code ≢ Some 4 → or_else (switched 4 5 code) false ≡ false
leaves_on None n = refl
leaves_on (Some code) n = by_tests (code == 4) (code == 5) refl
  where
    by_tests : (s t : Bool) → (code == 4) ≡ s → or_else (if s then Some true else (if t then Some false else None)) false ≡ false
    by_tests true t q = let at : code ≡ 4 = eqb-true code 4 q in absurd (n (ap (λ k. Some k) at))
    by_tests false true q = refl
    by_tests false false q = refl

formed : (z : Bool) (Ps : List Description) (x : ScheduledCommand) (l : IsLegal z Ps x) → IsLegalAs z Ps x l.cell
formed z Ps x l = (record { has = l.has; count = l.count; leaves = leaves_on (code_in l.cell) l.on; asks = l.asks }, l.legal)

pub apart_of : (ms : List Member) → AddressesDiffer (descriptions ms) → Each (λ P. P.address ≤ 30) (descriptions ms) → AreApart ms
apart_of ms differ low = record {
  apart = two_unmap (λ P Q. P.address ≢ Q.address) (λ (m : Member). m.description) ms differ;
  low = each_unmap (λ P. P.address ≤ 30) (λ (m : Member). m.description) ms low;
}

pub ends_well : (z : Bool) (ms : List Member) (x : ScheduledCommand) → AreApart ms → IsLegal z (descriptions ms) x → Each (IsClearIf z) ms → EndsWell z ms x
ends_well z ms x a l c = record {
  answers = λ cell has m h.
      (let same : l.cell ≡ cell = (let is : Some l.cell ≡ Some cell = sym l.has ∙ has in cc) in
      ends_exactly z x cell ms m a (subst (IsLegalAs z (descriptions ms) x) same (formed z (descriptions ms) x l)) c (in_has ms m h));
  clear = ends_clear z x l.cell ms a (formed z (descriptions ms) x l) c;
}
