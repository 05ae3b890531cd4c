-- At a pause in what is seen a terminal is at a quiet place, also where more gaps came than were counted.
use Rattle.std.proofs.Common.{◌≡◌, ℕ, zero, suc, Bool, true, false, nat_le, if◌then◌else◌, ◌⊎◌, inl, inr, Option, Some, None, is_some, List, [], ◌∷◌, ◌++◌, refl, ap, sym, ◌∙◌, subst}
use Rattle.std.proofs.lemmas.Bool.{and_parts}
use Rattle.bus_word.specs.declared.word.Bus.{Bus}
use Rattle.bus_word.specs.declared.word.Bus.TheVariants.{A, B}
use Rattle.bus_word.specs.declared.cell.Cell.{Cell}
use Rattle.bus_legal.specs.Description.{Description}
use Rattle.terminal_rules.specs.declared.event.Event.{Event}
use Rattle.terminal_rules.specs.declared.event.Event.TheVariants.{Word, Noise, Gap, Write, Vector, Bit, Flag as FlagIs, Slot}
use Rattle.terminal_rules.specs.History.{Replying, Entry}
use Rattle.terminal_rules.specs.Open.{Open, Idle, Collects, Waits, Resumes, is_on, transfer}
use Rattle.terminal_rules.specs.Reply.{reply_now, reply_bus}
use Rattle.terminal_rules.specs.Ends.{ends_now}
use Rattle.terminal_rules.specs.SinceReset.{is_reset, off_now}
use Rattle.terminal_rules.specs.Turn.{is_answered, done_cell}
use Rattle.terminal_rules.specs.Past.{note, past, history_after}
use Rattle.terminal_rules.specs.Same.{IsProper, AreProper}
use Rattle.terminal_rules.specs.Out.{Sending, sends, sending_out, out, sent_in}
use Rattle.terminal_rules.specs.Steps.{sent_one, begun_if}
use Rattle.terminal_rules.proofs.OpenLaw.{waits, after_gap}
use Rattle.terminal_recordings.specs.Recordings.{Sighting, is_seen, sightings_from, IsExplainedAfter}
use Rattle.terminal_recordings.specs.Masks.{MaskedSighting, FitsWord, FitsSighting, ExplainsSome}
use Rattle.terminal_recordings.specs.Later.{IsQuiet, IsExplainedLater, IsExplainedAnyTime, Gaps, no_gaps, are_two, gaps_with, first_command, asks_back, BeginsAfresh}
use Rattle.terminal_recordings.specs.MaybeGaps.{MaybeSighting, Seen, MaybeGap, gap_on, FirstThen, IsReadingOf, ExplainsReading, IsExplainedSomehow, certainly, fresh_part}
use Rattle.terminal_recordings.proofs.Law.{proper_join}
use Rattle.terminal_recordings.proofs.Leaving.{history_join}
use Rattle.terminal_recordings.proofs.Endings.{if_busy, effects}
use Rattle.terminal_recordings.proofs.Summary.{Determined, determined, Summary, summary, quiet_law, determined_after, determined_law, reply_law}

-- a second gap leaves nothing of a message
waits_over : (P : Description) (t : Option (ℕ × ℕ)) → after_gap P (waits t) ≡ Idle
waits_over P None = refl
waits_over P (Some t) = refl

gap_twice : (P : Description) (o : Open) → after_gap P (after_gap P o) ≡ Idle
gap_twice P Idle = refl
gap_twice P (Collects c after) = waits_over P (transfer P (Some (c, after)))
gap_twice P (Waits c a) = refl
gap_twice P (Resumes c after) = refl

-- what is so of a bus after so many gaps
abbrev Counted : Description → ℕ → List Entry → Open → Type 0
Counted P zero r o = Unit {0}
Counted P (suc zero) r o = (r ≡ []) × (after_gap P o ≡ Idle)
Counted P (suc (suc n)) r o = (r ≡ []) × (o ≡ Idle)

one_more : (P : Description) (n : ℕ) (r : List Entry) (o : Open) → Counted P n r o → Counted P (suc n) [] (after_gap P o)
one_more P zero r o c = (refl, gap_twice P o)
one_more P (suc zero) r o c = (refl, c.1)
one_more P (suc (suc n)) r o c = (refl, ap (after_gap P) c.1)

two_quiet : (P : Description) (n : ℕ) (r : List Entry) (o : Open) → nat_le 2 n ≡ true → Counted P n r o → (r ≡ []) × (o ≡ Idle)
two_quiet P zero r o e c = cc
two_quiet P (suc zero) r o e c = cc
two_quiet P (suc (suc n)) r o e c = c

-- a reply is in progress, and goes on; or none is, and the gaps were heard
record Heard (P : Description) (s : Summary) (g : Gaps) : Type 0 where
  pub reply : s.reply ≡ None
  pub on_a : Counted P g.a (s.determined.run A) (s.determined.message A)
  pub on_b : Counted P g.b (s.determined.run B) (s.determined.message B)

abbrev Paused : Description → Summary → Gaps → Type 0
Paused P s g = (is_some s.reply ≡ true) ⊎ Heard P s g

any_paused : (P : Description) (s : Summary) → Paused P s no_gaps
any_paused P s = by_reply s.reply refl
  where
    by_reply : (r : Option Replying) → s.reply ≡ r → Paused P s no_gaps
    by_reply None e = inr (record { reply = e; on_a = tt; on_b = tt })
    by_reply (Some r) e = inl (ap is_some e)

-- with a gap
begun_some : (begins : Bool) (b : Bus) (cell : Option Cell) (r : Option Replying) → is_some r ≡ true → is_some (begun_if begins b cell r) ≡ true
begun_some true b cell r e = refl
begun_some false b cell r e = e

gap_determined : (P : Description) (h : List Event) (b : Bus) → reply_now (past P h) ≡ None →
    determined P (past P (Gap b ∷ h))
    ≡ determined_after P (Gap b) false false (is_reset (note P (past P h) (Gap b))) (effects P (if_busy (ends_now P (past P h) (Gap b)))) (determined P (past P h))
gap_determined P h b r =
    determined_law P (past P h) (Gap b)
    ∙ (λ j. determined_after P (Gap b) (is_on b (reply_bus (r j))) false (is_reset (note P (past P h) (Gap b))) (effects P (if_busy (ends_now P (past P h) (Gap b)))) (determined P (past P h)))

abbrev with_gap : Bus → Gaps → Gaps
with_gap A g = record g { a = suc g.a }
with_gap B g = record g { b = suc g.b }

carry : (P : Description) (n : ℕ) (r r' : List Entry) (o o' : Open) → r ≡ r' → o ≡ o' → Counted P n r o → Counted P n r' o'
carry P n r r' o o' p q c = subst (λ (x : Open). Counted P n r' x) q (subst (λ (x : List Entry). Counted P n x o) p c)

gap_heard : (P : Description) (h : List Event) (b : Bus) (g : Gaps) → Heard P (summary P (past P h)) g → reply_now (past P (Gap b ∷ h)) ≡ None → Heard P (summary P (past P (Gap b ∷ h))) (with_gap b g)
gap_heard P h A g x r =
    let d : Determined = determined P (past P h) in
    let e = gap_determined P h A x.reply in
    record {
      reply = r;
      on_a = carry P (suc g.a) [] _ (after_gap P (d.message A)) _ (sym (ap (λ d. d.run A) e)) (sym (ap (λ d. d.message A) e)) (one_more P g.a (d.run A) (d.message A) x.on_a);
      on_b = carry P g.b (d.run B) _ (d.message B) _ (sym (ap (λ d. d.run B) e)) (sym (ap (λ d. d.message B) e)) x.on_b;
    }
gap_heard P h B g x r =
    let d : Determined = determined P (past P h) in
    let e = gap_determined P h B x.reply in
    record {
      reply = r;
      on_a = carry P g.a (d.run A) _ (d.message A) _ (sym (ap (λ d. d.run A) e)) (sym (ap (λ d. d.message A) e)) x.on_a;
      on_b = carry P (suc g.b) [] _ (after_gap P (d.message B)) _ (sym (ap (λ d. d.run B) e)) (sym (ap (λ d. d.message B) e)) (one_more P g.b (d.run B) (d.message B) x.on_b);
    }

gap_paused : (P : Description) (h : List Event) (b : Bus) (g : Gaps) → Paused P (summary P (past P h)) g → Paused P (summary P (past P (Gap b ∷ h))) (with_gap b g)
gap_paused P h b g (inl e) =
    let begins : Bool = is_answered (off_now (past P h) b) (ends_now P (past P h) (Gap b)) in
    inl (ap is_some (reply_law P (past P h) (Gap b)) ∙ begun_some begins b (done_cell (ends_now P (past P h) (Gap b))) (reply_now (past P h)) e)
gap_paused P h b g (inr x) = by_reply (reply_now (past P (Gap b ∷ h))) refl
  where
    by_reply : (r : Option Replying) → reply_now (past P (Gap b ∷ h)) ≡ r → Paused P (summary P (past P (Gap b ∷ h))) (with_gap b g)
    by_reply None e = inr (gap_heard P h b g x e)
    by_reply (Some r) e = inl (ap is_some e)

-- with a slot in which nothing is sent
sent_where_some : (P : Description) (h : List Event) (r : Option Replying) → is_some r ≡ true → is_some (sent_in (sending_out (sends P (past P h) r))) ≡ true
sent_where_some P h None e = e
sent_where_some P h (Some r) e = refl

silent_heard : (P : Description) (h : List Event) (g : Gaps) → sent_in (out P h Slot) ≡ None → Paused P (summary P (past P h)) g → Heard P (summary P (past P h)) g
silent_heard P h g silent (inl e) = let wrong : false ≡ true = sym (ap is_some silent) ∙ sent_where_some P h (reply_now (past P h)) e in absurd (cc)
silent_heard P h g silent (inr x) = x

slot_heard : (P : Description) (h : List Event) (g : Gaps) → Heard P (summary P (past P h)) g → Heard P (summary P (past P (Slot ∷ h))) g
slot_heard P h g x =
    let d : Determined = determined P (past P h) in
    let e = determined_law P (past P h) Slot in
    record {
      reply = reply_law P (past P h) Slot ∙ ap sent_one x.reply;
      on_a = carry P g.a (d.run A) _ (d.message A) _ (sym (ap (λ d. d.run A) e)) (sym (ap (λ d. d.message A) e)) x.on_a;
      on_b = carry P g.b (d.run B) _ (d.message B) _ (sym (ap (λ d. d.run B) e)) (sym (ap (λ d. d.message B) e)) x.on_b;
    }

heard_quiet : (P : Description) (h : List Event) (g : Gaps) → are_two g ≡ true → Heard P (summary P (past P h)) g → IsQuiet P h
heard_quiet P h g two x = record { message = λ b. (on b).1; run = λ b. (on b).0; reply = x.reply }
  where
    both : (nat_le 2 g.a ≡ true) × (nat_le 2 g.b ≡ true)
    both = and_parts (nat_le 2 g.a) (nat_le 2 g.b) two

    on : (b : Bus) → ((determined P (past P h)).run b ≡ []) × ((determined P (past P h)).message b ≡ Idle)
    on A = two_quiet P g.a ((determined P (past P h)).run A) ((determined P (past P h)).message A) both.0 x.on_a
    on B = two_quiet P g.b ((determined P (past P h)).run B) ((determined P (past P h)).message B) both.1 x.on_b

-- with an event of the subsystem
unseen_paused : (P : Description) (h : List Event) (e : Event) (g : Gaps) → is_seen e ≡ false → Paused P (summary P (past P h)) g → Paused P (summary P (past P (e ∷ h))) g
unseen_paused P h e g u x = subst (λ (s : Summary). Paused P s g) (sym (quiet_law P (past P h) e u)) x

-- ---- fewer gaps are counted than came

fewer : (P : Description) (n : ℕ) (r : List Entry) (o : Open) → Counted P (suc n) r o → Counted P n r o
fewer P zero r o c = tt
fewer P (suc zero) r o c = (c.0, ap (after_gap P) c.1)
fewer P (suc (suc n)) r o c = c

heard_fewer : (P : Description) (s : Summary) (b : Bus) (g : Gaps) → Heard P s (with_gap b g) → Heard P s g
heard_fewer P s A g x = record { reply = x.reply; on_a = fewer P g.a (s.determined.run A) (s.determined.message A) x.on_a; on_b = x.on_b }
heard_fewer P s B g x = record { reply = x.reply; on_a = x.on_a; on_b = fewer P g.b (s.determined.run B) (s.determined.message B) x.on_b }

paused_fewer : (P : Description) (s : Summary) (b : Bus) (g : Gaps) → Paused P s (with_gap b g) → Paused P s g
paused_fewer P s b g (inl e) = inl e
paused_fewer P s b g (inr x) = inr (heard_fewer P s b g x)

-- ---- a part of a recording

-- a history that can come
abbrev Comes : List Event → Type 0
Comes h = (earlier : List Event) × AreProper earlier × (history_after earlier [] ≡ h)

comes_next : (h : List Event) (e : Event) → IsProper e → Comes h → Comes (e ∷ h)
comes_next h e p (earlier, a, q) = (earlier ++ e ∷ [], proper_join earlier (e ∷ []) a (p, tt), history_join earlier (e ∷ []) [] ∙ (λ j. e ∷ q j))

-- where the first sighting is seen, and what is left there of the rest
record First (P : Description) (g : Gaps) (s : Sighting) (later : List Sighting) : Type 0 where
  pub history : List Event
  pub comes : Comes history
  pub paused : Paused P (summary P (past P history)) g
  pub proper : IsProper s.event
  pub sent : s.sent ≡ sent_in (out P history s.event)
  pub explained : IsExplainedAfter P (s.event ∷ history) later

first_of : (P : Description) (es h : List Event) (g : Gaps) (s : Sighting) (later : List Sighting) → Comes h → Paused P (summary P (past P h)) g → AreProper es → sightings_from P h es ≡ s ∷ later → First P g s later
first_of P [] h g s later c x p e = absurd (cc)
first_of P (y ∷ es) h g s later c x (p, a) e = by_seen (is_seen y) refl e (λ u q. first_of P es (y ∷ h) g s later (comes_next h y p c) (unseen_paused P h y g u x) a q)
  where
    shows : List Sighting → Bool → List Sighting
    shows rest t = if t then record { event = y; sent = sent_in (out P h y) } ∷ rest else rest

    by_seen : (t : Bool) → is_seen y ≡ t → shows (sightings_from P (y ∷ h) es) t ≡ s ∷ later →
        (is_seen y ≡ false → sightings_from P (y ∷ h) es ≡ s ∷ later → First P g s later) → First P g s later
    by_seen true u e next =
        let head : record { event = y; sent = sent_in (out P h y) } ≡ s = cc in
        let rest : sightings_from P (y ∷ h) es ≡ later = cc in
        record {
          history = h;
          comes = c;
          paused = x;
          proper = subst (λ (t : Sighting). IsProper t.event) head p;
          sent = subst (λ (t : Sighting). t.sent ≡ sent_in (out P h t.event)) head refl;
          explained = subst (λ (t : Sighting). IsExplainedAfter P (t.event ∷ h) later) head (es, a, rest);
        }
    by_seen false u e next = next u e

-- where the counted gaps end a pause, the terminal is at a quiet place
abbrev Then : Description → List Event → Option Gaps → Type 0
Then P h None = IsQuiet P h
Then P h (Some n) = Paused P (summary P (past P h)) n

then_of : (P : Description) (h : List Event) (g : Gaps) (e : Event) (sent : Option Sending) → Paused P (summary P (past P h)) g → sent ≡ sent_in (out P h e) → Then P (e ∷ h) (gaps_with g e sent)
then_of P h g (Gap A) sent x q = gap_paused P h A g x
then_of P h g (Gap B) sent x q = gap_paused P h B g x
then_of P h g Slot (Some s) x q = any_paused P (summary P (past P (Slot ∷ h)))
then_of P h g Slot None x q = by_two (are_two g) refl
  where
    heard : Heard P (summary P (past P (Slot ∷ h))) g
    heard = slot_heard P h g (silent_heard P h g (sym q) x)

    by_two : (t : Bool) → are_two g ≡ t → Then P (Slot ∷ h) (if t then None else Some g)
    by_two true two = heard_quiet P (Slot ∷ h) g two heard
    by_two false two = inr heard
then_of P h g (Word b w) sent x q = any_paused P (summary P (past P (Word b w ∷ h)))
then_of P h g (Noise b) sent x q = any_paused P (summary P (past P (Noise b ∷ h)))
then_of P h g (Write p v) sent x q = any_paused P (summary P (past P (Write p v ∷ h)))
then_of P h g (Vector v) sent x q = any_paused P (summary P (past P (Vector v ∷ h)))
then_of P h g (Bit v) sent x q = any_paused P (summary P (past P (Bit v ∷ h)))
then_of P h g (FlagIs f v) sent x q = any_paused P (summary P (past P (FlagIs f v ∷ h)))

-- a data word that is left open counts as any
gaps_fit : (g : Gaps) (e : Event) (any : Bool) (stated sent : Option Sending) → FitsWord any stated sent → gaps_with g e sent ≡ gaps_with g e stated
gaps_fit g e false stated sent fits = ap (gaps_with g e) fits
gaps_fit g e true None sent fits = absurd fits
gaps_fit g e true (Some stated) None fits = absurd fits
gaps_fit g (Gap A) true (Some stated) (Some sent) fits = refl
gaps_fit g (Gap B) true (Some stated) (Some sent) fits = refl
gaps_fit g (Word b w) true (Some stated) (Some sent) fits = refl
gaps_fit g (Noise b) true (Some stated) (Some sent) fits = refl
gaps_fit g (Write q v) true (Some stated) (Some sent) fits = refl
gaps_fit g (Vector v) true (Some stated) (Some sent) fits = refl
gaps_fit g (Bit v) true (Some stated) (Some sent) fits = refl
gaps_fit g (FlagIs f v) true (Some stated) (Some sent) fits = refl
gaps_fit g Slot true (Some stated) (Some sent) fits = refl

-- a reading that is explained from a history on, where these gaps were counted
record Reads (P : Description) (g : Gaps) (h : List Event) (ms : List MaybeSighting) : Type 0 where
  pub comes : Comes h
  pub paused : Paused P (summary P (past P h)) g
  pub explained : IsExplainedSomehow P h ms

-- and one whose first sighting is this
record ReadsFirst (P : Description) (g : Gaps) (s : MaskedSighting) (ms : List MaybeSighting) : Type 0 where
  pub history : List Event
  pub comes : Comes (s.sighting.event ∷ history)
  pub paused : Paused P (summary P (past P history)) g
  pub then_with : Then P (s.sighting.event ∷ history) (gaps_with g s.sighting.event s.sighting.sent)
  pub explained : IsExplainedSomehow P (s.sighting.event ∷ history) ms

reads_first : (P : Description) (g : Gaps) (h : List Event) (s : MaskedSighting) (ms : List MaybeSighting) → Comes h → Paused P (summary P (past P h)) g →
    (recording : List MaskedSighting) → FirstThen s (IsReadingOf ms) recording → ExplainsSome (IsExplainedAfter P h) recording → ReadsFirst P g s ms
reads_first P g h s ms c x [] f e = absurd f
reads_first P g h s ms c x (t ∷ later) (p, f) ([], fits, e) = absurd fits
reads_first P g h s ms c x (t ∷ later) (p, f) (r ∷ rest, (fit, fits), (es, a, e)) =
    let y : First P g r rest = first_of P es h g r rest c x a e in
    let fit : FitsSighting s r = subst (λ (u : MaskedSighting). FitsSighting u r) p fit in
    let with_gaps : Then P (r.event ∷ y.history) (gaps_with g s.sighting.event s.sighting.sent) =
    subst (Then P (r.event ∷ y.history)) ((λ j. gaps_with g (fit.event j) r.sent) ∙ gaps_fit g s.sighting.event s.any_word s.sighting.sent r.sent fit.sent) (then_of P y.history g r.event r.sent y.paused y.sent) in
    record {
      history = y.history;
      comes = subst (λ (e : Event). Comes (e ∷ y.history)) fit.event (comes_next y.history r.event y.proper y.comes);
      paused = y.paused;
      then_with = subst (λ (e : Event). Then P (e ∷ y.history) (gaps_with g s.sighting.event s.sighting.sent)) fit.event with_gaps;
      explained = (later, f, (rest, fits, subst (λ (e : Event). IsExplainedAfter P (e ∷ y.history) rest) fit.event y.explained));
    }

begun_later : (P : Description) (h : List Event) (ms : List MaybeSighting) → Comes h → IsQuiet P h → IsExplainedSomehow P h ms → ExplainsReading (IsExplainedLater P) ms
begun_later P h ms (earlier, a, q) quiet (recording, f, (r, fits, x)) =
    (recording, f, (r, fits, (earlier, a, subst (IsQuiet P) (sym q) quiet, subst (λ (k : List Event). IsExplainedAfter P k r) (sym q) x)))

abbrev next_part : Description → List MaybeSighting → Option Gaps → Option (List MaybeSighting)
next_part P later o = elim o as (λ o. Option (List MaybeSighting)) [ None ↦ if asks_back P (first_command P (certainly later)) then fresh_part P no_gaps later else Some later | Some n ↦ fresh_part P n later ]

part_explained : (P : Description) (ms part : List MaybeSighting) (g : Gaps) (h : List Event) → Reads P g h ms → fresh_part P g ms ≡ Some part → ExplainsReading (IsExplainedLater P) part
part_explained P [] part g h x e = absurd (cc)
part_explained P (MaybeGap b ∷ ms) part g h x e =
    by_reading x.explained (λ y. part_explained P ms part g h (record { comes = x.comes; paused = x.paused; explained = y }) e) (λ l y. part_explained P ms part g (Gap b ∷ l) y e)
  where
    by_reading : IsExplainedSomehow P h (MaybeGap b ∷ ms) → (IsExplainedSomehow P h ms → ExplainsReading (IsExplainedLater P) part) →
        ((l : List Event) → Reads P g (Gap b ∷ l) ms → ExplainsReading (IsExplainedLater P) part) → ExplainsReading (IsExplainedLater P) part
    by_reading (recording, inl f, y) left came = left (recording, f, y)
    by_reading (recording, inr f, y) left came =
        let z : ReadsFirst P g (gap_on b) ms = reads_first P g h (gap_on b) ms x.comes x.paused recording f y in
        came z.history (record { comes = z.comes; paused = paused_fewer P (summary P (past P (Gap b ∷ z.history))) b g (gap_paused P z.history b g z.paused); explained = z.explained })
part_explained P (Seen s ∷ ms) part g h x e =
    by_gaps (gaps_with g s.sighting.event s.sighting.sent) z.then_with e (λ n y. part_explained P ms part n l y)
  where
    z : ReadsFirst P g s ms
    z = reads_first P g h s ms x.comes x.paused x.explained.0 x.explained.1 x.explained.2

    l : List Event
    l = s.sighting.event ∷ z.history

    by_asks : (t : Bool) → IsQuiet P l → (if t then fresh_part P no_gaps ms else Some ms) ≡ Some part → (fresh_part P no_gaps ms ≡ Some part → ExplainsReading (IsExplainedLater P) part) → ExplainsReading (IsExplainedLater P) part
    by_asks true quiet q next = next q
    by_asks false quiet q next = let same : ms ≡ part = cc in subst (ExplainsReading (IsExplainedLater P)) same (begun_later P l ms z.comes quiet z.explained)

    by_gaps : (o : Option Gaps) → Then P l o → next_part P ms o ≡ Some part →
        ((n : Gaps) → Reads P n l ms → fresh_part P n ms ≡ Some part → ExplainsReading (IsExplainedLater P) part) → ExplainsReading (IsExplainedLater P) part
    by_gaps None quiet q next =
        by_asks (asks_back P (first_command P (certainly ms))) quiet q (next no_gaps (record { comes = z.comes; paused = any_paused P (summary P (past P l)); explained = z.explained }))
    by_gaps (Some n) p q next = next n (record { comes = z.comes; paused = p; explained = z.explained }) q

-- whatever came before
pub fresh_explained : (P : Description) (ms part : List MaybeSighting) → fresh_part P no_gaps ms ≡ Some part → ExplainsReading (IsExplainedAnyTime P) ms → ExplainsReading (IsExplainedLater P) part
fresh_explained P ms part e (recording, f, (r, fits, (earlier, a, x))) =
    part_explained P ms part no_gaps (history_after earlier [])
    (record { comes = (earlier, a, refl); paused = any_paused P (summary P (past P (history_after earlier []))); explained = (recording, f, (r, fits, x)) }) e

-- it begins afresh
pub fresh_begins : (P : Description) (ms part : List MaybeSighting) (g : Gaps) → fresh_part P g ms ≡ Some part → BeginsAfresh P (certainly part)
fresh_begins P [] part g e = absurd (cc)
fresh_begins P (MaybeGap b ∷ ms) part g e = fresh_begins P ms part g e
fresh_begins P (Seen s ∷ ms) part g e = by_gaps (gaps_with g s.sighting.event s.sighting.sent) e (λ n q. fresh_begins P ms part n q)
  where
    by_asks : (t : Bool) → asks_back P (first_command P (certainly ms)) ≡ t → (if t then fresh_part P no_gaps ms else Some ms) ≡ Some part →
        (fresh_part P no_gaps ms ≡ Some part → BeginsAfresh P (certainly part)) → BeginsAfresh P (certainly part)
    by_asks true is q next = next q
    by_asks false is q next = let same : ms ≡ part = cc in subst (λ (m : List MaybeSighting). BeginsAfresh P (certainly m)) same is

    by_gaps : (o : Option Gaps) → next_part P ms o ≡ Some part → ((n : Gaps) → fresh_part P n ms ≡ Some part → BeginsAfresh P (certainly part)) → BeginsAfresh P (certainly part)
    by_gaps None q next = by_asks (asks_back P (first_command P (certainly ms))) refl q (next no_gaps)
    by_gaps (Some n) q next = next n q
