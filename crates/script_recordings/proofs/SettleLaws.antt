-- Laws of a reading of a recording in which gaps may have come.
use Rattle.std.proofs.Common.{◌≡◌, ◌∙◌, ℕ, zero, suc, ◌≤◌, arith, length, drop, ◌⊎◌, inl, inr, ⊎_elim, List, [], ◌∷◌, ◌++◌, map, refl, sym, ap, subst, append_assoc, append-nil}
use Rattle.bus_word.specs.declared.word.Bus.{Bus}
use Rattle.bus_legal.specs.Description.{Description}
use Rattle.terminal_rules.specs.declared.event.Event.{Event}
use Rattle.terminal_recordings.specs.Recordings.{IsExplainedAfter}
use Rattle.terminal_recordings.specs.Masks.{MaskedSighting}
use Rattle.terminal_recordings.specs.MaybeGaps.{MaybeSighting, Seen, MaybeGap, IsReadingOf, ExplainsReading, IsExplainedSomehow, gap_on}
use Rattle.terminal_recordings.proofs.MaybeLaw.{whole_reading}
use Rattle.recorded_terminal.specs.declared.watch.Marked.{Marked}
use Rattle.recorded_terminal.specs.Marks.{IsSeen, IsMaybeGapOn, HasManyWays, masked, masked_in, maybe_in, maybe_gaps}
use Rattle.recorded_terminal.proofs.GapLaws.{gaps_join, many_more}
use Rattle.recorded_terminal.proofs.WayLaws.{maybe_append}
use Rattle.recorded_terminal.proofs.CameLaws.{masked_append}
use Rattle.script_recordings.specs.inner.Settled.{AllSeen, IsSettled, SettlesOne}

-- ---- readings

-- a gap that may have come is left out
pub left_open : (ms : List MaybeSighting) (bus : Bus) (recording : List MaskedSighting) → IsReadingOf ms recording → IsReadingOf (ms ++ MaybeGap bus ∷ []) recording
left_open [] bus recording reads = inl reads
left_open (Seen x ∷ ms) bus [] reads = absurd reads
left_open (Seen x ∷ ms) bus (y ∷ recording) (is, reads) = (is, left_open ms bus recording reads)
left_open (MaybeGap b ∷ ms) bus recording (inl reads) = inl (left_open ms bus recording reads)
left_open (MaybeGap b ∷ ms) bus [] (inr reads) = absurd reads
left_open (MaybeGap b ∷ ms) bus (y ∷ recording) (inr (is, reads)) = inr (is, left_open ms bus recording reads)

-- or it came
came_open : (ms : List MaybeSighting) (bus : Bus) (recording : List MaskedSighting) → IsReadingOf ms recording → IsReadingOf (ms ++ MaybeGap bus ∷ []) (recording ++ gap_on bus ∷ [])
came_open [] bus [] reads = inr (refl, refl)
came_open [] bus (y ∷ recording) reads = absurd (cc)
came_open (Seen x ∷ ms) bus [] reads = absurd reads
came_open (Seen x ∷ ms) bus (y ∷ recording) (is, reads) = (is, came_open ms bus recording reads)
came_open (MaybeGap b ∷ ms) bus recording (inl reads) = inl (came_open ms bus recording reads)
came_open (MaybeGap b ∷ ms) bus [] (inr reads) = absurd reads
came_open (MaybeGap b ∷ ms) bus (y ∷ recording) (inr (is, reads)) = inr (is, came_open ms bus recording reads)

-- what was seen
read_seen : (ms : List MaybeSighting) (x : MaskedSighting) (recording : List MaskedSighting) → IsReadingOf ms recording → IsReadingOf (ms ++ Seen x ∷ []) (recording ++ x ∷ [])
read_seen [] x [] reads = (refl, refl)
read_seen [] x (y ∷ recording) reads = absurd (cc)
read_seen (Seen s ∷ ms) x [] reads = absurd reads
read_seen (Seen s ∷ ms) x (y ∷ recording) (is, reads) = (is, read_seen ms x recording reads)
read_seen (MaybeGap b ∷ ms) x recording (inl reads) = inl (read_seen ms x recording reads)
read_seen (MaybeGap b ∷ ms) x [] (inr reads) = absurd reads
read_seen (MaybeGap b ∷ ms) x (y ∷ recording) (inr (is, reads)) = inr (is, read_seen ms x recording reads)

-- each reading is without such a gap or with it
split_open : (ms : List MaybeSighting) (bus : Bus) (more : List MaybeSighting) (recording : List MaskedSighting) → IsReadingOf (ms ++ MaybeGap bus ∷ more) recording
    → IsReadingOf (ms ++ more) recording ⊎ IsReadingOf (ms ++ Seen (gap_on bus) ∷ more) recording
split_open [] bus more recording reads = reads
split_open (Seen x ∷ ms) bus more [] reads = absurd reads
split_open (Seen x ∷ ms) bus more (y ∷ recording) (is, reads) = ⊎_elim (λ l. inl (is, l)) (λ l. inr (is, l)) (split_open ms bus more recording reads)
split_open (MaybeGap b ∷ ms) bus more recording (inl reads) = ⊎_elim (λ l. inl (inl l)) (λ l. inr (inl l)) (split_open ms bus more recording reads)
split_open (MaybeGap b ∷ ms) bus more [] (inr reads) = absurd reads
split_open (MaybeGap b ∷ ms) bus more (y ∷ recording) (inr (is, reads)) = ⊎_elim (λ l. inl (inr (is, l))) (λ l. inr (inr (is, l))) (split_open ms bus more recording reads)

-- ---- sightings that came

pub seen_more : (ms : List Marked) (m : Marked) → AllSeen ms → IsSeen m → AllSeen (ms ++ m ∷ [])
seen_more [] m seen is = (is, tt)
seen_more (n ∷ ms) m seen is = (seen.0, seen_more ms m seen.1 is)

pub all_seen : (ms : List Marked) → AllSeen ms → maybe_in ms ≡ map Seen (masked_in ms)
all_seen [] seen = refl
all_seen (m ∷ ms) seen = λ j. seen.0 j ∷ all_seen ms seen.1 j

-- none of them may have come or not
pub seen_gaps : (ms : List Marked) → AllSeen ms → maybe_gaps (maybe_in ms) ≡ 0
seen_gaps [] seen = refl
seen_gaps (m ∷ ms) seen = ap (λ x. maybe_gaps (x ∷ maybe_in ms)) seen.0 ∙ seen_gaps ms seen.1

-- behind what is settled there is room for no more ways than there is in all
pub many_settled : (settled front ms : List Marked) → AllSeen settled → HasManyWays (maybe_in (settled ++ ms)) → HasManyWays (maybe_in (front ++ ms))
many_settled settled front ms seen =
    many_more (maybe_in (settled ++ ms)) (maybe_in (front ++ ms)) (omega (arith, seen_gaps settled seen, gaps_join settled ms, gaps_join front ms))

-- ---- one after the other

-- a front of the sightings is settled, before the rest
pub record SettledSoFar (P : Description) (h : List Event) (ms front rest settled : List Marked) : Type 0 where
  pub seen : AllSeen settled
  pub reads : IsReadingOf (maybe_in front) (masked_in settled)
  pub keeps : IsExplainedSomehow P h (maybe_in ms) → IsExplainedSomehow P h (maybe_in (settled ++ rest))

came_needed : (P : Description) (h : List Event) (olds rest : List Marked) (m g : Marked) (b : Bus) → IsMaybeGapOn b m → IsSeen g → masked g ≡ gap_on b → (IsExplainedSomehow P h (maybe_in (olds ++ rest)) → ⊥)
    → IsExplainedSomehow P h (maybe_in (olds ++ m ∷ rest)) → IsExplainedSomehow P h (maybe_in ((olds ++ g ∷ []) ++ rest))
came_needed P h olds rest m g b open_is seen is needed (recording, reads, x) =
    let here : maybe_in (olds ++ m ∷ rest) ≡ maybe_in olds ++ MaybeGap b ∷ maybe_in rest = maybe_append olds (m ∷ rest) ∙ ap (λ y. maybe_in olds ++ y ∷ maybe_in rest) open_is in
    let there : maybe_in ((olds ++ g ∷ []) ++ rest) ≡ maybe_in olds ++ Seen (gap_on b) ∷ maybe_in rest =
    ap maybe_in (append_assoc olds (g ∷ []) rest) ∙ maybe_append olds (g ∷ rest) ∙ ap (λ y. maybe_in olds ++ y ∷ maybe_in rest) (seen ∙ ap Seen is) in
    ⊎_elim
    (λ l. absurd (needed (recording, subst (λ ns. IsReadingOf ns recording) (sym (maybe_append olds rest)) l, x)))
    (λ l. (recording, subst (λ ns. IsReadingOf ns recording) (sym there) l, x))
    (split_open (maybe_in olds) b (maybe_in rest) recording (subst (λ ns. IsReadingOf ns recording) here reads))

pub one_settled : (P : Description) (h : List Event) (ms front rest olds news : List Marked) (m : Marked) → SettledSoFar P h ms front (m ∷ rest) olds → SettlesOne P h m rest olds news → SettledSoFar P h ms (front ++ m ∷ []) rest news
one_settled P h ms front rest olds news m i (inl (seen, grown)) =
    let here : maybe_in (front ++ m ∷ []) ≡ maybe_in front ++ Seen (masked m) ∷ [] = maybe_append front (m ∷ []) ∙ ap (λ y. maybe_in front ++ y ∷ []) seen in
    subst (SettledSoFar P h ms (front ++ m ∷ []) rest) (sym grown) (record {
      seen = seen_more olds m i.seen seen;
      reads = subst (λ l. IsReadingOf l (masked_in (olds ++ m ∷ []))) (sym here) (subst (IsReadingOf (maybe_in front ++ Seen (masked m) ∷ [])) (sym (masked_append olds (m ∷ []))) (read_seen (maybe_in front) (masked m) (masked_in olds) i.reads));
      keeps = λ x. subst (λ l. IsExplainedSomehow P h (maybe_in l)) (sym (append_assoc olds (m ∷ []) rest)) (i.keeps x);
    })
one_settled P h ms front rest olds news m i (inr (b, is, inl (same, explained))) =
    let here : maybe_in (front ++ m ∷ []) ≡ maybe_in front ++ MaybeGap b ∷ [] = maybe_append front (m ∷ []) ∙ ap (λ y. maybe_in front ++ y ∷ []) is in
    subst (SettledSoFar P h ms (front ++ m ∷ []) rest) (sym same) (record {
      seen = i.seen;
      reads = subst (λ l. IsReadingOf l (masked_in olds)) (sym here) (left_open (maybe_in front) b (masked_in olds) i.reads);
      keeps = λ x. explained;
    })
one_settled P h ms front rest olds news m i (inr (b, is, inr c)) =
    let here : maybe_in (front ++ m ∷ []) ≡ maybe_in front ++ MaybeGap b ∷ [] = maybe_append front (m ∷ []) ∙ ap (λ y. maybe_in front ++ y ∷ []) is in
    let there : masked_in (olds ++ c.gap ∷ []) ≡ masked_in olds ++ gap_on b ∷ [] = masked_append olds (c.gap ∷ []) ∙ ap (λ y. masked_in olds ++ y ∷ []) c.is in
    subst (SettledSoFar P h ms (front ++ m ∷ []) rest) (sym c.behind) (record {
      seen = seen_more olds c.gap i.seen c.seen;
      reads = subst (λ l. IsReadingOf l (masked_in (olds ++ c.gap ∷ []))) (sym here) (subst (IsReadingOf (maybe_in front ++ MaybeGap b ∷ [])) (sym there) (came_open (maybe_in front) b (masked_in olds) i.reads));
      keeps = λ x. came_needed P h olds rest m c.gap b is c.seen c.is c.needed (i.keeps x);
    })

pub none_left : (ms : List Marked) (n : ℕ) → length ms ≤ n → drop n ms ≡ []
none_left [] zero few = refl
none_left [] (suc n) few = refl
none_left (m ∷ ms) zero few = absurd (omega (arith, few))
none_left (m ∷ ms) (suc n) few = none_left ms n (omega (arith, few))

pub all_settled : (P : Description) (h : List Event) (ms settled : List Marked) → SettledSoFar P h ms ms [] settled → IsSettled P h ms settled
all_settled P h ms settled i = record {
  seen = i.seen;
  reads = i.reads;
  explained = λ x.
      (whole_reading (IsExplainedAfter P h) (masked_in settled)).0
      (subst (ExplainsReading (IsExplainedAfter P h)) (all_seen settled i.seen) (subst (λ l. IsExplainedSomehow P h (maybe_in l)) (append-nil settled) (i.keeps x)));
}
