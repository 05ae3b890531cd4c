use Rattle.std.proofs.Common.{◌≡◌, ℕ, ◌≤◌, ◌⊎◌, inl, inr, Bool, not, ◌&&◌, Option, List, [], ◌∷◌, ◌++◌, map, true, false, refl, sym, subst, arith}
use Rattle.bus_word.specs.declared.word.Bus.{Bus}
use Rattle.bus_word.specs.declared.cell.Cell.TheVariants.{OwnReceive}
use Rattle.bus_legal.specs.Description.{Description}
use Rattle.terminal_rules.specs.Out.{Sending}
use Rattle.terminal_rules.specs.WorkedExamples.Words.{Step, five, steps_of}
use Rattle.terminal_recordings.specs.Recordings.{Sighting, IsExplainedAfter}
use Rattle.terminal_recordings.specs.Completion.{shown_of}
use Rattle.terminal_recordings.specs.RecordingRows.{recording_of}
use Rattle.terminal_recordings.specs.MaybeGaps.{MaybeSighting, Seen, MaybeGap, gap_on, IsReadingOf}
use Rattle.terminal_recordings.specs.MaybeRows.{closed_sighting, ExplainsSomehow, DoesNotExplainSomehow, waiting_transfer}
use Rattle.terminal_recordings.specs.Masks.{MaskedSighting, FitsWord, FitsMasked, unmasked, ExplainsSome}
use Rattle.terminal_recordings.proofs.MaskLaw.{mask_law}
use Rattle.terminal_recordings.proofs.Tests.{is_recording, is_recording_law, bits_sent, bits_of, same_bits, same_or}
use Rattle.terminal_recordings.proofs.laws.maybe_rows.Goals as goal

-- the two readings
after_seen : (front : List MaskedSighting) (ms : List MaybeSighting) (rest : List MaskedSighting) → IsReadingOf ms rest → IsReadingOf (map Seen front ++ ms) (front ++ rest)
after_seen [] ms rest x = x
after_seen (s ∷ front) ms rest x = (refl, after_seen front ms rest x)

all_seen : (rest : List MaskedSighting) → IsReadingOf (map Seen rest) rest
all_seen [] = refl
all_seen (s ∷ rest) = (refl, all_seen rest)

only_seen : (rest recording : List MaskedSighting) → IsReadingOf (map Seen rest) recording → recording ≡ rest
only_seen [] recording x = x
only_seen (s ∷ rest) [] x = absurd x
only_seen (s ∷ rest) (t ∷ recording) (p, x) = λ j. p j ∷ only_seen rest recording x j

two_readings : (front : List MaskedSighting) (b : Bus) (rest recording : List MaskedSighting) → IsReadingOf (map Seen front ++ MaybeGap b ∷ map Seen rest) recording →
    (recording ≡ front ++ rest) ⊎ (recording ≡ front ++ gap_on b ∷ rest)
two_readings [] b rest recording (inl x) = inl (only_seen rest recording x)
two_readings [] b rest [] (inr x) = absurd x
two_readings [] b rest (t ∷ recording) (inr (p, x)) = inr (λ j. p j ∷ only_seen rest recording x j)
two_readings (s ∷ front) b rest [] x = absurd x
two_readings (s ∷ front) b rest (t ∷ recording) (p, x) = elim (two_readings front b rest recording x) [ inl e ↦ inl (λ j. p j ∷ e j) | inr e ↦ inr (λ j. p j ∷ e j) ]

abbrev seen : List (List Step) → List MaskedSighting
seen lines = map closed_sighting (recording_of (steps_of lines))

abbrev without : List (List Step) → Bus → List (List Step) → List MaskedSighting
without before b after = seen before ++ seen after

abbrev with_gap : List (List Step) → Bus → List (List Step) → List MaskedSighting
with_gap before b after = seen before ++ gap_on b ∷ seen after

-- what is shown of them
abbrev shown : Description → List MaskedSighting → List Sighting
shown P ms = shown_of P (unmasked ms)

fits_itself : (xs : List Sighting) → FitsMasked (map closed_sighting xs) xs
fits_itself [] = tt
fits_itself (x ∷ xs) = (record { event = refl; sent = refl }, fits_itself xs)

shown_fits : (ms : List MaskedSighting) (xs shows : List Sighting) → ms ≡ map closed_sighting xs → shows ≡ xs → FitsMasked ms shows
shown_fits ms xs shows e f = subst (λ (l : List MaskedSighting). FitsMasked l shows) (sym e) (subst (FitsMasked (map closed_sighting xs)) (sym f) (fits_itself xs))

abbrev all_whole : List MaskedSighting → Bool
all_whole [] = true
all_whole (m ∷ ms) = not m.any_word && all_whole ms

by_any : (any w : Bool) (stated sent : Option Sending) (xs ys : List (Option ℕ)) → not any && w ≡ true → FitsWord any stated sent → (w ≡ true → xs ≡ ys) → bits_sent sent ∷ xs ≡ bits_sent stated ∷ ys
by_any true w stated sent xs ys e g rest = cc
by_any false w stated sent xs ys e g rest = λ j. bits_sent (g j) ∷ rest e j

fits_bits : (ms : List MaskedSighting) (shows : List Sighting) → all_whole ms ≡ true → FitsMasked ms shows → bits_of shows ≡ bits_of (unmasked ms)
fits_bits [] [] w f = refl
fits_bits [] (s ∷ shows) w f = absurd f
fits_bits (m ∷ ms) [] w f = absurd f
fits_bits (m ∷ ms) (s ∷ shows) w (f, fs) =
    by_any m.any_word (all_whole ms) m.sighting.sent s.sent (bits_of shows) (bits_of (unmasked ms)) w f.sent (λ v. fits_bits ms shows v fs)

explains_with : (P : Description) (before : List (List Step)) (b : Bus) (after : List (List Step)) → P.address ≤ 30 → is_recording (unmasked (with_gap before b after)) ≡ true →
    with_gap before b after ≡ map closed_sighting (unmasked (with_gap before b after)) → shown P (with_gap before b after) ≡ unmasked (with_gap before b after) → ExplainsSomehow P before b after
unfolding ExplainsSomehow
explains_with P before b after low r w e = (
  with_gap before b after,
  after_seen (seen before) (MaybeGap b ∷ map Seen (seen after)) (gap_on b ∷ seen after) (inr (refl, all_seen (seen after))),
  (mask_law.decided P [] (with_gap before b after) low (is_recording_law (unmasked (with_gap before b after)) r)).1 (shown_fits (with_gap before b after) (unmasked (with_gap before b after)) (shown P (with_gap before b after)) w e),
)

explains_without : (P : Description) (before : List (List Step)) (b : Bus) (after : List (List Step)) → P.address ≤ 30 → is_recording (unmasked (without before b after)) ≡ true →
    without before b after ≡ map closed_sighting (unmasked (without before b after)) → shown P (without before b after) ≡ unmasked (without before b after) → ExplainsSomehow P before b after
unfolding ExplainsSomehow
explains_without P before b after low r w e = (
  without before b after,
  after_seen (seen before) (MaybeGap b ∷ map Seen (seen after)) (seen after) (inl (all_seen (seen after))),
  (mask_law.decided P [] (without before b after) low (is_recording_law (unmasked (without before b after)) r)).1 (shown_fits (without before b after) (unmasked (without before b after)) (shown P (without before b after)) w e),
)

-- what is shown of this reading is other than it
record IsOther (P : Description) (ms : List MaskedSighting) : Type 0 where
  pub recording : is_recording (unmasked ms) ≡ true
  pub whole : all_whole ms ≡ true
  pub other : same_bits (bits_of (shown P ms)) (bits_of (unmasked ms)) ≡ false

is_not : (P : Description) → P.address ≤ 30 → (ms : List MaskedSighting) → IsOther P ms → ExplainsSome (IsExplainedAfter P []) ms → ⊥
is_not P low ms o x =
    same_or (bits_of (shown P ms)) (bits_of (unmasked ms)) (fits_bits ms (shown P ms) o.whole ((mask_law.decided P [] ms low (is_recording_law (unmasked ms) o.recording)).0 x)) o.other

explains_neither : (P : Description) (before : List (List Step)) (b : Bus) (after : List (List Step)) → P.address ≤ 30 → IsOther P (without before b after) → IsOther P (with_gap before b after) → DoesNotExplainSomehow P before b after
unfolding DoesNotExplainSomehow
explains_neither P before b after low x y e =
    elim (two_readings (seen before) b (seen after) e.0 e.1) [
      | inl q ↦ is_not P low (without before b after) x (subst (λ (r : List MaskedSighting). ExplainsSome (IsExplainedAfter P []) r) q e.2)
      | inr q ↦ is_not P low (with_gap before b after) y (subst (λ (r : List MaskedSighting). ExplainsSome (IsExplainedAfter P []) r) q e.2)
    ]

pub returns : goal.returns
returns c = record {
  gave_up = explains_with (five (OwnReceive 1 2 ∷ [])) waiting_transfer _ _ (omega arith) refl refl refl;
  waited = explains_without (five (OwnReceive 1 2 ∷ [])) waiting_transfer _ _ (omega arith) refl refl refl;
  neither = explains_neither (five (OwnReceive 1 2 ∷ [])) waiting_transfer _ _ (omega arith) (record { recording = refl; whole = refl; other = refl }) (record { recording = refl; whole = refl; other = refl });
  both = explains_neither (five (OwnReceive 1 2 ∷ [])) waiting_transfer _ _ (omega arith) (record { recording = refl; whole = refl; other = refl }) (record { recording = refl; whole = refl; other = refl });
  other_bus = explains_neither (five (OwnReceive 1 2 ∷ [])) waiting_transfer _ _ (omega arith) (record { recording = refl; whole = refl; other = refl }) (record { recording = refl; whole = refl; other = refl });
  skips = refl;
  pauses = refl;
  not_counted = refl;
}
