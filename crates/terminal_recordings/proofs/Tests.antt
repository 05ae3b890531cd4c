-- Tests of recordings.
use Rattle.std.proofs.Common.{◌≡◌, ℕ, ◌<◌, ◌^◌, Bool, true, false, ◌&&◌, ◌==◌, nat_lt, Option, Some, None, List, [], ◌∷◌, refl, ap, sym, ◌∙◌, arith, eq-eqb}
use Rattle.std.proofs.lemmas.Bool.{and_parts}
use Rattle.std.proofs.lemmas.Bool.Decides.{nat_tests}
use Rattle.terminal_rules.specs.declared.event.Event.{Event}
use Rattle.terminal_rules.specs.declared.event.Event.TheVariants.{Word, Noise, Gap, Write, Vector, Bit, Flag as FlagIs, Slot}
use Rattle.terminal_rules.specs.Same.{IsProper}
use Rattle.terminal_rules.specs.Out.{Sending}
use Rattle.terminal_recordings.specs.Recordings.{Sighting, is_seen, HasBits, IsSighting, IsRecording}
use Rattle.terminal_recordings.specs.Seen.{can_be_seen, can_be_sent}

small : (n : ℕ) → nat_lt n 65536 ≡ true → n < 2 ^ 16
small n e = grind (arith, nat_tests)

bits_small : (o : Option Sending) → can_be_sent o ≡ true → HasBits o
bits_small None e = tt
bits_small (Some s) e = small s.bits e

can_come : (e : Event) → can_be_seen e ≡ true → (is_seen e ≡ true) × IsProper e
can_come (Word b w) t = (refl, small w.bits t)
can_come (Noise b) t = (refl, tt)
can_come (Gap b) t = (refl, tt)
can_come Slot t = (refl, tt)
can_come (Write p v) t = cc
can_come (Vector v) t = cc
can_come (Bit v) t = cc
can_come (FlagIs f v) t = cc

pub is_sighting : (s : Sighting) → can_be_seen s.event ≡ true → can_be_sent s.sent ≡ true → IsSighting s
is_sighting s e b =
    let can : (is_seen s.event ≡ true) × IsProper s.event = can_come s.event e in
    record { seen = can.0; proper = can.1; bits = bits_small s.sent b }

abbrev pub is_recording : List Sighting → Bool
is_recording [] = true
is_recording (s ∷ later) = can_be_seen s.event && (can_be_sent s.sent && is_recording later)

pub is_recording_law : (recording : List Sighting) → is_recording recording ≡ true → IsRecording recording
is_recording_law [] e = tt
is_recording_law (s ∷ later) e =
    let p : (can_be_seen s.event ≡ true) × (can_be_sent s.sent && is_recording later ≡ true) = and_parts (can_be_seen s.event) _ e in
    let q : (can_be_sent s.sent ≡ true) × (is_recording later ≡ true) = and_parts (can_be_sent s.sent) _ p.1 in
    (is_sighting s p.0 q.0, is_recording_law later q.1)

-- the bits of what is sent
abbrev pub bits_sent : Option Sending → Option ℕ
bits_sent None = None
bits_sent (Some s) = Some s.bits

abbrev pub bits_of : List Sighting → List (Option ℕ)
bits_of [] = []
bits_of (s ∷ later) = bits_sent s.sent ∷ bits_of later

abbrev pub same_word : Option ℕ → Option ℕ → Bool
same_word None None = true
same_word (Some n) (Some m) = n == m
same_word _ _ = false

abbrev pub same_bits : List (Option ℕ) → List (Option ℕ) → Bool
same_bits [] [] = true
same_bits (x ∷ xs) (y ∷ ys) = same_word x y && same_bits xs ys
same_bits _ _ = false

same_word_itself : (x : Option ℕ) → same_word x x ≡ true
same_word_itself None = refl
same_word_itself (Some n) = eq-eqb n n refl

same_itself : (xs : List (Option ℕ)) → same_bits xs xs ≡ true
same_itself [] = refl
same_itself (x ∷ xs) = λ j. same_word_itself x j && same_itself xs j

pub same_or : (xs ys : List (Option ℕ)) → xs ≡ ys → same_bits xs ys ≡ false → ⊥
same_or xs ys e d = let wrong : true ≡ false = sym (same_itself xs) ∙ (ap (same_bits xs) e ∙ d) in cc
