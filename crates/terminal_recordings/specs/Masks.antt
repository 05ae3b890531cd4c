-- A recording that leaves some data words open, and when a description explains it.
use Rattle.std.specs.Prelude.{◌≡◌, ℕ, ◌≤◌, Bool, true, false, ◌↔◌, Option, Some, List, [], ◌∷◌, map, take}
use Rattle.bus_word.specs.declared.word.Kind.TheVariants.{Dat}
use Rattle.bus_word.specs.declared.cell.Cell.TheVariants.{OwnMode}
use Rattle.bus_word.specs.Mode as mode
use Rattle.bus_legal.specs.Description.{Description}
use Rattle.terminal_rules.specs.declared.event.Event.{Event}
use Rattle.terminal_rules.specs.Out.{Sending}
use Rattle.terminal_recordings.specs.Recordings.{Sighting, IsExplainedAfter, IsRecording}
use Rattle.terminal_recordings.specs.Completion.{shown_from}
use Rattle.terminal_recordings.specs.Later.{IsExplainedLater, BeginsAfresh, ShutDown, shut_history}

-- what is seen at one time, where a data word that is sent may be left open: then any may stand in its place
pub record MaskedSighting : Type 0 where
  pub sighting : Sighting
  pub any_word : Bool

-- both are data words on the same bus
pub record AreDataWords (s t : Sending) : Type 0 where
  pub bus : s.bus ≡ t.bus
  pub first : s.kind ≡ Dat
  pub second : t.kind ≡ Dat

-- a word that is sent, or none, is as it is stated, or a data word where any may be
abbrev pub FitsWord : Bool → Option Sending → Option Sending → Type 0
FitsWord false stated sent = sent ≡ stated
FitsWord true (Some stated) (Some sent) = AreDataWords stated sent
FitsWord true _ _ = ⊥

pub record FitsSighting (m : MaskedSighting) (s : Sighting) : Type 0 where
  pub event : s.event ≡ m.sighting.event
  pub sent : FitsWord m.any_word m.sighting.sent s.sent

-- a recording is one of those that are stated
abbrev pub FitsMasked : List MaskedSighting → List Sighting → Type 0
FitsMasked [] [] = Unit {0}
FitsMasked (m ∷ ms) (s ∷ recording) = FitsSighting m s × FitsMasked ms recording
FitsMasked _ _ = ⊥

-- the one that has the words which stand where any may be
abbrev pub unmasked : List MaskedSighting → List Sighting
unmasked ms = map (λ m. m.sighting) ms

-- one of those that are stated is explained
abbrev pub ExplainsSome : (List Sighting → Type 0) → List MaskedSighting → Type 0
ExplainsSome explains ms = (recording : List Sighting) × FitsMasked ms recording × explains recording

-- One of the recordings that are stated is explained exactly if what is shown of any of them is one of them. The same holds of each front. So
-- it does of one that begins afresh, later than power-up, after one of the four beginnings.
pub record MaskLaw : Type 0 where
  pub decided : (P : Description) (h : List Event) (ms : List MaskedSighting) → P.address ≤ 30 → IsRecording (unmasked ms) →
      ExplainsSome (IsExplainedAfter P h) ms ↔ FitsMasked ms (shown_from P h (unmasked ms))
  pub first : (P : Description) (h : List Event) (ms : List MaskedSighting) (n : ℕ) → P.address ≤ 30 → IsRecording (unmasked ms) →
      ExplainsSome (IsExplainedAfter P h) (take n ms) ↔ FitsMasked (take n ms) (take n (shown_from P h (unmasked ms)))
  pub later : (P : Description) (ms : List MaskedSighting) → P.address ≤ 30 → P.legal (OwnMode mode.shutdown) ≡ true → IsRecording (unmasked ms) → BeginsAfresh P (unmasked ms) →
      ExplainsSome (IsExplainedLater P) ms ↔ ((shut : ShutDown) × ExplainsSome (IsExplainedAfter P (shut_history P shut)) ms)
