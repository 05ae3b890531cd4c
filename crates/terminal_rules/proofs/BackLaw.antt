-- What looking back gives after one event more.
use Rattle.std.proofs.Common.{◌≡◌, ℕ, true, false, if◌then◌else◌, Option, Some, None, List, [], ◌∷◌, refl}
use Rattle.bus_word.specs.declared.word.Bus.{Bus}
use Rattle.bus_legal.specs.Description.{Description}
use Rattle.terminal_rules.specs.declared.event.Flag.{Flag}
use Rattle.terminal_rules.specs.LookBack.{latest, or_else, since}
use Rattle.terminal_rules.specs.History.{Noted}
use Rattle.terminal_rules.specs.Flags.{flag_set, flag_now}
use Rattle.terminal_rules.specs.SinceReset.{is_reset, since_reset, inhibits, inhibited_now, shuts, off_now, vector_word_set, vector_now, bit_word_set, bit_now, held_set, held_now, recorded_by, start_bits, last_now}
use Rattle.terminal_rules.specs.Steps.{unless_reset}

-- the latest answer, or that of the newest element
pub newest : {Y : Type 0} (f : Noted → Option Y) (d : Y) (p : Noted) (h : List Noted) → or_else (latest f (p ∷ h)) d ≡ or_else (f p) (or_else (latest f h) d)
newest {Y} f d p h = elim (f p) as (λ o. or_else (elim o [ None ↦ latest f h | Some y ↦ Some y ]) d ≡ or_else o (or_else (latest f h) d)) [ None ↦ refl | Some y ↦ refl ]

-- the latest answer since reset: after a reset the first value again, else what the newest element says, else what was
pub recent : {Y : Type 0} (f : Noted → Option Y) (d : Y) (p : Noted) (h : List Noted) →
    or_else (latest f (since_reset (p ∷ h))) d ≡ unless_reset (is_reset p) d (f p) (or_else (latest f (since_reset h)) d)
recent {Y} f d p h =
    elim (is_reset p) as (λ r. or_else (latest f (if r then [] else p ∷ since is_reset h)) d ≡ (if r then d else or_else (f p) (or_else (latest f (since is_reset h)) d))) [ true ↦ refl | false ↦ newest f d p (since is_reset h) ]

pub flag_step : (f : Flag) (p : Noted) (h : List Noted) → flag_now (p ∷ h) f ≡ or_else (flag_set f p.event) (flag_now h f)
flag_step f p h = newest (λ p. flag_set f p.event) false p h

pub inhibited_step : (p : Noted) (h : List Noted) → inhibited_now (p ∷ h) ≡ unless_reset (is_reset p) false (inhibits p) (inhibited_now h)
inhibited_step p h = recent inhibits false p h

pub off_step : (b : Bus) (p : Noted) (h : List Noted) → off_now (p ∷ h) b ≡ unless_reset (is_reset p) false (shuts b p) (off_now h b)
off_step b p h = recent (shuts b) false p h

pub vector_step : (P : Description) (p : Noted) (h : List Noted) → vector_now P (p ∷ h) ≡ unless_reset (is_reset p) P.vector (vector_word_set p.event) (vector_now P h)
vector_step P p h = recent (λ p. vector_word_set p.event) P.vector p h

pub bit_step : (P : Description) (p : Noted) (h : List Noted) → bit_now P (p ∷ h) ≡ unless_reset (is_reset p) P.bit (bit_word_set p.event) (bit_now P h)
bit_step P p h = recent (λ p. bit_word_set p.event) P.bit p h

pub held_step : (P : Description) (s i : ℕ) (p : Noted) (h : List Noted) → held_now P (p ∷ h) s i ≡ unless_reset (is_reset p) (P.initial s i) (held_set P s i p) (held_now P h s i)
held_step P s i p h = recent (held_set P s i) (P.initial s i) p h

pub last_step : (p : Noted) (h : List Noted) → last_now (p ∷ h) ≡ unless_reset (is_reset p) 0 (recorded_by (start_bits p)) (last_now h)
last_step p h = recent (λ p. recorded_by (start_bits p)) 0 p h
