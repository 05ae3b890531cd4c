-- The registers after one event more.
use Rattle.std.proofs.Common.{◌≡◌, ℕ, Bool, true, false, if◌then◌else◌, Option, Some, None, List, ◌∷◌, refl, ap, ◌∙◌}
use Rattle.bus_word.specs.declared.word.Bus.{Bus}
use Rattle.bus_word.specs.declared.word.Bus.TheVariants.{A, B}
use Rattle.bus_word.specs.declared.word.Raw.{Raw}
use Rattle.bus_word.specs.declared.status.StatusParts.{StatusParts}
use Rattle.bus_word.specs.declared.cell.Cell.TheVariants.{OwnReceive, OwnTransmit, BroadReceive, OwnMode, BroadMode}
use Rattle.bus_word.specs.Command.{is_broadcast}
use Rattle.bus_legal.specs.Description.{Description}
use Rattle.terminal_rules.specs.declared.event.Flag.TheVariants.{Service, Busy, Subsystem, Terminal}
use Rattle.terminal_rules.specs.declared.event.Event.TheVariants.{Word, Noise, Gap, Slot}
use Rattle.terminal_state.specs.declared.ended.Ended.{Ended}
use Rattle.terminal_state.specs.declared.ended.Ended.TheVariants.{Nothing as EndedNothing, Badly as EndedBadly, Illegal as EndedIllegal, Blocked as EndedBlocked, Done as EndedDone}
use Rattle.terminal_state.specs.declared.registers.Registers.{Registers}
use Rattle.terminal_state.specs.Ended.{ending_of}
use Rattle.terminal_rules.specs.History.{NoTurn, Noted, Ending, Nothing, Badly, Illegal, Blocked, Done}
use Rattle.terminal_rules.specs.Status.{spares, adds_error, reports_kept, no_parts, with_error_if, kept_by_start, kept_by_command, kept_by_end, later_or}
use Rattle.terminal_rules.specs.SinceReset.{start_bits, resets, is_reset, done_code}
use Rattle.terminal_state.specs.Standing.{fails}
use Rattle.terminal_state.specs.Registers.{registers_now, registers_after, kept_from, error_from, done_from, failed, failed_by, started, started_if, keeping, status_from, carried, settled, reset_if}
use Rattle.terminal_rules.specs.Steps.{reset_first, kept_after, resets_at_gap}
use Rattle.terminal_rules.proofs.KeptLaw.{kept_step}
use Rattle.terminal_rules.proofs.BackLaw.{flag_step, inhibited_step, off_step, vector_step, bit_step, last_step}

-- what an end sets the kept status to, from the registers
kept_from_law : (P : Description) (h : List Noted) (x : Ending) → kept_by_end P h false x ≡ kept_from P (registers_now P h) x
kept_from_law P h Nothing = refl
kept_from_law P h (Badly c) = refl
kept_from_law P h (Illegal c) = refl
kept_from_law P h (Blocked c cell) = refl
kept_from_law P h (Done c cell ds) = refl

-- all registers, one after the other
pub registers_law : (P : Description) (p : Noted) (h : List Noted) → registers_now P (p ∷ h) ≡ registers_after P p.event (is_reset p) p.starts p.ends (registers_now P h)
registers_law P p h =
    let kept = kept_step P p h ∙ ap (λ k. kept_after (later_or (kept_by_start P (start_bits p)) (reset_first (is_reset p) k)) (adds_error P p.ends) (registers_now P h).kept) (kept_from_law P h p.ends) in
    λ i. record {
      power_up = record { vector = P.vector; bit = P.bit };
      flags = record {
        service = flag_step Service p h i;
        busy = flag_step Busy p h i;
        subsystem = flag_step Subsystem p h i;
        terminal = flag_step Terminal p h i;
      };
      inhibited = inhibited_step p h i;
      off = record { a = off_step A p h i; b = off_step B p h i };
      vector = vector_step P p h i;
      bit = bit_step P p h i;
      last = last_step p h i;
      kept = kept i;
    }

abbrev with_kept : Registers → StatusParts → Registers
with_kept r k = record r { kept = k }

-- noise: it starts nothing, and ends a transfer in error, or nothing
pub noise_law : (P : Description) (f : Option ℕ) (b : Bus) (r : Registers) → registers_after P (Noise b) (resets NoTurn (fails f)) false (fails f) r ≡ failed_by P f r
noise_law P None b r = refl
noise_law P (Some c) b r =
    ap (with_kept r) (elim (spares P c) as (λ s. kept_after (if s then None else Some (error_from r c)) s r.kept ≡ (if s then with_error_if true r.kept else error_from r c)) [ true ↦ refl | false ↦ refl ])

started_kept : (k e : StatusParts) (c : ℕ) (a s : Bool) →
    kept_after (later_or (kept_by_command a c) (if s then None else Some e)) s k ≡ (if a then (if s then with_error_if true k else e) else record no_parts { broadcast = is_broadcast c })
started_kept k e c true true = refl
started_kept k e c true false = refl
started_kept k e c false s = refl

free_kept : (k : StatusParts) (c : ℕ) (a : Bool) →
    kept_after (later_or (kept_by_command a c) None) false k ≡ (if a then k else record no_parts { broadcast = is_broadcast c })
free_kept k c true = refl
free_kept k c false = refl

-- a word: it may end a transfer in error, and start a message after that
pub word_law : (P : Description) (f : Option ℕ) (b : Bus) (w : Raw) (s : Bool) (r : Registers) →
    registers_after P (Word b w) (resets NoTurn (fails f)) s (fails f) r ≡ started_if s (spares P w.bits) w.bits (failed_by P f r)
word_law P None b w false r = refl
word_law P (Some c) b w false r = noise_law P (Some c) b r
word_law P None b w true r = ap (with_kept (started true w.bits r)) (free_kept r.kept w.bits (spares P w.bits))
word_law P (Some c) b w true r = ap (with_kept (started true w.bits r)) (started_kept r.kept (error_from r c) w.bits (spares P w.bits) (spares P c))

done_kept : (k d : StatusParts) (reports resets : Bool) →
    kept_after (reset_first resets (if reports then None else Some d)) false k ≡ (if resets then no_parts else (if reports then k else d))
done_kept k d true true = refl
done_kept k d true false = refl
done_kept k d false true = refl
done_kept k d false false = refl

bad_law : (P : Description) (c : ℕ) (b : Bus) (r : Registers) → registers_after P (Gap b) false false (Badly c) r ≡ failed (spares P c) c r
bad_law P c A r = noise_law P (Some c) A r
bad_law P c B r = noise_law P (Some c) B r

own_law : (P : Description) (c code : ℕ) (ds : List ℕ) (b : Bus) (begins : Bool) (r : Registers) →
    registers_after P (Gap b) (resets_at_gap begins (Done c (OwnMode code) ds)) false (Done c (OwnMode code) ds) r ≡ settled P.accept false b (resets_at_gap begins (Done c (OwnMode code) ds)) (Done c (OwnMode code) ds) r
own_law P c code ds b begins r =
    ap (with_kept (settled P.accept false b (resets_at_gap begins (Done c (OwnMode code) ds)) (Done c (OwnMode code) ds) r))
    (done_kept r.kept (done_from P.accept r c (OwnMode code)) (reports_kept (OwnMode code)) (resets_at_gap begins (Done c (OwnMode code) ds)))

all_law : (P : Description) (c code : ℕ) (ds : List ℕ) (b : Bus) (begins : Bool) (r : Registers) →
    registers_after P (Gap b) (resets_at_gap begins (Done c (BroadMode code) ds)) false (Done c (BroadMode code) ds) r ≡ settled P.accept false b (resets_at_gap begins (Done c (BroadMode code) ds)) (Done c (BroadMode code) ds) r
all_law P c code ds b begins r =
    ap (with_kept (settled P.accept false b (resets_at_gap begins (Done c (BroadMode code) ds)) (Done c (BroadMode code) ds) r))
    (done_kept r.kept (done_from P.accept r c (BroadMode code)) false (resets_at_gap begins (Done c (BroadMode code) ds)))

-- a gap: it ends a message, or none
pub gap_law : (P : Description) (x : Ending) (b : Bus) (begins : Bool) (r : Registers) →
    registers_after P (Gap b) (resets_at_gap begins x) false x r ≡ settled P.accept (adds_error P x) b (resets_at_gap begins x) x r
gap_law P Nothing b begins r = refl
gap_law P (Badly c) b begins r = bad_law P c b r
gap_law P (Illegal c) b begins r = refl
gap_law P (Blocked c cell) b begins r = refl
gap_law P (Done c (OwnReceive s n) ds) b begins r = refl
gap_law P (Done c (OwnTransmit s n) ds) b begins r = refl
gap_law P (Done c (BroadReceive s n) ds) b begins r = refl
gap_law P (Done c (OwnMode code) ds) b begins r = own_law P c code ds b begins r
gap_law P (Done c (BroadMode code) ds) b begins r = all_law P c code ds b begins r

-- a slot, by whether it is a reset
pub slot_law : (P : Description) (reset : Bool) (r : Registers) → registers_after P Slot reset false Nothing r ≡ reset_if reset r
slot_law P true r = refl
slot_law P false r = refl

-- a gap that ended no message in error
pub settled_well : (accept spares : Bool) (b : Bus) (resets : Bool) (ended : Ended) (ds : List ℕ) (r u : Registers) → ((c : ℕ) → ended ≡ EndedBadly c → ⊥) →
    u ≡ carried b resets (done_code (ending_of ended ds)) (keeping (status_from accept r (ending_of ended ds)) r) →
    u ≡ settled accept spares b resets (ending_of ended ds) r
settled_well accept spares b resets EndedNothing ds r u n e = e
settled_well accept spares b resets (EndedBadly c) ds r u n e = absurd (n c refl)
settled_well accept spares b resets (EndedIllegal c) ds r u n e = e
settled_well accept spares b resets (EndedBlocked c cell) ds r u n e = e
settled_well accept spares b resets (EndedDone c cell) ds r u n e = e
