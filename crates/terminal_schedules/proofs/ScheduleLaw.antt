-- Entries of a schedule end well in any order.
use Rattle.std.proofs.Common.{◌≡◌, ℕ, ◌≤◌, Bool, true, false, ◌&&◌, ◌==◌, if◌then◌else◌, Some, None, List, [], ◌∷◌, refl, ap, ◌∙◌, subst}
use Rattle.bus_legal.specs.Description.{Description}
use Rattle.terminal_rules.specs.declared.event.Event.{Event}
use Rattle.terminal_rules.specs.declared.event.Event.TheVariants.{Word, Noise, Gap, Write, Vector, Bit, Flag as FlagIs, Slot}
use Rattle.terminal_rules.specs.declared.event.Flag.TheVariants.{Busy}
use Rattle.terminal_rules.specs.Flags.{same_flag}
use Rattle.terminal_rules.specs.LookBack.{or_else}
use Rattle.terminal_rules.specs.Open.{Idle}
use Rattle.terminal_rules.specs.Out.{Out, outs_from}
use Rattle.terminal_bus.specs.declared.event.BusEvent.TheVariants.{Subsystem}
use Rattle.terminal_bus.specs.Members.{Member, events_for, after_events, play, powered_up}
use Rattle.terminal_bus.specs.Discipline.{comes_from_subsystem}
use Rattle.terminal_bus.specs.Lists.{Each}
use Rattle.terminal_bus.specs.OneSpeaker.{AddressesDiffer}
use Rattle.terminal_bus.specs.Transfer.{actions}
use Rattle.terminal_schedules.specs.Schedule.{EndsAsAlone, IsClearIf}
use Rattle.terminal_schedules.specs.Formats.{EndsWell}
use Rattle.terminal_schedules.specs.Transfers.{IsTransferred}
use Rattle.terminal_schedules.specs.Entries.{ScheduleEntry, One, Between, Happens, Any, entry_events, sets_busy, CanStand, IsOnlyTaken, EntryEndsWell, EachEndsWell, ScheduleLaw}
use Rattle.terminal_schedules.proofs.Step.{shown, shown_next}
use Rattle.terminal_schedules.proofs.Twins.{each_from, each_map}
use Rattle.terminal_schedules.proofs.Rests.{resting}
use Rattle.terminal_schedules.proofs.Law.{descriptions, ends_as_alone, play_same, power_same, power_clear}
use Rattle.terminal_schedules.proofs.FormatsLaw.{clear_rests, rests_clear, apart_of, ends_well, no_more}
use Rattle.terminal_schedules.proofs.TransfersLaw.{transferred}

-- an event of the subsystem that does not set busy
busy_off : (t v : Bool) → t && v ≡ false → or_else (if t then Some v else None) false ≡ false
busy_off true v e = e
busy_off false v e = refl

subsystem_rests : (z : Bool) (P : Description) (h : List Event) (x : Event) → comes_from_subsystem x ≡ true → sets_busy x ≡ false → shown z P h ≡ resting None → shown z P (x ∷ h) ≡ resting None
subsystem_rests z P h (Word b w) c n s = cc
subsystem_rests z P h (Noise b) c n s = cc
subsystem_rests z P h (Gap b) c n s = cc
subsystem_rests z P h (Write q v) c n s = shown_next z P h (Write q v) (resting None) (resting None) tt s refl refl
subsystem_rests z P h (Vector v) c n s = shown_next z P h (Vector v) (resting None) (resting None) tt s refl refl
subsystem_rests z P h (Bit v) c n s = shown_next z P h (Bit v) (resting None) (resting None) tt s refl refl
subsystem_rests z P h (FlagIs f v) c n s =
    shown_next z P h (FlagIs f v) (resting None) (resting None) tt s (λ j. record { message = λ b. Idle; heard = λ b. false; reply = None; off = λ b. false; busy = busy_off (same_flag Busy f) v n j; error = false }) refl
subsystem_rests z P h Slot c n s = cc

subsystem_silent : (P : Description) (h : List Event) (x : Event) → comes_from_subsystem x ≡ true → (let none : List Out = [] in actions (outs_from P h (x ∷ [])) ≡ none)
subsystem_silent P h (Word b w) c = cc
subsystem_silent P h (Noise b) c = cc
subsystem_silent P h (Gap b) c = cc
subsystem_silent P h (Write q v) c = refl
subsystem_silent P h (Vector v) c = refl
subsystem_silent P h (Bit v) c = refl
subsystem_silent P h (FlagIs f v) c = refl
subsystem_silent P h Slot c = cc

taken : (z : Bool) (ms : List Member) (a : ℕ) (x : Event) → comes_from_subsystem x ≡ true → sets_busy x ≡ false → Each (IsClearIf z) ms → IsOnlyTaken z ms (Subsystem a x ∷ [])
taken z ms a x c n clear = record {
  answers = λ m h. (ap actions (no_more (outs_from m.description m.history (if m.description.address == a then x ∷ [] else []))) ∙ by_answer m (m.description.address == a));
  clear = each_map (IsClearIf z) (λ m. after_events (events_for ms (Subsystem a x) m) m) ms
      (each_from (IsClearIf z) (λ m. IsClearIf z (after_events (events_for ms (Subsystem a x) m) m)) ms (λ m h k. by_address m k (m.description.address == a)) clear);
}
  where
    by_answer : (m : Member) (t : Bool) → (let none : List Out = [] in actions (outs_from m.description m.history (if t then x ∷ [] else [])) ≡ none)
    by_answer m true = subsystem_silent m.description m.history x c
    by_answer m false = refl

    by_address : (m : Member) → IsClearIf z m → (t : Bool) → IsClearIf z (after_events (if t then x ∷ [] else []) m)
    by_address m k true = rests_clear z (after_events (x ∷ []) m) (subsystem_rests z m.description m.history x c n (clear_rests z m k))
    by_address m k false = k

record Ends (z : Bool) (Ps : List Description) (ms : List Member) (x : ScheduleEntry) : Type 0 where
  pub well : EntryEndsWell z Ps ms x
  pub clear : Each (IsClearIf z) (play ms (entry_events x))

entry_ends : (z : Bool) (ms : List Member) (x : ScheduleEntry) → AddressesDiffer (descriptions ms) → Each (λ P. P.address ≤ 30) (descriptions ms) → CanStand z (descriptions ms) x → Each (IsClearIf z) ms → Ends z (descriptions ms) ms x
entry_ends z ms (One x) d l s c = let e : EndsWell z ms x = ends_well z ms x (apart_of ms d l) s c in record { well = e; clear = e.clear }
entry_ends z ms (Between x) d l s c = let e : IsTransferred z ms x = transferred z ms x (apart_of ms d l) s c in record { well = e; clear = e.clear }
entry_ends z ms (Happens a x) d l s c = let e : IsOnlyTaken z ms (Subsystem a x ∷ []) = taken z ms a x s.0 s.1 c in record { well = e; clear = e.clear }
entry_ends z ms (Any xs) d l s c = let e : EndsAsAlone z (descriptions ms) ms xs = ends_as_alone z ms xs d l c s.leaves s.asks in record { well = e; clear = e.clear }

each_ends : (z : Bool) (Ps : List Description) (ms : List Member) (entries : List ScheduleEntry) → AddressesDiffer Ps → Each (λ P. P.address ≤ 30) Ps → descriptions ms ≡ Ps → Each (IsClearIf z) ms → Each (CanStand z Ps) entries →
    EachEndsWell z Ps ms entries
each_ends z Ps ms [] differ low same clear stand = tt
each_ends z Ps ms (x ∷ entries) differ low same clear stand =
    let ends : Ends z Ps ms x =
    subst (λ Qs. AddressesDiffer Qs → Each (λ P. P.address ≤ 30) Qs → CanStand z Qs x → Ends z Qs ms x) same (λ d l s. entry_ends z ms x d l s clear) differ low stand.0 in
    (ends.well, each_ends z Ps (play ms (entry_events x)) entries differ low (play_same ms (entry_events x) ∙ same) ends.clear stand.1)

pub schedule_law : ScheduleLaw
schedule_law z Ps entries differ low stand = each_ends z Ps (powered_up Ps) entries differ low (power_same Ps) (power_clear z Ps) stand
