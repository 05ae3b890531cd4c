-- The kept status after one event more.
use Rattle.std.proofs.Common.{◌≡◌, Bool, true, false, ◌||◌, if◌then◌else◌, Option, Some, None, List, [], ◌∷◌, refl, ap, ◌∙◌}
use Rattle.bus_word.specs.declared.status.StatusParts.{StatusParts}
use Rattle.bus_legal.specs.Description.{Description}
use Rattle.terminal_rules.specs.LookBack.{or_else, some, latest_with, since_with}
use Rattle.terminal_rules.specs.History.{Noted, Turn, Ending, Nothing, Badly, Illegal, Blocked, Done}
use Rattle.terminal_rules.specs.SinceReset.{start_bits, resets_by_broadcast, resets_in_silence, resets_in_slot, resets, is_reset}
use Rattle.terminal_rules.specs.Status.{no_parts, with_error_if, resets_at_end, kept_by_end, kept_by_slot, kept_by_start, later_or, adds_error, kept_set, kept_now}
use Rattle.terminal_rules.specs.Steps.{reset_first, kept_after}

-- message error that is added twice
twice : (a b : Bool) (s : StatusParts) → with_error_if (a || b) s ≡ with_error_if a (with_error_if b s)
twice true true s = refl
twice true false s = refl
twice false b s = refl

step_by : (P : Description) (p : Noted) (h : List Noted) (o : Option StatusParts) →
    with_error_if (some (λ p. adds_error P p.ends) (elim o [ None ↦ p ∷ since_with (kept_set P) h | Some y ↦ [] ])) (or_else (elim o [ None ↦ latest_with (kept_set P) h | Some y ↦ Some y ]) no_parts)
    ≡ kept_after o (adds_error P p.ends) (kept_now P h)
step_by P p h None = twice (adds_error P p.ends) (some (λ p. adds_error P p.ends) (since_with (kept_set P) h)) (or_else (latest_with (kept_set P) h) no_parts)
step_by P p h (Some s) = refl

-- the three cases of a reset at once
at_once : (b s l : Bool) (k : Option StatusParts) → later_or (if l then Some no_parts else None) (if b || s then Some no_parts else k) ≡ reset_first (b || (s || l)) k
at_once true true true k = refl
at_once true true false k = refl
at_once true false true k = refl
at_once true false false k = refl
at_once false true true k = refl
at_once false true false k = refl
at_once false false true k = refl
at_once false false false k = refl

reset_or_end : (P : Description) (h : List Noted) (turn : Turn) (x : Ending) →
    later_or (kept_by_slot turn) (kept_by_end P h (resets_at_end turn x) x) ≡ reset_first (resets turn x) (kept_by_end P h false x)
reset_or_end P h turn Nothing = at_once false false (resets_in_slot turn) (kept_by_end P h false Nothing)
reset_or_end P h turn (Badly c) = at_once false false (resets_in_slot turn) (kept_by_end P h false (Badly c))
reset_or_end P h turn (Illegal c) = at_once false false (resets_in_slot turn) (kept_by_end P h false (Illegal c))
reset_or_end P h turn (Blocked c cell) = at_once false false (resets_in_slot turn) (kept_by_end P h false (Blocked c cell))
reset_or_end P h turn (Done c cell ds) =
    at_once (resets_by_broadcast (Done c cell ds)) (resets_in_silence turn (Done c cell ds)) (resets_in_slot turn) (kept_by_end P h false (Done c cell ds))

-- what the event sets, or the kept status before it, with message error where the event adds that
pub kept_step : (P : Description) (p : Noted) (h : List Noted) →
    kept_now P (p ∷ h) ≡ kept_after (later_or (kept_by_start P (start_bits p)) (reset_first (is_reset p) (kept_by_end P h false p.ends))) (adds_error P p.ends) (kept_now P h)
kept_step P p h =
    step_by P p h (kept_set P p h)
    ∙ ap (λ o. kept_after (later_or (kept_by_start P (start_bits p)) o) (adds_error P p.ends) (kept_now P h)) (reset_or_end P h p.turn p.ends)
