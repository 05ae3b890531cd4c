-- A description that agrees where it can be asked for keeps the same status.
use Rattle.std.proofs.Common.{◌≡◌, ℕ, Bool, true, false, ◌&&◌, ◌||◌, ◌==◌, if◌then◌else◌, Option, Some, None, List, [], ◌∷◌, is_some, refl, ap, sym, ◌∙◌}
use Rattle.std.proofs.lemmas.Bool.{eqb-true}
use Rattle.bus_word.specs.declared.cell.Cell.{Cell}
use Rattle.bus_word.specs.declared.cell.Cell.TheVariants.{OwnReceive, OwnTransmit, BroadReceive, OwnMode, BroadMode}
use Rattle.bus_word.specs.Mode.{mode_row}
use Rattle.bus_word.specs.Cell.{cell_of}
use Rattle.bus_legal.specs.Description.{Description}
use Rattle.terminal_rules.specs.History.{Noted, Ending, Nothing, Badly, Illegal, Blocked, Done}
use Rattle.terminal_rules.specs.SinceReset.{inhibited_now, start_bits, is_reset}
use Rattle.terminal_rules.specs.Status.{formed, formed_error, accepts, inhibited_after, formed_done, reports_kept, spares_kept, kept_by_end, kept_by_command, kept_by_start, later_or, adds_error, kept_now}
use Rattle.terminal_rules.specs.Steps.{reset_first, kept_after}
use Rattle.terminal_rules.proofs.KeptLaw.{kept_step}
use Rattle.terminal_rules.proofs.Reach.Heard.{DoesWhatItCan, AllDoWhatTheyCan}
use Rattle.terminal_rules.proofs.Reach.Agrees.{Agrees, addressed}

-- a code that passes a test is legal where the code of the test is
pub legal_at : (P : Description) (code n : ℕ) → P.legal (OwnMode code) ≡ true → (code == n) ≡ true → P.legal (OwnMode n) ≡ true
legal_at P code n l e = ap (λ k. P.legal (OwnMode k)) (sym (eqb-true code n e)) ∙ l

accepts_alike : (P R : Description) → Agrees P R → (cell : Cell) → P.legal cell ≡ true → accepts R.accept cell ≡ accepts P.accept cell
accepts_alike P R a (OwnReceive s n) l = refl
accepts_alike P R a (OwnTransmit s n) l = refl
accepts_alike P R a (BroadReceive s n) l = refl
accepts_alike P R a (BroadMode code) l = refl
accepts_alike P R a (OwnMode code) l = by_test (code == 0) refl
  where
    by_test : (t : Bool) → (code == 0) ≡ t → t && R.accept ≡ t && P.accept
    by_test true e = a.accept (legal_at P code 0 l e)
    by_test false e = refl

pub formed_done_alike : (P R : Description) → Agrees P R → (h : List Noted) (c : ℕ) (cell : Cell) → P.legal cell ≡ true → formed_done (addressed P R) h c cell ≡ formed_done P h c cell
formed_done_alike P R a h c cell l = ap (λ b. formed h c false b (inhibited_after (inhibited_now h) cell)) (accepts_alike P R a cell l)

-- own mode codes 2 and 18 are cells that some command has
reported_allowed : (code : ℕ) → (code == 2) || (code == 18) ≡ true → is_some (mode_row code) ≡ true
reported_allowed code e = by_first (code == 2) refl e
  where
    by_first : (t : Bool) → (code == 2) ≡ t → t || (code == 18) ≡ true → is_some (mode_row code) ≡ true
    by_first true x e = ap (λ k. is_some (mode_row k)) (eqb-true code 2 x)
    by_first false x e = ap (λ k. is_some (mode_row k)) (eqb-true code 18 e)

spares_alike : (P R : Description) → Agrees P R → (o : Option Cell) → spares_kept (addressed P R) o ≡ spares_kept P o
spares_alike P R a None = refl
spares_alike P R a (Some (OwnReceive s n)) = refl
spares_alike P R a (Some (OwnTransmit s n)) = refl
spares_alike P R a (Some (BroadReceive s n)) = refl
spares_alike P R a (Some (BroadMode code)) = refl
spares_alike P R a (Some (OwnMode code)) = by_test ((code == 2) || (code == 18)) refl
  where
    by_test : (t : Bool) → ((code == 2) || (code == 18)) ≡ t → t && R.legal (OwnMode code) ≡ t && P.legal (OwnMode code)
    by_test true e = a.legal (OwnMode code) refl (reported_allowed code e)
    by_test false e = refl

by_start_alike : (P R : Description) → Agrees P R → (o : Option ℕ) → kept_by_start (addressed P R) o ≡ kept_by_start P o
by_start_alike P R a None = refl
by_start_alike P R a (Some c) = ap (λ s. kept_by_command s c) (spares_alike P R a (cell_of c))

by_end_alike : (P R : Description) → Agrees P R → (h : List Noted) (x : Ending) → DoesWhatItCan P x → kept_by_end (addressed P R) h false x ≡ kept_by_end P h false x
by_end_alike P R a h Nothing can = refl
by_end_alike P R a h (Badly c) can = ap (λ s. if s then None else Some (formed_error h c)) (spares_alike P R a (cell_of c))
by_end_alike P R a h (Illegal c) can = refl
by_end_alike P R a h (Blocked c cell) can = refl
by_end_alike P R a h (Done c cell ds) can =
    ap (λ s. if reports_kept cell then None else Some s) (formed_done_alike P R a h c cell can.legal)

adds_alike : (P R : Description) → Agrees P R → (x : Ending) → adds_error (addressed P R) x ≡ adds_error P x
adds_alike P R a Nothing = refl
adds_alike P R a (Badly c) = spares_alike P R a (cell_of c)
adds_alike P R a _ = refl

pub kept_alike : (P R : Description) → Agrees P R → (h : List Noted) → AllDoWhatTheyCan P h → kept_now (addressed P R) h ≡ kept_now P h
kept_alike P R a [] all = refl
kept_alike P R a (p ∷ h) (can, all) =
    kept_step (addressed P R) p h
    ∙ ((λ j. kept_after (later_or (by_start_alike P R a (start_bits p) j) (reset_first (is_reset p) (by_end_alike P R a h p.ends can j))) (adds_alike P R a p.ends j) (kept_alike P R a h all j))
    ∙ sym (kept_step P p h))
