-- A description that agrees where it can be asked for holds the same words for what can be transmitted.
use Rattle.std.proofs.Common.{◌≡◌, ℕ, ◌≤◌, Bool, true, false, ◌&&◌, ◌||◌, ◌==◌, if◌then◌else◌, Option, None, List, [], ◌∷◌, refl, ap, sym, ◌∙◌}
use Rattle.std.proofs.lemmas.Bool.{eqb-true}
use Rattle.std.proofs.Math.Bool.{or-true}
use Rattle.bus_word.specs.declared.cell.Cell.TheVariants.{OwnReceive, OwnTransmit, BroadReceive, OwnMode, BroadMode}
use Rattle.bus_word.specs.Cell.{is_data_place}
use Rattle.bus_legal.specs.Description.{Description}
use Rattle.bus_legal.specs.Reach.{transmits_at, receives_at}
use Rattle.terminal_rules.specs.History.{Noted, Ending, Nothing, Badly, Illegal, Blocked, Done}
use Rattle.terminal_rules.specs.SinceReset.{is_reset, nth_word, wrapped, written, either_word, held_now}
use Rattle.terminal_rules.specs.Steps.{unless_reset}
use Rattle.terminal_rules.proofs.BackLaw.{held_step}
use Rattle.terminal_rules.proofs.Reach.Heard.{DoesWhatItCan, AllDoWhatTheyCan}
use Rattle.terminal_rules.proofs.Reach.Agrees.{Agrees, addressed}

-- tests that need agree only behind another
gated : (w u t : Bool) (x : Option ℕ) → (t ≡ true → w ≡ u) → (if t && w then x else None) ≡ (if t && u then x else None)
gated w u true x f = ap (λ w. if w then x else None) (f refl)
gated w u false x f = refl

-- Words that were received at t are words that can be transmitted of s, where these are the same.
wrap_alike : (P R : Description) → Agrees P R → (s n t m : ℕ) → transmits_at P s n ≡ true → is_data_place s n ≡ true → receives_at P t m ≡ true → is_data_place t m ≡ true →
    (s == t) ≡ true → (t == R.wrap) ≡ (t == P.wrap)
wrap_alike P R a s n t m sent place received place_of_it e =
    let at : s ≡ t = eqb-true s t e in
    a.wrap t m n received place_of_it (ap (λ s. transmits_at P s n) (sym at) ∙ sent) (ap (λ s. is_data_place s n) (sym at) ∙ place)

wrapped_alike : (P R : Description) → Agrees P R → (s n i : ℕ) → transmits_at P s n ≡ true → is_data_place s n ≡ true → (x : Ending) → DoesWhatItCan P x → wrapped R.wrap s i x ≡ wrapped P.wrap s i x
wrapped_alike P R a s n i sent place Nothing can = refl
wrapped_alike P R a s n i sent place (Badly c) can = refl
wrapped_alike P R a s n i sent place (Illegal c) can = refl
wrapped_alike P R a s n i sent place (Blocked c cell) can = refl
wrapped_alike P R a s n i sent place (Done c (OwnTransmit t m) ds) can = refl
wrapped_alike P R a s n i sent place (Done c (OwnMode code) ds) can = refl
wrapped_alike P R a s n i sent place (Done c (BroadMode code) ds) can = refl
wrapped_alike P R a s n i sent place (Done c (OwnReceive t m) ds) can =
    gated (t == R.wrap) (t == P.wrap) (s == t) (nth_word i ds)
    (wrap_alike P R a s n t m sent place (ap (λ b. b || (P.broadcast && P.legal (BroadReceive t m))) can.legal) can.allowed)
wrapped_alike P R a s n i sent place (Done c (BroadReceive t m) ds) can =
    gated (t == R.wrap) (t == P.wrap) (s == t) (nth_word i ds)
    (wrap_alike P R a s n t m sent place
    ((λ j. P.legal (OwnReceive t m) || (can.heard j && can.legal j)) ∙ or-true (P.legal (OwnReceive t m)))
    can.allowed)

-- the words that a legal command makes the terminal transmit
pub held_alike : (P R : Description) → Agrees P R → (s n i : ℕ) → transmits_at P s n ≡ true → is_data_place s n ≡ true → 1 ≤ i → i ≤ n → (h : List Noted) → AllDoWhatTheyCan P h →
    held_now (addressed P R) h s i ≡ held_now P h s i
held_alike P R a s n i sent place low high [] all = a.initial s n i sent place low high
held_alike P R a s n i sent place low high (p ∷ h) (can, all) =
    held_step (addressed P R) s i p h
    ∙ ((λ j. unless_reset (is_reset p) (a.initial s n i sent place low high j) (either_word (written s i p.event) (wrapped_alike P R a s n i sent place p.ends can j)) (held_alike P R a s n i sent place low high h all j))
    ∙ sym (held_step P s i p h))
