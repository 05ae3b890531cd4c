-- What can't be reached changes no answer.
use Rattle.std.proofs.Common.{◌≡◌, ◌≤◌, ◌&&◌, cond, List, [], ◌∷◌, refl, ap, sym, ◌∙◌}
use Rattle.bus_legal.specs.Description.{Description}
use Rattle.bus_legal.specs.Reach.{reach}
use Rattle.bus_legal.proofs.Descriptions.{initial-reach, wrap-reach}
use Rattle.terminal_rules.specs.declared.event.Event.{Event}
use Rattle.terminal_rules.specs.Out.{out, outs_from, outs}
use Rattle.terminal_rules.specs.Same.{Same}
use Rattle.bus_word.proofs.Places.{place_above, place_count, place_from}
use Rattle.terminal_rules.proofs.Reach.Agrees.{Agrees}
use Rattle.terminal_rules.proofs.Reach.Answers.{out_alike}

-- what can be reached agrees where it can be asked for
reached_agrees : (P : Description) → Agrees P (reach P)
reached_agrees P = record {
  legal = λ cell heard allowed. ap (λ b. b && P.legal cell) heard;
  accept = λ legal. ap (λ b. b && P.accept) legal;
  vector = λ legal. ap (λ b. cond b P.vector 0) legal;
  bit = λ legal. ap (λ b. cond b P.bit 0) legal;
  initial = λ s n i sent place low high. initial-reach P s n i sent (place_count s n place) low high;
  wrap = λ s m n received place sent place_of_it. wrap-reach P s m n (place_above s m place) received (place_from s m place) (place_count s m place) sent (place_from s n place_of_it) (place_count s n place_of_it);
}

pub out-reach : (P : Description) (h : List Event) (e : Event) → P.address ≤ 30 → out (reach P) h e ≡ out P h e
out-reach P h e low = out_alike P (reach P) (reached_agrees P) low h e

pub outs_from-reach : (P : Description) (h es : List Event) → P.address ≤ 30 → outs_from (reach P) h es ≡ outs_from P h es
outs_from-reach P h [] low = refl
outs_from-reach P h (e ∷ es) low = λ j. out-reach P h e low j ∷ outs_from-reach P (e ∷ h) es low j

-- terminals that have the same in reach are the same
pub same_where_reached : (P Q : Description) → P.address ≤ 30 → Q.address ≤ 30 → reach P ≡ reach Q → Same P Q
same_where_reached P Q low_p low_q e es proper = sym (outs_from-reach P [] es low_p) ∙ (ap (λ D. outs D es) e ∙ outs_from-reach Q [] es low_q)
