-- What a script that tells terminals apart says of them.
use Rattle.std.proofs.Common.{◌≤◌, List, [], sym, ◌∙◌}
use Rattle.bus_legal.specs.Description.{Description}
use Rattle.bus_legal.specs.Reach.{reach}
use Rattle.terminal_rules.specs.declared.event.Event.{Event}
use Rattle.terminal_rules.specs.Same.{Same}
use Rattle.terminal_exchanges.specs.Distinguish.{TellsApart}
use Rattle.terminal_rules.proofs.Reach.Same.{outs_from-reach}

-- a script that tells apart what can be reached of two terminals, tells them apart
pub apart-reach : (P Q : Description) (script : List Event) → P.address ≤ 30 → Q.address ≤ 30 → TellsApart (reach P) (reach Q) script → TellsApart P Q script
apart-reach P Q script low_p low_q t = record {
  proper = t.proper;
  short = t.short;
  differ = λ e. t.differ (outs_from-reach P [] script low_p ∙ (e ∙ sym (outs_from-reach Q [] script low_q)));
}

-- terminals that a script tells apart are not the same
pub apart_not_same : (P Q : Description) (script : List Event) → TellsApart P Q script → Same P Q → ⊥
apart_not_same P Q script t same = t.differ (same script t.proper)
