use Rattle.std.proofs.Common.{◌≡◌, ◌≢◌, ◌≤◌, get_or, sym, subst, ⊎_elim, arith}
use Rattle.std.proofs.lemmas.Bool.{cases_lt}
use Rattle.bus_legal.specs.declared.entries.InitialWords.{InitialWords}
use Rattle.spare_entries.specs.inner.Words.{IsMarked}
use Rattle.spare_entries.proofs.WordSteps.{some_entry}
use Rattle.spare_entries.proofs.initials.mark_all.Goals as goal

pub loop-subaddress-preserved : goal.loop-subaddress-preserved
loop-subaddress-preserved c =
    let entries = c.args.entries.now in
    let s = c.loop-subaddress.subaddress in
    let so_far = c.loop-subaddress.invariant in
    record {
      from = omega arith;
      made = λ k l d below d'.
          let at = (get_or entries k d).subaddress in
          ⊎_elim
          (λ lt.
          let apart : at ≢ s = omega arith in
          subst (IsMarked c.args.sent.now entries k) (sym (c.in_ok-mark_initials.ensures.others k l d apart d' d')) (so_far.made k l d lt d'))
          (λ le. let here : at ≡ s = omega arith in c.in_ok-mark_initials.ensures.marked k l d here d')
          (cases_lt at s);
    }

pub returns : goal.returns
returns c =
    λ k l d.
    let e : InitialWords = get_or c.args.entries.now k some_entry in
    let high : e.subaddress ≤ 30 = e.subaddress_high in
    c.loop-subaddress.invariant.made k l some_entry (omega arith) d
