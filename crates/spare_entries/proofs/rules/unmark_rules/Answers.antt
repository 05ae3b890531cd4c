use Rattle.std.proofs.Common.{◌≡◌, ◌<◌, ◌↔◌, ℕ, false, IsTrue, length, map, get_or, subst, ◌∙◌, arith}
use Rattle.spare_entries.specs.inner.Says.{counts_said, SameBits, SameMask}
use Rattle.spare_entries.proofs.Marks.{one_more}
use Rattle.spare_entries.proofs.RuleLaws.{same_mask-said, length-said}
use Rattle.spare_entries.proofs.rules.unmark_rules.Goals as goal

pub loop-subaddress-preserved : goal.loop-subaddress-preserved
loop-subaddress-preserved c =
    let rules = c.args.rules.now in
    let table = c.args.table in
    let at = c.loop-subaddress.subaddress in
    let said = map (counts_said table at) rules in
    let is : c.deref.result.now ≡ said = c.deref.ensures.value ∙ c.in_ok-said.ensures in
    let made : (k : ℕ) → k < length said → IsTrue (get_or c.unmark.new.spares k false) ↔ (IsTrue (get_or c.loop-subaddress.spares k false) × SameBits 0 0xffffffff said k) =
    subst (λ entries. (k : ℕ) → k < length entries → IsTrue (get_or c.unmark.new.spares k false) ↔ (IsTrue (get_or c.loop-subaddress.spares k false) × SameBits 0 0xffffffff entries k)) is c.in_ok-unmark.ensures in
    λ k l.
    one_more _ (get_or c.loop-subaddress.spares k false) _ (SameMask table rules k) (SameBits 0 0xffffffff said k) at
    (c.loop-subaddress.invariant k l)
    (made k (omega (arith, length-said table at rules)))
    (same_mask-said table rules k at)
