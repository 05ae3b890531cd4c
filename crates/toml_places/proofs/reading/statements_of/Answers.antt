use Rattle.std.proofs.Common.{◌≡◌, ◌==◌, true, false, length, refl, sym, subst, rules, arith}
use Rattle.std.proofs.lemmas.Grind.{common_steps}
use Rattle.toml_places.proofs.Faults.{passed_on}
use Rattle.toml_places.proofs.Listing.{document_lines, left_none, left_some, left_more, AreWithin, within_more}
use Rattle.toml_places.proofs.reading.statements_of.Goals as goal

pub returns-then-is_empty-clause-found : goal.returns-then-is_empty-clause-found
returns-then-is_empty-clause-found c given =
    let (final, whole) = document_lines c.args.text.now given in
    let over : (length c.skip_blank-start.result.now == 0) ≡ true = grind (arith, common_steps) in
    left_none _ final _ _ _ _ (c.statements.invariant.3 final whole) c.skip_blank-start.ensures.rest over

pub returns-in_err-key-clause-memory : goal.returns-in_err-key-clause-memory
returns-in_err-key-clause-memory c given =
    let (final, whole) = document_lines c.args.text.now given in
    let other : (length c.skip_blank-start.result.now == 0) ≡ false = grind (arith, common_steps) in
    let (x, after, read) = left_some _ final _ _ _ _ (c.statements.invariant.3 final whole) c.skip_blank-start.ensures.rest other in
    passed_on _ _ _ _ c.from_residual.ensures.1 (λ y p. p) (c.in_err-key.ensures.value x after read)

pub statements-preserved : goal.statements-preserved
statements-preserved c =
    let l = c.statements in
    let start_is = c.skip_blank-start.ensures.rest in
    let other : (length c.skip_blank-start.result.now == 0) ≡ false = grind (arith, common_steps) in
    let shorter = c.in_ok-key.ensures.shorter in
    let before = c.skip_blank-start.ensures.within in
    let pushed = c.in_ok-push.ensures.items in
    let len = length c.args.text.now in (
      search rules,
      omega (arith, l.invariant.1),
      subst (AreWithin len) (sym pushed) (within_more len l.found.items _ l.invariant.2 (omega arith)),
      λ final whole. left_more len final _ l.found.items _ _ l.rest.now _ _ (l.invariant.3 final whole) start_is other c.in_ok-key.ensures.value refl pushed,
    )
