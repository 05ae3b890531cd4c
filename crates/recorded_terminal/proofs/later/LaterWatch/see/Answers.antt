use Rattle.std.proofs.Common.{◌≡◌, ◌∙◌, ◌++◌, ◌∷◌, [], List, append_assoc, refl, sym, ap, subst, rules}
use Rattle.std.proofs.lemmas.Result.{err_from_is_err_and}
use Rattle.recorded_terminal.specs.declared.watch.Marked.{Marked}
use Rattle.recorded_terminal.specs.Marks.{maybe_in, HasManyWays}
use Rattle.recorded_terminal.proofs.GapLaws.{many_back}
use Rattle.recorded_terminal.proofs.LaterLaws.{sees_sought, sees_begun, sees_more, begun_of}
use Rattle.recorded_terminal.proofs.later.LaterWatch.see.Goals as goal

pub returns-in_default-Sought-clause-sees : goal.returns-in_default-Sought-clause-sees
returns-in_default-Sought-clause-sees g c P ms watches =
    let w = c.args.self.now in
    sees_sought g.L.Legality.is_legal P ms c.args.marked w (record w { part = c.part_with-self.result; seen = c.in-Some.seen }) c.in_default-Sought.field-0-1 watches refl (search rules)
    c.part_with-self.ensures c.in_default-Sought.is-1

pub returns-in_ok-self-in-Sought-default-clause-sees : goal.returns-in_ok-self-in-Sought-default-clause-sees
returns-in_ok-self-in-Sought-default-clause-sees g c P ms watches =
    let w = c.args.self.now in
    sees_begun g.L.Legality.is_legal P ms c.args.marked w
    (record w { part = c.part_with-self.result; seen = c.in-Some.seen; after = c.args.marked.line; before = c.in-Some.seen; beginnings = c.in_ok-self-in-Sought-default.field-0 })
    c.in-Sought-default.field-0-0 watches refl (search rules) c.part_with-self.ensures c.in-Sought-default.is-0 c.in-Sought-default.not-Sought-1 refl refl c.in_ok-self-in-Sought-default.ensures

pub returns-in_ok-see-in_default-2-clause-sees : goal.returns-in_ok-see-in_default-2-clause-sees
returns-in_ok-see-in_default-2-clause-sees g c P ms watches =
    let w = c.args.self.now in
    sees_more g.L.Legality.is_legal P ms c.args.marked w (record w { part = c.part_with-self.result; seen = c.in-Some.seen; beginnings = c.see.new.self })
    watches refl (search rules) c.part_with-self.ensures c.in_default-2.not-Sought-0 c.in_default-2.not-Sought-1 refl refl (c.in_ok-see-in_default-2.ensures.sees P)

pub returns-in_err-see-in_default-2 : goal.returns-in_err-see-in_default-2
returns-in_err-see-in_default-2 g c =
    let m = c.args.marked in
    let r = c.from_residual-in_err-see-in_default-2 in
    let p = err_from_is_err_and r.result r.ensures.1 in
    rw (p.1, p.2) (record {
      sees = tt;
      refused = λ same P ms watches.
          let i = begun_of g.L.Legality.is_legal P ms c.args.self.now c.args.self.now.part c.in_default-2.not-Sought-0 watches.watches in
          let front : List Marked = i.front ++ i.pause ∷ [] in
          let whole : front ++ (i.part ++ m ∷ []) ≡ ms ++ m ∷ [] = sym (append_assoc front i.part (m ∷ [])) ∙ ap (λ l. l ++ m ∷ []) (append_assoc i.front (i.pause ∷ []) i.part ∙ sym i.all) in
          subst (λ l. HasManyWays (maybe_in l)) whole (many_back front (i.part ++ m ∷ []) (c.in_err-see-in_default-2.ensures.refused same P i.part i.watches));
    })
