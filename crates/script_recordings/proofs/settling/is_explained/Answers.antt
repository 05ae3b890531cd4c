use Rattle.std.proofs.Common.{◌≡◌, ◌++◌, [], List, Option, Some, None, is_some, not, true, false, Bool, refl, sym, subst}
use Rattle.std.proofs.lemmas.Result.{err_from_is_err_and}
use Rattle.bus_legal.specs.Description.{Description, described}
use Rattle.bus_legal.specs.Parts.{description_in}
use Rattle.bus_legal.specs.Tables.{tables_say}
use Rattle.bus_legal.proofs.NormalLaws.{set_up_normal}
use Rattle.terminal_recordings.specs.Later.{shut_history}
use Rattle.terminal_recordings.specs.MaybeGaps.{IsExplainedSomehow}
use Rattle.recorded_terminal.specs.declared.watch.Marked.{Marked}
use Rattle.recorded_terminal.specs.declared.watch.Unexplained.{Unexplained}
use Rattle.recorded_terminal.specs.Follows.{shut_down}
use Rattle.recorded_terminal.specs.Marks.{maybe_in}
use Rattle.recorded_terminal.proofs.GapLaws.{many_front}
use Rattle.recorded_terminal.specs.Watched.{Watches}
use Rattle.script_recordings.proofs.settling.is_explained.Goals as goal

none_of : (o : Option Unexplained) (b : Bool) → is_some o ≡ not b → b ≡ true → o ≡ None
none_of None b is truth = refl
none_of (Some it) b is truth = absurd (cc)

is_none_of : (o : Option Unexplained) (b : Bool) → is_some o ≡ not b → o ≡ None → b ≡ true
is_none_of None true is none = refl
is_none_of None false is none = absurd (cc)
is_none_of (Some it) b is none = absurd (cc)

pub returns-clause-explained : goal.returns-clause-explained
returns-clause-explained c =
    let v = c.args.normal.now in
    let shut = shut_down c.args.shut in
    let Q : Description = described c.setup.result (tables_say v.tables) in
    let h = shut_history Q shut in
    let front : List Marked = c.args.front.now in
    let rest : List Marked = c.args.rest.now in
    let watched : Watches (λ normal. tables_say normal.tables) Q h (front ++ rest) c.see_all-2.new.watch = c.in_ok-see_all-2.ensures.sees Q h front (c.in_ok-see_all.ensures.sees Q h [] c.in_ok-watch.ensures) in
    let decided = (c.in_ok-first.ensures.first Q h (front ++ rest) watched).explained in
    let same : Q ≡ description_in v = set_up_normal v c.setup.result c.setup.ensures.parts in (
      λ truth. subst (λ P. IsExplainedSomehow P (shut_history P shut) (maybe_in (front ++ rest))) same (decided.0 (none_of c.in_ok-first.first c.is_none.result c.is_none.ensures truth)),
      λ x. is_none_of c.in_ok-first.first c.is_none.result c.is_none.ensures (decided.1 (subst (λ P. IsExplainedSomehow P (shut_history P shut) (maybe_in (front ++ rest))) (sym same) x)),
    )

pub returns-in_err-see_all-clause-refused : goal.returns-in_err-see_all-clause-refused
returns-in_err-see_all-clause-refused c =
    let Q : Description = described c.setup.result (tables_say c.args.normal.now.tables) in
    let r = c.from_residual-in_err-see_all in
    let p = err_from_is_err_and r.result r.ensures.1 in
    rw (p.1, p.2) (λ same. many_front c.args.front.now c.args.rest.now (c.in_err-see_all.ensures.refused same Q (shut_history Q (shut_down c.args.shut)) [] c.in_ok-watch.ensures))

pub returns-in_err-see_all-2-clause-refused : goal.returns-in_err-see_all-2-clause-refused
returns-in_err-see_all-2-clause-refused c =
    let Q : Description = described c.setup.result (tables_say c.args.normal.now.tables) in
    let h = shut_history Q (shut_down c.args.shut) in
    let r = c.from_residual-in_err-see_all-2 in
    let p = err_from_is_err_and r.result r.ensures.1 in
    rw (p.1, p.2) (λ same. c.in_err-see_all-2.ensures.refused same Q h c.args.front.now (c.in_ok-see_all.ensures.sees Q h [] c.in_ok-watch.ensures))

pub returns-in_err-first-clause-refused : goal.returns-in_err-first-clause-refused
returns-in_err-first-clause-refused c =
    let Q : Description = described c.setup.result (tables_say c.args.normal.now.tables) in
    let h = shut_history Q (shut_down c.args.shut) in
    let r = c.from_residual-in_err-first in
    let p = err_from_is_err_and r.result r.ensures.1 in
    rw (p.1, p.2) (λ same. c.in_err-first.ensures.refused same Q h (c.args.front.now ++ c.args.rest.now) (c.in_ok-see_all-2.ensures.sees Q h c.args.front.now (c.in_ok-see_all.ensures.sees Q h [] c.in_ok-watch.ensures)))
