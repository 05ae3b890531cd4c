use Rattle.std.proofs.Common.{◌++◌, ◌∷◌, [], Bool, true, false}
use Rattle.std.proofs.lemmas.Result.{err_from_is_err_and}
use Rattle.terminal_recordings.specs.Later.{ShutDown, shut_history}
use Rattle.recorded_terminal.specs.Watched.{Watches}
use Rattle.recorded_terminal.specs.Judged.{watch_at}
use Rattle.recorded_terminal.proofs.beginnings.Beginnings.see.Goals as goal

abbrev at : Bool → Bool → ShutDown
at a b = record { a = a; b = b }

pub returns-clause-sees : goal.returns-clause-sees
returns-clause-sees g c P ms watches shut = of shut.a shut.b
  where
    of : (a b : Bool) → Watches g.L.Legality.is_legal P (shut_history P (at a b)) (ms ++ c.args.marked.now ∷ [])
        (watch_at (record { none = c.see.new.self; a = c.see-2.new.self; b = c.see-3.new.self; both = c.see-4.new.self }) (at a b))
    of false false = c.in_ok-see.ensures.sees P (shut_history P (at false false)) ms (watches (at false false))
    of true false = c.in_ok-see-2.ensures.sees P (shut_history P (at true false)) ms (watches (at true false))
    of false true = c.in_ok-see-3.ensures.sees P (shut_history P (at false true)) ms (watches (at false true))
    of true true = c.in_ok-see-4.ensures.sees P (shut_history P (at true true)) ms (watches (at true true))

pub returns-in_err-see-clause-refused : goal.returns-in_err-see-clause-refused
returns-in_err-see-clause-refused g c =
    let p = err_from_is_err_and c.from_residual.result c.from_residual.ensures.1 in
    rw (p.1, p.2) (λ same P ms watches. c.in_err-see.ensures.refused same P (shut_history P (at false false)) ms (watches (at false false)))

pub returns-in_err-see-2-clause-refused : goal.returns-in_err-see-2-clause-refused
returns-in_err-see-2-clause-refused g c =
    let p = err_from_is_err_and c.from_residual-in_err-see-2.result c.from_residual-in_err-see-2.ensures.1 in
    rw (p.1, p.2) (λ same P ms watches. c.in_err-see-2.ensures.refused same P (shut_history P (at true false)) ms (watches (at true false)))

pub returns-in_err-see-3-clause-refused : goal.returns-in_err-see-3-clause-refused
returns-in_err-see-3-clause-refused g c =
    let p = err_from_is_err_and c.from_residual-in_err-see-3.result c.from_residual-in_err-see-3.ensures.1 in
    rw (p.1, p.2) (λ same P ms watches. c.in_err-see-3.ensures.refused same P (shut_history P (at false true)) ms (watches (at false true)))

pub returns-in_err-see-4-clause-refused : goal.returns-in_err-see-4-clause-refused
returns-in_err-see-4-clause-refused g c =
    let p = err_from_is_err_and c.from_residual-in_err-see-4.result c.from_residual-in_err-see-4.ensures.1 in
    rw (p.1, p.2) (λ same P ms watches. c.in_err-see-4.ensures.refused same P (shut_history P (at true true)) ms (watches (at true true)))
