use Rattle.std.proofs.Common.{◌≡◌, ◌⊎◌, inl, inr, Bool, true, false, List, Option, refl}
use Rattle.std.proofs.lemmas.Result.{err_from_is_err_and}
use Rattle.bus_legal.specs.Description.{Description}
use Rattle.terminal_recordings.specs.Later.{ShutDown, shut_history}
use Rattle.recorded_terminal.specs.declared.watch.Marked.{Marked}
use Rattle.recorded_terminal.specs.declared.watch.Unexplained.{Unexplained}
use Rattle.recorded_terminal.specs.declared.beginnings.BestBeginning.{BestBeginning}
use Rattle.recorded_terminal.specs.Judged.{WatchBegun}
use Rattle.recorded_terminal.proofs.BeginningLaws.{Best, best_one, best_two, best_is}
use Rattle.recorded_terminal.proofs.beginnings.Beginnings.end.Given.{Over}
use Rattle.recorded_terminal.proofs.beginnings.Beginnings.end.Goals as goal

abbrev at : Bool → Bool → ShutDown
at a b = record { a = a; b = b }

abbrev Among : ShutDown → Type 0
Among x = ((x ≡ at false false) ⊎ (x ≡ at true false)) ⊎ ((x ≡ at false true) ⊎ (x ≡ at true true))

all : (s : ShutDown) → Among s
all s = of s.a s.b
  where
    of : (a b : Bool) → Among (at a b)
    of false false = inl (inl refl)
    of true false = inl (inr refl)
    of false true = inr (inl refl)
    of true true = inr (inr refl)

abbrev told : Bool → Bool → Option Unexplained → BestBeginning
told a b first = record { shut = record { a = a; b = b }; first = first }

best : (g : Over) (c : goal.After-better_of-3 g) (P : Description) (ms : List Marked) → WatchBegun g.L.Legality.is_legal P ms c.args.self → Best P ms Among c.better_of-3.result
best g c P ms watches =
    best_two P ms (λ x. (x ≡ at false false) ⊎ (x ≡ at true false)) (λ x. (x ≡ at false true) ⊎ (x ≡ at true true)) c.better_of.result c.better_of-2.result c.better_of-3.result
    (best_two P ms (λ x. x ≡ at false false) (λ x. x ≡ at true false) (told false false c.in_ok-end.field-0) (told true false c.in_ok-end-2.field-0) c.better_of.result
    (best_one P ms (at false false) c.in_ok-end.field-0 (c.in_ok-end.ensures.first P (shut_history P (at false false)) ms (watches (at false false))))
    (best_one P ms (at true false) c.in_ok-end-2.field-0 (c.in_ok-end-2.ensures.first P (shut_history P (at true false)) ms (watches (at true false))))
    c.better_of.ensures)
    (best_two P ms (λ x. x ≡ at false true) (λ x. x ≡ at true true) (told false true c.in_ok-end-3.field-0) (told true true c.in_ok-end-4.field-0) c.better_of-2.result
    (best_one P ms (at false true) c.in_ok-end-3.field-0 (c.in_ok-end-3.ensures.first P (shut_history P (at false true)) ms (watches (at false true))))
    (best_one P ms (at true true) c.in_ok-end-4.field-0 (c.in_ok-end-4.ensures.first P (shut_history P (at true true)) ms (watches (at true true))))
    c.better_of-2.ensures)
    c.better_of-3.ensures

pub returns-clause-best : goal.returns-clause-best
returns-clause-best g c P ms watches = best_is P ms Among c.better_of-3.result all (best g c P ms watches)

pub returns-in_err-end-clause-refused : goal.returns-in_err-end-clause-refused
returns-in_err-end-clause-refused g c =
    let p = err_from_is_err_and c.from_residual.result c.from_residual.ensures.1 in
    rw (p.1, p.2) (λ same P ms watches. c.in_err-end.ensures.refused same P (shut_history P (at false false)) ms (watches (at false false)))

pub returns-in_err-end-2-clause-refused : goal.returns-in_err-end-2-clause-refused
returns-in_err-end-2-clause-refused g c =
    let p = err_from_is_err_and c.from_residual-in_err-end-2.result c.from_residual-in_err-end-2.ensures.1 in
    rw (p.1, p.2) (λ same P ms watches. c.in_err-end-2.ensures.refused same P (shut_history P (at true false)) ms (watches (at true false)))

pub returns-in_err-end-3-clause-refused : goal.returns-in_err-end-3-clause-refused
returns-in_err-end-3-clause-refused g c =
    let p = err_from_is_err_and c.from_residual-in_err-end-3.result c.from_residual-in_err-end-3.ensures.1 in
    rw (p.1, p.2) (λ same P ms watches. c.in_err-end-3.ensures.refused same P (shut_history P (at false true)) ms (watches (at false true)))

pub returns-in_err-end-4-clause-refused : goal.returns-in_err-end-4-clause-refused
returns-in_err-end-4-clause-refused g c =
    let p = err_from_is_err_and c.from_residual-in_err-end-4.result c.from_residual-in_err-end-4.ensures.1 in
    rw (p.1, p.2) (λ same P ms watches. c.in_err-end-4.ensures.refused same P (shut_history P (at true true)) ms (watches (at true true)))
