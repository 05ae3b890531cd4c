use Rattle.std.proofs.Common.{[], Bool, true, false}
use Rattle.bus_legal.specs.Description.{Description, described}
use Rattle.terminal_recordings.specs.Later.{ShutDown, shut_history}
use Rattle.recorded_terminal.specs.Watched.{Watches}
use Rattle.recorded_terminal.specs.Judged.{watch_at}
use Rattle.recorded_terminal.proofs.beginnings.Beginnings.of.Goals as goal

abbrev at : Bool → Bool → ShutDown
at a b = record { a = a; b = b }

pub returns : goal.returns
returns g c shut = of shut.a shut.b
  where
    P : Description
    P = described c.args.setup (g.L.Legality.is_legal c.args.legality)

    of : (a b : Bool) → Watches g.L.Legality.is_legal P (shut_history P (at a b)) []
        (watch_at (record { none = c.in_ok-shut.field-0; a = c.in_ok-shut-2.field-0; b = c.in_ok-shut-3.field-0; both = c.in_ok-shut-4.field-0 }) (at a b))
    of false false = c.in_ok-shut.ensures
    of true false = c.in_ok-shut-2.ensures
    of false true = c.in_ok-shut-3.ensures
    of true true = c.in_ok-shut-4.ensures
