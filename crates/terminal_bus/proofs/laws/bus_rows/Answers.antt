use Rattle.std.proofs.Common.{inl, inr, refl, arith}
use Rattle.terminal_bus.proofs.laws.bus_rows.Goals as goal

pub returns : goal.returns
returns c = record {
  sends = refl;
  receives = refl;
  silent = refl;
  fair = refl;
  can = record {
    apart = ((λ e. omega (arith, e), (λ e. omega (arith, e), tt)), ((λ e. omega (arith, e), tt), (tt, tt)));
    quiet = (refl, (refl, (refl, tt)));
    waiting = (refl, (refl, (refl, tt)));
    has_x = inr (inl refl);
    has_y = inl refl;
    two = λ e. omega (arith, e);
    to_x = refl;
    to_y = refl;
    receives = refl;
    transmits = refl;
    legal_x = refl;
    legal_y = refl;
    run_x = refl;
    run_y = refl;
    free_x = refl;
    free_y = refl;
    on_x = refl;
    on_y = refl;
  };
  early = refl;
  early_forbidden = refl;
  early_there = refl;
  early_there_forbidden = refl;
  taken = refl;
  collides = refl;
  taken_forbidden = refl;
  timed_out = refl;
  timed_out_fair = refl;
}
