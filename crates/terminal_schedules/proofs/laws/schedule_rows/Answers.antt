use Rattle.std.proofs.Common.{refl, arith}
use Rattle.terminal_schedules.proofs.laws.schedule_rows.Goals as goal

pub returns : goal.returns
returns c = record {
  differ = ((λ e. omega (arith, e), tt), (tt, tt));
  stand = (
    record { cell = _; has = refl; count = refl; legal = (λ e. refl, (λ e. refl, tt)); on = λ e. cc; asks = λ e. refl },
    (
      record { cell = _; has = refl; count = refl; legal = (λ e. refl, (λ e. refl, tt)); on = λ e. cc; asks = λ e. refl },
      (
        record { cell = _; has = refl; count = refl; legal = (λ e. refl, (λ e. refl, tt)); on = λ e. cc; asks = λ e. refl },
        (
          record { cell = _; has = refl; count = refl; legal = (λ e. refl, (λ e. refl, tt)); on = λ e. cc; asks = λ e. refl },
          (
            record { receives = refl; transmits = refl; two = λ e. omega (arith, e); sender = refl; sends = (λ e. refl, (λ e. refl, tt)); legal = (λ e k. refl, (λ e k. refl, tt)) },
            (
              record { receives = refl; transmits = refl; two = λ e. omega (arith, e); sender = refl; sends = (λ e. refl, (λ e. refl, tt)); legal = (λ e k. refl, (λ e k. refl, tt)) },
              ((refl, refl), ((refl, refl), tt)),
            ),
          ),
        ),
      ),
    ),
  );
  run = refl;
  flagged = refl;
  kept = refl;
  stand_unasked = (
    record { cell = _; has = refl; count = refl; legal = (λ e. refl, (λ e. cc, tt)); on = λ e. cc; asks = λ e. refl },
    (
      record { receives = refl; transmits = refl; two = λ e. omega (arith, e); sender = refl; sends = (λ e. refl, (λ e. refl, tt)); legal = (λ e k. refl, (λ e k. cc, tt)) },
      (
        record { cell = _; has = refl; count = refl; legal = (λ e. cc, (λ e. refl, tt)); on = λ e. cc; asks = λ e. refl },
        tt,
      ),
    ),
  );
  illegal_at_six = refl;
  alone = refl;
  message_left = refl;
  run_left = refl;
  reply_left = refl;
  shut_left = refl;
  busy_left = refl;
  asked_alone = refl;
  error_left = refl;
  nothing_left = refl;
  lefts = refl;
}
