-- The trial that comes next is in its ranges, and the exchanges that wait are short.
use Rattle.std.proofs.Common.{◌≡◌, ℕ, ◌<◌, true, ◌&&◌, nat_lt, Option, Some, None, IfSome, List, [], ◌∷◌, nat_le, refl, arith}
use Rattle.std.proofs.lemmas.Bool.Decides.{nat_tests}
use Rattle.terminal_exchanges.specs.declared.exchange.Exchange.{Exchange}
use Rattle.terminal_exchanges.specs.Values.{IsShort, AreShort}
use Rattle.bus_complete_test.specs.declared.trial.Trial.{Trial}
use Rattle.bus_complete_test.specs.declared.trial.Trial.TheVariants.{BroadcastOption, Transmit, Receive, OwnCode, BroadcastReceive, BroadcastCode, Wraparound}
use Rattle.bus_complete_test.specs.Trials.{IsTrialInRange}
use Rattle.bus_complete_test.specs.inner.Waiting.{is_trial, are_short}

below_code : (code : ℕ) → code < 32 → nat_lt code 32 ≡ true
below_code code e = grind (arith, nat_tests)

pub is_trial-in_range : (o : Option Trial) → IfSome o IsTrialInRange → is_trial o ≡ true
is_trial-in_range None e = refl
is_trial-in_range (Some BroadcastOption) e = refl
is_trial-in_range (Some (Transmit s n)) e = e
is_trial-in_range (Some (Receive s n)) e = e
is_trial-in_range (Some (OwnCode code)) e = below_code code e
is_trial-in_range (Some (BroadcastReceive s n)) e = e
is_trial-in_range (Some (BroadcastCode code)) e = below_code code e
is_trial-in_range (Some (Wraparound s)) e = e

short_few : (x : Exchange) → IsShort x → nat_le x.zeros 31 && nat_le x.slots 33 ≡ true
short_few x (zeros, slots) = grind (arith, nat_tests)

pub are_short-short : (xs : List Exchange) → AreShort xs → are_short xs ≡ true
are_short-short [] short = refl
are_short-short (x ∷ xs) (here, rest) = (λ j. short_few x here j && are_short-short xs rest j)
