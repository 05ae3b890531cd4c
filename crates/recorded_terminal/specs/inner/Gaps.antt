-- Gaps as a watch counts them, and the part of a recording that comes with a sighting.
use Rattle.std.specs.Prelude.{◌≡◌, ℕ, nat_lt, true, false, if◌then◌else◌, Option, Some, None}
use Rattle.bus_legal.specs.Description.{Description}
use Rattle.terminal_rules.specs.Status.{spares}
use Rattle.terminal_recordings.specs.Recordings.{Sighting}
use Rattle.terminal_recordings.specs.MaybeGaps.{MaybeSighting, Seen, MaybeGap}
use Rattle.terminal_recordings.specs.Later.{Gaps, no_gaps, gaps_with, command_for}
use Rattle.recorded_terminal.specs.declared.later.Gaps.{Gaps as Counted}
use Rattle.recorded_terminal.specs.Judged.{shown_gaps}
use Rattle.recorded_terminal.specs.declared.later.WatchPhase.{WatchPhase}
use Rattle.recorded_terminal.specs.declared.later.WatchPhase.TheVariants.{Sought, Begun, Afresh}

-- 2 stands for more
abbrev pub at_most_two : ℕ → ℕ
at_most_two n = if nat_lt n 2 then n else 2

-- these are counted so
pub record AreCounted (g : Gaps) (k : Counted) : Type 0 where
  pub a : at_most_two k.a ≡ at_most_two g.a
  pub b : at_most_two k.b ≡ at_most_two g.b

abbrev pub AreGaps : Option Gaps → Option Counted → Type 0
AreGaps None None = Unit {0}
AreGaps (Some g) (Some k) = AreCounted g k
AreGaps _ _ = ⊥

-- the part that a sighting is in, by the part before it
abbrev pub IsPartWith : Description → WatchPhase → Sighting → WatchPhase → Type 0
IsPartWith P (Sought k) s (Sought n) = AreGaps (gaps_with (shown_gaps k) s.event s.sent) (Some n)
IsPartWith P (Sought k) s Begun = AreGaps (gaps_with (shown_gaps k) s.event s.sent) None
IsPartWith P Begun s (Sought n) = AreCounted no_gaps n × ((c : ℕ) × (command_for P s.event ≡ Some c) × (spares P c ≡ true))
IsPartWith P Begun s Begun = command_for P s.event ≡ None
IsPartWith P Begun s Afresh = (c : ℕ) × (command_for P s.event ≡ Some c) × (spares P c ≡ false)
IsPartWith P Afresh s Afresh = Unit {0}
IsPartWith _ _ _ _ = ⊥

-- a gap that may have come changes nothing of it
abbrev pub IsPartOn : Description → WatchPhase → MaybeSighting → WatchPhase → Type 0
IsPartOn P p (Seen m) q = IsPartWith P p m.sighting q
IsPartOn P p (MaybeGap b) q = q ≡ p
