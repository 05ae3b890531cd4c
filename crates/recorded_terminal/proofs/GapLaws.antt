-- Laws of how many gaps may have come, and for how many ways they leave room.
use Rattle.std.proofs.Common.{◌≡◌, ◌∙◌, ℕ, suc, ◌+◌, ◌*◌, ◌^◌, ◌<◌, ◌≤◌, arith, List, [], ◌∷◌, ◌++◌, ap}
use Rattle.std.proofs.Math.Nat.{pow-succ'}
use Rattle.std.proofs.Math.Pow.{pow_mono}
use Rattle.bus_word.specs.declared.word.Bus.{Bus}
use Rattle.terminal_recordings.specs.MaybeGaps.{MaybeSighting, Seen, MaybeGap}
use Rattle.recorded_terminal.specs.declared.watch.Marked.{Marked}
use Rattle.recorded_terminal.specs.Marks.{maybe, maybe_in, maybe_gaps, most_ways, HasManyWays, IsMaybeGapOn, IsSeen}

pub gaps_join : (ms ns : List Marked) → maybe_gaps (maybe_in (ms ++ ns)) ≡ maybe_gaps (maybe_in ms) + maybe_gaps (maybe_in ns)
gaps_join [] ns = omega arith
gaps_join (m ∷ ms) ns = one (maybe m) (gaps_join ms ns)
  where
    one : (x : MaybeSighting) → maybe_gaps (maybe_in (ms ++ ns)) ≡ maybe_gaps (maybe_in ms) + maybe_gaps (maybe_in ns) → maybe_gaps (x ∷ maybe_in (ms ++ ns)) ≡ maybe_gaps (x ∷ maybe_in ms) + maybe_gaps (maybe_in ns)
    one (Seen s) e = e
    one (MaybeGap b) e = omega arith

-- with what came for certain there is room for as many ways
pub room_seen : (ms : List Marked) (m : Marked) → IsSeen m → 2 ^ maybe_gaps (maybe_in (ms ++ m ∷ [])) ≡ 2 ^ maybe_gaps (maybe_in ms)
room_seen ms m is =
    let none : maybe_gaps (maybe_in (m ∷ [])) ≡ 0 = ap (λ x. maybe_gaps (x ∷ [])) is in
    let same : maybe_gaps (maybe_in (ms ++ m ∷ [])) ≡ maybe_gaps (maybe_in ms) = omega (arith, gaps_join ms (m ∷ [])) in
    ap (λ n. 2 ^ n) same

-- and with one gap more that may have come for twice as many
pub room_open : (ms : List Marked) (m : Marked) (b : Bus) → IsMaybeGapOn b m → 2 ^ maybe_gaps (maybe_in (ms ++ m ∷ [])) ≡ 2 * 2 ^ maybe_gaps (maybe_in ms)
room_open ms m b is =
    let one : maybe_gaps (maybe_in (m ∷ [])) ≡ 1 = ap (λ x. maybe_gaps (x ∷ [])) is in
    let more : maybe_gaps (maybe_in (ms ++ m ∷ [])) ≡ suc (maybe_gaps (maybe_in ms)) = omega (arith, gaps_join ms (m ∷ [])) in
    ap (λ n. 2 ^ n) more ∙ pow-succ' 2 (maybe_gaps (maybe_in ms))

-- where no fewer gaps may have come, there is room for as many ways
pub many_more : (xs ys : List MaybeSighting) → maybe_gaps xs ≤ maybe_gaps ys → HasManyWays xs → HasManyWays ys
many_more xs ys more has = let room : 2 ^ maybe_gaps xs ≤ 2 ^ maybe_gaps ys = pow_mono more in omega arith

pub many_front : (ms ns : List Marked) → HasManyWays (maybe_in ms) → HasManyWays (maybe_in (ms ++ ns))
many_front ms ns = many_more (maybe_in ms) (maybe_in (ms ++ ns)) (omega (arith, gaps_join ms ns))

pub many_back : (ms ns : List Marked) → HasManyWays (maybe_in ns) → HasManyWays (maybe_in (ms ++ ns))
many_back ms ns = many_more (maybe_in ns) (maybe_in (ms ++ ns)) (omega (arith, gaps_join ms ns))

-- ways of which a gap more may make too many
pub many_split : (ms : List Marked) (m : Marked) (b : Bus) (n : ℕ) → IsMaybeGapOn b m → n ≤ 2 ^ maybe_gaps (maybe_in ms) → most_ways < 2 * n → HasManyWays (maybe_in (ms ++ m ∷ []))
many_split ms m b n is few many = omega (arith, room_open ms m b is)
