-- Laws of the words that a recording states.
use Rattle.std.proofs.Common.{◌≡◌, ◌∙◌, ℕ, zero, suc, ◌+◌, ◌≤◌, ◌<◌, ◌==◌, min, arith, Bool, true, false, not, cond, nat_lt, List, [], ◌∷◌, ◌++◌, filter, length, drop, length-drop, length-append, refl, sym, ap}
use Rattle.std.proofs.lemmas.Bool.Decides.{nat_tests}
use Rattle.std.proofs.lemmas.List.{length-map, drop_all}
use Rattle.std.proofs.lemmas.List.Elements.{filter-append}
use Rattle.recorded_terminal.specs.declared.watch.Marked.{Marked}
use Rattle.recorded_terminal.specs.Marks.{maybe, maybe_in}
use Rattle.recorded_terminal.proofs.WayLaws.{maybe_append}
use Rattle.rt1553_verify.specs.Stated.{stated_warning}
use Rattle.script_recordings.specs.declared.tally.Tally.{Tally}
use Rattle.script_recordings.specs.Seen.{shows_word, recorded_warning}
use Rattle.script_recordings.specs.inner.Tallies.{words_stated, IsTally}

-- no word comes later, either
none_later : (ms : List Marked) (n k : ℕ) → n ≤ k → words_stated (drop n ms) ≡ [] → words_stated (drop k ms) ≡ []
none_later [] n zero few none = refl
none_later [] n (suc k) few none = refl
none_later (m ∷ ms) zero zero few none = none
none_later (m ∷ ms) zero (suc k) few none = none_later ms zero k (omega arith) (rest (shows_word (maybe m)) none)
  where
    rest : (b : Bool) → cond b (maybe m ∷ words_stated ms) (words_stated ms) ≡ [] → words_stated ms ≡ []
    rest true e = absurd (cc)
    rest false e = e
none_later (m ∷ ms) (suc n) zero few none = absurd (omega (arith, few))
none_later (m ∷ ms) (suc n) (suc k) few none = none_later ms n k (omega (arith, few)) none

-- there are sightings behind so many
are_left : (ms : List Marked) (k : ℕ) → nat_lt k (length ms) ≡ not (length (maybe_in (drop k ms)) == 0)
are_left ms k = grind (arith, nat_tests, length-map (drop k ms) maybe, length-drop k ms)

pub shows_none : (ms : List Marked) (t : Tally) (before : ℕ) → IsTally ms t → t.last ≤ before → stated_warning (nat_lt before t.seen) 0 ≡ recorded_warning (maybe_in (drop before ms))
shows_none ms t before i far =
    let none : words_stated (drop before ms) ≡ [] = none_later ms t.last before far i.none in
    (λ j. stated_warning (nat_lt before (i.seen j)) 0) ∙ (λ j. stated_warning (are_left ms before j) (length (sym none j)))

-- so many of them come before the last
some_left : (ms : List Marked) (m : Marked) (k : ℕ) → shows_word (maybe m) ≡ true → k ≤ length ms → words_stated (drop k (ms ++ m ∷ [])) ≡ [] → ⊥
some_left [] m zero is few none = none_shown (shows_word (maybe m)) is none
  where
    none_shown : (b : Bool) → b ≡ true → cond b (maybe m ∷ []) [] ≡ [] → ⊥
    none_shown true is none = absurd (cc)
    none_shown false is none = absurd (cc)
some_left [] m (suc k) is few none = absurd (omega (arith, few))
some_left (x ∷ ms) m zero is few none = some_left ms m zero is (omega arith) (none_later (x ∷ ms ++ m ∷ []) 0 1 (omega arith) none)
some_left (x ∷ ms) m (suc k) is few none = some_left ms m k is (omega (arith, few)) none

count_more : (ms : List Marked) (m : Marked) → shows_word (maybe m) ≡ true → length (words_stated (ms ++ m ∷ [])) ≡ length (words_stated ms) + 1
count_more ms m is =
    (λ j. length (filter shows_word (maybe_append ms (m ∷ []) j))) ∙ ap length (filter-append shows_word (maybe_in ms) (maybe m ∷ [])) ∙ length-append (words_stated ms) (filter shows_word (maybe m ∷ []))
    ∙ ap (λ b. length (words_stated ms) + length (cond b (maybe m ∷ []) [])) is

few_words : (ms : List Marked) → length (words_stated ms) ≤ length ms
few_words [] = omega arith
few_words (m ∷ ms) = by (shows_word (maybe m)) (few_words ms)
  where
    by : (b : Bool) → length (words_stated ms) ≤ length ms → length (cond b (maybe m ∷ words_stated ms) (words_stated ms)) ≤ suc (length ms)
    by true few = omega (arith, few)
    by false few = omega (arith, few)

-- one word more
pub word_more : (ms : List Marked) (m : Marked) (t : Tally) (seen answers : ℕ) → IsTally ms t → shows_word (maybe m) ≡ true → (t.seen + 1 < 18446744073709551616) × (seen ≡ t.seen + 1)
    → answers ≡ min (t.answers + 1) 18446744073709551615 → IsTally (ms ++ m ∷ []) (record { seen = seen; last = seen; answers = answers })
word_more ms m t seen answers i is (fits, more) counted =
    let all : length (ms ++ m ∷ []) ≡ length ms + 1 = length-append ms (m ∷ []) in record {
      seen = omega (arith, all, more, i.seen);
      answers = omega (arith, more, fits, i.seen, i.answers, few_words ms, counted, count_more ms m is);
      within = omega (arith, all, more, i.seen);
      none = ap words_stated (drop_all seen (ms ++ m ∷ []) (omega (arith, all, more, i.seen)));
      some = λ k less none. some_left ms m k is (omega (arith, less, more, i.seen)) none;
    }
