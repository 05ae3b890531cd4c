-- Laws of the exchanges before the first without a result.
use Rattle.std.proofs.Common.{◌≡◌, ◌∙◌, ℕ, suc, ◌+◌, ◌≤◌, Option, Some, None, List, [], ◌∷◌, ◌++◌, length, refl, sym, ap, subst, append_assoc, append-nil, arith}
use Rattle.bus_legal.specs.Description.{Description}
use Rattle.bus_legal.specs.Parts.{Parts}
use Rattle.terminal_exchanges.specs.Exchanges.{Exchange}
use Rattle.bus_complete_test.specs.CompleteTest.{tried}
use Rattle.recorded_terminal.specs.declared.watch.Watch.{Watch}
use Rattle.rt1553_results.specs.Recorded.{Replied, replied_then, replied_from, replied, slots_of}
use Rattle.rt1553_results.specs.inner.Placed.{placed_from, placed_exchange, WatchesAll, Sees}
use Rattle.rt1553_results.proofs.RecordedLaws.{sees_more, sees_none}
use Rattle.rt1553_results.proofs.PlacedLaws.{placed_more}

-- what is said of one of them
abbrev IsAt : (ℕ → Option (List ℕ)) → ℕ → ℕ → List Replied → Replied → Type 0
IsAt came n long before r = (came (n + length before) ≡ Some r.reply) × (suc (length before) ≤ long)

pub replied_at : (came : ℕ → Option (List ℕ)) (n : ℕ) (xs : List Exchange) (before : List Replied) (r : Replied) (later : List Replied) → replied_from came n xs ≡ before ++ r ∷ later
    → IsAt came n (length xs) before r
unfolding replied_from
replied_at came n [] [] r later e = absurd (cc)
replied_at came n [] (b ∷ before) r later e = absurd (cc)
replied_at came n (x ∷ xs) [] r later e = by_result (came n) refl e
  where
    by_result : (o : Option (List ℕ)) → came n ≡ o → replied_then x o (replied_from came (n + 1) xs) ≡ r ∷ later → IsAt came n (suc (length xs)) [] r
    by_result None is e = absurd (cc)
    by_result (Some reply) is e = (
        let same : n + 0 ≡ n = omega arith in
        let head : record { exchange = x; reply = reply } ≡ r = cc in
        (ap came same ∙ is ∙ ap (λ (r : Replied). Some r.reply) head, omega arith))
replied_at came n (x ∷ xs) (b ∷ before) r later e = by_result (came n) e (λ is. replied_at came (n + 1) xs before r later is)
  where
    by_result : (o : Option (List ℕ)) → replied_then x o (replied_from came (n + 1) xs) ≡ b ∷ (before ++ r ∷ later)
        → (replied_from came (n + 1) xs ≡ before ++ r ∷ later → IsAt came (n + 1) (length xs) before r) → IsAt came n (suc (length xs)) (b ∷ before) r
    by_result None e next = absurd (cc)
    by_result (Some reply) e next = (
        let i : IsAt came (n + 1) (length xs) before r = next cc in
        let same : n + suc (length before) ≡ n + 1 + length before = omega arith in
        (ap came same ∙ i.0, omega (arith, i.1)))

-- ---- exchanges that were seen, and those that are left

-- so many were seen, each with its reply, and what is left of them
pub record SeenSoFar (D : Description) (came : ℕ → Option (List ℕ)) (given : ℕ) (left : List Exchange) (old new : Watch Parts) : Type 0 where
  pub seen : List Replied
  pub number : length seen ≡ given
  pub all : seen ++ replied_from came (given + 1) left ≡ replied D came
  pub sees : Sees (placed_from 1 seen) old new

pub seen_more : (D : Description) (came : ℕ → Option (List ℕ)) (given given' : ℕ) (x : Exchange) (left left' : List Exchange) (reply : List ℕ) (old mid new : Watch Parts)
    → left ≡ x ∷ left' → given' ≡ given + 1 → came given' ≡ Some reply
    → Sees (placed_exchange given' x (slots_of (record { exchange = x; reply = reply }))) mid new → SeenSoFar D came given left old mid → SeenSoFar D came given' left' old new
unfolding replied_from
seen_more D came given given' x left left' reply old mid new split next is one s =
    let r : Replied = record { exchange = x; reply = reply } in
    let here : 1 + length s.seen ≡ given' = omega (arith, s.number, next) in
    let long : suc (length s.seen) ≡ given' = omega (arith, s.number, next) in
    record {
      seen = s.seen ++ r ∷ [];
      number = pushed s.seen r ∙ long;
      all =
          append_assoc s.seen (r ∷ []) (replied_from came (given' + 1) left')
          ∙ ap (λ rs. s.seen ++ rs) (ap (λ o. replied_then x o (replied_from came (given' + 1) left')) (sym is) ∙ ap (λ n. replied_from came n (x ∷ left')) next ∙ ap (replied_from came (given + 1)) (sym split))
          ∙ s.all;
      sees =
          subst (λ xs. Sees xs old new) (ap (λ n. placed_from 1 s.seen ++ placed_exchange n x (slots_of r)) (sym here) ∙ sym (placed_more 1 s.seen r))
          (sees_more (placed_from 1 s.seen) (placed_exchange given' x (slots_of r)) old mid new s.sees one);
    }
  where
    pushed : (rs : List Replied) (r : Replied) → length (rs ++ r ∷ []) ≡ suc (length rs)
    pushed [] r = refl
    pushed (x ∷ rs) r = ap suc (pushed rs r)

-- all were seen that have a result before the first without one
seen_all : (D : Description) (came : ℕ → Option (List ℕ)) (given : ℕ) (left : List Exchange) (old new : Watch Parts) → replied_from came (given + 1) left ≡ [] → WatchesAll D [] old
    → SeenSoFar D came given left old new → WatchesAll D (placed_from 1 (replied D came)) new
seen_all D came given left old new over start s =
    subst (λ rs. WatchesAll D (placed_from 1 rs) new) (sym (append-nil s.seen) ∙ ap (λ rs. s.seen ++ rs) (sym over) ∙ s.all) (s.sees D [] start)

pub seen_to_end : (D : Description) (came : ℕ → Option (List ℕ)) (given : ℕ) (left : List Exchange) (old new : Watch Parts) → left ≡ [] → WatchesAll D [] old
    → SeenSoFar D came given left old new → WatchesAll D (placed_from 1 (replied D came)) new
unfolding replied_from
seen_to_end D came given left old new over start s = seen_all D came given left old new (ap (replied_from came (given + 1)) over) start s

pub seen_to_missing : (D : Description) (came : ℕ → Option (List ℕ)) (given given' : ℕ) (x : Exchange) (left left' : List Exchange) (old new : Watch Parts) → left ≡ x ∷ left' → given' ≡ given + 1
    → came given' ≡ None → WatchesAll D [] old → SeenSoFar D came given left old new → WatchesAll D (placed_from 1 (replied D came)) new
unfolding replied_from
seen_to_missing D came given given' x left left' old new split next is start s =
    seen_all D came given left old new
    (ap (replied_from came (given + 1)) split ∙ ap (λ n. replied_from came n (x ∷ left')) (sym next) ∙ ap (λ o. replied_then x o (replied_from came (given' + 1) left')) is) start s

pub seen_none : (D : Description) (came : ℕ → Option (List ℕ)) (given : ℕ) (left : List Exchange) (w : Watch Parts) → given ≡ 0 → left ≡ tried D → SeenSoFar D came given left w w
seen_none D came given left w none all = record {
  seen = [];
  number = sym none;
  all = λ j. replied_from came (none j + 1) (all j);
  sees = sees_none w;
}
