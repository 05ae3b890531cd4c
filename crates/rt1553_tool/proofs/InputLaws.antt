-- Laws of lines that are read byte by byte.
use Rattle.std.proofs.Common.{ℕ, ◌≡◌, ◌≢◌, ◌∙◌, ◌+◌, ◌<◌, ◌≤◌, Bool, true, false, List, [], ◌∷◌, ◌++◌, Option, Some, None, IfSome, length, take, drop, slice_get, unwrap_or, refl, sym, ap, subst, arith, append_assoc, append-nil, length-append}
use Rattle.std.proofs.Math.Seq.{take-nil}
use Rattle.std.proofs.lemmas.List.{length-take}
use Rattle.std.proofs.lemmas.Option.{none-some}
use Rattle.script_lines.specs.Text.{lines_of, NoLineFeed}
use Rattle.script_lines.proofs.LineLaws.{lines-line, lines-last}
use Rattle.rt1553_tool.specs.inner.Input.{TakesLine}

-- these bytes without a line feed were taken, and the first N of them kept
pub record Taken (N : ℕ) (xs : List ℕ) (turns : ℕ) (kept : List ℕ) (left : Option (List ℕ)) : Type 0 where
  pub front : List ℕ
  pub rest : List ℕ
  pub left_is : left ≡ Some rest
  pub parts : xs ≡ front ++ rest
  pub no_feed : NoLineFeed front
  pub kept_is : kept ≡ take N front
  pub count : turns ≤ length front

-- what a read gives of what is left
abbrev pub Gives : Option ℕ → Option (List ℕ) → Option (List ℕ) → Type 0
Gives found left next = IfSome left (λ xs. (found ≡ slice_get xs 0) × (next ≡ Some (drop 1 xs)))

gives : (found : Option ℕ) (left next : Option (List ℕ)) (rest : List ℕ) → left ≡ Some rest → Gives found left next → (found ≡ slice_get rest 0) × (next ≡ Some (drop 1 rest))
gives found left next rest e h = subst (λ o. Gives found o next) e h

-- a byte that is given is the first
begins : (b : ℕ) (rest : List ℕ) → Some b ≡ slice_get rest 0 → rest ≡ b ∷ drop 1 rest
begins b [] e = absurd (none-some b (sym e))
begins b (c ∷ rest) e = ap (λ x. x ∷ rest) (sym (ap (λ o. unwrap_or o 0) e))

-- where none is given, none is left
ends : (rest : List ℕ) → None ≡ slice_get rest 0 → rest ≡ []
ends [] e = refl
ends (c ∷ rest) e = absurd (none-some c e)

no_feed_more : (front : List ℕ) (b : ℕ) → NoLineFeed front → b ≢ 10 → NoLineFeed (front ++ b ∷ [])
no_feed_more [] b h other = (other, tt)
no_feed_more (c ∷ front) b h other = (h.0, no_feed_more front b h.1 other)

pub Taken_byte : (N : ℕ) (first left next : Option (List ℕ)) (found : Option ℕ) (turns b : ℕ) (old new : List ℕ) → IfSome first (λ xs. Taken N xs turns old left)
    → found ≡ Some b → Gives found left next → b ≢ 10 → ((front : List ℕ) → old ≡ take N front → new ≡ take N (front ++ b ∷ [])) → IfSome first (λ xs. Taken N xs (turns + 1) new next)
Taken_byte N None left next found turns b old new t e h other keeps = tt
Taken_byte N (Some xs) left next found turns b old new t e h other keeps =
    let g = gives (Some b) left next t.rest t.left_is (subst (λ f. Gives f left next) e h) in
    record {
      front = t.front ++ b ∷ [];
      rest = drop 1 t.rest;
      left_is = g.1;
      parts = t.parts ∙ (ap (λ r. t.front ++ r) (begins b t.rest g.0) ∙ sym (append_assoc t.front (b ∷ []) (drop 1 t.rest)));
      no_feed = no_feed_more t.front b t.no_feed other;
      kept_is = keeps t.front t.kept_is;
      count = omega (arith, t.count, length-append t.front (b ∷ []));
    }

pub Taken_feed : (N : ℕ) (first left next : Option (List ℕ)) (found : Option ℕ) (turns b : ℕ) (kept : List ℕ) → IfSome first (λ xs. Taken N xs turns kept left)
    → found ≡ Some b → Gives found left next → b ≡ 10 → IfSome first (λ xs. TakesLine N true xs kept next)
Taken_feed N None left next found turns b kept t e h feed = tt
Taken_feed N (Some xs) left next found turns b kept t e h feed =
    let g = gives (Some b) left next t.rest t.left_is (subst (λ f. Gives f left next) e h) in
    let whole : xs ≡ t.front ++ 10 ∷ drop 1 t.rest = t.parts ∙ ap (λ r. t.front ++ r) (begins b t.rest g.0 ∙ ap (λ x. x ∷ drop 1 t.rest) feed) in (
      t.front,
      drop 1 t.rest,
      ap lines_of whole ∙ lines-line t.front (drop 1 t.rest) t.no_feed,
      t.kept_is,
      g.1,
      omega (arith, ap length whole, length-append t.front (10 ∷ drop 1 t.rest)),
    )

no-lines : lines_of [] ≡ []
unfolding lines_of
no-lines = refl

-- the last line, or none, where nothing is left
last : (N : ℕ) (front : List ℕ) (next : Option (List ℕ)) (found : Bool) (kept : List ℕ) → 0 < N → NoLineFeed front → kept ≡ take N front
    → (found ≡ true → 0 < length kept) → (found ≡ false → length kept ≡ 0) → next ≡ Some [] → TakesLine N found front kept next
last N [] next true kept some h is t f e = absurd (let one = t refl in let none : length kept ≡ 0 = ap length (is ∙ take-nil N) in omega (arith, one, none))
last N [] next false kept some h is t f e = (refl, e)
last N (b ∷ front) next true kept some h is t f e = (b ∷ front, [], lines-last b front h ∙ ap (λ ls. (b ∷ front) ∷ ls) (sym no-lines), is, e, omega arith)
last N (b ∷ front) next false kept some h is t f e = absurd (let none = f refl in let one : length kept ≡ length (take N (b ∷ front)) = ap length is in omega (arith, none, one, some, length-take N (b ∷ front)))

pub Taken_end : (N : ℕ) (first left next : Option (List ℕ)) (byte : Option ℕ) (turns : ℕ) (found : Bool) (kept : List ℕ) → 0 < N → IfSome first (λ xs. Taken N xs turns kept left)
    → byte ≡ None → Gives byte left next → (found ≡ true → 0 < length kept) → (found ≡ false → length kept ≡ 0) → IfSome first (λ xs. TakesLine N found xs kept next)
Taken_end N None left next byte turns found kept some t e h y n = tt
Taken_end N (Some xs) left next byte turns found kept some t e h y n =
    let g = gives None left next t.rest t.left_is (subst (λ f. Gives f left next) e h) in
    let none = ends t.rest g.0 in
    let whole : xs ≡ t.front = t.parts ∙ (ap (λ r. t.front ++ r) none ∙ append-nil t.front) in
    subst (λ ys. TakesLine N found ys kept next) (sym whole)
    (last N t.front next found kept some t.no_feed t.kept_is y n (g.1 ∙ ap (λ r. Some (drop 1 r)) none))
