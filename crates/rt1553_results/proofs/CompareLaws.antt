-- What is told of rows, one more after others.
use Rattle.std.proofs.Common.{◌≡◌, ℕ, zero, suc, ◌+◌, ◌≤◌, ◌==◌, true, Bool, Option, Some, None, option_to_list, List, [], ◌∷◌, ◌++◌, length, map, refl, sym, ap, ◌∙◌, append_assoc, append-nil, arith}
use Rattle.std.proofs.lemmas.Bool.Decides.{nat_tests}
use Rattle.std.proofs.lemmas.Grind.{flat_map-append}
use Rattle.bus_legal.specs.Description.{Description}
use Rattle.rt1553_verify.specs.declared.replies.WrongReply.{WrongReply}
use Rattle.rt1553_verify.specs.declared.replies.NumberRange.{NumberRange}
use Rattle.rt1553_results.specs.declared.comparison.Comparison.{Comparison}
use Rattle.rt1553_results.specs.declared.rows.Rows.{Rows}
use Rattle.rt1553_results.specs.Rows.{Answered, rows_of}
use Rattle.rt1553_results.specs.Left.{AreLeft}
use Rattle.rt1553_results.specs.Compare.{told_reply, replies_told, wrong_replies, missing_at, missing, counted, numbers_in, TellsResults}

pub counted_one : (n : ℕ) → counted n 1 ≡ n ∷ []
unfolding counted
counted_one n = refl

counted_more : (first n : ℕ) → counted first (suc n) ≡ counted first n ++ (first + n) ∷ []
unfolding counted
counted_more first zero = let same : first ≡ first + 0 = omega arith in ap (λ k. k ∷ []) same
counted_more first (suc n) =
    let same : first + 1 + n ≡ first + suc n = omega arith in
    ap (λ xs. first ∷ xs) (counted_more (first + 1) n) ∙ ap (λ k. first ∷ (counted (first + 1) n ++ k ∷ [])) same

pub counted_next : (first n next : ℕ) → next ≡ first + n → counted first (n + 1) ≡ counted first n ++ next ∷ []
counted_next first n next is =
    let same : n + 1 ≡ suc n = omega arith in
    ap (counted first) same ∙ (counted_more first n ∙ ap (λ k. counted first n ++ k ∷ []) (sym is))

numbers_push : (xs : List NumberRange) (x : NumberRange) → numbers_in (xs ++ x ∷ []) ≡ numbers_in xs ++ counted x.first x.count
numbers_push xs x =
    flat_map-append (λ (range : NumberRange). counted range.first range.count) xs (x ∷ []) ∙ ap (λ ys. numbers_in xs ++ ys) (append-nil (counted x.first x.count))

pub numbers_alone : (old mid new : List NumberRange) (alone : NumberRange) → mid ≡ old → new ≡ mid ++ alone ∷ [] → alone.count ≡ 1 → numbers_in new ≡ numbers_in old ++ alone.first ∷ []
numbers_alone old mid new alone same is one =
    ap numbers_in (is ∙ ap (λ xs. xs ++ alone ∷ []) same) ∙ (numbers_push old alone ∙ ap (λ ys. numbers_in old ++ ys) (ap (counted alone.first) one ∙ counted_one alone.first))

pub popped_none : (old mid : List NumberRange) (o : Option NumberRange) → old ≡ mid ++ option_to_list o → o ≡ None → mid ≡ old
popped_none old mid o is none = sym (is ∙ (ap (λ o. mid ++ option_to_list o) none ∙ append-nil mid))

pub popped_some : (old mid : List NumberRange) (o : Option NumberRange) (last : NumberRange) → old ≡ mid ++ option_to_list o → o ≡ Some last → mid ++ last ∷ [] ≡ old
popped_some old mid o last is some = sym (is ∙ ap (λ o. mid ++ option_to_list o) some)

-- nothing is told, and nothing is missing
pub none_missing : (ns : List NumberRange) → numbers_in ns ≡ [] → length ns ≡ 0
unfolding counted
none_missing [] e = refl
none_missing (n ∷ ns) e = by_count n.first n.count n.some e
  where
    by_count : (first count : ℕ) → 1 ≤ count → counted first count ++ numbers_in ns ≡ [] → suc (length ns) ≡ 0
    by_count first zero some e = absurd (omega arith)
    by_count first (suc count) some e = cc e

pub no_missing : (ns : List NumberRange) → length ns ≡ 0 → numbers_in ns ≡ []
no_missing [] e = refl
no_missing (n ∷ ns) e = absurd (omega arith)

pub no_told : (ds : List WrongReply) → length ds ≡ 0 → map told_reply ds ≡ []
no_told [] e = refl
no_told (d ∷ ds) e = absurd (omega arith)

-- What was told of the rows before number n, and that with what is left it is all that is to be told.
pub record SoFar (P : Description) (came : ℕ → Option (List ℕ)) (rows : Rows) (c : Comparison) : Type 0 where
  pub left : List Answered
  pub next : ℕ
  pub are_left : AreLeft rows next left
  pub number : c.total + 1 ≡ next
  pub total : c.total + length left ≡ length (rows_of P)
  pub differ : map told_reply c.wrong_replies.items ++ wrong_replies P came next left ≡ wrong_replies P came 1 (rows_of P)
  pub miss : numbers_in c.missing.items ++ missing came next left ≡ missing came 1 (rows_of P)

pub so_far_more : (P : Description) (came : ℕ → Option (List ℕ)) (rows rows' : Rows) (c c' : Comparison) (row : Answered) (number : ℕ) (rest : List Answered) (s : SoFar P came rows c)
    → number ≡ s.next → s.left ≡ row ∷ rest → AreLeft rows' (s.next + 1) rest
    → map told_reply c'.wrong_replies.items ≡ map told_reply c.wrong_replies.items ++ replies_told P number row (came number)
    → numbers_in c'.missing.items ≡ numbers_in c.missing.items ++ missing_at number (came number)
    → c'.total ≡ number
    → SoFar P came rows' c'
unfolding wrong_replies missing
so_far_more P came rows rows' c c' row number rest s is split after told_more missing_more counts = record {
  left = rest;
  next = s.next + 1;
  are_left = after;
  number = ap (λ n. n + 1) (counts ∙ is);
  total =
      (let long : length s.left ≡ suc (length rest) = ap length split in
      let before : c.total + length s.left ≡ length (rows_of P) = s.total in
      let at : c.total + 1 ≡ s.next = s.number in
      omega (arith, counts, is, long, before, at));
  differ =
      ap (λ xs. xs ++ wrong_replies P came (s.next + 1) rest) (told_more ∙ ap (λ n. map told_reply c.wrong_replies.items ++ replies_told P n row (came n)) is)
      ∙ append_assoc (map told_reply c.wrong_replies.items) (replies_told P s.next row (came s.next)) (wrong_replies P came (s.next + 1) rest)
      ∙ ap (λ left. map told_reply c.wrong_replies.items ++ wrong_replies P came s.next left) (sym split)
      ∙ s.differ;
  miss =
      ap (λ xs. xs ++ missing came (s.next + 1) rest) (missing_more ∙ ap (λ n. numbers_in c.missing.items ++ missing_at n (came n)) is)
      ∙ append_assoc (numbers_in c.missing.items) (missing_at s.next (came s.next)) (missing came (s.next + 1) rest)
      ∙ ap (λ left. numbers_in c.missing.items ++ missing came s.next left) (sym split)
      ∙ s.miss;
}

-- all rows were told of
pub so_far_all : (P : Description) (came : ℕ → Option (List ℕ)) (rows : Rows) (c : Comparison) (s : SoFar P came rows c) → s.left ≡ [] → TellsResults P came c
unfolding wrong_replies missing
so_far_all P came rows c s over = record {
  total =
      (let none : length s.left ≡ 0 = ap length over in
      let before : c.total + length s.left ≡ length (rows_of P) = s.total in
      omega (arith, none, before));
  differ = sym (append-nil (map told_reply c.wrong_replies.items)) ∙ (ap (λ left. map told_reply c.wrong_replies.items ++ wrong_replies P came s.next left) (sym over) ∙ s.differ);
  miss = sym (append-nil (numbers_in c.missing.items)) ∙ (ap (λ left. numbers_in c.missing.items ++ missing came s.next left) (sym over) ∙ s.miss);
}

pub passes_by : (b : Bool) (ds : List WrongReply) (ns : List NumberRange) → length ds ≡ 0 → b ≡ (length ns == 0) → (b ≡ true → (map told_reply ds ≡ []) × (numbers_in ns ≡ [])) × ((map told_reply ds ≡ []) × (numbers_in ns ≡ []) → b ≡ true)
passes_by b ds ns none is = (
  λ yes. (no_told ds none, no_missing ns (let zero : (length ns == 0) ≡ true = sym is ∙ yes in grind (arith, nat_tests))),
  λ both. is ∙ ap (λ n. n == 0) (none_missing ns both.1),
)
