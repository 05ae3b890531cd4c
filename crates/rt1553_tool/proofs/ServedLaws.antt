-- Laws of lines that a terminal takes one after the other.
use Rattle.std.proofs.Common.{ℕ, ◌≡◌, ◌∙◌, ◌+◌, ◌<◌, ◌≤◌, nat_lt, Bool, true, false, cond, List, [], ◌∷◌, ◌++◌, Option, Some, None, Err, IfSome, length, take, refl, sym, ap, subst, arith, append_assoc, append-nil, ⊎_elim}
use Rattle.std.proofs.lemmas.Bool.{cases_lt}
use Rattle.std.proofs.lemmas.Bool.Decides.{nat_tests}
use Rattle.std.proofs.lemmas.List.{take_all, length-take}
use Rattle.std.specs.Io.KnownBytes.{Appends, Keeps}
use Rattle.std.proofs.KnownBytes.{Appends-nil, Appends-trans, Appends-kept}
use Rattle.bus_word.specs.declared.cell.Cell.{Cell}
use Rattle.bus_legal.specs.Description.{Description}
use Rattle.terminal_rules.specs.declared.event.Event.{Event}
use Rattle.bus_terminal.specs.declared.terminal.Terminal.{Terminal}
use Rattle.bus_terminal.specs.Stands.{StandsAt}
use Rattle.script_lines.specs.Line.{meaning}
use Rattle.script_lines.specs.Text.{lines_of}
use Rattle.rt1553_tool.specs.Session.{live_meaning, history_after_line, AnswersLine, history_after_lines, AnswersLines}
use Rattle.rt1553_tool.specs.inner.Input.{TakesLine}
use Rattle.rt1553_tool.specs.inner.Served.{Served, ServesLine}

-- ---- the history and the text

history_append : (lines more : List (List ℕ)) (h : List Event) → history_after_lines (lines ++ more) h ≡ history_after_lines more (history_after_lines lines h)
unfolding history_after_lines
history_append [] more h = refl
history_append (line ∷ lines) more h = history_append lines more (history_after_line (live_meaning line) h)

answers_append : (P : Description) (h : List Event) (lines more : List (List ℕ)) (text others : List ℕ)
    → AnswersLines P h lines text → AnswersLines P (history_after_lines lines h) more others → AnswersLines P h (lines ++ more) (text ++ others)
unfolding history_after_lines AnswersLines
answers_append P h [] more text others p q = subst (λ t. AnswersLines P h more (t ++ others)) (sym p) q
answers_append P h (line ∷ lines) more text others p q = (
  p.0,
  p.1 ++ others,
  p.2,
  answers_append P (history_after_line (live_meaning line) h) lines more p.1 others p.3 q,
  ap (λ t. t ++ others) p.4 ∙ append_assoc p.0 (46 ∷ 10 ∷ p.1) others,
)

history_one : (line : List ℕ) (h : List Event) → history_after_lines (line ∷ []) h ≡ history_after_line (live_meaning line) h
unfolding history_after_lines
history_one line h = refl

answers_one : (P : Description) (h : List Event) (line answer : List ℕ) → AnswersLine P h (live_meaning line) answer → AnswersLines P h (line ∷ []) (answer ++ 46 ∷ 10 ∷ [])
unfolding AnswersLines
answers_one P h line answer p = (answer, [], p, refl, refl)

long_meaning : (line : List ℕ) → 64 < length line → live_meaning line ≡ Err (record {})
long_meaning line long = let t : nat_lt 64 (length line) ≡ true = grind (arith, nat_tests) in ap (λ b. cond b (Err (record {})) (meaning line)) t

-- the first 65 bytes of a line mean what the line means
kept_meaning : (line : List ℕ) → live_meaning (take 65 line) ≡ live_meaning line
kept_meaning line = ⊎_elim
    (λ short. ap live_meaning (take_all 65 line (omega (arith, short))))
    (λ long. long_meaning (take 65 line) (omega (arith, long, length-take 65 line)) ∙ sym (long_meaning line (omega (arith, long))))
    (cases_lt (length line) 66)

answers_kept : (P : Description) (h : List Event) (line text : List ℕ) → AnswersLines P h (take 65 line ∷ []) text → AnswersLines P h (line ∷ []) text
unfolding AnswersLines
answers_kept P h line text p = (p.0, p.1, subst (λ m. AnswersLine P h m p.0) (kept_meaning line) p.2, p.3, p.4)

-- ---- what is served

module _ {L W : Type 0} {is_legal : L → Cell → Bool} {written : W → Option (List ℕ)} where
  pub Served_nil : (a : Terminal L × W) → Served is_legal written a a []
  unfolding history_after_lines AnswersLines
  Served_nil a = record { at = λ P h s. s; wrote = λ P h s. ([], refl, Appends-nil (written a.1)) }

  Served_trans : {a b c : Terminal L × W} {lines more : List (List ℕ)} → Served is_legal written a b lines → Served is_legal written b c more → Served is_legal written a c (lines ++ more)
  Served_trans {a = a} {b = b} {c = c} {lines = lines} {more = more} p q = record {
    at = λ P h s. subst (λ g. StandsAt is_legal P g c.0) (sym (history_append lines more h)) (q.at P (history_after_lines lines h) (p.at P h s));
    wrote = λ P h s.
        let first = p.wrote P h s in
        let second = q.wrote P (history_after_lines lines h) (p.at P h s) in (
          first.0 ++ second.0,
          answers_append P h lines more first.0 second.0 first.1 second.1,
          Appends-trans (written a.1) (written b.1) (written c.1) first.0 second.0 first.2 second.2,
        );
  }

  -- a line, what answers it, a dot, and a flush
  pub Served_line : (t u : Terminal L) (w x y z : W) (line bytes : List ℕ)
      → ((P : Description) (h : List Event) → StandsAt is_legal P h t → StandsAt is_legal P (history_after_line (live_meaning line) h) u)
      → ((P : Description) (h : List Event) → StandsAt is_legal P h t → AnswersLine P h (live_meaning line) bytes)
      → Appends (written w) (written x) bytes → Appends (written x) (written y) (46 ∷ 10 ∷ []) → Keeps (written y) (written z)
      → Served is_legal written (t, w) (u, z) (line ∷ [])
  Served_line t u w x y z line bytes stands answers first dot kept = record {
    at = λ P h s. subst (λ g. StandsAt is_legal P g u) (sym (history_one line h)) (stands P h s);
    wrote = λ P h s. (
      bytes ++ 46 ∷ 10 ∷ [],
      answers_one P h line bytes (answers P h s),
      Appends-kept (written w) (written y) (written z) _ (Appends-trans (written w) (written x) (written y) bytes (46 ∷ 10 ∷ []) first dot) kept,
    );
  }

  -- the first 65 bytes of a line are served as the line
  Served_kept : (a b : Terminal L × W) (line : List ℕ) → Served is_legal written a b (take 65 line ∷ []) → Served is_legal written a b (line ∷ [])
  Served_kept a b line p = record {
    at = λ P h s. subst (λ g. StandsAt is_legal P g b.0) (history_one (take 65 line) h ∙ (ap (λ m. history_after_line m h) (kept_meaning line) ∙ sym (history_one line h))) (p.at P h s);
    wrote = λ P h s. let wrote = p.wrote P h s in (wrote.0, answers_kept P h line wrote.0 wrote.1, wrote.2);
  }

  pub ServesLine_one : (first left : Option (List ℕ)) (a b : Terminal L × W) (kept line : List ℕ) (found : Bool) → found ≡ true
      → IfSome first (λ xs. TakesLine 65 found xs kept left) → line ≡ kept → Served is_legal written a b (line ∷ []) → IfSome first (λ xs. ServesLine is_legal written a b true xs left)
  ServesLine_one None left a b kept line found e h is p = tt
  ServesLine_one (Some xs) left a b kept line found e h is p =
      let t = subst (λ f. TakesLine 65 f xs kept left) e h in
      (t.0, t.1, t.2, t.4, t.5, Served_kept a b t.0 (subst (λ l. Served is_legal written a b (l ∷ [])) (is ∙ t.3) p))

-- these lines were served, and they came from the front
pub record Serving {L W : Type 0} (is_legal : L → Cell → Bool) (written : W → Option (List ℕ)) (a b : Terminal L × W) (turns : ℕ) (xs : List ℕ) (left : Option (List ℕ)) : Type 0 where
  pub lines : List (List ℕ)
  pub rest : List ℕ
  pub left_is : left ≡ Some rest
  pub parts : lines_of xs ≡ lines ++ lines_of rest
  pub count : turns + length rest ≤ length xs
  pub served : Served is_legal written a b lines

-- what is known of what is left
here : (P : List ℕ → Type 0) (left : Option (List ℕ)) (rest : List ℕ) → left ≡ Some rest → IfSome left P → P rest
here P left rest e h = subst (λ o. IfSome o P) e h

no-lines : lines_of [] ≡ []
unfolding lines_of
no-lines = refl

module _ {L W : Type 0} (is_legal : L → Cell → Bool) (written : W → Option (List ℕ)) where
  pub Serving_start : (left : Option (List ℕ)) (a : Terminal L × W) → IfSome left (λ xs. Serving is_legal written a a 0 xs left)
  Serving_start None a = tt
  Serving_start (Some xs) a = record { lines = []; rest = xs; left_is = refl; parts = refl; count = omega arith; served = Served_nil a }

  pub Serving_more : (first left next : Option (List ℕ)) (a b c : Terminal L × W) (turns : ℕ) (found : Bool) → found ≡ true → IfSome first (λ xs. Serving is_legal written a b turns xs left)
      → IfSome left (λ ys. ServesLine is_legal written b c found ys next) → IfSome first (λ xs. Serving is_legal written a c (turns + 1) xs next)
  Serving_more None left next a b c turns found e t h = tt
  Serving_more (Some xs) left next a b c turns found e t h =
      let g = subst (λ f. ServesLine is_legal written b c f t.rest next) e (here (λ ys. ServesLine is_legal written b c found ys next) left t.rest t.left_is h) in
      let count = t.count in
      let less = g.4 in
      record {
        lines = t.lines ++ g.0 ∷ [];
        rest = g.1;
        left_is = g.3;
        parts = t.parts ∙ (ap (λ ls. t.lines ++ ls) g.2 ∙ sym (append_assoc t.lines (g.0 ∷ []) (lines_of g.1)));
        count = omega (arith, count, less);
        served = Served_trans t.served g.5;
      }

  pub Serving_end : (first left next : Option (List ℕ)) (a b c : Terminal L × W) (turns : ℕ) (found : Bool) → found ≡ false → IfSome first (λ xs. Serving is_legal written a b turns xs left)
      → IfSome left (λ ys. ServesLine is_legal written b c found ys next)
      → IfSome first (λ xs. (P : Description) (h : List Event) → StandsAt is_legal P h a.0 → (text : List ℕ) × AnswersLines P h (lines_of xs) text × Appends (written a.1) (written c.1) text)
  Serving_end None left next a b c turns found e t h = tt
  Serving_end (Some xs) left next a b c turns found e t h =
      let g = subst (λ f. ServesLine is_legal written b c f t.rest next) e (here (λ ys. ServesLine is_legal written b c found ys next) left t.rest t.left_is h) in
      let all : t.lines ≡ lines_of xs = sym (t.parts ∙ (ap (λ r. t.lines ++ lines_of r) g.0 ∙ (ap (λ ls. t.lines ++ ls) no-lines ∙ append-nil t.lines))) in
      λ P k s. subst (λ d. (text : List ℕ) × AnswersLines P k (lines_of xs) text × Appends (written a.1) (written d.1) text) (sym g.1)
      (subst (λ ls. (text : List ℕ) × AnswersLines P k ls text × Appends (written a.1) (written b.1) text) all (t.served.wrote P k s))
