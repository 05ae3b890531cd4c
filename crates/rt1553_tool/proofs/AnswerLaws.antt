-- Laws of lines of words that are answered one after the other.
use Rattle.std.proofs.Common.{ℕ, ◌≡◌, ◌∙◌, ◌+◌, ◌<◌, ◌≤◌, nat_le, nat_lt, Bool, true, false, ◌&&◌, cond, List, [], ◌∷◌, ◌++◌, Option, Some, None, Err, IfSome, length, take, flat_map, refl, sym, ap, subst, arith, append_assoc, append-nil, ⊎_elim}
use Rattle.std.proofs.lemmas.Bool.{cases_lt}
use Rattle.std.proofs.lemmas.Bool.Decides.{nat_tests}
use Rattle.std.proofs.lemmas.List.{take_all, length-take}
use Rattle.std.proofs.lemmas.List.Concat.{flat_map-append}
use Rattle.std.specs.Io.KnownBytes.{Appends}
use Rattle.std.proofs.KnownBytes.{Appends-nil, Appends-trans}
use Rattle.bus_word.specs.Word.{bit_of}
use Rattle.script_lines.specs.Text.{lines_of}
use Rattle.rt1553_tool.specs.WordLines.{word_line}
use Rattle.rt1553_tool.specs.WordTexts.{shown_byte, is_comment, is_passed, answer_by, without_return, ended_word_line, word_answer, word_answers, is_fault, is_refused_line, refused_count}
use Rattle.rt1553_tool.specs.declared.word_lines.WordLineFault.TheVariants.{Long}
use Rattle.rt1553_tool.specs.inner.Input.{TakesLine}
use Rattle.rt1553_tool.specs.inner.Told.{TellsLine}

-- ---- a line that is too long

long_passed : (line : List ℕ) → 128 < length line → is_passed line ≡ false
long_passed line long = let t : nat_le (length line) 128 ≡ false = grind (arith, nat_tests) in ap (λ b. b && is_comment line) t

long_word : (line : List ℕ) → 128 < length line → ended_word_line line ≡ Err Long
long_word line long = let t : nat_lt 128 (length line) ≡ true = grind (arith, nat_tests) in ap (λ b. cond b (Err Long) (word_line (without_return line))) t

long_answer : (line : List ℕ) → 128 < length line → word_answer line ≡ answer_by (Err Long) ++ 10 ∷ []
long_answer line long =
    ap (λ b. cond b (flat_map shown_byte line) (answer_by (ended_word_line line)) ++ 10 ∷ []) (long_passed line long)
    ∙ ap (λ r. answer_by r ++ 10 ∷ []) (long_word line long)

long_refused : (line : List ℕ) → 128 < length line → is_refused_line line ≡ true
long_refused line long = ap (λ b. cond b false (is_fault (ended_word_line line))) (long_passed line long) ∙ ap is_fault (long_word line long)

-- the first 129 bytes of a line are answered as the line
kept_answer : (line : List ℕ) → word_answer (take 129 line) ≡ word_answer line
kept_answer line = ⊎_elim
    (λ short. ap word_answer (take_all 129 line (omega (arith, short))))
    (λ long. long_answer (take 129 line) (omega (arith, long, length-take 129 line)) ∙ sym (long_answer line (omega (arith, long))))
    (cases_lt (length line) 130)

kept_refused : (line : List ℕ) → is_refused_line (take 129 line) ≡ is_refused_line line
kept_refused line = ⊎_elim
    (λ short. ap is_refused_line (take_all 129 line (omega (arith, short))))
    (λ long. long_refused (take 129 line) (omega (arith, long, length-take 129 line)) ∙ sym (long_refused line (omega (arith, long))))
    (cases_lt (length line) 130)

-- ---- one line

pub TellsLine_one : (first left old new : Option (List ℕ)) (kept line : List ℕ) (found refused : Bool) → found ≡ true → IfSome first (λ xs. TakesLine 129 found xs kept left) → line ≡ kept
    → (refused ≡ is_refused_line line) × Appends old new (word_answer line) → IfSome first (λ xs. TellsLine old new (Some refused) xs left)
TellsLine_one None left old new kept line found refused e t is told = tt
TellsLine_one (Some xs) left old new kept line found refused e h is told =
    let t = subst (λ b. TakesLine 129 b xs kept left) e h in
    let front = is ∙ t.3 in (
      t.0,
      t.1,
      t.2,
      t.4,
      t.5,
      told.0 ∙ (ap is_refused_line front ∙ kept_refused t.0),
      subst (Appends old new) (ap word_answer front ∙ kept_answer t.0) told.1,
    )

-- ---- several lines

-- what answers these lines was written, and they came from the front
pub record Told (old new : Option (List ℕ)) (refused turns : ℕ) (xs : List ℕ) (left : Option (List ℕ)) : Type 0 where
  pub lines : List (List ℕ)
  pub rest : List ℕ
  pub left_is : left ≡ Some rest
  pub parts : lines_of xs ≡ lines ++ lines_of rest
  pub count : turns + length rest ≤ length xs
  pub refused_is : refused ≡ refused_count lines
  pub wrote : Appends old new (word_answers lines)

pub Told_start : (left old : Option (List ℕ)) → IfSome left (λ xs. Told old old 0 0 xs left)
Told_start None old = tt
Told_start (Some xs) old = record { lines = []; rest = xs; left_is = refl; parts = refl; count = omega arith; refused_is = refl; wrote = Appends-nil old }

refused_more : (lines : List (List ℕ)) (line : List ℕ) → refused_count (lines ++ line ∷ []) ≡ refused_count lines + bit_of (is_refused_line line)
refused_more [] line = omega arith
refused_more (l ∷ lines) line = let others = refused_more lines line in omega (arith, others)

-- what is known of what is left
here : (P : List ℕ → Type 0) (left : Option (List ℕ)) (rest : List ℕ) → left ≡ Some rest → IfSome left P → P rest
here P left rest e h = subst (λ o. IfSome o P) e h

pub Told_more : (first left next old now new : Option (List ℕ)) (before after turns : ℕ) (found : Option Bool) (refused : Bool) → found ≡ Some refused → IfSome first (λ xs. Told old now before turns xs left)
    → IfSome left (λ ys. TellsLine now new found ys next) → after ≡ before + bit_of refused → IfSome first (λ xs. Told old new after (turns + 1) xs next)
Told_more None left next old now new before after turns found refused e t h counted = tt
Told_more (Some xs) left next old now new before after turns found refused e t h counted =
    let g = subst (λ f. TellsLine now new f t.rest next) e (here (λ ys. TellsLine now new found ys next) left t.rest t.left_is h) in
    let count = t.count in
    let less = g.4 in
    record {
      lines = t.lines ++ g.0 ∷ [];
      rest = g.1;
      left_is = g.3;
      parts = t.parts ∙ (ap (λ ls. t.lines ++ ls) g.2 ∙ sym (append_assoc t.lines (g.0 ∷ []) (lines_of g.1)));
      count = omega (arith, count, less);
      refused_is = counted ∙ (ap (λ n. n + bit_of refused) t.refused_is ∙ (ap (λ b. refused_count t.lines + bit_of b) g.5 ∙ sym (refused_more t.lines g.0)));
      wrote = subst (Appends old new) (ap (λ x. word_answers t.lines ++ x) (sym (append-nil (word_answer g.0))) ∙ sym (flat_map-append word_answer t.lines (g.0 ∷ [])))
          (Appends-trans old now new (word_answers t.lines) (word_answer g.0) t.wrote g.6);
    }

no-lines : lines_of [] ≡ []
unfolding lines_of
no-lines = refl

pub Told_end : (first left next old now new : Option (List ℕ)) (refused turns : ℕ) (found : Option Bool) → found ≡ None → IfSome first (λ xs. Told old now refused turns xs left)
    → IfSome left (λ ys. TellsLine now new found ys next) → IfSome first (λ xs. (refused ≡ refused_count (lines_of xs)) × Appends old new (word_answers (lines_of xs)))
Told_end None left next old now new refused turns found e t h = tt
Told_end (Some xs) left next old now new refused turns found e t h =
    let g = subst (λ f. TellsLine now new f t.rest next) e (here (λ ys. TellsLine now new found ys next) left t.rest t.left_is h) in
    let all : t.lines ≡ lines_of xs = sym (t.parts ∙ (ap (λ r. t.lines ++ lines_of r) g.0 ∙ (ap (λ ls. t.lines ++ ls) no-lines ∙ append-nil t.lines))) in
    (t.refused_is ∙ ap refused_count all, subst (λ w. Appends old w (word_answers (lines_of xs))) (sym g.1) (subst (λ ls. Appends old now (word_answers ls)) all t.wrote))

pub bit_small : (b : Bool) → bit_of b ≤ 1
bit_small true = omega arith
bit_small false = omega arith
