-- What pieces of a script say that states its answers, one after the other.
use Rattle.std.proofs.Common.{ℕ, ◌≡◌, ◌∙◌, ◌+◌, ◌<◌, ◌≤◌, List, [], ◌∷◌, ◌++◌, None, Ok, length, sym, ap, append_assoc, append-nil, false}
use Rattle.script_lines.specs.Text.{lines_of, NoLineFeed}
use Rattle.script_lines.proofs.LineLaws.{lines-line}
use Rattle.rt1553_verify.specs.Stated.{StatedEvent, Latest, ended, all_stated, line_says, then_events, then_lines, stated_by, stated_within}
use Rattle.rt1553_verify.proofs.StatedLaws.{bounded-short, stated-line, then-none, then-twice, stated-none}

pub feeds-append : (xs ys : List ℕ) → NoLineFeed xs → NoLineFeed ys → NoLineFeed (xs ++ ys)
feeds-append [] ys a b = b
feeds-append (x ∷ xs) ys a b = (a.0, feeds-append xs ys a.1 b)

-- In a script of at most `most` lines, after n lines and this latest event, the text says these events, whatever follows it, and
-- then m lines are behind, and this event is the latest.
pub record Tells (most n m : ℕ) (text : List ℕ) (latest later : Latest) (events : List StatedEvent) : Type 0 where
  pub each : (rest : List ℕ) → stated_by false most n latest (lines_of (text ++ rest)) ≡ then_events events (stated_by false most m later (lines_of rest))

pub Tells-nil : (most n : ℕ) (latest : Latest) → Tells most n n [] latest latest []
Tells-nil most n latest = record { each = λ rest. sym (then-none (stated_by false most n latest (lines_of rest))) }

pub Tells-trans : {most n m k : ℕ} {text more : List ℕ} {a b c : Latest} {es fs : List StatedEvent}
    → Tells most n m text a b es → Tells most m k more b c fs → Tells most n k (text ++ more) a c (es ++ fs)
Tells-trans {most = most} {n = n} {k = k} {text = text} {more = more} {a = a} {c = c} {es = es} {fs = fs} p q = record {
  each = λ rest. ap (λ xs. stated_by false most n a (lines_of xs)) (append_assoc text more rest)
      ∙ p.each (more ++ rest) ∙ ap (then_events es) (q.each rest) ∙ then-twice es fs (stated_by false most k c (lines_of rest));
}

-- one whole line
pub Tells-line : (most n : ℕ) (line : List ℕ) (latest later : Latest) (es : List StatedEvent) → n < most → length line ≤ 64 → NoLineFeed line
    → line_says false (n + 1) latest line ≡ Ok (record { events = es; latest = later }) → Tells most n (n + 1) (line ++ 10 ∷ []) latest later es
Tells-line most n line latest later es few short feeds says = record {
  each = λ rest. ap (λ xs. stated_by false most n latest (lines_of xs)) (append_assoc line (10 ∷ []) rest)
      ∙ ap (stated_by false most n latest) (lines-line line rest feeds) ∙ stated-line false most n latest line (lines_of rest) few
      ∙ ap (λ s. then_lines s (λ l. stated_by false most (n + 1) l (lines_of rest))) (bounded-short false (n + 1) latest line short ∙ says);
}

pub Tells-same : {most n m : ℕ} {text : List ℕ} {a b : Latest} {es : List StatedEvent} (other : List ℕ) → other ≡ text → Tells most n m text a b es → Tells most n m other a b es
Tells-same {most = most} {n = n} {a = a} other is p = record { each = λ rest. ap (λ xs. stated_by false most n a (lines_of (xs ++ rest))) is ∙ p.each rest }

-- all of a text
pub Tells-all : {most m : ℕ} {text : List ℕ} {later : Latest} {es : List StatedEvent} → Tells most 0 m text None later es → all_stated later ≡ Ok (ended later) → stated_within false most text ≡ Ok (es ++ ended later)
Tells-all {most = most} {m = m} {text = text} {later = later} {es = es} p last =
    ap (λ xs. stated_by false most 0 None (lines_of xs)) (sym (append-nil text)) ∙ p.each [] ∙ ap (then_events es) (stated-none false most m later ∙ last)
