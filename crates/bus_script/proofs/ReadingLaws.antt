-- Laws of what a script says, piece by piece.
use Rattle.std.proofs.Common.{ℕ, ◌≡◌, ◌<◌, ◌≤◌, ◌+◌, List, [], ◌∷◌, ◌++◌, length, refl, sym, ap, ◌∙◌, arith, append_assoc}
use Rattle.std.proofs.lemmas.Grind.{common_steps}
use Rattle.std.proofs.lemmas.Bool.Decides.{nat_tests}
use Rattle.terminal_rules.specs.declared.event.Event.{Event}
use Rattle.bus_script.specs.declared.fault.RunFault.{RunFault}
use Rattle.bus_script.specs.declared.fault.RunFault.TheVariants.{LongLine, TooLong}
use Rattle.script_lines.specs.Text.{lines_of, NoLineFeed}
use Rattle.script_lines.specs.Line.{meaning}
use Rattle.bus_script.specs.Reading.{Reading, adds, stops, then_reads, reading}
use Rattle.bus_script.specs.inner.Lines.{ReadsLines, Faults, IsRefused}
use Rattle.script_lines.proofs.LineLaws.{EndsLine-append, EndsLine-line, lines-line, lines-some, lines-front}

pub adds-adds : (es fs : List Event) (r : Reading) → adds es (adds fs r) ≡ adds (es ++ fs) r
adds-adds es fs r = ap (λ xs. record { events = xs; fault = r.fault }) (sym (append_assoc es fs r.events))

pub ReadsLines-nil : (n : ℕ) → ReadsLines n [] [] n
ReadsLines-nil n = record { ends = tt; each = λ rest. refl }

pub ReadsLines-trans : {n m k : ℕ} {whole more : List ℕ} {es fs : List Event}
    → ReadsLines n whole es m → ReadsLines m more fs k → ReadsLines n (whole ++ more) (es ++ fs) k
ReadsLines-trans {n = n} {m = m} {k = k} {whole = whole} {more = more} {es = es} {fs = fs} p q = record {
  ends = EndsLine-append whole more p.ends q.ends;
  each = λ rest. ap (λ xs. reading n (lines_of xs)) (append_assoc whole more rest)
      ∙ p.each (more ++ rest) ∙ ap (adds es) (q.each rest) ∙ adds-adds es fs (reading k (lines_of rest));
}

pub ReadsLines-Faults : {n m : ℕ} {whole more : List ℕ} {es fs : List Event} {f : RunFault}
    → ReadsLines n whole es m → Faults m more fs f → Faults n (whole ++ more) (es ++ fs) f
ReadsLines-Faults {n = n} {whole = whole} {more = more} {es = es} {fs = fs} {f = f} p q = record {
  each = λ rest. ap (λ xs. reading n (lines_of xs)) (append_assoc whole more rest)
      ∙ p.each (more ++ rest) ∙ ap (adds es) (q.each rest) ∙ adds-adds es fs (stops f);
}

-- a line in its place and of its length
pub reading-line : (n : ℕ) (line : List ℕ) (lines : List (List ℕ)) → n < 1048576 → length line ≤ 64
    → reading n (line ∷ lines) ≡ then_reads (meaning line) n (reading (n + 1) lines)
unfolding reading
reading-line n line lines a b = grind (arith, nat_tests)

pub reading-too_long : (n : ℕ) (line : List ℕ) (lines : List (List ℕ)) → 1048576 ≤ n
    → reading n (line ∷ lines) ≡ stops TooLong
unfolding reading
reading-too_long n line lines a = grind (arith, nat_tests)

pub reading-long_line : (n : ℕ) (line : List ℕ) (lines : List (List ℕ)) → n < 1048576 → 64 < length line
    → reading n (line ∷ lines) ≡ stops (LongLine (n + 1))
unfolding reading
reading-long_line n line lines a b = grind (arith, nat_tests)

-- one whole line
pub ReadsLines-line : (n : ℕ) (line : List ℕ) (es : List Event) → n < 1048576 → length line ≤ 64 → NoLineFeed line
    → ((r : Reading) → then_reads (meaning line) n r ≡ adds es r) → ReadsLines n (line ++ 10 ∷ []) es (n + 1)
ReadsLines-line n line es a b c means = record {
  ends = EndsLine-line line;
  each = λ rest. ap (λ xs. reading n (lines_of xs)) (append_assoc line (10 ∷ []) rest)
      ∙ ap (reading n) (lines-line line rest c) ∙ reading-line n line (lines_of rest) a b
      ∙ means (reading (n + 1) (lines_of rest));
}

pub Faults-line : (n : ℕ) (line rest : List ℕ) (f : RunFault) → n < 1048576 → length line ≤ 64 → NoLineFeed line
    → IsRefused line n f → Faults n (line ++ 10 ∷ rest) [] f
Faults-line n line rest f a b c means = record {
  each = λ more. ap (λ xs. reading n (lines_of xs)) (append_assoc line (10 ∷ rest) more)
      ∙ ap (reading n) (lines-line line (rest ++ more) c) ∙ reading-line n line (lines_of (rest ++ more)) a b
      ∙ means (reading (n + 1) (lines_of (rest ++ more)));
}

pub Faults-too_long : (n b : ℕ) (bytes : List ℕ) → 1048576 ≤ n → Faults n (b ∷ bytes) [] TooLong
Faults-too_long n b bytes a = record {
  each = λ rest. let s = lines-some b (bytes ++ rest) in
      ap (reading n) s.2 ∙ reading-too_long n s.0 s.1 a;
}

pub Faults-long_line : (n : ℕ) (line rest : List ℕ) → n < 1048576 → 64 < length line → NoLineFeed line
    → Faults n (line ++ 10 ∷ rest) [] (LongLine (n + 1))
Faults-long_line n line rest a b c = record {
  each = λ more. ap (λ xs. reading n (lines_of xs)) (append_assoc line (10 ∷ rest) more)
      ∙ ap (reading n) (lines-line line (rest ++ more) c) ∙ reading-long_line n line (lines_of (rest ++ more)) a b;
}

-- a line that has no end yet, and is too long already
pub Faults-long_front : (n : ℕ) (front : List ℕ) → n < 1048576 → 64 < length front → NoLineFeed front
    → Faults n front [] (LongLine (n + 1))
Faults-long_front n [] a b c = absurd (omega arith)
Faults-long_front n (x ∷ front) a b c = record {
  each = λ rest. let s = lines-front x front rest c in
      ap (reading n) s.2
      ∙ reading-long_line n (x ∷ front ++ s.0) s.1 a (grind (arith, common_steps));
}

pub Faults-too_long_at : (n : ℕ) (bytes : List ℕ) → 1048576 ≤ n → 0 < length bytes → Faults n bytes [] TooLong
Faults-too_long_at n [] a b = absurd (omega arith)
Faults-too_long_at n (x ∷ bytes) a b = Faults-too_long n x bytes a
