-- Words that an answer states, read: however they stand on lines, they follow one another.
use Rattle.std.proofs.Common.{ℕ, zero, suc, ◌≡◌, ◌∙◌, ◌+◌, ◌*◌, ◌-◌, ◌≤◌, true, false, not, ◌&&◌, List, [], ◌∷◌, ◌++◌, Some, None, Ok, length, flat_map, refl, sym, ap, subst, arith, append_assoc, append-nil, length-append, codes, if◌then◌else◌}
use Rattle.script_lines.specs.Digits.{digits_of}
use Rattle.script_lines.specs.Text.{NoLineFeed}
use Rattle.script_lines.specs.Transcript.{word_field}
use Rattle.script_lines.proofs.TranscriptLaws.{four_digits}
use Rattle.rt1553_verify.specs.Stated.{StatedEvent, Latest, stays, or_misplaced, is_empty, says_bytes, goes_on, line_says}
use Rattle.rt1553_acceptance.specs.Text.{fields_stated}
use Rattle.rt1553_acceptance.proofs.Pieces.{Tells, Tells-line, Tells-trans, Tells-same, feeds-append}
use Rattle.rt1553_acceptance.proofs.Digits.{feeds-digits}
use Rattle.rt1553_acceptance.proofs.Small.{IsSmall, small-append, small-digits, small-field}

-- the event with this answer
abbrev pub answered : StatedEvent → List ℕ → StatedEvent
answered s answer = record s { answer = answer }

-- the line that begins with `front` says, by what follows, that the event's answer is `base` with that behind it
abbrev pub Adds : ℕ → Latest → StatedEvent → List ℕ → List ℕ → Type 0
Adds n latest s front base = (more : List ℕ) → IsSmall more → line_says false n latest (front ++ more) ≡ Ok (stays (Some (answered s (base ++ more))))

-- the words are read by these lines
abbrev pub AreAdded : ℕ → ℕ → List ℕ → Latest → StatedEvent → List ℕ → ℕ → Type 0
AreAdded most n text latest s answer high = (m : ℕ) × Tells most n m text latest (Some (answered s answer)) [] × (12 * m ≤ high)

-- a line that goes on with a word
goes_on-by : (n : ℕ) (s : StatedEvent) (base front more : List ℕ) → says_bytes s.matching ≡ true → is_empty base ≡ false → IsSmall (front ++ more)
    → line_says false n (Some (answered s base)) (codes "#+ " ++ (front ++ more)) ≡ Ok (stays (Some (answered s (base ++ 32 ∷ (front ++ more)))))
goes_on-by n s base front more bytes some small =
    ap (λ rest. or_misplaced n (goes_on (Some (answered s base)) rest)) small
    ∙ ap (λ b. or_misplaced n (if not b && says_bytes s.matching then Some (answered s (base ++ 32 ∷ (front ++ more))) else None)) some
    ∙ ap (λ b. or_misplaced n (if b then Some (answered s (base ++ 32 ∷ (front ++ more))) else None)) bytes

some-append : (xs ys : List ℕ) → is_empty xs ≡ false → is_empty (xs ++ ys) ≡ false
some-append [] ys some = absurd (cc)
some-append (x ∷ xs) ys some = refl

feeds-field : (w : ℕ) → NoLineFeed (word_field w)
feeds-field w = (λ e. absurd (omega (arith, e)), feeds-digits w)

feeds-lead : NoLineFeed (codes "#+ ")
feeds-lead = (λ e. absurd (omega (arith, e)), (λ e. absurd (omega (arith, e)), (λ e. absurd (omega (arith, e)), tt)))

pub fields-added : (most n room : ℕ) (words front base : List ℕ) (latest : Latest) (s : StatedEvent)
    → says_bytes s.matching ≡ true → NoLineFeed front → length front + 5 * room ≤ 64 → room ≤ 11 → is_empty base ≡ false
    → 12 * (n + 1) + (length words + (11 - room)) ≤ 12 * most → Adds (n + 1) latest s front base
    → AreAdded most n (front ++ fields_stated room words) latest s (base ++ flat_map word_field words) (12 * (n + 1) + (length words + (11 - room)))
unfolding fields_stated
fields-added most n room [] front base latest s bytes feeds long low some few adds = (
  n + 1,
  Tells-line most n front latest (Some (answered s (base ++ []))) [] (omega (arith, few)) (omega (arith, long)) feeds
      (ap (line_says false (n + 1) latest) (sym (append-nil front)) ∙ adds [] refl),
  omega arith,
)
fields-added most n (suc room) (w ∷ words) front base latest s bytes feeds long low some few adds =
    let front' : List ℕ = front ++ word_field w in
    let base' : List ℕ = base ++ word_field w in
    let adds' : Adds (n + 1) latest s front' base' = λ more small.
    ap (line_says false (n + 1) latest) (append_assoc front (word_field w) more) ∙ adds (word_field w ++ more) (small-append (word_field w) more (small-field w) small)
    ∙ ap (λ answer. Ok (stays (Some (answered s answer)))) (sym (append_assoc base (word_field w) more)) in
    let p = fields-added most n room words front' base' latest s bytes (feeds-append front (word_field w) feeds (feeds-field w))
    (omega (arith, long, length-append front (word_field w), four_digits w)) (omega (arith, low)) (some-append base (word_field w) some) (omega (arith, few, low)) adds' in (
      p.0,
      Tells-same {m = p.0} _ (sym (append_assoc front (word_field w) (fields_stated room words)))
          (subst (λ answer. Tells most n p.0 (front' ++ fields_stated room words) latest (Some (answered s answer)) []) (append_assoc base (word_field w) (flat_map word_field words)) p.1),
      omega (arith, p.2, low),
    )
fields-added most n zero (w ∷ words) front base latest s bytes feeds long low some few adds =
    let front' : List ℕ = codes "#+ " ++ digits_of w in
    let base' : List ℕ = base ++ word_field w in
    let ends : Tells most n (n + 1) (front ++ 10 ∷ []) latest (Some (answered s base)) [] =
    Tells-line most n front latest (Some (answered s base)) [] (omega (arith, few)) (omega (arith, long)) feeds
    (ap (line_says false (n + 1) latest) (sym (append-nil front)) ∙ adds [] refl ∙ ap (λ answer. Ok (stays (Some (answered s answer)))) (append-nil base)) in
    let adds' : Adds (n + 1 + 1) (Some (answered s base)) s front' base' = λ more small.
    goes_on-by (n + 1 + 1) s base (digits_of w) more bytes some (small-append (digits_of w) more (small-digits w) small) ∙ ap (λ answer. Ok (stays (Some (answered s answer)))) (sym (append_assoc base (word_field w) more)) in
    let p = fields-added most (n + 1) 11 words front' base' (Some (answered s base)) s bytes (feeds-append (codes "#+ ") (digits_of w) feeds-lead (feeds-digits w))
    (omega (arith, length-append (codes "#+ ") (digits_of w), four_digits w)) (omega arith) (some-append base (word_field w) some) (omega (arith, few)) adds' in (
      p.0,
      Tells-same {m = p.0} _ (sym (append_assoc front (10 ∷ []) (front' ++ fields_stated 11 words)))
          (subst (λ answer. Tells most n p.0 ((front ++ 10 ∷ []) ++ (front' ++ fields_stated 11 words)) latest (Some (answered s answer)) []) (append_assoc base (word_field w) (flat_map word_field words)) (Tells-trans ends p.1)),
      omega (arith, p.2),
    )
