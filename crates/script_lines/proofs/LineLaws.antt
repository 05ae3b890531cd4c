-- Laws of lines: the first line of a text, and the rest.
use Rattle.std.proofs.Common.{ℕ, zero, suc, ◌≡◌, ◌≢◌, ◌<◌, ◌≤◌, ◌+◌, ◌*◌, Option, Some, None, IfSome, option_map, Ok, codes, if◌then◌else◌, subst, List, [], ◌∷◌, ◌++◌, length, get_or, take, drop, drop-cons, length-take, take-append-drop, get_or-take, refl, sym, ap, ◌∙◌, arith, Bool, true, false, ◌==◌}
use Rattle.std.proofs.lemmas.Grind.{common_steps}
use Rattle.std.proofs.lemmas.Bool.Decides.{nat_tests}
use Rattle.std.proofs.lemmas.List.{take_more, drop-drop}
use Rattle.script_lines.specs.Text.{lines_of, onto_first, NoLineFeed, EndsLine}
use Rattle.bus_word.specs.declared.word.Kind.{Kind}
use Rattle.script_lines.specs.Digits.{word_of, digits_of}
use Rattle.std.specs.Str.{bytes_eq}
use Rattle.std.proofs.lemmas.Slice.Eq.{bytes_eq-Decides}
use Rattle.bus_word.specs.declared.word.Bus.{Bus}
use Rattle.bus_word.specs.declared.word.Bus.TheVariants.{A, B}
use Rattle.bus_word.specs.declared.word.Kind.TheVariants.{Com, Dat}
use Rattle.bus_word.specs.Word.{valid_word}
use Rattle.line_format.specs.Front.{◌>>=◌}
use Rattle.script_lines.specs.Transcript.{bus_letter}
use Rattle.script_lines.specs.EventLine.{kind_text}
use Rattle.terminal_rules.specs.declared.event.Event.{Event}
use Rattle.terminal_rules.specs.declared.event.Event.TheVariants.{Word, Gap, Noise, Slot}
use Rattle.script_lines.specs.Line.{bus_of, bus_first, by_bus, kind_of, word_on, event_on, event_of, subsystem_event, or_refused, meaning}
use Rattle.script_lines.specs.Begins.{BeginsWith}
use Rattle.script_lines.specs.inner.Leads.{LeadsWord}
use Rattle.script_lines.proofs.DigitLaws.{no_feed_in_digits}

-- a byte that is no line feed
pub lines-other : (b : ℕ) (bytes : List ℕ) → b ≢ 10 → lines_of (b ∷ bytes) ≡ onto_first b (lines_of bytes)
unfolding lines_of
lines-other b bytes h = grind (arith, nat_tests)

pub lines-line : (line rest : List ℕ) → NoLineFeed line → lines_of (line ++ 10 ∷ rest) ≡ line ∷ lines_of rest
unfolding lines_of
lines-line [] rest h = refl
lines-line (b ∷ line) rest h = lines-other b (line ++ 10 ∷ rest) h.0 ∙ ap (onto_first b) (lines-line line rest h.1)

pub lines-last : (b : ℕ) (line : List ℕ) → NoLineFeed (b ∷ line) → lines_of (b ∷ line) ≡ (b ∷ line) ∷ []
unfolding lines_of
lines-last b [] h = lines-other b [] h.0
lines-last b (c ∷ line) h = lines-other b (c ∷ line) h.0 ∙ ap (onto_first b) (lines-last c line h.1)

-- a first line is there
pub lines-some : (b : ℕ) (bytes : List ℕ) → (line : List ℕ) × (lines : List (List ℕ)) × (lines_of (b ∷ bytes) ≡ line ∷ lines)
unfolding lines_of
lines-some b bytes = case (b == 10) refl (lines_of bytes) refl
  where
    case : (t : Bool) → (b == 10) ≡ t → (ls : List (List ℕ)) → lines_of bytes ≡ ls → (line : List ℕ) × (lines : List (List ℕ)) × (lines_of (b ∷ bytes) ≡ line ∷ lines)
    case true e ls is = ([], lines_of bytes, grind arith)
    case false e [] is = (b ∷ [], [], grind arith)
    case false e (l ∷ ls) is = (b ∷ l, ls, grind arith)

onto-front : (b : ℕ) (lines : List (List ℕ)) → (more : List ℕ) × (others : List (List ℕ)) × (onto_first b lines ≡ (b ∷ more) ∷ others)
onto-front b [] = ([], [], refl)
onto-front b (l ∷ ls) = (l, ls, refl)

-- a text that begins without a line feed has a first line that begins so
pub lines-front : (b : ℕ) (front rest : List ℕ) → NoLineFeed (b ∷ front)
    → (more : List ℕ) × (lines : List (List ℕ)) × (lines_of (b ∷ front ++ rest) ≡ (b ∷ front ++ more) ∷ lines)
unfolding lines_of
lines-front b [] rest h = let o = onto-front b (lines_of rest) in (o.0, o.1, lines-other b rest h.0 ∙ o.2)
lines-front b (c ∷ front) rest h = let i = lines-front c front rest h.1 in
    (i.0, i.1, lines-other b (c ∷ front ++ rest) h.0 ∙ ap (onto_first b) i.2)

pub no_line_feed : (bytes : List ℕ) → ((k : ℕ) → k < length bytes → get_or bytes k 0 ≢ 10) → NoLineFeed bytes
no_line_feed [] h = tt
no_line_feed (b ∷ bytes) h = (h 0 (omega arith), no_line_feed bytes (λ k l. h (suc k) (omega arith)))

-- up to the first line feed, at i
pub line_at : (bytes : List ℕ) (i : ℕ) → i < length bytes → ((k : ℕ) → k < i → get_or bytes k 0 ≢ 10) → get_or bytes i 0 ≡ 10
    → NoLineFeed (take i bytes) × (bytes ≡ take i bytes ++ 10 ∷ drop (i + 1) bytes)
line_at bytes i within before here = (
  no_line_feed (take i bytes) (λ k l. let below : k < i = omega (arith, length-take {A = ℕ}) in rw (get_or-take i bytes k 0 below) (before k below)),
  sym (take-append-drop i bytes) ∙ ap (λ xs. take i bytes ++ xs) (drop-cons bytes i 0 within ∙ ap (λ b. b ∷ drop (suc i) bytes) here ∙ grind (arith, common_steps)),
)

-- where the first line feed stands at i
pub found_line : (bytes : List ℕ) (i : ℕ) → i < length bytes → get_or bytes i 0 ≡ 10 → ((k : ℕ) → k < i → get_or bytes k 0 ≢ 10)
    → NoLineFeed (take i bytes) × (bytes ≡ take i bytes ++ 10 ∷ drop (i + 1) bytes) × (take (i + 1) bytes ≡ take i bytes ++ 10 ∷ [])
found_line bytes i within here before =
    let l = line_at bytes i within before here in
    (l.0, l.1, take_more bytes i 0 within ∙ ap (λ b. take i bytes ++ b ∷ []) here)

-- `K XXXX` has no line feed in it
pub no_feed_in_valid : (rest : List ℕ) (kind : Kind) (bits : ℕ) → length rest ≡ 6 → kind_of (get_or rest 0 0) ≡ Some kind → get_or rest 1 0 ≡ 32
    → word_of (get_or rest 2 0 ∷ get_or rest 3 0 ∷ get_or rest 4 0 ∷ get_or rest 5 0 ∷ []) ≡ Some bits → NoLineFeed rest
no_feed_in_valid rest kind bits long k s digits =
    let none = no_feed_in_digits (get_or rest 2 0) (get_or rest 3 0) (get_or rest 4 0) (get_or rest 5 0) bits digits in
    no_line_feed rest (λ j l. at j (omega (arith, long)) none)
  where
    at : (j : ℕ) → j < 6 → (get_or rest 2 0 ≢ 10) × (get_or rest 3 0 ≢ 10) × (get_or rest 4 0 ≢ 10) × (get_or rest 5 0 ≢ 10) → get_or rest j 0 ≢ 10
    at zero l none = λ e. cc (sym k ∙ ap kind_of e)
    at (suc zero) l none = λ e. cc (sym s ∙ e)
    at (suc (suc zero)) l none = none.0
    at (suc (suc (suc zero))) l none = none.1
    at (suc (suc (suc (suc zero)))) l none = none.2
    at (suc (suc (suc (suc (suc zero))))) l none = none.3
    at (suc (suc (suc (suc (suc (suc j)))))) l none = absurd (omega (arith, l))

pub EndsLine-append : (xs ys : List ℕ) → EndsLine xs → EndsLine ys → EndsLine (xs ++ ys)
EndsLine-append [] ys p q = q
EndsLine-append (b ∷ []) [] p q = p
EndsLine-append (b ∷ []) (c ∷ ys) p q = q
EndsLine-append (b ∷ c ∷ xs) ys p q = EndsLine-append (c ∷ xs) ys p q

pub EndsLine-line : (line : List ℕ) → EndsLine (line ++ 10 ∷ [])
EndsLine-line [] = refl
EndsLine-line (b ∷ []) = refl
EndsLine-line (b ∷ c ∷ line) = EndsLine-line (c ∷ line)

other_length : (xs ys : List ℕ) → length xs ≢ length ys → bytes_eq xs ys ≡ false
other_length xs ys differs = by_test (bytes_eq xs ys) refl
  where
    by_test : (t : Bool) → bytes_eq xs ys ≡ t → bytes_eq xs ys ≡ false
    by_test true e = absurd (differs (ap length ((bytes_eq-Decides xs ys).0 e)))
    by_test false e = e

-- ---- a line that begins with a bus

-- its letter and its space are no line feeds, and what follows says what happens
bus_line : (b s : ℕ) (rest : List ℕ) (bus : Bus) (e : Event) → bus_first (b ∷ s ∷ rest) ≡ Some bus → event_on bus rest ≡ Some e
    → (b ≢ 10) × (s ≢ 10) × (meaning (b ∷ s ∷ rest) ≡ Ok (Some e))
unfolding meaning
bus_line b s rest bus e is says = (λ x. cc (sym is ∙ ap (λ y. bus_first (y ∷ s ∷ rest)) x ∙ none_of 10 s refl), λ x. cc (sym is ∙ ap (λ y. bus_first (b ∷ y ∷ rest)) x), by_test (b == 35) refl)
  where
    none_of : (b s : ℕ) → bus_of b ≡ None → bus_first (b ∷ s ∷ rest) ≡ None
    none_of b s none = by_space (s == 32)
      where
        by_space : (t : Bool) → (if t then bus_of b else None) ≡ None
        by_space true = none
        by_space false = refl

    by_test : (t : Bool) → (b == 35) ≡ t → meaning (b ∷ s ∷ rest) ≡ Ok (Some e)
    by_test true x = let hash : b ≡ 35 = grind (arith, nat_tests, x) in cc (sym is ∙ ap (λ y. bus_first (y ∷ s ∷ rest)) hash ∙ none_of 35 s refl)
    by_test false x =
        ap (λ t. if t then Ok None else or_refused (event_of (b ∷ s ∷ rest))) x
        ∙ ap (λ o. or_refused (by_bus o (b ∷ s ∷ rest) (if bytes_eq (b ∷ s ∷ rest) (codes "slot") then Some Slot else subsystem_event (b ∷ s ∷ rest)))) is
        ∙ ap or_refused says

-- a line of i bytes that begins with a bus, and behind it a line feed
begins_on_bus : (bytes : List ℕ) (i : ℕ) (bus : Bus) (e : Event) → i + 2 < length bytes → get_or bytes (i + 2) 0 ≡ 10 → bus_first bytes ≡ Some bus
    → event_on bus (take i (drop 2 bytes)) ≡ Some e → NoLineFeed (take i (drop 2 bytes)) → BeginsWith bytes (i + 2) e
begins_on_bus [] i bus e within feed is says none = cc is
begins_on_bus (b ∷ []) i bus e within feed is says none = cc is
begins_on_bus (b ∷ s ∷ rest) i bus e within feed is says none =
    let line = bus_line b s (take i rest) bus e is says in
    let two : i + 2 ≡ suc (suc i) = omega arith in
    record { within = within; line_feed = feed; one_line = subst (λ n. NoLineFeed (take n (b ∷ s ∷ rest))) (sym two) (line.0, (line.1, none)); says = ap (λ n. meaning (take n (b ∷ s ∷ rest))) two ∙ line.2 }

pub begins_with_word : (bytes : List ℕ) (bus : Bus) (e : Event) → 8 < length bytes → get_or bytes 8 0 ≡ 10 → bus_first bytes ≡ Some bus
    → word_on bus (take 6 (drop 2 bytes)) ≡ Some e → NoLineFeed (take 6 (drop 2 bytes)) → BeginsWith bytes 8 e
begins_with_word bytes bus e within feed is says none =
    let long : length (take 6 (drop 2 bytes)) ≡ 6 = grind (arith, common_steps) in
    begins_on_bus bytes 6 bus e within feed is
    (ap (λ t. if t then Some (Gap bus) else if bytes_eq (take 6 (drop 2 bytes)) (codes "noise") then Some (Noise bus) else word_on bus (take 6 (drop 2 bytes)))
    (other_length (take 6 (drop 2 bytes)) (codes "gap") (λ x. cc (sym long ∙ x)))
    ∙ ap (λ t. if t then Some (Noise bus) else word_on bus (take 6 (drop 2 bytes))) (other_length (take 6 (drop 2 bytes)) (codes "noise") (λ x. cc (sym long ∙ x)))
    ∙ says)
    none

-- a gap on this bus, by its first four bytes and the two behind them
pub begins_with_gap : (bytes : List ℕ) (bus : Bus) → 5 < length bytes
    → get_or bytes 0 0 ∷ get_or bytes 1 0 ∷ get_or bytes 2 0 ∷ get_or bytes 3 0 ∷ [] ≡ bus_letter bus ++ codes " ga"
    → get_or bytes 4 0 ≡ 112 → get_or bytes 5 0 ≡ 10 → BeginsWith bytes 5 (Gap bus)
unfolding meaning
begins_with_gap [] bus within lead p feed = absurd (omega (arith, within))
begins_with_gap (a ∷ []) bus within lead p feed = absurd (omega (arith, within))
begins_with_gap (a ∷ b ∷ []) bus within lead p feed = absurd (omega (arith, within))
begins_with_gap (a ∷ b ∷ c ∷ []) bus within lead p feed = absurd (omega (arith, within))
begins_with_gap (a ∷ b ∷ c ∷ d ∷ []) bus within lead p feed = absurd (omega (arith, within))
begins_with_gap (a ∷ b ∷ c ∷ d ∷ e ∷ []) bus within lead p feed = absurd (omega (arith, within))
begins_with_gap (a ∷ b ∷ c ∷ d ∷ e ∷ f ∷ rest) bus within lead p feed = on_bus bus
    (λ i. lead i ++ p i ∷ feed i ∷ [])
  where
    on_bus : (bus : Bus) → a ∷ b ∷ c ∷ d ∷ e ∷ f ∷ [] ≡ (bus_letter bus ++ codes " ga") ++ codes "p\n" → BeginsWith (a ∷ b ∷ c ∷ d ∷ e ∷ f ∷ rest) 5 (Gap bus)
    on_bus A same = subst (λ xs. BeginsWith (xs ++ rest) 5 (Gap A)) (sym same)
        (record { within = omega arith; line_feed = refl; one_line = (λ x. cc x, (λ x. cc x, (λ x. cc x, (λ x. cc x, (λ x. cc x, tt))))); says = refl })
    on_bus B same = subst (λ xs. BeginsWith (xs ++ rest) 5 (Gap B)) (sym same)
        (record { within = omega arith; line_feed = refl; one_line = (λ x. cc x, (λ x. cc x, (λ x. cc x, (λ x. cc x, (λ x. cc x, tt))))); says = refl })

pub begins_with_slot : (bytes : List ℕ) → 4 < length bytes → get_or bytes 4 0 ≡ 10
    → get_or bytes 0 0 ∷ get_or bytes 1 0 ∷ get_or bytes 2 0 ∷ get_or bytes 3 0 ∷ [] ≡ codes "slot" → BeginsWith bytes 4 Slot
unfolding meaning
begins_with_slot [] within feed same = absurd (omega (arith, within))
begins_with_slot (a ∷ []) within feed same = absurd (omega (arith, within))
begins_with_slot (a ∷ b ∷ []) within feed same = absurd (omega (arith, within))
begins_with_slot (a ∷ b ∷ c ∷ []) within feed same = absurd (omega (arith, within))
begins_with_slot (a ∷ b ∷ c ∷ d ∷ rest) within feed same =
    record { within = within; line_feed = feed; one_line = subst NoLineFeed (sym same) (λ x. cc x, (λ x. cc x, (λ x. cc x, (λ x. cc x, tt)))); says = ap meaning same }

-- ---- many slots

-- the lines of n slots, and what follows them
abbrev slots_before : ℕ → List ℕ → List ℕ
slots_before zero rest = rest
slots_before (suc n) rest = codes "slot\n" ++ slots_before n rest

each_slot : (n : ℕ) (rest : List ℕ) (k : ℕ) → k < n → BeginsWith (drop (5 * k) (slots_before n rest)) 4 Slot
each_slot zero rest k within = absurd (omega (arith, within))
each_slot (suc n) rest zero within = begins_with_slot (slots_before (suc n) rest) (omega arith) refl refl
each_slot (suc n) rest (suc k) within =
    let more : 5 + 5 * k ≡ 5 * suc k = omega arith in
    subst (λ xs. BeginsWith xs 4 Slot) (drop-drop (5 * k) 5 (slots_before (suc n) rest) ∙ ap (λ j. drop j (slots_before (suc n) rest)) more) (each_slot n rest k (omega (arith, within)))

-- four bytes stand first
four_first : (bytes xs : List ℕ) (at : ℕ) → take 4 (drop at bytes) ≡ xs → drop at bytes ≡ xs ++ drop (at + 4) bytes
four_first bytes xs at same = sym (take-append-drop 4 (drop at bytes)) ∙ (λ i. same i ++ drop-drop 4 at bytes i)

pub begins_with_slots : (bytes : List ℕ) → take 4 (drop 0 bytes) ≡ codes "slot" → take 4 (drop 4 bytes) ≡ codes "\nslo" → take 4 (drop 8 bytes) ≡ codes "t\nsl"
    → take 4 (drop 12 bytes) ≡ codes "ot\ns" → take 4 (drop 16 bytes) ≡ codes "lot\n" → (k : ℕ) → k < 4 → BeginsWith (drop (5 * k) bytes) 4 Slot
begins_with_slots bytes a b c d e k within = subst (λ xs. BeginsWith (drop (5 * k) xs) 4 Slot) (sym all) (each_slot 4 (drop 20 bytes) k within)
  where
    start : bytes ≡ drop 0 bytes
    start = grind (arith, common_steps)

    all : bytes ≡ slots_before 4 (drop 20 bytes)
    all =
        start ∙ four_first bytes (codes "slot") 0 a ∙ ap (λ xs. codes "slot" ++ xs) (four_first bytes (codes "\nslo") 4 b
        ∙ ap (λ xs. codes "\nslo" ++ xs) (four_first bytes (codes "t\nsl") 8 c ∙ ap (λ xs. codes "t\nsl" ++ xs) (four_first bytes (codes "ot\ns") 12 d
        ∙ ap (λ xs. codes "ot\ns" ++ xs) (four_first bytes (codes "lot\n") 16 e))))

-- n bytes from one on
abbrev elements : List ℕ → ℕ → ℕ → List ℕ
elements bytes at zero = []
elements bytes at (suc n) = get_or bytes at 0 ∷ elements bytes (suc at) n

elements_there : (bytes : List ℕ) (at n : ℕ) → at + n ≤ length bytes → elements bytes at n ≡ take n (drop at bytes)
elements_there bytes at zero within = refl
elements_there bytes at (suc n) within =
    ap (λ xs. get_or bytes at 0 ∷ xs) (elements_there bytes (suc at) n (omega (arith, within))) ∙ ap (take (suc n)) (sym (drop-cons bytes at 0 (omega (arith, within))))

pub four_there : (bytes : List ℕ) (at : ℕ) → at + 4 ≤ length bytes
    → get_or bytes at 0 ∷ get_or bytes (at + 1) 0 ∷ get_or bytes (at + 2) 0 ∷ get_or bytes (at + 3) 0 ∷ [] ≡ take 4 (drop at bytes)
four_there bytes at within =
    let one : at + 1 ≡ suc at = omega arith in
    let two : at + 2 ≡ suc (suc at) = omega arith in
    let three : at + 3 ≡ suc (suc (suc at)) = omega arith in
    (λ i. get_or bytes at 0 ∷ get_or bytes (one i) 0 ∷ get_or bytes (two i) 0 ∷ get_or bytes (three i) 0 ∷ []) ∙ elements_there bytes at 4 within

-- ---- a word on this bus

-- by what stands before its digits
pub begins_with_bits : (bytes : List ℕ) (bus : Bus) (kind : Kind) (w : ℕ) → LeadsWord bytes bus kind
    → word_of (get_or bytes 4 0 ∷ get_or bytes 5 0 ∷ get_or bytes 6 0 ∷ get_or bytes 7 0 ∷ []) ≡ Some w → BeginsWith bytes 8 (Word bus (valid_word kind w))
begins_with_bits [] bus kind w l digits = let within = l.within in absurd (omega arith)
begins_with_bits (a ∷ []) bus kind w l digits = let within = l.within in absurd (omega arith)
begins_with_bits (a ∷ b ∷ []) bus kind w l digits = let within = l.within in absurd (omega arith)
begins_with_bits (a ∷ b ∷ c ∷ []) bus kind w l digits = let within = l.within in absurd (omega arith)
begins_with_bits (a ∷ b ∷ c ∷ d ∷ []) bus kind w l digits = let within = l.within in absurd (omega arith)
begins_with_bits (a ∷ b ∷ c ∷ d ∷ e ∷ []) bus kind w l digits = let within = l.within in absurd (omega arith)
begins_with_bits (a ∷ b ∷ c ∷ d ∷ e ∷ f ∷ []) bus kind w l digits = let within = l.within in absurd (omega arith)
begins_with_bits (a ∷ b ∷ c ∷ d ∷ e ∷ f ∷ g ∷ []) bus kind w l digits = let within = l.within in absurd (omega arith)
begins_with_bits (a ∷ b ∷ c ∷ d ∷ e ∷ f ∷ g ∷ h ∷ rest) bus kind w l digits = subst (λ xs. BeginsWith (xs ++ end) 8 (Word bus (valid_word kind w))) (sym l.lead) (by_lead bus kind)
  where
    end : List ℕ
    end = e ∷ f ∷ g ∷ h ∷ rest

    by_lead : (bus : Bus) (kind : Kind) → BeginsWith ((bus_letter bus ++ kind_text kind) ++ end) 8 (Word bus (valid_word kind w))
    by_lead A Com = begins_with_word (65 ∷ 32 ∷ 99 ∷ 32 ∷ end) A (Word A (valid_word Com w)) l.within l.line_feed refl (ap (λ o. o >>= λ bits. Some (Word A (valid_word Com bits))) digits) (no_feed_in_valid (99 ∷ 32 ∷ e ∷ f ∷ g ∷ h ∷ []) Com w refl refl refl digits)
    by_lead A Dat = begins_with_word (65 ∷ 32 ∷ 100 ∷ 32 ∷ end) A (Word A (valid_word Dat w)) l.within l.line_feed refl (ap (λ o. o >>= λ bits. Some (Word A (valid_word Dat bits))) digits) (no_feed_in_valid (100 ∷ 32 ∷ e ∷ f ∷ g ∷ h ∷ []) Dat w refl refl refl digits)
    by_lead B Com = begins_with_word (66 ∷ 32 ∷ 99 ∷ 32 ∷ end) B (Word B (valid_word Com w)) l.within l.line_feed refl (ap (λ o. o >>= λ bits. Some (Word B (valid_word Com bits))) digits) (no_feed_in_valid (99 ∷ 32 ∷ e ∷ f ∷ g ∷ h ∷ []) Com w refl refl refl digits)
    by_lead B Dat = begins_with_word (66 ∷ 32 ∷ 100 ∷ 32 ∷ end) B (Word B (valid_word Dat w)) l.within l.line_feed refl (ap (λ o. o >>= λ bits. Some (Word B (valid_word Dat bits))) digits) (no_feed_in_valid (100 ∷ 32 ∷ e ∷ f ∷ g ∷ h ∷ []) Dat w refl refl refl digits)

-- and by its digits, small
pub first_data_word : (bytes : List ℕ) (bus : Bus) (found : Option (List ℕ)) → LeadsWord bytes bus Dat
    → found ≡ option_map digits_of (word_of (get_or bytes 4 0 ∷ get_or bytes 5 0 ∷ get_or bytes 6 0 ∷ get_or bytes 7 0 ∷ []))
    → IfSome found (λ digits. (w : ℕ) × (digits ≡ digits_of w) × BeginsWith bytes 8 (Word bus (valid_word Dat w)))
first_data_word bytes bus found l is = by_word (word_of (get_or bytes 4 0 ∷ get_or bytes 5 0 ∷ get_or bytes 6 0 ∷ get_or bytes 7 0 ∷ [])) refl
  where
    Says : Option (List ℕ) → Type 0
    Says o = IfSome o (λ digits. (w : ℕ) × (digits ≡ digits_of w) × BeginsWith bytes 8 (Word bus (valid_word Dat w)))

    by_word : (o : Option ℕ) → word_of (get_or bytes 4 0 ∷ get_or bytes 5 0 ∷ get_or bytes 6 0 ∷ get_or bytes 7 0 ∷ []) ≡ o → Says found
    by_word None none = subst Says (sym (is ∙ ap (option_map digits_of) none)) tt
    by_word (Some w) some = subst Says (sym (is ∙ ap (option_map digits_of) some)) (w, refl, begins_with_bits bytes bus Dat w l some)
