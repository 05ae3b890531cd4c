-- Laws of lines that stand first in some bytes, and of a chunk: they are played, one after another.
use Rattle.std.proofs.Common.{ℕ, zero, Bool, ◌≡◌, ◌≢◌, ◌<◌, ◌≤◌, ◌+◌, ◌*◌, List, [], ◌∷◌, ◌++◌, length, take, drop, get_or, drop-cons, length-append, refl, sym, ap, ◌∙◌, arith, append-nil, append_assoc, take-append-drop, suc, subst, zero-add, Option}
use Rattle.std.proofs.lemmas.Grind.{common_steps}
use Rattle.std.proofs.lemmas.List.{take_more}
use Rattle.std.proofs.Math.Seq.{take-add}
use Rattle.bus_word.specs.declared.cell.Cell.{Cell}
use Rattle.terminal_rules.specs.declared.event.Event.{Event}
use Rattle.terminal_rules.specs.declared.event.Event.TheVariants.{Word}
use Rattle.bus_word.specs.declared.word.Bus.{Bus}
use Rattle.bus_word.specs.declared.word.Raw.{Raw}
use Rattle.bus_terminal.specs.declared.terminal.Terminal.{Terminal}
use Rattle.bus_terminal.specs.Stands.{TakesEvent}
use Rattle.script_lines.specs.Line.{meaning}
use Rattle.script_lines.specs.Begins.{BeginsWith}
use Rattle.script_lines.specs.Transcript.{text_at}
use Rattle.bus_script.specs.declared.fault.RunFault.{RunFault}
use Rattle.bus_script.specs.declared.fault.RunFault.TheVariants.{Line, LongLine, TooLong, Read, Write}
use Rattle.bus_script.specs.declared.piece.Piece.{Piece}
use Rattle.bus_script.specs.declared.piece.Counts.{Counts}
use Rattle.bus_script.specs.Reading.{ByFault, then_reads}
use Rattle.bus_script.specs.Played.{Played, PlayedPart}
use Rattle.bus_script.specs.inner.Lines.{ReadsLines, Faults, Means, IsRefused, StartsLine, LinesFirst, IsComment}
use Rattle.bus_script.specs.inner.Pieces.{IsPiece, PlaysPiece, BreaksPiece, TakesPiece}
use Rattle.bus_script.specs.inner.Fed.{AreCounts, Fed, FedToFault, FedPart}
use Rattle.script_lines.proofs.LineLaws.{found_line}
use Rattle.bus_script.proofs.ReadingLaws.{ReadsLines-nil, ReadsLines-trans, ReadsLines-Faults, ReadsLines-line, Faults-line}
use Rattle.bus_script.proofs.PlayLaws.{Played-nil, Played-trans, Played-part, Taken-nil, Taken-one, Taken-plays}

pub ByFault-weaker : {S R W S' R' W' : Type 0} (f : RunFault) → (S → S') → (R → R') → (W → W') → ByFault f S R W → ByFault f S' R' W'
ByFault-weaker (Line n) s r w x = s x
ByFault-weaker (LongLine n) s r w x = s x
ByFault-weaker TooLong s r w x = s x
ByFault-weaker Read s r w x = r x
ByFault-weaker Write s r w x = w x

-- ---- the line that stands first

pub ReadsLines-first : (n : ℕ) (rest : List ℕ) (i : ℕ) (es : List Event) → StartsLine n rest i → Means (take i rest) es → ReadsLines n (take (i + 1) rest) es (n + 1)
ReadsLines-first n rest i es s means =
    let short : length (take i rest) ≤ 64 = grind (arith, common_steps, s.short) in
    subst (λ xs. ReadsLines n xs es (n + 1)) (sym s.front) (ReadsLines-line n (take i rest) es s.room short s.none (means n))

pub Faults-first : (n : ℕ) (rest : List ℕ) (i : ℕ) (f : RunFault) → StartsLine n rest i → IsRefused (take i rest) n f → Faults n rest [] f
Faults-first n rest i f s refused =
    let short : length (take i rest) ≤ 64 = grind (arith, common_steps, s.short) in
    subst (λ xs. Faults n xs [] f) (sym s.splits) (Faults-line n (take i rest) (drop (i + 1) rest) f s.room short s.none refused)

-- a line that was read at its place starts there
pub begins-starts : (bytes : List ℕ) (i : ℕ) (e : Event) → i ≤ 64 → BeginsWith bytes i e → (lines : ℕ) → lines < 1048576 → StartsLine lines bytes i
begins-starts bytes i e short b lines room = record {
  splits = sym (take-append-drop i bytes) ∙ ap (λ xs. take i bytes ++ xs) (drop-cons bytes i 0 b.within ∙ ap (λ x. x ∷ drop (suc i) bytes) b.line_feed ∙ grind (arith, common_steps));
  within = b.within;
  front = take_more bytes i 0 b.within ∙ ap (λ x. take i bytes ++ x ∷ []) b.line_feed;
  none = b.one_line;
  short = short;
  room = room;
}

-- a line whose end was found starts there
pub found-starts : (bytes : List ℕ) (i : ℕ) → i < length bytes → get_or bytes i 0 ≡ 10 → ((k : ℕ) → k < i → get_or bytes k 0 ≢ 10) → i ≤ 64 → (lines : ℕ) → lines < 1048576 → StartsLine lines bytes i
found-starts bytes i within here before short lines room =
    let line = found_line bytes i within here before in record { splits = line.1; within = within; front = line.2; none = line.0; short = short; room = room }

-- a comment says no event
pub comment_starts : (bytes : List ℕ) (i : ℕ) → get_or bytes 0 0 ≡ 35 → i < length bytes → get_or bytes i 0 ≡ 10 → ((k : ℕ) → k < i → get_or bytes k 0 ≢ 10) → i ≤ 64 → IsComment bytes i
unfolding meaning
comment_starts [] i hash within here before short = absurd (omega (arith, within))
comment_starts (b ∷ bytes) zero hash within here before short = cc (sym hash ∙ here)
comment_starts (b ∷ bytes) (suc i) hash within here before short = record {
  starts = found-starts (b ∷ bytes) (suc i) within here before short;
  says = ap (λ x. meaning (x ∷ take i bytes)) hash;
}

-- ---- lines that stand first

pub LinesFirst-nil : (bytes : List ℕ) → LinesFirst bytes 0 0 []
LinesFirst-nil bytes = record {
  within = omega arith;
  short = omega arith;
  few = omega arith;
  reads = λ n room. let same : n ≡ n + 0 = omega arith in subst (λ m. ReadsLines n [] [] m) same (ReadsLines-nil n);
}

-- one line more
pub LinesFirst-line : {bytes : List ℕ} {i k : ℕ} {es : List Event} (j : ℕ) (fs : List Event) → LinesFirst bytes i k es
    → ((n : ℕ) → n < 1048576 → StartsLine n (drop i bytes) j) → length fs ≤ 1 → Means (take j (drop i bytes)) fs
    → LinesFirst bytes (i + (j + 1)) (k + 1) (es ++ fs)
LinesFirst-line {bytes = bytes} {i = i} {k = k} {es = es} j fs p starts one means = record {
  within = let s = (starts 0 (omega arith)).within in let w = p.within in grind (arith, common_steps);
  short = let s = (starts 0 (omega arith)).short in let w = p.short in omega arith;
  few = let c = p.few in omega (arith, length-append es fs);
  reads = λ n room.
      let done : n + k + 1 ≡ n + (k + 1) = omega arith in
      subst (λ m. ReadsLines n (take (i + (j + 1)) bytes) (es ++ fs) m) done
      (subst (λ xs. ReadsLines n xs (es ++ fs) (n + k + 1)) (sym (take-add i (j + 1) bytes))
      (ReadsLines-trans (p.reads n (omega arith)) (ReadsLines-first (n + k) (drop i bytes) j fs (starts (n + k) (omega arith)) means)));
}

-- one line more, with an event
pub LinesFirst-more : {bytes : List ℕ} {i k : ℕ} {es : List Event} (j : ℕ) (e : Event) → j ≤ 64 → LinesFirst bytes i k es → BeginsWith (drop i bytes) j e
    → LinesFirst bytes (i + (j + 1)) (k + 1) (es ++ e ∷ [])
LinesFirst-more {bytes = bytes} {i = i} j e short p next =
    LinesFirst-line j (e ∷ []) p (begins-starts (drop i bytes) j e short next) (omega arith) (λ n r. ap (λ x. then_reads x n r) next.says)

-- behind no line
LinesFirst-from : (bytes : List ℕ) (i k : ℕ) (es : List Event) → LinesFirst bytes (0 + i) (0 + k) es → LinesFirst bytes i k es
LinesFirst-from bytes i k es p = subst (λ n. LinesFirst bytes n k es) (zero-add i) (subst (λ n. LinesFirst bytes (0 + i) n es) (zero-add k) p)

-- one line
pub LinesFirst-one : (bytes : List ℕ) (j : ℕ) (e : Event) → j ≤ 64 → BeginsWith bytes j e → LinesFirst bytes (j + 1) 1 (e ∷ [])
LinesFirst-one bytes j e short next = LinesFirst-from bytes (j + 1) 1 (e ∷ []) (LinesFirst-more j e short (LinesFirst-nil bytes) next)

-- more lines behind others
pub LinesFirst-behind : {bytes : List ℕ} {i k j m : ℕ} {es fs : List Event} → LinesFirst bytes i k es → LinesFirst (drop i bytes) j m fs → LinesFirst bytes (i + j) (k + m) (es ++ fs)
LinesFirst-behind {bytes = bytes} {i = i} {k = k} {j = j} {m = m} {es = es} {fs = fs} p q = record {
  within = let s = q.within in let w = p.within in grind (arith, common_steps);
  short = let s = q.short in let w = p.short in omega arith;
  few = let s = q.few in let w = p.few in omega (arith, length-append es fs);
  reads = λ n room.
      let done : n + k + m ≡ n + (k + m) = omega arith in
      subst (λ x. ReadsLines n (take (i + j) bytes) (es ++ fs) x) done
      (subst (λ xs. ReadsLines n xs (es ++ fs) (n + k + m)) (sym (take-add i j bytes)) (ReadsLines-trans (p.reads n (omega arith)) (q.reads (n + k) (omega arith))));
}

-- and a comment
pub LinesFirst-comment : {bytes : List ℕ} {i k : ℕ} {es : List Event} (j : ℕ) → LinesFirst bytes i k es → IsComment (drop i bytes) j
    → LinesFirst bytes (i + (j + 1)) (k + 1) es
LinesFirst-comment {bytes = bytes} {i = i} {k = k} {es = es} j p next =
    subst (λ gs. LinesFirst bytes (i + (j + 1)) (k + 1) gs) (append-nil es) (LinesFirst-line j [] p next.starts (omega arith) (λ n r. ap (λ x. then_reads x n r) next.says))

-- ---- pieces

no_events : (es : List Event) (k : ℕ) → length es ≤ k → k ≡ 0 → es ≡ []
no_events [] k few none = refl
no_events (e ∷ es) k few none = absurd (omega (arith, few, none))

pub none_piece : (bytes : List ℕ) (most : ℕ) → IsPiece bytes most (record { bytes = 0; lines = 0; events = 0 }) []
none_piece bytes most = record { lines = LinesFirst-nil bytes; fits = omega arith; count = refl }

one_piece : (bytes : List ℕ) (most j : ℕ) (e : Event) → 0 < most → j ≤ 64 → BeginsWith bytes j e → IsPiece bytes most (record { bytes = (j + 1) * 1; lines = 1; events = 1 }) (e ∷ [])
one_piece bytes most j e some short next = record {
  lines = let one : j + 1 ≡ (j + 1) * 1 = omega arith in subst (λ i. LinesFirst bytes i 1 (e ∷ [])) one (LinesFirst-one bytes j e short next);
  fits = some;
  count = refl;
}

-- one comment more
pub comment_piece : (bytes : List ℕ) (most : ℕ) (piece : Piece) (i : ℕ) → IsPiece bytes most piece [] → IsComment (drop piece.bytes bytes) i → piece.lines < most
    → IsPiece bytes most (record { bytes = piece.bytes + (i + 1); lines = piece.lines + 1; events = piece.events }) []
comment_piece bytes most piece i p next room = record { lines = LinesFirst-comment i p.lines next; fits = omega (arith, room); count = p.count }

module _ {L W : Type 0} {is_legal : L → Cell → Bool} {written : W → Option (List ℕ)} where
  pub none_played : (a : Terminal L × W) (bytes : List ℕ) (most : ℕ) → PlaysPiece is_legal written a a bytes most (record { bytes = 0; lines = 0; events = 0 })
  none_played a bytes most = ([], none_piece bytes most, Played-nil a)

  -- a line with an event
  pub one_played : (a b : Terminal L × W) (bytes : List ℕ) (most j : ℕ) (e : Event) (piece : Piece) → 0 < most → j ≤ 64 → BeginsWith bytes j e
      → piece ≡ record { bytes = (j + 1) * 1; lines = 1; events = 1 } → Played is_legal text_at written a b (e ∷ []) → PlaysPiece is_legal written a b bytes most piece
  one_played a b bytes most j e piece some short next is p = (e ∷ [], subst (λ x. IsPiece bytes most x (e ∷ [])) (sym is) (one_piece bytes most j e some short next), p)

  pub one_broken : (a b : Terminal L × W) (bytes : List ℕ) (most j : ℕ) (e : Event) → 0 < most → j ≤ 64 → BeginsWith bytes j e → PlayedPart is_legal written a b [] e
      → BreaksPiece is_legal written a b bytes most
  one_broken a b bytes most j e some short next p = ([], e, record { bytes = (j + 1) * 1; lines = 1; events = 1 }, one_piece bytes most j e some short next, p)

  -- what is not answered leaves the sink as it is
  pub taken_played : (t t' : Terminal L) (w : W) (bytes : List ℕ) (most : ℕ) (piece : Piece) → TakesPiece is_legal t t' bytes most piece → PlaysPiece is_legal written (t, w) (t', w) bytes most piece
  taken_played t t' w bytes most piece p = (p.0, p.1, Taken-plays w p.2)

  -- a piece behind no line
  pub then_played : (a b c : Terminal L × W) (bytes : List ℕ) (most : ℕ) (none piece : Piece) → none.lines ≡ 0 → PlaysPiece is_legal written a b bytes most none
      → PlaysPiece is_legal written b c bytes most piece → PlaysPiece is_legal written a c bytes most piece
  then_played a b c bytes most none piece empty p q =
      (q.0, q.1, subst (λ es. Played is_legal text_at written a c (es ++ q.0)) (no_events p.0 none.lines p.1.lines.few empty) (Played-trans p.2 q.2))

  pub then_broken : (a b c : Terminal L × W) (bytes : List ℕ) (most : ℕ) (none : Piece) → none.lines ≡ 0 → PlaysPiece is_legal written a b bytes most none
      → BreaksPiece is_legal written b c bytes most → BreaksPiece is_legal written a c bytes most
  then_broken a b c bytes most none empty p q =
      (q.0, q.1, q.2, q.3, subst (λ es. PlayedPart is_legal written a c (es ++ q.0) q.1) (no_events p.0 none.lines p.1.lines.few empty) (Played-part p.2 q.4))

module _ {L : Type 0} {is_legal : L → Cell → Bool} where
  pub none_taken : (t : Terminal L) (bytes : List ℕ) (most : ℕ) → TakesPiece is_legal t t bytes most (record { bytes = 0; lines = 0; events = 0 })
  none_taken t bytes most = ([], none_piece bytes most, Taken-nil t)

  pub word_taken : (t t' : Terminal L) (bytes : List ℕ) (most j : ℕ) (b : Bus) (w : Raw) (piece : Piece) → 0 < most → j ≤ 64 → BeginsWith bytes j (Word b w)
      → piece ≡ record { bytes = (j + 1) * 1; lines = 1; events = 1 } → TakesEvent is_legal (Word b w) t t' → TakesPiece is_legal t t' bytes most piece
  word_taken t t' bytes most j b w piece some short next is p =
      (Word b w ∷ [], subst (λ x. IsPiece bytes most x (Word b w ∷ [])) (sym is) (one_piece bytes most j (Word b w) some short next), Taken-one t t' (Word b w) p (λ P h. refl))

-- any line
pub LinePiece : (bytes : List ℕ) (lines i n : ℕ) (es : List Event) → StartsLine lines bytes i → length es ≡ n → n ≤ 1 → Means (take i bytes) es
    → IsPiece bytes 1 (record { bytes = i + 1; lines = 1; events = n }) es
LinePiece bytes lines i n es s len one means = record {
  lines = LinesFirst-from bytes (i + 1) 1 es (LinesFirst-line i es (LinesFirst-nil bytes) (λ m room. record { splits = s.splits; within = s.within; front = s.front; none = s.none; short = s.short; room = room }) (omega (arith, len)) means);
  fits = omega arith;
  count = sym len;
}

-- ---- a chunk

module _ {L W : Type 0} {is_legal : L → Cell → Bool} {written : W → Option (List ℕ)} where
  pub Fed-nil : (a : Terminal L × W) (from : Counts) (chunk : List ℕ) → AreCounts from → Fed is_legal written a a from from chunk 0 []
  Fed-nil a from chunk counts = record {
    within = omega arith;
    reads = ReadsLines-nil from.lines;
    count = omega arith;
    long = omega arith;
    counts = counts;
    plays = Played-nil a;
  }

  -- a piece more
  pub Fed-piece : {a b c : Terminal L × W} {from to : Counts} {chunk : List ℕ} {at : ℕ} {es : List Event} (most : ℕ) (piece : Piece) (fs : List Event)
      → Fed is_legal written a b from to chunk at es → IsPiece (drop at chunk) most piece fs → to.lines + most ≤ 1048576 → Played is_legal text_at written b c fs
      → Fed is_legal written a c from (record { lines = to.lines + piece.lines; events = to.events + piece.events }) chunk (at + piece.bytes) (es ++ fs)
  Fed-piece {from = from} {to = to} {chunk = chunk} {at = at} {es = es} most piece fs p s room q =
      let count = p.count in let long = p.long in let few = p.counts.few in let inside = p.within in let within = s.lines.within in let short = s.lines.short in let each = s.count in let less = s.lines.few in let some = s.fits in record {
        within = grind (arith, common_steps);
        reads = subst (λ xs. ReadsLines from.lines xs (es ++ fs) (to.lines + piece.lines)) (sym (take-add at piece.bytes chunk)) (ReadsLines-trans p.reads (s.lines.reads to.lines (omega arith)));
        count = omega (arith, length-append es fs);
        long = omega arith;
        counts = record { most = omega arith; few = omega arith };
        plays = Played-trans p.plays q;
      }

  -- no line more
  pub Fed-none : {a b c : Terminal L × W} {from to : Counts} {chunk : List ℕ} {at : ℕ} {es : List Event} (bytes : List ℕ) (most : ℕ) (none : Piece) → none.lines ≡ 0
      → Fed is_legal written a b from to chunk at es → PlaysPiece is_legal written b c bytes most none → Fed is_legal written a c from to chunk at es
  Fed-none {a = a} {c = c} {es = es} bytes most none empty p q = record {
    within = p.within;
    reads = p.reads;
    count = p.count;
    long = p.long;
    counts = p.counts;
    plays = subst (λ gs. Played is_legal text_at written a c gs) (ap (λ gs. es ++ gs) (no_events q.0 none.lines q.1.lines.few empty) ∙ append-nil es) (Played-trans p.plays q.2);
  }

  -- a fault behind what was played
  pub Fed-fault : {a b c : Terminal L × W} {from to : Counts} {chunk : List ℕ} {at : ℕ} {es : List Event} (f : RunFault)
      → Fed is_legal written a b from to chunk at es → Faults to.lines (drop at chunk) [] f → Played is_legal text_at written b c [] → FedToFault is_legal written a c from to chunk f
  Fed-fault {from = from} {chunk = chunk} {at = at} {es = es} f p q r = (
    es ++ [],
    p.count ∙ ap (λ gs. from.events + length gs) (sym (append-nil es)),
    subst (λ xs. Faults from.lines xs (es ++ []) f) (take-append-drop at chunk) (ReadsLines-Faults p.reads q),
    Played-trans p.plays r,
  )

  -- a write that fails behind what was played
  pub Fed-part : {a b c : Terminal L × W} {from to : Counts} {chunk : List ℕ} {at : ℕ} {es : List Event} (most : ℕ)
      → Fed is_legal written a b from to chunk at es → BreaksPiece is_legal written b c (drop at chunk) most → to.lines + most ≤ 1048576 → FedPart is_legal written a c from chunk
  Fed-part {from = from} {to = to} {chunk = chunk} {at = at} {es = es} most p q room =
      let fs = q.0 in let e = q.1 in let done = at + q.2.bytes in let some = q.3.fits in (
        es ++ fs,
        e,
        take done chunk,
        drop done chunk,
        to.lines + q.2.lines,
        sym (take-append-drop done chunk),
        subst (λ gs. ReadsLines from.lines (take done chunk) gs (to.lines + q.2.lines)) (sym (append_assoc es fs (e ∷ [])))
            (subst (λ xs. ReadsLines from.lines xs (es ++ (fs ++ e ∷ [])) (to.lines + q.2.lines)) (sym (take-add at q.2.bytes chunk)) (ReadsLines-trans p.reads (q.3.lines.reads to.lines (omega arith)))),
        Played-part p.plays q.4,
      )
