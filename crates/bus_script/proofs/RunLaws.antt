-- The run loop, read by read.
use Rattle.std.proofs.Common.{ℕ, ◌≡◌, ◌<◌, ◌≤◌, ◌+◌, ◌-◌, List, [], ◌∷◌, ◌++◌, length, take, drop, length-append, refl, sym, ap, ◌∙◌, arith, append_assoc, append-nil, take-append-drop, subst, zero-add, add-zero, length-take, length-drop, Bool, Option, Some, None, IfSome, true, rules}
use Rattle.std.proofs.lemmas.Grind.{common_steps}
use Rattle.std.proofs.lemmas.List.Edits.{take-paste}
use Rattle.std.proofs.lemmas.Slice.{between_is}
use Rattle.std.specs.List.{copy_within}
use borrow.Rule.Slice.PartMut.{put_mid, post_of}
use Rattle.std.proofs.Math.Seq.{take-append-add}
use Rattle.std.proofs.lemmas.List.{take-append-le}
use Rattle.std.specs.Io.KnownBytes.{Consumes, Keeps, IsAtEnd}
use Rattle.std.proofs.KnownBytes.{Consumes-trans, Consumes-kept, Consumes-nil}
use Rattle.terminal_rules.specs.declared.event.Event.{Event}
use Rattle.bus_script.specs.declared.fault.RunFault.{RunFault}
use Rattle.bus_script.specs.declared.fault.RunFault.TheVariants.{Line, LongLine, TooLong, Read, Write}
use Rattle.bus_script.specs.Fault.{is_of_script}
use Rattle.script_lines.specs.Text.{lines_of}
use Rattle.bus_script.specs.Reading.{Reading, adds, stops, nothing, reading, ByFault}
use Rattle.bus_word.specs.declared.cell.Cell.{Cell}
use Rattle.bus_terminal.specs.declared.terminal.Terminal.{Terminal}
use Rattle.script_lines.specs.Transcript.{text_at}
use Rattle.bus_script.specs.declared.piece.Counts.{Counts}
use Rattle.bus_script.specs.Played.{Played, PlayedPart, Ran, Broke, Completed, StoppedReading, StoppedWriting}
use Rattle.bus_script.specs.inner.Lines.{ReadsLines, Means, IsRefused, IsRest}
use Rattle.bus_script.specs.inner.Fed.{AreCounts, Fed, FedToFault, FedPart}
use Rattle.script_lines.proofs.LineLaws.{lines-last}
use Rattle.bus_script.proofs.ReadingLaws.{adds-adds, reading-line, ReadsLines-nil, ReadsLines-trans, ReadsLines-Faults}
use Rattle.bus_script.proofs.PlayLaws.{Played-nil, Played-trans, Played-part, Played-last, Played-kept, PlayedPart-kept}

-- what `copy_within` leaves at the front
pub kept_front : (xs : List ℕ) (a b : ℕ) → a ≤ b → b ≤ length xs → take (b - a) (copy_within xs a b 0) ≡ drop a (take b xs)
kept_front xs a b h k =
    let fits : b - a ≤ length (drop a xs) = grind (arith, common_steps) in
    subst (λ n. take n (copy_within xs a b 0) ≡ take (b - a) (drop a xs)) (zero-add (b - a)) (take-paste xs 0 (drop a xs) (b - a) (omega arith) fits)
    ∙ between_is xs a b

-- ---- a last line without its line feed

pub reading-empty : (n : ℕ) → reading n (lines_of []) ≡ nothing
unfolding reading lines_of
reading-empty n = refl

pub reading-last : (n : ℕ) (line : List ℕ) (es : List Event) → 0 < length line → IsRest n line → Means line es
    → reading n (lines_of line) ≡ adds es nothing
unfolding reading
reading-last n [] es some rest means = absurd (omega arith)
reading-last n (b ∷ line) es some rest means =
    ap (reading n) (lines-last b line rest.none) ∙ reading-line n (b ∷ line) [] (rest.room some) rest.short ∙ means n nothing

pub reading-last_refused : (n : ℕ) (line : List ℕ) (f : RunFault) → 0 < length line → IsRest n line → IsRefused line n f
    → reading n (lines_of line) ≡ stops f
unfolding reading
reading-last_refused n [] f some rest refused = absurd (omega arith)
reading-last_refused n (b ∷ line) f some rest refused =
    ap (reading n) (lines-last b line rest.none) ∙ reading-line n (b ∷ line) [] (rest.room some) rest.short ∙ refused nothing

-- ---- the loop

-- a list that isn't empty has a last item
pub last_of : (es : List Event) → 0 < length es → (gs : List Event) × (e : Event) × (es ≡ gs ++ e ∷ [])
last_of [] h = absurd (omega arith)
last_of (e ∷ []) h = ([], e, refl)
last_of (e ∷ f ∷ es) h = let l = last_of (f ∷ es) (omega arith) in (e ∷ l.0, l.1, ap (λ x. e ∷ x) l.2)

-- a fact of the whole script, from what was taken of it
pub IfSome-script : (a b : Option (List ℕ)) (taken : List ℕ) (P : List ℕ → Type 0) → Consumes a b taken → ((more : List ℕ) → P (taken ++ more)) → IfSome a P
IfSome-script None b taken P c each = tt
IfSome-script (Some xs) None taken P c each = absurd c
IfSome-script (Some xs) (Some ys) taken P c each = subst P (sym c) (each ys)

-- the same at the end of the script
pub IfSome-end : (a b : Option (List ℕ)) (taken : List ℕ) (P : List ℕ → Type 0) → Consumes a b taken → IsAtEnd b → P taken → IfSome a P
IfSome-end None b taken P c end p = tt
IfSome-end (Some xs) None taken P c end p = absurd c
IfSome-end (Some xs) (Some ys) taken P c end p = subst P (sym (c ∙ ap (λ l. taken ++ l) end ∙ append-nil taken)) p

-- the same, whatever the script
pub IfSome-any : (a : Option (List ℕ)) (P : List ℕ → Type 0) → ((xs : List ℕ) → P xs) → IfSome a P
IfSome-any None P each = tt
IfSome-any (Some xs) P each = each xs

-- what a read behind the first bytes leaves
pub filled : (buffered n : ℕ) (xs ys : List ℕ) → buffered ≤ length xs → n ≤ length ys
    → take (buffered + n) (put_mid buffered (length xs - buffered) xs ys) ≡ take buffered xs ++ take n ys
filled buffered n xs ys h k =
    let front : length (take buffered xs) ≡ buffered = grind (arith, common_steps) in
    subst (λ m. take (m + n) (put_mid buffered (length xs - buffered) xs ys) ≡ take buffered xs ++ take n ys) front
    (take-append-add (take buffered xs) (ys ++ post_of buffered (length xs - buffered) xs) n
    ∙ ap (λ z. take buffered xs ++ z) (take-append-le n ys (post_of buffered (length xs - buffered) xs) k))

-- so far: what was read of a script is `whole`, of which the lines were played, and then `pending`
pub record Running {L W : Type 0} (is_legal : L → Cell → Bool) (written : W → Option (List ℕ)) (left left' : Option (List ℕ)) (a b : Terminal L × W) (counts : Counts) (pending whole : List ℕ) (es : List Event) : Type 0 where
  pub taken : Consumes left left' (whole ++ pending)
  pub reads : ReadsLines 0 whole es counts.lines
  pub rest : IsRest counts.lines pending
  pub count : counts.events ≡ length es
  pub bounds : AreCounts counts
  pub plays : Played is_legal text_at written a b es

-- the script is what was taken, and more
says-more : (whole pending more : List ℕ) (es : List Event) (lines : ℕ) → ReadsLines 0 whole es lines
    → reading 0 (lines_of (whole ++ pending ++ more)) ≡ adds es (reading lines (lines_of (pending ++ more)))
says-more whole pending more es lines p = ap (λ xs. reading 0 (lines_of xs)) (append_assoc whole pending more) ∙ p.each (pending ++ more)

module _ {L W : Type 0} {is_legal : L → Cell → Bool} {written : W → Option (List ℕ)} where
  pub Running-nil : (left : Option (List ℕ)) (a : Terminal L × W) (counts : Counts) → counts.lines ≡ 0 → counts.events ≡ 0 → Running is_legal written left left a a counts [] [] []
  Running-nil left a counts no_line no_event = record {
    taken = Consumes-nil left;
    reads = subst (ReadsLines 0 [] []) (sym no_line) (ReadsLines-nil 0);
    rest = record { none = tt; short = omega arith; room = λ h. omega arith };
    count = no_event;
    bounds = record { most = omega arith; few = omega arith };
    plays = Played-nil a;
  }

  -- a read, and the whole lines that came
  pub Running-fed : {left left' left'' : Option (List ℕ)} {a b c : Terminal L × W} {w : W} {from to : Counts} {done : ℕ} {pending whole : List ℕ} {es fs : List Event} (bytes chunk : List ℕ)
      → Running is_legal written left left' a b from pending whole es → Keeps (written b.1) (written w) → Consumes left' left'' bytes → chunk ≡ pending ++ bytes
      → Fed is_legal written (b.0, w) c from to chunk done fs → IsRest to.lines (drop done chunk)
      → Running is_legal written left left'' a c to (drop done chunk) (whole ++ take done chunk) (es ++ fs)
  Running-fed {left = left} {left' = left'} {left'' = left''} {done = done} {pending = pending} {whole = whole} {es = es} {fs = fs} bytes chunk p kept took is fed rest =
      let counted = p.count in let more = fed.count in record {
        taken = subst (Consumes left left'')
            (append_assoc whole pending bytes ∙ ap (λ x. whole ++ x) (sym is ∙ sym (take-append-drop done chunk)) ∙ sym (append_assoc whole (take done chunk) (drop done chunk)))
            (Consumes-trans left left' left'' (whole ++ pending) bytes p.taken took);
        reads = ReadsLines-trans p.reads fed.reads;
        rest = rest;
        count = omega (arith, length-append es fs);
        bounds = fed.counts;
        plays = Played-trans (Played-kept p.plays kept) fed.plays;
      }

  -- what is buffered can't be flushed
  pub Running-unsent : {left left' : Option (List ℕ)} {a b : Terminal L × W} {counts : Counts} {pending whole : List ℕ} {es : List Event} (w : W)
      → Running is_legal written left left' a b counts pending whole es → Keeps (written b.1) (written w) → 0 < counts.events
      → IfSome left (λ script. StoppedWriting is_legal written script a (b.0, w))
  Running-unsent {left = left} {left' = left'} {a = a} {b = b} {counts = counts} {pending = pending} {whole = whole} {es = es} w p kept some =
      let l = last_of es (subst (λ n. 0 < n) p.count some) in
      let plays = Played-last l.0 l.1 (subst (Played is_legal text_at written a (b.0, w)) l.2 (Played-kept p.plays kept)) in
      IfSome-script left left' (whole ++ pending) _ p.taken (λ more. (
        l.0,
        l.1,
        reading counts.lines (lines_of (pending ++ more)),
        record { says = says-more whole pending more es counts.lines p.reads ∙ ap (λ x. adds x (reading counts.lines (lines_of (pending ++ more)))) l.2; plays = plays },
      ))

  -- a read fails
  pub Running-unread : {left left' : Option (List ℕ)} {a b : Terminal L × W} {counts : Counts} {pending whole : List ℕ} {es : List Event} (left'' : Option (List ℕ)) (w : W)
      → Running is_legal written left left' a b counts pending whole es → Keeps (written b.1) (written w) → Keeps left' left''
      → IfSome left (λ script. StoppedReading is_legal written left left'' a (b.0, w))
  Running-unread {left = left} {left' = left'} {counts = counts} {pending = pending} {whole = whole} {es = es} left'' w p kept same =
      IfSome-any left _ (λ script. (
        es,
        whole,
        pending,
        Consumes-kept left left' left'' (whole ++ pending) p.taken same,
        p.reads.ends,
        p.rest.none,
        record {
          says = ap (λ xs. reading 0 (lines_of xs)) (sym (append-nil whole)) ∙ p.reads.each [] ∙ ap (adds es) (reading-empty counts.lines);
          plays = Played-kept p.plays kept;
        },
      ))

  -- the script has a fault
  pub Running-refused : {left left' : Option (List ℕ)} {a b c : Terminal L × W} {w : W} {from : Counts} {pending whole : List ℕ} {es : List Event} {f : RunFault} (left'' : Option (List ℕ)) (to : Counts) (bytes chunk : List ℕ)
      → Running is_legal written left left' a b from pending whole es → Keeps (written b.1) (written w) → Consumes left' left'' bytes → chunk ≡ pending ++ bytes
      → FedToFault is_legal written (b.0, w) c from to chunk f
      → IfSome left (λ script. (es : List Event) × (to.events ≡ length es) × Ran is_legal written a c script es (stops f))
  Running-refused {left = left} {left' = left'} {pending = pending} {whole = whole} {es = es} left'' to bytes chunk p kept took is fed =
      let counted = p.count in let more = fed.1 in
      IfSome-script left left'' (whole ++ chunk) _
      (subst (Consumes left left'') (append_assoc whole pending bytes ∙ ap (λ x. whole ++ x) (sym is)) (Consumes-trans left left' left'' (whole ++ pending) bytes p.taken took))
      (λ rest. (es ++ fed.0, omega (arith, length-append es fed.0), record { says = (ReadsLines-Faults p.reads fed.2).each rest; plays = Played-trans (Played-kept p.plays kept) fed.3 }))

  -- a write fails
  pub Running-broken : {left left' : Option (List ℕ)} {a b c : Terminal L × W} {w : W} {from : Counts} {pending whole : List ℕ} {es : List Event} (left'' : Option (List ℕ)) (bytes chunk : List ℕ)
      → Running is_legal written left left' a b from pending whole es → Keeps (written b.1) (written w) → Consumes left' left'' bytes → chunk ≡ pending ++ bytes
      → FedPart is_legal written (b.0, w) c from chunk → IfSome left (λ script. StoppedWriting is_legal written script a c)
  Running-broken {left = left} {left' = left'} {pending = pending} {whole = whole} {es = es} left'' bytes chunk p kept took is fed =
      let gs = fed.0 in let e = fed.1 in let front = fed.2 in let rest = fed.3 in let n = fed.4 in
      IfSome-script left left'' (whole ++ front ++ rest) _
      (subst (Consumes left left'') (append_assoc whole pending bytes ∙ ap (λ x. whole ++ x) (sym is ∙ fed.5) ∙ sym (append_assoc whole front rest))
      (Consumes-trans left left' left'' (whole ++ pending) bytes p.taken took))
      (λ more. (
        es ++ gs,
        e,
        reading n (lines_of (rest ++ more)),
        record {
          says = says-more (whole ++ front) rest more (es ++ (gs ++ e ∷ [])) n (ReadsLines-trans p.reads fed.6)
              ∙ ap (λ x. adds x (reading n (lines_of (rest ++ more)))) (sym (append_assoc es gs (e ∷ [])));
          plays = Played-part (Played-kept p.plays kept) fed.7;
        },
      ))

  -- ---- the end of the script

  -- all was taken
  pub Running-end : {left left' left'' : Option (List ℕ)} {a b : Terminal L × W} {w : W} {counts : Counts} {pending whole : List ℕ} {es : List Event} (bytes : List ℕ)
      → Running is_legal written left left' a b counts pending whole es → Keeps (written b.1) (written w) → Consumes left' left'' bytes → bytes ≡ []
      → Running is_legal written left left'' a (b.0, w) counts pending whole es
  Running-end {left = left} {left' = left'} {left'' = left''} {pending = pending} {whole = whole} bytes p kept took none = record {
    taken = subst (Consumes left left'') (ap (λ x. whole ++ pending ++ x) none ∙ append-nil (whole ++ pending)) (Consumes-trans left left' left'' (whole ++ pending) bytes p.taken took);
    reads = p.reads;
    rest = p.rest;
    count = p.count;
    bounds = p.bounds;
    plays = Played-kept p.plays kept;
  }

  pub Running-done : {left left' : Option (List ℕ)} {a b c : Terminal L × W} {counts : Counts} {n : ℕ} {pending whole : List ℕ} {es fs : List Event}
      → Running is_legal written left left' a b counts pending whole es → IsAtEnd left'
      → reading counts.lines (lines_of pending) ≡ adds fs nothing → n ≡ counts.events + length fs → Played is_legal text_at written b c fs → Completed is_legal written left a c n
  Running-done {left = left} {left' = left'} {pending = pending} {whole = whole} {es = es} {fs = fs} p end says count plays =
      let counted = p.count in
      IfSome-end left left' (whole ++ pending) _ p.taken end (
        es ++ fs,
        omega (arith, length-append es fs),
        record { says = p.reads.each pending ∙ ap (adds es) says ∙ adds-adds es fs nothing; plays = Played-trans p.plays plays },
      )

  pub Running-last_refused : {left left' : Option (List ℕ)} {a b c : Terminal L × W} {counts : Counts} {n : ℕ} {pending whole : List ℕ} {es : List Event} {f : RunFault}
      → Running is_legal written left left' a b counts pending whole es → IsAtEnd left'
      → reading counts.lines (lines_of pending) ≡ stops f → n ≡ counts.events → Played is_legal text_at written b c []
      → IfSome left (λ script. (es : List Event) × (n ≡ length es) × Ran is_legal written a c script es (stops f))
  Running-last_refused {left = left} {left' = left'} {pending = pending} {whole = whole} {es = es} {f = f} p end says count plays =
      IfSome-end left left' (whole ++ pending) _ p.taken end
      (es ++ [], count ∙ p.count ∙ ap length (sym (append-nil es)), record { says = p.reads.each pending ∙ ap (adds es) says ∙ adds-adds es [] (stops f); plays = Played-trans p.plays plays })

  pub Running-last_broken : {left left' : Option (List ℕ)} {a b c : Terminal L × W} {counts : Counts} {pending whole : List ℕ} {es : List Event} {e : Event}
      → Running is_legal written left left' a b counts pending whole es → IsAtEnd left'
      → reading counts.lines (lines_of pending) ≡ adds (e ∷ []) nothing → PlayedPart is_legal written b c [] e
      → IfSome left (λ script. StoppedWriting is_legal written script a c)
  Running-last_broken {left = left} {left' = left'} {pending = pending} {whole = whole} {es = es} {e = e} p end says plays =
      IfSome-end left left' (whole ++ pending) _ p.taken end (
        es ++ [],
        e,
        nothing,
        record {
          says = p.reads.each pending ∙ ap (adds es) says ∙ adds-adds es (e ∷ []) nothing ∙ ap (λ x. adds (x ++ e ∷ []) nothing) (sym (append-nil es));
          plays = Played-part p.plays plays;
        },
      )

  -- ---- what a last flush keeps

  pub Ran-kept : {a b : Terminal L × W} {w : W} {text : List ℕ} {es : List Event} {r : Reading} → Keeps (written b.1) (written w) → Ran is_legal written a b text es r → Ran is_legal written a (b.0, w) text es r
  Ran-kept k p = record { says = p.says; plays = Played-kept p.plays k }

  pub Broke-kept : {a b : Terminal L × W} {w : W} {text : List ℕ} {es : List Event} {e : Event} {r : Reading} → Keeps (written b.1) (written w) → Broke is_legal written a b text es e r → Broke is_legal written a (b.0, w) text es e r
  Broke-kept k p = record { says = p.says; plays = PlayedPart-kept p.plays k }

  -- the transcript of what was played can't be flushed
  pub Ran-unsent : {a b : Terminal L × W} {w : W} {text : List ℕ} {es : List Event} {r : Reading} {n : ℕ} → 0 < n → n ≡ length es → Keeps (written b.1) (written w)
      → Ran is_legal written a b text es r → StoppedWriting is_legal written text a (b.0, w)
  Ran-unsent {a = a} {b = b} {w = w} {es = es} {r = r} some count k p =
      let l = last_of es (subst (λ n. 0 < n) count some) in (
        l.0,
        l.1,
        r,
        record {
          says = p.says ∙ ap (λ x. adds x r) l.2;
          plays = Played-last l.0 l.1 (subst (Played is_legal text_at written a (b.0, w)) l.2 (Played-kept p.plays k));
        },
      )

-- ---- facts of a script

pub IfSome-map : (a : Option (List ℕ)) (P Q : List ℕ → Type 0) → ((x : List ℕ) → P x → Q x) → IfSome a P → IfSome a Q
IfSome-map None P Q f p = tt
IfSome-map (Some xs) P Q f p = f xs p

-- a fault with a fact of the script
pub ByFault-IfSome : (f : RunFault) (a : Option (List ℕ)) (P R Q : List ℕ → Type 0) → ByFault f (IfSome a P) ⊥ (IfSome a Q) → IfSome a (λ x. ByFault f (P x) (R x) (Q x))
ByFault-IfSome (Line n) a P R Q x = x
ByFault-IfSome (LongLine n) a P R Q x = x
ByFault-IfSome TooLong a P R Q x = x
ByFault-IfSome Read a P R Q x = absurd x
ByFault-IfSome Write a P R Q x = x

-- what is left of the bytes read is as short as a rest
pub rest_len : (done total : ℕ) (buffer : List ℕ) → total ≤ length buffer → length (drop done (take total buffer)) ≤ 64 → total - done ≤ 64
rest_len done total buffer fits short = omega (arith, length-drop done (take total buffer), length-take total buffer)

pub no_bytes : (bytes : List ℕ) (n : ℕ) → length bytes ≡ n → n ≡ 0 → bytes ≡ []
no_bytes [] n len none = refl
no_bytes (b ∷ bytes) n len none = absurd (omega arith)

-- a read of no bytes leaves what stood before
pub same_front : (buffered n : ℕ) (bytes old new : List ℕ) → n ≡ 0 → bytes ≡ [] → take (buffered + n) new ≡ take buffered old ++ bytes → take buffered new ≡ take buffered old
same_front buffered n bytes old new none empty is =
    ap (λ m. take m new) (sym (add-zero buffered) ∙ ap (λ m. buffered + m) (sym none)) ∙ is ∙ ap (λ xs. take buffered old ++ xs) empty ∙ append-nil (take buffered old)

-- a fault of the script comes with the fact of the script
pub ByFault-script : (S R W : Type 0) (f : RunFault) → is_of_script f ≡ true → ByFault f S R W → S
ByFault-script S R W (Line n) is x = x
ByFault-script S R W (LongLine n) is x = x
ByFault-script S R W TooLong is x = x
ByFault-script S R W Read is x = absurd (search rules)
ByFault-script S R W Write is x = absurd (search rules)
