-- What was written of what was heard, one item after the other.
use Rattle.std.proofs.Common.{ℕ, ◌≡◌, ◌<◌, ◌+◌, ◌∙◌, length, get_or, take, List, [], ◌∷◌, ◌++◌, Option, refl, sym, ap, subst, append_assoc, append-nil}
use Rattle.std.specs.Io.KnownBytes.{Appends}
use Rattle.std.proofs.KnownBytes.{Appends-nil, Appends-trans}
use Rattle.std.proofs.lemmas.List.{take_more}
use Rattle.monitor_cells.specs.declared.heard.HeardItem.{HeardItem}
use Rattle.monitor_tables.specs.declared.fault.RefusedRow.{RefusedRow}
use Rattle.monitor_tables.specs.Recording.{HeardAt, noted_text, recording_text, refused_line, early_text, IsNotable, AreNotable}
use Rattle.monitor_tables.specs.inner.Puts.{PutsNoted}
use Rattle.monitor_tables.specs.Rows.{untimed}

notable-append : (xs ys : List HeardAt) → AreNotable xs → AreNotable ys → AreNotable (xs ++ ys)
notable-append [] ys p q = q
notable-append (x ∷ xs) ys p q = (p.0, notable-append xs ys p.1 q)

noted-append : (xs ys : List HeardAt) → recording_text (xs ++ ys) ≡ recording_text xs ++ recording_text ys
noted-append [] ys = refl
noted-append (x ∷ xs) ys = ap (λ text. noted_text x ++ text) (noted-append xs ys) ∙ sym (append_assoc (noted_text x) (recording_text xs) (recording_text ys))

-- one item more
untimed-more : (xs : List HeardItem) (x : HeardItem) → untimed (xs ++ x ∷ []) ≡ untimed xs ++ record { time = []; heard = x } ∷ []
untimed-more [] x = refl
untimed-more (y ∷ xs) x = ap (λ ns. record { time = []; heard = y } ∷ ns) (untimed-more xs x)

pub untimed-taken : (xs : List HeardItem) (i : ℕ) (d : HeardItem) → i < length xs → untimed (take (i + 1) xs) ≡ untimed (take i xs) ++ record { time = []; heard = get_or xs i d } ∷ []
untimed-taken xs i d low = ap untimed (take_more xs i d low) ∙ untimed-more (take i xs) (get_or xs i d)

module _ {W : Type 0} {written : W → Option (List ℕ)} where
  pub puts-one : (w w' : W) (n : HeardAt) → IsNotable n → Appends (written w) (written w') (noted_text n) → PutsNoted written w w' (n ∷ [])
  puts-one w w' n is text = record { notable = (is, tt); text = subst (Appends (written w) (written w')) (sym (append-nil (noted_text n))) text }

  pub puts-nothing : (w : W) → PutsNoted written w w []
  puts-nothing w = record { notable = tt; text = Appends-nil (written w) }

  pub puts-joined : {w w' w'' : W} {ns ms : List HeardAt} → PutsNoted written w w' ns → PutsNoted written w' w'' ms → PutsNoted written w w'' (ns ++ ms)
  puts-joined {w = w} {w' = w'} {w'' = w''} {ns = ns} {ms = ms} p q = record {
    notable = notable-append ns ms p.notable q.notable;
    text = subst (Appends (written w) (written w'')) (sym (noted-append ns ms))
        (Appends-trans (written w) (written w') (written w'') (recording_text ns) (recording_text ms) p.text q.text);
  }

  -- the items of a recording that ends early, and its last line
  pub puts-early : (w w' w'' : W) (ns : List HeardAt) (refused : RefusedRow) → PutsNoted written w w' ns
      → Appends (written w') (written w'') (refused_line refused.row refused.rows) → Appends (written w) (written w'') (early_text ns refused)
  puts-early w w' w'' ns refused p line = Appends-trans (written w) (written w') (written w'') (recording_text ns) (refused_line refused.row refused.rows) p.text line
