-- What is told of the records of a table, one after the other.
use Rattle.std.proofs.Common.{ℕ, ◌≡◌, ◌∙◌, ◌+◌, ◌<◌, zero, suc, Bool, true, false, if◌then◌else◌, ◌||◌, Option, Some, None, IfSome, option_map, List, length, drop, [], ◌∷◌, ◌++◌, map, refl, sym, ap, subst, append_assoc, append-nil, inl, arith}
use Rattle.std.specs.Fmt.{option_append}
use Rattle.std.specs.Io.Chain.{chain_remaining}
use Rattle.csv.specs.declared.parser.State.TheVariants.{StartRecord}
use Rattle.csv.specs.declared.reader.Trim.TheVariants as trim
use Rattle.csv.specs.Reading.{Reached, ReadRecord, Ready, reader_config, reader_state, reader_trim, strip_bom, took_first}
use Rattle.csv.specs.Records.{fields_of, field_at, trimmed}
use Rattle.csv.proofs.ReadFacts.{rows-more}
use Rattle.monitor_cells.specs.Cells.{is_some_text}
use Rattle.monitor_tables.specs.Fields.{record_text}
use Rattle.monitor_tables.specs.declared.records.TableRecords.{TableRecords}
use Rattle.monitor_tables.specs.Table.{table_config, table_text, is_some_record, told_of, told_records, AreTableRecords, bytes_left, HasTold, TellsAll, TellsFront}
use Rattle.monitor_tables.specs.inner.Reads.{TellsMore, ReadsOne, ReadsNext}

-- one record more
told-more : (records : List (List (List ℕ))) (fields : List (List ℕ)) → told_records (records ++ fields ∷ []) ≡ told_records records ++ told_of (map trimmed fields)
told-more [] fields = append-nil (told_of (map trimmed fields))
told-more (r ∷ records) fields =
    ap (λ told. told_of (map trimmed r) ++ told) (told-more records fields) ∙ sym (append_assoc (told_of (map trimmed r)) (told_records records) (told_of (map trimmed fields)))

-- a record with text is told
told-text : (fields : List (List ℕ)) → is_some_record fields ≡ true → told_of fields ≡ fields ∷ []
told-text fields has = by (is_some_record fields) has
  where
    by : (b : Bool) → b ≡ true → (if b then fields ∷ [] else []) ≡ fields ∷ []
    by true e = refl
    by false e = absurd (cc e)

-- one without is not
untold : (fields : List (List ℕ)) → is_some_record fields ≡ false → told_of fields ≡ []
untold fields has = by (is_some_record fields) has
  where
    by : (b : Bool) → b ≡ false → (if b then fields ∷ [] else []) ≡ []
    by true e = absurd (cc e)
    by false e = refl

-- the fields from one on
text-from : (fields : List (List ℕ)) (i : ℕ) → i < length fields → is_some_record (drop i fields) ≡ (is_some_text (record_text fields i) || is_some_record (drop (suc i) fields))
unfolding field_at
text-from [] i low = absurd (omega (arith, low))
text-from (f ∷ fields) zero low = refl
text-from (f ∷ fields) (suc i) low = let less : i < length fields = omega (arith, low) in text-from fields i less

-- the same where the next one is that
pub text-step : (fields : List (List ℕ)) (i : ℕ) (b : Bool) → i < length fields → is_some_record fields ≡ is_some_record (drop i fields) → is_some_text (record_text fields i) ≡ b → is_some_record fields ≡ (b || is_some_record (drop (i + 1) fields))
text-step fields i b low so is =
    let next : suc i ≡ i + 1 = omega arith in
    so ∙ text-from fields i low ∙ ap (λ n. is_some_text (record_text fields i) || is_some_record (drop n fields)) next ∙ ap (λ x. x || is_some_record (drop (i + 1) fields)) is

module _ {R : Type 0} {remaining : R → Option (List ℕ)} where
  pub nothing-told : (t : TableRecords R) → TellsMore remaining t t []
  nothing-told t text told p = subst (λ x. HasTold remaining text x t) (sym (append-nil told)) p

  pub told-joined : {t u v : TableRecords R} {xs ys : List (List (List ℕ))} → TellsMore remaining t u xs → TellsMore remaining u v ys → TellsMore remaining t v (xs ++ ys)
  told-joined {v = v} {xs = xs} {ys = ys} p q text told is = subst (λ x. HasTold remaining text x v) (append_assoc told xs ys) (q text (told ++ xs) (p text told is))

  pub told-all : {t u : TableRecords R} {xs : List (List (List ℕ))} → TellsMore remaining t u xs → TellsAll remaining u [] → TellsAll remaining t xs
  told-all {xs = xs} p q text told is = subst (AreTableRecords text) (append-nil (told ++ xs)) (q text (told ++ xs) (p text told is))

  -- those that were told are the first
  pub told-part : {t u : TableRecords R} {xs : List (List (List ℕ))} → TellsMore remaining t u xs → TellsFront remaining t xs
  told-part {u = u} p text told is = let h = p text told is in record { records = h.records; state = reader_state u.reader; rest = h.rest; reached = h.reached; told_is = h.told_is }

  -- a record was read, and the blanks at the ends of its fields were taken away
  pub read-one : (t u : TableRecords R) (fields : List (List ℕ)) (found : Bool) → found ≡ true
      → (reader_trim t.reader ≡ trim.None → Ready t.reader → ReadRecord (chain_remaining remaining (λ s. Some s.now)) t.reader u.reader found fields)
      → (reader_trim t.reader ≡ trim.None → took_first u.reader ≡ true) → fields_of u.row ≡ map trimmed fields → TellsMore remaining t u (told_of (fields_of u.row))
  read-one t u fields false is reads first trims text told p = absurd (cc is)
  read-one t u fields true is reads first trims text told p =
      let r = reads p.trims p.ready in
      let more = rows-more (chain_remaining remaining (λ s. Some s.now)) t.reader u.reader fields table_config StartRecord (table_text text) p.rest p.records p.config p.left p.reached r in record {
        config = r.2 ∙ p.config;
        trims = r.3 ∙ p.trims;
        ready = inl (first p.trims);
        records = p.records ++ fields ∷ [];
        rest = more.0;
        left = more.1;
        reached = more.2;
        told_is = told-more p.records fields ∙ ap (λ x. x ++ told_of (map trimmed fields)) p.told_is ∙ ap (λ f. told ++ told_of f) (sym trims);
      }

  -- a record that was read and has text
  pub one-told : (t u : TableRecords R) (found : Bool) → found ≡ true → is_some_record (fields_of u.row) ≡ true → ReadsOne remaining t u found → TellsMore remaining t u (fields_of u.row ∷ [])
  one-told t u true is has p = subst (TellsMore remaining t u) (told-text (fields_of u.row) has) p
  one-told t u false is has p = absurd (cc is)

  -- one that has none
  pub one-untold : (t u : TableRecords R) (found : Bool) → found ≡ true → is_some_record (fields_of u.row) ≡ false → ReadsOne remaining t u found → TellsMore remaining t u []
  one-untold t u true is has p = subst (TellsMore remaining t u) (untold (fields_of u.row) has) p
  one-untold t u false is has p = absurd (cc is)

  pub one-all : (t u : TableRecords R) (found : Bool) → found ≡ false → ReadsOne remaining t u found → TellsAll remaining t []
  one-all t u true is p = absurd (cc is)
  one-all t u false is p = p

  -- what the next record says
  pub next-told : (t u : TableRecords R) (found : Bool) → found ≡ true → ReadsNext remaining t u found → TellsMore remaining t u (fields_of u.row ∷ [])
  next-told t u true is p = p.1
  next-told t u false is p = absurd (cc is)

  pub next-all : (t u : TableRecords R) (found : Bool) → found ≡ false → ReadsNext remaining t u found → TellsAll remaining t []
  next-all t u true is p = absurd (cc is)
  next-all t u false is p = p

-- where the first records of a text are known
pub told-first : {R : Type 0} {remaining : R → Option (List ℕ)} {t u : TableRecords R} {xs : List (List (List ℕ))} (known : Option (List ℕ))
    → IfSome known (λ text. HasTold remaining text [] t) → TellsMore remaining t u xs → IfSome known (λ text. HasTold remaining text xs u)
told-first None p more = tt
told-first (Some text) p more = more text [] p

-- nothing was read
pub told-none : {R : Type 0} (remaining : R → Option (List ℕ)) (t : TableRecords R) (known : Option (List ℕ)) → reader_config t.reader ≡ table_config → reader_trim t.reader ≡ trim.None → Ready t.reader → reader_state t.reader ≡ StartRecord
    → bytes_left remaining t ≡ option_map strip_bom (option_append known (Some (10 ∷ []))) → IfSome known (λ text. HasTold remaining text [] t)
unfolding Reached
told-none remaining t None config trims ready state left = tt
told-none remaining t (Some text) config trims ready state left = record {
  config = config;
  trims = trims;
  ready = ready;
  records = [];
  rest = table_text text;
  left = left;
  reached = (sym state, refl);
  told_is = refl;
}
