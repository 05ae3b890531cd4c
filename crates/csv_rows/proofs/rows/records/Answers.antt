use Rattle.std.proofs.Common.{Bor, List, ℕ, ◌∙◌, ◌++◌, ◌∷◌, sym, ap, refl, inl, inr, Some, []}
use Rattle.csv.specs.Reading.{Reached, strip_bom, builder_trim, builder_names_headers, builder_config}
use Rattle.csv.specs.Records.{fields_of}
use Rattle.csv.specs.declared.parser.State.TheVariants as st
use Rattle.csv.specs.declared.parser.Config.{Config}
use Rattle.csv.proofs.ReadFacts.{rows-end, rows-more}
use Rattle.csv_rows.specs.Rows.{csv_config, kept_rows}
use Rattle.csv_rows.proofs.RowLaws.{kept-append}
use Rattle.csv_rows.proofs.rows.records.Goals as goal

with_delimiter : Config → ℕ → Config
with_delimiter config d = record config { delimiter = d }

pub loop-record-init : goal.loop-record-init
unfolding Reached with_delimiter
loop-record-init c =
    let fr = c.from_reader-reader.ensures in
    let d = c.delimiter.ensures in
    let e = c.flexible.ensures in
    let h = c.has_headers.ensures in
    let start = c.into_iter-record-iterator.ensures.into_iter_gives ∙ refl in
    let rdr = c.into_byte_records-record-items.ensures.rdr in
    let left = c.into_byte_records-record-items.ensures.left in
    rw (start, rdr, c.new-rows.ensures.items) (
      fr.trim ∙ (ap builder_trim d ∙ (ap builder_trim e ∙ (ap builder_trim h ∙ c.new.ensures.trim))),
      inr (inr (fr.has_headers ∙ (ap builder_names_headers d ∙ (ap builder_names_headers e ∙ ap builder_names_headers h)), fr.headers)),
      left,
      fr.config ∙ (ap builder_config d ∙ (ap (λ config. with_delimiter config c.args.delimiter) (ap builder_config e ∙ (ap builder_config h ∙ c.new.ensures.config)))),
      strip_bom c.args.text.now,
      fr.source,
      [],
      refl,
      (sym fr.state, refl),
    )

pub loop-record-preserved : goal.loop-record-preserved
loop-record-preserved c =
    let inv = c.loop-record.invariant in
    let s = rw (c.in-Some.is, c.in-Ok.is) at ((c.next.ensures.steps inv.2 inv.0).0 inv.1) in
    let m = rows-more (λ (s : Bor (List ℕ)). Some s.now) c.loop-record.record-iterator.rdr c.next.new.self.rdr (fields_of c.in-Ok.fields) (csv_config c.args.delimiter) st.StartRecord (strip_bom c.args.text.now) inv.4 inv.6 inv.3 inv.5 inv.8 s.0 in
    let more = c.in_ok-push_record.ensures ∙ (ap (λ rows. rows ++ kept_rows (fields_of c.in-Ok.fields ∷ [])) inv.7 ∙ sym (kept-append inv.6 (fields_of c.in-Ok.fields ∷ []))) in
    (s.0.3 ∙ inv.0, inl s.1, s.2, s.0.2 ∙ inv.3, m.0, m.1, inv.6 ++ fields_of c.in-Ok.fields ∷ [], more, m.2)

pub returns : goal.returns
returns c =
    let inv = c.loop-record.invariant in
    let s = rw c.in-None.is at ((c.next.ensures.steps inv.2 inv.0).0 inv.1) in
    record { records = inv.6; kept = inv.7; read = (c.loop-record.record-iterator.rdr.state, inv.4, inv.8, rows-end (λ (s : Bor (List ℕ)). Some s.now) c.loop-record.record-iterator.rdr c.next.new.self.rdr [] (csv_config c.args.delimiter) inv.4 inv.3 inv.5 s) }
