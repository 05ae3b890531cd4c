use Rattle.std.proofs.Common.{ℕ, ◌∙◌, ap, inr, Some, option_map}
use Rattle.std.specs.Fmt.{option_append}
use Rattle.csv.specs.Reading.{builder_config, builder_names_headers, builder_trim, strip_bom}
use Rattle.csv.specs.declared.parser.Config.{Config}
use Rattle.csv.specs.declared.parser.Terminator.TheVariants.{Any}
use Rattle.monitor_tables.proofs.ReadLaws.{told-none}
use Rattle.monitor_tables.proofs.records.TableRecords.new.Goals as goal

ending_in : Config → ℕ → Config
ending_in config b = record config { terminator = Any b }

pub returns-clause-told : goal.returns-clause-told
unfolding ending_in
returns-clause-told g c =
    let fr = c.from_reader.ensures in
    let t = c.terminator.ensures in
    let f = c.flexible.ensures in
    let h = c.has_headers.ensures in
    told-none g.R.Read.remaining _ (g.R.Read.remaining c.args.source)
    (fr.config ∙ (ap builder_config t ∙ ap (λ config. ending_in config 10) (ap builder_config f ∙ (ap builder_config h ∙ c.new.ensures.config))))
    (fr.trim ∙ (ap builder_trim t ∙ (ap builder_trim f ∙ (ap builder_trim h ∙ c.new.ensures.trim))))
    (inr (inr (fr.has_headers ∙ (ap builder_names_headers t ∙ (ap builder_names_headers f ∙ ap builder_names_headers h)), fr.headers)))
    fr.state
    (fr.source ∙ ap (option_map strip_bom) (c.chain.ensures.bytes ∙ ap (λ bytes. option_append (g.R.Read.remaining c.args.source) (Some bytes)) c.as_slice.ensures))
