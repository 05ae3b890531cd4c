use Rattle.std.proofs.Common.{IfNone, IfSome, option_map, ap, sym, ◌∙◌, subst}
use Rattle.clap.specs.Matches.{found_of}
use Rattle.clap.specs.Walk.{rows_of}
use Rattle.rt1553_args.specs.Jobs.{MeansJob, MeansNoJob}
use Rattle.rt1553_args.proofs.args.job_of.Goals as goal
use Rattle.rt1553_args.proofs.OfArgs.{met}

pub returns-in-Some-clause-some : goal.returns-in-Some-clause-some
returns-in-Some-clause-some c =
    subst (λ o. IfSome c.subcommand_job.result (λ job. MeansJob job o)) (sym (met _ _ _ (sym (ap (option_map (λ p. p.0.now)) c.in-Some.is) ∙ c.subcommand.ensures.name) (sym (ap (option_map (λ p. rows_of (found_of p.1.now))) c.in-Some.is) ∙ c.subcommand.ensures.rows))) c.subcommand_job.ensures.some

pub returns-in-Some-clause-none : goal.returns-in-Some-clause-none
returns-in-Some-clause-none c =
    subst (λ o. IfNone c.subcommand_job.result (MeansNoJob o)) (sym (met _ _ _ (sym (ap (option_map (λ p. p.0.now)) c.in-Some.is) ∙ c.subcommand.ensures.name) (sym (ap (option_map (λ p. rows_of (found_of p.1.now))) c.in-Some.is) ∙ c.subcommand.ensures.rows))) c.subcommand_job.ensures.none
