-- What a subcommand that was met says of its arguments.
use Rattle.std.proofs.Common.{◌≡◌, List, Option, Some, None, option_map, refl, ap, ap₂, sym, ◌∙◌, codes, length}
use Rattle.clap.specs.Words.{Row, Text, first_of, first_value, subcommand_rows_of}
use Rattle.clap.specs.Walk.{rows_of}
use Rattle.clap.specs.Matches.{subcommand_name_of}
use Rattle.clap.specs.declared.parser.matches.Found.{Found}
use Rattle.clap.specs.declared.parser.matches.ArgMatches.{ArgMatches}
use Rattle.clap.specs.declared.parser.matches.ArgMatches.TheViews.{out-ArgMatches}
use Rattle.clap.proofs.WalkLemmas.{first_value-rows}
use Rattle.rt1553_args.specs.Jobs.{MeansNoJob}
use Rattle.rt1553_args.specs.declared.args.Job.TheVariants as job

fused : {A B C : Type 0} (f : A → B) (g : B → C) (o : Option A) → option_map g (option_map f o) ≡ option_map (λ x. g (f x)) o
fused f g None = refl
fused f g (Some x) = refl

both_parts : {A B : Type 0} (o : Option (A × B)) (a : A) (b : B) → Some a ≡ option_map (λ p. p.0) o → Some b ≡ option_map (λ p. p.1) o → o ≡ Some (a, b)
both_parts None a b h k = cc
both_parts (Some p) a b h k = let x : p.0 ≡ a = cc in let y : p.1 ≡ b = cc in ap₂ (λ u v. Some (u, v)) x y

-- the subcommand that was met, by its name and its rows
pub met : (m : ArgMatches) (name : Text) (rows : List Row) → Some name ≡ subcommand_name_of m → Some rows ≡ option_map (λ q. q.1) (subcommand_rows_of m)
    → subcommand_rows_of m ≡ Some (name, rows)
met m name rows n r = both_parts _ name rows (n ∙ sym (fused _ (λ p. p.0) (out-ArgMatches m).subcommand)) r

pub arg_met : (f : Found) (id : Text) (p : Option Text) → first_value f id ≡ p → Some (first_of id (rows_of f)) ≡ Some p
arg_met f id p h = ap Some (sym (first_value-rows f id) ∙ h)

-- each job of a subcommand has the argument `first`
pub no_first : (name : Text) (f : Found) → first_value f (codes "first") ≡ None → MeansNoJob (Some (name, rows_of f))
no_first name f h job.Standard e = cc
no_first name f h (job.Check p) e = let is = sym (arg_met f _ None h) ∙ e.1 in cc
no_first name f h (job.Canon p) e = let is = sym (arg_met f _ None h) ∙ e.1 in cc
no_first name f h (job.Run p q) e = let is = sym (arg_met f _ None h) ∙ e.1 in cc
no_first name f h (job.Compare p q) e = let is = sym (arg_met f _ None h) ∙ e.1 in cc

same_name : (a b : Text) → Some a ≡ Some b → a ≡ b
same_name a b e = cc

-- and each of a subcommand that isn't `check` nor `canon`, told by the length of its name, the argument `second`
pub no_second : (name : Text) (f : Found) → (length name ≡ 5 → ⊥) → first_value f (codes "second") ≡ None → MeansNoJob (Some (name, rows_of f))
no_second name f other h job.Standard e = cc
no_second name f other h (job.Check p) e = other (ap length (same_name _ _ e.0))
no_second name f other h (job.Canon p) e = other (ap length (same_name _ _ e.0))
no_second name f other h (job.Run p q) e = let is = sym (arg_met f _ None h) ∙ e.2 in cc
no_second name f other h (job.Compare p q) e = let is = sym (arg_met f _ None h) ∙ e.2 in cc
