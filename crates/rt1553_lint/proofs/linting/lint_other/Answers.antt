use Rattle.std.proofs.Common.{inl, inr, subst, rules}
use Rattle.rt1553.specs.Load.{IsNotLoaded}
use Rattle.rt1553.specs.declared.fault.LoadFault.TheVariants as load
use Rattle.bus_profile.specs.declared.fault.ProfileFault.TheVariants.{NotToml}
use Rattle.rt1553_lint.specs.declared.finding.LintFault.TheVariants.{Profile, Canon}
use Rattle.rt1553_lint.proofs.Told.{only_toml, finds_refused}
use Rattle.rt1553_lint.proofs.linting.lint_other.Goals as goal

pub returns-in-Ok : goal.returns-in-Ok
returns-in-Ok c = record { found = inl (c.in-Ok.ensures.ok.description, c.in-Ok.ensures.ok.of, search rules); placed = search rules }

pub returns-in_ok-found-in-Err-Canon-clause-found : goal.returns-in_ok-found-in-Err-Canon-clause-found
returns-in_ok-found-in-Err-Canon-clause-found c =
    let refused : IsNotLoaded c.args.text.now (load.Canon c.in-Err-Canon.fault) = search rules in
    inr (finds_refused c.args.text.now _ _ (Canon c.in-Err-Canon.fault) c.in_ok-found-in-Err-Canon.ensures c.in_ok-finding-in-Err-Canon.ensures.fault c.in_ok-finding-in-Err-Canon.ensures.spare refused)

pub returns-in_ok-found-in-Err-Profile-clause-found : goal.returns-in_ok-found-in-Err-Profile-clause-found
returns-in_ok-found-in-Err-Profile-clause-found c =
    let refused : IsNotLoaded c.args.text.now (load.Profile c.in-Err-Profile.field-0-0) = search rules in
    let syntax = only_toml c.args.text.now c.in-Err-Profile.field-0-0 c.requires.none refused in
    inr (finds_refused c.args.text.now _ _ (Profile NotToml) c.in_ok-found-in-Err-Profile.ensures c.in_ok-finding-in-Err-Profile.ensures.fault c.in_ok-finding-in-Err-Profile.ensures.spare
    (subst (λ f. IsNotLoaded c.args.text.now (load.Profile f)) syntax refused))
