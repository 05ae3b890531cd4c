use Rattle.std.proofs.Common.{ℕ, ◌≡◌, Bool, if◌then◌else◌, OnOk, codes, ap, sym, subst, eq-eqb}
use Rattle.std.proofs.lemmas.Bool.{ne_eqb}
use Rattle.std.specs.String.{string_bytes}
use Rattle.bus_reports.specs.Outcomes.{EndsWith, last_words, well_words}
use Rattle.bus_reports.proofs.Ends.{ends}
use Rattle.bus_reports.proofs.told.push_end.Goals as goal

last_none : (told : ℕ) (every : Bool) → told ≡ 0 → well_words every ≡ last_words told every
last_none told every is = ap (λ b. if b then well_words every else codes "n't end well\n") (sym (eq-eqb told 0 is))

last_some : (told : ℕ) (every : Bool) → (told ≡ 0 → ⊥) → codes "n't end well\n" ≡ last_words told every
last_some told every some = ap (λ b. if b then well_words every else codes "n't end well\n") (sym (ne_eqb told 0 some))

pub returns-then-told-eq0 : goal.returns-then-told-eq0
returns-then-told-eq0 c =
    subst (λ words. OnOk c.push_well.result (EndsWith words (string_bytes c.push_well.new.text))) (last_none c.args.told c.args.in_every_order c.if-told-eq0.true) c.push_well.ensures

pub returns : goal.returns
returns c =
    subst (λ words. OnOk c.push_str.result (EndsWith words (string_bytes c.push_str.new.self))) (last_some c.args.told c.args.in_every_order c.if-told-eq0.false) (ends c.push_str.result _ _ _ c.push_str.ensures.bytes)
