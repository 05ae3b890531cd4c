use Rattle.std.proofs.Common.{◌∙◌, ◌++◌, ◌∷◌, [], refl, sym, subst, rules}
use Rattle.std.proofs.lemmas.Result.{err_from_is_err_and}
use Rattle.recorded_terminal.specs.declared.watch.Watch.{Watch}
use Rattle.recorded_terminal.specs.Watched.{IsFollowing, LeadOnBy, WatchesBy}
use Rattle.recorded_terminal.proofs.WatchLaws.{found_stays, waits_on, sees_status, sees_many, follows_still, many_waiting}
use Rattle.recorded_terminal.proofs.watch.Watch.see.Goals as goal
use Rattle.recorded_terminal.proofs.watch.Watch.see.Goals.{then-is_some-2+in_ok-self, else-is_some-2+then-len-ge-MOST_WAITING+in_ok-part_by_flags+in_ok-self-2}

pub returns-then-is_some-clause-sees : goal.returns-then-is_some-clause-sees
returns-then-is_some-clause-sees g c P h ms watches =
    (watches.0, found_stays g.L.Legality.is_legal P h ms c.args.marked c.args.self.now c.args.self.now c.args.self.now.first (search rules) watches.1)

pub returns-else-len-ge-MOST_WAITING-clause-sees : goal.returns-else-len-ge-MOST_WAITING-clause-sees
returns-else-len-ge-MOST_WAITING-clause-sees g c P h ms watches = (
  watches.0,
  waits_on g.L.Legality.is_legal P h ms c.args.marked c.args.self.now
      (record { alloc = c.args.self.now.alloc; ways = c.args.self.now.ways; by_flags = c.args.self.now.by_flags; followed = c.args.self.now.followed; waiting = c.push.new.self; first = c.args.self.now.first })
      c.status_in-status.result (search rules) watches.1 c.status_in-status.ensures (search rules) refl refl refl c.in_ok-push.ensures.items (search rules) (search rules),
)

pub returns-clause-sees : goal.returns-clause-sees
returns-clause-sees g c P h ms watches =
    let legal = g.L.Legality.is_legal in
    let old : Watch g.row.L.Denot = c.args.self.now in
    let sees : Watch g.row.L.Denot → Type 0 = λ s. WatchesBy legal P h (ms ++ c.args.marked ∷ []) (record { alloc = s.alloc; ways = s.ways; by_flags = s.by_flags; followed = c.in-Some.seen; waiting = c.clear.new.self; first = s.first }) s.first in (
      watches.0,
      elim c.if-is_some-2.branch [
        | then-is_some-2+in_ok-self w ↦
            subst sees (sym w.self-is)
            (sees_status legal P h ms c.args.marked old
            (record { alloc = old.alloc; ways = w.follow.new.ways; by_flags = w.choose_flags.new.by_flags; followed = c.in-Some.seen; waiting = c.clear.new.self; first = w.in_ok-self.field-0 })
            w.choose_flags.new.ways.items w.as_slice.result.now c.status_in-status.result (search rules) watches.1 c.status_in-status.ensures (search rules) (w.as_slice.ensures.value ∙ c.in_ok-push.ensures.items) c.clear.ensures.items (search rules) (search rules) w.choose_flags.ensures.emptied
            (λ front leads. w.choose_flags.ensures.leads P h front leads)
            (λ front ways. w.in_ok-self.ensures.found P h front watches.0 (search rules) ways))
        | else-is_some-2+then-len-ge-MOST_WAITING+in_ok-part_by_flags+in_ok-self-2 w ↦
            subst sees (sym w.self-is)
            (sees_many legal P h ms c.args.marked old
            (record { alloc = old.alloc; ways = old.ways; by_flags = w.follow_by_flags.new.by_flags; followed = c.in-Some.seen; waiting = c.clear.new.self; first = w.in_ok-self-2.field-0 })
            w.as_slice-then-len-ge-MOST_WAITING-2.result.now c.status_in-status.result (search rules) watches.1 c.status_in-status.ensures (search rules) (w.as_slice-then-len-ge-MOST_WAITING-2.ensures.value ∙ c.in_ok-push.ensures.items) c.clear.ensures.items (search rules) (search rules) refl
            (λ front leads counted none.
            w.in_ok-self-2.ensures.found P h front watches.0
            (w.in_ok-part_by_flags.ensures P h front (subst (λ ways. LeadOnBy legal P h front ways old.by_flags.items) (sym w.as_slice-then-len-ge-MOST_WAITING.ensures.value) leads))
            counted (search rules) none))
      ],
    )

pub returns-in_err-self-clause-refused : goal.returns-in_err-self-clause-refused
returns-in_err-self-clause-refused g c =
    let legal = g.L.Legality.is_legal in
    let old : Watch g.row.L.Denot = c.args.self.now in
    let r = c.from_residual-in_err-self in
    let p = err_from_is_err_and r.result r.ensures.1 in
    rw (p.1, p.2) (λ same P h ms watches.
    let i : IsFollowing legal P h ms old = follows_still legal P h ms old old.first (search rules) watches.1 in
    many_waiting legal P h ms c.args.marked old i c.as_slice.result.now (c.as_slice.ensures.value ∙ c.in_ok-push.ensures.items)
    (c.in_err-self.ensures.refused same P h i.followed watches.0 (c.choose_flags.ensures.leads P h i.followed i.leads).ways))

pub returns-in_err-self-2-clause-refused : goal.returns-in_err-self-2-clause-refused
returns-in_err-self-2-clause-refused g c =
    let legal = g.L.Legality.is_legal in
    let old : Watch g.row.L.Denot = c.args.self.now in
    let r = c.from_residual-in_err-self-2 in
    let p = err_from_is_err_and r.result r.ensures.1 in
    rw (p.1, p.2) (λ same P h ms watches.
    let i : IsFollowing legal P h ms old = follows_still legal P h ms old old.first (search rules) watches.1 in
    many_waiting legal P h ms c.args.marked old i c.as_slice-then-len-ge-MOST_WAITING-2.result.now (c.as_slice-then-len-ge-MOST_WAITING-2.ensures.value ∙ c.in_ok-push.ensures.items)
    (c.in_err-self-2.ensures.refused same P h i.followed watches.0
    (c.in_ok-part_by_flags.ensures P h i.followed (subst (λ ways. LeadOnBy legal P h i.followed ways old.by_flags.items) (sym c.as_slice-then-len-ge-MOST_WAITING.ensures.value) i.leads))))
