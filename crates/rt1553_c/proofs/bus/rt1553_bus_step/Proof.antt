-- `rt1553_bus_step` lends what lies at its pointer to `step_bus`, and has it back.
use Rattle.std.proofs.Common.{ℕ, [], ◌∷◌, refl, w8}
use Rattle.std.proofs.raw_atomic.Walks.{proved, leaves}
use base.Fraction.{full_share}
use base.Logic.{id⊢}
use base.Fml.{ftrue, fsep, fex, flft, flent}
use mir.Syntax.{named}
use mir.Val.{vptr}
use prog.Wp.{WpFn}
use contract.Monad.{fact}
use contract.Running.{tables}
use types.SemTy.{Body}
use types.Tokens.{lft_new, lft_end}
use types.Kit.{‵, raw, ◌⊛◌, some, later, prop, at_ret, ◌$◌, ◌∵◌, !, qed, by, move, keep, drop, use1, use2, use3, split, join, fsplit, fjoin, fpack, pick, await, regoal}
use types.Run.{enter, of_opd, addr, stop, no_more, and_then, first, blocks, exec, returns}
use types.ByLocal.{alloc_all, pass_all, free_all, look_at, get, through, sets, sets_last, lands_as, env}
use denote.Exit.{yes}
use denote.Laws.{Is, shows}
use denote.Builtin.{u8}
use denote.Plain.{uint_Lawful}
use denote.RattleType.{RattleType}
use denote.RawPtr.{Ptr, RawPtr, block_ptr, lies_at, in_a_block, rawptr_vals, rawptr_Tells}
use denote.Memory.{part_at, mem}
use denote.Ref.{MutRef}
use denote.Lend.{lends_ref, ref_back}
use denote.Signature.{plain}
use denote.Steps.{nothing, heard, peeks}
use denote.Triple.Call.{calls_at}
use denote.Triple.Clauses.{lasts}
use denote.Triple.Entry.{on_entry}
use denote.Triple.Spec.{triple_of}
use denote.Triple.Walked.{Stays, walk_of, stay_dropped, Goes-dropped}
use denote.Triple.Table.{framed}
use Rattle.live_bus.specs.declared.front.LiveBus.{LiveBus}
use Rattle.live_bus.specs.contracts.front.LiveBus.{the_row}
use Rattle.live_bus.specs.LiveBus.{StepsAtAll}
use Rattle.rt1553_c.specs.contracts.bus.rt1553_bus_step as f
use Rattle.rt1553_c.proofs.bus.rt1553_bus_step.Statement.{statement}
use Rattle.rt1553_c.proofs.bus.rt1553_bus_step.Code as code
use Rattle.live_bus.specs.contracts.step_bus as g
use Rattle.live_bus.proofs.step_bus.Met.{met}

abbrev stayed : Stays f.ended.signature.params f.ended.kept
stayed = (stay_dropped _ yes, tt)

pub rt1553_bus_step_spec : {M : Type 1} → statement M
rt1553_bus_step_spec 𝓤 𝓛 𝓜 𝓡 wired =
    let c = f.clauses 𝓛 𝓜.mem 𝓡.returns in let W = walk_of 𝓛 f.ended stayed c in let 𝓣 = tables 𝓤 𝓛.H 𝓜 𝓡 𝓡.env in
    let R : RattleType = the_row in
    proved 𝓛 f.ended stayed c 𝓜 𝓡 (Goes-dropped 𝓛 0 (plain (λ _. RawPtr)) yes (λ κs x w. refl), tt)
    f.Key.name code.function (code.unfolded 𝓤 𝓛.H 𝓜 𝓡 wired)
    (λ κs. (rawptr_vals, tt)) (λ κs. (rawptr_Tells, tt)) (λ κs qs bounds a x are.
    let y : Ptr → W.Ghost = λ p. ((κs, qs, bounds, (p, tt), (rawptr_vals p, tt)), x) in
    qed 𝓛 (raw (on_entry 𝓛 f.signature κs qs a (y a.0).0.4) ∷ ‵ (lies_at R full_share a.0 x) ∷ []) ∵ drop ! $
    in_a_block ! a.0 (λ p. lies_at R full_share p x) (id⊢ 𝓤 _) (λ b o e.
    regoal ! (λ p. prop (WpFn 𝓤 𝓛.H 𝓣.C 𝓣.Λ code.function (rawptr_vals p) (W.post (y p)))) e refl $
    enter ! _ _ _ _ _ $ alloc_all ! (λ l. pass_all ! refl ((tt, tt), tt) $
    -- [the value]
    sets ! (of_opd ! (get ! refl)) refl (tt, tt) $ sets ! (of_opd ! (get ! refl)) refl (tt, tt) $
    first ! $ blocks ! $ sets_last ! (addr ! (through ! refl (stop !))) refl (tt, tt) $
    exec ! 𝓣.C 𝓣.Λ (env code.Mir.locals l) code.Mir.t-4 (at_ret _ (W.post (y (block_ptr b o)))) $
    sets ! (of_opd ! (get ! refl)) refl (tt, tt) $
    lft_new ! tt (λ α. move ! (1 ∷ []) $
    use1 𝓛 (later (some (λ (δ : ℕ). ‵ ((MutRef (named 0) (α ∷ []) R).own_val (record { ref_ptr = (b, o); ghost_name = δ; now = x }) (vptr b o ∷ [])) ⊛ ‵ (flent (α ∷ []) (Body (mem R) b o δ)))))
    (lends_ref 𝓛 R (named 0) (α ∷ []) x b o) $ await ! tt $ pick ! (λ δ. split ! $
    -- [the loan; what the lender keeps; the token of α]
    let G = triple_of 𝓛 g.signature (g.spec 𝓛 𝓜.mem 𝓡.returns) in
    let z : G.Ghost = (((α ∷ [], tt), (full_share, tt), tt, (record { ref_ptr = (b, o); ghost_name = δ; now = x }, tt), (vptr b o ∷ [], tt)), tt) in
    nothing ! $ move ! (1 ∷ 0 ∷ []) $ join ! $ nothing ! $ move ! (3 ∷ 0 ∷ []) $ join ! $ join ! $
    nothing ! $ move ! (1 ∷ 0 ∷ []) $ use2 𝓛 (raw (G.pre z)) (id⊢ 𝓤 _) $
    calls_at ! (framed 𝓤 𝓛.H 𝓜 𝓣) G (met 𝓤 𝓛 𝓜 𝓡 (code.calls-live_bus::step_bus 𝓡.env wired)) z
    (and_then ! (get ! refl) (no_more !)) (λ v.
    use1 𝓛 (later (some (λ (r : ℕ). ((‵ (flft (α ∷ []) full_share) ⊛ ‵ ftrue) ⊛ ‵ (u8.own_val r (v ∷ []))) ⊛
    some (λ (ws : LiveBus × Unit {0}). ‵ (lasts g.ended z.0.0 z.0.3 ws) ⊛ raw (fact 𝓤 (StepsAtAll x r ws.0)))))) (id⊢ 𝓤 _) $
    await ! tt $ pick ! (λ r. split ! $ split ! $ split ! $ lft_end ! tt $ move ! (2 ∷ []) $
    -- [the result; α is over; nothing; what the call ensures; what the lender keeps]
    peeks ! u8 (Is u8) (shows 𝓛 u8) r (v ∷ []) (λ is. lands_as ! refl refl ((uint_Lawful 𝓛 w8).typed r _ is).0 $
    move ! (3 ∷ []) $ pick ! (λ ws. split ! $ move ! (1 ∷ []) $ heard ! _ (λ steps. fsplit ! $ fsplit ! $
    -- [the last value; its borrow; nothing; the result; α is over; nothing; what the lender keeps]
    move ! (4 ∷ 6 ∷ 0 ∷ []) $ use3 𝓛 (later (‵ (part_at R full_share ws.0 b o))) (ref_back 𝓛 R (α ∷ []) δ ws.0 b o) $ await ! tt $
    returns ! (look_at ! 0 refl) $ free_all ! refl $ keep ! (0 ∷ 3 ∷ []) $
    -- [the value; the result]
    nothing ! $ fpack ! (StepsAtAll x r ws.0) (λ _. ftrue) steps $ move ! (1 ∷ 0 ∷ []) $ fjoin ! $
    fpack ! LiveBus (λ w. fsep (lies_at R full_share (block_ptr b o) w) (fex (StepsAtAll x r w) (λ _. ftrue))) ws.0 $
    nothing ! $ nothing ! $ fjoin ! $ nothing ! $ move ! (0 ∷ 1 ∷ 3 ∷ 2 ∷ []) $
    by ! (leaves 𝓛 f.ended stayed c (y (block_ptr b o)) v r (tt, tt) (tt, tt))))))))))))
