-- `rt1553_bus_join` lends what lies at its two pointers to `put_on_bus`, and has both back, the terminal as it was.
use Rattle.std.proofs.Common.{◌≡◌, ℕ, [], ◌∷◌, refl, w8}
use Rattle.std.proofs.raw_atomic.Walks.{proved, leaves}
use base.Fraction.{full_share}
use base.Logic.{id⊢}
use base.Fml.{ftrue, fsep, fex, flft, flent}
use mir.Syntax.{named}
use mir.Val.{vptr}
use prog.Wp.{WpFn}
use contract.Monad.{fact}
use contract.Running.{tables}
use types.SemTy.{Body}
use types.Tokens.{lft_new, lft_end}
use types.Kit.{‵, raw, ◌⊛◌, some, later, prop, at_ret, ◌$◌, ◌∵◌, !, qed, by, move, keep, drop, use1, use2, use3, split, join, fsplit, fjoin, fpack, pick, await, regoal, rewrite}
use types.Run.{enter, of_opd, addr, stop, no_more, and_then, first, blocks, exec, returns}
use types.ByLocal.{alloc_all, pass_all, free_all, look_at, get, through, sets, sets_last, lands_as, env}
use denote.Exit.{yes}
use denote.Laws.{Is, shows}
use denote.Builtin.{u8}
use denote.Plain.{uint_Lawful}
use denote.RattleType.{RattleType}
use denote.RawPtr.{Ptr, RawPtr, block_ptr, lies_at, in_a_block, rawptr_vals, rawptr_Tells}
use denote.Memory.{part_at, mem}
use denote.Ref.{MutRef}
use denote.Lend.{lends_ref, ref_back}
use denote.Signature.{plain}
use denote.Steps.{nothing, heard, peeks}
use denote.Triple.Call.{calls_at}
use denote.Triple.Clauses.{Lasts, lasts}
use denote.Triple.Entry.{on_entry}
use denote.Triple.Spec.{triple_of}
use denote.Triple.Walked.{Stays, walk_of, stay_dropped, Goes-dropped}
use denote.Triple.Table.{framed}
use Rattle.rt1553_live.specs.declared.terminal.Live.{Live}
use Rattle.rt1553_live.specs.contracts.terminal.Live as terminal
use Rattle.live_bus.specs.declared.front.LiveBus.{LiveBus}
use Rattle.live_bus.specs.contracts.front.LiveBus as bus
use Rattle.rt1553_c.specs.Told.{JoinsAtAll}
use Rattle.rt1553_c.specs.contracts.bus.rt1553_bus_join as f
use Rattle.rt1553_c.proofs.bus.rt1553_bus_join.Statement.{statement}
use Rattle.rt1553_c.proofs.bus.rt1553_bus_join.Code as code
use Rattle.rt1553_c.specs.contracts.bus.put_on_bus as g
use Rattle.rt1553_c.proofs.bus.put_on_bus.Met.{met}

abbrev stayed : Stays f.ended.signature.params f.ended.kept
stayed = (stay_dropped _ yes, (stay_dropped _ yes, tt))

pub rt1553_bus_join_spec : {M : Type 1} → statement M
rt1553_bus_join_spec 𝓤 𝓛 𝓜 𝓡 wired =
    let c = f.clauses 𝓛 𝓜.mem 𝓡.returns in let W = walk_of 𝓛 f.ended stayed c in let 𝓣 = tables 𝓤 𝓛.H 𝓜 𝓡 𝓡.env in
    let B : RattleType = bus.the_row in let R : RattleType = terminal.the_row in
    let goes = Goes-dropped 𝓛 0 (plain (λ _. RawPtr)) yes (λ κs x w. refl) in
    proved 𝓛 f.ended stayed c 𝓜 𝓡 (goes, (goes, tt))
    f.Key.name code.function (code.unfolded 𝓤 𝓛.H 𝓜 𝓡 wired)
    (λ κs. (rawptr_vals, (rawptr_vals, tt))) (λ κs. (rawptr_Tells, (rawptr_Tells, tt))) (λ κs qs bounds a x are.
    let y : Ptr → Ptr → W.Ghost = λ p q. ((κs, qs, bounds, (p, (q, tt)), (rawptr_vals p, (rawptr_vals q, tt))), x) in
    qed 𝓛 (raw (on_entry 𝓛 f.signature κs qs a (y a.0 a.1.0).0.4) ∷ ‵ (fsep (lies_at B full_share a.0 x.0) (lies_at R full_share a.1.0 x.1)) ∷ []) ∵ drop ! $ fsplit ! $
    -- [the bus; the terminal]
    in_a_block ! a.0 (λ p. lies_at B full_share p x.0) (id⊢ 𝓤 _) (λ b o e.
    regoal ! (λ p. prop (WpFn 𝓤 𝓛.H 𝓣.C 𝓣.Λ code.function (W.args (y p a.1.0)) (W.post (y p a.1.0)))) e refl $ move ! (1 ∷ []) $
    in_a_block ! a.1.0 (λ p. lies_at R full_share p x.1) (id⊢ 𝓤 _) (λ b' o' e'.
    regoal ! (λ p. prop (WpFn 𝓤 𝓛.H 𝓣.C 𝓣.Λ code.function (W.args (y (block_ptr b o) p)) (W.post (y (block_ptr b o) p)))) e' refl $
    let Y : W.Ghost = y (block_ptr b o) (block_ptr b' o') in
    enter ! _ _ _ _ _ $ alloc_all ! (λ l. pass_all ! refl ((tt, tt), ((tt, tt), tt)) $
    -- [the terminal; the bus]
    sets ! (of_opd ! (get ! refl)) refl (tt, tt) $ sets ! (of_opd ! (get ! refl)) refl (tt, tt) $
    sets ! (of_opd ! (get ! refl)) refl (tt, tt) $ sets ! (of_opd ! (get ! refl)) refl (tt, tt) $
    first ! $ blocks ! $ sets_last ! (addr ! (through ! refl (stop !))) refl (tt, tt) $
    exec ! 𝓣.C 𝓣.Λ (env code.Mir.locals l) code.Mir.t-6 (at_ret (env code.Mir.locals l) (W.post Y)) $
    sets ! (of_opd ! (get ! refl)) refl (tt, tt) $
    first ! $ blocks ! $ sets_last ! (addr ! (through ! refl (stop !))) refl (tt, tt) $
    exec ! 𝓣.C 𝓣.Λ (env code.Mir.locals l) code.Mir.t-8 (at_ret (env code.Mir.locals l) (W.post Y)) $
    sets ! (of_opd ! (get ! refl)) refl (tt, tt) $
    lft_new ! tt (λ α. move ! (1 ∷ []) $
    use1 𝓛 (later (some (λ (δ : ℕ). ‵ ((MutRef (named 1) (α ∷ []) R).own_val (record { ref_ptr = (b', o'); ghost_name = δ; now = x.1 }) (vptr b' o' ∷ [])) ⊛ ‵ (flent (α ∷ []) (Body (mem R) b' o' δ)))))
    (lends_ref 𝓛 R (named 1) (α ∷ []) x.1 b' o') $ await ! tt $ pick ! (λ δ. split ! $
    -- [the terminal's loan; what its lender keeps; the token of α; the bus]
    lft_new ! tt (λ β. move ! (4 ∷ []) $
    use1 𝓛 (later (some (λ (ε : ℕ). ‵ ((MutRef (named 0) (β ∷ []) B).own_val (record { ref_ptr = (b, o); ghost_name = ε; now = x.0 }) (vptr b o ∷ [])) ⊛ ‵ (flent (β ∷ []) (Body (mem B) b o ε)))))
    (lends_ref 𝓛 B (named 0) (β ∷ []) x.0 b o) $ await ! tt $ pick ! (λ ε. split ! $
    -- [the bus's loan; what its lender keeps; the token of β; the terminal's loan; what its lender keeps; the token of α]
    let G = triple_of 𝓛 g.signature (g.spec 𝓛 𝓜.mem 𝓡.returns) in
    let z : G.Ghost = (
      (
        (β ∷ [], (α ∷ [], tt)),
        (full_share, (full_share, tt)),
        tt,
        (record { ref_ptr = (b, o); ghost_name = ε; now = x.0 }, (record { ref_ptr = (b', o'); ghost_name = δ; now = x.1 }, tt)),
        (vptr b o ∷ [], (vptr b' o' ∷ [], tt)),
      ),
      tt,
    ) in
    nothing ! $ move ! (4 ∷ 0 ∷ []) $ join ! $ move ! (1 ∷ 0 ∷ []) $ join ! $
    nothing ! $ move ! (5 ∷ 0 ∷ []) $ join ! $ move ! (3 ∷ 0 ∷ []) $ join ! $ join ! $
    nothing ! $ move ! (1 ∷ 0 ∷ []) $ use2 𝓛 (raw (G.pre z)) (id⊢ 𝓤 _) $
    calls_at ! (framed 𝓤 𝓛.H 𝓜 𝓣) G (met 𝓤 𝓛 𝓜 𝓡 (code.calls-rt1553_c::bus::put_on_bus 𝓡.env wired)) z
    (and_then ! (get ! refl) (and_then ! (get ! refl) (no_more !))) (λ v.
    use1 𝓛 (later (some (λ (r : ℕ). ((‵ (flft (β ∷ []) full_share) ⊛ ‵ (flft (α ∷ []) full_share) ⊛ ‵ ftrue) ⊛ ‵ (u8.own_val r (v ∷ []))) ⊛
    some (λ (ws : Lasts g.ended z.0.0 z.0.3). ‵ (lasts g.ended z.0.0 z.0.3 ws) ⊛ raw (fact 𝓤 (ws.1.0 ≡ x.1)) ⊛ raw (fact 𝓤 (JoinsAtAll x.1 x.0 r ws.0)))))) (id⊢ 𝓤 _) $
    await ! tt $ pick ! (λ r. split ! $ split ! $ split ! $ lft_end ! tt $ move ! (1 ∷ []) $ split ! $ lft_end ! tt $ move ! (3 ∷ []) $
    -- [the result; α is over; nothing; β is over; what the call ensures; what the two lenders keep]
    peeks ! u8 (Is u8) (shows 𝓛 u8) r (v ∷ []) (λ is. lands_as ! refl refl ((uint_Lawful 𝓛 w8).typed r _ is).0 $
    move ! (4 ∷ []) $ pick ! (λ ws. split ! $ move ! (1 ∷ []) $ split ! $ heard ! _ (λ same. heard ! _ (λ joins. fsplit ! $ fsplit ! $
    -- [the bus's last value; its borrow; the terminal's; the result; α is over; nothing; β is over; what the two lenders keep]
    move ! (6 ∷ 7 ∷ 0 ∷ []) $ use3 𝓛 (later (‵ (part_at B full_share ws.0 b o))) (ref_back 𝓛 B (β ∷ []) ε ws.0 b o) $ await ! tt $
    move ! (2 ∷ []) $ fsplit ! $ fsplit ! $
    -- [the terminal's last value; its borrow; nothing; the bus; its borrow; the result; α is over; nothing; what the lender keeps]
    move ! (6 ∷ 8 ∷ 0 ∷ []) $ use3 𝓛 (later (‵ (part_at R full_share ws.1.0 b' o'))) (ref_back 𝓛 R (α ∷ []) δ ws.1.0 b' o') $ await ! tt $
    rewrite ! 0 (λ (w : Live). ‵ (part_at R full_share w b' o')) same refl $
    returns ! (look_at ! 0 refl) $ free_all ! refl $ keep ! (3 ∷ 0 ∷ 5 ∷ []) $
    -- [the bus; the terminal; the result]
    nothing ! $ fpack ! (JoinsAtAll x.1 x.0 r ws.0) (λ _. ftrue) joins $ move ! (1 ∷ 0 ∷ []) $ fjoin ! $
    fpack ! LiveBus (λ w. fsep (lies_at B full_share (block_ptr b o) w) (fex (JoinsAtAll x.1 x.0 r w) (λ _. ftrue))) ws.0 $ move ! (1 ∷ 0 ∷ []) $ join ! $
    nothing ! $ nothing ! $ fjoin ! $ nothing ! $ fjoin ! $ nothing ! $ move ! (0 ∷ 1 ∷ 3 ∷ 2 ∷ []) $
    by ! (leaves 𝓛 f.ended stayed c Y v r (tt, (tt, tt)) (tt, (tt, tt)))))))))))))))))
