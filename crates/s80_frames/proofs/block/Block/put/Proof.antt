-- `put` writes an item into the first free place. Assumes `Logic`.
use Rattle.std.proofs.Common.{◌≡◌, ℕ, ◌+◌, ◌-◌, ◌*◌, ◌^◌, ◌<◌, List, [], ◌∷◌, ◌++◌, length, length-append, refl, sym, arith, w64}
use base.Fraction.{full_share}
use base.Fml.{Fml, ftrue, fsep, flft, froom}
use base.Logic.{SProp, emp}
use mir.MapTy.{inst_fn}
use mir.Syntax.{ty_array}
use mir.Val.{Val, vunit, vint, vptr}
use prog.Wp.{WpFn}
use types.ByLocal.{alloc_all, pass_all, free_all, look_at, get, through, sets, env}
use types.Kit.{‵, raw, prop, ◌⊛◌, at_ret, ◌$◌, ◌∵◌, !, qed, by, move, keep, use0, use1, use2, split, join, rewrite, regoal, fsplit, fsplit3, fjoin, fjoin3, feq_i}
use types.Part.{whole, sub, look_in}
use types.Run.{enter, stop, fld, load, of_opd, bin, size_lit, unit_lit, init, assigns_last, first, blocks, exec, returns}
use contract.Monad.{fact, fact_i}
use contract.Running.{tables}
use denote.Array.{Array}
use denote.Builtin.{usize}
use denote.Exit.{yes, no}
use denote.Memory.{part_at}
use denote.Param.Laws.{param_laws}
use denote.RattleType.{owns}
use denote.Signature.{plain, types_at}
use denote.Steps.{nothing, heard}
use denote.Triple.Walked.{Stays, stay_ref, stay_dropped, walk_of, Goes-ref, Goes-dropped}
use Rattle.std.proofs.raw_atomic.Walks.{proved_at, leaves}
use Rattle.std.proofs.VecSteps.El.{El, R, args, elτ, sz, wider}
use Rattle.std.proofs.VecSteps.Opens.{blk_out, blk_in}
use Rattle.std.proofs.VecSteps.Rows.{spare, snoc, el_in}
use Rattle.std.proofs.VecSteps.Shapes.{after}
use Rattle.std.proofs.ptr.Rows.{one_below, times_below}
use Rattle.s80_frames.proofs.BlockSteps.{Br, one, block_opens, block_closes}
use Rattle.s80_frames.specs.contracts.block.Block.put as F
use Rattle.s80_frames.proofs.block.Block.put.Statement.{statement}
use Rattle.s80_frames.proofs.block.Block.put.Code as code

pub put_spec : {M : Type 1} → statement M
put_spec 𝓤 𝓛 𝓜 𝓡 wired X Z L LZ g d dd met md =
    let E : El = record { row = X; laws = L; al = record { row = Z; laws = LZ; g = g; d = d; drops = dd } } in
    let H = 𝓛.H in let 𝓣 = tables 𝓤 H 𝓜 𝓡 𝓡.env in let T = F.ended X Z g d dd in let c = F.clauses X Z g d dd 𝓛 𝓜.mem 𝓡.returns in let fn = inst_fn (args E) code.function in
    let stays : Stays T.signature.params T.kept = (stay_ref (0 ∷ []) tt (plain (λ _. Br E)), (stay_dropped (plain (λ _. usize)) yes, (stay_dropped (plain (λ _. R E)) no, tt))) in
    proved_at 𝓛 T stays c 𝓜 𝓡 (Goes-ref 𝓛 3 0 tt (plain (λ _. Br E)), (Goes-dropped 𝓛 3 (plain (λ _. usize)) yes (λ κs x f. refl), (Goes-dropped 𝓛 3 (plain (λ _. R E)) no (λ κs x f. refl), tt)))
    (F.Key.name (args E)) fn (code.unfolded 𝓤 H 𝓜 𝓡 wired (X, (Z, tt)) d dd) (λ y are.
    let κs = y.0.0 in let qs = y.0.1 in let a = y.0.3 in let vss = y.0.4 in let Post : Val → SProp 𝓤 = (walk_of 𝓛 T stays c).post y in
    let rb : ℕ = a.0.ref_ptr.0 in let ro : ℕ = a.0.ref_ptr.1 in let old : (Br E).Denot = a.0.now in let xs : List X.Denot = old.items in let n : ℕ = length xs in let x : X.Denot = a.1.1.0 in
    let one_is = one (elτ E) vss.1.1.0 (((param_laws 0 X L).lawful 𝓛).typed x vss.1.1.0 are.1.1.0) in let v : Val = one_is.0 in
    let others : Fml = fsep (flft κs.1.0 qs.1.0) (fsep (flft κs.1.1.0 qs.1.1.0) ftrue) in
    let Asked : Type 0 = (a.1.0 ≡ n) × (a.1.0 < old.room) in
    qed 𝓛 (((‵ (flft κs.0 qs.0) ⊛ ‵ others) ⊛ ‵ (owns (types_at T.signature.params κs) a vss)) ∷ raw (fact 𝓤 _) ∷ raw (fact 𝓤 _) ∷ raw (fact 𝓤 Asked) ∷ []) ∵
    keep ! (3 ∷ 0 ∷ []) $ heard ! Asked (λ asked. split ! $ split ! $ move ! (2 ∷ []) $ fsplit3 ! $ fsplit3 ! $ move ! (4 ∷ []) $ fsplit ! $ keep ! (3 ∷ 4 ∷ 6 ∷ 0 ∷ 7 ∷ []) $
    rewrite ! 3 (λ (ws : List Val). ‵ ((R E).own_val x ws)) one_is.1.0 refl $
    regoal ! (λ (ws : List Val). prop (WpFn 𝓤 H 𝓣.C 𝓣.Λ fn ws Post)) (λ i. are.0.0 i ++ (are.1.0.0 i ++ (one_is.1.0 i ++ []))) refl $
    enter ! 𝓣.C 𝓣.Λ fn (vptr rb ro ∷ vint w64 a.1.0 ∷ v ∷ []) Post $ alloc_all ! (λ l. pass_all ! refl ((tt, tt), ((tt, record { fits = are.1.0.1 }), (one_is.1.1, tt))) $
    block_opens E ! tt old rb ro (λ b o at fit.
    let k : ℕ = old.room in let s : ℕ = sz E in let count : a.1.0 ≡ n = asked.0 in let inside : a.1.0 < k = asked.1 in let less : n < k = omega arith in let some : 0 < k = omega arith in
    let tiny : s < 2 ^ 64 = wider s (one_below k s (2 ^ 63) some fit) in let far : a.1.0 * s < 2 ^ 64 = wider (a.1.0 * s) (times_below a.1.0 k s (2 ^ 63) (omega arith) fit) in
    blk_out E ! old.heap b o n k xs some $ move ! (1 ∷ []) $
    use1 𝓛 (‵ (froom (elτ E) b (n * s + o)) ⊛ ‵ (froom (ty_array (elτ E) (k - (n + 1))) b (o + (n + 1) * s))) (spare E 𝓛 b o n k less) $ split ! $
    rewrite ! 0 (λ (i : ℕ). ‵ (froom (elτ E) b (i * s + o))) (sym count) refl $
    -- [the place; the room behind it; the items; the right to free; the field's cell; the open borrow, in three; the item; tokens]
    first ! $ blocks ! $ sets ! (of_opd ! (load ! (through ! refl (fld ! refl (stop !))) (look_in ! 4 (sub ! 0 refl (whole !))))) refl (tt, tt) $
    sets ! (bin ! (get ! refl) (size_lit ! (record { fits = tiny })) (record { fits = far })) refl (tt, record { fits = far }) $
    sets ! (bin ! (get ! refl) (get ! refl) tt) refl (tt, tt) $ sets ! (of_opd ! (get ! refl)) refl one_is.1.1 $
    assigns_last ! (of_opd ! (get ! refl)) (through ! refl (stop !)) (init ! 0 refl one_is.1.1) $
    exec ! 𝓣.C 𝓣.Λ (env fn.locals l) (after 1 fn.body) (at_ret (env fn.locals l) Post) $ sets ! (of_opd ! (unit_lit !)) refl (tt, tt) $
    move ! (0 ∷ 8 ∷ []) $ use2 𝓛 (‵ (part_at (R E) full_share x b (a.1.0 * s + o))) (el_in E 𝓛 full_share x b (a.1.0 * s + o) v) $
    rewrite ! 0 (λ (i : ℕ). ‵ (part_at (R E) full_share x b (i * s + o))) count refl $
    move ! (2 ∷ 0 ∷ []) $ use2 𝓛 (‵ (part_at (Array (R E) (n + 1)) full_share (xs ++ x ∷ []) b o)) (snoc E 𝓛 b o n xs x) $
    let new : (Br E).Denot = record old { items = xs ++ x ∷ [] } in let longer : n + 1 ≡ length (xs ++ x ∷ []) = sym (length-append xs (x ∷ [])) in
    rewrite ! 0 (λ (i : ℕ). ‵ (part_at (Array (R E) i) full_share (xs ++ x ∷ []) b o)) longer refl $
    rewrite ! 1 (λ (i : ℕ). ‵ (froom (ty_array (elτ E) (k - i)) b (o + i * s))) longer refl $
    blk_in E ! old.heap b o (length (xs ++ x ∷ [])) k (xs ++ x ∷ []) some $ block_closes E ! tt new b o rb ro at fit $
    -- [the borrow, in two; its token; the other tokens]
    feq_i ! (List Val) vss.0 (vptr rb ro ∷ []) are.0.0 $ fjoin3 ! $ nothing ! $ nothing ! $ fjoin ! $ nothing ! $ fjoin ! $ move ! (1 ∷ 0 ∷ []) $ fjoin ! $ move ! (1 ∷ 2 ∷ []) $ join ! $
    let Kept : Type 0 = (xs ++ x ∷ [] ≡ xs ++ x ∷ []) × (k ≡ k) × (old.heap ≡ old.heap) in
    use0 𝓛 (raw (fact 𝓤 Kept)) (fact_i 𝓤 Kept (emp 𝓤) (refl, refl, refl)) $ feq_i ! (List Val) (vunit ∷ []) (vunit ∷ []) refl $
    returns ! (look_at ! 0 refl) $ free_all ! refl $ keep ! (2 ∷ 3 ∷ 0 ∷ 1 ∷ []) $ by ! (leaves 𝓛 T stays c y vunit tt (new, (tt, (tt, tt))) (tt, (tt, (tt, tt))))))))
