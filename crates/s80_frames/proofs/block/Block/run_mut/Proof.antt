-- `run_mut` lends a run of the items, and the block follows it. Assumes `Logic`.
use Rattle.std.proofs.Common.{◌≡◌, ℕ, ◌-◌, ◌*◌, ◌^◌, ◌<◌, ◌≤◌, List, [], ◌∷◌, length, refl, sym, ap, subst, arith, w64}
use base.Fml.{GName, Fml, ftrue, fsep, flft}
use base.Logic.{SProp, emp}
use mir.MapTy.{inst_fn}
use mir.Syntax.{named}
use mir.Val.{Val, vint, vptr}
use types.ByLocal.{alloc_all, pass_all, free_all, look_at, get, through, is, sets, sets_last, env}
use types.Kit.{‵, raw, ◌⊛◌, later, some, at_ret, ◌$◌, ◌∵◌, !, qed, by, move, keep, group, use0, use1, use2, split, split3, join, rewrite, fsplit3, fjoin, fjoin3, await, pick}
use types.Logic.{sem}
use types.Part.{whole, sub, look_in, agg}
use types.Run.{enter, stop, fld, load, of_opd, bin, size_word, and_then, no_more, first, blocks, exec, returns}
use types.SemTy.{cells}
use contract.Monad.{fact, fact_i}
use contract.Running.{tables}
use denote.Array.{Array}
use denote.Builtin.{usize}
use denote.Exit.{yes, no}
use denote.Follow.{follows}
use denote.FollowSlice.{lends_Elements}
use denote.Memory.{mem}
use denote.Plain.{uint_vals, uint_Tells}
use denote.RattleType.{owns}
use denote.Ref.{mut_vals, mut_Tells}
use denote.Signature.{plain, mut_ref_to, types_at}
use denote.Slice.{MutSlice, slice_val}
use denote.Steps.{nothing, heard}
use denote.Triple.Walked.{Stays, stay_dropped, walk_of, Goes-spent_ref, Goes-dropped}
use Rattle.std.proofs.ptr.Rows.{times_below}
use Rattle.std.proofs.raw_atomic.Walks.{proved, leaves}
use Rattle.std.proofs.VecSteps.El.{El, R, args, sz, wider}
use Rattle.std.proofs.VecSteps.Opens.{not_live}
use Rattle.std.proofs.VecSteps.Shapes.{after}
use Rattle.s80_frames.specs.BlockLending.{with_written_from}
use Rattle.s80_frames.proofs.BlockSteps.{Br, block_opens}
use Rattle.s80_frames.proofs.Runs.{uncapped, p, run, run_long, Rest, parted, returned}
use Rattle.s80_frames.specs.contracts.block.Block.run_mut as F
use Rattle.s80_frames.proofs.block.Block.run_mut.Statement.{statement}
use Rattle.s80_frames.proofs.block.Block.run_mut.Code as code

pub run_mut_spec : {M : Type 1} → statement M
run_mut_spec 𝓤 𝓛 𝓜 𝓡 wired X Z L LZ g d dd met md =
    let E : El = record { row = X; laws = L; al = record { row = Z; laws = LZ; g = g; d = d; drops = dd } } in
    let H = 𝓛.H in let 𝓣 = tables 𝓤 H 𝓜 𝓡 𝓡.env in let T = F.ended X Z g d dd in let c = F.clauses X Z g d dd 𝓛 𝓜.mem 𝓡.returns in let fn = inst_fn (args E) code.function in
    let stays : Stays T.signature.params T.kept = (stay_dropped (mut_ref_to (0 ∷ []) tt (plain (λ _. Br E))) no, (stay_dropped (plain (λ _. usize)) yes, (stay_dropped (plain (λ _. usize)) yes, tt))) in
    proved 𝓛 T stays c 𝓜 𝓡 (Goes-spent_ref 𝓛 3 (0 ∷ []) tt (plain (λ _. Br E)), (Goes-dropped 𝓛 3 (plain (λ _. usize)) yes (λ κs x f. refl), (Goes-dropped 𝓛 3 (plain (λ _. usize)) yes (λ κs x f. refl), tt)))
    (F.Key.name (args E)) fn (code.unfolded 𝓤 H 𝓜 𝓡 wired (X, (Z, tt)) d dd)
    (λ κs. (mut_vals, (uint_vals w64, (uint_vals w64, tt)))) (λ κs. (mut_Tells (named 0) κs.0 (Br E), (uint_Tells w64, (uint_Tells w64, tt)))) (λ κs qs bounds a gh are.
    let κ = κs.0 in let q = qs.0 in let rb : ℕ = a.0.ref_ptr.0 in let ro : ℕ = a.0.ref_ptr.1 in let γ : GName = a.0.ghost_name in let old : (Br E).Denot = a.0.now in
    let xs : List X.Denot = old.items in let n : ℕ = length xs in let i : ℕ = a.1.0 in let j : ℕ = a.1.1.0 in let s : ℕ = sz E in let others : Fml = fsep (flft κs.1.0 qs.1.0) (fsep (flft κs.1.1.0 qs.1.1.0) ftrue) in
    let y : (walk_of 𝓛 T stays c).Ghost = ((κs, qs, bounds, a, (vptr rb ro ∷ [], (vint w64 i ∷ [], (vint w64 j ∷ [], tt)))), gh) in let Post : Val → SProp 𝓤 = (walk_of 𝓛 T stays c).post y in
    let Asked : Type 0 = (i ≤ j) × (j ≤ n) × (n ≤ old.room) in
    qed 𝓛 (((‵ (flft κ q) ⊛ ‵ others) ⊛ ‵ (owns (types_at T.signature.params κs) a y.0.4)) ∷ raw (fact 𝓤 _) ∷ raw (fact 𝓤 _) ∷ raw (fact 𝓤 Asked) ∷ []) ∵
    keep ! (3 ∷ 0 ∷ []) $ heard ! Asked (λ asked. split ! $ split ! $ move ! (2 ∷ []) $ fsplit3 ! $ fsplit3 ! $ keep ! (1 ∷ 2 ∷ 5 ∷ 6 ∷ []) $
    enter ! 𝓣.C 𝓣.Λ fn (vptr rb ro ∷ vint w64 i ∷ vint w64 j ∷ []) Post $
    alloc_all ! (λ l. pass_all ! refl ((tt, tt), ((tt, record { fits = are.1.0.1 }), ((tt, record { fits = are.1.1.0.1 }), tt))) $
    block_opens E ! tt old rb ro (λ b o at fit.
    let ordered : i ≤ j = asked.0 in let inside : j ≤ n = asked.1 in let roomy : n ≤ old.room = asked.2 in let small : j < 2 ^ 64 = are.1.1.0.1 in let few : j - i < 2 ^ 64 = omega arith in
    let far : i * s < 2 ^ 64 = wider (i * s) (times_below i old.room s (2 ^ 63) (omega arith) fit) in
    let lent : List X.Denot = run E 𝓛 old i j ordered inside b o in let long : length lent ≡ j - i = run_long E 𝓛 old i j ordered inside b o in
    let from : ℕ = p E 𝓛 old i j ordered inside b o in let Beside : Fml = Rest E 𝓛 old i j ordered inside b o rb ro in
    let fits : (length lent < 2 ^ 64) × (length lent * s < 2 ^ 63) = (omega arith, times_below (length lent) old.room s (2 ^ 63) (omega arith) fit) in
    let Back : List X.Denot → (Br E).Denot = with_written_from old i in
    -- [the memory; the field's cell; the open borrow, in three entries; the other tokens]
    first ! $ blocks ! $ sets ! (of_opd ! (load ! (through ! refl (fld ! refl (stop !))) (look_in ! 1 (sub ! 0 refl (whole !))))) refl (tt, tt) $
    sets ! (is ! (bin ! (get ! refl) (size_word !) (record { fits = subst (λ (k : ℕ). k < 2 ^ 64) (sym (uncapped i s far)) far })) (ap (vint w64) (uncapped i s far))) refl (tt, record { fits = far }) $
    sets ! (bin ! (get ! refl) (get ! refl) tt) refl (tt, tt) $ sets ! (bin ! (get ! refl) (get ! refl) ordered) refl (tt, record { fits = few }) $
    sets_last ! (agg ! (and_then ! (get ! refl) (and_then ! (get ! refl) (no_more !)))) refl (tt, (tt, (record { fits = few }, tt))) $
    exec ! 𝓣.C 𝓣.Λ (env fn.locals l) (after 1 fn.body) (at_ret (env fn.locals l) Post) $ sets ! (of_opd ! (get ! refl)) refl (tt, (tt, (record { fits = few }, tt))) $
    use2 𝓛 (‵ (cells (mem (R E)) lent b from) ⊛ ‵ Beside) (parted E 𝓛 old i j ordered inside b o rb ro (λ t. let none : old.room ≡ 0 = not_live old.room t in omega arith)) $ split ! $
    move ! (2 ∷ 3 ∷ 4 ∷ 0 ∷ 1 ∷ []) $ group ! 5 $
    use1 𝓛 (later (some (λ (γ' : GName). ‵ ((MutSlice (named 0) κ (R E)).own_val (record { ref_ptr = (b, from); ghost_name = γ'; now = lent }) (slice_val (b, from) (length lent) ∷ [])) ⊛ ‵ (flft κ q) ⊛ ‵ (follows (Br E) (Array (R E) 0) γ γ' Back))))
    (lends_Elements 𝓛 (Br E) (R E) Back (named 0) κ q rb ro b from γ lent fits (sem 𝓛 Beside) (returned E 𝓛 old i j ordered inside b o rb ro at fit) ((Br E).coded.code old) ((Br E).coded.code old)) $ await ! tt $ pick ! (λ γ'. split3 ! $
    -- [the run; its token; what the block follows; the other tokens]
    rewrite ! 0 (λ (k : ℕ). ‵ ((MutSlice (named 0) κ (R E)).own_val (record { ref_ptr = (b, from); ghost_name = γ'; now = lent }) (slice_val (b, from) k ∷ []))) long refl $
    move ! (1 ∷ 3 ∷ []) $ join ! $ use0 𝓛 (raw (fact 𝓤 (lent ≡ lent))) (fact_i 𝓤 (lent ≡ lent) (emp 𝓤) refl) $ move ! (3 ∷ 0 ∷ []) $ join ! $
    nothing ! $ nothing ! $ fjoin ! $ nothing ! $ nothing ! $ fjoin3 ! $
    -- [what is left of the parameters; what is ensured; the tokens; the run]
    returns ! (look_at ! 0 refl) $ free_all ! refl $ keep ! (2 ∷ 0 ∷ 3 ∷ 1 ∷ []) $
    by ! (leaves 𝓛 T stays c y (slice_val (b, from) (j - i)) (record { ref_ptr = (b, from); ghost_name = γ'; now = lent }) (tt, (tt, (tt, tt))) (tt, (tt, (tt, tt)))))))))
