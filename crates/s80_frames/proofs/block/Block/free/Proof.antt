-- `free` hands the memory back to the allocator, where there is some. Assumes `Logic`.
use Rattle.std.proofs.Common.{◌≡◌, ℕ, zero, suc, ◌*◌, ◌^◌, ◌<◌, ◌≤◌, T as IsTrue, List, [], ◌∷◌, length, refl, sym, ap, subst, ◌∙◌, arith, w64}
use base.Fml.{Fml, ftrue, fsep, flft, froom, Incl-trans}
use base.Logic.{SProp}
use mir.MapTy.{inst_fn}
use mir.Raw.{raw as bare}
use mir.Syntax.{Ty, named, ty_array, ty_unit}
use mir.Val.{Val, vunit, vint, vptr, has_ty, WT}
use prog.Capped.{capped_is, capped_fits}
use prog.Memory.{align, capped}
use prog.RawLaws.{size-raw, align-raw}
use types.ByLocal.{alloc_all, pass_all, free_all, look_at, get, get_in, is, sets, lands_last, env}
use types.Kit.{Sq, prop, ‵, raw, ◌⊛◌, given, later, at_ret, ◌$◌, ◌∵◌, !, qed, by, move, keep, group, use1, use2, split, join, learn, rewrite, fsplit, fsplit3, fjoin, fjoin3, feq_i, await}
use types.Part.{whole, sub}
use types.Run.{enter, stop, fld, lit, unit_lit, size_lit, align_word, no_more, and_then, of_opd, bin, first, blocks, skips, branches, exec, returns}
use contract.BorrowLft.{◌⊑◌}
use contract.Monad.{fact}
use contract.Running.{tables}
use denote.Builtin.{RefOf, usize}
use denote.Exit.{yes, no}
use denote.Plain.{uint_vals, uint_Tells}
use denote.RattleType.{owns}
use denote.RawPtr.{ptr_val, InBlock}
use denote.Ref.{shr_vals, shr_Tells}
use denote.Signature.{plain, types_at}
use denote.Steps.{nothing, heard}
use denote.Triple.Call.{calls_at_last}
use denote.Triple.Table.{framed}
use denote.Triple.Walked.{Stays, stay_dropped, walk_of, Goes-dropped}
use Rattle.std.specs.Vec.Ownership.{has_block}
use Rattle.std.proofs.alloc.Calls.{Gives, at_gives, Gives-goes, Gives-Gives}
use Rattle.std.proofs.ptr.Rows.{one_below}
use Rattle.std.proofs.raw_atomic.Walks.{proved, leaves}
use Rattle.std.proofs.RawLayout.{as_raw}
use Rattle.std.proofs.VecSteps.El.{El, P, args, elτ, sz, wider}
use Rattle.std.proofs.VecSteps.Opens.{Blk, blk_out}
use Rattle.std.proofs.VecSteps.Rows.{all_room}
use Rattle.std.proofs.VecSteps.Shapes.{after}
use Rattle.s80_frames.proofs.BlockSteps.{Br, block_val, block_good, block_had, told}
use Rattle.s80_frames.specs.contracts.block.Block.free as F
use Rattle.s80_frames.proofs.block.Block.free.Statement.{statement}
use Rattle.s80_frames.proofs.block.Block.free.Code as code

positive : (n : ℕ) → IsTrue (has_block n) → 0 < n
positive zero t = absurd t
positive (suc n) t = omega arith

pub free_spec : {M : Type 1} → statement M
free_spec 𝓤 𝓛 𝓜 𝓡 wired X Z L LZ g d dd met md =
    let E : El = record { row = X; laws = L; al = record { row = Z; laws = LZ; g = g; d = d; drops = dd } } in
    let H = 𝓛.H in let 𝓣 = tables 𝓤 H 𝓜 𝓡 𝓡.env in let T = F.ended X Z g d dd in let c = F.clauses X Z g d dd 𝓛 𝓜.mem 𝓡.returns in let fn = inst_fn (args E) code.function in
    let heap = RefOf (0 ∷ []) tt (plain (λ _. P E)) (λ _. tt) in
    let stays : Stays T.signature.params T.kept = (stay_dropped (plain (λ _. Br E)) no, (stay_dropped heap yes, (stay_dropped (plain (λ _. usize)) yes, tt))) in
    proved 𝓛 T stays c 𝓜 𝓡 (Goes-dropped 𝓛 3 (plain (λ _. Br E)) no (λ κs x f. refl), (Goes-dropped 𝓛 3 heap yes (λ κs x f. refl), (Goes-dropped 𝓛 3 (plain (λ _. usize)) yes (λ κs x f. refl), tt)))
    (F.Key.name (args E)) fn (code.unfolded 𝓤 H 𝓜 𝓡 wired (X, (Z, tt)) d dd)
    (λ κs. ((λ x. block_val x.ptr ∷ []), (shr_vals, (uint_vals w64, tt)))) (λ κs. ((λ x vs is. told E x.ptr vs is.0), (shr_Tells (named 0) κs.0 (P E), (uint_Tells w64, tt)))) (λ κs qs bounds a gh are.
    let κ = κs.0 in let q = qs.0 in let old : (Br E).Denot = a.0 in let xs : List X.Denot = old.items in let n : ℕ = length xs in let hp : ℕ × ℕ = a.1.0.ref_ptr in let h : Z.Denot = a.1.0.now in let k : ℕ = a.1.1.0 in
    let s : ℕ = sz E in let al : ℕ = capped (align (elτ E)) in let τ : Ty = bare (ty_array (elτ E) k) in let others : Fml = fsep (flft κs.1.0 qs.1.0) (fsep (flft κs.1.1.0 qs.1.1.0) ftrue) in
    let y : (walk_of 𝓛 T stays c).Ghost = ((κs, qs, bounds, a, (block_val old.ptr ∷ [], (vptr hp.0 hp.1 ∷ [], (vint w64 k ∷ [], tt)))), gh) in let Post : Val → SProp 𝓤 = (walk_of 𝓛 T stays c).post y in
    let out : Sq 𝓛 (‵ (flft κ q) ∷ ‵ others ∷ []) (prop (Post vunit)) =
    join ! $ nothing ! $ feq_i ! (List Val) (vunit ∷ []) (vunit ∷ []) refl $ nothing ! $ nothing ! $ fjoin ! $ nothing ! $ nothing ! $ fjoin3 ! $ keep ! (3 ∷ 0 ∷ 1 ∷ 2 ∷ []) $
    by ! (leaves 𝓛 T stays c y vunit tt (tt, (tt, (tt, tt))) (tt, (tt, (tt, tt)))) in
    let Asked : Type 0 = (old.room ≡ k) × (n ≤ k) × (old.heap ≡ h) in
    qed 𝓛 (((‵ (flft κ q) ⊛ ‵ others) ⊛ ‵ (owns (types_at T.signature.params κs) a y.0.4)) ∷ raw (fact 𝓤 _) ∷ raw (fact 𝓤 (κs.1.1.0 ⊑ Z.lives)) ∷ raw (fact 𝓤 Asked) ∷ []) ∵
    keep ! (2 ∷ 3 ∷ 0 ∷ []) $ heard ! (κs.1.1.0 ⊑ Z.lives) (λ within. heard ! Asked (λ asked. split ! $ split ! $ move ! (2 ∷ []) $ fsplit3 ! $
    block_had E ! old (block_val old.ptr ∷ []) (λ b o at _ fit.
    rewrite ! 0 (λ (r : ℕ × Z.Denot). ‵ (Blk E r.1 b o n r.0 xs)) {x = (k, h)} {y = (old.room, old.heap)} (λ i. (asked.0 i, asked.2 i)) refl $
    move ! (1 ∷ []) $ fsplit ! $ keep ! (2 ∷ 1 ∷ 4 ∷ 5 ∷ []) $
    -- [the memory; the `&`; the tokens]
    enter ! 𝓣.C 𝓣.Λ fn (block_val old.ptr ∷ vptr hp.0 hp.1 ∷ vint w64 k ∷ []) Post $
    alloc_all ! (λ l. pass_all ! refl (block_good old.ptr (subst InBlock (sym at) tt), ((tt, tt), ((tt, record { fits = are.1.1.0.1 }), tt))) $ let Ev = env fn.locals l in
    sets ! (is ! (of_opd ! (get_in ! (fld ! refl (stop !)) (sub ! 0 refl (whole !)))) (ap ptr_val at)) refl (tt, tt) $
    sets ! (bin ! (get ! refl) (lit ! tt) tt) refl (tt, tt) $ first ! $ branches ! (get ! refl)
    (λ live. let some : 0 < k = positive k live in let small : k * s < 2 ^ 63 = subst (λ (j : ℕ). j * s < 2 ^ 63) asked.0 fit in let bytes : k * s < 2 ^ 64 = wider (k * s) small in
    let tiny : s < 2 ^ 64 = wider s (one_below k s (2 ^ 63) some small) in let t : (Gives E.al 𝓛 𝓜.mem 𝓡.returns).Ghost = at_gives E.al 𝓛 𝓜.mem 𝓡.returns κ q hp h b o (k * s) al τ in
    blk_out E ! h b o n k xs some $ use2 𝓛 (‵ (froom (ty_array (elτ E) k) b o)) (all_room E 𝓛 b o n k xs asked.1) $ as_raw ! (ty_array (elτ E) k) b o $
    blocks ! $ sets ! (of_opd ! (get ! refl)) refl (tt, tt) $ sets ! (bin ! (get ! refl) (size_lit ! (record { fits = tiny })) (record { fits = bytes })) refl (tt, record { fits = bytes }) $
    group ! 4 $ use1 𝓛 (raw ((Gives E.al 𝓛 𝓜.mem 𝓡.returns).pre t)) (Gives-goes E.al 𝓛 𝓜.mem 𝓡.returns κ q hp h (Incl-trans bounds.0 within) b o (k * s) al τ
    (ap capped (size-raw (ty_array (elτ E) k)) ∙ capped_is (k * s) bytes) (ap capped (align-raw (ty_array (elτ E) k))) bytes (capped_fits (align (elτ E)))) $
    calls_at_last ! (framed 𝓤 H 𝓜 𝓣) (Gives E.al 𝓛 𝓜.mem 𝓡.returns) (met.deallocate dd) t (and_then ! (get ! refl) (and_then ! (get ! refl) (and_then ! (get ! refl) (and_then ! (align_word !) (no_more !))))) (λ v.
    use1 𝓛 (later (given (v ≡ vunit) (‵ (flft κ q)))) (Gives-Gives E.al 𝓛 𝓜.mem 𝓡.returns κ q hp h b o (k * s) al τ v) $ await ! tt $ learn ! (λ e.
    lands_last ! refl (subst (λ (u : Val). IsTrue (has_ty ty_unit u) × WT u) (sym e) (tt, tt)) $ exec ! 𝓣.C 𝓣.Λ Ev (after 3 fn.body) (at_ret Ev Post) $
    sets ! (of_opd ! (unit_lit !)) refl (tt, tt) $ returns ! (look_at ! 0 refl) $ free_all ! refl $ out)))
    (λ dead. skips ! $ exec ! 𝓣.C 𝓣.Λ Ev (after 3 fn.body) (at_ret Ev Post) $
    sets ! (of_opd ! (unit_lit !)) refl (tt, tt) $ returns ! (look_at ! 0 refl) $ free_all ! refl $ keep ! (2 ∷ 3 ∷ []) $ out))))))
