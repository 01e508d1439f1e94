-- `allocate` asks the allocator for room for so many items, and keeps what comes back. Assumes `Logic`.
use Rattle.std.proofs.Common.{◌≡◌, ℕ, ◌+◌, ◌-◌, ◌*◌, ◌^◌, ◌<◌, [], ◌∷◌, IfOk, Ok, Err, refl, ap, ◌∙◌, arith, lit<, w64, true, false}
use base.Fml.{Fml, ftrue, fsep, flft, froom, Incl-trans}
use base.Fraction.{full_share}
use base.Logic.{SProp, emp}
use mir.MapTy.{inst_fn}
use mir.Raw.{raw as bare}
use mir.Syntax.{Ty, Body, named, ty_array}
use mir.Val.{Val, vint, vptr, vstruct, vcons, vnil, WT}
use prog.Capped.{capped_is, capped_fits}
use prog.Memory.{align, capped}
use prog.RawLaws.{size-raw, align-raw}
use prog.Wp.{Wp, after_seq, at_return}
use types.ByLocal.{alloc_all, pass_all, free_all, look_at, get, get_in, get_tag, sets, sets_last, lands_as, env}
use types.Kit.{Post as After, any_q, ‵, raw, ◌⊛◌, later, at_ret, ◌$◌, ◌∵◌, !, qed, by, move, keep, drop, use0, use1, use2, split, join, fsplit, fjoin3, await}
use types.Match.{live, vrt, in_variant}
use types.Part.{whole, agg}
use types.Run.{enter, stop, fld, lit, size_lit, align_word, no_more, and_then, of_opd, bin, first, switches_on, exec, returns}
use contract.BorrowLft.{◌⊑◌}
use contract.Monad.{fact, fact_i}
use contract.Running.{tables}
use denote.Array.{Array}
use denote.Builtin.{RefOf, usize}
use denote.Exit.{yes}
use denote.Laws.{Is}
use denote.Memory.{part_at}
use denote.Plain.{uint_vals, uint_Tells}
use denote.RattleType.{RattleType, owns}
use denote.RawPtr.{Ptr, block_ptr}
use denote.Ref.{shr_vals, shr_Tells}
use denote.Signature.{plain, types_at}
use denote.Steps.{nothing, heard, owned}
use denote.Struct.Declared as Declared
use denote.Struct.Struct.{Struct, Struct-Makes}
use denote.Triple.Call.{calls_at}
use denote.Triple.Table.{framed}
use denote.Triple.Walked.{Stays, stay_dropped, walk_of, Goes-dropped}
use Rattle.std.specs.Vec.Ownership.{FitsInBlock}
use Rattle.std.specs.contracts.result.Result as Results
use Rattle.std.specs.contracts.alloc.AllocError as Refusal
use Rattle.std.proofs.alloc.Calls.{Answer-typed, Takes, at_takes, Answered, Takes-goes, Takes-gives, answers}
use Rattle.std.proofs.ptr.Rows.{one_below}
use Rattle.std.proofs.raw_atomic.Walks.{proved, leaves}
use Rattle.std.proofs.RawLayout.{as_written}
use Rattle.std.proofs.ResultValues.{ok_of, err_of}
use Rattle.std.proofs.VecSteps.El.{El, R, P, args, elτ, sz, wider}
use Rattle.std.proofs.VecSteps.Opens.{blk_in}
use Rattle.std.proofs.VecSteps.Rows.{room_split, empty}
use Rattle.std.proofs.VecSteps.Shapes.{after, front, arm_body}
use Rattle.s80_frames.proofs.BlockSteps.{Br, block_val, block_good, block_made}
use Rattle.s80_frames.specs.contracts.block.Block.allocate as F
use Rattle.s80_frames.proofs.block.Block.allocate.Statement.{statement}
use Rattle.s80_frames.proofs.block.Block.allocate.Code as code

pub allocate_spec : {M : Type 1} → statement M
allocate_spec 𝓤 𝓛 𝓜 𝓡 wired X Z L LZ g d dd met md =
    let E : El = record { row = X; laws = L; al = record { row = Z; laws = LZ; g = g; d = d; drops = dd } } in
    let H = 𝓛.H in let 𝓣 = tables 𝓤 H 𝓜 𝓡 𝓡.env in let T = F.ended X Z g d dd in let c = F.clauses X Z g d dd 𝓛 𝓜.mem 𝓡.returns in let fn = inst_fn (args E) code.function in
    let heap = RefOf (0 ∷ []) tt (plain (λ _. P E)) (λ _. tt) in let stays : Stays T.signature.params T.kept = (stay_dropped heap yes, (stay_dropped (plain (λ _. usize)) yes, tt)) in
    let Out : RattleType = Results.the_row (Br E) Refusal.the_row in
    proved 𝓛 T stays c 𝓜 𝓡 (Goes-dropped 𝓛 3 heap yes (λ κs x f. refl), (Goes-dropped 𝓛 3 (plain (λ _. usize)) yes (λ κs x f. refl), tt)) (F.Key.name (args E)) fn (code.unfolded 𝓤 H 𝓜 𝓡 wired (X, (Z, tt)) d dd)
    (λ κs. (shr_vals, (uint_vals w64, tt))) (λ κs. (shr_Tells (named 0) κs.0 (P E), (uint_Tells w64, tt))) (λ κs qs bounds a gh are.
    let κ = κs.0 in let q = qs.0 in let hp : ℕ × ℕ = a.0.ref_ptr in let h : Z.Denot = a.0.now in let k : ℕ = a.1.0 in let s : ℕ = sz E in let al : ℕ = capped (align (elτ E)) in let τ : Ty = bare (ty_array (elτ E) k) in
    let y : (walk_of 𝓛 T stays c).Ghost = ((κs, qs, bounds, a, (vptr hp.0 hp.1 ∷ [], (vint w64 k ∷ [], tt))), gh) in let Post : Val → SProp 𝓤 = (walk_of 𝓛 T stays c).post y in
    let others : Fml = fsep (flft κs.1.0 qs.1.0) (fsep (flft κs.1.1.0 qs.1.1.0) ftrue) in
    let Told : Out.Denot → Type 0 = λ r. IfOk r (λ n. (n.heap ≡ h) × (n.room ≡ k) × (n.items ≡ [])) in let Asked : Type 0 = FitsInBlock (R E) k × (0 < k) in
    qed 𝓛 (((‵ (flft κ q) ⊛ ‵ others) ⊛ ‵ (owns (types_at T.signature.params κs) a y.0.4)) ∷ raw (fact 𝓤 _) ∷ raw (fact 𝓤 (κs.1.1.0 ⊑ Z.lives)) ∷ raw (fact 𝓤 Asked) ∷ []) ∵
    keep ! (2 ∷ 3 ∷ 0 ∷ []) $ heard ! (κs.1.1.0 ⊑ Z.lives) (λ within. heard ! Asked (λ asked. split ! $ split ! $ move ! (2 ∷ []) $ fsplit ! $ fsplit ! $ keep ! (1 ∷ 3 ∷ 4 ∷ []) $
    -- [the `&`; the tokens]
    let small : k * s < 2 ^ 63 = asked.0.0 in let bytes : k * s < 2 ^ 64 = wider (k * s) small in let tiny : s < 2 ^ 64 = wider s (one_below k s (2 ^ 63) asked.1 small) in
    enter ! 𝓣.C 𝓣.Λ fn (vptr hp.0 hp.1 ∷ vint w64 k ∷ []) Post $ alloc_all ! (λ l. pass_all ! refl ((tt, tt), ((tt, record { fits = are.1.0.1 }), tt)) $ let Ev = env fn.locals l in
    let both : Body = front (after 2 fn.body) in
    let Then : After 𝓤 H = any_q (after_seq 𝓤 H (Wp 𝓤 H 𝓣.C 𝓣.Λ Ev (after 3 fn.body) (at_return 𝓤 H Ev Post)) (at_return 𝓤 H Ev Post)) in
    let t : (Takes E.al 𝓛 𝓜.mem 𝓡.returns).Ghost = at_takes E.al 𝓛 𝓜.mem 𝓡.returns κ q hp h (k * s) al τ in
    sets ! (bin ! (get ! refl) (size_lit ! (record { fits = tiny })) (record { fits = bytes })) refl (tt, record { fits = bytes }) $
    use2 𝓛 (raw ((Takes E.al 𝓛 𝓜.mem 𝓡.returns).pre t)) (Takes-goes E.al 𝓛 𝓜.mem 𝓡.returns κ q hp h (Incl-trans bounds.0 within) (k * s) al τ
    (ap capped (size-raw (ty_array (elτ E) k)) ∙ capped_is (k * s) bytes) (ap capped (align-raw (ty_array (elτ E) k))) bytes (capped_fits (align (elτ E)))) $
    calls_at ! (framed 𝓤 H 𝓜 𝓣) (Takes E.al 𝓛 𝓜.mem 𝓡.returns) (met.allocate dd) t (and_then ! (get ! refl) (and_then ! (get ! refl) (and_then ! (align_word !) (no_more !)))) (λ v.
    use1 𝓛 (later (raw (Answered E.al 𝓛 𝓜.mem 𝓡.returns h τ v) ⊛ ‵ (flft κ q))) (Takes-gives E.al 𝓛 𝓜.mem 𝓡.returns κ q hp h (k * s) al τ v) $ await ! tt $ split ! $
    move ! (1 ∷ 2 ∷ []) $ join ! $ move ! (1 ∷ []) $ answers E.al ! 𝓜.mem 𝓡.returns h τ v
    (λ b o e. let p : Ptr = block_ptr b o in let new : (Br E).Denot = record { ptr = p; by = record {}; heap = h; room = k; items = [] } in
    let u : Val = block_val p in let good = block_good p tt in let r : Val = live 0 (vcons u vnil) in let all : WT r = (record { fits = lit< tt }, (good.1, tt)) in
    lands_as ! e refl (Answer-typed true b o) $ first ! $ switches_on ! (get_tag ! (vrt ! refl (fld ! refl (stop !))) (whole !)) $ exec ! 𝓣.C 𝓣.Λ Ev (arm_body 0 both) Then $
    sets ! (of_opd ! (get_in ! (vrt ! refl (fld ! refl (stop !))) (in_variant ! 0 0 refl refl (whole !)))) refl (tt, tt) $ sets ! (of_opd ! (get ! refl)) refl (tt, tt) $
    sets ! (agg ! (no_more !)) refl (tt, tt) $ sets ! (agg ! (and_then ! (get ! refl) (and_then ! (get ! refl) (no_more !)))) refl good $
    sets_last ! (agg ! (and_then ! (lit ! tt) (and_then ! (get ! refl) (no_more !)))) refl (tt, all) $
    exec ! 𝓣.C 𝓣.Λ Ev (after 3 fn.body) (at_ret Ev Post) $ sets ! (of_opd ! (get ! refl)) refl (tt, all) $
    -- [the room and the right to free it; the tokens]
    as_written ! (ty_array (elτ E) k) b o $ use1 𝓛 (‵ (froom (ty_array (elτ E) 0) b o) ⊛ ‵ (froom (ty_array (elτ E) (k - 0)) b (o + 0 * s))) (room_split E 𝓛 0 k b o (omega arith)) $ split ! $ drop ! $
    use0 𝓛 (‵ (part_at (Array (R E) 0) full_share [] b o)) (empty E 𝓛 [] b o refl) $ blk_in E ! h b o 0 k [] asked.1 $ block_made E ! new b o refl small $
    use1 𝓛 (‵ (Out.own_val (Ok new) (r ∷ []))) (ok_of 𝓛 (Br E) Refusal.the_row new u) $
    use0 𝓛 (raw (fact 𝓤 (Told (Ok new)))) (fact_i 𝓤 (Told (Ok new)) (emp 𝓤) (refl, refl, refl)) $ nothing ! $ nothing ! $ nothing ! $ fjoin3 ! $
    returns ! (look_at ! 0 refl) $ free_all ! refl $ keep ! (3 ∷ 0 ∷ 2 ∷ 1 ∷ []) $ by ! (leaves 𝓛 T stays c y r (Ok new) (tt, (tt, tt)) (tt, (tt, tt))))
    (λ e. let u : Val = vstruct vnil in let r : Val = live 1 (vcons u vnil) in let none : WT r = (record { fits = lit< tt }, (tt, tt)) in
    lands_as ! e refl (Answer-typed false 0 0) $ first ! $ switches_on ! (get_tag ! (vrt ! refl (fld ! refl (stop !))) (whole !)) $ exec ! 𝓣.C 𝓣.Λ Ev (arm_body 1 both) Then $
    sets ! (of_opd ! (get_in ! (vrt ! refl (fld ! refl (stop !))) (in_variant ! 1 0 refl refl (whole !)))) refl (tt, tt) $
    sets_last ! (agg ! (and_then ! (lit ! tt) (and_then ! (get ! refl) (no_more !)))) refl (tt, none) $
    exec ! 𝓣.C 𝓣.Λ Ev (after 3 fn.body) (at_ret Ev Post) $ sets ! (of_opd ! (get ! refl)) refl (tt, none) $
    owned ! (Struct (Declared.shape Refusal.the_type)) (Is (Struct (Declared.shape Refusal.the_type))) (Struct-Makes 𝓛 (Declared.shape Refusal.the_type) tt) tt (u ∷ []) (tt, (refl, tt)) $
    use1 𝓛 (‵ (Out.own_val (Err (record {})) (r ∷ []))) (err_of 𝓛 (Br E) Refusal.the_row (record {}) u) $
    use0 𝓛 (raw (fact 𝓤 (Told (Err (record {}))))) (fact_i 𝓤 (Told (Err (record {}))) (emp 𝓤) tt) $ nothing ! $ nothing ! $ nothing ! $ fjoin3 ! $
    returns ! (look_at ! 0 refl) $ free_all ! refl $ keep ! (3 ∷ 0 ∷ 2 ∷ 1 ∷ []) $ by ! (leaves 𝓛 T stays c y r (Err (record {})) (tt, (tt, tt)) (tt, (tt, tt)))))))))
