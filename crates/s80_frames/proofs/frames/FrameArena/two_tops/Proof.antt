-- `two_tops`: the words of the two upper frames are lent, and cut in two. Assumes `Logic`.
use Rattle.std.proofs.Common.{◌≡◌, ◌<◌, List, [], ◌∷◌, ◌++◌, length, refl, ap, ap₂, MutBor, take, drop as drop_l}
use Rattle.std.proofs.raw_atomic.Walks.{proved}
use Rattle.std.proofs.VecSteps.Facts.{needs_two}
use mathlib.Core.Path.{◌∙◌}
use mir.Syntax.{Args, a_type, named, dcons, dnil}
use mir.MapTy.{inst_fn}
use mir.Val.{Val}
use base.Logic.{emp, id⊢}
use base.Fml.{ftrue, flft}
use types.Kit.{fjoin, frame, rewrite, ‵, raw, ◌⊛◌, some, later, ◌$◌, ◌∵◌, !, qed, done, move, drop, use0, use1, use2, split, split3, join, pick, await, suffices}
use types.Run.{enter, addr, stop, and_then, no_more, returns}
use types.ByLocal.{alloc_all, pass_all, free_all, look_at, get, through, sets, lands_as}
use contract.Monad.{fact, fact_i}
use contract.Running.{tables}
use contract.BorrowLft.{◌⊑◌}
use denote.Exit.{no}
use denote.RattleType.{RattleType}
use denote.Param.{bounded, copied}
use denote.Ref.{mut_vals, mut_Tells}
use Rattle.std.proofs.mem.Facts.{says_two}
use denote.Struct.Declared.{Declared, shape}
use denote.Struct.Tuple.{tuple_type}
use denote.Struct.Struct.{Struct, Struct-Lawful}
use denote.Struct.Recorded.{recorded_lawful}
use denote.Slice.{mut_slice_Lawful, MutSlice, mut_slice_vals}
use denote.Follow.{follows, follows_both}
use denote.Array.{Array}
use denote.Signature.{type_at, plain, mut_ref_to}
use denote.Steps.{nothing, heard, peeks, only}
use denote.Laws.{shows}
use denote.Triple.Call.{calls_at}
use denote.Triple.Clauses.{Ended, lasts}
use denote.Triple.Entry.{on_entry}
use denote.Triple.Spec.{triple_of}
use denote.Triple.Table.{framed}
use denote.Triple.Walked.{Stays, stay_dropped, Goes-spent_ref, ends_at}
use Rattle.s80_frames.specs.Lending.{with_written}
use Rattle.s80_frames.specs.Frames.{frames_of, upper}
use Rattle.s80_frames.proofs.FrameLemmas.{two_frames, first_long, second_long}
use Rattle.s80_frames.specs.contracts.frames.FrameArena.{the_row}
use Rattle.s80_frames.specs.contracts.frames.FrameArena.two_tops as F
use Rattle.s80_frames.specs.contracts.frames.FrameArena.upper_two as U
use Rattle.s80_frames.specs.contracts.frames.halves as H
use Rattle.s80_frames.proofs.frames.FrameArena.upper_two.Met as upper_met
use Rattle.s80_frames.proofs.frames.halves.Met as halves_met
use Rattle.s80_frames.proofs.BothThen.{both_then}
use Rattle.s80_frames.proofs.frames.FrameArena.two_tops.Statement.{statement}
use Rattle.s80_frames.proofs.frames.FrameArena.two_tops.Code as code

pub two_tops_spec : {M : Type 1} → statement M
two_tops_spec 𝓤 𝓛 𝓜 𝓡 wired W L Cp g d met =
    let T : Ended = F.ended W g d in
    let R : RattleType = copied 0 W in
    let Vr : RattleType = the_row R in
    let stayed : Stays T.signature.params T.kept = (stay_dropped (mut_ref_to (0 ∷ []) tt (plain (λ _. Vr))) no, tt) in
    let c = F.clauses W g d 𝓛 𝓜.mem 𝓡.returns in
    let args : Args = bounded (a_type ∷ []) (W, tt) (dcons d dnil) in
    proved 𝓛 T stayed c 𝓜 𝓡 (Goes-spent_ref 𝓛 2 (0 ∷ []) tt (plain (λ _. Vr)), tt)
    (F.Key.name args) (inst_fn args code.function) (code.unfolded 𝓤 𝓛.H 𝓜 𝓡 wired (W, tt) d)
    (λ κs. (mut_vals, tt)) (λ κs. (mut_Tells (named 0) κs.0 Vr, tt)) (λ κs qs bounds a g0 are.
    needs_two 𝓤 (κs.1.0 ⊑ W.lives) (1 < length a.0.now.frames) _ (λ said.
    let G = triple_of 𝓛 (U.signature W) (U.spec W g d 𝓛 𝓜.mem 𝓡.returns) in
    let z : G.Ghost = ((κs, qs, bounds, a, (mut_vals a.0, tt)), tt) in
    qed 𝓛 (raw (on_entry 𝓛 (F.signature W) κs qs a (mut_vals a.0, tt)) ∷ []) ∵ enter ! _ _ _ _ _ $
    alloc_all ! (λ l. pass_all ! refl ((tt, tt), tt) $
    sets ! (addr ! (through ! refl (stop !))) refl (tt, tt) $
    use0 𝓛 (raw (fact 𝓤 (1 < length a.0.now.frames))) (fact_i 𝓤 (1 < length a.0.now.frames) (emp 𝓤) said.1) $
    use0 𝓛 (raw (fact 𝓤 (κs.1.0 ⊑ W.lives))) (fact_i 𝓤 (κs.1.0 ⊑ W.lives) (emp 𝓤) said.0) $ join ! $
    move ! (1 ∷ 0 ∷ []) $ join ! $ use1 𝓛 (raw (G.pre z)) (id⊢ 𝓤 _) $
    calls_at ! (framed 𝓤 𝓛.H 𝓜 (tables 𝓤 𝓛.H 𝓜 𝓡 𝓡.env)) G (upper_met.met 𝓤 𝓛 𝓜 𝓡 (code.calls-s80_frames::frames::FrameArena::upper_two 𝓡.env wired) W L Cp g d met) z
    (and_then ! (get ! refl) (no_more !)) (λ v.
    let Slice : RattleType = MutSlice (named 0) κs.0 R in
    use1 𝓛 (later (some (λ (r : MutBor (List W.Denot)). ((‵ (flft κs.0 qs.0) ⊛ ‵ (flft κs.1.0 qs.1.0) ⊛ ‵ ftrue) ⊛ ‵ (Slice.own_val r (v ∷ [])))
    ⊛ some (λ (ws : Unit {0} × Unit {0}). ‵ (lasts (U.ended W g d) κs a ws) ⊛ ‵ (follows Vr (Array R 0) a.0.ghost_name r.ghost_name (with_written a.0.now 2)) ⊛ raw (fact 𝓤 (frames_of 2 r.now ≡ upper 2 a.0.now.frames)) ⊛ raw (fact 𝓤 (length r.now ≡ 76)))))) (id⊢ 𝓤 _) $
    await ! tt $ pick ! (λ r. split ! $ split ! $ move ! (2 ∷ []) $ pick ! (λ ws. split ! $ drop ! $ split3 ! $
    move ! (2 ∷ []) $ heard ! _ (λ len. move ! (1 ∷ []) $ heard ! _ (λ value.
    -- [the lender follows the slice; the tokens; the slice]
    move ! (2 ∷ []) $ peeks ! Slice _ (shows 𝓛 Slice) r (v ∷ []) (λ is.
    lands_as ! (ap only is.0.0) refl (tt, (tt, (record { fits = is.0.1.0 }, tt))) $
    rewrite ! 0 (λ (us : List Val). ‵ (Slice.own_val r us)) is.0.0 refl $
    nothing ! $ move ! (1 ∷ 0 ∷ []) $ join ! $ move ! (2 ∷ 0 ∷ []) $ join ! $
    use0 𝓛 (raw (fact 𝓤 (length r.now ≡ 76))) (fact_i 𝓤 (length r.now ≡ 76) (emp 𝓤) len) $
    use0 𝓛 (raw (fact 𝓤 (κs.1.0 ⊑ W.lives))) (fact_i 𝓤 (κs.1.0 ⊑ W.lives) (emp 𝓤) said.0) $ join ! $
    move ! (1 ∷ 0 ∷ []) $ join ! $
    let G₂ = triple_of 𝓛 (H.signature W) (H.spec W g d 𝓛 𝓜.mem 𝓡.returns) in
    let z₂ : G₂.Ghost = ((κs, qs, bounds, (r, tt), (mut_slice_vals r, tt)), tt) in
    use1 𝓛 (raw (G₂.pre z₂)) (id⊢ 𝓤 _) $
    calls_at ! (framed 𝓤 𝓛.H 𝓜 (tables 𝓤 𝓛.H 𝓜 𝓡 𝓡.env)) G₂ (halves_met.met 𝓤 𝓛 𝓜 𝓡 (code.calls-s80_frames::frames::halves 𝓡.env wired) W L Cp g d met) z₂
    (and_then ! (get ! refl) (no_more !)) (λ v₂.
    let Pair : RattleType = type_at (H.signature W).result κs in
    use1 𝓛 (later (some (λ (p : MutBor (List W.Denot) × MutBor (List W.Denot)). ((‵ (flft κs.0 qs.0) ⊛ ‵ (flft κs.1.0 qs.1.0) ⊛ ‵ ftrue) ⊛ ‵ (Pair.own_val p (v₂ ∷ [])))
    ⊛ some (λ (ws : Unit {0} × Unit {0}). ‵ (lasts (H.ended W g d) κs (r, tt) ws) ⊛ ‵ (follows_both (Array R 0) (Array R 0) (Array R 0) r.ghost_name p.0.ghost_name p.1.ghost_name ◌++◌) ⊛ raw (fact 𝓤 (p.0.now ≡ take 38 r.now)) ⊛ raw (fact 𝓤 (p.1.now ≡ drop_l 38 r.now)))))) (id⊢ 𝓤 _) $
    await ! tt $ pick ! (λ p. split ! $ split ! $ move ! (2 ∷ []) $ pick ! (λ ws₂. split ! $ drop ! $ split3 ! $
    move ! (1 ∷ []) $ heard ! _ (λ first. move ! (1 ∷ []) $ heard ! _ (λ second.
    -- [the slice follows both parts; the tokens; the parts; the lender follows the slice]
    move ! (3 ∷ 0 ∷ []) $
    use2 𝓛 (‵ (follows_both Vr (Array R 0) (Array R 0) a.0.ghost_name p.0.ghost_name p.1.ghost_name (λ x y. with_written a.0.now 2 (x ++ y))))
    (both_then 𝓛 Vr (Array R 0) (Array R 0) (Array R 0) (with_written a.0.now 2) ◌++◌ a.0.ghost_name r.ghost_name p.0.ghost_name p.1.ghost_name) $
    move ! (2 ∷ []) $ peeks ! Pair _ (shows 𝓛 Pair) p (v₂ ∷ []) (λ are₂.
    let of_slice = mut_slice_Lawful 𝓛 (named 0) κs.0 R in
    let D : Declared = tuple_type (Slice ∷ Slice ∷ []) in
    let typed = (recorded_lawful (Struct (shape D)) D.D D.to D.to_one 𝓛 (Struct-Lawful 𝓛 (shape D) (of_slice, (of_slice, tt)))).typed p (v₂ ∷ []) are₂ in
    lands_as ! refl refl typed.0 $ returns ! (look_at ! 0 refl) $ free_all ! refl $
    suffices ! _ (ends_at 𝓛 T stayed c ((κs, qs, bounds, a, (mut_vals a.0, tt)), tt) v₂ p (tt, tt) (tt, tt)) $
    nothing ! $ nothing ! $ fjoin ! $ join ! $ move ! (2 ∷ 0 ∷ []) $ join ! $ frame ! $
    says_two ! (ap₂ (λ x z. x ∷ z ∷ []) first second ∙ two_frames r.now len ∙ value, (ap length first ∙ first_long r.now len, ap length second ∙ second_long r.now len)) $ done !)))))))))))))))
