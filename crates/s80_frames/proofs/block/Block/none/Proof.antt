-- `none` keeps the address of an array of no items: it owns nothing. Assumes `Logic`.
use Rattle.std.proofs.Common.{◌≡◌, ℕ, [], ◌∷◌, refl, arith}
use base.Fml.{Fml, ftrue, fsep, flft}
use base.Logic.{SProp, emp}
use mir.MapTy.{inst_fn}
use mir.Syntax.{named}
use mir.Val.{Val, vptr}
use types.ByLocal.{alloc_all, pass_all, free_all, look_at, get, sets}
use types.Kit.{‵, raw, ◌⊛◌, ◌$◌, ◌∵◌, !, qed, by, keep, use0, split, fjoin}
use types.Part.{agg}
use types.Run.{enter, from, addr, stop, no_more, and_then, returns}
use contract.Monad.{fact, fact_i}
use contract.Running.{tables}
use denote.Builtin.{RefOf}
use denote.Exit.{yes}
use denote.RattleType.{owns}
use denote.RawPtr.{block_ptr}
use denote.Ref.{shr_vals, shr_Tells}
use denote.Signature.{plain, types_at}
use denote.Steps.{nothing}
use denote.Triple.Walked.{Stays, stay_dropped, walk_of, Goes-dropped}
use Rattle.std.proofs.raw_atomic.Walks.{proved, leaves}
use Rattle.std.proofs.VecSteps.El.{El, P, args}
use Rattle.s80_frames.proofs.BlockSteps.{Br, block_val, block_good, block_made}
use Rattle.s80_frames.specs.contracts.block.Block.none as F
use Rattle.s80_frames.proofs.block.Block.none.Statement.{statement}
use Rattle.s80_frames.proofs.block.Block.none.Code as code

pub none_spec : {M : Type 1} → statement M
none_spec 𝓤 𝓛 𝓜 𝓡 wired X Z L LZ g d dd met md =
    let E : El = record { row = X; laws = L; al = record { row = Z; laws = LZ; g = g; d = d; drops = dd } } in
    let H = 𝓛.H in let 𝓣 = tables 𝓤 H 𝓜 𝓡 𝓡.env in let T = F.ended X Z g d dd in let c = F.clauses X Z g d dd 𝓛 𝓜.mem 𝓡.returns in let fn = inst_fn (args E) code.function in
    let heap = RefOf (0 ∷ []) tt (plain (λ _. P E)) (λ _. tt) in let stays : Stays T.signature.params T.kept = (stay_dropped heap yes, tt) in
    proved 𝓛 T stays c 𝓜 𝓡 (Goes-dropped 𝓛 3 heap yes (λ κs x f. refl), tt) (F.Key.name (args E)) fn (code.unfolded 𝓤 H 𝓜 𝓡 wired (X, (Z, tt)) d dd)
    (λ κs. (shr_vals, tt)) (λ κs. (shr_Tells (named 0) κs.0 (P E), tt)) (λ κs qs bounds a gh are.
    let hb : ℕ = a.0.ref_ptr.0 in let ho : ℕ = a.0.ref_ptr.1 in let others : Fml = fsep (flft κs.1.0 qs.1.0) (fsep (flft κs.1.1.0 qs.1.1.0) ftrue) in
    let y : (walk_of 𝓛 T stays c).Ghost = ((κs, qs, bounds, a, (vptr hb ho ∷ [], tt)), gh) in let Post : Val → SProp 𝓤 = (walk_of 𝓛 T stays c).post y in
    qed 𝓛 (((‵ (flft κs.0 qs.0) ⊛ ‵ others) ⊛ ‵ (owns (types_at T.signature.params κs) a y.0.4)) ∷ raw ((c κs a).requires gh) ∷ []) ∵ split ! $ keep ! (0 ∷ []) $
    enter ! 𝓣.C 𝓣.Λ fn (vptr hb ho ∷ []) Post $ alloc_all ! (λ l. pass_all ! refl ((tt, tt), tt) $
    let new : (Br E).Denot = record { ptr = block_ptr (l 2) 0; by = record {}; heap = a.0.now; room = 0; items = [] } in
    sets ! (agg ! (no_more !)) refl (tt, tt) $ sets ! (addr ! (from ! (stop !))) refl (tt, tt) $ sets ! (agg ! (no_more !)) refl (tt, tt) $
    sets ! (agg ! (and_then ! (get ! refl) (and_then ! (get ! refl) (no_more !)))) refl (block_good (block_ptr (l 2) 0) tt) $
    let Kept : Type 0 = (new.heap ≡ a.0.now) × (new.room ≡ 0) × (new.items ≡ []) in
    use0 𝓛 (raw (fact 𝓤 Kept)) (fact_i 𝓤 Kept (emp 𝓤) (refl, refl, refl)) $ nothing ! $ block_made E ! new (l 2) 0 refl (omega arith) $ nothing ! $ nothing ! $ fjoin ! $
    returns ! (look_at ! 0 refl) $ free_all ! refl $ keep ! (3 ∷ 0 ∷ 1 ∷ 2 ∷ []) $ by ! (leaves 𝓛 T stays c y (block_val (block_ptr (l 2) 0)) new (tt, tt) (tt, tt))))
