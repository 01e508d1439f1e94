-- `item_size` returns the size of the parameter's layout, at most the greatest word. Assumes `Logic`.
use Rattle.std.proofs.Common.{ℕ, ◌≡◌, ◌^◌, List, [], ◌∷◌, refl, w64}
use base.Fml.{ftrue}
use base.Logic.{emp}
use mir.MapTy.{inst_fn}
use mir.Syntax.{a_type}
use mir.Val.{Val, vint}
use prog.Capped.{capped_fits}
use prog.Memory.{size, capped}
use types.ByLocal.{alloc_all, pass_all, free_all, look_at, sets}
use types.Kit.{‵, raw, ◌⊛◌, ◌$◌, ◌∵◌, !, qed, by, keep, use0, split, fjoin, feq_i, flt_i}
use types.Run.{enter, of_opd, size_word, returns}
use contract.Monad.{fact, fact_i}
use contract.Running.{tables}
use denote.Param.{layout, layouts}
use denote.Steps.{nothing}
use denote.Triple.Entry.{alive}
use denote.Triple.Walked.{walk_of}
use Rattle.std.proofs.raw_atomic.Walks.{proved, leaves}
use Rattle.s80_frames.specs.contracts.block.item_size as F
use Rattle.s80_frames.proofs.block.item_size.Statement.{statement}
use Rattle.s80_frames.proofs.block.item_size.Code as code

pub item_size_spec : {M : Type 1} → statement M
item_size_spec 𝓤 𝓛 𝓜 𝓡 wired X L =
    let H = 𝓛.H in let 𝓣 = tables 𝓤 H 𝓜 𝓡 𝓡.env in let T = F.ended X in let c = F.clauses X 𝓛 𝓜.mem 𝓡.returns in
    let args = layouts (a_type ∷ []) (X, tt) in let fn = inst_fn args code.function in let s : ℕ = capped (size (layout X)) in
    proved 𝓛 T tt c 𝓜 𝓡 tt (F.Key.name args) fn (code.unfolded 𝓤 H 𝓜 𝓡 wired (X, tt)) (λ κs. tt) (λ κs. tt) (λ κs qs bounds a gh are.
    let y : (walk_of 𝓛 T tt c).Ghost = ((κs, qs, bounds, a, tt), gh) in
    qed 𝓛 ((raw (alive 𝓛 T.signature κs qs) ⊛ ‵ ftrue) ∷ raw ((c κs a).requires gh) ∷ []) ∵ split ! $ keep ! (0 ∷ []) $
    enter ! 𝓣.C 𝓣.Λ fn [] ((walk_of 𝓛 T tt c).post y) $ alloc_all ! (λ l. pass_all ! refl tt $
    sets ! (of_opd ! (size_word !)) refl (tt, record { fits = capped_fits (size (layout X)) }) $
    use0 𝓛 (raw (fact 𝓤 (s ≡ s))) (fact_i 𝓤 (s ≡ s) (emp 𝓤) refl) $
    flt_i ! s (2 ^ 64) (capped_fits (size (layout X))) $ feq_i ! (List Val) (vint w64 s ∷ []) (vint w64 s ∷ []) refl $ fjoin ! $ nothing ! $
    returns ! (look_at ! 0 refl) $ free_all ! refl $ keep ! (3 ∷ 0 ∷ 1 ∷ 2 ∷ []) $ by ! (leaves 𝓛 T tt c y (vint w64 s) s tt tt)))
