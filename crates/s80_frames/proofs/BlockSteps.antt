-- What a block's field is in the machine, what a block owns taken apart and put together, and a `&mut` to a block opened and
-- closed. Assumes `Logic`.
use Rattle.std.proofs.Common.{◌≡◌, ℕ, ◌*◌, ◌^◌, ◌<◌, T, List, [], ◌∷◌, ◌++◌, length, refl, sym, ap, ◌∙◌}
use seplogic.Ra.Ura.{Ura}
use base.Fraction.{full_share}
use base.Logic.{ent, emp, never, id⊢}
use base.Fml.{Lft, GName, Share, flft, fobs, fauth, fbor, fobor}
use base.Stored.{Gv}
use mir.Syntax.{Ty, ty_ptr, ty_struct, tcons, tnil}
use mir.Val.{Val, vstruct, vcons, vnil, of_list, has_ty, WT}
use types.Logic.{Logic, sem}
use types.Kit.{Goal, Soaks, Step, step, Seq, Item, ‵, ◌$◌, move, drop, use0, rewrite, fsplit, fjoin, flt_l, flt_i}
use types.SemTy.{Body}
use denote.RattleType.{RattleType}
use denote.Laws.{Is, Typed, shows}
use denote.Memory.{cell_at, mem}
use denote.RawPtr.{Ptr, block_ptr, null_ptr, ptr_val, InBlock, in_block, in_a_block}
use denote.Shadow.{makes_shadow}
use denote.Steps.{opens, closes, peeks}
use denote.Struct.Struct.{Struct}
use denote.Struct.Owning.{shape}
use Rattle.std.specs.Vec.Ownership.{owns_if, has_block}
use Rattle.std.specs.Allocator.{block_with_items}
use Rattle.std.proofs.alloc.Calls.{token}
use Rattle.std.proofs.VecSteps.El.{El, R, P, sz}
use Rattle.std.proofs.VecSteps.Opens.{Blk}
use Rattle.s80_frames.specs.contracts.block.Block as Row

abbrev pub block_val : Ptr → Val
block_val p = vstruct (vcons (ptr_val p) (vcons (vstruct vnil) vnil))

pub block_good : (p : Ptr) → InBlock p → T (has_ty (ty_struct [] (tcons ty_ptr (tcons (ty_struct [] tnil) tnil))) (block_val p)) × WT (block_val p)
block_good (block_ptr b o) i = (tt, (tt, (tt, tt)))
block_good null_ptr i = absurd i

-- what is owned of a parameter is one machine value
pub one : (τ : Ty) (vs : List Val) → Typed (τ ∷ []) vs → (v : Val) × ((vs ≡ v ∷ []) × (T (has_ty τ v) × WT v))
one τ [] t = absurd t
one τ (v ∷ []) t = (v, (refl, t.0))
one τ (v ∷ w ∷ vs) t = absurd t.1

module _ (E : El) where
  abbrev pub Br : RattleType
  Br = Row.the_row (R E) (P E) E.al.g

  -- the fields, as a plain struct
  abbrev pub Fields : RattleType
  Fields = Struct (shape (Row.the_type (R E) (P E) E.al.g))

  pub told : (p : Ptr) (vs : List Val) → Is Fields (p, (tt, tt)) vs → vs ≡ block_val p ∷ []
  told p vs is = is.1.0 ∙ ap (λ (ws : List Val). vstruct (of_list (ws ++ (is.0.1.0 ++ []))) ∷ []) is.1.1.0 ∙ ap (λ (ws : List Val). vstruct (of_list (ptr_val p ∷ (ws ++ []))) ∷ []) is.1.1.1.0.1.0

  pub made : {M : Type 1} {𝓤 : Ura M} (𝓛 : Logic 𝓤) (p : Ptr) → ent 𝓤 (emp 𝓤) (sem 𝓛 (Fields.own_val (p, (tt, tt)) (block_val p ∷ [])))
  made 𝓛 p = makes_shadow 𝓛 (Fields.own_val (p, (tt, tt)) (block_val p ∷ [])) (λ vss. (tt, (tt, ((λ uss. (tt, tt)), tt))))
      ((ptr_val p ∷ [], (vstruct vnil ∷ [], tt)), (refl, (refl, ((tt, (refl, tt)), tt))))

module _ (E : El) {M : Type 1} {𝓤 : Ura M} {𝓛 : Logic 𝓤} {K : Type 0} {Γ : List (Item 𝓤)} {G : Goal 𝓤 𝓛.H} where
  -- the memory of a block, where it has some
  pub block_had : K → (d : (Br E).Denot) (vs : List Val)
      → ((b o : ℕ) → d.ptr ≡ block_ptr b o → vs ≡ block_val d.ptr ∷ [] → d.room * sz E < 2 ^ 63 → Seq K 𝓛 (‵ (Blk E d.heap b o (length d.items) d.room d.items) ∷ Γ) G)
      → Seq K 𝓛 (‵ ((Br E).own_val d vs) ∷ Γ) G
  block_had t d vs k =
      peeks t (Br E) (Is (Br E)) (shows 𝓛 (Br E)) d vs (λ is. fsplit t $ drop t $ fsplit t $ flt_l t (λ fit.
      in_a_block t d.ptr (λ p. in_block p (owns_if (has_block d.room) (block_with_items (token E.al d.heap) (R E) p (length d.items) d.room d.items))) (id⊢ 𝓤 (never 𝓤)) (λ b o at.
      k b o at (told E d.ptr vs is.0) fit)))

  pub block_made : K → (d : (Br E).Denot) (b o : ℕ) → d.ptr ≡ block_ptr b o → d.room * sz E < 2 ^ 63
      → Step K 𝓛 (‵ ((Br E).own_val d (block_val d.ptr ∷ [])) ∷ Γ) G (‵ (Blk E d.heap b o (length d.items) d.room d.items) ∷ Γ) G
  block_made t d b o at fit = step (λ s.
      rewrite t 0 (λ (p : Ptr). ‵ (in_block p (owns_if (has_block d.room) (block_with_items (token E.al d.heap) (R E) p (length d.items) d.room d.items)))) (sym at) refl $
      flt_i t (d.room * sz E) (2 ^ 63) fit $ fjoin t $ use0 𝓛 (‵ ((Fields E).own_val (d.ptr, (tt, tt)) (block_val d.ptr ∷ []))) (made E 𝓛 d.ptr) $ fjoin t $ s)

module _ (E : El) {M : Type 1} {𝓤 : Ura M} {𝓛 : Logic 𝓤} {K : Type 0} {Γ : List (Item 𝓤)} {G : Goal 𝓤 𝓛.H} where
  -- [the memory; the field's cell; the open borrow, in three entries]
  pub block_opens : K → Soaks G → {κ : Lft} {q : Share} {γ : GName} (d : (Br E).Denot) (rb ro : ℕ)
      → ((b o : ℕ) → d.ptr ≡ block_ptr b o → d.room * sz E < 2 ^ 63
      → Seq K 𝓛 (‵ (Blk E d.heap b o (length d.items) d.room d.items) ∷ ‵ (cell_at full_share (Br E).mir (block_val (block_ptr b o) ∷ []) rb ro) ∷ ‵ (fobor κ q (Body (mem (Br E)) rb ro γ)) ∷ ‵ (fobs γ ((Br E).coded.code d)) ∷ ‵ (fauth γ ((Br E).coded.code d)) ∷ Γ) G)
      → Seq K 𝓛 (‵ (fobs γ ((Br E).coded.code d)) ∷ ‵ (fbor κ (Body (mem (Br E)) rb ro γ)) ∷ ‵ (flft κ q) ∷ Γ) G
  block_opens t z d rb ro k =
      opens t z (Br E) {h = d} rb ro (λ vs. move t (1 ∷ []) $ block_had E t d vs (λ b o at is fit.
      rewrite t 1 (λ (ws : List Val). ‵ (cell_at full_share (Br E).mir ws rb ro)) (is ∙ ap (λ (p : Ptr). block_val p ∷ []) at) refl $ k b o at fit))

  pub block_closes : K → Soaks G → {κ : Lft} {q : Share} {u v : Gv} {γ : GName} (d : (Br E).Denot) (b o rb ro : ℕ) → d.ptr ≡ block_ptr b o → d.room * sz E < 2 ^ 63
      → Step K 𝓛 (‵ (fobs γ ((Br E).coded.code d)) ∷ ‵ (fbor κ (Body (mem (Br E)) rb ro γ)) ∷ ‵ (flft κ q) ∷ Γ) G (‵ (Blk E d.heap b o (length d.items) d.room d.items) ∷ ‵ (cell_at full_share (Br E).mir (block_val (block_ptr b o) ∷ []) rb ro) ∷ ‵ (fobor κ q (Body (mem (Br E)) rb ro γ)) ∷ ‵ (fobs γ u) ∷ ‵ (fauth γ v) ∷ Γ) G
  block_closes t z d b o rb ro at fit = step (λ s.
      block_made E t d b o at fit $ rewrite t 1 (λ (ws : List Val). ‵ (cell_at full_share (Br E).mir ws rb ro)) (ap (λ (p : Ptr). block_val p ∷ []) (sym at)) refl $
      move t (1 ∷ 0 ∷ []) $ closes t z (Br E) d (block_val d.ptr ∷ []) rb ro $ s)
