-- A run of a block's items, apart from the rest of what the block owns, and the block again once the run comes back. Assumes `Logic`.
use Rattle.std.proofs.Common.{◌≡◌, ℕ, zero, suc, ◌+◌, ◌-◌, ◌*◌, ◌^◌, ◌<◌, ◌≤◌, Bool, true, false, not, T, List, [], ◌∷◌, ◌++◌, length, take, drop, length-append, take-append-drop, zero-mul, suc-mul, refl, sym, ap, ◌∙◌, arith}
use Rattle.std.proofs.lemmas.List.{length-drop, length-take-le}
use seplogic.Ra.Ura.{Ura}
use base.Fraction.{full_share}
use base.Fml.{Fml, fsep, froom}
use base.Logic.{ent, sep, emp, id⊢}
use mir.Raw.{raw as bare}
use mir.Syntax.{ty_array}
use mir.Val.{Val}
use prog.Capped.{capped_is}
use prog.Memory.{capped}
use types.Logic.{Logic, sem}
use types.Kit.{‵, ◌⊛◌, given, ◌$◌, ◌∵◌, !, qed, move, drop as let_go, use0, use1, use2, split, learn, rewrite, fsplit, fsplit3, fjoin, fpack, done}
use types.SemTy.{cells}
use denote.Array.{Array}
use denote.Index.{row, place, place_is, whole_in, whole_out}
use denote.Memory.{cell_at, mem, part_at, part_of}
use denote.RawPtr.{block_ptr}
use Rattle.std.specs.Vec.Ownership.{owns_if, has_block}
use Rattle.std.specs.Allocator.{block_with_items}
use Rattle.std.proofs.alloc.Calls.{token}
use Rattle.std.proofs.VecSteps.El.{El, R, elτ, sz}
use Rattle.std.proofs.VecSteps.Gaps.{all_new}
use Rattle.std.proofs.VecSteps.Rows.{apart, whole, row_cut, row_glue}
use Rattle.s80_frames.specs.BlockLending.{written_from, with_written_from}
use Rattle.s80_frames.proofs.BlockSteps.{Br, block_val, block_made}

-- where the product fits a word, there are no items or their size fits too
pub uncapped : (i k : ℕ) → i * k < 2 ^ 64 → i * capped k ≡ i * k
uncapped zero k fits = zero-mul (capped k) ∙ sym (zero-mul k)
uncapped (suc i) k fits = let step = suc-mul i k in ap (λ (j : ℕ). suc i * j) (capped_is k (omega arith))

module _ (E : El) {M : Type 1} {𝓤 : Ura M} (𝓛 : Logic 𝓤) (d : (Br E).Denot) (i j : ℕ) (ordered : i ≤ j) (inside : j ≤ length d.items) (b o : ℕ) where
  abbrev X : Type 0
  X = E.row.Denot

  abbrev xs : List X
  xs = d.items

  abbrev n : ℕ
  n = length xs

  abbrev m : ℕ
  m = j - i

  abbrev s : ℕ
  s = sz E

  -- where the run begins
  abbrev pub p : ℕ
  p = i * s + o

  abbrev front : List X
  front = take i xs

  abbrev pub run : List X
  run = take m (drop i xs)

  abbrev tail : List X
  tail = drop m (drop i xs)

  front_long : length front ≡ i
  front_long = length-take-le i xs (omega arith)

  pub run_long : length run ≡ m
  run_long = let cut = length-drop i xs in length-take-le m (drop i xs) (omega arith)

  -- the room behind the items and the right to free the block, where there is one
  abbrev Spare : Bool → Fml
  Spare y = owns_if y (fsep (froom (bare (ty_array (elτ E) (d.room - n))) b (o + n * s)) (token E.al d.heap (bare (ty_array (elτ E) d.room)) (block_ptr b o)))

  abbrev pub Whole : Bool → List X → Fml
  Whole y ys = owns_if y (block_with_items (token E.al d.heap) (R E) (block_ptr b o) n d.room ys)

  nothing_lies : (ys : List X) → length ys ≡ 0 → ent 𝓤 (emp 𝓤) (sem 𝓛 (row (R E) full_share ys b o))
  nothing_lies [] e = id⊢ 𝓤 (emp 𝓤)
  nothing_lies (y ∷ ys) e = absurd (omega arith)

  out : (y : Bool) → (T (not y) → n ≡ 0) → ent 𝓤 (sem 𝓛 (Whole y xs)) (sep 𝓤 (sem 𝓛 (row (R E) full_share xs b o)) (sem 𝓛 (Spare y)))
  out true none = qed 𝓛 (‵ (Whole true xs) ∷ []) ∵ fsplit ! $ use1 𝓛 (given (length xs ≡ n) (‵ (row (R E) full_share xs b o))) (apart E 𝓛 full_share n xs b o) $ learn ! (λ _. done !)
  out false none = qed 𝓛 (‵ (Whole false xs) ∷ []) ∵ use0 𝓛 (‵ (row (R E) full_share xs b o)) (nothing_lies xs (none tt)) $ done !

  back_in : (y : Bool) (ys : List X) → length ys ≡ n → ent 𝓤 (sep 𝓤 (sem 𝓛 (row (R E) full_share ys b o)) (sem 𝓛 (Spare y))) (sem 𝓛 (Whole y ys))
  back_in true ys long = qed 𝓛 (‵ (row (R E) full_share ys b o) ∷ ‵ (Spare true) ∷ []) ∵ use1 𝓛 (‵ (part_at (Array (R E) n) full_share ys b o)) (whole E 𝓛 full_share n ys b o long) $ done !
  back_in false ys long = qed 𝓛 (‵ (row (R E) full_share ys b o) ∷ ‵ (Spare false) ∷ []) ∵ let_go ! $ done !

  begins : place s o (length front) ≡ p
  begins = ap (place s o) front_long ∙ place_is s o i

  -- the items beside the run, the spare room, and the cell of the block's field
  abbrev pub Rest : ℕ → ℕ → Fml
  Rest rb ro = fsep (row (R E) full_share front b o) (fsep (row (R E) full_share tail b (place s p m)) (fsep (Spare (has_block d.room)) (cell_at full_share (Br E).mir (block_val (block_ptr b o) ∷ []) rb ro)))

  pub parted : (rb ro : ℕ) → (T (not (has_block d.room)) → n ≡ 0)
      → ent 𝓤 (sep 𝓤 (sem 𝓛 (Whole (has_block d.room) xs)) (sem 𝓛 (cell_at full_share (Br E).mir (block_val (block_ptr b o) ∷ []) rb ro))) (sep 𝓤 (sem 𝓛 (cells (mem (R E)) run b p)) (sem 𝓛 (Rest rb ro)))
  parted rb ro none =
      qed 𝓛 (‵ (Whole (has_block d.room) xs) ∷ ‵ (cell_at full_share (Br E).mir (block_val (block_ptr b o) ∷ []) rb ro) ∷ []) ∵
      use1 𝓛 (‵ (row (R E) full_share xs b o) ⊛ ‵ (Spare (has_block d.room))) (out (has_block d.room) none) $ split ! $
      rewrite ! 0 (λ (ys : List X). ‵ (row (R E) full_share ys b o)) (sym (take-append-drop i xs)) refl $
      use1 𝓛 (‵ (row (R E) full_share front b o) ⊛ ‵ (row (R E) full_share (drop i xs) b (place s o (length front)))) (row_cut E 𝓛 full_share front (drop i xs) b o) $ split ! $ move ! (1 ∷ []) $
      rewrite ! 0 (λ (k : ℕ). ‵ (row (R E) full_share (drop i xs) b k)) begins refl $ rewrite ! 0 (λ (ys : List X). ‵ (row (R E) full_share ys b p)) (sym (take-append-drop m (drop i xs))) refl $
      use1 𝓛 (‵ (row (R E) full_share run b p) ⊛ ‵ (row (R E) full_share tail b (place s p (length run)))) (row_cut E 𝓛 full_share run tail b p) $ split ! $
      rewrite ! 1 (λ (k : ℕ). ‵ (row (R E) full_share tail b (place s p k))) run_long refl $ use1 𝓛 (‵ (cells (mem (R E)) run b p)) (whole_in 𝓛 (R E) run b p) $
      -- [the run; those behind it; those before it; the spare; the cell]
      move ! (3 ∷ 4 ∷ []) $ fjoin ! $ move ! (2 ∷ 0 ∷ []) $ fjoin ! $ move ! (2 ∷ 0 ∷ []) $ fjoin ! $ move ! (1 ∷ 0 ∷ []) $ done !

  pub returned : (rb ro : ℕ) → d.ptr ≡ block_ptr b o → d.room * s < 2 ^ 63 → (ws : List X) → length ws ≡ length run
      → ent 𝓤 (sep 𝓤 (sem 𝓛 (cells (mem (R E)) ws b p)) (sem 𝓛 (Rest rb ro))) (sem 𝓛 ((mem (Br E)).own_at (with_written_from d i ws) rb ro))
  unfolding part_of
  returned rb ro at fit ws same =
      let long : length ws ≡ m = same ∙ run_long in
      let last : List X = drop (length ws) (drop i xs) in
      let ys : List X = front ++ (ws ++ last) in
      let whole_long : length ys ≡ n = (let f = front_long in let r = run_long in let a₁ = length-append front (ws ++ last) in let a₂ = length-append ws last in let d₁ = length-drop (length ws) (drop i xs) in let d₂ = length-drop i xs in omega arith) in
      let new : (Br E).Denot = with_written_from d i ws in
      let is : written_from xs i ws ≡ ys = all_new n xs ys whole_long in
      qed 𝓛 (‵ (cells (mem (R E)) ws b p) ∷ ‵ (Rest rb ro) ∷ []) ∵ use1 𝓛 (‵ (row (R E) full_share ws b p)) (whole_out 𝓛 (R E) ws b p) $ move ! (1 ∷ []) $ fsplit3 ! $ move ! (2 ∷ []) $ fsplit ! $
      -- [the spare; the cell; those before it; those behind it; the run]
      rewrite ! 3 (λ (k : ℕ). ‵ (row (R E) full_share (drop k (drop i xs)) b (place s p k))) (sym long) refl $ move ! (4 ∷ 3 ∷ []) $
      use2 𝓛 (‵ (row (R E) full_share (ws ++ last) b p)) (row_glue E 𝓛 full_share ws last b p) $ rewrite ! 0 (λ (k : ℕ). ‵ (row (R E) full_share (ws ++ last) b k)) (sym begins) refl $ move ! (3 ∷ 0 ∷ []) $
      use2 𝓛 (‵ (row (R E) full_share ys b o)) (row_glue E 𝓛 full_share front (ws ++ last) b o) $
      use2 𝓛 (‵ (Whole (has_block d.room) ys)) (back_in (has_block d.room) ys whole_long) $
      rewrite ! 0 (λ (k : ℕ). ‵ (owns_if (has_block d.room) (block_with_items (token E.al d.heap) (R E) (block_ptr b o) k d.room ys))) (sym whole_long) refl $
      rewrite ! 0 (λ (zs : List X). ‵ (owns_if (has_block d.room) (block_with_items (token E.al d.heap) (R E) (block_ptr b o) (length zs) d.room zs))) (sym is) refl $
      block_made E ! new b o at fit $ rewrite ! 1 (λ (vs : List Val). ‵ (cell_at full_share (Br E).mir vs rb ro)) (ap (λ q. block_val q ∷ []) (sym at)) refl $ move ! (1 ∷ 0 ∷ []) $ fjoin ! $
      fpack ! (List Val) (λ us. fsep (cell_at full_share (Br E).mir us rb ro) ((Br E).own_val new us)) (block_val d.ptr ∷ []) $ done !
