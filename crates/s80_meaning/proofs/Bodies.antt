-- The bodies of a list of real blocks.
use Rattle.std.proofs.Common.{◌≡◌, subst, ℕ, zero, suc, List, [], ◌∷◌, ◌++◌, Some}
use Rattle.std.specs.Prelude.{slice_get}
use Rattle.s80_meaning.specs.Tree.{RealBlock, Tree}

module _ (Is : Tree → Type 0) where
  abbrev pub BodiesAre : List RealBlock → Type 0
  BodiesAre [] = Unit {0}
  BodiesAre (b ∷ bs) = Is b.body × BodiesAre bs

  pub bodies_append : (bs cs : List RealBlock) → BodiesAre bs → BodiesAre cs → BodiesAre (bs ++ cs)
  bodies_append [] cs h j = j
  bodies_append (b ∷ bs) cs h j = (h.0, bodies_append bs cs h.1 j)

  pub body_at : (bs : List RealBlock) → BodiesAre bs → (b : ℕ) (block : RealBlock) → slice_get bs b ≡ Some block → Is block.body
  body_at [] h zero block e = cc
  body_at [] h (suc b) block e = cc
  body_at (x ∷ bs) h zero block e =
      let same : x ≡ block = cc in
      subst (λ (y : RealBlock). Is y.body) same h.0
  body_at (x ∷ bs) h (suc b) block e = body_at bs h.1 b block e
