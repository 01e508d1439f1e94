-- The points of a chain: each is a place, no two are at one place, and a look-up finds each.
use Rattle.std.proofs.Common.{◌≡◌, ◌∙◌, ap, sym, subst, refl, ℕ, ◌<◌, ◌≤◌, ◌==◌, inl, inr, Bool, true, false, ◌&&◌, cond, List, [], ◌∷◌, Option, Some, None, arith}
use Rattle.std.proofs.lemmas.Bool.Decides.{nat_tests}
use Rattle.s80_code.proofs.lemmas.TableLemmas.{value}
use Rattle.s80_verify.specs.declared.stack.Stack.{Stack}
use Rattle.s80_verify.specs.declared.stack.Stack.TheVariants.{OfHome, OfBlock}
use Rattle.s80_verify.specs.Reach.{IsPlace}
use Rattle.s80_verify.proofs.lemmas.PlaceLemmas.{goes_forward, place_behind}
use Rattle.s80_compile.proofs.Points.{Point, In, Chain, Meets}

-- ---- along a chain

pub not_before : (bytes : List ℕ) (p q : ℕ) (points : List Point) (point : Point) → Chain bytes p q points → In points point → p ≤ point.at
not_before bytes p q [] point chain has = absurd has
not_before bytes p q (first ∷ rest) point chain (inl is) = omega (arith, chain.0, ap (λ x. x.at) is)
not_before bytes p q (first ∷ rest) point chain (inr later) =
    let c = chain.1 in
    omega (arith, chain.0, goes_forward bytes first.at first.instruction first.next c.0, not_before bytes first.next q rest point c.1 later)

pub after_first : (bytes : List ℕ) (p q : ℕ) (first : Point) (rest : List Point) (point : Point) → Chain bytes p q (first ∷ rest) → In rest point → first.at < point.at
after_first bytes p q first rest point chain later =
    let c = chain.1 in
    omega (arith, goes_forward bytes first.at first.instruction first.next c.0, not_before bytes first.next q rest point c.1 later)

pub is_place : (bytes : List ℕ) (p q : ℕ) (points : List Point) (point : Point) → IsPlace bytes p → Chain bytes p q points → In points point → IsPlace bytes point.at
is_place bytes p q [] point place chain has = absurd has
is_place bytes p q (first ∷ rest) point place chain (inl is) = subst (λ (k : ℕ). IsPlace bytes k) (sym chain.0 ∙ sym (ap (λ x. x.at) is)) place
is_place bytes p q (first ∷ rest) point place chain (inr later) =
    let c = chain.1 in
    let here : IsPlace bytes first.at = subst (λ (k : ℕ). IsPlace bytes k) (sym chain.0) place in
    is_place bytes first.next q rest point (place_behind bytes first.at first.instruction first.next here c.0) c.1 later

pub one_point : (bytes : List ℕ) (p q : ℕ) (points : List Point) (a b : Point) → Chain bytes p q points → In points a → In points b → a.at ≡ b.at → a ≡ b
one_point bytes p q [] a b chain has other e = absurd has
one_point bytes p q (first ∷ rest) a b chain (inl is) (inl same) e = is ∙ sym same
one_point bytes p q (first ∷ rest) a b chain (inl is) (inr later) e =
    absurd (omega (arith, e, ap (λ x. x.at) is, after_first bytes p q first rest b chain later))
one_point bytes p q (first ∷ rest) a b chain (inr later) (inl same) e =
    absurd (omega (arith, e, ap (λ x. x.at) same, after_first bytes p q first rest a chain later))
one_point bytes p q (first ∷ rest) a b chain (inr later) (inr other) e = one_point bytes first.next q rest a b chain.1.1 later other e

-- ---- the look-up

abbrev pub same_stack : Stack → Stack → Bool
same_stack OfHome OfHome = true
same_stack OfHome OfBlock = false
same_stack OfBlock OfHome = false
same_stack OfBlock OfBlock = true

pub stack_is : (a b : Stack) → same_stack a b ≡ true → a ≡ b
stack_is OfHome OfHome e = refl
stack_is OfHome OfBlock e = cc
stack_is OfBlock OfHome e = cc
stack_is OfBlock OfBlock e = refl

pub stack_same : (a : Stack) → same_stack a a ≡ true
stack_same OfHome = refl
stack_same OfBlock = refl

-- the values at a place on a stack, by the first point there
abbrev pub depth_in : List Point → Stack → ℕ → Option ℕ
depth_in [] stack at = None
depth_in (point ∷ rest) stack at = cond (point.at == at && same_stack point.stack stack) (Some point.depth) (depth_in rest stack at)

pub later_meets : (first : Point) (rest : List Point) (at : ℕ) (stack : Stack) (depth : ℕ) → Meets rest at stack depth → Meets (first ∷ rest) at stack depth
later_meets first rest at stack depth m = record { point = m.point; has = inr m.has; here = m.here; on = m.on; deep = m.deep }

both_hold : (x y : Bool) → (x && y) ≡ true → (x ≡ true) × (y ≡ true)
both_hold true y e = (refl, e)
both_hold false y e = cc

is_number : (m n : ℕ) → (m == n) ≡ true → m ≡ n
is_number m n e = grind (arith, nat_tests)

same_number : (m n : ℕ) → m ≡ n → (m == n) ≡ true
same_number m n e = grind (arith, nat_tests)

other_number : (m n : ℕ) → m < n → (m == n) ≡ false
other_number m n e = grind (arith, nat_tests)

-- what is found is a point's
pub found_meets : (points : List Point) (stack : Stack) (at depth : ℕ) → depth_in points stack at ≡ Some depth → Meets points at stack depth
found_meets [] stack at depth e = cc
found_meets (point ∷ rest) stack at depth e =
    by_test (point.at == at && same_stack point.stack stack) refl (λ later. later_meets point rest at stack depth (found_meets rest stack at depth later)) e
  where
    by_test : (b : Bool) → (point.at == at && same_stack point.stack stack) ≡ b → (depth_in rest stack at ≡ Some depth → Meets (point ∷ rest) at stack depth)
        → cond b (Some point.depth) (depth_in rest stack at) ≡ Some depth → Meets (point ∷ rest) at stack depth
    by_test true is later e =
        let parts = both_hold (point.at == at) (same_stack point.stack stack) is in
        record { point = point; has = inl refl; here = is_number point.at at parts.0; on = stack_is point.stack stack parts.1; deep = value e }
    by_test false is later e = later e

here_found : (points : List Point) (stack : Stack) (at depth : ℕ) (point : Point) → point.at ≡ at → point.stack ≡ stack → point.depth ≡ depth
    → depth_in (point ∷ points) stack at ≡ Some depth
here_found points stack at depth point here on deep =
    ap (λ b. cond (b && same_stack point.stack stack) (Some point.depth) (depth_in points stack at)) (same_number point.at at here)
    ∙ ap (λ b. cond b (Some point.depth) (depth_in points stack at)) (ap (λ s. same_stack s stack) on ∙ stack_same stack)
    ∙ ap Some deep

-- and each point is found
pub meets_found : (bytes : List ℕ) (p q : ℕ) (points : List Point) (stack : Stack) (at depth : ℕ) → Chain bytes p q points → Meets points at stack depth
    → depth_in points stack at ≡ Some depth
meets_found bytes p q [] stack at depth chain m = absurd m.has
meets_found bytes p q (first ∷ rest) stack at depth chain m =
    by_place m.has (meets_found bytes first.next q rest stack at depth chain.1.1)
  where
    by_place : In (first ∷ rest) m.point → (Meets rest at stack depth → depth_in rest stack at ≡ Some depth) → depth_in (first ∷ rest) stack at ≡ Some depth
    by_place (inl is) later =
        here_found rest stack at depth first (sym (ap (λ x. x.at) is) ∙ m.here) (sym (ap (λ x. x.stack) is) ∙ m.on) (sym (ap (λ x. x.depth) is) ∙ m.deep)
    by_place (inr has) later =
        ap (λ b. cond (b && same_stack first.stack stack) (Some first.depth) (depth_in rest stack at))
        (other_number first.at at (omega (arith, m.here, after_first bytes p q first rest m.point chain has)))
        ∙ later (record { point = m.point; has = has; here = m.here; on = m.on; deep = m.deep })
