-- Runs of bytes that pass.
use Rattle.std.proofs.Common.{◌≡◌, ℕ, ◌+◌, ◌≤◌, List, [], ◌∷◌, ◌++◌, Bool, true, false, cond, take, length, refl, ap, sym, ◌∙◌, subst, arith, one-add}
use Rattle.std.specs.List.{prefix_len}
use Rattle.s80_lex.specs.Spelling.{Passes}

-- the longest run passes
run_step : (p : ℕ → Bool) (x : ℕ) (xs : List ℕ) (b : Bool) → p x ≡ b → Passes p (take (prefix_len p xs) xs) → Passes p (take (cond b (1 + prefix_len p xs) 0) (x ∷ xs))
run_step p x xs true e h = let P : ℕ → Type 0 = λ n. Passes p (take n (x ∷ xs)) in subst P (sym (one-add (prefix_len p xs))) (e, h)
run_step p x xs false e h = tt

pub run_passes : (p : ℕ → Bool) (xs : List ℕ) → Passes p (take (prefix_len p xs) xs)
run_passes p [] = tt
run_passes p (x ∷ xs) = run_step p x xs (p x) refl (run_passes p xs)

-- no run is longer
pub run_longest : (p : ℕ → Bool) (word rest : List ℕ) → Passes p word → length word ≤ prefix_len p (word ++ rest)
run_longest p [] rest h = omega arith
run_longest p (x ∷ word) rest h =
    let shorter : length word ≤ prefix_len p (word ++ rest) = run_longest p word rest h.1 in
    let step : prefix_len p (x ∷ word ++ rest) ≡ 1 + prefix_len p (word ++ rest) = ap (λ b. cond b (1 + prefix_len p (word ++ rest)) 0) h.0 in
    omega arith

-- a run ends where a byte doesn't pass
pub run_ends : (p : ℕ → Bool) (word : List ℕ) (b : ℕ) (rest : List ℕ) → Passes p word → p b ≡ false → prefix_len p (word ++ b ∷ rest) ≡ length word
run_ends p [] b rest h e = ap (λ t. cond t (1 + prefix_len p rest) 0) e
run_ends p (x ∷ word) b rest h e =
    ap (λ t. cond t (1 + prefix_len p (word ++ b ∷ rest)) 0) h.0 ∙ ap (λ n. 1 + n) (run_ends p word b rest h.1 e) ∙ one-add (length word)
