-- Keys tell entries apart.
use Rattle.std.proofs.Common.{◌≡◌, ℕ, ◌==◌, List, [], ◌∷◌, ◌++◌, drop, get_or, refl, ap, ap₂, ◌∙◌, sym, if◌then◌else◌, arith}
use Rattle.std.specs.Prelude.{pos, negsuc}
use Rattle.std.proofs.lemmas.List.{append_assoc, append-nil}
use Rattle.s80_base.specs.Literal.{LiteralTree, LiteralTrees, small, character, str, symbol, array, true_literal, false_literal, nil_literal, number, no_literals, literals}
use Rattle.s80_base.specs.declared.literal.NumberKind.{NumberKind}
use Rattle.s80_base.specs.declared.literal.NumberKind.TheVariants.{LargePositive, LargeNegative, Float}
use Rattle.s80_scope.specs.FitLiterals.{Entry, constant, variable, label, ended, literal_key, literals_key, key}

ended_same : (a b r s : List ℕ) → ended a ++ r ≡ ended b ++ s → (a ≡ b) × (r ≡ s)
ended_same [] [] r s e = (refl, ap (drop 1) e)
ended_same [] (b ∷ bs) r s e = absurd (let f : ⊥ = omega (arith, ap (λ l. get_or l 0 0) e) in f)
ended_same (a ∷ more) [] r s e = absurd (let f : ⊥ = omega (arith, ap (λ l. get_or l 0 0) e) in f)
ended_same (a ∷ more) (b ∷ bs) r s e =
    let rest = ended_same more bs r s (ap (drop 1) e) in
    let first : a ≡ b = omega (arith, ap (λ l. get_or l 0 0) e) in
    (ap₂ (λ x xs. x ∷ xs) first rest.0, rest.1)

-- a literal from its label and its elements
abbrev kind_at : ℕ → NumberKind
kind_at k = if k == 0 then LargePositive else (if k == 1 then LargeNegative else Float)

abbrev back_from : ℕ → List ℕ → LiteralTrees → LiteralTree
back_from k rest vs =
    if k == 0 then small (pos (get_or rest 0 0))
    else (if k == 1 then small (negsuc (get_or rest 0 0))
    else (if k == 2 then character (get_or rest 0 0)
    else (if k == 3 then str rest
    else (if k == 4 then symbol rest
    else (if k == 5 then array vs
    else (if k == 6 then true_literal
    else (if k == 7 then false_literal
    else (if k == 8 then nil_literal
    else number (kind_at (get_or rest 0 0)) (drop 1 rest)))))))))

abbrev back : List ℕ → LiteralTrees → LiteralTree
back [] vs = nil_literal
back (k ∷ rest) vs = back_from k rest vs

abbrev elements : LiteralTree → LiteralTrees
elements (array vs) = vs
elements _ = no_literals

back_is : (v : LiteralTree) → back (label v) (elements v) ≡ v
back_is (small (pos n)) = refl
back_is (small (negsuc n)) = refl
back_is (character c) = refl
back_is (str bytes) = refl
back_is (symbol bytes) = refl
back_is (array vs) = refl
back_is true_literal = refl
back_is false_literal = refl
back_is nil_literal = refl
back_is (number LargePositive bytes) = refl
back_is (number LargeNegative bytes) = refl
back_is (number Float bytes) = refl

key_is : (v : LiteralTree) → literal_key v ≡ ended (label v) ++ literals_key (elements v)
key_is (small n) = refl
key_is (character c) = refl
key_is (str bytes) = refl
key_is (symbol bytes) = refl
key_is (array vs) = refl
key_is true_literal = refl
key_is false_literal = refl
key_is nil_literal = refl
key_is (number kind bytes) = refl

-- from the labels, and what follows from equal keys of the elements
by_parts : (v w : LiteralTree) (r s : List ℕ) → (literals_key (elements v) ++ r ≡ literals_key (elements w) ++ s → (elements v ≡ elements w) × (r ≡ s))
    → literal_key v ++ r ≡ literal_key w ++ s → (v ≡ w) × (r ≡ s)
by_parts v w r s inner e =
    let labels = ended_same (label v) (label w) (literals_key (elements v) ++ r) (literals_key (elements w) ++ s)
    (sym (append_assoc (ended (label v)) (literals_key (elements v)) r) ∙ ap (λ k. k ++ r) (sym (key_is v)) ∙ e ∙ ap (λ k. k ++ s) (key_is w) ∙ append_assoc (ended (label w)) (literals_key (elements w)) s) in
    let parts = inner labels.1 in
    (sym (back_is v) ∙ ap₂ back labels.0 parts.0 ∙ back_is w, parts.1)

none_same : (ws : LiteralTrees) (r s : List ℕ) → literals_key no_literals ++ r ≡ literals_key ws ++ s → (no_literals ≡ ws) × (r ≡ s)
none_same no_literals r s e = (refl, ap (drop 1) e)
none_same (literals w ws) r s e = absurd (let f : ⊥ = omega (arith, ap (λ l. get_or l 0 0) e) in f)

mutual
  literal_same : (v w : LiteralTree) (r s : List ℕ) → literal_key v ++ r ≡ literal_key w ++ s → (v ≡ w) × (r ≡ s)
  literal_same (array vs) w r s e = by_parts (array vs) w r s (λ f. literals_same vs (elements w) r s f) e
  literal_same (small n) w r s e = by_parts (small n) w r s (none_same (elements w) r s) e
  literal_same (character c) w r s e = by_parts (character c) w r s (none_same (elements w) r s) e
  literal_same (str bytes) w r s e = by_parts (str bytes) w r s (none_same (elements w) r s) e
  literal_same (symbol bytes) w r s e = by_parts (symbol bytes) w r s (none_same (elements w) r s) e
  literal_same true_literal w r s e = by_parts true_literal w r s (none_same (elements w) r s) e
  literal_same false_literal w r s e = by_parts false_literal w r s (none_same (elements w) r s) e
  literal_same nil_literal w r s e = by_parts nil_literal w r s (none_same (elements w) r s) e
  literal_same (number kind bytes) w r s e = by_parts (number kind bytes) w r s (none_same (elements w) r s) e

  literals_same : (vs ws : LiteralTrees) (r s : List ℕ) → literals_key vs ++ r ≡ literals_key ws ++ s → (vs ≡ ws) × (r ≡ s)
  literals_same no_literals ws r s e = none_same ws r s e
  literals_same (literals v vs) no_literals r s e = absurd (let f : ⊥ = omega (arith, ap (λ l. get_or l 0 0) e) in f)
  literals_same (literals v vs) (literals w ws) r s e =
      let first = literal_same v w (literals_key vs ++ r) (literals_key ws ++ s)
      (sym (append_assoc (literal_key v) (literals_key vs) r) ∙ ap (drop 1) e ∙ append_assoc (literal_key w) (literals_key ws) s) in
      let rest = literals_same vs ws r s first.1 in
      (ap₂ literals first.0 rest.0, rest.1)

pub entry_same : (a b : Entry) → key a ≡ key b → a ≡ b
entry_same (constant v) (constant w) e =
    ap constant (literal_same v w [] [] (append-nil (literal_key v) ∙ ap (drop 1) e ∙ sym (append-nil (literal_key w)))).0
entry_same (constant v) (variable b) e = absurd (let f : ⊥ = omega (arith, ap (λ l. get_or l 0 0) e) in f)
entry_same (variable a) (constant w) e = absurd (let f : ⊥ = omega (arith, ap (λ l. get_or l 0 0) e) in f)
entry_same (variable a) (variable b) e = ap variable (ap (drop 1) e)
