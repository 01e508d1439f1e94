-- Bytes that the text of a moment lacks.
use Rattle.std.proofs.Common.{◌≡◌, ◌≢◌, ℕ, ◌+◌, ◌<◌, ◌≤◌, List, [], ◌∷◌, flat_map, refl, ap, arith}
use Rattle.std.proofs.lemmas.Bool.{ne_eqb}
use Rattle.jiff_core.specs.declared.civil.datetime.DateTime.{DateTime}
use Rattle.s80_lex.specs.Spelling.{doubled}
use Rattle.s80_fileout.specs.Moment.{civil_text}

-- none of its bytes is this one
abbrev pub Lacks : ℕ → List ℕ → Type 0
Lacks q [] = Unit {0}
Lacks q (b ∷ text) = (b ≢ q) × Lacks q text

-- so it is the same with each doubled
pub doubled_same : (q : ℕ) (text : List ℕ) → Lacks q text → flat_map (doubled q) text ≡ text
doubled_same q [] none = refl
doubled_same q (b ∷ text) none = rw (ne_eqb b q none.0) (ap (λ l. b ∷ l) (doubled_same q text none.1))

-- a moment has digits, and no byte below 45
module _ (q : ℕ) (low : q < 45) where
  digit : (n : ℕ) → 48 + n ≢ q
  digit n e = omega (arith, low, e)

  other : (b : ℕ) → 45 ≤ b → b ≢ q
  other b high e = omega (arith, low, high, e)

  pub moment_lacks : (dt : DateTime) → Lacks q (civil_text dt)
  moment_lacks dt =
      (digit _, (digit _, (digit _, (digit _, (other 45 (omega arith), (digit _, (digit _, (other 45 (omega arith), (digit _, (digit _, (other 84 (omega arith), (digit _, (digit _, (other 58 (omega arith), (digit _, (digit _, (other 58 (omega arith), (digit _, (digit _, (other 90 (omega arith), tt))))))))))))))))))))
