-- The one text that bytes spell.
use Rattle.std.proofs.Common.{◌≡◌, ◌≢◌, ℕ, ◌<◌, ◌≤◌, List, [], ◌∷◌, ◌++◌, length, get_or, sym, ap, ◌∙◌, arith, append-nil}
use Rattle.s80_chunk.specs.Chunks.{mark, spell}
use Rattle.s80_chunk.proofs.lemmas.Spelling.{chunk_unique, not_ended}

-- bytes spell one text at most
pub one_text : (text other : List ℕ) → spell text ≡ spell other → text ≡ other
one_text text other e = (chunk_unique text other [] [] tt tt (ap (λ l. l ++ mark ∷ []) e)).0

-- all of the bytes are the spelled text
pub spells : (bytes text rest : List ℕ) → bytes ≡ spell text ++ rest → length rest < 1 → bytes ≡ spell text
spells bytes text [] e short = e ∙ append-nil (spell text)
spells bytes text (b ∷ rest) e short = absurd (omega arith)

-- a mark stands alone behind it
pub spells_none : (bytes text rest : List ℕ) → bytes ≡ spell text ++ rest → get_or rest 0 0 ≡ mark → (2 ≤ length rest → get_or rest 1 0 ≢ mark) → (other : List ℕ) → bytes ≡ spell other → ⊥
spells_none bytes text [] e first second other is = omega (arith, first)
spells_none bytes text (a ∷ []) e first second other is = not_ended other text [] tt (sym is ∙ e ∙ ap (λ b. spell text ++ b ∷ []) first)
spells_none bytes text (a ∷ b ∷ rest) e first second other is =
    not_ended other text (b ∷ rest) (second (omega arith)) (sym is ∙ e ∙ ap (λ c. spell text ++ c ∷ b ∷ rest) first)
