-- What stands behind the separators at a text's beginning.
use Rattle.std.proofs.Common.{◌≡◌, ◌≢◌, inl, inr, ℕ, ◌+◌, suc, List, [], ◌∷◌, length, drop, Bool, true, false, refl, subst, arith}
use Rattle.std.specs.Prelude.{cond}
use Rattle.std.specs.List.{prefix_len}
use Rattle.std.proofs.lemmas.Bool.Decides.{leb_tells}
use Rattle.s80_base.specs.Byte.{is_separator}
use Rattle.s80_chunk.specs.declared.item.Role.TheVariants.{Plain}
use Rattle.s80_chunk.specs.Chunks.{item_of, longest, IsChunkText}
use Rattle.s80_model.specs.declared.item.SessionItem.TheVariants.{Chunk}
use Rattle.s80_session.specs.Working.{IsReadable}
use Rattle.s80_program.specs.Command.{behind_separators}

behind_first : (separates : Bool) (b : ℕ) (bs : List ℕ) → is_separator b ≡ separates → (behind_separators bs ≢ [] → IsChunkText (behind_separators bs))
    → drop (cond separates (1 + prefix_len is_separator bs) 0) (b ∷ bs) ≢ [] → IsChunkText (drop (cond separates (1 + prefix_len is_separator bs) 0) (b ∷ bs))
behind_first true b bs is rest =
    let P : ℕ → Type 0 = λ n. drop n (b ∷ bs) ≢ [] → IsChunkText (drop n (b ∷ bs)) in
    let one_more : suc (prefix_len is_separator bs) ≡ 1 + prefix_len is_separator bs = omega arith in
    subst P one_more rest
behind_first false b bs is rest = λ some h. cc (is, h)

-- if it is something, it is the text of a chunk
pub is_chunk_text : (text : List ℕ) → behind_separators text ≢ [] → IsChunkText (behind_separators text)
is_chunk_text [] some = some refl
is_chunk_text (b ∷ bs) some = behind_first (is_separator b) b bs refl (is_chunk_text bs) some

-- whose item is as a reader gives it, but that it may begin with a mark
pub readable_plain : (text : List ℕ) → IsChunkText text → IsReadable (Chunk (item_of Plain text))
readable_plain text is =
    elim (leb_tells (length text) longest) [
      | inl h ↦ rw h.0 (is, h.1)
      | inr h ↦ rw h.0 h.1
    ]
