-- What was written line by line is read as those texts, and nothing else.
use Rattle.std.proofs.Common.{◌≡◌, ℕ, Bool, true, false, List, [], ◌∷◌, ◌++◌, refl, sym, ap, ◌∙◌, subst, append_assoc, arith}
use Rattle.std.specs.Prelude.{All}
use Rattle.std.proofs.lemmas.List.{append-nil}
use Rattle.std.proofs.lemmas.List.Elements.{All-head, All-tail}
use Rattle.s80_chunk.specs.declared.item.Role.TheVariants as roles
use Rattle.s80_chunk.specs.declared.item.Item.TheVariants as items
use Rattle.s80_chunk.specs.declared.scanner.Phase.TheVariants as phases
use Rattle.s80_chunk.specs.Chunks.{chunk, chunk_lines, plain_items, IsBlank, IsPlainText, Reads, HoldsNone, IsReading, section_after}
use Rattle.s80_chunk.specs.Chunks.Reads.{stop}
use Rattle.s80_chunk.proofs.lemmas.Reading.{reads_then}
use Rattle.s80_chunk.proofs.Again.{again, not_empty, plain_text}
use Rattle.s80_chunk.proofs.Stopping.{open_holds_none}

-- Before the first text stand separators, as the line feed of the text before.
pub lines_read : (lead : List ℕ) (texts : List (List ℕ)) → IsBlank lead → All IsPlainText texts → (rest : List ℕ) × Reads true false (lead ++ chunk_lines texts) (plain_items texts) rest × IsBlank rest
lines_read lead [] l h = (lead, stop (append-nil lead) refl, l)
lines_read lead (text ∷ texts) l h =
    let t = All-head IsPlainText text texts h in
    let others = lines_read (10 ∷ []) texts (refl, tt) (All-tail IsPlainText text texts h) in
    let after : List ℕ = 10 ∷ chunk_lines texts in
    let one = again roles.Plain lead text l (plain_text text t.0 t.1) (not_empty text t.0) t.2 after (λ e. omega arith) in
    let parts : lead ++ chunk_lines (text ∷ texts) ≡ (lead ++ chunk text) ++ after = ap (λ (z : List ℕ). lead ++ z) (append_assoc (chunk text) (10 ∷ []) (chunk_lines texts)) ∙ sym (append_assoc lead (chunk text) after) in
    let all = reads_then true false ((lead ++ chunk text) ++ after) (items.Plain text ∷ []) (plain_items texts) after others.0 one others.1 in
    (others.0, subst (λ (z : List ℕ). Reads true false z (plain_items (text ∷ texts)) others.0) (sym parts) all, others.2)

pub blank_holds_none : (rest : List ℕ) → IsBlank rest → HoldsNone true false rest
blank_holds_none rest b = open_holds_none true phases.Lead roles.Plain [] rest (b, refl) (λ e. absurd cc)

top_after : (texts : List (List ℕ)) → section_after false (plain_items texts) ≡ false
top_after [] = refl
top_after (text ∷ texts) = top_after texts

pub lines_reading : (texts : List (List ℕ)) → All IsPlainText texts → (rest : List ℕ) × IsReading (chunk_lines texts) (plain_items texts) rest × IsBlank rest
lines_reading texts h =
    let r = lines_read [] texts tt h in
    (r.0, record { reads = r.1; stops = subst (λ (b : Bool). HoldsNone true b r.0) (sym (top_after texts)) (blank_holds_none r.0 r.2) }, r.2)
