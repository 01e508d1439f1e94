-- The blocks of a list of changes are read as its items.
use Rattle.std.proofs.Common.{◌≡◌, ℕ, true, false, All, List, [], ◌∷◌, ◌++◌, refl, sym, ap, subst, ◌∙◌, append_assoc, arith}
use Rattle.std.proofs.lemmas.List.{append-nil}
use Rattle.std.proofs.lemmas.List.Elements.{All-head, All-tail}
use Rattle.s80_chunk.specs.declared.item.Item.{Item}
use Rattle.s80_chunk.specs.declared.item.Item.TheVariants as items
use Rattle.s80_chunk.specs.declared.item.Role.TheVariants as roles
use Rattle.s80_chunk.specs.Chunks.{mark, chunk, IsBlank, IsChunkText, IsPlainText, IsText, HoldsNone, IsReading, section_after}
use Rattle.s80_chunk.specs.Chunks.Reads.{stop}
use Rattle.s80_chunk.proofs.Again.{again, end_again, not_empty, plain_text}
use Rattle.s80_chunk.proofs.Lines.{blank_holds_none}
use Rattle.s80_form.specs.Form.{form_text}
use Rattle.s80_change.specs.declared.change.Change.{Change}
use Rattle.s80_change.specs.declared.change.Change.TheVariants.{Form, Method, DoIt}
use Rattle.s80_change.specs.declared.change.Method.{Method as MethodChange}
use Rattle.s80_change.specs.Block.{block, blocks, head_of}
use Rattle.s80_change.specs.Head.{head_text}
use Rattle.s80_fileout.proofs.FileRead.{one_more, AreRead, IsReadable, IsReadableMethod}

-- the items of changes, each method in a section of its own
abbrev pub log_items : List Change → List Item
log_items [] = []
log_items (Form form ∷ changes) = items.Plain (form_text form) ∷ log_items changes
log_items (Method m ∷ changes) = items.Head (head_text (head_of m)) ∷ items.Method m.source.text ∷ items.SectionEnd ∷ log_items changes
log_items (DoIt text ∷ changes) = items.Plain text ∷ log_items changes

as_head : (text : List ℕ) → IsChunkText text → IsText roles.Head text
as_head [] h = absurd h
as_head (b ∷ text) h = h

as_method : (text : List ℕ) → IsChunkText text → IsText roles.Method text
as_method [] h = absurd h
as_method (b ∷ text) h = h

-- ---- a block behind separators, where the bytes behind its last line feed are read on from there

module _ (lead tail : List ℕ) (others : List Item) (blank : IsBlank lead) (more : AreRead false (10 ∷ tail) others) where
  plain_read : (text : List ℕ) → IsPlainText text → AreRead false (lead ++ ((chunk text ++ 10 ∷ []) ++ tail)) (items.Plain text ∷ others)
  plain_read text h =
      let parts : lead ++ ((chunk text ++ 10 ∷ []) ++ tail) ≡ (lead ++ chunk text) ++ 10 ∷ tail = ap (λ l. lead ++ l) (append_assoc (chunk text) (10 ∷ []) tail) ∙ sym (append_assoc lead (chunk text) (10 ∷ tail)) in
      one_more false _ (lead ++ chunk text) (10 ∷ tail) (items.Plain text) others (again roles.Plain lead text blank (plain_text text h.0 h.1) (not_empty text h.0) h.2) (λ e. omega arith) parts more

  module _ (m : MethodChange) (h : IsReadableMethod m) where
    -- the end of its section, with what follows
    abbrev ended : List ℕ
    ended = 32 ∷ mark ∷ 10 ∷ tail

    end_read : AreRead true ended (items.SectionEnd ∷ others)
    end_read = one_more true ended (32 ∷ mark ∷ []) (10 ∷ tail) items.SectionEnd others (end_again (32 ∷ []) (refl, tt)) (λ e. omega arith) refl more

    -- its source, behind the line feed of the head
    source_read : AreRead true (10 ∷ (chunk m.source.text ++ ended)) (items.Method m.source.text ∷ items.SectionEnd ∷ others)
    source_read =
        let source = m.source.text in
        one_more true _ ((10 ∷ []) ++ chunk source) ended (items.Method source) (items.SectionEnd ∷ others) (again roles.Method (10 ∷ []) source (refl, tt) (as_method source h.source) (not_empty source h.source) h.short) (λ e. omega arith) refl end_read

    head_read : AreRead false (lead ++ (mark ∷ (chunk (head_text (head_of m)) ++ 10 ∷ (chunk m.source.text ++ ended)))) (items.Head (head_text (head_of m)) ∷ items.Method m.source.text ∷ items.SectionEnd ∷ others)
    head_read =
        let head = head_text (head_of m) in
        let after : List ℕ = 10 ∷ (chunk m.source.text ++ ended) in
        let first : List ℕ = lead ++ mark ∷ [] in
        let parts : lead ++ (mark ∷ (chunk head ++ after)) ≡ (first ++ chunk head) ++ after = sym (append_assoc first (chunk head) after ∙ append_assoc lead (mark ∷ []) (chunk head ++ after)) in
        one_more false _ (first ++ chunk head) after (items.Head head) (items.Method m.source.text ∷ items.SectionEnd ∷ others) (again roles.Head first head (lead, [], blank, tt, refl) (as_head head h.head) (not_empty head h.head) h.short_head) (λ e. omega arith) parts source_read

    regrouped : block (Method m) ++ tail ≡ mark ∷ (chunk (head_text (head_of m)) ++ 10 ∷ (chunk m.source.text ++ ended))
    regrouped =
        let source = chunk m.source.text in
        let head = chunk (head_text (head_of m)) in
        let closing : List ℕ = 32 ∷ mark ∷ 10 ∷ [] in
        ap (λ l. mark ∷ l) (append_assoc head (10 ∷ (source ++ closing)) tail ∙ ap (λ l. head ++ 10 ∷ l) (append_assoc source closing tail))

    method_read : AreRead false (lead ++ (block (Method m) ++ tail)) (items.Head (head_text (head_of m)) ∷ items.Method m.source.text ∷ items.SectionEnd ∷ others)
    method_read =
        let P : List ℕ → Type 0 = λ l. AreRead false (lead ++ l) (items.Head (head_text (head_of m)) ∷ items.Method m.source.text ∷ items.SectionEnd ∷ others) in
        subst P (sym regrouped) head_read

-- ---- blocks

blocks_read : (lead : List ℕ) → IsBlank lead → (changes : List Change) → All IsReadable changes → AreRead false (lead ++ blocks changes) (log_items changes)
blocks_read lead blank [] h = (lead, stop (append-nil lead) refl, blank)
blocks_read lead blank (Form form ∷ changes) h =
    plain_read lead (blocks changes) (log_items changes) blank (blocks_read (10 ∷ []) (refl, tt) changes (All-tail IsReadable (Form form) changes h)) (form_text form) (All-head IsReadable (Form form) changes h)
blocks_read lead blank (Method m ∷ changes) h =
    method_read lead (blocks changes) (log_items changes) blank (blocks_read (10 ∷ []) (refl, tt) changes (All-tail IsReadable (Method m) changes h)) m (All-head IsReadable (Method m) changes h)
blocks_read lead blank (DoIt text ∷ changes) h =
    plain_read lead (blocks changes) (log_items changes) blank (blocks_read (10 ∷ []) (refl, tt) changes (All-tail IsReadable (DoIt text) changes h)) text (All-head IsReadable (DoIt text) changes h)

-- behind them no section is open
ends_at_top : (changes : List Change) → section_after false (log_items changes) ≡ false
ends_at_top [] = refl
ends_at_top (Form form ∷ changes) = ends_at_top changes
ends_at_top (Method m ∷ changes) = ends_at_top changes
ends_at_top (DoIt text ∷ changes) = ends_at_top changes

pub log_reading : (changes : List Change) → All IsReadable changes → (rest : List ℕ) × IsReading (blocks changes) (log_items changes) rest
log_reading changes h =
    let read = blocks_read [] tt changes h in
    (read.0, record { reads = read.1; stops = subst (λ b. HoldsNone true b read.0) (sym (ends_at_top changes)) (blank_holds_none read.0 read.2) })
