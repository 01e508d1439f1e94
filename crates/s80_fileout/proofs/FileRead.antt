-- A file of changes is read as its items.
use Rattle.std.proofs.Common.{◌≡◌, ℕ, ◌≤◌, Bool, true, false, if◌then◌else◌, All, List, [], ◌∷◌, ◌++◌, length, Option, Some, None, refl, sym, ap, subst, ◌∙◌, append_assoc, arith}
use Rattle.std.proofs.lemmas.List.Elements.{All-head, All-tail}
use Rattle.s80_chunk.specs.declared.item.Item.{Item}
use Rattle.s80_chunk.specs.declared.item.Item.TheVariants as items
use Rattle.s80_chunk.specs.declared.item.Role.TheVariants as roles
use Rattle.s80_chunk.specs.Chunks.{mark, chunk, longest, IsBlank, IsChunkText, IsNoMark, IsPlainText, IsReadAgain, IsText, Reads, section_after}
use Rattle.s80_chunk.specs.Chunks.Reads.{stop}
use Rattle.s80_chunk.proofs.Again.{again, end_again, not_empty, plain_text}
use Rattle.s80_chunk.proofs.lemmas.Reading.{reads_then}
use Rattle.s80_form.specs.Form.{form_text}
use Rattle.s80_change.specs.declared.change.Change.{Change}
use Rattle.s80_change.specs.declared.change.Change.TheVariants.{Form, Method, DoIt}
use Rattle.s80_change.specs.declared.change.Method.{Method as MethodChange}
use Rattle.s80_change.specs.declared.head.SectionHead.{SectionHead}
use Rattle.s80_change.specs.Block.{block, head_of}
use Rattle.s80_change.specs.Head.{head_text}
use Rattle.s80_fileout.specs.FileText.{changes_from, closing, is_same_head, opening, parting}
use Rattle.s80_fileout.specs.Items.{items_from}

-- what the texts of a change have to be, so that they are read again
pub record IsReadableMethod (m : MethodChange) : Type 0 where
  pub head : IsChunkText (head_text (head_of m))
  pub short_head : length (head_text (head_of m)) ≤ longest
  pub source : IsChunkText m.source.text
  pub short : length m.source.text ≤ longest

abbrev pub IsReadable : Change → Type 0
IsReadable (Form form) = IsPlainText (form_text form)
IsReadable (Method m) = IsReadableMethod m
IsReadable (DoIt text) = IsPlainText text

-- whether a section is open
abbrev is_open : Option SectionHead → Bool
is_open None = false
is_open (Some head) = true

-- what stands in front of changes where the bytes before end in a chunk: at top level the line feed behind it
abbrev front : Option SectionHead → List ℕ
front None = 10 ∷ []
front (Some head) = []

abbrev behind : Option SectionHead → List Change → List ℕ
behind section changes = front section ++ changes_from section changes

-- ---- items

-- the bytes are read as these items, and separators are left
abbrev pub AreRead : Bool → List ℕ → List Item → Type 0
AreRead section bytes given = (rest : List ℕ) × Reads true section bytes given rest × IsBlank rest

pub one_more : (section : Bool) (bytes written after : List ℕ) (item : Item) (others : List Item) → IsReadAgain section written item → IsNoMark after → bytes ≡ written ++ after → AreRead (section_after section (item ∷ [])) after others → AreRead section bytes (item ∷ others)
one_more section bytes written after item others one no_mark parts more =
    let all = reads_then true section (written ++ after) (item ∷ []) others after more.0 (one after no_mark) more.1 in
    (more.0, subst (λ z. Reads true section z (item ∷ others) more.0) (sym parts) all, more.2)

as_head : (text : List ℕ) → IsChunkText text → IsText roles.Head text
as_head [] h = absurd h
as_head (b ∷ text) h = h

as_method : (text : List ℕ) → IsChunkText text → IsText roles.Method text
as_method [] h = absurd h
as_method (b ∷ text) h = h

-- a plain text on a line of its own
plain_line : (text tail : List ℕ) (others : List Item) → IsPlainText text → AreRead false (10 ∷ tail) others → AreRead false (10 ∷ ((chunk text ++ 10 ∷ []) ++ tail)) (items.Plain text ∷ others)
plain_line text tail others h more =
    one_more false _ ((10 ∷ []) ++ chunk text) (10 ∷ tail) (items.Plain text) others (again roles.Plain (10 ∷ []) text (refl, tt) (plain_text text h.0 h.1) (not_empty text h.0) h.2) (λ e. omega arith)
    (ap (λ l. 10 ∷ l) (append_assoc (chunk text) (10 ∷ []) tail)) more

-- the end of a section
section_ends : (tail : List ℕ) (others : List Item) → AreRead false (10 ∷ tail) others → AreRead true (closing ++ tail) (items.SectionEnd ∷ others)
section_ends tail others more = one_more true _ (32 ∷ mark ∷ []) (10 ∷ tail) items.SectionEnd others (end_again (32 ∷ []) (refl, tt)) (λ e. omega arith) refl more

-- ---- methods

module _ (m : MethodChange) (h : IsReadableMethod m) (tail : List ℕ) (no_mark : IsNoMark tail) (others : List Item) (more : AreRead true tail others) where
  -- behind separators
  source_read : (lead : List ℕ) → IsBlank lead → AreRead true (lead ++ (chunk m.source.text ++ tail)) (items.Method m.source.text ∷ others)
  source_read lead blank =
      one_more true _ (lead ++ chunk m.source.text) tail (items.Method m.source.text) others (again roles.Method lead m.source.text blank (as_method m.source.text h.source) (not_empty m.source.text h.source) h.short) no_mark
      (sym (append_assoc lead (chunk m.source.text) tail)) more

  -- in a section of its own, which begins on a line of its own
  section_begins : AreRead false (10 ∷ (opening (head_of m) ++ (chunk m.source.text ++ tail))) (items.Head (head_text (head_of m)) ∷ items.Method m.source.text ∷ others)
  section_begins =
      let head = head_text (head_of m) in
      one_more false _ ((10 ∷ mark ∷ []) ++ chunk head) (10 ∷ (chunk m.source.text ++ tail)) (items.Head head) (items.Method m.source.text ∷ others) (again roles.Head (10 ∷ mark ∷ []) head (10 ∷ [], [], (refl, tt), tt, refl) (as_head head h.head) (not_empty head h.head) h.short_head) (λ e. omega arith)
      (ap (λ l. 10 ∷ mark ∷ l) (append_assoc (chunk head) (10 ∷ []) (chunk m.source.text ++ tail))) (source_read (10 ∷ []) (refl, tt))

  -- in the open section, or behind it
  goes_on : (same : Bool) → AreRead true ((if same then parting else closing ++ opening (head_of m)) ++ (chunk m.source.text ++ tail))
      ((if same then [] else items.SectionEnd ∷ items.Head (head_text (head_of m)) ∷ []) ++ items.Method m.source.text ∷ others)
  goes_on true = source_read parting (refl, (refl, tt))
  goes_on false = section_ends (opening (head_of m) ++ (chunk m.source.text ++ tail)) (items.Head (head_text (head_of m)) ∷ items.Method m.source.text ∷ others) section_begins

-- ---- changes

section_or_closing : (same : Bool) (head : SectionHead) (rest : List ℕ) → IsNoMark ((if same then parting else closing ++ opening head) ++ rest)
section_or_closing true head rest = λ e. omega arith
section_or_closing false head rest = λ e. omega arith

tail_no_mark : (head : SectionHead) (changes : List Change) → IsNoMark (changes_from (Some head) changes)
tail_no_mark head [] = λ e. omega arith
tail_no_mark head (Method m ∷ changes) = section_or_closing (is_same_head head (head_of m)) (head_of m) (chunk m.source.text ++ changes_from (Some (head_of m)) changes)
tail_no_mark head (Form form ∷ changes) = λ e. omega arith
tail_no_mark head (DoIt text ∷ changes) = λ e. omega arith

pub changes_read : (section : Option SectionHead) (changes : List Change) → All IsReadable changes → AreRead (is_open section) (behind section changes) (items_from section changes)
changes_read None [] h = (10 ∷ [], stop refl refl, (refl, tt))
changes_read (Some head) [] h = section_ends [] [] (10 ∷ [], stop refl refl, (refl, tt))
changes_read None (Method m ∷ changes) h =
    section_begins m (All-head IsReadable (Method m) changes h) (changes_from (Some (head_of m)) changes) (tail_no_mark (head_of m) changes) (items_from (Some (head_of m)) changes) (changes_read (Some (head_of m)) changes (All-tail IsReadable (Method m) changes h))
changes_read (Some head) (Method m ∷ changes) h =
    goes_on m (All-head IsReadable (Method m) changes h) (changes_from (Some (head_of m)) changes) (tail_no_mark (head_of m) changes) (items_from (Some (head_of m)) changes) (changes_read (Some (head_of m)) changes (All-tail IsReadable (Method m) changes h)) (is_same_head head (head_of m))
changes_read None (Form form ∷ changes) h =
    plain_line (form_text form) (changes_from None changes) (items_from None changes) (All-head IsReadable (Form form) changes h) (changes_read None changes (All-tail IsReadable (Form form) changes h))
changes_read (Some head) (Form form ∷ changes) h =
    section_ends (block (Form form) ++ changes_from None changes) (items_from None (Form form ∷ changes))
    (plain_line (form_text form) (changes_from None changes) (items_from None changes) (All-head IsReadable (Form form) changes h) (changes_read None changes (All-tail IsReadable (Form form) changes h)))
changes_read None (DoIt text ∷ changes) h =
    plain_line text (changes_from None changes) (items_from None changes) (All-head IsReadable (DoIt text) changes h) (changes_read None changes (All-tail IsReadable (DoIt text) changes h))
changes_read (Some head) (DoIt text ∷ changes) h =
    section_ends (block (DoIt text) ++ changes_from None changes) (items_from None (DoIt text ∷ changes))
    (plain_line text (changes_from None changes) (items_from None changes) (All-head IsReadable (DoIt text) changes h) (changes_read None changes (All-tail IsReadable (DoIt text) changes h)))

-- behind them no section is open
behind_method : (same : Bool) (text source : List ℕ) (others : List Item) → section_after true ((if same then [] else items.SectionEnd ∷ items.Head text ∷ []) ++ items.Method source ∷ others) ≡ section_after true others
behind_method true text source others = refl
behind_method false text source others = refl

pub ends_at_top : (section : Option SectionHead) (changes : List Change) → section_after (is_open section) (items_from section changes) ≡ false
ends_at_top None [] = refl
ends_at_top (Some head) [] = refl
ends_at_top None (Method m ∷ changes) = ends_at_top (Some (head_of m)) changes
ends_at_top (Some head) (Method m ∷ changes) = behind_method (is_same_head head (head_of m)) (head_text (head_of m)) m.source.text (items_from (Some (head_of m)) changes) ∙ ends_at_top (Some (head_of m)) changes
ends_at_top None (Form form ∷ changes) = ends_at_top None changes
ends_at_top (Some head) (Form form ∷ changes) = ends_at_top None changes
ends_at_top None (DoIt text ∷ changes) = ends_at_top None changes
ends_at_top (Some head) (DoIt text ∷ changes) = ends_at_top None changes
