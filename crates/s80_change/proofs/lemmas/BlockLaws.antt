-- Where a block ends.
use Rattle.std.proofs.Common.{◌≡◌, ℕ, List, ◌++◌, sym, ap, subst, ◌∙◌}
use Rattle.s80_change.specs.declared.change.Change.{Change}
use Rattle.s80_change.specs.declared.change.Change.TheVariants.{Form, Method, DoIt}
use Rattle.s80_change.specs.declared.change.Method.{Method as MethodChange}
use Rattle.s80_form.specs.Form.{IsFormText}
use Rattle.s80_form.proofs.lemmas.FormTexts.{has_text, text_same}
use Rattle.s80_change.specs.declared.head.SectionHead.{SectionHead}
use Rattle.s80_change.specs.Head.{head_text}
use Rattle.s80_change.specs.Check.{IsCheckOf}
use Rattle.s80_change.specs.Source.{SourceParts}
use Rattle.s80_change.proofs.HeadBeginning.{head_text_same}
use Rattle.s80_change.proofs.Checking.{check_same}
use Rattle.s80_change.specs.declared.framing.Framing.TheVariants.{Plain, Section}
use Rattle.s80_change.specs.Block.{framing_of, head_of, block, IsLawful, IsLawfulMethod}
use Rattle.s80_change.proofs.FirstFramings.{framing_unique}
use Rattle.s80_change.proofs.FirstBlocks.{lawful_is_proper}

-- a framing is that of one lawful change
pub plains_same : (t u : List ℕ) → Plain t ≡ Plain u → t ≡ u
plains_same t u e = cc

pub heads_same : (h k s t : List ℕ) → Section h s ≡ Section k t → h ≡ k
heads_same h k s t e = cc

pub sources_same : (h k s t : List ℕ) → Section h s ≡ Section k t → s ≡ t
sources_same h k s t e = cc

pub no_plain : (t h s : List ℕ) → Plain t ≡ Section h s → ⊥
no_plain t h s e = cc

source_same : (s t : SourceParts) → s.text ≡ t.text → s.selector ≡ t.selector → s ≡ t
source_same s t text selector = ap (λ x. record { text = x; selector = s.selector }) text ∙ ap (λ x. record { text = t.text; selector = x }) selector

method_same : (m n : MethodChange) → head_of m ≡ head_of n → m.source ≡ n.source → m ≡ n
method_same m n head source =
    ap (λ (h : SectionHead). record { class_name = h.class_name; side = h.side; category = h.category; source = m.source }) head
    ∙ ap (λ (s : SourceParts). record { class_name = n.class_name; side = n.side; category = n.category; source = s }) source

one_method : (m n : MethodChange) → IsLawfulMethod m → IsLawfulMethod n → head_text (head_of m) ≡ head_text (head_of n) → m.source.text ≡ n.source.text → m ≡ n
one_method m n one two head text =
    method_same m n (head_text_same (head_of m) (head_of n) one.head two.head head)
    (source_same m.source n.source text (check_same n.source.text m.source.selector n.source.selector (subst (λ s. IsCheckOf s m.source.selector) text one.check) two.check))

pub one_change : (c d : Change) → IsLawful c → IsLawful d → framing_of c ≡ framing_of d → c ≡ d
one_change (Form c) (Form d) one two e = ap Form (text_same c d one two (plains_same _ _ e))
one_change (Form c) (Method m) one two e = absurd (no_plain _ _ _ e)
one_change (Form c) (DoIt u) one two e = absurd (two.1.form c (subst (λ t. IsFormText t c) (plains_same _ _ e) (has_text c one)))
one_change (Method m) (Form d) one two e = absurd (no_plain _ _ _ (sym e))
one_change (Method m) (Method n) one two e = ap Method (one_method m n one two (heads_same _ _ _ _ e) (sources_same _ _ _ _ e))
one_change (Method m) (DoIt u) one two e = absurd (no_plain _ _ _ (sym e))
one_change (DoIt t) (Form d) one two e = absurd (one.1.form d (subst (λ u. IsFormText u d) (sym (plains_same _ _ e)) (has_text d two)))
one_change (DoIt t) (Method m) one two e = absurd (no_plain _ _ _ e)
one_change (DoIt t) (DoIt u) one two e = ap DoIt (plains_same _ _ e)

-- what follows a block is its own, and its framing
pub block_parts : (c d : Change) (after other : List ℕ) → IsLawful c → IsLawful d → block c ++ after ≡ block d ++ other → (framing_of c ≡ framing_of d) × (after ≡ other)
block_parts c d after other one two e = framing_unique (framing_of c) (framing_of d) after other (lawful_is_proper c one) (lawful_is_proper d two) e

pub block_unique : (c d : Change) (after other : List ℕ) → IsLawful c → IsLawful d → block c ++ after ≡ block d ++ other → (c ≡ d) × (after ≡ other)
block_unique c d after other one two e = let parts = block_parts c d after other one two e in (one_change c d one two parts.0, parts.1)
