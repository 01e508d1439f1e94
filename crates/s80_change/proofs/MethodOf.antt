-- What a section is the section of.
use Rattle.std.proofs.Common.{◌≡◌, ◌≤◌, ℕ, List, length, sym, ap, subst, ◌∙◌}
use Rattle.s80_chunk.specs.Chunks.{IsChunkText}
use Rattle.s80_change.specs.declared.change.Change.TheVariants.{Form, Method, DoIt}
use Rattle.s80_change.specs.declared.change.Method.{Method as MethodChange}
use Rattle.s80_change.specs.Source.{SourceParts}
use Rattle.s80_change.specs.declared.head.SectionHead.{SectionHead}
use Rattle.s80_change.specs.Head.{head_text, IsLawfulHead, IsNoHeadText}
use Rattle.s80_change.specs.Check.{IsCheckOf}
use Rattle.s80_change.specs.declared.framing.Framing.TheVariants.{Section}
use Rattle.s80_change.specs.Block.{framing_of, head_of, IsLawful, HasNoChange}
use Rattle.s80_change.proofs.lemmas.BlockLaws.{heads_same, sources_same, no_plain}

-- the text of a source in the log
abbrev pub IsShortText : List ℕ → Type 0
IsShortText text = IsChunkText text × (length text ≤ 65535)

-- a head that is none
pub no_head : (head source : List ℕ) → IsNoHeadText head → HasNoChange (Section head source)
no_head head source none (Form form) lawful e = no_plain _ _ _ e
no_head head source none (Method m) lawful e = none (head_of m) lawful.head (sym (heads_same _ _ _ _ e))
no_head head source none (DoIt t) lawful e = no_plain _ _ _ e

-- a source that no chunk has
pub no_source : (head source : List ℕ) → (IsShortText source → ⊥) → HasNoChange (Section head source)
no_source head source unfit (Form form) lawful e = no_plain _ _ _ e
no_source head source unfit (Method m) lawful e = unfit (subst IsShortText (sources_same _ _ _ _ e) (lawful.text, lawful.short))
no_source head source unfit (DoIt t) lawful e = no_plain _ _ _ e

-- a method with this head and this source
abbrev pub method_of : SectionHead → SourceParts → MethodChange
method_of head source = record { class_name = head.class_name; side = head.side; category = head.category; source = source }

pub method_is : (text bytes : List ℕ) (head : SectionHead) (source : SourceParts) → IsLawfulHead head × (text ≡ head_text head) → IsShortText bytes → source.text ≡ bytes → IsCheckOf bytes source.selector
    → IsLawful (Method (method_of head source)) × (framing_of (Method (method_of head source)) ≡ Section text bytes)
method_is text bytes head source found short same is = (
  record {
    head = found.0;
    text = subst IsChunkText (sym same) short.0;
    short = subst (λ t. length t ≤ 65535) (sym same) short.1;
    check = subst (λ t. IsCheckOf t source.selector) (sym same) is;
  },
  ap (λ h. Section h source.text) (sym found.1) ∙ ap (Section text) same,
)
