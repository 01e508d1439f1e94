-- Framings that bytes begin with.
use Rattle.std.proofs.Common.{◌≡◌, ◌≢◌, inl, inr, ℕ, ◌+◌, List, [], ◌∷◌, ◌++◌, length, drop, Err, refl, sym, ap, ◌∙◌, arith, append_assoc, append-nil, length-append}
use Rattle.std.specs.Prelude.{⊤}
use Rattle.s80_chunk.specs.Chunks.{mark, chunk, IsNoMark}
use Rattle.s80_chunk.proofs.lemmas.Spelling.{spelled, spelled_other}
use Rattle.s80_change.specs.declared.framing.Framing.{Framing}
use Rattle.s80_change.specs.declared.framing.Framing.TheVariants.{Plain, Section}
use Rattle.s80_change.specs.declared.front.NoFraming.{NoFraming}
use Rattle.s80_change.specs.declared.front.NoFraming.TheVariants.{Memory, Absent, Unended}
use Rattle.s80_change.specs.Block.{framed}
use Rattle.s80_change.specs.Fronts.{HasNone, HasFirst, IsFirst, IsEnd, IsProper, line}
use Rattle.s80_change.proofs.Lines.{line_unique}

-- what stands behind a head, and behind a source
abbrev pub head_end : List ℕ
head_end = 10 ∷ []

abbrev pub source_end : List ℕ
source_end = 32 ∷ mark ∷ 10 ∷ []

pub head_ends : IsEnd head_end
head_ends = λ e. cc

pub source_ends : IsEnd source_end
source_ends = λ e. cc

-- a section is two lines behind a mark
section_is : (head source : List ℕ) → framed (Section head source) ≡ mark ∷ (line head_end head ++ line source_end source)
section_is head source = ap (λ l. mark ∷ l) (sym (append_assoc (chunk head) head_end (line source_end source)))

section_goes_on : (head source after : List ℕ) → framed (Section head source) ++ after ≡ mark ∷ (line head_end head ++ (line source_end source ++ after))
section_goes_on head source after = ap (λ l. l ++ after) (section_is head source) ∙ ap (λ l. mark ∷ l) (append_assoc (line head_end head) (line source_end source) after)

same_tail : (b : ℕ) (xs ys : List ℕ) → b ∷ xs ≡ b ∷ ys → xs ≡ ys
same_tail b xs ys e = cc

same_head : (a b : ℕ) (xs ys : List ℕ) → a ∷ xs ≡ b ∷ ys → a ≡ b
same_head a b xs ys e = cc

-- ---- where no mark stands first

no_section : (bytes more after head source : List ℕ) → IsNoMark bytes → bytes ≢ [] → bytes ++ more ≡ framed (Section head source) ++ after → ⊥
no_section [] more after head source unmarked some e = some refl
no_section (b ∷ bytes) more after head source unmarked some e = unmarked (same_head _ _ _ _ (e ∙ section_goes_on head source after))

proper_text : (bytes text after : List ℕ) → IsNoMark bytes → bytes ≡ line head_end text ++ after → IsProper (Plain text)
proper_text [] text after unmarked e = absurd (no_line text e)
  where
    no_line : (text : List ℕ) → [] ≡ line head_end text ++ after → ⊥
    no_line text f = absurd (omega (arith, simp length-append at (ap length f)))
proper_text (b ∷ bytes) [] after unmarked e = absurd (unmarked (same_head _ _ _ _ e))
proper_text (b ∷ bytes) (c ∷ text) after unmarked e =
    elim (spelled c text) [
      | inl h ↦ let e2 = rw h.1 at e in absurd (unmarked (same_head _ _ _ _ e2))
      | inr h ↦ h.0
    ]

pub plain_there : (bytes text : List ℕ) (count : ℕ) → IsNoMark bytes → HasFirst (line head_end) (λ _. ⊤) bytes text count → HasFirst framed IsProper bytes (Plain text) count
plain_there bytes text count unmarked has = record {
  proper = proper_text bytes text has.after unmarked has.begins;
  after = has.after;
  begins = has.begins;
  counted = has.counted;
}

some_bytes : (bytes : List ℕ) → ((more : List ℕ) → HasNone (line head_end) (λ _. ⊤) (bytes ++ more)) → bytes ≢ []
some_bytes [] none e = none (line head_end []) [] [] tt refl
some_bytes (b ∷ bytes) none e = cc

pub plain_fails : (bytes : List ℕ) (fault : NoFraming) → IsNoMark bytes → IsFirst (line head_end) (λ _. ⊤) bytes (Err fault) → IsFirst framed IsProper bytes (Err fault)
plain_fails bytes Memory unmarked none = tt
plain_fails bytes Absent unmarked none = λ more framing after proper e. absent framing after more proper e
  where
    absent : (framing : Framing) (after more : List ℕ) → IsProper framing → bytes ++ more ≡ framed framing ++ after → ⊥
    absent (Plain text) after more proper e = none more text after tt e
    absent (Section head source) after more proper e = no_section bytes more after head source unmarked (some_bytes bytes none) e
plain_fails bytes Unended unmarked (front, none) = (
  record { value = Plain front.value; more = front.more; goes_on = front.goes_on; some = front.some },
  λ framing after proper e. unended bytes unmarked none framing after e,
)
  where
    unended : (bytes : List ℕ) → IsNoMark bytes → HasNone (line head_end) (λ _. ⊤) bytes → (framing : Framing) (after : List ℕ) → bytes ≡ framed framing ++ after → ⊥
    unended bytes unmarked none (Plain text) after e = none text after tt e
    unended [] unmarked none (Section head source) after e = absurd (cc)
    unended (b ∷ bytes) unmarked none (Section head source) after e = unmarked (same_head _ _ _ _ (e ∙ section_goes_on head source after))

-- ---- where one does

no_plain : (text bytes after : List ℕ) → IsProper (Plain text) → mark ∷ bytes ≡ framed (Plain text) ++ after → ⊥
no_plain [] bytes after proper e = proper
no_plain (b ∷ text) bytes after proper e = let f = rw (spelled_other b text proper) at e in proper (sym (same_head _ _ _ _ f))

-- what follows the mark of a section
behind_mark : (bytes head source after : List ℕ) → mark ∷ bytes ≡ framed (Section head source) ++ after → bytes ≡ line head_end head ++ (line source_end source ++ after)
behind_mark bytes head source after e = same_tail mark _ _ (e ∙ section_goes_on head source after)

-- no framing, where no section stands there
only_sections : (bytes : List ℕ) → ((head source after : List ℕ) → bytes ≡ line head_end head ++ (line source_end source ++ after) → ⊥) → HasNone framed IsProper (mark ∷ bytes)
only_sections bytes none (Plain text) after proper e = no_plain text bytes after proper e
only_sections bytes none (Section head source) after proper e = none head source after (behind_mark bytes head source after e)

some_more : (xs ys : List ℕ) → xs ≢ [] → xs ++ ys ≢ []
some_more [] ys some e = some refl
some_more (x ∷ xs) ys some e = cc

pub head_fails : (bytes : List ℕ) (fault : NoFraming) → IsFirst (line head_end) (λ _. ⊤) bytes (Err fault) → IsFirst framed IsProper (mark ∷ bytes) (Err fault)
head_fails bytes Memory none = tt
head_fails bytes Absent none = λ more. only_sections (bytes ++ more) (λ head source after e. none more head (line source_end source ++ after) tt e)
head_fails bytes Unended (front, none) = (
  record {
    value = Section front.value [];
    more = front.more ++ line source_end [];
    goes_on = section_is front.value [] ∙ ap (λ l. mark ∷ (l ++ line source_end [])) front.goes_on ∙ ap (λ l. mark ∷ l) (append_assoc bytes front.more (line source_end []));
    some = some_more front.more (line source_end []) front.some;
  },
  only_sections bytes (λ head source after e. none head (line source_end source ++ after) tt e),
)

behind : (xs ys : List ℕ) → drop (length xs) (xs ++ ys) ≡ ys
behind [] ys = refl
behind (x ∷ xs) ys = behind xs ys

-- the bytes are the head and what is behind it
parted : (bytes head rest : List ℕ) (count : ℕ) → HasFirst (line head_end) (λ _. ⊤) bytes head count → rest ≡ drop count bytes → bytes ≡ line head_end head ++ rest
parted bytes head rest count has e =
    let after = e ∙ ap (λ n. drop n bytes) has.counted ∙ ap (drop (length (line head_end head))) has.begins ∙ behind (line head_end head) has.after in
    has.begins ∙ ap (λ l. line head_end head ++ l) (sym after)

-- a section there has its source behind the head
source_behind : (bytes head rest more other source after : List ℕ) → bytes ≡ line head_end head ++ rest → bytes ++ more ≡ line head_end other ++ (line source_end source ++ after)
    → rest ++ more ≡ line source_end source ++ after
source_behind bytes head rest more other source after parts e =
    let own = sym (append_assoc (line head_end head) rest more) ∙ ap (λ l. l ++ more) (sym parts) ∙ e in
    (line_unique head_end head other (rest ++ more) (line source_end source ++ after) head_ends own).1

pub source_fails : (bytes head rest : List ℕ) (count : ℕ) (fault : NoFraming) → HasFirst (line head_end) (λ _. ⊤) bytes head count → rest ≡ drop count bytes
    → IsFirst (line source_end) (λ _. ⊤) rest (Err fault) → IsFirst framed IsProper (mark ∷ bytes) (Err fault)
source_fails bytes head rest count Memory has e none = tt
source_fails bytes head rest count Absent has e none = λ more. only_sections (bytes ++ more)
    (λ other source after whole. none more source after tt (source_behind bytes head rest more other source after (parted bytes head rest count has e) whole))
source_fails bytes head rest count Unended has e (front, none) =
    let parts = parted bytes head rest count has e in (
      record {
        value = Section head front.value;
        more = front.more;
        goes_on = section_is head front.value ∙ ap (λ l. mark ∷ (line head_end head ++ l)) front.goes_on
            ∙ ap (λ l. mark ∷ l) (sym (append_assoc (line head_end head) rest front.more) ∙ ap (λ l. l ++ front.more) (sym parts));
        some = front.some;
      },
      only_sections bytes (λ other source after whole. none source after tt
          (sym (append-nil rest) ∙ source_behind bytes head rest [] other source after parts (append-nil bytes ∙ whole))),
    )

pub section_there : (bytes head rest source : List ℕ) (count more : ℕ) → HasFirst (line head_end) (λ _. ⊤) bytes head count → rest ≡ drop count bytes
    → HasFirst (line source_end) (λ _. ⊤) rest source more → HasFirst framed IsProper (mark ∷ bytes) (Section head source) (1 + count + more)
section_there bytes head rest source count more has e found =
    let parts = parted bytes head rest count has e in
    record {
      proper = tt;
      after = found.after;
      begins = ap (λ l. mark ∷ l) (parts ∙ ap (λ l. line head_end head ++ l) found.begins) ∙ sym (section_goes_on head source found.after);
      counted =
          let n = has.counted in
          let m = found.counted in
          let size = ap length (section_is head source) in
          let sum = length-append (line head_end head) (line source_end source) in
          omega (arith, n, m, size, sum);
    }

-- ---- framings part in one way

pub framing_unique : (f g : Framing) (after other : List ℕ) → IsProper f → IsProper g → framed f ++ after ≡ framed g ++ other → (f ≡ g) × (after ≡ other)
framing_unique (Plain t) (Plain u) after other one two e = let both = line_unique head_end t u after other head_ends e in (ap Plain both.0, both.1)
framing_unique (Plain t) (Section h s) after other one two e = absurd (no_plain t _ after one (sym e))
framing_unique (Section h s) (Plain t) after other one two e = absurd (no_plain t _ other two e)
framing_unique (Section h s) (Section k t) after other one two e =
    let parts = same_tail mark _ _ (sym (section_goes_on h s after) ∙ e ∙ section_goes_on k t other) in
    let heads = line_unique head_end h k _ _ head_ends parts in
    let sources = line_unique source_end s t after other source_ends heads.1 in
    ((let head_is = heads.0 in let source_is = sources.0 in cc), sources.1)
