-- The text of a definition, and where its parts end.
use Rattle.std.proofs.Common.{◌≡◌, ℕ, List, [], ◌∷◌, ◌++◌, true, false, codes, not, take, drop, length, refl, ap, sym, ◌∙◌, rules, append_assoc}
use Rattle.std.specs.List.{list_all}
use Rattle.std.specs.Char.{is_ascii_alphanumeric}
use Rattle.std.proofs.lemmas.Bool.{and_parts}
use Rattle.std.proofs.lemmas.List.{append-nil, take_at, drop_at}
use Rattle.s80_lex.specs.Spelling.{Passes, unended, quoted}
use Rattle.s80_lex.proofs.lemmas.Runs.{run_ends}
use Rattle.s80_form.specs.declared.definition.Kind.{Kind}
use Rattle.s80_form.specs.declared.definition.Kind.TheVariants.{Plain, Pointers, Bytes, Words}
use Rattle.s80_form.specs.declared.definition.Definition.{Definition}
use Rattle.s80_form.specs.Name.{IsName}
use Rattle.s80_form.specs.Definition.{definition_text, first_line, next_line, defining_word, joined}
use Rattle.s80_form.specs.TextParts.{word_len, is_inner}
use Rattle.s80_form.specs.Read.{line, lines}
use Rattle.s80_form.proofs.lemmas.Identifiers.{identifier_of, identifier_passes, no_separator}

line_is : (word text rest : List ℕ) → next_line word text ++ rest ≡ line word text rest
line_is word text rest = append_assoc (10 ∷ 9 ∷ word) (32 ∷ quoted 39 text) rest ∙ ap (λ l. (10 ∷ 9 ∷ word) ++ 32 ∷ l) (append_assoc (unended 39 text) (39 ∷ []) rest)

lines_right : (f a b c d : List ℕ) → (((f ++ a) ++ b) ++ c) ++ d ≡ f ++ (a ++ (b ++ (c ++ (d ++ []))))
lines_right f a b c d = sym (append-nil ((((f ++ a) ++ b) ++ c) ++ d)) ∙ simp append_assoc

first_right : (s w h c rest : List ℕ) → (((s ++ 32 ∷ w) ++ h) ++ c) ++ rest ≡ s ++ 32 ∷ (w ++ (h ++ (c ++ rest)))
first_right s w h c rest = simp append_assoc

lines_are : (d : Definition) →
    next_line (codes "instanceVariableNames:") (joined d.inst_vars) ++ (next_line (codes "classVariableNames:") (joined d.class_vars) ++ (next_line (codes "poolDictionaries:") (joined d.pools) ++ (next_line (codes "category:") d.category ++ []))) ≡ lines d
lines_are d =
    line_is (codes "instanceVariableNames:") (joined d.inst_vars) (next_line (codes "classVariableNames:") (joined d.class_vars) ++ (next_line (codes "poolDictionaries:") (joined d.pools) ++ (next_line (codes "category:") d.category ++ [])))
    ∙ ap (line (codes "instanceVariableNames:") (joined d.inst_vars)) (
    line_is (codes "classVariableNames:") (joined d.class_vars) (next_line (codes "poolDictionaries:") (joined d.pools) ++ (next_line (codes "category:") d.category ++ []))
    ∙ ap (line (codes "classVariableNames:") (joined d.class_vars)) (
    line_is (codes "poolDictionaries:") (joined d.pools) (next_line (codes "category:") d.category ++ [])
    ∙ ap (line (codes "poolDictionaries:") (joined d.pools)) (line_is (codes "category:") d.category [])))

pub spread : (d : Definition) → definition_text d ≡ d.superclass ++ 32 ∷ (defining_word d.kind ++ 32 ∷ 35 ∷ (d.class_name ++ lines d))
spread d =
    lines_right (first_line d) (next_line (codes "instanceVariableNames:") (joined d.inst_vars)) (next_line (codes "classVariableNames:") (joined d.class_vars)) (next_line (codes "poolDictionaries:") (joined d.pools)) (next_line (codes "category:") d.category)
    ∙ first_right d.superclass (defining_word d.kind) (codes " #") d.class_name _
    ∙ ap (λ l. d.superclass ++ 32 ∷ (defining_word d.kind ++ 32 ∷ 35 ∷ (d.class_name ++ l))) (lines_are d)

-- a word ends at the first separator
inner_passes : (w : List ℕ) → list_all is_ascii_alphanumeric w ≡ true → Passes is_inner w
inner_passes [] e = tt
inner_passes (b ∷ w) e =
    let parts = and_parts (is_ascii_alphanumeric b) (list_all is_ascii_alphanumeric w) e in
    (ap not (no_separator b parts.0), inner_passes w parts.1)

pub name_inner : (w : List ℕ) → IsName w → Passes is_inner w
name_inner w h = inner_passes w (identifier_passes w (identifier_of w h))

pub kind_inner : (k : Kind) → Passes is_inner (defining_word k)
kind_inner Plain = search rules
kind_inner Pointers = search rules
kind_inner Bytes = search rules
kind_inner Words = search rules

pub word_cut : (bytes w : List ℕ) (b : ℕ) (rest : List ℕ) → Passes is_inner w → is_inner b ≡ false → bytes ≡ w ++ b ∷ rest → (take (word_len bytes) bytes ≡ w) × (drop (word_len bytes) bytes ≡ b ∷ rest)
word_cut bytes w b rest h e t =
    let n : word_len bytes ≡ length w = ap word_len t ∙ run_ends is_inner w b rest h e in (
      ap (λ m. take m bytes) n ∙ ap (take (length w)) t ∙ take_at w (b ∷ rest) (length w) refl,
      ap (λ m. drop m bytes) n ∙ ap (drop (length w)) t ∙ drop_at w (b ∷ rest) (length w) refl,
    )

pub fields_same : (d e : Definition) → d.superclass ≡ e.superclass → d.kind ≡ e.kind → d.class_name ≡ e.class_name → d.inst_vars ≡ e.inst_vars → d.class_vars ≡ e.class_vars → d.pools ≡ e.pools → d.category ≡ e.category → d ≡ e
fields_same d e superclass kind class_name inst_vars class_vars pools category =
    ap (λ x. record { superclass = x; kind = d.kind; class_name = d.class_name; inst_vars = d.inst_vars; class_vars = d.class_vars; pools = d.pools; category = d.category }) superclass
    ∙ ap (λ x. record { superclass = e.superclass; kind = x; class_name = d.class_name; inst_vars = d.inst_vars; class_vars = d.class_vars; pools = d.pools; category = d.category }) kind
    ∙ ap (λ x. record { superclass = e.superclass; kind = e.kind; class_name = x; inst_vars = d.inst_vars; class_vars = d.class_vars; pools = d.pools; category = d.category }) class_name
    ∙ ap (λ x. record { superclass = e.superclass; kind = e.kind; class_name = e.class_name; inst_vars = x; class_vars = d.class_vars; pools = d.pools; category = d.category }) inst_vars
    ∙ ap (λ x. record { superclass = e.superclass; kind = e.kind; class_name = e.class_name; inst_vars = e.inst_vars; class_vars = x; pools = d.pools; category = d.category }) class_vars
    ∙ ap (λ x. record { superclass = e.superclass; kind = e.kind; class_name = e.class_name; inst_vars = e.inst_vars; class_vars = e.class_vars; pools = x; category = d.category }) pools
    ∙ ap (λ x. record { superclass = e.superclass; kind = e.kind; class_name = e.class_name; inst_vars = e.inst_vars; class_vars = e.class_vars; pools = e.pools; category = x }) category
