-- Methods, read from their tokens: the text of a spellable tree has that tree.
use Rattle.std.proofs.Common.{◌≡◌, ℕ, zero, suc, ◌≤◌, inl, inr, List, [], ◌∷◌, ◌++◌, false, true, decimal, length, refl, ap, sym, ◌∙◌, subst, arith}
use Rattle.std.specs.List.{AllByRecursion, flat_map}
use Rattle.s80_lex.specs.declared.token.TokenKind.TheVariants as kind
use Rattle.s80_lex.specs.Number.{behind, number_literal}
use Rattle.s80_lex.specs.Selector.{IsSelectorOf}
use Rattle.s80_lex.specs.Spelling.{IsName as IsNameWord, keyword}
use Rattle.s80_syntax.specs.Lexeme.{Lexemes, lexemes}
use Rattle.s80_syntax.specs.Grammar.{AreKeywords, AreOptionalTemporaries, IsHead, IsMethod, IsPattern, IsPrimitive, IsBody}
use Rattle.s80_syntax.specs.Word.{bar, greater, less, primitive_word}
use Rattle.s80_tree.specs.declared.name.NameAt.{NameAt}
use Rattle.s80_tree.specs.Tree.{BodyTree, MethodParts}
use Rattle.s80_decompile.specs.Places.{unplaced, unplaced_body, unplaced_names, unplaced_tokens}
use Rattle.s80_decompile.specs.Spellable.{AreDeclarable, IsSpellable}
use Rattle.s80_decompile.specs.TreeText.{HasTree, method_text}
use Rattle.s80_decompile.specs.TreeTokens.{body_tokens, declared_tokens, method_tokens, name_tokens, pattern_tokens, primitive_tokens, temporary_tokens, token}
use Rattle.s80_decompile.proofs.Lexing.{lexed_text}
use Rattle.s80_decompile.proofs.Moved.{lawful_stays}
use Rattle.s80_decompile.proofs.ReadParts.{Read, Took, declared_read, first_of, names_read, names_same, sign_read}
use Rattle.s80_decompile.proofs.ReadTrees.{body_read}
use Rattle.s80_decompile.proofs.Selecting.{behind_first, binary_part, keyword_part}
use Rattle.s80_decompile.proofs.Spells.{method_spelled}
use Rattle.s80_decompile.proofs.Values.{positive_is}

-- ---- the pattern

keywords_read : (ns : List NameAt) (names : List (List ℕ)) (ls more : Lexemes) → AllByRecursion IsNameWord names → length ns ≡ length names → AreDeclarable ns → unplaced_tokens ls ≡ declared_tokens ns (flat_map keyword names) more
    → Read unplaced_names (λ ps. AreKeywords ps (flat_map keyword names)) ns ls more
keywords_read [] [] ls more named counted h e = record { tree = []; same = refl; rest = ls; reads = (refl, refl); left = e }
keywords_read [] (w ∷ ws) ls more named counted h e = absurd (omega (arith, counted))
keywords_read (n ∷ ns) [] ls more named counted h e = absurd (omega (arith, counted))
keywords_read (n ∷ ns) (w ∷ ws) ls more named counted h e =
    let rest : List ℕ = flat_map keyword ws in
    let tokens : unplaced_tokens ls ≡ token kind.Keyword (keyword w) ∷ token kind.Name n.name ∷ declared_tokens ns rest more =
    e ∙ ap (λ t. t ∷ token kind.Name n.name ∷ declared_tokens ns (behind 58 (keyword w ++ rest)) more) (keyword_part w rest named.0)
    ∙ ap (λ l. token kind.Keyword (keyword w) ∷ token kind.Name n.name ∷ declared_tokens ns l more) (behind_first w rest named.0) in
    let f = first_of (token kind.Keyword (keyword w)) ls (token kind.Name n.name ∷ declared_tokens ns rest more) tokens in
    let r = declared_read n f.rest (declared_tokens ns rest more) h.0 f.left in
    let t = keywords_read ns ws r.rest more named.1 (let c : length ns ≡ length ws = omega (arith, counted) in c) h.1 r.left in
    record {
      tree = r.tree ∷ t.tree;
      same = names_same r.tree n t.tree ns r.same t.same;
      rest = t.rest;
      reads = (f.first, f.rest, r.rest, rest, (f.split, f.kind_is), ap (λ l. l ++ rest) (sym f.bytes_are), r.reads, t.reads);
      left = t.left;
    }

-- keywords are a pattern where there are some
as_pattern : (s : List ℕ) (n : NameAt) (ns : List NameAt) (ls more : Lexemes) → Read unplaced_names (λ ps. AreKeywords ps s) (n ∷ ns) ls more → Read unplaced_names (λ ps. IsPattern s ps) (n ∷ ns) ls more
as_pattern s n ns ls more r = record { tree = r.tree; same = r.same; rest = r.rest; reads = some r.tree r.same r.reads; left = r.left }
  where
    some : (ps : List NameAt) → unplaced_names ps ≡ unplaced_names (n ∷ ns) → AreKeywords ps s ls r.rest → IsPattern s ps ls r.rest
    some [] e h = absurd (cc)
    some (p ∷ ps) e h = inr h

no_keywords : (names : List (List ℕ)) → 0 ≡ length names → names ≡ []
no_keywords [] e = refl
no_keywords (n ∷ names) e = absurd (omega (arith, e))

pattern_read : (ns : List NameAt) (s : List ℕ) (ls more : Lexemes) → IsSelectorOf (length ns) s → AreDeclarable ns → unplaced_tokens ls ≡ pattern_tokens ns s more → Read unplaced_names (λ ps. IsPattern s ps) ns ls more
pattern_read [] s ls more (inl h) k e =
    let f = first_of (token kind.Name s) ls more e in
    record { tree = []; same = refl; rest = f.rest; reads = (f.first, (f.split, f.kind_is), sym f.bytes_are); left = f.left }
pattern_read [] s ls more (inr (inl h)) k e = absurd (omega (arith, h.1))
pattern_read [] s ls more (inr (inr h)) k e = absurd (h.some (no_keywords h.names h.counted))
pattern_read (n ∷ ns) s ls more (inl h) k e = absurd (omega (arith, h.1))
pattern_read (n ∷ []) s ls more (inr (inl h)) k e =
    let f = first_of (token kind.Binary s) ls (token kind.Name n.name ∷ more) (e ∙ ap (λ t. t ∷ token kind.Name n.name ∷ more) (binary_part s h.0)) in
    let r = declared_read n f.rest more k.0 f.left in
    record {
      tree = r.tree ∷ [];
      same = names_same r.tree n [] [] r.same refl;
      rest = r.rest;
      reads = inl (f.first, f.rest, (f.split, f.kind_is), sym f.bytes_are, r.reads, refl);
      left = r.left;
    }
pattern_read (n ∷ p ∷ ns) s ls more (inr (inl h)) k e = absurd (omega (arith, h.1))
pattern_read (n ∷ ns) s ls more (inr (inr h)) k e =
    let r = keywords_read (n ∷ ns) h.names ls more h.named h.counted k (e ∙ ap (λ w. declared_tokens (n ∷ ns) w more) h.spelled) in
    as_pattern s n ns ls more (subst (λ w. Read unplaced_names (λ ps. AreKeywords ps w) (n ∷ ns) ls more) (sym h.spelled) r)

-- ---- what stands before the body

primitive_read : (n : ℕ) (ls more : Lexemes) → suc n ≤ 255 → unplaced_tokens ls ≡ primitive_tokens (suc n) more → Took (IsPrimitive (suc n)) ls more
primitive_read n ls more h e =
    let closing : Lexemes = token kind.Binary greater ∷ more in
    let a = sign_read kind.Binary less ls (token kind.Keyword primitive_word ∷ token kind.Number (decimal (suc n)) ∷ closing) e in
    let b = sign_read kind.Keyword primitive_word a.rest (token kind.Number (decimal (suc n)) ∷ closing) a.left in
    let f = first_of (token kind.Number (decimal (suc n))) b.rest closing b.left in
    let c = sign_read kind.Binary greater f.rest more f.left in
    record {
      rest = c.rest;
      reads = (f.first, a.rest, b.rest, f.rest, a.reads, b.reads, (f.split, f.kind_is), ap (number_literal false) f.bytes_are ∙ sym (positive_is (suc n) (omega arith)), omega arith, h, c.reads);
      left = c.left;
    }

temporaries_read : (ns : List NameAt) (ls more : Lexemes) → AreDeclarable ns → unplaced_tokens ls ≡ temporary_tokens ns more → Read unplaced_names AreOptionalTemporaries ns ls more
temporaries_read [] ls more h e = record { tree = []; same = refl; rest = ls; reads = inr (refl, refl); left = e }
temporaries_read (n ∷ ns) ls more h e =
    let a = sign_read kind.Binary bar ls (name_tokens (n ∷ ns) (token kind.Binary bar ∷ more)) e in
    let b = names_read (n ∷ ns) a.rest (token kind.Binary bar ∷ more) h a.left in
    let c = sign_read kind.Binary bar b.rest more b.left in
    record { tree = b.tree; same = b.same; rest = c.rest; reads = inl (a.rest, b.rest, a.reads, b.reads, c.reads); left = c.left }

head_read : (n : ℕ) (ns : List NameAt) (ls more : Lexemes) → n ≤ 255 → AreDeclarable ns → unplaced_tokens ls ≡ primitive_tokens n (temporary_tokens ns more) → Read unplaced_names (λ ps. IsHead ps n) ns ls more
head_read zero ns ls more h k e =
    let t = temporaries_read ns ls more k e in
    record { tree = t.tree; same = t.same; rest = t.rest; reads = inl (refl, t.reads); left = t.left }
head_read (suc n) ns ls more h k e =
    let p = primitive_read n ls (temporary_tokens ns more) h e in
    let t = temporaries_read ns p.rest more k p.left in
    record { tree = t.tree; same = t.same; rest = t.rest; reads = inr (inl (p.rest, p.reads, t.reads)); left = t.left }

-- ---- all of it

none_left : (ls : Lexemes) → unplaced_tokens ls ≡ [] → ls ≡ []
none_left [] e = refl
none_left (l ∷ ls) e = absurd (cc)

-- the tree with the places that it has in these tokens
record MethodRead (m : MethodParts) (ls : Lexemes) : Type 0 where
  tree : MethodParts
  same : unplaced tree ≡ unplaced m
  reads : IsMethod tree ls

parts_same : (m : MethodParts) (ps ns : List NameAt) (ss : BodyTree) → unplaced_names ps ≡ unplaced_names m.parameters → unplaced_names ns ≡ unplaced_names m.temporaries → unplaced_body ss ≡ unplaced_body m.body
    → unplaced (record { selector = m.selector; parameters = ps; temporaries = ns; primitive = m.primitive; body = ss }) ≡ unplaced m
parts_same m ps ns ss a b c =
    ap (λ (x : List NameAt). record { selector = m.selector; parameters = x; temporaries = unplaced_names ns; primitive = m.primitive; body = unplaced_body ss }) a
    ∙ ap (λ (x : List NameAt). record { selector = m.selector; parameters = unplaced_names m.parameters; temporaries = x; primitive = m.primitive; body = unplaced_body ss }) b
    ∙ ap (λ (x : BodyTree). record { selector = m.selector; parameters = unplaced_names m.parameters; temporaries = unplaced_names m.temporaries; primitive = m.primitive; body = x }) c

method_read : (m : MethodParts) (ls : Lexemes) → IsSpellable m → unplaced_tokens ls ≡ method_tokens m → MethodRead m ls
method_read m ls h e =
    let a = pattern_read m.parameters m.selector ls (primitive_tokens m.primitive (temporary_tokens m.temporaries (body_tokens m.body []))) h.selector h.parameters e in
    let b = head_read m.primitive m.temporaries a.rest (body_tokens m.body []) h.primitive h.temporaries a.left in
    let c = body_read m.body b.rest [] h.body b.left in
    record {
      tree = record { selector = m.selector; parameters = a.tree; temporaries = b.tree; primitive = m.primitive; body = c.tree };
      same = parts_same m a.tree b.tree c.tree a.same b.same c.same;
      reads = (a.rest, b.rest, a.reads, b.reads, subst (IsBody c.tree b.rest) (none_left c.rest c.left) c.reads);
    }

pub has_tree : (m : MethodParts) → IsSpellable m → HasTree (method_text m) m
has_tree m h =
    let lexed = lexed_text (method_tokens m) (method_spelled m h) in
    let r = method_read m (lexemes (method_text m) lexed.tokens) h lexed.same in
    record {
      tree = r.tree;
      same = r.same;
      is_tree = record { tokens = lexed.tokens; are_tokens = lexed.are_tokens; method = r.reads; lawful = lawful_stays true m r.tree r.same h.lawful };
    }
