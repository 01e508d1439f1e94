-- Names and literals, read from their tokens, which stand at places now.
use Rattle.std.proofs.Common.{◌≡◌, ℕ, suc, pos, negsuc, ◌⊎◌, inl, inr, List, [], ◌∷◌, Bool, true, false, ◌&&◌, codes, decimal, refl, ap, sym, ◌∙◌, subst, arith}
use Rattle.std.specs.Str.{bytes_eq}
use Rattle.s80_base.specs.Literal.{LiteralTree, LiteralTrees, small, character, str, symbol, array, true_literal, false_literal, nil_literal, number, no_literals, literals}
use Rattle.s80_lex.specs.declared.token.TokenKind.{TokenKind}
use Rattle.s80_lex.specs.declared.token.TokenKind.TheVariants as kind
use Rattle.s80_lex.specs.Number.{number_literal, signed}
use Rattle.s80_lex.specs.Spelling.{IsNumber, quoted}
use Rattle.s80_form.proofs.lemmas.Operands.{str_is}
use Rattle.s80_syntax.specs.Lexeme.{Lexeme, Lexemes}
use Rattle.s80_syntax.specs.Literals.{IsLiteralKind, name_literal, token_literal}
use Rattle.s80_syntax.specs.Grammar.{AreDeclared, AreElements, AreParameters, IsArray, IsDeclared, IsLiteral, IsMark, IsName, IsNegative, IsSign, IsSingle, IsTargets, IsWord}
use Rattle.s80_syntax.specs.Word.{is_minus, is_reserved, minus}
use Rattle.s80_tree.specs.declared.name.NameAt.{NameAt}
use Rattle.s80_decompile.specs.Places.{unplaced_name, unplaced_names, unplaced_token, unplaced_tokens}
use Rattle.s80_decompile.specs.Spellable.{AreDeclarable, AreSpellableLiterals, IsDeclarable, IsSpellableLiteral}
use Rattle.s80_decompile.specs.TreeTokens.{literal_tokens, literals_tokens, name_tokens, number_tokens, parameter_tokens, sign, target_tokens, token}
use Rattle.s80_decompile.proofs.Spells.{number_tokens_are}
use Rattle.s80_decompile.proofs.Values.{decimal_number, meant_bytes, negative_is, positive_is}

-- a tree that is this one but for places was read, and tokens are left
pub record Read {T : Type 0} (blank : T → T) (Is : T → Lexemes → Lexemes → Type 0) (t : T) (ls more : Lexemes) : Type 0 where
  pub tree : T
  pub same : blank tree ≡ blank t
  pub rest : Lexemes
  pub reads : Is tree ls rest
  pub left : unplaced_tokens rest ≡ more

-- something without places was read
pub record Took (Is : Lexemes → Lexemes → Type 0) (ls more : Lexemes) : Type 0 where
  pub rest : Lexemes
  pub reads : Is ls rest
  pub left : unplaced_tokens rest ≡ more

-- ---- tokens

pub record First (w : Lexeme) (ls more : Lexemes) : Type 0 where
  pub first : Lexeme
  pub rest : Lexemes
  pub split : ls ≡ first ∷ rest
  pub kind_is : first.kind ≡ w.kind
  pub bytes_are : first.bytes ≡ w.bytes
  pub joined_is : first.joined ≡ w.joined
  pub left : unplaced_tokens rest ≡ more

head_same : (x y : Lexeme) (xs ys : Lexemes) → x ∷ xs ≡ y ∷ ys → x ≡ y
head_same x y xs ys e = cc

tail_same : (x y : Lexeme) (xs ys : Lexemes) → x ∷ xs ≡ y ∷ ys → xs ≡ ys
tail_same x y xs ys e = cc

pub first_of : (w : Lexeme) (ls more : Lexemes) → unplaced_tokens ls ≡ w ∷ more → First w ls more
first_of w [] more e = absurd (cc)
first_of w (l ∷ ls) more e =
    let head : unplaced_token l ≡ w = head_same (unplaced_token l) w (unplaced_tokens ls) more e in
    record {
      first = l;
      rest = ls;
      split = refl;
      kind_is = ap (λ (x : Lexeme). x.kind) head;
      bytes_are = ap (λ (x : Lexeme). x.bytes) head;
      joined_is = ap (λ (x : Lexeme). x.joined) head;
      left = tail_same (unplaced_token l) w (unplaced_tokens ls) more e;
    }

pub mark_read : (k : TokenKind) (bytes : List ℕ) (ls more : Lexemes) → unplaced_tokens ls ≡ token k bytes ∷ more → Took (IsMark k) ls more
mark_read k bytes ls more e =
    let f = first_of (token k bytes) ls more e in
    record { rest = f.rest; reads = (f.first, (f.split, f.kind_is)); left = f.left }

pub sign_read : (k : TokenKind) (bytes : List ℕ) (ls more : Lexemes) → unplaced_tokens ls ≡ token k bytes ∷ more → Took (IsSign k bytes) ls more
sign_read k bytes ls more e =
    let f = first_of (token k bytes) ls more e in
    record { rest = f.rest; reads = (f.first, (f.split, f.kind_is), f.bytes_are); left = f.left }

-- ---- names

pub name_read : (n : NameAt) (ls more : Lexemes) → unplaced_tokens ls ≡ token kind.Name n.name ∷ more → Read unplaced_name IsName n ls more
name_read n ls more e =
    let f = first_of (token kind.Name n.name) ls more e in
    record {
      tree = record { name = f.first.bytes; at = f.first.at };
      same = ap (λ (x : List ℕ). record { name = x; at = 0 }) f.bytes_are;
      rest = f.rest;
      reads = (f.first, (f.split, f.kind_is), refl, refl);
      left = f.left;
    }

pub declared_read : (n : NameAt) (ls more : Lexemes) → IsDeclarable n → unplaced_tokens ls ≡ token kind.Name n.name ∷ more → Read unplaced_name IsDeclared n ls more
declared_read n ls more h e =
    let r = name_read n ls more e in
    record { tree = r.tree; same = r.same; rest = r.rest; reads = (r.reads, ap (λ (x : NameAt). is_reserved x.name) r.same ∙ h.1); left = r.left }

pub names_same : (n p : NameAt) (ns ps : List NameAt) → unplaced_name n ≡ unplaced_name p → unplaced_names ns ≡ unplaced_names ps → unplaced_names (n ∷ ns) ≡ unplaced_names (p ∷ ps)
names_same n p ns ps e f = ap (λ x. x ∷ unplaced_names ns) e ∙ ap (λ l. unplaced_name p ∷ l) f

pub targets_read : (ns : List NameAt) (ls more : Lexemes) → unplaced_tokens ls ≡ target_tokens ns more → Read unplaced_names IsTargets ns ls more
targets_read [] ls more e = record { tree = []; same = refl; rest = ls; reads = refl; left = e }
targets_read (n ∷ ns) ls more e =
    let r = name_read n ls (token kind.Assign (codes "_") ∷ target_tokens ns more) e in
    let s = mark_read kind.Assign (codes "_") r.rest (target_tokens ns more) r.left in
    let t = targets_read ns s.rest more s.left in
    record { tree = r.tree ∷ t.tree; same = names_same r.tree n t.tree ns r.same t.same; rest = t.rest; reads = (r.rest, s.rest, r.reads, s.reads, t.reads); left = t.left }

pub names_read : (ns : List NameAt) (ls more : Lexemes) → AreDeclarable ns → unplaced_tokens ls ≡ name_tokens ns more → Read unplaced_names AreDeclared ns ls more
names_read [] ls more h e = record { tree = []; same = refl; rest = ls; reads = refl; left = e }
names_read (n ∷ ns) ls more h e =
    let r = declared_read n ls (name_tokens ns more) h.0 e in
    let t = names_read ns r.rest more h.1 r.left in
    record { tree = r.tree ∷ t.tree; same = names_same r.tree n t.tree ns r.same t.same; rest = t.rest; reads = (r.rest, r.reads, t.reads); left = t.left }

pub parameters_read : (ns : List NameAt) (ls more : Lexemes) → AreDeclarable ns → unplaced_tokens ls ≡ parameter_tokens ns more → Read unplaced_names AreParameters ns ls more
parameters_read [] ls more h e = record { tree = []; same = refl; rest = ls; reads = refl; left = e }
parameters_read (n ∷ ns) ls more h e =
    let s = mark_read kind.Colon (codes ":") ls (token kind.Name n.name ∷ parameter_tokens ns more) e in
    let r = declared_read n s.rest (parameter_tokens ns more) h.0 s.left in
    let t = parameters_read ns r.rest more h.1 r.left in
    record { tree = r.tree ∷ t.tree; same = names_same r.tree n t.tree ns r.same t.same; rest = t.rest; reads = (s.rest, r.rest, s.reads, r.reads, t.reads); left = t.left }

-- ---- literals

-- a literal by itself, or an element of an array
pub IsLiteralIn : Bool → LiteralTree → Lexemes → Lexemes → Type 0
IsLiteralIn false v ts rest = IsLiteral v ts rest
IsLiteralIn true v ts rest = IsSingle v ts rest ⊎ IsNegative v ts rest ⊎ IsWord v ts rest ⊎ IsArray true v ts rest

single_in : (inner : Bool) (v : LiteralTree) (ts rest : Lexemes) → IsSingle v ts rest → IsLiteralIn inner v ts rest
unfolding IsLiteralIn
single_in false v ts rest h = inl h
single_in true v ts rest h = inl h

negative_in : (inner : Bool) (v : LiteralTree) (ts rest : Lexemes) → IsNegative v ts rest → IsLiteralIn inner v ts rest
unfolding IsLiteralIn
negative_in false v ts rest h = inr (inl h)
negative_in true v ts rest h = inr (inl h)

word_in : (inner : Bool) (v : LiteralTree) (ts rest : Lexemes) → inner ≡ true → IsWord v ts rest → IsLiteralIn inner v ts rest
unfolding IsLiteralIn
word_in false v ts rest e h = absurd (cc)
word_in true v ts rest e h = inr (inr (inl h))

array_in : (inner : Bool) (v : LiteralTrees) (ts rest a b : Lexemes) → IsMark kind.ArrayStart ts a → AreElements v a b → IsMark kind.CloseParen b rest → IsLiteralIn inner (array v) ts rest
unfolding IsLiteralIn
array_in false v ts rest a b h k m = inr (inr (a, b, h, k, m))
array_in true v ts rest a b h k m = inr (inr (inr (a, b, inl h, k, m)))

single_read : (inner : Bool) (v : LiteralTree) (k : TokenKind) (bytes : List ℕ) (ls more : Lexemes) → IsLiteralKind k → v ≡ token_literal k bytes → unplaced_tokens ls ≡ token k bytes ∷ more → Took (IsLiteralIn inner v) ls more
single_read inner v k bytes ls more lit is e =
    let f = first_of (token k bytes) ls more e in
    record {
      rest = f.rest;
      reads = single_in inner v ls f.rest (f.first, f.split, subst IsLiteralKind (sym f.kind_is) lit, is ∙ ap (token_literal k) (sym f.bytes_are) ∙ ap (λ j. token_literal j f.first.bytes) (sym f.kind_is));
      left = f.left;
    }

word_read : (inner : Bool) (v : LiteralTree) (bytes : List ℕ) (ls more : Lexemes) → inner ≡ true → v ≡ name_literal bytes → unplaced_tokens ls ≡ token kind.Name bytes ∷ more → Took (IsLiteralIn inner v) ls more
word_read inner v bytes ls more in_array is e =
    let f = first_of (token kind.Name bytes) ls more e in
    record {
      rest = f.rest;
      reads = word_in inner v ls f.rest in_array (inl (f.first, (f.split, f.kind_is), is ∙ ap name_literal (sym f.bytes_are)));
      left = f.left;
    }

minus_is : (l : Lexeme) → l.bytes ≡ minus → l.joined ≡ true → is_minus l ≡ true
unfolding is_minus
minus_is l e j = ap (λ b. bytes_eq b minus && l.joined) e ∙ j

number_read : (inner negative : Bool) (v : LiteralTree) (w : List ℕ) (ls more : Lexemes) → v ≡ number_literal negative w → IsNumber w → unplaced_tokens ls ≡ number_tokens (signed negative w) more → Took (IsLiteralIn inner v) ls more
number_read inner false v w ls more is h e = single_read inner v kind.Number w ls more tt is (e ∙ number_tokens_are w more h)
number_read inner true v w ls more is h e =
    let f = first_of sign ls (token kind.Number w ∷ more) e in
    let g = first_of (token kind.Number w) f.rest more f.left in
    record {
      rest = g.rest;
      reads = negative_in inner v ls g.rest (f.first, g.first, f.rest, (f.split, f.kind_is), minus_is f.first f.bytes_are f.joined_is, (g.split, g.kind_is), is ∙ ap (number_literal true) (sym g.bytes_are));
      left = g.left;
    }

element_in : (v : LiteralTree) (ts rest : Lexemes) → IsLiteralIn true v ts rest → IsSingle v ts rest ⊎ IsNegative v ts rest ⊎ IsWord v ts rest ⊎ IsArray true v ts rest
unfolding IsLiteralIn
element_in v ts rest h = h

pub alone_in : (v : LiteralTree) (ts rest : Lexemes) → IsLiteralIn false v ts rest → IsLiteral v ts rest
unfolding IsLiteralIn
alone_in v ts rest h = h

mutual
  pub literal_read : (inner : Bool) (v : LiteralTree) (ls more : Lexemes) → IsSpellableLiteral inner v → unplaced_tokens ls ≡ literal_tokens v more → Took (IsLiteralIn inner v) ls more
  literal_read inner (small (pos n)) ls more h e = number_read inner false (small (pos n)) (decimal n) ls more (positive_is n h) (decimal_number n (omega arith)) e
  literal_read inner (small (negsuc n)) ls more h e = number_read inner true (small (negsuc n)) (decimal (suc n)) ls more (negative_is n h) (decimal_number (suc n) (omega arith)) e
  literal_read inner (character b) ls more h e = single_read inner (character b) kind.Character (36 ∷ b ∷ []) ls more tt refl e
  literal_read inner (str text) ls more h e = single_read inner (str text) kind.Str (quoted 39 text) ls more tt (str_is text) e
  literal_read inner (symbol s) ls more h e = single_read inner (symbol s) kind.Symbol (35 ∷ s) ls more tt refl e
  literal_read inner (array vs) ls more h e =
      let a = mark_read kind.ArrayStart (codes "#(") ls (literals_tokens vs (token kind.CloseParen (codes ")") ∷ more)) e in
      let b = literals_read vs a.rest (token kind.CloseParen (codes ")") ∷ more) h a.left in
      let c = mark_read kind.CloseParen (codes ")") b.rest more b.left in
      record { rest = c.rest; reads = array_in inner vs ls c.rest a.rest b.rest a.reads b.reads c.reads; left = c.left }
  literal_read inner true_literal ls more h e = word_read inner true_literal (codes "true") ls more h refl e
  literal_read inner false_literal ls more h e = word_read inner false_literal (codes "false") ls more h refl e
  literal_read inner nil_literal ls more h e = word_read inner nil_literal (codes "nil") ls more h refl e
  literal_read inner (number k bytes) ls more (negative, w, n, l, is) e =
      number_read inner negative (number k bytes) w ls more is n (e ∙ ap (λ b. number_tokens b more) (meant_bytes negative k bytes w is))

  literals_read : (vs : LiteralTrees) (ls more : Lexemes) → AreSpellableLiterals vs → unplaced_tokens ls ≡ literals_tokens vs more → Took (AreElements vs) ls more
  literals_read no_literals ls more h e = record { rest = ls; reads = refl; left = e }
  literals_read (literals v vs) ls more h e =
      let a = literal_read true v ls (literals_tokens vs more) h.0 e in
      let b = literals_read vs a.rest more h.1 a.left in
      record { rest = b.rest; reads = (a.rest, element_in v ls a.rest a.reads, b.reads); left = b.left }
