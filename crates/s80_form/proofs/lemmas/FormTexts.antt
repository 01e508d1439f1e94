-- The text of a form is a doIt whose tree has that form.
use Rattle.std.proofs.Common.{◌≡◌, ℕ, inl, inr, List, [], ◌∷◌, ◌++◌, Bool, true, codes, not, false, refl, ap, sym, ◌∙◌, subst, arith}
use Rattle.std.proofs.lemmas.Bool.{not-true, and_parts}
use Rattle.std.proofs.lemmas.List.{append-nil}
use Rattle.s80_base.specs.Literal.{LiteralTree, symbol, str}
use Rattle.s80_base.specs.declared.names.Side.{Side}
use Rattle.s80_base.specs.declared.names.Side.TheVariants.{Instance, Class}
use Rattle.s80_lex.specs.declared.token.TokenKind.{TokenKind}
use Rattle.s80_lex.specs.declared.token.TokenKind.TheVariants as kind
use Rattle.s80_lex.specs.Spelling.{quoted}
use Rattle.s80_lex.specs.Selector.{is_name as is_identifier}
use Rattle.s80_lex.proofs.lemmas.SelectorLemmas.{name_is}
use Rattle.s80_tree.specs.Tree.{DoItParts, ExprTrees, MessageTree, MessageTrees, no_exprs, exprs, messages, no_messages}
use Rattle.s80_syntax.specs.Lexeme.{Lexemes}
use Rattle.s80_syntax.specs.Limits.{IsLawfulLiteral, AreLawfulMessages}
use Rattle.s80_syntax.specs.Literals.{IsLiteralKind, token_literal}
use Rattle.s80_syntax.specs.Grammar.{AreParts, IsChain}
use Rattle.s80_syntax.specs.Text.{IsDoItOf}
use Rattle.s80_syntax.specs.Word.{is_reserved}
use Rattle.s80_form.specs.declared.definition.Kind.{Kind}
use Rattle.s80_form.specs.declared.definition.Kind.TheVariants.{Plain, Pointers, Bytes, Words}
use Rattle.s80_form.specs.declared.definition.Definition.{Definition}
use Rattle.s80_form.specs.declared.form.Form.{Form}
use Rattle.s80_form.specs.declared.form.Form.TheVariants.{Define, ClassVars, Comment, RemoveMethod, Classify, RemoveClass, NoChanges}
use Rattle.s80_form.specs.Definition.{definition_text, defining_word, defining_selector, are_arguments, joined}
use Rattle.s80_form.specs.Name.{IsName, IsSelectorWord}
use Rattle.s80_form.specs.TreeParts.{argument, alone, all_sent, to_side, to_organization}
use Rattle.s80_form.specs.Form.{smalltalk, unary, with_literal, classifying, form_text, IsLawfulForm, IsFormText}
use Rattle.s80_form.specs.Read.{lines}
use Rattle.s80_form.proofs.Longest.{space, line_feed}
use Rattle.s80_form.proofs.Splits.{joined_split}
use Rattle.s80_form.proofs.lemmas.Identifiers.{identifier_of}
use Rattle.s80_form.proofs.lemmas.Cuts.{spread}
use Rattle.s80_form.proofs.lemmas.Building.{Words as TokenWords, Spells, EndsIn, words_spell, ended, spelled, side_words, nothing_more, behind, then_name, then_keyword, then_symbol, then_line, then_named, last_name, last_symbol, last_keyword_string}
use Rattle.s80_form.proofs.lemmas.Operands.{str_is, operand}
use Rattle.s80_form.proofs.lemmas.OneForm.{form_of_text_same}

-- ---- messages, from their tokens

-- a message without arguments, and what follows it
pub unary_chain : (word : List ℕ) (ms : MessageTrees) (words : TokenWords) → ((ls : Lexemes) → Spells ls words → IsChain ms 0 2 ls []) → (ls : Lexemes) → Spells ls ((kind.Name, word) ∷ words) → IsChain (messages word no_exprs ms) 0 2 ls []
unary_chain word ms words more ls k = (k.1, 0, (k.0, (k.2, k.3), sym k.4, refl, refl), more k.1 k.5)

pub no_more : (ls : Lexemes) → Spells ls [] → IsChain no_messages 0 2 ls []
no_more ls k = k

-- a message with a literal
pub literal_chain : (word : List ℕ) (v : LiteralTree) (k : TokenKind) (w : List ℕ) → IsLiteralKind k → v ≡ token_literal k w → (ls : Lexemes) → Spells ls ((kind.Keyword, word) ∷ (k, w) ∷ []) → IsChain (messages word (exprs (argument v) no_exprs) no_messages) 0 2 ls []
literal_chain word v k w lit is ls s =
    let c = s.5 in
    ([], 3, inr (s.0, s.1, c.1, [], (s.2, s.3), sym (append-nil s.0.bytes ∙ s.4), omega arith, omega arith, refl, operand v k w c.0 s.1 c.1 c.2 c.3 c.4 lit is, (c.5, refl)), refl)

-- a further keyword, with its string
pub string_part : (es : ExprTrees) (word selector more string : List ℕ) (ls : Lexemes) (ws : TokenWords) → selector ≡ word ++ more → (h : Spells ls ((kind.Keyword, word) ∷ (kind.Str, quoted 39 string) ∷ ws)) → AreParts es more h.5.1 [] → AreParts (exprs (argument (str string)) es) selector ls []
string_part es word selector more string ls ws e h rest =
    (h.0, h.1, h.5.1, more, (h.2, h.3), e ∙ ap (λ l. l ++ more) (sym h.4), operand (str string) kind.Str (quoted 39 string) h.5.0 h.1 h.5.1 h.5.2 h.5.3 h.5.4 tt (str_is string), rest)

-- a message with a symbol, and further keywords
pub symbol_chain : (word more name : List ℕ) (es : ExprTrees) (words : TokenWords) → ((ls : Lexemes) → Spells ls words → AreParts es more ls []) → (ls : Lexemes) → Spells ls ((kind.Keyword, word) ∷ (kind.Symbol, 35 ∷ name) ∷ words)
    → IsChain (messages (word ++ more) (exprs (argument (symbol name)) es) no_messages) 0 2 ls []
symbol_chain word more name es words parts ls s =
    let c = s.5 in
    ([], 3, inr (s.0, s.1, c.1, more, (s.2, s.3), ap (λ l. l ++ more) (sym s.4), omega arith, omega arith, refl, operand (symbol name) kind.Symbol (35 ∷ name) c.0 s.1 c.1 c.2 c.3 c.4 tt refl, parts c.1 c.5), refl)

-- to one side of a class, and to its organization
pub side_chain : (s : Side) (m : MessageTree) (words : TokenWords) → ((ls : Lexemes) → Spells ls words → IsChain (messages m.0 m.1 no_messages) 0 2 ls []) → (ls : Lexemes) → Spells ls (side_words s words) → IsChain (to_side (s, m)) 0 2 ls []
side_chain Instance m words more ls k = more ls k
side_chain Class m words more ls k = unary_chain (codes "class") (messages m.0 m.1 no_messages) words more ls k

organization_chain : (s : Side) (m : MessageTree) (words : TokenWords) → ((ls : Lexemes) → Spells ls words → IsChain (messages m.0 m.1 no_messages) 0 2 ls []) → (ls : Lexemes) → Spells ls (side_words s ((kind.Name, codes "organization") ∷ words)) → IsChain (to_organization (s, m)) 0 2 ls []
organization_chain Instance m words more ls k = unary_chain (codes "organization") (messages m.0 m.1 no_messages) words more ls k
organization_chain Class m words more ls k =
    unary_chain (codes "class") (messages (codes "organization") no_exprs (messages m.0 m.1 no_messages)) ((kind.Name, codes "organization") ∷ words) (unary_chain (codes "organization") (messages m.0 m.1 no_messages) words more) ls k

-- none of them opens a bracket or assigns
abbrev pub Lawful : MessageTrees → Type 0
Lawful ms = (assigns : List ℕ → Bool) → AreLawfulMessages true 0 assigns ms

pub side_lawful : (s : Side) (m : MessageTree) → Lawful (messages m.0 m.1 no_messages) → Lawful (to_side (s, m))
side_lawful Instance m h assigns = h assigns
side_lawful Class m h assigns = (tt, h assigns)

organization_lawful : (s : Side) (m : MessageTree) → Lawful (messages m.0 m.1 no_messages) → Lawful (to_organization (s, m))
organization_lawful Instance m h assigns = (tt, h assigns)
organization_lawful Class m h assigns = (tt, (tt, h assigns))

-- ---- a text that sends messages to a name, and does nothing else

abbrev pub sends_all : List ℕ → MessageTrees → ℕ → DoItParts
sends_all name ms at = alone (all_sent (record { name = name; at = at }, ms))

pub text_sends : (text name : List ℕ) (ms : MessageTrees) (words : TokenWords) → EndsIn ((kind.Name, name) ∷ words) text → ((ls : Lexemes) → Spells ls words → IsChain ms 0 2 ls []) → Lawful ms → (at : ℕ) × IsDoItOf text (sends_all name ms at)
text_sends text name ms words spell chain lawful =
    let h = spelled text ((kind.Name, name) ∷ words) spell in
    let s = words_spell text h.tokens ((kind.Name, name) ∷ words) h.are_words in (
      s.0.at,
      record {
        tokens = h.tokens;
        are_tokens = ended text ((kind.Name, name) ∷ words) h;
        doit = (_, inr (refl, refl), (_, [], [], refl, (_, s.1, [], refl, (s.0, (s.2, s.3), sym s.4, refl), chain s.1 s.5, tt, refl), inr refl, refl));
        lawful = ((tt, tt, lawful _, tt), tt);
      },
    )

pub not_reserved : (name : List ℕ) → IsName name → is_reserved name ≡ false
not_reserved name h = not-true (is_reserved name) (and_parts (is_identifier name) (not (is_reserved name)) h).1

-- ---- the forms

smalltalk_free : is_reserved smalltalk ≡ false
unfolding is_reserved
smalltalk_free = refl

-- a name is a selector
name_selects : (name : List ℕ) → IsName name → IsSelectorWord name
name_selects name h = (0, inl (name_is name (identifier_of name h), refl))

-- a name, one message with a literal to a side
pub literal_sent : (text name : List ℕ) (s : Side) (word : List ℕ) (v : LiteralTree) (k : TokenKind) (w : List ℕ) → IsLiteralKind k → v ≡ token_literal k w → ((depth : ℕ) → IsLawfulLiteral true depth v)
    → EndsIn ((kind.Name, name) ∷ side_words s ((kind.Keyword, word) ∷ (k, w) ∷ [])) text → (at : ℕ) × IsDoItOf text (sends_all name (to_side (s, with_literal word v)) at)
literal_sent text name s word v k w lit is fits spell =
    text_sends text name (to_side (s, with_literal word v)) (side_words s ((kind.Keyword, word) ∷ (k, w) ∷ [])) spell
    (side_chain s (with_literal word v) ((kind.Keyword, word) ∷ (k, w) ∷ []) (literal_chain word v k w lit is))
    (side_lawful s (with_literal word v) (λ assigns. (((tt, fits 0, tt, tt), tt), tt)))

-- a name, and a message without arguments
unary_sent : (text name word : List ℕ) → EndsIn ((kind.Name, name) ∷ (kind.Name, word) ∷ []) text → (at : ℕ) × IsDoItOf text (sends_all name (to_side (Instance, unary word)) at)
unary_sent text name word spell =
    text_sends text name (to_side (Instance, unary word)) ((kind.Name, word) ∷ []) spell (unary_chain word no_messages [] no_more) (λ assigns. (tt, tt))

-- the definition of a class
kind_word : (k : Kind) (words : TokenWords) (rest : List ℕ) → EndsIn words (32 ∷ rest) → EndsIn ((kind.Keyword, defining_word k) ∷ words) (defining_word k ++ 32 ∷ rest)
kind_word Plain words rest h = then_keyword (codes "subclass") words (32 ∷ rest) refl refl h
kind_word Pointers words rest h = then_keyword (codes "variableSubclass") words (32 ∷ rest) refl refl h
kind_word Bytes words rest h = then_keyword (codes "variableByteSubclass") words (32 ∷ rest) refl refl h
kind_word Words words rest h = then_keyword (codes "variableWordSubclass") words (32 ∷ rest) refl refl h

abbrev keyword_string : List ℕ → List ℕ → TokenWords → TokenWords
keyword_string word string words = (kind.Keyword, word) ∷ (kind.Str, quoted 39 string) ∷ words

abbrev words_from_pools : Definition → TokenWords
words_from_pools d = keyword_string (codes "poolDictionaries:") (joined d.pools) (keyword_string (codes "category:") d.category [])

abbrev words_from_lines : Definition → TokenWords
words_from_lines d = keyword_string (codes "instanceVariableNames:") (joined d.inst_vars) (keyword_string (codes "classVariableNames:") (joined d.class_vars) (words_from_pools d))

abbrev definition_words : Definition → TokenWords
definition_words d = (kind.Keyword, defining_word d.kind) ∷ (kind.Symbol, 35 ∷ d.class_name) ∷ words_from_lines d

definition_spelled : (d : Definition) → IsLawfulForm (Define d) → EndsIn ((kind.Name, d.superclass) ∷ definition_words d) (definition_text d)
definition_spelled d h =
    let lines_end : EndsIn (words_from_lines d) (lines d) =
    then_line (codes "instanceVariableNames") (joined d.inst_vars) _ _ refl refl
    (then_line (codes "classVariableNames") (joined d.class_vars) _ _ refl refl
    (then_line (codes "poolDictionaries") (joined d.pools) _ _ refl refl
    (then_line (codes "category") d.category [] [] refl refl nothing_more))) in
    subst (EndsIn ((kind.Name, d.superclass) ∷ definition_words d)) (sym (spread d))
    (then_name d.superclass (definition_words d) _ (identifier_of d.superclass h.names.superclass) space
    (behind 32 _ _ refl (kind_word d.kind _ (35 ∷ (d.class_name ++ lines d))
    (behind 32 _ _ refl (then_symbol d.class_name (words_from_lines d) (lines d) (name_selects d.class_name h.names.class_name) line_feed lines_end)))))

abbrev string_arguments : Definition → ExprTrees
string_arguments d = exprs (argument (str (joined d.inst_vars))) (exprs (argument (str (joined d.class_vars))) (exprs (argument (str (joined d.pools))) (exprs (argument (str d.category)) no_exprs)))

definition_parts : (d : Definition) (ls : Lexemes) → (i : Spells ls (words_from_lines d)) → AreParts (string_arguments d) (codes "instanceVariableNames:classVariableNames:poolDictionaries:category:") ls []
definition_parts d ls i =
    let v = i.5.5 in
    let p = v.5.5 in
    let g = p.5.5 in
    let category = string_part no_exprs (codes "category:") (codes "category:") [] d.category p.5.1 [] refl g (g.5.5, refl) in
    let pools = string_part (exprs (argument (str d.category)) no_exprs) (codes "poolDictionaries:") (codes "poolDictionaries:category:") (codes "category:") (joined d.pools) v.5.1 (keyword_string (codes "category:") d.category []) refl p category in
    let class_vars = string_part (exprs (argument (str (joined d.pools))) (exprs (argument (str d.category)) no_exprs)) (codes "classVariableNames:") (codes "classVariableNames:poolDictionaries:category:") (codes "poolDictionaries:category:") (joined d.class_vars) i.5.1 (words_from_pools d) refl v pools in
    string_part (exprs (argument (str (joined d.class_vars))) (exprs (argument (str (joined d.pools))) (exprs (argument (str d.category)) no_exprs))) (codes "instanceVariableNames:") (codes "instanceVariableNames:classVariableNames:poolDictionaries:category:") (codes "classVariableNames:poolDictionaries:category:") (joined d.inst_vars) ls
    (keyword_string (codes "classVariableNames:") (joined d.class_vars) (words_from_pools d)) refl i class_vars

definition_sent : (d : Definition) → IsLawfulForm (Define d) → (at : ℕ) × IsDoItOf (definition_text d) (sends_all d.superclass (to_side (Instance, (defining_selector d.kind, are_arguments (d.class_name, joined d.inst_vars, joined d.class_vars, joined d.pools, d.category)))) at)
definition_sent d h =
    text_sends (definition_text d) d.superclass _ (definition_words d) (definition_spelled d h)
    (symbol_chain (defining_word d.kind) (codes "instanceVariableNames:classVariableNames:poolDictionaries:category:") d.class_name (string_arguments d) (words_from_lines d) (definition_parts d))
    (λ assigns. (((tt, tt, tt, tt), ((tt, tt, tt, tt), ((tt, tt, tt, tt), ((tt, tt, tt, tt), ((tt, tt, tt, tt), tt))))), tt))

-- a method put under a category
classified : (name : List ℕ) (s : Side) (selector category : List ℕ) → IsName name → IsSelectorWord selector → (at : ℕ) × IsDoItOf (form_text (Classify name s selector category)) (sends_all name (to_organization (s, classifying selector category)) at)
classified name s selector category h k =
    let last : TokenWords = (kind.Keyword, codes "under:") ∷ (kind.Str, quoted 39 category) ∷ [] in
    let words : TokenWords = (kind.Keyword, codes "classify:") ∷ (kind.Symbol, 35 ∷ selector) ∷ last in
    let under : EndsIn last (codes " under: " ++ quoted 39 category) = behind 32 _ _ refl (last_keyword_string (codes "under") category refl) in
    let from_symbol : EndsIn ((kind.Symbol, 35 ∷ selector) ∷ last) (35 ∷ (selector ++ (codes " under: " ++ quoted 39 category))) = then_symbol selector last _ k space under in
    let from_word : EndsIn words (codes " classify: #" ++ (selector ++ (codes " under: " ++ quoted 39 category))) = behind 32 _ _ refl (then_keyword (codes "classify") _ _ refl refl (behind 32 _ _ refl from_symbol)) in
    let from_organization : EndsIn ((kind.Name, codes "organization") ∷ words) (codes " organization classify: #" ++ (selector ++ (codes " under: " ++ quoted 39 category))) = behind 32 _ _ refl (then_name (codes "organization") words _ refl space from_word) in
    text_sends _ name (to_organization (s, classifying selector category)) (side_words s ((kind.Name, codes "organization") ∷ words)) (then_named name s _ _ (identifier_of name h) from_organization)
    (organization_chain s (classifying selector category) words (symbol_chain (codes "classify:") (codes "under:") selector (exprs (argument (str category)) no_exprs) last (λ ls i. string_part no_exprs (codes "under:") (codes "under:") [] category ls [] refl i (i.5.5, refl))))
    (organization_lawful s (classifying selector category) (λ assigns. (((tt, tt, tt, tt), ((tt, tt, tt, tt), tt)), tt)))

-- the text of each lawful form
pub has_text : (form : Form) → IsLawfulForm form → IsFormText (form_text form) form
has_text (Define d) h =
    let is = definition_sent d h in record {
      tree = _;
      tree_is = is.1;
      form_is = (
        record {
          at = is.0;
          inst_vars = joined d.inst_vars;
          class_vars = joined d.class_vars;
          pools = joined d.pools;
          sending = record { tree_is = refl; receiver = not_reserved d.superclass h.names.superclass };
          inst_vars_are = sym (joined_split d.inst_vars h.names.inst_vars);
          class_vars_are = sym (joined_split d.class_vars h.names.class_vars);
          pools_are = sym (joined_split d.pools h.names.pools);
        },
        h.brief,
      );
    }
has_text (ClassVars name names) h =
    let is = literal_sent (form_text (ClassVars name names)) name Class (codes "instanceVariableNames:") (str (joined names)) kind.Str (quoted 39 (joined names)) tt (str_is (joined names)) (λ depth. tt)
    (then_named name Class _ _ (identifier_of name h.names.0) (behind 32 _ _ refl (last_keyword_string (codes "instanceVariableNames") (joined names) refl))) in
    record { tree = _; tree_is = is.1; form_is = ((joined names, (is.0, record { tree_is = refl; receiver = not_reserved name h.names.0 }), sym (joined_split names h.names.1)), h.brief) }
has_text (Comment name text) h =
    let is = literal_sent (form_text (Comment name text)) name Instance (codes "comment:") (str text) kind.Str (quoted 39 text) tt (str_is text) (λ depth. tt)
    (then_named name Instance _ _ (identifier_of name h.names) (behind 32 _ _ refl (last_keyword_string (codes "comment") text refl))) in
    record { tree = _; tree_is = is.1; form_is = ((is.0, record { tree_is = refl; receiver = not_reserved name h.names }), h.brief) }
has_text (RemoveMethod name s selector) h =
    let is = literal_sent (form_text (RemoveMethod name s selector)) name s (codes "removeSelector:") (symbol selector) kind.Symbol (35 ∷ selector) tt refl (λ depth. tt)
    (then_named name s _ _ (identifier_of name h.names.0) (behind 32 _ _ refl (then_keyword (codes "removeSelector") _ _ refl refl (behind 32 _ _ refl (last_symbol selector h.names.1))))) in
    record { tree = _; tree_is = is.1; form_is = ((is.0, record { tree_is = refl; receiver = not_reserved name h.names.0 }), h.brief) }
has_text (Classify name s selector category) h =
    let is = classified name s selector category h.names.0 h.names.1 in
    record { tree = _; tree_is = is.1; form_is = ((is.0, record { tree_is = refl; receiver = not_reserved name h.names.0 }), h.brief) }
has_text (RemoveClass name) h =
    let is = literal_sent (form_text (RemoveClass name)) smalltalk Instance (codes "removeClassNamed:") (symbol name) kind.Symbol (35 ∷ name) tt refl (λ depth. tt)
    (then_named smalltalk Instance _ _ refl (behind 32 _ _ refl (then_keyword (codes "removeClassNamed") _ _ refl refl (behind 32 _ _ refl (last_symbol name (name_selects name h.names)))))) in
    record { tree = _; tree_is = is.1; form_is = (inl (is.0, record { tree_is = refl; receiver = smalltalk_free }), h.brief) }
has_text NoChanges h =
    let is = unary_sent (form_text NoChanges) smalltalk (codes "noChanges") (then_named smalltalk Instance _ _ refl (behind 32 _ _ refl (last_name (codes "noChanges") refl))) in
    record { tree = _; tree_is = is.1; form_is = ((is.0, record { tree_is = refl; receiver = smalltalk_free }), h.brief) }

-- so a text is that of one lawful form at most
pub text_same : (one other : Form) → IsLawfulForm one → IsLawfulForm other → form_text one ≡ form_text other → one ≡ other
text_same one other h k e = form_of_text_same (form_text one) one other (has_text one h) (subst (λ t. IsFormText t other) (sym e) (has_text other k))
