-- A method has no more literals than its tree has parts.
use Rattle.std.proofs.Common.{◌≡◌, ℕ, ◌+◌, ◌≤◌, List, [], ◌∷◌, ◌++◌, Bool, true, false, cond, length, map, pos, negsuc, arith, length-append, if◌then◌else◌, nat_le, not, ◌&&◌, ◌||◌}
use Rattle.std.specs.Ordering.{nat_cmp}
use Rattle.std.specs.Cmp.Lexicographic.{slice_cmp, nat_list_cmp_total}
use Rattle.std.specs.FinSet as set
use Rattle.std.proofs.lemmas.List.{length-map}
use Rattle.s80_base.specs.Literal.{LiteralTree, small, character, str, symbol, array, true_literal, false_literal, nil_literal, number}
use Rattle.s80_tree.specs.declared.name.NameAt.{NameAt}
use Rattle.s80_tree.specs.Tree.{ExprTree, PrimaryTree, ExprTrees, MessageTrees, BodyTree, MethodParts, expr, name, literal, block, paren, no_exprs, exprs, no_messages, messages, no_stmts, stmts, is_super}
use Rattle.s80_syntax.specs.Word.{is_reserved}
use Rattle.s80_scope.specs.Inlined.{ending, is_inlined, is_single}
use Rattle.s80_scope.specs.FitLiterals.{Entry, constant, variable, constant_entries, name_entries, is_special, selector_entries, target_entries, declares, expr_entries, primary_entries, messages_entries, exprs_entries, body_entries, entries, key, literal_count}
use Rattle.s80_change.proofs.TreeSizes.{expr_size, primary_size, messages_size, exprs_size, body_size}

abbrev Declared : Type 0
Declared = List ℕ → Bool

none_or_one : (b : Bool) (x : Entry) → length (if b then [] else (x ∷ [])) ≤ 1
none_or_one true x = omega arith
none_or_one false x = omega arith

none_or : (b : Bool) (xs : List Entry) (n : ℕ) → length xs ≤ n → length (cond b [] xs) ≤ n
none_or true xs n le = omega arith
none_or false xs n le = le

one_constant : (v : LiteralTree) → length (constant_entries v) ≤ 1
one_constant (small (pos n)) = none_or_one (nat_le n 2) (constant (small (pos n)))
one_constant (small (negsuc n)) = none_or_one (nat_le n 0) (constant (small (negsuc n)))
one_constant (character c) = omega arith
one_constant (str bytes) = omega arith
one_constant (symbol bytes) = omega arith
one_constant (array vs) = omega arith
one_constant true_literal = omega arith
one_constant false_literal = omega arith
one_constant nil_literal = omega arith
one_constant (number k bytes) = omega arith

one_name : (here : Declared) (word : List ℕ) → length (name_entries here word) ≤ 1
one_name here word = none_or_one (here word || is_reserved word) (variable word)

one_selector : (to_super : Bool) (s : List ℕ) → length (selector_entries to_super s) ≤ 1
one_selector to_super s = none_or_one (not to_super && is_special s) (constant (symbol s))

target_few : (here : Declared) (ns : List NameAt) → length (target_entries here ns) ≤ length ns
target_few here [] = omega arith
target_few here (n ∷ ns) =
    omega (arith, target_few here ns, one_name here n.name, length-append (target_entries here ns) (name_entries here n.name))

message_few : (here : Declared) (first others inlined : Bool) (s : List ℕ) (es : ExprTrees) (ms : MessageTrees) → length (exprs_entries here es) ≤ exprs_size es → length (messages_entries here others others inlined ms) ≤ messages_size ms → length (messages_entries here first others inlined (messages s es ms)) ≤ messages_size (messages s es ms)
message_few here first others inlined s es no_messages given more =
    omega (arith, given, none_or inlined (selector_entries first s) 1 (one_selector first s), length-append (exprs_entries here es) (cond inlined [] (selector_entries first s)))
message_few here first others inlined s es (messages t fs ms) given more =
    omega (arith, given, more, one_selector first s, length-append (exprs_entries here es) (selector_entries first s), length-append (exprs_entries here es ++ selector_entries first s) (messages_entries here others others inlined (messages t fs ms)))

four_lengths : (a b c d : List Entry) → length (a ++ b ++ c ++ d) ≡ length a + length b + length c + length d
four_lengths a b c d =
    omega (arith, length-append (a ++ b ++ c) d, length-append (a ++ b) c, length-append a b, length-append a (b ++ (c ++ d)), length-append b (c ++ d), length-append c d)

mutual
  expr_few : (here : Declared) (e : ExprTree) → length (expr_entries here e) ≤ expr_size e
  expr_few here (expr targets p ms cs) =
      omega (
        arith,
        primary_few here p,
        messages_few here (is_super p) false (is_inlined (ending p ms cs)) ms,
        messages_few here (is_super p && is_single ms) (is_super p && is_single ms) false cs,
        target_few here targets,
        four_lengths (primary_entries here p) (messages_entries here (is_super p) false (is_inlined (ending p ms cs)) ms) (messages_entries here (is_super p && is_single ms) (is_super p && is_single ms) false cs) (target_entries here targets),
      )

  primary_few : (here : Declared) (p : PrimaryTree) → length (primary_entries here p) ≤ primary_size p
  primary_few here (name n) = one_name here n.name
  primary_few here (literal v) = one_constant v
  primary_few here (paren e) = omega (arith, expr_few here e)
  primary_few here (block ps ss) =
      omega (arith, one_constant (small (pos (length ps))), body_few (declares ps here) ss, length-append (constant_entries (small (pos (length ps)))) (body_entries (declares ps here) ss))

  messages_few : (here : Declared) (first others inlined : Bool) (ms : MessageTrees) → length (messages_entries here first others inlined ms) ≤ messages_size ms
  messages_few here first others inlined no_messages = omega arith
  messages_few here first others inlined (messages s es ms) = message_few here first others inlined s es ms (exprs_few here es) (messages_few here others others inlined ms)

  exprs_few : (here : Declared) (es : ExprTrees) → length (exprs_entries here es) ≤ exprs_size es
  exprs_few here no_exprs = omega arith
  exprs_few here (exprs e es) = omega (arith, expr_few here e, exprs_few here es, length-append (expr_entries here e) (exprs_entries here es))

  body_few : (here : Declared) (ss : BodyTree) → length (body_entries here ss) ≤ body_size ss
  body_few here no_stmts = omega arith
  body_few here (stmts r e ss) = omega (arith, expr_few here e, body_few here ss, length-append (expr_entries here e) (body_entries here ss))

at_most_one : (b : Bool) (n : ℕ) → cond b n (n + 1) ≤ n + 1
at_most_one true n = omega arith
at_most_one false n = omega arith

-- a set has no more members than the list from which it was made
no_more : (ks : List (List ℕ)) → set.len {R = slice_cmp nat_cmp} (set.from_list ks) ≤ length ks
no_more [] = omega (arith, set.len-empty (slice_cmp nat_cmp))
no_more (k ∷ ks) =
    let before = set.from_list {R = slice_cmp nat_cmp} ks in
    omega (arith, no_more ks, set.len-insert nat_list_cmp_total before k, at_most_one (set.contains before k) (set.len before))

pub literals_most : (m : MethodParts) → literal_count m ≤ body_size m.body
literals_most m =
    omega (arith, no_more (map key (entries m)), length-map (entries m) key, body_few (declares m.temporaries (declares m.parameters (λ word. false))) m.body)
