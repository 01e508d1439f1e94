-- Walks over lists: what was counted and what is left are all.
use Rattle.std.proofs.Common.{◌≡◌, ℕ, ◌+◌, arith, Bool, true, false, ◌&&◌, cond, List, [], ◌∷◌, ◌++◌, refl, ap, sym, ◌∙◌, true≢false}
use Rattle.std.proofs.lemmas.List.{append-nil}
use Rattle.s80_tree.specs.declared.name.NameAt.{NameAt}
use Rattle.s80_tree.specs.Tree.{ExprTree, PrimaryTree, ExprTrees, MessageTrees, BodyTree, expr, block, exprs, no_messages, messages, no_stmts, stmts, is_bare}
use Rattle.s80_scope.specs.declared.fit.counts.Counts.{Counts}
use Rattle.s80_scope.specs.declared.fit.ending.Ending.{Ending}
use Rattle.s80_scope.specs.declared.fit.position.Position.{Position}
use Rattle.s80_scope.specs.declared.fit.position.Position.TheVariants.{Value}
use Rattle.s80_scope.specs.declared.fit.position.Leaves.{Leaves}
use Rattle.s80_scope.specs.declared.fit.position.Leaves.TheVariants as leaves
use Rattle.s80_scope.specs.FitLiterals.{Entry, Keys, messages_entries, exprs_entries, selector_entries, expr_entries, primary_entries}
use Rattle.s80_scope.specs.FitWeight.{arm_leaves, arm_position, arms_weight, arguments_weight, own_weight}
use Rattle.s80_scope.specs.FitStack.{greatest, arms_needs, arguments_needs, exprs_parameters, values_below}
use Rattle.s80_scope.specs.FitStack as stack
use Rattle.s80_scope.specs.Inlined.{is_inlined, is_arm, is_plain_block, are_arms}
use Rattle.s80_scope.specs.Walk.{cut_off, both, none, heavier, at_least, counts, last_has_arms, with_entries, arguments_counts, arms_counts, arm_counts, messages_counts, sent_counts, last_counts, body_counts, statement_counts}
use Rattle.s80_scope.proofs.Cut.{same_counts, joined, both_none, none_both, both_assoc}
use Rattle.s80_scope.proofs.KeySets.{with_append}

abbrev pub IsMore : MessageTrees → Type 0
IsMore no_messages = ⊥
IsMore (messages s es ms) = Unit {0}

abbrev pub IsMoreStatements : BodyTree → Type 0
IsMoreStatements no_stmts = ⊥
IsMoreStatements (stmts r e ss) = Unit {0}

-- what was counted, and what is left
pub record Goes (left all counted : Counts) : Type 0 where
  pub exact : Counts
  pub is : counted ≡ cut_off exact
  pub rest : both exact left ≡ all

pub goes_start : {left all : Counts} → left ≡ all → Goes left all none
goes_start {left = left} e = record { exact = none; is = refl; rest = none_both left ∙ e }

pub goes_on : {left all counted next : Counts} (m more : Counts) → Goes left all counted → left ≡ both m more → next ≡ cut_off m → Goes more all (cut_off (both counted next))
goes_on m more g split n = record {
  exact = both g.exact m;
  is = joined g.exact m g.is n;
  rest = both_assoc g.exact m more ∙ ap (both g.exact) (sym split) ∙ g.rest;
}

pub goes_end : {left all counted : Counts} → Goes left all counted → left ≡ none → counted ≡ cut_off all
goes_end g done = g.is ∙ ap cut_off (sym (both_none g.exact) ∙ ap (both g.exact) (sym done) ∙ g.rest)

-- the same of entries
pub entries_on : (old now next : Keys) (left all xs more : List Entry) → with_entries now left ≡ with_entries old all → left ≡ xs ++ more → next ≡ with_entries now xs → with_entries next more ≡ with_entries old all
entries_on old now next left all xs more goes split is = ap (λ s. with_entries s more) is ∙ sym (with_append now xs more) ∙ ap (with_entries now) (sym split) ∙ goes

pub entries_end : (old now : Keys) (left all : List Entry) → with_entries now left ≡ with_entries old all → left ≡ [] → now ≡ with_entries old all
entries_end old now left all goes done = ap (with_entries now) (sym done) ∙ goes

-- ---- messages

pub last_is : (position : Position) (before last : Ending) (s : List ℕ) (es : ExprTrees) → messages_counts position before last (messages s es no_messages) ≡ both (last_counts position last es) none
last_is position before last s es = by_test (is_inlined last)
  where
    by_test : (b : Bool)
        → counts (greatest (cond b (arms_needs es) (arguments_needs (values_below last) es)) (stack.at_least (values_below last))) (exprs_parameters es + 0)
        (cond b (arms_weight (arm_position position last) es) (arguments_weight es) + own_weight position last)
        ≡ both (heavier (own_weight position last) (at_least (values_below last) (cond b (arms_counts (arm_position position last) es) (arguments_counts (values_below last) es)))) none
    by_test true = same_counts (omega arith) (omega arith) refl (omega arith)
    by_test false = same_counts (omega arith) (omega arith) refl (omega arith)

pub last_inlined : (position : Position) (last : Ending) (es : ExprTrees) → is_inlined last ≡ true
    → last_counts position last es ≡ heavier (own_weight position last) (at_least (values_below last) (arms_counts (arm_position position last) es))
last_inlined position last es e = ap (λ b. heavier (own_weight position last) (at_least (values_below last) (cond b (arms_counts (arm_position position last) es) (arguments_counts (values_below last) es)))) e

pub last_sent : (position : Position) (last : Ending) (es : ExprTrees) → is_inlined last ≡ false → last_counts position last es ≡ sent_counts position last es
last_sent position last es e = ap (λ b. heavier (own_weight position last) (at_least (values_below last) (cond b (arms_counts (arm_position position last) es) (arguments_counts (values_below last) es)))) e

-- a message before others is sent
pub next_is : (position : Position) (before last : Ending) (s : List ℕ) (es : ExprTrees) (ms : MessageTrees) → IsMore ms
    → messages_counts position before last (messages s es ms) ≡ both (sent_counts Value before es) (messages_counts position before last ms)
next_is position before last s es no_messages more = absurd more
next_is position before last s es (messages t fs ms) more = refl

pub last_entries : (declared : List ℕ → Bool) (first others inlined : Bool) (s : List ℕ) (es : ExprTrees)
    → messages_entries declared first others inlined (messages s es no_messages) ≡ (exprs_entries declared es ++ cond inlined [] (selector_entries first s)) ++ []
last_entries declared first others inlined s es = sym (append-nil (exprs_entries declared es ++ cond inlined [] (selector_entries first s)))

pub next_entries : (declared : List ℕ → Bool) (first others inlined : Bool) (s : List ℕ) (es : ExprTrees) (ms : MessageTrees) → IsMore ms
    → messages_entries declared first others inlined (messages s es ms) ≡ (exprs_entries declared es ++ selector_entries first s) ++ messages_entries declared others others inlined ms
next_entries declared first others inlined s es no_messages more = absurd more
next_entries declared first others inlined s es (messages t fs ms) more = refl

pub next_arms : (s : List ℕ) (es : ExprTrees) (ms : MessageTrees) → last_has_arms (messages s es ms) ≡ true → last_has_arms ms ≡ true
next_arms s es no_messages e = refl
next_arms s es (messages t fs ms) e = e

-- ---- arms

pub arm_is : (declared : List ℕ → Bool) (position : Position) (ns : List NameAt) (ps : List NameAt) (ss : BodyTree) (ms cs : MessageTrees) → is_arm (expr ns (block ps ss) ms cs) ≡ true
    → (arm_counts position (expr ns (block ps ss) ms cs) ≡ body_counts (arm_leaves position) ss) × (expr_entries declared (expr ns (block ps ss) ms cs) ≡ primary_entries declared (block ps ss))
arm_is declared position [] [] ss no_messages no_messages e =
    (same_counts refl refl (omega arith) refl, append-nil ((primary_entries declared (block [] ss) ++ []) ++ []) ∙ append-nil (primary_entries declared (block [] ss) ++ []) ∙ append-nil (primary_entries declared (block [] ss)))
arm_is declared position [] (p ∷ ps) ss no_messages no_messages e = absurd (true≢false (sym e))
arm_is declared position [] ps ss no_messages (messages s es cs) e = absurd (true≢false (sym e))
arm_is declared position [] ps ss (messages s es ms) cs e = absurd (true≢false (sym e))
arm_is declared position (n ∷ ns) ps ss ms cs e = absurd (true≢false (sym e))

pub arm_block : (e : ExprTree) (ns : List NameAt) (p : PrimaryTree) (ms cs : MessageTrees) → e ≡ expr ns p ms cs → is_arm e ≡ true → is_plain_block p ≡ true
arm_block e ns p ms cs is arm = second (is_bare (expr ns p ms cs)) (is_plain_block p) (sym (ap is_arm is) ∙ arm)
  where
    second : (a b : Bool) → (a && b) ≡ true → b ≡ true
    second true b e = e
    second false b e = absurd (true≢false (sym e))

pub first_arm : (e : ExprTree) (es : ExprTrees) → are_arms (exprs e es) ≡ true → is_arm e ≡ true
first_arm e es arms = by_test (is_arm e) arms
  where
    by_test : (a : Bool) → (a && are_arms es) ≡ true → a ≡ true
    by_test true f = refl
    by_test false f = f

pub other_arms : (e : ExprTree) (es : ExprTrees) → are_arms (exprs e es) ≡ true → are_arms es ≡ true
other_arms e es arms = by_test (is_arm e) arms
  where
    by_test : (a : Bool) → (a && are_arms es) ≡ true → are_arms es ≡ true
    by_test true f = f
    by_test false f = absurd (true≢false (sym f))

-- ---- statements

-- what is left of a body that isn't empty
abbrev pub rest_counts : Leaves → BodyTree → Counts
rest_counts l no_stmts = none
rest_counts l (stmts r e ss) = body_counts l (stmts r e ss)

pub last_statement : (l : Leaves) (r : Bool) (e : ExprTree) → rest_counts l (stmts r e no_stmts) ≡ both (statement_counts l r e) none
last_statement l r e = same_counts refl refl refl (omega arith)

pub next_statement : (l : Leaves) (r : Bool) (e : ExprTree) (ss : BodyTree) → IsMoreStatements ss → rest_counts l (stmts r e ss) ≡ both (statement_counts leaves.Nothing r e) (rest_counts l ss)
next_statement l r e no_stmts more = absurd more
next_statement l r e (stmts q f ss) more = refl
