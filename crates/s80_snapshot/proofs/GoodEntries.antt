-- The entries that the code of a brief tree asks for are good: their literals are brief, and their names lawful.
use Rattle.std.proofs.Common.{◌≡◌, ◌∙◌, ◌<◌, ◌+◌, ◌^◌, ◌||◌, ◌&&◌, not, ◌++◌, ℕ, Bool, cond, true, false, refl, ap, subst, List, [], ◌∷◌, length, Option, Some, None, find}
use Rattle.std.specs.Prelude.{pos}
use Rattle.std.specs.List.{AllByRecursion}
use Rattle.std.specs.Option.{option_map, option_map_or}
use Rattle.std.specs.Str.{bytes_eq}
use Rattle.s80_base.specs.Literal.{LiteralTree, small, symbol}
use Rattle.s80_form.specs.Name.{IsBrief, is_class_name, is_name}
use Rattle.s80_lex.proofs.lemmas.SelectorLemmas.{is_name_when}
use Rattle.s80_code.specs.Entries.{EntryTree, constant, class_variable, outer, owner, extension}
use Rattle.s80_tree.specs.declared.name.NameAt.{NameAt}
use Rattle.s80_tree.specs.Tree.{ExprTree, PrimaryTree, ExprTrees, MessageTrees, BodyTree, MethodParts, expr, name, literal, block, paren, no_exprs, exprs, no_messages, messages, no_stmts, stmts, is_super}
use Rattle.s80_syntax.specs.Word.{has_name, is_reserved, reserved_words}
use Rattle.s80_scope.specs.declared.shape.Binding.{Binding}
use Rattle.s80_scope.specs.declared.shape.Shape.{Shape}
use Rattle.s80_scope.specs.Shape as meant
use Rattle.s80_scope.specs.Shape.{WhereTree}
use Rattle.s80_scope.specs.Names.{declarations_of, declares, last_place, means, reserved_meanings, word_means}
use Rattle.s80_scope.specs.Inlined.{ending, is_loop}
use Rattle.s80_scope.specs.FitStack.{expr_parameters, primary_parameters, messages_parameters, exprs_parameters}
use Rattle.s80_scope.specs.declared.fit.ending.Ending.{Ending}
use Rattle.s80_scope.specs.declared.fit.ending.Ending.TheVariants.{Sent, Cascaded, TwoArms, OneArm, Shortcut, Loop}
use Rattle.s80_core.specs.Core.{CoreTree, CoreTrees, SendTrees, send, no_cores, cores}
use Rattle.s80_core.specs.Elaborate.{assigned, first_of, second_of, last_core, leaf_meant, target_meant, expr_core, receiver_core, chain_core, sends_core, exprs_core, arms_core, arm_core, body_core, method_end, elaborated, statement}
use Rattle.s80_core.specs.Measures.{constant_entries, entries, entries_all, entries_sends, fixed_number, leaf_entries, selector_entries, sent_number, variable_entries}
use Rattle.s80_core.proofs.lemmas.CoverEnds.{KeepsAtEnds, statement_kept, last_kept, empty_kept}
use Rattle.s80_snapshot.proofs.BriefLiterals.{IsBriefLiteral}
use Rattle.s80_snapshot.proofs.InLists.{all_back, all_both, all_front}
use Rattle.s80_snapshot.proofs.BriefTrees.{AreBriefExprs, AreBriefMessages, IsBriefBody, IsBriefExpr, IsBriefName, IsBriefPrimary}

-- ---- good entries

pub record IsGoodClass (class : List ℕ) : Type 0 where
  pub named : is_class_name class ≡ true
  pub brief : IsBrief class

pub record IsGoodWord (word : List ℕ) : Type 0 where
  pub named : is_name word ≡ true
  pub brief : IsBrief word

abbrev pub IsGoodEntry : EntryTree → Type 0
IsGoodEntry (constant v) = IsBriefLiteral v
IsGoodEntry (class_variable class word) = IsGoodClass class × IsGoodWord word
IsGoodEntry (outer word) = IsGoodWord word
IsGoodEntry (owner class side) = IsGoodClass class
IsGoodEntry (extension n) = n < 2 ^ 32

abbrev pub AreGood : List EntryTree → Type 0
AreGood es = AllByRecursion IsGoodEntry es

pub good_both : (xs ys : List EntryTree) → AreGood xs → AreGood ys → AreGood (xs ++ ys)
good_both xs ys first second = all_both IsGoodEntry xs ys first second

-- the class variables that a class sees
abbrev pub AreGoodBindings : List Binding → Type 0
AreGoodBindings bs = AllByRecursion (λ (b : Binding). IsGoodClass b.owner × IsGoodWord b.name) bs

-- ---- what a name means

abbrev IsGoodMeaning : WhereTree → Type 0
IsGoodMeaning (meant.temp number) = Unit {0}
IsGoodMeaning (meant.inst place) = Unit {0}
IsGoodMeaning (meant.class_var class word) = IsGoodClass class × IsGoodWord word
IsGoodMeaning (meant.outer word) = IsGoodWord word
IsGoodMeaning meant.self_ref = Unit {0}
IsGoodMeaning meant.super_ref = Unit {0}
IsGoodMeaning meant.context = Unit {0}
IsGoodMeaning (meant.constant v) = IsBriefLiteral v

found_in : {X : Type 0} (P : X → Type 0) (test : X → Bool) (xs : List X) → AllByRecursion P xs → (x : X) → find test xs ≡ Some x → P x
found_in P test [] all x is = absurd (let bad : None ≡ Some x = is in cc)
found_in P test (y ∷ xs) all x is = go (test y) is (found_in P test xs all.1 x)
  where
    go : (b : Bool) → cond b (Some y) (find test xs) ≡ Some x → (find test xs ≡ Some x → P x) → P x
    go true here more = let same : y ≡ x = cc in subst P same all.0
    go false rest more = more rest

none_in : {X : Type 0} (test : X → Bool) (xs : List X) → find test xs ≡ None → AllByRecursion (λ x. test x ≡ false) xs
none_in test [] is = tt
none_in test (y ∷ xs) is = go (test y) refl is (none_in test xs)
  where
    go : (b : Bool) → test y ≡ b → cond b (Some y) (find test xs) ≡ None → (find test xs ≡ None → AllByRecursion (λ x. test x ≡ false) xs)
        → AllByRecursion (λ x. test x ≡ false) (y ∷ xs)
    go true at some more = absurd (let bad : Some y ≡ None = some in cc)
    go false at none more = (at, more none)

any_false : (word : List ℕ) (names : List (List ℕ)) → AllByRecursion (λ n. bytes_eq word n ≡ false) names → has_name names word ≡ false
any_false word [] all = refl
any_false word (n ∷ names) all = ap (λ b. b || has_name names word) all.0 ∙ any_false word names all.1

abbrev Row : Type 0
Row = List ℕ × WhereTree

not_reserved : (word : List ℕ) → find (λ (r : Row). bytes_eq word r.0) reserved_meanings ≡ None → is_reserved word ≡ false
unfolding is_reserved
not_reserved word none =
    let all = none_in (λ (r : Row). bytes_eq word r.0) reserved_meanings none in
    any_false word reserved_words (all.0, (all.1.0, (all.1.1.1.0, (all.1.1.1.1.0, (all.1.1.1.1.1.0, (all.1.1.0, tt))))))

name_good : (n : NameAt) → IsBriefName n → is_reserved n.name ≡ false → IsGoodWord n.name
name_good n brief free = record { named = ap (λ b. b && not (is_reserved n.name)) (is_name_when n.name brief.named) ∙ ap not free; brief = brief.brief }

module _ (shape : Shape) (bindings : AreGoodBindings shape.class_vars) (n : NameAt) (brief : IsBriefName n) where
  beyond : (number place : Option ℕ) (binding : Option Binding) → ((b : Binding) → binding ≡ Some b → IsGoodClass b.owner × IsGoodWord b.name) → IsGoodWord n.name
      → IsGoodMeaning (option_map_or meant.temp number (option_map_or meant.inst place (option_map_or (λ (b : Binding). meant.class_var b.owner b.name) binding (meant.outer n.name))))
  beyond (Some number) place binding bound good = tt
  beyond None (Some place) binding bound good = tt
  beyond None None (Some b) bound good = bound b refl
  beyond None None None bound good = good

  word_good : (number : Option ℕ) → IsGoodMeaning (word_means n.name number shape)
  word_good number = go (find (λ (r : Row). bytes_eq n.name r.0) reserved_meanings) refl
    where
      go : (o : Option Row) → find (λ (r : Row). bytes_eq n.name r.0) reserved_meanings ≡ o
          → IsGoodMeaning (option_map_or (λ (m : WhereTree). m) (option_map (λ (r : Row). r.1) o)
          (option_map_or meant.temp number (option_map_or meant.inst (last_place (bytes_eq n.name) shape.inst_vars) (option_map_or (λ (b : Binding). meant.class_var b.owner b.name) (find (λ (b : Binding). bytes_eq n.name b.name) shape.class_vars) (meant.outer n.name)))))
      go (Some r) is = found_in (λ (r : Row). IsGoodMeaning r.1) (λ (r : Row). bytes_eq n.name r.0) reserved_meanings (tt, (tt, (tt, (tt, (tt, (tt, tt)))))) r is
      go None is =
          beyond number (last_place (bytes_eq n.name) shape.inst_vars) (find (λ (b : Binding). bytes_eq n.name b.name) shape.class_vars)
          (λ b at. found_in (λ (b : Binding). IsGoodClass b.owner × IsGoodWord b.name) (λ (b : Binding). bytes_eq n.name b.name) shape.class_vars bindings b at)
          (name_good n brief (not_reserved n.name is))

pub means_good : (m : MethodParts) (shape : Shape) → AreGoodBindings shape.class_vars → (n : NameAt) → IsBriefName n → IsGoodMeaning (means m shape n)
means_good m shape bindings n brief = word_good shape bindings n brief (last_place (declares n) (declarations_of m))

-- ---- parts

constant_good : (v : LiteralTree) → IsBriefLiteral v → AreGood (constant_entries v)
constant_good v brief = go (fixed_number v)
  where
    go : (o : Option ℕ) → AreGood (option_map_or (λ (n : ℕ). []) o (constant v ∷ []))
    go (Some n) = tt
    go None = (brief, tt)

selector_good : (to_super : Bool) (s : List ℕ) → IsBrief s → AreGood (selector_entries to_super s)
selector_good to_super s brief = go (sent_number to_super s)
  where
    go : (o : Option ℕ) → AreGood (option_map_or (λ (n : ℕ). []) o (constant (symbol s) ∷ []))
    go (Some n) = tt
    go None = (brief, tt)

leaf_good : (w : WhereTree) → IsGoodMeaning w → AreGood (leaf_entries (leaf_meant w))
leaf_good (meant.temp number) good = tt
leaf_good (meant.inst place) good = tt
leaf_good (meant.class_var class word) good = (good, tt)
leaf_good (meant.outer word) good = (good, tt)
leaf_good meant.self_ref good = tt
leaf_good meant.super_ref good = tt
leaf_good meant.context good = tt
leaf_good (meant.constant v) good = constant_good v good

target_good : (w : WhereTree) → IsGoodMeaning w → AreGood (variable_entries (target_meant w))
target_good (meant.temp number) good = tt
target_good (meant.inst place) good = tt
target_good (meant.class_var class word) good = (good, tt)
target_good (meant.outer word) good = (good, tt)
target_good meant.self_ref good = tt
target_good meant.super_ref good = tt
target_good meant.context good = tt
target_good (meant.constant v) good = tt

abbrev IsGood : CoreTree → Type 0
IsGood c = AreGood (entries c)

first_good : (cs : CoreTrees) → AreGood (entries_all cs) → IsGood (first_of cs)
first_good no_cores h = tt
first_good (cores c cs) h = all_front IsGoodEntry (entries c) (entries_all cs) h

second_good : (cs : CoreTrees) → AreGood (entries_all cs) → IsGood (second_of cs)
second_good no_cores h = tt
second_good (cores c cs) h = first_good cs (all_back IsGoodEntry (entries c) (entries_all cs) h)

at_ends : KeepsAtEnds IsGood
at_ends = record { empty = tt; fixed = λ n. tt; answers = λ c h. h; leaves = λ c h. h; returns = λ c h. good_both (entries c) [] h tt }

last_good : (last : Ending) (r : CoreTree) (to_super : Bool) (s : List ℕ) (es arms : CoreTrees) (more : SendTrees) → IsGood r → IsBrief s
    → AreGood (entries_all es) → AreGood (entries_all arms) → ((b : Bool) → AreGood (entries_sends b more))
    → IsGood (last_core last r to_super s es arms more)
last_good Sent r to_super s es arms more hr hs he ha hm =
    good_both (entries r) (entries_all es ++ selector_entries to_super s) hr (good_both (entries_all es) (selector_entries to_super s) he (selector_good to_super s hs))
last_good Cascaded r to_super s es arms more hr hs he ha hm =
    good_both (entries r) ((entries_all es ++ selector_entries to_super s) ++ entries_sends to_super more) hr
    (good_both (entries_all es ++ selector_entries to_super s) (entries_sends to_super more) (good_both (entries_all es) (selector_entries to_super s) he (selector_good to_super s hs)) (hm to_super))
last_good (TwoArms on) r to_super s es arms more hr hs he ha hm =
    good_both (entries r) (entries (first_of arms) ++ entries (second_of arms)) hr (good_both (entries (first_of arms)) (entries (second_of arms)) (first_good arms ha) (second_good arms ha))
last_good (OneArm on) r to_super s es arms more hr hs he ha hm = good_both (entries r) (entries (first_of arms)) hr (first_good arms ha)
last_good (Shortcut on) r to_super s es arms more hr hs he ha hm = good_both (entries r) (entries (first_of arms)) hr (first_good arms ha)
last_good (Loop on) r to_super s es arms more hr hs he ha hm = good_both (entries r) (entries (first_of arms)) hr (first_good arms ha)

-- ---- trees

module _ (meaning : NameAt → WhereTree) (known : (n : NameAt) → IsBriefName n → IsGoodMeaning (meaning n)) where
  targets_good : (ns : List NameAt) (c : CoreTree) → AllByRecursion IsBriefName ns → IsGood c → IsGood (assigned meaning ns c)
  targets_good [] c all h = h
  targets_good (n ∷ ns) c all h = good_both (entries (assigned meaning ns c)) (variable_entries (target_meant (meaning n))) (targets_good ns c all.1 h) (target_good (meaning n) (known n all.0))

  mutual
    expr_good : (k : ℕ) (e : ExprTree) → IsBriefExpr e → IsGood (expr_core meaning k e)
    expr_good k (expr targets p ms cs) h =
        targets_good targets
        (chain_core meaning (receiver_core meaning (is_loop (ending p ms cs)) k p) (is_super p) (ending p ms cs) (k + primary_parameters p) (sends_core meaning (k + primary_parameters p + messages_parameters ms) cs) ms) h.0
        (chain_good (receiver_core meaning (is_loop (ending p ms cs)) k p) (is_super p) (ending p ms cs) (k + primary_parameters p)
        (sends_core meaning (k + primary_parameters p + messages_parameters ms) cs) ms
        (receiver_good (is_loop (ending p ms cs)) k p h.1) (λ b. sends_good b (k + primary_parameters p + messages_parameters ms) cs h.3) h.2)

    receiver_good : (looped : Bool) (k : ℕ) (p : PrimaryTree) → IsBriefPrimary p → IsGood (receiver_core meaning looped k p)
    receiver_good looped k (name n) h = leaf_good (meaning n) (known n h)
    receiver_good looped k (literal v) h = constant_good v h
    receiver_good looped k (paren e) h = expr_good k e h
    receiver_good true k (block ps ss) h = body_good _ k ss h.1
    receiver_good false k (block ps ss) h = good_both (constant_entries (small (pos (length ps)))) (entries (body_core meaning _ (k + length ps) ss)) (constant_good (small (pos (length ps))) h.0) (body_good _ (k + length ps) ss h.1)

    chain_good : (r : CoreTree) (to_super : Bool) (last : Ending) (k : ℕ) (more : SendTrees) (ms : MessageTrees) → IsGood r
        → ((b : Bool) → AreGood (entries_sends b more)) → AreBriefMessages ms
        → IsGood (chain_core meaning r to_super last k more ms)
    chain_good r to_super last k more no_messages hr hm h = hr
    chain_good r to_super last k more (messages s es no_messages) hr hm h =
        last_good last r to_super s (exprs_core meaning k es) (arms_core meaning k es) more hr h.0 (exprs_good k es h.1) (arms_good k es h.1) hm
    chain_good r to_super last k more (messages s es (messages s' es' ms)) hr hm h =
        chain_good (send r to_super s (exprs_core meaning k es)) false last (k + exprs_parameters es) more (messages s' es' ms)
        (good_both (entries r) (entries_all (exprs_core meaning k es) ++ selector_entries to_super s) hr
        (good_both (entries_all (exprs_core meaning k es)) (selector_entries to_super s) (exprs_good k es h.1) (selector_good to_super s h.0))) hm h.2

    sends_good : (b : Bool) (k : ℕ) (cs : MessageTrees) → AreBriefMessages cs → AreGood (entries_sends b (sends_core meaning k cs))
    sends_good b k no_messages h = tt
    sends_good b k (messages s es ms) h =
        good_both (entries_all (exprs_core meaning k es) ++ selector_entries b s) (entries_sends b (sends_core meaning (k + exprs_parameters es) ms))
        (good_both (entries_all (exprs_core meaning k es)) (selector_entries b s) (exprs_good k es h.1) (selector_good b s h.0)) (sends_good b (k + exprs_parameters es) ms h.2)

    exprs_good : (k : ℕ) (es : ExprTrees) → AreBriefExprs es → AreGood (entries_all (exprs_core meaning k es))
    exprs_good k no_exprs h = tt
    exprs_good k (exprs e es) h = good_both (entries (expr_core meaning k e)) (entries_all (exprs_core meaning (k + expr_parameters e) es)) (expr_good k e h.0) (exprs_good (k + expr_parameters e) es h.1)

    arms_good : (k : ℕ) (es : ExprTrees) → AreBriefExprs es → AreGood (entries_all (arms_core meaning k es))
    arms_good k no_exprs h = tt
    arms_good k (exprs e es) h = good_both (entries (arm_core meaning k e)) (entries_all (arms_core meaning (k + expr_parameters e) es)) (arm_good k e h.0) (arms_good (k + expr_parameters e) es h.1)

    arm_good : (k : ℕ) (e : ExprTree) → IsBriefExpr e → IsGood (arm_core meaning k e)
    arm_good k (expr targets (name n) ms cs) h = tt
    arm_good k (expr targets (literal v) ms cs) h = tt
    arm_good k (expr targets (paren e) ms cs) h = tt
    arm_good k (expr targets (block ps ss) ms cs) h = body_good _ k ss h.1.1

    body_good : (within : _) (k : ℕ) (ss : BodyTree) → IsBriefBody ss → IsGood (body_core meaning within k ss)
    body_good within k no_stmts h = empty_kept IsGood at_ends within
    body_good within k (stmts returns e no_stmts) h = last_kept IsGood at_ends within returns e (expr_core meaning k e) (expr_good k e h.0)
    body_good within k (stmts returns e (stmts returns' e' ss)) h =
        good_both (entries (statement returns e (expr_core meaning k e))) (entries (body_core meaning within (k + expr_parameters e) (stmts returns' e' ss)))
        (statement_kept IsGood at_ends returns e (expr_core meaning k e) (expr_good k e h.0)) (body_good within (k + expr_parameters e) (stmts returns' e' ss) h.1)

pub elaborated_good : (m : MethodParts) (shape : Shape) → AreGoodBindings shape.class_vars → IsBriefBody m.body → AreGood (entries (elaborated m shape))
elaborated_good m shape bindings brief = body_good (means m shape) (means_good m shape bindings) (method_end m.selector) (length m.parameters + length m.temporaries) m.body brief
