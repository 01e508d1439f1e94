-- Among the declarations that are visible at a place, each is within those before it.
use Rattle.std.proofs.Common.{◌≡◌, ℕ, zero, suc, ◌+◌, ◌<◌, ◌≤◌, List, [], ◌∷◌, ◌++◌, Bool, true, false, ◌&&◌, ◌||◌, ◌⊎◌, inl, inr, cond, Option, Some, None, refl, ap, sym, ◌∙◌, subst, arith, append_assoc}
use Rattle.std.specs.List.{AllByRecursion, count_by, list_any, slice_get}
use Rattle.std.specs.Option.{option_map_or}
use Rattle.std.specs.Str.{bytes_eq}
use Rattle.std.proofs.Math.Nat.{eq-or-lt_of_le}
use Rattle.std.proofs.lemmas.List.{append-nil}
use Rattle.std.proofs.lemmas.List.Sums.{sum_by-append, sum_by-cons}
use Rattle.s80_tree.specs.declared.name.NameAt.{NameAt}
use Rattle.s80_tree.specs.Tree.{ExprTree, PrimaryTree, ExprTrees, MessageTrees, BodyTree, MethodParts, expr, name, literal, block, paren, no_exprs, exprs, no_messages, messages, no_stmts, stmts}
use Rattle.s80_scope.specs.Names.{Declaration, declared_over, declares, is_at, last_place, IsUsedOnce, IsWithin, expr_uses, primary_uses, exprs_uses, messages_uses, body_uses, uses_of, expr_declarations, primary_declarations, exprs_declarations, messages_declarations, body_declarations, declarations_of}

-- the declaration is visible at the place
abbrev is_seen : ℕ → Declaration → Bool
is_seen at d = list_any (is_at at) d.extent

abbrev AreWithin : List NameAt → List Declaration → Type 0
AreWithin uses declared = AllByRecursion (λ d. IsWithin d.extent uses) declared

abbrev AreBehind : ℕ → Declaration → List Declaration → Type 0
AreBehind at d later = AllByRecursion (λ e. is_seen at d ≡ true → is_seen at e ≡ true → IsWithin e.extent d.extent) later

-- of two that are visible at the place the later is within the earlier
abbrev AreNested : ℕ → List Declaration → Type 0
AreNested at [] = Unit {0}
AreNested at (d ∷ ds) = AreBehind at d ds × AreNested at ds

within_itself : (u : List NameAt) → IsWithin u u
within_itself u = ([], [], sym (append-nil u))

within_first : (x u v : List NameAt) → IsWithin x u → IsWithin x (u ++ v)
within_first x u v (before, after, is) =
    (before, after ++ v, ap (λ l. l ++ v) is ∙ append_assoc before (x ++ after) v ∙ ap (λ l. before ++ l) (append_assoc x after v))

within_last : (x u v : List NameAt) → IsWithin x v → IsWithin x (u ++ v)
within_last x u v (before, after, is) = (u ++ before, after, ap (λ l. u ++ l) is ∙ sym (append_assoc u before (x ++ after)))

all_first : (u v : List NameAt) (ds : List Declaration) → AreWithin u ds → AreWithin (u ++ v) ds
all_first u v [] h = tt
all_first u v (d ∷ ds) h = (within_first d.extent u v h.0, all_first u v ds h.1)

all_last : (u v : List NameAt) (ds : List Declaration) → AreWithin v ds → AreWithin (u ++ v) ds
all_last u v [] h = tt
all_last u v (d ∷ ds) h = (within_last d.extent u v h.0, all_last u v ds h.1)

all_both : (P : Declaration → Type 0) (ds es : List Declaration) → AllByRecursion P ds → AllByRecursion P es → AllByRecursion P (ds ++ es)
all_both P [] es h g = g
all_both P (d ∷ ds) es h g = (h.0, all_both P ds es h.1 g)

any_counted : (at : ℕ) (u : List NameAt) → list_any (is_at at) u ≡ true → 1 ≤ count_by (is_at at) u
any_counted at [] h = absurd (cc)
any_counted at (n ∷ ns) h =
    subst (λ k. 1 ≤ k) (sym (sum_by-cons (λ x. cond (is_at at x) 1 0) n ns)) (by (is_at at n) (list_any (is_at at) ns) (count_by (is_at at) ns) (any_counted at ns) h)
  where
    by : (b c : Bool) (k : ℕ) → (c ≡ true → 1 ≤ k) → (b || c) ≡ true → 1 ≤ cond b 1 0 + k
    by true c k go e = omega arith
    by false c k go e = let some : 1 ≤ k = go e in omega arith

counted_both : (at : ℕ) (u v : List NameAt) → count_by (is_at at) (u ++ v) ≡ count_by (is_at at) u + count_by (is_at at) v
counted_both at u v = sum_by-append (λ n. cond (is_at at n) 1 0) u v

seen_counted : (at : ℕ) (d : Declaration) (u : List NameAt) → IsWithin d.extent u → is_seen at d ≡ true → 1 ≤ count_by (is_at at) u
seen_counted at d u (before, after, is) seen =
    let some = any_counted at d.extent seen in
    let whole = ap (count_by (is_at at)) is in
    let first = counted_both at before (d.extent ++ after) in
    let second = counted_both at d.extent after in
    omega arith

-- declarations of different parts aren't both visible at a place that is used once
apart : (at : ℕ) (u v : List NameAt) (d : Declaration) (es : List Declaration) → count_by (is_at at) u + count_by (is_at at) v ≤ 1 → IsWithin d.extent u → AreWithin v es → AreBehind at d es
apart at u v d [] few i h = tt
apart at u v d (e ∷ es) few i h =
    ((λ seen other. let one = seen_counted at d u i seen in let two = seen_counted at e v h.0 other in absurd (omega arith)), apart at u v d es few i h.1)

nested_both : (at : ℕ) (u v : List NameAt) (ds es : List Declaration) → count_by (is_at at) u + count_by (is_at at) v ≤ 1 → AreWithin u ds → AreWithin v es → AreNested at ds → AreNested at es → AreNested at (ds ++ es)
nested_both at u v [] es few h g nested others = others
nested_both at u v (d ∷ ds) es few h g nested others =
    (all_both (λ e. is_seen at d ≡ true → is_seen at e ≡ true → IsWithin e.extent d.extent) ds es nested.0 (apart at u v d es few h.0 g), nested_both at u v ds es few h.1 g nested.1 others)

-- the declarations of a part with these uses
record Scoped (at : ℕ) (u : List NameAt) (ds : List Declaration) : Type 0 where
  inside : AreWithin u ds
  nested : count_by (is_at at) u ≤ 1 → AreNested at ds

scoped_none : (at : ℕ) (u : List NameAt) → Scoped at u []
scoped_none at u = record { inside = tt; nested = λ few. tt }

scoped_both : (at : ℕ) (u v : List NameAt) (ds es : List Declaration) → Scoped at u ds → Scoped at v es → Scoped at (u ++ v) (ds ++ es)
scoped_both at u v ds es s r = record {
  inside = all_both (λ d. IsWithin d.extent (u ++ v)) ds es (all_first u v ds s.inside) (all_last u v es r.inside);
  nested = λ few. let total = counted_both at u v in nested_both at u v ds es (omega arith) s.inside r.inside (s.nested (omega arith)) (r.nested (omega arith));
}

behind_all : (at : ℕ) (d : Declaration) (u : List NameAt) (es : List Declaration) → d.extent ≡ u → AreWithin u es → AreBehind at d es
behind_all at d u [] is h = tt
behind_all at d u (e ∷ es) is h = ((λ seen other. subst (λ x. IsWithin e.extent x) (sym is) h.0), behind_all at d u es is h.1)

over_within : (u ps : List NameAt) → AreWithin u (declared_over u ps)
over_within u [] = tt
over_within u (p ∷ ps) = (within_itself u, over_within u ps)

scoped_over : (at : ℕ) (u ps : List NameAt) (ds : List Declaration) → Scoped at u ds → Scoped at u (declared_over u ps ++ ds)
scoped_over at u [] ds s = s
scoped_over at u (p ∷ ps) ds s =
    let inner = scoped_over at u ps ds s in
    record {
      inside = (within_itself u, inner.inside);
      nested = λ few. (behind_all at (record { word = p.name; extent = u }) u (declared_over u ps ++ ds) refl inner.inside, inner.nested few);
    }

mutual
  expr_scoped : (at : ℕ) (e : ExprTree) → Scoped at (expr_uses e) (expr_declarations e)
  expr_scoped at (expr targets p ms cs) =
      scoped_both at targets (primary_uses p ++ (messages_uses ms ++ messages_uses cs)) [] (primary_declarations p ++ (messages_declarations ms ++ messages_declarations cs)) (scoped_none at targets)
      (scoped_both at (primary_uses p) (messages_uses ms ++ messages_uses cs) (primary_declarations p) (messages_declarations ms ++ messages_declarations cs) (primary_scoped at p)
      (scoped_both at (messages_uses ms) (messages_uses cs) (messages_declarations ms) (messages_declarations cs) (messages_scoped at ms) (messages_scoped at cs)))

  primary_scoped : (at : ℕ) (p : PrimaryTree) → Scoped at (primary_uses p) (primary_declarations p)
  primary_scoped at (name n) = scoped_none at (n ∷ [])
  primary_scoped at (literal v) = scoped_none at []
  primary_scoped at (block ps ss) = scoped_over at (body_uses ss) ps (body_declarations ss) (body_scoped at ss)
  primary_scoped at (paren e) = expr_scoped at e

  exprs_scoped : (at : ℕ) (es : ExprTrees) → Scoped at (exprs_uses es) (exprs_declarations es)
  exprs_scoped at no_exprs = scoped_none at []
  exprs_scoped at (exprs e es) = scoped_both at (expr_uses e) (exprs_uses es) (expr_declarations e) (exprs_declarations es) (expr_scoped at e) (exprs_scoped at es)

  messages_scoped : (at : ℕ) (ms : MessageTrees) → Scoped at (messages_uses ms) (messages_declarations ms)
  messages_scoped at no_messages = scoped_none at []
  messages_scoped at (messages s es ms) = scoped_both at (exprs_uses es) (messages_uses ms) (exprs_declarations es) (messages_declarations ms) (exprs_scoped at es) (messages_scoped at ms)

  body_scoped : (at : ℕ) (ss : BodyTree) → Scoped at (body_uses ss) (body_declarations ss)
  body_scoped at no_stmts = scoped_none at []
  body_scoped at (stmts r e ss) = scoped_both at (expr_uses e) (body_uses ss) (expr_declarations e) (body_declarations ss) (expr_scoped at e) (body_scoped at ss)

-- ---- by places

behind_at : (at : ℕ) (d : Declaration) (es : List Declaration) (i : ℕ) (e : Declaration) → AreBehind at d es → slice_get es i ≡ Some e → is_seen at d ≡ true → is_seen at e ≡ true → IsWithin e.extent d.extent
behind_at at d [] i e h is seen other = absurd (cc)
behind_at at d (x ∷ es) zero e h is seen other = let same : x ≡ e = cc in subst (λ y. IsWithin y.extent d.extent) same (h.0 seen (ap (is_seen at) same ∙ other))
behind_at at d (x ∷ es) (suc i) e h is seen other = behind_at at d es i e h.1 is seen other

nested_at : (at : ℕ) (ds : List Declaration) (j i : ℕ) (d e : Declaration) → AreNested at ds → j < i → slice_get ds j ≡ Some d → slice_get ds i ≡ Some e → is_seen at d ≡ true → is_seen at e ≡ true → IsWithin e.extent d.extent
nested_at at [] j i d e nested less one two seen other = absurd (cc)
nested_at at (x ∷ ds) j zero d e nested less one two seen other = absurd (omega arith)
nested_at at (x ∷ ds) zero (suc i) d e nested less one two seen other = let same : x ≡ d = cc in behind_at at d ds i e (subst (λ y. AreBehind at y ds) same nested.0) two seen other
nested_at at (x ∷ ds) (suc j) (suc i) d e nested less one two seen other = nested_at at ds j i d e nested.1 (omega arith) one two seen other

none_passing : {X : Type 0} (test : X → Bool) (xs : List X) (j : ℕ) (y : X) → last_place test xs ≡ None → slice_get xs j ≡ Some y → test y ≡ true → ⊥
none_passing test [] j y none is passed = cc
none_passing {X} test (x ∷ xs) zero y none is passed = let same : x ≡ y = cc in by (last_place test xs) (test x) (ap test same ∙ passed) none
  where
    by : (r : Option ℕ) (b : Bool) → b ≡ true → option_map_or (λ k. Some (suc k)) r (cond b (Some 0) None) ≡ None → ⊥
    by None true t n = cc
    by None false t n = cc
    by (Some k) b t n = cc
none_passing {X} test (x ∷ xs) (suc j) y none is passed = none_passing test xs j y (by (last_place test xs) (cond (test x) (Some 0) None) none) is passed
  where
    by : (r c : Option ℕ) → option_map_or (λ k. Some (suc k)) r c ≡ None → r ≡ None
    by None c n = refl
    by (Some k) c n = absurd (cc)

last_is_last : {X : Type 0} (test : X → Bool) (xs : List X) (i j : ℕ) (y : X) → last_place test xs ≡ Some i → slice_get xs j ≡ Some y → test y ≡ true → j ≤ i
last_is_last test [] i j y last is passed = absurd (cc)
last_is_last test (x ∷ xs) i zero y last is passed = omega arith
last_is_last {X} test (x ∷ xs) i (suc j) y last is passed =
    by (last_place test xs) (cond (test x) (Some 0) None) (λ none. none_passing test xs j y none is passed) (λ k some. last_is_last test xs k j y some is passed) last
  where
    by : (r c : Option ℕ) → (r ≡ None → ⊥) → ((k : ℕ) → r ≡ Some k → j ≤ k) → option_map_or (λ k. Some (suc k)) r c ≡ Some i → suc j ≤ i
    by None c never go e = absurd (never refl)
    by (Some k) c never go e = let same : suc k ≡ i = cc in let below : j ≤ k = go k refl in omega arith

last_passes : {X : Type 0} (test : X → Bool) (xs : List X) (i : ℕ) (y : X) → last_place test xs ≡ Some i → slice_get xs i ≡ Some y → test y ≡ true
last_passes test [] i y last is = absurd (cc)
last_passes {X} test (x ∷ xs) i y last is = by (last_place test xs) (test x) (λ k some there. last_passes test xs k y some there) refl last
  where
    at_start : (b : Bool) (k : ℕ) → test x ≡ b → cond b (Some 0) None ≡ Some k → slice_get (x ∷ xs) k ≡ Some y → test y ≡ true
    at_start true k t e g = let zeroth : 0 ≡ k = cc in let same : Some x ≡ Some y = subst (λ n. slice_get (x ∷ xs) n ≡ Some y) (sym zeroth) g in let it : x ≡ y = cc in ap test (sym it) ∙ t
    at_start false k t e g = absurd (cc)

    by : (r : Option ℕ) (b : Bool) → ((k : ℕ) → r ≡ Some k → slice_get xs k ≡ Some y → test y ≡ true) → test x ≡ b → option_map_or (λ k. Some (suc k)) r (cond b (Some 0) None) ≡ Some i → test y ≡ true
    by None b go t e = at_start b i t e is
    by (Some k) b go t e = let same : suc k ≡ i = cc in go k refl (subst (λ n. slice_get (x ∷ xs) n ≡ Some y) (sym same) is)

seen_there : (n : NameAt) (d : Declaration) → declares n d ≡ true → is_seen n.at d ≡ true
seen_there n d h = by (bytes_eq n.name d.word) (is_seen n.at d) h
  where
    by : (b c : Bool) → (b && c) ≡ true → c ≡ true
    by true c e = e
    by false c e = absurd (cc)

pub innermost : (m : MethodParts) (n : NameAt) (i j : ℕ) (meant other : Declaration) → IsUsedOnce n.at (uses_of m) → last_place (declares n) (declarations_of m) ≡ Some i
    → slice_get (declarations_of m) i ≡ Some meant → slice_get (declarations_of m) j ≡ Some other → declares n other ≡ true → (j ≤ i) × IsWithin meant.extent other.extent
innermost m n i j meant other once last is there declared =
    let below : j ≤ i = last_is_last (declares n) (declarations_of m) i j other last there declared in
    let seen : is_seen n.at other ≡ true = seen_there n other declared in
    let also : is_seen n.at meant ≡ true = seen_there n meant (last_passes (declares n) (declarations_of m) i meant last is) in
    let few : count_by (is_at n.at) (body_uses m.body) ≤ 1 = omega (arith, once) in
    let scoped = scoped_over n.at (body_uses m.body) (m.parameters ++ m.temporaries) (body_declarations m.body) (body_scoped n.at m.body) in
    (below, by (eq-or-lt_of_le below) few scoped seen also)
  where
    by : (j ≡ i) ⊎ (j < i) → count_by (is_at n.at) (body_uses m.body) ≤ 1 → Scoped n.at (body_uses m.body) (declarations_of m) → is_seen n.at other ≡ true → is_seen n.at meant ≡ true → IsWithin meant.extent other.extent
    by (inr less) few scoped seen also = nested_at n.at (declarations_of m) j i other meant (scoped.nested few) less there is seen also
    by (inl same) few scoped seen also =
        let one : Some other ≡ Some meant = sym there ∙ ap (slice_get (declarations_of m)) same ∙ is in
        let it : other ≡ meant = cc in
        subst (λ d. IsWithin meant.extent d.extent) (sym it) (within_itself meant.extent)
