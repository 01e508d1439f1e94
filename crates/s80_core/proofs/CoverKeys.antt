-- At most so many different entries.
use Rattle.std.proofs.Common.{◌≡◌, ℕ, ◌+◌, ◌≤◌, List, [], ◌∷◌, ◌++◌, Bool, true, false, cond, ◌||◌, map, length, Option, Some, None, bytes_eq, refl, ap, ◌∙◌, sym, subst, length-append, true≢false, arith}
use Rattle.std.specs.List.{AllByRecursion, Contains, list_any}
use Rattle.std.specs.Option.{option_map_or}
use Rattle.std.specs.Ordering.{nat_cmp, eq_by_cmp}
use Rattle.std.specs.declared.cmp.Ordering.{Ordering}
use Rattle.std.specs.Cmp.{IsTotalOrder}
use Rattle.std.specs.Cmp.Lexicographic.{slice_cmp, nat_list_cmp_total, bytes_decides}
use Rattle.std.specs.FinSet as set
use Rattle.std.proofs.lemmas.Map.Text.{is_eq-slice_cmp}
use Rattle.std.proofs.lemmas.List.Folds.{list_any-append}
use Rattle.std.proofs.lemmas.List.{map-append}
use Rattle.std.proofs.lemmas.List.Elements.{All-from_recursion, recursion_from_All, All-contains_itself, Contains-append_left, Contains-append_right}
use Rattle.s80_tree.specs.declared.name.NameAt.{NameAt}
use Rattle.s80_tree.specs.Tree.{MethodParts}
use Rattle.s80_syntax.specs.Word.{names_in, has_name}
use Rattle.s80_code.specs.Entries as frame
use Rattle.s80_code.specs.Entries.{EntryTree}
use Rattle.s80_scope.specs.declared.shape.Shape.{Shape}
use Rattle.s80_scope.specs.Shape as meant
use Rattle.s80_scope.specs.Shape.{WhereTree}
use Rattle.s80_scope.specs.Names.{AreInOrder, uses_of, body_uses, body_declarations, declared_over, word_means, declares as shows}
use Rattle.s80_scope.specs.FitLiterals as parsed
use Rattle.s80_scope.specs.FitLiterals.{Entry, constant, variable, declares, key, literal_count}
use Rattle.s80_scope.proofs.KeyLaws.{entry_same}
use Rattle.s80_core.specs.Elaborate.{leaf_meant, method_end, elaborated}
use Rattle.s80_core.specs.Measures.{fixed_number, leaf_entries, entries, IsCovered}
use Rattle.s80_core.proofs.Cover.{image, Held, any_left, any_right}
use Rattle.s80_core.proofs.CoverParts.{Stands, shown_over}
use Rattle.s80_core.proofs.CoverTree.{body_in}

abbrev R : List ℕ → List ℕ → Ordering
R = slice_cmp nat_cmp

o : IsTotalOrder R
o = nat_list_cmp_total

meant_few : (w : WhereTree) → length (leaf_entries (leaf_meant w)) ≤ 1
meant_few (meant.temp k) = omega arith
meant_few (meant.inst k) = omega arith
meant_few (meant.class_var owner word) = omega arith
meant_few (meant.outer word) = omega arith
meant_few meant.self_ref = omega arith
meant_few meant.super_ref = omega arith
meant_few meant.context = omega arith
meant_few (meant.constant v) = by_number (fixed_number v)
  where
    by_number : (n : Option ℕ) → length (option_map_or (λ n. []) n (frame.constant v ∷ [])) ≤ 1
    by_number None = omega arith
    by_number (Some k) = omega arith

image_few : (shape : Shape) (e : Entry) → length (image shape e) ≤ 1
image_few shape (constant v) = omega arith
image_few shape (variable word) = meant_few (word_means word None shape)

-- an entry with the key of another one is that
same_key : (P : Entry → Type 0) (e : Entry) (es : List Entry) → list_any (eq_by_cmp R (key e)) (map key es) ≡ true → AllByRecursion P es → P e
same_key P e [] one h = absurd (true≢false (sym one))
same_key P e (f ∷ es) one h = by_test (eq_by_cmp R (key e) (key f)) refl one (λ more. same_key P e es more h.1)
  where
    by_test : (b : Bool) → eq_by_cmp R (key e) (key f) ≡ b → (b || list_any (eq_by_cmp R (key e)) (map key es)) ≡ true → (list_any (eq_by_cmp R (key e)) (map key es) ≡ true → P e) → P e
    by_test true is k more = subst P (sym (entry_same e f ((bytes_decides (key e) (key f)).0 (sym (is_eq-slice_cmp (key e) (key f)) ∙ is)))) h.0
    by_test false is k more = more k

-- what these entries mean, with no more of it than there are keys
record Chosen (shape : Shape) (es : List Entry) : Type 0 where
  allowed : List EntryTree
  few : length allowed ≤ set.len {R = R} (set.from_list (map key es))
  held : AllByRecursion (Held shape (Contains allowed)) es

each : {X : Type 0} (P Q : X → Type 0) → ((x : X) → P x → Q x) → (xs : List X) → AllByRecursion P xs → AllByRecursion Q xs
each P Q f [] h = tt
each P Q f (x ∷ xs) h = (f x h.0, each P Q f xs h.1)

chosen : (shape : Shape) (es : List Entry) → Chosen shape es
chosen shape [] = record { allowed = []; few = omega arith; held = tt }
chosen shape (e ∷ es) = by_test (chosen shape es) (set.contains {R = R} (set.from_list (map key es)) (key e)) refl
  where
    by_test : Chosen shape es → (b : Bool) → set.contains {R = R} (set.from_list (map key es)) (key e) ≡ b → Chosen shape (e ∷ es)
    by_test c true is =
        let len : set.len {R = R} (set.from_list (map key (e ∷ es))) ≡ set.len {R = R} (set.from_list (map key es)) =
        set.len-insert o (set.from_list (map key es)) (key e) ∙ ap (λ b. cond b (set.len {R = R} (set.from_list (map key es))) (set.len {R = R} (set.from_list (map key es)) + 1)) is in
        let few : length c.allowed ≤ set.len {R = R} (set.from_list (map key es)) = c.few in
        record {
          allowed = c.allowed;
          few = subst (λ n. length c.allowed ≤ n) (sym len) few;
          held = (same_key (Held shape (Contains c.allowed)) e es (sym (set.contains-from_list o (map key es) (key e)) ∙ is) c.held, c.held);
        }
    by_test c false is =
        let len : set.len {R = R} (set.from_list (map key (e ∷ es))) ≡ set.len {R = R} (set.from_list (map key es)) + 1 =
        set.len-insert o (set.from_list (map key es)) (key e) ∙ ap (λ b. cond b (set.len {R = R} (set.from_list (map key es))) (set.len {R = R} (set.from_list (map key es)) + 1)) is in
        let few : length c.allowed ≤ set.len {R = R} (set.from_list (map key es)) = c.few in
        let one : length (image shape e) ≤ 1 = image_few shape e in
        let sum : length (image shape e ++ c.allowed) ≡ length (image shape e) + length c.allowed = length-append (image shape e) c.allowed in
        let both : length (image shape e ++ c.allowed) ≤ set.len {R = R} (set.from_list (map key es)) + 1 = omega (arith, sum) in
        record {
          allowed = image shape e ++ c.allowed;
          few = subst (λ n. length (image shape e ++ c.allowed) ≤ n) (sym len) both;
          held = (
            each (Contains (image shape e)) (Contains (image shape e ++ c.allowed)) (λ x h. Contains-append_left (image shape e) c.allowed x h) (image shape e)
                (recursion_from_All (Contains (image shape e)) (image shape e) (All-contains_itself (image shape e))),
            each (Held shape (Contains c.allowed)) (Held shape (Contains (image shape e ++ c.allowed)))
                (λ x. each (Contains c.allowed) (Contains (image shape e ++ c.allowed)) (λ y h. Contains-append_right (image shape e) c.allowed y h) (image shape x)) es c.held,
          );
        }

named : (word : List ℕ) (ps ts : List NameAt) → (has_name (names_in ts) word || (has_name (names_in ps) word || false)) ≡ true → has_name (names_in (ps ++ ts)) word ≡ true
named word ps ts e =
    ap (list_any (bytes_eq word)) (map-append (λ n. n.name) ps ts) ∙ list_any-append (bytes_eq word) (names_in ps) (names_in ts)
    ∙ turned (has_name (names_in ts) word) (has_name (names_in ps) word) e
  where
    turned : (a b : Bool) → (a || (b || false)) ≡ true → (b || a) ≡ true
    turned true true f = refl
    turned true false f = refl
    turned false true f = refl
    turned false false f = f

whole : (m : MethodParts) → Stands m (declares m.temporaries (declares m.parameters (λ word. false))) (body_uses m.body) (body_declarations m.body)
whole m = record {
  knows = λ n here told. any_left (shows n) (declared_over (body_uses m.body) (m.parameters ++ m.temporaries)) (body_declarations m.body)
      (shown_over n (body_uses m.body) (m.parameters ++ m.temporaries) here (named n.name m.parameters m.temporaries told));
  has = λ n one. any_right (shows n) (declared_over (body_uses m.body) (m.parameters ++ m.temporaries)) (body_declarations m.body) one;
}

pub covered : (m : MethodParts) (shape : Shape) → literal_count m ≤ 60 → AreInOrder (uses_of m) → IsCovered 60 (entries (elaborated m shape))
covered m shape most in_order =
    let c = chosen shape (parsed.entries m) in
    let few : length c.allowed ≤ literal_count m = c.few in (
      c.allowed,
      omega arith,
      All-from_recursion (Contains c.allowed) (entries (elaborated m shape))
          (body_in m shape (Contains c.allowed) (declares m.temporaries (declares m.parameters (λ word. false))) (method_end m.selector) (length m.parameters + length m.temporaries) m.body (whole m) c.held),
    )
