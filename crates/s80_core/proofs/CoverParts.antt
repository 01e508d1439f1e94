-- Each part of a parsed tree: what is said of its entries holds of those of its core.
use Rattle.std.proofs.Common.{◌≡◌, ℕ, suc, List, [], ◌∷◌, ◌++◌, Bool, true, false, cond, ◌&&◌, ◌||◌, Option, Some, None, is_some, bytes_eq, refl}
use Rattle.std.specs.List.{list_any}
use Rattle.std.specs.Option.{option_map_or}
use Rattle.s80_tree.specs.declared.name.NameAt.{NameAt}
use Rattle.s80_tree.specs.Tree.{MethodParts}
use Rattle.s80_syntax.specs.Word.{names_in, has_name}
use Rattle.s80_code.specs.Entries.{EntryTree}
use Rattle.s80_scope.specs.declared.shape.Shape.{Shape}
use Rattle.s80_scope.specs.Names.{Declaration, last_place, declarations_of, is_at, declared_over, declares as shows}
use Rattle.s80_scope.specs.Inlined.{is_inlined}
use Rattle.s80_scope.specs.FitLiterals as parsed
use Rattle.s80_scope.specs.FitLiterals.{Entry, declares, target_entries, expr_entries, primary_entries, messages_entries, exprs_entries, body_entries}
use Rattle.s80_scope.specs.declared.fit.ending.Ending.{Ending}
use Rattle.s80_scope.specs.declared.fit.ending.Ending.TheVariants.{Sent, Cascaded, TwoArms, OneArm, Shortcut, Loop}
use Rattle.s80_core.specs.Core.{CoreTree, CoreTrees, SendTrees, no_cores, cores}
use Rattle.s80_core.specs.Elaborate.{first_of, second_of, last_core}
use Rattle.s80_core.specs.Measures.{selector_entries, entries, entries_all, entries_sends}
use Rattle.s80_core.proofs.lemmas.CoverEnds.{KeepsAtEnds}
use Rattle.s80_core.proofs.Cover.{both, left, right, or_left, any_left, any_right, AllHeld, AllIn, selector_held}

-- ---- declarations

pub last_some : {X : Type 0} (test : X → Bool) (xs : List X) → list_any test xs ≡ true → is_some (last_place test xs) ≡ true
last_some test [] e = e
last_some test (x ∷ xs) e = by_place (last_place test xs) (test x) (last_some test xs) e
  where
    by_place : (o : Option ℕ) (b : Bool) → (list_any test xs ≡ true → is_some o ≡ true) → (b || list_any test xs) ≡ true
        → is_some (option_map_or (λ i. Some (suc i)) o (cond b (Some 0) None)) ≡ true
    by_place (Some i) b k f = refl
    by_place None true k f = refl
    by_place None false k f = k f

pub shown_over : (n : NameAt) (uses ps : List NameAt) → list_any (is_at n.at) uses ≡ true → has_name (names_in ps) n.name ≡ true
    → list_any (shows n) (declared_over uses ps) ≡ true
shown_over n uses [] here e = e
shown_over n uses (p ∷ ps) here e = by_test (bytes_eq n.name p.name) e (shown_over n uses ps here)
  where
    by_test : (b : Bool) → (b || has_name (names_in ps) n.name) ≡ true → (has_name (names_in ps) n.name ≡ true → list_any (shows n) (declared_over uses ps) ≡ true)
        → ((b && list_any (is_at n.at) uses) || list_any (shows n) (declared_over uses ps)) ≡ true
    by_test true f more = or_left (list_any (is_at n.at) uses) (list_any (shows n) (declared_over uses ps)) here
    by_test false f more = more f

module _ (m : MethodParts) where
  -- A part with these uses and declarations of the method: a word that is told as declared where one of its uses stands has
  -- a declaration that is visible there.
  pub record Stands (declared : List ℕ → Bool) (uses : List NameAt) (ds : List Declaration) : Type 0 where
    pub knows : (n : NameAt) → list_any (is_at n.at) uses ≡ true → declared n.name ≡ true → list_any (shows n) (declarations_of m) ≡ true
    pub has : (n : NameAt) → list_any (shows n) ds ≡ true → list_any (shows n) (declarations_of m) ≡ true

  pub first : (declared : List ℕ → Bool) (u v : List NameAt) (d e : List Declaration) → Stands declared (u ++ v) (d ++ e) → Stands declared u d
  first declared u v d e s = record { knows = λ n here. s.knows n (any_left (is_at n.at) u v here); has = λ n one. s.has n (any_left (shows n) d e one) }

  pub second : (declared : List ℕ → Bool) (u v : List NameAt) (d e : List Declaration) → Stands declared (u ++ v) (d ++ e) → Stands declared v e
  second declared u v d e s = record { knows = λ n here. s.knows n (any_right (is_at n.at) u v here); has = λ n one. s.has n (any_right (shows n) d e one) }

  -- behind targets
  pub behind : (declared : List ℕ → Bool) (u v : List NameAt) (d : List Declaration) → Stands declared (u ++ v) d → Stands declared v d
  behind declared u v d s = record { knows = λ n here. s.knows n (any_right (is_at n.at) u v here); has = s.has }

  -- in names that are declared over a body
  pub inside : (declared : List ℕ → Bool) (ps : List NameAt) (u : List NameAt) (e : List Declaration) → Stands declared u (declared_over u ps ++ e) → Stands (declares ps declared) u e
  inside declared ps u e s = record {
    knows = λ n here told. by_test n here (has_name (names_in ps) n.name) refl told;
    has = λ n one. s.has n (any_right (shows n) (declared_over u ps) e one);
  }
    where
      by_test : (n : NameAt) → list_any (is_at n.at) u ≡ true → (b : Bool) → has_name (names_in ps) n.name ≡ b → (b || declared n.name) ≡ true → list_any (shows n) (declarations_of m) ≡ true
      by_test n here true is told = s.has n (any_left (shows n) (declared_over u ps) e (shown_over n u ps here is))
      by_test n here false is told = s.knows n here told

-- ---- small parts of core trees

module _ (shape : Shape) (In : EntryTree → Type 0) where
  first_in : (cs : CoreTrees) → AllIn shape In (entries_all cs) → AllIn shape In (entries (first_of cs))
  first_in no_cores h = tt
  first_in (cores c cs) h = left In (entries c) (entries_all cs) h

  second_in : (cs : CoreTrees) → AllIn shape In (entries_all cs) → AllIn shape In (entries (second_of cs))
  second_in no_cores h = tt
  second_in (cores c cs) h = first_in cs (right In (entries c) (entries_all cs) h)

  pub at_ends : KeepsAtEnds (λ c. AllIn shape In (entries c))
  at_ends = record { empty = tt; fixed = λ n. tt; answers = λ c h. h; leaves = λ c h. h; returns = λ c h. both In (entries c) [] h tt }

  -- the last message of a chain, where its receiver, its arguments and its arms are so
  pub last_core_in : (last : Ending) (r : CoreTree) (to_super : Bool) (s : List ℕ) (es arms : CoreTrees) (more : SendTrees) → AllIn shape In (entries r) → AllIn shape In (entries_all es) → AllIn shape In (entries_all arms)
      → AllIn shape In (entries_sends to_super more) → AllHeld shape In (cond (is_inlined last) [] (parsed.selector_entries to_super s))
      → AllIn shape In (entries (last_core last r to_super s es arms more))
  last_core_in Sent r to_super s es arms more hr he ha hm h =
      both In (entries r) (entries_all es ++ selector_entries to_super s) hr (both In (entries_all es) (selector_entries to_super s) he (selector_held shape In to_super s h))
  last_core_in Cascaded r to_super s es arms more hr he ha hm h =
      both In (entries r) ((entries_all es ++ selector_entries to_super s) ++ entries_sends to_super more) hr
      (both In (entries_all es ++ selector_entries to_super s) (entries_sends to_super more) (both In (entries_all es) (selector_entries to_super s) he (selector_held shape In to_super s h)) hm)
  last_core_in (TwoArms on) r to_super s es arms more hr he ha hm h =
      both In (entries r) (entries (first_of arms) ++ entries (second_of arms)) hr (both In (entries (first_of arms)) (entries (second_of arms)) (first_in arms ha) (second_in arms ha))
  last_core_in (OneArm on) r to_super s es arms more hr he ha hm h = both In (entries r) (entries (first_of arms)) hr (first_in arms ha)
  last_core_in (Shortcut on) r to_super s es arms more hr he ha hm h = both In (entries r) (entries (first_of arms)) hr (first_in arms ha)
  last_core_in (Loop on) r to_super s es arms more hr he ha hm h = both In (entries r) (entries (first_of arms)) hr (first_in arms ha)
