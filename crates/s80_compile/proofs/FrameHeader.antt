-- The header and the end of the frame of related code.
use Rattle.std.proofs.Common.{◌≡◌, ◌≢◌, ◌∙◌, ap, sym, subst, refl, ℕ, ◌+◌, ◌*◌, ◌<◌, ◌≤◌, ◌==◌, ◌⊎◌, inl, inr, pos, Bool, true, false, ◌&&◌, ◌||◌, not, nat_lt, cond, List, [], ◌∷◌, ◌++◌, length, slice_get, Option, Some, None, append_assoc, length-append, arith}
use Rattle.std.proofs.lemmas.Bool.{cases_lt}
use Rattle.std.proofs.lemmas.Bool.Decides.{nat_tests}
use Rattle.std.specs.List.{All, list_all}
use Rattle.std.specs.Option.{option_map_or}
use Rattle.std.proofs.lemmas.List.Folds.{list_all-append}
use Rattle.s80_base.specs.Literal.{LiteralTree, small, symbol}
use Rattle.s80_base.specs.declared.names.Side.{Side}
use Rattle.s80_code.specs.declared.code.Code.{Code}
use Rattle.s80_code.specs.Entries as frame
use Rattle.s80_code.specs.Entries.{EntryTree, owner, extension, entries_of}
use Rattle.s80_tree.specs.Tree.{MethodParts}
use Rattle.s80_scope.specs.FitStack.{temporaries}
use Rattle.s80_verify.specs.Header.{IsPlain, is_plain, EndsPlain, IsShort, IsExtended, HeaderFits}
use Rattle.s80_verify.specs.Operands.{HasOwner}
use Rattle.s80_verify.proofs.HeaderLemmas.{all_plain}
use Rattle.s80_core.specs.Core.{VariableTree, temporary, instance, class_variable, outer, LeafTree, variable, constant, receiver, context, CoreTree, CoreTrees, SendTrees, leaf, assign, value, send, cascade, real_block, two_arms, one_arm, shortcut, repeat, nothing, before, answer, answer_fixed, leave, no_cores, cores, no_sends, sends}
use Rattle.s80_core.specs.Measures.{fixed_number, sent_number, variable_entries, constant_entries, leaf_entries, selector_entries, entries, entries_all, entries_sends}
use Rattle.s80_compile.specs.Compiles.{AreFirsts, goes_to_super, is_extended, IsCodeOf}

-- ---- entries of core trees are plain

abbrev ArePlain : List EntryTree → Type 0
ArePlain es = list_all is_plain es ≡ true

both : (x y : Bool) → x ≡ true → y ≡ true → (x && y) ≡ true
both true true p q = refl
both true false p q = q
both false y p q = cc

joined : (xs ys : List EntryTree) → ArePlain xs → ArePlain ys → ArePlain (xs ++ ys)
joined xs ys p q = list_all-append is_plain xs ys ∙ both (list_all is_plain xs) (list_all is_plain ys) p q

plain_variable : (v : VariableTree) → ArePlain (variable_entries v)
plain_variable (temporary number) = refl
plain_variable (instance place) = refl
plain_variable (class_variable class word) = refl
plain_variable (outer word) = refl

plain_unless : (o : Option ℕ) (v : LiteralTree) → ArePlain (option_map_or (λ n. []) o (frame.constant v ∷ []))
plain_unless None v = refl
plain_unless (Some n) v = refl

plain_leaf : (l : LeafTree) → ArePlain (leaf_entries l)
plain_leaf (variable v) = plain_variable v
plain_leaf (constant v) = plain_unless (fixed_number v) v
plain_leaf receiver = refl
plain_leaf context = refl

mutual
  plain_core : (c : CoreTree) → ArePlain (entries c)
  plain_core (leaf l) = plain_leaf l
  plain_core (assign v e) = joined (entries e) (variable_entries v) (plain_core e) (plain_variable v)
  plain_core (value e) = plain_core e
  plain_core (send r to_super s es) =
      joined (entries r) (entries_all es ++ selector_entries to_super s) (plain_core r)
      (joined (entries_all es) (selector_entries to_super s) (plain_cores es) (plain_unless (sent_number to_super s) (symbol s)))
  plain_core (cascade r to_super ms) = joined (entries r) (entries_sends to_super ms) (plain_core r) (plain_sends to_super ms)
  plain_core (real_block first n e) =
      joined (constant_entries (small (pos n))) (entries e) (plain_unless (fixed_number (small (pos n))) (small (pos n))) (plain_core e)
  plain_core (two_arms on c a b) =
      joined (entries c) (entries a ++ entries b) (plain_core c) (joined (entries a) (entries b) (plain_core a) (plain_core b))
  plain_core (one_arm on c a) = joined (entries c) (entries a) (plain_core c) (plain_core a)
  plain_core (shortcut on c a) = joined (entries c) (entries a) (plain_core c) (plain_core a)
  plain_core (repeat on c e) = joined (entries c) (entries e) (plain_core c) (plain_core e)
  plain_core nothing = refl
  plain_core (before a b) = joined (entries a) (entries b) (plain_core a) (plain_core b)
  plain_core (answer e) = plain_core e
  plain_core (answer_fixed n) = refl
  plain_core (leave e) = plain_core e

  plain_cores : (cs : CoreTrees) → ArePlain (entries_all cs)
  plain_cores no_cores = refl
  plain_cores (cores c cs) = joined (entries c) (entries_all cs) (plain_core c) (plain_cores cs)

  plain_sends : (to_super : Bool) (ms : SendTrees) → ArePlain (entries_sends to_super ms)
  plain_sends to_super no_sends = refl
  plain_sends to_super (sends s es ms) =
      joined (entries_all es ++ selector_entries to_super s) (entries_sends to_super ms)
      (joined (entries_all es) (selector_entries to_super s) (plain_cores es) (plain_unless (sent_number to_super s) (symbol s)))
      (plain_sends to_super ms)

-- the first ones of a list are among it
and_left : (x y : Bool) → (x && y) ≡ true → x ≡ true
and_left true y e = refl
and_left false y e = cc

and_right : (x y : Bool) → (x && y) ≡ true → y ≡ true
and_right true y e = e
and_right false y e = cc

plain_firsts : (seen es firsts : List EntryTree) → AreFirsts seen es firsts → ArePlain es → ArePlain firsts
plain_firsts seen [] firsts none p = ap (list_all is_plain) none
plain_firsts seen (e ∷ es) firsts (inl (known, later)) p = plain_firsts seen es firsts later (and_right (is_plain e) (list_all is_plain es) p)
plain_firsts seen (e ∷ es) firsts (inr (new, (rest, begins, later))) p =
    ap (list_all is_plain) begins
    ∙ both (is_plain e) (list_all is_plain rest) (and_left (is_plain e) (list_all is_plain es) p)
    (plain_firsts (seen ++ e ∷ []) es rest later (and_right (is_plain e) (list_all is_plain es) p))

-- ---- the last entry

last_is : (xs : List EntryTree) (y : EntryTree) → slice_get (xs ++ y ∷ []) (length xs) ≡ Some y
last_is [] y = refl
last_is (x ∷ xs) y = last_is xs y

ends_in_owner : (code : Code) (plain : List EntryTree) (class : List ℕ) (side : Side) → entries_of code.literals ≡ plain ++ owner class side ∷ [] → HasOwner code
ends_in_owner code plain class side e =
    (length plain, class, side, ap length e ∙ length-append plain (owner class side ∷ []), ap (λ es. slice_get es (length plain)) e ∙ last_is plain (owner class side))

owner_when : (code : Code) (plain : List EntryTree) (class : List ℕ) (side : Side) (number : ℕ) (extended super : Bool)
    → entries_of code.literals ≡ plain ++ cond extended (extension number ∷ owner class side ∷ []) (cond super (owner class side ∷ []) [])
    → (extended || super) ≡ true → HasOwner code
owner_when code plain class side number true super e h =
    ends_in_owner code (plain ++ extension number ∷ []) class side (e ∙ sym (append_assoc plain (extension number ∷ []) (owner class side ∷ [])))
owner_when code plain class side number false true e h = ends_in_owner code plain class side e
owner_when code plain class side number false false e h = cc

or_right : (x y : Bool) → y ≡ true → (x || y) ≡ true
or_right true y e = refl
or_right false y e = e

-- where a message goes to super, an owner stands last
pub super_has_owner : (m : MethodParts) (core : CoreTree) (class : List ℕ) (side : Side) (code : Code) → IsCodeOf m core class side code
    → goes_to_super core ≡ true → HasOwner code
super_has_owner m core class side code is h =
    owner_when code is.plain class side (length m.parameters * 256 + m.primitive) (is_extended m) (goes_to_super core) is.frame
    (or_right (is_extended m) (goes_to_super core) h)

-- ---- the header

few_when : (n primitive : ℕ) → (nat_lt 4 n || not (primitive == 0)) ≡ false → (n ≤ 4) × (primitive ≡ 0)
few_when n primitive e = (grind (arith, nat_tests), grind (arith, nat_tests))

needed_when : (n primitive : ℕ) → (nat_lt 4 n || not (primitive == 0)) ≡ true → (4 < n) ⊎ (primitive ≢ 0)
needed_when n primitive e = elim (cases_lt 4 n) [ inl more ↦ inl more | inr few ↦ inr (λ none. grind (arith, nat_tests)) ]

ends_plain : (plain found : List EntryTree) (class : List ℕ) (side : Side) (super : Bool) → All IsPlain plain
    → found ≡ plain ++ cond super (owner class side ∷ []) [] → EndsPlain found
ends_plain plain found class side true all e = inr (class, side, (plain, e, all))
ends_plain plain found class side false all e = inl (plain, e, all)

flagged : (code : Code) (class : List ℕ) (side : Side) (n primitive : ℕ) (plain : List EntryTree) (super extended : Bool) → All IsPlain plain
    → code.arguments ≡ n → code.primitive ≡ primitive
    → (nat_lt 4 n || not (primitive == 0)) ≡ extended → code.flag ≡ cond extended 7 n
    → entries_of code.literals ≡ plain ++ cond extended (extension (n * 256 + primitive) ∷ owner class side ∷ []) (cond super (owner class side ∷ []) [])
    → IsShort code ⊎ IsExtended code
flagged code class side n primitive plain super true all arguments is_primitive e flag found =
    inr (record {
      flagged = flag;
      needed = subst (λ (k : ℕ). (4 < k) ⊎ (code.primitive ≢ 0)) (sym arguments) (subst (λ (k : ℕ). (4 < n) ⊎ (k ≢ 0)) (sym is_primitive) (needed_when n primitive e));
      class = class;
      side = side;
      ending = (plain, found ∙ ap (λ k. plain ++ extension k ∷ owner class side ∷ []) (omega (arith, arguments, is_primitive)), all);
    })
flagged code class side n primitive plain super false all arguments is_primitive e flag found =
    inl (record {
      few = omega (arith, flag, (few_when n primitive e).0);
      counts = flag ∙ sym arguments;
      no_primitive = is_primitive ∙ (few_when n primitive e).1;
      ending = ends_plain plain (entries_of code.literals) class side super all found;
    })

pub header_fits : (m : MethodParts) (core : CoreTree) (class : List ℕ) (side : Side) (code : Code) → temporaries m ≤ 31 → IsCodeOf m core class side code → HeaderFits code
header_fits m core class side code h is =
    record {
      arguments = omega (arith, is.arguments, is.temporaries);
      temporaries = omega (arith, is.temporaries);
      flag =
          flagged code class side (length m.parameters) m.primitive is.plain (goes_to_super core) (is_extended m)
          (all_plain is.plain (plain_firsts [] (entries core) is.plain is.firsts (plain_core core)))
          is.arguments is.primitive refl is.flag is.frame;
    }
