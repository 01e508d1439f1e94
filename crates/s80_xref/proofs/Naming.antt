-- The outer names of a frame are those that its tree reads or assigns.
use Rattle.std.proofs.Common.{◌≡◌, ◌↔◌, ap, sym, subst, refl, ℕ, zero, suc, inl, inr, List, [], ◌∷◌, ◌++◌, flat_map, Bool, true, false, cond, Contains, append_assoc, arith}
use Rattle.std.proofs.lemmas.List.Elements.{Contains-append_left, Contains-append_right, Contains-append_cases}
use Rattle.s80_base.specs.declared.names.Side.{Side}
use Rattle.s80_code.specs.declared.code.Code.{Code}
use Rattle.s80_code.specs.Entries.{EntryTree, constant, class_variable, outer, owner, extension}
use Rattle.s80_tree.specs.Tree.{MethodParts}
use Rattle.s80_scope.specs.declared.shape.Shape.{Shape}
use Rattle.s80_core.specs.Core.{CoreTree}
use Rattle.s80_core.specs.Elaborate.{elaborated}
use Rattle.s80_core.specs.Measures.{entries}
use Rattle.s80_compile.specs.Compiles.{AreFirsts, Compiles, goes_to_super, is_extended, last_entries}
use Rattle.s80_xref.specs.Named.{outer_in, outers_in, some}

none_there : {X : Type 0} (x : X) → Contains [] x → ⊥
none_there x (k, within, is) = absurd (omega (arith, within))

only : {X : Type 0} (y x : X) → Contains (y ∷ []) x → y ≡ x
only y x (zero, within, is) = is
only y x (suc k, within, is) = absurd (omega (arith, within))

-- ---- the names of entries

abbrev pub outers : List EntryTree → List (List ℕ)
outers es = flat_map (λ e. some (outer_in e)) es

-- what names one more
named : (e : EntryTree) (word : List ℕ) → Contains (some (outer_in e)) word → e ≡ outer word
named (constant l) word c = absurd (none_there word c)
named (class_variable class variable) word c = absurd (none_there word c)
named (outer other) word c = ap outer (only other word c)
named (owner class side) word c = absurd (none_there word c)
named (extension number) word c = absurd (none_there word c)

pub outers_are : (es : List EntryTree) (word : List ℕ) → Contains (outers es) word → Contains es (outer word)
outers_are [] word c = absurd (none_there word c)
outers_are (e ∷ es) word c =
    elim (Contains-append_cases (some (outer_in e)) (outers es) word c) [
      | inl here ↦ (0, omega arith, named e word here)
      | inr later ↦ Contains-append_right (e ∷ []) es (outer word) (outers_are es word later)
    ]

pub are_outers : (es : List EntryTree) (word : List ℕ) → Contains es (outer word) → Contains (outers es) word
are_outers [] word c = absurd (none_there (outer word) c)
are_outers (e ∷ es) word c =
    elim (Contains-append_cases (e ∷ []) es (outer word) c) [
      | inl here ↦
          Contains-append_left (some (outer_in e)) (outers es) word
          (subst (λ (x : EntryTree). Contains (some (outer_in x)) word) (sym (only e (outer word) here)) (0, omega arith, refl))
      | inr later ↦ Contains-append_right (some (outer_in e)) (outers es) word (are_outers es word later)
    ]

-- ---- the firsts of a list

pub firsts_all : (seen es firsts : List EntryTree) (x : EntryTree) → AreFirsts seen es firsts → Contains es x → Contains (seen ++ firsts) x
firsts_all seen [] firsts x f c = absurd (none_there x c)
firsts_all seen (e ∷ es) firsts x (inl (known, more)) c =
    elim (Contains-append_cases (e ∷ []) es x c) [
      | inl here ↦ Contains-append_left seen firsts x (subst (λ (y : EntryTree). Contains seen y) (only e x here) known)
      | inr later ↦ firsts_all seen es firsts x more later
    ]
firsts_all seen (e ∷ es) firsts x (inr (new, (rest, is, more))) c =
    subst (λ (l : List EntryTree). Contains (seen ++ l) x) (sym is)
    (subst (λ (l : List EntryTree). Contains l x) (append_assoc seen (e ∷ []) rest)
    (elim (Contains-append_cases (e ∷ []) es x c) [
      | inl here ↦ Contains-append_left (seen ++ e ∷ []) rest x (Contains-append_right seen (e ∷ []) x here)
      | inr later ↦ firsts_all (seen ++ e ∷ []) es rest x more later
    ]))

pub firsts_only : (seen es firsts : List EntryTree) (x : EntryTree) → AreFirsts seen es firsts → Contains firsts x → Contains es x
firsts_only seen [] firsts x f c = subst (λ (l : List EntryTree). Contains l x) f c
firsts_only seen (e ∷ es) firsts x (inl (known, more)) c = Contains-append_right (e ∷ []) es x (firsts_only seen es firsts x more c)
firsts_only seen (e ∷ es) firsts x (inr (new, (rest, is, more))) c =
    elim (Contains-append_cases (e ∷ []) rest x (subst (λ (l : List EntryTree). Contains l x) is c)) [
      | inl here ↦ Contains-append_left (e ∷ []) es x here
      | inr later ↦ Contains-append_right (e ∷ []) es x (firsts_only (seen ++ e ∷ []) es rest x more later)
    ]

-- ---- a whole frame

-- the last entries name nothing
none_last : (extended super : Bool) (number : ℕ) (class : List ℕ) (side : Side) (word : List ℕ)
    → Contains (outers (cond extended (extension number ∷ owner class side ∷ []) (cond super (owner class side ∷ []) []))) word → ⊥
none_last true super number class side word c = none_there word c
none_last false true number class side word c = none_there word c
none_last false false number class side word c = none_there word c

pub frame_names : (m : MethodParts) (core : CoreTree) (class : List ℕ) (side : Side) (es plain : List EntryTree) (word : List ℕ)
    → AreFirsts [] es plain → Contains (outers (plain ++ last_entries m core class side)) word ↔ Contains es (outer word)
frame_names m core class side es plain word firsts = (
  λ c. elim (Contains-append_cases plain (last_entries m core class side) (outer word) (outers_are (plain ++ last_entries m core class side) word c)) [
    | inl here ↦ firsts_only [] es plain (outer word) firsts here
    | inr last ↦
        absurd (none_last (is_extended m) (goes_to_super core) _ class side word (are_outers (last_entries m core class side) word last))
  ],
  λ c. are_outers (plain ++ last_entries m core class side) word
      (Contains-append_left plain (last_entries m core class side) (outer word) (firsts_all [] es plain (outer word) firsts c)),
)

pub code_names : (m : MethodParts) (shape : Shape) (class : List ℕ) (side : Side) (code : Code) → Compiles m shape class side code
    → (word : List ℕ) → Contains (outers_in code) word ↔ Contains (entries (elaborated m shape)) (outer word)
code_names m shape class side code is word =
    subst (λ (l : List EntryTree). Contains (outers l) word ↔ Contains (entries (elaborated m shape)) (outer word)) (sym is.frame)
    (frame_names m (elaborated m shape) class side (entries (elaborated m shape)) is.plain word is.firsts)
