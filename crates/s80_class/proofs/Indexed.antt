-- The pairs of a table: what a change of its entries makes of them, and where the subclasses of a class stand.
use Rattle.std.proofs.Common.{◌≡◌, ◌≢◌, ◌≤◌, ◌<◌, ◌∙◌, ◌++◌, ◌+◌, ◌-◌, inl, inr, ℕ, zero, suc, Bool, true, false, refl, sym, ap, subst, List, [], ◌∷◌, length, get_or, set, Option, Some, None, true≢false, arith, slice_get, length-append, append_assoc, not}
use Rattle.std.specs.Option.{option_cmp, option_eq}
use Rattle.std.proofs.Math.Dec.{eqb}
use Rattle.std.proofs.lemmas.Bool.{eqb-true}
use Rattle.std.specs.Ordering.{nat_cmp, is_lt, ordering_then}
use Rattle.std.specs.declared.cmp.Ordering.{Ordering}
use Rattle.std.specs.declared.cmp.Ordering.TheVariants.{Less, Equal, Greater}
use Rattle.std.specs.Cmp.{tied_itself, nat_cmp_is}
use Rattle.std.specs.FinMap as map
use Rattle.std.proofs.lemmas.Bool.{cases_lt}
use Rattle.std.proofs.lemmas.Cmp.{nat_cmp_total}
use Rattle.std.proofs.lemmas.Option.{slice_get_within, slice_get-get_or, some_pair_parts}
use Rattle.s80_class.specs.declared.entry.ClassEntry.{ClassEntry}
use Rattle.s80_class.specs.declared.inherited.Totals.{Totals}
use Rattle.s80_class.specs.Classes.{ClassRow}
use Rattle.s80_class.specs.Counted.{over, own, own_of}
use Rattle.s80_class.specs.Table.{Table, IsNumberOf, IsClass, IsSuperclass, IsEntryOf, row_of}
use Rattle.s80_class.specs.Kept.{names_of, IsKept}
use Rattle.s80_class.specs.Below.{Pair, comes_before, Has, IsPlaceOf, IsWith, IsWithout, IsMoved, IsIndexed}
use Rattle.s80_class.specs.Family.{Found, IsBelow, AreDistinct, AreUnder, AreSubclasses}
use Rattle.s80_class.proofs.lemmas.Rows.{Entries, IsAt, get_kept, get_new, get_pushed, get_set, get_set_other, same_number, entry_of_number, name_is, superclass_in}
use Rattle.s80_class.proofs.Keeping.{shows_kept, is_entry}
use Rattle.s80_class.proofs.Calls.{shown}
use Rattle.s80_class.proofs.Pairs.{before_itself}

pub none_there : {A : Type 0} (k : ℕ) (x : A) → slice_get [] k ≡ Some x → ⊥
none_there {A} k x is = let bad : None ≡ Some x = is in cc

pub none_indexed : IsIndexed [] []
none_indexed = record {
  ordered = λ i j p q lt a b. absurd (none_there i p a);
  listed = λ i e at. absurd (none_there i (Some e) at);
  only = λ p has. absurd (none_there has.0 p has.1);
}

module _ (es : Entries) (pairs : List Pair) (indexed : IsIndexed es pairs) where
  -- ---- a class more

  pub new_number : (superclass : Option ℕ) → Has pairs (superclass, length es) → ⊥
  new_number superclass has =
      let e = indexed.only (superclass, length es) has in
      let lt : length es < length es = slice_get_within es (length es) (Some e.0) e.1 in
      absurd (omega arith)

  pub indexed_more : (e : ClassEntry) (new : List Pair) → IsWith pairs (e.superclass, length es) new → IsIndexed (es ++ Some e ∷ []) new
  indexed_more e new with = record { ordered = with.ordered; listed = listed; only = only }
    where
      listed : (i : ℕ) (f : ClassEntry) → IsAt (es ++ Some e ∷ []) i f → Has new (f.superclass, i)
      listed i f at = elim (get_pushed es (Some e) i (Some f) at) [
        | inl old ↦ with.kept (f.superclass, i) (indexed.listed i f old)
        | inr is ↦
            let same : e ≡ f = let h : Some e ≡ Some f = is.1 in cc in
            let pair : ◌≡◌ {A = Pair} (e.superclass, length es) (f.superclass, i) = λ j. ((same j).superclass, sym is.0 j) in
            subst (Has new) pair with.there
      ]

      only : (p : Pair) → Has new p → (f : ClassEntry) × IsAt (es ++ Some e ∷ []) p.1 f × (f.superclass ≡ p.0)
      only p has = elim (with.only p has) [
        | inl old ↦ let f = indexed.only p old in (f.0, get_kept es (Some e ∷ []) p.1 (Some f.0) f.1, f.2)
        | inr is ↦ (e, subst (λ n. IsAt (es ++ Some e ∷ []) n e) (sym (ap (λ (q : Pair). q.1) is)) (get_new es (Some e)), sym (ap (λ (q : Pair). q.0) is))
      ]

  module _ (c : ℕ) (old : ClassEntry) (at : IsAt es c old) where
    pub is_there : Has pairs (old.superclass, c)
    is_there = indexed.listed c old at

    pub one_superclass : (other : Option ℕ) → Has pairs (other, c) → other ≡ old.superclass
    one_superclass other has =
        let e = indexed.only (other, c) has in
        let same : e.0 ≡ old = let h : Some (Some e.0) ≡ Some (Some old) = sym e.1 ∙ at in cc in
        sym e.2 ∙ ap (λ (f : ClassEntry). f.superclass) same

    -- ---- another entry

    pub indexed_other : (e : ClassEntry) (new : List Pair) → IsMoved pairs c e.superclass new → IsIndexed (set es c (Some e)) new
    indexed_other e new moved = record { ordered = moved.ordered; listed = listed; only = only }
      where
        listed : (i : ℕ) (f : ClassEntry) → IsAt (set es c (Some e)) i f → Has new (f.superclass, i)
        listed i f is = elim (same_number i c) [
          | inl here ↦
              let same : e ≡ f = let h : Some (Some e) ≡ Some (Some f) = sym (get_set es c (Some old) (Some e) at) ∙ ap (slice_get (set es c (Some e))) (sym here) ∙ is in cc in
              let pair : ◌≡◌ {A = Pair} (e.superclass, c) (f.superclass, i) = λ j. ((same j).superclass, sym here j) in
              subst (Has new) pair moved.there
          | inr ne ↦ moved.kept (f.superclass, i) (indexed.listed i f (sym (get_set_other es c i (Some e) ne) ∙ is)) ne
        ]

        only : (p : Pair) → Has new p → (f : ClassEntry) × IsAt (set es c (Some e)) p.1 f × (f.superclass ≡ p.0)
        only p has = elim (moved.only p has) [
          | inl before ↦ let f = indexed.only p before.0 in (f.0, get_set_other es c p.1 (Some e) before.1 ∙ f.1, f.2)
          | inr is ↦ (e, subst (λ n. IsAt (set es c (Some e)) n e) (sym (ap (λ (q : Pair). q.1) is)) (get_set es c (Some old) (Some e) at), sym (ap (λ (q : Pair). q.0) is))
        ]

    -- ---- a class less

    pub indexed_less : (new : List Pair) → IsWithout pairs (old.superclass, c) new → IsIndexed (set es c None) new
    indexed_less new without = record { ordered = without.ordered; listed = listed; only = only }
      where
        listed : (i : ℕ) (f : ClassEntry) → IsAt (set es c None) i f → Has new (f.superclass, i)
        listed i f is = elim (same_number i c) [
          | inl here ↦ let h : Some None ≡ Some (Some f) = sym (get_set es c (Some old) None at) ∙ ap (slice_get (set es c None)) (sym here) ∙ is in cc
          | inr ne ↦ without.kept (f.superclass, i) (indexed.listed i f (sym (get_set_other es c i None ne) ∙ is)) (λ same. ne (ap (λ (q : Pair). q.1) same))
        ]

        only : (p : Pair) → Has new p → (f : ClassEntry) × IsAt (set es c None) p.1 f × (f.superclass ≡ p.0)
        only p has =
            let before = without.only p has in
            let f = indexed.only p before.0 in
            let ne : p.1 ≢ c = λ here.
            let above = one_superclass p.0 (subst (λ n. Has pairs (p.0, n)) here before.0) in
            before.1 (λ j. (above j, here j)) in
            (f.0, get_set_other es c p.1 None ne ∙ f.1, f.2)

-- ---- the subclasses of a class

pub below_entry : (table : Table) (x s : ℕ) (e : ClassEntry) → IsEntryOf table x e → e.superclass ≡ Some s → IsBelow table x (row_of table.names e) s
below_entry table x s e is above =
    let class = subst (IsSuperclass table.names) above is.superclass in
    record {
      name = e.class_name;
      above = class.0;
      named = is.named;
      here = is.row;
      superclass_is = ap (superclass_in table.names) above ∙ name_is table.names s class.0 class.1;
      named_above = class.1;
    }

pub same_row : (table : Table) (x : ℕ) (e f : ClassEntry) → IsEntryOf table x e → IsEntryOf table x f → row_of table.names e ≡ row_of table.names f
same_row table x e f a b =
    let name : e.class_name ≡ f.class_name = let h : Some (Some e.class_name) ≡ Some (Some f.class_name) = sym a.named ∙ b.named in cc in
    let h : Some (row_of table.names e) ≡ Some (row_of table.names f) = sym a.row ∙ ap (map.get table.classes) name ∙ b.row in cc

not_before_least : (s x : ℕ) → comes_before (Some s, x) (Some s, 0) ≡ false
not_before_least s x = ap (λ r. is_lt (ordering_then r (nat_cmp x 0))) (tied_itself nat_cmp_total s) ∙ not_below x
  where
    not_below : (n : ℕ) → is_lt (nat_cmp n 0) ≡ false
    not_below zero = ap is_lt (tied_itself nat_cmp_total 0)
    not_below (suc n) = ap is_lt (sym (nat_cmp_is (suc n) 0 Greater (omega arith)))

-- what was read of the pairs from one place up to another: all are of this superclass
pub record IsRead (table : Table) (number : ℕ) (totals : Totals) (pairs : List Pair) (first at : ℕ) (more : List Found) : Type 0 where
  pub size : first + length more ≡ at
  pub stands : (k : ℕ) (p : Found) → slice_get more k ≡ Some p → slice_get pairs (first + k) ≡ Some (Some number, p.0)
  pub sound : (k : ℕ) (p : Found) → slice_get more k ≡ Some p → (row : ClassRow) × IsBelow table p.0 row number × (p.1 ≡ over (own_of row) totals)

pub nothing_read : (table : Table) (number : ℕ) (totals : Totals) (pairs : List Pair) (first : ℕ) → IsRead table number totals pairs first first []
nothing_read table number totals pairs first = record {
  size = omega arith;
  stands = λ k p is. absurd (none_there k p is);
  sound = λ k p is. absurd (none_there k p is);
}

equal_first : (s : Option ℕ) (n y x : ℕ) (r : Ordering) → option_cmp nat_cmp s (Some n) ≡ r → s ≢ Some n → is_lt (ordering_then r (nat_cmp y x)) ≡ true → r ≡ Less
equal_first s n y x Less is ne h = refl
equal_first None n y x Equal is ne h = absurd (let bad : Less ≡ Equal = is in cc)
equal_first (Some m) n y x Equal is ne h = absurd (ne (ap Some (map.nat_cmp-IsAntisymmetric m n is)))
equal_first s n y x Greater is ne h = absurd (true≢false (sym h))

-- what a comparison of superclasses tells
pub differs : (o : Option ℕ) (n : ℕ) (b : Bool) → b ≡ not (option_eq eqb o (Some n)) → b ≡ true → o ≢ Some n
differs o n b is t same = true≢false (sym t ∙ is ∙ ap (λ p. not (option_eq eqb p (Some n))) same ∙ ap not (itself n))
  where
    itself : (m : ℕ) → eqb m m ≡ true
    itself m = go (eqb m m) refl
      where
        go : (v : Bool) → eqb m m ≡ v → eqb m m ≡ true
        go true e = e
        go false e = absurd (grind arith)

pub same_number_of : (o : Option ℕ) (n : ℕ) (b : Bool) → b ≡ not (option_eq eqb o (Some n)) → b ≡ false → o ≡ Some n
same_number_of None n b is f = absurd (true≢false (sym is ∙ f))
same_number_of (Some m) n b is f = go (eqb m n) refl (sym is ∙ f)
  where
    go : (v : Bool) → eqb m n ≡ v → not v ≡ false → Some m ≡ Some n
    go true e h = ap Some (eqb-true m n e)
    go false e h = absurd (true≢false h)

pub push_none : (xs : List Found) → xs ≡ xs ++ []
push_none [] = refl
push_none (x ∷ xs) = ap (λ (ys : List Found). x ∷ ys) (push_none xs)

pub push_one : (old more now new : List Found) (p : Found) → now ≡ old ++ more → new ≡ now ++ p ∷ [] → new ≡ old ++ (more ++ p ∷ [])
push_one old more now new p is pushed = pushed ∙ ap (λ xs. xs ++ p ∷ []) is ∙ append_assoc old more (p ∷ [])

module _ (es : Entries) (order : List ℕ) (kept : IsKept es order) (pairs : List Pair) (indexed : IsIndexed es pairs) (spare : ℕ) (table : Table) (shows : shown es spare ≡ table) where
  -- the entry of a pair
  pub entry_of_pair : (p : Pair) → Has pairs p → (e : ClassEntry) × IsEntryOf table p.1 e × (e.superclass ≡ p.0)
  entry_of_pair p has =
      let e = indexed.only p has in
      (e.0, subst (λ t. IsEntryOf t p.1 e.0) shows (is_entry es order kept spare p.1 e.0 e.1), e.2)

  pub class_of_pair : (p : Pair) → Has pairs p → IsClass table.names p.1
  class_of_pair p has = let e = entry_of_pair p has in (e.0.class_name, e.1.named)

  has_here : (x s : ℕ) (row : ClassRow) → IsBelow (shown es spare) x row s → Has pairs (Some s, x)
  has_here x s row below =
      let e = entry_of_number es x below.name below.named in
      let shows = shows_kept es order kept in
      let rows : row_of (names_of es) e.0 ≡ row =
      let h : Some (row_of (names_of es) e.0) ≡ Some row = sym (shows.found x e.0 e.1) ∙ ap (map.get (shown es spare).classes) e.2 ∙ below.here in cc in
      let named : superclass_in (names_of es) e.0.superclass ≡ Some below.above = ap (λ (r : ClassRow). r.superclass) rows ∙ below.superclass_is in
      subst (λ (o : Option ℕ). Has pairs (o, x)) (numbered e.0.superclass (kept.superclasses x e.0 e.1) named) (indexed.listed x e.0 e.1)
    where
      numbered : (o : Option ℕ) → IsSuperclass (names_of es) o → superclass_in (names_of es) o ≡ Some below.above → o ≡ Some s
      numbered None class is = absurd (let bad : None ≡ Some below.above = is in cc)
      numbered (Some n) class is =
          let h : Some class.0 ≡ Some below.above = sym (name_is (names_of es) n class.0 class.1) ∙ is in
          let name : class.0 ≡ below.above = cc in
          ap Some (kept.one_number n s below.above (subst (λ q. IsNumberOf (names_of es) n q) name class.1) below.named_above)

  pub has_below : (x s : ℕ) (row : ClassRow) → IsBelow table x row s → Has pairs (Some s, x)
  has_below x s row below = has_here x s row (subst (λ t. IsBelow t x row s) (sym shows) below)

  module _ (number : ℕ) (totals : Totals) (first : ℕ) where
    -- one more of this superclass
    pub read_more : (at x : ℕ) (more : List Found) (e : ClassEntry) (t : Totals) → IsRead table number totals pairs first at more → slice_get pairs at ≡ Some (Some number, x) → IsEntryOf table x e
        → t ≡ over (own e.kind e.inst_vars e.class_side_vars) totals → IsRead table number totals pairs first (at + 1) (more ++ (x, t) ∷ [])
    read_more at x more e t read here is adds = record { size = omega (arith, read.size, length-append more ((x, t) ∷ [])); stands = stands; sound = sound }
      where
        stands : (k : ℕ) (p : Found) → slice_get (more ++ (x, t) ∷ []) k ≡ Some p → slice_get pairs (first + k) ≡ Some (Some number, p.0)
        stands k p got = elim (get_pushed more (x, t) k p got) [
          | inl old ↦ read.stands k p old
          | inr new ↦
              let place : at ≡ first + k = omega (arith, read.size, new.0) in
              subst (λ m. slice_get pairs m ≡ Some (Some number, p.0)) place (here ∙ ap (λ (q : Found). Some (Some number, q.0)) new.1)
        ]

        sound : (k : ℕ) (p : Found) → slice_get (more ++ (x, t) ∷ []) k ≡ Some p → (row : ClassRow) × IsBelow table p.0 row number × (p.1 ≡ over (own_of row) totals)
        sound k p got = elim (get_pushed more (x, t) k p got) [
          | inl old ↦ read.sound k p old
          | inr new ↦
              let f = entry_of_pair (Some number, x) (at, here) in
              let below = subst (λ r. IsBelow table x r number) (same_row table x f.0 e f.1 is) (below_entry table x number f.0 f.1 f.2) in
              subst (λ (q : Found). (row : ClassRow) × IsBelow table q.0 row number × (q.1 ≡ over (own_of row) totals)) new.1 (row_of table.names e, below, adds)
        ]

    -- what was read are subclasses, each once
    pub are_under : (at : ℕ) (more : List Found) → IsRead table number totals pairs first at more → AreUnder table number totals more
    are_under at more read = record { distinct = distinct; sound = read.sound }
      where
        distinct : AreDistinct more
        distinct j k p q is_p is_q same =
            let at_p : slice_get pairs (first + j) ≡ Some (Some number, p.0) = read.stands j p is_p in
            let at_q : slice_get pairs (first + k) ≡ Some (Some number, p.0) = read.stands k q is_q ∙ ap (λ (n : ℕ). Some (Some number, n)) (sym same) in
            elim (cases_lt j k) as (λ _. j ≡ k) [
              | inl lt ↦ absurd (true≢false (sym (indexed.ordered (first + j) (first + k) (Some number, p.0) (Some number, p.0) (omega arith) at_p at_q) ∙ before_itself (Some number, p.0)))
              | inr ge ↦ elim (cases_lt k j) as (λ _. j ≡ k) [
                | inl gt ↦ absurd (true≢false (sym (indexed.ordered (first + k) (first + j) (Some number, p.0) (Some number, p.0) (omega arith) at_q at_p) ∙ before_itself (Some number, p.0)))
                | inr le ↦ omega arith
              ]
            ]

    -- no further one is of this superclass
    abbrev pub IsLast : ℕ → Type 0
    IsLast at = (p : Pair) → slice_get pairs at ≡ Some p → p.0 ≢ Some number

    module _ (at : ℕ) (more : List Found) (read : IsRead table number totals pairs first at more) (place : IsPlaceOf pairs (Some number, 0) first) (last : IsLast at) where
      from_first : (m x : ℕ) → slice_get pairs m ≡ Some (Some number, x) → first ≤ m
      from_first m x is = elim (cases_lt m first) as (λ _. first ≤ m) [
        | inl lt ↦ absurd (true≢false (sym (place.before m (Some number, x) lt is) ∙ not_before_least number x))
        | inr le ↦ le
      ]

      before_last : (m x : ℕ) → slice_get pairs m ≡ Some (Some number, x) → m < at
      before_last m x is = elim (cases_lt m at) as (λ _. m < at) [
        | inl lt ↦ lt
        | inr ge ↦
            let within : at < length pairs = omega (arith, slice_get_within pairs m (Some number, x) is) in
            let here : slice_get pairs at ≡ Some (get_or pairs at (Some number, x)) = slice_get-get_or pairs at (Some number, x) within in
            absurd (lost m x is (get_or pairs at (Some number, x)) here ge)
      ]
        where
          lost : (m x : ℕ) → slice_get pairs m ≡ Some (Some number, x) → (p : Pair) → slice_get pairs at ≡ Some p → at ≤ m → ⊥
          lost m x is p here le = elim (cases_lt at m) [
            | inl lt ↦
                let less : option_cmp nat_cmp p.0 (Some number) ≡ Less = equal_first p.0 number p.1 x (option_cmp nat_cmp p.0 (Some number)) refl (last p here) (indexed.ordered at m p (Some number, x) lt here is) in
                let behind : comes_before p (Some number, 0) ≡ false = place.behind at p (omega (arith, read.size)) here in
                true≢false (ap (λ r. is_lt (ordering_then r (nat_cmp p.1 0))) (sym less) ∙ behind)
            | inr ge ↦
                let same : at ≡ m = omega arith in
                let pair : Some p ≡ Some (Some number, x) = sym here ∙ ap (slice_get pairs) same ∙ is in
                last p here (ap (λ (q : Pair). q.0) (let both : p ≡ (Some number, x) = cc in both))
          ]

      all : (x : ℕ) (row : ClassRow) → IsBelow table x row number → (k : ℕ) × (t : Totals) × (slice_get more k ≡ Some (x, t))
      all x row below =
          let has = has_below x number row below in
          let le : first ≤ has.0 = from_first has.0 x has.1 in
          let lt : has.0 < at = before_last has.0 x has.1 in
          let k : ℕ = has.0 - first in
          let within : k < length more = omega (arith, read.size) in
          let p : Found = get_or more k (x, totals) in
          let here : slice_get more k ≡ Some p = slice_get-get_or more k (x, totals) within in
          let place_is : first + k ≡ has.0 = omega arith in
          let same : p.0 ≡ x = (some_pair_parts (Some number) (Some number) p.0 x (sym (read.stands k p here) ∙ ap (slice_get pairs) place_is ∙ has.1)).1 in
          (k, p.1, here ∙ (λ i. Some (same i, p.1)))

      pub are_subclasses : AreSubclasses table number totals more
      are_subclasses = record { under = are_under at more read; all = all }
