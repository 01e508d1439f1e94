-- The entries of a table, and the map that they show.
use Rattle.std.proofs.Common.{◌≡◌, ◌≢◌, ◌∙◌, ◌++◌, ◌⊎◌, inl, inr, ℕ, suc, zero, cond, true, false, refl, sym, ap, subst, List, [], ◌∷◌, length, set, Option, Some, None, true≢false, arith, slice_get}
use Rattle.std.specs.Option.{option_map, option_and_then}
use Rattle.std.specs.Str.{bytes_eq}
use Rattle.std.specs.Ordering.{nat_cmp}
use Rattle.std.specs.Cmp.Lexicographic.{slice_cmp, nat_list_cmp_total, bytes_decides, texts_ties}
use Rattle.std.specs.FinMap as map
use Rattle.std.proofs.lemmas.Option.{slice_get-map}
use Rattle.s80_class.specs.declared.entry.ClassEntry.{ClassEntry}
use Rattle.s80_class.specs.Classes.{Name, ClassRow, Classes}
use Rattle.s80_class.specs.Table.{name_of, IsNumberOf, IsSuperclass, row_of}
use Rattle.s80_class.specs.Kept.{names_of, with_row, rows}
use Rattle.s80_class.proofs.lemmas.Lines.{Entry, bytes_eq-self, eq_not, get-here, get-elsewhere, get-left, get-gone}

abbrev pub Entries : Type 0
Entries = List (Option ClassEntry)

abbrev pub IsAt : Entries → ℕ → ClassEntry → Type 0
IsAt es i e = slice_get es i ≡ Some (Some e)

abbrev pub IsDistinct : Entries → Type 0
IsDistinct es = (i j : ℕ) (e f : ClassEntry) → IsAt es i e → IsAt es j f → e.class_name ≡ f.class_name → i ≡ j

abbrev find : Name → List Entry → Option ClassRow
find q es = map.find (slice_cmp nat_cmp) q es

find_cons : (q k : Name) (v : ClassRow) (es : List Entry) → find q ((k, v) ∷ es) ≡ cond (bytes_eq q k) (Some v) (find q es)
find_cons q k v es = ap (λ b. cond b (Some v) (find q es)) (sym (texts_ties q k))

find_here : (q : Name) (v : ClassRow) (es : List Entry) → find q ((q, v) ∷ es) ≡ Some v
find_here q v es = find_cons q q v es ∙ ap (λ b. cond b (Some v) (find q es)) (bytes_eq-self q)

find_past : (q k : Name) (v : ClassRow) (es : List Entry) → q ≢ k → find q ((k, v) ∷ es) ≡ find q es
find_past q k v es ne = find_cons q k v es ∙ ap (λ b. cond b (Some v) (find q es)) (eq_not q k ne)

row_found : (names : List (Option Name)) (es : Entries) (i : ℕ) (e : ClassEntry) → IsAt es i e → IsDistinct es → find e.class_name (rows names es) ≡ Some (row_of names e)
row_found names [] i e at distinct = cc
row_found names (x ∷ es) zero e at distinct =
    let is : x ≡ Some e = cc in
    rw is (find_here e.class_name (row_of names e) (rows names es))
row_found names (x ∷ es) (suc i) e at distinct =
    let rest : IsDistinct es = λ m n f g a b same. let next : suc m ≡ suc n = distinct (suc m) (suc n) f g a b same in omega arith in
    let found = row_found names es i e at rest in
    elim x as (λ o. ((f : ClassEntry) → o ≡ Some f → e.class_name ≡ f.class_name → ⊥) → find e.class_name (with_row names o (rows names es)) ≡ Some (row_of names e)) [
      | None ↦ λ _. found
      | Some f ↦ λ apart. find_past e.class_name f.class_name (row_of names f) (rows names es) (apart f refl) ∙ found
    ] (λ f is same. let bad : suc i ≡ 0 = distinct (suc i) 0 e f at (ap Some is) same in omega arith)

abbrev IsListed : List (Option Name) → Entries → Name → ClassRow → Type 0
IsListed names es q row = (i : ℕ) × (e : ClassEntry) × IsAt es i e × (e.class_name ≡ q) × (row_of names e ≡ row)

one_on : (names : List (Option Name)) (x : Option ClassEntry) (es : Entries) (q : Name) (row : ClassRow) → IsListed names es q row → IsListed names (x ∷ es) q row
one_on names x es q row h = (suc h.0, h.1, h.2, h.3, h.4)

row_listed : (names : List (Option Name)) (es : Entries) (q : Name) (row : ClassRow) → find q (rows names es) ≡ Some row → IsListed names es q row
row_listed names [] q row is = cc
row_listed names (None ∷ es) q row is = one_on names None es q row (row_listed names es q row is)
row_listed names (Some e ∷ es) q row is =
    elim (bytes_eq q e.class_name) as (λ b. bytes_eq q e.class_name ≡ b → cond b (Some (row_of names e)) (find q (rows names es)) ≡ Some row → IsListed names (Some e ∷ es) q row) [
      | true ↦ λ same found. let r : row_of names e ≡ row = cc in (0, e, refl, sym ((bytes_decides q e.class_name).0 same), r)
      | false ↦ λ _ found. one_on names (Some e) es q row (row_listed names es q row found)
    ] refl (sym (find_cons q e.class_name (row_of names e) (rows names es)) ∙ is)

-- the map says of each class what its entry says, and of no other
pub record Shows (names : List (Option Name)) (es : Entries) (m : Classes) : Type 0 where
  pub found : (i : ℕ) (e : ClassEntry) → IsAt es i e → map.get m e.class_name ≡ Some (row_of names e)
  pub listed : (q : Name) (row : ClassRow) → map.get m q ≡ Some row → IsListed names es q row

pub shows_rows : (names : List (Option Name)) (es : Entries) → IsDistinct es → Shows names es (map.from_entries (rows names es))
shows_rows names es distinct = record {
  found = λ i e at. map.get-from_entries nat_list_cmp_total (rows names es) e.class_name ∙ row_found names es i e at distinct;
  listed = λ q row is. row_listed names es q row (sym (map.get-from_entries nat_list_cmp_total (rows names es) q) ∙ is);
}

shows_get : (names : List (Option Name)) (es : Entries) (m n : Classes) → Shows names es m → Shows names es n → (q : Name) (row : ClassRow) → map.get m q ≡ Some row → map.get n q ≡ Some row
shows_get names es m n g h q row is =
    let l = g.listed q row is in
    ap (map.get n) (sym l.3) ∙ h.found l.0 l.1 l.2 ∙ ap Some l.4

pub shows_same : (names : List (Option Name)) (es : Entries) (m n : Classes) → Shows names es m → Shows names es n → m ≡ n
shows_same names es m n g h = map.same_map nat_list_cmp_total (map.slice_cmp-IsAntisymmetric map.nat_cmp-IsAntisymmetric) m n (λ q. go q (map.get m q) refl (map.get n q) refl)
  where
    go : (q : Name) → (a : Option ClassRow) → map.get m q ≡ a → (b : Option ClassRow) → map.get n q ≡ b → map.get m q ≡ map.get n q
    go q None a None b = a ∙ sym b
    go q None a (Some r) b = shows_get names es n m h g q r b ∙ sym b
    go q (Some r) a b' b = a ∙ sym (shows_get names es m n g h q r a)

-- ---- elements of a list that grew, or of which one was set

module _ {A : Type 0} where
  pub get_kept : (xs ys : List A) (i : ℕ) (x : A) → slice_get xs i ≡ Some x → slice_get (xs ++ ys) i ≡ Some x
  get_kept [] ys i x is = cc
  get_kept (y ∷ xs) ys zero x is = is
  get_kept (y ∷ xs) ys (suc i) x is = get_kept xs ys i x is

  pub get_new : (xs : List A) (y : A) → slice_get (xs ++ y ∷ []) (length xs) ≡ Some y
  get_new [] y = refl
  get_new (x ∷ xs) y = get_new xs y

  pub get_pushed : (xs : List A) (y : A) (i : ℕ) (x : A) → slice_get (xs ++ y ∷ []) i ≡ Some x → (slice_get xs i ≡ Some x) ⊎ ((i ≡ length xs) × (y ≡ x))
  get_pushed [] y zero x is = let same : y ≡ x = cc in inr (refl, same)
  get_pushed [] y (suc i) x is = cc
  get_pushed (z ∷ xs) y zero x is = inl is
  get_pushed (z ∷ xs) y (suc i) x is = elim (get_pushed xs y i x is) [
    | inl h ↦ inl h
    | inr h ↦ inr (omega (arith, h.0), h.1)
  ]

  pub get_set : (xs : List A) (i : ℕ) (x y : A) → slice_get xs i ≡ Some x → slice_get (set xs i y) i ≡ Some y
  get_set [] i x y is = cc
  get_set (z ∷ xs) zero x y is = refl
  get_set (z ∷ xs) (suc i) x y is = get_set xs i x y is

  pub get_set_other : (xs : List A) (i j : ℕ) (y : A) → j ≢ i → slice_get (set xs i y) j ≡ slice_get xs j
  get_set_other [] i j y ne = refl
  get_set_other (z ∷ xs) zero zero y ne = absurd (ne refl)
  get_set_other (z ∷ xs) zero (suc j) y ne = refl
  get_set_other (z ∷ xs) (suc i) zero y ne = refl
  get_set_other (z ∷ xs) (suc i) (suc j) y ne = get_set_other xs i j y (λ e. ne (ap suc e))

  pub set_again : (xs : List A) (i : ℕ) (x : A) → slice_get xs i ≡ Some x → set xs i x ≡ xs
  set_again [] i x is = refl
  set_again (z ∷ xs) zero x is = let same : x ≡ z = cc in ap (λ y. y ∷ xs) same
  set_again (z ∷ xs) (suc i) x is = ap (λ ys. z ∷ ys) (set_again xs i x is)

pub same_number : (i j : ℕ) → (i ≡ j) ⊎ (i ≢ j)
same_number zero zero = inl refl
same_number zero (suc j) = inr (λ e. omega arith)
same_number (suc i) zero = inr (λ e. omega arith)
same_number (suc i) (suc j) = elim (same_number i j) [ inl e ↦ inl (ap suc e) | inr ne ↦ inr (λ e. ne (omega arith)) ]

-- ---- names and numbers

pub number_of_entry : (es : Entries) (i : ℕ) (e : ClassEntry) → IsAt es i e → IsNumberOf (names_of es) i e.class_name
number_of_entry es i e at = slice_get-map (option_map (λ (f : ClassEntry). f.class_name)) es i ∙ ap (option_map (option_map (λ (f : ClassEntry). f.class_name))) at

pub entry_of_number : (es : Entries) (i : ℕ) (name : Name) → IsNumberOf (names_of es) i name → (e : ClassEntry) × IsAt es i e × (e.class_name ≡ name)
entry_of_number es i name is = go (slice_get es i) refl (sym (slice_get-map (option_map (λ (f : ClassEntry). f.class_name)) es i) ∙ is)
  where
    go : (o : Option (Option ClassEntry)) → slice_get es i ≡ o → option_map (option_map (λ (f : ClassEntry). f.class_name)) o ≡ Some (Some name) → (e : ClassEntry) × IsAt es i e × (e.class_name ≡ name)
    go None at h = cc
    go (Some None) at h = cc
    go (Some (Some e)) at h = let same : e.class_name ≡ name = cc in (e, at, same)

pub distinct_entries : (es : Entries) → ((i j : ℕ) (name : Name) → IsNumberOf (names_of es) i name → IsNumberOf (names_of es) j name → i ≡ j) → IsDistinct es
distinct_entries es one i j e f a b same =
    one i j e.class_name (number_of_entry es i e a) (subst (λ (n : Name). IsNumberOf (names_of es) j n) (sym same) (number_of_entry es j f b))

pub distinct_names : (es : Entries) → IsDistinct es → (i j : ℕ) (name : Name) → IsNumberOf (names_of es) i name → IsNumberOf (names_of es) j name → i ≡ j
distinct_names es distinct i j name a b =
    let e = entry_of_number es i name a in
    let f = entry_of_number es j name b in
    distinct i j e.0 f.0 e.1 f.1 (e.2 ∙ sym f.2)

-- ---- what an entry says

abbrev row_with : Option Name → ClassEntry → ClassRow
row_with superclass entry = record {
  superclass = superclass;
  kind = entry.kind;
  inst_vars = entry.inst_vars;
  class_vars = entry.class_vars;
  pools = entry.pools;
  category = entry.category;
  comment = entry.comment;
  class_side_vars = entry.class_side_vars;
}

abbrev pub superclass_in : List (Option Name) → Option ℕ → Option Name
superclass_in names superclass = option_and_then (name_of names) superclass

pub row_same : (names others : List (Option Name)) (e : ClassEntry) → superclass_in names e.superclass ≡ superclass_in others e.superclass → row_of names e ≡ row_of others e
row_same names others e same = ap (λ s. row_with s e) same

pub name_is : (names : List (Option Name)) (i : ℕ) (name : Name) → IsNumberOf names i name → name_of names i ≡ Some name
name_is names i name is = ap (option_and_then (λ (n : Option Name). n)) is

superclass_kept : (names others : List (Option Name)) (s : Option ℕ) → IsSuperclass names s → superclass_in (names ++ others) s ≡ superclass_in names s
superclass_kept names others None is = refl
superclass_kept names others (Some i) is = name_is (names ++ others) i is.0 (get_kept names others i (Some is.0) is.1) ∙ sym (name_is names i is.0 is.1)

pub is_superclass_kept : (names others : List (Option Name)) (s : Option ℕ) → IsSuperclass names s → IsSuperclass (names ++ others) s
is_superclass_kept names others None is = tt
is_superclass_kept names others (Some i) is = (is.0, get_kept names others i (Some is.0) is.1)

-- ---- a class more

module _ (names : List (Option Name)) (es : Entries) (m : Classes) (shows : Shows names es m) where
  pub shows_pushed : (e : ClassEntry) → ((i : ℕ) (f : ClassEntry) → IsAt es i f → IsSuperclass names f.superclass) → map.get m e.class_name ≡ None → IsSuperclass names e.superclass
      → Shows (names ++ Some e.class_name ∷ []) (es ++ Some e ∷ []) (map.insert m e.class_name (row_of names e))
  shows_pushed e superclasses none super = record { found = found; listed = listed }
    where
      apart : (i : ℕ) (f : ClassEntry) → IsAt es i f → f.class_name ≢ e.class_name
      apart i f at same = let bad : Some (row_of names f) ≡ None = sym (shows.found i f at) ∙ ap (map.get m) same ∙ none in cc

      row_kept : (f : ClassEntry) → IsSuperclass names f.superclass → row_of (names ++ Some e.class_name ∷ []) f ≡ row_of names f
      row_kept f is = row_same (names ++ Some e.class_name ∷ []) names f (superclass_kept names (Some e.class_name ∷ []) f.superclass is)

      found : (i : ℕ) (f : ClassEntry) → IsAt (es ++ Some e ∷ []) i f → map.get (map.insert m e.class_name (row_of names e)) f.class_name ≡ Some (row_of (names ++ Some e.class_name ∷ []) f)
      found i f at = elim (get_pushed es (Some e) i (Some f) at) [
        | inl old ↦ get-elsewhere m e.class_name (row_of names e) f.class_name (apart i f old) ∙ shows.found i f old ∙ ap Some (sym (row_kept f (superclasses i f old)))
        | inr is ↦
            let same : e ≡ f = let h : Some e ≡ Some f = is.1 in cc in
            subst (λ (g : ClassEntry). map.get (map.insert m e.class_name (row_of names e)) g.class_name ≡ Some (row_of (names ++ Some e.class_name ∷ []) g)) same
            (get-here m e.class_name (row_of names e) ∙ ap Some (sym (row_kept e super)))
      ]

      listed : (q : Name) (row : ClassRow) → map.get (map.insert m e.class_name (row_of names e)) q ≡ Some row → IsListed (names ++ Some e.class_name ∷ []) (es ++ Some e ∷ []) q row
      listed q row is =
          elim (bytes_eq q e.class_name) as (λ b. bytes_eq q e.class_name ≡ b → IsListed (names ++ Some e.class_name ∷ []) (es ++ Some e ∷ []) q row) [
            | true ↦ λ t.
                let same : q ≡ e.class_name = (bytes_decides q e.class_name).0 t in
                let r : row_of names e ≡ row = let h : Some (row_of names e) ≡ Some row = sym (get-here m e.class_name (row_of names e)) ∙ ap (map.get (map.insert m e.class_name (row_of names e))) (sym same) ∙ is in cc in
                (length es, e, get_new es (Some e), sym same, row_kept e super ∙ r)
            | false ↦ λ t.
                let ne : q ≢ e.class_name = λ same. true≢false (sym ((bytes_decides q e.class_name).1 same) ∙ t) in
                let l = shows.listed q row (sym (get-elsewhere m e.class_name (row_of names e) q ne) ∙ is) in
                (l.0, l.1, get_kept es (Some e ∷ []) l.0 (Some l.1) l.2, l.3, row_kept l.1 (superclasses l.0 l.1 l.2) ∙ l.4)
          ] refl

  module _ (distinct : IsDistinct es) (c : ℕ) (old : ClassEntry) (at : IsAt es c old) where
    other_place : (i : ℕ) (f : ClassEntry) → IsAt es i f → i ≢ c → f.class_name ≢ old.class_name
    other_place i f is ne same = ne (distinct i c f old is at same)

    -- another entry in a class's place
    pub shows_set : (e : ClassEntry) → old.class_name ≡ e.class_name → Shows names (set es c (Some e)) (map.insert m e.class_name (row_of names e))
    shows_set e keeps = record { found = found; listed = listed }
      where
        found : (i : ℕ) (f : ClassEntry) → IsAt (set es c (Some e)) i f → map.get (map.insert m e.class_name (row_of names e)) f.class_name ≡ Some (row_of names f)
        found i f is = elim (same_number i c) [
          | inl here ↦
              let same : e ≡ f = let h : Some (Some e) ≡ Some (Some f) = sym (get_set es c (Some old) (Some e) at) ∙ ap (slice_get (set es c (Some e))) (sym here) ∙ is in cc in
              subst (λ (g : ClassEntry). map.get (map.insert m e.class_name (row_of names e)) g.class_name ≡ Some (row_of names g)) same (get-here m e.class_name (row_of names e))
          | inr ne ↦
              let before : IsAt es i f = sym (get_set_other es c i (Some e) ne) ∙ is in
              get-elsewhere m e.class_name (row_of names e) f.class_name (λ same. other_place i f before ne (same ∙ sym keeps)) ∙ shows.found i f before
        ]

        listed : (q : Name) (row : ClassRow) → map.get (map.insert m e.class_name (row_of names e)) q ≡ Some row → IsListed names (set es c (Some e)) q row
        listed q row is =
            elim (bytes_eq q e.class_name) as (λ b. bytes_eq q e.class_name ≡ b → IsListed names (set es c (Some e)) q row) [
              | true ↦ λ t.
                  let same : q ≡ e.class_name = (bytes_decides q e.class_name).0 t in
                  let r : row_of names e ≡ row = let h : Some (row_of names e) ≡ Some row = sym (get-here m e.class_name (row_of names e)) ∙ ap (map.get (map.insert m e.class_name (row_of names e))) (sym same) ∙ is in cc in
                  (c, e, get_set es c (Some old) (Some e) at, sym same, r)
              | false ↦ λ t.
                  let ne : q ≢ e.class_name = λ same. true≢false (sym ((bytes_decides q e.class_name).1 same) ∙ t) in
                  let l = shows.listed q row (sym (get-elsewhere m e.class_name (row_of names e) q ne) ∙ is) in
                  let away : l.0 ≢ c = λ here.
                  let h : Some (Some l.1) ≡ Some (Some old) = sym l.2 ∙ ap (slice_get es) here ∙ at in
                  let same : l.1 ≡ old = cc in
                  ne (sym l.3 ∙ ap (λ (f : ClassEntry). f.class_name) same ∙ keeps) in
                  (l.0, l.1, get_set_other es c l.0 (Some e) away ∙ l.2, l.3, l.4)
            ] refl

    superclass_left : (s : Option ℕ) → s ≢ Some c → superclass_in (set names c None) s ≡ superclass_in names s
    superclass_left None ne = refl
    superclass_left (Some i) ne = ap (option_and_then (λ (n : Option Name). n)) (get_set_other names c i None (λ same. ne (ap Some same)))

    -- a class taken off, which is no superclass
    pub shows_taken : ((i : ℕ) (f : ClassEntry) → IsAt es i f → f.superclass ≢ Some c) → Shows (set names c None) (set es c None) (map.remove m old.class_name)
    shows_taken alone = record { found = found; listed = listed }
      where
        row_left : (i : ℕ) (f : ClassEntry) → IsAt es i f → row_of (set names c None) f ≡ row_of names f
        row_left i f is = row_same (set names c None) names f (superclass_left f.superclass (alone i f is))

        found : (i : ℕ) (f : ClassEntry) → IsAt (set es c None) i f → map.get (map.remove m old.class_name) f.class_name ≡ Some (row_of (set names c None) f)
        found i f is = elim (same_number i c) [
          | inl here ↦ let h : Some None ≡ Some (Some f) = sym (get_set es c (Some old) None at) ∙ ap (slice_get (set es c None)) (sym here) ∙ is in cc
          | inr ne ↦
              let before : IsAt es i f = sym (get_set_other es c i None ne) ∙ is in
              get-left m old.class_name f.class_name (other_place i f before ne) ∙ shows.found i f before ∙ ap Some (sym (row_left i f before))
        ]

        listed : (q : Name) (row : ClassRow) → map.get (map.remove m old.class_name) q ≡ Some row → IsListed (set names c None) (set es c None) q row
        listed q row is =
            let ne : q ≢ old.class_name = λ same. let bad : None ≡ Some row = sym (get-gone m old.class_name) ∙ ap (map.get (map.remove m old.class_name)) (sym same) ∙ is in cc in
            let l = shows.listed q row (sym (get-left m old.class_name q ne) ∙ is) in
            let away : l.0 ≢ c = λ here.
            let h : Some (Some l.1) ≡ Some (Some old) = sym l.2 ∙ ap (slice_get es) here ∙ at in
            let same : l.1 ≡ old = cc in
            ne (sym l.3 ∙ ap (λ (f : ClassEntry). f.class_name) same) in
            (l.0, l.1, get_set_other es c l.0 None away ∙ l.2, l.3, row_left l.0 l.1 l.2 ∙ l.4)
