-- A class has one line of superclasses, it isn't longer than the map, and what a change of the classes makes of it.
use Rattle.std.proofs.Common.{drop, ◌≡◌, ◌≢◌, ◌≤◌, ◌<◌, ◌∙◌, ◌||◌, ◌-◌, ℕ, suc, zero, Bool, cond, true, false, refl, sym, ap, subst, List, [], ◌∷◌, length, Option, Some, None, is_some, true≢false, arith}
use Rattle.std.specs.List.{list_any}
use Rattle.std.specs.Str.{bytes_eq}
use Rattle.std.specs.Ordering.{nat_cmp}
use Rattle.std.specs.Cmp.Lexicographic.{slice_cmp, nat_list_cmp_total, bytes_decides, texts_ties}
use Rattle.std.specs.FinMap as map
use Rattle.s80_class.specs.Classes.{Name, ClassRow, Classes, IsLine, IsValid, upwards, then_up, lineage, is_under, descends}

abbrev pub Entry : Type 0
Entry = Name × ClassRow

-- the class is in the line
abbrev pub passes : Name → List Entry → Bool
passes name es = list_any (λ e. bytes_eq e.0 name) es

pub bytes_eq-self : (x : Name) → bytes_eq x x ≡ true
bytes_eq-self x = (bytes_decides x x).1 refl

pub eq_not : (a b : Name) → a ≢ b → bytes_eq a b ≡ false
eq_not a b ne = go (bytes_eq a b) refl
  where
    go : (r : Bool) → bytes_eq a b ≡ r → bytes_eq a b ≡ false
    go true h = absurd (ne ((bytes_decides a b).0 h))
    go false h = h

pub not_eq : (a b : Name) → bytes_eq a b ≡ false → a ≢ b
not_eq a b h e = true≢false (sym ((bytes_decides a b).1 e) ∙ h)

-- ---- look-ups by `bytes_eq`

pub get-inserted : (classes : Classes) (name : Name) (row : ClassRow) (q : Name) → map.get (map.insert classes name row) q ≡ cond (bytes_eq q name) (Some row) (map.get classes q)
get-inserted classes name row q = map.get-insert nat_list_cmp_total classes name row q ∙ ap (λ b. cond b (Some row) (map.get classes q)) (sym (texts_ties q name))

pub get-removed : (classes : Classes) (name : Name) (q : Name) → map.get (map.remove classes name) q ≡ cond (bytes_eq q name) None (map.get classes q)
get-removed classes name q = map.get-remove nat_list_cmp_total classes name q ∙ ap (λ b. cond b None (map.get classes q)) (sym (texts_ties q name))

pub get-here : (classes : Classes) (name : Name) (row : ClassRow) → map.get (map.insert classes name row) name ≡ Some row
get-here classes name row = get-inserted classes name row name ∙ ap (λ b. cond b (Some row) (map.get classes name)) (bytes_eq-self name)

pub get-elsewhere : (classes : Classes) (name : Name) (row : ClassRow) (q : Name) → q ≢ name → map.get (map.insert classes name row) q ≡ map.get classes q
get-elsewhere classes name row q ne = get-inserted classes name row q ∙ ap (λ b. cond b (Some row) (map.get classes q)) (eq_not q name ne)

pub get-left : (classes : Classes) (name : Name) (q : Name) → q ≢ name → map.get (map.remove classes name) q ≡ map.get classes q
get-left classes name q ne = get-removed classes name q ∙ ap (λ b. cond b None (map.get classes q)) (eq_not q name ne)

pub get-gone : (classes : Classes) (name : Name) → map.get (map.remove classes name) name ≡ None
get-gone classes name = get-removed classes name name ∙ ap (λ b. cond b None (map.get classes name)) (bytes_eq-self name)

-- ---- one line

pub one_line : (classes : Classes) (p : Option Name) (xs ys : List Entry) → IsLine classes p xs → IsLine classes p ys → xs ≡ ys
one_line classes None [] [] g h = refl
one_line classes None [] (y ∷ ys) g h = absurd h
one_line classes None (x ∷ xs) ys g h = absurd g
one_line classes (Some name) [] ys g h = absurd g
one_line classes (Some name) (x ∷ xs) [] g h = absurd h
one_line classes (Some name) (x ∷ xs) (y ∷ ys) g h =
    let rows : x.1 ≡ y.1 = cc in
    let keys : x.0 ≡ y.0 = g.0 ∙ sym h.0 in
    let rest : xs ≡ ys = one_line classes y.1.superclass xs ys (subst (λ (r : ClassRow). IsLine classes r.superclass xs) rows g.2) h.2 in
    λ i. (keys i, rows i) ∷ rest i

-- what stands from a class on is its line
pub tail_at : (classes : Classes) (name : Name) (p : Option Name) (es : List Entry) → IsLine classes p es → passes name es ≡ true
    → (after : List Entry) × (length after ≤ length es) × IsLine classes (Some name) after
tail_at classes name p [] line h = absurd (true≢false (sym h))
tail_at classes name None (e ∷ es) line h = absurd line
tail_at classes name (Some q) (e ∷ es) line h =
    elim (bytes_eq e.0 name) as (λ b. bytes_eq e.0 name ≡ b → (b || passes name es) ≡ true → (after : List Entry) × (length after ≤ length (e ∷ es)) × IsLine classes (Some name) after) [
      | true ↦ λ is _.
          let same : e.0 ≡ name = (bytes_decides e.0 name).0 is in
          (e ∷ es, omega arith, (same, subst (λ (n : Name). map.get classes n ≡ Some e.1) (sym line.0 ∙ same) line.1, line.2))
      | false ↦ λ is h'. let t = tail_at classes name e.1.superclass es line.2 h' in (t.0, omega (arith, t.1), t.2)
    ] refl h

-- no class is above itself
pub never_again : (classes : Classes) (name : Name) (e : Entry) (es : List Entry) → IsLine classes (Some name) (e ∷ es) → passes name es ≡ false
never_again classes name e es line = go (passes name es) refl
  where
    go : (b : Bool) → passes name es ≡ b → passes name es ≡ false
    go false h = h
    go true h =
        let t = tail_at classes name e.1.superclass es line.2 h in
        let same : e ∷ es ≡ t.0 = one_line classes (Some name) (e ∷ es) t.0 line t.2 in
        absurd (omega (arith, t.1, ap length same))

-- a line that doesn't come by a class is one in each map that differs there alone
pub line_across : (classes other : Classes) (name : Name) → ((q : Name) → q ≢ name → map.get other q ≡ map.get classes q) → (p : Option Name) (es : List Entry)
    → IsLine classes p es → passes name es ≡ false → IsLine other p es
line_across classes other name alike None [] line h = tt
line_across classes other name alike None (e ∷ es) line h = absurd line
line_across classes other name alike (Some q) [] line h = absurd line
line_across classes other name alike (Some q) (e ∷ es) line h =
    elim (bytes_eq e.0 name) as (λ b. bytes_eq e.0 name ≡ b → (b || passes name es) ≡ false → IsLine other (Some q) (e ∷ es)) [
      | true ↦ λ is bad. absurd (true≢false bad)
      | false ↦ λ is h'.
          let ne : q ≢ name = λ eq. not_eq e.0 name is (line.0 ∙ eq) in
          (line.0, alike q ne ∙ line.1, line_across classes other name alike e.1.superclass es line.2 h')
    ] refl h

pub contains_some : (classes : Classes) (name : Name) (row : ClassRow) → map.get classes name ≡ Some row → map.contains_key classes name ≡ true
contains_some classes name row is = ap is_some is

pub len_positive : (classes : Classes) (name : Name) (row : ClassRow) → map.get classes name ≡ Some row → 0 < map.len classes
len_positive classes name row is = go (map.len classes) refl
  where
    go : (n : ℕ) → map.len classes ≡ n → 0 < map.len classes
    go zero h =
        let e : classes ≡ map.empty = map.empty_of_len classes h in
        let bad : Some row ≡ None = sym is ∙ ap (λ (m : Classes). map.get m name) e ∙ map.get-empty (slice_cmp nat_cmp) name in
        cc
    go (suc n) h = omega (arith, h)

-- a line isn't longer than the map
pub line_short : (es : List Entry) (classes : Classes) (p : Option Name) → IsLine classes p es → length es ≤ map.len classes
line_short [] classes p line = omega arith
line_short (e ∷ es) classes None line = absurd line
line_short (e ∷ es) classes (Some name) line =
    let less : Classes = map.remove classes name in
    let rest : IsLine less e.1.superclass es = line_across classes less name (λ q ne. get-left classes name q ne) e.1.superclass es line.2 (never_again classes name e es line) in
    let shorter : length es ≤ map.len less = line_short es less e.1.superclass rest in
    let size : map.len less ≡ map.len classes - 1 =
    map.len-remove nat_list_cmp_total classes name ∙ ap (λ b. cond b (map.len classes - 1) (map.len classes)) (contains_some classes name e.1 line.1) in
    omega (arith, len_positive classes name e.1 line.1, shorter, size)

pub upwards_line : (count : ℕ) (classes : Classes) (p : Option Name) (es : List Entry) → IsLine classes p es → length es ≤ count → upwards count classes p ≡ es
upwards_line zero classes None [] line le = refl
upwards_line (suc count) classes None [] line le = refl
upwards_line count classes None (e ∷ es) line le = absurd line
upwards_line count classes (Some name) [] line le = absurd line
upwards_line zero classes (Some name) (e ∷ es) line le = absurd (omega arith)
upwards_line (suc count) classes (Some name) (e ∷ es) line le =
    ap (λ r. then_up name r (λ row. upwards count classes row.superclass)) line.1
    ∙ (λ i. (sym line.0 i, e.1) ∷ upwards_line count classes e.1.superclass es line.2 (omega arith) i)

pub lineage_line : (classes : Classes) (name : Name) (es : List Entry) → IsLine classes (Some name) es → lineage classes name ≡ es
lineage_line classes name es line = upwards_line (map.len classes) classes (Some name) es line (line_short es classes (Some name) line)

-- ---- an entry put in a class's place, or a new one

-- each line leads on where that of the class does
relined : (classes other : Classes) (name : Name) (top : List Entry) → ((q : Name) → q ≢ name → map.get other q ≡ map.get classes q) → IsLine other (Some name) top
    → (p : Option Name) (es : List Entry) → IsLine classes p es → (fs : List Entry) × IsLine other p fs
relined classes other name top alike at_top None es line = ([], tt)
relined classes other name top alike at_top (Some q) [] line = absurd line
relined classes other name top alike at_top (Some q) (e ∷ es) line =
    elim (bytes_eq e.0 name) as (λ b. bytes_eq e.0 name ≡ b → (fs : List Entry) × IsLine other (Some q) fs) [
      | true ↦ λ is. let same : name ≡ q = sym ((bytes_decides e.0 name).0 is) ∙ line.0 in (top, subst (λ (n : Name). IsLine other (Some n) top) same at_top)
      | false ↦ λ is.
          let ne : q ≢ name = λ eq. not_eq e.0 name is (line.0 ∙ eq) in
          let rest = relined classes other name top alike at_top e.1.superclass es line.2 in
          (e ∷ rest.0, (line.0, alike q ne ∙ line.1, rest.1))
    ] refl

-- the superclass is none, or a class whose line doesn't come by this name
abbrev pub IsOver : Classes → Name → Option Name → Type 0
IsOver classes name p = (es : List Entry) × IsLine classes p es × (passes name es ≡ false)

pub valid-insert : (classes : Classes) (name : Name) (row : ClassRow) → IsValid classes → IsOver classes name row.superclass → IsValid (map.insert classes name row)
valid-insert classes name row valid over q r is =
    let other = map.insert classes name row in
    let up : IsLine other row.superclass over.0 = line_across classes other name (get-elsewhere classes name row) row.superclass over.0 over.1 over.2 in
    let top : IsLine other (Some name) ((name, row) ∷ over.0) = (refl, get-here classes name row, up) in
    elim (bytes_eq q name) as (λ b. bytes_eq q name ≡ b → (es : List Entry) × IsLine other (Some q) es) [
      | true ↦ λ same. let e : name ≡ q = sym ((bytes_decides q name).0 same) in ((name, row) ∷ over.0, subst (λ (n : Name). IsLine other (Some n) ((name, row) ∷ over.0)) e top)
      | false ↦ λ differs.
          let ne : q ≢ name = not_eq q name differs in
          let line = valid q r (sym (get-elsewhere classes name row q ne) ∙ is) in
          relined classes other name ((name, row) ∷ over.0) (get-elsewhere classes name row) top (Some q) line.0 line.1
    ] refl

-- a name that no class has is in no line
pub absent_passed : (classes : Classes) (name : Name) → map.get classes name ≡ None → (p : Option Name) (es : List Entry) → IsLine classes p es → passes name es ≡ false
absent_passed classes name none p [] line = refl
absent_passed classes name none None (e ∷ es) line = absurd line
absent_passed classes name none (Some q) (e ∷ es) line =
    let ne : e.0 ≢ name = λ eq. let bad : Some e.1 ≡ None = sym line.1 ∙ ap (map.get classes) (sym line.0 ∙ eq) ∙ none in cc in
    ap (λ b. b || passes name es) (eq_not e.0 name ne) ∙ absent_passed classes name none e.1.superclass es line.2

-- no class has a class of this name above it
pub alone_passed : (classes : Classes) (name : Name) → ((q : Name) (row : ClassRow) → map.get classes q ≡ Some row → row.superclass ≢ Some name)
    → (p : Option Name) (es : List Entry) → p ≢ Some name → IsLine classes p es → passes name es ≡ false
alone_passed classes name alone p [] ne line = refl
alone_passed classes name alone None (e ∷ es) ne line = absurd line
alone_passed classes name alone (Some q) (e ∷ es) ne line =
    let differs : e.0 ≢ name = λ eq. ne (ap Some (sym line.0 ∙ eq)) in
    ap (λ b. b || passes name es) (eq_not e.0 name differs) ∙ alone_passed classes name alone e.1.superclass es (alone q e.1 line.1) line.2

pub valid-remove : (classes : Classes) (name : Name) → IsValid classes → ((q : Name) (row : ClassRow) → map.get classes q ≡ Some row → row.superclass ≢ Some name)
    → IsValid (map.remove classes name)
valid-remove classes name valid alone q r is =
    let ne : q ≢ name = λ eq. let bad : None ≡ Some r = sym (get-gone classes name) ∙ ap (map.get (map.remove classes name)) (sym eq) ∙ is in cc in
    let line = valid q r (sym (get-left classes name q ne) ∙ is) in
    let some : Some q ≢ Some name = λ eq. let bad : q ≡ name = cc in ne bad in
    (line.0, line_across classes (map.remove classes name) name (get-left classes name) (Some q) line.0 line.1 (alone_passed classes name alone (Some q) line.0 some line.1))

pub apart_passed : (classes : Classes) (name other : Name) → bytes_eq name other ≡ false → descends classes name other ≡ false → is_under classes name other ≡ false
apart_passed classes name other differs below = go (map.len classes) below
  where
    from : (n : ℕ) (o : Option ClassRow) → passes other (drop 1 (then_up name o (λ row. upwards n classes row.superclass))) ≡ false
        → passes other (then_up name o (λ row. upwards n classes row.superclass)) ≡ false
    from n None h = refl
    from n (Some row) h = ap (λ b. b || passes other (upwards n classes row.superclass)) differs ∙ h

    go : (n : ℕ) → passes other (drop 1 (upwards n classes (Some name))) ≡ false → passes other (upwards n classes (Some name)) ≡ false
    go zero h = refl
    go (suc n) h = from n (map.get classes name) h
