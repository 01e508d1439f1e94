-- What a look-up of a class tells.
use Rattle.std.proofs.Common.{◌≡◌, ◌+◌, ◌∙◌, ◌||◌, ℕ, Bool, cond, true, false, sym, ap, List, [], ◌∷◌, Some, None, is_some, refl, drop}
use Rattle.std.specs.Str.{bytes_eq}
use Rattle.std.specs.Cmp.Lexicographic.{nat_list_cmp_total}
use Rattle.std.specs.FinMap as map
use Rattle.s80_class.specs.Classes.{Name, ClassRow, Classes, IsLine, IsValid, lineage, is_under, descends}
use Rattle.s80_class.proofs.lemmas.Lines.{Entry, passes, absent_passed}
use Rattle.s80_apply.proofs.Defined.{line_of}

-- ---- how many classes there are with one more

len_with : (classes : Classes) (name : Name) (row : ClassRow) (b : Bool) → map.contains_key classes name ≡ b → map.len (map.insert classes name row) ≡ cond b (map.len classes) (map.len classes + 1)
len_with classes name row b is = map.len-insert nat_list_cmp_total classes name row ∙ ap (λ b. cond b (map.len classes) (map.len classes + 1)) is

pub count_there : (classes : Classes) (name : Name) (old : ClassRow) (n : ℕ) → map.get classes name ≡ Some old → n ≡ map.len classes → (row : ClassRow) → n ≡ map.len (map.insert classes name row)
count_there classes name old n is count row = count ∙ sym (len_with classes name row true (ap is_some is))

pub count_new : (classes : Classes) (name : Name) (n : ℕ) → map.get classes name ≡ None → n ≡ map.len classes → (row : ClassRow) → n + 1 ≡ map.len (map.insert classes name row)
count_new classes name n is count row = ap (λ k. k + 1) count ∙ sym (len_with classes name row false (ap is_some is))

-- ---- whether a class is under another

pub under_absent : (classes : Classes) (name other : Name) (row : ClassRow) → IsValid classes → map.get classes name ≡ Some row → map.get classes other ≡ None → false ≡ is_under classes name other
under_absent classes name other row valid is none = sym (absent_passed classes other none (Some name) (lineage classes name) (line_of classes name row valid is))

parted : (classes : Classes) (name other : Name) (es : List Entry) → IsLine classes (Some name) es → lineage classes name ≡ es → is_under classes name other ≡ (bytes_eq name other || descends classes name other)
parted classes name other [] line same = absurd line
parted classes name other (e ∷ es) line same =
    ap (passes other) same ∙ ap (λ n. bytes_eq n other || passes other es) line.0 ∙ ap (λ fs. bytes_eq name other || passes other (drop 1 fs)) (sym same)

under_parts : (classes : Classes) (name other : Name) (row : ClassRow) → IsValid classes → map.get classes name ≡ Some row → is_under classes name other ≡ (bytes_eq name other || descends classes name other)
under_parts classes name other row valid is = parted classes name other (lineage classes name) (line_of classes name row valid is) refl

pub under_same : (classes : Classes) (name other : Name) (row : ClassRow) (b : Bool) → IsValid classes → map.get classes name ≡ Some row → b ≡ bytes_eq name other → b ≡ true → b ≡ is_under classes name other
under_same classes name other row b valid is test same =
    same ∙ ap (λ c. c || descends classes name other) (sym same ∙ test) ∙ sym (under_parts classes name other row valid is)

pub under_other : (classes : Classes) (name other : Name) (row : ClassRow) (b below : Bool) → IsValid classes → map.get classes name ≡ Some row → b ≡ bytes_eq name other → b ≡ false → below ≡ descends classes name other
    → below ≡ is_under classes name other
under_other classes name other row b below valid is test differs same =
    same ∙ ap (λ c. c || descends classes name other) (sym differs ∙ test) ∙ sym (under_parts classes name other row valid is)
