-- Lists as loops spell them: each member by itself, whatever stands before it.
use Rattle.std.proofs.Common.{◌≡◌, ℕ, suc, ◌+◌, ◌<◌, ◌≤◌, List, [], ◌∷◌, ◌++◌, length, map, take, get_or, Option, Some, None, refl, sym, ap, ap₂, ◌∙◌, append_assoc}
use Rattle.std.specs.List.{flat_map}
use Rattle.std.specs.Int.{w32, w64, to_be_bytes}
use Rattle.std.specs.Prelude.{slice_get}
use Rattle.std.proofs.lemmas.List.{append-nil, take_all, take_more}
use Rattle.std.proofs.lemmas.List.Concat.{flat_map-append, flat_map-cons}
use Rattle.std.proofs.lemmas.Option.{slice_get-get_or}
use Rattle.s80_base.specs.Literal.{LiteralTrees, no_literals, literals, literals_list}
use Rattle.s80_code.specs.declared.code.Entry.{Entry}
use Rattle.s80_code.specs.Entries.{entry_of}
use Rattle.s80_history.specs.declared.noted.Noted.{Noted}
use Rattle.s80_kernel.specs.Rows.{KernelRow}
use Rattle.s80_image.specs.declared.image.ClassHeading.{ClassHeading}
use Rattle.s80_image.specs.declared.image.ClassVariables.{ClassVariables}
use Rattle.s80_image.specs.declared.image.ImageMethod.{ImageMethod}
use Rattle.s80_image.specs.declared.image.ImageClass.{ImageClass}
use Rattle.s80_image.specs.declared.image.MethodHeading.{MethodHeading}
use Rattle.s80_image.specs.declared.image.MethodVersions.{MethodVersions}
use Rattle.s80_image.specs.Format.{Format, spelled, text, text_where, word64}
use Rattle.s80_image.specs.Parts.{Name, last_of, place_above, places, side, source}
use Rattle.s80_image.specs.Literals.{count_of, entry, entry_bytes}
use Rattle.s80_image.specs.Methods.{MethodView, frame, method, method_behind, method_heading, method_of, methods, methods_of}
use Rattle.s80_image.specs.Classes.{ClassView, class, class_behind, class_of, classes, classes_of, heading, kind, kind_number, inst_vars_given, kernel_row, may_stand, none_given, names, variables}
use Rattle.s80_image.specs.History.{VersionsView, all_versions, all_versions_of, change_set, noted, noted_behind, noted_kind, noted_kind_number, noted_side, versions, versions_behind, versions_of}

pub one_by_one : {A : Type 0} (member : List A → Format A) (plain : A → List ℕ) → ((before : List A) (x : A) → (member before).spell x ≡ plain x) → (before xs : List A) → spelled member before xs ≡ flat_map plain xs
one_by_one member plain same before [] = refl
one_by_one member plain same before (x ∷ xs) = ap₂ (λ (a b : List ℕ). a ++ b) (same before x) (one_by_one member plain same (before ++ x ∷ []) xs) ∙ sym (flat_map-cons plain x xs)

length_map : {A B : Type 0} (f : A → B) (xs : List A) → length (map f xs) ≡ length xs
length_map f [] = refl
length_map f (x ∷ xs) = ap suc (length_map f xs)

counted : {A B : Type 0} (member : List B → Format B) (plain : B → List ℕ) (view : A → B) → ((before : List B) (x : B) → (member before).spell x ≡ plain x) → (xs : List A)
    → to_be_bytes w32 (length (map view xs)) ++ spelled member [] (map view xs) ≡ to_be_bytes w32 (length xs) ++ flat_map plain (map view xs)
counted member plain view same xs = ap₂ (λ (n : ℕ) (b : List ℕ). to_be_bytes w32 n ++ b) (length_map view xs) (one_by_one member plain same [] (map view xs))

pub frame_spelled : (es : List Entry) → frame.spell (map entry_of es) ≡ to_be_bytes w32 (length es) ++ flat_map entry_bytes (map entry_of es)
unfolding frame entry
frame_spelled es = counted (λ _. entry) entry_bytes entry_of (λ _ _. refl) es

pub method_alike : (last : Option Name) (m : MethodView) → (method last).spell m ≡ (method None).spell m
unfolding method method_heading
method_alike last m = refl

pub methods_spelled : (ms : List ImageMethod) → methods.spell (methods_of ms) ≡ to_be_bytes w32 (length ms) ++ flat_map (method None).spell (methods_of ms)
unfolding methods
methods_spelled ms = counted method_behind (method None).spell method_of (λ before m. method_alike _ m) ms

pub names_spelled : (ns : List Name) → (names 0 None).spell ns ≡ to_be_bytes w32 (length ns) ++ flat_map text.spell ns
unfolding names
names_spelled ns = ap (λ b. to_be_bytes w32 (length ns) ++ b) (one_by_one (λ before. text_where (may_stand None before)) text.spell (λ _ _. refl) [] ns)

pub names_alike : (most : ℕ) (given : Option (List Name)) (ns : List Name) → (names most given).spell ns ≡ (names 0 None).spell ns
unfolding names
names_alike most given ns = ap (λ b. to_be_bytes w32 (length ns) ++ b) (one_by_one (λ before. text_where (may_stand given before)) text.spell (λ _ _. refl) [] ns ∙ sym (one_by_one (λ before. text_where (may_stand None before)) text.spell (λ _ _. refl) [] ns))

pub variables_parts : (v : ClassVariables) → (variables None).spell v ≡ (names 0 None).spell v.instance ++ ((names 0 None).spell v.class ++ ((names 0 None).spell v.pools ++ (names 0 None).spell v.class_side))
unfolding variables
variables_parts v = rw (names_alike 64 _ v.instance, names_alike 256 _ v.class, names_alike 256 _ v.pools, names_alike 64 _ v.class_side) refl

variables_alike : (row : Option KernelRow) (v : ClassVariables) → (variables row).spell v ≡ (variables None).spell v
unfolding variables
variables_alike row v =
    ap₂ (λ (a b : List ℕ). a ++ b) (names_alike 64 (inst_vars_given row) v.instance ∙ sym (names_alike 64 None v.instance))
    (ap₂ (λ (a b : List ℕ). a ++ b) (names_alike 256 (none_given row) v.class ∙ sym (names_alike 256 None v.class))
    (ap₂ (λ (a b : List ℕ). a ++ b) (names_alike 256 (none_given row) v.pools ∙ sym (names_alike 256 None v.pools))
    (names_alike 64 (none_given row) v.class_side ∙ sym (names_alike 64 None v.class_side))))

pub heading_parts : (h : ClassHeading) → (heading None).spell h ≡ text.spell h.name ++ (text.spell h.superclass ++ (kind_number h.kind ∷ [] ++ ((variables None).spell h.variables ++ (text.spell h.category ++ text.spell h.comment))))
unfolding heading kind
heading_parts h = rw (variables_alike (kernel_row h.name) h.variables) refl

heading_alike : (last : Option Name) (h : ClassHeading) → (heading last).spell h ≡ (heading None).spell h
unfolding heading kind
heading_alike last h = refl

pub class_alike : (last : Option Name) (c : ClassView) → (class last).spell c ≡ (class None).spell c
unfolding class
class_alike last c = rw (heading_alike last c.heading) refl

pub classes_spelled : (cs : List ImageClass) → classes.spell (classes_of cs) ≡ to_be_bytes w32 (length cs) ++ flat_map (class None).spell (classes_of cs)
unfolding classes
classes_spelled cs = counted class_behind (class None).spell class_of (λ before c. class_alike _ c) cs

pub views_spelled : (cs : List ClassView) → classes.spell cs ≡ to_be_bytes w32 (length cs) ++ flat_map (class None).spell cs
unfolding classes
views_spelled cs = ap (λ b. to_be_bytes w32 (length cs) ++ b) (one_by_one class_behind (class None).spell (λ before c. class_alike _ c) [] cs)

pub noted_parts : (m : Noted) → (noted None).spell m ≡ to_be_bytes w64 m.at ++ (noted_kind_number m.kind ∷ [] ++ (text.spell m.class_name ++ (side.spell m.side ++ text.spell m.selector)))
unfolding noted noted_kind noted_side
noted_parts m = refl

pub noted_alike : (last : Option ℕ) (m : Noted) → (noted last).spell m ≡ (noted None).spell m
unfolding noted
noted_alike last m = refl

pub change_set_spelled : (ms : List Noted) → change_set.spell ms ≡ to_be_bytes w32 (length ms) ++ flat_map (noted None).spell ms
unfolding change_set
change_set_spelled ms = ap (λ b. to_be_bytes w32 (length ms) ++ b) (one_by_one noted_behind (noted None).spell (λ before m. noted_alike _ m) [] ms)

pub places_spelled : (ps : List ℕ) → places.spell ps ≡ to_be_bytes w32 (length ps) ++ flat_map word64.spell ps
places_spelled ps = ap (λ b. to_be_bytes w32 (length ps) ++ b) (one_by_one (λ before. place_above (last_of before)) word64.spell (λ _ _. refl) [] ps)

pub versions_alike : (last : _) (v : VersionsView) → (versions last).spell v ≡ (versions None).spell v
unfolding versions
versions_alike last v = refl

pub all_versions_spelled : (vs : List MethodVersions) → all_versions.spell (all_versions_of vs) ≡ to_be_bytes w32 (length vs) ++ flat_map (versions None).spell (all_versions_of vs)
unfolding all_versions
all_versions_spelled vs = counted versions_behind (versions None).spell versions_of (λ before v. versions_alike _ v) vs

pub counts_list : (ls : LiteralTrees) → count_of ls ≡ length (literals_list ls)
counts_list no_literals = refl
counts_list (literals l ls) = ap suc (counts_list ls)

-- ---- a list that a loop has spelled

module _ {X : Type 0} (tail : List X → List ℕ) (out old count : List ℕ) (xs : List X) (i : ℕ) where
  pub whole : (all : List ℕ) → length xs ≤ i → out ≡ old ++ (count ++ tail (take i xs)) → all ≡ count ++ tail xs → out ≡ old ++ all
  whole all le e is = e ∙ ap (λ l. old ++ (count ++ tail l)) (take_all i xs le) ∙ ap (λ b. old ++ b) (sym is)

pub next_name : (out new old count : List ℕ) (ns : List Name) (i : ℕ) (x : Name) → i < length ns → slice_get ns i ≡ Some x → out ≡ old ++ (count ++ flat_map text.spell (take i ns)) → new ≡ out ++ text.spell x
    → new ≡ old ++ (count ++ flat_map text.spell (take (i + 1) ns))
next_name out new old count ns i x within e so_far put =
    let here : get_or ns i x ≡ x = value (get_or ns i x) x (sym (slice_get-get_or ns i x within) ∙ e) in
    let more : flat_map text.spell (take (i + 1) ns) ≡ flat_map text.spell (take i ns) ++ text.spell x =
    ap (flat_map text.spell) (take_more ns i x within) ∙ flat_map-append text.spell (take i ns) (get_or ns i x ∷ []) ∙ ap (λ b. flat_map text.spell (take i ns) ++ b) (flat_map-cons text.spell (get_or ns i x) [] ∙ append-nil (text.spell (get_or ns i x)) ∙ ap text.spell here) in
    put ∙ ap (λ b. b ++ text.spell x) so_far ∙ append_assoc old (count ++ flat_map text.spell (take i ns)) (text.spell x) ∙ ap (λ b. old ++ b) (append_assoc count (flat_map text.spell (take i ns)) (text.spell x) ∙ ap (λ b. count ++ b) (sym more))
  where
    value : (a b : Name) → Some a ≡ Some b → a ≡ b
    value a b p = cc

-- ---- parts one behind the other

pub two : (o o1 o2 a b all : List ℕ) → o1 ≡ o ++ a → o2 ≡ o1 ++ b → all ≡ a ++ b → o2 ≡ o ++ all
two o o1 o2 a b all p q is = q ∙ ap (λ l. l ++ b) p ∙ append_assoc o a b ∙ ap (λ l. o ++ l) (sym is)

pub three : (o o1 o2 o3 a b c all : List ℕ) → o1 ≡ o ++ a → o2 ≡ o1 ++ b → o3 ≡ o2 ++ c → all ≡ a ++ (b ++ c) → o3 ≡ o ++ all
three o o1 o2 o3 a b c all p q r is = two o o1 o3 a (b ++ c) all p (two o1 o2 o3 b c (b ++ c) q r refl) is

pub four : (o o1 o2 o3 o4 a b c d all : List ℕ) → o1 ≡ o ++ a → o2 ≡ o1 ++ b → o3 ≡ o2 ++ c → o4 ≡ o3 ++ d → all ≡ a ++ (b ++ (c ++ d)) → o4 ≡ o ++ all
four o o1 o2 o3 o4 a b c d all p q r s is = two o o1 o4 a (b ++ (c ++ d)) all p (three o1 o2 o3 o4 b c d (b ++ (c ++ d)) q r s refl) is

pub variables_pairs : (v : ClassVariables) → (variables None).spell v ≡ ((names 0 None).spell v.instance ++ (names 0 None).spell v.class) ++ ((names 0 None).spell v.pools ++ (names 0 None).spell v.class_side)
variables_pairs v = variables_parts v ∙ sym (append_assoc ((names 0 None).spell v.instance) ((names 0 None).spell v.class) ((names 0 None).spell v.pools ++ (names 0 None).spell v.class_side))

pub heading_pairs : (h : ClassHeading) → (heading None).spell h ≡ (text.spell h.name ++ text.spell h.superclass) ++ (kind_number h.kind ∷ [] ++ ((variables None).spell h.variables ++ (text.spell h.category ++ text.spell h.comment)))
heading_pairs h = heading_parts h ∙ sym (append_assoc (text.spell h.name) (text.spell h.superclass) (kind_number h.kind ∷ [] ++ ((variables None).spell h.variables ++ (text.spell h.category ++ text.spell h.comment))))

pub method_heading_pairs : (h : MethodHeading) → (method_heading None).spell h ≡ (text.spell h.selector ++ text.spell h.category) ++ (source.spell h.from_kernel ++ (word64.spell h.position ++ word64.spell h.length))
unfolding method_heading
method_heading_pairs h = sym (append_assoc (text.spell h.selector) (text.spell h.category) (source.spell h.from_kernel ++ (word64.spell h.position ++ word64.spell h.length)))
