-- The methods of an image, listed one by one.
use Rattle.std.proofs.Common.{◌≡◌, ◌∙◌, ◌+◌, ◌≤◌, ◌++◌, ℕ, sym, ap, List, [], ◌∷◌, Some, length, take, map as list_map, slice_get, append_assoc, arith}
use Rattle.std.proofs.lemmas.List.{take_all}
use Rattle.s80_base.specs.declared.names.Side.{Side}
use Rattle.s80_class.specs.Classes.{Name}
use Rattle.s80_image.specs.declared.image.ImageMethod.{ImageMethod}
use Rattle.s80_image.specs.Methods.{MethodView, method_of, methods_of}
use Rattle.s80_snapshot.specs.declared.resumed_methods.ListedMethod.{ListedMethod}
use Rattle.s80_snapshot.specs.Resuming.{listed_of}
use Rattle.s80_snapshot.specs.Sources.{ImagedMethod}
use Rattle.s80_snapshot.proofs.PiecesAdded.{count_of, get_of_map, map_apart, take_next}

abbrev pub imaged_on : Name → Side → MethodView → ImagedMethod
imaged_on name side m = record { class_name = name; side = side; method = m }

module _ (name : Name) (side : Side) (xs : List ImageMethod) (before : List ImagedMethod) where
  pub method_listed : (i : ℕ) (x : ImageMethod) (m : ListedMethod) (now new : List ListedMethod) → slice_get xs i ≡ Some x → listed_of m ≡ imaged_on name side (method_of x)
      → list_map listed_of now ≡ before ++ list_map (imaged_on name side) (take i (methods_of xs)) → new ≡ now ++ m ∷ [] → list_map listed_of new ≡ before ++ list_map (imaged_on name side) (take (i + 1) (methods_of xs))
  method_listed i x m now new at is so more =
      let g = imaged_on name side in
      let ms = methods_of xs in
      ap (list_map listed_of) more ∙ map_apart listed_of now (m ∷ []) ∙ (λ j. so j ++ is j ∷ []) ∙ append_assoc before (list_map g (take i ms)) (g (method_of x) ∷ [])
      ∙ ap (λ l. before ++ l) (sym (map_apart g (take i ms) (method_of x ∷ [])) ∙ ap (list_map g) (sym (take_next ms i (method_of x) (get_of_map method_of xs i x at))))

  pub methods_listed : (i : ℕ) (now : List ListedMethod) → length xs ≤ i → list_map listed_of now ≡ before ++ list_map (imaged_on name side) (take i (methods_of xs))
      → list_map listed_of now ≡ before ++ list_map (imaged_on name side) (methods_of xs)
  methods_listed i now past so =
      let all : length (methods_of xs) ≤ i = omega (arith, past, count_of method_of xs) in
      so ∙ ap (λ l. before ++ list_map (imaged_on name side) l) (take_all i (methods_of xs) all)
