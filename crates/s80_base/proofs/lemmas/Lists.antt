-- Lists of literals.
use Rattle.std.proofs.Common.{◌≡◌, ℕ, suc, ◌<◌, List, [], ◌∷◌, ◌++◌, refl, ap, sym, ◌∙◌, map, length, get_or, Some, arith}
use Rattle.std.specs.List.{slice_get}
use Rattle.std.specs.Prelude.{option_map}
use Rattle.std.proofs.lemmas.Option.{slice_get-map, slice_get-get_or}
use Rattle.s80_base.specs.Literal.{LiteralTree, LiteralTrees, literals_from, literals_list, literals_append, no_literals, literals, literal_of, literals_of, literal_layer, literals_layer}
use Rattle.s80_base.specs.declared.literal.Literal.{Literal}
use Rattle.s80_base.specs.declared.literal.Literals.{Literals, out-Literals, fold_out-Literals, out-roll-Literals}

pub map_append : {A B : Type 0} (f : A → B) (xs ys : List A) → map f (xs ++ ys) ≡ map f xs ++ map f ys
map_append f [] ys = refl
map_append f (x ∷ xs) ys = ap (λ l. f x ∷ l) (map_append f xs ys)

pub length_map : {A B : Type 0} (f : A → B) (xs : List A) → length (map f xs) ≡ length xs
length_map f [] = refl
length_map f (x ∷ xs) = ap suc (length_map f xs)

pub literals_open : (ls : Literals) → literals_of ls ≡ literals_from (map literal_of (out-Literals ls).items.items)
literals_open ls = fold_out-Literals LiteralTree LiteralTrees literal_layer literals_layer ls

pub literals_from_push : (xs : List LiteralTree) (x : LiteralTree) → literals_from (xs ++ x ∷ []) ≡ literals_append (literals_from xs) (literals x no_literals)
literals_from_push [] x = refl
literals_from_push (y ∷ xs) x = ap (literals y) (literals_from_push xs x)

pub literals_list-from : (ls : List LiteralTree) → literals_list (literals_from ls) ≡ ls
literals_list-from [] = refl
literals_list-from (l ∷ ls) = ap (λ more. l ∷ more) (literals_list-from ls)

-- the trees of a list are those of its members
pub literals_out : (ls : Literals) → literals_list (literals_of ls) ≡ map literal_of (out-Literals ls).items.items
literals_out ls = ap literals_list (literals_open ls) ∙ literals_list-from _

-- a literal of a list, by its place
pub literal_at : (ls : Literals) (i : ℕ) (x : Literal) → i < length (literals_list (literals_of ls)) → x ≡ get_or (out-Literals ls).items.items i x → slice_get (literals_list (literals_of ls)) i ≡ Some (literal_of x)
literal_at ls i x within is =
    let xs : List Literal = (out-Literals ls).items.items in
    let within_items : i < length xs = omega (arith, ap length (literals_out ls), length_map literal_of xs) in
    ap (λ l. slice_get l i) (literals_out ls) ∙ slice_get-map literal_of xs i ∙ ap (option_map literal_of) (slice_get-get_or xs i x within_items ∙ ap Some (sym is))

pub ruleset literals_added = (literals_open, map_append, out-roll-Literals, literals_from_push)

pub ruleset literals_read = (literals_out, map_append, out-roll-Literals, length_map)
