-- The class and the side that a word names.
use Rattle.std.proofs.Common.{◌≡◌, ◌≢◌, ℕ, List, ◌++◌, refl, sym, ap, ◌∙◌, Option, Some, None, Bool, true, false}
use Rattle.std.specs.Prelude.{◌&&◌, if◌then◌else◌}
use Rattle.std.specs.Str.{bytes_eq}
use Rattle.std.specs.Cmp.Lexicographic.{bytes_decides}
use Rattle.s80_base.specs.declared.names.Side.{Side}
use Rattle.s80_base.specs.declared.names.Side.TheVariants.{Instance, Class}
use Rattle.s80_form.specs.Name.{is_name}
use Rattle.s80_class.specs.Classes.{Name}
use Rattle.s80_model.specs.Told.{class_word, class_side_name, is_class_side, side_named}

-- what a word that is no name names
abbrev behind : List ℕ → Bool → Option (Name × Side)
behind spec side = if side then Some (class_side_name spec, Class) else None

no_name : (spec : List ℕ) (side : Bool) → is_name spec ≡ false → is_class_side spec ≡ side → side_named spec ≡ behind spec side
no_name spec side unnamed is = ap (λ b. if b then Some (spec, Instance) else behind spec (is_class_side spec)) unnamed ∙ ap (behind spec) is

-- the word for the class side stands behind a name
pub class_named : (spec name : List ℕ) → is_name spec ≡ false → name ≡ class_side_name spec → spec ≡ name ++ class_word → is_name name ≡ true → Some (name, Class) ≡ side_named spec
class_named spec name unnamed named is lawful =
    let same : bytes_eq spec (class_side_name spec ++ class_word) ≡ true = (bytes_decides spec (class_side_name spec ++ class_word)).1 (is ∙ ap (λ n. n ++ class_word) named) in
    let side : is_class_side spec ≡ true = (λ i. same i && (ap is_name (sym named) ∙ lawful) i) in
    ap (λ n. Some (n, Class)) named ∙ sym (no_name spec true unnamed side)

-- behind what is no name
pub no_class_named : (spec name : List ℕ) → is_name spec ≡ false → name ≡ class_side_name spec → is_name name ≡ false → None ≡ side_named spec
no_class_named spec name unnamed named lawless =
    let side : is_class_side spec ≡ false = and_false (bytes_eq spec (class_side_name spec ++ class_word)) (is_name (class_side_name spec)) (ap is_name (sym named) ∙ lawless) in
    sym (no_name spec false unnamed side)
  where
    and_false : (a b : Bool) → b ≡ false → (a && b) ≡ false
    and_false true b e = e
    and_false false b e = refl

-- or nowhere
pub no_side_named : (spec : List ℕ) → is_name spec ≡ false → ((front : List ℕ) → spec ≢ front ++ class_word) → None ≡ side_named spec
no_side_named spec unnamed none = sym (no_name spec false unnamed (other (bytes_eq spec (class_side_name spec ++ class_word)) refl))
  where
    other : (b : Bool) → bytes_eq spec (class_side_name spec ++ class_word) ≡ b → is_class_side spec ≡ false
    other true is = absurd (none (class_side_name spec) ((bytes_decides spec (class_side_name spec ++ class_word)).0 is))
    other false is = ap (λ b. b && is_name (class_side_name spec)) is
