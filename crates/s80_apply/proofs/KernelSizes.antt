-- Methods that fit a machine, tested.
use Rattle.std.proofs.Common.{◌≡◌, refl, ap, None, Bool, true, false, ◌&&◌, cond, List, [], ◌∷◌, map, length, ℕ, ◌+◌, ◌≤◌, nat_le, nat_lt, le-ltb, arith, nat_cmp}
use Rattle.std.specs.FinSet as set
use Rattle.std.specs.Cmp.Lexicographic.{slice_cmp, nat_list_cmp_total}
use Rattle.std.proofs.lemmas.Bool.{and_parts, leb-true}
use Rattle.std.proofs.lemmas.List.{length-map}
use Rattle.s80_tree.specs.Tree.{MethodParts}
use Rattle.s80_scope.specs.Fit.{fit, measures, cut_measures}
use Rattle.s80_scope.specs.FitLiterals.{entries, key, literal_count}
use Rattle.s80_scope.specs.FitStack.{temporaries, stack}
use Rattle.s80_scope.specs.FitWeight.{weight}
use Rattle.s80_scope.specs.Walk.{cut}
use Rattle.s80_scope.specs.declared.fit.Measures.{Measures}
use Rattle.s80_scope.specs.declared.fit.Fit.TheVariants.{Fits}
use Rattle.s80_change.specs.Check.{size_refusal, too_large}

-- each measure is below its limit, where equal literals count too
abbrev pub is_small : MethodParts → Bool
is_small m = nat_le (length (entries m)) 60 && (nat_le (temporaries m) 31 && (nat_le (stack m) 32 && nat_le (weight m) 1000))

at_most_one : (b : Bool) (n : ℕ) → cond b n (n + 1) ≤ n + 1
at_most_one true n = omega arith
at_most_one false n = omega arith

-- a set has no more members than the list from which it was made
no_more : (ks : List (List ℕ)) → set.len {R = slice_cmp nat_cmp} (set.from_list ks) ≤ length ks
no_more [] = omega (arith, set.len-empty (slice_cmp nat_cmp))
no_more (k ∷ ks) =
    let before = set.from_list {R = slice_cmp nat_cmp} ks in
    omega (arith, no_more ks, set.len-insert nat_list_cmp_total before k, at_most_one (set.contains before k) (set.len before))

not_above : (limit n : ℕ) → n ≤ limit → nat_lt limit (cut n) ≡ false
not_above limit n h = let le : cut n ≤ limit = omega (arith, h) in le-ltb limit (cut n) le

all_pass : {X : Type 0} (a b c d : Bool) (w x y z v : X) → a ≡ false → b ≡ false → c ≡ false → d ≡ false → cond a w (cond b x (cond c y (cond d z v))) ≡ v
all_pass a b c d w x y z v e f g h = rw (e, f, g, h) refl

fits : (c : Measures) → c.literals ≤ 60 → c.temporaries ≤ 31 → c.stack ≤ 32 → c.weight ≤ 1000 → fit (cut_measures c) ≡ Fits
fits c e f g h = all_pass _ _ _ _ _ _ _ _ _ (not_above 60 c.literals e) (not_above 31 c.temporaries f) (not_above 32 c.stack g) (not_above 1000 c.weight h)

pub small_fits : (m : MethodParts) → is_small m ≡ true → size_refusal m ≡ None
small_fits m e =
    let one = and_parts (nat_le (length (entries m)) 60) (nat_le (temporaries m) 31 && (nat_le (stack m) 32 && nat_le (weight m) 1000)) e in
    let two = and_parts (nat_le (temporaries m) 31) (nat_le (stack m) 32 && nat_le (weight m) 1000) one.1 in
    let three = and_parts (nat_le (stack m) 32) (nat_le (weight m) 1000) two.1 in
    let few : literal_count m ≤ 60 = omega (arith, no_more (map key (entries m)), length-map (entries m) key, leb-true (length (entries m)) 60 one.0) in
    ap too_large (fits (measures m) few (leb-true (temporaries m) 31 two.0) (leb-true (stack m) 32 three.0) (leb-true (weight m) 1000 three.1))
