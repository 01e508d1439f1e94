-- What is found where methods were put.
use Rattle.std.proofs.Common.{◌≡◌, ◌<◌, ◌∙◌, ◌&&◌, ℕ, zero, suc, Bool, cond, true, false, refl, sym, ap, subst, List, [], ◌∷◌, ◌++◌, length, nat_eq, Option, Some, None, true≢false, arith, slice_get}
use Rattle.std.specs.Str.{bytes_eq}
use Rattle.std.specs.Cmp.Lexicographic.{bytes_decides, nat_list_cmp_total, texts_ties}
use Rattle.std.specs.FinMap as map
use Rattle.std.proofs.lemmas.Bool.Decides.{nat_tests}
use Rattle.s80_base.specs.declared.names.Side.{Side}
use Rattle.s80_base.specs.declared.names.Side.TheVariants.{Instance, Class}
use Rattle.s80_class.proofs.lemmas.Lines.{not_eq}
use Rattle.s80_dict.specs.Dict.{HasRoom, Methods}
use Rattle.s80_dict.specs.Table.{MethodsValue, is_place, methods_at, put_at, room_at, same_side, taken_at}
use Rattle.s80_apply.specs.declared.step.PlacedMethod.{PlacedMethod}
use Rattle.s80_apply.specs.Entries.{Entry}
use Rattle.s80_apply.specs.System.{HaveRoom, put_all}

pub get-put : {X : Type 0} (methods : Methods X) (selector : List ℕ) (row : X) (q : List ℕ) → map.get (map.insert methods selector row) q ≡ cond (bytes_eq q selector) (Some row) (map.get methods q)
get-put methods selector row q = map.get-insert nat_list_cmp_total methods selector row q ∙ ap (λ b. cond b (Some row) (map.get methods q)) (sym (texts_ties q selector))

-- ---- a place: a class, a side of it and a selector

abbrev pub IsPlace : ℕ → Side → List ℕ → ℕ → Side → List ℕ → Type 0
IsPlace number side selector n s k = (n ≡ number) × (s ≡ side) × (k ≡ selector)

pub same_number : (a b : ℕ) → nat_eq a b ≡ true → a ≡ b
same_number a b is = grind (arith, nat_tests)

other_number : (a b : ℕ) → nat_eq a b ≡ false → a ≡ b → ⊥
other_number a b is same = grind (arith, nat_tests)

pub side_is : (s r : Side) → same_side s r ≡ true → s ≡ r
side_is Instance Instance h = refl
side_is Class Class h = refl
side_is Instance Class h = absurd (true≢false (sym h))
side_is Class Instance h = absurd (true≢false (sym h))

side_itself : (s : Side) → same_side s s ≡ true
side_itself Instance = refl
side_itself Class = refl

other_side : (s r : Side) → same_side s r ≡ false → s ≡ r → ⊥
other_side s r is same = true≢false (sym (side_itself s) ∙ ap (same_side s) same ∙ is)

pub some_same : {X : Type 0} (x y : X) → Some x ≡ Some y → x ≡ y
some_same x y h = cc

-- ---- one method

-- what is found is the method that was put, or it stood there before
pub data IsFound {X : Type 0} (at_place : Type 0) (x y : X) (before : Option X) : Type 0 where
  newly : at_place → x ≡ y → IsFound at_place x y before
  still : (at_place → ⊥) → before ≡ Some y → IsFound at_place x y before

module _ {X : Type 0} (dictionaries : ℕ → Side → Methods X) (number : ℕ) (side : Side) (selector : List ℕ) (x : X) (n : ℕ) (s : Side) (k : List ℕ) (y : X) where
  by_key : (c : Bool) → n ≡ number → s ≡ side → bytes_eq k selector ≡ c → cond c (Some x) (map.get (dictionaries n s) k) ≡ Some y → IsFound (IsPlace number side selector n s k) x y (map.get (dictionaries n s) k)
  by_key true at on t is = newly (at, on, (bytes_decides k selector).0 t) (some_same x y is)
  by_key false at on t is = still (λ h. not_eq k selector t h.2) is

  by_place : (a b : Bool) → nat_eq n number ≡ a → same_side s side ≡ b → map.get (cond (a && b) (map.insert (dictionaries n s) selector x) (dictionaries n s)) k ≡ Some y
      → IsFound (IsPlace number side selector n s k) x y (map.get (dictionaries n s) k)
  by_place true true at on is = by_key (bytes_eq k selector) (same_number n number at) (side_is s side on) refl (sym (get-put (dictionaries n s) selector x k) ∙ is)
  by_place true false at on is = still (λ h. other_side s side on h.1) is
  by_place false b at on is = still (λ h. other_number n number at h.0) is

  pub found_after : map.get (put_at dictionaries number side selector x n s) k ≡ Some y → IsFound (IsPlace number side selector n s k) x y (map.get (dictionaries n s) k)
  found_after is = by_place (nat_eq n number) (same_side s side) refl refl is

-- ---- one method taken away

get-taken : {X : Type 0} (methods : Methods X) (selector q : List ℕ) → map.get (map.remove methods selector) q ≡ cond (bytes_eq q selector) None (map.get methods q)
get-taken methods selector q = map.get-remove nat_list_cmp_total methods selector q ∙ ap (λ b. cond b None (map.get methods q)) (sym (texts_ties q selector))

-- put again, it stands as if it had not been taken
pub put_over : {X : Type 0} (methods : Methods X) (selector : List ℕ) (x : X) → map.insert (map.remove methods selector) selector x ≡ map.insert methods selector x
put_over {X} methods selector x =
    map.same_map nat_list_cmp_total (map.slice_cmp-IsAntisymmetric map.nat_cmp-IsAntisymmetric) (map.insert (map.remove methods selector) selector x) (map.insert methods selector x) (λ q.
    get-put (map.remove methods selector) selector x q ∙ ap (cond (bytes_eq q selector) (Some x)) (get-taken methods selector q) ∙ by_key (bytes_eq q selector) (map.get methods q) ∙ sym (get-put methods selector x q))
  where
    by_key : (b : Bool) (o : Option X) → cond b (Some x) (cond b None o) ≡ cond b (Some x) o
    by_key true o = refl
    by_key false o = refl

pub put_over_at : {X : Type 0} (dictionaries : ℕ → Side → Methods X) (number : ℕ) (side : Side) (selector : List ℕ) (x : X) (n : ℕ) (s : Side)
    → put_at (taken_at dictionaries number side selector) number side selector x n s ≡ put_at dictionaries number side selector x n s
put_over_at dictionaries number side selector x n s = by_place (is_place number side n s)
  where
    by_place : (b : Bool)
        → cond b (map.insert (cond b (map.remove (dictionaries n s) selector) (dictionaries n s)) selector x) (cond b (map.remove (dictionaries n s) selector) (dictionaries n s)) ≡ cond b (map.insert (dictionaries n s) selector x) (dictionaries n s)
    by_place true = put_over (dictionaries n s) selector x
    by_place false = refl

-- what is found yet stood there before
pub found_before : {X : Type 0} (dictionaries : ℕ → Side → Methods X) (number : ℕ) (side : Side) (selector : List ℕ) (n : ℕ) (s : Side) (k : List ℕ) (y : X)
    → map.get (taken_at dictionaries number side selector n s) k ≡ Some y → map.get (dictionaries n s) k ≡ Some y
found_before dictionaries number side selector n s k y = by_place (is_place number side n s)
  where
    by_key : (b : Bool) → cond b None (map.get (dictionaries n s) k) ≡ Some y → map.get (dictionaries n s) k ≡ Some y
    by_key true is = absurd (let bad : None ≡ Some y = is in cc)
    by_key false is = is

    by_place : (b : Bool) → map.get (cond b (map.remove (dictionaries n s) selector) (dictionaries n s)) k ≡ Some y → map.get (dictionaries n s) k ≡ Some y
    by_place true is = by_key (bytes_eq k selector) (sym (get-taken (dictionaries n s) selector k) ∙ is)
    by_place false is = is

-- ---- methods one after the other

-- what is found is the last of them at its place, or none of them is at its place and it stood there before
pub data IsLast (ps : List PlacedMethod) (n : ℕ) (s : Side) (k : List ℕ) (y : Entry) (before : Option Entry) : Type 0 where
  among : (j : ℕ) (p : PlacedMethod) → slice_get ps j ≡ Some p → IsPlace p.number p.side p.selector n s k → p.entry ≡ y → IsLast ps n s k y before
  apart : ((j : ℕ) (p : PlacedMethod) → slice_get ps j ≡ Some p → IsPlace p.number p.side p.selector n s k → ⊥) → before ≡ Some y → IsLast ps n s k y before

pub none_there : (j : ℕ) (p : PlacedMethod) → slice_get [] j ≡ Some p → ⊥
none_there j p h = let bad : None ≡ Some p = h in cc

first_of : (p : PlacedMethod) (ps : List PlacedMethod) (n : ℕ) (s : Side) (k : List ℕ) (y : Entry) (before : Option Entry)
    → ((j : ℕ) (q : PlacedMethod) → slice_get ps j ≡ Some q → IsPlace q.number q.side q.selector n s k → ⊥)
    → IsFound (IsPlace p.number p.side p.selector n s k) p.entry y before → IsLast (p ∷ ps) n s k y before
first_of p ps n s k y before none (newly at same) = among 0 p refl at same
first_of p ps n s k y before none (still others is) = apart by_index is
  where
    by_index : (j : ℕ) (q : PlacedMethod) → slice_get (p ∷ ps) j ≡ Some q → IsPlace q.number q.side q.selector n s k → ⊥
    by_index zero q here at =
        let same : q ≡ p = sym (some_same p q here) in
        others (subst (λ (r : PlacedMethod). IsPlace r.number r.side r.selector n s k) same at)
    by_index (suc j) q here at = none j q here at

one_more : (p : PlacedMethod) (ps : List PlacedMethod) (dictionaries : ℕ → Side → Methods Entry) (n : ℕ) (s : Side) (k : List ℕ) (y : Entry)
    → IsLast ps n s k y (map.get (put_at dictionaries p.number p.side p.selector p.entry n s) k) → IsLast (p ∷ ps) n s k y (map.get (dictionaries n s) k)
one_more p ps dictionaries n s k y (among j q here at same) = among (suc j) q here at same
one_more p ps dictionaries n s k y (apart none is) = first_of p ps n s k y (map.get (dictionaries n s) k) none (found_after dictionaries p.number p.side p.selector p.entry n s k y is)

pub last_of : (ps : List PlacedMethod) (dictionaries : ℕ → Side → Methods Entry) (n : ℕ) (s : Side) (k : List ℕ) (y : Entry) → map.get (put_all ps dictionaries n s) k ≡ Some y → IsLast ps n s k y (map.get (dictionaries n s) k)
last_of [] dictionaries n s k y is = apart (λ j p here at. none_there j p here) is
last_of (p ∷ ps) dictionaries n s k y is = one_more p ps dictionaries n s k y (last_of ps (put_at dictionaries p.number p.side p.selector p.entry) n s k y is)

-- one method behind others
pub all_more : (ps : List PlacedMethod) (p : PlacedMethod) (dictionaries : ℕ → Side → Methods Entry) (n : ℕ) (s : Side)
    → put_all (ps ++ p ∷ []) dictionaries n s ≡ put_at (put_all ps dictionaries) p.number p.side p.selector p.entry n s
all_more [] p dictionaries n s = refl
all_more (q ∷ ps) p dictionaries n s = all_more ps p (put_at dictionaries q.number q.side q.selector q.entry) n s

-- ---- a run over methods that are put

pub nothing_left : {X : Type 0} (xs : List X) → length xs ≡ 0 → xs ≡ []
nothing_left [] h = refl
nothing_left (x ∷ xs) h = absurd (omega arith)

next_at : (ps : List PlacedMethod) (p : PlacedMethod) (rest : List PlacedMethod) → slice_get (ps ++ p ∷ rest) (length ps) ≡ Some p
next_at [] p rest = refl
next_at (q ∷ ps) p rest = next_at ps p rest

-- the next one has room
pub room_here : (all : List PlacedMethod) (methods : MethodsValue Entry) (done rest : List PlacedMethod) (p : PlacedMethod) → done ++ p ∷ rest ≡ all → HaveRoom all methods → (p.number < length methods.sides) × HasRoom (room_at methods p.number p.side) p.selector
room_here all methods done rest p parts room = room (length done) p (ap (λ ps. slice_get ps (length done)) (sym parts) ∙ next_at done p rest)

pub put_then : (done : List PlacedMethod) (p : PlacedMethod) (methods now : MethodsValue Entry) → ((n : ℕ) (s : Side) → methods_at now n s ≡ put_all done (methods_at methods) n s) → (n : ℕ) (s : Side)
    → put_at (methods_at now) p.number p.side p.selector p.entry n s ≡ put_all (done ++ p ∷ []) (methods_at methods) n s
put_then done p methods now same n s =
    (λ i. cond (is_place p.number p.side n s) (map.insert (same n s i) p.selector p.entry) (same n s i)) ∙ sym (all_more done p (methods_at methods) n s)

-- methods put where the dictionaries are the same
pub put_same : (ps : List PlacedMethod) (d e : ℕ → Side → Methods Entry) → ((n : ℕ) (s : Side) → d n s ≡ e n s) → (n : ℕ) (s : Side) → put_all ps d n s ≡ put_all ps e n s
put_same ps d e same n s = ap (λ (f : ℕ → Side → Methods Entry). put_all ps f n s) (λ i m r. same m r i)
