-- The changes of a list that put one method, and what a state has of it.
use Rattle.std.proofs.Common.{◌≡◌, ◌≢◌, ◌⊎◌, inl, inr, ◌∙◌, ◌+◌, ◌&&◌, ◌++◌, ℕ, Bool, cond, true, false, filter, reverse, refl, sym, ap, subst, List, [], ◌∷◌, length, map as list_map, Some, None, Result, Ok, Err, true≢false, append-nil, append_assoc}
use Rattle.std.specs.Option.{option_map_or}
use Rattle.std.specs.Str.{bytes_eq}
use Rattle.std.specs.Cmp.Lexicographic.{bytes_decides, slice_cmp}
use Rattle.std.specs.FinMap as map
use Rattle.std.specs.Ordering.{nat_cmp}
use Rattle.std.proofs.lemmas.Bool.{and_parts}
use Rattle.std.proofs.lemmas.List.{reverse-append}
use Rattle.std.proofs.lemmas.List.Elements.{filter-append}
use Rattle.s80_base.specs.declared.names.Side.{Side}
use Rattle.s80_dict.specs.Table.{same_side}
use Rattle.s80_change.specs.declared.change.Change.{Change}
use Rattle.s80_change.specs.declared.change.Change.TheVariants as changes
use Rattle.s80_change.specs.declared.change.Method.{Method as MethodChange}
use Rattle.s80_change.specs.Block.{block}
use Rattle.s80_form.specs.declared.form.Form.TheVariants.{Define, ClassVars, Comment, RemoveMethod, Classify, RemoveClass, NoChanges}
use Rattle.s80_form.specs.declared.refusal.Refusal.{Refusal}
use Rattle.s80_history.specs.Lists.{MethodName, Placed, is_same, named, placed_from, puts, versions_of}
use Rattle.s80_apply.specs.Accept.{accept, define}
use Rattle.s80_apply.specs.List.{AreAccepted, IsAccepted, IsBuilt, state_after, state_from, state_of, state_or}
use Rattle.s80_apply.specs.State.{MethodRow, State, kernel_state, put_method, take_class, take_method}
use Rattle.s80_class.specs.Classes.{Name, Classes, change_row, with_class_side_vars, with_comment}
use Rattle.s80_fileout.proofs.Elements.{IsIn, in_either}
use Rattle.s80_fileout.proofs.Keyed.{no_value, one_value, same_bytes}
use Rattle.s80_fileout.proofs.Cells.{Cell, in_cell, put_elsewhere, put_here, side_itself, side_same, taken_elsewhere, taken_here}
use Rattle.s80_fileout.proofs.MethodsPart.{by_cell}
use Rattle.s80_fileout.proofs.Accepting.{Cases, by_case, with_method}

abbrev pub name_of : Cell → MethodName
name_of c = record { class_name = c.0; side = c.1; selector = c.2 }

-- ---- which changes put it

same_itself : (c : Cell) → is_same (name_of c) (name_of c) ≡ true
same_itself c = λ i. same_bytes c.0 i && side_itself c.1 i && same_bytes c.2 i

same_told : (c d : Cell) → is_same (name_of c) (name_of d) ≡ true → c ≡ d
same_told c d e =
    let parts = and_parts (bytes_eq c.0 d.0 && same_side c.1 d.1) (bytes_eq c.2 d.2) e in
    let first = and_parts (bytes_eq c.0 d.0) (same_side c.1 d.1) parts.0 in
    let class : c.0 ≡ d.0 = (bytes_decides c.0 d.0).0 first.0 in
    let side : c.1 ≡ d.1 = side_same c.1 d.1 first.1 in
    let selector : c.2 ≡ d.2 = (bytes_decides c.2 d.2).0 parts.1 in
    λ i. (class i, side i, selector i)

other_told : (c d : Cell) → c ≢ d → is_same (name_of c) (name_of d) ≡ false
other_told c d ne = go (is_same (name_of c) (name_of d)) refl
  where
    go : (b : Bool) → is_same (name_of c) (name_of d) ≡ b → is_same (name_of c) (name_of d) ≡ false
    go true is = absurd (ne (same_told c d is))
    go false is = is

-- the change puts the method of this cell
pub record PutsCell (c : Cell) (change : Change) : Type 0 where
  pub method : MethodChange
  pub is : change ≡ changes.Method method
  pub class : method.class_name ≡ c.0
  pub side : method.side ≡ c.1
  pub selector : method.source.selector ≡ Ok c.2

pub puts_told : (c : Cell) (change : Change) → puts (name_of c) change ≡ true → PutsCell c change
puts_told c (changes.Form form) h = absurd (true≢false (sym h))
puts_told c (changes.DoIt text) h = absurd (true≢false (sym h))
puts_told c (changes.Method m) h = go m.source.selector refl h
  where
    go : (r : Result (List ℕ) Refusal) → m.source.selector ≡ r → option_map_or (is_same (name_of c)) (named m r) false ≡ true → PutsCell c (changes.Method m)
    go (Err why) is h = absurd (true≢false (sym h))
    go (Ok selector) is h =
        let same : c ≡ (m.class_name, m.side, selector) = same_told c (m.class_name, m.side, selector) h in
        record { method = m; is = refl; class = ap (λ (d : Cell). d.0) (sym same); side = ap (λ (d : Cell). d.1) (sym same); selector = is ∙ ap Ok (ap (λ (d : Cell). d.2) (sym same)) }

-- where a change puts one method, it puts that and no other
puts_one : (c : Cell) (m : MethodChange) (selector : List ℕ) → m.source.selector ≡ Ok selector → puts (name_of c) (changes.Method m) ≡ is_same (name_of c) (name_of (m.class_name, m.side, selector))
puts_one c m selector is = ap (λ r. option_map_or (is_same (name_of c)) (named m r) false) is

pub puts_no_other : (c d : Cell) (change : Change) → d ≢ c → PutsCell d change → puts (name_of c) change ≡ false
puts_no_other c d change ne p =
    let same : d ≡ (p.method.class_name, p.method.side, d.2) = λ i. (sym p.class i, sym p.side i, d.2) in
    ap (puts (name_of c)) p.is ∙ puts_one c p.method d.2 p.selector ∙ other_told c (p.method.class_name, p.method.side, d.2) (λ e. ne (same ∙ sym e))

pub puts_it : (c : Cell) (change : Change) → PutsCell c change → puts (name_of c) change ≡ true
puts_it c change p =
    let same : c ≡ (p.method.class_name, p.method.side, c.2) = λ i. (sym p.class i, sym p.side i, c.2) in
    ap (puts (name_of c)) p.is ∙ puts_one c p.method c.2 p.selector ∙ ap (λ (d : Cell). is_same (name_of c) (name_of d)) (sym same) ∙ same_itself c

-- ---- the versions of a method

-- the newest first
abbrev pub versions : List Change → Cell → List Change
versions cs c = reverse (filter (puts (name_of c)) cs)

pub reverse_cons : {X : Type 0} (x : X) (xs : List X) → reverse (x ∷ xs) ≡ reverse xs ++ x ∷ []
reverse_cons x xs = reverse-append (x ∷ []) xs

map_append : {X Y : Type 0} (f : X → Y) (xs ys : List X) → list_map f (xs ++ ys) ≡ list_map f xs ++ list_map f ys
map_append f [] ys = refl
map_append f (x ∷ xs) ys = ap (λ zs. f x ∷ zs) (map_append f xs ys)

map_reverse : {X Y : Type 0} (f : X → Y) (xs : List X) → list_map f (reverse xs) ≡ reverse (list_map f xs)
map_reverse f [] = refl
map_reverse f (x ∷ xs) = ap (list_map f) (reverse_cons x xs) ∙ map_append f (reverse xs) (x ∷ []) ∙ ap (λ ys. ys ++ f x ∷ []) (map_reverse f xs) ∙ sym (reverse_cons (f x) (list_map f xs))

without_places : (name : MethodName) (at : ℕ) (cs : List Change) → list_map (λ (p : Placed). p.1) (filter (λ p. puts name p.1) (placed_from at cs)) ≡ filter (puts name) cs
without_places name at [] = refl
without_places name at (c ∷ cs) = go (puts name c) (without_places name (at + length (block c)) cs)
  where
    go : (b : Bool) → list_map (λ (p : Placed). p.1) (filter (λ p. puts name p.1) (placed_from (at + length (block c)) cs)) ≡ filter (puts name) cs
        → list_map (λ (p : Placed). p.1) (cond b ((at, c) ∷ filter (λ p. puts name p.1) (placed_from (at + length (block c)) cs)) (filter (λ p. puts name p.1) (placed_from (at + length (block c)) cs)))
        ≡ cond b (c ∷ filter (puts name) cs) (filter (puts name) cs)
    go true rest = ap (λ ds. c ∷ ds) rest
    go false rest = rest

pub versions_are : (cs : List Change) (c : Cell) → list_map (λ (p : Placed). p.1) (versions_of cs (name_of c)) ≡ versions cs c
versions_are cs c = map_reverse (λ (p : Placed). p.1) (filter (λ p. puts (name_of c) p.1) (placed_from 0 cs)) ∙ ap reverse (without_places (name_of c) 0 cs)

pub in_reversed : {X : Type 0} (x : X) (xs : List X) → IsIn x (reverse xs) → IsIn x xs
in_reversed x [] at = at
in_reversed x (y ∷ xs) at = either (in_either x (reverse xs) (y ∷ []) (subst (IsIn x) (reverse_cons y xs) at)) (in_reversed x xs)
  where
    either : IsIn x (reverse xs) ⊎ IsIn x (y ∷ []) → (IsIn x (reverse xs) → IsIn x xs) → IsIn x (y ∷ xs)
    either (inl more) rest = inr (rest more)
    either (inr (inl same)) rest = inl same
    either (inr (inr none)) rest = absurd none

-- ---- what a state has of it

-- by its versions, the newest first: the source is that of the newest, and where there is none the kernel's
abbrev pub IsFrom : Cell → List Change → List ℕ → Type 0
IsFrom c [] source = (old : MethodRow) × (in_cell c kernel_state ≡ Some old) × (old.source ≡ source)
IsFrom c (changes.Method m ∷ older) source = m.source.text ≡ source
IsFrom c (changes.Form form ∷ older) source = ⊥
IsFrom c (changes.DoIt text ∷ older) source = ⊥

abbrev AreFrom : List Change → State → Type 0
AreFrom cs s = (c : Cell) (row : MethodRow) → in_cell c s ≡ Some row → IsFrom c (versions cs c) row.source

-- one change more
pub versions_more : (cs : List Change) (change : Change) (c : Cell) → versions (cs ++ change ∷ []) c ≡ cond (puts (name_of c) change) (change ∷ versions cs c) (versions cs c)
versions_more cs change c = ap reverse (filter-append (puts (name_of c)) cs (change ∷ [])) ∙ go (puts (name_of c) change)
  where
    go : (b : Bool) → reverse (filter (puts (name_of c)) cs ++ cond b (change ∷ []) []) ≡ cond b (change ∷ versions cs c) (versions cs c)
    go true = reverse-append (filter (puts (name_of c)) cs) (change ∷ [])
    go false = ap reverse (append-nil (filter (puts (name_of c)) cs))

-- a change that puts nothing, and leaves the sources of those that stay
abbrev Leaves : State → State → Type 0
Leaves s t = (c : Cell) (row : MethodRow) → in_cell c t ≡ Some row → (old : MethodRow) × (in_cell c s ≡ Some old) × (old.source ≡ row.source)

left_from : (cs : List Change) (change : Change) (s t : State) → ((c : Cell) → puts (name_of c) change ≡ false) → Leaves s t → AreFrom cs s → AreFrom (cs ++ change ∷ []) t
left_from cs change s t none leaves from c row is =
    let old = leaves c row is in
    subst (λ vs. IsFrom c vs row.source) (sym (versions_more cs change c ∙ ap (λ b. cond b (change ∷ versions cs c) (versions cs c)) (none c)))
    (subst (IsFrom c (versions cs c)) old.2 (from c old.0 old.1))

same_leaves : (s t : State) → t.methods ≡ s.methods → Leaves s t
same_leaves s t same c row is = (row, ap (λ m. map.get (m c.0 c.1) c.2) (sym same) ∙ is, refl)

abbrev Kept : Change → State → State → Type 0
Kept c s t = (cs : List Change) → AreFrom cs s → AreFrom (cs ++ c ∷ []) t

stays_from : (change : Change) (s : State) (now : Classes) → ((c : Cell) → puts (name_of c) change ≡ false) → Kept change s (record s { classes = now })
stays_from change s now none cs from = left_from cs change s (record s { classes = now }) none (same_leaves s (record s { classes = now }) refl) from

taken_from : (name : Name) (side : Side) (selector : Name) (s : State) → Kept (changes.Form (RemoveMethod name side selector)) s (take_method name side selector s)
taken_from name side selector s cs from =
    let now : State = take_method name side selector s in
    left_from cs (changes.Form (RemoveMethod name side selector)) s now (λ c. refl) (λ c row is. by_cell (name, side, selector) c
    (λ same. no_value (in_cell c now) row (ap (λ (d : Cell). in_cell d now) same ∙ taken_here name side selector s) is)
    (λ ne. (row, sym (taken_elsewhere name side selector s c ne) ∙ is, refl))) from

classified_from : (name : Name) (side : Side) (selector category : Name) (old : MethodRow) (s : State) → in_cell (name, side, selector) s ≡ Some old
    → Kept (changes.Form (Classify name side selector category)) s (put_method name side selector (record old { category = category }) s)
classified_from name side selector category old s there cs from =
    let made : MethodRow = record old { category = category } in
    let now : State = put_method name side selector made s in
    left_from cs (changes.Form (Classify name side selector category)) s now (λ c. refl) (λ c row is. by_cell (name, side, selector) c
    (λ same.
    let both : made ≡ row = one_value (in_cell c now) made row (ap (λ (d : Cell). in_cell d now) same ∙ put_here name side selector s made) is in
    (old, ap (λ (d : Cell). in_cell d s) same ∙ there, ap (λ (r : MethodRow). r.source) both))
    (λ ne. (row, sym (put_elsewhere name side selector s made c ne) ∙ is, refl))) from

removed_from : (name : Name) (s : State) → Kept (changes.Form (RemoveClass name)) s (take_class name s)
removed_from name s cs from = left_from cs (changes.Form (RemoveClass name)) s (take_class name s) (λ c. refl) (λ c row is. gone c row (bytes_eq c.0 name) is) from
  where
    gone : (c : Cell) (row : MethodRow) (b : Bool) → map.get (cond b map.empty (s.methods c.0 c.1)) c.2 ≡ Some row → (old : MethodRow) × (in_cell c s ≡ Some old) × (old.source ≡ row.source)
    gone c row true is = absurd (let bad : None ≡ Some row = sym (map.get-empty (slice_cmp nat_cmp) c.2) ∙ is in cc)
    gone c row false is = (row, is, refl)

put_from : (m : MethodChange) (selector : Name) (s : State) → m.source.selector ≡ Ok selector → Kept (changes.Method m) s (with_method m selector s)
put_from m selector s so cs from c row is =
    let made : MethodRow = record { category = m.category; source = m.source.text } in
    let now : State = with_method m selector s in
    let told : (b : Bool) → puts (name_of c) (changes.Method m) ≡ b → cond b (changes.Method m ∷ versions cs c) (versions cs c) ≡ versions (cs ++ changes.Method m ∷ []) c =
    λ b h. sym (versions_more cs (changes.Method m) c ∙ ap (λ b. cond b (changes.Method m ∷ versions cs c) (versions cs c)) h) in
    by_cell (m.class_name, m.side, selector) c
    (λ same.
    let p : PutsCell c (changes.Method m) = record { method = m; is = refl; class = ap (λ (d : Cell). d.0) (sym same); side = ap (λ (d : Cell). d.1) (sym same); selector = so ∙ ap Ok (ap (λ (d : Cell). d.2) (sym same)) } in
    let both : made ≡ row = one_value (in_cell c now) made row (ap (λ (d : Cell). in_cell d now) same ∙ put_here m.class_name m.side selector s made) is in
    subst (λ vs. IsFrom c vs row.source) (told true (puts_it c (changes.Method m) p)) (ap (λ (r : MethodRow). r.source) both))
    (λ ne.
    let p : PutsCell (m.class_name, m.side, selector) (changes.Method m) = record { method = m; is = refl; class = refl; side = refl; selector = so } in
    subst (λ vs. IsFrom c vs row.source) (told false (puts_no_other c (m.class_name, m.side, selector) (changes.Method m) (λ e. ne (sym e)) p))
    (from c row (sym (put_elsewhere m.class_name m.side selector s made c ne) ∙ is)))

cases : Cases Kept
cases = record {
  defined = λ d s none. stays_from (changes.Form (Define d)) s (define d s.classes) (λ c. refl);
  given_vars = λ name names s none. stays_from (changes.Form (ClassVars name names)) s (change_row (with_class_side_vars names) name s.classes) (λ c. refl);
  commented = λ name text s known. stays_from (changes.Form (Comment name text)) s (change_row (with_comment text) name s.classes) (λ c. refl);
  taken = λ name side selector s known. taken_from name side selector s;
  classified = λ name side selector category old s known there. classified_from name side selector category old s there;
  removed = λ name s none. removed_from name s;
  begun = λ s. stays_from (changes.Form NoChanges) s s.classes (λ c. refl);
  put = λ m selector s so known few. put_from m selector s so;
  evaluated = λ text s. stays_from (changes.DoIt text) s s.classes (λ c. refl);
}

from_list : (cs done : List Change) (s : State) → AreAccepted s cs → AreFrom done s → AreFrom (done ++ cs) (state_from s cs)
from_list [] done s accepted from = subst (λ ds. AreFrom ds s) (sym (append-nil done)) from
from_list (c ∷ cs) done s accepted from =
    subst (λ ds. AreFrom ds (state_from s (c ∷ cs))) (append_assoc done (c ∷ []) cs)
    (from_list cs (done ++ c ∷ []) (state_after c s) accepted.1 (go (accept c s) refl accepted.0))
  where
    go : (r : Result State Refusal) → accept c s ≡ r → IsAccepted r → AreFrom (done ++ c ∷ []) (state_or r s)
    go (Ok now) is ok = by_case Kept cases c s now is done from
    go (Err why) is none = absurd none

-- each method of a list that was built is from its newest version, or the kernel's
pub built_from : (cs : List Change) → IsBuilt cs → (c : Cell) (row : MethodRow) → in_cell c (state_of cs) ≡ Some row → IsFrom c (versions cs c) row.source
built_from cs built = from_list cs [] kernel_state built (λ c row is. (row, is, refl))
