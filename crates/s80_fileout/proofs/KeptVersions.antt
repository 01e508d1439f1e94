-- What a list that keeps versions has for one method: its newest versions, and the category that it is under.
use Rattle.std.proofs.Common.{◌≡◌, ◌≢◌, inl, inr, ◌∙◌, ◌≤◌, ◌+◌, ◌++◌, ℕ, zero, suc, cond, true, filter, reverse, take, refl, sym, ap, subst, List, [], ◌∷◌, Ok, is_some, append_assoc, arith}
use Rattle.std.specs.FinMap as map
use Rattle.std.specs.Cmp.Lexicographic.{nat_list_cmp_total}
use Rattle.s80_base.specs.declared.names.Side.{Side}
use Rattle.s80_change.specs.declared.change.Change.{Change}
use Rattle.s80_class.specs.Classes.{Name, Classes}
use Rattle.s80_history.specs.Lists.{puts}
use Rattle.s80_apply.specs.Accept.{accept, len_with}
use Rattle.s80_apply.specs.List.{IsBuilt, state_of}
use Rattle.s80_apply.specs.State.{MethodRow, State, kernel_state, put_method}
use Rattle.s80_fileout.specs.Condensed.{category_put, classified, first_category, of_versions}
use Rattle.s80_fileout.proofs.Elements.{IsIn, filter_passed}
use Rattle.s80_fileout.proofs.Keyed.{get_put_here}
use Rattle.s80_fileout.proofs.Leading.{Leads, leads_first, leads_then, leads_weaker}
use Rattle.s80_fileout.proofs.Cells.{Cell, in_cell, method_accepted, place_itself, put_elsewhere, put_here}
use Rattle.s80_fileout.proofs.KernelCells.{kernel_category_is}
use Rattle.s80_fileout.proofs.MethodsPart.{IsSet, SetsEach}
use Rattle.s80_fileout.proofs.OfMethod.{leads_classified}
use Rattle.s80_fileout.proofs.Putting.{IsFrom, PutsCell, built_from, in_reversed, name_of, puts_told, reverse_cons, versions, versions_are}

-- the changes put this method alone, and there is room for it yet
record IsOnto (c : Cell) (s t : State) : Type 0 where
  classes : t.classes ≡ s.classes
  room : len_with c.2 (t.methods c.0 c.1) ≤ 16384
  others : (q : Cell) → q ≢ c → in_cell q t ≡ in_cell q s

put_room : (c : Cell) (row : MethodRow) (s : State) → len_with c.2 (s.methods c.0 c.1) ≤ 16384 → len_with c.2 ((put_method c.0 c.1 c.2 row s).methods c.0 c.1) ≤ 16384
put_room c row s room =
    subst (λ b. len_with c.2 (cond b (map.insert (s.methods c.0 c.1) c.2 row) (s.methods c.0 c.1)) ≤ 16384) (sym (place_itself c.0 c.1))
    (omega (
      arith,
      room,
      map.len-insert nat_list_cmp_total (s.methods c.0 c.1) c.2 row,
      ap (λ o. cond (is_some o) (map.len (map.insert (s.methods c.0 c.1) c.2 row)) (map.len (map.insert (s.methods c.0 c.1) c.2 row) + 1)) (get_put_here (s.methods c.0 c.1) c.2 row),
    ))

-- one that puts it
module _ (c : Cell) (s : State) (known : map.contains_key s.classes c.0 ≡ true) (room : len_with c.2 (s.methods c.0 c.1) ≤ 16384) (change : Change) (p : PutsCell c change) where
  abbrev row_put : MethodRow
  row_put = record { category = p.method.category; source = p.method.source.text }

  abbrev with_put : State
  with_put = put_method c.0 c.1 c.2 row_put s

  put_accepted : accept change s ≡ Ok with_put
  put_accepted =
      ap (λ x. accept x s) p.is
      ∙ method_accepted p.method c.2 s p.selector (ap (map.contains_key s.classes) p.class ∙ known)
      (subst (λ (at : Name × Side). len_with c.2 (s.methods at.0 at.1) ≤ 16384) (λ i. (sym p.class i, sym p.side i)) room)
      ∙ (λ i. Ok (put_method (p.class i) (p.side i) c.2 row_put s))

  is_onto : IsOnto c s with_put
  is_onto = record { classes = refl; room = put_room c row_put s room; others = put_elsewhere c.0 c.1 c.2 s row_put }

leads_puts : (c : Cell) (cs : List Change) (s : State) → map.contains_key s.classes c.0 ≡ true → len_with c.2 (s.methods c.0 c.1) ≤ 16384 → ((x : Change) → IsIn x cs → PutsCell c x) → Leads s cs (IsOnto c s)
leads_puts c [] s known room each = (tt, record { classes = refl; room = room; others = λ q ne. refl })
leads_puts c (x ∷ cs) s known room each =
    let p = each x (inl refl) in
    let one = is_onto c s known room x p in
    leads_first x cs s (with_put c s known room x p) (IsOnto c s) (put_accepted c s known room x p)
    (leads_weaker cs (with_put c s known room x p) (IsOnto c (with_put c s known room x p)) (IsOnto c s)
    (leads_puts c cs (with_put c s known room x p) known one.room (λ y at. each y (inr at))) (λ t more. record {
      classes = more.classes;
      room = more.room;
      others = λ q ne. more.others q ne ∙ one.others q ne;
    }))

-- ---- the newest, and the category

pub in_taken : {X : Type 0} (x : X) (k : ℕ) (xs : List X) → IsIn x (take k xs) → IsIn x xs
in_taken x zero xs at = absurd at
in_taken x (suc k) [] at = at
in_taken x (suc k) (y ∷ xs) (inl same) = inl same
in_taken x (suc k) (y ∷ xs) (inr more) = inr (in_taken x k xs more)

-- the category that a list of versions leaves is that of the newest
put_category : (c : Cell) (change : Change) (p : PutsCell c change) → category_put change ≡ p.method.category
put_category c change p = ap category_put p.is

from_text : (c : Cell) (change : Change) (older : List Change) (p : PutsCell c change) (source : List ℕ) → IsFrom c (change ∷ older) source → p.method.source.text ≡ source
from_text c change older p source from = subst (λ x. IsFrom c (x ∷ older) source) p.is from

module _ (c : Cell) (row : MethodRow) (s : State) (known : map.contains_key s.classes c.0 ≡ true) (room : len_with c.2 (s.methods c.0 c.1) ≤ 16384) (as_kernel : in_cell c s ≡ in_cell c kernel_state) where
  abbrev after : ℕ → List Change → List Change
  after count vs = reverse (take count vs) ++ classified c.0 c.1 c.2 (first_category vs) row.category

  leads_versions : (count : ℕ) → 1 ≤ count → (vs : List Change) → ((x : Change) → IsIn x vs → PutsCell c x) → IsFrom c vs row.source → Leads s (after count vs) (IsSet c row s)
  leads_versions zero some vs each from = absurd (omega (arith, some))
  leads_versions (suc n) some [] each from =
      let old = from.0 in
      subst (λ category. Leads s (classified c.0 c.1 c.2 category row.category) (IsSet c row s)) (kernel_category_is c old from.1)
      (leads_classified c row s known old (as_kernel ∙ from.1) from.2)
  leads_versions (suc n) some (v ∷ vs) each from =
      let p = each v (inl refl) in
      subst (λ cs. Leads s (cs ++ classified c.0 c.1 c.2 (category_put v) row.category) (IsSet c row s)) (sym (reverse_cons v (take n vs)))
      (subst (λ cs. Leads s cs (IsSet c row s)) (sym (append_assoc (reverse (take n vs)) (v ∷ []) (classified c.0 c.1 c.2 (category_put v) row.category)))
      (leads_then (reverse (take n vs)) (v ∷ classified c.0 c.1 c.2 (category_put v) row.category) s (IsOnto c s) (IsSet c row s)
      (leads_puts c (reverse (take n vs)) s known room (λ x at. each x (inr (in_taken x n vs (in_reversed x (take n vs) at))))) (λ t onto.
      let known_yet : map.contains_key t.classes c.0 ≡ true = ap (λ (k : Classes). map.contains_key k c.0) onto.classes ∙ known in
      let now : State = with_put c t known_yet onto.room v p in
      let made : MethodRow = row_put c t known_yet onto.room v p in
      leads_first v (classified c.0 c.1 c.2 (category_put v) row.category) t now (IsSet c row s) (put_accepted c t known_yet onto.room v p)
      (subst (λ category. Leads now (classified c.0 c.1 c.2 category row.category) (IsSet c row s)) (sym (put_category c v p))
      (leads_weaker (classified c.0 c.1 c.2 made.category row.category) now (IsSet c row now) (IsSet c row s)
      (leads_classified c row now known_yet made (put_here c.0 c.1 c.2 t made) (from_text c v vs p row.source from)) (λ u set. record {
        classes = set.classes ∙ onto.classes;
        here = set.here;
        others = λ q ne. set.others q ne ∙ put_elsewhere c.0 c.1 c.2 t made q ne ∙ onto.others q ne;
      }))))))

-- each version puts the method
pub version_puts : (cs : List Change) (c : Cell) (x : Change) → IsIn x (versions cs c) → PutsCell c x
version_puts cs c x at = puts_told c x (filter_passed (puts (name_of c)) x cs (in_reversed x (filter (puts (name_of c)) cs) at))

-- the newest versions of each method that the state has set its row
pub of_versions_sets : (count : ℕ) → 1 ≤ count → (cs : List Change) → IsBuilt cs → SetsEach (state_of cs) (of_versions count cs)
of_versions_sets count some cs built c row is s known room as_kernel =
    subst (λ vs. Leads s (reverse (take count vs) ++ classified c.0 c.1 c.2 (first_category vs) row.category) (IsSet c row s)) (sym (versions_are cs c))
    (leads_versions c row s known room as_kernel count some (versions cs c) (version_puts cs c) (built_from cs built c row is))
