-- A method of a lawful list that was built is under the category that its newest version gave it, or else its selector is brief, as it was put under another.
use Rattle.std.proofs.Common.{◌≡◌, ◌⊎◌, inl, inr, ◌∙◌, ◌++◌, ℕ, Bool, cond, true, false, refl, sym, ap, subst, List, [], ◌∷◌, Some, None, Result, Ok, Err, append-nil, append_assoc}
use Rattle.std.specs.List.{All}
use Rattle.std.specs.Str.{bytes_eq}
use Rattle.std.specs.Ordering.{nat_cmp}
use Rattle.std.specs.Cmp.Lexicographic.{slice_cmp}
use Rattle.std.specs.FinMap as map
use Rattle.std.proofs.lemmas.List.Elements.{All-head, All-tail}
use Rattle.s80_base.specs.declared.names.Side.{Side}
use Rattle.s80_change.specs.declared.change.Change.{Change}
use Rattle.s80_change.specs.declared.change.Change.TheVariants as changes
use Rattle.s80_change.specs.declared.change.Method.{Method as MethodChange}
use Rattle.s80_change.specs.Block.{IsLawful}
use Rattle.s80_form.specs.declared.form.Form.TheVariants.{Define, ClassVars, Comment, RemoveMethod, Classify, RemoveClass, NoChanges}
use Rattle.s80_form.specs.declared.refusal.Refusal.{Refusal}
use Rattle.s80_form.specs.Name.{IsBrief}
use Rattle.s80_history.specs.Lists.{puts}
use Rattle.s80_apply.specs.Accept.{accept}
use Rattle.s80_apply.specs.List.{AreAccepted, IsAccepted, IsBuilt, state_after, state_from, state_of, state_or}
use Rattle.s80_apply.specs.State.{MethodRow, State, kernel_state, put_method, take_class, take_method}
use Rattle.s80_class.specs.Classes.{Name}
use Rattle.s80_fileout.specs.Condensed.{first_category}
use Rattle.s80_fileout.proofs.Keyed.{no_value, one_value}
use Rattle.s80_fileout.proofs.Cells.{Cell, in_cell, put_elsewhere, put_here, taken_elsewhere, taken_here}
use Rattle.s80_fileout.proofs.KernelCells.{kernel_category_is}
use Rattle.s80_fileout.proofs.MethodsPart.{by_cell}
use Rattle.s80_fileout.proofs.Accepting.{Cases, by_case, with_method}
use Rattle.s80_fileout.proofs.Putting.{PutsCell, name_of, puts_it, puts_no_other, versions, versions_more}

abbrev pub IsUnder : Cell → List Change → List ℕ → Type 0
IsUnder c vs category = (first_category vs ≡ category) ⊎ IsBrief c.2

abbrev AreUnder : List Change → State → Type 0
AreUnder cs s = (c : Cell) (row : MethodRow) → in_cell c s ≡ Some row → IsUnder c (versions cs c) row.category

abbrev Kept : Change → State → State → Type 0
Kept c s t = IsLawful c → (cs : List Change) → AreUnder cs s → AreUnder (cs ++ c ∷ []) t

-- where the change doesn't put this one, and it was there before
module _ (change : Change) (s : State) (cs : List Change) (under : AreUnder cs s) (c : Cell) (row : MethodRow) where
  as_before : puts (name_of c) change ≡ false → in_cell c s ≡ Some row → IsUnder c (versions (cs ++ change ∷ []) c) row.category
  as_before none is = subst (λ vs. IsUnder c vs row.category) (sym (versions_more cs change c ∙ ap (λ b. cond b (change ∷ versions cs c) (versions cs c)) none)) (under c row is)

taken_under : (name : Name) (side : Side) (selector : Name) (s : State) → Kept (changes.Form (RemoveMethod name side selector)) s (take_method name side selector s)
taken_under name side selector s lawful cs under c row is =
    let now : State = take_method name side selector s in
    by_cell (name, side, selector) c
    (λ same. no_value (in_cell c now) row (ap (λ (d : Cell). in_cell d now) same ∙ taken_here name side selector s) is)
    (λ ne. as_before (changes.Form (RemoveMethod name side selector)) s cs under c row refl (sym (taken_elsewhere name side selector s c ne) ∙ is))

classified_under : (name : Name) (side : Side) (selector category : Name) (made : MethodRow) (s : State) → Kept (changes.Form (Classify name side selector category)) s (put_method name side selector made s)
classified_under name side selector category made s lawful cs under c row is =
    by_cell (name, side, selector) c
    (λ same. inr (subst (λ (d : Cell). IsBrief d.2) (sym same) lawful.brief.1))
    (λ ne. as_before (changes.Form (Classify name side selector category)) s cs under c row refl (sym (put_elsewhere name side selector s made c ne) ∙ is))

removed_under : (name : Name) (s : State) → Kept (changes.Form (RemoveClass name)) s (take_class name s)
removed_under name s lawful cs under c row is = as_before (changes.Form (RemoveClass name)) s cs under c row refl (left (bytes_eq c.0 name) is)
  where
    left : (b : Bool) → map.get (cond b map.empty (s.methods c.0 c.1)) c.2 ≡ Some row → in_cell c s ≡ Some row
    left true is = absurd (let bad : None ≡ Some row = sym (map.get-empty (slice_cmp nat_cmp) c.2) ∙ is in cc)
    left false is = is

put_under : (m : MethodChange) (selector : Name) (s : State) → m.source.selector ≡ Ok selector → Kept (changes.Method m) s (with_method m selector s)
put_under m selector s so lawful cs under c row is =
    let made : MethodRow = record { category = m.category; source = m.source.text } in
    let now : State = with_method m selector s in
    by_cell (m.class_name, m.side, selector) c
    (λ same.
    let p : PutsCell c (changes.Method m) = record { method = m; is = refl; class = ap (λ (d : Cell). d.0) (sym same); side = ap (λ (d : Cell). d.1) (sym same); selector = so ∙ ap Ok (ap (λ (d : Cell). d.2) (sym same)) } in
    let both : made ≡ row = one_value (in_cell c now) made row (ap (λ (d : Cell). in_cell d now) same ∙ put_here m.class_name m.side selector s made) is in
    subst (λ vs. IsUnder c vs row.category) (sym (versions_more cs (changes.Method m) c ∙ ap (λ b. cond b (changes.Method m ∷ versions cs c) (versions cs c)) (puts_it c (changes.Method m) p)))
    (inl (ap (λ (r : MethodRow). r.category) both)))
    (λ ne.
    let p : PutsCell (m.class_name, m.side, selector) (changes.Method m) = record { method = m; is = refl; class = refl; side = refl; selector = so } in
    as_before (changes.Method m) s cs under c row (puts_no_other c (m.class_name, m.side, selector) (changes.Method m) (λ e. ne (sym e)) p) (sym (put_elsewhere m.class_name m.side selector s made c ne) ∙ is))

cases : Cases Kept
cases = record {
  defined = λ d s none lawful cs under c row is. as_before (changes.Form (Define d)) s cs under c row refl is;
  given_vars = λ name names s none lawful cs under c row is. as_before (changes.Form (ClassVars name names)) s cs under c row refl is;
  commented = λ name text s known lawful cs under c row is. as_before (changes.Form (Comment name text)) s cs under c row refl is;
  taken = λ name side selector s known. taken_under name side selector s;
  classified = λ name side selector category old s known there. classified_under name side selector category (record old { category = category }) s;
  removed = λ name s none. removed_under name s;
  begun = λ s lawful cs under c row is. as_before (changes.Form NoChanges) s cs under c row refl is;
  put = λ m selector s so known few. put_under m selector s so;
  evaluated = λ text s lawful cs under c row is. as_before (changes.DoIt text) s cs under c row refl is;
}

from_list : (cs done : List Change) (s : State) → All IsLawful cs → AreAccepted s cs → AreUnder done s → AreUnder (done ++ cs) (state_from s cs)
from_list [] done s lawful accepted under = subst (λ ds. AreUnder ds s) (sym (append-nil done)) under
from_list (c ∷ cs) done s lawful accepted under =
    subst (λ ds. AreUnder ds (state_from s (c ∷ cs))) (append_assoc done (c ∷ []) cs)
    (from_list cs (done ++ c ∷ []) (state_after c s) (All-tail IsLawful c cs lawful) accepted.1 (go (accept c s) refl accepted.0))
  where
    go : (r : Result State Refusal) → accept c s ≡ r → IsAccepted r → AreUnder (done ++ c ∷ []) (state_or r s)
    go (Ok now) is ok = by_case Kept cases c s now is (All-head IsLawful c cs lawful) done under
    go (Err why) is none = absurd none

pub built_under : (cs : List Change) → IsBuilt cs → All IsLawful cs → (c : Cell) (row : MethodRow) → in_cell c (state_of cs) ≡ Some row → IsUnder c (versions cs c) row.category
built_under cs built lawful = from_list cs [] kernel_state lawful built (λ c row is. inl (sym (kernel_category_is c row is)))
