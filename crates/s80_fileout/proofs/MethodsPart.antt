-- The third part of a condensed list: its methods, one after the other.
use Rattle.std.proofs.Common.{◌≡◌, ◌≢◌, ◌∙◌, ◌≤◌, ℕ, Bool, cond, true, false, refl, sym, ap, subst, List, Some, None, is_some, true≢false, arith}
use Rattle.std.specs.List.{flat_map}
use Rattle.std.specs.FinMap as map
use Rattle.std.specs.Cmp.Lexicographic.{nat_list_cmp_total}
use Rattle.s80_base.specs.declared.names.Side.{Side}
use Rattle.s80_dict.specs.Table.{same_side}
use Rattle.s80_change.specs.declared.change.Change.{Change}
use Rattle.s80_class.specs.Classes.{Name, Classes}
use Rattle.s80_apply.specs.Accept.{len_with}
use Rattle.s80_apply.specs.State.{MethodRow, State, kernel_state}
use Rattle.s80_fileout.specs.Condensed.{for_methods}
use Rattle.s80_fileout.proofs.Elements.{IsIn}
use Rattle.s80_fileout.proofs.Keyed.{by_bytes, by_found, get_put_other, no_longer, no_value, same_named}
use Rattle.s80_fileout.proofs.Leading.{AllStepped, Leads, Stepped, leads_keyed, leads_weaker}
use Rattle.s80_fileout.proofs.Cells.{Cell, in_cell, side_itself, side_same}
use Rattle.s80_fileout.proofs.KernelPart.{left_cell}
use Rattle.s80_fileout.proofs.Held.{AreHeld}
use Rattle.s80_fileout.proofs.ManyCells.{CellRow, all_cells, all_cells_apart, all_cells_in, cell_of, for_methods_are, in_all_cells}

-- one method has this row, and the others stay
pub record IsSet (c : Cell) (row : MethodRow) (s t : State) : Type 0 where
  pub classes : t.classes ≡ s.classes
  pub here : in_cell c t ≡ Some row
  pub others : (q : Cell) → q ≢ c → in_cell q t ≡ in_cell q s

-- For a method of the state it gives changes that are accepted where its class is there and has room for it, and the method is the kernel's or isn't there: they set its row.
abbrev pub SetsEach : State → (Name → Side → List ℕ → MethodRow → List Change) → Type 0
SetsEach final method = (c : Cell) (row : MethodRow) → in_cell c final ≡ Some row → (s : State) → map.contains_key s.classes c.0 ≡ true → len_with c.2 (s.methods c.0 c.1) ≤ 16384
    → in_cell c s ≡ in_cell c kernel_state → Leads s (method c.0 c.1 c.2 row) (IsSet c row s)

by_side : {P : Type 0} (s t : Side) → (s ≡ t → P) → (s ≢ t → P) → P
by_side {P} s t same other = go (same_side s t) refl
  where
    go : (b : Bool) → same_side s t ≡ b → P
    go true is = same (side_same s t is)
    go false is = other (λ e. true≢false (sym (side_itself t) ∙ ap (λ r. same_side r t) (sym e) ∙ is))

pub by_cell : {P : Type 0} (c q : Cell) → (q ≡ c → P) → (q ≢ c → P) → P
by_cell c q same other = by_bytes q.0 c.0 (λ class. by_side q.1 c.1 (λ side. by_bytes q.2 c.2 (λ selector. same (λ i. (class i, side i, selector i))) (λ ne. other (λ e. ne (ap (λ (x : Cell). x.2) e))))
    (λ ne. other (λ e. ne (ap (λ (x : Cell). x.1) e)))) (λ ne. other (λ e. ne (ap (λ (x : Cell). x.0) e)))

module _ (final : State) (held : AreHeld final) (method : Name → Side → List ℕ → MethodRow → List Change) (sets : SetsEach final method) where
  -- the classes are those of the state, and no method is there that the state hasn't
  record IsRoomy (s : State) : Type 0 where
    classes : s.classes ≡ final.classes
    within : (q : Cell) (row : MethodRow) → in_cell q s ≡ Some row → (now : MethodRow) × (in_cell q final ≡ Some now)

  abbrev SameCell : Cell → State → State → Type 0
  SameCell q s t = in_cell q t ≡ in_cell q s

  abbrev Todo : CellRow → State → Type 0
  Todo x s = in_cell (cell_of x) s ≡ in_cell (cell_of x) kernel_state

  abbrev Done : CellRow → State → Type 0
  Done x s = in_cell (cell_of x) s ≡ in_cell (cell_of x) final

  abbrev each : CellRow → List Change
  each x = method x.0 x.1 x.2 x.3

  abbrev IsStepped : CellRow → State → State → Type 0
  IsStepped = Stepped cell_of each SameCell (λ q s. refl) (λ q r s t first second. second ∙ first) IsRoomy Todo Done (λ x s t same todo. same ∙ todo) (λ x s t same done. same ∙ done)

  abbrev AreStepped : State → State → Type 0
  AreStepped = AllStepped cell_of each SameCell (λ q s. refl) (λ q r s t first second. second ∙ first) IsRoomy Todo Done (λ x s t same todo. same ∙ todo) (λ x s t same done. same ∙ done) (all_cells final)

  -- with the method there are no more than in the state
  room : (s : State) → IsRoomy s → (c : Cell) (row : MethodRow) → in_cell c final ≡ Some row → len_with c.2 (s.methods c.0 c.1) ≤ 16384
  room s roomy c row here =
      let most : map.len (map.insert (s.methods c.0 c.1) c.2 row) ≤ map.len (final.methods c.0 c.1) =
      no_longer (map.insert (s.methods c.0 c.1) c.2 row) (final.methods c.0 c.1) (λ q v is. by_bytes q c.2
      (λ same. (row, ap (map.get (final.methods c.0 c.1)) same ∙ here))
      (λ ne. roomy.within (c.0, c.1, q) v (sym (get_put_other (s.methods c.0 c.1) c.2 row q ne) ∙ is))) in
      let few : map.len (final.methods c.0 c.1) ≤ 16384 = held.few c.0 c.1 in
      omega (arith, most, few, map.len-insert nat_list_cmp_total (s.methods c.0 c.1) c.2 row)

  one_cell : (x : CellRow) → IsIn x (all_cells final) → (s : State) → IsRoomy s → Todo x s → Leads s (each x) (IsStepped x s)
  one_cell x at s roomy todo =
      let cell = all_cells_in final x at in
      leads_weaker (each x) s (IsSet (cell_of x) x.3 s) (IsStepped x s)
      (sets (cell_of x) x.3 cell.row s (ap (λ (c : Classes). map.contains_key c x.0) roomy.classes ∙ ap is_some cell.there) (room s roomy (cell_of x) x.3 cell.row) todo)
      (λ t set. record {
        keeps = record {
          classes = set.classes ∙ roomy.classes;
          within = λ q row is. by_cell (cell_of x) q (λ same. (x.3, ap (λ (c : Cell). in_cell c final) same ∙ cell.row)) (λ ne. roomy.within q row (sym (set.others q ne) ∙ is));
        };
        done = set.here ∙ sym cell.row;
        others = set.others;
      })

  pub leads_methods_part : (s : State) → s.classes ≡ final.classes → ((c : Cell) → in_cell c s ≡ left_cell final c) → Leads s (for_methods method final) (λ t. t ≡ final)
  leads_methods_part s classes left =
      subst (λ cs. Leads s cs (λ t. t ≡ final)) (for_methods_are method final)
      (leads_weaker (flat_map each (all_cells final)) s (AreStepped s) (λ t. t ≡ final)
      (leads_keyed cell_of each SameCell (λ q s. refl) (λ q r s t first second. second ∙ first) IsRoomy Todo Done (λ x s t same todo. same ∙ todo) (λ x s t same done. same ∙ done)
      (all_cells final) (all_cells_apart final) one_cell s
      (record {
        classes = classes;
        within = λ q row is. by_found (in_cell q final)
            (λ none. no_value (in_cell q s) row (left q ∙ ap (λ o. cond (is_some o) (in_cell q kernel_state) None) none) is) (λ now here. (now, here));
      })
      (λ x at. let cell = all_cells_in final x at in left (cell_of x) ∙ ap (λ o. cond (is_some o) (in_cell (cell_of x) kernel_state) None) cell.row))
      (λ t all. same_state t all.keeps.classes (λ c. by_found (in_cell c final)
      (λ none. by_found (in_cell c t) (λ absent. absent ∙ sym none) (λ row is. let now = all.keeps.within c row is in no_value (in_cell c final) now.0 none now.1))
      (λ row here. by_found (map.get final.classes c.0)
      (λ none. no_value (in_cell c final) row (held.others c none) here)
      (λ class there. all.done (c.0, c.1, c.2, row) (in_all_cells final c class row there here))))))
    where
      same_state : (t : State) → t.classes ≡ final.classes → ((c : Cell) → in_cell c t ≡ in_cell c final) → t ≡ final
      same_state t classes cells =
          let methods : t.methods ≡ final.methods = λ i name side. same_named (t.methods name side) (final.methods name side) (λ selector. cells (name, side, selector)) i in
          λ i. record { classes = classes i; methods = methods i }
