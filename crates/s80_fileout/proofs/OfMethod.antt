-- What a condensed list has for one method: the kernel's under its category, or the method itself.
use Rattle.std.proofs.Common.{◌≡◌, ◌∙◌, ◌≤◌, Bool, cond, true, false, refl, sym, ap, [], ◌∷◌, Option, Some, None, Ok, option_map}
use Rattle.std.specs.Str.{bytes_eq}
use Rattle.std.specs.Cmp.Lexicographic.{bytes_decides}
use Rattle.std.specs.FinMap as map
use Rattle.s80_kernel.specs.Methods.{KernelMethodRow, found_method}
use Rattle.s80_change.specs.declared.change.Change.TheVariants.{Form, Method}
use Rattle.s80_change.specs.declared.change.Method.{Method as MethodChange}
use Rattle.s80_form.specs.declared.form.Form.TheVariants.{Classify}
use Rattle.s80_apply.specs.Accept.{len_with}
use Rattle.s80_apply.specs.State.{MethodRow, State, kernel_method, on_class_side, put_method}
use Rattle.s80_fileout.specs.Condensed.{as_change, classified, kernel_category, of_method, over_kernels}
use Rattle.s80_fileout.proofs.Leading.{Leads, leads_one}
use Rattle.s80_fileout.proofs.Cells.{Cell, classify_accepted, in_cell, method_accepted, put_elsewhere, put_here}
use Rattle.s80_fileout.proofs.KernelCells.{kernel_cell}
use Rattle.s80_fileout.proofs.MethodsPart.{IsSet, SetsEach}

pub same_method_row : (a b : MethodRow) → a.category ≡ b.category → a.source ≡ b.source → a ≡ b
same_method_row a b category source = λ i. record { category = category i; source = source i }

module _ (c : Cell) (row : MethodRow) (s : State) (known : map.contains_key s.classes c.0 ≡ true) where
  put_set : IsSet c row s (put_method c.0 c.1 c.2 row s)
  put_set = record { classes = refl; here = put_here c.0 c.1 c.2 s row; others = put_elsewhere c.0 c.1 c.2 s row }

  leads_change : len_with c.2 (s.methods c.0 c.1) ≤ 16384 → Leads s (as_change c.0 c.1 c.2 row ∷ []) (IsSet c row s)
  leads_change few =
      let m : MethodChange = record { class_name = c.0; side = c.1; category = row.category; source = record { text = row.source; selector = Ok c.2 } } in
      leads_one (Method m) s (put_method c.0 c.1 c.2 row s) (IsSet c row s) (method_accepted m c.2 s refl known few) put_set

  -- a method that is there, under another category
  pub leads_classified : (old : MethodRow) → in_cell c s ≡ Some old → old.source ≡ row.source → Leads s (classified c.0 c.1 c.2 old.category row.category) (IsSet c row s)
  leads_classified old there source = go (bytes_eq old.category row.category) refl
    where
      go : (b : Bool) → bytes_eq old.category row.category ≡ b → Leads s (cond b [] (Form (Classify c.0 c.1 c.2 row.category) ∷ [])) (IsSet c row s)
      go true same = (tt, record { classes = refl; here = there ∙ ap Some (same_method_row old row ((bytes_decides old.category row.category).0 same) source); others = λ q ne. refl })
      go false differs =
          leads_one (Form (Classify c.0 c.1 c.2 row.category)) s (put_method c.0 c.1 c.2 row s) (IsSet c row s)
          (classify_accepted c.0 c.1 c.2 s row.category old known there
          ∙ ap (λ (r : MethodRow). Ok (put_method c.0 c.1 c.2 r s)) (same_method_row (record old { category = row.category }) row refl source))
          put_set

pub of_method_sets : (final : State) → SetsEach final of_method
of_method_sets final c row is s known few as_kernel = go (found_method c.0 (on_class_side c.1) c.2) refl
  where
    by_source : (k : KernelMethodRow) → found_method c.0 (on_class_side c.1) c.2 ≡ Some k → (b : Bool) → bytes_eq row.source k.source ≡ b
        → Leads s (cond b (classified c.0 c.1 c.2 kernel_category row.category) (as_change c.0 c.1 c.2 row ∷ [])) (IsSet c row s)
    by_source k found true same =
        leads_classified c row s known (kernel_method k) (as_kernel ∙ kernel_cell c ∙ ap (option_map kernel_method) found) (sym ((bytes_decides row.source k.source).0 same))
    by_source k found false differs = leads_change c row s known few

    go : (o : Option KernelMethodRow) → found_method c.0 (on_class_side c.1) c.2 ≡ o → Leads s (over_kernels c.0 c.1 c.2 row o) (IsSet c row s)
    go None found = leads_change c row s known few
    go (Some k) found = by_source k found (bytes_eq row.source k.source) refl
