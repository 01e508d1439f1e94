-- The classes with one row changed.
use Rattle.std.proofs.Common.{◌≡◌, ◌≢◌, ◌∙◌, true, false, cond, refl, sym, ap, subst, Option, Some, None, unwrap_or}
use Rattle.std.specs.Option.{option_map}
use Rattle.std.specs.Str.{bytes_eq}
use Rattle.std.specs.Cmp.Lexicographic.{bytes_decides}
use Rattle.std.specs.FinMap as map
use Rattle.s80_class.specs.Classes.{Name, ClassRow, Classes, change_row}
use Rattle.s80_class.proofs.Keys.{keys-insert_old}
use Rattle.s80_class.proofs.lemmas.Lines.{get-inserted, get-here, get-elsewhere}
use Rattle.s80_class.proofs.lemmas.Alike.{AreAlike, alike_itself}

module _ (change : ClassRow → ClassRow) (name : Name) (classes : Classes) where
  changed_by : (o : Option ClassRow) → map.get classes name ≡ o → change_row change name classes ≡ unwrap_or (option_map (λ row. map.insert classes name (change row)) o) classes
  changed_by o is = ap (λ p. unwrap_or (option_map (λ row. map.insert classes name (change row)) p) classes) is

  -- a class that is there, and one that isn't
  pub changed_there : (row : ClassRow) → map.get classes name ≡ Some row → change_row change name classes ≡ map.insert classes name (change row)
  changed_there row is = changed_by (Some row) is

  pub changed_absent : map.get classes name ≡ None → change_row change name classes ≡ classes
  changed_absent none = changed_by None none

  -- its row, and those of the others
  pub changed_here : (row : ClassRow) → map.get classes name ≡ Some row → map.get (change_row change name classes) name ≡ Some (change row)
  changed_here row is = ap (λ (m : Classes). map.get m name) (changed_there row is) ∙ get-here classes name (change row)

  pub changed_elsewhere : (q : Name) → q ≢ name → map.get (change_row change name classes) q ≡ map.get classes q
  changed_elsewhere q ne = go (map.get classes name) refl
    where
      go : (o : Option ClassRow) → map.get classes name ≡ o → map.get (change_row change name classes) q ≡ map.get classes q
      go None none = ap (λ (m : Classes). map.get m q) (changed_absent none)
      go (Some row) is = ap (λ (m : Classes). map.get m q) (changed_there row is) ∙ get-elsewhere classes name (change row) q ne

  -- the change leaves so much of each row
  pub changed_alike : {V : Type 0} (view : ClassRow → V) → ((row : ClassRow) → view (change row) ≡ view row) → AreAlike view classes (change_row change name classes)
  changed_alike view leaves = go (map.get classes name) refl
    where
      rows : (row : ClassRow) → map.get classes name ≡ Some row → (q : Name) → option_map view (map.get (map.insert classes name (change row)) q) ≡ option_map view (map.get classes q)
      rows row is q =
          ap (option_map view) (get-inserted classes name (change row) q)
          ∙ elim (bytes_eq q name) as (λ b. bytes_eq q name ≡ b → option_map view (cond b (Some (change row)) (map.get classes q)) ≡ option_map view (map.get classes q)) [
            | true ↦ λ same. ap Some (leaves row) ∙ sym (ap (option_map view) (ap (map.get classes) ((bytes_decides q name).0 same) ∙ is))
            | false ↦ λ _. refl
          ] refl

      go : (o : Option ClassRow) → map.get classes name ≡ o → AreAlike view classes (change_row change name classes)
      go None none = subst (AreAlike view classes) (sym (changed_absent none)) (alike_itself view classes)
      go (Some row) is = subst (AreAlike view classes) (sym (changed_there row is)) (record { keys = keys-insert_old classes name (change row) row is; rows = rows row is })

  pub changed_keys : map.keys (change_row change name classes) ≡ map.keys classes
  changed_keys = (changed_alike (λ _. tt {0}) (λ row. refl)).keys
