-- Where codes agree with their methods, a method is found on both sides or on none, and its code is that of its trees.
use Rattle.std.proofs.Common.{◌≡◌, ap, subst, refl, ℕ, List, [], ◌∷◌, Option, Some, None, option_map}
use Rattle.std.specs.FinMap as map_of
use Rattle.s80_base.specs.declared.names.Side.{Side}
use Rattle.s80_class.specs.Table.{Table, class_name}
use Rattle.s80_code.specs.declared.code.Code.{Code}
use Rattle.s80_code.proofs.lemmas.TableLemmas.{value}
use Rattle.s80_dict.specs.Table.{MethodsValue, methods_at}
use Rattle.s80_dict.specs.declared.dict.MethodEntry.{MethodEntry}
use Rattle.s80_class.specs.Lookup.{Place, first_found, found_or}
use Rattle.s80_machine.specs.Step.{code_for}
use Rattle.s80_machine.specs.World.{Key, doit, method}
use Rattle.s80_meaning.specs.Agreement.{Agree, AreOne, IsCodeFor}
use Rattle.s80_meaning.specs.Meaning.{Methods, first_meant, meant_for}
use Rattle.s80_meaning.specs.Tree.{Meant}
use Rattle.s80_meaning.proofs.Corresponds.{AreFound, Setting}

module _ (t : Table) (methods : Methods) (meant : Meant) (codes : MethodsValue (MethodEntry Code)) (code : Code) (budget : ℕ) where
  -- with these places for the real blocks of each method
  abbrev pub setting : (Key → ℕ → ℕ) → Setting
  setting starts = record { table = t; methods = methods; meant = meant; codes = codes; code = code; budget = budget; starts = starts }

  module _ (starts : Key → ℕ → ℕ) (agree : Agree t methods codes) where
    pub found_alike : (selector : List ℕ) (places : List Place) → AreFound (setting starts) selector (first_meant methods selector places) (first_found codes selector places)
    found_alike selector [] = tt
    found_alike selector (place ∷ places) =
        here (methods place.0 place.1 selector) (map_of.get (methods_at codes place.0 place.1) selector) refl refl (agree place.0 place.1 selector) (found_alike selector places)
      where
        here : (m : Option Meant) (e : Option (MethodEntry Code)) → methods place.0 place.1 selector ≡ m → map_of.get (methods_at codes place.0 place.1) selector ≡ e
            → AreOne (class_name t place.0) place.1 m e → AreFound (setting starts) selector (first_meant methods selector places) (first_found codes selector places)
            → AreFound (setting starts) selector (found_or place m (first_meant methods selector places)) (found_or place e (first_found codes selector places))
        here None None m e one rest = rest
        here (Some x) (Some y) m e one rest = (refl, m, ap (option_map (λ e. e.code)) e)
        here None (Some y) m e one rest = absurd one
        here (Some x) None m e one rest = absurd one

  module _ (class : List ℕ) (side : Side) (agree : Agree t methods codes) (is : IsCodeFor class side meant code) where
    pub code_there : (key : Key) (m : Meant) → meant_for methods meant key ≡ Some m → (of : Code) × (code_for codes code key ≡ Some of)
    code_there doit m e = (code, refl)
    code_there (method c s selector) m e = here (methods c s selector) (map_of.get (methods_at codes c s) selector) (agree c s selector) e
      where
        here : (p : Option Meant) (q : Option (MethodEntry Code)) → AreOne (class_name t c) s p q → p ≡ Some m → (of : Code) × (option_map (λ e. e.code) q ≡ Some of)
        here None q one e = cc
        here (Some x) (Some y) one e = (y.code, refl)
        here (Some x) None one e = absurd one

    pub codes_agree : (key : Key) (m : Meant) (of : Code) → meant_for methods meant key ≡ Some m → code_for codes code key ≡ Some of → (class : List ℕ) × (side : Side) × IsCodeFor class side m of
    codes_agree doit m of means codes_is = (class, side, subst (λ (m : Meant). IsCodeFor class side m of) (value means) (subst (λ (of : Code). IsCodeFor class side meant of) (value codes_is) is))
    codes_agree (method c s selector) m of means codes_is = here (methods c s selector) (map_of.get (methods_at codes c s) selector) (agree c s selector) means codes_is
      where
        here : (p : Option Meant) (q : Option (MethodEntry Code)) → AreOne (class_name t c) s p q → p ≡ Some m → option_map (λ e. e.code) q ≡ Some of
            → (class : List ℕ) × (side : Side) × IsCodeFor class side m of
        here None q one means codes_is = cc
        here (Some x) None one means codes_is = absurd one
        here (Some x) (Some y) one means codes_is =
            (class_name t c, s, subst (λ (m : Meant). IsCodeFor (class_name t c) s m of) (value means) (subst (λ (of : Code). IsCodeFor (class_name t c) s x of) (value codes_is) one))
