-- What a table shows at each place, after a class was added and after one dictionary changed.
use Rattle.std.proofs.Common.{◌≡◌, ◌∙◌, ◌<◌, ◌++◌, ◌&&◌, Bool, true, false, cond, refl, sym, ap, subst, List, [], ◌∷◌, ℕ, zero, suc, get_or, set, length, nat_eq}
use Rattle.std.specs.FinMap as map
use Rattle.std.proofs.lemmas.List.{get_or_default, get_or-set_same, get_or-set_other}
use Rattle.std.proofs.lemmas.Bool.{eqb-true, eqb-false}
use Rattle.s80_base.specs.declared.names.Side.{Side}
use Rattle.s80_base.specs.declared.names.Side.TheVariants.{Instance, Class}
use Rattle.s80_dict.specs.Dict.{Bytes}
use Rattle.s80_dict.specs.Slots.{DictValue}
use Rattle.s80_dict.specs.Table.{SidesValue, MethodsValue, same_side, no_dict, no_sides, on_side, with_side, dict_at, methods_at, is_place, put_at, taken_at, cleared_at, put_in, taken_in}

module _ {X : Type 0} where
  pub one_added : (sides : List (SidesValue X)) (n : ℕ) → get_or (sides ++ no_sides ∷ []) n no_sides ≡ get_or sides n no_sides
  one_added [] zero = refl
  one_added [] (suc n) = refl
  one_added (x ∷ sides) zero = refl
  one_added (x ∷ sides) (suc n) = one_added sides n

  on_changed : (f : DictValue X → DictValue X) (sides : SidesValue X) (side s : Side)
      → on_side (with_side sides side (f (on_side sides side))) s ≡ cond (same_side s side) (f (on_side sides s)) (on_side sides s)
  on_changed f sides Instance Instance = refl
  on_changed f sides Instance Class = refl
  on_changed f sides Class Instance = refl
  on_changed f sides Class Class = refl

  changed : (DictValue X → DictValue X) → Side → SidesValue X → SidesValue X
  changed f side sides = with_side sides side (f (on_side sides side))

  -- the list `sides`, where the class of that number has its side changed
  at_change : (f : DictValue X → DictValue X) (sides : List (SidesValue X)) (number : ℕ) (side : Side) → number < length sides → (n : ℕ) (s : Side)
      → on_side (get_or (set sides number (changed f side (get_or sides number no_sides))) n no_sides) s
      ≡ cond (is_place number side n s) (f (on_side (get_or sides n no_sides) s)) (on_side (get_or sides n no_sides) s)
  unfolding changed
  at_change f sides number side h n s =
      let there = get_or sides number no_sides in
      let new = changed f side there in
      elim (nat_eq n number) as (λ b. nat_eq n number ≡ b → on_side (get_or (set sides number new) n no_sides) s
      ≡ cond (b && same_side s side) (f (on_side (get_or sides n no_sides) s)) (on_side (get_or sides n no_sides) s)) [
        | true ↦ λ e. subst (λ m. on_side (get_or (set sides number new) m no_sides) s ≡ cond (same_side s side) (f (on_side (get_or sides m no_sides) s)) (on_side (get_or sides m no_sides) s))
            (sym (eqb-true n number e)) (ap (λ x. on_side x s) (get_or-set_same sides number new no_sides h) ∙ on_changed f there side s)
        | false ↦ λ e. ap (λ x. on_side x s) (get_or-set_other sides number n new no_sides (eqb-false n number e))
      ] refl

  put_shown : (b : Bool) (d : DictValue X) (k : Bytes) (x : X) → (cond b (put_in d k x) d).methods ≡ cond b (map.insert d.methods k x) d.methods
  put_shown true d k x = refl
  put_shown false d k x = refl

  taken_shown : (b : Bool) (d : DictValue X) (k : Bytes) → (cond b (taken_in d k) d).methods ≡ cond b (map.remove d.methods k) d.methods
  taken_shown true d k = refl
  taken_shown false d k = refl

  no_side : (s : Side) → on_side {X = X} no_sides s ≡ no_dict
  no_side Instance = refl
  no_side Class = refl

  -- the list `sides`, where the class of that number is emptied
  at_clear : (sides : List (SidesValue X)) (number : ℕ) → number < length sides → (n : ℕ) (s : Side)
      → on_side (get_or (set sides number no_sides) n no_sides) s ≡ cond (nat_eq n number) no_dict (on_side (get_or sides n no_sides) s)
  at_clear sides number h n s =
      elim (nat_eq n number) as (λ b. nat_eq n number ≡ b → on_side (get_or (set sides number no_sides) n no_sides) s
      ≡ cond b no_dict (on_side (get_or sides n no_sides) s)) [
        | true ↦ λ e. subst (λ m. on_side (get_or (set sides number no_sides) m no_sides) s ≡ no_dict)
            (sym (eqb-true n number e)) (ap (λ x. on_side x s) (get_or-set_same sides number no_sides no_sides h) ∙ no_side s)
        | false ↦ λ e. ap (λ x. on_side x s) (get_or-set_other sides number n no_sides no_sides (eqb-false n number e))
      ] refl

  module _ (sides : List (SidesValue X)) (spare : ℕ) (now : MethodsValue X) (is : record { sides = sides; spare = spare } ≡ now) (number : ℕ) (side : Side)
      (old new : SidesValue X) (h : number < length now.sides) (there : old ≡ get_or sides number old) where
    within : number < length sides
    within = subst (λ t. number < length t.sides) (sym is) h

    shown : (f : DictValue X → DictValue X) → new ≡ changed f side old → (n : ℕ) (s : Side)
        → on_side (get_or (set sides number new) n no_sides) s ≡ cond (is_place number side n s) (f (on_side (get_or sides n no_sides) s)) (on_side (get_or sides n no_sides) s)
    shown f e n s =
        ap (λ x. on_side (get_or (set sides number x) n no_sides) s) (e ∙ ap (changed f side) (there ∙ get_or_default sides number old no_sides within))
        ∙ at_change f sides number side within n s

    pub methods_put : (k : Bytes) (x : X) → new ≡ with_side old side (put_in (on_side old side) k x) → (n : ℕ) (s : Side)
        → (on_side (get_or (set sides number new) n no_sides) s).methods ≡ put_at (methods_at now) number side k x n s
    unfolding changed
    methods_put k x e n s =
        ap (λ (d : DictValue X). d.methods) (shown (λ d. put_in d k x) e n s) ∙ put_shown (is_place number side n s) (on_side (get_or sides n no_sides) s) k x
        ∙ ap (λ t. put_at (methods_at t) number side k x n s) is

    pub methods_taken : (k : Bytes) → new ≡ with_side old side (taken_in (on_side old side) k) → (n : ℕ) (s : Side)
        → (on_side (get_or (set sides number new) n no_sides) s).methods ≡ taken_at (methods_at now) number side k n s
    unfolding changed
    methods_taken k e n s =
        ap (λ (d : DictValue X). d.methods) (shown (λ d. taken_in d k) e n s) ∙ taken_shown (is_place number side n s) (on_side (get_or sides n no_sides) s) k
        ∙ ap (λ t. taken_at (methods_at t) number side k n s) is

    pub dicts_cleared : new ≡ no_sides → (n : ℕ) (s : Side) → on_side (get_or (set sides number new) n no_sides) s ≡ cleared_at (dict_at now) number n s
    dicts_cleared e n s =
        ap (λ x. on_side (get_or (set sides number x) n no_sides) s) e ∙ at_clear sides number within n s
        ∙ ap (λ t. cleared_at (dict_at t) number n s) is
