-- The base of a list that is read change by change.
use Rattle.std.proofs.Common.{◌≡◌, ◌∙◌, ◌++◌, ◌||◌, Bool, cond, true, false, not, refl, sym, ap, List, [], ◌∷◌, append_assoc, append-nil}
use Rattle.std.specs.Prelude.{filter}
use Rattle.std.specs.List.{list_any}
use Rattle.std.proofs.lemmas.List.Elements.{filter-append}
use Rattle.std.proofs.lemmas.List.Folds.{list_any-append}
use Rattle.s80_change.specs.declared.change.Change.{Change}
use Rattle.s80_change.specs.declared.change.Change.TheVariants.{DoIt, Form, Method}
use Rattle.s80_history.specs.Lists.{is_no_changes}
use Rattle.s80_joining.specs.declared.base.Base.{Base}
use Rattle.s80_joining.specs.Base.{IsBaseOf}
use Rattle.s80_joining.specs.Parts.{base_of, is_doit, up_to_last}

abbrev pub without_doits : List Change → List Change
without_doits list = filter (λ change. not (is_doit change)) list

-- ---- one change more

any_more : (passes : Change → Bool) (list : List Change) (change : Change) (b : Bool) → passes change ≡ b → list_any passes (list ++ change ∷ []) ≡ (list_any passes list || (b || false))
any_more passes list change b is = list_any-append passes list (change ∷ []) ∙ ap (λ (t : Bool). list_any passes list || (t || false)) is

or_false : (b : Bool) → (b || (false || false)) ≡ b
or_false true = refl
or_false false = refl

or_true : (b c : Bool) → (b || (c || (true || false))) ≡ true
or_true true c = refl
or_true false true = refl
or_true false false = refl

-- one that doesn't pass stands behind the last that does
last_stays : (passes : Change → Bool) (list : List Change) (change : Change) → passes change ≡ false → up_to_last passes (list ++ change ∷ []) ≡ up_to_last passes list
last_stays passes [] change is = ap (λ (b : Bool). cond (b || false) (change ∷ []) []) is
last_stays passes (first ∷ list) change is =
    ap (λ (b : Bool). cond (passes first || b) (first ∷ up_to_last passes (list ++ change ∷ [])) []) (any_more passes list change false is ∙ or_false (list_any passes list))
    ∙ ap (λ cs. cond (passes first || list_any passes list) (first ∷ cs) []) (last_stays passes list change is)

-- one that passes is the last
last_is : (passes : Change → Bool) (list : List Change) (change : Change) → passes change ≡ true → up_to_last passes (list ++ change ∷ []) ≡ list ++ change ∷ []
last_is passes [] change is = ap (λ (b : Bool). cond (b || false) (change ∷ []) []) is
last_is passes (first ∷ list) change is =
    ap (λ (b : Bool). cond (passes first || b) (first ∷ up_to_last passes (list ++ change ∷ [])) []) (any_more passes list change true is)
    ∙ ap (λ (b : Bool). cond b (first ∷ up_to_last passes (list ++ change ∷ [])) []) (or_true (passes first) (list_any passes list))
    ∙ ap (λ cs. first ∷ cs) (last_is passes list change is)

-- a doIt begins no set
doit_begins_none : (change : Change) → is_doit change ≡ true → is_no_changes change ≡ false
doit_begins_none (DoIt text) is = refl
doit_begins_none (Form form) is = absurd (cc)
doit_begins_none (Method m) is = absurd (cc)

without_more : (list : List Change) (change : Change) (b : Bool) → is_doit change ≡ b → without_doits (list ++ change ∷ []) ≡ without_doits list ++ cond (not b) (change ∷ []) []
without_more list change b is = filter-append (λ c. not (is_doit c)) list (change ∷ []) ∙ ap (λ (t : Bool). without_doits list ++ cond (not t) (change ∷ []) []) is

base_stays : (list : List Change) (change : Change) → is_no_changes change ≡ false → base_of (list ++ change ∷ []) ≡ base_of list
base_stays list change is = ap without_doits (last_stays is_no_changes list change is)

-- ---- the object that reads them

pub none_read : (base : Base) → base.base ≡ [] → base.since ≡ [] → IsBaseOf base []
none_read base first since = record { base_is = first; all = ap (λ cs. cs ++ base.since) first ∙ since }

pub doit_read : (base : Base) (changes : List Change) (change : Change) → true ≡ is_doit change → IsBaseOf base changes → IsBaseOf base (changes ++ change ∷ [])
doit_read base changes change is at = record {
  base_is = at.base_is ∙ sym (base_stays changes change (doit_begins_none change (sym is)));
  all = at.all ∙ sym (without_more changes change true (sym is) ∙ append-nil (without_doits changes));
}

module _ (base now : Base) (changes : List Change) (change : Change) (is : is_doit change ≡ false) (at : IsBaseOf base changes) where
  all_more : (base.base ++ (base.since ++ change ∷ [])) ≡ without_doits (changes ++ change ∷ [])
  all_more = sym (append_assoc base.base base.since (change ∷ [])) ∙ ap (λ cs. cs ++ change ∷ []) at.all ∙ sym (without_more changes change false is)

  -- it waits
  pub change_waits : is_no_changes change ≡ false → now.base ≡ base.base → now.since ≡ base.since ++ change ∷ [] → IsBaseOf now (changes ++ change ∷ [])
  change_waits none first since = record {
    base_is = first ∙ at.base_is ∙ sym (base_stays changes change none);
    all = (λ i. first i ++ since i) ∙ all_more;
  }

  -- it begins a set, and all that waited is the base's
  pub change_begins : is_no_changes change ≡ true → now.base ≡ base.base ++ (base.since ++ change ∷ []) → now.since ≡ [] → IsBaseOf now (changes ++ change ∷ [])
  change_begins begins first since = record {
    base_is = first ∙ all_more ∙ ap without_doits (sym (last_is is_no_changes changes change begins));
    all = (λ i. first i ++ since i) ∙ append-nil (base.base ++ (base.since ++ change ∷ [])) ∙ all_more;
  }
