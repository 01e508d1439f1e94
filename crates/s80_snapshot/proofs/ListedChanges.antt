-- The changes of a list that was built, each with the place of its block: places rise, and each change names lawful classes and methods.
use Rattle.std.proofs.Common.{◌≡◌, ◌∙◌, ◌<◌, ◌≤◌, ◌+◌, ◌++◌, ℕ, suc, Bool, cond, true, false, refl, sym, ap, subst, List, [], ◌∷◌, length, length-append, Option, Some, None, Result, Ok, Err, is_some, option_map, filter, map as list_map, arith}
use Rattle.std.specs.Prelude.{find, not}
use Rattle.std.specs.List.{All, list_any}
use Rattle.std.specs.FinMap as map
use Rattle.std.proofs.lemmas.List.Elements.{All-head, All-nil, All-push, All-tail}
use Rattle.s80_base.specs.declared.names.Side.{Side}
use Rattle.s80_base.specs.declared.names.Side.TheVariants.{Instance, Class}
use Rattle.s80_chunk.specs.Chunks.{chunk}
use Rattle.s80_form.specs.declared.definition.Definition.{Definition}
use Rattle.s80_form.specs.declared.form.Form.{Form}
use Rattle.s80_form.specs.declared.form.Form.TheVariants.{Define, ClassVars, Comment, RemoveMethod, Classify, RemoveClass, NoChanges}
use Rattle.s80_form.specs.declared.refusal.Refusal.{Refusal}
use Rattle.s80_form.specs.declared.refusal.Refusal.TheVariants.{BadName, Duplicate, UnknownClass}
use Rattle.s80_form.specs.declared.refusal.ManyKind.TheVariants.{ClassSideVariables}
use Rattle.s80_form.specs.Name.{IsBrief, IsSelectorWord, is_class_name, is_name}
use Rattle.s80_change.specs.declared.change.Change.{Change}
use Rattle.s80_change.specs.declared.change.Change.TheVariants as change
use Rattle.s80_change.specs.declared.change.Method.{Method}
use Rattle.s80_change.specs.declared.framing.Framing.{Framing}
use Rattle.s80_change.specs.declared.framing.Framing.TheVariants.{Plain, Section}
use Rattle.s80_change.specs.Block.{IsLawful, block, blocks, framed, framing_of}
use Rattle.s80_change.specs.Check.{IsCheckOf}
use Rattle.s80_class.specs.Classes.{Name, ClassRow, Classes, change_row, extent_of, with_class_side_vars, with_comment}
use Rattle.s80_history.specs.declared.noted.Noted.{Noted}
use Rattle.s80_history.specs.declared.noted.NotedKind.TheVariants as kinds
use Rattle.s80_history.specs.History.{noting, of_method}
use Rattle.s80_history.specs.Lists.{MethodName, Placed, behind_last, is_left_out, is_no_changes, named, not_left_out, placed_from, put_by}
use Rattle.s80_apply.specs.Accept.{above, accept, accept_checked, accept_form, accepted, bad_name, classify, define, first_some, keeping_rows, no_method, no_selector, put_source, refusal_of, refusal_of_class_vars, refusal_of_removal, too_many_methods, unknown_name, kernel_name, has_subclasses, unknown_class, kernel_class, cycle, duplicate, first_again, too_many}
use Rattle.s80_apply.specs.List.{AreAccepted, IsAccepted, classes_of, state_of}
use Rattle.s80_apply.specs.State.{State, StateOf, take_class, take_method}
use Rattle.s80_apply.proofs.lemmas.Lists.{state_more}
use Rattle.s80_image.specs.Format.{text_where}
use Rattle.s80_image.specs.Parts.{is_selector}
use Rattle.s80_image.specs.History.{noted_selector, noted_side}
use Rattle.s80_snapshot.proofs.BriefTrees.{method_brief}
use Rattle.s80_snapshot.proofs.GoodEntries.{IsGoodClass}
use Rattle.s80_snapshot.proofs.LawfulMethods.{selector_is}
use Rattle.s80_snapshot.proofs.PassingFormats.{Passes, text_where_passes}

-- ---- what a change names

pub record IsGoodMethod (name : MethodName) : Type 0 where
  pub class : IsGoodClass name.class_name
  pub selector : is_selector name.selector ≡ true
  pub brief : IsBrief name.selector

-- what is noted of a change, whatever its place
pub record IsFitNoted (n : Noted) : Type 0 where
  pub class : IsGoodClass n.class_name
  pub side : Passes (noted_side n.kind) n.side
  pub selector : Passes (noted_selector n.kind) n.selector

pub record IsFitChange (c : Change) : Type 0 where
  pub noted : (at : ℕ) (n : Noted) → noting at c ≡ Some n → (n.at ≡ at) × IsFitNoted n
  pub put : (name : MethodName) → put_by c ≡ Some name → IsGoodMethod name

-- nothing is put by a form
no_put : {P : Type 0} (name : MethodName) → ◌≡◌ {A = Option MethodName} None (Some name) → P
no_put name bad = absurd (cc)

same_noted : (m n : Noted) (at : ℕ) → Some m ≡ Some n → m.at ≡ at → IsFitNoted m → (n.at ≡ at) × IsFitNoted n
same_noted m n at is here fit = let same : m ≡ n = cc in subst (λ (x : Noted). (x.at ≡ at) × IsFitNoted x) same (here, fit)

-- ---- what was accepted

none_refused : {A : Type 0} (o : Option Refusal) (after : StateOf A) → IsAccepted (accepted o after) → o ≡ None
none_refused None after is = refl
none_refused (Some refusal) after is = absurd is

first_none : (o : Option Refusal) (os : List (Option Refusal)) → first_some (o ∷ os) ≡ None → (o ≡ None) × (first_some os ≡ None)
first_none None os h = (refl, h)
first_none (Some x) os h = absurd (let bad : ◌≡◌ {A = Option Refusal} (Some x) None = h in cc)

known_row : (name : Name) (classes : Classes) → unknown_name name classes ≡ None → (row : ClassRow) × (map.get classes name ≡ Some row)
known_row name classes h = go (map.get classes name) refl h
  where
    go : (o : Option ClassRow) → map.get classes name ≡ o → cond (is_some o) None (Some (UnknownClass name)) ≡ None
        → (row : ClassRow) × (map.get classes name ≡ Some row)
    go (Some row) is _ = (row, is)
    go None is bad = absurd (cc)

named_so : (d : Definition) → bad_name d ≡ None → is_class_name d.class_name ≡ true
named_so d h = go (is_class_name d.class_name) refl h
  where
    go : (b : Bool) → is_class_name d.class_name ≡ b
        → cond b (option_map BadName (find (λ (name : Name). not (is_name name)) (d.inst_vars ++ (d.class_vars ++ d.pools)))) (Some (BadName d.class_name)) ≡ None
        → is_class_name d.class_name ≡ true
    go true is _ = is
    go false is bad = absurd (cc)

on_removed : (s : Side) → Passes (noted_side kinds.RemoveMethod) s
unfolding noted_side
on_removed Instance bytes = refl
on_removed Class bytes = refl

on_classified : (s : Side) → Passes (noted_side kinds.Classify) s
unfolding noted_side
on_classified Instance bytes = refl
on_classified Class bytes = refl

on_put : (s : Side) → Passes (noted_side kinds.Method) s
unfolding noted_side
on_put Instance bytes = refl
on_put Class bytes = refl

-- the classes of each lawful list have lawful names, and its selectors are such
pub record NamesLaws : Type 0 where
  pub class : (cs : List Change) → All IsLawful cs → (name : Name) (row : ClassRow) → map.get (classes_of cs) name ≡ Some row → IsGoodClass name
  pub selectors : (source selector : List ℕ) → IsCheckOf source (Ok selector) → IsSelectorWord selector

module _ (laws : NamesLaws) (done : List Change) (lawful : All IsLawful done) where
  abbrev classes : Classes
  classes = classes_of done

  class_known : (name : Name) → unknown_name name classes ≡ None → IsGoodClass name
  class_known name none = let row = known_row name classes none in laws.class done lawful name row.0 row.1

  selector_passes : (word : Name) → IsSelectorWord word → IsBrief word → Passes (text_where (λ w. is_selector w)) word
  selector_passes word is brief = text_where_passes (λ w. is_selector w) word brief (selector_is word is)

  form_fit : (form : Form) → IsLawful (change.Form form) → IsAccepted (accept_form keeping_rows form (state_of done)) → IsFitChange (change.Form form)
  unfolding noted_side
  form_fit (Define d) law is =
      let none = none_refused (refusal_of d classes) (record (state_of done) { classes = define d classes }) is in
      let first = first_none (bad_name d) (unknown_class d classes ∷ kernel_class d ∷ cycle d classes ∷ duplicate d ∷ too_many d classes ∷ []) none in
      record {
        noted = λ at n same. same_noted _ n at same refl (record { class = record { named = named_so d first.0; brief = law.brief.class_name }; side = λ bytes. refl; selector = λ bytes. refl });
        put = λ name bad. no_put name bad;
      }
  form_fit (ClassVars name names) law is =
      let none = none_refused (refusal_of_class_vars name names classes) (record (state_of done) { classes = change_row (with_class_side_vars names) name classes }) is in
      let bad = option_map BadName (find (λ (word : Name). not (is_name word)) names) in
      let again = option_map Duplicate (first_again [] names) in
      let many = above 64 ClassSideVariables (extent_of (change_row (with_class_side_vars names) name classes) name).class_side_vars in
      let rest = first_none bad (unknown_name name classes ∷ kernel_name name ∷ again ∷ many ∷ []) none in
      let known = first_none (unknown_name name classes) (kernel_name name ∷ again ∷ many ∷ []) rest.1 in
      record {
        noted = λ at n same. same_noted _ n at same refl (record { class = class_known name known.0; side = λ bytes. refl; selector = λ bytes. refl });
        put = λ name bad. no_put name bad;
      }
  form_fit (Comment name text) law is =
      let none = none_refused (unknown_name name classes) (record (state_of done) { classes = change_row (with_comment text) name classes }) is in
      record {
        noted = λ at n same. same_noted _ n at same refl (record { class = class_known name none; side = λ bytes. refl; selector = λ bytes. refl });
        put = λ name bad. no_put name bad;
      }
  form_fit (RemoveMethod name side selector) law is =
      let none = none_refused (no_method name side selector (state_of done)) (take_method name side selector (state_of done)) is in
      let known = first_none (unknown_name name classes) (no_selector name side selector (state_of done) ∷ []) none in
      record {
        noted = λ at n same. same_noted _ n at same refl (record { class = class_known name known.0; side = on_removed side; selector = selector_passes selector law.names.1 law.brief.1 });
        put = λ name bad. no_put name bad;
      }
  form_fit (Classify name side selector category) law is =
      let none = none_refused (no_method name side selector (state_of done)) (classify keeping_rows name side selector category (state_of done)) is in
      let known = first_none (unknown_name name classes) (no_selector name side selector (state_of done) ∷ []) none in
      record {
        noted = λ at n same. same_noted _ n at same refl (record { class = class_known name known.0; side = on_classified side; selector = selector_passes selector law.names.1 law.brief.1 });
        put = λ name bad. no_put name bad;
      }
  form_fit (RemoveClass name) law is =
      let none = none_refused (refusal_of_removal name classes) (take_class name (state_of done)) is in
      let known = first_none (unknown_name name classes) (kernel_name name ∷ has_subclasses name classes ∷ []) none in
      record {
        noted = λ at n same. same_noted _ n at same refl (record { class = class_known name known.0; side = λ bytes. refl; selector = λ bytes. refl });
        put = λ name bad. no_put name bad;
      }
  form_fit NoChanges law is = record { noted = λ at n bad. absurd (let no : None ≡ Some n = bad in cc); put = λ name bad. no_put name bad }

  checked_fit : (m : Method) (check : Result (List ℕ) Refusal) → m.source.selector ≡ check → IsLawful (change.Method m)
      → IsAccepted (accept_checked keeping_rows m check (state_of done)) → IsFitChange (change.Method m)
  checked_fit m (Err refusal) so law is = absurd is
  checked_fit m (Ok selector) so law is =
      let none = none_refused (first_some (unknown_name m.class_name classes ∷ too_many_methods m selector (state_of done) ∷ [])) (put_source keeping_rows m selector (state_of done)) is in
      let known = class_known m.class_name (first_none (unknown_name m.class_name classes) (too_many_methods m selector (state_of done) ∷ []) none).0 in
      let check : IsCheckOf m.source.text (Ok selector) = subst (IsCheckOf m.source.text) so law.check in
      let word = laws.selectors m.source.text selector check in
      let brief : IsBrief selector = subst IsBrief (sym check.3) (method_brief m.source.text check.0 law.short check.1).selector in
      let here : MethodName = record { class_name = m.class_name; side = m.side; selector = selector } in
      record {
        noted = λ at n same.
            same_noted (of_method kinds.Method here at) n at (sym (ap (λ (r : Result (List ℕ) Refusal). option_map (λ (name : MethodName). of_method kinds.Method name at) (named m r)) so) ∙ same) refl
            (record { class = known; side = on_put m.side; selector = selector_passes selector word brief });
        put = λ name same.
            let is_here : here ≡ name = (let both : Some here ≡ Some name = sym (ap (named m) so) ∙ same in cc) in
            subst IsGoodMethod is_here (record { class = known; selector = selector_is selector word; brief = brief });
      }

  change_fit : (c : Change) → IsLawful c → IsAccepted (accept c (state_of done)) → IsFitChange c
  change_fit (change.Form form) law is = form_fit form law is
  change_fit (change.Method m) law is = checked_fit m m.source.selector refl law is
  change_fit (change.DoIt text) law is = record { noted = λ at n bad. absurd (let no : None ≡ Some n = bad in cc); put = λ name bad. no_put name bad }

-- ---- places

some_block : (c : Change) → 1 ≤ length (block c)
some_block c = go (framing_of c)
  where
    go : (f : Framing) → 1 ≤ length (framed f)
    go (Plain text) = omega (arith, length-append (chunk text) (10 ∷ []))
    go (Section head source) = omega arith

-- places from this one on, each above the one before and below the end, and changes that fit
abbrev pub AreListed : ℕ → ℕ → List Placed → Type 0
AreListed end from [] = Unit {0}
AreListed end from (p ∷ ps) = (from ≤ p.0) × (p.0 < end) × IsFitChange p.1 × AreListed end (suc p.0) ps

pub listed_lower : (end from lower : ℕ) (ps : List Placed) → lower ≤ from → AreListed end from ps → AreListed end lower ps
listed_lower end from lower [] le all = tt
listed_lower end from lower (p ∷ ps) le all = (omega (arith, le, all.0), all.1, all.2, all.3)

module _ (laws : NamesLaws) where
  listed_from : (done cs : List Change) (at : ℕ) → All IsLawful done → All IsLawful cs → AreAccepted (state_of done) cs
      → AreListed (at + length (blocks cs)) at (placed_from at cs)
  listed_from done [] at lawful more accepted_all = tt
  listed_from done (c ∷ cs) at lawful more accepted_all =
      let law = All-head IsLawful c cs more in
      let some = some_block c in
      let rest = listed_from (done ++ c ∷ []) cs (at + length (block c)) (All-push IsLawful done c lawful law) (All-tail IsLawful c cs more)
      (subst (λ (s : State). AreAccepted s cs) (sym (state_more done c)) accepted_all.1) in
      let end : at + length (block c) + length (blocks cs) ≡ at + length (blocks (c ∷ cs)) = omega (arith, length-append (block c) (blocks cs)) in (
        omega arith,
        omega (arith, some, length-append (block c) (blocks cs)),
        change_fit laws done lawful c law accepted_all.0,
        listed_lower (at + length (blocks (c ∷ cs))) (at + length (block c)) (suc at) (placed_from (at + length (block c)) cs) (omega (arith, some))
            (subst (λ n. AreListed n (at + length (block c)) (placed_from (at + length (block c)) cs)) end rest),
      )

  pub all_listed : (cs : List Change) → All IsLawful cs → AreAccepted (state_of []) cs → AreListed (length (blocks cs)) 0 (placed_from 0 cs)
  all_listed cs lawful built = subst (λ n. AreListed n 0 (placed_from 0 cs)) (omega arith) (listed_from [] cs 0 (All-nil IsLawful) lawful built)

-- ---- parts of a list of changes

pub filter_listed : (test : Placed → Bool) (end from : ℕ) (ps : List Placed) → AreListed end from ps → AreListed end from (filter test ps)
filter_listed test end from [] all = tt
filter_listed test end from (p ∷ ps) all = go (test p) (filter_listed test end (suc p.0) ps all.3)
  where
    go : (b : Bool) → AreListed end (suc p.0) (filter test ps) → AreListed end from (cond b (p ∷ filter test ps) (filter test ps))
    go true rest = (all.0, all.1, all.2, rest)
    go false rest = listed_lower end (suc p.0) from (filter test ps) (omega (arith, all.0)) rest

left_listed : (end from : ℕ) (ps : List Placed) → AreListed end from ps → AreListed end from (not_left_out ps)
left_listed end from [] all = tt
left_listed end from (p ∷ ps) all = go (is_left_out p.1 (list_map (λ (q : Placed). q.1) ps)) (left_listed end (suc p.0) ps all.3)
  where
    go : (b : Bool) → AreListed end (suc p.0) (not_left_out ps) → AreListed end from (cond b (not_left_out ps) (p ∷ not_left_out ps))
    go true rest = listed_lower end (suc p.0) from (not_left_out ps) (omega (arith, all.0)) rest
    go false rest = (all.0, all.1, all.2, rest)

behind_listed : (passes : Change → Bool) (end from : ℕ) (ps : List Placed) → AreListed end from ps → AreListed end from (behind_last passes ps)
behind_listed passes end from [] all = tt
behind_listed passes end from (p ∷ ps) all = go (list_any (λ (q : Placed). passes q.1) ps) (passes p.1) (behind_listed passes end (suc p.0) ps all.3)
  where
    go : (a b : Bool) → AreListed end (suc p.0) (behind_last passes ps) → AreListed end from (cond a (behind_last passes ps) (cond b ps (p ∷ ps)))
    go true b rest = listed_lower end (suc p.0) from (behind_last passes ps) (omega (arith, all.0)) rest
    go false true rest = listed_lower end (suc p.0) from ps (omega (arith, all.0)) all.3
    go false false rest = all

pub set_listed : (end : ℕ) (ps : List Placed) → AreListed end 0 ps → AreListed end 0 (not_left_out (behind_last is_no_changes ps))
set_listed end ps all = left_listed end 0 (behind_last is_no_changes ps) (behind_listed is_no_changes end 0 ps all)

count_listed : (end from : ℕ) (ps : List Placed) → AreListed end from ps → from ≤ end → length ps + from ≤ end
count_listed end from [] all le = omega (arith, le)
count_listed end from (p ∷ ps) all le = omega (arith, count_listed end (suc p.0) ps all.3 (omega (arith, all.1)), all.0)

placed_length : (at : ℕ) (cs : List Change) → length (placed_from at cs) ≡ length cs
placed_length at [] = refl
placed_length at (c ∷ cs) = ap suc (placed_length (at + length (block c)) cs)

-- no list has more changes than its log has bytes
pub few_changes : (cs : List Change) → AreListed (length (blocks cs)) 0 (placed_from 0 cs) → length cs ≤ length (blocks cs)
few_changes cs all = omega (arith, count_listed (length (blocks cs)) 0 (placed_from 0 cs) all (omega arith), placed_length 0 cs)
