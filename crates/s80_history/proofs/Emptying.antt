-- Gaps: what one topic leaves out after another, and with one member more.
use Rattle.std.proofs.Common.{◌≡◌, ◌∙◌, ℕ, Bool, true, false, not, ◌&&◌, ◌||◌, if◌then◌else◌, List, [], ◌∷◌, ◌++◌, length, Option, Some, None, refl, sym, ap, subst, true≢false}
use Rattle.std.specs.List.{list_any}
use Rattle.std.specs.Option.{option_map_or}
use Rattle.s80_history.specs.declared.noted.Noted.{Noted}
use Rattle.s80_history.specs.declared.noted.NotedKind.{NotedKind}
use Rattle.s80_history.specs.declared.noted.NotedKind.TheVariants as kinds
use Rattle.s80_history.specs.Members.{filled}
use Rattle.s80_history.specs.Sound.{emptied, is_ended, is_in, left_out, without}
use Rattle.s80_history.specs.Topics.{Topic, CommentOf, MethodOf, ends, ends_by, is_new_by, is_on, is_on_by, name_of, topic_by, topic_of}
use Rattle.s80_history.proofs.Same.{name_same, never_both, same_name, same_text, text_same}
use Rattle.s80_history.proofs.Showing.{left_by}

abbrev Gaps : Type 0
Gaps = List (Option Noted)

-- ---- topics

topic_by_on : (kind : NotedKind) (u : Topic) (m : Noted) → is_on_by kind u m ≡ true → topic_by kind m ≡ Some u
topic_by_on kinds.Define u m e = absurd (true≢false (sym e))
topic_by_on kinds.ClassVars u m e = absurd (true≢false (sym e))
topic_by_on kinds.Comment (CommentOf class) m e = ap (λ c. Some (CommentOf c)) (sym (text_same class m.class_name e))
topic_by_on kinds.Comment (MethodOf name) m e = absurd (true≢false (sym e))
topic_by_on kinds.Method (CommentOf class) m e = absurd (true≢false (sym e))
topic_by_on kinds.Method (MethodOf name) m e = ap (λ n. Some (MethodOf n)) (sym (name_same name (name_of m) e))
topic_by_on kinds.RemoveMethod u m e = absurd (true≢false (sym e))
topic_by_on kinds.Classify (CommentOf class) m e = absurd (true≢false (sym e))
topic_by_on kinds.Classify (MethodOf name) m e = ap (λ n. Some (MethodOf n)) (sym (name_same name (name_of m) e))
topic_by_on kinds.RemoveClass u m e = absurd (true≢false (sym e))

-- the only topic that it has
pub topic_on : (u : Topic) (m : Noted) → is_on u m ≡ true → topic_of m ≡ Some u
topic_on u m e = topic_by_on m.kind u m e

pub one_topic : (u v : Topic) (m : Noted) → is_on u m ≡ true → is_on v m ≡ true → u ≡ v
one_topic u v m e f = let both : Some u ≡ Some v = sym (topic_on u m e) ∙ topic_on v m f in cc

on_topic_by : (kind : NotedKind) (u : Topic) (m : Noted) → topic_by kind m ≡ Some u → is_on_by kind u m ≡ true
on_topic_by kinds.Define u m e = absurd cc
on_topic_by kinds.ClassVars u m e = absurd cc
on_topic_by kinds.Comment u m e = let is : CommentOf m.class_name ≡ u = cc in subst (λ v. is_on_by kinds.Comment v m ≡ true) is (same_text m.class_name)
on_topic_by kinds.Method u m e = let is : MethodOf (name_of m) ≡ u = cc in subst (λ v. is_on_by kinds.Method v m ≡ true) is (same_name (name_of m))
on_topic_by kinds.RemoveMethod u m e = absurd cc
on_topic_by kinds.Classify u m e = let is : MethodOf (name_of m) ≡ u = cc in subst (λ v. is_on_by kinds.Classify v m ≡ true) is (same_name (name_of m))
on_topic_by kinds.RemoveClass u m e = absurd cc

pub on_topic : (u : Topic) (m : Noted) → topic_of m ≡ Some u → is_on u m ≡ true
on_topic u m e = on_topic_by m.kind u m e

new_topic_by : (kind : NotedKind) (m : Noted) → is_new_by kind ≡ true → (u : Topic) × (topic_by kind m ≡ Some u)
new_topic_by kinds.Define m e = absurd (true≢false (sym e))
new_topic_by kinds.ClassVars m e = absurd (true≢false (sym e))
new_topic_by kinds.Comment m e = (CommentOf m.class_name, refl)
new_topic_by kinds.Method m e = (MethodOf (name_of m), refl)
new_topic_by kinds.RemoveMethod m e = absurd (true≢false (sym e))
new_topic_by kinds.Classify m e = absurd (true≢false (sym e))
new_topic_by kinds.RemoveClass m e = absurd (true≢false (sym e))

pub new_topic : (m : Noted) → is_new_by m.kind ≡ true → (u : Topic) × (topic_of m ≡ Some u)
new_topic m e = new_topic_by m.kind m e

no_end_by : (kind : NotedKind) (u v : Topic) (m : Noted) → is_on_by kind v m ≡ true → ends_by kind u m ≡ false
no_end_by kinds.Define u v m e = refl
no_end_by kinds.ClassVars u v m e = refl
no_end_by kinds.Comment u v m e = refl
no_end_by kinds.Method u v m e = refl
no_end_by kinds.RemoveMethod u v m e = absurd (true≢false (sym e))
no_end_by kinds.Classify u v m e = refl
no_end_by kinds.RemoveClass u v m e = absurd (true≢false (sym e))

-- what has a topic removes nothing
pub no_end : (u v : Topic) (m : Noted) → is_on v m ≡ true → ends u m ≡ false
no_end u v m e = no_end_by m.kind u v m e

-- ---- what is held

ended_filled : (u : Topic) (xs : Gaps) → is_ended u xs ≡ list_any (ends u) (filled xs)
ended_filled u [] = refl
ended_filled u (None ∷ xs) = ended_filled u xs
ended_filled u (Some m ∷ xs) = ap (λ b. ends u m || b) (ended_filled u xs)

pub filled_emptied : (u : Topic) (xs : Gaps) → filled (emptied u xs) ≡ left_by u (filled xs)
filled_emptied u [] = refl
filled_emptied u (None ∷ xs) = filled_emptied u xs
filled_emptied u (Some m ∷ xs) =
    go (is_on u m && not (is_ended u xs)) (filled_emptied u xs)
    ∙ ap (λ b. if is_on u m && not b then left_by u (filled xs) else m ∷ left_by u (filled xs)) (ended_filled u xs)
  where
    go : (b : Bool) → filled (emptied u xs) ≡ left_by u (filled xs) → filled ((if b then None else Some m) ∷ emptied u xs) ≡ (if b then left_by u (filled xs) else m ∷ left_by u (filled xs))
    go true rest = rest
    go false rest = ap (λ ms. m ∷ ms) rest

-- ---- one topic after another

pub one_of : {X : Type 0} → Option X → Option X → Option X
one_of None y = None
one_of (Some x) y = y

-- what both hold
pub both : {X : Type 0} → List (Option X) → List (Option X) → List (Option X)
both [] ys = []
both (x ∷ xs) [] = []
both (x ∷ xs) (y ∷ ys) = one_of x y ∷ both xs ys

pub both_same : {X : Type 0} (xs : List (Option X)) → both xs xs ≡ xs
unfolding both one_of
both_same [] = refl
both_same (None ∷ xs) = ap (λ ys. None ∷ ys) (both_same xs)
both_same (Some x ∷ xs) = ap (λ ys. Some x ∷ ys) (both_same xs)

ended_same : (u v : Topic) (xs : Gaps) → is_ended u (emptied v xs) ≡ is_ended u xs
ended_same u v [] = refl
ended_same u v (None ∷ xs) = ended_same u v xs
ended_same u v (Some m ∷ xs) = go (is_on v m && not (is_ended v xs)) refl (ended_same u v xs)
  where
    go : (b : Bool) → (is_on v m && not (is_ended v xs)) ≡ b → is_ended u (emptied v xs) ≡ is_ended u xs
        → is_ended u ((if b then None else Some m) ∷ emptied v xs) ≡ (ends u m || is_ended u xs)
    go true is rest =
        let on : is_on v m ≡ true = first (is_on v m) (not (is_ended v xs)) is in
        rest ∙ ap (λ b. b || is_ended u xs) (sym (no_end u v m on))
      where
        first : (a b : Bool) → (a && b) ≡ true → a ≡ true
        first true b e = refl
        first false b e = e
    go false is rest = ap (λ b. ends u m || b) rest

pub emptied_twice : (u v : Topic) (xs : Gaps) → emptied u (emptied v xs) ≡ both (emptied v xs) (emptied u xs)
unfolding both one_of
emptied_twice u v [] = refl
emptied_twice u v (None ∷ xs) = ap (λ ys. None ∷ ys) (emptied_twice u v xs)
emptied_twice u v (Some m ∷ xs) = λ i. go (is_on v m && not (is_ended v xs)) (ended_same u v xs) i ∷ emptied_twice u v xs i
  where
    go : (b : Bool) → is_ended u (emptied v xs) ≡ is_ended u xs
        → left_out u (if b then None else Some m) (emptied v xs) ≡ one_of (if b then None else Some m) (left_out u (Some m) xs)
    go true same = refl
    go false same = ap (λ b. if is_on u m && not b then None else Some m) same

pub without_twice : (a b : Option ℕ) (groups : List ℕ) (xs : Gaps) → without a groups (without b groups xs) ≡ both (without b groups xs) (without a groups xs)
unfolding both one_of
without_twice a b [] xs = sym (both_same xs)
without_twice a b (group ∷ groups) [] = refl
without_twice a b (group ∷ groups) (x ∷ xs) = λ i. go (is_in a group) (is_in b group) x i ∷ without_twice a b groups xs i
  where
    go : (p q : Bool) (x : Option Noted) → (if p then None else (if q then None else x)) ≡ one_of (if q then None else x) (if p then None else x)
    go true true x = refl
    go false true x = refl
    go true false None = refl
    go false false None = refl
    go true false (Some x) = refl
    go false false (Some x) = refl

pub without_none : (groups : List ℕ) (xs : Gaps) → without None groups xs ≡ xs
without_none [] xs = refl
without_none (group ∷ groups) [] = refl
without_none (group ∷ groups) (x ∷ xs) = ap (λ ys. x ∷ ys) (without_none groups xs)

-- ---- one member more

ended_more : (u : Topic) (xs : Gaps) (m : Noted) → is_ended u (xs ++ Some m ∷ []) ≡ (is_ended u xs || ends u m)
ended_more u [] m = last (ends u m)
  where
    last : (b : Bool) → (b || false) ≡ (false || b)
    last true = refl
    last false = refl
ended_more u (x ∷ xs) m = ap (λ b. option_map_or (ends u) x false || b) (ended_more u xs m) ∙ grouped (option_map_or (ends u) x false) (is_ended u xs) (ends u m)
  where
    grouped : (a b c : Bool) → (a || (b || c)) ≡ ((a || b) || c)
    grouped true b c = refl
    grouped false b c = refl

-- a removal lets all stay that stood before it
pub emptied_by_end : (u : Topic) (xs : Gaps) (m : Noted) → ends u m ≡ true → emptied u (xs ++ Some m ∷ []) ≡ xs ++ left_out u (Some m) [] ∷ []
emptied_by_end u [] m e = refl
emptied_by_end u (None ∷ xs) m e = ap (λ ys. None ∷ ys) (emptied_by_end u xs m e)
emptied_by_end u (Some x ∷ xs) m e = λ i. here i ∷ emptied_by_end u xs m e i
  where
    end : (b : Bool) → (b || true) ≡ true
    end true = refl
    end false = refl

    here : left_out u (Some x) (xs ++ Some m ∷ []) ≡ Some x
    here =
        ap (λ b. if is_on u x && not b then None else Some x) (ended_more u xs m ∙ ap (λ b. is_ended u xs || b) e ∙ end (is_ended u xs))
        ∙ ap (λ b. if b then None else Some x) (never_both (is_on u x))

pub emptied_more : (u : Topic) (xs : Gaps) (m : Noted) → ends u m ≡ false → emptied u (xs ++ Some m ∷ []) ≡ emptied u xs ++ left_out u (Some m) [] ∷ []
emptied_more u [] m e = refl
emptied_more u (None ∷ xs) m e = ap (λ ys. None ∷ ys) (emptied_more u xs m e)
emptied_more u (Some x ∷ xs) m e = λ i. here i ∷ emptied_more u xs m e i
  where
    no_more : (b : Bool) → (b || false) ≡ b
    no_more true = refl
    no_more false = refl

    here : left_out u (Some x) (xs ++ Some m ∷ []) ≡ left_out u (Some x) xs
    here = ap (λ b. if is_on u x && not b then None else Some x) (ended_more u xs m ∙ ap (λ b. is_ended u xs || b) e ∙ no_more (is_ended u xs))

pub without_more : (one : Option ℕ) (groups : List ℕ) (xs : Gaps) (group : ℕ) (x : Option Noted) → length groups ≡ length xs
    → without one (groups ++ group ∷ []) (xs ++ x ∷ []) ≡ without one groups xs ++ (if is_in one group then None else x) ∷ []
without_more one [] [] group x e = refl
without_more one [] (y ∷ xs) group x e = absurd cc
without_more one (g ∷ groups) [] group x e = absurd cc
without_more one (g ∷ groups) (y ∷ xs) group x e =
    let rest : length groups ≡ length xs = cc in
    ap (λ ys. (if is_in one g then None else y) ∷ ys) (without_more one groups xs group x rest)
