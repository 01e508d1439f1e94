-- The sources of an image's methods, read one after the other.
use Rattle.std.proofs.Common.{◌≡◌, ◌<◌, ◌+◌, ℕ, List, [], ◌∷◌, ◌++◌, length, take, drop, get_or, Result, Ok, Err, sym, ap, ◌∙◌, subst, append_assoc, append-nil}
use Rattle.std.proofs.lemmas.Grind.{flat_map-append}
use Rattle.std.proofs.lemmas.List.{drop_more, map-append, take-append-drop, take_more}
use Rattle.s80_apply.specs.Source.{StandsAt}
use Rattle.s80_image.specs.declared.image.ImageClass.{ImageClass}
use Rattle.s80_image.specs.declared.image.ImageMethod.{ImageMethod}
use Rattle.s80_image.specs.Classes.{class_of, classes_of}
use Rattle.s80_image.specs.Methods.{MethodView, method_of, methods_of}
use Rattle.s80_keeper.specs.declared.start.Damage.TheVariants.{NoMark, BadMark, LogShort, ImageShort, BadImage, BadBlock, Replay, CountDiffers}
use Rattle.s80_keeper.specs.declared.start.StartFault.{StartFault}
use Rattle.s80_keeper.specs.declared.start.StartFault.TheVariants as faults
use Rattle.s80_keeper.specs.ImageReading.{AddsSources, AreSources, HasAdded, HoldSources, IsSourceAt, methods_in, methods_of_class, row_at}
use Rattle.s80_keeper.proofs.HeldSources.{hold_both, hold_first, hold_last}

-- ---- those that were added

pub added_both : (log : List ℕ) (ms ns : List MethodView) (before mid now : List (List ℕ)) → HasAdded log ms before mid → HasAdded log ns mid now → HasAdded log (ms ++ ns) before now
added_both log ms ns before mid now one two =
    (one.0 ++ two.0, two.1 ∙ ap (λ l. l ++ two.0) one.1 ∙ append_assoc before one.0 two.0, hold_both log ms ns one.0 two.0 one.2 two.2)

added_one : (log : List ℕ) (m : MethodView) (before now : List (List ℕ)) (source : List ℕ) → StandsAt log (row_at m source) → now ≡ before ++ source ∷ [] → HasAdded log (m ∷ []) before now
added_one log m before now source stands is = (source ∷ [], is, (stands, tt))

-- one method more
pub added_more : (log : List ℕ) (ms : List ImageMethod) (i : ℕ) (m : ImageMethod) (before mid now : List (List ℕ)) (source : List ℕ) → i < length ms → m ≡ get_or ms i m → HasAdded log (methods_of (take i ms)) before mid
    → StandsAt log (row_at (method_of m) source) → now ≡ mid ++ source ∷ [] → HasAdded log (methods_of (take (i + 1) ms)) before now
added_more log ms i m before mid now source within here so_far stands is =
    let next : methods_of (take (i + 1) ms) ≡ methods_of (take i ms) ++ method_of m ∷ [] = ap methods_of (take_more ms i m within) ∙ map-append method_of (take i ms) (get_or ms i m ∷ []) ∙ ap (λ x. methods_of (take i ms) ++ method_of x ∷ []) (sym here) in
    subst (λ vs. HasAdded log vs before now) (sym next) (added_both log (methods_of (take i ms)) (method_of m ∷ []) before mid now so_far (added_one log (method_of m) mid now source stands is))

-- one class more
pub added_class : (log : List ℕ) (cs : List ImageClass) (i : ℕ) (c : ImageClass) (before mid now : List (List ℕ)) → i < length cs → c ≡ get_or cs i c → HasAdded log (methods_in (classes_of (take i cs))) before mid
    → HasAdded log (methods_of_class (class_of c)) mid now → HasAdded log (methods_in (classes_of (take (i + 1) cs))) before now
added_class log cs i c before mid now within here so_far added =
    let next : classes_of (take (i + 1) cs) ≡ classes_of (take i cs) ++ class_of c ∷ [] = ap classes_of (take_more cs i c within) ∙ map-append class_of (take i cs) (get_or cs i c ∷ []) ∙ ap (λ x. classes_of (take i cs) ++ class_of x ∷ []) (sym here) in
    let parts : methods_in (classes_of (take (i + 1) cs)) ≡ methods_in (classes_of (take i cs)) ++ methods_of_class (class_of c) =
    ap methods_in next ∙ flat_map-append methods_of_class (classes_of (take i cs)) (class_of c ∷ []) ∙ ap (λ l. methods_in (classes_of (take i cs)) ++ l) (append-nil (methods_of_class (class_of c))) in
    subst (λ vs. HasAdded log vs before now) (sym parts) (added_both log (methods_in (classes_of (take i cs))) (methods_of_class (class_of c)) before mid now so_far added)

-- ---- where one isn't there

-- a member of a list, and what stands before it and behind
parts_at : {X : Type 0} (xs : List X) (i : ℕ) (x : X) → i < length xs → x ≡ get_or xs i x → xs ≡ take i xs ++ (x ∷ drop (i + 1) xs)
parts_at xs i x within here = sym (take-append-drop i xs) ∙ ap (λ l. take i xs ++ l) (drop_more xs i x within ∙ ap (λ y. y ∷ drop (i + 1) xs) (sym here))

none_held : (log : List ℕ) (before behind : List MethodView) (m : MethodView) → ((source : List ℕ) → StandsAt log (row_at m source) → ⊥) → (ss : List (List ℕ)) → HoldSources log (before ++ m ∷ behind) ss → ⊥
none_held log before behind m none ss all = by_first (hold_last log before (m ∷ behind) ss all)
  where
    by_first : (ts : List (List ℕ)) × HoldSources log (m ∷ behind) ts → ⊥
    by_first ([], none_left) = none_left
    by_first (t ∷ ts, held) = none t held.0

members_split : (ms : List ImageMethod) (i : ℕ) (m : ImageMethod) → i < length ms → m ≡ get_or ms i m → methods_of ms ≡ methods_of (take i ms) ++ (method_of m ∷ methods_of (drop (i + 1) ms))
members_split ms i m within here = ap methods_of (parts_at ms i m within here) ∙ map-append method_of (take i ms) (m ∷ drop (i + 1) ms)

classes_split : (cs : List ImageClass) (i : ℕ) (c : ImageClass) → i < length cs → c ≡ get_or cs i c → methods_in (classes_of cs) ≡ methods_in (classes_of (take i cs)) ++ (methods_of_class (class_of c) ++ methods_in (classes_of (drop (i + 1) cs)))
classes_split cs i c within here =
    ap (λ l. methods_in (classes_of l)) (parts_at cs i c within here) ∙ ap methods_in (map-append class_of (take i cs) (c ∷ drop (i + 1) cs)) ∙ flat_map-append methods_of_class (classes_of (take i cs)) (class_of c ∷ classes_of (drop (i + 1) cs))

-- ---- failures

module _ (log : List ℕ) (size : ℕ) (before now : List (List ℕ)) where
  pub source_fails : (ms : List ImageMethod) (i : ℕ) (m : ImageMethod) → i < length ms → m ≡ get_or ms i m → (fault : StartFault) → IsSourceAt log (method_of m) size (Err fault) → AddsSources {T = Unit {0}} log (methods_of ms) size before now (Err fault)
  source_fails ms i m within here faults.Memory is = tt
  source_fails ms i m within here (faults.Disk failed) is = tt
  source_fails ms i m within here (faults.Damaged (NoMark count)) is = absurd is
  source_fails ms i m within here (faults.Damaged (BadMark value)) is = absurd is
  source_fails ms i m within here (faults.Damaged (LogShort marked found)) is = absurd is
  source_fails ms i m within here (faults.Damaged (ImageShort marked found)) is = absurd is
  source_fails ms i m within here (faults.Damaged (BadBlock place)) is = absurd is
  source_fails ms i m within here (faults.Damaged (Replay place number)) is = absurd is
  source_fails ms i m within here (faults.Damaged (CountDiffers marked found)) is = absurd is
  source_fails ms i m within here (faults.Damaged (BadImage place)) is = (is.0, λ ss held. none_held log (methods_of (take i ms)) (methods_of (drop (i + 1) ms)) (method_of m) is.1 ss (subst (λ vs. HoldSources log vs ss) (members_split ms i m within here) held))

  pub first_fails : (ms ns : List MethodView) (fault : StartFault) → AddsSources {T = Unit {0}} log ms size before now (Err fault) → AddsSources {T = Unit {0}} log (ms ++ ns) size before now (Err fault)
  first_fails ms ns faults.Memory is = tt
  first_fails ms ns (faults.Disk failed) is = tt
  first_fails ms ns (faults.Damaged (NoMark count)) is = absurd is
  first_fails ms ns (faults.Damaged (BadMark value)) is = absurd is
  first_fails ms ns (faults.Damaged (LogShort marked found)) is = absurd is
  first_fails ms ns (faults.Damaged (ImageShort marked found)) is = absurd is
  first_fails ms ns (faults.Damaged (BadBlock place)) is = absurd is
  first_fails ms ns (faults.Damaged (Replay place number)) is = absurd is
  first_fails ms ns (faults.Damaged (CountDiffers marked found)) is = absurd is
  first_fails ms ns (faults.Damaged (BadImage place)) is = (is.0, λ ss held. let first = hold_first log ms ns ss held in is.1 first.0 first.1)

  last_fails : (ms ns : List MethodView) (mid : List (List ℕ)) (fault : StartFault) → AddsSources {T = Unit {0}} log ns size mid now (Err fault) → AddsSources {T = Unit {0}} log (ms ++ ns) size before now (Err fault)
  last_fails ms ns mid faults.Memory is = tt
  last_fails ms ns mid (faults.Disk failed) is = tt
  last_fails ms ns mid (faults.Damaged (NoMark count)) is = absurd is
  last_fails ms ns mid (faults.Damaged (BadMark value)) is = absurd is
  last_fails ms ns mid (faults.Damaged (LogShort marked found)) is = absurd is
  last_fails ms ns mid (faults.Damaged (ImageShort marked found)) is = absurd is
  last_fails ms ns mid (faults.Damaged (BadBlock place)) is = absurd is
  last_fails ms ns mid (faults.Damaged (Replay place number)) is = absurd is
  last_fails ms ns mid (faults.Damaged (CountDiffers marked found)) is = absurd is
  last_fails ms ns mid (faults.Damaged (BadImage place)) is = (is.0, λ ss held. let last = hold_last log ms ns ss held in is.1 last.0 last.1)

  pub then_added : (ms ns : List MethodView) (mid : List (List ℕ)) (result : Result (Unit {0}) StartFault) → HasAdded log ms before mid → AddsSources log ns size mid now result → AddsSources log (ms ++ ns) size before now result
  then_added ms ns mid (Ok done) one two = added_both log ms ns before mid now one two
  then_added ms ns mid (Err fault) one two = last_fails ms ns mid fault two

module _ {A : Type 0} (log : List ℕ) (size : ℕ) (view : A → List (List ℕ)) where
  pub class_fails : (cs : List ImageClass) (i : ℕ) (c : ImageClass) (mid now : List (List ℕ)) → i < length cs → c ≡ get_or cs i c → (fault : StartFault) → AddsSources {T = Unit {0}} log (methods_of_class (class_of c)) size mid now (Err fault) → AreSources log (methods_in (classes_of cs)) size view (Err fault)
  class_fails cs i c mid now within here faults.Memory is = tt
  class_fails cs i c mid now within here (faults.Disk failed) is = tt
  class_fails cs i c mid now within here (faults.Damaged (NoMark count)) is = absurd is
  class_fails cs i c mid now within here (faults.Damaged (BadMark value)) is = absurd is
  class_fails cs i c mid now within here (faults.Damaged (LogShort marked found)) is = absurd is
  class_fails cs i c mid now within here (faults.Damaged (ImageShort marked found)) is = absurd is
  class_fails cs i c mid now within here (faults.Damaged (BadBlock place)) is = absurd is
  class_fails cs i c mid now within here (faults.Damaged (Replay place number)) is = absurd is
  class_fails cs i c mid now within here (faults.Damaged (CountDiffers marked found)) is = absurd is
  class_fails cs i c mid now within here (faults.Damaged (BadImage place)) is = (
    is.0,
    λ ss held.
        let whole = subst (λ vs. HoldSources log vs ss) (classes_split cs i c within here) held in
        let last = hold_last log (methods_in (classes_of (take i cs))) (methods_of_class (class_of c) ++ methods_in (classes_of (drop (i + 1) cs))) ss whole in
        let first = hold_first log (methods_of_class (class_of c)) (methods_in (classes_of (drop (i + 1) cs))) last.0 last.1 in
        is.1 first.0 first.1,
  )
