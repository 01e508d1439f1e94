-- Sources that are taken one after the other, for the methods of an image.
use Rattle.std.proofs.Common.{◌≡◌, ◌∙◌, ◌+◌, ◌<◌, ◌≤◌, ℕ, suc, zero, true, false, refl, sym, ap, subst, List, [], ◌∷◌, Some, length, drop, map as list_map, slice_get, arith}
use Rattle.s80_class.specs.Classes.{Classes}
use Rattle.s80_apply.specs.System.{SystemState}
use Rattle.s80_image.specs.Classes.{ClassView}
use Rattle.s80_image.specs.Together.{classes_by_name}
use Rattle.s80_snapshot.specs.declared.resumed_methods.ListedMethod.{ListedMethod}
use Rattle.s80_snapshot.specs.Resuming.{AreOrdered, IsOnWay, MayPut, Resumed, Sourced, listed_of, with_sources}
use Rattle.s80_snapshot.specs.Sources.{AreSourcesOf, ImagedMethod, IsResumed, IsSourceOf, imaged_methods}
use Rattle.s80_snapshot.proofs.Ended.{as_many, resumed_so, source_of, sources_so}
use Rattle.s80_snapshot.proofs.OnWay.{may_put, one_further, sourced_at}
use Rattle.s80_snapshot.proofs.PiecesAdded.{count_of, get_of_map}
use Rattle.s80_snapshot.proofs.SameCodes.{HaveOneCode, HaveOneTree}

-- ---- what is left of a list

next_of : (ss : List (List ℕ)) (i : ℕ) (s : List ℕ) (rest : List (List ℕ)) → drop i ss ≡ s ∷ rest → (slice_get ss i ≡ Some s) × (rest ≡ drop (i + 1) ss) × (i < length ss)
next_of [] zero s rest is = absurd (cc)
next_of [] (suc i) s rest is = absurd (cc)
next_of (x ∷ ss) zero s rest is =
    (ap (λ l. slice_get l 0) is, sym (ap tail is), omega arith)
  where
    tail : List (List ℕ) → List (List ℕ)
    tail [] = []
    tail (y ∷ ys) = ys
next_of (x ∷ ss) (suc i) s rest is =
    let r = next_of ss i s rest is in
    let on : suc (i + 1) ≡ suc i + 1 = omega arith in
    (r.0, r.1 ∙ ap (λ n. drop n (x ∷ ss)) on, omega (arith, r.2))

none_of : (ss : List (List ℕ)) (i : ℕ) → drop i ss ≡ [] → length ss ≤ i
none_of [] i none = omega arith
none_of (x ∷ ss) zero none = absurd (cc)
none_of (x ∷ ss) (suc i) none = let r = none_of ss i none in omega (arith, r)

nothing : (xs : List (List ℕ)) → length xs ≡ 0 → xs ≡ []
nothing [] none = refl
nothing (x ∷ xs) none = absurd (omega (arith, none))

-- how many are left behind so many
pub record AreLeft (sources left : List (List ℕ)) (count done : ℕ) : Type 0 where
  pub items : left ≡ drop done sources
  pub counted : count ≡ length left
  pub within : done ≤ length sources

pub all_left : (sources left : List (List ℕ)) (count : ℕ) → left ≡ sources → count ≡ length left → AreLeft sources left count 0
all_left sources left count is counted = record { items = is; counted = counted; within = omega arith }

pub one_taken : (sources left after : List (List ℕ)) (count now done : ℕ) (source : List ℕ) → AreLeft sources left count done → left ≡ source ∷ after → now + 1 ≡ count
    → (slice_get sources done ≡ Some source) × AreLeft sources after now (done + 1)
one_taken sources left after count now done source are is less =
    let r = next_of sources done source after (sym are.items ∙ is) in
    let longer : length left ≡ suc (length after) = ap length is in
    (r.0, record { items = r.1; counted = omega (arith, are.counted, less, longer); within = omega (arith, r.2) })

none_taken : (sources left : List (List ℕ)) (count done : ℕ) → AreLeft sources left count done → count ≡ 0 → length sources ≤ done
none_taken sources left count done are none = none_of sources done (sym are.items ∙ nothing left (sym are.counted ∙ none))

-- ---- the loop

module _ (cs : List ClassView) (ordered : AreOrdered cs) (listed : List ListedMethod) (are : list_map listed_of listed ≡ imaged_methods cs) (sources : List (List ℕ)) where
  abbrev methods : List ImagedMethod
  methods = imaged_methods cs

  abbrev pairs : List Sourced
  pairs = with_sources methods sources

  pub method_here : (i : ℕ) (m : ListedMethod) → slice_get listed i ≡ Some m → slice_get methods i ≡ Some (listed_of m)
  method_here i m at = subst (λ l. slice_get l i ≡ Some (listed_of m)) are (get_of_map listed_of listed i m at)

  pub ready : (i : ℕ) (m : ListedMethod) (system : SystemState) → slice_get listed i ≡ Some m → IsOnWay cs pairs i system → MayPut (listed_of m) system
  ready i m system at on = may_put cs ordered pairs i (listed_of m) system (method_here i m at) on

  counted : length listed ≡ length methods
  counted = sym (count_of listed_of listed) ∙ ap length are

  -- there are more of them, or fewer
  pub not_as_many : (length listed ≡ length sources → ⊥) → AreSourcesOf cs sources → ⊥
  not_as_many differ each = differ (counted ∙ as_many (classes_by_name cs) methods sources each)

  module _ (same : length listed ≡ length sources) where
    paired : length methods ≡ length sources
    paired = sym counted ∙ same

    -- there is a source for each
    pub enough : {P : Type 0} (left : List (List ℕ)) (count i : ℕ) → AreLeft sources left count i → count ≡ 0 → i < length listed → P
    enough left count i are_left none within = let past : length sources ≤ i = none_taken sources left count i are_left none in absurd (omega (arith, past, same, within))

    -- another source
    pub another : (i : ℕ) (m : ListedMethod) (source : List ℕ) (before now : SystemState) → slice_get listed i ≡ Some m → slice_get sources i ≡ Some source → IsOnWay cs pairs i before
        → Resumed (listed_of m) source before now false → AreSourcesOf cs sources → ⊥
    another i m source before now at there on differs each =
        differs (subst (λ (x : Classes). IsSourceOf x (listed_of m) source) (sym (on.is.classes ∙ on.classes_are)) (source_of (classes_by_name cs) methods sources i (listed_of m) source each (method_here i m at) there))

    pub further : (i : ℕ) (m : ListedMethod) (source : List ℕ) (before now : SystemState) → slice_get listed i ≡ Some m → slice_get sources i ≡ Some source → IsOnWay cs pairs i before
        → Resumed (listed_of m) source before now true → IsOnWay cs pairs (i + 1) now
    further i m source before now at there on so =
        one_further cs ordered sources paired i (listed_of m, source) before now (sourced_at methods sources i (listed_of m) source (method_here i m at) there) on so.1 so.0 so.2

    pub ends : HaveOneTree → HaveOneCode → (i : ℕ) (system : SystemState) → length listed ≤ i → IsOnWay cs pairs i system → AreSourcesOf cs sources × IsResumed cs sources system
    ends trees codes i system past on =
        let all : length methods ≤ i = omega (arith, counted, past) in
        (sources_so cs ordered sources paired trees codes system i all on, resumed_so cs ordered sources paired trees codes system i all on)
