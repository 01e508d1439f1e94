-- The methods of one side of a class are lawful in an image.
use Rattle.std.proofs.Common.{◌≡◌, inl, inr, ◌<◌, ◌≤◌, ◌^◌, ◌&&◌, ◌||◌, Bool, true, false, nat_le, refl, ap, length, Option, Some, arith}
use Rattle.std.specs.Option.{is_some}
use Rattle.std.specs.FinMap as map
use Rattle.std.proofs.lemmas.List.{length-map}
use Rattle.s80_dict.specs.Dict.{Methods}
use Rattle.s80_form.specs.Name.{IsBrief, IsSelectorWord}
use Rattle.s80_lex.specs.Selector.{is_name as is_unary, is_binary, keywords_of}
use Rattle.s80_lex.proofs.lemmas.SelectorLemmas.{is_binary_when, is_name_when, keywords_when}
use Rattle.s80_image.specs.Format.{pair, text, text_where, word64}
use Rattle.s80_image.specs.Methods.{MethodView, code, method, method_behind, method_heading, method_limit, methods}
use Rattle.s80_image.specs.Parts.{is_above, is_selector, source}
use Rattle.s80_snapshot.specs.Pictured.{CodedRow, method_view, methods_view}
use Rattle.s80_snapshot.proofs.lemmas.NamedMaps.{Text, each_holds}
use Rattle.s80_snapshot.proofs.LawfulEntries.{source_passes}
use Rattle.s80_snapshot.proofs.PassingFormats.{Passes, both_true, list_passes, pair_passes, text_passes, text_where_passes, within, word64_passes}
use Rattle.s80_snapshot.proofs.PassingLists.{sorted_pass}

-- ---- selectors

or_first : (a b c : Bool) → a ≡ true → ((a || b) || c) ≡ true
or_first true b c is = refl
or_first false b c is = absurd (cc)

or_second : (a b c : Bool) → b ≡ true → ((a || b) || c) ≡ true
or_second true b c is = refl
or_second false true c is = refl
or_second false false c is = absurd (cc)

or_third : (a b c : Bool) → c ≡ true → ((a || b) || c) ≡ true
or_third true b c is = refl
or_third false true c is = refl
or_third false false c is = is

pub selector_is : (word : Text) → IsSelectorWord word → is_selector word ≡ true
selector_is word (n, inl is) = or_first (is_unary word) (is_binary word) (is_some (keywords_of word)) (is_name_when word is.0)
selector_is word (n, inr (inl is)) = or_second (is_unary word) (is_binary word) (is_some (keywords_of word)) (is_binary_when word is.0)
selector_is word (n, inr (inr is)) = or_third (is_unary word) (is_binary word) (is_some (keywords_of word)) (ap is_some (keywords_when n word is))

-- ---- a method

pub record IsFitMethod (selector : Text) (m : CodedRow) : Type 0 where
  pub word : IsSelectorWord selector
  pub brief : IsBrief selector
  pub category : IsBrief m.row.category
  pub position : m.row.position < 2 ^ 64
  pub length : m.row.length < 2 ^ 64
  pub code : Passes code m.code

heading_passes : (last : Option Text) (selector : Text) (m : CodedRow) → IsFitMethod selector m → is_above last selector ≡ true
    → Passes (method_heading last) (method_view (selector, m)).heading
unfolding method_heading
heading_passes last selector m fit above =
    pair_passes (text_where (λ word. is_selector word && is_above last word)) (λ _. pair text (λ _. pair source (λ _. pair word64 (λ _. word64))))
    (selector, (m.row.category, (m.row.from_kernel, (m.row.position, m.row.length))))
    (text_where_passes (λ word. is_selector word && is_above last word) selector fit.brief (both_true (is_selector selector) (is_above last selector) (selector_is selector fit.word) above))
    (pair_passes text (λ _. pair source (λ _. pair word64 (λ _. word64))) (m.row.category, (m.row.from_kernel, (m.row.position, m.row.length))) (text_passes m.row.category fit.category)
    (pair_passes source (λ _. pair word64 (λ _. word64)) (m.row.from_kernel, (m.row.position, m.row.length)) (source_passes m.row.from_kernel)
    (pair_passes word64 (λ _. word64) (m.row.position, m.row.length) (word64_passes m.row.position fit.position) (word64_passes m.row.length fit.length))))

method_passes : (last : Option Text) (selector : Text) (m : CodedRow) → IsFitMethod selector m → is_above last selector ≡ true
    → Passes (method last) (method_view (selector, m))
unfolding method
method_passes last selector m fit above =
    pair_passes (method_heading last) (λ _. code) ((method_view (selector, m)).heading, m.code) (heading_passes last selector m fit above) fit.code

-- ---- methods

pub methods_pass : (ms : Methods CodedRow) → map.len ms ≤ 16384 → ((selector : Text) (m : CodedRow) → map.get ms selector ≡ Some m → IsFitMethod selector m)
    → Passes methods (methods_view ms)
unfolding methods
methods_pass ms few each =
    let size : length (methods_view ms) ≤ 16384 = omega (arith, few, map.len-entries ms, length-map (map.entries ms) method_view) in
    list_passes (λ n. nat_le n method_limit) method_behind (methods_view ms) (omega (arith, size)) (within (length (methods_view ms)) 16384 size)
    (sorted_pass method_view (λ (m : MethodView). m.heading.selector) (λ e. refl) method (map.entries ms) (map.entries_sorted ms)
    (each_holds (λ selector m. (last : Option Text) → is_above last selector ≡ true → Passes (method last) (method_view (selector, m))) ms (λ selector m is last above. method_passes last selector m (each selector m is) above)))
