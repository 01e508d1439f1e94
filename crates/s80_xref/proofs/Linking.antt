-- What methods are linked to, by their code and by their trees.
use Rattle.std.proofs.Common.{◌≡◌, true≢false, is_some, append-nil, ◌∙◌, ◌↔◌, ℕ, Bool, true, false, refl, sym, ap, subst, List, [], ◌∷◌, Option, Some, None, option_map, length, map, arith}
use Rattle.std.specs.FinMap as finmap
use Rattle.std.specs.List.{Contains, list_any}
use Rattle.std.specs.Option.{option_map_or}
use Rattle.std.specs.Ordering.{nat_cmp}
use Rattle.std.specs.Cmp.{eq_by_cmp_equiv}
use Rattle.std.specs.Cmp.Lexicographic.{slice_cmp, bytes_decides, nat_list_cmp_total}
use Rattle.std.specs.Str.{bytes_eq}
use Rattle.std.proofs.lemmas.Cmp.{nat_list_eq_equiv}
use Rattle.std.proofs.lemmas.Map.Views.{Contains-from_any, list_any-from_Contains}
use Rattle.s80_base.specs.declared.names.Side.{Side}
use Rattle.s80_code.specs.declared.code.Code.{Code}
use Rattle.s80_code.specs.Entries.{outer}
use Rattle.s80_tree.specs.Tree.{MethodParts}
use Rattle.s80_syntax.specs.Text.{IsMethodOf}
use Rattle.s80_scope.specs.declared.shape.Shape.{Shape}
use Rattle.s80_core.specs.Core.{CoreTree}
use Rattle.s80_core.specs.Elaborate.{elaborated}
use Rattle.s80_core.specs.Measures.{entries}
use Rattle.s80_compile.specs.Compiles.{Compiles}
use Rattle.s80_dict.specs.Dict.{Methods}
use Rattle.s80_dict.specs.Table.{methods_at}
use Rattle.s80_class.specs.Classes.{Name, Classes}
use Rattle.s80_class.specs.Table.{IsNumberOf}
use Rattle.s80_method.specs.Code.{IsMethodCode}
use Rattle.s80_method.specs.Shape.{shape_of}
use Rattle.s80_apply.specs.Codes.{AreCodes, HasCode}
use Rattle.s80_apply.specs.Entries.{Entry, state_row}
use Rattle.s80_apply.specs.State.{MethodRow, State}
use Rattle.s80_apply.specs.System.{IsSystemOf, SystemState}
use Rattle.s80_xref.specs.declared.link.Link.{Link}
use Rattle.s80_xref.specs.declared.link.Link.TheVariants as links
use Rattle.s80_xref.specs.declared.places.MethodPlace.{MethodPlace}
use Rattle.s80_xref.specs.Found.{Finds}
use Rattle.s80_xref.specs.Links.{AreLinked, IsLink, is_linked, linked, places_in}
use Rattle.s80_xref.specs.Named.{messages, outers_in, sent_in}
use Rattle.s80_xref.specs.Places.{AreThose, HasTree, place, places_on}
use Rattle.s80_xref.proofs.Members.{only}
use Rattle.s80_xref.proofs.Those.{Decides, those_passing}

abbrev Text : Type 0
Text = List ℕ

-- ---- texts of a list

pub among : (word : Text) (words : List Text) → list_any (bytes_eq word) words ≡ true → Contains words word
among word words = Contains-from_any (λ x y. (bytes_decides x y).0) word words

pub tells_among : (word : Text) (words : List Text) → Contains words word → list_any (bytes_eq word) words ≡ true
tells_among word words = list_any-from_Contains nat_list_eq_equiv word words

-- ---- code and tree

-- a code has all that its tree has
abbrev pub AgreeAt : (Code → Text → Type 0) → (CoreTree → Text → Type 0) → Type 0
AgreeAt C T = (m : MethodParts) (shape : Shape) (class : Text) (side : Side) (code : Code) → Compiles m shape class side code → (word : Text) → C code word ↔ T (elaborated m shape) word

abbrev IsOneTree : Type 0
IsOneTree = (text : Text) (one other : MethodParts) → IsMethodOf text one → IsMethodOf text other → one ≡ other

pub value_of : {X : Type 0} (x y : X) → Some x ≡ Some y → x ≡ y
value_of x y e = cc

module _ (state : State) (class : Name) (side : Side) (selector : Text) (entry : Entry) (row : finmap.get (state.methods class side) selector ≡ Some (state_row entry))
    (code : IsMethodCode state.classes class side selector entry.source entry.code) (one : IsOneTree) where
  agrees : (C : Code → Text → Type 0) (T : CoreTree → Text → Type 0) → AgreeAt C T → (word : Text) → C entry.code word ↔ HasTree state (λ core. T core word) (place class side selector)
  agrees C T agree word =
      (λ has. (state_row entry, code.tree, row, code.tree_is, (agree code.tree (shape_of state.classes class side) class side entry.code code.compiles word).0 has), back)
    where
      back : HasTree state (λ core. T core word) (place class side selector) → C entry.code word
      back (other, tree, there, is, has) =
          let rows : other ≡ state_row entry = value_of other (state_row entry) (sym there ∙ row) in
          let same : tree ≡ code.tree = one entry.source tree code.tree (subst (λ (r : MethodRow). IsMethodOf r.source tree) rows is) code.tree_is in
          (agree code.tree (shape_of state.classes class side) class side entry.code code.compiles word).1 (subst (λ (t : MethodParts). T (elaborated t (shape_of state.classes class side)) word) same has)

-- ---- the methods of a class

abbrev SendsAll : Type 0
SendsAll = (m : MethodParts) (shape : Shape) (class : Text) (side : Side) (code : Code) → Compiles m shape class side code → sent_in code ≡ messages (elaborated m shape)

abbrev RefersToAll : Type 0
RefersToAll = (m : MethodParts) (shape : Shape) (class : Text) (side : Side) (code : Code) → Compiles m shape class side code
    → (name : Text) → Contains (outers_in code) name ↔ Contains (entries (elaborated m shape)) (outer name)

named_so : (one other : Name) → Some (Some one) ≡ Some (Some other) → one ≡ other
named_so one other e = value_of one other (value_of (Some one) (Some other) e)

module _ (sends : SendsAll) (refers : RefersToAll) (one : IsOneTree) (system : SystemState) (state : State) (number : ℕ) (class : Name) (side : Side)
    (is : IsSystemOf system state) (named : IsNumberOf system.table.names number class) (codes : AreCodes system.table system.methods) where
  row_of : (selector : Text) (entry : Entry) → finmap.get (methods_at system.methods number side) selector ≡ Some entry → finmap.get (state.methods class side) selector ≡ Some (state_row entry)
  row_of selector entry there = sym ((is.methods number class side named).each selector) ∙ ap (option_map state_row) there

  code_of : (selector : Text) (entry : Entry) → finmap.get (methods_at system.methods number side) selector ≡ Some entry → IsMethodCode state.classes class side selector entry.source entry.code
  code_of selector entry there =
      let has = codes number side selector entry there in
      let same : has.class ≡ class = named_so has.class class (sym has.named ∙ named) in
      (subst (λ (cs : Classes). HasCode cs class side selector entry) is.classes (subst (λ (c : Name). HasCode system.table.classes c side selector entry) same has.has_code)).code

  links_of : (link : Link) (word selector : Text) (entry : Entry) → finmap.get (methods_at system.methods number side) selector ≡ Some entry → Contains (linked link selector entry.code) word ↔ IsLink link state word (place class side selector)
  links_of links.Sends word selector entry there =
      agrees state class side selector entry (row_of selector entry there) (code_of selector entry there) one (λ code w. Contains (sent_in code) w) (λ core w. Contains (messages core) w)
      (λ m shape c s code compiles w. (subst (λ l. Contains l w) (sends m shape c s code compiles), subst (λ l. Contains l w) (sym (sends m shape c s code compiles)))) word
  links_of links.Implements word selector entry there = only selector word
  links_of links.RefersTo word selector entry there =
      agrees state class side selector entry (row_of selector entry there) (code_of selector entry there) one (λ code w. Contains (outers_in code) w) (λ core w. Contains (entries core) (outer w)) refers word

  pub are_linked : AreLinked state class side (methods_at system.methods number side)
  are_linked = record { keys = (is.methods number class side named).keys; links = links_of }

-- ---- those that are linked to a word

module _ (state : State) (class : Name) (side : Side) (methods : Methods Entry) (link : Link) (word : Text) (has : AreLinked state class side methods) where
  tells_entry : (selector : Text) (entry : Entry) → finmap.get methods selector ≡ Some entry → (b : Bool) → list_any (bytes_eq word) (linked link selector entry.code) ≡ b → Decides b (IsLink link state word (place class side selector))
  tells_entry selector entry there true is = (has.links link word selector entry there).0 (among word (linked link selector entry.code) is)
  tells_entry selector entry there false is = λ holds. true≢false (sym (tells_among word (linked link selector entry.code) ((has.links link word selector entry there).1 holds)) ∙ is)

  pub tells : (selector : Text) → Contains (finmap.keys methods) selector → Decides (is_linked methods link word selector) (IsLink link state word (place class side selector))
  tells selector in_keys = by_entry (finmap.get methods selector) refl (finmap.contains_key-keys methods selector ∙ list_any-from_Contains (eq_by_cmp_equiv nat_list_cmp_total) selector (finmap.keys methods) in_keys)
    where
      by_entry : (o : Option Entry) → finmap.get methods selector ≡ o → is_some o ≡ true → Decides (option_map_or (λ entry. list_any (bytes_eq word) (linked link selector entry.code)) o false) (IsLink link state word (place class side selector))
      by_entry None there some = absurd (true≢false (sym some))
      by_entry (Some entry) there some = tells_entry selector entry there (list_any (bytes_eq word) (linked link selector entry.code)) refl

  pub those_linked : AreThose (IsLink link state word) (places_on state class side) (places_in methods link word class side)
  those_linked =
      subst (λ ks. AreThose (IsLink link state word) (map (place class side) ks) (places_in methods link word class side)) has.keys
      (those_passing (IsLink link state word) (is_linked methods link word) (place class side) (finmap.keys methods) tells)

-- ---- a class that isn't there has none

none_of_none : (es : List (Text × MethodRow)) → length es ≡ 0 → map (λ (e : Text × MethodRow). e.0) es ≡ []
none_of_none [] none = refl
none_of_none (e ∷ es) none = absurd (omega arith)

pub no_keys : (methods : Methods MethodRow) → methods ≡ finmap.empty → finmap.keys methods ≡ []
no_keys methods none = none_of_none (finmap.entries methods) (sym (finmap.len-entries methods) ∙ ap (λ (m : Methods MethodRow). finmap.len m) none ∙ finmap.len-empty (slice_cmp nat_cmp) MethodRow)

pub those_of_none : (state : State) (class : Name) (side : Side) (P : MethodPlace → Type 0) (found : List MethodPlace) → state.methods class side ≡ finmap.empty → Finds P (places_on state class side) found found
those_of_none state class side P found none =
    ([], sym (append-nil found), subst (λ ks. AreThose P (map (place class side) ks) []) (sym (no_keys (state.methods class side) none)) refl)
