-- What is told, a name at a time.
use Rattle.std.proofs.Common.{◌≡◌, ℕ, ◌+◌, ◌^◌, ◌≤◌, ◌<◌, List, [], ◌∷◌, ◌++◌, Bool, true, false, not, take, length, Option, Some, None, option_map, ap, sym, refl, subst, ◌∙◌, arith, codes, append_assoc}
use Rattle.std.specs.Prelude.{map as list_map, cond, decimal, unwrap_or, SomeIff}
use Rattle.std.specs.List.{slice_get, filter}
use Rattle.std.specs.FinMap as map
use Rattle.std.specs.Ordering.{nat_cmp}
use Rattle.std.specs.Cmp.Lexicographic.{slice_cmp}
use Rattle.std.proofs.lemmas.List.{append-nil, take_more}
use Rattle.std.proofs.lemmas.List.Concat.{flat_map-append}
use Rattle.std.proofs.lemmas.List.Filters.{length-filter_more}
use Rattle.std.proofs.lemmas.Option.{slice_get_within, get_or_from_slice_get}
use Rattle.s80_kernel.specs.Rows.{is_kernel_class}
use Rattle.s80_form.specs.declared.definition.Definition.{Definition}
use Rattle.s80_form.specs.Definition.{definition_text, joined}
use Rattle.s80_class.specs.Classes.{Name, ClassRow}
use Rattle.s80_class.specs.Table.{Table, IsNumberOf, IsEntryOf, row_of}
use Rattle.s80_class.specs.declared.entry.ClassEntry.{ClassEntry}
use Rattle.s80_base.specs.declared.names.Side.{Side}
use Rattle.s80_base.specs.declared.names.Side.TheVariants.{Instance, Class}
use Rattle.s80_dict.specs.Dict.{Methods}
use Rattle.s80_dict.specs.Slots.{DictValue}
use Rattle.s80_dict.specs.Table.{MethodsValue, dict_at, methods_at}
use Rattle.s80_apply.specs.State.{MethodRow, State}
use Rattle.s80_apply.specs.Entries.{AreEntriesOf, Entry, state_row}
use Rattle.s80_apply.specs.System.{HasNumber, IsSystemOf, SystemState}
use Rattle.s80_model.specs.Texts.{browsed, class_text, category_lines, definition_of, is_own, methods_text, own_classes, own_methods, own_methods_in, own_methods_of, names_text, recovered_text, string_line}

take_of_length : {A : Type 0} (xs : List A) → take (length xs) xs ≡ xs
take_of_length [] = refl
take_of_length (x ∷ xs) = ap (λ l. x ∷ l) (take_of_length xs)

pub filter_same : (p q : List ℕ → Bool) → ((x : List ℕ) → p x ≡ q x) → (xs : List (List ℕ)) → filter p xs ≡ filter q xs
filter_same p q same [] = refl
filter_same p q same (x ∷ xs) = (λ i. cond (same x i) (x ∷ filter_same p q same xs i) (filter_same p q same xs i))

empty_list : {A : Type 0} (xs : List A) → length xs ≡ 0 → xs ≡ []
empty_list [] e = refl
empty_list (x ∷ xs) e = absurd (omega arith)

no_keys : map.keys (map.empty {X = MethodRow} {R = slice_cmp nat_cmp}) ≡ []
no_keys = ap (list_map (λ e. e.0)) (empty_list (map.entries (map.empty {X = MethodRow} {R = slice_cmp nat_cmp})) (sym (map.len-entries (map.empty {X = MethodRow} {R = slice_cmp nat_cmp})) ∙ map.len-empty (slice_cmp nat_cmp) MethodRow))

none_in_empty : (name : Name) (side : Side) → own_methods_in name side map.empty ≡ 0
none_in_empty name side = ap (λ keys. length (filter (λ selector. is_own name side selector (map.get (map.empty {X = MethodRow} {R = slice_cmp nat_cmp}) selector)) keys)) no_keys

-- ---- the counted

module _ (is_own : List ℕ → Bool) where
  own_more : (names : List (List ℕ)) (i : ℕ) (name : List ℕ) → slice_get names i ≡ Some name
      → length (filter is_own (take (i + 1) names)) ≡ length (filter is_own (take i names)) + cond (is_own name) 1 0
  own_more names i name e =
      length-filter_more is_own names i [] (slice_get_within names i name e)
      ∙ ap (λ n. length (filter is_own (take i names)) + cond (is_own n) 1 0) (get_or_from_slice_get names i name [] e)

  abbrev pub IsCounted : List (List ℕ) → ℕ → ℕ → Type 0
  IsCounted names i count = (count ≡ length (filter is_own (take i names))) × (count ≤ i)

  counted_more : (names : List (List ℕ)) (i : ℕ) (name : List ℕ) (count next : ℕ) (own : Bool) → IsCounted names i count → slice_get names i ≡ Some name
      → is_own name ≡ own → next ≡ count + cond own 1 0 → next ≤ i + 1 → IsCounted names (i + 1) next
  counted_more names i name count next own counted at is next_is within =
      (next_is ∙ ap (λ n. n + cond own 1 0) counted.0 ∙ sym (own_more names i name at ∙ ap (λ b. length (filter is_own (take i names)) + cond b 1 0) is), within)

  pub one_more : (names : List (List ℕ)) (i : ℕ) (name : List ℕ) (count next : ℕ) → IsCounted names i count → slice_get names i ≡ Some name
      → is_own name ≡ true → next ≡ count + 1 → IsCounted names (i + 1) next
  one_more names i name count next counted at own next_is =
      let within : count ≤ i = counted.1 in
      counted_more names i name count next true counted at own next_is (omega arith)

  pub none_more : (names : List (List ℕ)) (i : ℕ) (name : List ℕ) (count next : ℕ) → IsCounted names i count → slice_get names i ≡ Some name
      → is_own name ≡ false → next ≡ count → IsCounted names (i + 1) next
  none_more names i name count next counted at own next_is =
      let within : count ≤ i = counted.1 in
      counted_more names i name count next false counted at own (omega arith) (omega arith)

-- the classes beside the kernel's
abbrev pub is_own_class : Name → Bool
is_own_class name = not (is_kernel_class name)

-- the methods that aren't the kernel's, by their entries
abbrev pub is_own_in : Name → Side → Methods Entry → List ℕ → Bool
is_own_in name side entries selector = is_own name side selector (option_map state_row (map.get entries selector))

pub own_in_rows : (name : Name) (side : Side) (entries : Methods Entry) (rows : Methods MethodRow) (names : List (List ℕ)) (count : ℕ) → AreEntriesOf entries rows → names ≡ map.keys entries
    → IsCounted (is_own_in name side entries) names (length names) count → count ≡ own_methods_in name side rows
own_in_rows name side entries rows names count are names_is counted =
    counted.0 ∙ ap (λ l. length (filter (is_own_in name side entries) l)) (take_of_length names ∙ names_is ∙ are.keys)
    ∙ ap length (filter_same (is_own_in name side entries) (λ selector. is_own name side selector (map.get rows selector))
    (λ selector. ap (is_own name side selector) (are.each selector)) (map.keys rows))

-- ---- the methods of all classes

pub sum_of : (r : Option ℕ) (s a b : ℕ) → SomeIff r (a + b < 2 ^ 64) (a + b) → r ≡ Some s → s ≡ a + b
sum_of None s a b is e = absurd (cc)
sum_of (Some x) s a b is e = sym (ap (λ r. unwrap_or r 0) e) ∙ is.1

own_methods_more : (state : State) (done : List Name) (name : Name)
    → own_methods_of state (done ++ name ∷ []) ≡ own_methods_of state done + (own_methods_in name Instance (state.methods name Instance) + own_methods_in name Class (state.methods name Class))
own_methods_more state [] name = omega arith
own_methods_more state (first ∷ done) name = let behind = own_methods_more state done name in omega (arith, behind)

pub next_own : (state : State) (names : List Name) (i : ℕ) (name : Name) (count more next : ℕ) → count ≡ own_methods_of state (take i names) → slice_get names i ≡ Some name
    → more ≡ own_methods_in name Instance (state.methods name Instance) + own_methods_in name Class (state.methods name Class) → next ≡ count + more → next ≡ own_methods_of state (take (i + 1) names)
next_own state names i name count more next is at more_is next_is =
    next_is ∙ (λ j. is j + more_is j) ∙ sym (own_methods_more state (take i names) name)
    ∙ ap (own_methods_of state) (sym (take_more names i [] (slice_get_within names i name at) ∙ ap (λ n. take i names ++ n ∷ []) (get_or_from_slice_get names i name [] at)))

pub own_of_all : (state : State) (system : SystemState) (names : List Name) (count : ℕ) → IsSystemOf system state → names ≡ map.keys system.table.classes
    → count ≡ own_methods_of state (take (length names) names) → count ≡ own_methods state
own_of_all state system names count of_state names_is is =
    is ∙ ap (own_methods_of state) (take_of_length names ∙ names_is ∙ ap map.keys of_state.classes)

-- a class that isn't there has no methods
pub none_own : (state : State) (system : SystemState) (name : Name) → IsSystemOf system state → map.get system.table.classes name ≡ None
    → 0 ≡ own_methods_in name Instance (state.methods name Instance) + own_methods_in name Class (state.methods name Class)
none_own state system name of_state none =
    let none_there : map.get state.classes name ≡ None = ap (λ classes. map.get classes name) (sym of_state.classes) ∙ none in
    let instance : own_methods_in name Instance (state.methods name Instance) ≡ 0 = ap (own_methods_in name Instance) (of_state.others name Instance none_there) ∙ none_in_empty name Instance in
    let class : own_methods_in name Class (state.methods name Class) ≡ 0 = ap (own_methods_in name Class) (of_state.others name Class none_there) ∙ none_in_empty name Class in
    omega (arith, instance, class)

-- the entries of a class's dictionary are those of its methods
pub dictionary_is : (state : State) (system : SystemState) (number : ℕ) (name : Name) (side : Side) (methods : MethodsValue Entry) (dict : DictValue Entry)
    → IsSystemOf system state → HasNumber system name number → methods ≡ system.methods → dict ≡ dict_at methods number side
    → AreEntriesOf dict.methods (state.methods name side)
dictionary_is state system number name side methods dict of_state has methods_is dict_is =
    subst (λ d. AreEntriesOf d (state.methods name side)) (sym (ap (λ d. d.methods) dict_is ∙ ap (λ m. methods_at m number side) methods_is))
    (of_state.methods number name side has.named)

pub number_within : (system : SystemState) (number : ℕ) (name : Name) (methods : MethodsValue Entry) → methods ≡ system.methods → HasNumber system name number → number < length methods.sides
number_within system number name methods methods_is has =
    let sides : length methods.sides ≡ length system.methods.sides = ap (λ m. length m.sides) methods_is in
    omega (arith, has.dictionaries, sides)

-- ---- the lines

line_more : (names : List Name) (i : ℕ) (name : Name) → slice_get names i ≡ Some name
    → (names_text (take i names) ++ name) ++ 10 ∷ [] ≡ names_text (take (i + 1) names)
line_more names i name e =
    append_assoc (names_text (take i names)) name (10 ∷ [])
    ∙ ap (λ l. names_text (take i names) ++ l) (sym (append-nil (name ++ 10 ∷ [])))
    ∙ sym (flat_map-append (λ n. n ++ 10 ∷ []) (take i names) (name ∷ []))
    ∙ ap names_text (sym (take_more names i [] (slice_get_within names i name e) ∙ ap (λ n. take i names ++ n ∷ []) (get_or_from_slice_get names i name [] e)))

pub next_line : (names : List Name) (i : ℕ) (name text bytes t u : List ℕ) → text ≡ names_text (take i names) → slice_get names i ≡ Some name → bytes ≡ name
    → t ≡ text ++ bytes → u ≡ t ++ 10 ∷ [] → u ≡ names_text (take (i + 1) names)
next_line names i name text bytes t u text_is at bytes_is t_is u_is =
    u_is ∙ ap (λ l. l ++ 10 ∷ []) (t_is ∙ ap (λ l. l ++ bytes) text_is ∙ ap (λ l. names_text (take i names) ++ l) bytes_is) ∙ line_more names i name at

-- ---- the browsed

-- of a name that no class has nothing is told
pub not_browsed : (state : State) (system : SystemState) (name : Name) → IsSystemOf system state → map.get system.table.classes name ≡ None → None ≡ browsed state name
not_browsed state system name of_state none =
    ap (option_map (λ row. class_text name row ++ methods_text state name)) (sym (ap (λ classes. map.get classes name) (sym of_state.classes) ∙ none))

pub is_browsed : (table : Table) (state : State) (number : ℕ) (name : Name) (entry : ClassEntry) (text t u : List ℕ) → IsNumberOf table.names number name
    → IsEntryOf table number entry → table.classes ≡ state.classes → text ≡ class_text entry.class_name (row_of table.names entry)
    → t ≡ text ++ category_lines [] (state.methods name Instance) → u ≡ t ++ category_lines (codes "class ") (state.methods name Class)
    → Some u ≡ browsed state name
is_browsed table state number name entry text t u is of_entry classes_is text_is t_is u_is =
    let same : entry.class_name ≡ name = ap (λ o. unwrap_or (unwrap_or o (Some [])) []) (sym of_entry.named ∙ is) in
    let row : ClassRow = row_of table.names entry in
    let there : map.get state.classes name ≡ Some row = ap (map.get state.classes) (sym same) ∙ ap (λ classes. map.get classes entry.class_name) (sym classes_is) ∙ of_entry.row in
    let whole : u ≡ class_text name row ++ methods_text state name =
    u_is ∙ ap (λ l. l ++ category_lines (codes "class ") (state.methods name Class)) (t_is ∙ ap (λ l. l ++ category_lines [] (state.methods name Instance)) (text_is ∙ ap (λ n. class_text n row) same))
    ∙ append_assoc (class_text name row) (category_lines [] (state.methods name Instance)) (category_lines (codes "class ") (state.methods name Class)) in
    ap Some whole ∙ ap (option_map (λ row. class_text name row ++ methods_text state name)) (sym there)

pub is_class_text : (name : Name) (row : ClassRow) (d : Definition) (text t u v comment vars : List ℕ) → d ≡ definition_of name row
    → text ≡ definition_text d → t ≡ text ++ 10 ∷ [] → comment ≡ row.comment → u ≡ t ++ string_line (codes "comment: ") comment
    → vars ≡ joined row.class_side_vars → v ≡ u ++ string_line (codes "class instanceVariableNames: ") vars → v ≡ class_text name row
is_class_text name row d text t u v comment vars ed ex et ec eu ev e =
    let first : t ≡ definition_text (definition_of name row) ++ 10 ∷ [] = et ∙ ap (λ l. l ++ 10 ∷ []) (ex ∙ ap definition_text ed) in
    let two : u ≡ (definition_text (definition_of name row) ++ 10 ∷ []) ++ string_line (codes "comment: ") row.comment =
    eu ∙ ap (λ l. l ++ string_line (codes "comment: ") comment) first
    ∙ ap (λ l. (definition_text (definition_of name row) ++ 10 ∷ []) ++ string_line (codes "comment: ") l) ec in
    e ∙ ap (λ l. l ++ string_line (codes "class instanceVariableNames: ") vars) two
    ∙ ap (λ l. ((definition_text (definition_of name row) ++ 10 ∷ []) ++ string_line (codes "comment: ") row.comment) ++ string_line (codes "class instanceVariableNames: ") l) ev
    ∙ append_assoc (definition_text (definition_of name row) ++ 10 ∷ []) (string_line (codes "comment: ") row.comment) (string_line (codes "class instanceVariableNames: ") (joined row.class_side_vars))

-- ---- the whole

abbrev pub recovered_with : ℕ → ℕ → ℕ → List ℕ
recovered_with count classes methods =
    codes "recovered " ++ (decimal count ++ (codes " changes, " ++ (decimal classes ++ (codes " classes, " ++ (decimal methods ++ codes " methods\n")))))

pub is_recovered_text : (count classes methods : ℕ) (state : State) (front text : List ℕ) → classes ≡ own_classes state.classes → methods ≡ own_methods state
    → front ≡ recovered_with count classes methods → text ≡ front → text ≡ recovered_text count state
is_recovered_text count classes methods state front text classes_is methods_is front_is text_is =
    text_is ∙ front_is ∙ (λ i. recovered_with count (classes_is i) (methods_is i))
