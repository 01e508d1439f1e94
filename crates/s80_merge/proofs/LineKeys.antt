-- The keys of a class and of each of its superclasses, as a walk up gathers them.
use Rattle.std.proofs.Common.{◌≡◌, ◌∙◌, ◌++◌, ◌+◌, ◌-◌, ◌<◌, ℕ, sym, ap, List, [], Option, Some, None, MatchOption, is_some, flat_map, append-nil, append_assoc, true, arith}
use Rattle.std.specs.FinMap as map
use Rattle.s80_class.specs.declared.entry.ClassEntry.{ClassEntry}
use Rattle.s80_class.specs.Classes.{Name, upwards}
use Rattle.s80_class.specs.Table.{Table, IsEntryOf, IsNumberOf, IsSuperclass}
use Rattle.s80_class.proofs.lemmas.Lines.{Entry}
use Rattle.s80_class.proofs.lemmas.Removed.{absent_lineage}
use Rattle.s80_class.proofs.lemmas.Rows.{name_is}
use Rattle.s80_class.proofs.lemmas.Walks.{left, left_more, left_none, same_name}
use Rattle.s80_merge.specs.declared.key.Key.{Key}
use Rattle.s80_merge.specs.Touched.{class_keys, line_keys}

abbrev pub keys_of : List Entry → List Key
keys_of es = flat_map (λ e. class_keys e.0) es

pub is_there : (table : Table) (number : ℕ) (name : Name) (entry : ClassEntry) → IsNumberOf table.names number name → IsEntryOf table number entry → true ≡ map.contains_key table.classes name
is_there table number name entry named is =
    sym (ap (map.contains_key table.classes) (same_name table number name entry.class_name named is.named) ∙ ap is_some is.row)

-- the walk begins with all of them
pub begins : (table : Table) (end : ℕ) (name : Name) (found : Option ℕ) → end ≡ map.len table.classes → MatchOption found (map.get table.classes name ≡ None) (λ c. IsNumberOf table.names c name)
    → [] ++ keys_of (left table end 0 found) ≡ line_keys name table.classes
begins table end name None size none = ap keys_of (left_none table end 0 ∙ sym (absent_lineage table.classes name none))
begins table end name (Some c) size named =
    let whole : end - 0 ≡ map.len table.classes = omega (arith, size) in
    ap (λ n. keys_of (upwards (end - 0) table.classes n)) (name_is table.names c name named) ∙ ap (λ n. keys_of (upwards n table.classes (Some name))) whole

pub starts_live : (table : Table) (name : Name) (found : Option ℕ) → MatchOption found (map.get table.classes name ≡ None) (λ c. IsNumberOf table.names c name) → IsSuperclass table.names found
starts_live table name None none = tt
starts_live table name (Some c) named = (name, named)

-- one class further up
pub goes_up : (table : Table) (end counter number : ℕ) (entry : ClassEntry) (next : Option ℕ) (keys new all : List Key) → counter < end → IsEntryOf table number entry → next ≡ Some number
    → keys ++ keys_of (left table end counter next) ≡ all → new ≡ keys ++ class_keys entry.class_name → new ++ keys_of (left table end (counter + 1) entry.superclass) ≡ all
goes_up table end counter number entry next keys new all lt is here so more =
    let rest : List Key = keys_of (left table end (counter + 1) entry.superclass) in
    ap (λ ks. ks ++ rest) more ∙ append_assoc keys (class_keys entry.class_name) rest
    ∙ ap (λ ks. keys ++ ks) (sym (ap (λ n. keys_of (left table end counter n)) here ∙ ap keys_of (left_more table end counter number entry lt is))) ∙ so

-- nothing is left
pub comes_up : (table : Table) (end counter : ℕ) (next : Option ℕ) (keys all : List Key) → left table end counter next ≡ [] → keys ++ keys_of (left table end counter next) ≡ all → keys ≡ all
comes_up table end counter next keys all none so = sym (append-nil keys) ∙ ap (λ es. keys ++ keys_of es) (sym none) ∙ so
