-- A sound system after each step, and with more room.
use Rattle.std.proofs.Common.{◌≡◌, ◌≤◌, ◌+◌, ◌∙◌, ℕ, Bool, cond, true, false, nat_eq, refl, sym, ap, subst, List, [], ◌∷◌, length, get_or, arith, length-append, Option, Some, None, is_some, slice_set}
use Rattle.std.specs.FinMap as map
use Rattle.std.proofs.lemmas.List.{length-set}
use Rattle.std.proofs.lemmas.Option.{slice_get_within}
use Rattle.s80_base.specs.declared.names.Side.{Side}
use Rattle.s80_dict.specs.Dict.{HasRoom, Methods}
use Rattle.s80_dict.specs.Slots.{DictValue}
use Rattle.s80_dict.specs.Table.{MethodsValue, SidesValue, cleared_at, dict_at, is_place, methods_at, no_dict, no_sides, on_side, put_at, room_at, taken_at}
use Rattle.s80_form.specs.declared.refusal.Refusal.TheVariants.{UnknownClass}
use Rattle.s80_class.specs.declared.entry.ClassEntry.{ClassEntry}
use Rattle.s80_class.specs.Classes.{Name, ClassRow, Classes, Inherited, IsValid, change_row, has_subclass, with_comment}
use Rattle.s80_class.specs.Table.{Table, IsEntryOf, IsNumberOf}
use Rattle.s80_class.proofs.lemmas.Alike.{alike_row_back}
use Rattle.s80_class.proofs.lemmas.Commented.{AreCommented, are_commented, bare, commented_inherited, commented_len, commented_valid}
use Rattle.s80_class.proofs.lemmas.Removed.{left_inherited, left_len, left_row, left_valid}
use Rattle.s80_class.proofs.lemmas.Walks.{same_name}
use Rattle.s80_apply.specs.declared.step.Placed.{Placed}
use Rattle.s80_apply.specs.declared.step.PlacedMethod.{PlacedMethod}
use Rattle.s80_apply.specs.declared.step.SourcePlace.{SourcePlace}
use Rattle.s80_apply.specs.Accept.{unknown_name}
use Rattle.s80_apply.specs.Entries.{Entry}
use Rattle.s80_apply.specs.Codes.{HaveSources}
use Rattle.s80_apply.specs.Limits.{IsWithin}
use Rattle.s80_apply.specs.List.{AreOfList}
use Rattle.s80_apply.specs.System.{CanPut, CanPutMethod, CanTakeClass, ClassifiesMethod, HasClass, HasClassAt, HasComment, HasMethod, HasMethodAt, HasSourceAt, HaveRoom, IsSoundSystem, LosesClass, LosesMethod, SystemState, at_place, put, put_all, put_at_number, with_dictionaries, with_entry}
use Rattle.s80_apply.proofs.Codes.{classes_put, codes_classified, codes_commented, codes_placed, codes_stay, codes_taken, codes_with_class, codes_with_method, codes_without_class}
use Rattle.s80_apply.proofs.Passing.{removal_accepted}
use Rattle.s80_apply.proofs.Places.{put_over_at, put_same, some_same}
use Rattle.s80_apply.proofs.lemmas.Lists.{of_list_commented, of_list_removed}

-- ---- the same classes, names and methods

pub same_sides : (methods after : MethodsValue Entry) → after.sides ≡ methods.sides → (n : ℕ) (s : Side) → methods_at after n s ≡ methods_at methods n s
same_sides methods after sides n s = ap (λ (all : List (SidesValue Entry)). (on_side (get_or all n no_sides) s).methods) sides

pub sources_stay : (methods after : MethodsValue Entry) → after.sides ≡ methods.sides → HaveSources methods → HaveSources after
sources_stay methods after sides sources = λ n s k e is. sources n s k e (sym (ap (λ m. map.get m k) (same_sides methods after sides n s)) ∙ is)

pub sound_stays : (before now : SystemState) → now.table.classes ≡ before.table.classes → now.table.names ≡ before.table.names → ((n : ℕ) (s : Side) → methods_at now.methods n s ≡ methods_at before.methods n s)
    → length now.methods.sides ≡ length before.methods.sides → IsSoundSystem before → IsSoundSystem now
sound_stays before now classes names methods count sound = record {
  of_list = subst AreOfList (sym classes) sound.of_list;
  valid = subst IsValid (sym classes) sound.valid;
  within = subst IsWithin (sym classes) sound.within;
  dictionaries = count ∙ sound.dictionaries ∙ ap length (sym names);
  codes = codes_stay before.table now.table before.methods now.methods classes names methods sound.codes;
}

-- with room for more classes
pub sound_reserved : (table now : Table) (methods after : MethodsValue Entry) → now.classes ≡ table.classes → now.names ≡ table.names → after.sides ≡ methods.sides → IsSoundSystem (record { table = table; methods = methods }) → IsSoundSystem (record { table = now; methods = after })
sound_reserved table now methods after classes names sides sound =
    sound_stays (record { table = table; methods = methods }) (record { table = now; methods = after }) classes names (same_sides methods after sides) (ap length sides) sound

-- a class has dictionaries
pub number_there : (system : SystemState) (number : ℕ) (name : Name) → IsSoundSystem system → IsNumberOf system.table.names number name → number + 1 ≤ length system.methods.sides
number_there system number name sound named = let within = slice_get_within system.table.names number (Some name) named in omega (arith, within, sound.dictionaries)

-- ---- methods

pub sound_with_method : (before now : SystemState) (placed : PlacedMethod) (at : ℕ) → CanPutMethod before placed → IsSoundSystem before → HasMethod before placed at now → IsSoundSystem now
sound_with_method before now placed at can sound has = record {
  of_list = subst (λ (t : Table). AreOfList t.classes) (sym has.table) sound.of_list;
  valid = subst (λ (t : Table). IsValid t.classes) (sym has.table) sound.valid;
  within = subst (λ (t : Table). IsWithin t.classes) (sym has.table) sound.within;
  dictionaries = has.count ∙ sound.dictionaries ∙ ap (λ (t : Table). length t.names) (sym has.table);
  codes = codes_with_method before now placed at can sound.codes has;
}

pub sound_without_method : (before now : SystemState) (number : ℕ) (side : Side) (selector : List ℕ) → IsSoundSystem before → LosesMethod before number side selector now → IsSoundSystem now
sound_without_method before now number side selector sound loses = record {
  of_list = subst (λ (t : Table). AreOfList t.classes) (sym loses.table) sound.of_list;
  valid = subst (λ (t : Table). IsValid t.classes) (sym loses.table) sound.valid;
  within = subst (λ (t : Table). IsWithin t.classes) (sym loses.table) sound.within;
  dictionaries = loses.count ∙ sound.dictionaries ∙ ap (λ (t : Table). length t.names) (sym loses.table);
  codes = codes_taken before now number side selector sound.codes loses;
}

pub sound_classified : (before now : SystemState) (number : ℕ) (side : Side) (selector category : List ℕ) → HasMethodAt before number side selector → IsSoundSystem before → ClassifiesMethod before number side selector category now → IsSoundSystem now
sound_classified before now number side selector category at sound has = record {
  of_list = subst (λ (t : Table). AreOfList t.classes) (sym has.table) sound.of_list;
  valid = subst (λ (t : Table). IsValid t.classes) (sym has.table) sound.valid;
  within = subst (λ (t : Table). IsWithin t.classes) (sym has.table) sound.within;
  dictionaries = has.count ∙ sound.dictionaries ∙ ap (λ (t : Table). length t.names) (sym has.table);
  codes = codes_classified before now number side selector category at.entry at.there sound.codes has;
}

pub sound_placed : (before now : SystemState) (number : ℕ) (side : Side) (selector : List ℕ) (place : SourcePlace) → HasMethodAt before number side selector → IsSoundSystem before → HasSourceAt before number side selector place now → IsSoundSystem now
sound_placed before now number side selector place at sound has = record {
  of_list = subst (λ (t : Table). AreOfList t.classes) (sym has.table) sound.of_list;
  valid = subst (λ (t : Table). IsValid t.classes) (sym has.table) sound.valid;
  within = subst (λ (t : Table). IsWithin t.classes) (sym has.table) sound.within;
  dictionaries = has.count ∙ sound.dictionaries ∙ ap (λ (t : Table). length t.names) (sym has.table);
  codes = codes_placed before now number side selector place at.entry at.there sound.codes has;
}

-- a source stands behind the beginning of its block
pub method_is_put : (before : SystemState) (placed : PlacedMethod) (at : ℕ) (after : MethodsValue Entry)
    → ((n : ℕ) (s : Side) → methods_at after n s ≡ put_at (methods_at before.methods) placed.number placed.side placed.selector (record placed.entry { position = placed.entry.position + at }) n s)
    → length after.sides ≡ length before.methods.sides → HasMethod before placed at (record { table = before.table; methods = after })
method_is_put before placed at after put count =
    let turned : placed.entry.position + at ≡ at + placed.entry.position = omega arith in
    record {
      table = refl;
      methods = λ n s. put n s ∙ ap (λ k. put_at (methods_at before.methods) placed.number placed.side placed.selector (record placed.entry { position = k }) n s) turned;
      count = count;
    }

-- the method is taken away, and put again with the category
pub method_is_classified : (before : SystemState) (number : ℕ) (side : Side) (selector category : List ℕ) (entry : Entry) (middle after : MethodsValue Entry) → map.get (methods_at before.methods number side) selector ≡ Some entry
    → ((n : ℕ) (s : Side) → methods_at middle n s ≡ taken_at (methods_at before.methods) number side selector n s) → length middle.sides ≡ length before.methods.sides
    → ((n : ℕ) (s : Side) → methods_at after n s ≡ put_at (methods_at middle) number side selector (record entry { category = category }) n s) → length after.sides ≡ length middle.sides
    → ClassifiesMethod before number side selector category (record { table = before.table; methods = after })
method_is_classified before number side selector category entry middle after there taken count put again = record {
  table = refl;
  methods = λ x is n s.
      let same : entry ≡ x = some_same entry x (sym there ∙ is) in
      put n s
      ∙ ap (λ (d : Methods Entry). cond (is_place number side n s) (map.insert d selector (record entry { category = category })) d) (taken n s)
      ∙ put_over_at (methods_at before.methods) number side selector (record entry { category = category }) n s
      ∙ ap (λ (e : Entry). put_at (methods_at before.methods) number side selector (record e { category = category }) n s) same;
  count = again ∙ count;
}

-- the method is taken away, and put again with the place
pub source_is_placed : (before : SystemState) (number : ℕ) (side : Side) (selector : List ℕ) (place : SourcePlace) (entry : Entry) (middle after : MethodsValue Entry) → map.get (methods_at before.methods number side) selector ≡ Some entry
    → ((n : ℕ) (s : Side) → methods_at middle n s ≡ taken_at (methods_at before.methods) number side selector n s) → length middle.sides ≡ length before.methods.sides
    → ((n : ℕ) (s : Side) → methods_at after n s ≡ put_at (methods_at middle) number side selector (at_place place entry) n s) → length after.sides ≡ length middle.sides
    → HasSourceAt before number side selector place (record { table = before.table; methods = after })
source_is_placed before number side selector place entry middle after there taken count put again = record {
  table = refl;
  methods = λ x is n s.
      let same : entry ≡ x = some_same entry x (sym there ∙ is) in
      put n s
      ∙ ap (λ (d : Methods Entry). cond (is_place number side n s) (map.insert d selector (at_place place entry)) d) (taken n s)
      ∙ put_over_at (methods_at before.methods) number side selector (at_place place entry) n s
      ∙ ap (λ (e : Entry). put_at (methods_at before.methods) number side selector (at_place place e) n s) same;
  count = again ∙ count;
}

-- ---- an entry put among the classes

one_each : (table : Table) (methods : MethodsValue Entry) (number : Option ℕ) (entry : ClassEntry) → length methods.sides ≡ length table.names → length (with_dictionaries number methods).sides ≡ length (put_at_number table number entry).names
one_each table methods (Some number) entry count = count
one_each table methods None entry count = omega (arith, length-append methods.sides (no_sides ∷ []), length-append table.names (Some entry.class_name ∷ []), count)

pub sound_with_class : (before now : SystemState) (placed : Placed) → CanPut before placed → AreOfList (with_entry before.table placed.entry) → IsSoundSystem before → IsValid (with_entry before.table placed.entry) → HasClass before placed now → IsSoundSystem now
sound_with_class before now placed can of_list sound valid has =
    let classes : now.table.classes ≡ with_entry before.table placed.entry = ap (λ (t : Table). t.classes) has.table ∙ classes_put before.table placed.number placed.entry in
    record {
      of_list = subst AreOfList (sym classes) of_list;
      valid = subst IsValid (sym classes) valid;
      within = subst IsWithin (sym classes) can.within;
      dictionaries = has.count ∙ one_each before.table before.methods placed.number placed.entry sound.dictionaries ∙ ap (λ (t : Table). length t.names) (sym has.table);
      codes = codes_with_class before placed can sound.codes valid now has;
    }

more_sides : (number : Option ℕ) (methods : MethodsValue Entry) → length methods.sides ≤ length (with_dictionaries number methods).sides
more_sides (Some number) methods = omega arith
more_sides None methods = omega (arith, length-append methods.sides (no_sides ∷ []))

-- methods that are compiled again have room
pub room_again : (before : SystemState) (placed : Placed) (after : MethodsValue Entry) → CanPut before placed → length after.sides ≡ length (with_dictionaries placed.number before.methods).sides
    → ((n : ℕ) (s : Side) → room_at after n s ≡ room_at before.methods n s) → HaveRoom placed.recompiled.items after
room_again before placed after can count room = λ k p at.
    let is = can.recompiled.each k p at in
    (omega (arith, is.number, count, more_sides placed.number before.methods), subst (λ r. HasRoom r p.selector) (sym (room p.number p.side)) is.room)

-- the entry and then the methods
pub class_is_put : (before : SystemState) (placed : Placed) (table : Table) (middle after : MethodsValue Entry) → table ≡ put before.table placed → ((n : ℕ) (s : Side) → methods_at middle n s ≡ methods_at (with_dictionaries placed.number before.methods) n s)
    → length middle.sides ≡ length (with_dictionaries placed.number before.methods).sides → ((n : ℕ) (s : Side) → methods_at after n s ≡ put_all placed.recompiled.items (methods_at middle) n s) → length after.sides ≡ length middle.sides
    → HasClass before placed (record { table = table; methods = after })
class_is_put before placed table middle after is same count methods all = record {
  table = is;
  methods = λ n s. methods n s ∙ put_same placed.recompiled.items (methods_at middle) (methods_at (with_dictionaries placed.number before.methods)) same n s;
  count = all ∙ count;
}

pub valid_put : (before : SystemState) (placed : Placed) (table : Table) → table ≡ put before.table placed → IsValid table.classes → IsValid (with_entry before.table placed.entry)
valid_put before placed table is valid = subst IsValid (ap (λ (t : Table). t.classes) is ∙ classes_put before.table placed.number placed.entry) valid

-- ---- a comment

pub not_unknown : (classes : Classes) (name : Name) (row : ClassRow) → map.get classes name ≡ Some row → unknown_name name classes ≡ None
not_unknown classes name row is = ap (λ o. cond (is_some o) None (Some (UnknownClass name))) is

within_commented : (text : List ℕ) (name : Name) (classes : Classes) → IsWithin classes → IsWithin (change_row (with_comment text) name classes)
within_commented text name classes within = record {
  count = omega (arith, within.count, commented_len classes other alike);
  inst_vars = λ q row is.
      let before = alike_row_back bare classes other alike q row is in
      subst (λ (t : Inherited). t.inst_vars ≤ 64) (sym (commented_inherited classes other alike q)) (within.inst_vars q before.0 before.1);
  class_side_vars = λ q row is.
      let before = alike_row_back bare classes other alike q row is in
      subst (λ (t : Inherited). t.class_side_vars ≤ 64) (sym (commented_inherited classes other alike q)) (within.class_side_vars q before.0 before.1);
}
  where
    other : Classes
    other = change_row (with_comment text) name classes

    alike : AreCommented classes (change_row (with_comment text) name classes)
    alike = are_commented text name classes

pub sound_commented : (before now : SystemState) (number : ℕ) (text : List ℕ) → HasClassAt before number → IsSoundSystem before → HasComment before number text now → IsSoundSystem now
sound_commented before now number text at sound has =
    let classes : Classes = before.table.classes in
    let other : Classes = change_row (with_comment text) at.class classes in
    let is : now.table.classes ≡ other = has.classes at.class at.number_is.named in
    record {
      of_list = subst AreOfList (sym is) (of_list_commented classes at.class text sound.of_list (not_unknown classes at.class at.number_is.there.0 at.number_is.there.1));
      valid = subst IsValid (sym is) (commented_valid classes other (are_commented text at.class classes) sound.valid);
      within = subst IsWithin (sym is) (within_commented text at.class classes sound.within);
      dictionaries = has.count ∙ sound.dictionaries ∙ ap length (sym has.names);
      codes = codes_commented before now at.class number text at.number_is.named sound.codes has;
    }

-- ---- a class taken away

within_removed : (classes : Classes) (name : Name) → has_subclass classes name ≡ false → IsValid classes → IsWithin classes → IsWithin (map.remove classes name)
within_removed classes name alone valid within = record {
  count = omega (arith, within.count, left_len classes name);
  inst_vars = λ q row is.
      let left = left_row classes name q row is in
      subst (λ (t : Inherited). t.inst_vars ≤ 64) (sym (left_inherited classes name alone valid q left.0)) (within.inst_vars q row left.1);
  class_side_vars = λ q row is.
      let left = left_row classes name q row is in
      subst (λ (t : Inherited). t.class_side_vars ≤ 64) (sym (left_inherited classes name alone valid q left.0)) (within.class_side_vars q row left.1);
}

pub class_is_taken : (before : SystemState) (number : ℕ) (table : Table) (methods : MethodsValue Entry) (old : ClassEntry) → IsEntryOf before.table number old → table.classes ≡ map.remove before.table.classes old.class_name
    → table.names ≡ slice_set before.table.names number None → ((n : ℕ) (s : Side) → dict_at methods n s ≡ cleared_at (dict_at before.methods) number n s) → length methods.sides ≡ length before.methods.sides
    → LosesClass before number (record { table = table; methods = methods })
class_is_taken before number table methods old is classes names cleared count = record {
  classes = λ class named. classes ∙ ap (map.remove before.table.classes) (same_name before.table number old.class_name class is.named named);
  names = names;
  methods = λ n s. ap (λ (d : DictValue Entry). d.methods) (cleared n s) ∙ emptied (nat_eq n number) (dict_at before.methods n s);
  count = count;
}
  where
    emptied : (b : Bool) (d : DictValue Entry) → (cond b no_dict d).methods ≡ cond b map.empty d.methods
    emptied true d = refl
    emptied false d = refl

pub sound_without_class : (before now : SystemState) (number : ℕ) → CanTakeClass before number → IsSoundSystem before → LosesClass before number now → IsSoundSystem now
sound_without_class before now number can sound loses =
    let classes : Classes = before.table.classes in
    let alone : has_subclass classes can.class ≡ false = (removal_accepted can.class classes can.removable).alone in
    let is : now.table.classes ≡ map.remove classes can.class = loses.classes can.class can.number_is.named in
    record {
      of_list = subst AreOfList (sym is) (of_list_removed classes can.class sound.of_list can.removable);
      valid = subst IsValid (sym is) (left_valid classes can.class alone sound.valid);
      within = subst IsWithin (sym is) (within_removed classes can.class alone sound.valid sound.within);
      dictionaries = loses.count ∙ sound.dictionaries ∙ sym (ap length loses.names ∙ length-set before.table.names number None);
      codes = codes_without_class before now can.class number can.number_is alone sound.valid sound.codes loses;
    }
