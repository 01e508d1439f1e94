-- The classes and methods of a list, and a doIt's code, are what a run may be given.
use Rattle.std.proofs.Common.{◌≡◌, ◌≢◌, ◌≤◌, ◌∙◌, ℕ, true, is_some, sym, ap, subst, List, [], codes, length, Some, None, unwrap_or, option_and_then, Ok}
use Rattle.std.specs.FinMap as map
use Rattle.s80_base.specs.declared.names.Side.{Side}
use Rattle.s80_base.specs.declared.names.Side.TheVariants.{Instance, Class}
use Rattle.s80_kernel.specs.Rows.{is_kernel_class, kernel_rows}
use Rattle.s80_tree.specs.Tree.{DoItParts}
use Rattle.s80_syntax.specs.Text.{IsDoItOf}
use Rattle.s80_code.specs.declared.code.Code.{Code}
use Rattle.s80_compile.specs.Compiles.{Compiles}
use Rattle.s80_change.specs.Check.{IsCheckOf, as_method, size_refusal}
use Rattle.s80_class.specs.Classes.{Name, ClassRow, Classes, inherited_of, is_bits, with_comment}
use Rattle.s80_class.specs.Known.{IsKnown}
use Rattle.s80_class.specs.Table.{Table, IsClass, IsNumberOf, class_name}
use Rattle.s80_class.proofs.lemmas.Most.{some_row}
use Rattle.s80_dict.specs.Table.{MethodsValue}
use Rattle.s80_prims.specs.Classes.{kind_of_class, variables_of}
use Rattle.s80_prims.specs.Kept.{HasNumbers}
use Rattle.s80_prims.specs.Known.{HasKernel}
use Rattle.s80_method.specs.Code.{IsMethodCode}
use Rattle.s80_method.specs.Shape.{shape_of}
use Rattle.s80_change.specs.declared.change.Change.{Change}
use Rattle.s80_apply.specs.Codes.{AreCodes}
use Rattle.s80_apply.specs.Kernel.{kernel_classes}
use Rattle.s80_apply.specs.Entries.{Entry}
use Rattle.s80_apply.specs.List.{AreOfList, classes_of}
use Rattle.s80_apply.specs.System.{SystemState}
use Rattle.s80_apply.proofs.Booted.{built_has}
use Rattle.s80_machine.specs.Sound.{IsSetting, Suits, SuitsMethod}
use Rattle.s80_doit.specs.DoIt.{IsDoItCode}

-- ---- what is true of every list, of every shape and of all code that agrees

abbrev pub KernelLasts : Type 0
KernelLasts = (changes : List Change) (name : Name) (row : ClassRow) → map.get kernel_classes name ≡ Some row → (comment : List ℕ) × (map.get (classes_of changes) name ≡ Some (with_comment comment row))

abbrev pub KernelIsPlain : Type 0
KernelIsPlain = (changes : List Change) (name : Name) → is_kernel_class name ≡ true → name ≢ codes "Message" → (inherited_of (classes_of changes) name).inst_vars ≡ 0

abbrev pub MessageHasTwo : Type 0
MessageHasTwo = (changes : List Change) → (inherited_of (classes_of changes) (codes "Message")).inst_vars ≡ 2

abbrev pub BitsArePlain : Type 0
BitsArePlain = (changes : List Change) (name : Name) (row : ClassRow) → map.get (classes_of changes) name ≡ Some row
    → is_bits (inherited_of (classes_of changes) name).kind ≡ true → (inherited_of (classes_of changes) name).inst_vars ≡ 0

abbrev pub FewOn : (Classes → Name → ℕ) → Type 0
FewOn count = (changes : List Change) (name : Name) (row : ClassRow) → map.get (classes_of changes) name ≡ Some row → count (classes_of changes) name ≤ 64

abbrev pub ShapesHave : (Classes → Name → ℕ) → Side → Type 0
ShapesHave count side = (classes : Classes) (name : Name) → length (shape_of classes name side).inst_vars ≡ count classes name

abbrev pub inst_vars_of : Classes → Name → ℕ
inst_vars_of classes name = (inherited_of classes name).inst_vars

abbrev pub class_side_vars_of : Classes → Name → ℕ
class_side_vars_of classes name = (inherited_of classes name).class_side_vars

abbrev pub MethodCodeSuits : Type 0
MethodCodeSuits = (t : Table) (c : ℕ) (name : Name) (side : Side) (selector source : List ℕ) (code : Code)
    → IsNumberOf t.names c name → IsCheckOf source (Ok selector) → length (shape_of t.classes name side).inst_vars ≤ 64
    → IsMethodCode t.classes name side selector source code → SuitsMethod t c side selector code

abbrev pub Agrees : DoItParts → Code → Type 0
Agrees tree code = Compiles (as_method tree) (record { inst_vars = []; class_vars = [] }) (codes "UndefinedObject") Instance code

abbrev pub DoItCodeSuits : Type 0
DoItCodeSuits = (text : List ℕ) (tree : DoItParts) (code : Code) → IsDoItOf text tree → size_refusal (as_method tree) ≡ None → Agrees tree code → Suits 0 code

abbrev pub DoItHasNo : (Code → ℕ) → Type 0
DoItHasNo part = (tree : DoItParts) (code : Code) → Agrees tree code → part code ≡ 0

pub record Laws : Type 0 where
  pub lasts : KernelLasts
  pub plain : KernelIsPlain
  pub message : MessageHasTwo
  pub bits : BitsArePlain
  pub few : FewOn inst_vars_of
  pub few_of_class : FewOn class_side_vars_of
  pub shapes : ShapesHave inst_vars_of Instance
  pub class_shapes : ShapesHave class_side_vars_of Class
  pub methods : MethodCodeSuits
  pub doits : DoItCodeSuits
  pub no_arguments : DoItHasNo (λ (code : Code). code.arguments)
  pub no_primitive : DoItHasNo (λ (code : Code). code.primitive)

-- ---- the classes of the kernel

pub kernel_row : (word : Name) → is_kernel_class word ≡ true → (row : ClassRow) × (map.get kernel_classes word ≡ Some row)
unfolding is_kernel_class kernel_classes
kernel_row word is = some_row kernel_classes word (built_has kernel_rows word ∙ is)

-- ---- classes of a list

module _ (t : Table) (changes : List Change) (of : t.classes ≡ classes_of changes) where
  pub there : KernelLasts → (word : Name) → is_kernel_class word ≡ true → (row : ClassRow) × (map.get t.classes word ≡ Some row)
  there lasts word is =
      let row = kernel_row word is in
      let last = lasts changes word row.0 row.1 in
      (with_comment last.0 row.0, ap (λ classes. map.get classes word) of ∙ last.1)

  has_kernel : KernelLasts → HasKernel t
  has_kernel lasts word is = ap is_some (there lasts word is).1

  module _ (known : IsKnown t) (laws : Laws) where
    has_numbers : HasNumbers t
    has_numbers word is = let row = there laws.lasts word is in known.numbered word row.0 row.1

    -- the row of a class that has a number, as the list has it
    row_of : (c : ℕ) (name : Name) → IsNumberOf t.names c name → (row : ClassRow) × (map.get (classes_of changes) name ≡ Some row)
    row_of c name named = let row = known.known c name named in (row.0, ap (λ classes. map.get classes name) (sym of) ∙ row.1)

    name_is : (c : ℕ) (name : Name) → IsNumberOf t.names c name → class_name t c ≡ name
    name_is c name named = ap (λ o. unwrap_or (option_and_then (λ n. n) o) []) named

    plain : (word : Name) → is_kernel_class word ≡ true → word ≢ codes "Message" → (inherited_of t.classes word).inst_vars ≡ 0
    plain word is other = ap (λ classes. inst_vars_of classes word) of ∙ laws.plain changes word is other

    message : (inherited_of t.classes (codes "Message")).inst_vars ≡ 2
    message = ap (λ classes. inst_vars_of classes (codes "Message")) of ∙ laws.message changes

    bits : (c : ℕ) → IsClass t.names c → is_bits (kind_of_class t c) ≡ true → variables_of t c ≡ 0
    bits c (name, named) is =
        let seen : inherited_of t.classes (class_name t c) ≡ inherited_of (classes_of changes) name = λ i. inherited_of (of i) (name_is c name named i) in
        let row = row_of c name named in
        ap (λ t. t.inst_vars) seen ∙ laws.bits changes name row.0 row.1 (ap (λ t. is_bits t.kind) (sym seen) ∙ is)

    few : (c : ℕ) (name : Name) (side : Side) → IsNumberOf t.names c name → length (shape_of t.classes name side).inst_vars ≤ 64
    few c name Instance named =
        let row = row_of c name named in
        subst (λ n. n ≤ 64) (sym (laws.shapes t.classes name ∙ ap (λ classes. inst_vars_of classes name) of)) (laws.few changes name row.0 row.1)
    few c name Class named =
        let row = row_of c name named in
        subst (λ n. n ≤ 64) (sym (laws.class_shapes t.classes name ∙ ap (λ classes. class_side_vars_of classes name) of)) (laws.few_of_class changes name row.0 row.1)

    is_setting : (methods : MethodsValue Entry) → AreCodes t methods → (text : List ℕ) (code : Code) → IsDoItCode text code → IsSetting t methods code
    is_setting methods codes_are text code is = record {
      classes = known;
      kernel = has_kernel laws.lasts;
      numbers = has_numbers;
      plain = plain;
      message = message;
      bits = bits;
      methods_suit = λ c side selector entry stands.
          let has = codes_are c side selector entry stands in
          laws.methods t c has.class side selector entry.source entry.code has.named has.has_code.check (few c has.class side has.named) has.has_code.code;
      doit_suits = laws.doits text is.tree code is.tree_is is.fits is.compiles;
      no_arguments = laws.no_arguments is.tree code is.compiles;
      no_primitive = laws.no_primitive is.tree code is.compiles;
    }

-- ---- those of some list

pub kernel_there : (t : Table) → AreOfList t.classes → KernelLasts → HasKernel t
kernel_there t (changes, of) lasts = has_kernel t changes of lasts

pub setting_of : (system : SystemState) → AreOfList system.table.classes → IsKnown system.table → Laws → AreCodes system.table system.methods
    → (text : List ℕ) (code : Code) → IsDoItCode text code → IsSetting system.table system.methods code
setting_of system (changes, of) known laws codes_are text code is = is_setting system.table changes of known laws system.methods codes_are text code is
