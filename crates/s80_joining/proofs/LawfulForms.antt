-- A change that a text asks for, and that some list accepts, is lawful.
use Rattle.std.proofs.Common.{◌≡◌, ◌≤◌, ℕ, Bool, cond, true, false, not, refl, subst, sym, List, [], ◌∷◌, ◌++◌, length, Option, Some, None, Result, Ok, Err, option_map}
use Rattle.std.specs.List.{find}
use Rattle.std.specs.FinMap as map
use Rattle.std.proofs.lemmas.List.Elements.{All-cons, All-head, All-nil, All-tail}
use Rattle.s80_chunk.specs.Chunks.{IsChunkText, longest}
use Rattle.s80_class.specs.Classes.{Classes, Name, change_row, with_class_side_vars, with_comment}
use Rattle.s80_class.proofs.lemmas.Most.{some_row}
use Rattle.s80_form.specs.declared.definition.Definition.{Definition}
use Rattle.s80_form.specs.declared.form.Form.{Form}
use Rattle.s80_form.specs.declared.form.Form.TheVariants.{Classify, ClassVars, Comment, Define, NoChanges, RemoveClass, RemoveMethod}
use Rattle.s80_form.specs.declared.refusal.Refusal.{Refusal}
use Rattle.s80_form.specs.declared.refusal.Refusal.TheVariants.{BadName}
use Rattle.s80_form.specs.Definition.{HasDefinitionNames}
use Rattle.s80_form.specs.Form.{HasLawfulNames, IsFormText, IsLawfulForm}
use Rattle.s80_form.specs.Name.{AreNames, IsName, is_class_name, is_name}
use Rattle.s80_change.specs.declared.change.Change.TheVariants as changes
use Rattle.s80_change.specs.declared.change.Method.{Method}
use Rattle.s80_change.specs.declared.head.SectionHead.{SectionHead}
use Rattle.s80_change.specs.Block.{IsLawful, head_of}
use Rattle.s80_change.specs.Check.{IsCheckOf}
use Rattle.s80_change.specs.Head.{IsBriefHead}
use Rattle.s80_change.specs.Source.{SourceParts}
use Rattle.s80_apply.specs.Accept.{accept, accept_checked, accept_form, accepted, bad_name, classify, cycle, define, duplicate, first_some, keeping_rows, kernel_class, no_method, put_source, refusal_of, refusal_of_class_vars, refusal_of_removal, too_many, too_many_methods, unknown_class, unknown_name}
use Rattle.s80_apply.specs.List.{IsAccepted}
use Rattle.s80_apply.specs.Named.{AreNamed}
use Rattle.s80_apply.specs.State.{State, take_class, take_method}
use Rattle.s80_apply.proofs.Names.{named_where}
use Rattle.s80_apply.proofs.Passing.{known_name, method_there, names_good, none_first, removal_accepted, vars_accepted}
use Rattle.s80_model.specs.Asked.{AsksMethod, adds_source}
use Rattle.s80_model.specs.Replies.{method_in}
use Rattle.s80_joining.proofs.Selectors.{HasSelector, form_selects}

-- ---- a definition

names_before : (xs ys : List Name) → AreNames (xs ++ ys) → AreNames xs
names_before [] ys all = All-nil IsName
names_before (x ∷ xs) ys all = All-cons IsName x xs (All-head IsName x (xs ++ ys) all) (names_before xs ys (All-tail IsName x (xs ++ ys) all))

names_behind : (xs ys : List Name) → AreNames (xs ++ ys) → AreNames ys
names_behind [] ys all = all
names_behind (x ∷ xs) ys all = names_behind xs ys (All-tail IsName x (xs ++ ys) all)

variables_named : (d : Definition) → bad_name d ≡ None → AreNames (d.inst_vars ++ (d.class_vars ++ d.pools))
variables_named d h = go (is_class_name d.class_name) h
  where
    all : List Name
    all = d.inst_vars ++ (d.class_vars ++ d.pools)

    go : (b : Bool) → cond b (option_map BadName (find (λ name. not (is_name name)) all)) (Some (BadName d.class_name)) ≡ None → AreNames all
    go true none = names_good all none
    go false bad = absurd (cc)

name_there : (name : Name) (classes : Classes) → AreNamed classes → map.contains_key classes name ≡ true → IsName name
name_there name classes named there = let row = some_row classes name there in named name row.0 row.1

definition_named : (d : Definition) (classes : Classes) → AreNamed classes → refusal_of d classes ≡ None → HasDefinitionNames d
definition_named d classes named none =
    let first = none_first (bad_name d) (unknown_class d classes ∷ kernel_class d ∷ cycle d classes ∷ duplicate d ∷ too_many d classes ∷ []) none in
    let second = none_first (unknown_class d classes) (kernel_class d ∷ cycle d classes ∷ duplicate d ∷ too_many d classes ∷ []) first.1 in
    let all = variables_named d first.0 in
    let others = names_behind d.inst_vars (d.class_vars ++ d.pools) all in
    record {
      superclass = name_there d.superclass classes named (known_name d.superclass classes second.0);
      class_name = named_where d first.0;
      inst_vars = names_before d.inst_vars (d.class_vars ++ d.pools) all;
      class_vars = names_before d.class_vars d.pools others;
      pools = names_behind d.class_vars d.pools others;
    }

-- ---- a form

none_refused : (o : Option Refusal) (after : State) → IsAccepted (accepted o after) → o ≡ None
none_refused None after is = refl
none_refused (Some refusal) after is = absurd is

form_named : (form : Form) (state : State) → AreNamed state.classes → HasSelector form → IsAccepted (accept_form keeping_rows form state) → HasLawfulNames form
form_named (Define d) state named selects is = definition_named d state.classes named (none_refused (refusal_of d state.classes) (record state { classes = define d state.classes }) is)
form_named (ClassVars name names) state named selects is =
    let ok = vars_accepted name names state.classes (none_refused (refusal_of_class_vars name names state.classes) (record state { classes = change_row (with_class_side_vars names) name state.classes }) is) in
    (name_there name state.classes named ok.known, ok.named)
form_named (Comment name text) state named selects is =
    name_there name state.classes named (known_name name state.classes (none_refused (unknown_name name state.classes) (record state { classes = change_row (with_comment text) name state.classes }) is))
form_named (RemoveMethod name side selector) state named selects is =
    let ok = method_there name side selector state (none_refused (no_method name side selector state) (take_method name side selector state) is) in
    (name_there name state.classes named ok.known, selects)
form_named (Classify name side selector category) state named selects is =
    let ok = method_there name side selector state (none_refused (no_method name side selector state) (classify keeping_rows name side selector category state) is) in
    (name_there name state.classes named ok.known, selects)
form_named (RemoveClass name) state named selects is =
    name_there name state.classes named (removal_accepted name state.classes (none_refused (refusal_of_removal name state.classes) (take_class name state) is)).known
form_named NoChanges state named selects is = tt

pub form_lawful : (text : List ℕ) (form : Form) (state : State) → AreNamed state.classes → IsFormText text form → IsAccepted (accept (changes.Form form) state) → IsLawfulForm form
form_lawful text form state named is accepts = record { names = form_named form state named (form_selects text form is) accepts; brief = is.form_is.1 }

-- ---- a method

-- one that is accepted has a class
class_there : (m : Method) (state : State) (check : Result (List ℕ) Refusal) → IsAccepted (accept_checked keeping_rows m check state) → map.contains_key state.classes m.class_name ≡ true
class_there m state (Err refusal) is = absurd is
class_there m state (Ok selector) is =
    known_name m.class_name state.classes
    (none_first (unknown_name m.class_name state.classes) (too_many_methods m selector state ∷ [])
    (none_refused (first_some (unknown_name m.class_name state.classes ∷ too_many_methods m selector state ∷ [])) (put_source keeping_rows m selector state) is)).0

method_lawful : (m : Method) (state : State) → AreNamed state.classes → IsBriefHead (head_of m) → IsChunkText m.source.text × (length m.source.text ≤ longest) × IsCheckOf m.source.text m.source.selector
    → IsAccepted (accept (changes.Method m) state) → IsLawful (changes.Method m)
method_lawful m state named brief own is =
    record { head = record { class_name = name_there m.class_name state.classes named (class_there m state m.source.selector is); brief = brief }; text = own.0; short = own.1; check = own.2 }

-- that of a text in an open section
pub source_lawful : (text : List ℕ) (head : SectionHead) (source : SourceParts) (state : State) → AreNamed state.classes → IsBriefHead head → AsksMethod text (adds_source source) → IsChunkText text → length text ≤ longest
    → IsAccepted (accept (method_in head source) state) → IsLawful (method_in head source)
source_lawful text head source state named brief asks chunk short =
    let P : List ℕ → Type 0 = λ t. IsChunkText t × (length t ≤ longest) × IsCheckOf t source.selector in
    method_lawful (record { class_name = head.class_name; side = head.side; category = head.category; source = source }) state named brief (subst P (sym asks.0) (chunk, short, asks.1))
