-- What a list accepts is lawful.
use Rattle.std.proofs.Common.{◌≡◌, ◌≤◌, ℕ, List, ◌∷◌, [], length, Bool, cond, true, false, refl, sym, subst, Option, Some, None, Result, Ok, Err}
use Rattle.std.specs.FinMap as map
use Rattle.s80_chunk.specs.Chunks.{IsChunkText, longest}
use Rattle.s80_change.specs.declared.change.Change.{Change}
use Rattle.s80_change.specs.declared.change.Change.TheVariants.{Method}
use Rattle.s80_change.specs.declared.change.Method.{Method as MethodChange}
use Rattle.s80_change.specs.declared.head.SectionHead.{SectionHead}
use Rattle.s80_change.specs.Block.{head_of}
use Rattle.s80_change.specs.Check.{IsCheckOf}
use Rattle.s80_change.specs.Head.{IsBriefHead}
use Rattle.s80_change.specs.Source.{SourceParts}
use Rattle.s80_form.specs.declared.refusal.Refusal.{Refusal}
use Rattle.s80_form.specs.declared.refusal.Refusal.TheVariants.{UnknownClass}
use Rattle.s80_class.specs.Classes.{Name, Classes}
use Rattle.s80_class.proofs.lemmas.Most.{some_row}
use Rattle.s80_apply.specs.State.{State}
use Rattle.s80_apply.specs.Named.{AreNamed}
use Rattle.s80_apply.specs.Accept.{unknown_name, too_many_methods, keeping_rows, put_source, accepted, accept_checked, first_some}
use Rattle.s80_apply.specs.List.{IsAccepted, classes_of, state_of}
use Rattle.s80_model.specs.Asked.{AsksMethod, adds_source}
use Rattle.s80_model.specs.Replies.{method_in}
use Rattle.s80_session.specs.Working.{IsLawfulFor}

-- a name is known only where it has a class
name_known : (name : Name) (classes : Classes) → unknown_name name classes ≡ None → map.contains_key classes name ≡ true
name_known name classes h = go (map.contains_key classes name) refl h
  where
    go : (b : Bool) → map.contains_key classes name ≡ b → cond b None (Some (UnknownClass name)) ≡ None → map.contains_key classes name ≡ true
    go true is _ = is
    go false is bad = absurd (cc)

first_none : {T : Type 0} (o : Option T) (os : List (Option T)) → first_some (o ∷ os) ≡ None → o ≡ None
first_none None os h = refl
first_none (Some x) os h = absurd (let bad : Some x ≡ None = h in cc)

-- a method that is accepted has a class
class_there : (m : MethodChange) (state : State) (check : Result (List ℕ) Refusal) → IsAccepted (accept_checked keeping_rows m check state) → map.contains_key state.classes m.class_name ≡ true
class_there m state (Err refusal) h = absurd h
class_there m state (Ok selector) h = by_refusal (first_some reasons) refl h
  where
    reasons : List (Option Refusal)
    reasons = unknown_name m.class_name state.classes ∷ too_many_methods m selector state ∷ []

    by_refusal : (o : Option Refusal) → first_some reasons ≡ o → IsAccepted (accepted o (put_source keeping_rows m selector state)) → map.contains_key state.classes m.class_name ≡ true
    by_refusal None none _ = name_known m.class_name state.classes (first_none (unknown_name m.class_name state.classes) (too_many_methods m selector state ∷ []) none)
    by_refusal (Some refusal) _ is = absurd is

-- a method whose source is read and checked
method_lawful : (changes : List Change) (m : MethodChange) → AreNamed (classes_of changes) → IsBriefHead (head_of m) → IsChunkText m.source.text → length m.source.text ≤ longest → IsCheckOf m.source.text m.source.selector → IsLawfulFor changes (Method m)
method_lawful changes m named brief text short check = λ is.
    let row = some_row (classes_of changes) m.class_name (class_there m (state_of changes) m.source.selector is) in
    record { head = record { class_name = named m.class_name row.0 row.1; brief = brief }; text = text; short = short; check = check }

-- that of a text in an open section
pub source_lawful : (changes : List Change) (head : SectionHead) (source : SourceParts) (text : List ℕ) → AreNamed (classes_of changes) → IsBriefHead head → AsksMethod text (adds_source source) → IsChunkText text → length text ≤ longest → IsLawfulFor changes (method_in head source)
source_lawful changes head source text named brief asks chunk short =
    let P : List ℕ → Type 0 = λ t. IsChunkText t × (length t ≤ longest) × IsCheckOf t source.selector in
    let own = subst P (sym asks.0) (chunk, short, asks.1) in
    method_lawful changes (record { class_name = head.class_name; side = head.side; category = head.category; source = source }) named brief own.0 own.1 own.2
