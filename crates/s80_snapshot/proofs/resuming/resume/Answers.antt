use Rattle.std.proofs.Common.{Bool, List, ℕ, subst, sym}
use Rattle.std.specs.Prelude.{MatchBool}
use Rattle.s80_apply.specs.System.{SystemState}
use Rattle.s80_image.specs.declared.image.ImageClass.{ImageClass}
use Rattle.s80_image.specs.Classes.{ClassView, classes_of}
use Rattle.s80_image.specs.Image.{view_of}
use Rattle.s80_snapshot.specs.Resuming.{AreOrdered}
use Rattle.s80_snapshot.specs.Sources.{AreSourcesOf, IsResumed}
use Rattle.s80_snapshot.proofs.LawfulOrder.{lawful_ordered}
use Rattle.s80_snapshot.proofs.resuming.resume.Goals as goal

abbrev IsAnswer : List ClassView → List (List ℕ) → SystemState → Bool → Type 0
IsAnswer classes sources system all = MatchBool all (AreSourcesOf classes sources × IsResumed classes sources system) (AreSourcesOf classes sources → ⊥)

pub begun_system-requires : goal.begun_system-requires
begun_system-requires c =
    subst (λ (classes : List ImageClass). AreOrdered (classes_of classes)) (sym c.deref.ensures.value)
    (lawful_ordered (view_of c.args.image.now) c.requires.fields (c.lawful_classes_are_in_order.ensures (view_of c.args.image.now) c.requires))

pub resume_methods-requires-clause-ordered : goal.resume_methods-requires-clause-ordered
resume_methods-requires-clause-ordered c =
    subst (λ (classes : List ImageClass). AreOrdered (classes_of classes)) (sym c.deref-2.ensures.value)
    (lawful_ordered (view_of c.args.image.now) c.requires.fields (c.lawful_classes_are_in_order.ensures (view_of c.args.image.now) c.requires))

pub returns-then-branch : goal.returns-then-branch
returns-then-branch c =
    let sources = c.args.sources.items in
    let system = c.resume_methods.new.system in
    subst (λ (classes : List ImageClass). AreSourcesOf (classes_of classes) sources × IsResumed (classes_of classes) sources system) c.deref-2.ensures.value
    (subst (IsAnswer (classes_of c.deref-2.result.now) sources system) c.if-branch.true c.in_ok-resume_methods.ensures)

pub returns-else-branch : goal.returns-else-branch
returns-else-branch c =
    let sources = c.args.sources.items in
    subst (λ (classes : List ImageClass). AreSourcesOf (classes_of classes) sources → ⊥) c.deref-2.ensures.value
    (subst (IsAnswer (classes_of c.deref-2.result.now) sources c.resume_methods.new.system) c.if-branch.false c.in_ok-resume_methods.ensures)
