-- Code with its header.
use Rattle.std.proofs.Common.{◌≡◌, ℕ, ◌≤◌, List, [], ◌++◌, length, refl, sym, ◌∙◌, subst, ap, arith}
use Rattle.std.proofs.lemmas.List.Elements.{All-contains}
use Rattle.std.specs.List.{Contains}
use Rattle.s80_code.specs.Entries.{EntryTree}
use Rattle.s80_scope.specs.declared.fit.position.Position.TheVariants.{Effect}
use Rattle.s80_tree.specs.Tree.{MethodParts}
use Rattle.s80_scope.specs.Fit.{fit, measures}
use Rattle.s80_scope.specs.FitStack.{stack, temporaries}
use Rattle.s80_scope.specs.Names.{AreInOrder, uses_of}
use Rattle.s80_scope.specs.declared.fit.Fit.TheVariants as fits_in
use Rattle.s80_scope.specs.declared.shape.Shape.{Shape}
use Rattle.s80_scope.specs.declared.shape.Binding.{Binding}
use Rattle.s80_core.specs.Core.{CoreTree}
use Rattle.s80_core.specs.Measures.{CoreFits, entries}
use Rattle.s80_core.specs.Elaborate.{elaborated}
use Rattle.s80_core.proofs.lemmas.FitAll.{core_fits}
use Rattle.s80_compile.specs.Sent.{AreWellSent, IsWellSent}
use Rattle.s80_compile.proofs.SentArms.{arms_had}
use Rattle.s80_compile.proofs.lemmas.SentCore.{core_sent}
use Rattle.s80_compile.specs.Rows.{At}
use Rattle.s80_compile.specs.Compiles.{AreFirsts}
use Rattle.s80_compile.specs.Emitted.{Fits, IsEmitted, CoreRow}
use Rattle.s80_compile.proofs.Moves.{Sits, sits_all}
use Rattle.s80_compile.proofs.Parts.{core_moves, moved}

-- a core tree that fits may be emitted with an empty frame
pub begins : (t room : ℕ) (frame : List EntryTree) (core : CoreTree) → frame ≡ [] → CoreFits t room core → t ≤ 31 → Fits frame core Effect
begins t room frame core empty fits few = record {
  room = record {
    allowed = fits.entries.0;
    few = fits.entries.1;
    before = [];
    once = empty;
    old = λ y c. absurd (omega (arith, c.1));
    new = λ y c. All-contains (Contains fits.entries.0) (entries core) y fits.entries.2 c;
  };
  size = fits.size;
  temporaries = t;
  low = few;
  range = fits.range;
  few = fits.few;
}

-- the core tree of a method that fits, with its messages well sent
pub record IsReady (m : MethodParts) (core : CoreTree) : Type 0 where
  pub fits : CoreFits (temporaries m) (stack m) core
  pub sent : IsWellSent core

pub ready : (m : MethodParts) (shape : Shape) (core : CoreTree) → core ≡ elaborated m shape → fit (measures m) ≡ fits_in.Fits
    → AreInOrder (uses_of m) → AreWellSent m → length shape.inst_vars ≤ 64 → IsReady m core
ready m shape core is fitting in_order sent few =
    subst (λ (c : CoreTree). IsReady m c) (sym is)
    (record { fits = core_fits m shape fitting in_order (arms_had m sent) few; sent = core_sent m shape sent })

-- what an emitted core tree shows of a whole code
pub record IsWhole (core : CoreTree) (bytes : List ℕ) (entries_now plain last : List EntryTree) : Type 0 where
  pub firsts : AreFirsts [] (entries core) plain
  pub frame : entries_now ≡ plain ++ last
  pub body : At bytes entries_now core Effect 0 (length bytes)

pub whole : (core : CoreTree) (frame middle final last : List EntryTree) (bytes code : List ℕ) → frame ≡ [] → code ≡ []
    → IsEmitted core Effect frame middle code bytes → final ≡ middle ++ last → IsWhole core bytes final middle last
whole core frame middle final last bytes code empty none e is =
    let same : bytes ≡ e.part = e.is_code ∙ ap (λ (f : List ℕ). f ++ e.part) none in
    let added : middle ≡ e.added = e.is_frame ∙ ap (λ (f : List EntryTree). f ++ e.added) empty in
    record {
      firsts = subst (λ (seen : List EntryTree). AreFirsts seen (entries core) middle) empty
          (subst (λ (a : List EntryTree). AreFirsts frame (entries core) a) (sym added) e.firsts);
      frame = is;
      body = moved (CoreRow core Effect) e.part bytes 0 middle final last 0 (length bytes) (core_moves core Effect)
          (subst (λ (w : List ℕ). Sits e.part w 0) (sym same) (sits_all e.part)) is refl (omega (arith, ap length same)) e.stands;
    }

pub doit_related : (P : List (List ℕ) → List Binding → List ℕ → Type 0) (variables : List (List ℕ)) (bindings : List Binding) (owner name : List ℕ)
    → variables ≡ [] → bindings ≡ [] → owner ≡ name → P variables bindings owner → P [] [] name
doit_related P variables bindings owner name e f g h =
    subst (λ (v : List (List ℕ)). P v [] name) e (subst (λ (b : List Binding). P variables b name) f (subst (λ (o : List ℕ). P variables bindings o) g h))
