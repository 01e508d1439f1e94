-- The code of a method that fits is verified, and lawful in an image.
use Rattle.std.proofs.Common.{◌≡◌, ◌⊎◌, inl, inr, ◌<◌, ◌≤◌, ◌+◌, ◌*◌, ◌-◌, ◌^◌, ◌∙◌, ◌++◌, ℕ, Bool, cond, true, false, nat_lt, refl, sym, ap, subst, List, [], ◌∷◌, length, length-append, Option, Some, None, Ok, arith}
use Rattle.std.specs.Prelude.{pos}
use Rattle.std.specs.Option.{option_map_or}
use Rattle.std.proofs.lemmas.Bool.Decides.{nat_tests}
use Rattle.s80_base.specs.Literal.{LiteralTree, small, symbol}
use Rattle.s80_base.specs.declared.names.Side.{Side}
use Rattle.s80_code.specs.declared.code.Code.{Code}
use Rattle.s80_code.specs.Entries.{EntryTree, constant, entries_of, extension, owner}
use Rattle.s80_tree.specs.Tree.{MethodParts}
use Rattle.s80_syntax.specs.Text.{IsMethodOf}
use Rattle.s80_syntax.proofs.lemmas.OneReading.{one_method_of}
use Rattle.s80_scope.specs.declared.fit.Fit.{Fit}
use Rattle.s80_scope.specs.declared.fit.Fit.TheVariants as fits
use Rattle.s80_scope.specs.declared.fit.FitKind.{FitKind}
use Rattle.s80_scope.specs.declared.fit.FitKind.TheVariants as kind
use Rattle.s80_scope.specs.declared.fit.Measures.{Measures}
use Rattle.s80_scope.specs.declared.fit.position.Position.{Position}
use Rattle.s80_scope.specs.declared.fit.position.Position.TheVariants.{Effect, Value}
use Rattle.s80_scope.specs.Fit.{cut_measures, fit, measures}
use Rattle.s80_scope.specs.FitStack.{stack, temporaries}
use Rattle.s80_scope.specs.Walk.{cut}
use Rattle.s80_scope.proofs.lemmas.Apart.{method_in_order}
use Rattle.s80_core.specs.Arms.{HaveArms}
use Rattle.s80_core.specs.Core.{CoreTree, CoreTrees, SendTrees, VariableTree, temporary, instance, class_variable, outer, LeafTree, variable, constant as constant_leaf, receiver, context, leaf, assign, value, send, cascade, real_block, two_arms, one_arm, shortcut, repeat, nothing, before, answer, answer_fixed, leave, no_cores, cores, no_sends, sends}
use Rattle.s80_core.specs.Elaborate.{elaborated}
use Rattle.s80_core.specs.Measures.{CoreFits, constant_entries, entries, entries_all, entries_sends, fixed_number, leaf_entries, selector_entries, sent_number, size, size_all, size_sends, variable_entries}
use Rattle.s80_core.proofs.lemmas.FitAll.{core_fits, fits_small}
use Rattle.s80_compile.specs.Compiles.{AreFirsts, IsCodeOf, is_extended, last_entries, goes_to_super}
use Rattle.s80_compile.specs.Sent.{AreWellSent, IsWellSent}
use Rattle.s80_compile.proofs.lemmas.SentCore.{core_sent}
use Rattle.s80_verify.specs.Fault.{IsVerified}
use Rattle.s80_verify.specs.Header.{IsExtended, IsShort}
use Rattle.s80_verify.specs.Record.{HasDepths}
use Rattle.s80_change.specs.Check.{IsCheckOf, size_refusal, too_large}
use Rattle.s80_class.specs.Classes.{Name, Classes}
use Rattle.s80_method.specs.Code.{IsMethodCode}
use Rattle.s80_method.specs.Shape.{shape_of}
use Rattle.s80_image.specs.Methods.{CodeView, code, code_of, frame}
use Rattle.s80_image.specs.Parts.{flag}
use Rattle.s80_image.specs.Format.{byte, pair, text}
use Rattle.s80_snapshot.proofs.BriefTrees.{method_brief}
use Rattle.s80_snapshot.proofs.GoodEntries.{AreGood, AreGoodBindings, IsGoodClass, elaborated_good, good_both}
use Rattle.s80_snapshot.proofs.LawfulEntries.{flag_passes, frame_passes}
use Rattle.s80_snapshot.proofs.PassingFormats.{Passes, byte_passes, pair_passes, text_passes}

-- ---- a source that fits has a tree that fits

above_cut : (limit n : ℕ) → limit < 2 ^ 32 - 1 → nat_lt limit (cut n) ≡ false → nat_lt limit n ≡ false
above_cut limit n low is = grind (arith, nat_tests)

passed : (b : Bool) (k : FitKind) (n : ℕ) (rest : Fit) → cond b (fits.TooMuch k n) rest ≡ fits.Fits → (b ≡ false) × (rest ≡ fits.Fits)
passed true k n rest h = absurd (let bad : fits.TooMuch k n ≡ fits.Fits = h in cc)
passed false k n rest h = (refl, h)

passes : (b : Bool) (k : FitKind) (n : ℕ) (rest : Fit) → b ≡ false → rest ≡ fits.Fits → cond b (fits.TooMuch k n) rest ≡ fits.Fits
passes b k n rest is h = ap (λ c. cond c (fits.TooMuch k n) rest) is ∙ h

uncut : (m : Measures) → fit (cut_measures m) ≡ fits.Fits → fit m ≡ fits.Fits
uncut m h =
    let a = passed (nat_lt 60 (cut m.literals)) kind.Literals (cut m.literals) _ h in
    let b = passed (nat_lt 31 (cut m.temporaries)) kind.Temporaries (cut m.temporaries) _ a.1 in
    let c = passed (nat_lt 32 (cut m.stack)) kind.Stack (cut m.stack) _ b.1 in
    let d = passed (nat_lt 1000 (cut m.weight)) kind.Weight (cut m.weight) _ c.1 in
    passes (nat_lt 60 m.literals) kind.Literals m.literals _ (above_cut 60 m.literals (omega arith) a.0)
    (passes (nat_lt 31 m.temporaries) kind.Temporaries m.temporaries _ (above_cut 31 m.temporaries (omega arith) b.0)
    (passes (nat_lt 32 m.stack) kind.Stack m.stack _ (above_cut 32 m.stack (omega arith) c.0)
    (passes (nat_lt 1000 m.weight) kind.Weight m.weight fits.Fits (above_cut 1000 m.weight (omega arith) d.0) refl)))

not_refused : (f : Fit) → too_large f ≡ None → f ≡ fits.Fits
not_refused fits.Fits h = refl
not_refused (fits.TooMuch k n) h = absurd (cc h)

no_refusal : (source selector : List ℕ) (m : MethodParts) → IsMethodOf source m → IsCheckOf source (Ok selector) → size_refusal m ≡ None
no_refusal source selector m is (n, also, none, same) = subst (λ (x : MethodParts). size_refusal x ≡ None) (one_method_of source n m also is) none

tree_fits : (source selector : List ℕ) (m : MethodParts) → IsMethodOf source m → IsCheckOf source (Ok selector) → fit (measures m) ≡ fits.Fits
tree_fits source selector m is check = uncut (measures m) (not_refused (fit (cut_measures (measures m))) (no_refusal source selector m is check))

-- ---- how many entries there are

option_few : (o : Option ℕ) (e : EntryTree) → length (option_map_or (λ (n : ℕ). []) o (e ∷ [])) ≤ 1
option_few None e = omega arith
option_few (Some n) e = omega arith

variable_few : (v : VariableTree) → length (variable_entries v) ≤ 1
variable_few (temporary n) = omega arith
variable_few (instance n) = omega arith
variable_few (class_variable class word) = omega arith
variable_few (outer word) = omega arith

constant_few : (v : LiteralTree) → length (constant_entries v) ≤ 1
constant_few v = option_few (fixed_number v) (constant v)

selector_few : (b : Bool) (s : List ℕ) → length (selector_entries b s) ≤ 1
selector_few b s = option_few (sent_number b s) (constant (symbol s))

leaf_few : (l : LeafTree) → length (leaf_entries l) ≤ 1
leaf_few (variable v) = variable_few v
leaf_few (constant_leaf v) = constant_few v
leaf_few receiver = omega arith
leaf_few context = omega arith

mutual
  core_few : (p : Position) (c : CoreTree) → length (entries c) ≤ size p c
  core_few p (leaf l) = omega (arith, leaf_few l)
  core_few p (assign v e) = omega (arith, core_few Value e, variable_few v, length-append (entries e) (variable_entries v))
  core_few p (value e) = omega (arith, core_few Value e)
  core_few p (send r to_super s es) =
      omega (arith, core_few Value r, all_few es, selector_few to_super s, length-append (entries r) (entries_all es ++ selector_entries to_super s), length-append (entries_all es) (selector_entries to_super s))
  core_few p (cascade r to_super ms) = omega (arith, core_few Value r, sends_few to_super ms, length-append (entries r) (entries_sends to_super ms))
  core_few p (real_block first n e) = omega (arith, core_few Effect e, constant_few (small (pos n)), length-append (constant_entries (small (pos n))) (entries e))
  core_few p (two_arms on c a b) = omega (arith, core_few Value c, core_few p a, core_few p b, length-append (entries c) (entries a ++ entries b), length-append (entries a) (entries b))
  core_few Value (one_arm on c a) = omega (arith, core_few Value c, core_few Value a, length-append (entries c) (entries a))
  core_few Effect (one_arm on c a) = omega (arith, core_few Value c, core_few Effect a, length-append (entries c) (entries a))
  core_few p (shortcut on c a) = omega (arith, core_few Value c, core_few Value a, length-append (entries c) (entries a))
  core_few p (repeat on c e) = omega (arith, core_few Value c, core_few Effect e, length-append (entries c) (entries e))
  core_few p nothing = omega arith
  core_few p (before a b) = omega (arith, core_few Effect a, core_few p b, length-append (entries a) (entries b))
  core_few p (answer e) = omega (arith, core_few Value e)
  core_few p (answer_fixed n) = omega arith
  core_few p (leave e) = omega (arith, core_few Value e)

  all_few : (es : CoreTrees) → length (entries_all es) ≤ size_all es
  all_few no_cores = omega arith
  all_few (cores c cs) = omega (arith, core_few Value c, all_few cs, length-append (entries c) (entries_all cs))

  sends_few : (b : Bool) (ms : SendTrees) → length (entries_sends b ms) ≤ size_sends ms
  sends_few b no_sends = omega arith
  sends_few b (sends s es no_sends) =
      omega (arith, all_few es, selector_few b s, length-append (entries_all es ++ selector_entries b s) [], length-append (entries_all es) (selector_entries b s))
  sends_few b (sends s es (sends s' es' ms)) =
      omega (arith, all_few es, selector_few b s, sends_few b (sends s' es' ms), length-append (entries_all es ++ selector_entries b s) (entries_sends b (sends s' es' ms)), length-append (entries_all es) (selector_entries b s))

-- ---- the entries of a code

firsts_few : (seen es firsts : List EntryTree) → AreFirsts seen es firsts → length firsts ≤ length es
firsts_few seen [] firsts is = omega (arith, ap (λ (l : List EntryTree). length l) is)
firsts_few seen (e ∷ es) firsts (inl is) = omega (arith, firsts_few seen es firsts is.1)
firsts_few seen (e ∷ es) firsts (inr is) = omega (arith, ap (λ (l : List EntryTree). length l) is.1.1, firsts_few (seen ++ e ∷ []) es is.1.0 is.1.2)

firsts_good : (seen es firsts : List EntryTree) → AreFirsts seen es firsts → AreGood es → AreGood firsts
firsts_good seen [] firsts is good = subst AreGood (sym is) tt
firsts_good seen (e ∷ es) firsts (inl is) good = firsts_good seen es firsts is.1 good.1
firsts_good seen (e ∷ es) firsts (inr is) good = subst AreGood (sym is.1.1) (good.0, firsts_good (seen ++ e ∷ []) es is.1.0 is.1.2 good.1)

last_good : (m : MethodParts) (core : CoreTree) (class : List ℕ) (side : Side) → length m.parameters ≤ 31 → m.primitive ≤ 255 → IsGoodClass class
    → AreGood (last_entries m core class side) × (length (last_entries m core class side) ≤ 2)
last_good m core class side few primitive good = go (is_extended m) (goes_to_super core)
  where
    go : (a b : Bool) → AreGood (cond a (extension (length m.parameters * 256 + m.primitive) ∷ owner class side ∷ []) (cond b (owner class side ∷ []) []))
        × (length (cond a (extension (length m.parameters * 256 + m.primitive) ∷ owner class side ∷ []) (cond b (owner class side ∷ []) [])) ≤ 2)
    go true b = ((omega (arith, few, primitive), (good, tt)), omega arith)
    go false true = ((good, tt), omega arith)
    go false false = (tt, omega arith)

flag_small : (code : Code) → IsShort code ⊎ IsExtended code → code.flag < 256
flag_small code (inl short) = omega (arith, short.few)
flag_small code (inr extended) = omega (arith, extended.flagged)

-- ---- lawful codes

code_passes : (c : CodeView) → c.flag < 256 → c.arguments < 256 → c.primitive < 256 → c.temporaries < 256 → Passes frame c.entries → length c.bytes < 2 ^ 32
    → Passes code c
unfolding code
code_passes c flag_in arguments primitive temporaries_in entries_in bytes_in =
    pair_passes byte (λ _. pair byte (λ _. pair byte (λ _. pair byte (λ _. pair flag (λ _. pair frame (λ _. text))))))
    (c.flag, (c.arguments, (c.primitive, (c.temporaries, (c.large, (c.entries, c.bytes)))))) (byte_passes c.flag flag_in)
    (pair_passes byte (λ _. pair byte (λ _. pair byte (λ _. pair flag (λ _. pair frame (λ _. text)))))
    (c.arguments, (c.primitive, (c.temporaries, (c.large, (c.entries, c.bytes))))) (byte_passes c.arguments arguments)
    (pair_passes byte (λ _. pair byte (λ _. pair flag (λ _. pair frame (λ _. text))))
    (c.primitive, (c.temporaries, (c.large, (c.entries, c.bytes)))) (byte_passes c.primitive primitive)
    (pair_passes byte (λ _. pair flag (λ _. pair frame (λ _. text)))
    (c.temporaries, (c.large, (c.entries, c.bytes))) (byte_passes c.temporaries temporaries_in)
    (pair_passes flag (λ _. pair frame (λ _. text)) (c.large, (c.entries, c.bytes)) (flag_passes c.large)
    (pair_passes frame (λ _. text) (c.entries, c.bytes) entries_in (text_passes c.bytes bytes_in))))))

-- laws of compiled code
pub record CodeLaws : Type 0 where
  pub related : (m : MethodParts) (core : CoreTree) (class : List ℕ) (side : Side) (code : Code) → CoreFits (temporaries m) (stack m) core → stack m ≤ 32
      → temporaries m ≤ 31 → IsWellSent core → IsCodeOf m core class side code → HasDepths code
  pub arms : (m : MethodParts) → AreWellSent m → HaveArms m
  pub sent : (source : List ℕ) (m : MethodParts) → IsMethodOf source m → AreWellSent m
  pub verify : (code : Code) → HasDepths code → IsVerified code

module _ (laws : CodeLaws) (classes : Classes) (name : Name) (side : Side) (selector source : List ℕ) (is_code : Code) (check : IsCheckOf source (Ok selector))
    (few : length (shape_of classes name side).inst_vars ≤ 64)
    (has : IsMethodCode classes name side selector source is_code) where
  abbrev tree : MethodParts
  tree = has.tree

  abbrev core : CoreTree
  core = elaborated has.tree (shape_of classes name side)

  sent_well : AreWellSent tree
  sent_well = laws.sent source tree has.tree_is

  fitting : fit (measures tree) ≡ fits.Fits
  fitting = tree_fits source selector tree has.tree_is check

  core_fitting : CoreFits (temporaries tree) (stack tree) core
  core_fitting = core_fits tree (shape_of classes name side) fitting (method_in_order source tree has.tree_is) (laws.arms tree sent_well) few

  depths : HasDepths is_code
  depths =
      let small_measures = fits_small (measures tree) fitting in
      laws.related tree core name side is_code core_fitting small_measures.stack small_measures.temporaries (core_sent tree (shape_of classes name side) sent_well) has.compiles

  pub code_verified : IsVerified is_code
  code_verified = laws.verify is_code depths

  pub code_lawful : length source ≤ 65535 → IsGoodClass name → AreGoodBindings (shape_of classes name side).class_vars → Passes code (code_of is_code)
  code_lawful short good bindings =
      let brief = method_brief source tree short has.tree_is in
      let header = depths.header in
      let arguments : is_code.arguments ≤ 31 = omega (arith, header.arguments, header.temporaries) in
      let parameters : length tree.parameters ≤ 31 = omega (arith, arguments, has.compiles.arguments) in
      let last = last_good tree core name side parameters brief.primitive good in
      let plain = has.compiles.plain in
      let plain_good = firsts_good [] (entries core) plain has.compiles.firsts (elaborated_good tree (shape_of classes name side) bindings brief.body) in
      let plain_few = firsts_few [] (entries core) plain has.compiles.firsts in
      let core_small : length (entries core) ≤ 1023 = omega (arith, core_few Effect core, core_fitting.size) in
      let few_entries : length (entries_of is_code.literals) < 2 ^ 32 =
      omega (arith, ap (λ (l : List EntryTree). length l) has.compiles.frame, length-append plain (last_entries tree core name side), last.1, plain_few, core_small) in
      let good_entries : AreGood (entries_of is_code.literals) = subst AreGood (sym has.compiles.frame) (good_both plain (last_entries tree core name side) plain_good last.0) in
      code_passes (code_of is_code) (flag_small is_code header.flag) (omega (arith, arguments)) (omega (arith, has.compiles.primitive, brief.primitive)) (omega (arith, header.temporaries))
      (frame_passes (entries_of is_code.literals) few_entries good_entries) (omega (arith, depths.short))
