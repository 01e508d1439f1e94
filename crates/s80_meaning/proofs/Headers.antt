-- What a code's header and its blocks' jumps say: what a method names, which of these a literal is, and where a real block begins.
use Rattle.std.proofs.Common.{◌≡◌, ℕ, zero, suc, ◌+◌, ◌-◌, ◌*◌, ◌/◌, ◌%◌, ◌<◌, ◌≤◌, ◌⊎◌, inl, inr, ℤ, pos, ◌+ℤ◌, ◌-ℤ◌, ◌*ℤ◌, List, [], ◌∷◌, ◌++◌, Bool, true, false, cond, not, drop, Option, Some, None, refl, sym, ap, ◌∙◌, subst, arith}
use Rattle.std.specs.Prelude.{slice_get, if◌then◌else◌}
use Rattle.std.specs.List.{All, Contains, list_any, position_or_len}
use Rattle.std.specs.Option.{option_map_or}
use Rattle.std.proofs.lemmas.List.Elements.{All-nil, All-cons, All-head, All-tail, All-append, Contains-push, Contains-append_left}
use Rattle.std.proofs.lemmas.List.Folds.{Any-from_list_any, list_any_at}
use Rattle.s80_base.specs.declared.names.Side.{Side}
use Rattle.s80_base.specs.Literal.{LiteralTree, small, symbol}
use Rattle.s80_code.specs.declared.code.Code.{Code}
use Rattle.s80_code.specs.declared.instruction.Instruction.{Instruction}
use Rattle.s80_code.specs.declared.instruction.Instruction.TheVariants.{Jump}
use Rattle.s80_code.specs.Entries.{EntryTree, constant, class_variable, outer, owner, extension, entries_of}
use Rattle.s80_code.specs.Table.{Stands, decoded, formed, row, with_one}
use Rattle.s80_code.proofs.lemmas.SpellingLemmas.{first_byte}
use Rattle.s80_compile.specs.Rows.{JumpsOver}
use Rattle.s80_code.proofs.lemmas.TableLemmas.{value, row_law}
use Rattle.s80_verify.proofs.lemmas.PlaceLemmas.{front_at}
use Rattle.s80_tree.specs.Tree.{MethodParts}
use Rattle.s80_core.specs.Core as core
use Rattle.s80_core.specs.Core.{VariableTree, LeafTree, CoreTree, CoreTrees, SendTrees}
use Rattle.s80_core.specs.Measures.{entries, entries_all, entries_sends, leaf_entries, variable_entries, constant_entries, selector_entries, fixed_number, sent_number}
use Rattle.s80_compile.specs.Same.{IsNamed, same_entry}
use Rattle.s80_compile.proofs.Sameness.{entry_is_same, entry_looks_same}
use Rattle.s80_compile.specs.Compiles.{AreFirsts, IsCodeOf, last_entries, is_extended, goes_to_super}
use Rattle.s80_meaning.specs.Tree.{firsts, place_of, meant_by}

-- ---- the entries of a tree are such as code names

not_named : (o : Option ℕ) (e : EntryTree) → IsNamed e → All IsNamed (option_map_or (λ (n : ℕ). []) o (e ∷ []))
not_named None e h = All-cons IsNamed e [] h (All-nil IsNamed)
not_named (Some n) e h = All-nil IsNamed

constants_named : (l : LiteralTree) → All IsNamed (constant_entries l)
constants_named l = not_named (fixed_number l) (constant l) tt

selectors_named : (to_super : Bool) (s : List ℕ) → All IsNamed (selector_entries to_super s)
selectors_named to_super s = not_named (sent_number to_super s) (constant (symbol s)) tt

variables_named : (v : VariableTree) → All IsNamed (variable_entries v)
variables_named (core.temporary n) = All-nil IsNamed
variables_named (core.instance n) = All-nil IsNamed
variables_named (core.class_variable class word) = All-cons IsNamed (class_variable class word) [] tt (All-nil IsNamed)
variables_named (core.outer word) = All-cons IsNamed (outer word) [] tt (All-nil IsNamed)

leaves_named : (l : LeafTree) → All IsNamed (leaf_entries l)
leaves_named (core.variable v) = variables_named v
leaves_named (core.constant l) = constants_named l
leaves_named core.receiver = All-nil IsNamed
leaves_named core.context = All-nil IsNamed

both_named : (xs ys : List EntryTree) → All IsNamed xs → All IsNamed ys → All IsNamed (xs ++ ys)
both_named xs ys h g = All-append IsNamed xs ys h g

mutual
  pub entries_named : (c : CoreTree) → All IsNamed (entries c)
  entries_named (core.leaf l) = leaves_named l
  entries_named (core.assign v e) = both_named (entries e) (variable_entries v) (entries_named e) (variables_named v)
  entries_named (core.value e) = entries_named e
  entries_named (core.send r to_super s es) =
      both_named (entries r) (entries_all es ++ selector_entries to_super s) (entries_named r)
      (both_named (entries_all es) (selector_entries to_super s) (all_named es) (selectors_named to_super s))
  entries_named (core.cascade r to_super ms) = both_named (entries r) (entries_sends to_super ms) (entries_named r) (sends_named to_super ms)
  entries_named (core.real_block first n e) = both_named (constant_entries (small (pos n))) (entries e) (constants_named (small (pos n))) (entries_named e)
  entries_named (core.two_arms on c a b) =
      both_named (entries c) (entries a ++ entries b) (entries_named c) (both_named (entries a) (entries b) (entries_named a) (entries_named b))
  entries_named (core.one_arm on c a) = both_named (entries c) (entries a) (entries_named c) (entries_named a)
  entries_named (core.shortcut on c a) = both_named (entries c) (entries a) (entries_named c) (entries_named a)
  entries_named (core.repeat on c e) = both_named (entries c) (entries e) (entries_named c) (entries_named e)
  entries_named core.nothing = All-nil IsNamed
  entries_named (core.before a b) = both_named (entries a) (entries b) (entries_named a) (entries_named b)
  entries_named (core.answer e) = entries_named e
  entries_named (core.answer_fixed n) = All-nil IsNamed
  entries_named (core.leave e) = entries_named e

  all_named : (es : CoreTrees) → All IsNamed (entries_all es)
  all_named core.no_cores = All-nil IsNamed
  all_named (core.cores c cs) = both_named (entries c) (entries_all cs) (entries_named c) (all_named cs)

  sends_named : (to_super : Bool) (ms : SendTrees) → All IsNamed (entries_sends to_super ms)
  sends_named to_super core.no_sends = All-nil IsNamed
  sends_named to_super (core.sends s es ms) =
      both_named (entries_all es ++ selector_entries to_super s) (entries_sends to_super ms)
      (both_named (entries_all es) (selector_entries to_super s) (all_named es) (selectors_named to_super s)) (sends_named to_super ms)

-- ---- those that come first

seen_any : (seen : List EntryTree) (e : EntryTree) → IsNamed e → Contains seen e → list_any (same_entry e) seen ≡ true
seen_any seen e named (k, within, is) = list_any_at (same_entry e) seen k e within (ap (same_entry e) is ∙ entry_looks_same e named)

any_seen : (seen : List EntryTree) (e : EntryTree) → list_any (same_entry e) seen ≡ true → Contains seen e
any_seen seen e h =
    let a = Any-from_list_any (same_entry e) seen h in
    subst (λ (x : EntryTree). Contains seen x) (sym (entry_is_same e a.1 a.4)) (a.0, a.2, a.3)

not_true : (b : Bool) → (b ≡ true → ⊥) → b ≡ false
not_true true h = absurd (h refl)
not_true false h = refl

fresh_any : (seen : List EntryTree) (e : EntryTree) → (Contains seen e → ⊥) → list_any (same_entry e) seen ≡ false
fresh_any seen e h = not_true (list_any (same_entry e) seen) (λ is. h (any_seen seen e is))

-- where each can be told from the others
pub firsts_are : (seen es fs : List EntryTree) → All IsNamed es → AreFirsts seen es fs → fs ≡ firsts seen es
firsts_are seen [] fs named are = are
firsts_are seen (e ∷ es) fs named (inl (there, more)) =
    firsts_are seen es fs (All-tail IsNamed e es named) more
    ∙ ap (λ (b : Bool). if b then firsts seen es else e ∷ firsts (seen ++ e ∷ []) es) (sym (seen_any seen e (All-head IsNamed e es named) there))
firsts_are seen (e ∷ es) fs named (inr (fresh, (rest, is, more))) =
    is ∙ ap (λ x. e ∷ x) (firsts_are (seen ++ e ∷ []) es rest (All-tail IsNamed e es named) more)
    ∙ ap (λ (b : Bool). if b then firsts seen es else e ∷ firsts (seen ++ e ∷ []) es) (sym (fresh_any seen e fresh))

no_item : (k : ℕ) (x : EntryTree) → slice_get [] k ≡ Some x → ⊥
no_item k x e = cc

fresh_next : (seen rest : List EntryTree) (e x : EntryTree) → (Contains seen e → ⊥) → Contains seen x → ((k : ℕ) → slice_get rest k ≡ Some x → Contains (seen ++ e ∷ []) x → ⊥)
    → (k : ℕ) → slice_get (e ∷ rest) k ≡ Some x → ⊥
fresh_next seen rest e x fresh there more zero is = let same : x ≡ e = cc in fresh (subst (λ (y : EntryTree). Contains seen y) same there)
fresh_next seen rest e x fresh there more (suc k) is = more k is (Contains-append_left seen (e ∷ []) x there)

-- none of them was seen before
first_fresh : (seen es fs : List EntryTree) → AreFirsts seen es fs → (k : ℕ) (x : EntryTree) → slice_get fs k ≡ Some x → Contains seen x → ⊥
first_fresh seen [] fs are k x is there = no_item k x (ap (λ (l : List EntryTree). slice_get l k) (sym are) ∙ is)
first_fresh seen (e ∷ es) fs (inl (old, more)) k x is there = first_fresh seen es fs more k x is there
first_fresh seen (e ∷ es) fs (inr (fresh, (rest, are, more))) k x is there =
    fresh_next seen rest e x fresh there (λ k is there. first_fresh (seen ++ e ∷ []) es rest more k x is there) k (ap (λ (l : List EntryTree). slice_get l k) (sym are) ∙ is)

at_next : (rest : List EntryTree) (e x : EntryTree) → IsNamed x → ((k : ℕ) → slice_get rest k ≡ Some x → e ≡ x → ⊥) → ((k : ℕ) → slice_get rest k ≡ Some x → position_or_len (same_entry x) rest ≡ k)
    → (k : ℕ) → slice_get (e ∷ rest) k ≡ Some x → position_or_len (same_entry x) (e ∷ rest) ≡ k
at_next rest e x named other more zero is =
    let same : e ≡ x = cc in
    ap (λ (b : Bool). cond (not b) (1 + position_or_len (same_entry x) rest) 0) (ap (same_entry x) same ∙ entry_looks_same x named)
at_next rest e x named other more (suc k) is =
    ap (λ (b : Bool). cond (not b) (1 + position_or_len (same_entry x) rest) 0) (not_true (same_entry x e) (λ same. other k is (sym (entry_is_same x e same))))
    ∙ omega (arith, more k is)

-- so each is found where it stands
first_at : (seen es fs : List EntryTree) → AreFirsts seen es fs → (k : ℕ) (x : EntryTree) → IsNamed x → slice_get fs k ≡ Some x → position_or_len (same_entry x) fs ≡ k
first_at seen [] fs are k x named is = absurd (no_item k x (ap (λ (l : List EntryTree). slice_get l k) (sym are) ∙ is))
first_at seen (e ∷ es) fs (inl (old, more)) k x named is = first_at seen es fs more k x named is
first_at seen (e ∷ es) fs (inr (fresh, (rest, are, more))) k x named is =
    ap (λ (l : List EntryTree). position_or_len (same_entry x) l) are
    ∙ at_next rest e x named
    (λ k is same. first_fresh (seen ++ e ∷ []) es rest more k x is (subst (λ (y : EntryTree). Contains (seen ++ e ∷ []) y) same (Contains-push seen e)))
    (λ k is. first_at (seen ++ e ∷ []) es rest more k x named is)
    k (ap (λ (l : List EntryTree). slice_get l k) (sym are) ∙ is)

-- ---- literals in the literal frame

get_appended : (xs ys : List EntryTree) (k : ℕ) (y : EntryTree) → slice_get (xs ++ ys) k ≡ Some y → (slice_get xs k ≡ Some y) ⊎ ((m : ℕ) × (slice_get ys m ≡ Some y))
get_appended [] ys k y is = inr (k, is)
get_appended (x ∷ xs) ys zero y is = inl is
get_appended (x ∷ xs) ys (suc k) y is = get_appended xs ys k y is

-- what the header asks for is no literal
none_last : (extended super_sent : Bool) (number : ℕ) (class : List ℕ) (side : Side) (k : ℕ) (l : LiteralTree)
    → slice_get (if extended then extension number ∷ owner class side ∷ [] else (if super_sent then owner class side ∷ [] else [])) k ≡ Some (constant l) → ⊥
none_last true super_sent number class side zero l e = cc
none_last true super_sent number class side (suc zero) l e = cc
none_last true super_sent number class side (suc (suc k)) l e = cc
none_last false true number class side zero l e = cc
none_last false true number class side (suc k) l e = cc
none_last false false number class side k l e = cc

pub literal_place : (m : MethodParts) (c : CoreTree) (class : List ℕ) (side : Side) (code : Code) → IsCodeOf m c class side code → (k : ℕ) (l : LiteralTree)
    → slice_get (entries_of code.literals) k ≡ Some (constant l) → k ≡ place_of l (meant_by m c).named
literal_place m c class side code is k l e =
    elim (get_appended is.plain (last_entries m c class side) k (constant l) (ap (λ (frame : List EntryTree). slice_get frame k) (sym is.frame) ∙ e)) [
      | inl first ↦
          sym (first_at [] (entries c) is.plain is.firsts k (constant l) tt first)
          ∙ ap (λ (named : List EntryTree). place_of l named) (firsts_are [] (entries c) is.plain (entries_named c) is.firsts)
      | inr last ↦ absurd (none_last (is_extended m) (goes_to_super c) _ class side last.0 l last.1)
    ]

-- ---- jumps over blocks

abbrev long : ℕ → ℕ → ℤ
long i b = (pos i -ℤ pos 4) *ℤ pos 256 +ℤ pos b

-- the pages from the place that follows on: there are four
pages : (q r : ℕ) → q < 4 → long (4 + q) r ≡ pos (q * 256 + r)
pages zero r h = refl
pages (suc zero) r h = refl
pages (suc (suc zero)) r h = refl
pages (suc (suc (suc zero))) r h = refl
pages (suc (suc (suc (suc q)))) r h = absurd (omega arith)

jump_same : (a b : ℤ) → Jump a ≡ Jump b → a ≡ b
jump_same a b e = cc

-- a jump of two bytes
two_wide : (i : ℕ) (behind : List ℕ) (distance : ℤ) (width : ℕ) → formed (with_one (λ i b. Jump (long i b))) i behind ≡ Some (Jump distance, width) → (width ≡ 2) × ((b : ℕ) × (distance ≡ long i b))
two_wide i [] distance width e = cc
two_wide i (b ∷ behind) distance width e = let p = value e in (ap (λ (x : Instruction × ℕ). x.1) (sym p), (b, jump_same distance (long i b) (ap (λ (x : Instruction × ℕ). x.0) (sym p))))

forward : (byte b : ℕ) → 164 ≤ byte → byte ≤ 167 → long (byte - 160) b ≡ pos ((byte - 164) * 256 + b)
forward byte b low high = let e : byte - 160 ≡ 4 + (byte - 164) = omega arith in ap (λ (i : ℕ). long i b) e ∙ pages (byte - 164) b (omega arith)

pub block_start : (bytes : List ℕ) (jump start byte : ℕ) (distance : ℤ) → Stands bytes jump (Jump distance) start → slice_get bytes jump ≡ Some byte → 164 ≤ byte → byte ≤ 167
    → (start ≡ jump + 2) × ((n : ℕ) × (distance ≡ pos n))
block_start bytes jump start byte distance stands begun low high =
    let behind : List ℕ = drop (suc jump) bytes in
    let is : formed (with_one (λ i b. Jump (long i b))) (byte - 160) behind ≡ Some (Jump distance, stands.width) =
    sym (row_law 22 byte (row 160 167 (with_one (λ i b. Jump (long i b)))) behind refl (omega (arith, low)) high)
    ∙ ap decoded (sym (front_at bytes jump byte begun)) ∙ stands.is_decoded in
    let t = two_wide (byte - 160) behind distance stands.width is in
    (omega (arith, t.0, stands.behind), ((byte - 164) * 256 + t.1.0, t.1.1 ∙ forward byte t.1.0 low high))

-- a jump over a block takes two bytes, and leads on
pub over_start : (bytes : List ℕ) (to p q : ℕ) (j : JumpsOver bytes to p q) → (q ≡ p + 2) × (q ≤ to)
over_start bytes to p q j =
    let begun = first_byte bytes (j.distance % 256 ∷ []) p q (164 + j.distance / 256) j.here in
    let start = block_start bytes p q (164 + j.distance / 256) (pos j.distance) j.stands begun (omega arith) (omega (arith, j.reach)) in
    (start.0, omega (arith, j.lands))
