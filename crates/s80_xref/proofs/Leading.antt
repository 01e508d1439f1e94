-- What the code of a tree sends, one instruction behind another.
use Rattle.std.proofs.Common.{◌≡◌, ◌∙◌, ap, sym, subst, refl, ℕ, zero, suc, ◌+◌, ◌-◌, ◌≤◌, ◌==◌, ◌||◌, ℤ, pos, List, [], ◌∷◌, ◌++◌, length, drop, slice_get, flat_map, Bool, true, false, Option, Some, None, cond, option_and_then, drop-drop, length-drop, append_assoc, arith}
use Rattle.std.specs.Option.{option_map_or}
use Rattle.std.specs.List.{list_any}
use Rattle.std.proofs.lemmas.Bool.Decides.{nat_tests}
use Rattle.std.proofs.lemmas.List.Folds.{list_any-append}
use Rattle.std.proofs.lemmas.List.{append-nil, drop_all}
use Rattle.s80_base.specs.Literal.{LiteralTree, small, symbol}
use Rattle.s80_base.specs.declared.names.Side.{Side}
use Rattle.s80_code.specs.declared.code.Code.{Code}
use Rattle.s80_code.specs.declared.instruction.Storage.{Storage}
use Rattle.s80_code.specs.declared.instruction.Storage.TheVariants.{Temporary}
use Rattle.s80_code.specs.declared.instruction.Instruction.{Instruction}
use Rattle.s80_code.specs.declared.instruction.Instruction.TheVariants.{PopInto, PushFixed, ReturnFixed, ReturnTop, ReturnFromBlock, SendSpecial, Pop, Duplicate, PushContext, Jump}
use Rattle.s80_code.specs.Entries.{EntryTree, entries_of}
use Rattle.s80_code.specs.Entries as frame
use Rattle.s80_code.specs.Special.{block_copy, special_selectors, special_number}
use Rattle.s80_code.specs.Table.{Stands, decoded}
use Rattle.s80_code.specs.Spelling.{Written}
use Rattle.s80_code.proofs.lemmas.SpecialLemmas.{sent_is}
use Rattle.s80_code.proofs.lemmas.TableLemmas.{decodes}
use Rattle.s80_tree.specs.Tree.{MethodParts}
use Rattle.s80_scope.specs.declared.shape.Shape.{Shape}
use Rattle.s80_scope.specs.declared.fit.position.Position.{Position}
use Rattle.s80_scope.specs.declared.fit.position.Position.TheVariants.{Value, Effect}
use Rattle.s80_core.specs.Core.{VariableTree, LeafTree, variable, constant, receiver, context, CoreTree, CoreTrees, SendTrees, leaf, assign, value, send, cascade, real_block, two_arms, one_arm, shortcut, repeat, nothing, before, answer, answer_fixed, leave, no_cores, cores, no_sends, sends, count}
use Rattle.s80_core.specs.Elaborate.{elaborated}
use Rattle.s80_core.specs.Measures.{fixed_number, sent_number}
use Rattle.s80_verify.proofs.lemmas.PlaceLemmas.{goes_forward, ends_within}
use Rattle.s80_compile.specs.Compiles.{Compiles}
use Rattle.s80_compile.specs.Rows.{PushesConstant, Pushes, stored, Stores, send_of, SendsBy, SendsTo, jump_unless, One, Ends, NilFor, JumpsTo, Takes, shortcut_number, At, AllAt, SendsAt}
use Rattle.s80_xref.specs.Named.{messages, messages_all, messages_sent, symbol_in, sent_by, some, instructions, sent_in}

-- ---- from a place on

module _ (bytes : List ℕ) (entries : List EntryTree) where
  -- what an instruction sends
  abbrev pub sends_one : Instruction → List (List ℕ)
  sends_one i = some (sent_by entries i)

  -- what is sent by the instructions at the front of these bytes
  abbrev pub told : ℕ → List ℕ → List (List ℕ)
  told n left = flat_map sends_one (instructions n left)

  -- from a place to the end of the code this is sent
  abbrev pub From : List (List ℕ) → ℕ → Type 0
  From words p = (n : ℕ) → length bytes ≤ p + n → told n (drop p bytes) ≡ words

  -- from one place to another this is sent
  abbrev pub Leads : List (List ℕ) → ℕ → ℕ → Type 0
  Leads words p q = (more : List (List ℕ)) → From more q → From (words ++ more) p

  -- none stands behind the last byte, or where none is decoded
  pub ends_there : (p : ℕ) → decoded (drop p bytes) ≡ None → From [] p
  ends_there p none zero long = refl
  ends_there p none (suc n) long =
      ap (λ o. flat_map sends_one (option_map_or (λ d. d.0 ∷ instructions n (drop d.1 (drop p bytes))) o [])) none

  pub at_the_end : From [] (length bytes)
  at_the_end = ends_there (length bytes) (ap decoded (drop_all (length bytes) bytes (omega arith)))

  pub one_more : (i : Instruction) (p q : ℕ) → Stands bytes p i q → Leads (sends_one i) p q
  one_more i p q s more behind zero long = absurd (omega (arith, goes_forward bytes p i q s, ends_within bytes p i q s))
  one_more i p q s more behind (suc n) long =
      ap (λ o. flat_map sends_one (option_map_or (λ d. d.0 ∷ instructions n (drop d.1 (drop p bytes))) o [])) s.is_decoded
      ∙ ap (λ left. sends_one i ++ told n left) (drop-drop s.width p bytes ∙ ap (λ k. drop k bytes) (sym s.behind))
      ∙ ap (λ l. sends_one i ++ l) (behind n (omega (arith, goes_forward bytes p i q s, long)))

  -- ---- what is left to be looked at

  -- more steps than there are bytes tell no more
  same_told : (n k : ℕ) (left : List ℕ) → length left ≤ n → length left ≤ k → told n left ≡ told k left
  same_told zero zero left one two = refl
  same_told zero (suc k) [] one two = refl
  same_told zero (suc k) (b ∷ left) one two = absurd (omega (arith, one))
  same_told (suc n) zero [] one two = refl
  same_told (suc n) zero (b ∷ left) one two = absurd (omega (arith, two))
  same_told (suc n) (suc k) left one two =
      by_first (λ w less many. same_told n k (drop w left) (omega (arith, one, less, many)) (omega (arith, two, less, many))) (decoded left) refl
    where
      tell : ℕ → Option (Instruction × ℕ) → List (List ℕ)
      tell m o = flat_map sends_one (option_map_or (λ d. d.0 ∷ instructions m (drop d.1 left)) o [])

      by_first : ((w : ℕ) → 1 ≤ w → length (drop w left) ≡ length left - w → told n (drop w left) ≡ told k (drop w left))
          → (o : Option (Instruction × ℕ)) → decoded left ≡ o → tell n o ≡ tell k o
      by_first later None e = refl
      by_first later (Some (i, w)) e = ap (λ l. sends_one i ++ l) (later w (decodes left (i, w) e).some (length-drop w left))

  -- what is sent from a place on
  abbrev pub rest_sent : ℕ → List (List ℕ)
  rest_sent p = told (length bytes) (drop p bytes)

  exact : (p : ℕ) → From (rest_sent p) p
  exact p n long = same_told n (length bytes) (drop p bytes) (omega (arith, long, length-drop p bytes)) (omega (arith, length-drop p bytes))

  next_sent : (i : Instruction) (p w : ℕ) → decoded (drop p bytes) ≡ Some (i, w) → rest_sent p ≡ sends_one i ++ rest_sent (p + w)
  next_sent i p w e =
      one_more i p (p + w) (record { width = w; is_decoded = e; behind = refl }) (rest_sent (p + w)) (exact (p + w)) (length bytes) (omega arith)

  -- these are sent before a place
  pub noted : (words new all : List (List ℕ)) (i : Instruction) (p w : ℕ) → decoded (drop p bytes) ≡ Some (i, w) → new ≡ words ++ sends_one i
      → words ++ rest_sent p ≡ all → new ++ rest_sent (p + w) ≡ all
  noted words new all i p w e is so =
      ap (λ l. l ++ rest_sent (p + w)) is ∙ append_assoc words (sends_one i) (rest_sent (p + w)) ∙ ap (λ l. words ++ l) (sym (next_sent i p w e)) ∙ so

  -- none of those before a place passes a test
  tested : (test : List ℕ → Bool) (i : Instruction) (p w : ℕ) → decoded (drop p bytes) ≡ Some (i, w)
      → list_any test (rest_sent p) ≡ (list_any test (sends_one i) || list_any test (rest_sent (p + w)))
  tested test i p w e = ap (list_any test) (next_sent i p w e) ∙ list_any-append test (sends_one i) (rest_sent (p + w))

  pub passed_by : (test : List ℕ → Bool) (i : Instruction) (p w : ℕ) (passes all : Bool) → decoded (drop p bytes) ≡ Some (i, w) → passes ≡ list_any test (sends_one i) → passes ≡ false
      → list_any test (rest_sent p) ≡ all → list_any test (rest_sent (p + w)) ≡ all
  passed_by test i p w passes all e is fails so = ap (λ b. b || list_any test (rest_sent (p + w))) (sym fails ∙ is) ∙ sym (tested test i p w e) ∙ so

  -- ---- parts

  -- the same place
  still : (p q : ℕ) → p ≡ q → Leads [] p q
  still p q e more behind = subst (λ (k : ℕ). From more k) (sym e) behind

  quiet : (i : Instruction) (p q : ℕ) → sends_one i ≡ [] → Stands bytes p i q → Leads [] p q
  quiet i p q e s = subst (λ (w : List (List ℕ)). Leads w p q) e (one_more i p q s)

  -- one part behind another, and a part behind or before one that sends nothing
  both : (v w : List (List ℕ)) (p m q : ℕ) → Leads v p m → Leads w m q → Leads (v ++ w) p q
  both v w p m q one two more behind = subst (λ (l : List (List ℕ)). From l p) (sym (append_assoc v w more)) (one (w ++ more) (two more behind))

  ended : (v : List (List ℕ)) (p m q : ℕ) → Leads v p m → Leads [] m q → Leads v p q
  ended v p m q one two more behind = one more (two more behind)

  begun : (v : List (List ℕ)) (p m q : ℕ) → Leads [] p m → Leads v m q → Leads v p q
  begun v p m q one two more behind = one (v ++ more) (two more behind)

  -- ---- instructions

  at_once : (i : Instruction) (p q : ℕ) → sends_one i ≡ [] → Written bytes p i q → Leads [] p q
  at_once i p q e w = quiet i p q e w.stands

  constant_silent : (v : LiteralTree) (fixed : Option ℕ) (i : Instruction) → PushesConstant entries v fixed i → sends_one i ≡ []
  constant_silent v (Some number) i is = ap sends_one is
  constant_silent v None i (n, is, found) = ap sends_one is

  push_silent : (l : LeafTree) (i : Instruction) → Pushes entries l i → sends_one i ≡ []
  push_silent (variable v) i (s, is, holds) = ap sends_one is
  push_silent (constant v) i is = constant_silent v (fixed_number v) i is
  push_silent receiver i is = ap sends_one is
  push_silent context i is = ap sends_one is

  store_silent : (position : Position) (s : Storage) → sends_one (stored position s) ≡ []
  store_silent Value s = refl
  store_silent Effect s = refl

  jump_silent : (on : Bool) (distance : ℤ) → sends_one (jump_unless on distance) ≡ []
  jump_silent true distance = refl
  jump_silent false distance = refl

  -- a special message is that of its number
  special_one : (s : List ℕ) (number : ℕ) → special_number s ≡ Some number → sends_one (SendSpecial number) ≡ s ∷ []
  special_one s number e =
      let (here, other) = sent_is s number e in
      by_test (number == block_copy) (grind (arith, nat_tests)) here
    where
      by_test : (copy : Bool) → copy ≡ false → slice_get special_selectors number ≡ Some s → some (cond copy None (slice_get special_selectors number)) ≡ s ∷ []
      by_test true e here = cc
      by_test false e here = ap some here

  symbol_one : (to_super : Bool) (s : List ℕ) (n number : ℕ) → slice_get entries number ≡ Some (frame.constant (symbol s)) → sends_one (send_of to_super n number) ≡ s ∷ []
  symbol_one true s n number found = ap (λ o. some (option_and_then symbol_in o)) found
  symbol_one false s n number found = ap (λ o. some (option_and_then symbol_in o)) found

  send_one : (to_super : Bool) (s : List ℕ) (n : ℕ) (i : Instruction) → SendsTo entries to_super s n i → sends_one i ≡ s ∷ []
  send_one to_super s n i is = by_number to_super (sent_number to_super s) refl is
    where
      by_number : (to_super : Bool) (o : Option ℕ) → sent_number to_super s ≡ o → SendsBy entries to_super s n o i → sends_one i ≡ s ∷ []
      by_number to_super None e (number, is, found) = ap sends_one is ∙ symbol_one to_super s n number found
      by_number true (Some number) e is = cc
      by_number false (Some number) e is = ap sends_one is ∙ special_one s number e

  -- ---- rows

  ends : (position : Position) (p q : ℕ) → Ends bytes position p q → Leads [] p q
  ends Value p q e = still p q e
  ends Effect p q w = at_once Pop p q refl w

  nil_for : (position : Position) (p q : ℕ) → NilFor bytes position p q → Leads [] p q
  nil_for Value p q w = at_once (PushFixed 3) p q refl w
  nil_for Effect p q e = still p q e

  unless : (on : Bool) (to p q : ℕ) → JumpsTo bytes (jump_unless on) to p q → Leads [] p q
  unless on to p q j = at_once (jump_unless on j.distance) p q (jump_silent on j.distance) j.stands

  jump : (to p q : ℕ) → JumpsTo bytes Jump to p q → Leads [] p q
  jump to p q j = at_once (Jump j.distance) p q refl j.stands

  takes : (n first p q : ℕ) → Takes bytes first n p q → Leads [] p q
  takes zero first p q e = still p q e
  takes (suc n) first p q b = ended [] p b.mid q (takes n (suc first) p b.mid b.first) (at_once (PopInto (Temporary first)) b.mid q refl b.second)

  push : (l : LeafTree) (p q : ℕ) → One bytes (Pushes entries l) p q → Leads [] p q
  push l p q o = at_once o.instruction p q (push_silent l o.instruction o.is) o.stands

  store : (v : VariableTree) (position : Position) (p q : ℕ) → One bytes (Stores entries v position) p q → Leads [] p q
  store v position p q o = at_once o.instruction p q (ap sends_one o.is.1 ∙ store_silent position o.is.0) o.stands

  sent : (to_super : Bool) (s : List ℕ) (n p q : ℕ) → One bytes (SendsTo entries to_super s n) p q → Leads (s ∷ []) p q
  sent to_super s n p q o =
      subst (λ (w : List (List ℕ)). Leads w p q) (send_one to_super s n o.instruction o.is) (one_more o.instruction p q o.stands.stands)

  mutual
    pub tells : (c : CoreTree) (position : Position) (p q : ℕ) → At bytes entries c position p q → Leads (messages c) p q
    tells (leaf l) position p q b = ended [] p b.mid q (push l p b.mid b.first) (ends position b.mid q b.second)
    tells (assign v e) position p q b = ended (messages e) p b.mid q (tells e Value p b.mid b.first) (store v position b.mid q b.second)
    tells (value e) position p q b = ended (messages e) p b.mid q (tells e Value p b.mid b.first) (ends position b.mid q b.second)
    tells (send r to_super s es) position p q b =
        let rest = b.second in
        let last = rest.second in
        both (messages r) (messages_all es ++ s ∷ []) p b.mid q (tells r Value p b.mid b.first)
        (both (messages_all es) (s ∷ []) b.mid rest.mid q (all_tell es b.mid rest.mid rest.first)
        (ended (s ∷ []) rest.mid last.mid q (sent to_super s (count es) rest.mid last.mid last.first) (ends position last.mid q last.second)))
    tells (cascade r to_super ms) position p q b =
        let rest = b.second in
        both (messages r) (messages_sent ms) p b.mid q (tells r Value p b.mid b.first)
        (ended (messages_sent ms) b.mid rest.mid q (sends_tell to_super ms b.mid rest.mid rest.first) (ends position rest.mid q rest.second))
    tells (real_block first n e) position p q m =
        begun (messages e) p m.push q (at_once PushContext p m.push refl m.context)
        (begun (messages e) m.push m.copy q (push (constant (small (pos n))) m.push m.copy m.parameters)
        (begun (messages e) m.copy m.jump q (at_once (SendSpecial block_copy) m.copy m.jump refl m.copies)
        (begun (messages e) m.jump m.start q (quiet (Jump (pos m.over.distance)) m.jump m.start refl m.over.stands)
        (begun (messages e) m.start m.body_at q (takes n first m.start m.body_at m.takes)
        (ended (messages e) m.body_at m.after q (tells e Effect m.body_at m.after m.body) (ends position m.after q m.ending))))))
    tells (two_arms on c a b) position p q h =
        both (messages c) (messages a ++ messages b) p h.test q (tells c Value p h.test h.condition)
        (begun (messages a ++ messages b) h.test h.first_at q (unless on h.second_at h.test h.first_at h.unless)
        (both (messages a) (messages b) h.first_at h.over q (tells a position h.first_at h.over h.first)
        (begun (messages b) h.over h.second_at q (jump q h.over h.second_at h.past) (tells b position h.second_at q h.second))))
    tells (one_arm on c a) Value p q h =
        both (messages c) (messages a) p h.test q (tells c Value p h.test h.condition)
        (begun (messages a) h.test h.first_at q (unless on h.second_at h.test h.first_at h.unless)
        (ended (messages a) h.first_at h.over q (tells a Value h.first_at h.over h.first)
        (begun [] h.over h.second_at q (jump q h.over h.second_at h.past) (nil_for Value h.second_at q h.second))))
    tells (one_arm on c a) Effect p q h =
        both (messages c) (messages a) p h.test q (tells c Value p h.test h.condition)
        (begun (messages a) h.test h.arm_at q (unless on q h.test h.arm_at h.unless) (tells a Effect h.arm_at q h.arm))
    tells (shortcut on c a) position p q b =
        let h = b.first in
        ended (messages c ++ messages a) p b.mid q
        (both (messages c) (messages a) p h.test b.mid (tells c Value p h.test h.condition)
        (begun (messages a) h.test h.first_at b.mid (unless on h.second_at h.test h.first_at h.unless)
        (ended (messages a) h.first_at h.over b.mid (tells a Value h.first_at h.over h.first)
        (begun [] h.over h.second_at b.mid (jump b.mid h.over h.second_at h.past) (at_once (PushFixed (shortcut_number on)) h.second_at b.mid refl h.second)))))
        (ends position b.mid q b.second)
    tells (repeat on c e) position p q h =
        both (messages c) (messages e) p h.test q (tells c Value p h.test h.condition)
        (begun (messages e) h.test h.body_at q (unless on h.done h.test h.body_at h.unless)
        (ended (messages e) h.body_at h.over q (tells e Effect h.body_at h.over h.body)
        (begun [] h.over h.done q (jump p h.over h.done h.back) (nil_for position h.done q h.leaves))))
    tells nothing position p q h = nil_for position p q h
    tells (before a b) position p q h = both (messages a) (messages b) p h.mid q (tells a Effect p h.mid h.first) (tells b position h.mid q h.second)
    tells (answer e) position p q h = ended (messages e) p h.mid q (tells e Value p h.mid h.first) (at_once ReturnTop h.mid q refl h.second)
    tells (answer_fixed n) position p q w = at_once (ReturnFixed n) p q refl w
    tells (leave e) position p q h = ended (messages e) p h.mid q (tells e Value p h.mid h.first) (at_once ReturnFromBlock h.mid q refl h.second)

    all_tell : (cs : CoreTrees) (p q : ℕ) → AllAt bytes entries cs p q → Leads (messages_all cs) p q
    all_tell no_cores p q e = still p q e
    all_tell (cores c cs) p q b = both (messages c) (messages_all cs) p b.mid q (tells c Value p b.mid b.first) (all_tell cs b.mid q b.second)

    sends_tell : (to_super : Bool) (ms : SendTrees) (p q : ℕ) → SendsAt bytes entries to_super ms p q → Leads (messages_sent ms) p q
    sends_tell to_super no_sends p q e = still p q e
    sends_tell to_super (sends s es no_sends) p q b =
        both (messages_all es) (s ∷ []) p b.mid q (all_tell es p b.mid b.first) (sent to_super s (count es) b.mid q b.second)
    sends_tell to_super (sends s es (sends t fs ms)) p q b =
        let one = b.second in
        let two = one.second in
        let three = two.second in
        let rest = messages_sent (sends t fs ms) in
        begun (messages_all es ++ s ∷ rest) p b.mid q (at_once Duplicate p b.mid refl b.first)
        (both (messages_all es) (s ∷ rest) b.mid one.mid q (all_tell es b.mid one.mid one.first)
        (both (s ∷ []) rest one.mid two.mid q (sent to_super s (count es) one.mid two.mid two.first)
        (begun rest two.mid three.mid q (at_once Pop two.mid three.mid refl three.first) (sends_tell to_super (sends t fs ms) three.mid q three.second))))

-- ---- a whole code

pub code_sends : (m : MethodParts) (shape : Shape) (class : List ℕ) (side : Side) (code : Code) → Compiles m shape class side code → sent_in code ≡ messages (elaborated m shape)
code_sends m shape class side code is =
    let core = elaborated m shape in
    let bytes = code.bytes in
    let entries = entries_of code.literals in
    tells bytes entries core Effect 0 (length bytes) is.body [] (at_the_end bytes entries) (length bytes) (omega arith) ∙ append-nil (messages core)
