-- The machine follows messages: the receiver, the arguments above it, and the send; and several messages to one receiver.
use Rattle.std.proofs.Common.{◌≡◌, ◌∙◌, ap, sym, subst, refl, ℕ, suc, ◌+◌, List, [], ◌∷◌, length, ◌++◌, slice_get, get_or, Bool, true, false, ◌≤◌, arith, Option, Some, None, option_and_then, if◌then◌else◌}
use Rattle.s80_code.specs.declared.instruction.Instruction.{Instruction}
use Rattle.s80_code.specs.declared.instruction.Instruction.TheVariants as instruction
use Rattle.s80_code.specs.Entries.{entries_of}
use Rattle.s80_code.specs.Spelling.{Written}
use Rattle.s80_object.specs.declared.value.Value.{Value}
use Rattle.s80_compile.specs.Rows.{SendsBy, SendsTo, One}
use Rattle.s80_machine.specs.World.{World, Key, doit, method, Activation}
use Rattle.s80_machine.specs.Turn.{State, Turn, message_off, selector_in, pushed_all, given}
use Rattle.s80_machine.specs.Step.{copy_turn, places_above, places_for, send_turn, sent, special_turn, super_turn}
use Rattle.s80_meaning.specs.Tree.{Trees, Sends, count, no_trees, trees, no_sends, sends}
use Rattle.s80_meaning.specs.Meaning.{Out, Gives, Answers, Returns, Stopped, Unfinished, and_then, Here}
use Rattle.s80_meaning.specs.Meaning as meaning
use Rattle.s80_meaning.proofs.Variables.{same_alike}
use Rattle.s80_code.specs.Special.{special_arguments, special_number}
use Rattle.s80_lex.specs.Selector.{IsSelectorOf}
use Rattle.s80_meaning.proofs.Counted.{special_is, special_takes}
use Rattle.s80_meaning.proofs.Corresponds.{Active, AllCodeAt, Deeper, Follows, Known, Leads, SendsCodeAt, Setting, above, context, facts, here_of, shown, st}
use Rattle.s80_meaning.proofs.Following.{after_leads, does, seq, seq_with}
use Rattle.s80_meaning.proofs.MethodsFollow.{plain_so, sent_so, special_so}

nothing_behind : (xs : List Value) → xs ++ [] ≡ xs
nothing_behind [] = refl
nothing_behind (x ∷ xs) = (λ i. x ∷ nothing_behind xs i)

module _ {on : Setting} (deeper : Deeper on) where
  open on use {table as t, methods, meant, codes, code, budget}
  open deeper use {next, k}

  -- ---- sends

  module _ (a : Active on) (enough : k ≤ a.from) (f : Activation) (p : ℕ) (stack : List Value) where
    -- the arguments lie above the receiver
    off_so : (n : ℕ) (xs taken : List Value) (left : List Value) (go : Value → List Value → List Value → Turn) → message_off (n + length xs) taken (pushed_all xs left) go ≡ message_off n (xs ++ taken) left go
    off_so n [] taken left go = ap (λ k. message_off k taken left go) (omega (arith))
    off_so n (x ∷ xs) taken left go = ap (λ k. message_off k taken (pushed_all xs (x ∷ left)) go) (omega (arith)) ∙ off_so (suc n) xs taken (x ∷ left) go

    taken_so : (n : ℕ) (r : Value) (xs : List Value) (go : Value → List Value → List Value → Turn) → length xs ≡ n → message_off n [] (pushed_all xs (r ∷ stack)) go ≡ go r xs stack
    taken_so n r xs go counted = ap (λ k. message_off k [] (pushed_all xs (r ∷ stack)) go) (omega (arith, counted)) ∙ off_so 0 xs [] (r ∷ stack) go ∙ ap (λ ys. go r ys stack) (nothing_behind xs)

    above_same : (key : Key) → places_above t codes code budget key ≡ meaning.places_above t methods meant budget next key
    above_same doit = refl
    above_same (method c side selector) = refl

    pub sends_so : (to_super : Bool) (selector : List ℕ) (n q : ℕ) (r : Value) (xs : List Value) (w : World) → Known a w f → length xs ≡ n → IsSelectorOf n selector → One a.of.bytes (SendsTo (entries_of a.of.literals) to_super selector n) q p
        → Follows a w (st a f q (pushed_all xs (r ∷ stack)) w) p (λ v. v ∷ stack) (meaning.sent_to t methods meant budget next to_super selector r xs (here_of a) w f)
    sends_so true selector n q r xs w known counted fits one = by_entry one.instruction one.is one.stands
      where
        from : List Value
        from = pushed_all xs (r ∷ stack)

        by_entry : (i : Instruction) → SendsBy (entries_of a.of.literals) true selector n None i → Written a.of.bytes q i p
            → Follows a w (st a f q from w) p (λ v. v ∷ stack) (meaning.sent t methods meant budget next (meaning.places_above t methods meant budget next a.key) selector a.receiver xs (here_of a).alive w f)
        by_entry i (k, is, there) stands =
            let c = context a f q from in
            let l = does a f q from w (instruction.SendSuper n k) p known (subst (λ i. Written a.of.bytes q i p) is stands) in
            sent_so deeper a enough f p stack (meaning.places_above t methods meant budget next a.key) selector a.receiver xs w w (st a f q from w) known (same_alike (facts on) w known.fine)
            (subst (Leads on (st a f q from w))
            (taken_so n r xs (super_turn t codes code budget a.of c p a.below (shown on w) k) counted
            ∙ ap (λ o. given (option_and_then selector_in o) (λ selector. given (slice_get w.keys a.number) (λ key. sent t codes code budget (places_above t codes code budget key) selector a.receiver xs (above a f p stack) (shown on w)))) there
            ∙ ap (λ o. given o (λ key. sent t codes code budget (places_above t codes code budget key) selector a.receiver xs (above a f p stack) (shown on w))) known.number
            ∙ ap (λ places. sent t codes code budget places selector a.receiver xs (above a f p stack) (shown on w)) (above_same a.key))
            l)
    sends_so false selector n q r xs w known counted fits one = by_number (special_number selector) refl one.instruction one.is one.stands
      where
        from : List Value
        from = pushed_all xs (r ∷ stack)

        by_number : (o : Option ℕ) → special_number selector ≡ o → (i : Instruction) → SendsBy (entries_of a.of.literals) false selector n o i → Written a.of.bytes q i p
            → Follows a w (st a f q from w) p (λ v. v ∷ stack) (meaning.message t methods meant budget next selector o r xs (here_of a).alive w f)
        by_number None o_is i (k, is, there) stands =
            let c = context a f q from in
            let l = does a f q from w (instruction.Send n k) p known (subst (λ i. Written a.of.bytes q i p) is stands) in
            plain_so deeper a enough f p stack selector r xs w (st a f q from w) known
            (subst (Leads on (st a f q from w))
            (taken_so n r xs (send_turn t codes code budget a.of c p a.below (shown on w) k) counted
            ∙ ap (λ o. given (option_and_then selector_in o) (λ selector. sent t codes code budget (places_for t codes code budget (shown on w) r) selector r xs (above a f p stack) (shown on w))) there)
            l)
        by_number (Some m) o_is i is stands =
            let c = context a f q from in
            let l = does a f q from w (instruction.SendSpecial m) p known (subst (λ i. Written a.of.bytes q i p) is stands) in
            let here = special_is selector m o_is in
            special_so deeper a enough f p stack m selector r xs q from w (st a f q from w) known here.1
            (subst (Leads on (st a f q from w))
            (ap (λ (test : Bool). if test then copy_turn t codes code budget c p a.below (shown on w) from else message_off (get_or special_arguments m 0) [] from (special_turn t codes code budget m c p a.below (shown on w))) here.0
            ∙ ap (λ k. message_off k [] from (special_turn t codes code budget m c p a.below (shown on w))) (special_takes selector m n o_is fits)
            ∙ taken_so n r xs (special_turn t codes code budget m c p a.below (shown on w)) counted)
            l)

  -- ---- arguments

  abbrev all_evaluated : Trees → Here → World → Activation → Out (List Value)
  all_evaluated = meaning.ev_all t methods meant budget next

  -- as many values as there are trees
  pub counted_all : (es : Trees) (here : Here) (w : World) (f : Activation) (xs : List Value) (w1 : World) (f1 : Activation) → all_evaluated es here w f ≡ Gives xs w1 f1 → length xs ≡ count es
  counted_all no_trees here w f xs w1 f1 e = let same : [] ≡ xs = cc in ap length (sym same)
  counted_all (trees x es) here w f xs w1 f1 e = by_first (meaning.ev t methods meant budget next x here w f) (λ w2 f2 ys w3 f3 is. counted_all es here w2 f2 ys w3 f3 is) e
    where
      by_rest : (v : Value) (o : Out (List Value)) → ((ys : List Value) (w3 : World) (f3 : Activation) → o ≡ Gives ys w3 f3 → length ys ≡ count es) → and_then o (λ ys w3 f3. Gives (v ∷ ys) w3 f3) ≡ Gives xs w1 f1 → length xs ≡ suc (count es)
      by_rest v (Gives ys w3 f3) h e = let same : v ∷ ys ≡ xs = cc in ap length (sym same) ∙ ap suc (h ys w3 f3 refl)
      by_rest v (Answers u w3) h e = cc
      by_rest v (Returns n u w3) h e = cc
      by_rest v (Stopped stop w3) h e = cc
      by_rest v Unfinished h e = cc

      by_first : (o : Out Value) → ((w2 : World) (f2 : Activation) (ys : List Value) (w3 : World) (f3 : Activation) → all_evaluated es here w2 f2 ≡ Gives ys w3 f3 → length ys ≡ count es)
          → and_then o (λ v w2 f2. and_then (all_evaluated es here w2 f2) (λ ys w3 f3. Gives (v ∷ ys) w3 f3)) ≡ Gives xs w1 f1 → length xs ≡ suc (count es)
      by_first (Gives v w2 f2) h e = by_rest v (all_evaluated es here w2 f2) (h w2 f2) e
      by_first (Answers u w3) h e = cc
      by_first (Returns n u w3) h e = cc
      by_first (Stopped stop w3) h e = cc
      by_first Unfinished h e = cc

  -- a value before the others
  pub put_first : (a : Active on) (w0 : World) (s : State) (q : ℕ) (x : Value) (stack : List Value) (o : Out (List Value)) → Follows a w0 s q (λ xs. pushed_all xs (x ∷ stack)) o → Follows a w0 s q (λ xs. pushed_all xs stack) (and_then o (λ xs w f. Gives (x ∷ xs) w f))
  put_first a w0 s q x stack (Gives xs w f) r = r
  put_first a w0 s q x stack (Answers v w) r = r
  put_first a w0 s q x stack (Returns h v w) r = r
  put_first a w0 s q x stack (Stopped stop w) r = r
  put_first a w0 s q x stack Unfinished r = r

  -- ---- messages to one receiver

  abbrev AllSim : Active on → Trees → Type 0
  AllSim a es =
      (p q : ℕ) → AllCodeAt a es p q → (f : Activation) (stack : List Value) (w : World) → Known a w f
      → Follows a w (st a f p stack w) q (λ xs. pushed_all xs stack) (all_evaluated es (here_of a) w f)

  abbrev SendsSim : Active on → Sends → Bool → Value → Type 0
  SendsSim a ms to_super v =
      (p q : ℕ) → SendsCodeAt a to_super ms p q → (f : Activation) (stack : List Value) (w : World) → Known a w f
      → Follows a w (st a f p (v ∷ stack) w) q (λ v. v ∷ stack) (meaning.ev_sends t methods meant budget next ms to_super v (here_of a) w f)

  -- a message, and those behind it
  pub message_so : (a : Active on) → k ≤ a.from → (s : List ℕ) (es : Trees) (ms : Sends) (to_super : Bool) (v : Value) → AllSim a es → SendsSim a ms to_super v → IsSelectorOf (count es) s → SendsSim a (sends s es ms) to_super v
  message_so a enough s es no_sends to_super v all more fits p q r f stack w known =
      seq_with a w f (st a f p (v ∷ stack) w) r.mid q (λ xs. pushed_all xs (v ∷ stack)) (λ v. v ∷ stack) (all_evaluated es (here_of a) w f)
      (λ xs w1 f1. meaning.sent_to t methods meant budget next to_super s v xs (here_of a) w1 f1)
      known (all p r.mid r.first f (v ∷ stack) w known)
      (λ xs w1 f1 e known1. sends_so a enough f1 q stack to_super s (count es) r.mid v xs w1 known1 (counted_all es (here_of a) w f xs w1 f1 e) fits r.second)
  message_so a enough s es (sends s2 es2 ms) to_super v all more fits p q r f stack w known =
      let behind = sends s2 es2 ms in
      let m = r.second.second.mid in
      let popped_at = r.second.second.second.mid in
      after_leads a w w (st a f p (v ∷ stack) w) (st a f r.mid (v ∷ v ∷ stack) w) q (λ v. v ∷ stack)
      (and_then (all_evaluated es (here_of a) w f) (λ xs w1 f1. and_then (meaning.sent_to t methods meant budget next to_super s v xs (here_of a) w1 f1) (λ x w2 f2. meaning.ev_sends t methods meant budget next behind to_super v (here_of a) w2 f2)))
      (same_alike (facts on) w known.fine) (does a f p (v ∷ stack) w instruction.Duplicate r.mid known r.first)
      (seq_with a w f (st a f r.mid (v ∷ v ∷ stack) w) r.second.mid q (λ xs. pushed_all xs (v ∷ v ∷ stack)) (λ v. v ∷ stack) (all_evaluated es (here_of a) w f)
      (λ xs w1 f1. and_then (meaning.sent_to t methods meant budget next to_super s v xs (here_of a) w1 f1) (λ x w2 f2. meaning.ev_sends t methods meant budget next behind to_super v (here_of a) w2 f2))
      known (all r.mid r.second.mid r.second.first f (v ∷ v ∷ stack) w known)
      (λ xs w1 f1 e known1.
      seq a w1 f1 (st a f1 r.second.mid (pushed_all xs (v ∷ v ∷ stack)) w1) m q (λ x. x ∷ v ∷ stack) (λ v. v ∷ stack) (meaning.sent_to t methods meant budget next to_super s v xs (here_of a) w1 f1)
      (λ x w2 f2. meaning.ev_sends t methods meant budget next behind to_super v (here_of a) w2 f2)
      known1 (sends_so a enough f1 m (v ∷ stack) to_super s (count es) r.second.mid v xs w1 known1 (counted_all es (here_of a) w f xs w1 f1 e) fits r.second.second.first)
      (λ x w2 f2 known2.
      after_leads a w2 w2 (st a f2 m (x ∷ v ∷ stack) w2) (st a f2 popped_at (v ∷ stack) w2) q (λ v. v ∷ stack) (meaning.ev_sends t methods meant budget next behind to_super v (here_of a) w2 f2)
      (same_alike (facts on) w2 known2.fine) (does a f2 m (x ∷ v ∷ stack) w2 instruction.Pop popped_at known2 r.second.second.second.first)
      (more popped_at q r.second.second.second.second f2 stack w2 known2))))
