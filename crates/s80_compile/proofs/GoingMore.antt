-- Messages in memory, opened by one layer, and what their parts need.
use Rattle.std.proofs.Common.{◌≡◌, ℕ, zero, suc, ◌+◌, ◌<◌, ◌≤◌, List, [], ◌∷◌, ◌++◌, Bool, map, length, drop, get_or, refl, ap, sym, ◌∙◌, subst, arith}
use Rattle.std.proofs.lemmas.List.{drop_all, drop_more, length-map}
use Rattle.s80_code.specs.Entries.{EntryTree}
use Rattle.s80_code.specs.declared.instruction.Instruction.TheVariants.{Duplicate, Pop}
use Rattle.s80_core.specs.declared.core_tree.Core.{Core}
use Rattle.s80_core.specs.declared.core_tree.Cores.{Cores, out-Cores}
use Rattle.s80_core.specs.declared.core_tree.CoreMessage.{CoreMessage, out-CoreMessage}
use Rattle.s80_core.specs.declared.core_tree.CoreMessages.{CoreMessages, out-CoreMessages}
use Rattle.s80_core.specs.Core.{CoreTree, SendTree, SendTrees, cores_from, cores_of, core_of, count, no_sends, sends, sends_from, sends_of, send_of}
use Rattle.s80_core.specs.Measures.{size_all, selector_entries}
use Rattle.s80_compile.specs.Rows.{SendsTo}
use Rattle.s80_compile.specs.Emitted.{Emitted, CoresRow, OneRow, AllFit, MessageFits, HasRoom, AreEmitted, IsMessageEmitted, Adds, SendsGoOn}
use Rattle.s80_compile.proofs.Fitting.{message_arguments, message_selector}
use Rattle.s80_compile.proofs.Going.{next_sent}
use Rattle.s80_compile.proofs.Made.{message_made}
use Rattle.s80_compile.proofs.OpenArms.{weight, weight_all, weight_sends, argument_lighter}
use Rattle.s80_compile.proofs.OpenCore.{cores_open, message_open, sends_open}

-- ---- a message

count_all : (xs : List CoreTree) → count (cores_from xs) ≡ length xs
count_all [] = refl
count_all (x ∷ xs) = ap suc (count_all xs)

arguments_count : (m : CoreMessage) → count (cores_of (out-CoreMessage m).arguments) ≡ length (out-Cores (out-CoreMessage m).arguments).items.items
arguments_count m =
    let es = (out-CoreMessage m).arguments in
    ap count (cores_open es) ∙ count_all (map core_of (out-Cores es).items.items) ∙ length-map (out-Cores es).items.items core_of

opened : (frame : List EntryTree) (to_super : Bool) (m : CoreMessage) → MessageFits frame to_super (send_of m) → MessageFits frame to_super ((out-CoreMessage m).selector, cores_of (out-CoreMessage m).arguments)
opened frame to_super m h = subst (λ (x : SendTree). MessageFits frame to_super x) (message_open m) h

module _ (f g : List EntryTree) (c d : List ℕ) (to_super : Bool) (m : CoreMessage) where
  pub arguments_fit : MessageFits f to_super (send_of m) → AllFit f (cores_of (out-CoreMessage m).arguments)
  arguments_fit h =
      let es = cores_of (out-CoreMessage m).arguments in
      message_arguments f f (CoresRow es) 0 [] [] to_super ((out-CoreMessage m).selector, es) (opened f to_super m h)

  pub selector_room : MessageFits f to_super (send_of m) → AreEmitted (cores_of (out-CoreMessage m).arguments) f g c d → HasRoom g (selector_entries to_super (out-CoreMessage m).selector)
  selector_room h a =
      let es = cores_of (out-CoreMessage m).arguments in
      message_selector f g (CoresRow es) (size_all es) c d to_super ((out-CoreMessage m).selector, es) (opened f to_super m h) a

  pub few_arguments : MessageFits f to_super (send_of m) → length (out-Cores (out-CoreMessage m).arguments).items.items ≤ 31
  few_arguments h = omega (arith, (opened f to_super m h).count, arguments_count m)

pub message_emitted : (to_super : Bool) (m : CoreMessage) (n : ℕ) (f g h : List EntryTree) (c d e : List ℕ) → n ≡ length (out-Cores (out-CoreMessage m).arguments).items.items → AreEmitted (cores_of (out-CoreMessage m).arguments) f g c d
    → Emitted (OneRow (λ entries i. SendsTo entries to_super (out-CoreMessage m).selector n i)) (selector_entries to_super (out-CoreMessage m).selector) 3 g h d e → IsMessageEmitted to_super (send_of m) f h c e
message_emitted to_super m n f g h c d e is a b =
    let s = (out-CoreMessage m).selector in
    let es = cores_of (out-CoreMessage m).arguments in
    subst (λ (x : SendTree). IsMessageEmitted to_super x f h c e) (sym (message_open m))
    (message_made to_super (s, es) f g h c d e a
    (subst (λ (k : ℕ). Emitted (OneRow (λ entries i. SendsTo entries to_super s k i)) (selector_entries to_super s) 3 g h d e) (is ∙ sym (arguments_count m)) b))

-- each argument is lighter than all
pub one_lighter : (es : Cores) (xs : List Core) (i : ℕ) (x : Core) → xs ≡ (out-Cores es).items.items → i < length xs → x ≡ get_or xs i x → weight (core_of x) < weight_all (cores_of es)
one_lighter es xs i x listed =
    subst (λ (ys : List Core). i < length ys → x ≡ get_or ys i x → weight (core_of x) < weight_all (cores_of es)) (sym listed) (argument_lighter es i x)

-- ---- messages, of which the last stands apart

abbrev pub sends_left : List CoreMessage → CoreMessage → ℕ → SendTrees
sends_left xs y i = sends_from (map send_of (drop i xs ++ y ∷ []))

pub sends_next : (xs : List CoreMessage) (y : CoreMessage) (i : ℕ) (x : CoreMessage) → i < length xs → x ≡ get_or xs i x → sends_left xs y i ≡ sends (send_of x).0 (send_of x).1 (sends_left xs y (i + 1))
sends_next xs y i x within is = ap (λ l. sends_from (map send_of (l ++ y ∷ []))) (drop_more xs i x within ∙ ap (λ z. z ∷ drop (i + 1) xs) (sym is))

pub sends_last : (xs : List CoreMessage) (y : CoreMessage) (i : ℕ) → length xs ≤ i → sends_left xs y i ≡ sends (send_of y).0 (send_of y).1 no_sends
sends_last xs y i past = ap (λ l. sends_from (map send_of (l ++ y ∷ []))) (drop_all i xs past)

pub whole_sends : (ms : CoreMessages) (xs : List CoreMessage) (y : CoreMessage) → (out-CoreMessages ms).items.items ≡ xs ++ y ∷ [] → sends_left xs y 0 ≡ sends_of ms
whole_sends ms xs y is = ap (λ l. sends_from (map send_of l)) (sym is) ∙ sym (sends_open ms)

pub no_messages : (ms : CoreMessages) (xs : List CoreMessage) → xs ≡ (out-CoreMessages ms).items.items → length xs ≡ 0 → sends_of ms ≡ no_sends
no_messages ms [] is none = sends_open ms ∙ ap (λ l. sends_from (map send_of l)) (sym is)
no_messages ms (x ∷ xs) is none = absurd (omega (arith, none))

-- at least one message
abbrev IsMore : SendTrees → Type 0
IsMore no_sends = ⊥
IsMore (sends s es rest) = Unit {0}

ends_in : (l : List CoreMessage) (y : CoreMessage) → IsMore (sends_from (map send_of (l ++ y ∷ [])))
ends_in [] y = tt
ends_in (x ∷ l) y = tt

before_more : (to_super : Bool) (all left next : SendTrees) (m : SendTree) (f g h : List EntryTree) (c d dup done e : List ℕ) → IsMore next → left ≡ sends m.0 m.1 next → SendsGoOn to_super all left f g c d
    → Adds Duplicate 1 d dup → IsMessageEmitted to_super m g h dup done → Adds Pop 1 done e → SendsGoOn to_super all next f h c e
before_more to_super all left no_sends m f g h c d dup done e some is k duplicates a pops = absurd some
before_more to_super all left (sends s es rest) m f g h c d dup done e some is k duplicates a pops = next_sent to_super all left rest m (s, es) f g h c d dup done e is k duplicates a pops

pub one_sent : (to_super : Bool) (all : SendTrees) (xs : List CoreMessage) (y : CoreMessage) (i : ℕ) (x : CoreMessage) (f g h : List EntryTree) (c d dup done e : List ℕ) → i < length xs → x ≡ get_or xs i x → SendsGoOn to_super all (sends_left xs y i) f g c d
    → Adds Duplicate 1 d dup → IsMessageEmitted to_super (send_of x) g h dup done → Adds Pop 1 done e → SendsGoOn to_super all (sends_left xs y (i + 1)) f h c e
one_sent to_super all xs y i x f g h c d dup done e within is k duplicates a pops =
    before_more to_super all (sends_left xs y i) (sends_left xs y (i + 1)) (send_of x) f g h c d dup done e (ends_in (drop (i + 1) xs) y) (sends_next xs y i x within is) k duplicates a pops

-- each message is lighter than all
left_lighter : (xs : List CoreMessage) (y : CoreMessage) (i : ℕ) → weight_sends (sends_from (map send_of (drop i xs ++ y ∷ []))) ≤ weight_sends (sends_from (map send_of (xs ++ y ∷ [])))
left_lighter xs y zero = omega arith
left_lighter [] y (suc i) = omega arith
left_lighter (x ∷ xs) y (suc i) = let less = left_lighter xs y i in omega (arith, less)

pub message_lighter : (ms : CoreMessages) (xs : List CoreMessage) (y : CoreMessage) (i : ℕ) (m : SendTree) (rest : SendTrees) → (out-CoreMessages ms).items.items ≡ xs ++ y ∷ [] → sends_left xs y i ≡ sends m.0 m.1 rest
    → 1 + weight_all m.1 < weight_sends (sends_of ms)
message_lighter ms xs y i m rest is split =
    let less : weight_sends (sends_left xs y i) ≤ weight_sends (sends_left xs y 0) = left_lighter xs y i in
    let all : weight_sends (sends_left xs y 0) ≡ weight_sends (sends_of ms) = ap weight_sends (whole_sends ms xs y is) in
    let next : weight_sends (sends_left xs y i) ≡ weight_sends (sends m.0 m.1 rest) = ap weight_sends split in
    omega (arith, less, all, next)
