-- Code means its trees: what corresponds to what. The machine's steps, among the codes, are led beside the evaluation, among the methods.
--
-- What corresponds, of the tree's side to the machine's:
-- - the activation that runs (`Active`) and those alive below it to the contexts: the method's number, the receiver and the activation are the same;
-- - the tree that is evaluated to the code at the context's place (`CodeAt`), and what waits for its value to the code behind that;
-- - the values that wait for further ones to the context's stack, where a tree leaves its own if that is wanted (`push`);
-- - a real block's number in its method to the place at which its code begins (`starts`);
-- - the world to the machine's, which is the same but for that number and that place in the objects that are blocks (`shown`).
--
-- `Follows` says so for what a tree came to. From the state before it the machine comes to the state with its value on the stack, to the delivered
-- answer, to the return, or to the stop; where the tree came to nothing, the machine is stuck.
--
-- By induction first on the ticks that are left (`TicksFollow`), and then on the tree (`TreesFollow`). The tree alone doesn't do: the body of a
-- method or a block, and the next round of a loop, are no parts of the tree that leads to them. But a tick stands before each of these. So an
-- evaluator that goes n ticks deep is followed from k ticks on, where n and k together are one more than the budget (`Sim`): with no depth left
-- the ticks would be past the budget.
--
-- The ticks agree, since both sides take one at the same places and nowhere else (`by_tick`): a message before its look-up, a block when it is
-- activated, and a jump back. The doIt's own activation costs none.
use Rattle.std.proofs.Common.{option_map, ◌≡◌, ◌∙◌, ap, sym, ℕ, zero, suc, List, ◌∷◌, map, slice_get, Bool, true, false, ◌≤◌, Option, Some, None, option_and_then, if◌then◌else◌}
use Rattle.s80_class.specs.Table.{Table}
use Rattle.s80_code.specs.declared.code.Code.{Code}
use Rattle.s80_base.specs.Literal.{LiteralTree}
use Rattle.s80_base.specs.Literal as literal
use Rattle.s80_code.specs.Entries.{entries_of}
use Rattle.s80_code.specs.Entries as entry
use Rattle.s80_dict.specs.Table.{MethodsValue}
use Rattle.s80_dict.specs.declared.dict.MethodEntry.{MethodEntry}
use Rattle.s80_object.specs.declared.value.Value.{Value}
use Rattle.s80_class.specs.Lookup.{Found, Place, first_found}
use Rattle.s80_meaning.proofs.Holding.{has_blocks}
use Rattle.std.specs.Option.{option_map_or}
use Rattle.s80_object.specs.declared.value.Value.TheVariants as val
use Rattle.s80_prims.specs.declared.stop.End.{End}
use Rattle.s80_prims.specs.declared.stop.End.TheVariants as end
use Rattle.s80_meaning.specs.Agreement.{turns}
use Rattle.s80_scope.specs.declared.fit.position.Position.{Position}
use Rattle.s80_scope.specs.declared.fit.position.Position.TheVariants.{Value as Wanted, Effect}
use Rattle.s80_machine.specs.World.{World, Key, home_in, method, Activation, is_home_activation}
use Rattle.s80_machine.specs.Turn.{Context, State, Turn, Goes, Ends, Stuck, holds_block, deliver, return_home}
use Rattle.s80_machine.specs.Step.{code_for, turn}
use Rattle.s80_meaning.specs.Tree.{Meant, RealBlock, Tree, Trees, Sends, place_of}
use Rattle.s80_meaning.specs.Meaning.{Out, Gives, Answers, Returns, Stopped, Unfinished, is_alive, Here, Evaluator, Methods, first_meant}
use Rattle.s80_meaning.specs.Meaning as meaning
use Rattle.s80_meaning.specs.Places.{MethodAt}
use Rattle.s80_meaning.specs.Places as places
use Rattle.s80_meaning.proofs.Variables.{Alike, mark}
use Rattle.s80_meaning.proofs.Counted.{Sent}
use Rattle.s80_meaning.proofs.Ended as ended
use Rattle.s80_meaning.proofs.Stays as stays
use Rattle.s80_meaning.proofs.Stays.{IsFine}

-- a value on the stack, where it is wanted
abbrev pub push : Position → Value → List Value → List Value
push Wanted v stack = v ∷ stack
push Effect v stack = stack

-- a context's activation as those see it who ask whether it is alive
abbrev pub mark_of : Context → Activation
mark_of c = mark c.activation

-- a return from below an activation that is seen so
abbrev pub return_past : ℕ → Value → Activation → List Context → World → Turn
return_past h v seen below w = if is_home_activation h seen then deliver v below w else return_home h v below w

-- an entry of an activation that is a small constant: it is never noted
abbrev pub small_constant : entry.EntryTree → Bool
small_constant (entry.constant (literal.small n)) = true
small_constant _ = false

-- how a run ends, and in which world
abbrev pub Came : Type 0
Came = End × World

-- ---- a doIt as its trees among methods, and as code among codes

-- Where the real blocks of each method begin in its code is known.
pub record Setting : Type 0 where
  pub table : Table
  pub methods : Methods
  pub meant : Meant
  pub codes : MethodsValue (MethodEntry Code)
  pub code : Code
  pub budget : ℕ
  pub starts : Key → ℕ → ℕ

module _ (on : Setting) where
  open on use {table as t, methods, meant, codes, code, budget, starts}

  -- ---- what is known of a method by its key

  -- which entries of its activation are small constants
  abbrev pub small : Key → ℕ → Bool
  small key k = option_map_or (λ (of : Code). option_map_or small_constant (slice_get (entries_of of.literals) k) false) (code_for codes code key) false

  -- how many parameters its blocks have
  abbrev pub kept : Key → ℕ → Option ℕ
  kept key b = option_map (λ (tree : RealBlock). tree.parameters) (option_and_then (λ (m : Meant). slice_get m.blocks b) (meaning.meant_for methods meant key))

  -- what worlds keep of both (`IsFine`)
  abbrev pub facts : stays.Facts
  facts = record { small = small; kept = kept; budget = budget }

  -- the machine's world for a world of the tree
  abbrev pub shown : World → World
  shown = stays.shown starts

  -- ---- a run, led both ways

  -- the run from a turn ends so, in this world
  abbrev pub Comes : Turn → Came → Type 0
  Comes now came = (n : ℕ) × (turns t codes code budget n now ≡ Ends came.0 came.1)

  -- the run from s is the run from what n comes to
  pub record Leads (s : State) (n : Turn) : Type 0 where
    pub by : (o : Came) → Comes n o → Comes (Goes s) o
    pub alone : (o : Came) → Comes (Goes s) o → Comes n o

  pub no_step : (s : State) → Leads s (Goes s)
  no_step s = record { by = λ o f. f; alone = λ o f. f }

  pub one_step : (s : State) (n : Turn) → turn t codes code budget s ≡ n → Leads s n
  one_step s n e = record { by = λ o f. (suc f.0, ap (turns t codes code budget f.0) e ∙ f.1); alone = λ o f. alone o f.0 f.1 }
    where
      alone : (o : Came) (k : ℕ) → turns t codes code budget k (Goes s) ≡ Ends o.0 o.1 → Comes n o
      alone o zero is = cc
      alone o (suc k) is = (k, ap (turns t codes code budget k) (sym e) ∙ is)

  -- ---- codes and trees

  abbrev pub meant_for : Key → Option Meant
  meant_for = meaning.meant_for methods meant

  -- the code of what a key means
  pub record IsPair (key : Key) (means : Meant) (of : Code) : Type 0 where
    pub at : MethodAt means of (starts key)
    pub activation : (k : ℕ) (l : LiteralTree) → slice_get (entries_of of.literals) k ≡ Some (entry.constant l) → k ≡ place_of l means.named
    pub temporaries : of.temporaries ≡ means.temporaries
    pub primitive : of.primitive ≡ means.primitive
    pub holds : holds_block of ≡ has_blocks means.blocks
    pub sent : Sent means.body
    pub sent_all : (b : ℕ) (tree : RealBlock) → slice_get means.blocks b ≡ Some tree → Sent tree.body
    pub ends : ended.Ends means.body
    pub ends_all : (b : ℕ) (tree : RealBlock) → slice_get means.blocks b ≡ Some tree → ended.Ends tree.body

  -- a method was found on both sides, or on none
  abbrev pub AreFound : List ℕ → Option (Found Meant) → Option (Found (MethodEntry Code)) → Type 0
  AreFound selector None None = Unit {0}
  AreFound selector (Some f) (Some g) =
      (method f.class f.side selector ≡ method g.class g.side selector) × (meant_for (method f.class f.side selector) ≡ Some f.entry) × (code_for codes code (method g.class g.side selector) ≡ Some g.entry.code)
  AreFound selector _ _ = ⊥

  -- codes and trees agree
  pub record Ready : Type 0 where
    pub pairs : (key : Key) (m : Meant) (of : Code) → meant_for key ≡ Some m → code_for codes code key ≡ Some of → IsPair key m of
    pub there : (key : Key) (m : Meant) → meant_for key ≡ Some m → (of : Code) × (code_for codes code key ≡ Some of)
    pub found : (selector : List ℕ) (places : List Place) → AreFound selector (first_meant methods selector places) (first_found codes selector places)

  -- where a method has real blocks, its activation has a home
  abbrev pub IsHoused : Meant → Activation → Type 0
  IsHoused means seen = (n : ℕ) (tree : RealBlock) → slice_get means.blocks n ≡ Some tree → (h : ℕ) × (home_in seen ≡ Some h)

  -- an activation that runs: its method, the receiver, what others see of it, and the contexts below it
  pub record Active : Type 0 where
    pub key : Key
    pub number : ℕ
    pub receiver : Value
    pub seen : Activation
    pub below : List Context
    pub of : Code
    pub means : Meant
    pub code_is : code_for codes code key ≡ Some of
    pub means_is : meant_for key ≡ Some means
    pub pair : IsPair key means of
    pub housed : IsHoused means seen
    pub from : ℕ

module _ {on : Setting} where
  -- one run behind another
  pub chain : {s u : State} {n : Turn} → Leads on s (Goes u) → Leads on u n → Leads on s n
  chain l m = record { by = λ o f. l.by o (m.by o f); alone = λ o f. m.alone o (l.alone o f) }

  abbrev pub here_of : Active on → Here
  here_of a = record { key = a.key; receiver = a.receiver; alive = a.seen ∷ map mark_of a.below }

  abbrev pub context : Active on → Activation → ℕ → List Value → Context
  context a f p stack = record { method = a.number; receiver = a.receiver; activation = f; place = p; stack = stack }

  -- the contexts of an activation and of those below it
  abbrev pub above : Active on → Activation → ℕ → List Value → List Context
  above a f p stack = context a f p stack ∷ a.below

  abbrev pub st : Active on → Activation → ℕ → List Value → World → State
  st a f p stack w = record { contexts = context a f p stack ∷ a.below; world = shown on w }

  -- the method has its number, and the activation's activation is what others see
  pub record Known (a : Active on) (w : World) (f : Activation) : Type 0 where
    pub number : slice_get w.keys a.number ≡ Some a.key
    pub seen : mark f ≡ a.seen
    pub fine : IsFine (facts on) w
    pub home : (h : ℕ) → home_in a.seen ≡ Some h → stays.key_of w (val.Object h) ≡ Some a.key
    pub spent : a.from ≤ w.ticks

  -- the code of a tree, of several, and of messages to one receiver, in the activation's method
  abbrev pub CodeAt : Active on → Tree → Position → ℕ → ℕ → Type 0
  CodeAt a = places.At a.of.bytes (entries_of a.of.literals) a.means.blocks (on.starts a.key)

  abbrev pub AllCodeAt : Active on → Trees → ℕ → ℕ → Type 0
  AllCodeAt a = places.AllAt a.of.bytes (entries_of a.of.literals) a.means.blocks (on.starts a.key)

  abbrev pub SendsCodeAt : Active on → Bool → Sends → ℕ → ℕ → Type 0
  SendsCodeAt a = places.SendsAt a.of.bytes (entries_of a.of.literals) a.means.blocks (on.starts a.key)

  -- From s, in the world w0, the machine does what the tree came to, with what was given on its stack at q. Worlds go on. Where the tree came to
  -- nothing, the machine is stuck.
  abbrev pub Follows : {A : Type 0} → Active on → World → State → ℕ → (A → List Value) → Out A → Type 0
  Follows a w0 s q onto (Gives x w f) = Alike (facts on) w0 w × (mark f ≡ a.seen) × Leads on s (Goes (st a f q (onto x) w))
  Follows a w0 s q onto (Answers v w) = Alike (facts on) w0 w × Leads on s (deliver v a.below (shown on w))
  Follows a w0 s q onto (Returns h v w) = Alike (facts on) w0 w × Leads on s (return_past h v a.seen a.below (shown on w)) × (is_alive h (here_of a).alive ≡ true)
  Follows a w0 s q onto (Stopped stop w) = Leads on s (Ends (end.Stopped stop) (shown on w))
  Follows a w0 s q onto Unfinished = Leads on s Stuck

-- ---- so many ticks deeper

-- what ends never gives a value to what stands behind it
abbrev pub Quiet : Evaluator → Type 0
Quiet next = (e : Tree) → ended.Ends e → (here : Here) (w : World) (f : Activation) (v : Value) (w1 : World) (f1 : Activation) → next e here w f ≡ Gives v w1 f1 → ⊥

module _ (on : Setting) where
  -- the trees that an evaluator evaluates are followed by their codes
  abbrev pub Sim : ℕ → Evaluator → Type 0
  Sim k next =
      (a : Active on) → k ≤ a.from → (e : Tree) (position : Position) (p q : ℕ) → CodeAt a e position p q
      → Sent e → (f : Activation) (stack : List Value) (w : World) → Known a w f → Follows a w (st a f p stack w) q (λ v. push position v stack) (next e (here_of a) w f)

  -- an evaluator that is followed where one tick more was taken
  pub record Deeper : Type 0 where
    pub ready : Ready on
    pub next : Evaluator
    pub k : ℕ
    pub sim : Sim (suc k) next
    pub quiet : Quiet next
