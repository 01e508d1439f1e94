-- clap's walk over the words comes to what `read_from` says.
use Rattle.std.proofs.Common.{◌≡◌, ◌∙◌, ◌&&◌, ◌||◌, ◌⊎◌, inl, inr, ℕ, Bool, cond, codes, true, false, not, suc, refl, sym, ap, ap₂, subst, arith, List, [], ◌∷◌, ◌++◌, length, Option, Some, None, eqb→eq}
use Rattle.std.specs.Prelude.{option_map}
use Rattle.std.specs.Char.{encode_utf8}
use Rattle.std.specs.Option.{option_map_or}
use Rattle.std.specs.Prelude.{option_and_then}
use Rattle.std.specs.Str.{bytes_eq, chars}
use Rattle.std.specs.Cmp.Lexicographic.{bytes_decides}
use Rattle.std.specs.List.{before_first}
use Rattle.std.specs.Prelude.{◌==◌, slice_get}
use Rattle.std.proofs.Math.Dec.{T}
use Rattle.std.specs.Str.{IsUtf8}
use Rattle.std.proofs.lemmas.Str.{IsUtf8-past_char, encodes-chars}
use Rattle.std.specs.Str.{encode_utf8_all}
use Rattle.std.specs.List.{AllByRecursion}
use Rattle.std.specs.Prelude.{fold}
use Rattle.clap.specs.Lexer.{long_of, short_of}
use Rattle.clap.specs.Walk.{Held, Row, Rule, Step, Waiting, Walk, settled_rows, walked, arg_by_long, with_values, without, stronger, has_row, after_step, subcommand_or_other, long_or_other, short_or_plain, plain_word, long_met, after_flag, long_word}
use Rattle.clap.specs.Walk.{pushed, is_pending}
use Rattle.clap.specs.Walk.{idle, option, positional, trailing, value}
use Rattle.clap.specs.Simple.{Shape, built, filled, with_index}
use Rattle.clap.specs.Kinds.{Kinds, or_else, check_kinds}
use Rattle.clap.specs.Takes.{is_given}
use Rattle.clap.specs.Walk.{with_default, nothing_held, walk_from}
use Rattle.clap.specs.Faults.{check_fault, default_fault, defaults_fault, level_fault}
use Rattle.clap.proofs.FaultLemmas.{leaf_fault}
use Rattle.clap.specs.Simple.{matches_of}
use Rattle.std.specs.Prelude.{drop}
use Rattle.clap.specs.Faults.{fault_of, is_simple_and_free, turn_fault, walk_fault, settle_fault, step_fault, other_fault, flag_word_fault, long_fault, bundle_fault, flags_fault}
use Rattle.clap.specs.declared.parser.matches.ValueSource.TheVariants.{CommandLine}
use Rattle.s80_line.specs.Rows.{how, look, row, entry, folders, commands, Looks, whole, whole_read}
use Rattle.s80_line.specs.Line as line
use Rattle.s80_line.specs.Shape.{the_app, option_rule, required_rule, rest_rule}

abbrev Word : Type 0
Word = line.Word

abbrev Read : Type 0
Read = line.Read

abbrev OptionName : Type 0
OptionName = line.OptionName

abbrev Next : Type 0
Next = line.Place → Read → Option Read

-- ---- the command as it is built

abbrev s : Shape
s = (built the_app).top

abbrev B : Rule
B = with_index 1 (filled (option_rule (codes "budget")))

abbrev K : Rule
K = with_index 1 (filled (option_rule (codes "keep")))

abbrev F : Rule
F = with_index 1 (filled (required_rule (codes "folder")))

abbrev M : Rule
M = with_index 2 (filled (required_rule (codes "command")))

abbrev G : Rule
G = with_index 3 (filled (rest_rule (codes "arguments")))

abbrev c : List Rule
c = B ∷ K ∷ F ∷ M ∷ G ∷ []

abbrev rule_of : OptionName → Rule
rule_of line.budget = B
rule_of line.keep = K

rules_are : s.rules ≡ c
rules_are = refl

pub free : is_simple_and_free the_app ≡ true
free = refl

-- ---- rows

abbrev put : Word → Word → List Row → List Row
put id v = with_values id how CommandLine (v ∷ [])

entry-some : (id : Word) (x : Row) (us : List Word) → Some x ≡ entry id us → x ≡ row id us
entry-some id x [] e = cc
entry-some id x (u ∷ us) e = cc

entry-none : (id : Word) (us : List Word) → None ≡ entry id us → us ≡ []
entry-none id [] e = refl
entry-none id (u ∷ us) e = cc

entry-push : (id : Word) (us : List Word) (v : Word) → entry id (us ++ v ∷ []) ≡ Some (row id (us ++ v ∷ []))
entry-push id [] v = refl
entry-push id (u ∷ us) v = refl

look-same : (id v : Word) (rows : List Row) (us : List Word) → bytes_eq id id ≡ true → look id rows ≡ entry id us → look id (put id v rows) ≡ entry id (us ++ v ∷ [])
look-same id v [] us self e = rw (entry-none id us e, self) refl
look-same id v (x ∷ xs) us self e =
    elim (bytes_eq x.id id) as (λ b. bytes_eq x.id id ≡ b → look id (put id v (x ∷ xs)) ≡ entry id (us ++ v ∷ [])) [
      | true ↦ λ is.
          let same : x ≡ row id us = entry-some id x us (rw is at e) in
          let more : Row → Option Row = λ y. Some (record { id = y.id; values = y.values ++ v ∷ []; count = y.count; source = Some (stronger y.source CommandLine); reading = y.reading }) in
          rw is (rw is (ap more same ∙ sym (entry-push id us v)))
      | false ↦ λ is. rw is (rw is (look-same id v xs us self (rw is at e)))
    ] refl

look-other : (id other v : Word) (rows : List Row) → bytes_eq id other ≡ false → look other (put id v rows) ≡ look other rows
look-other id other v [] apart = rw apart refl
look-other id other v (x ∷ xs) apart =
    elim (bytes_eq x.id id) as (λ b. bytes_eq x.id id ≡ b → look other (put id v (x ∷ xs)) ≡ look other (x ∷ xs)) [
      | true ↦ λ is.
          let same : x.id ≡ id = (bytes_decides x.id id).0 is in
          let not_it : bytes_eq x.id other ≡ false = rw same apart in
          rw is (rw not_it refl)
      | false ↦ λ is. rw is (elim (bytes_eq x.id other) as (λ b. cond b (Some x) (look other (put id v xs)) ≡ cond b (Some x) (look other xs)) [
        | true ↦ refl
        | false ↦ look-other id other v xs apart
      ])
    ] refl

without-none : (id : Word) (rows : List Row) → look id rows ≡ None → without id rows ≡ rows
without-none id [] e = refl
without-none id (x ∷ xs) e =
    elim (bytes_eq x.id id) as (λ b. bytes_eq x.id id ≡ b → without id (x ∷ xs) ≡ x ∷ xs) [
      | true ↦ λ is. let bad : Some x ≡ None = rw is at e in cc
      | false ↦ λ is. rw is (ap (λ rest. x ∷ rest) (without-none id xs (rw is at e)))
    ] refl

has-none : (id : Word) (rows : List Row) → look id rows ≡ None → has_row id rows ≡ false
has-none id [] e = refl
has-none id (x ∷ xs) e =
    elim (bytes_eq x.id id) as (λ b. bytes_eq x.id id ≡ b → has_row id (x ∷ xs) ≡ false) [
      | true ↦ λ is. let bad : Some x ≡ None = rw is at e in cc
      | false ↦ λ is. rw is (has-none id xs (rw is at e))
    ] refl

-- ---- the option that a word names

abbrev named_by : Bool → Bool → Option OptionName
named_by true k = Some line.budget
named_by false true = Some line.keep
named_by false false = None

abbrev kind_by : Option OptionName → Option Word → line.Kind
kind_by (Some name) v = line.option name v
kind_by None v = line.other

-- the option that the text behind `--` names
abbrev named_in : Word → Option OptionName
named_in text = named_by (bytes_eq (codes "budget") (line.name_in text)) (bytes_eq (codes "keep") (line.name_in text))

kind_is : (b k : Bool) (v : Option Word) → cond b (line.option line.budget v) (cond k (line.option line.keep v) line.other) ≡ kind_by (named_by b k) v
kind_is true k v = refl
kind_is false true v = refl
kind_is false false v = refl

by_tests : (b k : Bool) → cond (b || false) (Some B) (cond (k || false) (Some K) None) ≡ option_map rule_of (named_by b k)
by_tests true k = refl
by_tests false true = refl
by_tests false false = refl

-- ---- one word

abbrev at : List Row → Option (Word × List Word) → Waiting → ℕ → Bool → Walk
at rows p waiting k t = record {
  held = record { rows = rows; pending = p; skip = 0 };
  waiting = waiting;
  position = k;
  is_trailing = t;
  stopped = None;
}

abbrev Turn : Type 0
Turn = Kinds × Walk

abbrev turn : Walk → Word → Turn
turn w word = (turn_fault s [] w word, walked c [] w word)

abbrev comes : Walk → Word → Kinds → Held × Step → Turn
comes w word f met = (or_else f (step_fault s w.position met.0 met.1), after_step c word w met.0 met.1)

turn_is : (rows : List Row) (p : Option (Word × List Word)) (waiting : Waiting) (k : ℕ) (word : Word) →
    let w = at rows p waiting k false in turn w word ≡ comes w word (other_fault s None word w.held) (subcommand_or_other c None waiting k word w.held)
unfolding walked
turn_is rows p idle k word = refl
turn_is rows p (option id) k word = refl
turn_is rows p positional k word = refl

module _ (rows : List Row) (p : Option (Word × List Word)) (waiting : Waiting) (k : ℕ) where
  abbrev w : Walk
  w = at rows p waiting k false

  abbrev h : Held
  h = w.held

  -- `--`
  turn_dashes : turn w (45 ∷ 45 ∷ []) ≡ ([], at rows p waiting k true)
  turn_dashes = turn_is rows p waiting k (45 ∷ 45 ∷ [])

  -- what begins with `--` and is longer
  turn_long : (x : ℕ) (xs : Word) → let word = 45 ∷ 45 ∷ x ∷ xs in let name = before_first (λ b. b == 61) (x ∷ xs) in let v = line.value_behind_equals (x ∷ xs) in
      turn w word ≡ comes w word (long_fault c false (arg_by_long c name) v h) (long_word c waiting word name v h)
  turn_long x xs = turn_is rows p waiting k (45 ∷ 45 ∷ x ∷ xs)

  by_long : (name : Word) → arg_by_long c name ≡ option_map rule_of (named_by (bytes_eq (codes "budget") name) (bytes_eq (codes "keep") name))
  by_long name = by_tests (bytes_eq (codes "budget") name) (bytes_eq (codes "keep") name)

  -- what is no flag
  turn_plain : (word : Word) → bytes_eq word (45 ∷ 45 ∷ []) ≡ false → long_of word ≡ None → short_of word ≡ None
      → turn w word ≡ comes w word [] (plain_word c waiting word h)
  turn_plain word no_dashes no_long no_short =
      turn_is rows p waiting k word
      ∙ ap (λ b. comes w word (cond b [] (flag_word_fault c false (long_of word) word h)) (cond b (h, trailing k) (long_or_other c waiting word (long_of word) h))) no_dashes
      ∙ ap (λ l. comes w word (flag_word_fault c false l word h) (long_or_other c waiting word l h)) no_long
      ∙ ap (λ o. comes w word (option_map_or (λ flags. bundle_fault c false flags h) o []) (short_or_plain c waiting word o h)) no_short

-- ---- kinds of words

cons_nil : {X : Type 0} (x : X) (xs : List X) → x ∷ xs ≡ [] → ⊥
cons_nil x xs e = cc

abbrev PlainFacts : Word → Type 0
PlainFacts word = (bytes_eq word (45 ∷ 45 ∷ []) ≡ false) × (long_of word ≡ None) × (short_of word ≡ None)

-- the four shapes of a word
abbrev Shapes : Word → Type 0
Shapes word = ((line.kind_of word ≡ line.plain) × PlainFacts word)
    ⊎ ((word ≡ 45 ∷ 45 ∷ [])
    ⊎ (((x : ℕ) × (xs : Word) × (word ≡ 45 ∷ 45 ∷ x ∷ xs))
    ⊎ ((x : ℕ) × (xs : Word) × (word ≡ 45 ∷ x ∷ xs) × ((x == 45) ≡ false))))

one_byte : (x : ℕ) → PlainFacts (x ∷ [])
one_byte x = elim (x == 45) as (λ b. (x == 45) ≡ b → PlainFacts (x ∷ [])) [
  | true ↦ λ is. (rw is refl, rw is refl, rw is refl)
  | false ↦ λ is. (rw is refl, rw is refl, rw is refl)
] refl

same_byte : (x k : ℕ) → (x == k) ≡ true → x ≡ k
same_byte x k e = eqb→eq x k (subst T (sym e) tt)

dashed : (word rest : Word) → word ≡ 45 ∷ 45 ∷ rest → Shapes word
dashed word [] e = inr (inl e)
dashed word (z ∷ zs) e = inr (inr (inl (z, zs, e)))

shapes : (word : Word) → Shapes word
shapes [] = inl (refl, (refl, refl, refl))
shapes (x ∷ []) = inl (refl, one_byte x)
shapes (x ∷ y ∷ ys) = elim (x == 45) as (λ b. (x == 45) ≡ b → Shapes (x ∷ y ∷ ys)) [
  | true ↦ λ is. elim (y == 45) as (λ b. (y == 45) ≡ b → Shapes (x ∷ y ∷ ys)) [
    | true ↦ λ too. let same : x ∷ y ∷ ys ≡ 45 ∷ 45 ∷ ys = ap₂ (λ j k. j ∷ k ∷ ys) (same_byte x 45 is) (same_byte y 45 too) in
        dashed (x ∷ y ∷ ys) ys same
    | false ↦ λ no. inr (inr (inr (y, ys, ap (λ k. k ∷ y ∷ ys) (same_byte x 45 is), no)))
  ] refl
  | false ↦ λ is. inl (rw is refl, (rw is refl, rw is refl, rw is refl))
] refl

-- ---- what holds between two words

-- the positional that takes the next plain word
abbrev pos : List Word → ℕ
pos [] = 1
pos (x ∷ []) = 2
pos (x ∷ y ∷ ys) = 3

abbrev Settles : List Row → Option (Word × List Word) → Type 0
Settles rows p = settle_fault c false (record { rows = rows; pending = p; skip = 0 }) ≡ []

abbrev Holds : List Row → Option (Word × List Word) → Read → Type 0
Holds rows p r = Settles rows p × Looks (settled_rows c p rows) r

and_false : (b : Bool) → (b && false) ≡ false
and_false true = refl
and_false false = refl

or_false : (b : Bool) → (b || false) ≡ b
or_false true = refl
or_false false = refl

plains_same : (name : OptionName) (v : Word) (r : Read) → r.plains ≡ (line.with_value name v r).plains
plains_same line.budget v r = refl
plains_same line.keep v r = refl

-- a row of the option more
more_values : (name : OptionName) (rows : List Row) (r : Read) (v : Word) → Looks rows r → Looks (put (rule_of name).id v rows) (line.with_value name v r)
more_values line.budget rows r v l = record {
  budget = look-same B.id v rows r.budgets refl l.budget;
  keep = look-other B.id K.id v rows refl ∙ l.keep;
  folder = look-other B.id F.id v rows refl ∙ l.folder;
  command = look-other B.id M.id v rows refl ∙ l.command;
  arguments = look-other B.id G.id v rows refl ∙ l.arguments;
}
more_values line.keep rows r v l = record {
  budget = look-other K.id B.id v rows refl ∙ l.budget;
  keep = look-same K.id v rows r.keeps refl l.keep;
  folder = look-other K.id F.id v rows refl ∙ l.folder;
  command = look-other K.id M.id v rows refl ∙ l.command;
  arguments = look-other K.id G.id v rows refl ∙ l.arguments;
}

-- no option waits for its value
abbrev Rests : Waiting → Type 0
Rests idle = Unit {0}
Rests (option id) = ⊥
Rests positional = Unit {0}

-- a plain word more: what clap then holds
module _ (rows : List Row) (p : Option (Word × List Word)) (waiting : Waiting) (t : Bool) (bs ks : List Word) (word : Word) where
  abbrev so : List Word → Read
  so ps = record { budgets = bs; keeps = ks; plains = ps }

  abbrev S : List Row
  S = settled_rows c p rows

  abbrev Moved : List Word → Type 0
  Moved ps = (rows' : List Row) × (p' : Option (Word × List Word)) × (waiting' : Waiting) × Rests waiting'
      × (comes (at rows p waiting (pos ps) t) word [] ((at rows p waiting (pos ps) t).held, value) ≡ ([], at rows' p' waiting' (pos (ps ++ word ∷ [])) t))
      × Holds rows' p' (so (ps ++ word ∷ []))

  -- the word goes to the positional A at k, after which the walk waits as it does and stands at k'
  abbrev taken : Rule → Waiting → ℕ → Bool → Turn
  taken A waits k' b = (
    cond b [] (settle_fault c false (record { rows = rows; pending = p; skip = 0 })),
    record {
      held = pushed A.id word (cond b (record { rows = rows; pending = p; skip = 0 }) (record { rows = S; pending = None; skip = 0 }));
      waiting = waits;
      position = k';
      is_trailing = t || false;
      stopped = None;
    },
  )

  taken_is : (A : Rule) (waits : Waiting) (k' : ℕ) (b : Bool) → Settles rows p → taken A waits k' (b && false) ≡ ([], at S (Some (A.id, word ∷ [])) waits k' t)
  taken_is A waits k' b settles =
      ap (taken A waits k') (and_false b)
      ∙ ap₂ (λ (f : Kinds) (u : Bool). let x : Turn = (f, at S (Some (A.id, word ∷ [])) waits k' u) in x) settles (or_false t)

  moved : (ps : List Word) → Holds rows p (so ps) → Moved ps
  moved [] (settles, l) = (
    S,
    Some (F.id, word ∷ []),
    idle,
    tt,
    taken_is F idle 2 (is_pending F p) settles,
    (
      rw (has-none F.id S l.folder) refl,
      rw (without-none F.id S l.folder) (record {
        budget = look-other F.id B.id word S refl ∙ l.budget;
        keep = look-other F.id K.id word S refl ∙ l.keep;
        folder = look-same F.id word S [] refl l.folder;
        command = look-other F.id M.id word S refl ∙ l.command;
        arguments = look-other F.id G.id word S refl ∙ l.arguments;
      }),
    ),
  )
  moved (f ∷ []) (settles, l) = (
    S,
    Some (M.id, word ∷ []),
    idle,
    tt,
    taken_is M idle 3 (is_pending M p) settles,
    (
      rw (has-none M.id S l.command) refl,
      rw (without-none M.id S l.command) (record {
        budget = look-other M.id B.id word S refl ∙ l.budget;
        keep = look-other M.id K.id word S refl ∙ l.keep;
        folder = look-other M.id F.id word S refl ∙ l.folder;
        command = look-same M.id word S [] refl l.command;
        arguments = look-other M.id G.id word S refl ∙ l.arguments;
      }),
    ),
  )
  moved (f ∷ m ∷ gs) (settles, l) = (
    S,
    Some (G.id, word ∷ []),
    positional,
    tt,
    taken_is G positional 3 (is_pending G p) settles,
    (
      refl,
      record {
        budget = look-other G.id B.id word S refl ∙ l.budget;
        keep = look-other G.id K.id word S refl ∙ l.keep;
        folder = look-other G.id F.id word S refl ∙ l.folder;
        command = look-other G.id M.id word S refl ∙ l.command;
        arguments = look-same G.id word S gs refl l.arguments;
      },
    ),
  )

-- ---- one step of both readings

abbrev pub NotEmpty : Kinds → Type 0
NotEmpty ks = ks ≡ [] → ⊥

or_else-fails : (f g : Kinds) → NotEmpty f → NotEmpty (or_else f g)
or_else-fails [] g bad = absurd (bad refl)
or_else-fails (k ∷ ks) g bad = λ e. cc

-- where the walk stands, by the place of the reading
abbrev Stands : line.Place → Read → Walk → Type 0
Stands line.before r w = (rows : List Row) × (p : Option (Word × List Word)) × (waiting : Waiting) × Rests waiting × (w ≡ at rows p waiting (pos r.plains) false) × Holds rows p r
Stands (line.value name) r w = (rows : List Row) × (w ≡ at rows (Some ((rule_of name).id, [])) (option (rule_of name).id) (pos r.plains) false) × Holds rows None r
Stands line.behind r w = (rows : List Row) × (p : Option (Word × List Word)) × (waiting : Waiting) × (w ≡ at rows p waiting (pos r.plains) true) × Holds rows p r

-- an option got no value
abbrev Lacks : Walk → Type 0
Lacks w = (name : OptionName) × (rows : List Row) × (waiting : Waiting) × (ps : List Word) × (w ≡ at rows (Some ((rule_of name).id, [])) waiting (pos ps) true)

abbrev Steps : line.Place → Read → Walk → Word → Type 0
Steps place r w word =
    (((next : Next) → line.read_word place word r next ≡ None) × (NotEmpty (turn w word).0 ⊎ ((turn w word).0 ≡ []) × Lacks (turn w word).1))
    ⊎ ((place' : line.Place) × (r' : Read) × ((next : Next) → line.read_word place word r next ≡ next place' r')
    × ((turn w word).0 ≡ []) × Stands place' r' (turn w word).1)

-- by what a turn comes to
module _ (place : line.Place) (r : Read) (w : Walk) (word : Word) where
  goes_on : (place' : line.Place) (r' : Read) (w' : Walk) → ((next : Next) → line.read_word place word r next ≡ next place' r')
      → turn w word ≡ ([], w') → Stands place' r' w' → Steps place r w word
  goes_on place' r' w' reads is stands = inr (place', r', reads, ap (λ (x : Turn). x.0) is, subst (Stands place' r') (sym (ap (λ (x : Turn). x.1) is)) stands)

  fails : (x : Turn) → ((next : Next) → line.read_word place word r next ≡ None) → turn w word ≡ x → NotEmpty x.0 → Steps place r w word
  fails x reads is bad = inl (reads, inl (λ e. bad (sym (ap (λ (x : Turn). x.0) is) ∙ e)))

  lacks : (w' : Walk) → ((next : Next) → line.read_word place word r next ≡ None) → turn w word ≡ ([], w') → Lacks w' → Steps place r w word
  lacks w' reads is bad = inl (reads, inr (ap (λ (x : Turn). x.0) is, subst Lacks (sym (ap (λ (x : Turn). x.1) is)) bad))

-- after the first `--`
step_behind : (r : Read) (w : Walk) (word : Word) → Stands line.behind r w → Steps line.behind r w word
unfolding walked
step_behind r w word (rows, p, waiting, is, holds) =
    let m = moved rows p waiting true r.budgets r.keeps word r.plains holds in
    subst (λ (v : Walk). Steps line.behind r v word) (sym is)
    (goes_on line.behind r (at rows p waiting (pos r.plains) true) word line.behind (line.with_plain word r) (at m.0 m.1 m.2 (pos (r.plains ++ word ∷ [])) true) (λ next. refl) m.4 (m.0, m.1, m.2, refl, m.5))

-- `--name` or `--name=value`, of an argument that was found or not
abbrev named : List Row → Option (Word × List Word) → Waiting → ℕ → Word → Option Rule → Option Word → Turn
named rows p waiting k word found v =
    let w = at rows p waiting k false in
    comes w word (long_fault c false found v w.held) (after_flag c waiting word (long_met c found v w.held).0 (long_met c found v w.held).1)

named_is : (rows : List Row) (p : Option (Word × List Word)) (waiting : Waiting) (k x : ℕ) (xs : Word) →
    turn (at rows p waiting k false) (45 ∷ 45 ∷ x ∷ xs)
    ≡ named rows p waiting k (45 ∷ 45 ∷ x ∷ xs) (option_map rule_of (named_in (x ∷ xs))) (line.value_behind_equals (x ∷ xs))
named_is rows p waiting k x xs =
    turn_long rows p waiting k x xs
    ∙ ap (λ found. named rows p waiting k (45 ∷ 45 ∷ x ∷ xs) found (line.value_behind_equals (x ∷ xs))) (by_long rows p waiting k (before_first (λ b. b == 61) (x ∷ xs)))

-- the characters of a text that is not empty
some_char : (x : ℕ) (xs : Word) → IsUtf8 (45 ∷ x ∷ xs) → (ch : ℕ) × (slice_get (chars (x ∷ xs)) 0 ≡ Some ch)
unfolding encode_utf8
some_char x xs u =
    let rest : IsUtf8 (x ∷ xs) = IsUtf8-past_char (45 ∷ x ∷ xs) (x ∷ xs) 45 u refl in
    let back : encode_utf8_all (chars (x ∷ xs)) ≡ x ∷ xs = encodes-chars (x ∷ xs) rest in
    elim (chars (x ∷ xs)) as (λ cs. encode_utf8_all cs ≡ x ∷ xs → (ch : ℕ) × (slice_get cs 0 ≡ Some ch)) [
      | [] ↦ λ e. absurd (cons_nil x xs (sym e))
      | ch ∷ cs ↦ λ e. (ch, refl)
    ] back

flags_fail : (n x ch : ℕ) (xs : Word) (h : Held) → slice_get (chars (x ∷ xs)) 0 ≡ Some ch → NotEmpty (flags_fault c false (suc n) (x ∷ xs) 0 h)
unfolding flags_fault
flags_fail n x ch xs h is = rw is (λ e. cc)

-- a short flag, of which the command has none
short_fails : (rows : List Row) (p : Option (Word × List Word)) (waiting : Waiting) (k x : ℕ) (xs : Word) → (x == 45) ≡ false → IsUtf8 (45 ∷ x ∷ xs)
    → NotEmpty (turn (at rows p waiting k false) (45 ∷ x ∷ xs)).0
short_fails rows p waiting k x xs apart u =
    let word : Word = 45 ∷ x ∷ xs in
    let h : Held = record { rows = rows; pending = p; skip = 0 } in
    let char = some_char x xs u in
    let n : length (x ∷ xs) ≡ suc (length xs) = omega arith in
    let flags : NotEmpty (bundle_fault c false (x ∷ xs) h) = rw n (flags_fail (length xs) x char.0 xs h char.1) in
    let all : NotEmpty (other_fault s None word h) = rw apart (rw apart flags) in
    let met = subcommand_or_other c None waiting k word h in
    λ e. or_else-fails (other_fault s None word h) (step_fault s k met.0 met.1) all (sym (ap (λ (x : Turn). x.0) (turn_is rows p waiting k word)) ∙ e)

rests_plain : (waiting : Waiting) (word : Word) (h : Held) → Rests waiting → plain_word c waiting word h ≡ (h, value)
rests_plain idle word h r = refl
rests_plain (option id) word h r = absurd r
rests_plain positional word h r = refl

-- what a long word reads as, by the option that it names
long_kind : (x : ℕ) (xs : Word) → line.kind_of (45 ∷ 45 ∷ x ∷ xs) ≡ kind_by (named_in (x ∷ xs)) (line.value_behind_equals (x ∷ xs))
long_kind x xs = kind_is (bytes_eq (codes "budget") (line.name_in (x ∷ xs))) (bytes_eq (codes "keep") (line.name_in (x ∷ xs))) (line.value_behind_equals (x ∷ xs))

-- a long word, by the option that it names and by its value
module _ (rows : List Row) (p : Option (Word × List Word)) (waiting : Waiting) (r : Read) (word : Word) where
  abbrev here : Walk
  here = at rows p waiting (pos r.plains) false

  abbrev Reads : line.Kind → Type 0
  Reads kind = (next : Next) → line.read_word line.before word r next ≡ line.read_before kind word r next

  abbrev Turns : Option Rule → Option Word → Type 0
  Turns found v = turn here word ≡ named rows p waiting (pos r.plains) word found v

  with_value_here : (name : OptionName) (v : Word) → Holds rows p r → Reads (line.option name (Some v))
      → turn here word ≡ (or_else (or_else (settle_fault c false (here.held)) []) [], at (put (rule_of name).id v (settled_rows c p rows)) None idle (pos r.plains) false)
      → Steps line.before r here word
  with_value_here name v (settles, l) reads turns =
      let S = put (rule_of name).id v (settled_rows c p rows) in
      let after : Walk = at S None idle (pos (line.with_value name v r).plains) false in
      goes_on line.before r here word line.before (line.with_value name v r) after reads
      (turns ∙ ap (λ (f : Kinds). let x : Turn = (or_else (or_else f []) [], at S None idle (pos r.plains) false) in x) settles
      ∙ ap (λ ps. let x : Turn = ([], at S None idle (pos ps) false) in x) (plains_same name v r))
      (S, None, idle, tt, refl, (refl, more_values name (settled_rows c p rows) r v l))

  with_value_next : (name : OptionName) → Holds rows p r → Reads (line.option name None)
      → turn here word ≡ (or_else (settle_fault c false (here.held)) [], at (settled_rows c p rows) (Some ((rule_of name).id, [])) (option (rule_of name).id) (pos r.plains) false)
      → Steps line.before r here word
  with_value_next name (settles, l) reads turns =
      let after : Walk = at (settled_rows c p rows) (Some ((rule_of name).id, [])) (option (rule_of name).id) (pos r.plains) false in
      goes_on line.before r here word (line.value name) r after reads
      (turns ∙ ap (λ (f : Kinds). let x : Turn = (or_else f [], after) in x) settles)
      (settled_rows c p rows, refl, (refl, l))

  long_before : (name : Option OptionName) (v : Option Word) → Holds rows p r → Reads (kind_by name v) → Turns (option_map rule_of name) v → Steps line.before r here word
  long_before (Some line.budget) (Some v) holds reads turns = with_value_here line.budget v holds reads turns
  long_before (Some line.keep) (Some v) holds reads turns = with_value_here line.keep v holds reads turns
  long_before (Some line.budget) None holds reads turns = with_value_next line.budget holds reads turns
  long_before (Some line.keep) None holds reads turns = with_value_next line.keep holds reads turns
  long_before None v holds reads turns = fails line.before r here word (named rows p waiting (pos r.plains) word None v) reads turns (λ e. cc)

-- before the first `--`
step_before : (r : Read) (w : Walk) (word : Word) → IsUtf8 word → Stands line.before r w → Steps line.before r w word
step_before r w word u (rows, p, waiting, rests, is, holds) =
    let here : Walk = at rows p waiting (pos r.plains) false in
    subst (λ (v : Walk). Steps line.before r v word) (sym is)
    (elim (shapes word) [
      | inl plain ↦
          let m = moved rows p waiting false r.budgets r.keeps word r.plains holds in
          goes_on line.before r here word line.before (line.with_plain word r) (at m.0 m.1 m.2 (pos (r.plains ++ word ∷ [])) false)
          (λ next. ap (λ kind. line.read_before kind word r next) plain.0)
          (turn_plain rows p waiting (pos r.plains) word plain.1.0 plain.1.1 plain.1.2 ∙ ap (comes here word []) (rests_plain waiting word here.held rests) ∙ m.4)
          (m.0, m.1, m.2, m.3, refl, m.5)
      | inr (inl dashes) ↦ subst (λ (x : Word). Steps line.before r here x) (sym dashes)
          (goes_on line.before r here (45 ∷ 45 ∷ []) line.behind r (at rows p waiting (pos r.plains) true) (λ next. refl) (turn_dashes rows p waiting (pos r.plains)) (rows, p, waiting, refl, holds))
      | inr (inr (inl (x, xs, e))) ↦ subst (λ (x : Word). Steps line.before r here x) (sym e)
          (long_before rows p waiting r (45 ∷ 45 ∷ x ∷ xs) (named_in (x ∷ xs)) (line.value_behind_equals (x ∷ xs)) holds (λ next. ap (λ kind. line.read_before kind (45 ∷ 45 ∷ x ∷ xs) r next) (long_kind x xs)) (named_is rows p waiting (pos r.plains) x xs))
      | inr (inr (inr (x, xs, e, apart))) ↦ subst (λ (x : Word). IsUtf8 x → Steps line.before r here x) (sym e)
          (λ v. inl ((λ next. rw apart refl), inl (short_fails rows p waiting (pos r.plains) x xs apart v))) u
    ])

-- what clap does where an option's value comes next, for each option
long_fails : (name other : OptionName) (v : Option Word) (rows : List Row) (k : ℕ) (word : Word)
    → NotEmpty (named rows (Some ((rule_of name).id, [])) (option (rule_of name).id) k word (Some (rule_of other)) v).0
long_fails line.budget line.budget (Some v) rows k word = λ e. cc
long_fails line.budget line.budget None rows k word = λ e. cc
long_fails line.budget line.keep (Some v) rows k word = λ e. cc
long_fails line.budget line.keep None rows k word = λ e. cc
long_fails line.keep line.budget (Some v) rows k word = λ e. cc
long_fails line.keep line.budget None rows k word = λ e. cc
long_fails line.keep line.keep (Some v) rows k word = λ e. cc
long_fails line.keep line.keep None rows k word = λ e. cc

filled_is : (name : OptionName) (rows : List Row) (k : ℕ) (word : Word) → let id = (rule_of name).id in let w = at rows (Some (id, [])) (option id) k false in
    comes w word [] (plain_word c (option id) word w.held) ≡ ([], at rows (Some (id, word ∷ [])) idle k false)
filled_is line.budget rows k word = refl
filled_is line.keep rows k word = refl

one_settles : (name : OptionName) (rows : List Row) (word : Word) → Settles rows (Some ((rule_of name).id, word ∷ []))
one_settles line.budget rows word = refl
one_settles line.keep rows word = refl

settled_value : (name : OptionName) (rows : List Row) (r : Read) (word : Word) → Looks rows r → Looks (settled_rows c (Some ((rule_of name).id, word ∷ [])) rows) (line.with_value name word r)
settled_value line.budget rows r word l = more_values line.budget rows r word l
settled_value line.keep rows r word l = more_values line.keep rows r word l

-- where an option's value comes next
module _ (name : OptionName) (rows : List Row) (r : Read) where
  abbrev waits : Walk
  waits = at rows (Some ((rule_of name).id, [])) (option (rule_of name).id) (pos r.plains) false

  long_value : (word : Word) (found : Option OptionName) (v : Option Word)
      → ((next : Next) → line.read_word (line.value name) word r next ≡ line.read_value name (kind_by found v) word r next)
      → turn waits word ≡ named rows (Some ((rule_of name).id, [])) (option (rule_of name).id) (pos r.plains) word (option_map rule_of found) v → Steps (line.value name) r waits word
  long_value word (Some other) v reads turns = fails (line.value name) r _ word _ reads turns (long_fails name other v rows (pos r.plains) word)
  long_value word None v reads turns = fails (line.value name) r _ word _ reads turns (λ e. cc)

step_value : (name : OptionName) (r : Read) (w : Walk) (word : Word) → IsUtf8 word → Stands (line.value name) r w → Steps (line.value name) r w word
step_value name r w word u (rows, is, (settles, l)) =
    let id = (rule_of name).id in
    let here : Walk = at rows (Some (id, [])) (option id) (pos r.plains) false in
    subst (λ (v : Walk). Steps (line.value name) r v word) (sym is)
    (elim (shapes word) [
      | inl plain ↦
          goes_on (line.value name) r here word line.before (line.with_value name word r) (at rows (Some (id, word ∷ [])) idle (pos (line.with_value name word r).plains) false)
          (λ next. ap (λ kind. line.read_value name kind word r next) plain.0)
          (turn_plain rows (Some (id, [])) (option id) (pos r.plains) word plain.1.0 plain.1.1 plain.1.2 ∙ filled_is name rows (pos r.plains) word
          ∙ ap (λ ps. let x : Turn = ([], at rows (Some (id, word ∷ [])) idle (pos ps) false) in x) (plains_same name word r))
          (rows, Some (id, word ∷ []), idle, tt, refl, (one_settles name rows word, settled_value name rows r word l))
      | inr (inl dashes) ↦ subst (λ (x : Word). Steps (line.value name) r here x) (sym dashes)
          (lacks (line.value name) r here (45 ∷ 45 ∷ []) (at rows (Some (id, [])) (option id) (pos r.plains) true) (λ next. refl) (turn_dashes rows (Some (id, [])) (option id) (pos r.plains)) (name, rows, option id, r.plains, refl))
      | inr (inr (inl (x, xs, e))) ↦ subst (λ (x : Word). Steps (line.value name) r here x) (sym e)
          (long_value name rows r (45 ∷ 45 ∷ x ∷ xs) (named_in (x ∷ xs)) (line.value_behind_equals (x ∷ xs)) (λ next. ap (λ kind. line.read_value name kind (45 ∷ 45 ∷ x ∷ xs) r next) (long_kind x xs)) (named_is rows (Some (id, [])) (option id) (pos r.plains) x xs))
      | inr (inr (inr (x, xs, e, apart))) ↦ subst (λ (x : Word). IsUtf8 x → Steps (line.value name) r here x) (sym e)
          (λ v. inl ((λ next. rw apart refl), inl (short_fails rows (Some (id, [])) (option id) (pos r.plains) x xs apart v))) u
    ])

-- ---- all words

abbrev end : Walk → List Word → Walk
end w words = fold (walked c []) w words

abbrev run_fault : Walk → List Word → Kinds
run_fault w words = or_else (walk_fault s [] w words) (settle_fault c false (end w words).held)

abbrev run_rows : Walk → List Word → List Row
run_rows w words = settled_rows c (end w words).held.pending (end w words).held.rows

abbrev pub Agrees : Option Read → Kinds → List Row → Type 0
Agrees None f rows = NotEmpty f
Agrees (Some r) f rows = (f ≡ []) × Looks rows r

step : (place : line.Place) (r : Read) (w : Walk) (word : Word) → IsUtf8 word → Stands place r w → Steps place r w word
step line.before r w word u stands = step_before r w word u stands
step (line.value name) r w word u stands = step_value name r w word u stands
step line.behind r w word u stands = step_behind r w word stands

lacking_turn : (name : OptionName) (rows : List Row) (waiting : Waiting) (ps : List Word) (word : Word)
    → NotEmpty (turn_fault s [] (at rows (Some ((rule_of name).id, [])) waiting (pos ps) true) word)
lacking_turn line.budget rows waiting [] word = λ e. cc
lacking_turn line.budget rows waiting (f ∷ []) word = λ e. cc
lacking_turn line.budget rows waiting (f ∷ m ∷ gs) word = λ e. cc
lacking_turn line.keep rows waiting [] word = λ e. cc
lacking_turn line.keep rows waiting (f ∷ []) word = λ e. cc
lacking_turn line.keep rows waiting (f ∷ m ∷ gs) word = λ e. cc

lacking_end : (name : OptionName) (rows : List Row) → NotEmpty (settle_fault c false (record { rows = rows; pending = Some ((rule_of name).id, []); skip = 0 }))
lacking_end line.budget rows = λ e. cc
lacking_end line.keep rows = λ e. cc

lacking : (words : List Word) (w : Walk) → Lacks w → NotEmpty (run_fault w words)
unfolding walk_fault
lacking [] w (name, rows, waiting, ps, is) = rw is (lacking_end name rows)
lacking (word ∷ rest) w (name, rows, waiting, ps, is) =
    let turned : NotEmpty (turn_fault s [] w word) = rw is (lacking_turn name rows waiting ps word) in
    or_else-fails _ _ (or_else-fails _ _ turned)

goes : (words : List Word) (place : line.Place) (r : Read) (w : Walk) → AllByRecursion IsUtf8 words → Stands place r w
    → Agrees (line.read_from place r words) (run_fault w words) (run_rows w words)
unfolding walk_fault line.read_from
goes [] line.before r w u (rows, p, waiting, rests, is, holds) = rw is holds
goes [] (line.value name) r w u (rows, is, holds) = rw is (lacking_end name rows)
goes [] line.behind r w u (rows, p, waiting, is, holds) = rw is holds
goes (word ∷ rest) place r w u stands = elim (step place r w word u.0 stands) [
  | inl (reads, inl bad) ↦ rw (reads (λ p s. line.read_from p s rest)) (or_else-fails _ _ (or_else-fails _ _ bad))
  | inl (reads, inr (ok, lack)) ↦ rw (reads (λ p s. line.read_from p s rest)) (rw ok (lacking rest (walked c [] w word) lack))
  | inr (place', r', reads, ok, stands') ↦ rw (reads (λ p s. line.read_from p s rest)) (rw ok (goes rest place' r' (walked c [] w word) u.1 stands'))
]

-- ---- the whole parse

or_true : (b : Bool) → (b || true) ≡ true
or_true true = refl
or_true false = refl

either : {X : Type 0} (b : Bool) (x : X) → cond b x x ≡ x
either true x = refl
either false x = refl

no_default_fault : (rows : List Row) (a : Rule) → a.defaults ≡ [] → default_fault rows a ≡ []
no_default_fault rows a e = rw e (rw (or_true (has_row a.id rows)) refl)

no_default : (rows : List Row) (a : Rule) → a.defaults ≡ [] → with_default rows a ≡ rows
no_default rows a e = rw e (either (has_row a.id rows) rows)

no_defaults : (rows : List Row) → defaults_fault rows c ≡ []
unfolding defaults_fault
no_defaults rows =
    rw (no_default_fault rows B refl) (rw (no_default rows B refl)
    (rw (no_default_fault rows K refl) (rw (no_default rows K refl)
    (rw (no_default_fault rows F refl) (rw (no_default rows F refl)
    (rw (no_default_fault rows M refl) (rw (no_default rows M refl)
    (rw (no_default_fault rows G refl) refl))))))))

all_done : (rows : List Row) → fold with_default rows c ≡ rows
all_done rows = rw (no_default rows B refl) (rw (no_default rows K refl) (rw (no_default rows F refl) (rw (no_default rows M refl) (no_default rows G refl))))

abbrev some_text : List Word → Bool
some_text [] = false
some_text (v ∷ vs) = true

given_is : (id : Word) (rows : List Row) (vs : List Word) → look id rows ≡ entry id vs → is_given id rows ≡ some_text vs
given_is id rows [] e = rw e refl
given_is id rows (v ∷ vs) e = rw e refl

abbrev missing : Bool → Bool → Kinds
missing folder command = check_kinds false false (not folder || (not command || false))

check_is : (rows : List Row) (r : Read) → Looks rows r → check_fault s rows false ≡ missing (some_text (folders r.plains)) (some_text (commands r.plains))
check_is rows r l = ap₂ missing (given_is F.id rows (folders r.plains) l.folder) (given_is M.id rows (commands r.plains) l.command)

final_so : (ps : List Word) (r : Read) (f : Kinds) (rows : List Row) → ps ≡ r.plains → Agrees (Some r) f rows → Agrees (whole ps r) (or_else f (check_fault s rows false)) rows
final_so [] r f rows e (ok, l) = rw ok (rw (check_is rows r l) (rw (← e) (λ e. cc)))
final_so (x ∷ []) r f rows e (ok, l) = rw ok (rw (check_is rows r l) (rw (← e) (λ e. cc)))
final_so (x ∷ y ∷ ys) r f rows e (ok, l) = (rw ok (rw (check_is rows r l) (rw (← e) refl)), l)

final : (o : Option Read) (f : Kinds) (rows : List Row) → Agrees o f rows → Agrees (option_and_then (λ r. whole r.plains r) o) (or_else f (check_fault s rows false)) rows
final None f rows bad = or_else-fails f _ bad
final (Some r) f rows agrees = final_so r.plains r f rows refl agrees

or_else-assoc : (f g k : Kinds) → or_else f (or_else g k) ≡ or_else (or_else f g) k
or_else-assoc [] g k = refl
or_else-assoc (x ∷ xs) g k = refl

abbrev start : Walk
start = walk_from nothing_held

level_is : (words : List Word) → level_fault s [] nothing_held words false [] ≡ or_else (run_fault start words) (check_fault s (run_rows start words) false)
level_is words =
    let W = walk_fault s [] start words in let SF = settle_fault c false (end start words).held in
    ap (λ f. or_else W (or_else SF (or_else f (check_fault s (fold with_default (run_rows start words) c) false)))) (no_defaults (run_rows start words))
    ∙ ap (λ rows. or_else W (or_else SF (check_fault s rows false))) (all_done (run_rows start words))
    ∙ or_else-assoc W SF (check_fault s (run_rows start words) false)

-- clap refuses the words exactly where they are no line, and else its matches are the line's
pub outcome : (words : List Word) → AllByRecursion IsUtf8 (drop 1 words) → Agrees (whole_read words) (fault_of the_app words) (matches_of the_app words)
outcome words u =
    let g = goes (drop 1 words) line.before line.nothing_read start u ([], None, idle, tt, refl, (refl, record { budget = refl; keep = refl; folder = refl; command = refl; arguments = refl })) in
    let f : fault_of the_app words ≡ or_else (run_fault start (drop 1 words)) (check_fault s (run_rows start (drop 1 words)) false) =
    leaf_fault (built the_app) nothing_held (drop 1 words) refl ∙ level_is (drop 1 words) in
    let rows : matches_of the_app words ≡ run_rows start (drop 1 words) = all_done (run_rows start (drop 1 words)) in
    rw f (rw rows (final (line.read_from line.before line.nothing_read (drop 1 words)) _ _ g))
