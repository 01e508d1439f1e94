-- What the walk over a tree promises: exact counts, each cut off at the end of its type, and the keys of the entries.
use Rattle.std.specs.Prelude.{◌≡◌, ℕ, ◌+◌, ◌-◌, ◌^◌, ◌*◌, List, [], ◌∷◌, Bool, true, cond, min, max}
use Rattle.std.specs.FinSet as set
use Rattle.s80_tree.specs.Tree.{ExprTree, PrimaryTree, ExprTrees, MessageTrees, BodyTree, MethodParts, no_messages, messages}
use Rattle.s80_scope.specs.FitLiterals.{Entry, Keys, key, literal_count}
use Rattle.s80_scope.specs.FitStack.{Needs, expr_needs, receiver_needs, messages_needs, arguments_needs, arms_needs, arm_needs, body_needs, expr_parameters, primary_parameters, messages_parameters, exprs_parameters, body_parameters, temporaries, values_below}
use Rattle.s80_scope.specs.FitWeight.{expr_weight, receiver_weight, messages_weight, arguments_weight, arms_weight, arm_weight, arm_position, body_weight, own_weight, statement_position, statement_weight, weight}
use Rattle.s80_scope.specs.Inlined.{are_arms, is_inlined}
use Rattle.s80_scope.specs.declared.fit.counts.Counts.{Counts}
use Rattle.s80_scope.specs.declared.fit.ending.Ending.{Ending}
use Rattle.s80_scope.specs.declared.fit.position.Position.{Position}
use Rattle.s80_scope.specs.declared.fit.position.Leaves.{Leaves}

abbrev pub cut : ℕ → ℕ
cut n = min n (2 ^ 32 - 1)

abbrev pub cut_off : Counts → Counts
cut_off c = record { here = cut c.here; inside = cut c.inside; parameters = cut c.parameters; weight = cut c.weight }

-- the counts of a part by its measures
abbrev pub counts : Needs → ℕ → ℕ → Counts
counts needs parameters weight = record { here = needs.here; inside = needs.inside; parameters = parameters; weight = weight }

-- two parts one after the other, on one stack
abbrev pub both : Counts → Counts → Counts
both a b = record { here = max a.here b.here; inside = max a.inside b.inside; parameters = a.parameters + b.parameters; weight = a.weight + b.weight }

abbrev pub none : Counts
none = record { here = 0; inside = 0; parameters = 0; weight = 0 }

abbrev pub heavier : ℕ → Counts → Counts
heavier n c = record { here = c.here; inside = c.inside; parameters = c.parameters; weight = c.weight + n }

abbrev pub declaring : ℕ → Counts → Counts
declaring n c = record { here = c.here; inside = c.inside; parameters = c.parameters + n; weight = c.weight }

abbrev pub above : ℕ → Counts → Counts
above n c = record { here = n + c.here; inside = c.inside; parameters = c.parameters; weight = c.weight }

abbrev pub at_least : ℕ → Counts → Counts
at_least n c = record { here = max c.here n; inside = max c.inside 0; parameters = c.parameters; weight = c.weight }

-- a real block with so many parameters, by its body
abbrev pub block_counts : ℕ → Counts → Counts
block_counts n c = record { here = 2; inside = max (max c.here (max n 1)) c.inside; parameters = c.parameters + n; weight = c.weight + 6 + 2 * n }

abbrev pub expr_counts : Position → ExprTree → Counts
expr_counts position e = counts (expr_needs e) (expr_parameters e) (expr_weight position e)

abbrev pub receiver_counts : Bool → PrimaryTree → Counts
receiver_counts looped p = counts (receiver_needs looped p) (primary_parameters p) (receiver_weight looped p)

abbrev pub messages_counts : Position → Ending → Ending → MessageTrees → Counts
messages_counts position before last ms = counts (messages_needs before last ms) (messages_parameters ms) (messages_weight position before last ms)

-- with so many values below the first
abbrev pub arguments_counts : ℕ → ExprTrees → Counts
arguments_counts n es = counts (arguments_needs n es) (exprs_parameters es) (arguments_weight es)

abbrev pub arms_counts : Position → ExprTrees → Counts
arms_counts position es = counts (arms_needs es) (exprs_parameters es) (arms_weight position es)

abbrev pub body_counts : Leaves → BodyTree → Counts
body_counts l ss = counts (body_needs ss) (body_parameters ss) (body_weight l ss)

-- a set of keys, and then those of entries, one after the other
abbrev pub with_entries : Keys → List Entry → Keys
with_entries s [] = s
with_entries s (e ∷ es) = with_entries (set.insert s (key e)) es

-- ---- parts of the walk

-- a message that is sent, by its arguments
abbrev pub sent_counts : Position → Ending → ExprTrees → Counts
sent_counts position ending es = heavier (own_weight position ending) (at_least (values_below ending) (arguments_counts (values_below ending) es))

abbrev pub last_counts : Position → Ending → ExprTrees → Counts
last_counts position ending es =
    heavier (own_weight position ending) (at_least (values_below ending)
    (cond (is_inlined ending) (arms_counts (arm_position position ending) es) (arguments_counts (values_below ending) es)))

abbrev pub arm_counts : Position → ExprTree → Counts
arm_counts position e = counts (arm_needs e) (expr_parameters e) (arm_weight position e)

abbrev pub statement_counts : Leaves → Bool → ExprTree → Counts
statement_counts l r e = counts (expr_needs e) (expr_parameters e) (statement_weight l r e (expr_weight (statement_position l r) e))

-- the arguments of the last message, if there is one, are arms
abbrev pub last_has_arms : MessageTrees → Bool
last_has_arms no_messages = true
last_has_arms (messages s es no_messages) = are_arms es
last_has_arms (messages s es ms) = last_has_arms ms

-- how many entries a method has, and its counts with all its temporaries
abbrev pub IsMethodCount : MethodParts → ℕ × Counts → Type 0
IsMethodCount m found = (found.0 ≡ literal_count m) × (found.1 ≡ cut_off (counts (body_needs m.body) (temporaries m) (weight m)))
