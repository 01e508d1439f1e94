-- A tree has one form at most.
use Rattle.std.proofs.Common.{◌≡◌, ℕ, ◌⊎◌, inl, inr, List, codes, refl, ap, sym, ◌∙◌, subst}
use Rattle.s80_base.specs.Literal.{symbol, str}
use Rattle.s80_base.specs.declared.names.Side.{Side}
use Rattle.s80_base.specs.declared.names.Side.TheVariants.{Instance, Class}
use Rattle.s80_syntax.proofs.lemmas.OneReading.{one_doit_of}
use Rattle.s80_tree.specs.declared.name.NameAt.{NameAt}
use Rattle.s80_tree.specs.Tree.{DoItParts, ExprTrees, MessageTree, no_exprs}
use Rattle.s80_form.specs.declared.definition.Definition.{Definition}
use Rattle.s80_form.specs.declared.form.Form.{Form}
use Rattle.s80_form.specs.declared.form.Form.TheVariants.{Define, ClassVars, Comment, RemoveMethod, Classify, RemoveClass, NoChanges}
use Rattle.s80_form.specs.declared.form.Recognised.{Recognised}
use Rattle.s80_form.specs.declared.form.Recognised.TheVariants as recognised
use Rattle.s80_form.specs.declared.keyword.Keyword.{Keyword}
use Rattle.s80_form.specs.declared.keyword.Keyword.TheVariants.{Defines, Plain}
use Rattle.s80_form.specs.declared.keyword.Word.{Word}
use Rattle.s80_form.specs.declared.keyword.Word.TheVariants as words
use Rattle.s80_form.specs.Definition.{split_names, defining_selector, are_arguments, IsDefining}
use Rattle.s80_form.specs.Keyword.{keyword_selector}
use Rattle.s80_form.specs.TreeParts.{IsSending, IsOrganizing}
use Rattle.s80_form.specs.Form.{IsCondensing, IsFormOf, IsFormText, IsNoForm, smalltalk, classifying}
use Rattle.s80_form.specs.Shown.{defined, Has, SaysWord, Says, SaysSent, SaysOrganizing, sole}
use Rattle.s80_form.proofs.Keywords.{selectors_same}
use Rattle.s80_form.proofs.lemmas.Cuts.{fields_same}
use Rattle.s80_form.proofs.lemmas.Sendings.{sending_same, organizing_same, no_sending_organizing}

-- ---- one message says one thing at most

word_same : (w : Word) (name : List ℕ) (s : Side) (es : ExprTrees) (y z : Recognised) → SaysWord w name s es y → SaysWord w name s es z → y ≡ z
word_same words.InstanceVariableNames name Class es y z (t, e, i) (u, f, j) = let same : t ≡ u = cc in i ∙ ap (λ x. recognised.Form (ClassVars name (split_names x))) same ∙ sym j
word_same words.InstanceVariableNames name Instance es y z h k = absurd h
word_same words.Comment name Instance es y z (t, e, i) (u, f, j) = let same : t ≡ u = cc in i ∙ ap (λ x. recognised.Form (Comment name x)) same ∙ sym j
word_same words.Comment name Class es y z h k = absurd h
word_same words.RemoveSelector name s es y z (t, e, i) (u, f, j) = let same : t ≡ u = cc in i ∙ ap (λ x. recognised.Form (RemoveMethod name s x)) same ∙ sym j
word_same words.RemoveClassNamed name Instance es y z (t, n, e, i) (u, o, f, j) = let same : t ≡ u = cc in i ∙ ap (λ x. recognised.Form (RemoveClass x)) same ∙ sym j
word_same words.RemoveClassNamed name Class es y z h k = absurd h
word_same words.RemoveFromSystem name Instance es y z (e, i) (f, j) = i ∙ sym j
word_same words.RemoveFromSystem name Class es y z h k = absurd h
word_same words.NoChanges name Instance es y z (n, e, i) (o, f, j) = i ∙ sym j
word_same words.NoChanges name Class es y z h k = absurd h
word_same words.CondenseChanges name Instance es y z (n, e, i) (o, f, j) = i ∙ sym j
word_same words.CondenseChanges name Class es y z h k = absurd h
word_same words.Snapshot name Instance es y z (n, e, i) (o, f, j) = i ∙ sym j
word_same words.Snapshot name Class es y z h k = absurd h
word_same words.Organization name s es y z h k = absurd h

says_same : (k : Keyword) (name : List ℕ) (s : Side) (es : ExprTrees) (y z : Recognised) → Says k name s es y → Says k name s es z → y ≡ z
says_same (Defines kind) name Instance es y z (t, e, i) (u, f, j) =
    let same : are_arguments t ≡ are_arguments u = sym e ∙ f in
    let class_name : t.0 ≡ u.0 = cc in
    let inst_vars : t.1 ≡ u.1 = cc in
    let class_vars : t.2 ≡ u.2 = cc in
    let pools : t.3 ≡ u.3 = cc in
    let category : t.4 ≡ u.4 = cc in
    i ∙ ap (λ d. recognised.Form (Define d)) (fields_same (defined name kind t) (defined name kind u) refl refl class_name (ap split_names inst_vars) (ap split_names class_vars) (ap split_names pools) category) ∙ sym j
says_same (Defines kind) name Class es y z h k = absurd h
says_same (Plain w) name s es y z h k = word_same w name s es y z h k

message_parts : (k j : Keyword) (es fs : ExprTrees) (m : MessageTree) → m ≡ (keyword_selector k, es) → m ≡ (keyword_selector j, fs) → (k ≡ j) × (es ≡ fs)
message_parts k j es fs m e f =
    let same : (keyword_selector k, es) ≡ (keyword_selector j, fs) = sym e ∙ f in
    (selectors_same k j (ap (λ (x : MessageTree). x.0) same), ap (λ (x : MessageTree). x.1) same)

sent_same : (p : NameAt × Side × MessageTree) (y z : Recognised) → SaysSent p y → SaysSent p z → y ≡ z
sent_same p y z (k, es, e, h) (j, fs, f, i) =
    let parts = message_parts k j es fs p.2 e f in
    says_same k p.0.name p.1 es y z h (subst (λ x. Says k p.0.name p.1 x z) (sym parts.1) (subst (λ x. Says x p.0.name p.1 fs z) (sym parts.0) i))

organizing_says : (p : NameAt × Side × MessageTree) (y z : Recognised) → SaysOrganizing p y → SaysOrganizing p z → y ≡ z
organizing_says p y z (s, c, e, i) (t, d, f, j) =
    let same : classifying s c ≡ classifying t d = sym e ∙ f in
    let arguments = ap (λ (x : MessageTree). x.1) same in
    let selector : s ≡ t = cc in
    let category : c ≡ d = cc in
    i ∙ ap (λ x. recognised.Form (Classify p.0.name p.1 x c)) selector ∙ ap (λ x. recognised.Form (Classify p.0.name p.1 t x)) category ∙ sym j

-- ---- the form of a tree is that of its message

abbrev SentBy : DoItParts → Recognised → Type 0
SentBy tree y = (p : NameAt × Side × MessageTree) × IsSending tree p × SaysSent p y

abbrev OrganizedBy : DoItParts → Recognised → Type 0
OrganizedBy tree y = (p : NameAt × Side × MessageTree) × IsOrganizing tree p × SaysOrganizing p y

definition_is : (tree : DoItParts) (d : Definition) → (h : IsDefining tree d) → d ≡ defined d.superclass d.kind (d.class_name, h.inst_vars, h.class_vars, h.pools, d.category)
definition_is tree d h = fields_same d (defined d.superclass d.kind (d.class_name, h.inst_vars, h.class_vars, h.pools, d.category)) refl refl refl h.inst_vars_are h.class_vars_are h.pools_are refl

said : (tree : DoItParts) (y : Recognised) → Has tree y → SentBy tree y ⊎ OrganizedBy tree y
said tree (recognised.Form (Define d)) h =
    let t : List ℕ × List ℕ × List ℕ × List ℕ × List ℕ = (d.class_name, h.inst_vars, h.class_vars, h.pools, d.category) in
    inl ((record { name = d.superclass; at = h.at }, Instance, (defining_selector d.kind, are_arguments t)), h.sending, (Defines d.kind, are_arguments t, refl, (t, refl, ap (λ x. recognised.Form (Define x)) (definition_is tree d h))))
said tree (recognised.Form (ClassVars name names)) (text, (at, sends), e) =
    inl ((record { name = name; at = at }, Class, (codes "instanceVariableNames:", sole (str text))), sends, (Plain words.InstanceVariableNames, sole (str text), refl, (text, refl, ap (λ x. recognised.Form (ClassVars name x)) e)))
said tree (recognised.Form (Comment name text)) (at, sends) =
    inl ((record { name = name; at = at }, Instance, (codes "comment:", sole (str text))), sends, (Plain words.Comment, sole (str text), refl, (text, refl, refl)))
said tree (recognised.Form (RemoveMethod name s selector)) (at, sends) =
    inl ((record { name = name; at = at }, s, (codes "removeSelector:", sole (symbol selector))), sends, (Plain words.RemoveSelector, sole (symbol selector), refl, (selector, refl, refl)))
said tree (recognised.Form (Classify name s selector category)) (at, sends) =
    inr ((record { name = name; at = at }, s, classifying selector category), sends, (selector, category, refl, refl))
said tree (recognised.Form (RemoveClass name)) (inl (at, sends)) =
    inl ((record { name = smalltalk; at = at }, Instance, (codes "removeClassNamed:", sole (symbol name))), sends, (Plain words.RemoveClassNamed, sole (symbol name), refl, (name, refl, refl, refl)))
said tree (recognised.Form (RemoveClass name)) (inr (at, sends)) =
    inl ((record { name = name; at = at }, Instance, (codes "removeFromSystem", no_exprs)), sends, (Plain words.RemoveFromSystem, no_exprs, refl, (refl, refl)))
said tree (recognised.Form NoChanges) (at, sends) =
    inl ((record { name = smalltalk; at = at }, Instance, (codes "noChanges", no_exprs)), sends, (Plain words.NoChanges, no_exprs, refl, (refl, refl, refl)))
said tree recognised.Condense (at, sends) =
    inl ((record { name = smalltalk; at = at }, Instance, (codes "condenseChanges", no_exprs)), sends, (Plain words.CondenseChanges, no_exprs, refl, (refl, refl, refl)))
said tree recognised.Snapshot (at, sends) =
    inl ((record { name = smalltalk; at = at }, Instance, (codes "snapshot", no_exprs)), sends, (Plain words.Snapshot, no_exprs, refl, (refl, refl, refl)))
said tree recognised.Evaluate h = absurd h

-- what a message says to a name is so of the tree that sends it
abbrev Sent : DoItParts → NameAt → Side → List ℕ → ExprTrees → Type 0
Sent tree n s selector es = IsSending tree (n, s, (selector, es))

to_smalltalk : (tree : DoItParts) (n : NameAt) (selector : List ℕ) (es fs : ExprTrees) → n.name ≡ smalltalk → es ≡ fs → Sent tree n Instance selector es → Sent tree (record { name = smalltalk; at = n.at }) Instance selector fs
to_smalltalk tree n selector es fs e f h = subst (λ x. Sent tree (record { name = x; at = n.at }) Instance selector fs) e (subst (Sent tree n Instance selector) f h)

word_has : (tree : DoItParts) (w : Word) (n : NameAt) (s : Side) (es : ExprTrees) (y : Recognised) → Sent tree n s (keyword_selector (Plain w)) es → SaysWord w n.name s es y → Has tree y
word_has tree words.InstanceVariableNames n Class es y h (t, e, i) = subst (Has tree) (sym i) (t, (n.at, subst (Sent tree n Class (codes "instanceVariableNames:")) e h), refl)
word_has tree words.InstanceVariableNames n Instance es y h k = absurd k
word_has tree words.Comment n Instance es y h (t, e, i) = subst (Has tree) (sym i) (n.at, subst (Sent tree n Instance (codes "comment:")) e h)
word_has tree words.Comment n Class es y h k = absurd k
word_has tree words.RemoveSelector n s es y h (t, e, i) = subst (Has tree) (sym i) (n.at, subst (Sent tree n s (codes "removeSelector:")) e h)
word_has tree words.RemoveClassNamed n Instance es y h (t, o, e, i) = subst (Has tree) (sym i) (inl (n.at, to_smalltalk tree n (codes "removeClassNamed:") es (sole (symbol t)) o e h))
word_has tree words.RemoveClassNamed n Class es y h k = absurd k
word_has tree words.RemoveFromSystem n Instance es y h (e, i) = subst (Has tree) (sym i) (inr (n.at, subst (Sent tree n Instance (codes "removeFromSystem")) e h))
word_has tree words.RemoveFromSystem n Class es y h k = absurd k
word_has tree words.NoChanges n Instance es y h (o, e, i) = subst (Has tree) (sym i) (n.at, to_smalltalk tree n (codes "noChanges") es no_exprs o e h)
word_has tree words.NoChanges n Class es y h k = absurd k
word_has tree words.CondenseChanges n Instance es y h (o, e, i) = subst (Has tree) (sym i) (n.at, to_smalltalk tree n (codes "condenseChanges") es no_exprs o e h)
word_has tree words.CondenseChanges n Class es y h k = absurd k
word_has tree words.Snapshot n Instance es y h (o, e, i) = subst (Has tree) (sym i) (n.at, to_smalltalk tree n (codes "snapshot") es no_exprs o e h)
word_has tree words.Snapshot n Class es y h k = absurd k
word_has tree words.Organization n s es y h k = absurd k

says_has : (tree : DoItParts) (k : Keyword) (n : NameAt) (s : Side) (es : ExprTrees) (y : Recognised) → Sent tree n s (keyword_selector k) es → Says k n.name s es y → Has tree y
says_has tree (Defines kind) n Instance es y h (t, e, i) = subst (Has tree) (sym i) (record {
  at = n.at;
  inst_vars = t.1;
  class_vars = t.2;
  pools = t.3;
  sending = subst (Sent tree n Instance (defining_selector kind)) e h;
  inst_vars_are = refl;
  class_vars_are = refl;
  pools_are = refl;
})
says_has tree (Defines kind) n Class es y h k = absurd k
says_has tree (Plain w) n s es y h k = word_has tree w n s es y h k

pub sent_has : (tree : DoItParts) (p : NameAt × Side × MessageTree) (y : Recognised) → IsSending tree p → SaysSent p y → Has tree y
sent_has tree (n, s, m) y h (k, es, e, i) = says_has tree k n s es y (subst (λ (x : MessageTree). IsSending tree (n, s, x)) e h) i

pub organizing_has : (tree : DoItParts) (p : NameAt × Side × MessageTree) (y : Recognised) → IsOrganizing tree p → SaysOrganizing p y → Has tree y
organizing_has tree (n, s, m) y h (selector, category, e, i) = subst (Has tree) (sym i) (n.at, subst (λ (x : MessageTree). IsOrganizing tree (n, s, x)) e h)

-- and the other way
pub has_sent : (tree : DoItParts) (p : NameAt × Side × MessageTree) (y : Recognised) → IsSending tree p → Has tree y → SaysSent p y
has_sent tree p y h has = by_message (said tree y has)
  where
    by_message : SentBy tree y ⊎ OrganizedBy tree y → SaysSent p y
    by_message (inl (q, i, says)) = subst (λ x. SaysSent x y) (sending_same tree q p i h) says
    by_message (inr (q, i, says)) = absurd (no_sending_organizing tree p q h i)

pub has_organizing : (tree : DoItParts) (p : NameAt × Side × MessageTree) (y : Recognised) → IsOrganizing tree p → Has tree y → SaysOrganizing p y
has_organizing tree p y h has = by_message (said tree y has)
  where
    by_message : SentBy tree y ⊎ OrganizedBy tree y → SaysOrganizing p y
    by_message (inl (q, i, says)) = absurd (no_sending_organizing tree q p i h)
    by_message (inr (q, i, says)) = subst (λ x. SaysOrganizing x y) (organizing_same tree q p i h) says

-- where it sends nothing, it has none
pub has_none : (tree : DoItParts) (y : Recognised) → ((p : NameAt × Side × MessageTree) → IsSending tree p → ⊥) → ((p : NameAt × Side × MessageTree) → IsOrganizing tree p → ⊥) → Has tree y → ⊥
has_none tree y none nor has = by_message (said tree y has)
  where
    by_message : SentBy tree y ⊎ OrganizedBy tree y → ⊥
    by_message (inl (q, i, says)) = none q i
    by_message (inr (q, i, says)) = nor q i

-- ---- one form at most

pub has_same : (tree : DoItParts) (y z : Recognised) → Has tree y → Has tree z → y ≡ z
has_same tree y z h i = by_message (said tree y h)
  where
    by_message : SentBy tree y ⊎ OrganizedBy tree y → y ≡ z
    by_message (inl (q, sends, says)) = sent_same q y z says (has_sent tree q z sends i)
    by_message (inr (q, sends, says)) = organizing_says q y z says (has_organizing tree q z sends i)

form_value : (one other : Form) → recognised.Form one ≡ recognised.Form other → one ≡ other
form_value one other e = cc

pub form_same : (tree : DoItParts) (one other : Form) → IsFormOf tree one → IsFormOf tree other → one ≡ other
form_same tree one other h k = form_value one other (has_same tree (recognised.Form one) (recognised.Form other) h.0 k.0)

-- so a tree that asks to condense has none of the others
no_other : (form : Form) → recognised.Condense ≡ recognised.Form form → ⊥
no_other form e = cc

no_snapshot : recognised.Condense ≡ recognised.Snapshot → ⊥
no_snapshot e = cc

pub condensing_no_form : (tree : DoItParts) → IsCondensing tree → IsNoForm tree
condensing_no_form tree is = record {
  form = λ form of. no_other form (has_same tree recognised.Condense (recognised.Form form) is of.0);
  snapshot = λ of. no_snapshot (has_same tree recognised.Condense recognised.Snapshot is of);
}

-- of a text too
pub form_of_text_same : (text : List ℕ) (one other : Form) → IsFormText text one → IsFormText text other → one ≡ other
form_of_text_same text one other is also =
    form_same also.tree one other (subst (λ t. IsFormOf t one) (one_doit_of text is.tree also.tree is.tree_is also.tree_is) is.form_is) also.form_is
