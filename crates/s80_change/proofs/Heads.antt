-- A text is one head at most.
use Rattle.std.proofs.Common.{◌≡◌, ℕ, List, Bool, false, Option, Some, None, codes, ap, sym, ◌∙◌, subst}
use Rattle.std.specs.Prelude.{◌↔◌, IsTrue}
use Rattle.std.proofs.lemmas.Bool.{false≢true}
use Rattle.s80_base.specs.Literal.{str}
use Rattle.s80_base.specs.declared.names.Side.{Side}
use Rattle.s80_tree.specs.declared.name.NameAt.{NameAt}
use Rattle.s80_tree.specs.Tree.{DoItParts, ExprTree, MessageTree, exprs, no_exprs}
use Rattle.s80_syntax.specs.Text.{IsDoItOf}
use Rattle.s80_syntax.proofs.lemmas.OneReading.{one_doit_of}
use Rattle.s80_form.specs.Name.{IsBrief}
use Rattle.s80_form.specs.TreeParts.{Finds, argument, IsSending}
use Rattle.s80_form.proofs.lemmas.Sendings.{finds_same, sending_same}
use Rattle.s80_change.specs.declared.head.SectionHead.{SectionHead}
use Rattle.s80_change.specs.declared.head_form.Form.{Form}
use Rattle.s80_change.specs.Head.{beginning, IsBriefHead, IsHeadTree, IsHeadOf}
use Rattle.s80_change.specs.HeadForm.{IsNoHeadTree, ShowsForm}

pub fields_same : (one other : SectionHead) → one.class_name ≡ other.class_name → one.side ≡ other.side → one.category ≡ other.category → one ≡ other
fields_same one other class_name side category =
    ap (λ x. record { class_name = x; side = one.side; category = one.category }) class_name
    ∙ ap (λ x. record { class_name = other.class_name; side = x; category = one.category }) side
    ∙ ap (λ x. record { class_name = other.class_name; side = other.side; category = x }) category

category_same : (category text : List ℕ) → beginning category ≡ beginning text → category ≡ text
category_same category text e = let arguments = ap (λ (m : MessageTree). m.1) e in cc

-- a tree whose parts are those of a head has these parts alone
record AreSame (name other : List ℕ) (s t : Side) (category text : List ℕ) : Type 0 where
  pub name_is : name ≡ other
  pub side_is : s ≡ t
  pub category_is : category ≡ text

parts_same : (tree : DoItParts) (n o : NameAt) (s t : Side) (category text : List ℕ) → IsSending tree (n, s, beginning category) → IsSending tree (o, t, beginning text) → AreSame n.name o.name s t category text
parts_same tree n o s t category text is also =
    let same = sending_same tree (n, s, beginning category) (o, t, beginning text) is also in
    let messages : beginning category ≡ beginning text = ap (λ (p : NameAt × Side × MessageTree). p.2) same in
    record {
      name_is = ap (λ (p : NameAt × Side × MessageTree). p.0.name) same;
      side_is = ap (λ (p : NameAt × Side × MessageTree). p.1) same;
      category_is = category_same category text messages;
    }

head_same : (tree : DoItParts) (one other : SectionHead) → IsHeadTree tree one → IsHeadTree tree other → one ≡ other
head_same tree one other h k =
    let same = parts_same tree (record { name = one.class_name; at = h.at }) (record { name = other.class_name; at = k.at }) one.side other.side one.category other.category h.sending k.sending in
    fields_same one other same.name_is same.side_is same.category_is

pub one_head_of : (text : List ℕ) (one other : SectionHead) → IsHeadOf text one → IsHeadOf text other → one ≡ other
one_head_of text one other is also =
    head_same also.tree one other (subst (λ t. IsHeadTree t one) (one_doit_of text is.tree also.tree is.tree_is also.tree_is) is.head_is) also.head_is

-- a text whose tree is no head is none
pub no_head_of : (text : List ℕ) (tree : DoItParts) → IsDoItOf text tree → IsNoHeadTree tree → ((t : DoItParts) × IsDoItOf text t) × ((head : SectionHead) → IsHeadOf text head → ⊥)
no_head_of text tree is none = ((tree, is), λ head h. none head (subst (λ t. IsHeadTree t head) (one_doit_of text h.tree tree h.tree_is is) h.head_is))

-- a tree whose form isn't brief is no head's: each head that the tree is has the same name and category
pub not_brief : (tree : DoItParts) (d : SectionHead) (f : Form) (b : Bool) → (IsTrue b ↔ IsBriefHead d) → b ≡ false → ShowsForm tree (Some f) → d.class_name ≡ f.receiver.now.name → d.category ≡ f.category.now → IsNoHeadTree tree
not_brief tree d f b is long s class_name category = λ head h.
    let same = parts_same tree f.receiver.now (record { name = head.class_name; at = h.at }) f.side head.side f.category.now head.category s h.sending in
    let brief : IsBriefHead d = record {
      class_name = subst IsBrief (sym (class_name ∙ same.name_is)) h.brief.class_name;
      category = subst IsBrief (sym (category ∙ same.category_is)) h.brief.category;
    } in
    false≢true (sym long ∙ is.1 brief)

-- the category of a message with one argument
pub category_from : {X : Type 0} (view : X → List ℕ) (m : MessageTree) (e : ExprTree) (r : Option X) → m ≡ (codes "methodsFor:", exprs e no_exprs)
    → Finds {X = X} {Y = List ℕ} view (λ text. e ≡ argument (str text)) r → Finds {X = X} {Y = List ℕ} view (λ text. m ≡ beginning text) r
category_from view m e r is h = finds_same view (λ text. e ≡ argument (str text)) (λ text. m ≡ beginning text) to back r h
  where
    to : (text : List ℕ) → e ≡ argument (str text) → m ≡ beginning text
    to text i = is ∙ ap (λ (x : ExprTree). (codes "methodsFor:", exprs x no_exprs)) i

    back : (text : List ℕ) → m ≡ beginning text → e ≡ argument (str text)
    back text i =
        let s : exprs e no_exprs ≡ exprs (argument (str text)) no_exprs = ap (λ (x : MessageTree). x.1) (sym is ∙ i) in
        cc

-- where nothing is sent, or another message, a tree is no head's
pub none_sent : (tree : DoItParts) (r : Option Form) → r ≡ None → ((p : NameAt × Side × MessageTree) → IsSending tree p → ⊥) → ShowsForm tree r
none_sent tree r e none = subst (ShowsForm tree) (sym e) (λ head h. none _ h.sending)

pub no_beginning : (tree : DoItParts) (n : NameAt) (s : Side) (m : MessageTree) (r : Option Form) → r ≡ None → IsSending tree (n, s, m) → ((category : List ℕ) → m ≡ beginning category → ⊥) → ShowsForm tree r
no_beginning tree n s m r e is none = subst (ShowsForm tree) (sym e) (λ head h.
    none head.category (ap (λ (p : NameAt × Side × MessageTree). p.2) (sending_same tree (n, s, m) _ is h.sending)))

pub form_shown : (tree : DoItParts) (n : NameAt) (s : Side) (m : MessageTree) (category : List ℕ) → IsSending tree (n, s, m) → m ≡ beginning category → IsSending tree (n, s, beginning category)
form_shown tree n s m category is e = subst (λ (x : MessageTree). IsSending tree (n, s, x)) e is
