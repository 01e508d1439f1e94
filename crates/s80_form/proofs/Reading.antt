-- The parts of a text that is a form's.
use Rattle.std.proofs.Common.{◌≡◌, ◌≢◌, ℕ, ◌+◌, ◌-◌, ◌≤◌, List, [], ◌∷◌, ◌++◌, Bool, true, false, Option, Some, None, codes, take, drop, length, get_or, refl, ap, sym, ◌∙◌, cond, subst, arith, append_assoc, length-append, one-add, eqb, inl, inr, not, rules, tests, is_some}
use Rattle.std.specs.Prelude.{◌↔◌, IsTrue}
use Rattle.std.specs.Char.{is_ascii_alphanumeric}
use Rattle.std.specs.List.{flat_map, slice_get, prefix_len, starts_with, AllByRecursion}
use Rattle.std.proofs.lemmas.Bool.{ne_eqb, false≢true}
use Rattle.std.proofs.lemmas.List.{append-nil, take_all, take_at, drop_at, drop-drop}
use Rattle.std.proofs.lemmas.List.Elements.{All-push}
use Rattle.std.proofs.lemmas.List.Concat.{flat_map-append}
use Rattle.std.proofs.lemmas.Slice.Eq.{starts_is}
use Rattle.s80_base.specs.declared.names.Side.{Side}
use Rattle.s80_base.specs.declared.names.Side.TheVariants.{Instance, Class}
use Rattle.std.proofs.lemmas.Bool.Decides.{Decides-eqb}
use Rattle.s80_lex.specs.Class.{class_of}
use Rattle.s80_lex.specs.Selector.{IsSelectorOf, begins_binary}
use Rattle.s80_lex.specs.Spelling.{Passes, IsName as IsIdentifier, IsBinary, IsOperator, keyword, doubled, unended, quoted, begins_with, NotNext}
use Rattle.s80_lex.proofs.Words.{name_passes}
use Rattle.s80_lex.proofs.lemmas.SelectorLemmas.{operator_then}
use Rattle.s80_lex.proofs.lemmas.Quotes.{quoted_same, quoted_ends}
use Rattle.s80_lex.proofs.lemmas.Fronts.{split_same}
use Rattle.s80_syntax.specs.Word.{is_reserved}
use Rattle.s80_form.specs.declared.definition.Kind.{Kind}
use Rattle.s80_form.specs.declared.definition.Kind.TheVariants as kinds
use Rattle.s80_form.specs.declared.definition.Definition.{Definition}
use Rattle.s80_form.specs.declared.form.Form.{Form}
use Rattle.s80_form.specs.declared.form.Form.TheVariants.{Define, ClassVars, Comment, RemoveMethod, Classify, RemoveClass, NoChanges}
use Rattle.s80_form.specs.declared.keyword.Keyword.{Keyword}
use Rattle.s80_form.specs.declared.keyword.Keyword.TheVariants.{Defines, Plain}
use Rattle.s80_form.specs.declared.keyword.Word.{Word}
use Rattle.s80_form.specs.declared.keyword.Word.TheVariants as words
use Rattle.s80_form.specs.declared.read.Front.{Front}
use Rattle.s80_form.specs.Definition.{split_names, joined}
use Rattle.s80_form.specs.Name.{is_name, IsName, AreNames, IsSelectorWord, IsBrief, AreBrief}
use Rattle.s80_form.specs.Keyword.{keyword_text}
use Rattle.s80_form.specs.Form.{form_text, side_text, smalltalk, IsLawfulForm}
use Rattle.s80_form.specs.TextParts.{word_len, is_inner, FindsString}
use Rattle.s80_form.specs.Read.{lines, beginning_of, FindsLine, FindsDefinition, FindsFront, FindsSide, FindsWord, FindsForm, ReadsWord}
use Rattle.s80_form.proofs.Keywords.{texts_same}
use Rattle.s80_form.proofs.lemmas.Cuts.{spread, name_inner, kind_inner, word_cut, fields_same}
use Rattle.s80_form.proofs.Spelled.{take_one}
use Rattle.s80_form.proofs.Splits.{joined_split}
use Rattle.s80_form.proofs.lemmas.Identifiers.{no_separator}

-- a quoted text behind its first quote
pub behind_quote : (text rest : List ℕ) → quoted 39 text ++ rest ≡ 39 ∷ (flat_map (doubled 39) text ++ 39 ∷ rest)
behind_quote text rest = append_assoc (unended 39 text) (39 ∷ []) rest

from_quote : (bytes text rest : List ℕ) → 39 ∷ bytes ≡ quoted 39 text ++ rest → bytes ≡ flat_map (doubled 39) text ++ 39 ∷ rest
from_quote bytes text rest e = ap (drop 1) (e ∙ behind_quote text rest)

-- what was read of a string, and what is left
pub read_two : (bytes text rest after : List ℕ) → bytes ≡ flat_map (doubled 39) text ++ rest → rest ≡ 39 ∷ 39 ∷ after → bytes ≡ flat_map (doubled 39) (text ++ 39 ∷ []) ++ after
read_two bytes text rest after e r =
    e ∙ ap (λ l. flat_map (doubled 39) text ++ l) r ∙ sym (append_assoc (flat_map (doubled 39) text) (39 ∷ 39 ∷ []) after)
    ∙ ap (λ l. l ++ after) (sym (flat_map-append (doubled 39) text (39 ∷ [])))

pub read_one : (bytes text rest : List ℕ) (b : ℕ) (after : List ℕ) → bytes ≡ flat_map (doubled 39) text ++ rest → rest ≡ b ∷ after → b ≢ 39 → bytes ≡ flat_map (doubled 39) (text ++ b ∷ []) ++ after
read_one bytes text rest b after e r apart =
    let plain : doubled 39 b ≡ b ∷ [] = ap (λ t. cond t (39 ∷ 39 ∷ []) (b ∷ [])) (ne_eqb b 39 apart) in
    e ∙ ap (λ l. flat_map (doubled 39) text ++ l) r ∙ sym (append_assoc (flat_map (doubled 39) text) (b ∷ []) after)
    ∙ ap (λ l. l ++ after) (sym (flat_map-append (doubled 39) text (b ∷ []) ∙ ap (λ l. flat_map (doubled 39) text ++ l) (append-nil (doubled 39 b) ∙ plain)))

pub read_end : (bytes text rest after : List ℕ) → bytes ≡ flat_map (doubled 39) text ++ rest → rest ≡ 39 ∷ after → NotNext 39 after → FindsString bytes text after
read_end bytes text rest after e r n = λ t q k h.
    let s : flat_map (doubled 39) text ++ 39 ∷ after ≡ flat_map (doubled 39) t ++ 39 ∷ q = sym (ap (λ l. flat_map (doubled 39) text ++ l) r) ∙ sym e ∙ from_quote bytes t q h in
    let same : text ≡ t = quoted_same 39 text t after q n k s in
    let left = (split_same (flat_map (doubled 39) text) (39 ∷ after) (flat_map (doubled 39) t) (39 ∷ q) (ap (λ l. length (flat_map (doubled 39) l)) same) s).1 in
    (same, (cc))

pub read_end_at : (bytes text rest tail : List ℕ) (b : Bool) → bytes ≡ flat_map (doubled 39) text ++ rest → 1 ≤ length rest → get_or rest 0 0 ≡ 39 → tail ≡ take (length rest - 1) (drop 1 rest) → b ≡ begins_with 39 tail → b ≡ false → FindsString bytes text tail
read_end_at bytes text [] tail b e le first t n f = absurd (omega arith)
read_end_at bytes text (c ∷ rest) tail b e le first t n f =
    let same : tail ≡ rest = t ∙ take_all (length (c ∷ rest) - 1) rest (omega arith) in
    read_end bytes text (c ∷ rest) tail e (ap (λ x. x ∷ rest) first ∙ ap (λ l. 39 ∷ l) (sym same)) (sym n ∙ f)

-- two forms that were found are one
pub found_same : (text spelled : List ℕ) (e f : Form) (found : Option Form) → found ≡ Some e → found ≡ Some f → spelled ≡ form_text e → text ≡ form_text f → spelled ≡ text
found_same text spelled e f found i j s t =
    let same : e ≡ f = cc in
    s ∙ ap form_text same ∙ sym t

pub read_all : (bytes text rest : List ℕ) → bytes ≡ flat_map (doubled 39) text ++ rest → length rest ≤ 0 → FindsString bytes text rest
read_all bytes text (b ∷ rest) e le = absurd (omega arith)
read_all bytes text [] e le = λ t q k h. absurd (quoted_ends 39 t text q k (sym (from_quote bytes t q h) ∙ e))

-- the string of a line stands behind its keyword
pub line_found : (word bytes one two found left : List ℕ) → one ≡ drop (length word) bytes → two ≡ drop 4 one → FindsString two found left → FindsLine word bytes found left
line_found word bytes one two found left a b s = λ t q k h.
    let inner : List ℕ = flat_map (doubled 39) t ++ 39 ∷ q in
    let behind : two ≡ inner =
    b ∙ ap (drop 4) a ∙ drop-drop 4 (length word) bytes ∙ ap (drop (length word + 4)) h
    ∙ ap (drop (length word + 4)) (sym (append_assoc (10 ∷ 9 ∷ word) (32 ∷ 39 ∷ []) inner))
    ∙ drop_at ((10 ∷ 9 ∷ word) ++ 32 ∷ 39 ∷ []) inner (length word + 4) (omega (arith, length-append (10 ∷ 9 ∷ word) (32 ∷ 39 ∷ []))) in
    s t q k (ap (λ l. 39 ∷ l) behind ∙ sym (behind_quote t q))

-- names, as far as they were seen
pub names_more : (names : List (List ℕ)) (i : ℕ) (name : List ℕ) → AreNames (take i names) → slice_get names i ≡ Some name → is_name name ≡ true → AreNames (take (i + 1) names)
names_more names i name h e n = subst AreNames (sym (take_one names i name e)) (All-push IsName (take i names) name h n)

pub names_all : (names : List (List ℕ)) (i : ℕ) → length names ≤ i → AreNames (take i names) → AreNames names
names_all names i le h = subst AreNames (take_all i names le) h

pub brief_more : (names : List (List ℕ)) (i : ℕ) (name : List ℕ) → AreBrief (take i names) → slice_get names i ≡ Some name → IsBrief name → AreBrief (take (i + 1) names)
brief_more names i name h e b = subst AreBrief (sym (take_one names i name e)) (All-push IsBrief (take i names) name h b)

pub brief_all : (names : List (List ℕ)) (i : ℕ) → length names ≤ i → AreBrief (take i names) → AreBrief names
brief_all names i le h = subst AreBrief (take_all i names le) h

-- ---- the parts of a definition

pub definition_is : (found : Definition) (superclass : List ℕ) (kind : Kind) (bytes a n l i c p g q r s z : List ℕ) → a ≡ drop 2 bytes → n ≡ take (word_len a) a → l ≡ drop (word_len a) a
    → FindsLine (codes "instanceVariableNames:") l i q → FindsLine (codes "classVariableNames:") q c r → FindsLine (codes "poolDictionaries:") r p s → FindsLine (codes "category:") s g z
    → found.superclass ≡ superclass → found.kind ≡ kind → found.class_name ≡ n → found.inst_vars ≡ split_names i → found.class_vars ≡ split_names c → found.pools ≡ split_names p → found.category ≡ g → FindsDefinition superclass kind bytes found
definition_is found superclass kind bytes a n l i c p g q r s z ea en el inst_vars class_vars pools category es ek ec ei ev ep eg = λ d names superclass_is kind_is bytes_are.
    let cut = word_cut a d.class_name 10 (drop 1 (lines d)) (name_inner d.class_name names.class_name) refl (ea ∙ ap (drop 2) bytes_are) in
    let one = inst_vars (joined d.inst_vars) _ refl (el ∙ cut.1) in
    let two = class_vars (joined d.class_vars) _ refl one.1 in
    let three = pools (joined d.pools) _ refl two.1 in
    let four = category d.category [] refl three.1 in
    fields_same found d (es ∙ superclass_is) (ek ∙ kind_is) (ec ∙ en ∙ cut.0) (ei ∙ ap split_names one.0 ∙ joined_split d.inst_vars names.inst_vars)
    (ev ∙ ap split_names two.0 ∙ joined_split d.class_vars names.class_vars) (ep ∙ ap split_names three.0 ∙ joined_split d.pools names.pools) (eg ∙ four.0)

-- ---- the beginning of a form's text

pub begins : (form : Form) → let b = beginning_of form in form_text form ≡ b.name ++ (side_text b.side ++ (32 ∷ (keyword_text b.keyword ++ b.rest)))
begins (Define d) = spread d
begins (ClassVars name names) = refl
begins (Comment name text) = refl
begins (RemoveMethod name s selector) = refl
begins (Classify name s selector category) = refl
begins (RemoveClass name) = refl
begins NoChanges = refl

name_is_name : (form : Form) → IsLawfulForm form → IsName (beginning_of form).name
unfolding is_reserved
name_is_name (Define d) h = h.names.superclass
name_is_name (ClassVars name names) h = h.names.0
name_is_name (Comment name text) h = h.names
name_is_name (RemoveMethod name s selector) h = h.names.0
name_is_name (Classify name s selector category) h = h.names.0
name_is_name (RemoveClass name) h = refl
name_is_name NoChanges h = refl

keyword_inner : (k : Keyword) → Passes is_inner (keyword_text k)
keyword_inner (Defines kind) = kind_inner kind
keyword_inner (Plain words.InstanceVariableNames) = search rules
keyword_inner (Plain words.Comment) = search rules
keyword_inner (Plain words.RemoveSelector) = search rules
keyword_inner (Plain words.RemoveClassNamed) = search rules
keyword_inner (Plain words.RemoveFromSystem) = search rules
keyword_inner (Plain words.NoChanges) = search rules
keyword_inner (Plain words.CondenseChanges) = search rules
keyword_inner (Plain words.Snapshot) = search rules
keyword_inner (Plain words.Organization) = search rules

-- no keyword begins as the word for the class side does
no_class : (k : Keyword) (r s : List ℕ) → 32 ∷ (keyword_text k ++ r) ≡ codes " class " ++ s → ⊥
no_class (Defines kinds.Plain) r s e = omega (arith, ap (λ l. get_or l 1 0) e)
no_class (Defines kinds.Pointers) r s e = omega (arith, ap (λ l. get_or l 1 0) e)
no_class (Defines kinds.Bytes) r s e = omega (arith, ap (λ l. get_or l 1 0) e)
no_class (Defines kinds.Words) r s e = omega (arith, ap (λ l. get_or l 1 0) e)
no_class (Plain words.InstanceVariableNames) r s e = omega (arith, ap (λ l. get_or l 1 0) e)
no_class (Plain words.Comment) r s e = omega (arith, ap (λ l. get_or l 2 0) e)
no_class (Plain words.RemoveSelector) r s e = omega (arith, ap (λ l. get_or l 1 0) e)
no_class (Plain words.RemoveClassNamed) r s e = omega (arith, ap (λ l. get_or l 1 0) e)
no_class (Plain words.RemoveFromSystem) r s e = omega (arith, ap (λ l. get_or l 1 0) e)
no_class (Plain words.NoChanges) r s e = omega (arith, ap (λ l. get_or l 1 0) e)
no_class (Plain words.CondenseChanges) r s e = omega (arith, ap (λ l. get_or l 2 0) e)
no_class (Plain words.Snapshot) r s e = omega (arith, ap (λ l. get_or l 1 0) e)
no_class (Plain words.Organization) r s e = omega (arith, ap (λ l. get_or l 1 0) e)

pub class_found : (bytes left : List ℕ) (r : Bool) → r ≡ starts_with eqb bytes (codes " class ") → r ≡ true → left ≡ drop 6 bytes → FindsSide bytes Class left
class_found bytes left r e t el = record {
  class = λ rest i. (refl, el ∙ ap (drop 6) i);
  instance = λ none. absurd (none (drop 7 bytes) ((starts_is Decides-eqb bytes (codes " class ") r e).0 t));
}

pub instance_found : (bytes : List ℕ) (r : Bool) → r ≡ starts_with eqb bytes (codes " class ") → r ≡ false → FindsSide bytes Instance bytes
instance_found bytes r e f = record {
  class = λ rest i. absurd (false≢true (sym f ∙ (starts_is Decides-eqb bytes (codes " class ") r e).1 rest i));
  instance = λ none. (refl, refl);
}

side_is : (side found : Side) (k : Keyword) (more bytes left : List ℕ) → bytes ≡ side_text side ++ (32 ∷ (keyword_text k ++ more)) → FindsSide bytes found left → (found ≡ side) × (left ≡ 32 ∷ (keyword_text k ++ more))
side_is Class found k more bytes left e h = h.class (keyword_text k ++ more) e
side_is Instance found k more bytes left e h =
    let parts = h.instance (λ rest i. no_class k more rest (sym e ∙ i)) in
    (parts.0, parts.1 ∙ e)

-- a word ends at a separator, or at the end of the text
abbrev EndsWord : List ℕ → Type 0
EndsWord [] = Unit {0}
EndsWord (b ∷ rest) = is_inner b ≡ false

run_all : (w : List ℕ) → Passes is_inner w → prefix_len is_inner w ≡ length w
run_all [] h = refl
run_all (x ∷ w) h = ap (λ t. cond t (1 + prefix_len is_inner w) 0) h.0 ∙ ap (λ n. 1 + n) (run_all w h.1) ∙ one-add (length w)

cut_any : (bytes w rest : List ℕ) → Passes is_inner w → EndsWord rest → bytes ≡ w ++ rest → (take (word_len bytes) bytes ≡ w) × (drop (word_len bytes) bytes ≡ rest)
cut_any bytes w (b ∷ rest) h e t = word_cut bytes w b rest h e t
cut_any bytes w [] h e t =
    let whole : bytes ≡ w = t ∙ append-nil w in
    let n : word_len bytes ≡ length w = ap word_len whole ∙ run_all w h in (
      ap (λ m. take m bytes) n ∙ ap (take (length w)) t ∙ take_at w [] (length w) refl,
      ap (λ m. drop m bytes) n ∙ ap (drop (length w)) t ∙ drop_at w [] (length w) refl,
    )

rest_ends : (form : Form) → EndsWord (beginning_of form).rest
rest_ends (Define d) = refl
rest_ends (ClassVars name names) = refl
rest_ends (Comment name text) = refl
rest_ends (RemoveMethod name s selector) = refl
rest_ends (Classify name s selector category) = refl
rest_ends (RemoveClass name) = refl
rest_ends NoChanges = tt

-- behind the name a space stands, whatever the side
behind_name : (side : Side) (more : List ℕ) → (rest : List ℕ) × (side_text side ++ (32 ∷ more) ≡ 32 ∷ rest)
behind_name Instance more = (more, refl)
behind_name Class more = (codes "class" ++ 32 ∷ more, refl)

pub front_is : (text name a left b word rest : List ℕ) (side : Side) (front : Front) → name ≡ take (word_len text) text → a ≡ drop (word_len text) text → FindsSide a side left → b ≡ drop 1 left
    → word ≡ take (word_len b) b → rest ≡ drop (word_len b) b → front.name.now ≡ name → front.side ≡ side → front.word.now ≡ word → front.rest.now ≡ rest → FindsFront text front
front_is text name a left b word rest side front en ea finds eb ew er fn fs fw fr = λ form lawful t.
    let o = beginning_of form in
    let more : List ℕ = keyword_text o.keyword ++ o.rest in
    let space = behind_name o.side more in
    let cut = word_cut text o.name 32 space.0 (name_inner o.name (name_is_name form lawful)) refl (t ∙ begins form ∙ ap (λ l. o.name ++ l) space.1) in
    let two = side_is o.side side o.keyword o.rest a left (ea ∙ cut.1 ∙ sym space.1) finds in
    let three = cut_any b (keyword_text o.keyword) o.rest (keyword_inner o.keyword) (rest_ends form) (eb ∙ ap (drop 1) two.1) in
    record { name = fn ∙ en ∙ cut.0; side = fs ∙ two.0; word = fw ∙ ew ∙ three.0; rest = fr ∙ er ∙ three.1 }

-- ---- the form of a word

pub quoted_is : (bytes found left text : List ℕ) → FindsString bytes found left → 39 ∷ bytes ≡ quoted 39 text → found ≡ text
quoted_is bytes found left text finds e = (finds text [] refl (e ∙ sym (append-nil (quoted 39 text)))).0

-- no separator stands in a selector
passes_both : (p : ℕ → Bool) (v w : List ℕ) → Passes p v → Passes p w → Passes p (v ++ w)
passes_both p [] w h k = k
passes_both p (b ∷ v) w h k = (h.0, passes_both p v w h.1 k)

run_inner : (w : List ℕ) → Passes is_ascii_alphanumeric w → Passes is_inner w
run_inner [] h = tt
run_inner (b ∷ w) h = (ap not (no_separator b h.0), run_inner w h.1)

operator_inner : (b : ℕ) → IsOperator (class_of b) → is_inner b ≡ true
operator_inner b h = let e : begins_binary b ≡ true = operator_then b h in search (rules, tests)

binary_inner : (w : List ℕ) → IsBinary w → Passes is_inner w
binary_inner [] h = absurd h
binary_inner (b ∷ []) h = (operator_inner b h, tt)
binary_inner (b ∷ c ∷ []) h = (operator_inner b h.0, (operator_inner c (subst IsOperator (sym h.1) tt), tt))
binary_inner (b ∷ c ∷ d ∷ w) h = absurd h

keywords_inner : (names : List (List ℕ)) → AllByRecursion IsIdentifier names → Passes is_inner (flat_map keyword names)
keywords_inner [] h = tt
keywords_inner (n ∷ names) h = passes_both is_inner (keyword n) (flat_map keyword names) (passes_both is_inner n (58 ∷ []) (run_inner n (name_passes n h.0)) (refl, tt)) (keywords_inner names h.1)

selector_inner : (word : List ℕ) → IsSelectorWord word → Passes is_inner word
selector_inner word (n, inl (h, e)) = run_inner word (name_passes word h)
selector_inner word (n, inr (inl (h, e))) = binary_inner word h
selector_inner word (n, inr (inr h)) = subst (Passes is_inner) (sym h.spelled) (keywords_inner h.names h.named)

-- and a word is one where it has some number of parameters
pub selector_is : (word bytes : List ℕ) (r : Option ℕ) (b : Bool) → b ≡ is_some r → bytes ≡ word → ((n : ℕ) → (r ≡ Some n) ↔ IsSelectorOf n bytes) → (IsTrue b) ↔ IsSelectorWord word
selector_is word bytes r b i e h = subst (λ t. (IsTrue t) ↔ IsSelectorWord word) (sym i) (subst (λ w. (IsTrue (is_some r)) ↔ IsSelectorWord w) e (by_count r h))
  where
    by_count : (o : Option ℕ) → ((n : ℕ) → (o ≡ Some n) ↔ IsSelectorOf n bytes) → (IsTrue (is_some o)) ↔ IsSelectorWord bytes
    by_count (Some n) k = (λ _. (n, (k n).0 refl), λ _. refl)
    by_count None k = (λ t. absurd (cc), λ s. let none : None ≡ Some s.0 = (k s.0).1 s.1 in absurd (cc))

pub class_vars_found : (name rest bytes text left made : List ℕ) (names : List (List ℕ)) (side : Side) (found : Option Form) → bytes ≡ drop 2 rest → FindsString bytes text left → made ≡ name → names ≡ split_names text
    → found ≡ Some (ClassVars made names) → FindsWord words.InstanceVariableNames name side rest found
class_vars_found name rest bytes text left made names side found e finds en es ef = λ form (ns, lawful, r, i).
    let read : text ≡ joined ns = quoted_is bytes text left (joined ns) finds (ap (λ l. 39 ∷ l) (e ∙ ap (drop 2) r)) in
    ef ∙ ap (λ x. Some (ClassVars x names)) en ∙ ap (λ x. Some (ClassVars name x)) (es ∙ ap split_names read ∙ joined_split ns lawful) ∙ ap Some (sym i)

pub comment_found : (name rest bytes text left made : List ℕ) (side : Side) (found : Option Form) → bytes ≡ drop 2 rest → FindsString bytes text left → made ≡ name → found ≡ Some (Comment made text) → FindsWord words.Comment name side rest found
comment_found name rest bytes text left made side found e finds en ef = λ form (t, r, i).
    let read : text ≡ t = quoted_is bytes text left t finds (ap (λ l. 39 ∷ l) (e ∙ ap (drop 2) r)) in
    ef ∙ ap (λ x. Some (Comment x text)) en ∙ ap (λ x. Some (Comment name x)) read ∙ ap Some (sym i)

pub removal_found : (name rest made selector : List ℕ) (side : Side) (found : Option Form) → made ≡ name → selector ≡ drop 2 rest → found ≡ Some (RemoveMethod made side selector) → FindsWord words.RemoveSelector name side rest found
removal_found name rest made selector side found en es ef = λ form (s, r, i).
    ef ∙ ap (λ x. Some (RemoveMethod x side selector)) en ∙ ap (λ x. Some (RemoveMethod name side x)) (es ∙ ap (drop 2) r) ∙ ap Some (sym i)

pub class_removal_found : (name rest made : List ℕ) (side : Side) (found : Option Form) → made ≡ drop 2 rest → found ≡ Some (RemoveClass made) → FindsWord words.RemoveClassNamed name side rest found
class_removal_found name rest made side found en ef = λ form (o, r, i).
    ef ∙ ap (λ x. Some (RemoveClass x)) (en ∙ ap (drop 2) r) ∙ ap Some (sym i)

pub classified_found : (name rest a selector l bytes text left made word : List ℕ) (side : Side) (found : Option Form) → a ≡ drop 12 rest → selector ≡ take (word_len a) a → l ≡ drop (word_len a) a → bytes ≡ drop 9 l → FindsString bytes text left
    → made ≡ name → word ≡ selector → found ≡ Some (Classify made side word text) → FindsWord words.Organization name side rest found
classified_found name rest a selector l bytes text left made word side found ea es el eb finds en ew ef = λ form (s, c, lawful, r, i).
    let cut = word_cut a s 32 (codes "under: " ++ quoted 39 c) (selector_inner s lawful) refl (ea ∙ ap (drop 12) r) in
    let read : text ≡ c = quoted_is bytes text left c finds (ap (λ l. 39 ∷ l) (eb ∙ ap (drop 9) (el ∙ cut.1))) in
    ef ∙ ap (λ x. Some (Classify x side word text)) en ∙ ap (λ x. Some (Classify name side x text)) (ew ∙ es ∙ cut.0) ∙ ap (λ x. Some (Classify name side s x)) read ∙ ap Some (sym i)

-- ---- a form by what its text begins with

keyword_plain : (w v : Word) → Plain w ≡ Plain v → v ≡ w
keyword_plain w v e = cc

no_kind : (w : Word) (k : Kind) → Plain w ≡ Defines k → ⊥
no_kind w k e = cc

reads_word : (form : Form) (w : Word) → IsLawfulForm form → let b = beginning_of form in Plain w ≡ b.keyword → ReadsWord w b.name b.side b.rest form
reads_word (Define d) w h e = absurd (no_kind w d.kind e)
reads_word (ClassVars name names) w h e = subst (λ v. ReadsWord v name Class (32 ∷ quoted 39 (joined names)) (ClassVars name names)) (keyword_plain w words.InstanceVariableNames e) (names, h.names.1, refl, refl)
reads_word (Comment name text) w h e = subst (λ v. ReadsWord v name Instance (32 ∷ quoted 39 text) (Comment name text)) (keyword_plain w words.Comment e) (text, refl, refl)
reads_word (RemoveMethod name s selector) w h e = subst (λ v. ReadsWord v name s (32 ∷ 35 ∷ selector) (RemoveMethod name s selector)) (keyword_plain w words.RemoveSelector e) (selector, refl, refl)
reads_word (Classify name s selector category) w h e =
    subst (λ v. ReadsWord v name s (codes " classify: #" ++ (selector ++ (codes " under: " ++ quoted 39 category))) (Classify name s selector category)) (keyword_plain w words.Organization e) (selector, category, h.names.1, refl, refl)
reads_word (RemoveClass name) w h e = subst (λ v. ReadsWord v smalltalk Instance (32 ∷ 35 ∷ name) (RemoveClass name)) (keyword_plain w words.RemoveClassNamed e) (name, refl, refl)
reads_word NoChanges w h e = subst (λ v. ReadsWord v smalltalk Instance [] NoChanges) (keyword_plain w words.NoChanges e) refl

pub by_word_found : (text : List ℕ) (front : Front) (w : Word) (r : Option Form) → FindsFront text front → front.word.now ≡ keyword_text (Plain w) → FindsWord w front.name.now front.side front.rest.now r → FindsForm text r
by_word_found text front w r finds named h = λ form lawful t.
    let b = beginning_of form in
    let is = finds form lawful t in
    let k : Plain w ≡ b.keyword = texts_same (Plain w) b.keyword (sym named ∙ is.word) in
    h form (rw (is.name, is.side, is.rest) (reads_word form w lawful k))

reads_definition : (form : Form) (kind : Kind) (superclass rest : List ℕ) (d : Definition) → IsLawfulForm form → let b = beginning_of form in Defines kind ≡ b.keyword → superclass ≡ b.name → rest ≡ b.rest → FindsDefinition superclass kind rest d → Some (Define d) ≡ Some form
reads_definition (Define e) kind superclass rest d h k n r finds = ap (λ x. Some (Define x)) (finds e h.names n (cc) r)
reads_definition (ClassVars name names) kind superclass rest d h k n r finds = absurd (cc)
reads_definition (Comment name text) kind superclass rest d h k n r finds = absurd (cc)
reads_definition (RemoveMethod name s selector) kind superclass rest d h k n r finds = absurd (cc)
reads_definition (Classify name s selector category) kind superclass rest d h k n r finds = absurd (cc)
reads_definition (RemoveClass name) kind superclass rest d h k n r finds = absurd (cc)
reads_definition NoChanges kind superclass rest d h k n r finds = absurd (cc)

pub definition_found : (text : List ℕ) (front : Front) (kind : Kind) (d : Definition) → FindsFront text front → front.word.now ≡ keyword_text (Defines kind) → FindsDefinition front.name.now kind front.rest.now d → FindsForm text (Some (Define d))
definition_found text front kind d finds named h = λ form lawful t.
    let is = finds form lawful t in
    reads_definition form kind front.name.now front.rest.now d lawful (texts_same (Defines kind) (beginning_of form).keyword (sym named ∙ is.word)) is.name is.rest h

pub none_found : (text : List ℕ) (front : Front) → FindsFront text front → ((k : Keyword) → front.word.now ≡ keyword_text k → ⊥) → FindsForm text None
none_found text front finds none = λ form lawful t. absurd (none (beginning_of form).keyword (finds form lawful t).word)
