-- What the texts of forms are made of.
use Rattle.std.proofs.Common.{◌≡◌, ℕ, ◌+◌, ◌<◌, List, [], ◌∷◌, ◌++◌, take, length, Some, ap, sym, ◌∙◌, arith, codes, append_assoc, length-take}
use Rattle.std.specs.List.{slice_get, flat_map}
use Rattle.std.proofs.lemmas.List.{append-nil, take_more}
use Rattle.std.proofs.lemmas.List.Concat.{flat_map-append}
use Rattle.std.proofs.lemmas.Option.{slice_get_within, get_or_from_slice_get}
use Rattle.s80_lex.specs.Spelling.{quoted}
use Rattle.s80_form.specs.declared.definition.Definition.{Definition}
use Rattle.s80_form.specs.Definition.{first_line, next_line, joined, definition_text}

-- one name more
joined_push : (first name : List ℕ) (more : List (List ℕ)) → joined ((first ∷ more) ++ name ∷ []) ≡ (joined (first ∷ more) ++ 32 ∷ []) ++ name
joined_push first name more =
    ap (λ l. first ++ l) (flat_map-append (λ next. 32 ∷ next) more (name ∷ []) ∙ ap (λ l. flat_map (λ next. 32 ∷ next) more ++ 32 ∷ l) (append-nil name))
    ∙ sym (append_assoc first (flat_map (λ next. 32 ∷ next) more) (32 ∷ name))
    ∙ sym (append_assoc (joined (first ∷ more)) (32 ∷ []) name)

pub take_one : (names : List (List ℕ)) (i : ℕ) (name : List ℕ) → slice_get names i ≡ Some name → take (i + 1) names ≡ take i names ++ name ∷ []
take_one names i name e = take_more names i [] (slice_get_within names i name e) ∙ ap (λ n. take i names ++ n ∷ []) (get_or_from_slice_get names i name [] e)

pub joined_first : (names : List (List ℕ)) (i : ℕ) (name : List ℕ) → i ≡ 0 → slice_get names i ≡ Some name → joined (take i names) ++ name ≡ joined (take (i + 1) names)
joined_first names i name z e =
    ap (λ n. joined (take n names) ++ name) z
    ∙ sym (ap joined (take_one names i name e) ∙ ap (λ n. joined (take n names ++ name ∷ [])) z ∙ append-nil name)

joined_after : (front : List (List ℕ)) (name : List ℕ) → 0 < length front → (joined front ++ 32 ∷ []) ++ name ≡ joined (front ++ name ∷ [])
joined_after [] name lt = absurd (omega arith)
joined_after (first ∷ more) name lt = sym (joined_push first name more)

pub joined_next : (names : List (List ℕ)) (i : ℕ) (name : List ℕ) → 0 < i → slice_get names i ≡ Some name → (joined (take i names) ++ 32 ∷ []) ++ name ≡ joined (take (i + 1) names)
joined_next names i name lt e =
    let within : i < length names = slice_get_within names i name e in
    joined_after (take i names) name (omega (arith, length-take i names)) ∙ ap joined (sym (take_one names i name e))

-- the text, line by line
pub lines_text : (d : Definition) (t u v w x i c p : List ℕ) → t ≡ first_line d → i ≡ joined d.inst_vars → c ≡ joined d.class_vars → p ≡ joined d.pools
    → u ≡ t ++ next_line (codes "instanceVariableNames:") i → v ≡ u ++ next_line (codes "classVariableNames:") c
    → w ≡ v ++ next_line (codes "poolDictionaries:") p → x ≡ w ++ next_line (codes "category:") d.category → x ≡ definition_text d
lines_text d t u v w x i c p et ei ec ep eu ev ew ex =
    let one : u ≡ first_line d ++ next_line (codes "instanceVariableNames:") (joined d.inst_vars) =
    eu ∙ ap (λ l. l ++ next_line (codes "instanceVariableNames:") i) et ∙ ap (λ l. first_line d ++ next_line (codes "instanceVariableNames:") l) ei in
    let two : v ≡ (first_line d ++ next_line (codes "instanceVariableNames:") (joined d.inst_vars)) ++ next_line (codes "classVariableNames:") (joined d.class_vars) =
    ev ∙ ap (λ l. l ++ next_line (codes "classVariableNames:") c) one ∙ ap (λ l. (first_line d ++ next_line (codes "instanceVariableNames:") (joined d.inst_vars)) ++ next_line (codes "classVariableNames:") l) ec in
    let three : w ≡ ((first_line d ++ next_line (codes "instanceVariableNames:") (joined d.inst_vars)) ++ next_line (codes "classVariableNames:") (joined d.class_vars)) ++ next_line (codes "poolDictionaries:") (joined d.pools) =
    ew ∙ ap (λ l. l ++ next_line (codes "poolDictionaries:") p) two
    ∙ ap (λ l. ((first_line d ++ next_line (codes "instanceVariableNames:") (joined d.inst_vars)) ++ next_line (codes "classVariableNames:") (joined d.class_vars)) ++ next_line (codes "poolDictionaries:") l) ep in
    ex ∙ ap (λ l. l ++ next_line (codes "category:") d.category) three

-- the text of a list of names, and of a category, part by part
pub named_text : (name one two names strings text : List ℕ) → one ≡ name → two ≡ one ++ codes " class instanceVariableNames: " → strings ≡ names → text ≡ two ++ quoted 39 strings → text ≡ name ++ (codes " class instanceVariableNames: " ++ quoted 39 names)
named_text name one two names strings text e f g h =
    h ∙ ap (λ l. l ++ quoted 39 strings) (f ∙ ap (λ l. l ++ codes " class instanceVariableNames: ") e) ∙ ap (λ l. (name ++ codes " class instanceVariableNames: ") ++ quoted 39 l) g
    ∙ append_assoc name (codes " class instanceVariableNames: ") (quoted 39 names)

pub category_text : (name side selector category one two three four five text : List ℕ) → one ≡ name → two ≡ one ++ side → three ≡ two ++ codes " organization classify: #" → four ≡ three ++ selector → five ≡ four ++ codes " under: " → text ≡ five ++ quoted 39 category
    → text ≡ name ++ (side ++ (codes " organization classify: #" ++ (selector ++ (codes " under: " ++ quoted 39 category))))
category_text name side selector category one two three four five text e f g h i j =
    let whole : text ≡ ((((name ++ side) ++ codes " organization classify: #") ++ selector) ++ codes " under: ") ++ quoted 39 category =
    j ∙ ap (λ l. l ++ quoted 39 category) (i ∙ ap (λ l. l ++ codes " under: ") (h ∙ ap (λ l. l ++ selector) (g ∙ ap (λ l. l ++ codes " organization classify: #") (f ∙ ap (λ l. l ++ side) e)))) in
    whole ∙ assoc_five name side (codes " organization classify: #") selector (codes " under: ") (quoted 39 category)
  where
    assoc_five : (a b c d e f : List ℕ) → ((((a ++ b) ++ c) ++ d) ++ e) ++ f ≡ a ++ (b ++ (c ++ (d ++ (e ++ f))))
    assoc_five a b c d e f = simp append_assoc
