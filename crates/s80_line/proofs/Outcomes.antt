-- From what clap ensures to what a line is.
use Rattle.std.proofs.Common.{◌≡◌, ◌∙◌, inl, inr, true, refl, sym, ap, subst, List, [], ◌∷◌, Option, Some, None}
use Rattle.std.specs.Prelude.{drop, ◌≢◌}
use Rattle.std.specs.List.{All, AllByRecursion}
use Rattle.std.specs.Str.{IsUtf8}
use Rattle.std.proofs.lemmas.List.Elements.{recursion_from_All}
use Rattle.clap.specs.Words.{App, HasMatchesOf, Row, found_of, rows_of, matches_of, is_simple}
use Rattle.clap.specs.Kinds.{Kinds, IsAmong, HasKind}
use Rattle.clap.specs.Values.{kind_of}
use Rattle.clap.specs.Faults.{fault_of, is_simple_and_free}
use Rattle.clap.specs.declared.error.Error.{Error}
use Rattle.clap.specs.declared.error.kind.ErrorKind.TheVariants.{OutOfMemory}
use Rattle.clap.specs.declared.parser.matches.ArgMatches.{ArgMatches}
use Rattle.s80_line.specs.Line.{Word, Read, before, read_from, nothing_read}
use Rattle.std.specs.Prelude.{option_and_then, option_map, unwrap_or, slice_get}
use Rattle.clap.specs.Words.{first_value, matched_of, raw_values}
use Rattle.clap.proofs.WalkLemmas.{first_value-rows, raw_values-rows}
use Rattle.clap.specs.declared.parser.matches.Found.{Found}
use Rattle.s80_line.specs.Rows.{IsOutcome, Looks, whole_read, look, entry, whole, folders, commands, others}
use Rattle.std.proofs.Common.{codes, ap₂, IsSome}
use Rattle.s80_line.specs.Shape.{the_app}
use Rattle.s80_line.proofs.Agrees.{Agrees, outcome, free}

utf8_rest : (words : List Word) → All IsUtf8 words → AllByRecursion IsUtf8 (drop 1 words)
utf8_rest [] u = tt
utf8_rest (x ∷ xs) u = (recursion_from_All IsUtf8 (x ∷ xs) u).1

simple : is_simple the_app ≡ true
simple = refl

pub accepted : (words : List Word) (m : ArgMatches) (a : App) → All IsUtf8 words → a ≡ the_app → HasMatchesOf a words m → (is_simple_and_free a ≡ true → fault_of a words ≡ []) → IsOutcome words (Some m)
accepted words m a u is has fault =
    let none : fault_of the_app words ≡ [] = ap (λ (b : App). fault_of b words) (sym is) ∙ fault (ap is_simple_and_free is ∙ free) in
    let rows : rows_of (found_of m) ≡ matches_of the_app words = (has (ap is_simple is ∙ simple)).0 ∙ ap (λ (b : App). matches_of b words) is in
    go (whole_read words) refl (outcome words (utf8_rest words u)) none rows
  where
    go : (o : Option Read) → whole_read words ≡ o → Agrees o (fault_of the_app words) (matches_of the_app words) → fault_of the_app words ≡ [] → rows_of (found_of m) ≡ matches_of the_app words → IsOutcome words (Some m)
    go None e bad none rows = absurd (bad none)
    go (Some r) e (ok, l) none rows = (r, e, subst (λ (rs : List Row). Looks rs r) (sym rows) l)

pub refused_words : (words : List Word) (error : Error) (a : App) → All IsUtf8 words → a ≡ the_app → (is_simple_and_free a ≡ true → HasKind (fault_of a words) error) → kind_of error ≢ OutOfMemory → whole_read words ≡ None
refused_words words error a u is fault other =
    go (whole_read words) refl (outcome words (utf8_rest words u)) (subst (λ (b : App). HasKind (fault_of b words) error) is (fault (ap is_simple_and_free is ∙ free)))
  where
    among : (ks : Kinds) → ks ≡ [] → IsAmong (kind_of error) ks → ⊥
    among ks e h = let h' : IsAmong (kind_of error) [] = subst (IsAmong (kind_of error)) e h in h'

    go : (o : Option Read) → whole_read words ≡ o → Agrees o (fault_of the_app words) (matches_of the_app words) → HasKind (fault_of the_app words) error → whole_read words ≡ None
    go None e bad h = e
    go (Some r) e (ok, l) (inl memory) = absurd (other memory)
    go (Some r) e (ok, l) (inr h) = absurd (among (fault_of the_app words) ok h)

-- ---- what the getters read

pub word_found : (f : Found) (id v : Word) (vs : List Word) → look id (rows_of f) ≡ entry id (v ∷ vs) → first_value f id ≡ Some v
word_found f id v vs e = first_value-rows f id ∙ ap (option_and_then (λ (r : Row). slice_get r.values 0)) e

entry-values : (id : Word) (vs : List Word) → unwrap_or (option_map (λ (r : Row). r.values) (entry id vs)) [] ≡ vs
entry-values id [] = refl
entry-values id (v ∷ vs) = refl

pub values_found : (f : Found) (id : Word) (vs : List Word) → look id (rows_of f) ≡ entry id vs → unwrap_or (option_map raw_values (matched_of f id)) [] ≡ vs
values_found f id vs e = ap (λ o. unwrap_or o []) (raw_values-rows f id ∙ ap (option_map (λ (r : Row). r.values)) e) ∙ entry-values id vs

-- a line has a folder and a command
abbrev pub IsWhole : Read → Type 0
IsWhole r = (x : Word) × (y : Word) × (ys : List Word) × (r.plains ≡ x ∷ y ∷ ys)

whole_so : (ps : List Word) (s r : Read) → ps ≡ s.plains → whole ps s ≡ Some r → IsWhole r
whole_so [] s r same e = cc
whole_so (x ∷ []) s r same e = cc
whole_so (x ∷ y ∷ ys) s r same e = let is : s ≡ r = cc in (x, y, ys, sym (same ∙ ap (λ (t : Read). t.plains) is))

whole_some : (o : Option Read) (r : Read) → option_and_then (λ s. whole s.plains s) o ≡ Some r → IsWhole r
whole_some None r e = cc
whole_some (Some s) r e = whole_so s.plains s r refl e

pub is_whole : (words : List Word) (r : Read) → whole_read words ≡ Some r → IsWhole r
is_whole words r e = whole_some (read_from before nothing_read (drop 1 words)) r e

some_map : {X Y : Type 0} (f : X → Y) (o : Option X) (y : Y) → option_map f o ≡ Some y → IsSome o
some_map f None y e = cc
some_map f (Some x) y e = refl

same_some : {X : Type 0} (x y : X) → Some x ≡ Some y → x ≡ y
same_some x y e = cc

read_same : (bs bs' ks ks' ps ps' : List Word) → bs ≡ bs' → ks ≡ ks' → ps ≡ ps'
    → Some (let r : Read = record { budgets = bs; keeps = ks; plains = ps } in r) ≡ Some (record { budgets = bs'; keeps = ks'; plains = ps' })
read_same bs bs' ks ks' ps ps' b k p = rw (b, k, p) refl

module _ (words : List Word) (m : ArgMatches) (out : IsOutcome words (Some m)) where
  abbrev w : IsWhole out.0
  w = is_whole words out.0 out.1

  folder_is : first_value (found_of m) (codes "folder") ≡ Some w.0
  folder_is = word_found (found_of m) (codes "folder") w.0 [] (out.2.folder ∙ ap (λ ps. entry (codes "folder") (folders ps)) w.3)

  command_is : first_value (found_of m) (codes "command") ≡ Some w.1
  command_is = word_found (found_of m) (codes "command") w.1 [] (out.2.command ∙ ap (λ ps. entry (codes "command") (commands ps)) w.3)

  pub folder_there : {X : Type 0} (now : X → Word) (s : Option X) → option_map now s ≡ first_value (found_of m) (codes "folder") → IsSome s
  folder_there now s e = some_map now s w.0 (e ∙ folder_is)

  pub command_there : {X : Type 0} (now : X → Word) (s : Option X) → option_map now s ≡ first_value (found_of m) (codes "command") → IsSome s
  command_there now s e = some_map now s w.1 (e ∙ command_is)

  pub read_is : (budgets keeps arguments : List Word) (f k : Word) → budgets ≡ unwrap_or (option_map raw_values (matched_of (found_of m) (codes "budget"))) []
      → keeps ≡ unwrap_or (option_map raw_values (matched_of (found_of m) (codes "keep"))) []
      → arguments ≡ unwrap_or (option_map raw_values (matched_of (found_of m) (codes "arguments"))) []
      → Some f ≡ first_value (found_of m) (codes "folder") → Some k ≡ first_value (found_of m) (codes "command")
      → Some (record { budgets = budgets; keeps = keeps; plains = f ∷ k ∷ arguments }) ≡ whole_read words
  read_is budgets keeps arguments f k b v a fo co =
      let bs : budgets ≡ out.0.budgets = b ∙ values_found (found_of m) (codes "budget") out.0.budgets out.2.budget in
      let ks : keeps ≡ out.0.keeps = v ∙ values_found (found_of m) (codes "keep") out.0.keeps out.2.keep in
      let gs : arguments ≡ w.2 = a ∙ values_found (found_of m) (codes "arguments") w.2 (out.2.arguments ∙ ap (λ ps. entry (codes "arguments") (others ps)) w.3) in
      let f_is : f ≡ w.0 = same_some f w.0 (fo ∙ folder_is) in
      let k_is : k ≡ w.1 = same_some k w.1 (co ∙ command_is) in
      let plain : f ∷ k ∷ arguments ≡ out.0.plains = ap₂ (λ x xs. x ∷ xs) f_is (ap₂ (λ x xs. x ∷ xs) k_is gs) ∙ sym w.3 in
      read_same budgets out.0.budgets keeps out.0.keeps (f ∷ k ∷ arguments) out.0.plains bs ks plain ∙ sym out.1
