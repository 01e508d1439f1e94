-- The note of a snapshot: a lawful doIt, whose text is one comment. It changes neither classes nor history, so the image of a list with it is that of
-- what the list makes.
use Rattle.std.proofs.Common.{◌≡◌, inl, inr, ◌+◌, ◌-◌, ◌^◌, ◌<◌, ◌≤◌, ◌++◌, ◌∷◌, ◌&&◌, ◌||◌, not, min, ℕ, Bool, true, false, List, [], Option, Some, None, Ok, length, codes, filter, reverse, if◌then◌else◌, refl, ap, sym, ◌∙◌, subst, arith, length-append, append-nil}
use Rattle.std.specs.Prelude.{map as list_map}
use Rattle.std.specs.List.{All, list_any}
use Rattle.std.specs.Option.{option_map_or}
use Rattle.std.proofs.lemmas.List.{map-append}
use Rattle.std.proofs.lemmas.List.Elements.{All-push, filter-append}
use Rattle.std.proofs.lemmas.List.Folds.{list_any-append}
use Rattle.s80_chunk.specs.Chunks.{IsPlainText}
use Rattle.s80_change.specs.Block.{block, blocks, log_limit, IsLawful, IsList}
use Rattle.s80_change.specs.declared.change.Change.{Change}
use Rattle.s80_change.specs.declared.change.Change.TheVariants as change
use Rattle.s80_change.proofs.lemmas.TextOf.{no_form_text}
use Rattle.s80_form.specs.declared.form.Form.{Form}
use Rattle.s80_form.specs.declared.form.Form.TheVariants.{Define, ClassVars, Comment, RemoveMethod, Classify, RemoveClass, NoChanges}
use Rattle.s80_form.specs.Form.{HasForm, IsNoForm}
use Rattle.s80_form.specs.TreeParts.{IsSentToName, all_sent}
use Rattle.s80_lex.specs.Front.{IsMost, Stands}
use Rattle.s80_lex.specs.Spelling.{IsQuoted}
use Rattle.s80_lex.specs.Text.{AreTokens, token_of}
use Rattle.s80_lex.proofs.lemmas.Parts.{Up, up_all, up_more, up_none}
use Rattle.s80_lex.proofs.lemmas.Standing.{comment_stands}
use Rattle.s80_tree.specs.declared.name.NameAt.{NameAt}
use Rattle.s80_tree.specs.Tree.{DoItParts, MessageTrees, no_stmts, stmts}
use Rattle.s80_syntax.specs.Text.{IsDoItOf}
use Rattle.s80_class.specs.Known.{IsKnown}
use Rattle.s80_history.specs.History.{HistoryState, IsHistoryOf, noting}
use Rattle.s80_history.specs.Lists.{MethodName, Placed, behind_last, comes_before, is_left_out, is_no_changes, is_put_again, named, not_left_out, placed_from, puts, set_of, versions_of}
use Rattle.s80_apply.specs.Codes.{AreCodes}
use Rattle.s80_apply.specs.List.{IsBuilt}
use Rattle.s80_apply.specs.Placed.{placed_of}
use Rattle.s80_apply.specs.System.{HasPlaces, SystemState}
use Rattle.s80_apply.proofs.lemmas.Lists.{blocks_more, built_more, placed_more}
use Rattle.s80_image.specs.Image.{ImageView, image_bytes}
use Rattle.s80_image.specs.Together.{IsLawfulImage}
use Rattle.s80_snapshot.specs.OfList.{IsImageOf}
use Rattle.s80_snapshot.specs.Pictured.{IsCounted, IsPicture}
use Rattle.s80_keeper.specs.Keeper.{KeeperState}
use Rattle.s80_keeper.specs.Renewing.{HasMade}
use Rattle.s80_keeper.specs.Snapshot.{IsImageText, note}
use Rattle.s80_keeper.proofs.Counting.{no_more}

-- ---- its text

abbrev text : List ℕ
text = codes "\"----SNAPSHOT----\""

-- a doIt that does nothing
abbrev nothing : DoItParts
nothing = record { temporaries = []; body = no_stmts }

quoted : IsMost (IsQuoted 34) 18 text
quoted = record {
  fits = omega arith;
  here = record { text = codes "----SNAPSHOT----"; spelled = refl; ended = refl };
  longest = λ word rest is quoted. omega (arith, ap length is, length-append word rest);
}

one_part : (p : _) → Stands (Ok (p, 18)) text → token_of p 0 (0 + 18) ≡ [] → AreTokens [] text
one_part p stands is = up_all [] 18 text (omega arith) (subst (λ l. Up l 18 text) is (up_more [] 0 18 p text (up_none text) stands))

tokens : AreTokens [] text
tokens =
    let stands = comment_stands 18 text quoted in
    search (one_part)

-- its tree
tree : IsDoItOf text nothing
tree = record { tokens = []; are_tokens = tokens; doit = ([], inr (refl, refl), refl); lawful = tt }

sends_nothing : (p : NameAt × MessageTrees) → IsSentToName nothing p → ⊥
sends_nothing p h =
    let e : no_stmts ≡ stmts false (all_sent p) no_stmts = ap (λ (d : DoItParts). d.body) h.tree_is in
    cc

has_no_form : (form : Form) → HasForm nothing form → ⊥
has_no_form (Define d) h = sends_nothing _ h.sending
has_no_form (ClassVars name names) h = sends_nothing _ h.1.1
has_no_form (Comment name comment) h = sends_nothing _ h.1
has_no_form (RemoveMethod name side selector) h = sends_nothing _ h.1
has_no_form (Classify name side selector category) h = sends_nothing _ h.1
has_no_form (RemoveClass name) (inl h) = sends_nothing _ h.1
has_no_form (RemoveClass name) (inr h) = sends_nothing _ h.1
has_no_form NoChanges h = sends_nothing _ h.1

no_form : IsNoForm nothing
no_form = record { form = λ form h. has_no_form form h.0; snapshot = λ h. sends_nothing _ h.1 }

plain : IsPlainText text
plain = (λ blank. cc, λ e. cc, omega arith)

pub note_lawful : IsLawful note
note_lawful = (plain, no_form_text text nothing tree no_form)

-- how long its block is
pub note_size : length (block note) ≡ 20
note_size = refl

-- it may stand behind a list for whose log it has room
pub note_follows : (changes : List Change) (end : ℕ) → IsList changes → end ≡ length (blocks changes) → end + length (block note) ≤ log_limit → IsList (changes ++ note ∷ [])
note_follows changes end list whole room = record {
  lawful = All-push IsLawful changes note list.lawful note_lawful;
  within = rw (blocks_more changes note, length-append) (omega (arith, whole, room));
}

-- ---- the classes

pub note_built : (changes : List Change) → IsBuilt changes → IsBuilt (changes ++ note ∷ [])
note_built changes built = built_more changes note built tt

places_noted : (changes : List Change) → placed_of (changes ++ note ∷ []) ≡ placed_of changes
places_noted changes = placed_more changes note

-- ---- the history

-- where the block of a change behind these begins
abbrev place_behind : ℕ → List Change → ℕ
place_behind at [] = at
place_behind at (c ∷ cs) = place_behind (at + length (block c)) cs

placed_behind : (at : ℕ) (changes : List Change) → placed_from at (changes ++ note ∷ []) ≡ placed_from at changes ++ (place_behind at changes, note) ∷ []
placed_behind at [] = refl
placed_behind at (c ∷ cs) = ap (λ l. (at, c) ∷ l) (placed_behind (at + length (block c)) cs)

or_false : (b : Bool) → (b || false) ≡ b
or_false true = refl
or_false false = refl

and_false : (b : Bool) → (false || (b && false)) ≡ false
and_false true = refl
and_false false = refl

either_more : (b d : Bool) (p q : Placed) (xs ps : List Placed) → (if b then xs ++ q ∷ [] else (if d then ps ++ q ∷ [] else p ∷ ps ++ q ∷ [])) ≡ (if b then xs else (if d then ps else p ∷ ps)) ++ q ∷ []
either_more true d p q xs ps = refl
either_more false true p q xs ps = refl
either_more false false p q xs ps = refl

-- behind the last that begins the set anew
behind_more : (at : ℕ) (ps : List Placed) → behind_last is_no_changes (ps ++ (at, note) ∷ []) ≡ behind_last is_no_changes ps ++ (at, note) ∷ []
behind_more at [] = refl
behind_more at (p ∷ ps) =
    let q : Placed = (at, note) in
    let ends : Placed → Bool = λ r. is_no_changes r.1 in
    let some : list_any ends (ps ++ q ∷ []) ≡ list_any ends ps = list_any-append ends ps (q ∷ []) ∙ or_false (list_any ends ps) in
    let goes : Bool → List Placed → List Placed = λ b xs. if b then xs else (if is_no_changes p.1 then ps ++ q ∷ [] else p ∷ ps ++ q ∷ []) in
    ap (λ b. goes b (behind_last is_no_changes (ps ++ q ∷ []))) some
    ∙ ap (goes (list_any ends ps)) (behind_more at ps)
    ∙ either_more (list_any ends ps) (is_no_changes p.1) p q (behind_last is_no_changes ps) ps

comes_more : (passes ends : Change → Bool) (later : List Change) → passes note ≡ false → comes_before passes ends (later ++ note ∷ []) ≡ comes_before passes ends later
comes_more passes ends [] none = ap (λ b. b || (not (ends note) && false)) none ∙ and_false (not (ends note))
comes_more passes ends (c ∷ cs) none = ap (λ b. passes c || (not (ends c) && b)) (comes_more passes ends cs none)

named_more : (name : Option MethodName) (later : List Change) → option_map_or (λ n. is_put_again n (later ++ note ∷ [])) name true ≡ option_map_or (λ n. is_put_again n later) name true
named_more None later = refl
named_more (Some n) later = comes_more (puts n) _ later refl

left_more : (c : Change) (later : List Change) → is_left_out c (later ++ note ∷ []) ≡ is_left_out c later
left_more (change.DoIt t) later = refl
left_more (change.Method m) later = named_more (named m m.source.selector) later
left_more (change.Form (Define d)) later = refl
left_more (change.Form (ClassVars name names)) later = refl
left_more (change.Form (Comment class comment)) later = comes_more _ _ later refl
left_more (change.Form (RemoveMethod class side selector)) later = refl
left_more (change.Form (Classify class side selector category)) later = comes_more _ _ later refl
left_more (change.Form (RemoveClass class)) later = refl
left_more (change.Form NoChanges) later = refl

-- the note is left out
not_left_more : (at : ℕ) (ps : List Placed) → not_left_out (ps ++ (at, note) ∷ []) ≡ not_left_out ps
not_left_more at [] = refl
not_left_more at (p ∷ ps) =
    let q : Placed = (at, note) in
    let change_of : Placed → Change = λ r. r.1 in
    let later : list_map change_of (ps ++ q ∷ []) ≡ list_map change_of ps ++ note ∷ [] = map-append change_of ps (q ∷ []) in
    let goes : Bool → List Placed → List Placed = λ b xs. if b then xs else p ∷ xs in
    ap (λ l. goes (is_left_out p.1 l) (not_left_out (ps ++ q ∷ []))) later
    ∙ ap (λ b. goes b (not_left_out (ps ++ q ∷ []))) (left_more p.1 (list_map change_of ps))
    ∙ ap (goes (is_left_out p.1 (list_map change_of ps))) (not_left_more at ps)

set_noted : (changes : List Change) → set_of (changes ++ note ∷ []) ≡ set_of changes
set_noted changes =
    let at = place_behind 0 changes in
    let ps = placed_from 0 changes in
    ap (λ l. not_left_out (behind_last is_no_changes l)) (placed_behind 0 changes) ∙ ap not_left_out (behind_more at ps) ∙ not_left_more at (behind_last is_no_changes ps)

versions_noted : (changes : List Change) (name : MethodName) → versions_of (changes ++ note ∷ []) name ≡ versions_of changes name
versions_noted changes name =
    let at = place_behind 0 changes in
    let ps = placed_from 0 changes in
    let own : Placed → Bool = λ p. puts name p.1 in
    ap reverse (ap (filter own) (placed_behind 0 changes) ∙ filter-append own ps ((at, note) ∷ []) ∙ append-nil (filter own ps))

history_noted : (history : HistoryState) (changes : List Change) → IsHistoryOf history changes → IsHistoryOf history (changes ++ note ∷ [])
history_noted history changes is = record {
  members = is.members ∙ ap (λ l. list_map (λ (p : Placed). noting p.0 p.1) l) (sym (set_noted changes));
  versions = λ name. is.versions name ∙ ap (λ l. list_map (λ (p : Placed). p.0) l) (sym (versions_noted changes name));
}

-- ---- its image

-- what is encoded of the keeper's classes and history is the image of its list with the note
pub image_noted : (keeper : KeeperState) (changes : List Change) (count : ℕ) (bytes : List ℕ)
    → HasMade keeper changes → IsList (changes ++ note ∷ []) → IsKnown keeper.system.table → AreCodes keeper.system.table keeper.system.methods
    → ((list : List Change) (system : SystemState) (history : HistoryState) (image : ImageView)
    → IsKnown system.table → HasPlaces system (placed_of list) → AreCodes system.table system.methods → IsHistoryOf history list
    → IsPicture system history (length list) image → IsImageOf list image)
    → ((list : List Change) (image : ImageView) → IsList list → IsBuilt list → IsImageOf list image → IsCounted image → All (λ b. b < 256) (image_bytes image) → IsLawfulImage image)
    → count ≡ min (keeper.count + 1) (2 ^ 64 - 1)
    → (image : ImageView) × IsPicture keeper.system keeper.history count image × IsCounted image × (bytes ≡ image_bytes image)
    → All (λ b. b < 256) bytes → IsImageText (changes ++ note ∷ []) bytes
image_noted keeper changes count bytes made list known codes_are pictured lawful counts found small =
    let all = changes ++ note ∷ [] in
    let image = found.0 in
    let few = no_more all in
    let more : length all ≡ length changes + 1 = length-append changes (note ∷ []) in
    let within = list.within in
    let number : count ≡ length all = omega (arith, counts, made.count, more, few, within) in
    let picture : IsPicture keeper.system keeper.history (length all) image = subst (λ n. IsPicture keeper.system keeper.history n image) number found.1 in
    let places : HasPlaces keeper.system (placed_of all) = subst (HasPlaces keeper.system) (sym (places_noted changes)) made.places in
    let of_list = pictured all keeper.system keeper.history image known places codes_are (history_noted keeper.history changes made.history) picture in
    record {
      image = image;
      lawful = lawful all image list (note_built changes made.built) of_list found.2 (subst (All (λ b. b < 256)) found.3 small);
      of_list = of_list;
      spelled = found.3;
    }
