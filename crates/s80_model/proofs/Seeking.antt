-- What is told of methods and names that were sought.
use Rattle.std.proofs.Common.{◌≡◌, ◌∙◌, ◌+◌, inl, inr, ℕ, List, [], ◌∷◌, ◌++◌, Some, take, sym, ap, append_assoc, subst}
use Rattle.std.specs.List.{slice_get}
use Rattle.std.proofs.lemmas.List.{append-nil, take_more}
use Rattle.std.proofs.lemmas.List.Concat.{flat_map-append}
use Rattle.std.proofs.lemmas.Option.{slice_get_within, get_or_from_slice_get}
use Rattle.s80_apply.specs.State.{State}
use Rattle.s80_apply.specs.List.{state_of}
use Rattle.s80_xref.specs.declared.places.MethodPlace.{MethodPlace}
use Rattle.s80_xref.specs.Places.{IsOfSelector, IsUndeclared, IsUnimplemented, IsUnsent, RefersTo, Sends, all_places}
use Rattle.s80_xref.proofs.lemmas.OneList.{one_found, one_naming}
use Rattle.s80_model.specs.Asked.{Ask, AsksOf, seeks}
use Rattle.s80_model.specs.Replies.{IsSo, Work}
use Rattle.s80_model.specs.Sought.{AreNameLines, ArePlaces, IsFound, places_text}
use Rattle.s80_model.specs.Texts.{method_line, names_text}
use Rattle.s80_model.specs.declared.item.Query.{Query as SessionQuery}
use Rattle.s80_model.specs.declared.item.Query.TheVariants as queries

-- ---- a line more

abbrev line : MethodPlace → List ℕ
line at = method_line [] at.class_name at.side at.selector

line_more : (places : List MethodPlace) (i : ℕ) (at : MethodPlace) → slice_get places i ≡ Some at → places_text (take (i + 1) places) ≡ places_text (take i places) ++ (line at ++ 10 ∷ [])
line_more places i at there =
    ap places_text (take_more places i at (slice_get_within places i at there) ∙ ap (λ p. take i places ++ p ∷ []) (get_or_from_slice_get places i at at there))
    ∙ flat_map-append (λ p. line p ++ 10 ∷ []) (take i places) (at ∷ [])
    ∙ ap (λ l. places_text (take i places) ++ l) (append-nil (line at ++ 10 ∷ []))

pub next_place : (places : List MethodPlace) (i : ℕ) (at : MethodPlace) (text bytes t u : List ℕ) → text ≡ places_text (take i places) → slice_get places i ≡ Some at → bytes ≡ at.selector
    → t ≡ text ++ method_line [] at.class_name at.side bytes → u ≡ t ++ 10 ∷ [] → u ≡ places_text (take (i + 1) places)
next_place places i at text bytes t u text_is there bytes_is t_is u_is =
    let t_so : t ≡ text ++ line at = t_is ∙ ap (λ b. text ++ method_line [] at.class_name at.side b) bytes_is in
    u_is ∙ ap (λ l. l ++ 10 ∷ []) (t_so ∙ ap (λ l. l ++ line at) text_is) ∙ append_assoc (places_text (take i places)) (line at) (10 ∷ [])
    ∙ sym (line_more places i at there)

-- ---- what is sought is asked once

one_places : (state : State) (P : MethodPlace → Type 0) (lines other : List ℕ) → ArePlaces state P lines → ArePlaces state P other → other ≡ lines
one_places state P lines other (found, those, is) (again, also, other_is) = other_is ∙ ap places_text (one_found P (all_places state) found again those also) ∙ sym is

one_names : (P : List ℕ → Type 0) (lines other : List ℕ) → AreNameLines P lines → AreNameLines P other → other ≡ lines
one_names P lines other (found, those, is) (again, also, other_is) = other_is ∙ ap names_text (one_naming P found again those also) ∙ sym is

found_once : (state : State) (query : SessionQuery) (lines other : List ℕ) → IsFound state query lines → IsFound state query other → other ≡ lines
found_once state (queries.Senders selector) lines other h k = one_places state (Sends state selector) lines other h k
found_once state (queries.Implementors selector) lines other h k = one_places state (IsOfSelector selector) lines other h k
found_once state (queries.References name) lines other h k = one_places state (RefersTo state name) lines other h k
found_once state queries.Undeclared lines other h k = one_names (IsUndeclared state) lines other h k
found_once state queries.Unimplemented lines other h k = one_names (IsUnimplemented state) lines other h k
found_once state queries.Unsent lines other h k = one_names (IsUnsent state) lines other h k
found_once state queries.Recover lines other h k = absurd h
found_once state queries.Classes lines other h k = absurd h
found_once state (queries.Browse name) lines other h k = absurd h
found_once state (queries.Source spec selector) lines other h k = absurd h
found_once state (queries.Versions spec selector) lines other h k = absurd h
found_once state queries.Changes lines other h k = absurd h
found_once state (queries.FileOut filed) lines other h k = absurd h
found_once state queries.Snapshot lines other h k = absurd h
found_once state queries.Condense lines other h k = absurd h

pub one_sought : (work : Work) (query : SessionQuery) (ask other : Ask) → (lines : List ℕ) × (ask ≡ seeks query lines) → IsSo work ask → (lines : List ℕ) × (other ≡ seeks query lines) → IsSo work other → other ≡ ask
one_sought work query ask other (lines, is) so (again, also) now =
    let same = found_once (state_of work.changes) query lines again (subst (IsSo work) is so) (subst (IsSo work) also now) in
    also ∙ ap (seeks query) same ∙ sym is

-- with such a word or with another
pub one_asked_of : (Suits : List ℕ → Type 0) (word : List ℕ) (work : Work) (query : SessionQuery) (ask other : Ask) → AsksOf Suits word query ask → IsSo work ask → AsksOf Suits word query other → IsSo work other → other ≡ ask
one_asked_of Suits word work query ask other (inl (suits, is)) so (inl (again, also)) now = one_sought work query ask other is so also now
one_asked_of Suits word work query ask other (inl (suits, is)) so (inr (fails, also)) now = absurd (fails suits)
one_asked_of Suits word work query ask other (inr (fails, is)) so (inl (suits, also)) now = absurd (fails suits)
one_asked_of Suits word work query ask other (inr (fails, is)) so (inr (again, also)) now = also ∙ sym is
