-- Sends to super in lists of core trees in memory.
use Rattle.std.proofs.Common.{◌≡◌, ℕ, ◌+◌, ◌<◌, ◌≤◌, List, ◌∷◌, Bool, false, ◌||◌, map, length, drop, get_or, ap, sym, ◌∙◌}
use Rattle.std.proofs.lemmas.List.{drop_all, drop_more}
use Rattle.s80_core.specs.declared.core_tree.Core.{Core}
use Rattle.s80_core.specs.declared.core_tree.CoreMessage.{CoreMessage, out-CoreMessage}
use Rattle.s80_core.specs.Core.{SendTrees, core_of, cores_of, send_of, sends_from}
use Rattle.s80_compile.specs.Compiles.{any_to_super, goes_to_super, sends_to_super}
use Rattle.s80_compile.proofs.OpenCore.{cores_left, cores_next, cores_done, message_open}

-- after a tree, all goes to super as this tree or what is left does
pub trees_next : (all b : Bool) (xs : List Core) (i : ℕ) (x : Core) → any_to_super (cores_left xs i) ≡ all → i < length xs → x ≡ get_or xs i x → b ≡ goes_to_super (core_of x)
    → (b || any_to_super (cores_left xs (i + 1))) ≡ all
trees_next all b xs i x before within is here = ap (λ y. y || any_to_super (cores_left xs (i + 1))) here ∙ sym (ap any_to_super (cores_next xs i x within is)) ∙ before

pub trees_done : (all : Bool) (xs : List Core) (i : ℕ) → any_to_super (cores_left xs i) ≡ all → length xs ≤ i → false ≡ all
trees_done all xs i before past = sym (ap any_to_super (cores_done xs i past)) ∙ before

abbrev pub messages_left : List CoreMessage → ℕ → SendTrees
messages_left xs i = sends_from (map send_of (drop i xs))

open_next : (xs : List CoreMessage) (i : ℕ) (x : CoreMessage) → i < length xs → x ≡ get_or xs i x
    → sends_to_super (messages_left xs i) ≡ (any_to_super (cores_of (out-CoreMessage x).arguments) || sends_to_super (messages_left xs (i + 1)))
open_next xs i x within is =
    ap (λ l. sends_to_super (sends_from (map send_of l))) (drop_more xs i x within ∙ ap (λ y. y ∷ drop (i + 1) xs) (sym is))
    ∙ ap (λ m. any_to_super m.1 || sends_to_super (messages_left xs (i + 1))) (message_open x)

pub messages_next : (all b : Bool) (xs : List CoreMessage) (i : ℕ) (x : CoreMessage) → sends_to_super (messages_left xs i) ≡ all → i < length xs → x ≡ get_or xs i x
    → b ≡ any_to_super (cores_of (out-CoreMessage x).arguments) → (b || sends_to_super (messages_left xs (i + 1))) ≡ all
messages_next all b xs i x before within is here = ap (λ y. y || sends_to_super (messages_left xs (i + 1))) here ∙ sym (open_next xs i x within is) ∙ before

pub messages_done : (all : Bool) (xs : List CoreMessage) (i : ℕ) → sends_to_super (messages_left xs i) ≡ all → length xs ≤ i → false ≡ all
messages_done all xs i before past = sym (ap (λ l. sends_to_super (sends_from (map send_of l))) (drop_all i xs past)) ∙ before
