-- What is read is sound.
use Rattle.std.proofs.Common.{ℕ, ◌≤◌, inl, inr, Bool, false, cond, List, [], ◌∷◌, ◌++◌, length, Option, refl, sym, subst}
use Rattle.std.specs.Prelude.{All, IfSome, option_to_list}
use Rattle.std.proofs.lemmas.Bool.Decides.{leb_tells}
use Rattle.std.proofs.lemmas.List.Elements.{All-nil, All-cons, All-append, All-pop, All-same}
use Rattle.s80_chunk.specs.declared.item.Role.{Role}
use Rattle.s80_chunk.specs.declared.item.Role.TheVariants as roles
use Rattle.s80_chunk.specs.declared.item.Item.{Item}
use Rattle.s80_chunk.specs.declared.item.Item.TheVariants as items
use Rattle.s80_chunk.specs.Chunks.{longest, IsText, IsSound, Reads, short_item, item_of, gives}
use Rattle.s80_chunk.specs.Chunks.Reads.{stop, take}
use Rattle.s80_chunk.specs.Held.{Held, HasRead}

short_sound : (role : Role) (b : ℕ) (text : List ℕ) → IsText role (b ∷ text) → length (b ∷ text) ≤ longest → IsSound (short_item role (b ∷ text))
short_sound roles.Plain b text h le = (h.0, h.1, le)
short_sound roles.Head b text h le = (h, le)
short_sound roles.Method b text h le = (h, le)

item_sound : (role : Role) (b : ℕ) (text : List ℕ) → IsText role (b ∷ text) → IsSound (item_of role (b ∷ text))
item_sound role b text h =
    let chosen : Bool → Item = λ short. cond short (short_item role (b ∷ text)) (items.TooLong role (length (b ∷ text))) in
    elim (leb_tells (length (b ∷ text)) longest) [
      | inl t ↦ subst (λ (z : Bool). IsSound (chosen z)) (sym t.0) (short_sound role b text h t.1)
      | inr t ↦ subst (λ (z : Bool). IsSound (chosen z)) (sym t.0) t.1
    ]

gives_sound : (role : Role) (text : List ℕ) → IsText role text → All IsSound (gives role text)
gives_sound roles.Plain [] h = absurd h
gives_sound roles.Head [] h = All-nil IsSound
gives_sound roles.Method [] h = All-cons IsSound items.SectionEnd [] tt (All-nil IsSound)
gives_sound role (b ∷ text) h = All-cons IsSound (item_of role (b ∷ text)) [] (item_sound role b text h) (All-nil IsSound)

pub reads_sound : (ended section : Bool) (bytes : List ℕ) (given : List Item) (rest : List ℕ) → Reads ended section bytes given rest → All IsSound given
reads_sound ended section bytes given rest (stop e n) = All-same IsSound given [] n (All-nil IsSound)
reads_sound ended section bytes given rest (take front after first others t w f m r) =
    let one = All-same IsSound first (gives t.role t.text) t.gave (gives_sound t.role t.text t.is_text) in
    All-same IsSound given (first ++ others) m (All-append IsSound first others one (reads_sound ended _ after others rest r))

-- the last item of those that were read
pub last_sound : (v : Held) (bytes : List ℕ) (given : List Item) (item : Option Item) → HasRead v bytes (given ++ option_to_list item) → IfSome item IsSound
last_sound v bytes given item h =
    (All-pop IsSound (given ++ option_to_list item) given item refl (reads_sound v.ended false bytes (given ++ option_to_list item) h.rest h.reads)).1
