-- What the first items of an input ask, and a front of it.
use Rattle.std.proofs.Common.{◌≡◌, ◌⊎◌, inl, inr, ℕ, ◌≤◌, List, [], ◌∷◌, ◌++◌, length, refl, sym, ap, subst, ◌∙◌, Bool, false, true, arith}
use Rattle.s80_chunk.specs.declared.item.Item.{Item}
use Rattle.s80_chunk.specs.declared.item.Role.{Role}
use Rattle.s80_chunk.specs.declared.item.Role.TheVariants as roles
use Rattle.s80_chunk.specs.Chunks.{Reads, gives, section_after}
use Rattle.s80_chunk.specs.Chunks.Reads.{stop, take}
use Rattle.s80_model.specs.declared.item.SessionItem.{SessionItem}
use Rattle.s80_model.specs.declared.item.SessionItem.TheVariants.{Unended}
use Rattle.s80_model.specs.Asked.{Ask}
use Rattle.s80_model.specs.Replies.{Work, AllAsk, work_after}
use Rattle.s80_session.specs.Run.{chunks, FirstItemsOf, FirstAsksOf, AsksOf}
use Rattle.s80_session.specs.Working.{BeginsAsking}

-- ---- a front of what is read

-- a text gives one item, or none
gives_one : (role : Role) (text : List ℕ) → length (gives role text) ≤ 1
gives_one roles.Plain [] = omega arith
gives_one roles.Head [] = omega arith
gives_one roles.Method [] = omega arith
gives_one roles.Plain (b ∷ bs) = omega arith
gives_one roles.Head (b ∷ bs) = omega arith
gives_one roles.Method (b ∷ bs) = omega arith

reads_front : (ended section : Bool) (bytes : List ℕ) (given : List Item) (rest : List ℕ) (p q : List Item) → Reads ended section bytes given rest → given ≡ p ++ q → (left : List ℕ) × Reads ended section bytes p left
reads_front ended section bytes given rest [] q r is = (bytes, stop refl refl)
reads_front ended section bytes given rest (x ∷ p) q (stop e n) is = absurd (let none : [] ≡ x ∷ (p ++ q) = sym n ∙ is in cc)
reads_front ended section bytes given rest (x ∷ p) q (take front after [] others t w f m r) is =
    let left = reads_front ended section after others rest (x ∷ p) q r (sym m ∙ is) in
    (left.0, take front after [] (x ∷ p) t w f refl left.1)
reads_front ended section bytes given rest (x ∷ p) q (take front after (y ∷ []) others t w f m r) is =
    let same : y ∷ others ≡ x ∷ (p ++ q) = sym m ∙ is in
    let here : x ∷ p ≡ y ∷ p = cc in
    let left = reads_front ended (section_after section (y ∷ [])) after others rest p q r cc in
    (left.0, take front after (y ∷ []) p t w f here left.1)
reads_front ended section bytes given rest (x ∷ p) q (take front after (y ∷ z ∷ more) others t w f m r) is =
    let one : length (y ∷ z ∷ more) ≤ 1 = let P : List Item → Type 0 = λ l. length l ≤ 1 in subst P (sym t.gave) (gives_one t.role t.text) in
    absurd (omega (arith, one))

-- ---- a front of what is asked

asks_front : (work : Work) (items : List SessionItem) (asks more : List Ask) → AllAsk work items (asks ++ more) → (first others : List SessionItem) × (items ≡ first ++ others) × AllAsk work first asks
asks_front work items [] more all = ([], items, refl, tt)
asks_front work [] (ask ∷ asks) more all = absurd all
asks_front work (item ∷ items) (ask ∷ asks) more all =
    let front = asks_front (work_after work ask) items asks more all.1 in
    (item ∷ front.0, front.1, ap (λ l. item ∷ l) front.2, (all.0, front.3))

chunks_front : (given : List Item) (first others : List SessionItem) → chunks given ≡ first ++ others → (p q : List Item) × (given ≡ p ++ q) × (first ≡ chunks p)
chunks_front given [] others is = ([], given, refl, refl)
chunks_front [] (x ∷ first) others is = absurd cc
chunks_front (item ∷ given) (x ∷ first) others is =
    let front = chunks_front given first others cc in
    let rest : first ≡ chunks front.0 = front.3 in
    (item ∷ front.0, front.1, ap (λ l. item ∷ l) front.2, cc)

-- of a list and one more, it is whole, or a front of the list
whole_or_front : (items : List SessionItem) (last : SessionItem) (first others : List SessionItem) → items ++ last ∷ [] ≡ first ++ others → (first ≡ items ++ last ∷ []) ⊎ ((more : List SessionItem) × (items ≡ first ++ more))
whole_or_front items last [] others is = inr (items, refl)
whole_or_front [] last (x ∷ []) others is = inl cc
whole_or_front [] last (x ∷ y ∷ first) others is = absurd cc
whole_or_front (item ∷ items) last (x ∷ first) others is = by_rest (whole_or_front items last first others cc)
  where
    by_rest : (first ≡ items ++ last ∷ []) ⊎ ((more : List SessionItem) × (items ≡ first ++ more)) → (x ∷ first ≡ (item ∷ items) ++ last ∷ []) ⊎ ((more : List SessionItem) × (item ∷ items ≡ (x ∷ first) ++ more))
    by_rest (inl whole) = inl cc
    by_rest (inr (more, front)) = inr (more, cc)

pub begins_front : (work : Work) (ended : Bool) (bytes : List ℕ) (asks more : List Ask) → BeginsAsking work ended bytes (asks ++ more) → BeginsAsking work ended bytes asks
begins_front work ended bytes asks more (given, had, all) =
    let front = asks_front work (chunks given) asks more all in
    let items = chunks_front given front.0 front.1 front.2 in
    let P : List SessionItem → Type 0 = λ l. AllAsk work l asks in
    (items.0, reads_front ended false bytes given had.0 items.0 items.1 had.1 items.2, subst P items.3 front.3)

items_front : (input : List ℕ) (items first others : List SessionItem) → FirstItemsOf input items → items ≡ first ++ others → FirstItemsOf input first
items_front input items first others (inl (given, rest, reads, is)) cut =
    let front = chunks_front given first others (sym is ∙ cut) in
    let left = reads_front true false input given rest front.0 front.1 reads front.2 in
    inl (front.0, left.0, left.1, front.3)
items_front input items first others (inr (given, rest, reading, inl (blank, is))) cut =
    let front = chunks_front given first others (sym is ∙ cut) in
    let left = reads_front true false input given rest front.0 front.1 reading.reads front.2 in
    inl (front.0, left.0, left.1, front.3)
items_front input items first others (inr (given, rest, reading, inr (not, is))) cut = by_last (whole_or_front (chunks given) Unended first others (sym is ∙ cut))
  where
    by_last : (first ≡ chunks given ++ Unended ∷ []) ⊎ ((more : List SessionItem) × (chunks given ≡ first ++ more)) → FirstItemsOf input first
    by_last (inl whole) = inr (given, rest, reading, inr (not, whole))
    by_last (inr (more, same)) =
        let front = chunks_front given first more same in
        let left = reads_front true false input given rest front.0 front.1 reading.reads front.2 in
        inl (front.0, left.0, left.1, front.3)

pub first_front : (work : Work) (input : List ℕ) (asks more : List Ask) → FirstAsksOf work input (asks ++ more) → FirstAsksOf work input asks
first_front work input asks more (items, first, all) =
    let front = asks_front work items asks more all in
    (front.0, items_front input items front.0 front.1 first front.2, front.3)

pub first_of_all : (work : Work) (input : List ℕ) (asks : List Ask) → AsksOf work input asks → FirstAsksOf work input asks
first_of_all work input asks (items, all, asked) = (items, inr all, asked)
