-- Two readings of one input agree, and a reading goes on where another stops.
use Rattle.std.proofs.Common.{◌≡◌, ℕ, Bool, true, false, List, [], ◌∷◌, ◌++◌, refl, sym, ap, ◌∙◌, subst, append_assoc}
use Rattle.std.proofs.lemmas.List.{append-nil}
use Rattle.std.proofs.lemmas.Bool.{true≢false}
use Rattle.s80_chunk.specs.declared.item.Item.{Item}
use Rattle.s80_chunk.specs.Chunks.{mark, spell, chunk, gives, Takes, IsEnd, opens, section_after, Reads, HoldsNone, IsReading, IsNoMark}
use Rattle.s80_chunk.specs.Chunks.Reads.{stop, take}
use Rattle.s80_chunk.proofs.lemmas.Spelling.{end_not_mark, chunk_unique, solid_chunk, lead_unique}

-- an entry and what follows it, as a lead and then the rest of it
pub entry_regrouped : (lead text after : List ℕ) → (lead ++ chunk text) ++ after ≡ lead ++ (spell text ++ mark ∷ after)
entry_regrouped lead text after = append_assoc lead (chunk text) after ∙ ap (λ (z : List ℕ). lead ++ z) (append_assoc (spell text) (mark ∷ []) after)

-- Two entries at the front of one input are one.
pub takes_unique : (section : Bool) (a b x y : List ℕ) (p q : List Item) → Takes section a p → Takes section b q → IsNoMark x → IsNoMark y → a ++ x ≡ b ++ y → (p ≡ q) × (x ≡ y)
takes_unique section a b x y p q s t nx ny e =
    let left : a ++ x ≡ s.lead ++ (spell s.text ++ mark ∷ x) = ap (λ (z : List ℕ). z ++ x) s.spelled ∙ entry_regrouped s.lead s.text x in
    let right : b ++ y ≡ t.lead ++ (spell t.text ++ mark ∷ y) = ap (λ (z : List ℕ). z ++ y) t.spelled ∙ entry_regrouped t.lead t.text y in
    let u = lead_unique s.role t.role s.lead t.lead (spell s.text ++ mark ∷ x) (spell t.text ++ mark ∷ y) (s.place ∙ sym t.place) s.leads t.leads (solid_chunk s.role s.text x s.is_text) (solid_chunk t.role t.text y t.is_text) (sym left ∙ e ∙ right) in
    let v = chunk_unique s.text t.text x y nx ny u.1 in
    let same : gives s.role s.text ≡ gives t.role t.text = let role_is = u.0 in let text_is = v.0 in cc in
    (s.gave ∙ same ∙ sym t.gave, v.1)

pub section_append : (section : Bool) (p q : List Item) → section_after section (p ++ q) ≡ section_after (section_after section p) q
section_append section [] q = refl
section_append section (i ∷ p) q = section_append (opens i) p q

pub reads_unique : (ended section : Bool) (bytes : List ℕ) (p q : List Item) (rest other : List ℕ) → Reads ended section bytes p rest → HoldsNone ended (section_after section p) rest → Reads ended section bytes q other → HoldsNone ended (section_after section q) other → (p ≡ q) × (rest ≡ other)
reads_unique ended section bytes p q rest other (stop e n) h (stop f m) k = (n ∙ sym m, sym e ∙ f)
reads_unique ended section bytes p q rest other (stop e n) h (take front after first others t w f m r) k =
    let h2 = subst (λ (z : List Item). HoldsNone ended (section_after section z) rest) n h in
    absurd (h2 front after first t w (sym e ∙ f))
reads_unique ended section bytes p q rest other (take front after first others t w f m r) h (stop e n) k =
    let k2 = subst (λ (z : List Item). HoldsNone ended (section_after section z) other) n k in
    absurd (k2 front after first t w (sym e ∙ f))
reads_unique ended section bytes p q rest other (take front after first others t w f m r) h (take front' after' first' others' t' w' f' m' r') k =
    let u = takes_unique section front front' after after' first first' t t' (end_not_mark ended after w) (end_not_mark ended after' w') (sym f ∙ f') in
    let h2 = subst (λ (z : List Item). HoldsNone ended (section_after section z) rest) m h in
    let k2 = subst (λ (z : List Item). HoldsNone ended (section_after section z) other) m' k in
    let h3 = subst (λ (b : Bool). HoldsNone ended b rest) (section_append section first others) h2 in
    let k3 = subst (λ (b : Bool). HoldsNone ended b other) (section_append section first' others') k2 in
    let r2 = subst (λ (z : List Item). Reads ended (section_after section z) after' others' other) (sym u.0) r' in
    let k4 = subst (λ (z : List Item). HoldsNone ended (section_after (section_after section z) others') other) (sym u.0) k3 in
    let r3 = subst (λ (z : List ℕ). Reads ended (section_after section first) z others' other) (sym u.1) r2 in
    let v = reads_unique ended (section_after section first) after others others' rest other r h3 r3 k4 in
    (m ∙ ap (λ (z : List Item). z ++ others) u.0 ∙ ap (λ (z : List Item). first' ++ z) v.0 ∙ sym m', v.1)

-- An input has one reading.
pub one_reading : (bytes : List ℕ) (p q : List Item) (rest other : List ℕ) → IsReading bytes p rest → IsReading bytes q other → (p ≡ q) × (rest ≡ other)
one_reading bytes p q rest other a b = reads_unique true false bytes p q rest other a.reads a.stops b.reads b.stops

-- ---- a reading that goes on

pub reads_then : (ended section : Bool) (bytes : List ℕ) (p q : List Item) (middle rest : List ℕ) → Reads ended section bytes p middle → Reads ended (section_after section p) middle q rest → Reads ended section bytes (p ++ q) rest
reads_then ended section bytes p q middle rest (stop e n) r =
    let r2 = subst (λ (z : List Item). Reads ended (section_after section z) middle q rest) n r in
    let r3 = subst (λ (z : List ℕ). Reads ended section z q rest) (sym e) r2 in
    subst (λ (z : List Item). Reads ended section bytes (z ++ q) rest) (sym n) r3
reads_then ended section bytes p q middle rest (take front after first others t w f m s) r =
    let r2 = subst (λ (z : List Item). Reads ended (section_after section z) middle q rest) m r in
    let r3 = subst (λ (b : Bool). Reads ended b middle q rest) (section_append section first others) r2 in
    let whole = reads_then ended (section_after section first) after others q middle rest s r3 in
    take front after first (others ++ q) t w f (ap (λ (z : List Item). z ++ q) m ∙ append_assoc first others q) whole

-- one entry more
pub reads_one : (ended section : Bool) (front after : List ℕ) (first : List Item) → Takes section front first → IsEnd ended after → Reads ended section (front ++ after) first after
reads_one ended section front after first t w = take front after first [] t w refl (sym (append-nil first)) (stop refl refl)

end_more : (after more : List ℕ) → IsEnd false after → IsEnd false (after ++ more)
end_more [] more w = absurd (true≢false (sym w))
end_more (b ∷ after) more w = w

pub reads_more : (section : Bool) (bytes more : List ℕ) (p : List Item) (rest : List ℕ) → Reads false section bytes p rest → Reads false section (bytes ++ more) p (rest ++ more)
reads_more section bytes more p rest (stop e n) = stop (ap (λ (z : List ℕ). z ++ more) e) n
reads_more section bytes more p rest (take front after first others t w f m r) =
    take front (after ++ more) first others t (end_more after more w) (ap (λ (z : List ℕ). z ++ more) f ∙ append_assoc front after more) m (reads_more (section_after section first) after more others rest r)

end_ended : (after : List ℕ) → IsEnd false after → IsEnd true after
end_ended [] w = refl
end_ended (b ∷ after) w = w

pub reads_ended : (section : Bool) (bytes : List ℕ) (p : List Item) (rest : List ℕ) → Reads false section bytes p rest → Reads true section bytes p rest
reads_ended section bytes p rest (stop e n) = stop e n
reads_ended section bytes p rest (take front after first others t w f m r) =
    take front after first others t (end_ended after w) f m (reads_ended (section_after section first) after others rest r)
