-- Pieces of code: single instructions, and pops into parameters.
use Rattle.std.proofs.Common.{◌≡◌, ℕ, suc, ◌+◌, List, [], ◌∷◌, ◌++◌, Bool, true, length, Option, None, refl, sym, ap, subst, arith, length-append, ◌≤◌, Some, false}
use Rattle.std.specs.Option.{option_map_or}
use Rattle.std.specs.Prelude.{pos, nat_le, if◌then◌else◌}
use Rattle.std.proofs.lemmas.List.{append-nil}
use Rattle.s80_base.specs.Literal.{LiteralTree, symbol, small}
use Rattle.s80_code.specs.Entries as frame
use Rattle.s80_code.specs.Entries.{EntryTree}
use Rattle.s80_code.specs.declared.instruction.Storage.TheVariants.{Temporary, Constant}
use Rattle.s80_code.specs.declared.instruction.Instruction.{Instruction}
use Rattle.s80_code.specs.declared.instruction.Instruction.TheVariants.{Push, PopInto}
use Rattle.s80_core.specs.Core.{constant}
use Rattle.s80_core.specs.Measures.{fixed_number, count_width, sent_number, constant_entries, selector_entries}
use Rattle.s80_compile.specs.Rows.{Pushes, PushesConstant, SendsBy, SendsTo, Takes, send_of}
use Rattle.s80_compile.specs.Compiles.{AreFirsts}
use Rattle.s80_compile.specs.Emitted.{Adds, AddsTakes, Emitted, Finds, OneRow, constant_width}
use Rattle.s80_compile.proofs.Moves.{sits_all, sits_more, sits_last}
use Rattle.s80_compile.proofs.Parts.{behind_two, told, stands_moved, moved, takes_move}

-- one instruction with the entry that it names
pub named : (Is : List EntryTree → Instruction → Type 0) (e : EntryTree) (w : List EntryTree) (most : ℕ) (f g : List EntryTree) (n : ℕ) (i : Instruction) (c d : List ℕ)
    → w ≡ e ∷ [] → Finds e f g n → Is g i → Adds i most c d → Emitted (OneRow Is) w most f g c d
named Is e w most f g n i c d wanted found is a =
    record {
      part = a.part;
      added = found.added;
      is_code = a.is;
      is_frame = found.is;
      firsts = subst (λ (x : List EntryTree). AreFirsts f x found.added) (sym wanted) found.firsts;
      stands = record { instruction = i; is = is; stands = a.stands };
      short = a.short;
    }

pub constant_named : (v : LiteralTree) (f g : List EntryTree) (n : ℕ) (c d : List ℕ) → None ≡ fixed_number v → Finds (frame.constant v) f g n → Adds (Push (Constant n)) 2 c d
    → Emitted (OneRow (λ entries i. Pushes entries (constant v) i)) (constant_entries v) (constant_width v) f g c d
constant_named v f g n c d none found a =
    subst (λ (m : ℕ). Emitted (OneRow (λ entries i. Pushes entries (constant v) i)) (constant_entries v) m f g c d) (ap (λ o. option_map_or (λ n. 1) o 2) none)
    (named (λ entries i. Pushes entries (constant v) i) (frame.constant v) (constant_entries v) 2 f g n (Push (Constant n)) c d
    (ap (λ o. option_map_or (λ n. []) o (frame.constant v ∷ [])) (sym none)) found
    (subst (λ (o : Option ℕ). PushesConstant g v o (Push (Constant n))) none (n, refl, found.here)) a)

width_low : (o : Option ℕ) → option_map_or (λ n. 1) o 2 ≤ 2
width_low None = omega arith
width_low (Some n) = omega arith

-- a constant takes two bytes at most
pub constant_short : (v : LiteralTree) (f g : List EntryTree) (c d : List ℕ) → Emitted (OneRow (λ entries i. Pushes entries (constant v) i)) (constant_entries v) (constant_width v) f g c d
    → Emitted (OneRow (λ entries i. Pushes entries (constant v) i)) (constant_entries v) 2 f g c d
constant_short v f g c d a =
    told (OneRow (λ entries i. Pushes entries (constant v) i)) (constant_entries v) (constant_entries v) (constant_width v) 2 f g c d refl (width_low (fixed_number v)) a

width_by : (b : Bool) (n : ℕ) → ◌≡◌ {A = ℕ} (option_map_or (λ k. 1) (if b then Some (5 + n) else None) 2) (if b then 1 else 2)
width_by true n = refl
width_by false n = refl

-- and the number of a block's parameters as many as are counted for it
pub count_is : (n : ℕ) → constant_width (small (pos n)) ≡ count_width n
count_is n = width_by (nat_le n 2) n

pub selector_named : (to_super : Bool) (s : List ℕ) (arguments : ℕ) (f g : List EntryTree) (n : ℕ) (c d : List ℕ) → None ≡ sent_number to_super s → Finds (frame.constant (symbol s)) f g n
    → Adds (send_of to_super arguments n) 3 c d → Emitted (OneRow (λ entries i. SendsTo entries to_super s arguments i)) (selector_entries to_super s) 3 f g c d
selector_named to_super s arguments f g n c d none found a =
    named (λ entries i. SendsTo entries to_super s arguments i) (frame.constant (symbol s)) (selector_entries to_super s) 3 f g n (send_of to_super arguments n) c d
    (ap (λ o. option_map_or (λ n. []) o (frame.constant (symbol s) ∷ [])) (sym none)) found
    (subst (λ (o : Option ℕ). SendsBy g to_super s arguments o (send_of to_super arguments n)) none (n, refl, found.here)) a

pub super_named : (to_super : Bool) (s : List ℕ) (arguments : ℕ) (f g : List EntryTree) (n : ℕ) (c d : List ℕ) → to_super ≡ true → Finds (frame.constant (symbol s)) f g n
    → Adds (send_of true arguments n) 3 c d → Emitted (OneRow (λ entries i. SendsTo entries to_super s arguments i)) (selector_entries to_super s) 3 f g c d
super_named to_super s arguments f g n c d yes_super found a =
    subst (λ (b : Bool). Emitted (OneRow (λ entries i. SendsTo entries b s arguments i)) (selector_entries b s) 3 f g c d) (sym yes_super) (selector_named true s arguments f g n c d refl found a)

pub plain_named : (to_super : Bool) (s : List ℕ) (arguments : ℕ) (f g : List EntryTree) (n : ℕ) (c d : List ℕ) → to_super ≡ false → None ≡ sent_number false s → Finds (frame.constant (symbol s)) f g n
    → Adds (send_of false arguments n) 3 c d → Emitted (OneRow (λ entries i. SendsTo entries to_super s arguments i)) (selector_entries to_super s) 3 f g c d
plain_named to_super s arguments f g n c d no_super none found a =
    subst (λ (b : Bool). Emitted (OneRow (λ entries i. SendsTo entries b s arguments i)) (selector_entries b s) 3 f g c d) (sym no_super) (selector_named false s arguments f g n c d none found a)

-- ---- parameters

pub takes_begun : (first : ℕ) (c : List ℕ) → AddsTakes first 0 c c
takes_begun first c = record { part = []; is = sym (append-nil c); stands = refl; short = omega arith }

pub takes_next : (later first k : ℕ) (old now new : List ℕ) → later ≡ suc first → AddsTakes later k old now → Adds (PopInto (Temporary first)) 2 now new → AddsTakes first (k + 1) old new
takes_next later first k old now new next t a =
    let lengths = length-append t.part a.part in
    let one_more : suc k ≡ k + 1 = omega arith in
    subst (λ (n : ℕ). AddsTakes first n old new) one_more
    (record {
      part = t.part ++ a.part;
      is = behind_two old t.part a.part now new t.is a.is;
      stands = record {
        mid = length t.part;
        first = moved (λ bytes entries p q. Takes bytes (suc first) k p q) t.part (t.part ++ a.part) 0 [] [] [] 0 (length t.part) (takes_move (suc first) k) (sits_more t.part t.part a.part 0 (sits_all t.part)) refl refl (omega arith)
            (subst (λ (n : ℕ). Takes t.part n k 0 (length t.part)) next t.stands);
        second = stands_moved (PopInto (Temporary first)) a.part (t.part ++ a.part) (length t.part) (length t.part) (length (t.part ++ a.part)) (sits_last t.part a.part) refl lengths a.stands;
      };
      short = omega (arith, lengths, t.short, a.short);
    })

pub takes_all : (later first k n : ℕ) (old new : List ℕ) → later ≡ first → k ≡ n → AddsTakes later k old new → AddsTakes first n old new
takes_all later first k n old new same count t = subst (λ (m : ℕ). AddsTakes first m old new) count (subst (λ (m : ℕ). AddsTakes m k old new) same t)
