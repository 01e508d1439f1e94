use Rattle.std.proofs.Common.{◌≡◌, ◌-◌, ◌==◌, ◌∷◌, ◌<◌, [], ℕ, List, arith, length, refl, slice_index_or, subst, if◌then◌else◌}
use Rattle.s80_print.specs.Outcome.{ended}
use Rattle.s80_print.proofs.outcome.is_ended.Goals as goal

-- whether a list is ended, by a byte of it
abbrev Tells : ℕ → List ℕ → ℕ → Type 0
Tells before bytes i = ended before bytes ≡ if slice_index_or bytes i 0 == 10 then [] else 10 ∷ []

last_tells : (before b : ℕ) (bytes : List ℕ) → Tells before (b ∷ bytes) (length bytes)
last_tells before b [] = refl
last_tells before b (c ∷ bytes) = last_tells b c bytes

ends_tell : (before : ℕ) (bytes : List ℕ) → 0 < length bytes → Tells before bytes (length bytes - 1)
ends_tell before [] some = elim some [ ]
ends_tell before (b ∷ bytes) some = subst (Tells before (b ∷ bytes)) (omega arith) (last_tells before b bytes)

pub returns-in-len1-up : goal.returns-in-len1-up
returns-in-len1-up c = ends_tell 10 c.args.bytes.now c.in-len1-up.len_at_least
