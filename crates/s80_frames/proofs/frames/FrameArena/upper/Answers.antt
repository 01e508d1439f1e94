use Rattle.std.proofs.Common.{◌≡◌, ◌∙◌, ◌≤◌, ◌<◌, ◌*◌, ◌+◌, ◌^◌, ℕ, List, length, arith, refl, sym, ap}
use Rattle.s80_frames.specs.Frames.{ArenaValue, frames_of, upper}
use Rattle.s80_frames.specs.Lending.{with_written}
use Rattle.s80_frames.proofs.FrameLemmas.{length-frames_of, lent_are, lent_long, written_is}
use Rattle.s80_frames.proofs.frames.FrameArena.upper.Goals as goal

-- what the fields of an arena show
module _ {X : Type 0} (n k spare : ℕ) (blank : X) (items : List X) (now : ArenaValue X) (shows : record { frames = frames_of n items; spare = spare; blank = blank } ≡ now)
    (whole : length items ≡ (n + spare) * 38) (asked : k ≤ length now.frames) where
  few : k ≤ n
  few = let e : length now.frames ≡ n = ap (λ (v : ArenaValue X). length v.frames) (sym shows) ∙ length-frames_of n items in omega arith

  long : n * 38 ≤ length items
  long = omega arith

pub overflow_mul-k : goal.overflow_mul-k
overflow_mul-k g c =
    let a = c.self.inside in let le : c.args.k ≤ a.frames = few a.frames c.args.k a.spare a.blank a.words.items c.args.self.now c.self.view_is c.self.invariant.0 c.requires in
    let small : (a.frames + a.spare) * 38 < 2 ^ 64 = c.self.invariant.3 in record { fits = omega arith }

pub overflow_sub-end : goal.overflow_sub-end
overflow_sub-end g c =
    let a = c.self.inside in let le : c.args.k ≤ a.frames = few a.frames c.args.k a.spare a.blank a.words.items c.args.self.now c.self.view_is c.self.invariant.0 c.requires in
    omega arith

pub returns : goal.returns
returns g c =
    let a = c.self.inside in let n = a.frames in let k = c.args.k in let xs = a.words.items in
    let le = few n k a.spare a.blank xs c.args.self.now c.self.view_is c.self.invariant.0 c.requires in
    let lots = long n k a.spare a.blank xs c.args.self.now c.self.view_is c.self.invariant.0 c.requires in (
      (refl, λ w. ap (λ fs. let v : ArenaValue _ = record { frames = fs; spare = a.spare; blank = a.blank } in v) (written_is n k xs le lots w) ∙ ap (λ (v : ArenaValue _). with_written v k w) c.self.view_is),
      record {
        writes_back = tt;
        frames = ap (frames_of k) c.run_mut.ensures.value ∙ lent_are n k xs le lots ∙ ap (λ (v : ArenaValue _). upper k v.frames) c.self.view_is;
        words = ap length c.run_mut.ensures.value ∙ lent_long n k xs le lots;
      },
    )
