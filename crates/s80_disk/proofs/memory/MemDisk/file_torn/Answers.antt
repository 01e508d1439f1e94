use Rattle.std.proofs.Common.{◌≡◌, ◌+◌, ◌-◌, ℕ, List, length, take, drop, get_or, sym, ap, subst, arith, length-take, length-drop}
use Rattle.std.proofs.lemmas.List.{take_all}
use Rattle.s80_disk.specs.declared.recorded.Recorded.{Recorded}
use Rattle.s80_disk.specs.Crash.{Tears}
use Rattle.s80_disk.specs.History.{history}
use Rattle.s80_disk.specs.Memory.{first_files, events_until}
use Rattle.s80_disk.proofs.Spread.{Stands, stands_first, stands_more}
use Rattle.s80_disk.proofs.memory.MemDisk.file_torn.Goals as goal

pub loop-call-init : goal.loop-call-init
loop-call-init c =
    let s = c.args.self.now in
    let n = c.calls_synced-synced.result in
    let synced = c.calls_synced-synced.ensures in
    let none : n ≡ n + 0 = omega arith in
    let stands = stands_first (first_files s) s.pieces.items c.args.file c.args.choice s.calls.items n synced.within synced.last in
    record {
      stands = subst (λ (k : ℕ). Stands (first_files s) (events_until s k) c.args.file c.args.choice c.in_ok-bytes.bytes.items) none (subst (Stands (first_files s) (events_until s n) c.args.file c.args.choice) (sym c.in_ok-bytes.ensures.bytes) stands);
      fits = c.in_ok-bytes.ensures.fits;
      room = c.in_ok-bytes.ensures.room;
    }

pub loop-call-preserved : goal.loop-call-preserved
loop-call-preserved c =
    let s = c.args.self.now in
    let n = c.calls_synced-synced.result in
    let i = c.loop-call.call-index in
    let synced = c.calls_synced-synced.ensures in
    let value = c.deref.ensures.value in
    let rest : List Recorded → List Recorded = λ l. take (length l - n) (drop n l) in
    let torn = subst (λ (l : List Recorded). Tears c.args.choice c.args.file (get_or (rest l) i _) c.loop-call.bytes.items c.tear.new.bytes.items) value c.tear.ensures.torn in
    record {
      stands = stands_more (first_files s) s.pieces.items c.args.file c.args.choice s.calls.items n synced.within synced.last s.room i _ c.loop-call.bytes.items c.tear.new.bytes.items s.within (omega (arith, ap (λ (l : List Recorded). length (rest l)) value, c.loop-call-test.true)) torn c.loop-call.invariant.stands;
      fits = c.tear.ensures.fits;
      room = c.tear.ensures.room;
    }

pub returns : goal.returns
returns c =
    let s = c.args.self.now in
    let n = c.calls_synced-synced.result in
    let i = c.loop-call.call-index in
    let rest : List Recorded → List Recorded = λ l. take (length l - n) (drop n l) in
    let value = ap (λ (l : List Recorded). length (rest l)) c.deref.ensures.value in
    let whole : take (n + i) s.calls.items ≡ s.calls.items = take_all (n + i) s.calls.items (omega (arith, value, c.loop-call-test.false, length-take (length s.calls.items - n) (drop n s.calls.items), length-drop n s.calls.items)) in
    let stands = subst (λ (l : List Recorded). Stands (first_files s) (history s.pieces.items l) c.args.file c.args.choice c.loop-call.bytes.items) whole c.loop-call.invariant.stands in
    record { held = stands.held; spread = stands.spread; fits = c.loop-call.invariant.fits; room = c.loop-call.invariant.room }
