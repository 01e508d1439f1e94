-- The number on top at a 200 is that of a block's arguments, which are few.
use Rattle.std.proofs.Common.{◌≡◌, ◌∙◌, sym, refl, ℕ, ◌<◌, ◌≤◌, ◌^◌, pos, List, ◌∷◌, arith}
use Rattle.s80_class.specs.Table.{Table}
use Rattle.s80_code.specs.declared.code.Code.{Code}
use Rattle.s80_code.specs.declared.instruction.Instruction.{Instruction}
use Rattle.s80_code.specs.declared.instruction.Instruction.TheVariants.{Push, PushFixed, SendSpecial}
use Rattle.s80_code.specs.declared.instruction.Storage.TheVariants.{Constant}
use Rattle.s80_code.specs.Special.{block_copy}
use Rattle.s80_code.specs.Table.{Stands}
use Rattle.s80_dict.specs.Table.{MethodsValue}
use Rattle.s80_dict.specs.declared.dict.MethodEntry.{MethodEntry}
use Rattle.s80_object.specs.declared.value.Value.{Value}
use Rattle.s80_object.specs.declared.value.Value.TheVariants.{Small}
use Rattle.s80_verify.specs.Reach.{Counts}
use Rattle.s80_machine.specs.World.{World}
use Rattle.s80_machine.specs.Turn.{Context}
use Rattle.s80_machine.specs.Sound.{HasCount, IsSoundContext, IsSoundWorld}
use Rattle.s80_machine.proofs.SoundEnds.{AllWait}
use Rattle.s80_machine.proofs.SoundMoves.{fits}

one_count : (m n : ℕ) (stack : List Value) → HasCount m stack → HasCount n stack → m ≡ n
one_count m n (Small (pos k) ∷ stack) h g = sym h ∙ g
one_count m n _ h g = absurd h

at_most_31 : (code : Code) (i : Instruction) (n : ℕ) → Counts code i n → n ≤ 31
at_most_31 code (PushFixed number) n h = omega (arith, h.1)
at_most_31 code (Push (Constant number)) n h = h.1
at_most_31 code _ n h = absurd h

pub few_counted : (t : Table) (methods : MethodsValue (MethodEntry Code)) (code : Code) (c : Context) (rest : List Context) (w : World) → IsSoundWorld t methods code w
    → (context : IsSoundContext t methods code w 0 c) → AllWait t methods code w rest → (next : ℕ) → Stands context.of.bytes c.place (SendSpecial block_copy) next → (n : ℕ) → HasCount n c.stack → n < 2 ^ 8
few_counted t methods code c rest w sound context wait next s n counts =
    let b = (fits t methods code c rest w sound context wait (SendSpecial block_copy) next s).suits refl in
    let few = at_most_31 context.of b.2.count b.0 b.2.counted in
    omega (arith, few, one_count b.0 n c.stack (context.counted b.0 b.1 b.2).1 counts)
