-- The two sorts of text.
use Rattle.std.proofs.Common.{subst, [], ◌∷◌, Bool}
use Rattle.s80_syntax.specs.Lexeme.{Lexemes}
use Rattle.s80_syntax.specs.Grammar.{IsBody}
use Rattle.s80_syntax.specs.Faults.{IsMethodText, IsDoItText}
use Rattle.s80_syntax.specs.Stack.{method_start, doit_start}
use Rattle.s80_syntax.proofs.Means.{Derives}
use Rattle.s80_syntax.proofs.TakenTexts.{method_taken, doit_taken}
use Rattle.s80_syntax.proofs.Whole.{Stands}

derived_method : (strict : Bool) (ts : Lexemes) → Derives strict (method_start ∷ []) ts → IsMethodText strict ts
derived_method strict ts (rest, (s, ps, a, hp, (ns, n, ss, b, hh, hb, w)), e) =
    (record { selector = s; parameters = ps; temporaries = ns; primitive = n; body = ss }, (a, b, hp, hh, subst (IsBody ss b) e hb), w)

derived_doit : (strict : Bool) (ts : Lexemes) → Derives strict (doit_start ∷ []) ts → IsDoItText strict ts
derived_doit strict ts (rest, (ns, ss, a, ht, hb, w), e) = (record { temporaries = ns; body = ss }, (a, ht, subst (IsBody ss a) e hb), w)

pub methods : Stands IsMethodText method_start
methods = record { no_name = tt; derived = derived_method; taken = λ strict ts (m, h, w). method_taken strict m ts h w }

pub doits : Stands IsDoItText doit_start
doits = record { no_name = tt; derived = derived_doit; taken = λ strict ts (d, h, w). doit_taken strict d ts h w }
