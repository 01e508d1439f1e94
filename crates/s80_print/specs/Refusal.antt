-- The printed texts of refusals.
use Rattle.std.specs.Prelude.{ℕ, List, ◌++◌, codes, decimal}
use Rattle.s80_base.specs.declared.names.Side.{Side}
use Rattle.s80_base.specs.declared.names.Side.TheVariants.{Instance, Class}
use Rattle.s80_form.specs.declared.refusal.SyntaxKind.{SyntaxKind}
use Rattle.s80_form.specs.declared.refusal.SyntaxKind.TheVariants.{UnendedToken, BadByte, BadNumber, Unexpected, NotAssignable, Nested}
use Rattle.s80_form.specs.declared.refusal.FitWord.{FitWord}
use Rattle.s80_form.specs.declared.refusal.FitWord.TheVariants.{Chunk, Literals, Temporaries, Stack, Weight}
use Rattle.s80_form.specs.declared.refusal.ManyKind.{ManyKind}
use Rattle.s80_form.specs.declared.refusal.ManyKind.TheVariants.{Classes, InstanceVariables, ClassVariables, ClassSideVariables, Pools, Methods, BitsVariables}
use Rattle.s80_form.specs.declared.refusal.Refusal.{Refusal}
use Rattle.s80_form.specs.declared.refusal.Refusal.TheVariants as refusals

abbrev pub syntax_word : SyntaxKind → List ℕ
syntax_word UnendedToken = codes "unended-token"
syntax_word BadByte = codes "bad-byte"
syntax_word BadNumber = codes "bad-number"
syntax_word Unexpected = codes "unexpected"
syntax_word NotAssignable = codes "not-assignable"
syntax_word Nested = codes "nested"

abbrev pub fit_word : FitWord → List ℕ
fit_word Chunk = codes "chunk"
fit_word Literals = codes "literals"
fit_word Temporaries = codes "temporaries"
fit_word Stack = codes "stack"
fit_word Weight = codes "weight"

abbrev pub many_word : ManyKind → List ℕ
many_word Classes = codes "classes"
many_word InstanceVariables = codes "instance variables"
many_word ClassVariables = codes "class variables"
many_word ClassSideVariables = codes "class-side variables"
many_word Pools = codes "pools"
many_word Methods = codes "methods"
many_word BitsVariables = codes "bits variables"

-- a class, or its class side
abbrev pub spec_of : List ℕ → Side → List ℕ
spec_of name Instance = name
spec_of name Class = name ++ codes " class"

abbrev pub refusal_text : Refusal → List ℕ
refusal_text refusals.Unended = codes "refused 1 unended"
refusal_text (refusals.Syntax kind place) = codes "refused 2 " ++ syntax_word kind ++ codes " at " ++ decimal place
refusal_text (refusals.TooLarge kind count) = codes "refused 3 too large " ++ fit_word kind ++ codes " " ++ decimal count
refusal_text (refusals.UnknownClass name) = codes "refused 4 unknown class " ++ name
refusal_text (refusals.KernelClass name) = codes "refused 5 kernel class " ++ name
refusal_text (refusals.HasSubclasses name) = codes "refused 6 has subclasses " ++ name
refusal_text (refusals.Cycle name) = codes "refused 7 cycle " ++ name
refusal_text (refusals.Duplicate name) = codes "refused 8 duplicate " ++ name
refusal_text (refusals.BadName name) = codes "refused 9 bad name " ++ name
refusal_text (refusals.NoSelector name side selector) = codes "refused 10 no selector " ++ spec_of name side ++ codes " " ++ selector
refusal_text (refusals.TooMany kind count) = codes "refused 11 too many " ++ many_word kind ++ codes " " ++ decimal count
refusal_text (refusals.LogFull count) = codes "refused 12 log full " ++ decimal count
refusal_text (refusals.NoSection text) = codes "refused 13 no section " ++ text
