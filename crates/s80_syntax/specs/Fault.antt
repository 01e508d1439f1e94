-- Faults of tokens are faults of syntax.
use Rattle.s80_lex.specs.declared.fault.LexFault.{LexFault}
use Rattle.s80_lex.specs.declared.fault.LexFault.TheVariants as lex
use Rattle.s80_syntax.specs.declared.fault.ParseFault.{ParseFault}
use Rattle.s80_syntax.specs.declared.fault.ParseFault.TheVariants as parse

abbrev pub of_lex : LexFault → ParseFault
of_lex lex.Memory = parse.Memory
of_lex (lex.Unended at) = parse.Unended at
of_lex (lex.BadByte at) = parse.BadByte at
of_lex (lex.BadNumber at) = parse.BadNumber at
