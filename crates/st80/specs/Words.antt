-- The words that the program was started with.
use Rattle.std.specs.declared.io.ErrorKind.{ErrorKind}
use Rattle.std.specs.declared.io.ErrorKind.TheVariants.{OutOfMemory}
use Rattle.s80_program.specs.declared.status.Status.{Status}
use Rattle.s80_program.specs.declared.status.Status.TheVariants as status

-- how the program ends where the system gives no words: a word that is no text is bad usage
abbrev pub without_words : ErrorKind → Status
without_words OutOfMemory = status.OutOfMemory
without_words _ = status.Usage
