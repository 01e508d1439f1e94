mod ApplyLemmas
mod ArithmeticLemmas
mod ClassesNumbered
mod KernelNumbers
mod ClassesBodies
mod PrintFront
mod PrintBodies
mod KeptKnown
