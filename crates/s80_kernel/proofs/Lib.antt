mod Named
mod MethodTests
mod MethodFacts
