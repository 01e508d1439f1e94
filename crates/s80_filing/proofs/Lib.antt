pub mod lemmas
mod FormsFit
mod FiledIn
mod DoItAsked
mod HeaderAsked
mod FileFiledIn
mod ClassesFiledIn
mod LogRead
mod LogFiledIn
mod SetFolds
