pub mod lemmas
mod Listed
pub mod Elements
pub mod Keyed
pub mod Leading
pub mod Cells
pub mod KernelCells
pub mod KernelPart
pub mod OwnRows
pub mod OwnClass
pub mod OwnPart
pub mod Accepting
pub mod Held
pub mod ManyCells
pub mod MethodsPart
pub mod OfMethod
pub mod Condensing
pub mod SetBegun
pub mod Putting
pub mod KeptVersions
pub mod KeptOnce
pub mod Brief
pub mod LawfulList
pub mod SoundParts
pub mod KeptCategories
pub mod KeptSound
pub mod FoldsBack
pub mod FileRead
pub mod FiledTexts
pub mod HeaderRead
mod Grouped
mod Pieces
mod Looked
mod Depths
mod Owned
mod Categories
mod Made
mod FiledOn
mod OneMoment
mod Systems
mod ClassesMade
