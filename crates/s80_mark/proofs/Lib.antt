mod Bytes
mod Writes
mod Images
mod First
mod Marks
mod Steps
mod OneAnswer
mod Spelling
