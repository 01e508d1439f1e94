mod OneList
mod Files
mod Staying
mod Appending
mod Beginning
mod Committing
mod Reading
