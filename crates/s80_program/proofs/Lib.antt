mod Asked
mod Asking
mod Separators
mod Again
mod Fronts
mod Beginning
mod Ends
