mod Walking
mod Asking
mod Leaving
mod Numbering
