mod Running
mod Halves
