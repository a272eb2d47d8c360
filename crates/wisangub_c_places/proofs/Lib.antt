mod Heap
mod Places
mod Values
