pub mod Gathers
mod Operands
mod Places
mod Statements
mod Steps
