mod Put
mod Counted
mod Converted
mod Stood
mod Short
