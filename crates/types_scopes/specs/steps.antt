pub mod Squeezed
