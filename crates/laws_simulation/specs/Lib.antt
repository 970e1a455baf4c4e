pub mod Related
pub mod Laws
pub mod Follows
pub mod Activations
pub mod Expressions
pub mod Simulation
