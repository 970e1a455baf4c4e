pub mod Order
pub mod Trees
