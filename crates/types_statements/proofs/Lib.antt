pub mod Lists
pub mod StatementNodes
pub mod Items
pub mod InitializerNodes
pub mod Folds
pub mod ItemParts
