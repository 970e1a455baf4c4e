-- Where the rows of the table may stand in a text.
pub mod Fitting
pub mod Laws
