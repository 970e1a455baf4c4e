-- The brackets that the table inserts.
pub mod Laws
