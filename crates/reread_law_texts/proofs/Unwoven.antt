-- Brackets that are taken out of a tree again. Lemmas.
pub mod Gone
pub mod Ascend
pub mod Kept
