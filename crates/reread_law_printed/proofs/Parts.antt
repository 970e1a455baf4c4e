-- The text of a program with probes, as parts. Lemmas.
pub mod Tied
pub mod Walked
pub mod Cut
pub mod Runs
pub mod Worded
pub mod Told
pub mod Trace
pub mod Marked
pub mod Carried
pub mod Shaping
pub mod Closing
pub mod Ended
pub mod Placing
pub mod Pieced
pub mod Example
