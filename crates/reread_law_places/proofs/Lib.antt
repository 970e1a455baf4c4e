mod Natural
pub mod Still
