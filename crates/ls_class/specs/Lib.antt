pub mod Tables
pub mod Results
