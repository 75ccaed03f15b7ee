pub mod Numbers
pub mod Results
