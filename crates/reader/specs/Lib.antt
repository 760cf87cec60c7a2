pub mod Numbers
pub mod Bytes
pub mod Kinds
pub mod Said
