pub mod Busiest
