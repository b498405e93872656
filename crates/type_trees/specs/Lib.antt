pub mod Ty
