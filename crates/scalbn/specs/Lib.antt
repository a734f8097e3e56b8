pub mod Scalbn
